-- All work that expressions call for is settled, so what is proved of worlds whose work is settled holds in each world.
use Rattle.std.proofs.Common.{◌<◌, ℕ, suc, Bool, None}
use Rattle.lq_trees.specs.Ticks.{◌>>=◌}
use Rattle.lq_calculus.specs.Contraction.{contract}
use Rattle.lq_calculus.specs.Declarations.{rules_of}
use Rattle.lq_calculus.proofs.Settled.{head_agree, normal_agree}
use Rattle.lq_ast.specs.Tactics.{Tac}
use Rattle.lq_solving.proofs.ElabSettled.{elaborate_settled}
use Rattle.lq_states.specs.Hands.{State}
use Rattle.lq_tactics.specs.Applying.{constructor_count}
use Rattle.lq_tactics.proofs.RowsSettled.{scene_agree, count_agree}
use Rattle.lq_tactics.proofs.PrimsSettled.{prim_settled}
use Rattle.lq_tactics.proofs.RulesSettled.{rule_settled}
use Rattle.lq_runs.specs.Machines.{IsLawful, tree}
use Rattle.lq_runs.proofs.PartLaws.{Alike}
use Rattle.lq_runs.proofs.TreeLaws.{Near}
use Rattle.lq_meaning.specs.Values.{Locals}
use Rattle.lq_meaning.specs.Works.{World}
use Rattle.lq_meaning.specs.Meaning.{evaluation}
use Rattle.lq_meaning.specs.Codes.{Code, rank, rest_rank}
use Rattle.lq_meaning.specs.Steps.{ltac_does}
use Rattle.lq_meaning.proofs.Coherence.{IsSettled, coherent}
use Rattle.lq_meaning.proofs.CodeMeaning.{means}
use Rattle.lq_meaning.proofs.Steady.{lawful, tree_means}

pub all_settled : (w : World) → IsSettled w
all_settled w =
    record {
      prims = λ p k q vs. prim_settled w.env p k q vs;
      rules = λ p k r vs. rule_settled w.env p k r vs;
      elaborations = λ vs g s t. elaborate_settled (record { env = w.env; bound = 0; values = vs; outer = g }) s t None;
      heads = λ g t b n m i j. head_agree (contract (rules_of w.env) g) n m b i j t;
      normals = λ g t b n m i j. normal_agree (contract (rules_of w.env) g) n m b i j t;
      counts = λ vs s k b n m i j. scene_agree n m b i j w.env vs s k constructor_count constructor_count (λ c. count_agree n m b i j c);
    }

-- bounds above a budget give one meaning under it
pub meaning_coherent : (w : World) (b n m : ℕ) → b < n → b < m → (v : Bool) (e : Tac) (l : Locals) (st : State) →
    Alike b (evaluation w n v e l st) (evaluation w m v e l st)
meaning_coherent w = coherent w (all_settled w)

-- the Ltac machine keeps the laws of machines
pub machine_lawful : (w : World) → IsLawful (ltac_does w) rank rest_rank
machine_lawful w = lawful w (all_settled w)

-- its tree under a budget is the meaning under that budget
pub tree_is_meaning : (w : World) (b : ℕ) (c : Code) (st : State) → Near b (λ n. tree (ltac_does w) n c st) (means w (suc b) c st)
tree_is_meaning w = tree_means w (all_settled w)
