-- A family that is being declared, while its constructors are elaborated.
use Rattle.std.proofs.Common.{◌≡◌, [], ◌∷◌, ◌++◌}
use Rattle.lq_trees.specs.Tree.{Name, Tree}
use Rattle.lq_trees.specs.Ticks.{gives}
use Rattle.lq_calculus.specs.Declarations.{Env, arity}
use Rattle.lq_solving.specs.Claims.{IsPlain, ArePlainDeclarations}
use Rattle.lq_solving.specs.Kept.{IsStore, Stands}
use Rattle.lq_solving.specs.Stores.{Store, read, fill_values, read_values}
use Rattle.lq_elab.proofs.PlainDeclarations.{declarations_joined}
use Rattle.lq_sessions.specs.Declaring.{solved_work}
use Rattle.lq_elaborated.proofs.SolvedLaws.{read_stands}

-- a term that stands among no hypotheses, where each variable has a value, is plain as it reads
pub read_plain : (s : Store) → IsStore s → solved_work s ≡ gives tt → (t : Tree) → Stands s [] t → IsPlain 0 (read s t)
unfolding read fill_values read_values
read_plain s i e t h = let k = read_stands s i e [] t h in record { over = k.over; within = k.within; holds = k.holds }

-- one family more that is being declared, by such a term
pub arity_more : (env : Env) (x : Name) (s : Store) (t : Tree) → ArePlainDeclarations env → IsStore s → solved_work s ≡ gives tt → Stands s [] t → ArePlainDeclarations (env ++ (x, arity (read s t)) ∷ [])
arity_more env x s t p i e h = declarations_joined env ((x, arity (read s t)) ∷ []) p (read_plain s i e t h, tt)
