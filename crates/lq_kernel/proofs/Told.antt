-- What an environment tells of computation, where no variable has a value.
use Rattle.std.proofs.Common.{◌≡◌, ℕ, refl, subst, List, Option, None}
use Rattle.lq_trees.specs.Tree.{Tree, Context}
use Rattle.lq_trees.specs.Rules.{Rules}
use Rattle.lq_trees.specs.Reading.{Reads, ReadsContext, ReadsRules}
use Rattle.lq_terms.specs.declared.nodes.NameId.{NameId}
use Rattle.lq_terms.specs.declared.nodes.TermId.{TermId}
use Rattle.lq_terms.specs.declared.nodes.Hypothesis.{Hypothesis}
use Rattle.lq_terms.specs.Terms.{Terms, HasName, text_of, tree_of}
use Rattle.lq_terms.specs.Contexts.{context_of}
use Rattle.lq_terms.specs.Telling.{Tells, values_in}
use Rattle.lq_calculus.specs.Declarations.{Env as Environment, rules_of}
use Rattle.lq_env.specs.declared.environment.Declared.{Declared}
use Rattle.lq_env.specs.Environments.{IsOwn, env_of, telling}
use Rattle.lq_kernel.proofs.ReadingSame.{reads_same, context_reads_same, rules_read_same}

-- no name of the bank has the text of another
abbrev pub Apart : Terms → Type 0
Apart bank = (left right : NameId) → HasName bank left → HasName bank right → text_of bank left ≡ text_of bank right → left ≡ right

pub own : (bank : Terms) (x : NameId) → Apart bank → HasName bank x → IsOwn bank x
own bank x apart has = record { has = has; apart = λ y h e. apart y x h has e }

-- the environment tells the rules of the definition
pub env_tells : (bank : Terms) (ds : List (NameId × Declared)) (E : Environment) → Tells bank (telling ds) (rules_of (env_of bank ds)) → env_of bank ds ≡ E → Tells bank (telling ds) (rules_of E)
env_tells bank ds E h e = subst (λ z. Tells bank (telling ds) (rules_of z)) e h

-- no variable has a value
abbrev pub nothing : ℕ → Option (List Hypothesis × TermId)
nothing n = None

pub reads_it : (bank : Terms) (t : TermId) (T : Tree) → tree_of bank t ≡ T → Reads (values_in bank nothing) (tree_of bank t) T
reads_it bank t T e = subst (Reads (values_in bank nothing) (tree_of bank t)) e (reads_same (values_in bank nothing) (λ n. refl) (tree_of bank t))

pub reads_context : (bank : Terms) (hs : List Hypothesis) (G : Context) → context_of bank hs ≡ G → ReadsContext (values_in bank nothing) (context_of bank hs) G
reads_context bank hs G e = subst (ReadsContext (values_in bank nothing) (context_of bank hs)) e (context_reads_same (values_in bank nothing) (λ n. refl) (context_of bank hs))

pub reads_rules : (bank : Terms) (r : Rules) → ReadsRules (values_in bank nothing) r r
reads_rules bank r = rules_read_same (values_in bank nothing) (λ n. refl) r
