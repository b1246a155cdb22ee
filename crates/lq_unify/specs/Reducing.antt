-- The weak head forms of two terms, as they read, and whether either changed.
use Rattle.std.specs.Prelude.{◌≡◌, ◌≤◌, ◌<◌, ℕ, Bool, true, false, ◌&&◌, Option, Some, None, Result, Ok, Err}
use Rattle.lq_trees.specs.Tree.{Tree, Context}
use Rattle.lq_trees.specs.Ticks.{gives, ◌>>=◌, done, failed, steps_out, ComesTo}
use Rattle.lq_trees.specs.Rules.{Rules}
use Rattle.lq_calculus.specs.Contraction.{whnf}
use Rattle.lq_terms.specs.declared.nodes.TermId.{TermId}
use Rattle.lq_terms.specs.Terms.{Terms, tree_of}
use Rattle.lq_solving.specs.Unification.{Unify, is_reduced, unify_fitting, unify_too_large, unify_too_deep}
use Rattle.lq_unify.specs.declared.faults.UnifyFault.{UnifyFault}

-- a weak head form, within the limits
unfoldable pub one_form : Rules → Context → Tree → ℕ → Unify Tree
one_form r g t n = whnf r g n t >>= unify_fitting

-- the work comes to a form, and no tick was paid exactly where the term did not change
pub record FormComes (r : Rules) (g : Context) (t form : Tree) (budget left : ℕ) : Type 0 where
  pub comes : ComesTo (one_form r g t) budget (done form left)
  pub same : left ≡ budget → is_reduced r g t ≡ true
  pub changed : left < budget → is_reduced r g t ≡ false
  pub fewer : left ≤ budget

-- both weak head forms, each within the limits, the left one first
unfoldable pub both_forms : Rules → Context → Tree → Tree → ℕ → Unify (Tree × Tree)
both_forms r g t u n = one_form r g t n >>= λ t1. one_form r g u n >>= λ u1. gives (t1, u1)

-- whether neither changes
abbrev pub are_reduced : Rules → Context → Tree → Tree → Bool
are_reduced r g t u = is_reduced r g t && is_reduced r g u

-- the work is paid, and neither changed
pub record Unchanged (r : Rules) (g : Context) (t u : Tree) (budget left : ℕ) : Type 0 where
  pub forms : Tree × Tree
  pub comes : ComesTo (both_forms r g t u) budget (done forms left)
  pub same : are_reduced r g t u ≡ true

-- the work comes to these two, and one changed
pub record Changed (r : Rules) (g : Context) (t u : Tree) (bank : Terms) (pair : TermId × TermId) (budget left : ℕ) : Type 0 where
  pub comes : ComesTo (both_forms r g t u) budget (done (tree_of bank pair.0, tree_of bank pair.1) left)
  pub changed : are_reduced r g t u ≡ false

-- The forms of two terms that are as read, if one changed, or why there are none. Memory may end at any time.
abbrev pub Forms : Rules → Context → Tree → Tree → Terms → Result (Option (TermId × TermId)) UnifyFault → (budget left : ℕ) → Type 0
Forms r g t u bank (Ok (Some p)) budget left = Changed r g t u bank p budget left
Forms r g t u bank (Ok None) budget left = Unchanged r g t u budget left
Forms r g t u bank (Err UnifyFault.StepsOut) budget left = ComesTo (both_forms r g t u) budget steps_out × (left ≡ 0)
Forms r g t u bank (Err UnifyFault.TooLarge) budget left = ComesTo (both_forms r g t u) budget (failed unify_too_large left)
Forms r g t u bank (Err UnifyFault.TooDeep) budget left = ComesTo (both_forms r g t u) budget (failed unify_too_deep left)
Forms r g t u bank (Err UnifyFault.NoMemory) budget left = Unit {0}

-- The weak head form of a term that is as read, within the limits, and whether it changed, or why there is none. Memory may end at any time.
abbrev pub Formed : Rules → Context → Tree → Terms → Result TermId UnifyFault → (budget left : ℕ) → Type 0
Formed r g t bank (Ok u) budget left = FormComes r g t (tree_of bank u) budget left
Formed r g t bank (Err UnifyFault.StepsOut) budget left = ComesTo (one_form r g t) budget steps_out × (left ≡ 0)
Formed r g t bank (Err UnifyFault.TooLarge) budget left = ComesTo (one_form r g t) budget (failed unify_too_large left)
Formed r g t bank (Err UnifyFault.TooDeep) budget left = ComesTo (one_form r g t) budget (failed unify_too_deep left)
Formed r g t bank (Err UnifyFault.NoMemory) budget left = Unit {0}
