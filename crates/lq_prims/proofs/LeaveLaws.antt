-- The goals that a row leaves.
use Rattle.std.proofs.Common.{◌≡◌, refl, sym, ap, ℕ, List, [], ◌∷◌, Result, Ok, Err, Vec, Global}
use Rattle.std.specs.Prelude.{IfOk, OnOk}
use Rattle.std.proofs.Common.{subst as along}
use Rattle.lq_trees.specs.Ticks.{gives, ◌>>=◌}
use Rattle.lq_calculus.proofs.ConvSound.{Gives}
use Rattle.lq_solving.specs.Stores.{Store}
use Rattle.lq_states.specs.Goals.{has, without}
use Rattle.lq_tactics.specs.Rows.{Scene, Done, given_to, ended}
use Rattle.lq_tactics.proofs.RowsKept.{IsScene, IsReached, IsStep, ended_kept}
use Rattle.lq_prims.specs.Leaving.{Leaves}
use Rattle.lq_terms.specs.Terms.{Terms}
use Rattle.lq_evars.specs.Places.{Places, store_of}
use Rattle.lq_prims.specs.declared.faults.PrimFault.{PrimFault}
use Rattle.lq_prims.specs.Scenes.{step_by}
use Rattle.lq_prims.specs.Working.{Tells}

-- a step looks at the scene's store and goal alone
pub step_leaves : (c : Scene) (s1 : Store) (ks : List ℕ) → IsStep c (step_by s1 ks) → Leaves c.store c.goal s1 ks
step_leaves c s1 ks h E g T vs n = record { grown = h.grown; once = h.once; inside = h.inside; valueless = h.valueless; new = h.new }

-- a row that gives the goal the body that it reached
pub given_leaves : (c : Scene) (d : Done) (s1 : Store) (ks : List ℕ) → IsScene c → IsReached c d → given_to c.goal d ≡ gives (step_by s1 ks) → Leaves c.store c.goal s1 ks
unfolding ended ◌>>=◌
given_leaves c d s1 ks s r e = step_leaves c s1 ks (ended_kept c (gives d) (step_by s1 ks) s (λ d2 z. along (IsReached c) z r) (along (λ w. Gives w (step_by s1 ks)) (sym e) refl))

-- nothing is taken out of a list
pub without_none : (ks : List ℕ) → without [] ks ≡ ks
unfolding without has
without_none [] = refl
without_none (k ∷ ks) = ap (λ js. k ∷ js) (without_none ks)

pub if_ok : {A E : Type 0} {P Q : A → Type 0} (r : Result A E) → ((a : A) → P a → Q a) → IfOk r P → IfOk r Q
if_ok (Ok a) h p = h a p
if_ok (Err e) h p = tt

-- the goal gets its body, or the row is refused
pub give_leaves : (c : Scene) (d : Done) (bank : Terms) (p : Places) (ks : List ℕ) (r : Result (Unit {0}) PrimFault) → IsScene c → IsReached c d → Tells bank (λ u. step_by (store_of bank p) ks) r (given_to c.goal d) →
    OnOk r (Leaves c.store c.goal (store_of bank p) ks)
give_leaves c d bank p ks (Ok u) s h t = given_leaves c d (store_of bank p) ks s h t
give_leaves c d bank p ks (Err e) s h t = tt

pub leaves_given : (c : Scene) (d : Done) (bank : Terms) (p : Places) (r : Result (Vec ℕ Global) PrimFault) → IsScene c → IsReached c d → Tells bank (λ v. step_by (store_of bank p) v.items) r (given_to c.goal d) →
    IfOk r (λ v. Leaves c.store c.goal (store_of bank p) v.items)
leaves_given c d bank p (Ok v) s h t = given_leaves c d (store_of bank p) v.items s h t
leaves_given c d bank p (Err e) s h t = tt
