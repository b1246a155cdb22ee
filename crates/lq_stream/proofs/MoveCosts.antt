-- The moves of a step that paid no tick: fewer turns are left.
use Rattle.std.proofs.Common.{◌≡◌, ◌≤◌, ◌<◌, ◌+◌, ℕ, suc, List, [], ◌∷◌, ◌++◌, None, length, sym, ◌∙◌, ap, subst}
use Rattle.lq_runs.specs.Runs.{cut}
use Rattle.lq_runs.specs.Machines.{Does, Falls}
use Rattle.lq_runs.specs.Stacks as Stacks
use Rattle.lq_runs.specs.Streams.{runs, cost, work_cost, frames_cost, choices_cost, turns}
use Rattle.lq_runs.proofs.CostLaws.{turns_give, turns_fail, turns_bind, turns_branch, turns_once, turns_lower, turns_sole}
use Rattle.lq_stream.specs.Stepping.{Telling, Knowing, move_of}
use Rattle.lq_stream.specs.declared.moves.Move.{Move}
use Rattle.lq_stream.specs.declared.moves.Move.TheVariants.{Plus, Bind, Branch, Once, Sole, Lower}
use Rattle.lq_stream.specs.declared.stacks.Frame.TheVariants.{Then, Test, Only, Less, Alone}
use Rattle.lq_stream.specs.declared.stacks.Link.{Link}
use Rattle.lq_stream.specs.declared.stacks.Choice.{Choice}
use Rattle.lq_stream.specs.declared.stacks.Choice.TheVariants.{Otherwise, Lowering, NoSuccess}
use Rattle.lq_stream.specs.Reading.{stack_at, choices_of}
use Rattle.lq_stream.specs.Holding.{AreChoices}
use Rattle.lq_stream.proofs.MoveArms.{stack_is, old_is, choices_are, more_are}

module _ {A R V C K A2 R2 V2 C2 S M : Type 0} (k : Knowing A R V C K) (rank : A2 → ℕ) (rest_rank : R2 → ℕ) (t : Telling A R V C K A2 R2 V2 C2 S) (d : Does M C2 S V2 A2 R2) (s : S)
    (ls : List (Link R)) (xs : List (Choice A V C K)) (place : ℕ) (next : Move A R V C) (b : A2) where
  abbrev Before : Type 0
  Before = Falls rank rest_rank (rank b) (move_of t next)

  abbrev Within : ℕ → List (Stacks.Frame R2) → List (Stacks.Choice A2 R2 V2 C2 S) → Type 0
  Within n ks hs = n + frames_cost rest_rank ks + choices_cost rank rest_rank hs < turns rank rest_rank (runs b) (stack_at t.rest ls place) (choices_of t ls xs)

  as_move : (m : Move A R V C) → next ≡ m → Before → Falls rank rest_rank (rank b) (move_of t m)
  as_move m e q = subst (λ z. Falls rank rest_rank (rank b) (move_of t z)) e q

  at_stacks : (n : ℕ) (ks ks2 : List (Stacks.Frame R2)) (hs hs2 : List (Stacks.Choice A2 R2 V2 C2 S)) → ks2 ≡ ks → hs2 ≡ hs → Within n ks hs → Within n ks2 hs2
  at_stacks n ks ks2 hs hs2 e i q = subst (λ z. Within n z hs2) (sym e) (subst (λ z. Within n ks z) (sym i) q)

  pub falls_give : (v : V) → Within 1 (stack_at t.rest ls place) (choices_of t ls xs)
  unfolding work_cost
  falls_give v = turns_give rank rest_rank (stack_at t.rest ls place) (choices_of t ls xs) b (t.value v)

  pub falls_fail : (l : ℕ) (c : C) → Within 0 (stack_at t.rest ls place) (choices_of t ls xs)
  unfolding work_cost
  falls_fail l c = turns_fail rank rest_rank (stack_at t.rest ls place) (choices_of t ls xs) b l (t.cause c)

  pub falls_plus : {B : Type 0} (x y : A) → next ≡ Plus x y → Before → B
  falls_plus x y e q = absurd (as_move (Plus x y) e q)

  module _ (new : List (Link R)) (i : ℕ) (inside : place ≤ length ls) (known : AreChoices k (length ls) xs) where
    pub falls_bind : (a : A) (r : R) → next ≡ Bind a r → (new ≡ ls ++ record { frame = Then r; below = place } ∷ []) × (i ≡ suc (length ls)) → Before →
        Within (suc (cost (rank (t.code a)))) (stack_at t.rest new i) (choices_of t new xs)
    unfolding work_cost
    falls_bind a r e p q =
        let f : Falls rank rest_rank (rank b) (move_of t (Bind a r)) = as_move (Bind a r) e q in
        at_stacks (suc (cost (rank (t.code a)))) (Stacks.then (t.rest r) ∷ stack_at t.rest ls place) (stack_at t.rest new i) (choices_of t ls xs) (choices_of t new xs)
        (stack_is k rest_rank t d s ls xs place next (λ n. cut) (Then r) new i p inside known) (choices_are k rest_rank t d s ls xs place next (λ n. cut) (Then r) new i p inside known)
        (turns_bind rank rest_rank (stack_at t.rest ls place) (choices_of t ls xs) b (t.code a) (t.rest r) f.0 f.1)

    pub falls_once : (a : A) (h : ℕ) → next ≡ Once a → (new ≡ ls ++ record { frame = Only h; below = place } ∷ []) × (i ≡ suc (length ls)) → Before →
        Within (suc (cost (rank (t.code a)))) (stack_at t.rest new i) (choices_of t new xs)
    unfolding work_cost
    falls_once a h e p q =
        at_stacks (suc (cost (rank (t.code a)))) (Stacks.only h ∷ stack_at t.rest ls place) (stack_at t.rest new i) (choices_of t ls xs) (choices_of t new xs)
        (stack_is k rest_rank t d s ls xs place next (λ n. cut) (Only h) new i p inside known) (choices_are k rest_rank t d s ls xs place next (λ n. cut) (Only h) new i p inside known)
        (turns_once rank rest_rank (stack_at t.rest ls place) (choices_of t ls xs) b (t.code a) h (as_move (Once a) e q))

    pub falls_lower : (a : A) (h : ℕ) (ys : List (Choice A V C K)) → next ≡ Lower a → (new ≡ ls ++ record { frame = Less h; below = place } ∷ []) × (i ≡ suc (length ls)) →
        ys ≡ xs ++ Lowering ∷ [] → Before → Within (suc (cost (rank (t.code a)))) (stack_at t.rest new i) (choices_of t new ys)
    unfolding work_cost
    falls_lower a h ys e p y q =
        at_stacks (suc (cost (rank (t.code a)))) (Stacks.less h ∷ stack_at t.rest ls place) (stack_at t.rest new i) (Stacks.lowering ∷ choices_of t ls xs) (choices_of t new ys)
        (stack_is k rest_rank t d s ls xs place next (λ n. cut) (Less h) new i p inside known) (more_are k rest_rank t d s ls xs place next (λ n. cut) (Less h) new i p inside known ys Lowering y)
        (turns_lower rank rest_rank (stack_at t.rest ls place) (choices_of t ls xs) b (t.code a) h (as_move (Lower a) e q))

    pub falls_sole : (a : A) (c : C) (h : ℕ) (ys : List (Choice A V C K)) → next ≡ Sole a c → (new ≡ ls ++ record { frame = Alone h; below = place } ∷ []) × (i ≡ suc (length ls)) →
        ys ≡ xs ++ NoSuccess c place ∷ [] → Before → Within (suc (cost (rank (t.code a)))) (stack_at t.rest new i) (choices_of t new ys)
    unfolding work_cost
    falls_sole a c h ys e p y q =
        at_stacks (suc (cost (rank (t.code a)))) (Stacks.alone h ∷ stack_at t.rest ls place) (stack_at t.rest new i) (Stacks.sole_one (t.cause c) None (stack_at t.rest ls place) ∷ choices_of t ls xs) (choices_of t new ys)
        (stack_is k rest_rank t d s ls xs place next (λ n. cut) (Alone h) new i p inside known)
        (more_are k rest_rank t d s ls xs place next (λ n. cut) (Alone h) new i p inside known ys (NoSuccess c place) y
        ∙ ap (λ z. Stacks.sole_one (t.cause c) None z ∷ choices_of t ls xs) (old_is k rest_rank t d s ls xs place next (λ n. cut) (Alone h) new i p inside known))
        (turns_sole rank rest_rank (stack_at t.rest ls place) (choices_of t ls xs) b (t.code a) (t.cause c) h (as_move (Sole a c) e q))

    pub falls_branch : (a o : A) (r : R) (h : ℕ) (m : K) (ys : List (Choice A V C K)) → next ≡ Branch a r o → (new ≡ ls ++ record { frame = Test r h; below = place } ∷ []) × (i ≡ suc (length ls)) →
        ys ≡ xs ++ Otherwise o m place ∷ [] → Before → Within (suc (cost (rank (t.code a)))) (stack_at t.rest new i) (choices_of t new ys)
    unfolding work_cost
    falls_branch a o r h m ys e p y q =
        let f : Falls rank rest_rank (rank b) (move_of t (Branch a r o)) = as_move (Branch a r o) e q in
        at_stacks (suc (cost (rank (t.code a)))) (Stacks.test (t.rest r) h ∷ stack_at t.rest ls place) (stack_at t.rest new i)
        (Stacks.otherwise (t.code o) (t.marked m) (stack_at t.rest ls place) ∷ choices_of t ls xs) (choices_of t new ys)
        (stack_is k rest_rank t d s ls xs place next (λ n. cut) (Test r h) new i p inside known)
        (more_are k rest_rank t d s ls xs place next (λ n. cut) (Test r h) new i p inside known ys (Otherwise o m place) y
        ∙ ap (λ z. Stacks.otherwise (t.code o) (t.marked m) z ∷ choices_of t ls xs) (old_is k rest_rank t d s ls xs place next (λ n. cut) (Test r h) new i p inside known))
        (turns_branch rank rest_rank (stack_at t.rest ls place) (choices_of t ls xs) b (t.code a) (t.code o) (t.rest r) (t.marked m) h f.0 f.1 f.2)
