-- Where each variable has a value, what is read holds none.
use Rattle.std.proofs.Common.{◌≡◌, ◌≤◌, ◌<◌, ◌+◌, ◌-◌, ◌∙◌, ℕ, zero, suc, refl, ap, arith, Bool, true, false, List, [], length, Some, None, subst, inl, inr}
use Rattle.std.specs.Prelude.{not}
use Rattle.std.proofs.lemmas.Bool.{cases_lt}
use Rattle.std.proofs.lemmas.Option.{slice_get_cases}
use Rattle.lq_trees.specs.Tree.{Name, Tree}
use Rattle.lq_trees.specs.Tree.Tree.{Rel, Var, Sort, Prod, Lam, Let, App, Const, Ind, Ctor, Elim, Evar}
use Rattle.lq_trees.specs.Ticks.{gives, fails}
use Rattle.lq_solving.specs.Stores.{Variable, Assigned, Store, no_variables, read, fill_values, read_values, find_value, value, has_value, is_open}
use Rattle.lq_solving.specs.Kept.{IsOver, IsStore, Stands}
use Rattle.lq_solving.specs.Elaboration.{numbers, made_between}
use Rattle.lq_solving.proofs.DoneLaws.{IsDone, filled_done}
use Rattle.lq_solving.proofs.ReadLaws.{filled_over, filled_within}
use Rattle.lq_texts.specs.Causes.{unresolved}
use Rattle.lq_sessions.specs.Sessions.{Work, open_among}
use Rattle.lq_sessions.specs.Declaring.{solved_work}

-- each variable has a value
abbrev pub AreGiven : List Variable → List Assigned → Type 0
AreGiven vs as_ = (k : ℕ) → k < length vs → find_value as_ k ≡ None → ⊥

-- ---- a term over variables that have values, and as it is read, holds none

module _ (vs : List Variable) (as_ : List Assigned) (given : AreGiven vs as_) where
  mutual
    pub over_none : (t : Tree) → IsOver vs t → IsDone as_ t → IsOver [] t
    over_none (Rel i) h d = tt
    over_none (Var x) h d = tt
    over_none (Sort u) h d = tt
    over_none (Prod x A B) h d = (over_none A h.0 d.0, over_none B h.1 d.1)
    over_none (Lam x A t) h d = (over_none A h.0 d.0, over_none t h.1 d.1)
    over_none (Let x v A t) h d = (over_none v h.0 d.0, over_none A h.1 d.1, over_none t h.2 d.2)
    over_none (App f a) h d = (over_none f h.0 d.0, over_none a h.1 d.1)
    over_none (Const c) h d = tt
    over_none (Ind c) h d = tt
    over_none (Ctor c k) h d = tt
    over_none (Elim c u) h d = tt
    over_none (Evar n ts) h d = absurd (given n h.0 d.0)

-- ---- work that finds all of them solved

by_count : ℕ → Work (Unit {0})
by_count m = elim m [ zero ↦ gives tt | suc n ↦ fails (unresolved (suc n)) ]

none_open : (m : ℕ) → by_count m ≡ gives tt → m ≡ 0
unfolding by_count
none_open zero e = refl
none_open (suc n) e = absurd (grind (arith, e))

closed_of : (s : Store) (k n : ℕ) → open_among s (numbers k n) ≡ 0 → (j : ℕ) → k ≤ j → j < k + n → is_open s j ≡ false
unfolding open_among numbers
closed_of s k zero e j l h = absurd (omega (arith, l, h))
closed_of s k (suc n) e j l h = at (is_open s k) refl e (λ q m. closed_of s (suc k) n q j m (omega (arith, h)))
  where
    at : (b : Bool) → is_open s k ≡ b → elim b as (λ z. ℕ) [ true ↦ suc (open_among s (numbers (suc k) n)) | false ↦ open_among s (numbers (suc k) n) ] ≡ 0 →
        (open_among s (numbers (suc k) n) ≡ 0 → suc k ≤ j → is_open s j ≡ false) → is_open s j ≡ false
    at true p q rest = absurd (grind (arith, q))
    at false p q rest = elim (cases_lt k j) [ inl m ↦ rest q m | inr m ↦ subst (λ z. is_open s z ≡ false) (same m) p ]
      where
        same : j ≤ k → k ≡ j
        same m = omega (arith, l, m)

open_at : (s : Store) (k : ℕ) → k < length s.variables → find_value s.values k ≡ None → is_open s k ≡ true
unfolding is_open has_value value
open_at s k l e = elim (slice_get_cases s.variables k).1 [
  | inl f ↦ ap (λ o. elim o [ None ↦ false | Some v ↦ not (has_value s k) ]) f.2 ∙ ap (λ o. not (elim o [ Some b ↦ true | None ↦ false ])) e
  | inr p ↦ absurd (omega (arith, l, p.0))
]

true_false : (b : Bool) → b ≡ true → b ≡ false → ⊥
true_false b e f = grind (arith, e, f)

pub all_given : (s : Store) → solved_work s ≡ gives tt → AreGiven s.variables s.values
unfolding solved_work made_between by_count
all_given s e k l n = true_false (is_open s k) (open_at s k l n) (closed_of s 0 (length s.variables - 0) (none_open (open_among s (numbers 0 (length s.variables - 0))) e) k (omega arith) (omega (arith, l)))

-- ---- as it is read

pub read_over : (s : Store) → IsStore s → solved_work s ≡ gives tt → (t : Tree) → IsOver s.variables t → IsOver [] (read s t)
unfolding read
read_over s i e t h =
    over_none s.variables s.values (all_given s e) (read s t) (filled_over s.variables s.values i.values t h) (filled_done s.variables s.values i.values t)

pub read_stands : (s : Store) → IsStore s → solved_work s ≡ gives tt → (xs : List Name) (t : Tree) → Stands s xs t → Stands no_variables xs (read s t)
unfolding read fill_values read_values
read_stands s i e xs t h = record { over = read_over s i e t h.over; within = filled_within s.variables s.values i.values 0 t h.within; holds = h.holds }
