-- What a term holds: with terms put in for hypotheses, by its parts, and where there is no solution for it.
use Rattle.std.proofs.Common.{◌≡◌, ◌+◌, ◌∙◌, ℕ, Bool, true, false, ◌||◌, eqb, refl, sym, ap, ap₂, arith, List, [], ◌∷◌, Option, Some, None, inl, inr}
use Rattle.std.proofs.lemmas.Bool.{cases_lt}
use Rattle.lq_trees.specs.Tree.{Name, Tree, Trees, none, more, value_of}
use Rattle.lq_trees.specs.Tree.Tree.{Rel, Var, Sort, Prod, Lam, Let, App, Const, Ind, Ctor, Elim, Evar}
use Rattle.lq_trees.specs.Change.{lifted, lift, lift_each, standing, put}
use Rattle.lq_trees.specs.Marks.{holds_hypothesis, holds_unknown}
use Rattle.lq_trees.specs.Reading.{entries}
use Rattle.lq_trees.proofs.FillLaws.{lifted_below, lifted_above}
use Rattle.lq_solving.specs.Unification.{two, three}
use Rattle.lq_solving.proofs.LiftLaws.{put_each}
use Rattle.lq_solving.proofs.ValueLaws.{or_false}
use Rattle.lq_solving.proofs.FreeLaws.{both_false}
use Rattle.lq_unify.specs.Held.{holds_any, hold_any, one_holds, holds_itself, stands_marked, is_absent}
use Rattle.lq_unify.specs.Parts.{parts_of}
use Rattle.lq_unify.specs.Solutions.{is_barred, solution, solution_each}

pub or_nothing : (b : Bool) → (b || false) ≡ b
or_nothing true = refl
or_nothing false = refl

pub or_third : (a b c : Bool) → (a || b || c) ≡ (a || (b || c))
or_third true b c = refl
or_third false b c = refl

-- ---- terms put in

rel_holds : (k : ℕ) (m : Name → Bool) (a d i : ℕ) → holds_any k m (lifted a d i) ≡ false
unfolding holds_any
rel_holds k m a d i = elim (cases_lt i d) [ inl l ↦ ap (holds_any k m) (lifted_below a d i l) | inr l ↦ ap (holds_any k m) (lifted_above a d i l) ]

mutual
  unfolding holds_any

  pub lift_holds : (k : ℕ) (m : Name → Bool) (a d : ℕ) (t : Tree) → holds_any k m (lift a d t) ≡ holds_any k m t
  lift_holds k m a d (Rel i) = rel_holds k m a d i
  lift_holds k m a d (Var x) = refl
  lift_holds k m a d (Sort s) = refl
  lift_holds k m a d (Prod x A B) = ap₂ (λ b c. b || c) (lift_holds k m a d A) (lift_holds k m a (d + 1) B)
  lift_holds k m a d (Lam x A B) = ap₂ (λ b c. b || c) (lift_holds k m a d A) (lift_holds k m a (d + 1) B)
  lift_holds k m a d (Let x v A B) = ap₂ (λ b c. b || c) (ap₂ (λ b c. b || c) (lift_holds k m a d v) (lift_holds k m a d A)) (lift_holds k m a (d + 1) B)
  lift_holds k m a d (App f b) = ap₂ (λ b c. b || c) (lift_holds k m a d f) (lift_holds k m a d b)
  lift_holds k m a d (Const c) = refl
  lift_holds k m a d (Ind c) = refl
  lift_holds k m a d (Ctor c i) = refl
  lift_holds k m a d (Elim c s) = refl
  lift_holds k m a d (Evar n ts) = ap (λ b. eqb k n || b) (each_lift_holds k m a d ts)

  pub each_lift_holds : (k : ℕ) (m : Name → Bool) (a d : ℕ) (ts : Trees) → hold_any k m (lift_each a d ts) ≡ hold_any k m ts
  each_lift_holds k m a d none = refl
  each_lift_holds k m a d (more t ts) = ap₂ (λ b c. b || c) (lift_holds k m a d t) (each_lift_holds k m a d ts)

standing_holds : (k : ℕ) (m : Name → Bool) (d : ℕ) (x : Name) (o : Option Tree) → holds_any k m (standing o d x) ≡ stands_marked k m x o
unfolding holds_any stands_marked
standing_holds k m d x None = refl
standing_holds k m d x (Some v) = lift_holds k m d 0 v

-- what marks a hypothesis for which a term stands
abbrev pub marked_by : ℕ → (Name → Bool) → List (Name × Tree) → Name → Bool
marked_by k m ps x = stands_marked k m x (value_of ps x)

mutual
  unfolding holds_any

  pub put_holds : (k : ℕ) (m : Name → Bool) (ps : List (Name × Tree)) (d : ℕ) (t : Tree) → holds_any k m (put ps d t) ≡ holds_any k (marked_by k m ps) t
  put_holds k m ps d (Rel i) = refl
  put_holds k m ps d (Var x) = standing_holds k m d x (value_of ps x)
  put_holds k m ps d (Sort s) = refl
  put_holds k m ps d (Prod x A B) = ap₂ (λ b c. b || c) (put_holds k m ps d A) (put_holds k m ps (d + 1) B)
  put_holds k m ps d (Lam x A B) = ap₂ (λ b c. b || c) (put_holds k m ps d A) (put_holds k m ps (d + 1) B)
  put_holds k m ps d (Let x v A B) = ap₂ (λ b c. b || c) (ap₂ (λ b c. b || c) (put_holds k m ps d v) (put_holds k m ps d A)) (put_holds k m ps (d + 1) B)
  put_holds k m ps d (App f b) = ap₂ (λ b c. b || c) (put_holds k m ps d f) (put_holds k m ps d b)
  put_holds k m ps d (Const c) = refl
  put_holds k m ps d (Ind c) = refl
  put_holds k m ps d (Ctor c i) = refl
  put_holds k m ps d (Elim c s) = refl
  put_holds k m ps d (Evar n ts) = ap (λ b. eqb k n || b) (each_put_holds k m ps d ts)

  pub each_put_holds : (k : ℕ) (m : Name → Bool) (ps : List (Name × Tree)) (d : ℕ) (ts : Trees) → hold_any k m (put_each ps d ts) ≡ hold_any k (marked_by k m ps) ts
  each_put_holds k m ps d none = refl
  each_put_holds k m ps d (more t ts) = ap₂ (λ b c. b || c) (put_holds k m ps d t) (each_put_holds k m ps d ts)

-- ---- by parts

pub entries_hold : (k : ℕ) (m : Name → Bool) (ts : Trees) → hold_any k m ts ≡ one_holds k m (entries ts)
unfolding holds_any one_holds entries
entries_hold k m none = refl
entries_hold k m (more t ts) = ap (λ b. holds_any k m t || b) (entries_hold k m ts)

two_hold : (k : ℕ) (m : Name → Bool) (t u : Tree) → (holds_any k m t || holds_any k m u) ≡ one_holds k m (t ∷ u ∷ [])
unfolding one_holds
two_hold k m t u = ap (λ b. holds_any k m t || b) (sym (or_nothing (holds_any k m u)))

pub parts_hold : (k : ℕ) (m : Name → Bool) (t : Tree) → holds_any k m t ≡ (holds_itself k m t || one_holds k m (parts_of t))
unfolding holds_any holds_itself one_holds parts_of
parts_hold k m (Rel i) = refl
parts_hold k m (Var x) = sym (or_nothing (m x))
parts_hold k m (Sort s) = refl
parts_hold k m (Prod x A B) = two_hold k m A B
parts_hold k m (Lam x A B) = two_hold k m A B
parts_hold k m (Let x v A B) = or_third (holds_any k m v) (holds_any k m A) (holds_any k m B) ∙ ap (λ b. holds_any k m v || b) (two_hold k m A B)
parts_hold k m (App f b) = two_hold k m f b
parts_hold k m (Const c) = refl
parts_hold k m (Ind c) = refl
parts_hold k m (Ctor c i) = refl
parts_hold k m (Elim c s) = refl
parts_hold k m (Evar n ts) = ap (λ b. eqb k n || b) (entries_hold k m ts)

-- a term without hypotheses and variables holds none
mutual
  unfolding holds_any

  pub plain_holds : (k : ℕ) (m : Name → Bool) (t : Tree) → holds_hypothesis t ≡ false → holds_unknown t ≡ false → holds_any k m t ≡ false
  plain_holds k m (Rel i) h u = refl
  plain_holds k m (Var x) h u = absurd (grind arith)
  plain_holds k m (Sort s) h u = refl
  plain_holds k m (Prod x A B) h u = let p = or_false _ _ h in let q = or_false _ _ u in both_false _ _ (plain_holds k m A p.0 q.0) (plain_holds k m B p.1 q.1)
  plain_holds k m (Lam x A B) h u = let p = or_false _ _ h in let q = or_false _ _ u in both_false _ _ (plain_holds k m A p.0 q.0) (plain_holds k m B p.1 q.1)
  plain_holds k m (Let x v A B) h u =
      let p = or_false _ _ h in let q = or_false _ _ u in let r = or_false _ _ p.0 in let s = or_false _ _ q.0 in
      both_false _ _ (both_false _ _ (plain_holds k m v r.0 s.0) (plain_holds k m A r.1 s.1)) (plain_holds k m B p.1 q.1)
  plain_holds k m (App f b) h u = let p = or_false _ _ h in let q = or_false _ _ u in both_false _ _ (plain_holds k m f p.0 q.0) (plain_holds k m b p.1 q.1)
  plain_holds k m (Const c) h u = refl
  plain_holds k m (Ind c) h u = refl
  plain_holds k m (Ctor c i) h u = refl
  plain_holds k m (Elim c s) h u = refl
  plain_holds k m (Evar n ts) h u = absurd (grind arith)

-- ---- there is no solution exactly where the term holds what bars one

module _ (k : ℕ) (place : Name → Option Tree) where
  -- what has no place
  abbrev pub unplaced : Name → Bool
  unplaced x = is_absent (place x)

  none_two : {A B C : Type 0} (a : Option A) (b : Option B) (f : A → B → C) → is_absent (two a b f) ≡ (is_absent a || is_absent b)
  unfolding two is_absent
  none_two None b f = refl
  none_two (Some x) None f = refl
  none_two (Some x) (Some y) f = refl

  none_three : {A B C D : Type 0} (a : Option A) (b : Option B) (c : Option C) (f : A → B → C → D) → is_absent (three a b c f) ≡ (is_absent a || is_absent b || is_absent c)
  unfolding three is_absent
  none_three None b c f = refl
  none_three (Some x) b c f = none_two b c (f x)

  none_evar : (n : ℕ) (b : Bool) (o : Option Trees) → is_absent (elim b as (λ z. Option Tree) [ true ↦ None | false ↦ elim o [ None ↦ None | Some us ↦ Some (Evar n us) ] ]) ≡ (b || is_absent o)
  unfolding is_absent
  none_evar n true o = refl
  none_evar n false None = refl
  none_evar n false (Some us) = refl

  mutual
    unfolding solution holds_any is_absent is_barred

    pub solution_none : (t : Tree) → is_absent (solution (Some k) place t) ≡ holds_any k unplaced t
    solution_none (Rel i) = refl
    solution_none (Var x) = refl
    solution_none (Sort s) = refl
    solution_none (Prod x A B) = none_two (solution (Some k) place A) (solution (Some k) place B) (Prod x) ∙ ap₂ (λ b c. b || c) (solution_none A) (solution_none B)
    solution_none (Lam x A B) = none_two (solution (Some k) place A) (solution (Some k) place B) (Lam x) ∙ ap₂ (λ b c. b || c) (solution_none A) (solution_none B)
    solution_none (Let x v A B) =
        none_three (solution (Some k) place v) (solution (Some k) place A) (solution (Some k) place B) (Let x)
        ∙ ap₂ (λ b c. b || c) (ap₂ (λ b c. b || c) (solution_none v) (solution_none A)) (solution_none B)
    solution_none (App f b) = none_two (solution (Some k) place f) (solution (Some k) place b) App ∙ ap₂ (λ b c. b || c) (solution_none f) (solution_none b)
    solution_none (Const c) = refl
    solution_none (Ind c) = refl
    solution_none (Ctor c i) = refl
    solution_none (Elim c s) = refl
    solution_none (Evar n ts) = none_evar n (eqb k n) (solution_each (Some k) place ts) ∙ ap (λ b. eqb k n || b) (each_solution_none ts)

    pub each_solution_none : (ts : Trees) → is_absent (solution_each (Some k) place ts) ≡ hold_any k unplaced ts
    each_solution_none none = refl
    each_solution_none (more t ts) = none_two (solution (Some k) place t) (solution_each (Some k) place ts) more ∙ ap₂ (λ b c. b || c) (solution_none t) (each_solution_none ts)
