-- A value takes as many steps as its variable says.
use Rattle.std.proofs.Common.{◌≡◌, ◌≤◌, ◌+◌, ◌∙◌, ℕ, Bool, true, false, ◌||◌, ◌&&◌, eqb, eqb-true, refl, sym, ap, arith, List, [], ◌∷◌, Some, None, if◌then◌else◌}
use Rattle.std.proofs.Common.{subst as along}
use Rattle.lq_trees.specs.Tree.{Tree, Trees, none, more}
use Rattle.lq_trees.specs.Tree.Tree.{Rel, Var, Sort, Prod, Lam, Let, App, Const, Ind, Ctor, Elim, Evar}
use Rattle.lq_solving.specs.Occurs.{holds_variable, holds_variable_in}
use Rattle.lq_solving.specs.Stores.{Variable, Assigned, find_value}
use Rattle.lq_solving.specs.Kept.{leads, Sound}
use Rattle.lq_solving.proofs.ValueLaws.{or_false}
use Rattle.lq_solving.proofs.DoneLaws.{evar_other}
use Rattle.lq_evars.specs.Costs.{steps, steps_each, with_steps, steps_of}

-- steps that differ at variable k alone
abbrev pub Agree : ℕ → (ℕ → ℕ → ℕ) → (ℕ → ℕ → ℕ) → Type 0
Agree k v w = (n : ℕ) → eqb k n ≡ false → (m : ℕ) → v n m ≡ w n m

mutual
  unfolding holds_variable holds_variable_in

  pub steps_other : (k : ℕ) (v w : ℕ → ℕ → ℕ) → Agree k v w → (m : ℕ) (t : Tree) → holds_variable k t ≡ false → steps v m t ≡ steps w m t
  steps_other k v w g m (Rel i) e = refl
  steps_other k v w g m (Var x) e = refl
  steps_other k v w g m (Sort s) e = refl
  steps_other k v w g m (Prod x A B) e = let q = or_false (holds_variable k A) (holds_variable k B) e in omega (arith, steps_other k v w g m A q.0, steps_other k v w g m B q.1)
  steps_other k v w g m (Lam x A t) e = let q = or_false (holds_variable k A) (holds_variable k t) e in omega (arith, steps_other k v w g m A q.0, steps_other k v w g m t q.1)
  steps_other k v w g m (Let x b A t) e =
      let r = or_false (holds_variable k b || holds_variable k A) (holds_variable k t) e in
      let q = or_false (holds_variable k b) (holds_variable k A) r.0 in
      omega (arith, steps_other k v w g m b q.0, steps_other k v w g m A q.1, steps_other k v w g m t r.1)
  steps_other k v w g m (App f a) e = let q = or_false (holds_variable k f) (holds_variable k a) e in omega (arith, steps_other k v w g m f q.0, steps_other k v w g m a q.1)
  steps_other k v w g m (Const c) e = refl
  steps_other k v w g m (Ind c) e = refl
  steps_other k v w g m (Ctor c i) e = refl
  steps_other k v w g m (Elim c s) e = refl
  steps_other k v w g m (Evar n ts) e =
      let q = or_false (eqb k n) (holds_variable_in k ts) e in
      ap (λ z. 1 + z) (ap (v n) (each_steps_other k v w g m ts q.1) ∙ g n q.0 (steps_each w m ts))

  pub each_steps_other : (k : ℕ) (v w : ℕ → ℕ → ℕ) → Agree k v w → (m : ℕ) (ts : Trees) → holds_variable_in k ts ≡ false → steps_each v m ts ≡ steps_each w m ts
  each_steps_other k v w g m none e = refl
  each_steps_other k v w g m (more t ts) e =
      let q = or_false (holds_variable k t) (holds_variable_in k ts) e in omega (arith, steps_other k v w g m t q.0, each_steps_other k v w g m ts q.1)

if_false : (b : Bool) (m n : ℕ) → b ≡ false → (if b then m else n) ≡ n
if_false true m n e = absurd (grind arith)
if_false false m n e = refl

if_true : (b : Bool) (m n : ℕ) → b ≡ true → (if b then m else n) ≡ m
if_true true m n e = refl
if_true false m n e = absurd (grind arith)

agree_with : (w : ℕ → ℕ → ℕ) (k : ℕ) (f : ℕ → ℕ) → Agree k (with_steps w k f) w
agree_with w k f n e m = if_false (eqb k n) (f m) (w n m) e

agree_both : (k : ℕ) (v w : ℕ → ℕ → ℕ) → Agree k v w → (j : ℕ) (f h : ℕ → ℕ) → ((m : ℕ) → f m ≡ h m) → Agree k (with_steps v j f) (with_steps w j h)
agree_both k v w g j f h e n q m = by (eqb j n)
  where
    by : (b : Bool) → (if b then f m else v n m) ≡ (if b then h m else w n m)
    by true = e m
    by false = g n q m

-- a variable to which nothing leads makes no difference
pub leads_steps : (as_ : List Assigned) (k : ℕ) (v w : ℕ → ℕ → ℕ) → Agree k v w → (m : ℕ) (t : Tree) → leads as_ k t ≡ false → steps (steps_of v as_) m t ≡ steps (steps_of w as_) m t
unfolding leads
leads_steps [] k v w g m t e = steps_other k (steps_of v []) (steps_of w []) (λ n f i. g n f i) m t e
leads_steps (c ∷ older) k v w g m t e =
    let q = or_false (leads older k t) (leads older c.id t && leads older k c.body) e in
    by (leads older c.id t) refl q.1 q.0 (λ i x y h n u f. leads_steps older i x y h n u f)
  where
    by : (o : Bool) → leads older c.id t ≡ o → (o && leads older k c.body) ≡ false → leads older k t ≡ false →
        ((i : ℕ) (x y : ℕ → ℕ → ℕ) → Agree i x y → (n : ℕ) (u : Tree) → leads older i u ≡ false → steps (steps_of x older) n u ≡ steps (steps_of y older) n u) →
        steps (steps_of v (c ∷ older)) m t ≡ steps (steps_of w (c ∷ older)) m t
    by true f h l ih =
        ih k (with_steps v c.id (λ n. steps (steps_of v older) n c.body)) (with_steps w c.id (λ n. steps (steps_of w older) n c.body))
        (agree_both k v w g c.id (λ n. steps (steps_of v older) n c.body) (λ n. steps (steps_of w older) n c.body) (λ n. ih k v w g n c.body h)) m t l
    by false f h l ih =
        ih c.id (with_steps v c.id (λ n. steps (steps_of v older) n c.body)) v (agree_with v c.id (λ n. steps (steps_of v older) n c.body)) m t f
        ∙ ih k v w g m t l
        ∙ sym (ih c.id (with_steps w c.id (λ n. steps (steps_of w older) n c.body)) w (agree_with w c.id (λ n. steps (steps_of w older) n c.body)) m t f)

-- a variable without a value takes what it takes
pub open_steps : (as_ : List Assigned) (w : ℕ → ℕ → ℕ) (n m : ℕ) → find_value as_ n ≡ None → steps_of w as_ n m ≡ w n m
open_steps [] w n m e = refl
open_steps (a ∷ older) w n m e =
    let q = evar_other a older n e in
    open_steps older (with_steps w a.id (λ i. steps (steps_of w older) i a.body)) n m q.1 ∙ if_false (eqb a.id n) _ (w n m) q.0

pub given_steps : (vs : List Variable) (as_ : List Assigned) → Sound vs as_ → (w : ℕ → ℕ → ℕ) (n m : ℕ) (b : Tree) → find_value as_ n ≡ Some b → steps (steps_of w as_) m b ≡ steps_of w as_ n m
unfolding find_value
given_steps vs [] s w n m b e = absurd (grind arith)
given_steps vs (a ∷ older) s w n m b e = by (eqb a.id n) refl e (λ f. given_steps vs older s.0 (with_steps w a.id (λ i. steps (steps_of w older) i a.body)) n m b f)
  where
    newest : a.id ≡ n → a.body ≡ b → steps (steps_of w (a ∷ older)) m b ≡ steps_of w (a ∷ older) n m
    newest p q =
        let f : ℕ → ℕ = λ i. steps (steps_of w older) i a.body in
        let same : steps (steps_of (with_steps w a.id f) older) m a.body ≡ f m = leads_steps older a.id (with_steps w a.id f) w (agree_with w a.id f) m a.body s.1.free in
        let found : steps_of (with_steps w a.id f) older a.id m ≡ f m = open_steps older (with_steps w a.id f) a.id m s.1.new ∙ if_true (eqb a.id a.id) (f m) (w a.id m) (grind arith) in
        along (λ u. steps (steps_of w (a ∷ older)) m u ≡ steps_of w (a ∷ older) n m) q
        (along (λ i. steps (steps_of w (a ∷ older)) m a.body ≡ steps_of w (a ∷ older) i m) p (same ∙ sym found))

    by : (o : Bool) → eqb a.id n ≡ o → elim o [ true ↦ Some a.body | false ↦ find_value older n ] ≡ Some b →
        (find_value older n ≡ Some b → steps (steps_of (with_steps w a.id (λ i. steps (steps_of w older) i a.body)) older) m b ≡ steps_of (with_steps w a.id (λ i. steps (steps_of w older) i a.body)) older n m) →
        steps (steps_of w (a ∷ older)) m b ≡ steps_of w (a ∷ older) n m
    by true p f ih = newest (eqb-true a.id n p) (ap (λ o. elim o [ Some u ↦ u | None ↦ a.body ]) f)
    by false p f ih = ih f

-- each term takes a step
pub some_steps : (w : ℕ → ℕ → ℕ) (m : ℕ) (t : Tree) → 1 ≤ steps w m t
some_steps w m (Rel i) = omega arith
some_steps w m (Var x) = omega arith
some_steps w m (Sort q) = omega arith
some_steps w m (Prod x A B) = omega arith
some_steps w m (Lam x A B) = omega arith
some_steps w m (Let x v A B) = omega arith
some_steps w m (App f a) = omega arith
some_steps w m (Const c) = omega arith
some_steps w m (Ind c) = omega arith
some_steps w m (Ctor c k) = omega arith
some_steps w m (Elim c q) = omega arith
some_steps w m (Evar n ts) = omega arith
