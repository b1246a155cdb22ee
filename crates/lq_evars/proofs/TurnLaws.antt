-- A part takes fewer turns than the whole, and a value fewer than its variable.
use Rattle.std.proofs.Common.{◌≡◌, ◌≤◌, ◌<◌, ◌+◌, ◌∙◌, ℕ, Bool, true, false, ◌||◌, ◌&&◌, eqb, eqb-true, refl, sym, ap, arith, List, [], ◌∷◌, Option, Some, None, if◌then◌else◌}
use Rattle.std.proofs.Common.{subst as along}
use Rattle.lq_trees.specs.Tree.{Tree, Trees, none, more}
use Rattle.lq_trees.specs.Tree.Tree.{Rel, Var, Sort, Prod, Lam, Let, App, Const, Ind, Ctor, Elim, Evar}
use Rattle.lq_trees.specs.Reading.{entries}
use Rattle.lq_solving.specs.Occurs.{holds_variable, holds_variable_in}
use Rattle.lq_solving.specs.Stores.{Variable, Assigned, find_value}
use Rattle.lq_solving.specs.Kept.{leads, Sound}
use Rattle.lq_solving.proofs.ValueLaws.{or_false}
use Rattle.lq_solving.proofs.DoneLaws.{evar_other}
use Rattle.lq_evars.specs.Turns.{turns, turns_each, with_turns, turns_of, rank, ranks, with_value, parts_of}

-- numbers that differ at variable k alone
abbrev pub Agree : ℕ → (ℕ → ℕ) → (ℕ → ℕ) → Type 0
Agree k v w = (n : ℕ) → eqb k n ≡ false → v n ≡ w n

mutual
  unfolding holds_variable holds_variable_in

  pub turns_other : (k : ℕ) (v w : ℕ → ℕ) → Agree k v w → (t : Tree) → holds_variable k t ≡ false → turns v t ≡ turns w t
  turns_other k v w g (Rel i) e = refl
  turns_other k v w g (Var x) e = refl
  turns_other k v w g (Sort s) e = refl
  turns_other k v w g (Prod x A B) e = let q = or_false (holds_variable k A) (holds_variable k B) e in omega (arith, turns_other k v w g A q.0, turns_other k v w g B q.1)
  turns_other k v w g (Lam x A t) e = let q = or_false (holds_variable k A) (holds_variable k t) e in omega (arith, turns_other k v w g A q.0, turns_other k v w g t q.1)
  turns_other k v w g (Let x b A t) e =
      let r = or_false (holds_variable k b || holds_variable k A) (holds_variable k t) e in
      let q = or_false (holds_variable k b) (holds_variable k A) r.0 in
      omega (arith, turns_other k v w g b q.0, turns_other k v w g A q.1, turns_other k v w g t r.1)
  turns_other k v w g (App f a) e = let q = or_false (holds_variable k f) (holds_variable k a) e in omega (arith, turns_other k v w g f q.0, turns_other k v w g a q.1)
  turns_other k v w g (Const c) e = refl
  turns_other k v w g (Ind c) e = refl
  turns_other k v w g (Ctor c i) e = refl
  turns_other k v w g (Elim c s) e = refl
  turns_other k v w g (Evar n ts) e = let q = or_false (eqb k n) (holds_variable_in k ts) e in omega (arith, g n q.0, each_turns_other k v w g ts q.1)

  pub each_turns_other : (k : ℕ) (v w : ℕ → ℕ) → Agree k v w → (ts : Trees) → holds_variable_in k ts ≡ false → turns_each v ts ≡ turns_each w ts
  each_turns_other k v w g none e = refl
  each_turns_other k v w g (more t ts) e = let q = or_false (holds_variable k t) (holds_variable_in k ts) e in omega (arith, turns_other k v w g t q.0, each_turns_other k v w g ts q.1)

pub if_false : (b : Bool) (m n : ℕ) → b ≡ false → (if b then m else n) ≡ n
if_false true m n e = absurd (grind arith)
if_false false m n e = refl

pub if_true : (b : Bool) (m n : ℕ) → b ≡ true → (if b then m else n) ≡ m
if_true true m n e = refl
if_true false m n e = absurd (grind arith)

pub agree_with : (w : ℕ → ℕ) (k m : ℕ) → Agree k (with_turns w k m) w
agree_with w k m n e = if_false (eqb k n) m (w n) e

pub agree_both : (k : ℕ) (v w : ℕ → ℕ) → Agree k v w → (j m l : ℕ) → m ≡ l → Agree k (with_turns v j m) (with_turns w j l)
agree_both k v w g j m l e n f = by (eqb j n)
  where
    by : (b : Bool) → (if b then m else v n) ≡ (if b then l else w n)
    by true = e
    by false = g n f

-- a variable to which nothing leads makes no difference
pub leads_turns : (as_ : List Assigned) (k : ℕ) (v w : ℕ → ℕ) → Agree k v w → (t : Tree) → leads as_ k t ≡ false → turns (turns_of v as_) t ≡ turns (turns_of w as_) t
unfolding leads
leads_turns [] k v w g t e = turns_other k (turns_of v []) (turns_of w []) (λ n f. g n f) t e
leads_turns (c ∷ older) k v w g t e =
    let q = or_false (leads older k t) (leads older c.id t && leads older k c.body) e in
    by (leads older c.id t) refl q.1 q.0 (λ i x y h u f. leads_turns older i x y h u f)
  where
    by : (o : Bool) → leads older c.id t ≡ o → (o && leads older k c.body) ≡ false → leads older k t ≡ false →
        ((i : ℕ) (x y : ℕ → ℕ) → Agree i x y → (u : Tree) → leads older i u ≡ false → turns (turns_of x older) u ≡ turns (turns_of y older) u) →
        turns (turns_of v (c ∷ older)) t ≡ turns (turns_of w (c ∷ older)) t
    by true f h l ih =
        ih k (with_turns v c.id (1 + turns (turns_of v older) c.body)) (with_turns w c.id (1 + turns (turns_of w older) c.body))
        (agree_both k v w g c.id _ _ (ap (λ n. 1 + n) (ih k v w g c.body h))) t l
    by false f h l ih =
        ih c.id (with_turns v c.id (1 + turns (turns_of v older) c.body)) v (agree_with v c.id (1 + turns (turns_of v older) c.body)) t f
        ∙ ih k v w g t l
        ∙ sym (ih c.id (with_turns w c.id (1 + turns (turns_of w older) c.body)) w (agree_with w c.id (1 + turns (turns_of w older) c.body)) t f)

-- a variable without a value takes what it takes
pub open_turns : (as_ : List Assigned) (w : ℕ → ℕ) (n : ℕ) → find_value as_ n ≡ None → turns_of w as_ n ≡ w n
open_turns [] w n e = refl
open_turns (a ∷ older) w n e =
    let q = evar_other a older n e in
    open_turns older (with_turns w a.id (1 + turns (turns_of w older) a.body)) n q.1 ∙ if_false (eqb a.id n) _ (w n) q.0

pub value_turns : (vs : List Variable) (as_ : List Assigned) → Sound vs as_ → (w : ℕ → ℕ) (n : ℕ) (b : Tree) → find_value as_ n ≡ Some b → turns (turns_of w as_) b < turns_of w as_ n
unfolding find_value
value_turns vs [] s w n b e = absurd (grind arith)
value_turns vs (a ∷ older) s w n b e = by (eqb a.id n) refl e (λ f. value_turns vs older s.0 (with_turns w a.id (1 + turns (turns_of w older) a.body)) n b f)
  where
    newest : a.id ≡ n → a.body ≡ b → turns (turns_of w (a ∷ older)) b < turns_of w (a ∷ older) n
    newest p q =
        let m : ℕ = 1 + turns (turns_of w older) a.body in
        let same : turns (turns_of (with_turns w a.id m) older) a.body ≡ turns (turns_of w older) a.body = leads_turns older a.id (with_turns w a.id m) w (agree_with w a.id m) a.body s.1.free in
        let found : turns_of (with_turns w a.id m) older a.id ≡ m = open_turns older (with_turns w a.id m) a.id s.1.new ∙ if_true (eqb a.id a.id) m (w a.id) (grind arith) in
        along (λ u. turns (turns_of w (a ∷ older)) u < turns_of w (a ∷ older) n) q
        (along (λ i. turns (turns_of w (a ∷ older)) a.body < turns_of w (a ∷ older) i) p (omega (arith, same, found)))

    by : (o : Bool) → eqb a.id n ≡ o → elim o [ true ↦ Some a.body | false ↦ find_value older n ] ≡ Some b →
        (find_value older n ≡ Some b → turns (turns_of (with_turns w a.id (1 + turns (turns_of w older) a.body)) older) b < turns_of (with_turns w a.id (1 + turns (turns_of w older) a.body)) older n) →
        turns (turns_of w (a ∷ older)) b < turns_of w (a ∷ older) n
    by true p f ih = newest (eqb-true a.id n p) (ap (λ o. elim o [ Some u ↦ u | None ↦ a.body ]) f)
    by false p f ih = ih f

pub ranks_entries : (as_ : List Assigned) (ts : Trees) → ranks as_ (entries ts) ≡ turns_each (turns_of (λ n. 0) as_) ts
unfolding entries
ranks_entries as_ none = refl
ranks_entries as_ (more t ts) = omega (arith, ranks_entries as_ ts)

-- the parts of a term take fewer turns together
pub parts_fewer : (vs : List Variable) (as_ : List Assigned) → Sound vs as_ → (t : Tree) → 1 + ranks as_ (parts_of as_ t) ≤ rank as_ t
parts_fewer vs as_ s (Rel i) = omega arith
parts_fewer vs as_ s (Var x) = omega arith
parts_fewer vs as_ s (Sort q) = omega arith
parts_fewer vs as_ s (Prod x A B) = omega arith
parts_fewer vs as_ s (Lam x A B) = omega arith
parts_fewer vs as_ s (Let x v A B) = omega arith
parts_fewer vs as_ s (App f a) = omega arith
parts_fewer vs as_ s (Const c) = omega arith
parts_fewer vs as_ s (Ind c) = omega arith
parts_fewer vs as_ s (Ctor c k) = omega arith
parts_fewer vs as_ s (Elim c q) = omega arith
parts_fewer vs as_ s (Evar n ts) = by (find_value as_ n) refl
  where
    by : (o : Option Tree) → find_value as_ n ≡ o → 1 + ranks as_ (with_value o (entries ts)) ≤ rank as_ (Evar n ts)
    by None e = omega (arith, ranks_entries as_ ts)
    by (Some b) e = omega (arith, ranks_entries as_ ts, value_turns vs as_ s (λ n. 0) n b e)
