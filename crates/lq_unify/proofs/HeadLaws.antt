-- A value put in for the head of a term: it may be done less often from then on, and the term reads the same.
use Rattle.std.proofs.Common.{◌≡◌, ◌≤◌, ◌<◌, ◌+◌, ◌∙◌, ℕ, Bool, true, false, ◌&&◌, eqb, eqb-true, max, refl, sym, ap, ap₂, arith, List, [], ◌∷◌, map, Option, Some, None, if◌then◌else◌}
use Rattle.std.proofs.Common.{subst as along}
use Rattle.std.specs.Prelude.{zip, nat_lt}
use Rattle.lq_trees.specs.Tree.{Name, Tree, Trees, none, more, same_name, value_of}
use Rattle.lq_trees.specs.Tree.Tree.{Rel, Var, Sort, Prod, Lam, Let, App, Const, Ind, Ctor, Elim, Evar}
use Rattle.lq_trees.specs.Change.{lift, lift_each, lifted, put, standing}
use Rattle.lq_trees.specs.Reading.{entries}
use Rattle.lq_calculus.specs.Contraction.{apply}
use Rattle.lq_solving.specs.Occurs.{holds_variable, holds_variable_in}
use Rattle.lq_solving.specs.Stores.{Variable, Assigned, body_at, put_value, names_at, fill_values, read_values, read_next, find_value}
use Rattle.lq_solving.specs.Kept.{leads, Sound, IsOver, EachIsOver}
use Rattle.lq_solving.proofs.LiftLaws.{put_each}
use Rattle.lq_solving.proofs.ValueLaws.{or_false}
use Rattle.lq_solving.proofs.ReadLaws.{filled, filled_each, fill_each, filled_over, each_filled_over, newest_closed, older_reads, given_over, reads_as_value}
use Rattle.lq_solving.proofs.Later.{reads_apply}
use Rattle.lq_solving.proofs.DoneLaws.{evar_other}
use Rattle.lq_unify.specs.Heads.{tops, most_tops, with_tops, tops_of, head_rank}

-- ---- how often

-- numbers that differ at variable k alone
abbrev pub Agree : ℕ → (ℕ → ℕ) → (ℕ → ℕ) → Type 0
Agree k v w = (n : ℕ) → eqb k n ≡ false → v n ≡ w n

mutual
  unfolding holds_variable holds_variable_in

  pub tops_other : (k : ℕ) (v w : ℕ → ℕ) → Agree k v w → (t : Tree) → holds_variable k t ≡ false → tops v t ≡ tops w t
  tops_other k v w g (Rel i) e = refl
  tops_other k v w g (Var x) e = refl
  tops_other k v w g (Sort s) e = refl
  tops_other k v w g (Prod x A B) e = refl
  tops_other k v w g (Lam x A t) e = refl
  tops_other k v w g (Let x b A t) e = refl
  tops_other k v w g (App f a) e = let q = or_false (holds_variable k f) (holds_variable k a) e in tops_other k v w g f q.0
  tops_other k v w g (Const c) e = refl
  tops_other k v w g (Ind c) e = refl
  tops_other k v w g (Ctor c i) e = refl
  tops_other k v w g (Elim c s) e = refl
  tops_other k v w g (Evar n ts) e = let q = or_false (eqb k n) (holds_variable_in k ts) e in ap₂ (λ i j. i + j) (g n q.0) (most_other k v w g ts q.1)

  pub most_other : (k : ℕ) (v w : ℕ → ℕ) → Agree k v w → (ts : Trees) → holds_variable_in k ts ≡ false → most_tops v ts ≡ most_tops w ts
  most_other k v w g none e = refl
  most_other k v w g (more t ts) e = let q = or_false (holds_variable k t) (holds_variable_in k ts) e in ap₂ max (tops_other k v w g t q.0) (most_other k v w g ts q.1)

if_false : (b : Bool) (m n : ℕ) → b ≡ false → (if b then m else n) ≡ n
if_false true m n e = absurd (grind arith)
if_false false m n e = refl

if_true : (b : Bool) (m n : ℕ) → b ≡ true → (if b then m else n) ≡ m
if_true true m n e = refl
if_true false m n e = absurd (grind arith)

pub agree_with : (w : ℕ → ℕ) (k m : ℕ) → Agree k (with_tops w k m) w
agree_with w k m n e = if_false (eqb k n) m (w n) e

pub agree_both : (k : ℕ) (v w : ℕ → ℕ) → Agree k v w → (j m l : ℕ) → m ≡ l → Agree k (with_tops v j m) (with_tops w j l)
agree_both k v w g j m l e n f = by (eqb j n)
  where
    by : (b : Bool) → (if b then m else v n) ≡ (if b then l else w n)
    by true = e
    by false = g n f

-- a variable to which nothing leads makes no difference
pub leads_tops : (as_ : List Assigned) (k : ℕ) (v w : ℕ → ℕ) → Agree k v w → (t : Tree) → leads as_ k t ≡ false → tops (tops_of v as_) t ≡ tops (tops_of w as_) t
unfolding leads
leads_tops [] k v w g t e = tops_other k (tops_of v []) (tops_of w []) (λ n f. g n f) t e
leads_tops (c ∷ older) k v w g t e =
    let q = or_false (leads older k t) (leads older c.id t && leads older k c.body) e in
    by (leads older c.id t) refl q.1 q.0 (λ i x y h u f. leads_tops older i x y h u f)
  where
    by : (o : Bool) → leads older c.id t ≡ o → (o && leads older k c.body) ≡ false → leads older k t ≡ false →
        ((i : ℕ) (x y : ℕ → ℕ) → Agree i x y → (u : Tree) → leads older i u ≡ false → tops (tops_of x older) u ≡ tops (tops_of y older) u) →
        tops (tops_of v (c ∷ older)) t ≡ tops (tops_of w (c ∷ older)) t
    by true f h l ih =
        ih k (with_tops v c.id (1 + tops (tops_of v older) c.body)) (with_tops w c.id (1 + tops (tops_of w older) c.body))
        (agree_both k v w g c.id _ _ (ap (λ n. 1 + n) (ih k v w g c.body h))) t l
    by false f h l ih =
        ih c.id (with_tops v c.id (1 + tops (tops_of v older) c.body)) v (agree_with v c.id (1 + tops (tops_of v older) c.body)) t f
        ∙ ih k v w g t l
        ∙ sym (ih c.id (with_tops w c.id (1 + tops (tops_of w older) c.body)) w (agree_with w c.id (1 + tops (tops_of w older) c.body)) t f)

-- a variable without a value takes what it takes
pub open_tops : (as_ : List Assigned) (w : ℕ → ℕ) (n : ℕ) → find_value as_ n ≡ None → tops_of w as_ n ≡ w n
open_tops [] w n e = refl
open_tops (a ∷ older) w n e =
    let q = evar_other a older n e in
    open_tops older (with_tops w a.id (1 + tops (tops_of w older) a.body)) n q.1 ∙ if_false (eqb a.id n) _ (w n) q.0

pub value_tops : (vs : List Variable) (as_ : List Assigned) → Sound vs as_ → (w : ℕ → ℕ) (n : ℕ) (b : Tree) → find_value as_ n ≡ Some b → tops (tops_of w as_) b < tops_of w as_ n
unfolding find_value
value_tops vs [] s w n b e = absurd (grind arith)
value_tops vs (a ∷ older) s w n b e = by (eqb a.id n) refl e (λ f. value_tops vs older s.0 (with_tops w a.id (1 + tops (tops_of w older) a.body)) n b f)
  where
    newest : a.id ≡ n → a.body ≡ b → tops (tops_of w (a ∷ older)) b < tops_of w (a ∷ older) n
    newest p q =
        let m : ℕ = 1 + tops (tops_of w older) a.body in
        let same : tops (tops_of (with_tops w a.id m) older) a.body ≡ tops (tops_of w older) a.body = leads_tops older a.id (with_tops w a.id m) w (agree_with w a.id m) a.body s.1.free in
        let found : tops_of (with_tops w a.id m) older a.id ≡ m = open_tops older (with_tops w a.id m) a.id s.1.new ∙ if_true (eqb a.id a.id) m (w a.id) (grind arith) in
        along (λ u. tops (tops_of w (a ∷ older)) u < tops_of w (a ∷ older) n) q
        (along (λ i. tops (tops_of w (a ∷ older)) a.body < tops_of w (a ∷ older) i) p (omega (arith, same, found)))

    by : (o : Bool) → eqb a.id n ≡ o → elim o [ true ↦ Some a.body | false ↦ find_value older n ] ≡ Some b →
        (find_value older n ≡ Some b → tops (tops_of (with_tops w a.id (1 + tops (tops_of w older) a.body)) older) b < tops_of (with_tops w a.id (1 + tops (tops_of w older) a.body)) older n) →
        tops (tops_of w (a ∷ older)) b < tops_of w (a ∷ older) n
    by true p f ih = newest (eqb-true a.id n p) (ap (λ o. elim o [ Some u ↦ u | None ↦ a.body ]) f)
    by false p f ih = ih f

-- ---- a body with terms for its hypotheses

pub rel_tops : (w : ℕ → ℕ) (a m i : ℕ) → tops w (lifted a m i) ≡ 0
rel_tops w a m i = by (nat_lt i m)
  where
    by : (b : Bool) → tops w (if b then Rel i else Rel (i + a)) ≡ 0
    by true = refl
    by false = refl

mutual
  pub lift_tops : (w : ℕ → ℕ) (a m : ℕ) (t : Tree) → tops w (lift a m t) ≡ tops w t
  lift_tops w a m (Rel i) = rel_tops w a m i
  lift_tops w a m (Var x) = refl
  lift_tops w a m (Sort s) = refl
  lift_tops w a m (Prod x A B) = refl
  lift_tops w a m (Lam x A t) = refl
  lift_tops w a m (Let x v A t) = refl
  lift_tops w a m (App f b) = lift_tops w a m f
  lift_tops w a m (Const c) = refl
  lift_tops w a m (Ind c) = refl
  lift_tops w a m (Ctor c k) = refl
  lift_tops w a m (Elim c s) = refl
  lift_tops w a m (Evar n ts) = ap (λ j. w n + j) (each_lift_tops w a m ts)

  pub each_lift_tops : (w : ℕ → ℕ) (a m : ℕ) (ts : Trees) → most_tops w (lift_each a m ts) ≡ most_tops w ts
  each_lift_tops w a m none = refl
  each_lift_tops w a m (more t ts) = ap₂ max (lift_tops w a m t) (each_lift_tops w a m ts)

-- terms for hypotheses, none of which takes more than so many
abbrev pub AllTops : (ℕ → ℕ) → ℕ → List (Name × Tree) → Type 0
AllTops w m ps = (x : Name) (v : Tree) → value_of ps x ≡ Some v → tops w v ≤ m

pub standing_tops : (w : ℕ → ℕ) (m d : ℕ) (x : Name) (o : Option Tree) → ((v : Tree) → o ≡ Some v → tops w v ≤ m) → tops w (standing o d x) ≤ m
standing_tops w m d x None h = omega arith
standing_tops w m d x (Some v) h = omega (arith, lift_tops w d 0 v, h v refl)

mutual
  pub put_tops : (w : ℕ → ℕ) (m : ℕ) (ps : List (Name × Tree)) → AllTops w m ps → (d : ℕ) (t : Tree) → tops w (put ps d t) ≤ tops w t + m
  put_tops w m ps h d (Rel i) = omega arith
  put_tops w m ps h d (Var x) = omega (arith, standing_tops w m d x (value_of ps x) (h x))
  put_tops w m ps h d (Sort s) = omega arith
  put_tops w m ps h d (Prod x A B) = omega arith
  put_tops w m ps h d (Lam x A t) = omega arith
  put_tops w m ps h d (Let x v A t) = omega arith
  put_tops w m ps h d (App f a) = put_tops w m ps h d f
  put_tops w m ps h d (Const c) = omega arith
  put_tops w m ps h d (Ind c) = omega arith
  put_tops w m ps h d (Ctor c k) = omega arith
  put_tops w m ps h d (Elim c s) = omega arith
  put_tops w m ps h d (Evar n ts) = omega (arith, each_put_tops w m ps h d ts)

  pub each_put_tops : (w : ℕ → ℕ) (m : ℕ) (ps : List (Name × Tree)) → AllTops w m ps → (d : ℕ) (ts : Trees) → most_tops w (put_each ps d ts) ≤ most_tops w ts + m
  each_put_tops w m ps h d none = omega arith
  each_put_tops w m ps h d (more t ts) = omega (arith, put_tops w m ps h d t, each_put_tops w m ps h d ts)

pub entries_tops : (w : ℕ → ℕ) (ys : List Name) (ts : Trees) → AllTops w (most_tops w ts) (zip ys (entries ts))
unfolding entries
entries_tops w [] ts x v e = absurd (grind arith)
entries_tops w (y ∷ ys) none x v e = absurd (grind arith)
entries_tops w (y ∷ ys) (more t ts) x v e = by (same_name x y) e (λ f. entries_tops w ys ts x v f)
  where
    by : (b : Bool) → (if b then Some t else value_of (zip ys (entries ts)) x) ≡ Some v → (value_of (zip ys (entries ts)) x ≡ Some v → tops w v ≤ most_tops w ts) → tops w v ≤ max (tops w t) (most_tops w ts)
    by true f ih = omega (arith, ap {B = ℕ} (λ o. elim o [ Some u ↦ tops w u | None ↦ 0 ]) f)
    by false f ih = omega (arith, ih f)

pub apply_tops : (w : ℕ → ℕ) (f : Tree) (ts : List Tree) → tops w (apply f ts) ≡ tops w f
unfolding apply
apply_tops w f [] = refl
apply_tops w f (t ∷ ts) = apply_tops w (App f t) ts

-- a value put in for the head variable
pub rank_falls : (vs : List Variable) (as_ : List Assigned) → Sound vs as_ → (n : ℕ) (b : Tree) (ys : List Name) (es : Trees) (ts : List Tree) → find_value as_ n ≡ Some b →
    head_rank as_ (apply (body_at ys b es) ts) < head_rank as_ (apply (Evar n es) ts)
unfolding body_at
rank_falls vs as_ s n b ys es ts e =
    omega (
      arith,
      apply_tops (tops_of (λ n. 0) as_) (body_at ys b es) ts,
      apply_tops (tops_of (λ n. 0) as_) (Evar n es) ts,
      put_tops (tops_of (λ n. 0) as_) (most_tops (tops_of (λ n. 0) as_) es) (zip ys (entries es)) (entries_tops (tops_of (λ n. 0) as_) ys es) 0 b,
      value_tops vs as_ s (λ n. 0) n b e,
    )

-- ---- reading

pub filled_body : (vs : List Variable) (as_ : List Assigned) → Sound vs as_ → (xs : List Name) (b : Tree) (ts : Trees) → IsOver vs b → EachIsOver vs ts →
    filled vs as_ (body_at xs b ts) ≡ body_at xs (filled vs as_ b) (filled_each vs as_ ts)
unfolding fill_values read_values read_next fill_each
filled_body vs [] s xs b ts h k = refl
filled_body vs (a ∷ older) s xs b ts h k =
    ap (put_value a.id (names_at vs a.id) (filled vs older a.body)) (filled_body vs older s.0 xs b ts h k)
    ∙ older_reads vs a.id (filled vs older a.body) (filled vs older b) xs (filled_each vs older ts) s.1.holds (newest_closed vs a older s)
    (filled_over vs older s.0 b h) (each_filled_over vs older s.0 ts k)

-- a variable with a value reads as the value with its entries, neither of them read
pub value_reads : (vs : List Variable) (as_ : List Assigned) → Sound vs as_ → (n : ℕ) (b : Tree) (ts : Trees) → find_value as_ n ≡ Some b → EachIsOver vs ts →
    filled vs as_ (body_at (names_at vs n) b ts) ≡ filled vs as_ (Evar n ts)
value_reads vs as_ s n b ts e k =
    filled_body vs as_ s (names_at vs n) b ts (given_over vs as_ s n b e).0 k ∙ sym (reads_as_value vs as_ s n b ts e k)

pub head_reads : (vs : List Variable) (as_ : List Assigned) → Sound vs as_ → (n : ℕ) (b : Tree) (es : Trees) (ts : List Tree) → find_value as_ n ≡ Some b → EachIsOver vs es →
    filled vs as_ (apply (body_at (names_at vs n) b es) ts) ≡ filled vs as_ (apply (Evar n es) ts)
head_reads vs as_ s n b es ts e k =
    reads_apply vs as_ (body_at (names_at vs n) b es) ts ∙ ap (λ f. apply f (map (filled vs as_) ts)) (value_reads vs as_ s n b es e k) ∙ sym (reads_apply vs as_ (Evar n es) ts)
