-- What stands for the parts of a tree gives what stands for the tree.
use Rattle.std.proofs.Common.{◌≡◌, ◌≤◌, ◌<◌, ◌+◌, ◌-◌, ◌∙◌, ℕ, Bool, true, false, refl, sym, ap, ap₂, arith, List, [], ◌∷◌, Option, Some, None, if◌then◌else◌, inl, inr}
use Rattle.std.proofs.Common.{subst as along}
use Rattle.std.proofs.lemmas.Bool.{cases_lt}
use Rattle.std.specs.Prelude.{zip}
use Rattle.lq_trees.specs.Tree.{Name, Tree, Trees, none, more, same_name, value_of}
use Rattle.lq_trees.specs.Tree.Tree.{Rel, Var, Sort, Prod, Lam, Let, App, Const, Ind, Ctor, Elim, Evar}
use Rattle.lq_trees.specs.Change.{Leaves, replace, replace_each, lifted, lift, lift_each, standing, instantiating, put}
use Rattle.lq_trees.specs.Marks.{loose, loose_of}
use Rattle.lq_trees.specs.Reading.{entries}
use Rattle.lq_trees.proofs.FillLaws.{let_is, lifted_below, lifted_above}
use Rattle.lq_terms.proofs.Replaced.{size-lift}
use Rattle.lq_evars.specs.Near.{weighs, weigh, Close, IsNear, stand_in}

-- a thing with one part, two, three
pub close_one : {a x c z : ℕ} {E G : Type 0} → Close a x E → a ≤ c → x ≤ z → (E → G) → (G → c ≡ z) → Close c z G
close_one {a} {x} {c} {z} p h k f e = record {
  small = λ l. f (p.small (omega (arith, h, l)));
  large = λ l. elim (cases_lt 1000000 a) [ inl m ↦ omega (arith, p.large m, k) | inr m ↦ omega (arith, e (f (p.small m)), l) ];
}

pub close_two :
    {a x b y c z : ℕ} {E F G : Type 0} → Close a x E → Close b y F → a ≤ c → b ≤ c → x ≤ z → y ≤ z → (E → F → G) → (G → c ≡ z) → Close c z G
close_two {a} {x} {b} {y} {c} {z} p q h i k j f e = record {
  small = λ l. f (p.small (omega (arith, h, l))) (q.small (omega (arith, i, l)));
  large = λ l. elim (cases_lt 1000000 a) [
    | inl m ↦ omega (arith, p.large m, k)
    | inr m ↦ elim (cases_lt 1000000 b) [ inl n ↦ omega (arith, q.large n, j) | inr n ↦ omega (arith, e (f (p.small m) (q.small n)), l) ]
  ];
}

pub close_three :
    {a x b y d w c z : ℕ} {E F G H : Type 0} → Close a x E → Close b y F → Close d w G → a ≤ c → b ≤ c → d ≤ c → x ≤ z → y ≤ z → w ≤ z → (E → F → G → H) → (H → c ≡ z) → Close c z H
close_three {a} {x} {b} {y} {d} {w} {c} {z} p q r h i j k m n f e = record {
  small = λ l. f (p.small (omega (arith, h, l))) (q.small (omega (arith, i, l))) (r.small (omega (arith, j, l)));
  large = λ l. elim (cases_lt 1000000 a) [
    | inl o ↦ omega (arith, p.large o, k)
    | inr o ↦ elim (cases_lt 1000000 b) [
      | inl s ↦ omega (arith, q.large s, m)
      | inr s ↦ elim (cases_lt 1000000 d) [ inl t ↦ omega (arith, r.large t, n) | inr t ↦ omega (arith, e (f (p.small o) (q.small s) (r.small t)), l) ]
    ]
  ];
}

-- a tree stands for itself
pub near_same : (d : ℕ) (t : Tree) → IsNear d t t
near_same d t = record { small = λ l. refl; large = λ l. l }

pub near_equal : (d : ℕ) (t u v : Tree) → t ≡ u → IsNear d u v → IsNear d t v
near_equal d t u v e n = along (λ z. IsNear d z v) (sym e) n

pub near_to : (d : ℕ) (t u v : Tree) → IsNear d t u → u ≡ v → IsNear d t v
near_to d t u v n e = along (λ z. IsNear d t z) e n

pub near_trans : (d : ℕ) (t u v : Tree) → IsNear d t u → IsNear d u v → IsNear d t v
near_trans d t u v m n = record {
  small = λ l. let e : t ≡ u = m.small l in e ∙ n.small (along (λ z. weighs d z ≤ 1000000) e l);
  large = λ l. n.large (m.large l);
}

-- the parts of a node; the rest behind a binder may be seen from inside it or from outside
pub near_prod : (d e : ℕ) (x : Name) {A B C D : Tree} → d ≤ e → IsNear d A C → IsNear e B D → IsNear d (Prod x A B) (Prod x C D)
near_prod d e x {A} {B} {C} {D} l p q = close_two p q (omega arith) (omega (arith, l)) (omega arith) (omega (arith, l)) (λ u v. ap₂ (Prod x) u v) (λ u. ap (weighs d) u)

pub near_lam : (d e : ℕ) (x : Name) {A B C D : Tree} → d ≤ e → IsNear d A C → IsNear e B D → IsNear d (Lam x A B) (Lam x C D)
near_lam d e x {A} {B} {C} {D} l p q = close_two p q (omega arith) (omega (arith, l)) (omega arith) (omega (arith, l)) (λ u v. ap₂ (Lam x) u v) (λ u. ap (weighs d) u)

pub near_let : (d e : ℕ) (x : Name) {v A B w C D : Tree} → d ≤ e → IsNear d v w → IsNear d A C → IsNear e B D → IsNear d (Let x v A B) (Let x w C D)
near_let d e x {v} {A} {B} {w} {C} {D} l o p q =
    close_three o p q (omega arith) (omega arith) (omega (arith, l)) (omega arith) (omega arith) (omega (arith, l)) (λ u i j. let_is x u i j) (λ u. ap (weighs d) u)

pub near_app : (d : ℕ) {f a g b : Tree} → IsNear d f g → IsNear d a b → IsNear d (App f a) (App g b)
near_app d {f} {a} {g} {b} p q = close_two p q (omega arith) (omega arith) (omega arith) (omega arith) (λ u v. ap₂ App u v) (λ u. ap (weighs d) u)

pub near_evar : (d n : ℕ) {ts us : Trees} → Close (weigh d ts) (weigh d us) (ts ≡ us) → IsNear d (Evar n ts) (Evar n us)
near_evar d n {ts} {us} p = close_one p (omega arith) (omega arith) (λ u. ap (Evar n) u) (λ u. ap (weighs d) u)

pub near_more : (d : ℕ) {t u : Tree} {ts us : Trees} → IsNear d t u → Close (weigh d ts) (weigh d us) (ts ≡ us) → Close (weigh d (more t ts)) (weigh d (more u us)) (more t ts ≡ more u us)
near_more d {t} {u} {ts} {us} p q = close_two p q (omega arith) (omega arith) (omega arith) (omega arith) (λ i j. ap₂ more i j) (λ i. ap (weigh d) i)

pub near_none : (d : ℕ) → Close (weigh d none) (weigh d none) (none ≡ none)
near_none d = record { small = λ l. refl; large = λ l. l }

-- leaves that stand for leaves
module _ (f g : Leaves) (bound : (d n : ℕ) → IsNear d (f.bound d n) (g.bound d n)) (named : (d : ℕ) (x : Name) → IsNear d (f.named d x) (g.named d x)) where
  mutual
    pub near_replaced : (d : ℕ) (t : Tree) → IsNear d (replace f d t) (replace g d t)
    near_replaced d (Rel n) = bound d n
    near_replaced d (Var x) = named d x
    near_replaced d (Sort s) = near_same d (Sort s)
    near_replaced d (Prod x a b) = near_prod d (d + 1) x (omega arith) (near_replaced d a) (near_replaced (d + 1) b)
    near_replaced d (Lam x a b) = near_lam d (d + 1) x (omega arith) (near_replaced d a) (near_replaced (d + 1) b)
    near_replaced d (Let x v a b) = near_let d (d + 1) x (omega arith) (near_replaced d v) (near_replaced d a) (near_replaced (d + 1) b)
    near_replaced d (App h a) = near_app d (near_replaced d h) (near_replaced d a)
    near_replaced d (Const c) = near_same d (Const c)
    near_replaced d (Ind c) = near_same d (Ind c)
    near_replaced d (Ctor c k) = near_same d (Ctor c k)
    near_replaced d (Elim c s) = near_same d (Elim c s)
    near_replaced d (Evar n ts) = near_evar d n (each_near_replaced d ts)

    pub each_near_replaced : (d : ℕ) (ts : Trees) → Close (weigh d (replace_each f d ts)) (weigh d (replace_each g d ts)) (replace_each f d ts ≡ replace_each g d ts)
    each_near_replaced d none = near_none d
    each_near_replaced d (more t ts) = near_more d (near_replaced d t) (each_near_replaced d ts)

-- a raised tree has as many loose bound variables beyond the binders that it was raised by
pub loose_rel : (a m i : ℕ) → loose (lifted a m i) - (m + a) ≡ loose (Rel i) - m
loose_rel a m i = elim (cases_lt i m) [
  | inl h ↦ ap (λ t. loose t - (m + a)) (lifted_below a m i h) ∙ omega (arith, h)
  | inr h ↦ ap (λ t. loose t - (m + a)) (lifted_above a m i h) ∙ omega (arith, h)
]

mutual
  pub loose-lift : (a m : ℕ) (t : Tree) → loose (lift a m t) - (m + a) ≡ loose t - m
  loose-lift a m (Rel i) = loose_rel a m i
  loose-lift a m (Var x) = omega arith
  loose-lift a m (Sort s) = omega arith
  loose-lift a m (Prod x A B) = omega (arith, loose-lift a m A, loose-lift a (m + 1) B)
  loose-lift a m (Lam x A B) = omega (arith, loose-lift a m A, loose-lift a (m + 1) B)
  loose-lift a m (Let x v A B) = omega (arith, loose-lift a m v, loose-lift a m A, loose-lift a (m + 1) B)
  loose-lift a m (App f b) = omega (arith, loose-lift a m f, loose-lift a m b)
  loose-lift a m (Const c) = omega arith
  loose-lift a m (Ind c) = omega arith
  loose-lift a m (Ctor c k) = omega arith
  loose-lift a m (Elim c s) = omega arith
  loose-lift a m (Evar n ts) = loose_of-lift a m ts

  pub loose_of-lift : (a m : ℕ) (ts : Trees) → loose_of (lift_each a m ts) - (m + a) ≡ loose_of ts - m
  loose_of-lift a m none = omega arith
  loose_of-lift a m (more t ts) = omega (arith, loose-lift a m t, loose_of-lift a m ts)

pub weighs-lift : (d : ℕ) (t : Tree) → weighs d (lift d 0 t) ≡ weighs 0 t
weighs-lift d t = omega (arith, size-lift d 0 t, loose-lift d 0 t)

pub near_lift : (d : ℕ) (t u : Tree) → IsNear 0 t u → IsNear d (lift d 0 t) (lift d 0 u)
near_lift d t u n = close_one n (omega (arith, weighs-lift d t)) (omega (arith, weighs-lift d u)) (λ e. ap (lift d 0) e) (λ e. ap (weighs d) e)

-- what stands for what a name has
abbrev pub NearOption : Option Tree → Option Tree → Type 0
NearOption None None = Unit {0}
NearOption (Some t) (Some u) = IsNear 0 t u
NearOption _ _ = ⊥

pub near_standing : (o p : Option Tree) → NearOption o p → (d : ℕ) (x : Name) → IsNear d (standing o d x) (standing p d x)
near_standing None None n d x = near_same d (Var x)
near_standing (Some t) (Some u) n d x = near_lift d t u n
near_standing None (Some u) n d x = absurd n
near_standing (Some t) None n d x = absurd n

-- trees for hypotheses, and what stands for them
pub near_put : (ps qs : List (Name × Tree)) → ((x : Name) → NearOption (value_of ps x) (value_of qs x)) → (d : ℕ) (t : Tree) → IsNear d (put ps d t) (put qs d t)
near_put ps qs h d t = near_replaced (instantiating ps) (instantiating qs) (λ d n. near_same d (Rel n)) (λ d x. near_standing (value_of ps x) (value_of qs x) (h x) d x) d t

-- what stands for the entries of an instance
abbrev pub AreNear : Trees → Trees → Type 0
AreNear none none = Unit {0}
AreNear (more t ts) (more u us) = IsNear 0 t u × AreNear ts us
AreNear _ _ = ⊥

pub near_trees : (ts us : Trees) → AreNear ts us → Close (weigh 0 ts) (weigh 0 us) (ts ≡ us)
near_trees none none h = near_none 0
near_trees (more t ts) (more u us) h = near_more 0 h.0 (near_trees ts us h.1)
near_trees none (more u us) h = absurd h
near_trees (more t ts) none h = absurd h

pub near_pairs : (xs : List Name) (ts us : Trees) → AreNear ts us → (x : Name) → NearOption (value_of (zip xs (entries ts)) x) (value_of (zip xs (entries us)) x)
unfolding entries
near_pairs [] ts us h x = tt
near_pairs (y ∷ ys) none none h x = tt
near_pairs (y ∷ ys) none (more u us) h x = absurd h
near_pairs (y ∷ ys) (more t ts) none h x = absurd h
near_pairs (y ∷ ys) (more t ts) (more u us) h x = by (same_name x y) (near_pairs ys ts us h.1 x)
  where
    by : (b : Bool) → NearOption (value_of (zip ys (entries ts)) x) (value_of (zip ys (entries us)) x) →
        NearOption (if b then Some t else value_of (zip ys (entries ts)) x) (if b then Some u else value_of (zip ys (entries us)) x)
    by true k = h.0
    by false k = k

-- what weighs too much has a stand-in
pub near_large : (d : ℕ) (u : Tree) → 1000000 < weighs d u → d ≤ 1000000 → IsNear d stand_in u
near_large d u h l = record { small = λ k. absurd (omega (arith, k, l)); large = λ k. h }

pub near_over : (t u : Tree) → IsNear 0 t u → 1000000 < weighs 0 t → IsNear 0 stand_in u
near_over t u n h = near_large 0 u (n.large h) (omega arith)
