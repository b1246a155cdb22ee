-- Closing the hypotheses of a context one after the other is closing all of them at once.
use Rattle.std.proofs.Common.{◌≡◌, ◌<◌, ◌+◌, ◌∙◌, ℕ, suc, Bool, true, false, refl, sym, ap, ap₂, arith, inl, inr, add-zero, List, [], ◌∷◌, ◌++◌, length, Option, Some, None}
use Rattle.std.proofs.Common.{subst as along}
use Rattle.std.specs.Prelude.{if◌then◌else◌}
use Rattle.std.proofs.lemmas.Bool.{cases_lt}
use Rattle.std.proofs.lemmas.Slice.Eq.{bytes_eq-Decides}
use Rattle.std.proofs.lemmas.List.{length-append}
use Rattle.lq_trees.specs.Tree.{Name, Tree, Trees, Hypothesis, Context, same_name, value_of}
use Rattle.lq_trees.specs.Change.{replace, replace_each, lifted, lift, lift_each, closing, close, close_at, standing, instantiating, put}
use Rattle.lq_trees.specs.Index.{Within, EachWithin}
use Rattle.lq_trees.proofs.FillLaws.{let_is, lifted_below, lifted_above}
use Rattle.lq_terms.proofs.Replaced.{lift_none}
use Rattle.lq_calculus.specs.Declarations.{count_down, product, products}
use Rattle.lq_env.specs.Telescopes.{Binders, telescope, places_of, binders_behind, Apart, AreApart}

-- what a name has among places: none, or a bound variable of that many
abbrev pub Placed : ℕ → Option Tree → Type 0
Placed m None = Unit {0}
Placed m (Some t) = (i : ℕ) × (i < m) × (t ≡ Tree.Rel i)

pub places-more : (h : Hypothesis) (g : Context) → places_of (h ∷ g) ≡ (h.name, Tree.Rel (length g)) ∷ places_of g
unfolding places_of count_down
places-more h g = refl

pub places-none : places_of [] ≡ []
unfolding places_of count_down
places-none = refl

pub value-placed : (g : Context) (x : Name) → Placed (length g) (value_of (places_of g) x)
value-placed [] x = along (λ ps. Placed 0 (value_of ps x)) (sym places-none) tt
value-placed (h ∷ g) x =
    along (λ ps. Placed (suc (length g)) (value_of ps x)) (sym (places-more h g))
    (by_name (same_name x h.name) (value_of (places_of g) x) (value-placed g x))
  where
    longer : (o : Option Tree) → Placed (length g) o → Placed (suc (length g)) o
    longer None p = tt
    longer (Some t) p = (p.0, omega arith, p.2)

    by_name : (b : Bool) (o : Option Tree) → Placed (length g) o → Placed (suc (length g)) (if b then Some (Tree.Rel (length g)) else o)
    by_name true o p = (length g, omega arith, refl)
    by_name false o p = longer o p

pub value-apart : (x : Name) (g : Context) → Apart x g → value_of (places_of g) x ≡ None
value-apart x [] a = ap (λ ps. value_of ps x) places-none
value-apart x (h ∷ g) a =
    ap (λ ps. value_of ps x) (places-more h g)
    ∙ ap (λ b. if b then Some (Tree.Rel (length g)) else value_of (places_of g) x) a.0
    ∙ value-apart x g a.1

pub none_some : {x : Tree} → None ≡ Some x → ⊥
none_some h = grind arith

-- a hypothesis outside: at a name
pub closed_name : (b : Bool) (m d : ℕ) (x y : Name) (o : Option Tree) → same_name y x ≡ b → (b ≡ true → o ≡ None) → Placed m o →
    replace (closing x) (m + d) (standing o d y) ≡ standing (if b then Some (Tree.Rel m) else o) d y
closed_name true m d x y None e n p = ap (λ c. if c then Tree.Rel (m + d) else Tree.Var y) e ∙ sym (lifted_above d 0 m (omega arith))
closed_name true m d x y (Some t) e n p = absurd (none_some (sym (n refl)))
closed_name false m d x y None e n p = ap (λ c. if c then Tree.Rel (m + d) else Tree.Var y) e
closed_name false m d x y (Some t) e n p =
    along (λ t. replace (closing x) (m + d) (lift d 0 t) ≡ lift d 0 t) (sym (p.2))
    (ap (replace (closing x) (m + d)) (lifted_above d 0 p.0 (omega arith)) ∙ lifted_below 1 (m + d) (p.0 + d) (omega arith) ∙ sym (lifted_above d 0 p.0 (omega arith)))

-- at a bound variable
pub closed_index : (x : Name) (ps qs : List (Name × Tree)) (m d n : ℕ) → replace (closing x) (m + d) (put ps d (lifted m d n)) ≡ put qs d (lifted (m + 1) d n)
closed_index x ps qs m d n = elim (cases_lt n d) [
  | inl h ↦
      ap (λ t. replace (closing x) (m + d) (put ps d t)) (lifted_below m d n h) ∙ lifted_below 1 (m + d) n (omega arith)
      ∙ sym (ap (put qs d) (lifted_below (m + 1) d n h))
  | inr h ↦
      ap (λ t. replace (closing x) (m + d) (put ps d t)) (lifted_above m d n h) ∙ lifted_above 1 (m + d) (n + m) (omega arith)
      ∙ ap Tree.Rel (omega arith) ∙ sym (ap (put qs d) (lifted_above (m + 1) d n h))
]

-- the hypotheses of a context at once, and then one outside
module _ (x : Name) (g : Context) (m : ℕ) (many : m ≡ length g) (apart : Apart x g) where
  abbrev pub all_places : List (Name × Tree)
  all_places = (x, Tree.Rel m) ∷ places_of g

  same_value : (y : Name) → same_name y x ≡ true → value_of (places_of g) y ≡ None
  same_value y e = along (λ z. value_of (places_of g) z ≡ None) (sym ((bytes_eq-Decides y x).0 e)) (value-apart x g apart)

  deeper : (d : ℕ) (t : Tree) → replace (closing x) (m + (d + 1)) (put (places_of g) (d + 1) (lift m (d + 1) t)) ≡ put all_places (d + 1) (lift (m + 1) (d + 1) t) →
      replace (closing x) (m + d + 1) (put (places_of g) (d + 1) (lift m (d + 1) t)) ≡ put all_places (d + 1) (lift (m + 1) (d + 1) t)
  deeper d t h = along (λ z. replace (closing x) z (put (places_of g) (d + 1) (lift m (d + 1) t)) ≡ put all_places (d + 1) (lift (m + 1) (d + 1) t)) (omega arith) h

  mutual
    pub close_put : (d : ℕ) (t : Tree) → replace (closing x) (m + d) (put (places_of g) d (lift m d t)) ≡ put all_places d (lift (m + 1) d t)
    close_put d (Tree.Rel n) = closed_index x (places_of g) all_places m d n
    close_put d (Tree.Var y) = closed_name (same_name y x) m d x y (value_of (places_of g) y) refl (same_value y) (along (λ k. Placed k (value_of (places_of g) y)) (sym many) (value-placed g y))
    close_put d (Tree.Sort s) = refl
    close_put d (Tree.Prod y a b) = ap₂ (Tree.Prod y) (close_put d a) (deeper d b (close_put (d + 1) b))
    close_put d (Tree.Lam y a b) = ap₂ (Tree.Lam y) (close_put d a) (deeper d b (close_put (d + 1) b))
    close_put d (Tree.Let y v a b) = let_is y (close_put d v) (close_put d a) (deeper d b (close_put (d + 1) b))
    close_put d (Tree.App f a) = ap₂ Tree.App (close_put d f) (close_put d a)
    close_put d (Tree.Const c) = refl
    close_put d (Tree.Ind c) = refl
    close_put d (Tree.Ctor c k) = refl
    close_put d (Tree.Elim c s) = refl
    close_put d (Tree.Evar n ts) = ap (Tree.Evar n) (close_each d ts)

    close_each : (d : ℕ) (ts : Trees) → replace_each (closing x) (m + d) (replace_each (instantiating (places_of g)) d (lift_each m d ts)) ≡ replace_each (instantiating all_places) d (lift_each (m + 1) d ts)
    close_each d Trees.none = refl
    close_each d (Trees.more t ts) = ap₂ Trees.more (close_put d t) (close_each d ts)

-- a tree whose loose bound variables are below the place is not changed by a lift
mutual
  pub lift-within : (by d : ℕ) (t : Tree) → Within d t → lift by d t ≡ t
  lift-within by d (Tree.Rel n) h = lifted_below by d n (omega arith)
  lift-within by d (Tree.Var x) h = refl
  lift-within by d (Tree.Sort s) h = refl
  lift-within by d (Tree.Prod x a b) h = ap₂ (Tree.Prod x) (lift-within by d a h.0) (lift-within by (d + 1) b h.1)
  lift-within by d (Tree.Lam x a b) h = ap₂ (Tree.Lam x) (lift-within by d a h.0) (lift-within by (d + 1) b h.1)
  lift-within by d (Tree.Let x v a b) h = let_is x (lift-within by d v h.0) (lift-within by d a h.1) (lift-within by (d + 1) b h.2)
  lift-within by d (Tree.App f a) h = ap₂ Tree.App (lift-within by d f h.0) (lift-within by d a h.1)
  lift-within by d (Tree.Const c) h = refl
  lift-within by d (Tree.Ind c) h = refl
  lift-within by d (Tree.Ctor c k) h = refl
  lift-within by d (Tree.Elim c s) h = refl
  lift-within by d (Tree.Evar n ts) h = ap (Tree.Evar n) (lift_each-within by d ts h)

  pub lift_each-within : (by d : ℕ) (ts : Trees) → EachWithin d ts → lift_each by d ts ≡ ts
  lift_each-within by d Trees.none h = refl
  lift_each-within by d (Trees.more t ts) h = ap₂ Trees.more (lift-within by d t h.0) (lift_each-within by d ts h.1)

-- nothing is put in
mutual
  pub put-none : (d : ℕ) (t : Tree) → put [] d t ≡ t
  put-none d (Tree.Rel n) = refl
  put-none d (Tree.Var x) = refl
  put-none d (Tree.Sort s) = refl
  put-none d (Tree.Prod x a b) = ap₂ (Tree.Prod x) (put-none d a) (put-none (d + 1) b)
  put-none d (Tree.Lam x a b) = ap₂ (Tree.Lam x) (put-none d a) (put-none (d + 1) b)
  put-none d (Tree.Let x v a b) = let_is x (put-none d v) (put-none d a) (put-none (d + 1) b)
  put-none d (Tree.App f a) = ap₂ Tree.App (put-none d f) (put-none d a)
  put-none d (Tree.Const c) = refl
  put-none d (Tree.Ind c) = refl
  put-none d (Tree.Ctor c k) = refl
  put-none d (Tree.Elim c s) = refl
  put-none d (Tree.Evar n ts) = ap (Tree.Evar n) (put_each-none d ts)

  pub put_each-none : (d : ℕ) (ts : Trees) → replace_each (instantiating []) d ts ≡ ts
  put_each-none d Trees.none = refl
  put_each-none d (Trees.more t ts) = ap₂ Trees.more (put-none d t) (put_each-none d ts)

-- a hypothesis outside binders: closing it in each of their types
abbrev pub closed_binders : Name → ℕ → Binders → Binders
closed_binders x d [] = []
closed_binders x d (b ∷ bs) = (b.0, close_at x d b.1) ∷ closed_binders x (d + 1) bs

pub close_telescope : (x : Name) (d : ℕ) (bs : Binders) (t : Tree) → close_at x d (telescope bs t) ≡ telescope (closed_binders x d bs) (close_at x (length bs + d) t)
close_telescope x d [] t = ap (λ k. close_at x k t) (omega arith)
close_telescope x d (b ∷ bs) t =
    ap (Tree.Prod b.0 (close_at x d b.1)) (close_telescope x (d + 1) bs t ∙ ap (λ k. telescope (closed_binders x (d + 1) bs) (close_at x k t)) (omega arith))

pub length-behind : (before g : Context) → length (binders_behind before g) ≡ length g
length-behind before [] = refl
length-behind before (h ∷ g) = ap suc (length-behind (before ++ h ∷ []) g)

pub apart-more : (x : Name) (g : Context) (h : Hypothesis) → Apart x g → same_name x h.name ≡ false → Apart x (g ++ h ∷ [])
apart-more x [] h a e = (e, tt)
apart-more x (k ∷ g) h a e = (a.0, apart-more x g h a.1 e)

-- one type without loose bound variables
pub close_kind : (x : Hypothesis) (g : Context) (t : Tree) → Apart x.name g → Within 0 t → close_at x.name (length g) (put (places_of g) 0 t) ≡ put (places_of (x ∷ g)) 0 t
close_kind x g t a h =
    let whole : replace (closing x.name) (length g + 0) (put (places_of g) 0 (lift (length g) 0 t)) ≡ put ((x.name, Tree.Rel (length g)) ∷ places_of g) 0 (lift (length g + 1) 0 t) =
    close_put x.name g (length g) refl a 0 t in
    ap (λ k. close_at x.name k (put (places_of g) 0 t)) (sym (add-zero (length g)))
    ∙ ap (λ u. close_at x.name (length g + 0) (put (places_of g) 0 u)) (sym (lift-within (length g) 0 t h))
    ∙ whole
    ∙ ap (put ((x.name, Tree.Rel (length g)) ∷ places_of g) 0) (lift-within (length g + 1) 0 t h)
    ∙ ap (λ ps. put ps 0 t) (sym (places-more x g))

pub closed_behind : (x : Hypothesis) (before g : Context) (d : ℕ) → d ≡ length before → Apart x.name before → Apart x.name g → AreApart g →
    closed_binders x.name d (binders_behind before g) ≡ binders_behind (x ∷ before) g
closed_behind x before [] d e a b c = refl
closed_behind x before (h ∷ g) d e a b c =
    ap₂ (λ y ys. (h.name, y) ∷ ys)
    (ap (λ k. close_at x.name k (put (places_of before) 0 h.kind)) e ∙ close_kind x before h.kind a c.0)
    (closed_behind x (before ++ h ∷ []) g (d + 1) (omega (arith, length-append before (h ∷ []))) (apart-more x.name before h a b.0) b.1 c.2)

-- products over a context are those over its binders
pub products_telescope : (g : Context) (t : Tree) → AreApart g → products g t ≡ telescope (binders_behind [] g) (put (places_of g) 0 (lift (length g) 0 t))
unfolding products product
products_telescope [] t a = sym (ap (λ ps. put ps 0 (lift 0 0 t)) places-none ∙ put-none 0 (lift 0 0 t) ∙ lift_none 0 t)
products_telescope (h ∷ g) t a =
    ap₂ (Tree.Prod h.name) (sym (ap (λ ps. put ps 0 h.kind) places-none ∙ put-none 0 h.kind))
    (ap (close h.name) (products_telescope g t a.2)
    ∙ close_telescope h.name 0 (binders_behind [] g) (put (places_of g) 0 (lift (length g) 0 t))
    ∙ ap₂ telescope (closed_behind h [] g 0 refl tt a.1 a.2)
    (ap (λ k. close_at h.name (k + 0) (put (places_of g) 0 (lift (length g) 0 t))) (length-behind [] g)
    ∙ close_put h.name g (length g) refl a.1 0 t
    ∙ ap₂ (λ ps k. put ps 0 (lift k 0 t)) (sym (places-more h g)) (omega arith)))
