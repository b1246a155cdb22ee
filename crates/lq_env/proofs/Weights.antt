-- How large products over a context are, and that a bank has room for the numbers of their bound variables.
use Rattle.std.proofs.Common.{◌≡◌, ◌≤◌, ◌+◌, ◌∙◌, ℕ, Bool, true, false, refl, sym, ap, arith, [], ◌∷◌, ◌++◌, length, Option, Some, None}
use Rattle.std.proofs.Common.{subst as along}
use Rattle.std.specs.Prelude.{nat_lt, if◌then◌else◌}
use Rattle.lq_trees.specs.Tree.{Name, Tree, Trees, Context, same_name, value_of}
use Rattle.lq_trees.specs.Change.{raising, lift, closing, close, standing, instantiating, put}
use Rattle.lq_trees.specs.Size.{size}
use Rattle.lq_trees.specs.Index.{Within, EachWithin, highest, last_index}
use Rattle.lq_trees.proofs.Reach.{AllWithin, within-instance}
use Rattle.lq_trees.proofs.Indices.{highest-within}
use Rattle.lq_terms.proofs.Replaced.{size_alike, size_if, size-lift, lift_none, depth-size}
use Rattle.lq_calculus.specs.Declarations.{product, products}
use Rattle.lq_env.specs.Telescopes.{Binders, telescope, span, places_of, weight_of}
use Rattle.lq_env.specs.Building.{many}
use Rattle.lq_env.proofs.Closing.{Placed, value-placed, places-more, places-none}

-- putting places in keeps the size
pub size_placed : (m d : ℕ) (x : Name) (o : Option Tree) → Placed m o → size (standing o d x) ≡ 1
size_placed m d x None p = refl
size_placed m d x (Some t) p = along (λ u. size (lift d 0 u) ≡ 1) (sym (p.2)) (size-lift d 0 (Tree.Rel p.0))

pub size-put : (g : Context) (d : ℕ) (t : Tree) → size (put (places_of g) d t) ≡ size t
size-put g d t =
    size_alike (instantiating (places_of g)) (raising 0) (λ d n. one (nat_lt n d) n (n + 0)) (λ d x. size_placed (length g) d x (value_of (places_of g) x) (value-placed g x)) d t
    ∙ ap size (lift_none d t)
  where
    one : (b : Bool) (n m : ℕ) → 1 ≡ size (if b then Tree.Rel n else Tree.Rel m)
    one true n m = refl
    one false n m = refl

-- closing keeps the size
pub size-close : (x : Name) (t : Tree) → size (close x t) ≡ size t
size-close x t =
    size_alike (closing x) (raising 0) (λ d n. size_if (nat_lt n d) n (n + 1) (n + 0)) (λ d y. one (same_name y x) d y) 0 t ∙ ap size (lift_none 0 t)
  where
    one : (b : Bool) (d : ℕ) (y : Name) → size (if b then Tree.Rel d else Tree.Var y) ≡ 1
    one true d y = refl
    one false d y = refl

pub size-products : (g : Context) (t : Tree) → size (products g t) ≡ weight_of g + size t
unfolding products product
size-products [] t = omega arith
size-products (h ∷ g) t = omega (arith, size-close h.name (products g t), size-products g t)

pub size-telescope : (bs : Binders) (t : Tree) → size (telescope bs t) ≡ span bs + size t
size-telescope [] t = omega arith
size-telescope (b ∷ bs) t = omega (arith, size-telescope bs t)

pub span-append : (bs cs : Binders) → span (bs ++ cs) ≡ span bs + span cs
span-append [] cs = omega arith
span-append (b ∷ bs) cs = omega (arith, span-append bs cs)

pub weight-append : (g k : Context) → weight_of (g ++ k) ≡ weight_of g + weight_of k
weight-append [] k = omega arith
weight-append (h ∷ g) k = omega (arith, weight-append g k)

pub length-weight : (g : Context) → length g ≤ weight_of g
length-weight [] = omega arith
length-weight (h ∷ g) = omega (arith, length-weight g)

-- more variables may be loose
mutual
  pub within-more : (m n : ℕ) (t : Tree) → m ≤ n → Within m t → Within n t
  within-more m n (Tree.Rel i) l h = omega arith
  within-more m n (Tree.Var x) l h = tt
  within-more m n (Tree.Sort s) l h = tt
  within-more m n (Tree.Prod x a b) l h = (within-more m n a l h.0, within-more (m + 1) (n + 1) b (omega arith) h.1)
  within-more m n (Tree.Lam x a b) l h = (within-more m n a l h.0, within-more (m + 1) (n + 1) b (omega arith) h.1)
  within-more m n (Tree.Let x v a b) l h = (within-more m n v l h.0, within-more m n a l h.1, within-more (m + 1) (n + 1) b (omega arith) h.2)
  within-more m n (Tree.App f a) l h = (within-more m n f l h.0, within-more m n a l h.1)
  within-more m n (Tree.Const c) l h = tt
  within-more m n (Tree.Ind c) l h = tt
  within-more m n (Tree.Ctor c k) l h = tt
  within-more m n (Tree.Elim c s) l h = tt
  within-more m n (Tree.Evar k ts) l h = each_within-more m n ts l h

  pub each_within-more : (m n : ℕ) (ts : Trees) → m ≤ n → EachWithin m ts → EachWithin n ts
  each_within-more m n Trees.none l h = tt
  each_within-more m n (Trees.more t ts) l h = (within-more m n t l h.0, each_within-more m n ts l h.1)

pub all_within-places : (n : ℕ) (g : Context) → length g ≤ n → AllWithin n (places_of g)
all_within-places n [] l = along (λ ps. AllWithin n ps) (sym places-none) tt
all_within-places n (h ∷ g) l = along (λ ps. AllWithin n ps) (sym (places-more h g)) (omega arith, all_within-places n g (omega arith))

pub within-put : (n : ℕ) (g : Context) (t : Tree) → length g ≤ n → Within n t → Within n (put (places_of g) 0 t)
within-put n g t l h = within-instance n (places_of g) t (all_within-places n g l) h

-- a bank has room for the numbers of a small tree
pub small-highest : (t : Tree) → Within many t → size t ≤ 1000000 → highest t ≤ last_index
small-highest t h l = omega (arith, highest-within many t h, depth-size t)

pub put-highest : (g : Context) (t : Tree) → length g ≤ many → Within many t → size t ≤ 1000000 → highest (put (places_of g) 0 t) ≤ last_index
put-highest g t k h l = small-highest (put (places_of g) 0 t) (within-put many g t k h) (omega (arith, size-put g 0 t))
