-- What links, closures and pairs of closures stand for, and that what they name is there.
use Rattle.std.specs.Prelude.{◌≡◌, ◌<◌, ◌≤◌, ◌+◌, ◌&&◌, ℕ, suc, Bool, true, false, List, [], ◌∷◌, ◌++◌, map, length, zip, Option, Some, None, option_map, IfSome, slice_get, slice_index_or}
use Rattle.std.specs.List.{AllByRecursion}
use Rattle.lq_trees.specs.Tree.{Name, Tree, Trees, value_of}
use Rattle.lq_trees.specs.Reading.{entries}
use Rattle.lq_terms.specs.declared.nodes.TermId.{TermId}
use Rattle.lq_terms.specs.declared.nodes.Node.{Node}
use Rattle.lq_terms.specs.Terms.{Terms, HasName, HasTerm, text_of, tree_of}
use Rattle.lq_solving.specs.Alike.{same_tree}
use Rattle.lq_solving.specs.Stores.{Variable as TreeVariable, Store as TreeStore, names_at, find_value}
use Rattle.lq_solving.specs.Kept.{IsOver}
use Rattle.lq_evars.specs.declared.scopes.Around.{Around}
use Rattle.lq_evars.specs.declared.scopes.Link.{Link}
use Rattle.lq_evars.specs.declared.scopes.Closure.{Closure}
use Rattle.lq_evars.specs.declared.labels.Label.{Label}
use Rattle.lq_evars.specs.declared.comparing.Pair.{Pair}
use Rattle.lq_evars.specs.Reading.{as_read}
use Rattle.lq_evars.specs.Scopes.{Scope, top, below, inside, outer, placed_index, named_in, placed}
use Rattle.lq_evars.specs.Costs.{steps, steps_each, scope_steps, term_steps}
use Rattle.lq_evars.specs.Heads.{Head, bound, hypothesis, sort, product, function, definition, application, constant, family, constructor, eliminator, unknown}

-- the scope that stands at a place
abbrev pub scope_in : List Scope → Around → Scope
scope_in os Around.Nothing = top
scope_in os (Around.At p) = slice_index_or os p top

-- the value of a variable at its instance
abbrev pub inside_of : Tree → Scope → Scope
inside_of (Tree.Evar n ts) o = inside n ts o
inside_of t o = o

-- the scope of a link, by those of the links before it
abbrev pub link_in : Terms → List Scope → Link → Scope
link_in bank os (Link.Binders c e a) = below c e (scope_in os a)
link_in bank os (Link.Inside t a) = inside_of (tree_of bank t) (scope_in os a)

-- the scopes of links, one after another, behind those that are there already
abbrev pub scopes_from : Terms → List Scope → List Link → List Scope
scopes_from bank os [] = os
scopes_from bank os (l ∷ ls) = scopes_from bank (os ++ link_in bank os l ∷ []) ls

unfoldable pub scopes : Terms → List Link → List Scope
scopes bank ls = scopes_from bank [] ls

abbrev pub scope_of : Terms → List Link → Around → Scope
scope_of bank ls a = scope_in (scopes bank ls) a

-- the tree of a closure
abbrev pub closure_tree : Terms → TreeStore → List Link → Closure → Tree
closure_tree bank s ls c = placed s (scope_of bank ls c.around) c.base c.under (as_read s (tree_of bank c.term))

-- how many steps it takes at most to go through a closure
abbrev pub closure_steps : Terms → TreeStore → List Link → Closure → ℕ
closure_steps bank s ls c = term_steps s.values (scope_of bank ls c.around) (tree_of bank c.term)

-- below how many binders the term of a closure stands
abbrev pub depth_of : Closure → ℕ
depth_of c = c.base + c.under

-- the place of what is around is below a number
abbrev pub AroundIn : ℕ → Around → Type 0
AroundIn n Around.Nothing = Unit {0}
AroundIn n (Around.At p) = p < n

-- a term of the bank over the variables of a store
pub record IsTermOver (bank : Terms) (vs : List TreeVariable) (t : TermId) : Type 0 where
  pub has : HasTerm bank t
  pub over : IsOver vs (tree_of bank t)

-- the term is a variable
pub record IsUnknown (bank : Terms) (t : TermId) : Type 0 where
  pub index : ℕ
  pub parts : Trees
  pub is : tree_of bank t ≡ Tree.Evar index parts

-- a link names what stands before it
abbrev pub HasLink : Terms → List TreeVariable → ℕ → Link → Type 0
HasLink bank vs n (Link.Binders c e a) = AroundIn n a
HasLink bank vs n (Link.Inside t a) = AroundIn n a × IsTermOver bank vs t × IsUnknown bank t

-- all links do
pub record AreLinks (bank : Terms) (vs : List TreeVariable) (ls : List Link) : Type 0 where
  pub at : (p : ℕ) (l : Link) → slice_get ls p ≡ Some l → HasLink bank vs p l

-- a closure names what is there
pub record HasClosure (bank : Terms) (vs : List TreeVariable) (n : ℕ) (c : Closure) : Type 0 where
  pub term : IsTermOver bank vs c.term
  pub around : AroundIn n c.around

-- a closure stands for itself: its term is neither a variable with a value nor a hypothesis that something stands for
abbrev pub IsSettled : TreeStore → Scope → ℕ → Tree → Type 0
IsSettled s o d (Tree.Var x) = named_in s o d x ≡ Tree.Var x
IsSettled s o d (Tree.Evar n ts) = find_value s.values n ≡ None
IsSettled s o d t = Unit {0}

abbrev pub SettledClosure : Terms → TreeStore → List Link → Closure → Type 0
SettledClosure bank s ls c = IsSettled s (scope_of bank ls c.around) (depth_of c) (tree_of bank c.term)

-- the entry of a variable's instance that stands for a name, if there is one: of the trees that stand for the entries it is the one that
-- stands for the name; it is over the same variables, and takes no more steps
pub record EntryIs (bank : Terms) (s : TreeStore) (n : ℕ) (ts : Trees) (x : Name) (o : Option TermId) : Type 0 where
  pub found : (f : Tree → Tree) → option_map (λ t. f (tree_of bank t)) o ≡ value_of (zip (names_at s.variables n) (map f (entries ts))) x
  pub over : IfSome o (IsTermOver bank s.variables)
  pub light : IfSome o (λ t. (w : ℕ → ℕ → ℕ) (v : ℕ) → steps w v (tree_of bank t) ≤ steps_each w v ts)

abbrev pub IsEntry : Terms → TreeStore → Tree → Name → Option TermId → Type 0
IsEntry bank s (Tree.Evar n ts) x o = EntryIs bank s n ts x o
IsEntry bank s t x o = o ≡ None

-- hypotheses stand for the same in two scopes
pub record SameNames (s : TreeStore) (o p : Scope) : Type 0 where
  pub named : (d : ℕ) (x : Name) → named_in s o d x ≡ named_in s p d x
  pub steps : scope_steps s.values o ≡ scope_steps s.values p

-- the nearest variable in whose value a term stands, and what is around it
pub record NearestIs (bank : Terms) (s : TreeStore) (ls : List Link) (a : Around) (t : TermId) (b : Around) : Type 0 where
  pub same : SameNames s (scope_of bank ls a) (inside_of (tree_of bank t) (scope_of bank ls b))
  pub around : AroundIn (length ls) b
  pub term : IsTermOver bank s.variables t
  pub is : IsUnknown bank t

abbrev pub IsNearest : Terms → TreeStore → List Link → Around → Option (TermId × Around) → Type 0
IsNearest bank s ls a None = SameNames s (scope_of bank ls a) top
IsNearest bank s ls a (Some r) = NearestIs bank s ls a r.0 r.1

-- another closure stands for the same tree, in fewer steps
pub record IsTurned (bank : Terms) (s : TreeStore) (old new : List Link) (c d : Closure) : Type 0 where
  pub more : List Link
  pub longer : new ≡ old ++ more
  pub made : AreLinks bank s.variables new
  pub has : HasClosure bank s.variables (length new) d
  pub same : closure_tree bank s new d ≡ closure_tree bank s old c
  pub falls : closure_steps bank s new d < closure_steps bank s old c
  pub deep : depth_of d ≡ depth_of c

-- one does, or the closure stands for itself
abbrev pub TurnsTo : Terms → TreeStore → List Link → List Link → Closure → Option Closure → Type 0
TurnsTo bank s old new c None = (new ≡ old) × SettledClosure bank s old c
TurnsTo bank s old new c (Some d) = IsTurned bank s old new c d

-- the head of a label
abbrev pub head_in : Terms → Label → Head
head_in bank (Label.Bound i) = bound i
head_in bank (Label.Hypothesis x) = hypothesis (text_of bank x)
head_in bank (Label.Sort s) = sort s
head_in bank Label.Product = product
head_in bank Label.Function = function
head_in bank Label.Definition = definition
head_in bank Label.Application = application
head_in bank (Label.Constant x) = constant (text_of bank x)
head_in bank (Label.Family x) = family (text_of bank x)
head_in bank (Label.Constructor x k) = constructor (text_of bank x) k
head_in bank (Label.Eliminator x s) = eliminator (text_of bank x) s
head_in bank (Label.Unknown n k) = unknown n k

-- the bank has the name of a label
abbrev pub HasLabel : Terms → Label → Type 0
HasLabel bank (Label.Hypothesis x) = HasName bank x
HasLabel bank (Label.Constant x) = HasName bank x
HasLabel bank (Label.Family x) = HasName bank x
HasLabel bank (Label.Constructor x k) = HasName bank x
HasLabel bank (Label.Eliminator x s) = HasName bank x
HasLabel bank l = Unit {0}

-- the head of a node in a scope
abbrev pub node_head : Terms → Scope → (base under : ℕ) → Node → Head
node_head bank o d k (Node.Rel i) = bound (placed_index (outer o) d k i)
node_head bank o d k (Node.Var x) = hypothesis (text_of bank x)
node_head bank o d k (Node.Sort s) = sort s
node_head bank o d k (Node.Prod x a b) = product
node_head bank o d k (Node.Lam x a b) = function
node_head bank o d k (Node.Let x v a b) = definition
node_head bank o d k (Node.App f a) = application
node_head bank o d k (Node.Const x) = constant (text_of bank x)
node_head bank o d k (Node.Ind x) = family (text_of bank x)
node_head bank o d k (Node.Ctor x i) = constructor (text_of bank x) i
node_head bank o d k (Node.Elim x s) = eliminator (text_of bank x) s
node_head bank o d k (Node.Evar n ts) = unknown n (length ts)

-- a part of a closure's term, and one under a binder
abbrev pub beside : Closure → TermId → Closure
beside c t = record { term = t; around = c.around; base = c.base; under = c.under }

abbrev pub under : Closure → TermId → Closure
under c t = record { term = t; around = c.around; base = c.base; under = c.under + 1 }

-- the parts of a closure, by the node of its term
abbrev pub closure_parts : Closure → Node → List Closure
closure_parts c (Node.Prod x a b) = beside c a ∷ under c b ∷ []
closure_parts c (Node.Lam x a b) = beside c a ∷ under c b ∷ []
closure_parts c (Node.Let x v a b) = beside c v ∷ beside c a ∷ under c b ∷ []
closure_parts c (Node.App f a) = beside c f ∷ beside c a ∷ []
closure_parts c (Node.Evar n ts) = map (beside c) ts
closure_parts c node = []

-- closures of two lists, pairwise
abbrev pub paired : List Closure → List Closure → List Pair
paired (c ∷ cs) (d ∷ ds) = record { left = c; right = d } ∷ paired cs ds
paired _ _ = []

-- a pair names what is there
pub record HasPair (bank : Terms) (vs : List TreeVariable) (n : ℕ) (p : Pair) : Type 0 where
  pub left : HasClosure bank vs n p.left
  pub right : HasClosure bank vs n p.right

-- the terms of a pair stand below at most so many binders
pub record IsShallow (n : ℕ) (p : Pair) : Type 0 where
  pub left : depth_of p.left ≤ n
  pub right : depth_of p.right ≤ n

-- below at most as many as pairs stand before it
abbrev pub AreShallow : ℕ → List Pair → Type 0
AreShallow n [] = Unit {0}
AreShallow n (p ∷ ps) = IsShallow n p × AreShallow (suc n) ps

-- whether the trees of a pair, of each pair, are equal
abbrev pub same_pair : Terms → TreeStore → List Link → Pair → Bool
same_pair bank s ls p = same_tree (closure_tree bank s ls p.left) (closure_tree bank s ls p.right)

abbrev pub same_pairs : Terms → TreeStore → List Link → List Pair → Bool
same_pairs bank s ls [] = true
same_pairs bank s ls (p ∷ ps) = same_pair bank s ls p && same_pairs bank s ls ps

-- how many steps it takes at most to compare a pair, to compare pairs
abbrev pub pair_steps : Terms → TreeStore → List Link → Pair → ℕ
pair_steps bank s ls p = closure_steps bank s ls p.left + closure_steps bank s ls p.right

abbrev pub pairs_steps : Terms → TreeStore → List Link → List Pair → ℕ
pairs_steps bank s ls [] = 0
pairs_steps bank s ls (p ∷ ps) = pair_steps bank s ls p + pairs_steps bank s ls ps

-- other pairs stand for a pair, in fewer steps
pub record StandFor (bank : Terms) (s : TreeStore) (old new : List Link) (p : Pair) (work left : List Pair) : Type 0 where
  pub more : List Link
  pub longer : new ≡ old ++ more
  pub made : AreLinks bank s.variables new
  pub added : List Pair
  pub behind : left ≡ work ++ added
  pub has : AllByRecursion (HasPair bank s.variables (length new)) added
  pub shallow : AreShallow (length work) added
  pub same : same_pairs bank s new added ≡ same_pair bank s old p
  pub falls : pairs_steps bank s new added < pair_steps bank s old p

-- they do, or the pair is of two trees that differ
abbrev pub ComparesTo : Terms → TreeStore → List Link → List Link → Pair → List Pair → List Pair → Bool → Type 0
ComparesTo bank s old new p work left true = StandFor bank s old new p work left
ComparesTo bank s old new p work left false = same_pair bank s old p ≡ false

-- what is true while terms are compared
pub record Comparing (bank : Terms) (s : TreeStore) (ls : List Link) (work : List Pair) : Type 0 where
  pub made : AreLinks bank s.variables ls
  pub has : AllByRecursion (HasPair bank s.variables (length ls)) work
  pub shallow : AreShallow 0 work

-- two terms with nothing around them
abbrev pub first_closure : TermId → Closure
first_closure t = record { term = t; around = Around.Nothing; base = 0; under = 0 }

abbrev pub first_pair : TermId → TermId → Pair
first_pair t u = record { left = first_closure t; right = first_closure u }
