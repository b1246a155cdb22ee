-- What is known of the hypotheses, and of a variable, that terms hold as they read, and what is left to look at.
use Rattle.std.specs.Prelude.{◌≡◌, ◌<◌, ◌||◌, ℕ, Bool, false, List, [], ◌∷◌, ◌++◌, map, length, Option, Some, None, option_map, IfSome}
use Rattle.std.specs.List.{AllByRecursion}
use Rattle.lq_trees.specs.Tree.{Name, Tree, value_of}
use Rattle.lq_trees.specs.Tree.Tree.{Rel, Var, Sort, Prod, Lam, Let, App, Const, Ind, Ctor, Elim, Evar}
use Rattle.lq_terms.specs.declared.nodes.Hypothesis.{Hypothesis}
use Rattle.lq_terms.specs.declared.nodes.NameId.{NameId}
use Rattle.lq_terms.specs.declared.nodes.TermId.{TermId}
use Rattle.lq_terms.specs.Terms.{Terms, HasName, HasTerm, text_of, tree_of, trees_by}
use Rattle.lq_terms.specs.Changes.{HasHypothesis}
use Rattle.lq_solving.specs.Stores.{Variable, Assigned, Store, names_at, find_value}
use Rattle.lq_solving.specs.Kept.{IsOver}
use Rattle.lq_evars.specs.Reading.{Item, visits, builds, as_read, finish, AreReady, IsIn, AllIn, Covers, weights, with_term}
use Rattle.lq_evars.specs.Turns.{parts_of}
use Rattle.lq_unify.specs.declared.holding.Holding.{Holding}
use Rattle.lq_unify.specs.declared.holding.Look.{Look}
use Rattle.lq_unify.specs.Held.{holds_any, stands_marked, is_absent}

-- whether one of these hypotheses is marked
abbrev pub one_marked : Terms → (Name → Bool) → List NameId → Bool
one_marked bank m [] = false
one_marked bank m (x ∷ xs) = m (text_of bank x) || one_marked bank m xs

-- whether the variable is held, or a hypothesis that is marked
abbrev pub tells : Terms → (Name → Bool) → Holding → Bool
tells bank m h = h.variable || one_marked bank m h.names.keys

-- whether what stands for a hypothesis, as it reads, holds variable k or a hypothesis that is marked
abbrev pub marked_through : ℕ → (Name → Bool) → Store → List (Name × Tree) → Name → Bool
marked_through k m s ps x = stands_marked k m x (option_map (as_read s) (value_of ps x))

-- whether there is no place for a hypothesis
abbrev pub has_no_place : List (Name × Tree) → Name → Bool
has_no_place ps x = is_absent (value_of ps x)

-- this is what a term holds as it reads, of variable k and of hypotheses
pub record IsHeld (bank : Terms) (s : Store) (k : ℕ) (t : TermId) (h : Holding) : Type 0 where
  pub part : HasTerm bank t
  pub names : AllByRecursion (HasName bank) h.names.keys
  pub is : (m : Name → Bool) → holds_any k m (as_read s (tree_of bank t)) ≡ tells bank m h

-- what is known of terms
abbrev pub AreHeld : Terms → Store → ℕ → List (TermId × Holding) → Type 0
AreHeld bank s k known = AllByRecursion (λ e. IsHeld bank s k e.0 e.1) known

-- the terms that are known
abbrev pub trees_held : Terms → List (TermId × Holding) → List Tree
trees_held bank [] = []
trees_held bank (e ∷ es) = tree_of bank e.0 ∷ trees_held bank es

-- what is left to do, over trees
abbrev pub look_of : Terms → Look → Item
look_of bank (Look.Visit t) = visits (tree_of bank t)
look_of bank (Look.Build t) = builds (tree_of bank t)

abbrev pub looks_of : Terms → List Look → List Item
looks_of bank [] = []
looks_of bank (w ∷ ws) = look_of bank w ∷ looks_of bank ws

abbrev pub looked_at : Look → TermId
looked_at (Look.Visit t) = t
looked_at (Look.Build t) = t

-- a term of the bank over variables
pub record IsTermOf (bank : Terms) (vs : List Variable) (t : TermId) : Type 0 where
  pub has : HasTerm bank t
  pub over : IsOver vs (tree_of bank t)

-- what is true while a term is looked at
pub record Looking (bank : Terms) (s : Store) (k : ℕ) (work : List Look) (known : List (TermId × Holding)) : Type 0 where
  pub placed : AllByRecursion (λ w. IsTermOf bank s.variables (looked_at w)) work
  pub ready : AreReady s.values (looks_of bank work) (trees_held bank known)
  pub held : AreHeld bank s k known

-- an item was done
pub record Looked (bank : Terms) (s : Store) (k : ℕ) (work left : List Look) (known more : List (TermId × Holding)) : Type 0 where
  pub looking : Looking bank s k left more
  pub covers : Covers (finish (looks_of bank work) (trees_held bank known)) (finish (looks_of bank left) (trees_held bank more))
  pub falls : weights s.values (looks_of bank left) < weights s.values (looks_of bank work)

-- the item that was taken from the others was done
abbrev pub LookDone : Terms → Store → ℕ → Look → (work left : List Look) → (known more : List (TermId × Holding)) → Type 0
LookDone bank s k w work left known more = Looked bank s k (work ++ w ∷ []) left known more

-- a term over the variables, the parts of which are known
pub record Known (bank : Terms) (s : Store) (k : ℕ) (known : List (TermId × Holding)) (t : TermId) : Type 0 where
  pub term : IsTermOf bank s.variables t
  pub held : AreHeld bank s k known
  pub parts : AllIn (parts_of s.values (tree_of bank t)) (trees_held bank known)

-- what is given for hypotheses is known
abbrev pub AreGivenKnown : List (Name × Tree) → List Tree → Type 0
AreGivenKnown ps known = (x : Name) (T : Tree) → value_of ps x ≡ Some T → IsIn T known

-- the term is a variable with this value, whose context has these hypotheses, at an instance of these entries
pub record IsValueOf (bank : Terms) (s : Store) (t : TermId) (hs : List Hypothesis) (v : TermId) (ts : List TermId) : Type 0 where
  pub number : ℕ
  pub is : tree_of bank t ≡ Evar number (trees_by (tree_of bank) ts)
  pub found : find_value s.values number ≡ Some (tree_of bank v)
  pub names : names_at s.variables number ≡ map (λ h. text_of bank h.name) hs
  pub value : HasTerm bank v
  pub context : AllByRecursion (HasHypothesis bank) hs
  pub entries : AllByRecursion (HasTerm bank) ts
  pub as_many : length hs ≡ length ts

-- the value of the variable that a tree is, if it has one
abbrev pub value_in_head : List Assigned → Tree → Option Tree
value_in_head as_ (Rel i) = None
value_in_head as_ (Var x) = None
value_in_head as_ (Sort s) = None
value_in_head as_ (Prod x A B) = None
value_in_head as_ (Lam x A t) = None
value_in_head as_ (Let x v A t) = None
value_in_head as_ (App f a) = None
value_in_head as_ (Const c) = None
value_in_head as_ (Ind c) = None
value_in_head as_ (Ctor c k) = None
value_in_head as_ (Elim c s) = None
value_in_head as_ (Evar n ts) = find_value as_ n

-- the value of a variable was put on, if the tree is one that has a value
pub record PutsValue (bank : Terms) (as_ : List Assigned) (old new : List Look) (t : Tree) : Type 0 where
  pub value : Option TermId
  pub longer : new ≡ old ++ map Look.Visit (with_term value [])
  pub has : IfSome value (HasTerm bank)
  pub is : option_map (tree_of bank) value ≡ value_in_head as_ t

-- the parts of a term were put on
pub record AsksFor (bank : Terms) (as_ : List Assigned) (old new : List Look) (t : Tree) : Type 0 where
  pub added : List TermId
  pub longer : new ≡ old ++ map Look.Visit added
  pub has : AllByRecursion (HasTerm bank) added
  pub are : map (tree_of bank) added ≡ parts_of as_ t
