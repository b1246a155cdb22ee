-- A term with its hypotheses replaced: by the terms that a list gives for them, where the others stay, or where there is no answer for another one.
use Rattle.std.specs.Prelude.{◌≡◌, ℕ, Bool, true, false, eqb, List, [], ◌∷◌, map, Option, Some, None, if◌then◌else◌}
use Rattle.std.specs.List.{AllByRecursion}
use Rattle.lq_trees.specs.Tree.{Name, Tree, Trees, none, more, same_name, value_of}
use Rattle.lq_trees.specs.Tree.Tree.{Rel, Var, Sort, Prod, Lam, Let, App, Const, Ind, Ctor, Elim, Evar}
use Rattle.lq_trees.specs.Index.{Within}
use Rattle.lq_terms.specs.declared.nodes.Hypothesis.{Hypothesis}
use Rattle.lq_terms.specs.declared.nodes.NameId.{NameId}
use Rattle.lq_terms.specs.declared.nodes.TermId.{TermId}
use Rattle.lq_terms.specs.Terms.{Terms, HasName, HasTerm, text_of, tree_of}
use Rattle.lq_solving.specs.Unification.{two, three}

-- whether a variable is the one that must not stand in the term, if there is such a one
unfoldable pub is_barred : Option ℕ → ℕ → Bool
is_barred None n = false
is_barred (Some k) n = eqb k n

-- a tree is no hypothesis and not the barred variable
abbrev pub IsByParts : Option ℕ → Tree → Type 0
IsByParts k (Rel i) = Unit {0}
IsByParts k (Var x) = ⊥
IsByParts k (Sort s) = Unit {0}
IsByParts k (Prod x A B) = Unit {0}
IsByParts k (Lam x A t) = Unit {0}
IsByParts k (Let x v A t) = Unit {0}
IsByParts k (App f a) = Unit {0}
IsByParts k (Const c) = Unit {0}
IsByParts k (Ind c) = Unit {0}
IsByParts k (Ctor c i) = Unit {0}
IsByParts k (Elim c s) = Unit {0}
IsByParts k (Evar n ts) = is_barred k n ≡ false

-- the term with each hypothesis replaced by what `place` gives for it; None where that gives nothing for one, or where the barred variable stands in the term
unfoldable mutual
  pub solution : Option ℕ → (Name → Option Tree) → Tree → Option Tree
  solution k place (Rel i) = Some (Rel i)
  solution k place (Var x) = place x
  solution k place (Sort s) = Some (Sort s)
  solution k place (Prod x A B) = two (solution k place A) (solution k place B) (Prod x)
  solution k place (Lam x A t) = two (solution k place A) (solution k place t) (Lam x)
  solution k place (Let x v A t) = three (solution k place v) (solution k place A) (solution k place t) (Let x)
  solution k place (App f a) = two (solution k place f) (solution k place a) App
  solution k place (Const c) = Some (Const c)
  solution k place (Ind c) = Some (Ind c)
  solution k place (Ctor c i) = Some (Ctor c i)
  solution k place (Elim c s) = Some (Elim c s)
  solution k place (Evar n ts) =
      elim (is_barred k n) [ true ↦ None | false ↦ elim (solution_each k place ts) [ None ↦ None | Some us ↦ Some (Evar n us) ] ]

  pub solution_each : Option ℕ → (Name → Option Tree) → Trees → Option Trees
  solution_each k place none = Some none
  solution_each k place (more t ts) = two (solution k place t) (solution_each k place ts) more

-- the same of a list of terms
unfoldable pub solutions : Option ℕ → (Name → Option Tree) → List Tree → Option (List Tree)
solutions k place [] = Some []
solutions k place (t ∷ ts) = two (solution k place t) (solutions k place ts) (λ u us. u ∷ us)

-- what is given for a hypothesis, and for one that is given nothing itself, where such ones stay
unfoldable pub or_itself : Bool → Name → Option Tree → Option Tree
or_itself stays x (Some t) = Some t
or_itself true x None = Some (Var x)
or_itself false x None = None

-- the names of hypotheses with the terms that are given for them
abbrev pub places_of : Terms → List (NameId × TermId) → List (Name × Tree)
places_of bank [] = []
places_of bank (e ∷ es) = (text_of bank e.0, tree_of bank e.1) ∷ places_of bank es

-- what a hypothesis is replaced by
abbrev pub place_in : Terms → Bool → List (NameId × TermId) → Name → Option Tree
place_in bank stays es x = or_itself stays x (value_of (places_of bank es) x)

abbrev pub HasPlaces : Terms → List (NameId × TermId) → Type 0
HasPlaces bank es = AllByRecursion (λ e. HasName bank e.0 × HasTerm bank e.1) es

-- the second term is the first with its hypotheses replaced
pub record IsSolved (bank : Terms) (k : Option ℕ) (stays : Bool) (es : List (NameId × TermId)) (e : TermId × TermId) : Type 0 where
  pub whole : HasTerm bank e.0
  pub has : HasTerm bank e.1
  pub is : solution k (place_in bank stays es) (tree_of bank e.0) ≡ Some (tree_of bank e.1)

-- what is known of parts
abbrev pub AreSolved : Terms → Option ℕ → Bool → List (NameId × TermId) → List (TermId × TermId) → Type 0
AreSolved bank k stays es known = AllByRecursion (IsSolved bank k stays es) known

-- terms without loose bound variables
abbrev pub AreClosed : Terms → List TermId → Type 0
AreClosed bank ts = AllByRecursion (λ t. Within 0 (tree_of bank t)) ts

-- the names of hypotheses
abbrev pub names_of : Terms → List Hypothesis → List Name
names_of bank hs = map (λ h. text_of bank h.name) hs

-- an entry that is a hypothesis, put ahead of others, has the hypothesis y for its place
unfoldable pub place_more : Name → Tree → (Name → Option Tree) → Name → Option Tree
place_more y (Var z) others x = if same_name z x then Some (Var y) else others x
place_more y _ others x = others x
