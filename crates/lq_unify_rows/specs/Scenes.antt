-- What rows stand over: a store, hypotheses and declarations; and what a look at a term finds.
use Rattle.std.specs.Prelude.{◌≡◌, ◌<◌, ℕ, eqb, false, List, Option, Some, None, length}
use Rattle.std.specs.List.{AllByRecursion}
use Rattle.lq_trees.specs.Tree.{Tree, Trees}
use Rattle.lq_trees.specs.Fresh.{is_listed}
use Rattle.lq_trees.specs.Index.{Within, EachWithin}
use Rattle.lq_trees.specs.Hypotheses.{HoldsOnly, EachHoldsOnly}
use Rattle.lq_terms.specs.declared.nodes.Hypothesis.{Hypothesis}
use Rattle.lq_terms.specs.declared.nodes.TermId.{TermId}
use Rattle.lq_terms.specs.Terms.{Terms, HasTerm, text_of, tree_of}
use Rattle.lq_terms.specs.Contexts.{HasContext, context_of}
use Rattle.lq_solving.specs.Stores.{Assigned, names_in, names_at, find_value}
use Rattle.lq_solving.specs.Kept.{IsOver, EachIsOver, IsContext, IsStore}
use Rattle.lq_evars.specs.Places.{Places, store_of, HasStore}
use Rattle.lq_unify_rows.specs.Declaring.{Declarations, IsDeclared}

-- the store, the hypotheses and the declarations lie in the bank, and are as the calls keep them
pub record IsScene (bank : Terms) (s : Places) (hs : List Hypothesis) (d : Declarations) : Type 0 where
  pub store : HasStore bank s
  pub kept : IsStore (store_of bank s)
  pub hypotheses : HasContext bank hs
  pub context : IsContext (store_of bank s) (context_of bank hs)
  pub rules : IsDeclared bank d

-- fewer bound variables than the depth are loose in a term, it holds hypotheses of the context alone, and variables of the store with
-- as many entries as they have hypotheses
abbrev pub IsSeen : Terms → Places → List Hypothesis → ℕ → Tree → Type 0
IsSeen bank s hs depth t = Within depth t × HoldsOnly (names_in (context_of bank hs)) t × IsOver (store_of bank s).variables t

abbrev pub EachIsSeen : Terms → Places → List Hypothesis → ℕ → Trees → Type 0
EachIsSeen bank s hs depth ts = EachWithin depth ts × EachHoldsOnly (names_in (context_of bank hs)) ts × EachIsOver (store_of bank s).variables ts

-- the variable is one of the store, and has so many hypotheses
abbrev pub Takes : Terms → Places → ℕ → ℕ → Type 0
Takes bank s n many = (n < length (store_of bank s).variables) × (many ≡ length (names_at (store_of bank s).variables n))

-- no variable of a term has a value, and none is variable k
abbrev mutual
  pub IsFree : List Assigned → ℕ → Tree → Type 0
  IsFree as_ k (Tree.Rel i) = Unit {0}
  IsFree as_ k (Tree.Var x) = Unit {0}
  IsFree as_ k (Tree.Sort s) = Unit {0}
  IsFree as_ k (Tree.Prod x A B) = IsFree as_ k A × IsFree as_ k B
  IsFree as_ k (Tree.Lam x A t) = IsFree as_ k A × IsFree as_ k t
  IsFree as_ k (Tree.Let x v A t) = IsFree as_ k v × IsFree as_ k A × IsFree as_ k t
  IsFree as_ k (Tree.App f a) = IsFree as_ k f × IsFree as_ k a
  IsFree as_ k (Tree.Const c) = Unit {0}
  IsFree as_ k (Tree.Ind c) = Unit {0}
  IsFree as_ k (Tree.Ctor c i) = Unit {0}
  IsFree as_ k (Tree.Elim c s) = Unit {0}
  IsFree as_ k (Tree.Evar n ts) = (find_value as_ n ≡ None) × (eqb k n ≡ false) × EachIsFree as_ k ts

  pub EachIsFree : List Assigned → ℕ → Trees → Type 0
  EachIsFree as_ k Trees.none = Unit {0}
  EachIsFree as_ k (Trees.more t ts) = IsFree as_ k t × EachIsFree as_ k ts

-- a body that may be there is seen so
abbrev pub BodyIsSeen : Terms → Places → List Hypothesis → Option TermId → Type 0
BodyIsSeen bank s hs None = Unit {0}
BodyIsSeen bank s hs (Some t) = IsSeen bank s hs 0 (tree_of bank t)

-- a hypothesis may come next
pub record MayCome (bank : Terms) (s : Places) (hs : List Hypothesis) (h : Hypothesis) : Type 0 where
  pub new : is_listed (names_in (context_of bank hs)) (text_of bank h.name) ≡ false
  pub body : BodyIsSeen bank s hs h.body
  pub kind : IsSeen bank s hs 0 (tree_of bank h.kind)

-- values that rows want: numbers of variables with terms of the bank
abbrev pub HasWanted : Terms → List (ℕ × TermId) → Type 0
HasWanted bank ws = AllByRecursion (λ w. HasTerm bank w.1) ws
