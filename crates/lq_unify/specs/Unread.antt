-- Work that waits with terms and contexts as they are kept, and the same work of the definition: each reads as its fellow.
use Rattle.std.specs.Prelude.{◌≡◌, List, [], ◌∷◌, Option, Some, None}
use Rattle.lq_trees.specs.Tree.{Tree, Trees, Context}
use Rattle.lq_trees.specs.Tree.Tree.{Rel, Var, Sort, Prod, Lam, Let, App, Const, Ind, Ctor, Elim, Evar}
use Rattle.lq_solving.specs.Stores.{Store, read, read_context}
use Rattle.lq_solving.specs.Unification.{Sides}
use Rattle.lq_solving.specs.Waiting.{Waiting, parts, reducing}
use Rattle.lq_solving.proofs.Later.{Later}

-- two sides that read as two others, in a context that reads as the other
pub record SameSides (s : Store) (p q : Sides) : Type 0 where
  pub context : read_context s p.context ≡ read_context s q.context
  pub left : read s p.left ≡ read s q.left
  pub right : read s p.right ≡ read s q.right

-- the same of each of several
abbrev pub SameParts : Store → List Sides → List Sides → Type 0
SameParts s [] [] = Unit {0}
SameParts s (p ∷ ps) (q ∷ qs) = SameSides s p q × SameParts s ps qs
SameParts s _ _ = ⊥

-- the same of parts that may not be there
abbrev pub SameOption : Store → Option (List Sides) → Option (List Sides) → Type 0
SameOption s None None = Unit {0}
SameOption s (Some ps) (Some qs) = SameParts s ps qs
SameOption s _ _ = ⊥

-- a call that goes back to its own store after a No: the definition has the sides as read there
pub record SameCall (s0 s : Store) (g : Context) (t u : Tree) (h : Context) (T U : Tree) : Type 0 where
  pub later : Later s0 s
  pub context : read_context s0 g ≡ read_context s0 h
  pub left : T ≡ read s0 t
  pub right : U ≡ read s0 u

-- what waits, in a store: the first list has terms as they are kept, the second those of the definition
abbrev pub SameWaiting : Store → List Waiting → List Waiting → Type 0
SameWaiting s [] [] = Unit {0}
SameWaiting s (parts ps ∷ vs) (parts qs ∷ ws) = SameParts s ps qs × SameWaiting s vs ws
SameWaiting s (reducing g s0 t u ∷ vs) (reducing h s1 T U ∷ ws) = (s1 ≡ s0) × SameCall s0 s g t u h T U × SameWaiting s0 vs ws
SameWaiting s _ _ = ⊥

-- a tree whose parts are changed and whose form stays
unfoldable pub formed : (Tree → Tree) → (Trees → Trees) → Tree → Tree
formed f fs (Rel i) = Rel i
formed f fs (Var x) = Var x
formed f fs (Sort s) = Sort s
formed f fs (Prod x A B) = Prod x (f A) (f B)
formed f fs (Lam x A t) = Lam x (f A) (f t)
formed f fs (Let x v A t) = Let x (f v) (f A) (f t)
formed f fs (App g a) = App (f g) (f a)
formed f fs (Const c) = Const c
formed f fs (Ind c) = Ind c
formed f fs (Ctor c k) = Ctor c k
formed f fs (Elim c s) = Elim c s
formed f fs (Evar n ts) = Evar n (fs ts)
