-- Printed terms: names, sorts and products.
use Rattle.std.specs.Prelude.{ℕ, ◌+◌, ◌==◌, ◌||◌, Bool, true, false, List, [], ◌∷◌, ◌++◌, slice_get, Option, Some, None, codes, decimal}
use Rattle.lq_trees.specs.Tree.{Name, Tree}
use Rattle.lq_trees.specs.Tree.Tree.{Rel, Var, Sort, Prod, Const}
use Rattle.lq_trees.specs.declared.Sort.{Sort as Universe}
use Rattle.lq_trees.specs.Fresh.{fresh_of}

-- whether the bound variable of that number occurs
unfoldable pub uses : ℕ → Tree → Bool
uses n (Rel i) = n == i
uses n (Prod x A B) = uses n A || uses (n + 1) B
uses n _ = false

-- the hypotheses and constants that occur
unfoldable pub names_in : Tree → List Name
names_in (Var x) = x ∷ []
names_in (Const x) = x ∷ []
names_in (Prod x A B) = names_in A ++ names_in B
names_in _ = []

-- a binder's own name, `x` if it has none
unfoldable pub own_name : Name → Name
own_name [] = codes "x"
own_name (b ∷ bs) = b ∷ bs

-- the name that a used binder is printed with: its own, or the first of name0, name1 and so on, that is no hypothesis or
-- constant of the body and no printed binder round it
unfoldable pub printed_name : List Name → Name → Tree → Name
printed_name binders x body = fresh_of (names_in body ++ binders) (own_name x)

unfoldable pub sort_text : Universe → List ℕ
sort_text Universe.Base = codes "Prop"
sort_text (Universe.Level i) = codes "Type " ++ decimal i

-- the name of the binder of that number, the nearest first
unfoldable pub binder_text : Option Name → List ℕ
binder_text (Some x) = x
binder_text None = []

-- a left side of `->`: in brackets if it is a product
unfoldable pub left_side : Tree → List ℕ → List ℕ
left_side (Prod x A B) text = codes "(" ++ text ++ codes ")"
left_side _ text = text

unfoldable pub arrow_text : (left right : List ℕ) → List ℕ
arrow_text left right = left ++ codes " -> " ++ right

unfoldable pub forall_text : Name → (domain rest : List ℕ) → List ℕ
forall_text x domain rest = codes "forall " ++ x ++ codes " : " ++ domain ++ codes ", " ++ rest

-- the text of a term under printed binders of those names, the nearest first, the empty name for one that isn't used
unfoldable pub text_under : List Name → Tree → List ℕ
text_under binders (Rel i) = binder_text (slice_get binders i)
text_under binders (Var x) = x
text_under binders (Const x) = x
text_under binders (Sort s) = sort_text s
text_under binders (Prod x A B) =
    elim (uses 0 B) [
      | true ↦ forall_text (printed_name binders x B) (text_under binders A) (text_under (printed_name binders x B ∷ binders) B)
      | false ↦ arrow_text (left_side A (text_under binders A)) (text_under ([] ∷ binders) B)
    ]
text_under binders _ = []

-- the text of a term
unfoldable pub term_text : Tree → List ℕ
term_text t = text_under [] t
