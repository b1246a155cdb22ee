-- What is left to do while a term is written, and what holds then.
use Rattle.std.specs.Prelude.{◌≡◌, ◌<◌, ◌≤◌, ℕ, Bool, true, false, List, [], ◌∷◌, ◌++◌, map, length, reverse, codes}
use Rattle.std.specs.List.{AllByRecursion}
use Rattle.lq_trees.specs.Tree.{Name, Tree}
use Rattle.lq_calculus.specs.Declarations.{Env}
use Rattle.lq_terms.specs.Terms.{Terms}
use Rattle.lq_print.specs.declared.spelling.Spelling.{Spelling}
use Rattle.lq_print.specs.declared.steps.Sign.{Sign}
use Rattle.lq_print.specs.declared.steps.Wanted.{Wanted}
use Rattle.lq_print.specs.declared.steps.Item.{Item}
use Rattle.lq_print.specs.Tables.{text_at, AreWithin}
use Rattle.lq_print.specs.Flat.{flats}
use Rattle.lq_print.specs.Writing.{Step, word, term, under, back, play}
use Rattle.lq_print.specs.Pieces.{shown_all, IsSpelling}

-- the printed binders, the nearest first
abbrev pub printed : List Name → List ℕ → List Name
printed ts binders = map (text_at ts) (reverse binders)

abbrev pub sign_text : Sign → List ℕ
sign_text Sign.Close = codes ")"
sign_text Sign.Space = codes " "
sign_text Sign.Comma = codes ", "
sign_text Sign.Arrow = codes " -> "
sign_text Sign.Becomes = codes " => "
sign_text Sign.Value = codes " := "
sign_text Sign.In = codes " in "

-- 0 is any term, 1 an application, 2 an atom
abbrev pub kind_of : Wanted → ℕ
kind_of Wanted.Term = 0
kind_of Wanted.Application = 1
kind_of Wanted.Atom = 2

-- what an item does, by the texts
abbrev pub step_in : List Name → Item → Step
step_in ts (Item.Word s) = word (sign_text s)
step_in ts (Item.Term w) = term (kind_of w)
step_in ts (Item.Under k) = under (text_at ts k)
step_in ts Item.Back = back

abbrev pub steps_in : List Name → List Item → List Step
steps_in ts items = map (step_in ts) items

-- a name is one of the texts
abbrev pub HasItem : List Name → Item → Type 0
HasItem ts (Item.Word s) = Unit {0}
HasItem ts (Item.Term w) = Unit {0}
HasItem ts (Item.Under k) = k < length ts
HasItem ts Item.Back = Unit {0}

-- the items that close brackets
abbrev pub closing_items : Bool → List Item
closing_items false = []
closing_items true = Item.Word Sign.Close ∷ []

-- the items behind a binder of that name: its type, a sign, what is under it
abbrev pub binder_items : ℕ → Sign → Wanted → List Item
binder_items k s w = Item.Back ∷ Item.Term Wanted.Term ∷ Item.Under k ∷ Item.Word s ∷ Item.Term w ∷ []

-- those of a product by the printed name
abbrev pub product_items : Name → ℕ → List Item
product_items [] k = binder_items k Sign.Arrow Wanted.Application
product_items (b ∷ bs) k = binder_items k Sign.Comma Wanted.Term

-- those of a local definition
abbrev pub local_items : ℕ → List Item
local_items k = Item.Back ∷ Item.Term Wanted.Term ∷ Item.Under k ∷ Item.Word Sign.In ∷ Item.Term Wanted.Term ∷ Item.Word Sign.Value ∷ Item.Term Wanted.Term ∷ []

abbrev pub application_items : List Item
application_items = Item.Term Wanted.Atom ∷ Item.Word Sign.Space ∷ Item.Term Wanted.Application ∷ []

-- what has a place among the texts while a term is written
pub record HasPage (bank : Terms) (binders : List ℕ) (work : List Item) (s : Spelling) : Type 0 where
  pub spelling : IsSpelling bank s
  pub names : AreWithin s.texts binders
  pub items : AllByRecursion (HasItem s.texts) work

-- what is written and what is left come to that text
pub record Writes (bank : Terms) (env : Env) (goal : List ℕ) (out : List ℕ) (binders : List ℕ) (work : List Item) (s : Spelling) : Type 0 where
  pub trees : List Tree
  pub pieces : shown_all bank s.texts s.names.items s.pieces.items ≡ flats env trees
  pub same : (play env (steps_in s.texts work) (record { out = out; trees = trees; binders = printed s.texts binders })).out ≡ goal

-- items were put on that do these steps
pub record Puts (ts : List Name) (old new : List Item) (steps : List Step) : Type 0 where
  pub added : List Item
  pub is : new ≡ old ++ added
  pub has : AllByRecursion (HasItem ts) added
  pub are : steps_in ts added ≡ steps
  pub few : length added ≤ 8
