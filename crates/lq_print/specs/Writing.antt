-- How a term is written from its pieces: steps, one after another, over the terms that are left.
use Rattle.std.specs.Prelude.{ℕ, Bool, true, false, List, [], ◌∷◌, ◌++◌, nat_lt, slice_get, codes, decimal}
use Rattle.lq_trees.specs.Tree.{Name, Tree}
use Rattle.lq_calculus.specs.Declarations.{Env}
use Rattle.lq_texts.specs.Printing.{bound_name, sort_text, name_text, surface, text}
use Rattle.lq_print.specs.Spelling.{Shown, bound, named, sort, applied, product, function, local, unknown}
use Rattle.lq_print.specs.Flat.{name_for}

-- a step: a word is written; the next term is written where one of a kind is wanted; a printed binder begins; it ends
pub data Step : Type 0 where
  word : List ℕ → Step
  term : ℕ → Step
  under : Name → Step
  back : Step

-- what is written, the terms that are left, the printed binders, the nearest first
pub record Written : Type 0 where
  pub out : List ℕ
  pub trees : List Tree
  pub binders : List Name

abbrev pub further_out : List Name → List Name
further_out [] = []
further_out (b ∷ bs) = bs

-- the next term, if there is one
abbrev pub next_term : Env → ℕ → List Tree → Written → Written
next_term env k [] s = s
next_term env k (t ∷ ts) s = record { out = s.out ++ text k (surface env s.binders t); trees = ts; binders = s.binders }

abbrev pub act : Env → Step → Written → Written
act env (word w) s = record { out = s.out ++ w; trees = s.trees; binders = s.binders }
act env (term k) s = next_term env k s.trees s
act env (under y) s = record { out = s.out; trees = s.trees; binders = y ∷ s.binders }
act env back s = record { out = s.out; trees = s.trees; binders = further_out s.binders }

-- steps; the last of the list comes first
abbrev pub play : Env → List Step → Written → Written
play env [] s = s
play env (w ∷ ws) s = act env w (play env ws s)

-- brackets where they are needed: one is written at once, the other is a step
abbrev pub opening : Bool → List ℕ
opening false = []
opening true = codes "("

abbrev pub closing : Bool → List Step
closing false = []
closing true = word (codes ")") ∷ []

-- the front of a product with its printed binder, or of an arrow
abbrev pub product_front : Name → List ℕ
product_front [] = []
product_front (b ∷ bs) = codes "forall " ++ (b ∷ bs) ++ codes " : "

-- the front of a binder
abbrev pub binder_front : List ℕ → Name → List ℕ
binder_front w y = w ++ name_text y ++ codes " : "

-- what is written of a piece at once, where a kind is wanted
abbrev pub at_once : ℕ → List Name → Shown → List ℕ
at_once k bs (bound i) = bound_name (slice_get bs i)
at_once k bs (named x) = x
at_once k bs (sort s) = sort_text s
at_once k bs applied = opening (nat_lt 1 k)
at_once k bs (product o) = opening (nat_lt 0 k) ++ product_front (name_for o bs)
at_once k bs (function o) = opening (nat_lt 0 k) ++ binder_front (codes "fun ") (name_for o bs)
at_once k bs (local o) = opening (nat_lt 0 k) ++ binder_front (codes "let ") (name_for o bs)
at_once k bs (unknown n) = codes "?" ++ decimal n

-- the parts of a product, the last step first
abbrev pub product_steps : Name → List Step
product_steps [] = back ∷ term 0 ∷ under [] ∷ word (codes " -> ") ∷ term 1 ∷ []
product_steps (b ∷ bs) = back ∷ term 0 ∷ under (b ∷ bs) ∷ word (codes ", ") ∷ term 0 ∷ []

-- the steps that a piece leaves, the last one first
abbrev pub steps_for : ℕ → List Name → Shown → List Step
steps_for k bs (bound i) = []
steps_for k bs (named x) = []
steps_for k bs (sort s) = []
steps_for k bs applied = closing (nat_lt 1 k) ++ term 2 ∷ word (codes " ") ∷ term 1 ∷ []
steps_for k bs (product o) = closing (nat_lt 0 k) ++ product_steps (name_for o bs)
steps_for k bs (function o) = closing (nat_lt 0 k) ++ back ∷ term 0 ∷ under (name_for o bs) ∷ word (codes " => ") ∷ term 0 ∷ []
steps_for k bs (local o) =
    closing (nat_lt 0 k) ++ back ∷ term 0 ∷ under (name_for o bs) ∷ word (codes " in ") ∷ term 0 ∷ word (codes " := ") ∷ term 0 ∷ []
steps_for k bs (unknown n) = []
