-- Terms and declarations that rows are about.
use Rattle.std.specs.Prelude.{ℕ, List, [], ◌∷◌, map, codes, true, None}
use Rattle.lq_trees.specs.declared.Sort.{Sort as Universe}
use Rattle.lq_trees.specs.Tree.{Tree}
use Rattle.lq_trees.specs.Tree.Tree.{Rel, Var, Sort, Prod, Lam, Let, App, Ind}
use Rattle.lq_calculus.specs.Declarations.{Env, constant, Family, family_entries}
use Rattle.lq_texts.specs.Printing.{term_text}

abbrev pub base : Tree
base = Sort Universe.Base

abbrev pub at_level : ℕ → Tree
at_level i = Sort (Universe.Level i)

-- hypotheses
abbrev pub a_ : Tree
a_ = Var (codes "a")

abbrev pub b_ : Tree
b_ = Var (codes "b")

abbrev pub f_ : Tree
f_ = Var (codes "f")

-- `forall x : Prop, x`, `a -> b`, `fun x : Prop => x`, `let x : Prop := a in x`
abbrev pub every : Tree
every = Prod (codes "x") base (Rel 0)

abbrev pub arrow : Tree
arrow = Prod (codes "y") a_ b_

abbrev pub same : Tree
same = Lam (codes "x") base (Rel 0)

abbrev pub local : Tree
local = Let (codes "x") a_ base (Rel 0)

-- the texts of terms over no declarations
abbrev pub texts : List Tree → List (List ℕ)
texts ts = map (term_text []) ts

-- `id`, a constant
abbrev pub identity : Env
identity = (codes "id", constant (Prod (codes "A") base (Prod [] (Rel 0) (Rel 1))) (Lam (codes "A") base (Lam (codes "x") (Rel 0) (Rel 0))) true) ∷ []

-- `or A`, a family in Prop with the constructors `one` and `two`, of which the first has an argument
abbrev pub either : Family
either = record {
  name = codes "or";
  parameters = record { name = codes "A"; body = None; kind = base } ∷ [];
  indices = [];
  sort = Universe.Base;
  constructors =
      (codes "one", Prod [] (Var (codes "A")) (App (Ind (codes "or")) (Var (codes "A")))) ∷ (codes "two", App (Ind (codes "or")) (Var (codes "A"))) ∷ [];
}

-- it is eliminated into Prop alone
abbrev pub choices : Env
choices = family_entries either (Universe.Base ∷ [])
