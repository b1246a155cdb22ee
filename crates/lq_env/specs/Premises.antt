-- Premises of generated eliminators, as they are built.
use Rattle.std.specs.Prelude.{◌≡◌, ◌<◌, ◌≤◌, ℕ, ◌+◌, List, [], ◌∷◌, ◌++◌, length, map, reverse, codes, Option, Some, None}
use Rattle.std.specs.List.{AllByRecursion}
use Rattle.lq_trees.specs.Tree.{Name, Tree}
use Rattle.lq_trees.specs.Tree.Tree.{Rel, Prod, App}
use Rattle.lq_trees.specs.Change.{fill}
use Rattle.lq_trees.specs.Size.{size}
use Rattle.lq_terms.specs.Terms.{Terms}
use Rattle.lq_terms.specs.Changes.{variables_at}
use Rattle.lq_calculus.specs.Contraction.{apply}
use Rattle.lq_calculus.specs.Declarations.{Family, premise, premise_end, conclusion}
use Rattle.lq_env.specs.declared.family.EnvFault.{EnvFault}
use Rattle.lq_env.specs.declared.premises.Draft.{Draft}
use Rattle.lq_env.specs.Telescopes.{Binders, telescope, span}
use Rattle.lq_env.specs.Building.{HasBinder, binders_of}

-- places below a number
abbrev pub AreBelow : ℕ → List ℕ → Type 0
AreBelow n ps = AllByRecursion (λ p. p < n) ps

-- a draft lies in the bank, its places are those of its binders, and its nodes are counted
pub record IsDraft (bank : Terms) (d : Draft) : Type 0 where
  pub binders : AllByRecursion (HasBinder bank) d.binders.items
  pub places : AreBelow (length d.binders.items) d.places.items
  pub nodes : d.nodes ≡ span (binders_of bank d.binders.items)
  pub few : d.nodes ≤ 1000000

-- a fault of building comes where so many nodes are too many, or for want of memory
abbrev pub Overflows : EnvFault → ℕ → Type 0
Overflows (EnvFault.NameTaken x) n = ⊥
Overflows (EnvFault.NotPositive c k) n = ⊥
Overflows (EnvFault.NestedUse c k) n = ⊥
Overflows (EnvFault.BadResult c) n = ⊥
Overflows (EnvFault.ElimForbidden c s) n = ⊥
Overflows EnvFault.TooLarge n = 1000000 < n
Overflows EnvFault.TooDeep n = ⊥
Overflows EnvFault.NoMemory n = Unit {0}

-- the hypothesis behind a recursive argument with those indices, under n binders of the premise of constructor k: the predicate
-- at the indices, whose variables move to the places of their binders, and at the argument
unfoldable pub hypothesis_at : (k n : ℕ) → List ℕ → List Tree → Tree
hypothesis_at k n ps ts = App (apply (Rel (k + n)) (map (fill (variables_at n ps) 0) ts)) (Rel 0)

-- the premise of constructor k with some binders built and a rest of the constructor's type
unfoldable pub so_far : Family → ℕ → Binders → List ℕ → Tree → Tree
so_far f k bs ps t = telescope bs (premise f k (Rel (k + length bs)) (variables_at (length bs) ps) t)

-- binders with those of a recursive argument and of its hypothesis behind them
abbrev pub with_recursive : (k : ℕ) → Binders → List ℕ → Name → Tree → List Tree → Binders
with_recursive k bs ps x A ts = bs ++ (x, fill (variables_at (length bs) ps) 0 A) ∷ ([], hypothesis_at k (length bs + 1) ps ts) ∷ []

-- one argument is built, with its hypothesis where it is recursive
abbrev pub Advances : Family → ℕ → Binders → List ℕ → Name → Tree → Binders → List ℕ → Type 0
Advances f k bs ps x A cs qs = (rest : Tree) → so_far f k bs ps (Prod x A rest) ≡ so_far f k cs qs rest

-- a premise with that argument next is too large, or memory has ended
abbrev pub RefusesAt : Family → ℕ → Binders → List ℕ → Name → Tree → EnvFault → Type 0
RefusesAt f k bs ps x A e = (rest : Tree) → Overflows e (size (so_far f k bs ps (Prod x A rest)))

-- the end of a premise, where the rest of the constructor's type is no product, by the indices of that
abbrev pub end_by : Family → ℕ → Tree → List Tree → Tree → Option (List Tree) → Tree
end_by f k q seen t None = t
end_by f k q seen t (Some ts) = premise_end f k q (reverse seen) (map (fill seen 0) ts)

-- the binders of the premises from constructor k on
abbrev pub premise_binders : Family → (k : ℕ) → List (Name × Tree) → Binders
premise_binders f k [] = []
premise_binders f k (c ∷ cs) = ([], premise f k (Rel k) [] c.1) ∷ premise_binders f (k + 1) cs

-- an eliminator's type under the parameters, by the type of the predicate
abbrev pub eliminator_body : Family → Tree → Tree
eliminator_body f P = telescope ((codes "Q", P) ∷ premise_binders f 0 f.constructors) (conclusion f (Rel (length f.constructors)))
