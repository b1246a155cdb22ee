-- The end of `apply` by its parts, for an opening with the store after its unification.
use Rattle.std.specs.Prelude.{ℕ, Bool, true, false, eqb, List, [], ◌∷◌, Option, Some, None, codes}
use Rattle.lq_trees.specs.Tree.{Name, Tree}
use Rattle.lq_trees.specs.Ticks.{gives, ◌>>=◌}
use Rattle.lq_calculus.specs.Contraction.{apply}
use Rattle.lq_solving.specs.Stores.{Store, read}
use Rattle.lq_solving.specs.Elaboration.{Found}
use Rattle.lq_states.specs.Goals.{without}
use Rattle.lq_tactics.specs.Applying.{Opening, not_opened, most_premises, dependent_in, determined, premise_terms}
use Rattle.lq_tactics.specs.Rows.{Doing, Scene, Done, done_by, told, as_goals, open_of, made_open, cannot_apply}
use Rattle.lq_prims.specs.Opening.{open_work, choose_work}

-- the binder's name of a premise, if the variable is one of the premises
unfoldable pub binder_at : List ℕ → List Name → ℕ → Option Name
binder_at (k ∷ ks) (x ∷ xs) j = elim (eqb k j) [ true ↦ Some x | false ↦ binder_at ks xs j ]
binder_at _ _ j = None

-- a binder's name, `_` where it has none
unfoldable pub or_blank : Name → Name
or_blank [] = codes "_"
or_blank (b ∷ bs) = b ∷ bs

-- the variables that were made since a store and on which a premise or the conclusion depends
abbrev pub needed_ones : Store → Opening → List ℕ
needed_ones s o = dependent_in o.store o (made_open s o.store)

-- the premises without a value, but for those
abbrev pub goals_after : Store → Opening → List ℕ
goals_after s o = without (needed_ones s o) (open_of o.store o.premises)

-- the new goals, unless a variable must be determined
unfoldable pub goals_work : Bool → Store → Opening → Doing (List ℕ)
goals_work strict s o = determined strict o.store o (needed_ones s o) >>= λ ok. gives (goals_after s o)

-- and the term applied to all premises
unfoldable pub applied_work : Scene → Bool → Store → Tree → Opening → Doing Done
applied_work c strict s t o = goals_work strict s o >>= λ ks. as_goals c o.store ks >>= λ s1. gives (done_by s1 (apply t (premise_terms c o.premises)) ks)

-- the opening of a term's type whose rest unifies with the type T, with the store after that
unfoldable pub chosen_work : Scene → Tree → Found → Doing (Option Opening)
chosen_work c T f = open_work c most_premises (not_opened f) [] >>= choose_work c T

-- what that builds, or the fault
unfoldable pub applied_if : Scene → Bool → Found → Tree → Option Opening → Doing Done
applied_if c strict f T (Some o) = applied_work c strict c.store f.term o
applied_if c strict f T None = told (read f.store f.term ∷ T ∷ []) (cannot_apply (read f.store f.term) T)
