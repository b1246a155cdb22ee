use Rattle.std.proofs.Common.{◌≡◌, ℕ, refl, sym, subst, List, [], ◌∷◌, Bool, true, false}
use Rattle.lq_trees.specs.declared.Sort.{Sort as Universe}
use Rattle.lq_calculus.specs.Declarations.{is_small, permitted, sorts}
use Rattle.lq_kernel.specs.Declaring.{IsEverywhere}
use Rattle.lq_kernel.proofs.declaring.is_permitted_everywhere.Goals as goal

either : (b : Bool) → IsEverywhere b (elim b as (λ z. List Universe) [ true ↦ sorts | false ↦ Universe.Base ∷ [] ])
either true = refl
either false = refl

by_smallness : (small : Bool) (found : List (List Universe)) → small ≡ is_small found → IsEverywhere small (permitted Universe.Base found)
unfolding permitted
by_smallness small found e = subst (λ b. IsEverywhere small (elim b as (λ z. List Universe) [ true ↦ sorts | false ↦ Universe.Base ∷ [] ])) e (either small)

pub returns-in-Base : goal.returns-in-Base
returns-in-Base c found e = subst (λ s. IsEverywhere c.args.small (permitted s found)) (sym c.in-Base.is) (by_smallness c.args.small found e)

level_everywhere : (i : ℕ) (found : List (List Universe)) → IsEverywhere true (permitted (Universe.Level i) found)
unfolding permitted
level_everywhere i found = refl

pub returns-in-Level : goal.returns-in-Level
returns-in-Level c found e = subst (λ s. IsEverywhere true (permitted s found)) (sym c.in-Level.is) (level_everywhere c.in-Level.field-0 found)
