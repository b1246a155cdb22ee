-- What a look at a family that is offered finds.
use Rattle.std.specs.Prelude.{◌≡◌, List}
use Rattle.std.specs.List.{AllByRecursion}
use Rattle.lq_trees.specs.Tree.{Name, Context}
use Rattle.lq_trees.specs.Index.{Within}
use Rattle.lq_terms.specs.declared.nodes.NameId.{NameId}
use Rattle.lq_terms.specs.declared.nodes.TermId.{TermId}
use Rattle.lq_terms.specs.Terms.{Terms}
use Rattle.lq_env.specs.Families.{constructors_of, names_behind}
use Rattle.lq_kernel.specs.Declaring.{IsOfferedBehind}

-- a context is offered behind those names, and gives these
abbrev pub Follows : List Name → Context → List Name → Type 0
Follows names g after = IsOfferedBehind names g × (after ≡ names_behind names g)

-- no constructor's type has loose bound variables
abbrev pub EachScoped : Terms → List (NameId × TermId) → Type 0
EachScoped bank cs = AllByRecursion (λ c. Within 0 c.1) (constructors_of bank cs)
