use Rattle.std.proofs.Common.{map, drop, List}
use Rattle.std.specs.List.{AllByRecursion}
use Rattle.lq_trees.specs.Tree.{Name}
use Rattle.lq_terms.specs.Terms.{HasName, text_of}
use Rattle.lq_terms.specs.Contexts.{context_of}
use Rattle.lq_kernel_rows.specs.Following.{Follows}
use Rattle.lq_kernel_rows.proofs.offers.follows.Given as goal

-- all follow, if those do that are left, behind the names so far
abbrev pub invariant-loop-hypothesis : goal.invariant-loop-hypothesis
invariant-loop-hypothesis l =
    AllByRecursion (HasName l.bank) l.names.items
    × ((after : List Name) → Follows (map (text_of l.bank) l.names.items) (context_of l.bank (drop l.hypothesis-index l.context)) after → Follows (map (text_of l.bank) l.fn.names.items) (context_of l.bank l.context) after)
