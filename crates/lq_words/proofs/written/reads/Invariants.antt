use Rattle.std.proofs.Common.{map, drop, List}
use Rattle.std.specs.List.{AllByRecursion}
use Rattle.lq_trees.specs.Tree.{Name}
use Rattle.lq_terms.specs.Terms.{HasName, text_of}
use Rattle.lq_terms.specs.Contexts.{context_of}
use Rattle.lq_words.specs.Looks.{Reads}
use Rattle.lq_words.proofs.written.reads.Given as goal

-- all stand, if those do that are left, behind the names so far
abbrev pub invariant-loop-hypothesis : goal.invariant-loop-hypothesis
invariant-loop-hypothesis l =
    AllByRecursion (HasName l.bank) l.names.items
    × ((after : List Name) → Reads (map (text_of l.bank) l.names.items) (context_of l.bank (drop l.hypothesis-index l.context)) after → Reads (map (text_of l.bank) l.fn.names.items) (context_of l.bank l.context) after)
