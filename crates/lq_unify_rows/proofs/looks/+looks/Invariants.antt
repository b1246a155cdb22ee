use Rattle.std.proofs.Common.{◌+◌, ◌*◌, drop}
use Rattle.lq_terms.specs.Terms.{tree_of, trees_by}
use Rattle.lq_unify_rows.specs.Scenes.{EachIsSeen}
use Rattle.lq_unify_rows.proofs.looks.+looks.Given as goal

abbrev pub decreases-each_stands : goal.decreases-each_stands
decreases-each_stands l = 2 * l.whole.place

abbrev pub decreases-stands : goal.decreases-stands
decreases-stands l = 2 * l.term.place + 1

-- all stand, if those do that are left
abbrev pub invariant-each_stands-loop-part : goal.invariant-each_stands-loop-part
invariant-each_stands-loop-part l =
    EachIsSeen l.bank l.store l.hypotheses l.depth (trees_by (tree_of l.bank) (drop l.part-index l.parts)) → EachIsSeen l.bank l.store l.hypotheses l.depth (trees_by (tree_of l.bank) l.parts)
