use Rattle.std.proofs.Common.{◌+◌, ◌*◌, drop}
use Rattle.lq_terms.specs.Terms.{tree_of, trees_by}
use Rattle.lq_evars.specs.Places.{store_of}
use Rattle.lq_unify_rows.specs.Scenes.{EachIsFree}
use Rattle.lq_unify_rows.proofs.looks.+frees.Given as goal

abbrev pub decreases-each_is_free : goal.decreases-each_is_free
decreases-each_is_free l = 2 * l.whole.place

abbrev pub decreases-is_free : goal.decreases-is_free
decreases-is_free l = 2 * l.term.place + 1

-- all are free, if those are that are left
abbrev pub invariant-each_is_free-loop-part : goal.invariant-each_is_free-loop-part
invariant-each_is_free-loop-part l =
    EachIsFree (store_of l.bank l.store).values l.variable (trees_by (tree_of l.bank) (drop l.part-index l.parts)) → EachIsFree (store_of l.bank l.store).values l.variable (trees_by (tree_of l.bank) l.parts)
