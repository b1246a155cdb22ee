use Rattle.std.proofs.Common.{◌∙◌, sym, ap, arith}
use Rattle.lq_terms.specs.Terms.{tree_of}
use Rattle.lq_terms.proofs.Growth.{Grows-trans}
use Rattle.lq_unify.specs.Parts.{heft}
use Rattle.lq_unify.specs.Solutions.{place_in}
use Rattle.lq_unify.proofs.SolutionLaws.{plain_solution}
use Rattle.lq_unify.proofs.PlaceLaws.{HasPlaces-grown, AreSolved-grown, solution-grown}
use Rattle.lq_unify.proofs.ReplaceSteps.{heft_parts, part_has, part_smaller, has_more, part_more, part_none, parts_end, whole_none, whole_many, whole_some}
use Rattle.lq_unify.proofs.replacing.+replacing.Goals as goal

pub replaced_each-replaced_in-requires : goal.replaced_each-replaced_in-requires
replaced_each-replaced_in-requires t c = (
  omega (arith, part_smaller c.args.bank.now c.loop-part.bank c.loop-part.invariant.grows c.args.parts.now c.loop-part.part-index (record { place = 0 }) c.requires.parts c.loop-part-test.true),
  (
    HasPlaces-grown c.args.bank.now c.loop-part.bank c.loop-part.invariant.grows c.args.places.now.entries c.requires.places,
    (c.loop-part.invariant.known, part_has c.args.bank.now c.loop-part.bank c.loop-part.invariant.grows c.args.parts.now c.loop-part.part-index (record { place = 0 }) c.requires.parts c.loop-part-test.true),
  ),
)

pub replaced_each-returns-in_default-clause-are : goal.replaced_each-returns-in_default-clause-are
replaced_each-returns-in_default-clause-are t c =
    part_none c.args.how.barred c.args.how.stays c.args.places.now.entries c.args.bank.now c.loop-part.bank c.loop-part.invariant.grows c.requires.places c.args.parts.now c.requires.parts c.loop-part.part-index (record { place = 0 })
    c.loop-part-test.true c.loop-part.answers.items (rw c.in_default.is at c.in_ok-answer.ensures.is) c.loop-part.invariant.same

pub replaced_each-loop-part-preserved : goal.replaced_each-loop-part-preserved
replaced_each-loop-part-preserved t c = record {
  grows = Grows-trans c.args.bank.now c.loop-part.bank c.replaced_in.new.bank c.loop-part.invariant.grows c.in_ok-answer.ensures.grows;
  has = has_more c.loop-part.bank c.replaced_in.new.bank c.in_ok-answer.ensures.grows c.loop-part.answers.items c.push.new.self.items c.in-Some.answer c.loop-part.invariant.has
      (rw c.in-Some.is at c.in_ok-answer.ensures.has) c.in_ok-push.ensures.items;
  known = c.in_ok-answer.ensures.known;
  same = part_more c.args.how.barred c.args.how.stays c.args.places.now.entries c.args.bank.now c.loop-part.bank c.loop-part.invariant.grows c.requires.places c.args.parts.now c.requires.parts c.loop-part.part-index (record { place = 0 })
      c.loop-part-test.true c.replaced_in.new.bank c.in_ok-answer.ensures.grows c.loop-part.answers.items c.push.new.self.items c.in-Some.answer c.loop-part.invariant.has
      (rw c.in-Some.is at c.in_ok-answer.ensures.is) c.in_ok-push.ensures.items c.loop-part.invariant.same;
}

pub replaced_each-returns-clause-are : goal.replaced_each-returns-clause-are
replaced_each-returns-clause-are t c =
    parts_end c.args.how.barred c.args.how.stays c.args.places.now.entries c.args.bank.now c.loop-part.bank c.args.parts.now c.loop-part.answers.items c.loop-part.part-index (omega (arith, c.loop-part-test.false)) c.loop-part.invariant.same

pub replaced_in-returns-then-not-holds_unknown-clause-is : goal.replaced_in-returns-then-not-holds_unknown-clause-is
replaced_in-returns-then-not-holds_unknown-clause-is t c =
    sym (plain_solution c.args.how.barred (place_in c.args.bank.now c.args.how.stays c.args.places.now.entries) (tree_of c.args.bank.now c.args.term)
    (sym c.holds_hypothesis.ensures ∙ c.if-not-holds_hypothesis.true) (sym c.holds_unknown.ensures ∙ c.if-not-holds_unknown.true))

pub replaced_in-replaced_each-requires : goal.replaced_in-replaced_each-requires
replaced_in-replaced_each-requires t c = rw c.as_slice.ensures.value (
  omega (arith, ap heft c.in_ok-parts.ensures.are, heft_parts (tree_of c.args.bank.now c.args.term)),
  (c.requires.places, (c.requires.known, c.in_ok-parts.ensures.has)),
)

pub replaced_in-returns-in_default-2-clause-is : goal.replaced_in-returns-in_default-2-clause-is
replaced_in-returns-in_default-2-clause-is t c =
    whole_none c.args.how.barred c.args.how.stays c.args.places.now.entries c.args.bank.now c.replaced_each.new.bank c.in_ok-parts-2.ensures.grows c.args.term c.requires.term c.in_default-at_leaf.ensures.other c.in_ok-parts.parts.items
    c.in_ok-parts.ensures.are (rw (c.in_default-2.is, c.as_slice.ensures.value) at c.in_ok-parts-2.ensures.are)

pub replaced_in-with_parts-requires-clause-as_many : goal.replaced_in-with_parts-requires-clause-as_many
replaced_in-with_parts-requires-clause-as_many t c =
    rw c.as_slice-2.ensures.value
    (whole_many c.args.how.barred c.args.how.stays c.args.places.now.entries c.args.bank.now c.replaced_each.new.bank c.in_ok-parts-2.ensures.grows c.args.term c.requires.term c.in_default-at_leaf.ensures.other c.in_ok-parts.parts.items
    c.in_ok-parts.ensures.are c.in-Some-2.parts.items (rw (c.in-Some-2.is, c.as_slice.ensures.value) at c.in_ok-parts-2.ensures.are))

pub replaced_in-note-requires-clause-known : goal.replaced_in-note-requires-clause-known
replaced_in-note-requires-clause-known t c =
    AreSolved-grown c.replaced_each.new.bank c.with_parts.new.bank c.in_ok-answer.ensures.grows c.args.how.barred c.args.how.stays c.args.places.now.entries c.replaced_each.new.known.entries
    (HasPlaces-grown c.args.bank.now c.replaced_each.new.bank c.in_ok-parts-2.ensures.grows c.args.places.now.entries c.requires.places) c.in_ok-parts-2.ensures.known

pub replaced_in-returns-clause-is : goal.replaced_in-returns-clause-is
replaced_in-returns-clause-is t c =
    whole_some c.args.how.barred c.args.how.stays c.args.places.now.entries c.args.bank.now c.replaced_each.new.bank c.in_ok-parts-2.ensures.grows c.args.term c.requires.term c.in_default-at_leaf.ensures.other c.in_ok-parts.parts.items
    c.in_ok-parts.ensures.are c.with_parts.new.bank c.in-Some-2.parts.items c.in_ok-answer.answer (rw (c.in-Some-2.is, c.as_slice.ensures.value) at c.in_ok-parts-2.ensures.are) (rw c.as_slice-2.ensures.value at c.in_ok-answer.ensures.made)

pub replaced_in-note-requires-clause-is : goal.replaced_in-note-requires-clause-is
replaced_in-note-requires-clause-is t c =
    solution-grown c.args.bank.now c.with_parts.new.bank (Grows-trans c.args.bank.now c.replaced_each.new.bank c.with_parts.new.bank c.in_ok-parts-2.ensures.grows c.in_ok-answer.ensures.grows) c.args.how.barred c.args.how.stays c.args.places.now.entries
    c.args.term c.requires.places c.requires.term
    ∙ sym (whole_some c.args.how.barred c.args.how.stays c.args.places.now.entries c.args.bank.now c.replaced_each.new.bank c.in_ok-parts-2.ensures.grows c.args.term c.requires.term c.in_default-at_leaf.ensures.other c.in_ok-parts.parts.items
    c.in_ok-parts.ensures.are c.with_parts.new.bank c.in-Some-2.parts.items c.in_ok-answer.answer (rw (c.in-Some-2.is, c.as_slice.ensures.value) at c.in_ok-parts-2.ensures.are) (rw c.as_slice-2.ensures.value at c.in_ok-answer.ensures.made))
