use Rattle.std.proofs.Common.{◌∙◌, sym, ◌+◌, length}
use Rattle.lq_lex.specs.Views.{from}
use Rattle.lq_lex.proofs.CuttingLaws.{begun_starts, begun_space, begun_none, begun_other, begins_starts, begins_space, begins_none, begins_other}
use Rattle.lq_lex.proofs.cutting.sentence_start.Goals as goal

pub returns-then-not-is_space : goal.returns-then-not-is_space
returns-then-not-is_space c =
    let text = c.args.view.now.text.now in
    let loop = c.loop-turn in
    let cs = from c.args.view.now loop.at in
    let no = sym c.is_space.ensures ∙ c.if-not-is_space.true in
    (loop.invariant.same ∙ begun_starts (length text + 1) loop.turn text cs c.loop-turn-test.true no, loop.invariant.within, loop.invariant.settled ∙ begins_starts (length text + 1) loop.turn text cs c.loop-turn-test.true no)

pub returns-in-Flaw : goal.returns-in-Flaw
returns-in-Flaw c =
    let text = c.args.view.now.text.now in
    let loop = c.loop-turn in
    let cs = from c.args.view.now loop.at in
    let yes = sym c.is_space.ensures ∙ c.if-not-is_space.false in
    (loop.invariant.same ∙ begun_space (length text + 1) loop.turn text cs _ c.loop-turn-test.true yes c.in-Flaw.ensures, loop.invariant.settled ∙ begins_space (length text + 1) loop.turn text cs _ c.loop-turn-test.true yes c.in-Flaw.ensures)

pub returns-in_default : goal.returns-in_default
returns-in_default c =
    let n = length c.args.view.now.text.now + 1 in
    let loop = c.loop-turn in
    let yes = sym c.is_space.ensures ∙ c.if-not-is_space.false in (
      loop.invariant.same ∙ begun_other c.args.view.now n loop.turn loop.at c.scan.result c.loop-turn-test.true yes c.scan.ensures c.in_default.not-Space c.in_default.not-Flaw,
      loop.invariant.settled ∙ begins_other c.args.view.now n loop.turn loop.at c.scan.result c.loop-turn-test.true yes c.scan.ensures c.in_default.not-Space c.in_default.not-Flaw,
    )

pub loop-turn-preserved : goal.loop-turn-preserved
loop-turn-preserved c =
    let text = c.args.view.now.text.now in
    let loop = c.loop-turn in
    let cs = from c.args.view.now loop.at in
    let yes = sym c.is_space.ensures ∙ c.if-not-is_space.false in
    record {
      same = loop.invariant.same ∙ begun_space (length text + 1) loop.turn text cs _ c.loop-turn-test.true yes c.in-Space.ensures.0;
      settled = loop.invariant.settled ∙ begins_space (length text + 1) loop.turn text cs _ c.loop-turn-test.true yes c.in-Space.ensures.0;
      within = c.in-Space.ensures.1;
    }

pub returns : goal.returns
returns c =
    let text = c.args.view.now.text.now in
    let loop = c.loop-turn in
    let cs = from c.args.view.now loop.at in
    (loop.invariant.same ∙ begun_none (length text + 1) loop.turn text cs c.loop-turn-test.false, loop.invariant.settled ∙ begins_none (length text + 1) loop.turn text cs c.loop-turn-test.false)
