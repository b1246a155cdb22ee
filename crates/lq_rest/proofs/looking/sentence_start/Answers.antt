use Rattle.std.proofs.Common.{◌∙◌, sym, ◌+◌, [], length}
use Rattle.lq_lex.specs.Views.{from}
use Rattle.lq_rest.proofs.LookLaws.{looks_fault, stopped_inside, stopped_outside, begun_starts, begun_space, begun_none, begun_other}
use Rattle.lq_rest.proofs.looking.sentence_start.Goals as goal

pub returns-then-not-is_space : goal.returns-then-not-is_space
returns-then-not-is_space c =
    let text = c.args.whole.now.text.now in
    let loop = c.loop-turn in
    let cs = from c.args.whole.now loop.at in
    let no = sym c.is_space.ensures ∙ c.if-not-is_space.true in
    (loop.invariant.same ∙ begun_starts (length text + 1) loop.turn text cs c.loop-turn-test.true no, loop.invariant.within)

pub returns-then-is_inside : goal.returns-then-is_inside
returns-then-is_inside c =
    let text = c.args.whole.now.text.now in
    let loop = c.loop-turn in
    let cs = from c.args.whole.now loop.at in
    let yes = sym c.is_space.ensures ∙ c.if-not-is_space.false in
    looks_fault c.in-Flaw.fault _
    (loop.invariant.same ∙ begun_space (length text + 1) loop.turn text cs _ c.loop-turn-test.true yes c.in-Flaw.ensures ∙ stopped_inside text [] c.in-Flaw.fault (sym c.is_inside.ensures ∙ c.if-is_inside.true))

pub returns-else-is_inside : goal.returns-else-is_inside
returns-else-is_inside c =
    let text = c.args.whole.now.text.now in
    let loop = c.loop-turn in
    let cs = from c.args.whole.now loop.at in
    let yes = sym c.is_space.ensures ∙ c.if-not-is_space.false in
    loop.invariant.same ∙ begun_space (length text + 1) loop.turn text cs _ c.loop-turn-test.true yes c.in-Flaw.ensures ∙ stopped_outside text [] c.in-Flaw.fault (sym c.is_inside.ensures ∙ c.if-is_inside.false)

pub returns-in_default : goal.returns-in_default
returns-in_default c =
    let n = length c.args.whole.now.text.now + 1 in
    let loop = c.loop-turn in
    let yes = sym c.is_space.ensures ∙ c.if-not-is_space.false in
    loop.invariant.same ∙ begun_other c.args.whole.now n loop.turn loop.at c.scan.result c.loop-turn-test.true yes c.scan.ensures c.in_default.not-Space c.in_default.not-Flaw

pub loop-turn-preserved : goal.loop-turn-preserved
loop-turn-preserved c =
    let text = c.args.whole.now.text.now in
    let loop = c.loop-turn in
    let cs = from c.args.whole.now loop.at in
    let yes = sym c.is_space.ensures ∙ c.if-not-is_space.false in
    record { same = loop.invariant.same ∙ begun_space (length text + 1) loop.turn text cs _ c.loop-turn-test.true yes c.in-Space.ensures.0; within = c.in-Space.ensures.1 }

pub returns : goal.returns
returns c =
    let text = c.args.whole.now.text.now in
    let loop = c.loop-turn in
    loop.invariant.same ∙ begun_none (length text + 1) loop.turn text (from c.args.whole.now loop.at) c.loop-turn-test.false
