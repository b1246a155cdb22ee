use Rattle.std.proofs.Common.{arith, ◌∙◌}
use Rattle.lq_lex.specs.Views.{from}
use Rattle.lq_lex.proofs.CommentLaws.{comment_goes, comment_over, comment_broken, comment_beyond, comment_closed, depth_bounded}
use Rattle.lq_lex.proofs.comments.comment_rest.Goals as goal

pub loop-depth-preserved : goal.loop-depth-preserved
loop-depth-preserved c =
    let loop = c.loop-depth in
    let goes = comment_goes c.args.view.now c.args.start loop.depth loop.half loop.at c.in-Letter.c c.in-Letter.next c.loop-depth-test.true c.in-Letter.ensures in
    record {
      same = loop.invariant.same ∙ rw (c.open_behind-depth.ensures, c.half_behind-half.ensures) goes;
      bounded = omega (arith, depth_bounded loop.depth loop.half c.in-Letter.c, c.open_behind-depth.ensures, c.in-Letter.ensures.1, loop.invariant.bounded);
      within = c.in-Letter.ensures.2;
    }

pub returns-in-Over : goal.returns-in-Over
returns-in-Over c =
    c.loop-depth.invariant.same ∙ comment_over c.args.view.now c.args.start c.loop-depth.depth c.loop-depth.half c.loop-depth.at c.loop-depth-test.true c.in-Over.ensures

pub returns-in-Broken : goal.returns-in-Broken
returns-in-Broken c =
    c.loop-depth.invariant.same ∙ comment_broken c.args.view.now c.args.start c.loop-depth.depth c.loop-depth.half c.loop-depth.at c.loop-depth-test.true c.in-Broken.ensures

pub returns-in-Beyond : goal.returns-in-Beyond
returns-in-Beyond c =
    c.loop-depth.invariant.same ∙ comment_beyond c.args.view.now c.args.start c.loop-depth.depth c.loop-depth.half c.loop-depth.at c.in-Beyond.field-0 c.loop-depth-test.true c.in-Beyond.ensures

pub returns : goal.returns
returns c =
    (c.loop-depth.invariant.same ∙ comment_closed c.args.start c.loop-depth.depth c.loop-depth.half (from c.args.view.now c.loop-depth.at) (omega arith), c.loop-depth.invariant.within)
