use Rattle.std.proofs.Common.{map, sym, ◌∙◌}
use Rattle.lq_terms.specs.Terms.{text_of}
use Rattle.lq_words.proofs.Looks.{no_body, names_in_front, in_front, context_at}
use Rattle.lq_kernel_rows.proofs.Following.{follows_step, follows_end}
use Rattle.lq_kernel_rows.proofs.offers.follows.Goals as goal

pub loop-hypothesis-preserved : goal.loop-hypothesis-preserved
loop-hypothesis-preserved c =
    let items = c.in_ok-insert.ensures.items ∙ in_front c.loop-hypothesis.names.items _ in
    let has = context_at c.args.bank.now c.args.context.now c.loop-hypothesis.hypothesis-index _ c.requires.context c.loop-hypothesis-test.true in (
      names_in_front c.args.bank.now c.loop-hypothesis.names.items c.insert.new.self.items _ items c.loop-hypothesis.invariant.0 has.name,
      λ after r.
          c.loop-hypothesis.invariant.1 after
          (follows_step c.args.bank.now c.loop-hypothesis.names.items c.deref.result.now c.insert.new.self.items c.args.context.now c.loop-hypothesis.hypothesis-index _ after c.deref.ensures.value
          items c.loop-hypothesis-test.true (no_body _ (sym c.is_some.ensures ∙ c.if-is_some.false)) (sym c.listed.ensures ∙ c.if-listed.false) (c.is_scoped.ensures c.if-not-is_scoped.false) r),
    )

pub returns-clause-follows : goal.returns-clause-follows
returns-clause-follows c =
    λ e. c.loop-hypothesis.invariant.1 _ (follows_end c.args.bank.now (map (text_of c.args.bank.now) c.loop-hypothesis.names.items) c.args.context.now c.loop-hypothesis.hypothesis-index c.loop-hypothesis-test.false)
