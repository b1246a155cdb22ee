use Rattle.std.proofs.Common.{◌∙◌, ◌∷◌, [], ◌++◌, sym, ap, subst, get_or}
use Rattle.std.proofs.lemmas.List.{take_more}
use Rattle.lq_env.proofs.Loops.{no_hypothesis}
use Rattle.lq_kernel.specs.Closed.{IsContext}
use Rattle.lq_kernel.proofs.LookLaws.{scoped_at}
use Rattle.lq_kernel.proofs.TelescopeLaws.{before_scoped, known_later, known_refused, known_end}
use Rattle.lq_kernel.proofs.families.known_context.Goals as goal

pub known-requires-clause-context : goal.known-requires-clause-context
known-requires-clause-context c =
    let i = c.loop-hypothesis.invariant in
    subst (IsContext c.args.bank.now) (sym (c.hypotheses.ensures ∙ i.before))
    (before_scoped c.args.bank.now c.hypotheses-hypothesis-items.result.now c.loop-hypothesis.hypothesis-index (subst (IsContext c.args.bank.now) (sym i.items) c.requires))

pub known-requires-clause-term : goal.known-requires-clause-term
known-requires-clause-term c =
    let i = c.loop-hypothesis.invariant in
    (scoped_at c.args.bank.now c.hypotheses-hypothesis-items.result.now c.loop-hypothesis.hypothesis-index no_hypothesis (subst (IsContext c.args.bank.now) (sym i.items) c.requires) c.loop-hypothesis-test.true).kind.has

pub returns-in_err-known : goal.returns-in_err-known
returns-in_err-known c =
    let i = c.loop-hypothesis.invariant in
    known_refused c.args.bank.now c.hypotheses-hypothesis-items.result.now c.loop-hypothesis.hypothesis-index no_hypothesis c.loop-hypothesis-test.true i.so_far c.hypotheses.result.now c.args.telescope.now c.from_residual.result c.in_err-known.field-0.0 (c.hypotheses.ensures ∙ i.before) i.items c.from_residual.ensures.1 c.in_err-known.ensures

pub loop-hypothesis-preserved : goal.loop-hypothesis-preserved
loop-hypothesis-preserved c =
    let i = c.loop-hypothesis.invariant in record {
      items = i.items;
      before = c.in_ok-push.ensures.ok ∙ ap (λ ys. ys ++ get_or c.hypotheses-hypothesis-items.result.now c.loop-hypothesis.hypothesis-index no_hypothesis ∷ []) i.before ∙ sym (take_more c.hypotheses-hypothesis-items.result.now c.loop-hypothesis.hypothesis-index no_hypothesis c.loop-hypothesis-test.true);
      so_far = known_later c.args.bank.now c.hypotheses-hypothesis-items.result.now c.loop-hypothesis.hypothesis-index no_hypothesis c.loop-hypothesis-test.true i.so_far c.hypotheses.result.now c.in_ok-known.field-0 (c.hypotheses.ensures ∙ i.before) c.in_ok-known.ensures;
    }

pub returns : goal.returns
returns c =
    let i = c.loop-hypothesis.invariant in
    known_end c.args.bank.now c.hypotheses-hypothesis-items.result.now c.args.telescope.now c.loop-hypothesis.hypothesis-index c.loop-hypothesis-test.false i.items i.so_far
