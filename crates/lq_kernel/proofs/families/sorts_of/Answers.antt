use Rattle.std.proofs.Common.{◌∙◌, ◌∷◌, [], ◌++◌, refl, sym, ap, subst, arith, take, get_or}
use Rattle.std.proofs.lemmas.List.{take_more}
use Rattle.lq_terms.specs.Terms.{tree_of}
use Rattle.lq_terms.specs.Contexts.{context_of}
use Rattle.lq_terms.proofs.Growth.{Grows-trans}
use Rattle.lq_env.specs.Environments.{env_of}
use Rattle.lq_env.proofs.Loops.{no_hypothesis}
use Rattle.lq_kernel.specs.Closed.{IsContext}
use Rattle.lq_kernel.proofs.Grown.{IsScoped-grown, IsEnv-grown, IsContext-grown, env_at, context_at, tree_at}
use Rattle.lq_kernel.proofs.LookLaws.{scoped_at}
use Rattle.lq_kernel.proofs.TelescopeLaws.{before_scoped, sorts_later, sorts_refused, sorts_end}
use Rattle.lq_kernel.proofs.families.sorts_of.Goals as goal

pub sort_in-requires-clause-env : goal.sort_in-requires-clause-env
sort_in-requires-clause-env g c = IsEnv-grown c.args.work.now.bank.now c.loop-hypothesis.work.bank.now c.loop-hypothesis.invariant.grows c.args.env.now c.requires.env

pub sort_in-requires-clause-term : goal.sort_in-requires-clause-term
sort_in-requires-clause-term g c =
    let i = c.loop-hypothesis.invariant in
    IsScoped-grown c.args.work.now.bank.now c.loop-hypothesis.work.bank.now i.grows 0 (get_or c.hypotheses-hypothesis-items.result.now c.loop-hypothesis.hypothesis-index no_hypothesis).kind
    (scoped_at c.args.work.now.bank.now c.hypotheses-hypothesis-items.result.now c.loop-hypothesis.hypothesis-index no_hypothesis (subst (IsContext c.args.work.now.bank.now) (sym i.items) c.requires.context) c.loop-hypothesis-test.true).kind

pub sort_in-requires-clause-context : goal.sort_in-requires-clause-context
sort_in-requires-clause-context g c =
    let i = c.loop-hypothesis.invariant in
    IsContext-grown c.args.work.now.bank.now c.loop-hypothesis.work.bank.now i.grows c.loop-hypothesis.before
    (subst (IsContext c.args.work.now.bank.now) (sym i.before)
    (before_scoped c.args.work.now.bank.now c.hypotheses-hypothesis-items.result.now c.loop-hypothesis.hypothesis-index (subst (IsContext c.args.work.now.bank.now) (sym i.items) c.requires.context)))

pub returns-in_err-sort_in-clause-answer : goal.returns-in_err-sort_in-clause-answer
returns-in_err-sort_in-clause-answer g c =
    let i = c.loop-hypothesis.invariant in
    let whole = subst (IsContext c.args.work.now.bank.now) (sym i.items) c.requires.context in
    sorts_refused (env_of c.args.work.now.bank.now c.args.env.now) c.args.work.now.bank.now c.hypotheses-hypothesis-items.result.now c.loop-hypothesis.hypothesis-index no_hypothesis c.loop-hypothesis-test.true c.args.work.now.ticks.now.left c.loop-hypothesis.work.ticks.now.left i.so_far
    c.sort_in.new.work.bank.now c.args.telescope.now c.from_residual.result c.in_err-sort_in.field-0.0 c.sort_in.new.work.ticks.now.left i.items c.from_residual.ensures.1
    (c.in_err-sort_in.ensures.answer (env_of c.args.work.now.bank.now c.args.env.now) (context_of c.args.work.now.bank.now (take c.loop-hypothesis.hypothesis-index c.hypotheses-hypothesis-items.result.now)) (tree_of c.args.work.now.bank.now (get_or c.hypotheses-hypothesis-items.result.now c.loop-hypothesis.hypothesis-index no_hypothesis).kind)
    (env_at c.args.work.now.bank.now c.loop-hypothesis.work.bank.now i.grows c.args.env.now _ c.requires.env refl)
    (ap (context_of c.loop-hypothesis.work.bank.now) i.before ∙ context_at c.args.work.now.bank.now c.loop-hypothesis.work.bank.now i.grows (take c.loop-hypothesis.hypothesis-index c.hypotheses-hypothesis-items.result.now) _ (before_scoped c.args.work.now.bank.now c.hypotheses-hypothesis-items.result.now c.loop-hypothesis.hypothesis-index whole) refl)
    (tree_at c.args.work.now.bank.now c.loop-hypothesis.work.bank.now i.grows _ _ (scoped_at c.args.work.now.bank.now c.hypotheses-hypothesis-items.result.now c.loop-hypothesis.hypothesis-index no_hypothesis whole c.loop-hypothesis-test.true).kind.has refl))

pub loop-hypothesis-preserved : goal.loop-hypothesis-preserved
loop-hypothesis-preserved g c =
    let i = c.loop-hypothesis.invariant in
    let whole = subst (IsContext c.args.work.now.bank.now) (sym i.items) c.requires.context in record {
      items = i.items;
      before = c.in_ok-push.ensures.ok ∙ ap (λ ys. ys ++ get_or c.hypotheses-hypothesis-items.result.now c.loop-hypothesis.hypothesis-index no_hypothesis ∷ []) (c.in_ok-sort_in.ensures.kept ∙ i.before) ∙ sym (take_more c.hypotheses-hypothesis-items.result.now c.loop-hypothesis.hypothesis-index no_hypothesis c.loop-hypothesis-test.true);
      grows = Grows-trans c.args.work.now.bank.now c.loop-hypothesis.work.bank.now c.sort_in.new.work.bank.now i.grows c.in_ok-sort_in.ensures.grows;
      so_far = sorts_later (env_of c.args.work.now.bank.now c.args.env.now) c.args.work.now.bank.now c.hypotheses-hypothesis-items.result.now c.loop-hypothesis.hypothesis-index no_hypothesis c.loop-hypothesis-test.true c.args.work.now.ticks.now.left c.loop-hypothesis.work.ticks.now.left i.so_far c.in_ok-sort_in.field-0 c.sort_in.new.work.ticks.now.left
          (c.in_ok-sort_in.ensures.answer (env_of c.args.work.now.bank.now c.args.env.now) (context_of c.args.work.now.bank.now (take c.loop-hypothesis.hypothesis-index c.hypotheses-hypothesis-items.result.now)) (tree_of c.args.work.now.bank.now (get_or c.hypotheses-hypothesis-items.result.now c.loop-hypothesis.hypothesis-index no_hypothesis).kind)
          (env_at c.args.work.now.bank.now c.loop-hypothesis.work.bank.now i.grows c.args.env.now _ c.requires.env refl)
          (ap (context_of c.loop-hypothesis.work.bank.now) i.before ∙ context_at c.args.work.now.bank.now c.loop-hypothesis.work.bank.now i.grows (take c.loop-hypothesis.hypothesis-index c.hypotheses-hypothesis-items.result.now) _ (before_scoped c.args.work.now.bank.now c.hypotheses-hypothesis-items.result.now c.loop-hypothesis.hypothesis-index whole) refl)
          (tree_at c.args.work.now.bank.now c.loop-hypothesis.work.bank.now i.grows _ _ (scoped_at c.args.work.now.bank.now c.hypotheses-hypothesis-items.result.now c.loop-hypothesis.hypothesis-index no_hypothesis whole c.loop-hypothesis-test.true).kind.has refl));
      same_bank = c.in_ok-sort_in.ensures.same_bank ∙ i.same_bank;
      same_ticks = c.in_ok-sort_in.ensures.same_ticks ∙ i.same_ticks;
      budget = c.in_ok-sort_in.ensures.budget ∙ i.budget;
      counted = omega (arith, c.in_ok-sort_in.ensures.counted, i.counted);
    }

pub returns-clause-answer : goal.returns-clause-answer
returns-clause-answer g c =
    let i = c.loop-hypothesis.invariant in
    sorts_end (env_of c.args.work.now.bank.now c.args.env.now) c.args.work.now.bank.now c.hypotheses-hypothesis-items.result.now c.args.telescope.now c.loop-hypothesis.hypothesis-index c.args.work.now.ticks.now.left c.loop-hypothesis.work.ticks.now.left c.loop-hypothesis-test.false i.items i.so_far
