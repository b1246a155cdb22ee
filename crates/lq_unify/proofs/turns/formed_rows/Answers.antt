use Rattle.std.proofs.Common.{arith, Some, None}
use Rattle.std.proofs.Common.{subst as along}
use Rattle.lq_terms.specs.Contexts.{context_of}
use Rattle.lq_terms.specs.Terms.{tree_of}
use Rattle.lq_solving.specs.Unification.{parts_by_form}
use Rattle.lq_unify.specs.Forms.{FormIs}
use Rattle.lq_unify.proofs.FrameLaws.{work_grown}
use Rattle.lq_unify.proofs.RowSteps.{pair_grown, formed_stand, formed_goes, unformed_goes}
use Rattle.lq_unify.proofs.turns.formed_rows.Goals as goal

pub returns-in_ok-wait_for-in-Some-clause-is : goal.returns-in_ok-wait_for-in-Some-clause-is
returns-in_ok-wait_for-in-Some-clause-is c = let e = (along (λ hs. FormIs c.parts_by_form.new.bank (context_of c.args.bank.now hs) (Some c.in-Some.form) (parts_by_form (context_of c.args.bank.now hs) (tree_of c.args.bank.now c.args.pair.left) (tree_of c.args.bank.now c.args.pair.right))) c.hypotheses.ensures (rw c.in-Some.is at c.in_ok-form.ensures.form)) in record {
  work = c.in_ok-wait_for-in-Some.ensures.work c.parts_by_form.new.bank c.args.context.now c.requires.mark (work_grown c.args.bank.now c.parts_by_form.new.bank c.in_ok-form.ensures.grows c.args.store.now c.args.context.now c.args.frames.now c.requires.work) (pair_grown c.args.bank.now c.parts_by_form.new.bank c.in_ok-form.ensures.grows c.args.store.now c.args.context.now c.requires.work.store c.requires.work.context c.args.pair c.requires.pair) e.0 (formed_stand c.args.bank.now c.parts_by_form.new.bank c.in_ok-form.ensures.grows c.args.store.now c.args.context.now c.args.frames.now c.requires.work c.args.pair c.requires.pair (omega (arith, c.requires.mark, c.ranges.mark.fits)) c.requires.left_open c.requires.right_open c.in-Some.form e.1);
  stands = tt;
}

pub returns-in_ok-wait_for-in-Some-clause-goes : goal.returns-in_ok-wait_for-in-Some-clause-goes
returns-in_ok-wait_for-in-Some-clause-goes c = λ r f b l h n m. let e = (along (λ hs. FormIs c.parts_by_form.new.bank (context_of c.args.bank.now hs) (Some c.in-Some.form) (parts_by_form (context_of c.args.bank.now hs) (tree_of c.args.bank.now c.args.pair.left) (tree_of c.args.bank.now c.args.pair.right))) c.hypotheses.ensures (rw c.in-Some.is at c.in_ok-form.ensures.form)) in
    formed_goes c.args.bank.now c.parts_by_form.new.bank c.in_ok-form.ensures.grows c.args.store.now c.args.context.now c.args.frames.now c.requires.work c.args.pair c.requires.pair (omega (arith, c.requires.mark, c.ranges.mark.fits)) c.requires.left_open c.requires.right_open c.in-Some.form e.1 c.args.first r f b l c.wait_for.new.frames (c.in_ok-wait_for-in-Some.ensures.waits c.parts_by_form.new.bank c.args.context.now c.requires.mark) h n m

pub returns-in-None-clause-is : goal.returns-in-None-clause-is
returns-in-None-clause-is c = c.no_row.ensures.stands c.parts_by_form.new.bank c.args.store.now c.args.context.now c.args.frames.now (work_grown c.args.bank.now c.parts_by_form.new.bank c.in_ok-form.ensures.grows c.args.store.now c.args.context.now c.args.frames.now c.requires.work) (pair_grown c.args.bank.now c.parts_by_form.new.bank c.in_ok-form.ensures.grows c.args.store.now c.args.context.now c.requires.work.store c.requires.work.context c.args.pair c.requires.pair)

pub returns-in-None-clause-goes : goal.returns-in-None-clause-goes
returns-in-None-clause-goes c = λ r f b l h n m.
    c.no_row.ensures.goes c.parts_by_form.new.bank c.args.store.now c.args.context.now c.args.frames.now r f b l (unformed_goes c.args.bank.now c.parts_by_form.new.bank c.in_ok-form.ensures.grows c.args.store.now c.args.context.now c.args.frames.now c.requires.work c.args.pair c.requires.pair (omega (arith, c.requires.mark, c.ranges.mark.fits)) c.requires.left_open c.requires.right_open c.args.first r f b l (along (λ hs. FormIs c.parts_by_form.new.bank (context_of c.args.bank.now hs) None (parts_by_form (context_of c.args.bank.now hs) (tree_of c.args.bank.now c.args.pair.left) (tree_of c.args.bank.now c.args.pair.right))) c.hypotheses.ensures (rw c.in-None.is at c.in_ok-form.ensures.form)) h n m)
