use Rattle.std.proofs.Common.{refl, rules, ◌-◌, length}
use Rattle.lq_terms.specs.Terms.{HasTerm}
use Rattle.lq_terms.specs.Changes.{HasHypothesis}
use Rattle.lq_terms.proofs.Growth.{Grows-trans, Grows-refl, has-grown}
use Rattle.lq_env.proofs.Families.{HasContext-grown}
use Rattle.lq_env.proofs.Loops.{slice_fits, closed_step, has_step, no_hypothesis, context_names, length-places, all_take, all_drop}
use Rattle.lq_env.proofs.telescopes.close_kinds.Goals as goal

pub loop-i-init : goal.loop-i-init
loop-i-init c = record {
  many = length-places c.args.bank.now c.args.variables.now (length c.args.context.now) c.requires.trees;
  grown = Grows-refl c.args.bank.now;
  has = search rules;
  closed = search rules;
}

pub put-requires-clause-context : goal.put-requires-clause-context
put-requires-clause-context c =
    all_take (HasHypothesis c.loop-i.bank) c.loop-i.i c.args.context.now (context_names c.loop-i.bank c.args.context.now (HasContext-grown c.args.bank.now c.loop-i.bank c.loop-i.invariant.grown c.args.context.now c.requires.context))

pub put-requires-clause-terms : goal.put-requires-clause-terms
put-requires-clause-terms c =
    all_take (HasTerm c.loop-i.bank) _ _ (all_drop (HasTerm c.loop-i.bank) (length c.args.context.now - c.loop-i.i) c.args.variables.now (has-grown c.args.bank.now c.loop-i.bank c.args.variables.now c.loop-i.invariant.grown c.requires.variables))

pub put-requires-clause-index : goal.put-requires-clause-index
put-requires-clause-index c =
    slice_fits c.args.bank.now c.loop-i.bank c.loop-i.invariant.grown c.args.context.now c.args.variables.now c.requires.context c.requires.variables c.requires.trees
    c.loop-i.i (length c.args.context.now - c.loop-i.i) (length c.args.variables.now - (length c.args.context.now - c.loop-i.i)) no_hypothesis refl refl c.loop-i-test.true c.requires.apart c.requires.small

pub loop-i-preserved : goal.loop-i-preserved
loop-i-preserved c = record {
  many = c.loop-i.invariant.many;
  grown = Grows-trans c.args.bank.now c.loop-i.bank c.put.new.bank c.loop-i.invariant.grown c.put.ensures.grows;
  has = has_step c.args.bank.now c.loop-i.bank c.loop-i.invariant.grown c.args.context.now c.args.variables.now c.requires.context c.requires.variables c.requires.trees
      c.put.new.bank c.loop-i.binders.items c.push.new.self.items c.loop-i.i no_hypothesis c.in_ok-kind.kind c.loop-i-test.true c.put.ensures.grows c.loop-i.invariant.has c.in_ok-push.ensures.items c.in_ok-kind.ensures.put.has;
  closed = closed_step c.args.bank.now c.loop-i.bank c.loop-i.invariant.grown c.args.context.now c.args.variables.now c.requires.context c.requires.variables c.requires.trees
      c.put.new.bank c.loop-i.binders.items c.push.new.self.items c.loop-i.i (length c.args.context.now - c.loop-i.i) (length c.args.variables.now - (length c.args.context.now - c.loop-i.i)) no_hypothesis c.in_ok-kind.kind refl refl c.loop-i-test.true
      c.put.ensures.grows c.loop-i.invariant.has c.in_ok-push.ensures.items c.in_ok-kind.ensures.put c.loop-i.invariant.closed;
}
