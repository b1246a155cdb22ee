use Rattle.std.proofs.Common.{sym, subst, ap, ◌∙◌, map}
use Rattle.std.specs.List.{AllByRecursion}
use Rattle.lq_terms.specs.Terms.{HasTerm, tree_of}
use Rattle.lq_terms.specs.Contexts.{HasAllOf}
use Rattle.lq_terms.proofs.Growth.{Grows-refl, Grows-trans}
use Rattle.lq_goals.proofs.Seeing.{all_at}
use Rattle.lq_goals.proofs.RootLaws.{own_none, own_has, own_on}
use Rattle.lq_prims.proofs.standing.own_entries.Goals as goal

pub loop-hypothesis-init : goal.loop-hypothesis-init
loop-hypothesis-init c = record {
  has = subst (AllByRecursion (HasTerm c.args.bank.now)) (sym c.new-entries.ensures) tt;
  own = ap (map (tree_of c.args.bank.now)) c.new-entries.ensures ∙ sym own_none;
  grows = Grows-refl c.args.bank.now;
}

pub loop-hypothesis-preserved : goal.loop-hypothesis-preserved
loop-hypothesis-preserved c = record {
  has = own_has c.loop-hypothesis.bank c.make.new.self c.make.ensures.grows c.loop-hypothesis.entries c.push.new.self c.in_ok-entry.entry c.loop-hypothesis.invariant.has c.in_ok-entry.ensures.made.has c.in_ok-push.ensures.ok;
  own =
      own_on c.args.bank.now c.loop-hypothesis.bank c.make.new.self c.loop-hypothesis.invariant.grows c.make.ensures.grows c.args.context.now c.loop-hypothesis.hypothesis-index _ c.loop-hypothesis-test.true
      (all_at (HasAllOf c.args.bank.now) c.args.context.now c.loop-hypothesis.hypothesis-index _ c.loop-hypothesis-test.true c.requires)
      c.loop-hypothesis.entries c.push.new.self c.in_ok-entry.entry c.loop-hypothesis.invariant.has c.loop-hypothesis.invariant.own c.in_ok-entry.ensures.made.is c.in_ok-push.ensures.ok;
  grows = Grows-trans c.args.bank.now c.loop-hypothesis.bank c.make.new.self c.loop-hypothesis.invariant.grows c.make.ensures.grows;
}
