use Rattle.std.proofs.Common.{sym, subst}
use Rattle.lq_terms.specs.Terms.{tree_of}
use Rattle.lq_terms.proofs.Growth.{Grows-refl, Grows-trans}
use Rattle.lq_declaring.specs.Rows.{IsOnWay}
use Rattle.lq_declaring.proofs.WayLaws.{way_begins, way_falls, way_goes, way_ends}
use Rattle.lq_declaring.proofs.rows.gone_through.Goals as goal

pub loop-binder-init : goal.loop-binder-init
loop-binder-init c = record {
  way = subst (λ hs. IsOnWay c.args.bank.now hs (tree_of c.args.bank.now c.args.term) c.args.term) (sym c.requires.binders) (way_begins c.args.bank.now c.args.term c.requires.term);
  grows = Grows-refl c.args.bank.now;
}

pub loop-binder-smaller : goal.loop-binder-smaller
loop-binder-smaller c =
    way_falls c.loop-binder.bank c.entered.new.bank c.loop-binder.binders c.entered.new.binders c.loop-binder.rest c.in_ok-rest.rest c.in-Some.binder c.in-Some.kind c.in-Some.inner
    c.in-Some.ensures c.in_ok-rest.ensures.entered

pub loop-binder-preserved : goal.loop-binder-preserved
loop-binder-preserved c = record {
  way =
      way_goes c.loop-binder.bank c.entered.new.bank c.loop-binder.binders c.entered.new.binders (tree_of c.args.bank.now c.args.term) c.loop-binder.rest c.in_ok-rest.rest c.in-Some.binder
      c.in-Some.kind c.in-Some.inner c.loop-binder.invariant.way c.in-Some.ensures c.in_ok-rest.ensures.entered;
  grows = Grows-trans c.args.bank.now c.loop-binder.bank c.entered.new.bank c.loop-binder.invariant.grows c.in_ok-rest.ensures.grows;
}

pub returns-clause-behind : goal.returns-clause-behind
returns-clause-behind c = way_ends c.loop-binder.bank c.loop-binder.binders (tree_of c.args.bank.now c.args.term) c.loop-binder.rest c.loop-binder.invariant.way c.in_default.ensures
