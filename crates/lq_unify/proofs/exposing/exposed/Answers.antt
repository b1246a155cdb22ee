use Rattle.std.proofs.Common.{◌∙◌, sym}
use Rattle.std.proofs.Common.{subst as along}
use Rattle.lq_terms.specs.Terms.{tree_of}
use Rattle.lq_terms.proofs.Growth.{Grows-trans}
use Rattle.lq_solving.specs.Kept.{IsStore}
use Rattle.lq_evars.specs.Places.{store_of}
use Rattle.lq_evars.proofs.Growing.{store_of-grown}
use Rattle.lq_unify.specs.Heads.{HasOpenHead}
use Rattle.lq_unify.specs.Exposing.{IsOfStore, IsUnfolded}
use Rattle.lq_unify.proofs.exposing.exposed.Goals as goal

pub unfolded-requires-clause-kept : goal.unfolded-requires-clause-kept
unfolded-requires-clause-kept c = along IsStore (sym (store_of-grown c.args.bank.now c.loop-next.bank c.loop-next.invariant.grows c.args.store.now c.requires.store)) c.requires.kept

pub unfolded-requires-clause-term : goal.unfolded-requires-clause-term
unfolded-requires-clause-term c = along (λ z. IsOfStore c.loop-next.bank z c.loop-next.exposed) (sym (store_of-grown c.args.bank.now c.loop-next.bank c.loop-next.invariant.grows c.args.store.now c.requires.store)) c.loop-next.invariant.term

pub loop-next-smaller : goal.loop-next-smaller
loop-next-smaller c = (along (λ z. IsUnfolded z (tree_of c.loop-next.bank c.loop-next.exposed) c.unfolded.new.bank c.in-Some.next) (store_of-grown c.args.bank.now c.loop-next.bank c.loop-next.invariant.grows c.args.store.now c.requires.store) (rw c.in-Some.is at c.in_ok-next.ensures.unfolded)).falls

pub loop-next-preserved : goal.loop-next-preserved
loop-next-preserved c =
    let u : IsUnfolded (store_of c.args.bank.now c.args.store.now) (tree_of c.loop-next.bank c.loop-next.exposed) c.unfolded.new.bank c.in-Some.next =
    along (λ z. IsUnfolded z (tree_of c.loop-next.bank c.loop-next.exposed) c.unfolded.new.bank c.in-Some.next) (store_of-grown c.args.bank.now c.loop-next.bank c.loop-next.invariant.grows c.args.store.now c.requires.store) (rw c.in-Some.is at c.in_ok-next.ensures.unfolded) in record {
      grows = Grows-trans c.args.bank.now c.loop-next.bank c.unfolded.new.bank c.loop-next.invariant.grows c.in_ok-next.ensures.grows;
      term = u.term;
      reads = u.reads ∙ c.loop-next.invariant.reads;
    }

pub returns-clause-open : goal.returns-clause-open
returns-clause-open c =
    along (HasOpenHead (store_of c.args.bank.now c.args.store.now).values) (sym (c.in_ok-next.ensures.grows.tree c.loop-next.exposed c.loop-next.invariant.term.has))
    (along (λ z. HasOpenHead z.values (tree_of c.loop-next.bank c.loop-next.exposed)) (store_of-grown c.args.bank.now c.loop-next.bank c.loop-next.invariant.grows c.args.store.now c.requires.store) (rw c.in_default.is at c.in_ok-next.ensures.open))
