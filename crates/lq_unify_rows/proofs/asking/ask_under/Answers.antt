use Rattle.lq_terms.proofs.Growth.{Grows-trans}
use Rattle.lq_unify_rows.proofs.Keeping.{scene-grown}
use Rattle.lq_unify_rows.proofs.asking.ask_under.Goals as goal

pub told-requires-clause-scene : goal.told-requires-clause-scene
told-requires-clause-scene c =
    scene-grown c.args.bank.now c.wanted_of.new.bank c.args.store.now c.args.context.now c.args.declared.now (Grows-trans c.args.bank.now c.pair_of.new.bank c.wanted_of.new.bank c.in_ok-pair.ensures.grows c.in_ok-wanted.ensures.grows)
    c.requires.scene
