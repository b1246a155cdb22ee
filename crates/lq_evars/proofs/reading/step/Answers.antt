use Rattle.lq_evars.proofs.Stepping.{build_finds, built_if}
use Rattle.lq_evars.proofs.reading.step.Goals as goal

pub build-requires : goal.build-requires
build-requires c = build_finds c.args.bank.now c.args.store.now c.args.work.now.items c.args.item c.in-Build.term c.args.known.now.entries c.in-Build.is c.requires

pub returns-in-Build-clause-stepped : goal.returns-in-Build-clause-stepped
returns-in-Build-clause-stepped c =
    built_if c.args.bank.now c.build.new.bank c.args.store.now c.args.work.now.items c.args.item c.in-Build.term c.args.known.now.entries c.build.new.known.entries c.build.result c.in-Build.is c.requires c.build.ensures.grows c.build.ensures.read c.build.ensures.covers
