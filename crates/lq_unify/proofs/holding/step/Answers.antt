use Rattle.lq_evars.specs.Places.{store_of}
use Rattle.lq_unify.proofs.LookLaws.{build_finds, built_if}
use Rattle.lq_unify.proofs.holding.step.Goals as goal

pub build-requires-clause-known : goal.build-requires-clause-known
build-requires-clause-known c = build_finds c.args.bank.now (store_of c.args.bank.now c.args.store.now) c.requires.kept.values c.args.barred c.args.work.now.items c.args.known.now.entries c.args.item c.in-Build.term c.in-Build.is c.requires.looking

pub returns-in-Build : goal.returns-in-Build
returns-in-Build c = built_if c.args.bank.now (store_of c.args.bank.now c.args.store.now) c.requires.kept.values c.args.barred c.args.work.now.items c.args.known.now.entries c.args.item c.in-Build.term c.build.new.known.entries c.build.result c.in-Build.is c.requires.looking c.build.ensures.held c.build.ensures.covers
