use Rattle.lq_terms.specs.Terms.{tree_of}
use Rattle.lq_env.specs.Families.{constructors_of}
use Rattle.lq_evars.specs.Places.{store_of}
use Rattle.lq_evars.proofs.Growing.{HasStore-grown}
use Rattle.lq_goals.proofs.Viewing.{kept_grown}
use Rattle.lq_sessions.specs.Declaring.{terms_of}
use Rattle.lq_declaring.proofs.ConstantLaws.{passes_first}
use Rattle.lq_declaring.proofs.FamilyLaws.{can_read_each, all_read_of, all_passes}
use Rattle.lq_declaring.proofs.families.all_read.Goals as goal

pub returns-in-Err-clause-read : goal.returns-in-Err-clause-read
returns-in-Err-clause-read c =
    passes_first c.read.new.bank (store_of c.args.bank.now c.args.store.now) c.in-Err.fault (tree_of c.args.bank.now c.args.arity) (terms_of (constructors_of c.args.bank.now c.args.constructors.now)) c.in-Err.ensures.answer

pub each_read-requires-clause-store : goal.each_read-requires-clause-store
each_read-requires-clause-store c = HasStore-grown c.args.bank.now c.read.new.bank c.in-Ok.ensures.grows c.args.store.now c.requires.store

pub each_read-requires-clause-kept : goal.each_read-requires-clause-kept
each_read-requires-clause-kept c = kept_grown c.args.bank.now c.read.new.bank c.in-Ok.ensures.grows c.args.store.now c.requires.store c.requires.kept

pub each_read-requires-clause-constructors : goal.each_read-requires-clause-constructors
each_read-requires-clause-constructors c = (can_read_each c.args.bank.now c.read.new.bank c.in-Ok.ensures.grows c.args.store.now c.requires.store c.args.constructors.now c.requires.constructors).0

pub returns-in-Ok-each_read-clause-read : goal.returns-in-Ok-each_read-clause-read
returns-in-Ok-each_read-clause-read c =
    (all_read_of c.args.bank.now c.read.new.bank c.each_read.new.bank c.in-Ok.ensures.grows c.in-Ok-each_read.ensures.grows c.args.store.now c.requires.store c.requires.kept c.args.arity c.in-Ok.read c.requires.arity
    c.args.constructors.now c.in-Ok-each_read.constructors c.requires.constructors c.in-Ok.ensures.answer c.in-Ok-each_read.ensures.read).0

pub returns-in-Ok-each_read-clause-scoped : goal.returns-in-Ok-each_read-clause-scoped
returns-in-Ok-each_read-clause-scoped c =
    (all_read_of c.args.bank.now c.read.new.bank c.each_read.new.bank c.in-Ok.ensures.grows c.in-Ok-each_read.ensures.grows c.args.store.now c.requires.store c.requires.kept c.args.arity c.in-Ok.read c.requires.arity
    c.args.constructors.now c.in-Ok-each_read.constructors c.requires.constructors c.in-Ok.ensures.answer c.in-Ok-each_read.ensures.read).1

pub returns-in-Err-each_read-clause-read : goal.returns-in-Err-each_read-clause-read
returns-in-Err-each_read-clause-read c =
    all_passes c.args.bank.now c.read.new.bank c.each_read.new.bank c.in-Ok.ensures.grows c.args.store.now c.requires.store c.args.arity c.in-Ok.read c.args.constructors.now c.requires.constructors c.in-Err-each_read.fault
    c.in-Ok.ensures.answer c.in-Err-each_read.ensures.read
