use Rattle.lq_unify.proofs.CallLaws.{first_work, first_pair, unchanged}
use Rattle.lq_unify.proofs.unifying.unify.Goals as goal

pub started-requires-clause-work : goal.started-requires-clause-work
started-requires-clause-work g c = first_work c.args.work.now.bank.now c.args.store.now c.args.context.now c.requires.store c.requires.kept c.requires.context

pub started-requires-clause-pair : goal.started-requires-clause-pair
started-requires-clause-pair g c = first_pair c.args.work.now.bank.now c.args.store.now c.args.context.now _ c.requires.hypotheses c.requires.left c.requires.left_stands c.requires.right c.requires.right_stands

pub returns-in-Ok-true-clause-equal : goal.returns-in-Ok-true-clause-equal
returns-in-Ok-true-clause-equal g c = λ r tells plain e. (c.in-Ok-true.ensures.sound r tells plain c.in-Ok-true.field-0-test).1

pub returns-in-Ok-true-clause-later : goal.returns-in-Ok-true-clause-later
returns-in-Ok-true-clause-later g c = (c.in-Ok-true.ensures.sound c.requires.rules.rules c.requires.rules.tells c.requires.rules.plain c.in-Ok-true.field-0-test).0

pub returns-in-Ok-false-clause-later : goal.returns-in-Ok-false-clause-later
returns-in-Ok-false-clause-later g c =
    (unchanged c.args.work.now.bank.now c.started.new.work.bank.now c.in-Ok-false.ensures.grows c.args.store.now c.take_back.new.self c.requires.store c.requires.kept
    (c.take_back.ensures.back c.args.store.now c.in-Ok-false.ensures.more c.given-given.ensures)).later

pub returns-in-Ok-false-clause-is : goal.returns-in-Ok-false-clause-is
returns-in-Ok-false-clause-is g c =
    (unchanged c.args.work.now.bank.now c.started.new.work.bank.now c.in-Ok-false.ensures.grows c.args.store.now c.take_back.new.self c.requires.store c.requires.kept
    (c.take_back.ensures.back c.args.store.now c.in-Ok-false.ensures.more c.given-given.ensures)).kept
