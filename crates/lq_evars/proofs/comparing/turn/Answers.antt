use Rattle.std.proofs.Common.{subst as along}
use Rattle.lq_evars.specs.Places.{store_of}
use Rattle.lq_evars.specs.Closures.{TurnsTo, IsTurned}
use Rattle.lq_evars.proofs.Comparings.{left_turned, right_turned, none_turned}
use Rattle.lq_evars.proofs.comparing.turn.Goals as goal

pub returns-in-Some : goal.returns-in-Some
returns-in-Some c =
    left_turned c.args.bank.now (store_of c.args.bank.now c.args.store.now) c.args.links.now.items c.turned.new.links.items c.args.pair c.args.work.now.items c.push.new.self.items c.requires.pair c.requires.shallow c.in-Some.left
    (along (TurnsTo c.args.bank.now (store_of c.args.bank.now c.args.store.now) c.args.links.now.items c.turned.new.links.items c.args.pair.left) c.in-Some.is c.in_ok-left.ensures) c.in_ok-push.ensures.items

pub returns-in-Some-2 : goal.returns-in-Some-2
returns-in-Some-2 c =
    let stays = none_turned c.args.bank.now (store_of c.args.bank.now c.args.store.now) c.args.links.now.items c.turned.new.links.items c.args.pair.left c.in_ok-left.field-0 c.in_ok-left.ensures c.in_default.not-Some in
    right_turned c.args.bank.now (store_of c.args.bank.now c.args.store.now) c.args.links.now.items c.turned-2.new.links.items c.args.pair c.args.work.now.items c.push-in-Some-2.new.self.items c.requires.pair c.requires.shallow c.in-Some-2.right
    (along (λ ls. IsTurned c.args.bank.now (store_of c.args.bank.now c.args.store.now) ls c.turned-2.new.links.items c.args.pair.right c.in-Some-2.right) stays.0
    (along (TurnsTo c.args.bank.now (store_of c.args.bank.now c.args.store.now) c.turned.new.links.items c.turned-2.new.links.items c.args.pair.right) c.in-Some-2.is c.in_ok-right.ensures)) c.in_ok-push-2.ensures.items
