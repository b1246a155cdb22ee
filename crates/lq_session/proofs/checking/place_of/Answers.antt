use Rattle.std.proofs.Common.{◌∙◌, subst, sym}
use Rattle.lq_session.specs.Checking.{IsPlace}
use Rattle.lq_session.proofs.CheckLaws.{place_none, place_opened}
use Rattle.lq_session.proofs.SessionLaws.{none_of}
use Rattle.lq_session.proofs.checking.place_of.Goals as goal

pub returns-in_default : goal.returns-in_default
returns-in_default c =
    subst (λ z. IsPlace c.args.bank.now c.args.session.now (c.in_ok-store.store, z)) (sym c.new-in_default.ensures)
    (place_none c.args.bank.now c.args.session.now c.in_ok-store.store (none_of c.args.session.now.opened c.in_default.not-Some) c.in_ok-store.ensures.told c.in_ok-store.ensures.variables c.in_ok-store.ensures.values)

pub returns : goal.returns
returns c =
    place_opened c.args.bank.now c.args.session.now c.in-Some.opened c.in-Some.is c.requires c.in_ok-store-2.store c.in_ok-context.context (c.in_ok-store-2.ensures ∙ c.store.ensures) c.in_ok-context.ensures
