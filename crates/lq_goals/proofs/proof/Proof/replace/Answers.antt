use Rattle.std.proofs.Common.{◌∙◌, ap, subst, ◌++◌}
use Rattle.lq_states.specs.Goals.{refocused, without}
use Rattle.lq_goals.specs.Held.{Exchanges, open_in}
use Rattle.lq_goals.proofs.Exchanging.{plain_told, all_told, stands}
use Rattle.lq_goals.proofs.proof.Proof.replace.Goals as goal

pub returns-then-not-has_new_value-clause-told : goal.returns-then-not-has_new_value-clause-told
returns-then-not-has_new_value-clause-told c bank h m w =
    plain_told bank c.args.self.now c.exchange.new.self c.args.taken.now c.args.left.now c.args.shelved.now c.exchange.result h m w
    (c.is_plain.ensures c.if-is_plain.true) (c.has_new_value.ensures c.if-not-has_new_value.true)
    (subst (λ js. Exchanges c.exchange.result c.args.self.now c.exchange.new.self js (c.args.self.now.shelf ++ c.args.shelved.now))
    (c.in_ok-focus.ensures ∙ ap (refocused c.args.taken.now c.args.left.now) (c.as_slice.ensures.value ∙ ap (λ p. p.focus) c.self.view_is)) c.exchange.ensures)

pub returns-then-not-has_new_value-clause-stands : goal.returns-then-not-has_new_value-clause-stands
returns-then-not-has_new_value-clause-stands c bank h m w =
    stands bank c.args.self.now c.exchange.new.self c.args.taken.now c.args.left.now c.args.shelved.now c.exchange.result h m w
    c.in_ok-focus.focus.items (c.args.self.now.shelf ++ c.args.shelved.now) c.exchange.ensures
    (returns-then-not-has_new_value-clause-told c bank h m w)

pub returns-else-is_plain-clause-told : goal.returns-else-is_plain-clause-told
returns-else-is_plain-clause-told c bank h m w =
    all_told bank c.args.self.now c.exchange_all.new.self c.args.taken.now c.args.left.now c.args.shelved.now c.exchange_all.result h m w
    (subst (λ js. Exchanges c.exchange_all.result c.args.self.now c.exchange_all.new.self (open_in c.args.self.now.store js) (open_in c.args.self.now.store (without c.args.taken.now c.args.self.now.shelf ++ c.args.shelved.now)))
    (c.in_ok-focus.ensures ∙ ap (refocused c.args.taken.now c.args.left.now) (c.as_slice.ensures.value ∙ ap (λ p. p.focus) c.self.view_is)) c.exchange_all.ensures)

pub returns-else-is_plain-clause-stands : goal.returns-else-is_plain-clause-stands
returns-else-is_plain-clause-stands c bank h m w =
    stands bank c.args.self.now c.exchange_all.new.self c.args.taken.now c.args.left.now c.args.shelved.now c.exchange_all.result h m w
    (open_in c.args.self.now.store c.in_ok-focus.focus.items) (open_in c.args.self.now.store (without c.args.taken.now c.args.self.now.shelf ++ c.args.shelved.now)) c.exchange_all.ensures
    (returns-else-is_plain-clause-told c bank h m w)
