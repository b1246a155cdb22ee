use Rattle.std.proofs.Common.{◌∙◌, sym, ap, ◌++◌}
use Rattle.lq_states.specs.Goals.{has_each, without}
use Rattle.lq_states.proofs.FrameLaws.{shelve_listed, shelve_kept}
use Rattle.lq_goals.specs.Held.{proof_of}
use Rattle.lq_goals.proofs.Exchanging.{shelve_lacks, shelved_is, shelved_swept, appended}
use Rattle.lq_goals.proofs.proof.Proof.shelve.Goals as goal

pub returns-then-not-has_each-clause-told : goal.returns-then-not-has_each-clause-told
returns-then-not-has_each-clause-told c bank =
    shelve_lacks bank c.args.self.now c.args.goals.now
    (ap (λ js. has_each js c.args.goals.now) (sym (c.as_slice.ensures.value ∙ ap (λ p. p.focus) c.self.view_is)) ∙ sym c.has_each.ensures ∙ c.if-not-has_each.true)

pub returns-clause-told : goal.returns-clause-told
returns-clause-told c bank =
    shelved_is bank c.args.self.now
    (record { store = c.self.inside.store; focus = c.take_out.new.goals.items; shelf = c.extend_from_slice.new.self.items; given = c.self.inside.given; seen = c.self.inside.seen })
    c.args.goals.now
    (ap (λ js. has_each js c.args.goals.now) (sym (c.as_slice.ensures.value ∙ ap (λ p. p.focus) c.self.view_is)) ∙ sym c.has_each.ensures ∙ c.if-not-has_each.false)
    (ap (λ p. p.store) c.self.view_is)
    (c.take_out.ensures ∙ ap (λ p. without c.args.goals.now p.focus) c.self.view_is)
    (appended c.extend_from_slice.result c.self.inside.shelf.items c.args.goals.now _ (sym c.if-is_err.ensures.value) c.extend_from_slice.ensures.items ∙ ap (λ p. p.shelf ++ c.args.goals.now) c.self.view_is)

pub returns-clause-swept : goal.returns-clause-swept
returns-clause-swept c bank w =
    shelved_swept bank c.args.self.now
    (record { store = c.self.inside.store; focus = c.take_out.new.goals.items; shelf = c.extend_from_slice.new.self.items; given = c.self.inside.given; seen = c.self.inside.seen })
    c.args.goals.now (ap (λ p. p.given) c.self.view_is) (ap (λ p. p.seen) c.self.view_is) w (returns-clause-told c bank)

pub returns-clause-listed : goal.returns-clause-listed
returns-clause-listed c bank h distinct =
    shelve_listed (proof_of bank c.args.self.now)
    (proof_of bank (record { store = c.self.inside.store; focus = c.take_out.new.goals.items; shelf = c.extend_from_slice.new.self.items; given = c.self.inside.given; seen = c.self.inside.seen }))
    c.args.goals.now h distinct (returns-clause-told c bank)

pub returns-clause-stands : goal.returns-clause-stands
returns-clause-stands c bank h distinct =
    shelve_kept (proof_of bank c.args.self.now)
    (proof_of bank (record { store = c.self.inside.store; focus = c.take_out.new.goals.items; shelf = c.extend_from_slice.new.self.items; given = c.self.inside.given; seen = c.self.inside.seen }))
    c.args.goals.now h distinct (returns-clause-told c bank)
