use Rattle.std.proofs.Common.{◌≡◌, refl, eqb, eqb-true, eq-eqb, Bool, true, false, get_or}
use Rattle.lq_terms.specs.Terms.{text_of}
use Rattle.lq_prims.proofs.PremiseLaws.{binder_here, binder_later, no_more_premises, no_more_names}
use Rattle.lq_prims.proofs.premises.binder_at.Goals as goal

pub premises-init : goal.premises-init
premises-init c bank = refl

pub returns-then-premises-place-clause-is : goal.returns-then-premises-place-clause-is
returns-then-premises-place-clause-is c bank =
    binder_here (text_of bank) c.args.premises.now c.args.names.now c.args.variable c.premises.place 0 (record { place = 0 }) c.premises-test.true c.if-place-names.true (eq-eqb _ _ c.if-premises-place.true) (c.premises.invariant bank)

pub premises-preserved : goal.premises-preserved
premises-preserved c bank =
    binder_later (text_of bank) c.args.premises.now c.args.names.now c.args.variable c.premises.place 0 (record { place = 0 }) c.premises-test.true c.if-place-names.true
    (other (eqb (get_or c.args.premises.now c.premises.place 0) c.args.variable) refl) (c.premises.invariant bank)
  where
    other : (b : Bool) → eqb (get_or c.args.premises.now c.premises.place 0) c.args.variable ≡ b → eqb (get_or c.args.premises.now c.premises.place 0) c.args.variable ≡ false
    other true e = absurd (c.if-premises-place.false (eqb-true _ _ e))
    other false e = e

pub returns-else-place-names-clause-is : goal.returns-else-place-names-clause-is
returns-else-place-names-clause-is c bank = no_more_names (text_of bank) c.args.premises.now c.args.names.now c.args.variable c.premises.place c.if-place-names.false (c.premises.invariant bank)

pub returns-after-premises-clause-is : goal.returns-after-premises-clause-is
returns-after-premises-clause-is c bank = no_more_premises (text_of bank) c.args.premises.now c.args.names.now c.args.variable c.premises.place c.premises-test.false (c.premises.invariant bank)
