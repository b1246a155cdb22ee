use Rattle.std.proofs.Common.{◌∙◌, sym, ap₂, subst, arith, Ok}
use Rattle.lq_solving.specs.Kept.{IsStore}
use Rattle.lq_evars.specs.Places.{store_of}
use Rattle.lq_evars.proofs.Variables.{full_told, added_told, more_stands}
use Rattle.lq_evars.proofs.store.Store.new_var.Goals as goal

pub returns-then-id-ge-MOST_VARIABLES-clause-told : goal.returns-then-id-ge-MOST_VARIABLES-clause-told
returns-then-id-ge-MOST_VARIABLES-clause-told c bank =
    full_told bank c.args.self.now _ (omega (arith, c.if-id-ge-MOST_VARIABLES.true, c.count-id.ensures.length))

pub returns-clause-told : goal.returns-clause-told
returns-clause-told c bank =
    added_told bank c.args.self.now (record { context = c.args.context; kind = c.args.kind; name = c.args.name }) (omega (arith, c.if-id-ge-MOST_VARIABLES.false, c.count-id.ensures.length))
    ∙ ap₂ (λ s n. Ok (store_of bank s, n)) (sym c.in_ok-add_variable.ensures.ok) (sym c.count-id.ensures.length)

pub returns-clause-stands : goal.returns-clause-stands
returns-clause-stands c bank h i w own =
    subst (λ s. IsStore (store_of bank s)) (sym c.in_ok-add_variable.ensures.ok)
    (more_stands bank c.args.self.now (record { context = c.args.context; kind = c.args.kind; name = c.args.name }) h i w own c.requires)
