use Rattle.std.proofs.Common.{◌<◌, ◌≤◌, ◌∙◌, sym, ap, subst, length}
use Rattle.lq_evars.specs.Places.{store_of, numbers_from, kind_changed}
use Rattle.lq_evars.proofs.Variables.{put_set, numbers_put, length_put, kind_told}
use Rattle.lq_evars.proofs.store.Store.put_kind.Goals as goal

pub invariant_of-self : goal.invariant_of-self
invariant_of-self c =
    let inside = subst (λ s. c.args.id < length s.variables) (sym c.self.view_is) c.requires in
    let set = put_set c.self.inside.variables.items c.args.id c.args.kind c.index_mut.result.now inside c.index_mut.ensures.value in (
      c.self.invariant.0 ∙ sym (numbers_put 0 c.self.inside.variables.items c.args.id c.args.kind) ∙ ap (numbers_from 0) (sym set),
      subst (λ n. n ≤ 16777216) (sym (ap length set ∙ length_put c.self.inside.variables.items c.args.id c.args.kind)) c.self.invariant.1,
    )

pub returns-clause-changed : goal.returns-clause-changed
returns-clause-changed c =
    let inside = subst (λ s. c.args.id < length s.variables) (sym c.self.view_is) c.requires in
    let set = put_set c.self.inside.variables.items c.args.id c.args.kind c.index_mut.result.now inside c.index_mut.ensures.value in
    ap (λ vs. record { variables = vs; values = c.self.inside.values.entries }) set ∙ ap (λ s. kind_changed s c.args.id c.args.kind) c.self.view_is

pub returns-clause-told : goal.returns-clause-told
returns-clause-told c bank = ap (store_of bank) (returns-clause-changed c) ∙ kind_told bank c.args.self.now c.args.id c.args.kind
