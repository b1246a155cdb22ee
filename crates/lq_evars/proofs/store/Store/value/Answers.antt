use Rattle.std.proofs.Common.{refl, ap, ◌∙◌}
use Rattle.std.specs.Prelude.{option_map}
use Rattle.lq_terms.specs.Terms.{tree_of}
use Rattle.lq_evars.specs.Places.{value_at}
use Rattle.lq_evars.proofs.Lookups.{value_by, values_told}
use Rattle.lq_evars.proofs.store.Store.value.Goals as goal

pub returns-clause-place : goal.returns-clause-place
returns-clause-place c =
    c.copied.ensures ∙ c.get.ensures.value ∙ value_by c.args.id _ (λ y. refl) c.self.inside.values.entries
    ∙ ap (λ s. value_at s c.args.id) c.self.view_is

pub returns-clause-told : goal.returns-clause-told
returns-clause-told c bank s = ap (option_map (tree_of bank)) (returns-clause-place c) ∙ values_told bank c.args.self.now c.args.id s
