use Rattle.std.proofs.Common.{◌∙◌, refl, ap}
use Rattle.lq_evars.specs.Places.{value_at, one_given}
use Rattle.lq_evars.proofs.Given.{given_last}
use Rattle.lq_evars.proofs.store.Store.put_value.Goals as goal

pub returns-clause-given : goal.returns-clause-given
returns-clause-given c =
    ap (λ as_. record { variables = c.self.inside.variables.items; values = as_ })
    (c.in-Ok.ensures.entries ∙ given_last c.args.id c.args.body _ (λ i j. refl) c.self.inside.values.entries (ap (λ s. value_at s c.args.id) c.self.view_is ∙ c.requires))
    ∙ ap (λ s. one_given s c.args.id c.args.body) c.self.view_is
