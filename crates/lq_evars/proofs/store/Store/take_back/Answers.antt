use Rattle.std.proofs.Common.{◌∙◌, ap, take}
use Rattle.lq_evars.proofs.Lookups.{taken_back}
use Rattle.lq_evars.proofs.store.Store.take_back.Goals as goal

pub returns-clause-back : goal.returns-clause-back
returns-clause-back c before m e =
    ap (λ as_. record { variables = c.self.inside.variables.items; values = as_ }) c.truncate.ensures.entries
    ∙ ap (λ s. record { variables = s.variables; values = take c.args.given s.values }) c.self.view_is
    ∙ taken_back before c.args.self.now c.args.given m e
