use Rattle.std.proofs.Common.{◌∙◌, refl, sym}
use Rattle.lq_evars.proofs.Known.{found_in, some_known}
use Rattle.lq_evars.proofs.rebuilding.is_known.Goals as goal

pub returns : goal.returns
returns c = λ bank e.
    let found = some_known c.copied.result (sym c.is_some.ensures ∙ e) in
    found_in c.args.term _ (λ u. refl) bank c.args.known.now.entries found.0 (sym c.get.ensures.value ∙ sym c.copied.ensures ∙ found.1)
