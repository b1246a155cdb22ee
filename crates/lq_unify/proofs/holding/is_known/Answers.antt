use Rattle.std.proofs.Common.{◌∙◌, refl, sym, ap, []}
use Rattle.std.specs.Prelude.{option_copied}
use Rattle.lq_unify.proofs.HoldLaws.{found_in}
use Rattle.lq_unify.proofs.holding.is_known.Goals as goal

pub returns-in-Some : goal.returns-in-Some
returns-in-Some c = λ bank e. found_in bank (record { variables = []; values = [] }) 0 c.args.term _ (λ u. refl) c.args.known.now.entries c.in-Some.field-0.now (sym c.get.ensures.value ∙ ap option_copied c.in-Some.is)
