use Rattle.std.proofs.Common.{◌∙◌, sym, refl}
use Rattle.lq_unify.proofs.PlaceLaws.{if_some, found_known}
use Rattle.lq_unify.proofs.replacing.known_as.Goals as goal

pub returns-clause-is : goal.returns-clause-is
returns-clause-is c =
    if_some c.copied.result (λ u e.
    (found_known c.args.bank.now c.args.how.barred c.args.how.stays c.args.places.now.entries c.args.part _ (λ v. refl) c.args.known.now.entries u c.requires.known
    (sym c.get.ensures.value ∙ sym c.copied.ensures ∙ e)).is)

pub returns-clause-has : goal.returns-clause-has
returns-clause-has c =
    if_some c.copied.result (λ u e.
    (found_known c.args.bank.now c.args.how.barred c.args.how.stays c.args.places.now.entries c.args.part _ (λ v. refl) c.args.known.now.entries u c.requires.known
    (sym c.get.ensures.value ∙ sym c.copied.ensures ∙ e)).has)
