use Rattle.std.proofs.Common.{◌∙◌, refl, sym, ap}
use Rattle.std.specs.Prelude.{option_copied}
use Rattle.lq_evars.specs.Places.{store_of}
use Rattle.lq_unify.proofs.HoldLaws.{found_holding, known_found}
use Rattle.lq_unify.proofs.holding.known_holding.Goals as goal

pub unreachable-requires : goal.unreachable-requires
unreachable-requires c =
    known_found c.args.bank.now (store_of c.args.bank.now c.args.store.now) c.args.barred c.args.part _ (λ u. refl) c.args.known.now.entries c.requires.held c.requires.has (λ x y h k e. c.terms_apart.ensures x y h k e) c.requires.known
    (sym c.get.ensures.value ∙ ap option_copied c.in-None.is)

pub returns : goal.returns
returns c =
    found_holding c.args.bank.now (store_of c.args.bank.now c.args.store.now) c.args.barred c.args.part _ (λ u. refl) c.args.known.now.entries c.in-Some.holding.now c.requires.held
    (sym c.get.ensures.value ∙ ap option_copied c.in-Some.is)
