use Rattle.std.proofs.Common.{◌∙◌, refl, sym}
use Rattle.lq_evars.proofs.Known.{found_read, known_found}
use Rattle.lq_evars.proofs.rebuilding.known_as.Goals as goal

pub unreachable-requires : goal.unreachable-requires
unreachable-requires c =
    known_found c.args.part _ (λ u. refl) c.args.bank.now c.args.store.now c.args.known.now.entries c.requires.read c.requires.has (λ x y h k e. c.terms_apart.ensures x y h k e) c.requires.known
    (sym c.get.ensures.value ∙ sym c.copied.ensures ∙ c.in-None.is)

pub returns : goal.returns
returns c =
    found_read c.args.part _ (λ u. refl) c.args.bank.now c.args.store.now c.args.known.now.entries c.in-Some.answer c.requires.read (sym c.get.ensures.value ∙ sym c.copied.ensures ∙ c.in-Some.is)
