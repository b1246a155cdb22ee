use Rattle.std.proofs.Common.{◌∙◌, refl, sym}
use Rattle.lq_evars.specs.Places.{store_of}
use Rattle.lq_evars.proofs.Marks.{noted_pair, found_same}
use Rattle.lq_evars.proofs.noting.is_noted.Goals as goal

pub returns-in-Some : goal.returns-in-Some
returns-in-Some c = λ e.
    noted_pair c.args.bank.now (store_of c.args.bank.now c.args.store.now) c.args.links.now c.args.pair (c.is_alone.ensures.around c.if-not-is_alone.false) (c.is_alone.ensures.base c.if-not-is_alone.false) (c.is_alone-2.ensures.around c.if-not-is_alone-2.false)
    (c.is_alone-2.ensures.base c.if-not-is_alone-2.false) c.in-Some.term
    (found_same c.args.pair.left.term _ (λ u. refl) c.args.bank.now (store_of c.args.bank.now c.args.store.now) c.args.known.now.entries c.in-Some.term c.requires (sym c.get.ensures.value ∙ sym c.copied.ensures ∙ c.in-Some.is))
    (c.is_term.ensures e)
