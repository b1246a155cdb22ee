use Rattle.std.proofs.Common.{refl, sym, ◌∷◌}
use Rattle.std.proofs.Common.{subst as along}
use Rattle.lq_terms.specs.Terms.{tree_of}
use Rattle.lq_evars.specs.Reading.{AreRead, IsIn, trees_known}
use Rattle.lq_evars.proofs.Known.{noted_read, noted_in, noted_reads, read-grown, trees-grown}
use Rattle.lq_evars.proofs.rebuilding.note.Goals as goal

pub returns-in-Ok-clause-read : goal.returns-in-Ok-clause-read
returns-in-Ok-clause-read c =
    along (AreRead c.settled.new.bank c.args.store.now) (sym c.in-Ok.ensures.entries)
    (noted_read _ (λ x y. refl) c.settled.new.bank c.args.store.now c.args.known.now.entries c.args.term c.in_ok-answer.answer
    (read-grown c.args.bank.now c.settled.new.bank c.args.store.now c.args.known.now.entries c.in_ok-answer.ensures.grows c.requires.store c.requires.read)
    (noted_reads c.args.bank.now c.settled.new.bank c.args.store.now c.args.term c.args.answer c.in_ok-answer.answer c.requires.store c.in_ok-answer.ensures.grows c.requires.term c.in_ok-answer.ensures.has c.in_ok-answer.ensures.low c.in_ok-answer.ensures.near c.requires.near))

pub returns-in-Ok-clause-covers : goal.returns-in-Ok-clause-covers
returns-in-Ok-clause-covers c = λ t h.
    along (λ es. IsIn t (trees_known c.settled.new.bank es)) (sym c.in-Ok.ensures.entries)
    (noted_in _ (λ x y. refl) c.settled.new.bank c.args.known.now.entries c.args.term c.in_ok-answer.answer t
    (along (λ us. IsIn t (tree_of c.settled.new.bank c.args.term ∷ us)) (sym (trees-grown c.args.bank.now c.settled.new.bank c.args.store.now c.args.known.now.entries c.in_ok-answer.ensures.grows c.requires.read))
    (along (λ u. IsIn t (u ∷ trees_known c.args.bank.now c.args.known.now.entries)) (sym (c.in_ok-answer.ensures.grows.tree c.args.term c.requires.term)) h)))
