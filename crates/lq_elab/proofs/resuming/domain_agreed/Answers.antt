use Rattle.std.proofs.Common.{refl, sym}
use Rattle.std.proofs.Common.{subst as along}
use Rattle.std.specs.Prelude.{option_map}
use Rattle.lq_trees.specs.Ticks.{done, ComesTo}
use Rattle.lq_terms.specs.Terms.{tree_of}
use Rattle.lq_terms.specs.Contexts.{context_of}
use Rattle.lq_evars.specs.Places.{store_of}
use Rattle.lq_solving.specs.Elaboration.{found, domain_agrees}
use Rattle.lq_solving.proofs.ElabSettled.{at}
use Rattle.lq_elab.specs.Answers.{Comes}
use Rattle.lq_elab.specs.Frames.{pair_of}
use Rattle.lq_elab.specs.States.{site_of}
use Rattle.lq_elab.proofs.DomainLaws.{none_wanted, some_wanted}
use Rattle.lq_elab.proofs.resuming.domain_agreed.Goals as goal

pub returns-in-Some-clause-answer : goal.returns-in-Some-clause-answer
returns-in-Some-clause-answer g c = λ K.
    along (λ z. Comes c.unified.new.work.bank.now (λ o. store_of c.unified.new.work.bank.now c.unified.new.store) c.unified.result (λ n. domain_agrees (at n (site_of c.args.work.now.bank.now c.args.site.now)) (context_of c.args.work.now.bank.now c.args.context.now)
    (found (store_of c.args.work.now.bank.now c.args.store.now) (tree_of c.args.work.now.bank.now c.args.domain) K) (option_map (pair_of c.args.work.now.bank.now) z)) c.args.work.now.ticks.now.left c.unified.new.work.ticks.now.left) (sym c.in-Some.is)
    (some_wanted (site_of c.args.work.now.bank.now c.args.site.now) (context_of c.args.work.now.bank.now c.args.context.now) (store_of c.args.work.now.bank.now c.args.store.now) (tree_of c.args.work.now.bank.now c.args.domain) K
    (tree_of c.args.work.now.bank.now c.in-Some.wanted) _ c.unified.new.work.bank.now (λ o. store_of c.unified.new.work.bank.now c.unified.new.store) c.unified.result c.args.work.now.ticks.now.left c.unified.new.work.ticks.now.left
    (c.unified.ensures.answer (site_of c.args.work.now.bank.now c.args.site.now) refl))

pub returns-in-None-clause-answer : goal.returns-in-None-clause-answer
returns-in-None-clause-answer g c = λ K.
    along (λ z. ComesTo (λ n. domain_agrees (at n (site_of c.args.work.now.bank.now c.args.site.now)) (context_of c.args.work.now.bank.now c.args.context.now)
    (found (store_of c.args.work.now.bank.now c.args.store.now) (tree_of c.args.work.now.bank.now c.args.domain) K) (option_map (pair_of c.args.work.now.bank.now) z)) c.args.work.now.ticks.now.left (done (store_of c.args.work.now.bank.now c.args.store.now) c.args.work.now.ticks.now.left)) (sym c.in-None.is)
    (none_wanted (site_of c.args.work.now.bank.now c.args.site.now) (context_of c.args.work.now.bank.now c.args.context.now) (found (store_of c.args.work.now.bank.now c.args.store.now) (tree_of c.args.work.now.bank.now c.args.domain) K) c.args.work.now.ticks.now.left)
