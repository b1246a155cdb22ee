use Rattle.std.proofs.Common.{◌∙◌, sym, OnOk}
use Rattle.std.proofs.Common.{subst as along}
use Rattle.std.specs.Prelude.{option_map}
use Rattle.lq_trees.specs.Ticks.{done, ComesTo}
use Rattle.lq_terms.specs.Terms.{tree_of}
use Rattle.lq_terms.specs.Contexts.{HasBody, context_of}
use Rattle.lq_terms.proofs.Tellings.{HasContext-grown}
use Rattle.lq_env.proofs.Grown.{env_of-grown, IsEnv-grown}
use Rattle.lq_solving.specs.Claims.{ArePlainDeclarations}
use Rattle.lq_solving.specs.Kept.{IsStore, OptionStands}
use Rattle.lq_solving.specs.Stores.{names_in, read}
use Rattle.lq_solving.specs.ElabFaults.{elab_fitting}
use Rattle.lq_solving.specs.Elaboration.{found, against}
use Rattle.lq_solving.proofs.ElabKept.{Grown, grown_now}
use Rattle.lq_solving.proofs.ElabSettled.{at}
use Rattle.lq_evars.specs.Places.{store_of}
use Rattle.lq_evars.proofs.Growing.{store_of-grown, HasStore-grown}
use Rattle.lq_elab.specs.Answers.{Comes}
use Rattle.lq_elab.proofs.AgreeingLaws.{none_agrees, large_refuses}
use Rattle.lq_elab.proofs.AgreedLaws.{context_moved, stands_moved, some_answer}
use Rattle.lq_elab.proofs.agreeing.agreed.Goals as goal

pub unified-requires-clause-env : goal.unified-requires-clause-env
unified-requires-clause-env g c = IsEnv-grown c.args.work.now.bank.now c.measured.new.bank c.in-Ok.ensures.grows c.args.env.now c.requires.env

pub unified-requires-clause-plain : goal.unified-requires-clause-plain
unified-requires-clause-plain g c = along ArePlainDeclarations (sym (env_of-grown c.args.work.now.bank.now c.measured.new.bank c.in-Ok.ensures.grows c.args.env.now c.requires.env)) c.requires.plain

pub unified-requires-clause-store : goal.unified-requires-clause-store
unified-requires-clause-store g c = HasStore-grown c.args.work.now.bank.now c.measured.new.bank c.in-Ok.ensures.grows c.args.store.now c.requires.store

pub unified-requires-clause-kept : goal.unified-requires-clause-kept
unified-requires-clause-kept g c = along IsStore (sym (store_of-grown c.args.work.now.bank.now c.measured.new.bank c.in-Ok.ensures.grows c.args.store.now c.requires.store)) c.requires.kept

pub unified-requires-clause-context : goal.unified-requires-clause-context
unified-requires-clause-context g c = HasContext-grown c.args.work.now.bank.now c.measured.new.bank c.in-Ok.ensures.grows c.args.context.now c.requires.context

pub unified-requires-clause-hypotheses : goal.unified-requires-clause-hypotheses
unified-requires-clause-hypotheses g c = context_moved c.args.work.now.bank.now c.measured.new.bank c.in-Ok.ensures.grows c.args.store.now c.requires.store c.args.context.now c.requires.context c.requires.hypotheses

pub unified-requires-clause-found_stands : goal.unified-requires-clause-found_stands
unified-requires-clause-found_stands g c = stands_moved c.args.work.now.bank.now c.measured.new.bank c.in-Ok.ensures.grows c.args.store.now c.requires.store c.args.context.now c.requires.context c.args.kind c.requires.kind c.requires.kind_stands

pub unified-requires-clause-wanted_stands : goal.unified-requires-clause-wanted_stands
unified-requires-clause-wanted_stands g c =
    stands_moved c.args.work.now.bank.now c.measured.new.bank c.in-Ok.ensures.grows c.args.store.now c.requires.store c.args.context.now c.requires.context c.in-Some.wanted (along (HasBody c.args.work.now.bank.now) c.in-Some.is c.requires.wanted)
    (along (λ o. OptionStands (store_of c.args.work.now.bank.now c.args.store.now) (names_in (context_of c.args.work.now.bank.now c.args.context.now)) (option_map (tree_of c.args.work.now.bank.now) o)) c.in-Some.is c.requires.wanted_stands)

pub returns-in-Some-clause-answer : goal.returns-in-Some-clause-answer
returns-in-Some-clause-answer g c = λ e t x.
    along (λ o. Comes c.unified.new.work.bank.now (λ _. found (store_of c.unified.new.work.bank.now c.unified.new.store) t (tree_of c.args.work.now.bank.now c.args.kind)) c.unified.result (λ n. against (at n e) (context_of c.args.work.now.bank.now c.args.context.now) (option_map (tree_of c.args.work.now.bank.now) o) (found (store_of c.args.work.now.bank.now c.args.store.now) t (tree_of c.args.work.now.bank.now c.args.kind))) c.args.work.now.ticks.now.left c.unified.new.work.ticks.now.left) (sym c.in-Some.is)
    (some_answer c.args.work.now.bank.now c.measured.new.bank c.in-Ok.ensures.grows c.args.store.now c.requires.store c.args.context.now c.requires.context e t c.args.kind c.in-Some.wanted c.requires.kind (along (HasBody c.args.work.now.bank.now) c.in-Some.is c.requires.wanted) c.args.work.now.ticks.now.left c.unified.new.work.ticks.now.left c.unified.new.work.bank.now c.unified.new.store c.unified.result c.in-Ok.field-0 c.in-Ok.ensures.is c.in-Ok.ensures.answer
    (c.unified.ensures.answer e ((env_of-grown c.args.work.now.bank.now c.measured.new.bank c.in-Ok.ensures.grows c.args.env.now c.requires.env) ∙ x)))

pub returns-in-Some-clause-grown : goal.returns-in-Some-clause-grown
returns-in-Some-clause-grown g c = along (λ z. OnOk c.unified.result (Grown z (store_of c.unified.new.work.bank.now c.unified.new.store))) (store_of-grown c.args.work.now.bank.now c.measured.new.bank c.in-Ok.ensures.grows c.args.store.now c.requires.store) c.unified.ensures.grown

pub returns-in-None-clause-answer : goal.returns-in-None-clause-answer
returns-in-None-clause-answer g c = λ e t x.
    along (λ z. ComesTo (λ n. against (at n e) (context_of c.args.work.now.bank.now c.args.context.now) (option_map (tree_of c.args.work.now.bank.now) c.args.wanted) (found (store_of c.args.work.now.bank.now c.args.store.now) t (tree_of c.args.work.now.bank.now c.args.kind))) c.args.work.now.ticks.now.left (done (found z t (tree_of c.args.work.now.bank.now c.args.kind)) c.args.work.now.ticks.now.left)) (sym (store_of-grown c.args.work.now.bank.now c.measured.new.bank c.in-Ok.ensures.grows c.args.store.now c.requires.store))
    (along (λ o. ComesTo (λ n. against (at n e) (context_of c.args.work.now.bank.now c.args.context.now) (option_map (tree_of c.args.work.now.bank.now) o) (found (store_of c.args.work.now.bank.now c.args.store.now) t (tree_of c.args.work.now.bank.now c.args.kind))) c.args.work.now.ticks.now.left (done (found (store_of c.args.work.now.bank.now c.args.store.now) t (tree_of c.args.work.now.bank.now c.args.kind)) c.args.work.now.ticks.now.left)) (sym c.in-None.is)
    (none_agrees e (context_of c.args.work.now.bank.now c.args.context.now) (store_of c.args.work.now.bank.now c.args.store.now) t (tree_of c.args.work.now.bank.now c.args.kind) c.args.work.now.ticks.now.left (along (λ z. ComesTo (λ n. elab_fitting (read (store_of c.args.work.now.bank.now c.args.store.now) (tree_of c.args.work.now.bank.now c.args.kind))) c.args.work.now.ticks.now.left (done z c.args.work.now.ticks.now.left)) c.in-Ok.ensures.is (c.in-Ok.ensures.answer c.args.work.now.ticks.now.left))))

pub returns-in-None-clause-grown : goal.returns-in-None-clause-grown
returns-in-None-clause-grown g c = along (Grown (store_of c.args.work.now.bank.now c.args.store.now)) (sym (store_of-grown c.args.work.now.bank.now c.measured.new.bank c.in-Ok.ensures.grows c.args.store.now c.requires.store)) (grown_now (store_of c.args.work.now.bank.now c.args.store.now) c.requires.kept)

pub returns-in-None-clause-has : goal.returns-in-None-clause-has
returns-in-None-clause-has g c = HasStore-grown c.args.work.now.bank.now c.measured.new.bank c.in-Ok.ensures.grows c.args.store.now c.requires.store

pub returns-in-Err-clause-answer : goal.returns-in-Err-clause-answer
returns-in-Err-clause-answer g c = λ e t x. large_refuses e (context_of c.args.work.now.bank.now c.args.context.now) (option_map (tree_of c.args.work.now.bank.now) c.args.wanted) (store_of c.args.work.now.bank.now c.args.store.now) t (tree_of c.args.work.now.bank.now c.args.kind) c.measured.new.bank c.args.work.now.ticks.now.left c.args.work.now.ticks.now.left c.in-Err.fault (c.in-Err.ensures.answer c.args.work.now.ticks.now.left)
