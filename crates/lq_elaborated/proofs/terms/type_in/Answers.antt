use Rattle.std.proofs.Common.{[], subst, sym}
use Rattle.lq_terms.specs.Terms.{tree_of}
use Rattle.lq_terms.specs.Contexts.{context_of}
use Rattle.lq_terms.proofs.Tellings.{HasContext-grown, context_of-grown}
use Rattle.lq_env.specs.Environments.{env_of}
use Rattle.lq_env.proofs.Grown.{env_of-grown, IsEnv-grown}
use Rattle.lq_solving.specs.Claims.{ArePlainDeclarations}
use Rattle.lq_solving.specs.Elaboration.{found_sort}
use Rattle.lq_solving.specs.Kept.{IsContext, StandsIn}
use Rattle.lq_solving.proofs.StoreLaws.{context_keeps}
use Rattle.lq_evars.specs.Places.{store_of}
use Rattle.lq_trees.specs.Ticks.{done, ComesTo}
use Rattle.lq_typing.specs.Refusals.{Refuses}
use Rattle.lq_elab.specs.Calls.{written_tree}
use Rattle.lq_sessions.specs.Declaring.{plain_site, type_work}
use Rattle.lq_causes.specs.Stopping.{Stops}
use Rattle.lq_elaborated.specs.Finding.{found_in}
use Rattle.lq_elaborated.proofs.FindLaws.{found_same, typed_grown, type_comes, type_stops_first, type_stops}
use Rattle.lq_elaborated.proofs.terms.type_in.Goals as goal

pub returns-in-Err-clause-answer : goal.returns-in-Err-clause-answer
returns-in-Err-clause-answer g c =
    type_stops_first (env_of c.args.work.now.bank.now c.args.env.now) (context_of c.args.work.now.bank.now c.args.context.now) (store_of c.args.work.now.bank.now c.args.store.now) (written_tree c.args.term) c.args.work.now.ticks.now.left
    c.term_in.new.work.ticks.now.left 0 c.term_in.new.work.bank.now c.in-Err.stop c.in-Err.ensures.answer

pub sort_of-requires-clause-env : goal.sort_of-requires-clause-env
sort_of-requires-clause-env g c = IsEnv-grown c.args.work.now.bank.now c.term_in.new.work.bank.now c.in-Ok.ensures.grows c.args.env.now c.requires.env

pub sort_of-requires-clause-plain : goal.sort_of-requires-clause-plain
sort_of-requires-clause-plain g c = subst ArePlainDeclarations (sym (env_of-grown c.args.work.now.bank.now c.term_in.new.work.bank.now c.in-Ok.ensures.grows c.args.env.now c.requires.env)) c.requires.plain

pub sort_of-requires-clause-context : goal.sort_of-requires-clause-context
sort_of-requires-clause-context g c = HasContext-grown c.args.work.now.bank.now c.term_in.new.work.bank.now c.in-Ok.ensures.grows c.args.context.now c.requires.context

pub sort_of-requires-clause-hypotheses : goal.sort_of-requires-clause-hypotheses
sort_of-requires-clause-hypotheses g c =
    subst (IsContext (store_of c.term_in.new.work.bank.now c.term_in.new.store)) (sym (context_of-grown c.args.work.now.bank.now c.term_in.new.work.bank.now c.in-Ok.ensures.grows c.args.context.now c.requires.context))
    (context_keeps (store_of c.args.work.now.bank.now c.args.store.now) (store_of c.term_in.new.work.bank.now c.term_in.new.store) c.in-Ok.ensures.stands.grown.keeps [] (context_of c.args.work.now.bank.now c.args.context.now) c.requires.hypotheses)

pub sort_of-requires-clause-stands : goal.sort_of-requires-clause-stands
sort_of-requires-clause-stands g c =
    subst (λ z. StandsIn (store_of c.term_in.new.work.bank.now c.term_in.new.store) z (tree_of c.term_in.new.work.bank.now c.in-Ok.found.kind))
    (sym (context_of-grown c.args.work.now.bank.now c.term_in.new.work.bank.now c.in-Ok.ensures.grows c.args.context.now c.requires.context)) c.in-Ok.ensures.stands.kind_stands

pub returns-in-Ok-sort_of-clause-answer : goal.returns-in-Ok-sort_of-clause-answer
returns-in-Ok-sort_of-clause-answer g c =
    subst (λ F. ComesTo (λ n. type_work (env_of c.args.work.now.bank.now c.args.env.now) n (context_of c.args.work.now.bank.now c.args.context.now) (store_of c.args.work.now.bank.now c.args.store.now) (written_tree c.args.term))
    c.args.work.now.ticks.now.left (done F c.sort_of.new.work.ticks.now.left))
    (sym (found_same c.term_in.new.work.bank.now c.sort_of.new.work.bank.now c.in-Ok-sort_of.ensures.grows (store_of c.args.work.now.bank.now c.args.store.now) c.term_in.new.store (context_of c.args.work.now.bank.now c.args.context.now) c.in-Ok.found c.in-Ok.ensures.stands))
    (type_comes (env_of c.args.work.now.bank.now c.args.env.now) (context_of c.args.work.now.bank.now c.args.context.now) (store_of c.args.work.now.bank.now c.args.store.now) (written_tree c.args.term) c.args.work.now.ticks.now.left
    c.term_in.new.work.ticks.now.left c.sort_of.new.work.ticks.now.left (found_in c.term_in.new.work.bank.now c.term_in.new.store c.in-Ok.found) c.in-Ok-sort_of.field-0 c.in-Ok.ensures.answer
    (subst (λ G. ComesTo (λ n. found_sort (plain_site (env_of c.args.work.now.bank.now c.args.env.now) n (context_of c.args.work.now.bank.now c.args.context.now)) G (found_in c.term_in.new.work.bank.now c.term_in.new.store c.in-Ok.found))
    c.term_in.new.work.ticks.now.left (done c.in-Ok-sort_of.field-0 c.sort_of.new.work.ticks.now.left)) (context_of-grown c.args.work.now.bank.now c.term_in.new.work.bank.now c.in-Ok.ensures.grows c.args.context.now c.requires.context)
    (c.in-Ok-sort_of.ensures.answer (plain_site (env_of c.args.work.now.bank.now c.args.env.now) 0 (context_of c.args.work.now.bank.now c.args.context.now)) (tree_of c.term_in.new.work.bank.now c.in-Ok.found.term)
    (env_of-grown c.args.work.now.bank.now c.term_in.new.work.bank.now c.in-Ok.ensures.grows c.args.env.now c.requires.env))))

pub returns-in-Ok-sort_of-clause-stands : goal.returns-in-Ok-sort_of-clause-stands
returns-in-Ok-sort_of-clause-stands g c =
    typed_grown c.term_in.new.work.bank.now c.sort_of.new.work.bank.now c.in-Ok-sort_of.ensures.grows (store_of c.args.work.now.bank.now c.args.store.now) c.term_in.new.store (context_of c.args.work.now.bank.now c.args.context.now) c.in-Ok.found c.in-Ok.ensures.stands

pub returns-in-Err-sort_of-clause-answer : goal.returns-in-Err-sort_of-clause-answer
returns-in-Err-sort_of-clause-answer g c =
    subst (λ z. Stops c.sort_of.new.work.bank.now z (λ n. type_work (env_of c.args.work.now.bank.now c.args.env.now) n (context_of c.args.work.now.bank.now c.args.context.now) (store_of c.args.work.now.bank.now c.args.store.now) (written_tree c.args.term))
    c.args.work.now.ticks.now.left c.sort_of.new.work.ticks.now.left) (sym c.stop_of.ensures)
    (type_stops (env_of c.args.work.now.bank.now c.args.env.now) (context_of c.args.work.now.bank.now c.args.context.now) (store_of c.args.work.now.bank.now c.args.store.now) (written_tree c.args.term) c.args.work.now.ticks.now.left
    c.term_in.new.work.ticks.now.left c.sort_of.new.work.ticks.now.left c.sort_of.new.work.bank.now (found_in c.term_in.new.work.bank.now c.term_in.new.store c.in-Ok.found) c.in-Err-sort_of.fault c.in-Ok.ensures.answer
    (subst (λ G. Refuses c.sort_of.new.work.bank.now c.in-Err-sort_of.fault (λ n. found_sort (plain_site (env_of c.args.work.now.bank.now c.args.env.now) n (context_of c.args.work.now.bank.now c.args.context.now)) G
    (found_in c.term_in.new.work.bank.now c.term_in.new.store c.in-Ok.found)) c.term_in.new.work.ticks.now.left c.sort_of.new.work.ticks.now.left)
    (context_of-grown c.args.work.now.bank.now c.term_in.new.work.bank.now c.in-Ok.ensures.grows c.args.context.now c.requires.context)
    (c.in-Err-sort_of.ensures.answer (plain_site (env_of c.args.work.now.bank.now c.args.env.now) 0 (context_of c.args.work.now.bank.now c.args.context.now)) (tree_of c.term_in.new.work.bank.now c.in-Ok.found.term)
    (env_of-grown c.args.work.now.bank.now c.term_in.new.work.bank.now c.in-Ok.ensures.grows c.args.env.now c.requires.env))))
