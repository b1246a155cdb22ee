use Rattle.std.proofs.Common.{◌∙◌, sym, ap, ap₂}
use Rattle.std.proofs.Common.{subst as along}
use Rattle.lq_ast.specs.Plain.{plain}
use Rattle.lq_trees.specs.Change.{subst}
use Rattle.lq_trees.specs.Tree.Tree.{App}
use Rattle.lq_terms.specs.Terms.{tree_of}
use Rattle.lq_env.specs.Environments.{env_of}
use Rattle.lq_solving.specs.Kept.{StandsIn}
use Rattle.lq_solving.specs.Elaboration.{found}
use Rattle.lq_solving.proofs.ElabKept.{Grown}
use Rattle.lq_evars.specs.Places.{store_of}
use Rattle.lq_evars.proofs.Growing.{store_of-grown}
use Rattle.lq_elab.specs.States.{givens_of}
use Rattle.lq_prims.specs.Inductives.{found_by}
use Rattle.lq_prims.specs.Scenes.{context_at}
use Rattle.lq_prims.proofs.MakingLaws.{in_later, in_grown, same_context}
use Rattle.lq_prims.proofs.ExistLaws.{domain_in, rest_held, rest_within, applied_in, left_in, argument_unfound, argument_found}
use Rattle.lq_prims.proofs.existing.with_argument.Goals as goal

pub term_of-requires-clause-wanted_stands : goal.term_of-requires-clause-wanted_stands
term_of-requires-clause-wanted_stands g c =
    let bank = c.args.work.now.bank.now in
    let p = c.args.store.now in
    along (λ z. StandsIn (store_of bank p) z (tree_of bank c.args.domain)) c.requires.same (domain_in bank p c.args.context.now c.requires.place c.args.function c.args.domain c.args.rest c.requires.takes).stands

pub applied_once-requires-clause-context : goal.applied_once-requires-clause-context
applied_once-requires-clause-context g c =
    let was = c.in-Ok.ensures.stands in
    (in_later c.args.work.now.bank.now c.term_of.new.work.bank.now c.in-Ok.ensures.grows c.args.store.now c.args.context.now c.requires.place c.term_of.new.store was.store was.grown).has

pub applied_once-requires-clause-within : goal.applied_once-requires-clause-within
applied_once-requires-clause-within g c =
    rest_within c.args.work.now.bank.now c.args.store.now c.args.context.now c.requires.place c.args.function c.args.domain c.args.rest c.requires.takes c.term_of.new.work.bank.now c.in-Ok.ensures.grows

pub applied_once-requires-clause-holds : goal.applied_once-requires-clause-holds
applied_once-requires-clause-holds g c =
    rest_held c.args.work.now.bank.now c.args.store.now c.args.context.now c.requires.place c.args.function c.args.domain c.args.rest c.requires.takes c.term_of.new.work.bank.now c.in-Ok.ensures.grows

pub applied_once-requires-clause-closed : goal.applied_once-requires-clause-closed
applied_once-requires-clause-closed g c = c.in-Ok.ensures.stands.term_stands.within

pub returns-in-Ok-applied_once-clause-answer : goal.returns-in-Ok-applied_once-clause-answer
returns-in-Ok-applied_once-clause-answer g c T =
    let bank = c.args.work.now.bank.now in
    let mid = c.term_of.new.work.bank.now in
    let late = c.applied_once.new.bank in
    let S = store_of bank c.args.store.now in
    let s1 = c.term_of.new.store in
    let F = tree_of bank c.args.function in
    let A = tree_of bank c.args.domain in
    let B = tree_of bank c.args.rest in
    let v = tree_of mid c.in-Ok.argument.term in
    let f = c.in-Ok-applied_once.found in
    let grows = c.in-Ok.ensures.grows in
    argument_found (env_of bank c.args.env.now) S c.args.goal (context_at S c.args.goal) T (givens_of bank c.args.values.now) (plain c.args.term.now) F A B c.args.work.now.ticks.now.left c.term_of.new.work.ticks.now.left
    (found (store_of mid s1) v (tree_of mid c.in-Ok.argument.kind)) (c.in-Ok.ensures.answer T) late (found_by late (store_of late s1)) f
    (ap (λ z. found z (tree_of late f.term) (tree_of late f.kind)) (store_of-grown mid late c.in-Ok-applied_once.ensures.grows s1 c.in-Ok.ensures.stands.store)
    ∙ ap₂ (λ t u. found (store_of mid s1) t u) (c.in-Ok-applied_once.ensures.term.is ∙ ap (λ z. App z v) (grows.tree c.args.function c.requires.takes.function.has))
    (c.in-Ok-applied_once.ensures.kind.is ∙ ap (subst v) (grows.tree c.args.rest c.requires.takes.rest)))

pub returns-in-Ok-applied_once-clause-place : goal.returns-in-Ok-applied_once-clause-place
returns-in-Ok-applied_once-clause-place g c =
    let was = c.in-Ok.ensures.stands in
    let mid = c.term_of.new.work.bank.now in
    in_grown mid c.applied_once.new.bank c.in-Ok-applied_once.ensures.grows c.term_of.new.store c.args.context.now
    (in_later c.args.work.now.bank.now mid c.in-Ok.ensures.grows c.args.store.now c.args.context.now c.requires.place c.term_of.new.store was.store was.grown)

pub returns-in-Ok-applied_once-clause-grown : goal.returns-in-Ok-applied_once-clause-grown
returns-in-Ok-applied_once-clause-grown g c =
    let was = c.in-Ok.ensures.stands in
    along (Grown (store_of c.args.work.now.bank.now c.args.store.now)) (sym (store_of-grown c.term_of.new.work.bank.now c.applied_once.new.bank c.in-Ok-applied_once.ensures.grows c.term_of.new.store was.store)) was.grown

pub returns-in-Ok-applied_once-clause-term : goal.returns-in-Ok-applied_once-clause-term
returns-in-Ok-applied_once-clause-term g c =
    let bank = c.args.work.now.bank.now in
    let mid = c.term_of.new.work.bank.now in
    let hs = c.args.context.now in
    let was = c.in-Ok.ensures.stands in
    let j = in_later bank mid c.in-Ok.ensures.grows c.args.store.now hs c.requires.place c.term_of.new.store was.store was.grown in
    applied_in bank c.args.store.now hs c.requires.place c.args.function c.args.domain c.args.rest c.requires.takes mid c.in-Ok.ensures.grows c.term_of.new.store was.store was.grown j c.in-Ok.argument.term
    (record { has = was.term; stands = along (λ z. StandsIn (store_of mid c.term_of.new.store) z (tree_of mid c.in-Ok.argument.term)) (sym (same_context bank mid c.in-Ok.ensures.grows c.args.store.now hs c.requires.place ∙ c.requires.same)) was.term_stands })
    c.applied_once.new.bank c.in-Ok-applied_once.ensures.grows c.in-Ok-applied_once.found.term c.in-Ok-applied_once.ensures.term

pub returns-in-Ok-applied_once-clause-kind : goal.returns-in-Ok-applied_once-clause-kind
returns-in-Ok-applied_once-clause-kind g c =
    let bank = c.args.work.now.bank.now in
    let mid = c.term_of.new.work.bank.now in
    let hs = c.args.context.now in
    let was = c.in-Ok.ensures.stands in
    let j = in_later bank mid c.in-Ok.ensures.grows c.args.store.now hs c.requires.place c.term_of.new.store was.store was.grown in
    left_in bank c.args.store.now hs c.requires.place c.args.function c.args.domain c.args.rest c.requires.takes mid c.in-Ok.ensures.grows c.term_of.new.store was.store was.grown j c.in-Ok.argument.term
    (record { has = was.term; stands = along (λ z. StandsIn (store_of mid c.term_of.new.store) z (tree_of mid c.in-Ok.argument.term)) (sym (same_context bank mid c.in-Ok.ensures.grows c.args.store.now hs c.requires.place ∙ c.requires.same)) was.term_stands })
    c.applied_once.new.bank c.in-Ok-applied_once.ensures.grows c.in-Ok-applied_once.found.kind c.in-Ok-applied_once.ensures.kind

pub returns-clause-answer : goal.returns-clause-answer
returns-clause-answer g c T =
    let bank = c.args.work.now.bank.now in
    let S = store_of bank c.args.store.now in
    argument_unfound (env_of bank c.args.env.now) S c.args.goal (context_at S c.args.goal) T (givens_of bank c.args.values.now) (plain c.args.term.now) (tree_of bank c.args.function) (tree_of bank c.args.domain) (tree_of bank c.args.rest)
    c.term_of.new.work.bank.now c.in-Err.fault c.args.work.now.ticks.now.left c.term_of.new.work.ticks.now.left (c.in-Err.ensures.answer T)
