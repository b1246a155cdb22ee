use Rattle.std.proofs.Common.{refl, sym, []}
use Rattle.lq_ast.specs.Plain.{plain}
use Rattle.lq_env.specs.Environments.{env_of}
use Rattle.lq_evars.specs.Places.{store_of}
use Rattle.lq_elab.specs.States.{givens_of}
use Rattle.lq_solving.specs.Elaboration.{found}
use Rattle.lq_terms.specs.Terms.{tree_of}
use Rattle.lq_tactics.specs.Rows.{done_by}
use Rattle.lq_tactics.proofs.PrimsKept.{none_new}
use Rattle.lq_prims.specs.Scenes.{context_at}
use Rattle.lq_prims.proofs.SceneLaws.{kind_stands}
use Rattle.lq_prims.proofs.TermLaws.{exact_refused, exact_open, exact_done}
use Rattle.lq_prims.proofs.exacting.do_exact.Goals as goal

pub term_of-requires-clause-wanted_stands : goal.term_of-requires-clause-wanted_stands
term_of-requires-clause-wanted_stands g c = kind_stands c.args.work.now.bank.now c.args.env.now c.args.store.now c.args.goal c.args.kind c.requires.placed

pub returns-in-Ok-refuse_open-clause-answer : goal.returns-in-Ok-refuse_open-clause-answer
returns-in-Ok-refuse_open-clause-answer g c =
    let bank = c.args.work.now.bank.now in
    let s = store_of bank c.args.store.now in
    let new = c.term_of.new.work.bank.now in
    let T = tree_of bank c.args.kind in
    exact_done (env_of bank c.args.env.now) s c.args.goal (context_at s c.args.goal) T (givens_of bank c.args.values.now) (plain c.args.term.now) c.args.work.now.ticks.now.left c.term_of.new.work.ticks.now.left
    (found (store_of new c.term_of.new.store) (tree_of new c.in-Ok.elaborated.term) (tree_of new c.in-Ok.elaborated.kind)) (c.in-Ok.ensures.answer T) new
    (λ u. done_by (store_of new c.term_of.new.store) (tree_of new u) []) c.in-Ok.elaborated.term (c.in-Ok-refuse_open.ensures s (sym (c.count-before.ensures.told bank))) refl

pub returns-in-Ok-refuse_open-clause-reached : goal.returns-in-Ok-refuse_open-clause-reached
returns-in-Ok-refuse_open-clause-reached g c vs n =
    record { grown = c.in-Ok.ensures.stands.grown; body = c.in-Ok.ensures.stands.term_stands; goals = none_new (store_of c.args.work.now.bank.now c.args.store.now) (store_of c.term_of.new.work.bank.now c.term_of.new.store) }

pub returns-in-Ok-clause-answer : goal.returns-in-Ok-clause-answer
returns-in-Ok-clause-answer g c =
    let bank = c.args.work.now.bank.now in
    let s = store_of bank c.args.store.now in
    let new = c.term_of.new.work.bank.now in
    let T = tree_of bank c.args.kind in
    exact_open (env_of bank c.args.env.now) s c.args.goal (context_at s c.args.goal) T (givens_of bank c.args.values.now) (plain c.args.term.now) c.args.work.now.ticks.now.left c.term_of.new.work.ticks.now.left
    (found (store_of new c.term_of.new.store) (tree_of new c.in-Ok.elaborated.term) (tree_of new c.in-Ok.elaborated.kind)) (c.in-Ok.ensures.answer T) new
    c.in-Err-refuse_open.fault (c.in-Err-refuse_open.ensures s (sym (c.count-before.ensures.told bank)))

pub returns-clause-answer : goal.returns-clause-answer
returns-clause-answer g c =
    let bank = c.args.work.now.bank.now in
    let s = store_of bank c.args.store.now in
    let T = tree_of bank c.args.kind in
    exact_refused (env_of bank c.args.env.now) s c.args.goal (context_at s c.args.goal) T (givens_of bank c.args.values.now) (plain c.args.term.now) c.term_of.new.work.bank.now c.in-Err.fault
    c.args.work.now.ticks.now.left c.term_of.new.work.ticks.now.left (c.in-Err.ensures.answer T)
