use Rattle.std.proofs.Common.{subst}
use Rattle.std.specs.Prelude.{map}
use Rattle.lq_ast.specs.Plain.{plain, plain_binders, joined}
use Rattle.lq_ast.specs.Syntax.{bound, Forall}
use Rattle.lq_terms.specs.Contexts.{context_of}
use Rattle.lq_terms.specs.Terms.{tree_of}
use Rattle.lq_terms.proofs.Growth.{Grows-trans}
use Rattle.lq_env.specs.Environments.{env_of}
use Rattle.lq_solving.specs.Kept.{StandsIn}
use Rattle.lq_evars.specs.Places.{store_of}
use Rattle.lq_elaborated.specs.Finding.{found_in}
use Rattle.lq_elaborated.proofs.StatementLaws.{statement_states, statement_stops, finished_stands}
use Rattle.lq_elaborated.proofs.stating.state.Goals as goal

pub returns-in-Ok-type_in-clause-answer : goal.returns-in-Ok-type_in-clause-answer
returns-in-Ok-type_in-clause-answer g c =
    statement_states c.finished.new.bank c.args.work.now.bank.now (env_of c.args.work.now.bank.now c.args.env.now) c.new-context.result (store_of c.args.work.now.bank.now c.in-Ok.store) (bound Forall (joined (map plain_binders c.args.groups.now)) (plain c.args.kind.now)) c.args.work.now.ticks.now.left c.type_in.new.work.ticks.now.left c.new-context.ensures (c.in-Ok.ensures.told c.args.work.now.bank.now)
    (found_in c.type_in.new.work.bank.now c.type_in.new.store c.in-Ok-type_in.found) c.finished.result c.in-Ok-type_in.ensures.answer c.finished.ensures.answer

pub returns-in-Ok-type_in-clause-scoped : goal.returns-in-Ok-type_in-clause-scoped
returns-in-Ok-type_in-clause-scoped g c =
    (finished_stands c.finished.new.bank (store_of c.type_in.new.work.bank.now c.type_in.new.store) (tree_of c.type_in.new.work.bank.now c.in-Ok-type_in.found.term) c.finished.result c.in-Ok-type_in.ensures.stands.grown.store
    (subst (λ h. StandsIn (store_of c.type_in.new.work.bank.now c.type_in.new.store) (context_of c.args.work.now.bank.now h) (tree_of c.type_in.new.work.bank.now c.in-Ok-type_in.found.term)) c.new-context.ensures c.in-Ok-type_in.ensures.stands.term_stands) c.finished.ensures.answer).0

pub returns-in-Ok-type_in-clause-stands : goal.returns-in-Ok-type_in-clause-stands
returns-in-Ok-type_in-clause-stands g c =
    (finished_stands c.finished.new.bank (store_of c.type_in.new.work.bank.now c.type_in.new.store) (tree_of c.type_in.new.work.bank.now c.in-Ok-type_in.found.term) c.finished.result c.in-Ok-type_in.ensures.stands.grown.store
    (subst (λ h. StandsIn (store_of c.type_in.new.work.bank.now c.type_in.new.store) (context_of c.args.work.now.bank.now h) (tree_of c.type_in.new.work.bank.now c.in-Ok-type_in.found.term)) c.new-context.ensures c.in-Ok-type_in.ensures.stands.term_stands) c.finished.ensures.answer).1

pub returns-in-Ok-type_in-clause-grows : goal.returns-in-Ok-type_in-clause-grows
returns-in-Ok-type_in-clause-grows g c = Grows-trans c.args.work.now.bank.now c.type_in.new.work.bank.now c.finished.new.bank c.in-Ok-type_in.ensures.grows c.finished.ensures.grows

pub returns-clause-answer : goal.returns-clause-answer
returns-clause-answer g c =
    statement_stops c.type_in.new.work.bank.now c.args.work.now.bank.now (env_of c.args.work.now.bank.now c.args.env.now) c.new-context.result (store_of c.args.work.now.bank.now c.in-Ok.store) (bound Forall (joined (map plain_binders c.args.groups.now)) (plain c.args.kind.now)) c.args.work.now.ticks.now.left c.type_in.new.work.ticks.now.left c.new-context.ensures (c.in-Ok.ensures.told c.args.work.now.bank.now) c.in-Err-type_in.stop c.in-Err-type_in.ensures.answer
