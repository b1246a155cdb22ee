use Rattle.std.proofs.Common.{◌∙◌, sym, ap, subst, length}
use Rattle.std.specs.Prelude.{OnOk}
use Rattle.lq_calculus.specs.Typing.{DerivedEnv}
use Rattle.lq_terms.specs.Terms.{text_of, tree_of}
use Rattle.lq_env.specs.Environments.{env_of}
use Rattle.lq_env.proofs.Grown.{env_of-grown, IsEnv-grown}
use Rattle.lq_goals.specs.Held.{proof_of}
use Rattle.lq_causes.specs.Stopping.{Stops}
use Rattle.lq_declaring.specs.Closing.{closing_work}
use Rattle.lq_declaring.proofs.ClosingLaws.{stops_open, stops_shelved, stops_root, shelf_open, root_given, root_passes, closing_declared}
use Rattle.lq_declaring.proofs.closing.declare_proved.Goals as goal

pub returns-then-open-ne0-clause-answer : goal.returns-then-open-ne0-clause-answer
returns-then-open-ne0-clause-answer g c =
    stops_open c.args.work.now.bank.now (env_of c.args.work.now.bank.now c.args.env.now) (text_of c.args.work.now.bank.now c.args.name) (tree_of c.args.work.now.bank.now c.args.statement) (proof_of c.args.work.now.bank.now c.args.proof.now) c.args.opaque c.args.work.now.ticks.now.left c.open_count-open.result (c.open_count-open.ensures c.args.work.now.bank.now) c.if-open-ne0.true

pub returns-then-shelved-ne0-clause-answer : goal.returns-then-shelved-ne0-clause-answer
returns-then-shelved-ne0-clause-answer g c =
    stops_shelved c.args.work.now.bank.now (env_of c.args.work.now.bank.now c.args.env.now) (text_of c.args.work.now.bank.now c.args.name) (tree_of c.args.work.now.bank.now c.args.statement) (proof_of c.args.work.now.bank.now c.args.proof.now) c.args.opaque c.args.work.now.ticks.now.left (sym (c.open_count-open.ensures c.args.work.now.bank.now) ∙ c.if-open-ne0.false) c.shelf_count-shelved.result (c.shelf_count-shelved.ensures ∙ ap length (sym (shelf_open (proof_of c.args.work.now.bank.now c.args.proof.now) c.requires.proof))) c.if-shelved-ne0.true

pub declared-requires-clause-env : goal.declared-requires-clause-env
declared-requires-clause-env g c = IsEnv-grown c.args.work.now.bank.now c.root.new.bank c.in-Ok.ensures.grows c.args.env.now c.requires.env

pub declared-requires-clause-body : goal.declared-requires-clause-body
declared-requires-clause-body g c = (root_given c.root.new.bank (proof_of c.args.work.now.bank.now c.args.proof.now) c.in-Ok.body c.requires.stored c.requires.proof.rooted c.in-Ok.ensures.told).2

pub returns-in-Ok-clause-answer : goal.returns-in-Ok-clause-answer
returns-in-Ok-clause-answer g c =
    let given = root_given c.root.new.bank (proof_of c.args.work.now.bank.now c.args.proof.now) c.in-Ok.body c.requires.stored c.requires.proof.rooted c.in-Ok.ensures.told in
    closing_declared c.args.work.now.bank.now c.root.new.bank c.declared.new.work.bank.now c.in-Ok.ensures.grows c.args.env.now c.declared.new.env c.requires.env c.args.name c.requires.name c.args.statement c.requires.statement.has (proof_of c.args.work.now.bank.now c.args.proof.now) c.args.opaque c.in-Ok.body c.declared.result
    c.args.work.now.ticks.now.left c.declared.new.work.ticks.now.left (sym (c.open_count-open.ensures c.args.work.now.bank.now) ∙ c.if-open-ne0.false) (ap length (shelf_open (proof_of c.args.work.now.bank.now c.args.proof.now) c.requires.proof) ∙ sym c.shelf_count-shelved.ensures ∙ c.if-shelved-ne0.false) given.0 given.1 c.declared.ensures.answer

pub returns-in-Ok-clause-derived : goal.returns-in-Ok-clause-derived
returns-in-Ok-clause-derived g c =
    subst (λ E. OnOk c.declared.result (DerivedEnv E → DerivedEnv (env_of c.declared.new.work.bank.now c.declared.new.env))) (env_of-grown c.args.work.now.bank.now c.root.new.bank c.in-Ok.ensures.grows c.args.env.now c.requires.env) c.declared.ensures.derived

pub returns-in-Err-clause-answer : goal.returns-in-Err-clause-answer
returns-in-Err-clause-answer g c =
    subst (λ z. Stops c.root.new.bank z (closing_work (env_of c.args.work.now.bank.now c.args.env.now) (text_of c.args.work.now.bank.now c.args.name) (tree_of c.args.work.now.bank.now c.args.statement) (proof_of c.args.work.now.bank.now c.args.proof.now) c.args.opaque) c.args.work.now.ticks.now.left c.args.work.now.ticks.now.left) (sym c.from.ensures)
    (stops_root c.root.new.bank (env_of c.args.work.now.bank.now c.args.env.now) (text_of c.args.work.now.bank.now c.args.name) (tree_of c.args.work.now.bank.now c.args.statement) (proof_of c.args.work.now.bank.now c.args.proof.now) c.args.opaque c.args.work.now.ticks.now.left (sym (c.open_count-open.ensures c.args.work.now.bank.now) ∙ c.if-open-ne0.false) (ap length (shelf_open (proof_of c.args.work.now.bank.now c.args.proof.now) c.requires.proof) ∙ sym c.shelf_count-shelved.ensures ∙ c.if-shelved-ne0.false) c.in-Err.fault (root_passes c.root.new.bank (proof_of c.args.work.now.bank.now c.args.proof.now) c.in-Err.fault c.requires.stored c.requires.proof.rooted c.in-Err.ensures.told))

pub returns-in-Err-clause-env : goal.returns-in-Err-clause-env
returns-in-Err-clause-env g c = IsEnv-grown c.args.work.now.bank.now c.root.new.bank c.in-Err.ensures.grows c.args.env.now c.requires.env
