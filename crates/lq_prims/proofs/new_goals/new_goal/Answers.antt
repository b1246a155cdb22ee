use Rattle.std.proofs.Common.{sym}
use Rattle.std.proofs.Common.{subst as along}
use Rattle.lq_trees.specs.Hypotheses.{HoldsOnly}
use Rattle.lq_terms.specs.Contexts.{context_of}
use Rattle.lq_terms.specs.Terms.{tree_of}
use Rattle.lq_terms.proofs.Growth.{Grows-trans}
use Rattle.lq_solving.specs.Stores.{names_in}
use Rattle.lq_evars.specs.Places.{store_of}
use Rattle.lq_evars.proofs.Growing.{context_grown}
use Rattle.lq_prims.proofs.NeedLaws.{goal_read_err, goal_form_err}
use Rattle.lq_prims.proofs.NewGoalLaws.{read_holds, goal_comes, goal_full, goal_is_made, goal_has}
use Rattle.lq_prims.proofs.WorkLaws.{handed_on}
use Rattle.lq_prims.proofs.new_goals.new_goal.Goals as goal

pub returns-in_err-read-clause-answer : goal.returns-in_err-read-clause-answer
returns-in_err-read-clause-answer g c s e =
    let bank = c.args.work.now.bank.now in
    let b = c.args.work.now.ticks.now.left in
    handed_on c.needed.new.bank _ c.from_residual.result c.in_err-read.field-0.0 _ b b c.from_residual.ensures.1
    (goal_read_err s e (store_of bank c.args.store.now) (context_of bank c.args.context) (tree_of bank c.args.kind) c.needed.new.bank c.in_err-read.field-0.0 b b (c.in_err-read.ensures.answer b))

pub normal-requires-clause-holds : goal.normal-requires-clause-holds
normal-requires-clause-holds g c =
    let bank = c.args.work.now.bank.now in
    along (λ z. HoldsOnly (names_in (context_of c.needed.new.bank z)) (tree_of c.needed.new.bank c.in_ok-read.read)) (sym c.hypotheses.ensures)
    (along (λ z. HoldsOnly (names_in z) (tree_of c.needed.new.bank c.in_ok-read.read)) (sym (context_grown bank c.needed.new.bank c.in_ok-read.ensures.grows c.args.context c.requires.context).0)
    (read_holds (store_of bank c.args.store.now) (context_of bank c.args.context) (tree_of bank c.args.kind) (tree_of c.needed.new.bank c.in_ok-read.read) c.requires.kind c.in_ok-read.ensures.answer))

pub returns-in_err-form-clause-answer : goal.returns-in_err-form-clause-answer
returns-in_err-form-clause-answer g c s e =
    let bank = c.args.work.now.bank.now in
    let b = c.args.work.now.ticks.now.left in
    let left = c.normal.new.work.ticks.now.left in
    handed_on c.normal.new.work.bank.now _ c.from_residual-in_err-form.result c.in_err-form.field-0.0 _ b left c.from_residual-in_err-form.ensures.1
    (goal_form_err s e (store_of bank c.args.store.now) (context_of bank c.args.context) (tree_of bank c.args.kind) c.normal.new.work.bank.now (tree_of c.needed.new.bank c.in_ok-read.read) c.in_err-form.field-0.0 b left
    c.in_ok-read.ensures.answer c.in_err-form.ensures.answer)

pub returns-in-Ok-clause-answer : goal.returns-in-Ok-clause-answer
returns-in-Ok-clause-answer g c s e =
    let bank = c.args.work.now.bank.now in
    goal_comes bank c.normal.new.work.bank.now (Grows-trans bank c.needed.new.bank c.normal.new.work.bank.now c.in_ok-read.ensures.grows c.in_ok-form.ensures.grows) c.args.store.now c.requires.store c.args.context c.requires.context
    c.args.kind c.in_ok-form.form (tree_of c.needed.new.bank c.in_ok-read.read) c.args.work.now.ticks.now.left c.normal.new.work.ticks.now.left c.in_ok-read.ensures.answer c.in_ok-form.ensures.answer s e
    c.new_var.new.self c.in-Ok.goal (c.in-Ok.ensures.told c.normal.new.work.bank.now)

pub returns-in-Ok-clause-made : goal.returns-in-Ok-clause-made
returns-in-Ok-clause-made g c =
    let bank = c.args.work.now.bank.now in
    goal_is_made bank c.normal.new.work.bank.now (Grows-trans bank c.needed.new.bank c.normal.new.work.bank.now c.in_ok-read.ensures.grows c.in_ok-form.ensures.grows) c.args.store.now c.requires.store c.args.context c.requires.context
    c.args.kind c.in_ok-form.form (tree_of c.needed.new.bank c.in_ok-read.read) c.args.work.now.ticks.now.left c.normal.new.work.ticks.now.left c.in_ok-read.ensures.answer c.in_ok-form.ensures.answer
    c.requires.kept c.requires.hypotheses c.requires.kind c.new_var.new.self c.in-Ok.goal (c.in-Ok.ensures.told c.normal.new.work.bank.now)

pub returns-in-Ok-clause-has : goal.returns-in-Ok-clause-has
returns-in-Ok-clause-has g c =
    let bank = c.args.work.now.bank.now in
    goal_has bank c.normal.new.work.bank.now (Grows-trans bank c.needed.new.bank c.normal.new.work.bank.now c.in_ok-read.ensures.grows c.in_ok-form.ensures.grows) c.args.store.now c.requires.store c.args.context c.requires.context
    c.args.kind c.in_ok-form.form c.in_ok-form.ensures.has c.new_var.new.self c.in-Ok.ensures.added

pub returns-in-Err-clause-answer : goal.returns-in-Err-clause-answer
returns-in-Err-clause-answer g c s e =
    let bank = c.args.work.now.bank.now in
    goal_full bank c.normal.new.work.bank.now (Grows-trans bank c.needed.new.bank c.normal.new.work.bank.now c.in_ok-read.ensures.grows c.in_ok-form.ensures.grows) c.args.store.now c.requires.store c.args.context c.requires.context
    c.args.kind c.in_ok-form.form (tree_of c.needed.new.bank c.in_ok-read.read) c.args.work.now.ticks.now.left c.normal.new.work.ticks.now.left c.in_ok-read.ensures.answer c.in_ok-form.ensures.answer s e
    c.new_var.new.self c.in-Err.fault c.from.result c.from.ensures (c.in-Err.ensures.told c.normal.new.work.bank.now)
