use Rattle.std.proofs.Common.{subst, sym, ap, ap₂, length, arith, Ok, None, ◌≡◌, ◌∙◌}
use Rattle.lq_evars.specs.Places.{store_of}
use Rattle.lq_states.specs.Views.{views, all_terms, first_unfit}
use Rattle.lq_goals.specs.Seen.{Tells, IsProofView, AreViews}
use Rattle.lq_goals.proofs.Viewing.{err_reads}
use Rattle.lq_goals.proofs.ViewingGoals.{shelf_few, focus_inside, proof_shows}
use Rattle.lq_goals.proofs.proof.Proof.view.Goals as goal

pub read_goals-requires-clause-goals : goal.read_goals-requires-clause-goals
read_goals-requires-clause-goals c = focus_inside c.args.bank.now c.args.self.now c.store-2.result.now c.focused.result.now c.store-2.ensures c.focused.ensures c.requires.listed

pub returns-in_err-goals-clause-told : goal.returns-in_err-goals-clause-told
returns-in_err-goals-clause-told c =
    proof_shows c.args.bank.now c.args.self.now (IsProofView c.read_goals.new.bank) c.from_residual.result
    (err_reads _ c.from_residual.result c.in_err-goals.field-0.0 _ c.from_residual.ensures.1
    (subst (λ vs. Tells c.in_err-goals.field-0.0 (first_unfit (all_terms vs))) (ap₂ (λ s js. views (store_of c.args.bank.now s) js) c.store-2.ensures c.focused.ensures) c.in_err-goals.ensures.told))

pub overflow_cast-result : goal.overflow_cast-result
overflow_cast-result c =
    let few = shelf_few c.args.bank.now c.args.self.now c.requires.listed in
    omega (arith, few, c.shelf_count.ensures, c.count-count.ensures.length, c.count-count.type_inv, ap (λ s. length s.variables) c.store.ensures)

pub returns-clause-told : goal.returns-clause-told
returns-clause-told c =
    let told =
    subst (λ vs. (first_unfit (all_terms vs) ≡ None) × AreViews c.read_goals.new.bank vs c.in_ok-goals.goals.items)
    (ap₂ (λ s js. views (store_of c.args.bank.now s) js) c.store-2.ensures c.focused.ensures) c.in_ok-goals.ensures.told in
    proof_shows c.args.bank.now c.args.self.now (IsProofView c.read_goals.new.bank) (Ok (record { goals = c.in_ok-goals.goals; shelved = c.shelf_count.result }))
    (told.0, record { goals = told.1; shelved = c.shelf_count.ensures })
