use Rattle.std.proofs.Common.{◌≡◌, sym, ap, ◌∙◌, length, eqb-true, eq-eqb}
use Rattle.lq_trees.specs.Ticks.{fails}
use Rattle.lq_terms.specs.Terms.{text_of}
use Rattle.lq_evars.specs.Places.{store_of}
use Rattle.lq_tactics.specs.Applying.{determined}
use Rattle.lq_tactics.specs.Rows.{not_determined}
use Rattle.lq_prims.specs.declared.faults.PrimFault.{PrimFault}
use Rattle.lq_prims.specs.Opening.{opening_of}
use Rattle.lq_prims.proofs.PremiseLaws.{not_strict, none_needed, one_needed}
use Rattle.lq_prims.proofs.WorkLaws.{refuses_at_once}
use Rattle.lq_prims.proofs.premises.determined.Goals as goal
use Rattle.lq_prims.proofs.premises.determined.Goals.{then-not-strict-via-then-not-strict, then-not-strict-via-else-not-strict+then-is_empty}

pub returns-then-not-strict-clause-answer : goal.returns-then-not-strict-clause-answer
returns-then-not-strict-clause-answer c =
    let s = store_of c.args.bank.now c.args.opening.now.store in
    let o = opening_of c.args.bank.now c.args.opening.now in
    elim c.then-not-strict.branch [
      | then-not-strict-via-then-not-strict w ↦ not_strict c.args.strict s o c.args.variables.now w.if-not-strict.true
      | then-not-strict-via-else-not-strict+then-is_empty w ↦ none_needed c.args.strict s o c.args.variables.now (eqb-true _ _ (sym w.is_empty.ensures ∙ w.if-is_empty.true))
    ]

pub returns-in-Ok-clause-answer : goal.returns-in-Ok-clause-answer
returns-in-Ok-clause-answer c b =
    let s = store_of c.args.bank.now c.args.opening.now.store in
    let o = opening_of c.args.bank.now c.args.opening.now in
    let js = c.args.variables.now in
    let new = c.premise_name.new.bank in
    refuses_at_once new (PrimFault.NotDetermined c.in-Ok.name) (not_determined (text_of new c.in-Ok.name)) (determined c.args.strict s o js) (c.in-Ok.ensures.is.has, Rattle.std.proofs.Common.refl)
    (one_needed c.args.strict s o js 0 c.if-not-strict.false (λ e. let k = eq-eqb (length js) 0 e in cc) ∙ ap (λ z. fails (not_determined z)) (sym c.in-Ok.ensures.is.is)) b
