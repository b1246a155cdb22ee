use Rattle.std.proofs.Common.{ap₂, ◌∙◌, IfOk, map, Some, None}
use Rattle.std.proofs.Common.{subst as along}
use Rattle.lq_trees.specs.Tree.{Name}
use Rattle.lq_terms.specs.Terms.{IsName, text_of}
use Rattle.lq_evars.specs.Places.{store_of}
use Rattle.lq_prims.specs.Applied.{binder_at}
use Rattle.lq_prims.proofs.PremiseLaws.{name_found}
use Rattle.lq_prims.proofs.premises.premise_name.Goals as goal

pub returns-in-Some-clause-is : goal.returns-in-Some-clause-is
returns-in-Some-clause-is c =
    let bank = c.args.bank.now in
    let o = c.args.opening.now in
    along (λ (z : Name). IfOk c.or_blank.result (λ x. IsName c.or_blank.new.bank x z))
    (name_found (store_of bank o.store) o.premises.items (map (text_of bank) o.names.items) c.args.variable (Some (text_of bank c.in-Some.binder))
    (c.in-Some.ensures.is bank ∙ ap₂ (λ ks ns. binder_at ks (map (text_of bank) ns) c.args.variable) c.as_slice.ensures.value c.as_slice-2.ensures.value)) c.or_blank.ensures.is

pub returns-in-None-clause-is : goal.returns-in-None-clause-is
returns-in-None-clause-is c =
    let bank = c.args.bank.now in
    let o = c.args.opening.now in
    along (λ (z : Name). IfOk c.name_of_variable.result (λ x. IsName c.name_of_variable.new.bank x z))
    (name_found (store_of bank o.store) o.premises.items (map (text_of bank) o.names.items) c.args.variable None
    (c.in-None.ensures.is bank ∙ ap₂ (λ ks ns. binder_at ks (map (text_of bank) ns) c.args.variable) c.as_slice.ensures.value c.as_slice-2.ensures.value)) c.name_of_variable.ensures.is
