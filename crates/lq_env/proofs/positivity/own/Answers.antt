use Rattle.std.proofs.Common.{sym, ap, refl, ◌∙◌, ◌-◌, map, length}
use Rattle.lq_terms.specs.Terms.{tree_of}
use Rattle.lq_env.specs.Families.{family_of}
use Rattle.lq_env.specs.Spines.{is_instance}
use Rattle.lq_env.proofs.FaultLaws.{own_some, own_none, own_is, own_back}
use Rattle.lq_env.proofs.positivity.own.Goals as goal

pub returns-then-not-branch-clause-indices : goal.returns-then-not-branch-clause-indices
returns-then-not-branch-clause-indices c =
    let a = c.in_ok-application.application.arguments.items in
    sym (own_is (family_of c.args.bank.now c.args.family.now) (tree_of c.args.bank.now c.args.term) (tree_of c.args.bank.now c.in_ok-application.application.head) (map (tree_of c.args.bank.now) a) _ c.in_ok-application.ensures.is
    (own_none (family_of c.args.bank.now c.args.family.now) (tree_of c.args.bank.now c.in_ok-application.application.head) (map (tree_of c.args.bank.now) a)
    (ap (λ z. is_instance (family_of c.args.bank.now c.args.family.now) (tree_of c.args.bank.now c.in_ok-application.application.head) (map (tree_of c.args.bank.now) z)) (sym c.as_slice-arguments.ensures.value) ∙ sym c.in_ok-is_instance.ensures ∙ c.if-not-branch.true)))

pub returns-clause-indices : goal.returns-clause-indices
returns-clause-indices c =
    let s = c.as_slice-arguments.result.now in
    let h = tree_of c.args.bank.now c.in_ok-application.application.head in
    own_back c.args.bank.now c.args.family.now s c.in_ok-indices.indices.items c.hypotheses.result.now c.min-split.result (length s - c.min-split.result) c.hypotheses.ensures c.min-split.ensures refl c.in_ok-indices.ensures.items
    ∙ sym (own_is (family_of c.args.bank.now c.args.family.now) (tree_of c.args.bank.now c.args.term) h (map (tree_of c.args.bank.now) s) _
    (c.in_ok-application.ensures.is ∙ ap (λ z. (h, map (tree_of c.args.bank.now) z)) (sym c.as_slice-arguments.ensures.value))
    (own_some (family_of c.args.bank.now c.args.family.now) h (map (tree_of c.args.bank.now) s) (sym c.in_ok-is_instance.ensures ∙ c.if-not-branch.false)))
