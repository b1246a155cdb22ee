use Rattle.std.proofs.Common.{sym, ap, ◌∙◌, map}
use Rattle.lq_terms.specs.Terms.{tree_of}
use Rattle.lq_env.specs.Families.{family_of}
use Rattle.lq_env.proofs.FaultLaws.{own_by}
use Rattle.lq_env.proofs.positivity.is_own.Goals as goal

pub returns : goal.returns
returns c =
    let s = c.as_slice-arguments.result.now in
    let h = tree_of c.args.bank.now c.in_ok-application.application.head in
    own_by (family_of c.args.bank.now c.args.family.now) (tree_of c.args.bank.now c.args.term) h (map (tree_of c.args.bank.now) s) c.in_ok-is_own.is_own
    (c.in_ok-application.ensures.is ∙ ap (λ z. (h, map (tree_of c.args.bank.now) z)) (sym c.as_slice-arguments.ensures.value)) c.in_ok-is_own.ensures
