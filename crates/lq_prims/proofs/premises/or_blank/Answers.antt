use Rattle.std.proofs.Common.{sym, ◌∙◌, ap, length, eqb-true, eq-eqb, IfOk}
use Rattle.std.proofs.Common.{subst as along}
use Rattle.lq_trees.specs.Tree.{Name}
use Rattle.lq_terms.specs.Terms.{IsName, text_of}
use Rattle.lq_prims.proofs.PremiseLaws.{blank_empty, blank_named}
use Rattle.lq_prims.proofs.premises.or_blank.Goals as goal

pub returns-then-is_empty-clause-is : goal.returns-then-is_empty-clause-is
returns-then-is_empty-clause-is c =
    along (λ (z : Name). IfOk c.name.result (λ x. IsName c.name.new.self x z))
    (blank_empty (text_of c.args.bank.now c.args.binder) (ap length (sym c.text.ensures.text) ∙ eqb-true _ _ (sym c.is_empty.ensures ∙ c.if-is_empty.true))) c.name.ensures.named

pub returns-else-is_empty-clause-is : goal.returns-else-is_empty-clause-is
returns-else-is_empty-clause-is c = record {
  has = c.requires;
  is = blank_named (text_of c.args.bank.now c.args.binder) (λ e. let k = eq-eqb (length c.text.result.now) 0 (ap length c.text.ensures.text ∙ e) in cc);
}
