use Rattle.std.proofs.Common.{sym, ◌∙◌, ap, length, eqb-true, eq-eqb, IfOk}
use Rattle.std.proofs.Common.{subst as along}
use Rattle.lq_trees.specs.Tree.{Name}
use Rattle.lq_terms.specs.Terms.{IsName, text_of}
use Rattle.lq_prims.proofs.NameLaws.{base_empty, base_named}
use Rattle.lq_prims.proofs.naming.base_of.Goals as goal

pub returns-then-is_empty-clause-base : goal.returns-then-is_empty-clause-base
returns-then-is_empty-clause-base c =
    along (λ (z : Name). IfOk c.name.result (λ x. IsName c.name.new.self x z))
    (base_empty (text_of c.args.bank.now c.args.binder) (ap length (sym c.text.ensures.text) ∙ eqb-true _ _ (sym c.is_empty.ensures ∙ c.if-is_empty.true))) c.name.ensures.named

pub returns-else-is_empty-clause-base : goal.returns-else-is_empty-clause-base
returns-else-is_empty-clause-base c = record {
  has = c.requires;
  is = base_named (text_of c.args.bank.now c.args.binder) (λ e. let k = eq-eqb (length c.text.result.now) 0 (ap length c.text.ensures.text ∙ e) in cc);
}
