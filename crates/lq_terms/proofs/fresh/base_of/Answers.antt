use Rattle.std.proofs.Common.{sym, ◌∙◌, ap, length, eqb-true, eq-eqb}
use Rattle.lq_terms.specs.Terms.{text_of}
use Rattle.lq_terms.proofs.FreshNames.{base_x, named_base}
use Rattle.lq_terms.proofs.fresh.base_of.Goals as goal

pub returns-then-is_empty-clause-base : goal.returns-then-is_empty-clause-base
returns-then-is_empty-clause-base c =
    base_x c.name.result _ (text_of c.args.bank.now c.args.binder) (ap length (sym c.text.ensures.text) ∙ eqb-true _ _ (sym c.is_empty.ensures ∙ c.if-is_empty.true)) c.name.ensures.named

pub returns-else-is_empty-clause-base : goal.returns-else-is_empty-clause-base
returns-else-is_empty-clause-base c =
    named_base (text_of c.args.bank.now c.args.binder)
    (λ e. let k = eq-eqb (length c.text.result.now) 0 (ap length c.text.ensures.text ∙ e) in cc)
