use Rattle.std.proofs.Common.{sym, ◌∙◌, ap, length, eqb-true, eq-eqb}
use Rattle.lq_terms.specs.Terms.{text_of}
use Rattle.lq_print.proofs.AmongLaws.{own_empty, own_named}
use Rattle.lq_print.proofs.choosing.own_name.Goals as goal

pub returns-then-is_empty : goal.returns-then-is_empty
returns-then-is_empty c =
    own_empty (text_of c.args.bank.now c.args.binder) (ap length (sym c.text-text.ensures.text) ∙ eqb-true _ _ (sym c.is_empty.ensures ∙ c.if-is_empty.true))

pub returns-else-is_empty : goal.returns-else-is_empty
returns-else-is_empty c =
    c.text-text.ensures.text
    ∙ own_named (text_of c.args.bank.now c.args.binder) (λ e. let k = eq-eqb (length c.text-text.result.now) 0 (ap length c.text-text.ensures.text ∙ e) in cc)
