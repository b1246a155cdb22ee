use Rattle.std.proofs.Common.{sym, ◌∙◌, ap, length, eqb-true, eq-eqb, ◌++◌}
use Rattle.std.specs.String.{string_bytes}
use Rattle.lq_print.proofs.VisitLaws.{on_ok}
use Rattle.lq_print.proofs.PageLaws.{empty_name, some_name}
use Rattle.lq_print.proofs.writing.write_name.Goals as goal

pub returns-then-is_empty : goal.returns-then-is_empty
returns-then-is_empty c =
    on_ok c.write.result c.write.ensures
    (λ e. e ∙ ap (λ z. string_bytes c.args.out.now ++ z) (empty_name c.args.name.now (eqb-true _ _ (sym c.is_empty.ensures ∙ c.if-is_empty.true))))

pub returns : goal.returns
returns c =
    on_ok c.write-2.result c.write-2.ensures
    (λ e. e ∙ ap (λ z. string_bytes c.args.out.now ++ z)
    (some_name c.args.name.now (λ l. let k = eq-eqb (length c.args.name.now) 0 l in let m = c.if-is_empty.false in let n = c.is_empty.ensures in cc)))
