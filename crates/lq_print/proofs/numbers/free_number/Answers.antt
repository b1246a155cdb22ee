use Rattle.std.proofs.Common.{List, Bool, length, map, subst, sym}
use Rattle.std.proofs.lemmas.List.{length-map}
use Rattle.lq_terms.specs.Numbers.{AreUsed}
use Rattle.lq_terms.proofs.NumberLaws.{table_first}
use Rattle.lq_print.specs.Tables.{text_at}
use Rattle.lq_print.proofs.numbers.free_number.Goals as goal

pub returns : goal.returns
returns c =
    table_first (map (text_at c.args.texts.now) c.args.taken.now) c.args.base.now c.first_free.result (length c.args.taken.now) c.deref.result.now (length-map c.args.taken.now (text_at c.args.texts.now))
    (subst (λ (us : List Bool). AreUsed (map (text_at c.args.texts.now) c.args.taken.now) c.args.base.now (length c.args.taken.now) us) (sym c.deref.ensures.value) c.in_ok-used.ensures)
    c.first_free.ensures.before c.first_free.ensures.within c.first_free.ensures.free
