use Rattle.std.proofs.Common.{List, Bool, length, map, subst, sym}
use Rattle.std.proofs.lemmas.List.{length-map}
use Rattle.lq_terms.specs.Terms.{text_of}
use Rattle.lq_terms.specs.Numbers.{AreUsed}
use Rattle.lq_terms.proofs.NumberLaws.{table_first}
use Rattle.lq_terms.proofs.fresh.free_number.Goals as goal

pub returns : goal.returns
returns c =
    table_first (map (text_of c.args.bank.now) c.args.taken.now) (text_of c.args.bank.now c.args.base) c.first_free.result (length c.args.taken.now) c.deref.result.now (length-map c.args.taken.now (text_of c.args.bank.now))
    (subst (λ (us : List Bool). AreUsed (map (text_of c.args.bank.now) c.args.taken.now) (text_of c.args.bank.now c.args.base) (length c.args.taken.now) us) (sym c.deref.ensures.value) c.in_ok-used.ensures)
    c.first_free.ensures.before c.first_free.ensures.within c.first_free.ensures.free
