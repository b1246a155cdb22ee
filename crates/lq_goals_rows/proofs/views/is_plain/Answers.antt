use Rattle.std.proofs.Common.{◌∙◌, subst, ap, arith, ◌≡◌, length}
use Rattle.lq_goals_rows.specs.Looks.{AreRising}
use Rattle.lq_goals_rows.proofs.Rising.{rising_listed, empty_list}
use Rattle.lq_goals_rows.proofs.views.is_plain.Goals as goal

pub returns : goal.returns
returns c = λ bank e.
    let p = c.args.proof.now in
    let many : c.count-count.result ≡ length p.store.variables = c.count-count.ensures.length ∙ ap (λ s. length s.variables) c.store.ensures in
    rising_listed bank p (omega (arith, many, c.if-count-eq0.false)) (empty_list p.shelf (omega (arith, c.shelf_count.ensures, c.if-shelf_count-ne0.false)))
    (subst (λ n. AreRising 0 n p.focus) many (subst (AreRising 0 c.count-count.result) c.focused.ensures (c.are_rising.ensures e)))
