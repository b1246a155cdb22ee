use Rattle.std.proofs.Common.{◌∙◌, sym}
use Rattle.lq_lex.proofs.SelectorLaws.{ranges_go, ranges_end, ranges_none}
use Rattle.lq_lex.proofs.selectors.is_ranges_selector.Goals as goal

pub loop-token-preserved : goal.loop-token-preserved
loop-token-preserved c =
    c.loop-token.invariant ∙ ranges_go c.loop-token.part c.in-Some-next_part.next c.loop-token.rest.now c.in-Some.token c.in-Some.behind.now c.in-Some.ensures (sym c.in-Some-next_part.ensures)

pub returns-in-None : goal.returns-in-None
returns-in-None c =
    c.ends_ranges.ensures ∙ sym (c.loop-token.invariant ∙ ranges_end c.loop-token.part c.loop-token.rest.now c.in-Some.token c.in-Some.behind.now c.in-Some.ensures (sym c.in-None.ensures))

pub returns : goal.returns
returns c = sym (c.loop-token.invariant ∙ ranges_none c.loop-token.part c.loop-token.rest.now c.in_default.ensures)
