use Rattle.std.proofs.Common.{◌≡◌, length}
use Rattle.lq_grammar.specs.declared.selector.RangePart.TheVariants.{First}
use Rattle.lq_grammar.specs.Selectors.{ranges_to_colon}
use Rattle.lq_lex.proofs.selectors.is_ranges_selector.Given as goal

abbrev pub invariant-loop-token : goal.invariant-loop-token
invariant-loop-token l = ranges_to_colon First l.tokens ≡ ranges_to_colon l.part l.rest

abbrev pub decreases-loop-token : goal.decreases-loop-token
decreases-loop-token l = length l.rest
