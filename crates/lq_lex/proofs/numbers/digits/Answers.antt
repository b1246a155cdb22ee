use Rattle.std.proofs.Common.{arith, ◌∙◌}
use Rattle.lq_grammar.specs.Tokens.{value_from}
use Rattle.lq_lex.specs.Views.{from}
use Rattle.lq_lex.proofs.WordLaws.{values_more, values_end}
use Rattle.lq_lex.proofs.numbers.digits.Goals as goal

pub loop-digit-preserved : goal.loop-digit-preserved
loop-digit-preserved c =
    let loop = c.loop-digit in
    record {
      values = values_more loop.value c.in-Some.digit c.with_digit-value.result (from c.args.view.now loop.at) (from c.args.view.now c.in-Some.next) (value_from 0 (from c.args.view.now c.args.start)) c.with_digit-value.ensures.adds c.in-Some.ensures.1 loop.invariant.values;
      same = loop.invariant.same ∙ c.in-Some.ensures.0;
      fits = c.with_digit-value.ensures.fits;
      ahead = omega (arith, c.in-Some.ensures.2, loop.invariant.ahead);
      within = c.in-Some.ensures.3;
    }

pub returns-clause-value : goal.returns-clause-value
returns-clause-value c =
    values_end c.args.view.now c.loop-digit.at c.loop-digit.value (value_from 0 (from c.args.view.now c.args.start)) c.in_default.ensures c.loop-digit.invariant.values c.loop-digit.invariant.fits

pub returns-clause-behind : goal.returns-clause-behind
returns-clause-behind c = c.loop-digit.invariant.same ∙ c.in_default.ensures.0
