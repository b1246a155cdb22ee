use Rattle.std.proofs.Common.{◌∷◌, ◌++◌, false, Some, None, arith, ap, ◌∙◌, length, length-append}
use Rattle.std.proofs.lemmas.Str.Pattern.{split_parts}
use Rattle.lq_sentences.specs.Words.{undoubled}
use Rattle.lq_parts.proofs.Quotes.{quote_found, none_doubled}
use Rattle.lq_parts.proofs.sayings.at_quote.Goals as goal

pub returns-in-Some : goal.returns-in-Some
returns-in-Some c =
    let p = split_parts 34 c.args.text.now (Some (c.in-Some.before, c.in-Some.rest)) c.in-Some.ensures.cases (omega arith) in (
      ap (undoubled false) p.0 ∙ quote_found c.in-Some.before.now c.in-Some.rest.now p.1 ∙ ap (λ bs. c.in-Some.before.now ++ 34 ∷ bs) c.behind_pair.ensures.same,
      omega (arith, ap length p.0, length-append c.in-Some.before.now (34 ∷ c.in-Some.rest.now), c.behind_pair.ensures.shorter),
    )

pub returns-in-None : goal.returns-in-None
returns-in-None c = none_doubled c.args.text.now (split_parts 34 c.args.text.now None c.in-None.ensures.cases (omega arith))
