use Rattle.std.proofs.Common.{◌≡◌, ◌∷◌, Some, None, arith, ap, length}
use Rattle.std.proofs.lemmas.Str.Pattern.{strip_prefix_char}
use Rattle.lq_parts.proofs.Quotes.{pair_skipped, pair_missing}
use Rattle.lq_parts.proofs.sayings.behind_pair.Goals as goal

pub returns-in-Some : goal.returns-in-Some
returns-in-Some c =
    let e : c.args.text.now ≡ 34 ∷ c.in-Some.rest.now = strip_prefix_char 34 c.args.text.now (Some c.in-Some.rest) c.in-Some.ensures.cases (omega arith) in
    record { same = pair_skipped _ _ e; shorter = omega (arith, ap length e) }

pub returns-in-None : goal.returns-in-None
returns-in-None c =
    record { same = pair_missing c.args.text.now (strip_prefix_char 34 c.args.text.now None c.in-None.ensures.cases (omega arith)); shorter = omega arith }
