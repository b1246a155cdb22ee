use Rattle.std.proofs.Common.{◌≡◌, ◌<◌, [], ◌∷◌, ◌++◌, length, arith}
use Rattle.std.proofs.lemmas.List.{map_push}
use Rattle.std.proofs.lemmas.Result.{err_from_is_err_and}
use Rattle.lq_script.specs.Reading.{plain_token, plain_tokens}
use Rattle.lq_script.proofs.TokenLaws.{tokens_start, tokens_goes, tokens_fails, tokens_end, behind_blanks_begins}
use Rattle.lq_script.proofs.reader.lexer.tokens.Goals as goal

pub loop-rest-init : goal.loop-rest-init
loop-rest-init c = record {
  told = rw c.new-tokens.ensures.items (tokens_start c.args.text.now c.behind_blanks-rest.result.now c.behind_blanks-rest.ensures.value);
  begins = rw c.behind_blanks-rest.ensures.value (behind_blanks_begins c.args.text.now);
}

pub returns-in_err-token : goal.returns-in_err-token
returns-in_err-token c =
    let p = err_from_is_err_and c.from_residual.result c.from_residual.ensures.1 in
    let rest = c.loop-rest.rest.now in
    let some : 0 < length rest = grind arith in
    rw (p.1, p.2) (tokens_fails c.in_err-token.field-0.0 (plain_tokens c.loop-rest.tokens.items) c.args.text.now rest c.loop-rest.invariant.told (c.loop-rest.invariant.begins some) c.in_err-token.ensures.value)

pub loop-rest-preserved : goal.loop-rest-preserved
loop-rest-preserved c =
    let rest = c.loop-rest.rest.now in
    let some : 0 < length rest = grind arith in
    let items : plain_tokens c.push.new.self.items ≡ plain_tokens c.loop-rest.tokens.items ++ plain_token c.in_ok-token.token ∷ [] =
    rw c.in_ok-push.ensures.items (map_push _ c.loop-rest.tokens.items c.in_ok-token.token) in
    record {
      told = rw items (tokens_goes (plain_tokens c.loop-rest.tokens.items) (plain_token c.in_ok-token.token) c.args.text.now rest c.in_ok-token.behind.now c.behind_blanks-rest-in-loop-rest.result.now c.loop-rest.invariant.told (c.loop-rest.invariant.begins some) c.in_ok-token.ensures.value c.behind_blanks-rest-in-loop-rest.ensures.value);
      begins = rw c.behind_blanks-rest-in-loop-rest.ensures.value (behind_blanks_begins c.in_ok-token.behind.now);
    }

pub returns : goal.returns
returns c =
    let none : length c.loop-rest.rest.now ≡ 0 = grind arith in
    tokens_end (plain_tokens c.loop-rest.tokens.items) c.args.text.now c.loop-rest.rest.now c.loop-rest.invariant.told none
