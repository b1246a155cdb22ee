use Rattle.std.proofs.Common.{◌≡◌, [], ◌∷◌, ◌++◌, sym, ◌∙◌, ap}
use Rattle.std.specs.Prelude.{map}
use Rattle.std.proofs.lemmas.List.{map_push}
use Rattle.std.proofs.lemmas.Result.{err_from_is_err_and}
use Rattle.lq_output.specs.Grammar.{tactics_of}
use Rattle.lq_script.specs.Reading.{plain_tokens}
use Rattle.lq_script.specs.Rows.{plain_row}
use Rattle.lq_script.specs.Syntax.{plain_tactic}
use Rattle.lq_script.proofs.GrammarLaws.{behind_tactics, tactics_in, tactics_go, tactics_fail}
use Rattle.lq_script.proofs.reader.sentences.tactics.Goals as goal

pub returns-in_err-tactic : goal.returns-in_err-tactic
returns-in_err-tactic c =
    let p = err_from_is_err_and c.from_residual.result c.from_residual.ensures.1 in
    let before = map plain_tactic c.loop-rest.tactics.items in
    let told = ap (λ row. behind_tactics before (tactics_in (plain_row row))) (sym c.in-Some.is) ∙ c.loop-rest.invariant in
    rw (p.1, p.2) (tactics_fail c.in_err-tactic.field-0.0 before (plain_tokens c.in-Some.row.now) (tactics_of (plain_tokens c.args.tokens.now)) told c.in_err-tactic.ensures.value)

pub loop-rest-preserved : goal.loop-rest-preserved
loop-rest-preserved c =
    let before = map plain_tactic c.loop-rest.tactics.items in
    let told = ap (λ row. behind_tactics before (tactics_in (plain_row row))) (sym c.in-Some.is) ∙ c.loop-rest.invariant in
    let items : map plain_tactic c.push.new.self.items ≡ before ++ plain_tactic c.in_ok-tactic.tactic ∷ [] =
    rw c.in_ok-push.ensures.items (map_push _ c.loop-rest.tactics.items c.in_ok-tactic.tactic) in
    rw items (tactics_go before (plain_tactic c.in_ok-tactic.tactic) (plain_tokens c.in-Some.row.now) (plain_row c.in_ok-tactic.behind) (tactics_of (plain_tokens c.args.tokens.now)) told c.in_ok-tactic.ensures.value)
