use Rattle.std.proofs.Common.{◌∙◌, ap, sym, refl, subst, ℕ, [], length, suc, Ok, Err, Option}
use Rattle.lq_lex.specs.declared.view.View.{View}
use Rattle.lq_lex.specs.Views.{from}
use Rattle.lq_sessions.specs.Rest.{looked, looked_begun}
use Rattle.lq_rest.specs.Looks.{Begins}
use Rattle.lq_rest.proofs.LookLaws.{looks_as, looked_seen, looked_own}
use Rattle.lq_rest.proofs.looking.looked_at.Goals as goal

pub returns-in-Ok-Some : goal.returns-in-Ok-Some
returns-in-Ok-Some c =
    let text = c.args.text.now in
    let v : View = record { text = c.args.text; limit = length text } in
    let w : View = record { text = c.args.text; limit = c.bound-limit.result } in
    let P : Option ℕ → Type 0 = λ o. Begins v (Ok o) (looked_begun (suc (length text)) text (from v c.args.from)) in
    let begins = subst P c.in-Ok-Some.field-0-is c.in-Ok-Some.ensures in
    looks_as c.tokens_of.result _ (looked (suc (length text)) text [] (from w c.in-Ok-Some.first))
    (looked_seen v c.args.from refl c.requires ∙ begins.0 ∙ looked_own v w c.in-Ok-Some.first refl refl begins.1 c.bound-limit.ensures) c.tokens_of.ensures

pub returns-in-Ok-None : goal.returns-in-Ok-None
returns-in-Ok-None c =
    let text = c.args.text.now in
    let v : View = record { text = c.args.text; limit = length text } in
    let P : Option ℕ → Type 0 = λ o. Begins v (Ok o) (looked_begun (suc (length text)) text (from v c.args.from)) in
    looked_seen v c.args.from refl c.requires ∙ subst P c.in-Ok-None.field-0-is c.in-Ok-None.ensures ∙ ap Ok (sym (c.from_vec.ensures ∙ c.new.ensures.items))

pub returns-in-Err : goal.returns-in-Err
returns-in-Err c =
    let text = c.args.text.now in
    let v : View = record { text = c.args.text; limit = length text } in
    looks_as (Err c.in-Err.fault) _ (looked_begun (suc (length text)) text (from v c.args.from)) (looked_seen v c.args.from refl c.requires) c.in-Err.ensures
