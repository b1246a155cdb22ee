use Rattle.std.proofs.Common.{◌∙◌, sym, refl, ℕ, length, suc, subst, Ok, Option, Result, Bool, []}
use Rattle.lq_grammar.specs.declared.fault.LexFault.{LexFault}
use Rattle.lq_grammar.specs.Cutting.{Next, begun, gathered}
use Rattle.lq_grammar.specs.Settled.{begins_settled, settles}
use Rattle.lq_lex.specs.declared.view.View.{View}
use Rattle.lq_lex.specs.Views.{from}
use Rattle.lq_lex.specs.Pieces.{Begins, Gathers}
use Rattle.lq_lex.proofs.CuttingLaws.{next_seen, settles_seen, gathered_seen, settled_seen, cuts_fault, unsettled_fault}
use Rattle.lq_lex.proofs.cutting.next_candidate.Goals as goal

pub returns-in-Ok-Some : goal.returns-in-Ok-Some
returns-in-Ok-Some c =
    let text = c.args.text.now in
    let v : View = record { text = c.args.text; limit = length text } in
    let w : View = record { text = c.args.text; limit = c.bound-limit.result } in
    let P : Option ℕ → Type 0 = λ o. Begins v (Ok o) (begun (suc (length text)) text (from v c.args.start)) (begins_settled (suc (length text)) text (from v c.args.start)) in
    let begins = subst P c.in-Ok-Some.field-0-is c.in-Ok-Some.ensures in
    let same = next_seen v c.args.start refl c.requires ∙ begins.0 ∙ gathered_seen v w c.in-Ok-Some.first refl refl begins.1 c.bound-limit.ensures in
    let settled = settles_seen v c.args.start refl c.requires ∙ begins.2 ∙ settled_seen v w c.in-Ok-Some.first refl refl begins.1 c.bound-limit.ensures in
    let Q : Result Next LexFault → Type 0 = λ r. Gathers c.gather.result r (settles text c.args.start) in
    let R : Bool → Type 0 = λ b. Gathers c.gather.result (gathered (suc (length text)) text [] (from w c.in-Ok-Some.first)) b in
    subst Q (sym same) (subst R (sym settled) c.gather.ensures)

pub returns-in-Ok-None : goal.returns-in-Ok-None
returns-in-Ok-None c =
    let text = c.args.text.now in
    let v : View = record { text = c.args.text; limit = length text } in
    let P : Option ℕ → Type 0 = λ o. Begins v (Ok o) (begun (suc (length text)) text (from v c.args.start)) (begins_settled (suc (length text)) text (from v c.args.start)) in
    let begins = subst P c.in-Ok-None.field-0-is c.in-Ok-None.ensures in
    rw c.unsettled.ensures (next_seen v c.args.start refl c.requires ∙ begins.0, sym (settles_seen v c.args.start refl c.requires ∙ begins.1))

pub returns-in-Err : goal.returns-in-Err
returns-in-Err c =
    let text = c.args.text.now in
    let v : View = record { text = c.args.text; limit = length text } in
    (cuts_fault c.in-Err.fault _ (next_seen v c.args.start refl c.requires ∙ c.in-Err.ensures.0), unsettled_fault c.in-Err.fault _ (settles_seen v c.args.start refl c.requires ∙ c.in-Err.ensures.1))
