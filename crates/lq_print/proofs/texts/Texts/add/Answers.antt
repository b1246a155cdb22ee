use Rattle.std.proofs.Common.{◌≡◌, ◌∙◌, ℕ, List, map, sym, subst, arith, length}
use Rattle.std.specs.String.{string_bytes}
use Rattle.std.proofs.lemmas.List.{length-map}
use Rattle.lq_terms.proofs.Texts.{insert_new}
use Rattle.lq_print.specs.Tables.{IsText, AreApart}
use Rattle.lq_print.proofs.TableLaws.{apart_push, last_text, map_push}
use Rattle.lq_print.proofs.texts.Texts.add.Goals as goal

pub invariant_of-self-2 : goal.invariant_of-self-2
invariant_of-self-2 c =
    subst AreApart
    (sym (map_push string_bytes c.self.inside.texts.keys c.insert.new.self.keys c.in-Ok.owned c.args.text.now
    (c.in-Ok-insert.ensures.keys ∙ insert_new c.in-Ok.owned c.args.text.now c.self.inside.texts.keys c.in-Ok.ensures.ok c.in_default.ensures.absent) c.in-Ok.ensures.ok))
    (apart_push (map string_bytes c.self.inside.texts.keys) c.args.text.now c.self.invariant c.in_default.ensures.absent)

pub returns-clause-added : goal.returns-clause-added
returns-clause-added c =
    let at : c.len-place.result ≡ length (map string_bytes c.self.inside.texts.keys) = omega (arith, c.len-place.ensures, length-map c.self.inside.texts.keys string_bytes) in
    subst (λ (k : ℕ). IsText (map string_bytes c.insert.new.self.keys) k c.args.text.now) (sym at)
    (subst (λ (ts : List (List ℕ)). IsText ts (length (map string_bytes c.self.inside.texts.keys)) c.args.text.now)
    (sym (map_push string_bytes c.self.inside.texts.keys c.insert.new.self.keys c.in-Ok.owned c.args.text.now
    (c.in-Ok-insert.ensures.keys ∙ insert_new c.in-Ok.owned c.args.text.now c.self.inside.texts.keys c.in-Ok.ensures.ok c.in_default.ensures.absent) c.in-Ok.ensures.ok))
    (last_text (map string_bytes c.self.inside.texts.keys) c.args.text.now))
