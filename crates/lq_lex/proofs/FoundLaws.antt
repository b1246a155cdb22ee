-- What stands at the front of a view, by its first character.
use Rattle.std.proofs.Common.{◌≡◌, ℕ, ◌<◌, Bool, true, false, refl, ap, subst, arith, if◌then◌else◌}
use Rattle.std.specs.Prelude.{◌==◌, ◌||◌, ◌&&◌}
use Rattle.std.specs.Char.{is_ascii_digit}
use Rattle.std.proofs.lemmas.Bool.Decides.{nat_tests}
use Rattle.lq_grammar.specs.declared.fault.LexFault.TheVariants.{BadChar}
use Rattle.lq_grammar.specs.declared.token.Class.{Class}
use Rattle.lq_grammar.specs.declared.token.Class.TheVariants as class
use Rattle.lq_grammar.specs.Cells.{front}
use Rattle.lq_grammar.specs.Tokens.{nothing, bound, flaw, is_blank, opens_comment, continues_name, starts_name, class_of, found_at, found}
use Rattle.lq_lex.specs.declared.view.View.{View}
use Rattle.lq_lex.specs.declared.view.Front.TheVariants.{Over, Broken, Beyond, Letter}
use Rattle.lq_lex.specs.Views.{from, Shows, IsBullet}

pub found_over : (v : View) (is_start : Bool) (at : ℕ) → Shows v at Over → found is_start (from v at) ≡ nothing
unfolding found
found_over v is_start at shown = ap (found is_start) shown

pub found_broken : (v : View) (is_start : Bool) (at : ℕ) → Shows v at Broken → found is_start (from v at) ≡ flaw (BadChar at)
unfolding found
found_broken v is_start at shown = ap (found is_start) shown

pub found_beyond : (v : View) (is_start : Bool) (at c : ℕ) → Shows v at (Beyond c) → found is_start (from v at) ≡ bound
unfolding found
found_beyond v is_start at c shown = ap (found is_start) shown

pub found_letter : (v : View) (is_start : Bool) (at c next : ℕ) → Shows v at (Letter c next) → found is_start (from v at) ≡ found_at (class_of is_start c (front (from v next))) at c (from v next)
unfolding found
found_letter v is_start at c next shown = ap (found is_start) shown.0

-- a bullet begins with one of three characters
class_by : (blank comment bullet text digit low continued starts : Bool) → Class
class_by blank comment bullet text digit low continued starts =
    if blank then class.Blank
    else if comment then class.Comment
    else if bullet then class.Bullet
    else if text then class.Text
    else if digit then class.Number
    else if low then (if continued then class.Name else class.Symbol)
    else if starts then class.Name
    else class.Symbol

bullet_by : (blank comment bullet text digit low continued starts : Bool) → IsBullet (class_by blank comment bullet text digit low continued starts) → bullet ≡ true
unfolding class_by
bullet_by true comment bullet text digit low continued starts h = absurd h
bullet_by false true bullet text digit low continued starts h = absurd h
bullet_by false false true text digit low continued starts h = refl
bullet_by false false false true digit low continued starts h = absurd h
bullet_by false false false false true low continued starts h = absurd h
bullet_by false false false false false true true starts h = absurd h
bullet_by false false false false false true false starts h = absurd h
bullet_by false false false false false false continued true h = absurd h
bullet_by false false false false false false continued false h = absurd h

class_of-by : (is_start : Bool) (c d : ℕ) →
    class_of is_start c d ≡ class_by (is_blank c) (opens_comment c d) (is_start && (c == 45 || c == 43 || c == 42)) (c == 34) (is_ascii_digit c) (c == 95) (continues_name d) (starts_name c)
unfolding class_of class_by
class_of-by is_start c d = refl

mark_ascii : (is_start : Bool) (c : ℕ) → (is_start && (c == 45 || c == 43 || c == 42)) ≡ true → c < 128
mark_ascii true c e = grind (arith, nat_tests)
mark_ascii false c e = absurd cc

pub bullet_ascii : (is_start : Bool) (c d : ℕ) → IsBullet (class_of is_start c d) → c < 128
bullet_ascii is_start c d h =
    mark_ascii is_start c (bullet_by _ _ _ _ _ _ _ _ (subst IsBullet (class_of-by is_start c d) h))
