-- A string, character by character.
use Rattle.std.proofs.Common.{◌≡◌, ℕ, Bool, true, false, length, ◌≤◌, refl, sym, ap, ◌∙◌, if◌then◌else◌}
use Rattle.std.specs.Prelude.{◌==◌, ◌&&◌, not}
use Rattle.lq_grammar.specs.declared.fault.LexFault.TheVariants.{BadChar, OpenString}
use Rattle.lq_grammar.specs.declared.token.TokenKind.TheVariants as kind
use Rattle.lq_grammar.specs.Cells.{Cells, beyond, letter}
use Rattle.lq_grammar.specs.Tokens.{Found, crossing, word, token, string_from}
use Rattle.lq_lex.specs.declared.view.View.{View}
use Rattle.lq_lex.specs.declared.view.Front.TheVariants.{Over, Broken, Beyond, Letter}
use Rattle.lq_lex.specs.declared.found.Found.TheVariants as told
use Rattle.lq_lex.specs.Views.{from, Shows, Tells, text_token}
use Rattle.lq_lex.proofs.WordLaws.{token_to}

abbrev ended_by : ℕ → Cells → Found
ended_by start cs = token kind.Text start cs

letter_by : (start p c : ℕ) (cs : Cells) (b : Bool) → (c == 34) ≡ b →
    string_from start true (letter p c cs) ≡ elim b as (λ _. Found) [ true ↦ string_from start false cs | false ↦ token kind.Text start (letter p c cs) ]
unfolding string_from
letter_by start p c cs b e = ap (λ v. elim v as (λ _. Found) [ true ↦ string_from start false cs | false ↦ token kind.Text start (letter p c cs) ]) e

beyond_by : (start p c : ℕ) (b : Bool) → (c == 34) ≡ b →
    string_from start true (beyond p c) ≡ elim b as (λ _. Found) [ true ↦ crossing kind.Text | false ↦ token kind.Text start (beyond p c) ]
unfolding string_from
beyond_by start p c b e = ap (λ v. elim v as (λ _. Found) [ true ↦ crossing kind.Text | false ↦ token kind.Text start (beyond p c) ]) e

-- a character of a string: a quote inside it may close it, a quote behind such a one doubles it
goes_by : (start p c : ℕ) (cs : Cells) (closing quote : Bool) → (c == 34) ≡ quote → (closing && not quote) ≡ false →
    string_from start closing (letter p c cs) ≡ string_from start (not closing && quote) cs
unfolding string_from
goes_by start p c cs false quote e h = ap (λ b. string_from start b cs) e
goes_by start p c cs true true e h = letter_by start p c cs true e
goes_by start p c cs true false e h = absurd cc

pub string_goes : (v : View) (start at c next : ℕ) (closing : Bool) → (closing && not (c == 34)) ≡ false → Shows v at (Letter c next) →
    string_from start closing (from v at) ≡ string_from start (not closing && (c == 34)) (from v next)
string_goes v start at c next closing h shown = ap (string_from start closing) shown.0 ∙ goes_by start at c (from v next) closing (c == 34) refl h

ends_letter : (start p c : ℕ) (cs : Cells) (closing quote : Bool) → (c == 34) ≡ quote → (closing && not quote) ≡ true →
    string_from start closing (letter p c cs) ≡ token kind.Text start (letter p c cs)
ends_letter start p c cs false quote e h = absurd cc
ends_letter start p c cs true true e h = absurd cc
ends_letter start p c cs true false e h = letter_by start p c cs false e

pub string_ends : (v : View) (start at c next : ℕ) (closing : Bool) → (closing && not (c == 34)) ≡ true → Shows v at (Letter c next) →
    string_from start closing (from v at) ≡ word (record { kind = kind.Text; start = start; end = at }) (from v at)
string_ends v start at c next closing h shown =
    ap (string_from start closing) shown.0 ∙ ends_letter start at c (from v next) closing (c == 34) refl h ∙ ap (token kind.Text start) (sym shown.0) ∙ token_to v kind.Text start at

-- what the text, a bad byte and the bound make of it
pub string_over : (v : View) (start at : ℕ) (closing : Bool) → Shows v at Over → start ≤ at → at ≤ length v.text.now →
    Tells v (if closing then text_token start at else told.Flaw (OpenString start)) (string_from start closing (from v at))
unfolding string_from
string_over v start at true shown ahead within = (ap (string_from start true) shown ∙ ap (token kind.Text start) (sym shown) ∙ token_to v kind.Text start at, ahead, within)
string_over v start at false shown ahead within = ap (string_from start false) shown

pub string_broken : (v : View) (start at : ℕ) (closing : Bool) → Shows v at Broken → start ≤ at → at ≤ length v.text.now →
    Tells v (if closing then text_token start at else told.Flaw (BadChar at)) (string_from start closing (from v at))
unfolding string_from
string_broken v start at true shown ahead within = (ap (string_from start true) shown ∙ ap (token kind.Text start) (sym shown) ∙ token_to v kind.Text start at, ahead, within)
string_broken v start at false shown ahead within = ap (string_from start false) shown

string_beyond_by : (v : View) (start at c : ℕ) (closing quote : Bool) → (c == 34) ≡ quote → Shows v at (Beyond c) → start ≤ at → at ≤ length v.text.now →
    Tells v (if closing && not quote then text_token start at else told.Crossing kind.Text) (string_from start closing (from v at))
unfolding string_from
string_beyond_by v start at c false quote e shown ahead within = ap (string_from start false) shown
string_beyond_by v start at c true true e shown ahead within = ap (string_from start true) shown ∙ beyond_by start at c true e
string_beyond_by v start at c true false e shown ahead within =
    (ap (string_from start true) shown ∙ beyond_by start at c false e ∙ ap (token kind.Text start) (sym shown) ∙ token_to v kind.Text start at, ahead, within)

pub string_beyond : (v : View) (start at c : ℕ) (closing : Bool) → Shows v at (Beyond c) → start ≤ at → at ≤ length v.text.now →
    Tells v (if closing && not (c == 34) then text_token start at else told.Crossing kind.Text) (string_from start closing (from v at))
string_beyond v start at c closing shown ahead within = string_beyond_by v start at c closing (c == 34) refl shown ahead within
