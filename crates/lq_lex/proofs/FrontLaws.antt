-- What follows from what stands at the front of a view.
use Rattle.std.proofs.Common.{◌≡◌, ℕ, Bool, true, false, refl, sym, ap, ◌∙◌}
use Rattle.lq_grammar.specs.Cells.{Cells, letter, front, past, goes_on}
use Rattle.lq_lex.specs.declared.view.View.{View}
use Rattle.lq_lex.specs.declared.view.Front.{Front}
use Rattle.lq_lex.specs.declared.view.Front.TheVariants.{Over, Broken, Beyond, Letter}
use Rattle.lq_grammar.specs.Settled.{has_character}
use Rattle.lq_grammar.specs.Tokens.{is_clear}
use Rattle.lq_lex.specs.Views.{from, Shows, front_of, clear_of}

-- ---- runs

past_yes : (test : ℕ → Bool) (p c : ℕ) (cs : Cells) → test c ≡ true → past test (letter p c cs) ≡ past test cs
unfolding past
past_yes test p c cs e = chosen (test c) e where
  chosen : (b : Bool) → b ≡ true → elim b as (λ _. Cells) [ true ↦ past test cs | false ↦ letter p c cs ] ≡ past test cs
  chosen true f = refl
  chosen false f = absurd cc

past_no : (test : ℕ → Bool) (p c : ℕ) (cs : Cells) → test c ≡ false → past test (letter p c cs) ≡ letter p c cs
unfolding past
past_no test p c cs e = chosen (test c) e where
  chosen : (b : Bool) → b ≡ false → elim b as (λ _. Cells) [ true ↦ past test cs | false ↦ letter p c cs ] ≡ letter p c cs
  chosen true f = absurd cc
  chosen false f = refl

pub run_goes : (v : View) (test : ℕ → Bool) (at c next : ℕ) → Shows v at (Letter c next) → test c ≡ true → past test (from v at) ≡ past test (from v next)
run_goes v test at c next shown e = ap (past test) shown.0 ∙ past_yes test at c (from v next) e

pub run_stops : (v : View) (test : ℕ → Bool) (at c next : ℕ) → Shows v at (Letter c next) → test c ≡ false → past test (from v at) ≡ from v at
run_stops v test at c next shown e = ap (past test) shown.0 ∙ past_no test at c (from v next) e ∙ sym shown.0

pub run_ends : (v : View) (test : ℕ → Bool) (at : ℕ) (f : Front) → Shows v at f → ((c next : ℕ) → f ≡ Letter c next → ⊥) → past test (from v at) ≡ from v at
unfolding past
run_ends v test at Over shown never = ap (past test) shown ∙ sym shown
run_ends v test at Broken shown never = ap (past test) shown ∙ sym shown
run_ends v test at (Beyond c) shown never = ap (past test) shown ∙ sym shown
run_ends v test at (Letter c next) shown never = absurd (never c next refl)

-- whether the front is a character behind the bound that passes a test
abbrev pub crossing_of : (ℕ → Bool) → Front → Bool
crossing_of test (Beyond c) = test c
crossing_of test Over = false
crossing_of test Broken = false
crossing_of test (Letter c next) = false

pub goes_on-from : (v : View) (test : ℕ → Bool) (at : ℕ) (f : Front) → Shows v at f → goes_on test (from v at) ≡ crossing_of test f
unfolding goes_on
goes_on-from v test at Over shown = ap (goes_on test) shown
goes_on-from v test at Broken shown = ap (goes_on test) shown
goes_on-from v test at (Beyond c) shown = ap (goes_on test) shown
goes_on-from v test at (Letter c next) shown = ap (goes_on test) shown.0

pub crosses_none : (v : View) (test : ℕ → Bool) (at : ℕ) (f : Front) → Shows v at f → ((c : ℕ) → f ≡ Beyond c → ⊥) → false ≡ goes_on test (from v at)
crosses_none v test at Over shown never = sym (goes_on-from v test at Over shown)
crosses_none v test at Broken shown never = sym (goes_on-from v test at Broken shown)
crosses_none v test at (Beyond c) shown never = absurd (never c refl)
crosses_none v test at (Letter c next) shown never = sym (goes_on-from v test at (Letter c next) shown)

-- ---- the character at the front

pub front-from : (v : View) (at : ℕ) (f : Front) → Shows v at f → front_of f ≡ front (from v at)
unfolding front
front-from v at Over shown = ap front (sym shown)
front-from v at Broken shown = ap front (sym shown)
front-from v at (Beyond c) shown = ap front (sym shown)
front-from v at (Letter c next) shown = ap front (sym shown.0)

pub clear-from : (v : View) (at : ℕ) (f : Front) → Shows v at f → clear_of f ≡ is_clear (from v at)
unfolding is_clear
clear-from v at Over shown = ap is_clear (sym shown)
clear-from v at Broken shown = ap is_clear (sym shown)
clear-from v at (Beyond c) shown = ap is_clear (sym shown)
clear-from v at (Letter c next) shown = ap is_clear (sym shown.0)

pub character-from : (v : View) (at c next : ℕ) → Shows v at (Letter c next) → has_character (from v at) ≡ true
unfolding has_character
character-from v at c next shown = ap has_character shown.0

pub character-none : (v : View) (at : ℕ) (f : Front) → Shows v at f → ((c next : ℕ) → f ≡ Letter c next → ⊥) → has_character (from v at) ≡ false
unfolding has_character
character-none v at Over shown never = ap has_character shown
character-none v at Broken shown never = ap has_character shown
character-none v at (Beyond c) shown never = ap has_character shown
character-none v at (Letter c next) shown never = absurd (never c next refl)
