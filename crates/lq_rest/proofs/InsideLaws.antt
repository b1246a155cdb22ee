-- Whether a fault or a token reaches the end of a text.
use Rattle.std.proofs.Common.{◌≡◌, ◌∙◌, refl, sym, ap, ap₂, subst, arith, ℕ, suc, ◌+◌, ◌^◌, ◌≤◌, Bool, true, false, List, length, drop, length-drop, Option, Some, None}
use Rattle.std.specs.Prelude.{not, ◌&&◌, ◌||◌, nat_lt, nat_le, is_none, is_some}
use Rattle.std.specs.Char.{is_ascii_digit}
use Rattle.std.proofs.lemmas.Bool.{le-leb, lt-leb, le-ltb}
use Rattle.lq_grammar.specs.declared.fault.LexFault.TheVariants.{BadChar, BadNumber}
use Rattle.lq_grammar.specs.declared.token.Class.{Class}
use Rattle.lq_grammar.specs.declared.token.Class.TheVariants as class
use Rattle.lq_grammar.specs.Cells.{Cells, cells, place, front, past}
use Rattle.lq_grammar.specs.Tokens.{continues_name, value_from, class_of}
use Rattle.lq_grammar.proofs.CellLaws.{place-view, view_whole, cells_over}
use Rattle.lq_lex.specs.declared.view.View.{View}
use Rattle.lq_lex.specs.declared.view.Front.{Front}
use Rattle.lq_lex.specs.declared.view.Front.TheVariants.{Over, Broken, Beyond, Letter}
use Rattle.lq_lex.specs.Views.{from, Shows, IsValue}
use Rattle.lq_sessions.specs.Rest.{is_cut_character, end_by, name_end, goes_on_behind, number_inside, is_inside}

-- ---- names

pub name_end_letter : (v : View) (at c next : ℕ) → Shows v at (Letter c next) → name_end (from v at) ≡ end_by (class_of false c (front (from v next))) at (from v next)
unfolding name_end
name_end_letter v at c next s = ap name_end s.0

pub class_found : (v : View) (at c next d : ℕ) (k : Class) → Shows v at (Letter c next) → d ≡ front (from v next) → k ≡ class_of false c d →
    name_end (from v at) ≡ end_by k at (from v next)
class_found v at c next d k s e f = name_end_letter v at c next s ∙ ap (λ k. end_by k at (from v next)) (sym (f ∙ ap (class_of false c) e))

pub name_end_none : (v : View) (at : ℕ) (f : Front) → Shows v at f → ((c next : ℕ) → f ≡ Letter c next → ⊥) → name_end (from v at) ≡ at
unfolding name_end place
name_end_none v at Over s never = ap name_end s
name_end_none v at Broken s never = ap name_end s
name_end_none v at (Beyond c) s never = ap name_end s
name_end_none v at (Letter c next) s never = absurd (never c next refl)

pub ends_name : (v : View) (at next stop : ℕ) → past continues_name (from v next) ≡ from v stop → end_by class.Name at (from v next) ≡ stop
unfolding end_by
ends_name v at next stop e = ap place e ∙ place-view v.limit v.text.now stop

pub ends_other : (k : Class) (at : ℕ) (cs : Cells) → (k ≡ class.Name → ⊥) → end_by k at cs ≡ at
unfolding end_by
ends_other class.Blank at cs never = refl
ends_other class.Comment at cs never = refl
ends_other class.Bullet at cs never = refl
ends_other class.Text at cs never = refl
ends_other class.Number at cs never = refl
ends_other class.Name at cs never = absurd (never refl)
ends_other class.Symbol at cs never = refl

-- ---- what stands behind

pub behind_letter : (v : View) (n at c next : ℕ) → Shows v at (Letter c next) → goes_on_behind n (from v at) ≡ nat_lt next n
unfolding goes_on_behind
behind_letter v n at c next s = ap (goes_on_behind n) s.0 ∙ ap (λ k. nat_lt k n) (place-view v.limit v.text.now next)

pub behind_none : (v : View) (n at : ℕ) (f : Front) → Shows v at f → ((c next : ℕ) → f ≡ Letter c next → ⊥) → goes_on_behind n (from v at) ≡ false
unfolding goes_on_behind
behind_none v n at Over s never = ap (goes_on_behind n) s
behind_none v n at Broken s never = ap (goes_on_behind n) s
behind_none v n at (Beyond c) s never = ap (goes_on_behind n) s
behind_none v n at (Letter c next) s never = absurd (never c next refl)

-- ---- numbers

pub inside_by : (v : View) (n at stop : ℕ) (value : Option ℕ) → IsValue value (value_from 0 (from v at)) → past is_ascii_digit (from v at) ≡ from v stop →
    number_inside n (from v at) ≡ ((is_none value && nat_lt stop n) || goes_on_behind n (from v stop))
unfolding number_inside
inside_by v n at stop value told e =
    ap (λ cs. nat_le (2 ^ 128) (value_from 0 (from v at)) && nat_lt (place cs) n || goes_on_behind n cs) e
    ∙ ap (λ k. nat_le (2 ^ 128) (value_from 0 (from v at)) && nat_lt k n || goes_on_behind n (from v stop)) (place-view v.limit v.text.now stop)
    ∙ ap (λ b. b && nat_lt stop n || goes_on_behind n (from v stop)) (by value told)
  where
    by : (o : Option ℕ) → IsValue o (value_from 0 (from v at)) → nat_le (2 ^ 128) (value_from 0 (from v at)) ≡ is_none o
    by None t = le-leb (2 ^ 128) (value_from 0 (from v at)) t
    by (Some m) t = subst (λ k. nat_le (2 ^ 128) k ≡ false) (sym t.0) (lt-leb (2 ^ 128) m t.1)

-- ---- faults

-- where all of the text is looked at
whole_from : (v : View) (at : ℕ) → v.limit ≡ length v.text.now → at ≤ length v.text.now → from v at ≡ cells at (drop at v.text.now)
whole_from v at e h = view_whole v.limit v.text.now at (omega (arith, e)) h

next_is : (at : ℕ) → at + 1 ≡ suc at
next_is at = omega arith

pub character_by : (v : View) (at stop : ℕ) (cut : Bool) → v.limit ≡ length v.text.now → at ≤ length v.text.now → cut ≡ is_cut_character (drop at v.text.now) → stop ≡ name_end (from v at) →
    (nat_lt (at + 1) (length v.text.now) && not cut && nat_lt stop (length v.text.now)) ≡ is_inside v.text.now (BadChar at)
unfolding is_inside
character_by v at stop cut e h is_cut ends =
    ap (λ k. nat_lt k (length v.text.now) && not cut && nat_lt stop (length v.text.now)) (next_is at)
    ∙ ap (λ b. nat_lt (suc at) (length v.text.now) && not b && nat_lt stop (length v.text.now)) is_cut
    ∙ ap (λ k. nat_lt (suc at) (length v.text.now) && not (is_cut_character (drop at v.text.now)) && nat_lt k (length v.text.now)) (ends ∙ ap name_end (whole_from v at e h))

pub number_by : (v : View) (at : ℕ) → v.limit ≡ length v.text.now → at ≤ length v.text.now → number_inside (length v.text.now) (from v at) ≡ is_inside v.text.now (BadNumber at)
unfolding is_inside
number_by v at e h = ap (number_inside (length v.text.now)) (whole_from v at e h)

-- at the end of the text or behind it no fault is inside
pub character_behind : (text : List ℕ) (at : ℕ) → length text ≤ at → is_inside text (BadChar at) ≡ false
unfolding is_inside
character_behind text at e =
    ap (λ b. b && not (is_cut_character (drop at text)) && nat_lt (name_end (cells at (drop at text))) (length text)) (le-ltb (suc at) (length text) (omega (arith, e)))

pub number_behind : (text : List ℕ) (at : ℕ) → length text ≤ at → is_inside text (BadNumber at) ≡ false
unfolding is_inside number_inside value_from past goes_on_behind
number_behind text at e = ap (number_inside (length text)) (cells_over at (drop at text) (omega (arith, e, length-drop at text)))

none_is : (value : Option ℕ) (none : Bool) → is_some value ≡ not none → none ≡ is_none value
none_is None true e = refl
none_is None false e = grind arith
none_is (Some n) true e = grind arith
none_is (Some n) false e = refl

pub inside_as : (v : View) (n at stop : ℕ) (value : Option ℕ) (none more : Bool) → IsValue value (value_from 0 (from v at)) → past is_ascii_digit (from v at) ≡ from v stop →
    is_some value ≡ not none → more ≡ goes_on_behind n (from v stop) → ((none && nat_lt stop n) || more) ≡ number_inside n (from v at)
inside_as v n at stop value none more told e is goes =
    ap₂ (λ b d. (b && nat_lt stop n) || d) (none_is value none is) goes ∙ sym (inside_by v n at stop value told e)
