-- A sign or a digit of a printed term is one token.
use Rattle.std.proofs.Common.{◌≡◌, ℕ, zero, suc, ◌+◌, ◌-◌, ◌*◌, ◌^◌, ◌<◌, ◌≤◌, Bool, true, false, List, [], ◌∷◌, ◌++◌, drop, length, Option, Some, None, refl, sym, ap, ◌∙◌, subst, arith, inl, inr, if◌then◌else◌}
use Rattle.std.specs.Prelude.{◌⊎◌, ◌&&◌, nat_lt, codes, decimal}
use Rattle.std.specs.Char.{is_ascii_digit}
use Rattle.bstr.specs.Utf8.{decoded}
use Rattle.lq_grammar.specs.declared.fault.LexFault.TheVariants.{BadChar}
use Rattle.lq_grammar.specs.declared.token.Class.TheVariants as class
use Rattle.lq_grammar.specs.declared.token.Symbol.{Symbol}
use Rattle.lq_grammar.specs.declared.token.Symbol.TheVariants as sign
use Rattle.lq_grammar.specs.declared.token.TokenKind.TheVariants as kind
use Rattle.lq_grammar.specs.Cells.{Cells, beyond, letter, place, front, view}
use Rattle.lq_grammar.specs.Tokens.{Found, bound, word, flaw, token, pair_of, single_of, is_clear, single_at, pair_at, symbol_at, class_of, found_at, found}
use Rattle.lq_grammar.proofs.CellLaws.{place-view, view_over}
use Rattle.lq_grammar.proofs.Computing.{cutting}
use Rattle.lq_texts.proofs.Fronts.{Shows, shows_in, shows_ascii, shown_front, drop_next}
use Rattle.lq_texts.proofs.NameLexing.{FoundTo}
use Rattle.lq_texts.proofs.Runs.{IsEnd, end_blank, end_close, end_comma, end_ascii}

-- ---- signs of one character

-- the class and the sign of a character before another one
abbrev IsSingle : ℕ → ℕ → Bool → Symbol → Type 0
IsSingle c d clear s = (class_of false c d ≡ class.Symbol) × (pair_of c d ≡ None) × (single_of clear c ≡ Some s)

as_symbol : (p c : ℕ) (cs : Cells) → found_at class.Symbol p c cs ≡ symbol_at p c cs
unfolding found_at
as_symbol p c cs = refl

symbol_by : (p c : ℕ) (cs : Cells) (o : Option Symbol) → pair_of c (front cs) ≡ o →
    symbol_at p c cs ≡ elim o as (λ _. Found) [ Some s ↦ pair_at s p cs | None ↦ single_at p c cs ]
unfolding symbol_at
symbol_by p c cs o e = ap (λ w. elim w as (λ _. Found) [ Some s ↦ pair_at s p cs | None ↦ single_at p c cs ]) e

single_is : (p c : ℕ) (cs : Cells) (s : Symbol) → single_of (is_clear cs) c ≡ Some s →
    single_at p c cs ≡ word (record { kind = kind.Symbol s; start = p; end = place cs }) cs
unfolding single_at
single_is p c cs s e = ap (λ w. elim w as (λ _. Found) [ Some s ↦ token (kind.Symbol s) p cs | None ↦ flaw (BadChar p) ]) e

found_class : (p c : ℕ) (cs : Cells) → class_of false c (front cs) ≡ class.Symbol → found false (letter p c cs) ≡ symbol_at p c cs
unfolding found
found_class p c cs e = ap (λ k. found_at k p c cs) e ∙ as_symbol p c cs

single_by : (c p : ℕ) (cs : Cells) (s : Symbol) → IsSingle c (front cs) (is_clear cs) s →
    found false (letter p c cs) ≡ word (record { kind = kind.Symbol s; start = p; end = place cs }) cs
single_by c p cs s h = found_class p c cs h.0 ∙ symbol_by p c cs None h.1 ∙ single_is p c cs s h.2

pub beyond_bound : (p c : ℕ) → found false (beyond p c) ≡ bound
unfolding found
beyond_bound p c = refl

single_found : (L : ℕ) (text : List ℕ) (at c : ℕ) (bs : List ℕ) (s : Symbol) → drop at text ≡ c ∷ bs → c < 128 →
    IsSingle c (front (view L text (at + 1))) (is_clear (view L text (at + 1))) s → FoundTo L text at (at + 1) (kind.Symbol s)
single_found L text at c bs s e low h = by (shows_ascii L text at c bs e low)
  where
    by : Shows L text at c 1 → FoundTo L text at (at + 1) (kind.Symbol s)
    by (inr v) = inr (v.0, inl (ap (found false) v.1 ∙ beyond_bound at c))
    by (inl v) = inl (
      v.0,
      ap (found false) v.1 ∙ single_by c at (view L text (at + 1)) s h
          ∙ ap (λ q. word (record { kind = kind.Symbol s; start = at; end = q }) (view L text (at + 1))) (place-view L text (at + 1)),
    )

-- what stands before a blank, a bracket or a comma
front_end : (L : ℕ) (text : List ℕ) (at c d : ℕ) (more : List ℕ) → drop at text ≡ c ∷ d ∷ more → IsEnd d → front (view L text (at + 1)) ≡ d
front_end L text at c d more e h = shown_front L text (at + 1) d 1 (shows_ascii L text (at + 1) d more (drop_next text at 1 (c ∷ d ∷ more) e) (end_ascii d h))

ended_single : (L : ℕ) (text : List ℕ) (at c d : ℕ) (more : List ℕ) (s : Symbol) → drop at text ≡ c ∷ d ∷ more → c < 128 → IsEnd d →
    ((clear : Bool) → IsSingle c d clear s) → FoundTo L text at (at + 1) (kind.Symbol s)
ended_single L text at c d more s e low h is =
    single_found L text at c (d ∷ more) s e low
    (subst (λ q. IsSingle c q (is_clear (view L text (at + 1))) s) (sym (front_end L text at c d more e h)) (is (is_clear (view L text (at + 1)))))

pub close_found : (L : ℕ) (text : List ℕ) (at d : ℕ) (more : List ℕ) → IsEnd d → drop at text ≡ 41 ∷ d ∷ more →
    FoundTo L text at (at + 1) (kind.Symbol sign.CloseRound)
unfolding cutting
close_found L text at d more h e = ended_single L text at 41 d more sign.CloseRound e (omega arith) h (by d h)
  where
    by : (d : ℕ) → IsEnd d → (clear : Bool) → IsSingle 41 d clear sign.CloseRound
    by d end_blank clear = (refl, refl, refl)
    by d end_close clear = (refl, refl, refl)
    by d end_comma clear = (refl, refl, refl)

pub comma_found : (L : ℕ) (text : List ℕ) (at d : ℕ) (more : List ℕ) → IsEnd d → drop at text ≡ 44 ∷ d ∷ more →
    FoundTo L text at (at + 1) (kind.Symbol sign.Comma)
unfolding cutting
comma_found L text at d more h e = ended_single L text at 44 d more sign.Comma e (omega arith) h (by d h)
  where
    by : (d : ℕ) → IsEnd d → (clear : Bool) → IsSingle 44 d clear sign.Comma
    by d end_blank clear = (refl, refl, refl)
    by d end_close clear = (refl, refl, refl)
    by d end_comma clear = (refl, refl, refl)

pub colon_found : (L : ℕ) (text : List ℕ) (at d : ℕ) (more : List ℕ) → IsEnd d → drop at text ≡ 58 ∷ d ∷ more →
    FoundTo L text at (at + 1) (kind.Symbol sign.Colon)
unfolding cutting
colon_found L text at d more h e = ended_single L text at 58 d more sign.Colon e (omega arith) h (by d h)
  where
    by : (d : ℕ) → IsEnd d → (clear : Bool) → IsSingle 58 d clear sign.Colon
    by d end_blank clear = (refl, refl, refl)
    by d end_close clear = (refl, refl, refl)
    by d end_comma clear = (refl, refl, refl)

pub blank_found : (L : ℕ) (text : List ℕ) (at d : ℕ) (more : List ℕ) → IsEnd d → drop at text ≡ 95 ∷ d ∷ more →
    FoundTo L text at (at + 1) (kind.Symbol sign.Underscore)
unfolding cutting
blank_found L text at d more h e = ended_single L text at 95 d more sign.Underscore e (omega arith) h (by d h)
  where
    by : (d : ℕ) → IsEnd d → (clear : Bool) → IsSingle 95 d clear sign.Underscore
    by d end_blank clear = (refl, refl, refl)
    by d end_close clear = (refl, refl, refl)
    by d end_comma clear = (refl, refl, refl)

-- an opening bracket before anything but `*`, with which it would open a comment
open_single : (d : ℕ) (clear : Bool) → Rattle.std.specs.Prelude.◌==◌ d 42 ≡ false → IsSingle 40 d clear sign.OpenRound
unfolding cutting
open_single d clear h = (rw h refl, refl, refl)

pub open_found : (L : ℕ) (text : List ℕ) (at c : ℕ) (bs : List ℕ) → drop at text ≡ 40 ∷ bs → (decoded bs).char ≡ Some c → (c ≡ 42 → ⊥) →
    FoundTo L text at (at + 1) (kind.Symbol sign.OpenRound)
open_found L text at c bs e f differs =
    let next = drop_next text at 1 (40 ∷ bs) e ∙ sym (Rattle.std.proofs.Common.append-nil bs) in
    let is = shown_front L text (at + 1) c (decoded bs).size (shows_in L text (at + 1) bs [] c next f) in
    single_found L text at 40 bs sign.OpenRound e (omega arith)
    (subst (λ q. IsSingle 40 q (is_clear (view L text (at + 1))) sign.OpenRound) (sym is)
    (open_single c _ (Rattle.std.proofs.lemmas.Bool.ne_eqb c 42 differs)))

-- a `.` at the end of the text
pub stop_found : (L : ℕ) (text : List ℕ) (at : ℕ) → drop at text ≡ 46 ∷ [] → length text ≤ at + 1 → FoundTo L text at (at + 1) (kind.Symbol sign.Stop)
unfolding cutting
stop_found L text at e h =
    let over_is = view_over L text (at + 1) h in
    single_found L text at 46 [] sign.Stop e (omega arith) (subst (λ cs. IsSingle 46 (front cs) (is_clear cs) sign.Stop) (sym over_is) (refl, refl, refl))

-- ---- signs of two characters

abbrev IsPair : ℕ → ℕ → Symbol → Type 0
IsPair c d s = (class_of false c d ≡ class.Symbol) × (pair_of c d ≡ Some s)

pair_by : (c d p : ℕ) (cs : Cells) (s : Symbol) → front cs ≡ d → IsPair c d s → found false (letter p c cs) ≡ pair_at s p cs
pair_by c d p cs s f h = found_class p c cs (ap (class_of false c) f ∙ h.0) ∙ symbol_by p c cs (Some s) (ap (pair_of c) f ∙ h.1)

pair_found : (L : ℕ) (text : List ℕ) (at c d : ℕ) (more : List ℕ) (s : Symbol) → drop at text ≡ c ∷ d ∷ more → c < 128 → d < 128 → IsPair c d s →
    FoundTo L text at (at + 2) (kind.Symbol s)
unfolding pair_at
pair_found L text at c d more s e low low' h = by (shows_ascii L text at c (d ∷ more) e low) next
  where
    next : Shows L text (at + 1) d 1
    next = shows_ascii L text (at + 1) d more (drop_next text at 1 (c ∷ d ∷ more) e) low'

    here : view L text at ≡ letter at c (view L text (at + 1)) → found false (view L text at) ≡ pair_at s at (view L text (at + 1))
    here v = ap (found false) v ∙ pair_by c d at (view L text (at + 1)) s (shown_front L text (at + 1) d 1 next) h

    two : at + 1 + 1 ≡ at + 2
    two = omega arith

    by : Shows L text at c 1 → Shows L text (at + 1) d 1 → FoundTo L text at (at + 2) (kind.Symbol s)
    by (inr v) w = inr (omega (arith, v.0), inl (ap (found false) v.1 ∙ beyond_bound at c))
    by (inl v) (inr w) = inr (omega (arith, w.0), inr (kind.Symbol s, here v.1 ∙ ap (pair_at s at) w.1))
    by (inl v) (inl w) =
        inl (
          omega (arith, w.0),
          here v.1 ∙ ap (pair_at s at) w.1
              ∙ ap (λ q. word (record { kind = kind.Symbol s; start = at; end = q }) (view L text (at + 1 + 1))) (place-view L text (at + 1 + 1))
              ∙ ap (λ q. word (record { kind = kind.Symbol s; start = at; end = q }) (view L text q)) two,
        )

pub becomes_found : (L : ℕ) (text : List ℕ) (at : ℕ) (more : List ℕ) → drop at text ≡ 58 ∷ 61 ∷ more →
    FoundTo L text at (at + 2) (kind.Symbol sign.ColonEqual)
unfolding cutting
becomes_found L text at more e = pair_found L text at 58 61 more sign.ColonEqual e (omega arith) (omega arith) (refl, refl)

pub maps_found : (L : ℕ) (text : List ℕ) (at : ℕ) (more : List ℕ) → drop at text ≡ 61 ∷ 62 ∷ more → FoundTo L text at (at + 2) (kind.Symbol sign.FatArrow)
unfolding cutting
maps_found L text at more e = pair_found L text at 61 62 more sign.FatArrow e (omega arith) (omega arith) (refl, refl)

pub arrow_found : (L : ℕ) (text : List ℕ) (at : ℕ) (more : List ℕ) → drop at text ≡ 45 ∷ 62 ∷ more → FoundTo L text at (at + 2) (kind.Symbol sign.Arrow)
unfolding cutting
arrow_found L text at more e = pair_found L text at 45 62 more sign.Arrow e (omega arith) (omega arith) (refl, refl)
