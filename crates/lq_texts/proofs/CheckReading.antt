-- `Check` and a printed term are read as that command, or a word is nested too deep.
use Rattle.std.proofs.Common.{◌≡◌, ℕ, ◌≤◌, false, [], ◌∷◌, Ok, Err, refl, sym, ap, subst, ◌∙◌, inl, inr, arith}
use Rattle.std.specs.Prelude.{◌⊎◌, None, codes}
use Rattle.lq_grammar.specs.declared.token.Symbol.TheVariants.{Arrow as ArrowSign, Stop as StopSign}
use Rattle.lq_ast.specs.Syntax.{Surface, applied}
use Rattle.lq_ast.specs.Syntax.{Ident}
use Rattle.lq_ast.specs.Commands.{Statement, Sentence, command, check, stated}
use Rattle.lq_sentences.specs.Words.{Word, Words, name, symbol, is_name, is_number, is_sign, same_symbol, reads}
use Rattle.lq_sentences.specs.Rules.{sees, Stop, unexpected, too_nested, Read, and_then, read_word, read}
use Rattle.lq_sentences.specs.Parts.{entry}
use Rattle.lq_sentences.specs.Terms.{arrow_behind, term}
use Rattle.lq_sentences.specs.Patterns.{free_spot}
use Rattle.lq_sentences.specs.Arguments.{argument_at, begins_arg}
use Rattle.lq_sentences.specs.Sentences.{command_words, a_command, selector, whole_command, whole_tac, whole_selected, whole_open, whole_mark, stop}
use Rattle.lq_sentences.specs.Reading.{Whole, to_the_end, whole, further, either, second_of, whole_map, statement, stated_by, statements, sentence}
use Rattle.lq_sentences.proofs.RuleLaws.{chosen_false}
use Rattle.lq_sentences.proofs.LoopLaws.{many_done}
use Rattle.lq_sentences.proofs.PlaceLaws.{Rising}
use Rattle.lq_texts.proofs.Said.{Said, said_forall, said_fun, said_let, said_arrow, said_spine, Spine}
use Rattle.lq_texts.proofs.GoodLaws.{Good}
use Rattle.lq_texts.proofs.TermReading.{term_reads, atoms_read}
use Rattle.lq_texts.proofs.TermForms.{app_row, app_cut}
use Rattle.lq_texts.proofs.AtomReading.{Halts}
use Rattle.lq_texts.proofs.AtomRows.{Cut, Atoms}
use Rattle.lq_texts.proofs.NestedPlaces.{nested_from, nested_behind, rising_behind, row_front, By, further_by, nested_wins}
use Rattle.lq_texts.proofs.CallReading.{here, args, args_row, args_cut, Ends, tac_ends, tac_nested}

-- ---- the command

command_by : (p : ℕ) (us : Words) → read whole_command ((name (codes "Check"), p) ∷ us)
    ≡ and_then (and_then (read (term 201 free_spot) us) (λ t vs. Ok (check t, vs))) (λ c vs. read (stop (command c)) vs)
unfolding whole_command a_command command_words entry read_word
command_by p us = refl

command_ok : (p o : ℕ) (us : Words) (s : Surface) → read (term 201 free_spot) us ≡ Ok (s, (symbol StopSign, o) ∷ []) →
    whole whole_command ((name (codes "Check"), p) ∷ us) ≡ Ok (command (check s))
unfolding read_word is_sign same_symbol
command_ok p o us s e =
    ap to_the_end (command_by p us ∙ ap (λ (x : Read Surface). and_then (and_then x (λ t vs. Ok (check t, vs))) (λ c vs. read (stop (command c)) vs)) e)

command_nested : (p q : ℕ) (us : Words) → read (term 201 free_spot) us ≡ Err (too_nested q) →
    whole whole_command ((name (codes "Check"), p) ∷ us) ≡ Err (too_nested q)
command_nested p q us e =
    ap to_the_end (command_by p us ∙ ap (λ (x : Read Surface). and_then (and_then x (λ t vs. Ok (check t, vs))) (λ c vs. read (stop (command c)) vs)) e)

-- ---- the sentence

abbrev at_check : ℕ → Words → Words
at_check p us = (name (codes "Check"), p) ∷ us

selected_fails : (p : ℕ) (us : Words) → whole whole_selected (at_check p us) ≡ Err (unexpected p)
unfolding whole_selected selector sees read_word is_number is_sign same_symbol reads
selected_fails p us = refl

open_fails : (p : ℕ) (us : Words) → whole whole_open (at_check p us) ≡ Err (unexpected p)
unfolding whole_open selector sees read_word is_number is_sign same_symbol reads
open_fails p us = refl

mark_fails : (p : ℕ) (us : Words) → whole whole_mark (at_check p us) ≡ Err (unexpected p)
unfolding whole_mark read_word is_sign same_symbol
mark_fails p us = refl

sentence_by : (p : ℕ) (us : Words) → sentence (at_check p us)
    ≡ either (whole_map (stated 0) (statement (at_check p us))) (λ u. either (whole whole_open (at_check p us)) (λ v. whole whole_mark (at_check p us)))
unfolding sentence statements stated_by reads
sentence_by p us = refl

sentence_ok : (p : ℕ) (us : Words) (c : Statement) → whole whole_command (at_check p us) ≡ Ok c → sentence (at_check p us) ≡ Ok (stated 0 c)
unfolding statement
sentence_ok p us c e =
    sentence_by p us
    ∙ ap (λ (x : Whole Statement). either
    (whole_map (stated 0) (either x (λ u. either (whole whole_selected (at_check p us)) (λ v. whole (whole_tac None) (at_check p us)))))
    (λ u. either (whole whole_open (at_check p us)) (λ v. whole whole_mark (at_check p us)))) e

sentence_nested : (p q : ℕ) (us : Words) (e : Stop) → whole whole_command (at_check p us) ≡ Err (too_nested q) →
    whole (whole_tac None) (at_check p us) ≡ Err e → By q e → p ≤ q →
    (r : ℕ) × (sentence (at_check p us) ≡ Err (too_nested r))
unfolding statement
sentence_nested p q us e f g by low =
    let inner = nested_wins q (further (unexpected p) e) (further_by q (unexpected p) e low by) in
    let outer = nested_wins inner.0 (further (unexpected p) (unexpected p))
    (further_by inner.0 (unexpected p) (unexpected p) (omega (arith, low, inner.2)) (omega (arith, low, inner.2))) in (
      outer.0,
      sentence_by p us
          ∙ ap (λ (x : Whole Statement). either
          (whole_map (stated 0) (either x (λ u. either (whole whole_selected (at_check p us)) (λ v. whole (whole_tac None) (at_check p us)))))
          (λ u. either (whole whole_open (at_check p us)) (λ v. whole whole_mark (at_check p us)))) f
          ∙ ap (λ (x : Whole Statement). either (whole_map (stated 0) (second_of (too_nested q) (either x (λ v. whole (whole_tac None) (at_check p us)))))
          (λ u. either (whole whole_open (at_check p us)) (λ v. whole whole_mark (at_check p us)))) (selected_fails p us)
          ∙ ap (λ (x : Whole Statement). either (whole_map (stated 0) (second_of (too_nested q) (second_of (unexpected p) x)))
          (λ u. either (whole whole_open (at_check p us)) (λ v. whole whole_mark (at_check p us)))) g
          ∙ ap (λ (d : Stop). either (Err d) (λ u. either (whole whole_open (at_check p us)) (λ v. whole whole_mark (at_check p us)))) inner.1
          ∙ ap (λ (x : Whole Sentence). second_of (too_nested inner.0) (either x (λ v. whole whole_mark (at_check p us)))) (open_fails p us)
          ∙ ap (λ (x : Whole Sentence). second_of (too_nested inner.0) (second_of (unexpected p) x)) (mark_fails p us)
          ∙ ap (λ (d : Stop). let r : Whole Sentence = Err d in r) outer.1,
    )

-- the words behind `Check` up to the end of the sentence give the tree, or a word is nested too deep
abbrev pub Reads : ℕ → Surface → Words → Type 0
Reads p s us = (sentence (at_check p us) ≡ Ok (stated 0 (command (check s)))) ⊎ ((r : ℕ) × (sentence (at_check p us) ≡ Err (too_nested r)))

module _ (p o : ℕ) (s : Surface) (us : Words) (rising : Rising (at_check p us)) where
  abbrev rest : Words
  rest = (symbol StopSign, o) ∷ []

  -- a term before which the expression ends, not behind the word that is nested too deep
  ended_before : Good (read (term 201 free_spot) us) (s, rest) → (e : Stop) → whole (whole_tac None) (at_check p us) ≡ Err e →
      ((q : ℕ) → read (term 201 free_spot) us ≡ Err (too_nested q) → By q e) → Reads p s us
  ended_before (inl g) e f by = inl (sentence_ok p us (command (check s)) (command_ok p o us s g))
  ended_before (inr g) e f by =
      inr (sentence_nested p g.0 us e (command_nested p g.0 us g.1) f (by g.0 g.1) (nested_behind (term 201 free_spot) p us g.0 rising.0 g.1))

  both_nested : (q : ℕ) → Cut 200 us q → Reads p s us
  both_nested q c =
      let e = app_cut 200 us q c in
      inr (sentence_nested p q us (too_nested q) (command_nested p q us e) (tac_nested p us q (args_cut 200 us q c [])) tt
      (nested_behind (term 201 free_spot) p us q rising.0 e))

forall_ends : Ends (name (codes "forall"))
unfolding is_sign
forall_ends = record { no_plus = refl; no_bars = refl; no_semicolon = refl; no_stop = refl }

fun_ends : Ends (name (codes "fun"))
unfolding is_sign
fun_ends = record { no_plus = refl; no_bars = refl; no_semicolon = refl; no_stop = refl }

let_ends : Ends (name (codes "let"))
unfolding is_sign
let_ends = record { no_plus = refl; no_bars = refl; no_semicolon = refl; no_stop = refl }

arrow_ends : Ends (symbol ArrowSign)
unfolding is_sign same_symbol
arrow_ends = record { no_plus = refl; no_bars = refl; no_semicolon = refl; no_stop = refl }

at_stop : (o : ℕ) (ws : Words) → Halts ((symbol StopSign, o) ∷ ws)
unfolding sees is_name is_sign same_symbol reads
at_stop o ws = record { no_argument = refl; no_arrow = refl }

-- no argument begins with that word
no_args : (v : Word) (f : ℕ) (vs : Words) → begins_arg [] v ≡ false → args 200 [] ((v, f) ∷ vs) ≡ Ok ([], (v, f) ∷ vs)
unfolding sees
no_args v f vs e = many_done 201 (begins_arg []) (argument_at (here 200)) [] ((v, f) ∷ vs) e

word_first : (p o : ℕ) (s : Surface) (v : Word) (f : ℕ) (vs : Words) → Rising (at_check p ((v, f) ∷ vs)) →
    Good (read (term 201 free_spot) ((v, f) ∷ vs)) (s, (symbol StopSign, o) ∷ []) → begins_arg [] v ≡ false → Ends v → Reads p s ((v, f) ∷ vs)
word_first p o s v f vs r g b e =
    ended_before p o s ((v, f) ∷ vs) r g (unexpected f) (tac_ends p ((v, f) ∷ vs) [] v f vs (no_args v f vs b) e)
    (λ q h. nested_from (term 201 free_spot) (v, f) vs q r.1 h)

spine_first : (p o : ℕ) (s : Surface) (us : Words) → Rising (at_check p us) → Spine s us ((symbol StopSign, o) ∷ []) → Reads p s us
spine_first p o s us r d = by (atoms_read d 200)
  where
    by : Atoms 200 s us ((symbol StopSign, o) ∷ []) → Reads p s us
    by (inl a) =
        let e = app_row 200 a.0 a.1 us ((symbol StopSign, o) ∷ []) a.3 (at_stop o []).no_argument in
        inl (sentence_ok p us (command (check s)) (command_ok p o us s (e
        ∙ chosen_false (sees (is_sign ArrowSign) ((symbol StopSign, o) ∷ [])) _ _ (at_stop o []).no_arrow
        ∙ ap (λ t. Ok (t, (symbol StopSign, o) ∷ [])) a.2)))
    by (inr c) = both_nested p o s us r c.0 c.1

arrow_first : (p o : ℕ) (a b : Surface) (f : ℕ) (us vs : Words) → Rising (at_check p us) → Spine a us ((symbol ArrowSign, f) ∷ vs) →
    Good (read (term 201 free_spot) us) (Rattle.lq_ast.specs.Syntax.Arrow a b, (symbol StopSign, o) ∷ []) → Reads p (Rattle.lq_ast.specs.Syntax.Arrow a b) us
unfolding sees is_name is_number is_sign same_symbol reads
arrow_first p o a b f us vs r d g = by (atoms_read d 200)
  where
    arrow : Surface
    arrow = Rattle.lq_ast.specs.Syntax.Arrow a b

    by : Atoms 200 a us ((symbol ArrowSign, f) ∷ vs) → Reads p arrow us
    by (inr c) = both_nested p o arrow us r c.0 c.1
    by (inl x) =
        let all = args_row 200 us ((symbol ArrowSign, f) ∷ vs) (x.0 ∷ x.1) x.3 refl refl [] in
        let front = row_front 200 us ((symbol ArrowSign, f) ∷ vs) (x.0 ∷ x.1) x.3 in
        let rest = rising_behind front.0 ((symbol ArrowSign, f) ∷ vs) (subst Rising front.1 r.1) in
        ended_before p o arrow us r g (unexpected f) (tac_ends p us all.0 (symbol ArrowSign) f vs all.1 arrow_ends)
        (λ q h. nested_from (arrow_behind 200 (term 200) free_spot (applied x.0 x.1)) (symbol ArrowSign, f) vs q rest
        (sym (app_row 200 x.0 x.1 us ((symbol ArrowSign, f) ∷ vs) x.3 refl) ∙ h))

-- `Check` and a printed term up to the end of the sentence
pub check_reads : (p o : ℕ) {s : Surface} {us : Words} → Rising (at_check p us) → Said s us ((symbol StopSign, o) ∷ []) → Reads p s us
unfolding is_name is_number is_sign same_symbol reads
check_reads p o r (said_forall free d e) =
    word_first p o _ (name (codes "forall")) _ _ r (term_reads (said_forall free d e) 201 (at_stop o [])) refl forall_ends
check_reads p o r (said_fun free d e) = word_first p o _ (name (codes "fun")) _ _ r (term_reads (said_fun free d e) 201 (at_stop o [])) refl fun_ends
check_reads p o r (said_let free d e f) = word_first p o _ (name (codes "let")) _ _ r (term_reads (said_let free d e f) 201 (at_stop o [])) refl let_ends
check_reads p o r (said_arrow {a = a} {b = b} {o = f} {us = us} {vs = vs} d e) =
    arrow_first p o a b f us vs r d (term_reads (said_arrow d e) 201 (at_stop o []))
check_reads p o {s = s} {us = us} r (said_spine d) = spine_first p o s us r d
