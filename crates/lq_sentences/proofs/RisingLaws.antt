-- The places of the words of a sentence rise.
use Rattle.std.proofs.Common.{◌≡◌, ℕ, suc, ◌≤◌, ◌<◌, Bool, true, false, List, [], ◌∷◌, length, Result, Ok, refl, sym, ap, subst, ◌∙◌, arith}
use Rattle.std.specs.Prelude.{nat_le}
use Rattle.std.proofs.lemmas.Bool.{leb-true, leb-false}
use Rattle.std.proofs.lemmas.List.{drop_all}
use Rattle.lq_grammar.specs.declared.token.Token.{Token}
use Rattle.lq_grammar.specs.Spans.{AreSpans}
use Rattle.lq_grammar.specs.declared.fault.LexFault.{LexFault}
use Rattle.lq_grammar.specs.Cells.{cells_from, cells, place, window}
use Rattle.lq_grammar.specs.Tokens.{found}
use Rattle.lq_grammar.specs.Cutting.{Next, sentence, finished, gathered, is_space, begun, next}
use Rattle.lq_grammar.proofs.SpanLaws.{Spreads, next_spreads}
use Rattle.lq_sentences.specs.Words.{words}
use Rattle.lq_sentences.proofs.PlaceLaws.{Above, Rising}

spans_above : (text : List ℕ) (q at stop : ℕ) (ts : List Token) → q < at → AreSpans at ts stop → Above q (words text ts)
unfolding words
spans_above text q at stop [] h s = tt
spans_above text q at stop (t ∷ ts) h s = (omega (arith, h, s.0), spans_above text q t.end stop ts (omega (arith, h, s.0, s.1)) s.2)

-- tokens that stand one behind another have rising places
pub spans_rise : (text : List ℕ) (at stop : ℕ) (ts : List Token) → AreSpans at ts stop → Rising (words text ts)
unfolding words
spans_rise text at stop [] s = tt
spans_rise text at stop (t ∷ ts) s = (spans_above text t.start t.end stop ts s.1 s.2, spans_rise text t.end stop ts s.2)

-- behind a text there is no sentence
none_behind : (text : List ℕ) (from : ℕ) → length text ≤ from → next text from ≡ Ok finished
unfolding next begun gathered is_space cells_from place window found
none_behind text from h = ap (λ bs. begun (suc (length text)) text (cells from bs)) (drop_all from text h)

-- so the tokens of the next sentence of a text do
pub next_rises : (text : List ℕ) (from stop : ℕ) (ts : List Token) → next text from ≡ Ok (sentence ts stop) → Rising (words text ts)
next_rises text from stop ts e = by (nat_le from (length text)) refl
  where
    apart : (let r : Result Next LexFault = Ok finished in r) ≡ Ok (sentence ts stop) → ⊥
    apart e = absurd cc

    by : (b : Bool) → nat_le from (length text) ≡ b → Rising (words text ts)
    by true i = spans_rise text from stop ts (subst (Spreads from (length text)) e (next_spreads text from (leb-true from (length text) i))).0
    by false i = absurd (apart (sym (none_behind text from (omega (arith, leb-false from (length text) i))) ∙ e))
