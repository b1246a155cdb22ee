-- The tokens of a sentence that is not too long are readable.
use Rattle.std.proofs.Common.{◌≡◌, ℕ, zero, suc, ◌+◌, ◌<◌, ◌≤◌, Bool, true, false, List, [], ◌∷◌, ◌++◌, drop, length, Result, Ok, Err, refl, sym, ap, ◌∙◌, subst, arith, length-drop, inl, inr}
use Rattle.std.specs.Prelude.{◌⊎◌, ◌&&◌, nat_le, not, All}
use Rattle.std.proofs.lemmas.List.Elements.{All-push}
use Rattle.std.proofs.lemmas.Bool.{le-leb, leb-true, leb-false}
use Rattle.lq_grammar.specs.declared.fault.LexFault.{LexFault}
use Rattle.lq_grammar.specs.declared.token.Token.{Token}
use Rattle.lq_grammar.specs.declared.token.TokenKind.{TokenKind}
use Rattle.lq_grammar.specs.declared.token.TokenKind.TheVariants as kind
use Rattle.lq_grammar.specs.Cells.{Cells, over, cells, place, window}
use Rattle.lq_grammar.specs.Tokens.{Found, nothing, bound, space, word, crossing, flaw, found}
use Rattle.lq_grammar.specs.Selectors.{spelled, is_empty, closes}
use Rattle.lq_grammar.specs.Cutting.{Next, sentence, finished, longest, so_far, cut_off, gathered, is_space, begun, next}
use Rattle.lq_grammar.specs.Spans.{AreSpans, IsSpread}
use Rattle.lq_grammar.proofs.CellLaws.{cells_over}
use Rattle.lq_grammar.proofs.Turns.{gathered-suc, after_found, begun-suc, begun_by}
use Rattle.lq_grammar.proofs.SpanLaws.{Spreads, next_spreads}
use Rattle.lq_lex.specs.Views.{IsSpanned}
use Rattle.lq_sentences.specs.Reading.{is_closed_behind, is_too_long}
use Rattle.lq_spelling.specs.Spellings.{Spells, IsReadable, IsCutOff, IsCut}
use Rattle.lq_spelling.proofs.SpellingLaws.{IsText, IsRead, window_text, text_cells}
use Rattle.lq_spelling.proofs.StringLaws.{found_reads}

-- ---- all tokens

all_none : (P : Token → Type 0) → All P []
all_none P k d h = absurd (omega arith)

all_more : (P : Token → Type 0) (t : Token) (ts : List Token) → P t → All P ts → All P (t ∷ ts)
all_more P t ts p f zero d h = p
all_more P t ts p f (suc k) d h = f k d (omega arith)

all_first : (P : Token → Type 0) (t : Token) (ts : List Token) → All P (t ∷ ts) → P t
all_first P t ts f = f 0 t (omega arith)

all_rest : (P : Token → Type 0) (t : Token) (ts : List Token) → All P (t ∷ ts) → All P ts
all_rest P t ts f k d h = f (suc k) d (omega arith)

-- ---- what is found

abbrev Fits : List ℕ → Token → Type 0
Fits text t = Spells t.kind (spelled text t)

-- the tokens of a sentence have the bytes of their kinds, but for one that is cut off
abbrev Reads : List ℕ → Result Next LexFault → Type 0
Reads text (Ok (sentence ts stop)) = All (Fits text) ts ⊎ IsCutOff ts
Reads text (Ok finished) = Unit {0}
Reads text (Err fault) = Unit {0}

so_far_reads : (text : List ℕ) (ts : List Token) → All (Fits text) ts → Reads text (Ok (so_far ts))
so_far_reads text [] h = tt
so_far_reads text (t ∷ ts) h = inl h

cut_off_reads : (text : List ℕ) (ts : List Token) (k : TokenKind) (p : ℕ) → All (Fits text) ts → Reads text (Ok (cut_off ts k p))
cut_off_reads text [] k p h = inr (k, p, refl)
cut_off_reads text (t ∷ ts) k p h = inl h

chosen : (text : List ℕ) (b : Bool) (x y : Result Next LexFault) → Reads text x → Reads text y → Reads text (elim b as (λ _. Result Next LexFault) [ true ↦ x | false ↦ y ])
chosen text true x y h i = h
chosen text false x y h i = i

gathered_reads : (turns : ℕ) (text : List ℕ) (ts : List Token) (cs : Cells) → All (Fits text) ts → IsText text cs → Reads text (gathered turns text ts cs)
unfolding gathered after_found
gathered_reads zero text ts cs h c = so_far_reads text ts h
gathered_reads (suc turns) text ts cs h c =
    subst (Reads text) (sym (gathered-suc turns text ts cs)) (step (found (is_empty ts) cs) (found_reads text (is_empty ts) cs c) (λ us rest i d. gathered_reads turns text us rest i d)) where
      step : (f : Found) → IsRead text f → ((us : List Token) (rest : Cells) → All (Fits text) us → IsText text rest → Reads text (gathered turns text us rest)) → Reads text (after_found turns text ts cs f)
      step nothing r go = so_far_reads text ts h
      step bound r go = so_far_reads text ts h
      step (space rest) r go = go ts rest h r
      step (crossing k) r go = cut_off_reads text ts k (place cs) h
      step (flaw fault) r go = tt
      step (word t rest) r go =
          let all = All-push (Fits text) ts t h r.0 in chosen text (closes t.kind text ts) _ _ (inl all) (go (ts ++ t ∷ []) rest all r.1)

begun_reads : (turns : ℕ) (text : List ℕ) (cs : Cells) → IsText text cs → Reads text (begun turns text cs)
unfolding begun begun_by
begun_reads zero text cs c = tt
begun_reads (suc turns) text cs c =
    subst (Reads text) (sym (begun-suc turns text cs)) (step (is_space cs) (found false cs) (found_reads text false cs c) (λ rest d. begun_reads turns text rest d)) where
      step : (b : Bool) (f : Found) → IsRead text f → ((rest : Cells) → IsText text rest → Reads text (begun turns text rest)) → Reads text (begun_by turns text cs b f)
      step false f r go = gathered_reads (suc (length text)) text [] (window (place cs + longest) cs) (all_none (Fits text)) (window_text text (place cs + longest) cs c)
      step true nothing r go = tt
      step true bound r go = tt
      step true (space rest) r go = go rest r
      step true (crossing k) r go = tt
      step true (flaw fault) r go = tt
      step true (word t rest) r go = tt

next_reads : (text : List ℕ) (from : ℕ) → Reads text (next text from)
unfolding next
next_reads text from = begun_reads (suc (length text)) text (cells from (drop from text)) (text_cells text from)

-- ---- where the tokens stand

spans_fit : (at stop : ℕ) (ts : List Token) → AreSpans at ts stop → at ≤ stop
spans_fit at stop [] s = s
spans_fit at stop (t ∷ ts) s = omega (arith, s.0, s.1, spans_fit t.end stop ts s.2)

readable : (text : List ℕ) (at stop : ℕ) (ts : List Token) → stop ≤ length text → AreSpans at ts stop → All (Fits text) ts → All (IsReadable text) ts
readable text at stop [] h s f = all_none (IsReadable text)
readable text at stop (t ∷ ts) h s f =
    all_more (IsReadable text) t ts (omega (arith, s.1), omega (arith, h, spans_fit t.end stop ts s.2), all_first (Fits text) t ts f)
    (readable text t.end stop ts h s.2 (all_rest (Fits text) t ts f))

-- behind the end of a text there is nothing
none_beyond : (text : List ℕ) (at : ℕ) → length text < at → next text at ≡ Ok finished
unfolding next begun gathered is_space window place found
none_beyond text at h =
    ap (λ cs. begun (suc (length text)) text cs) (cells_over at (drop at text) (omega (arith, length-drop at text)))

finished_is : (ts : List Token) (stop : ℕ) → (let r : Result Next LexFault = Ok finished in r) ≡ Ok (sentence ts stop) → ⊥
finished_is ts stop e = cc

-- a token that is cut off is no name and no string where its sentence is not too long
cut_off_fits : (text : List ℕ) (k : TokenKind) (start : ℕ) → start + longest ≤ length text → is_too_long text (record { kind = k; start = start; end = start + longest + 1 } ∷ []) ≡ false → (bytes : List ℕ) → Spells k bytes
unfolding is_closed_behind closes
cut_off_fits text kind.Name start h e bytes = absurd (refuted (nat_le (start + longest) (length text)) (le-leb (start + longest) (length text) h) e)
  where
    refuted : (b : Bool) → b ≡ true → b ≡ false → ⊥
    refuted true i j = cc
    refuted false i j = cc
cut_off_fits text kind.Text start h e bytes = absurd (refuted (nat_le (start + longest) (length text)) (le-leb (start + longest) (length text) h) e)
  where
    refuted : (b : Bool) → b ≡ true → b ≡ false → ⊥
    refuted true i j = cc
    refuted false i j = cc
cut_off_fits text (kind.Number n) start h e bytes = tt
cut_off_fits text (kind.Symbol s) start h e bytes = tt
cut_off_fits text (kind.Bullet c n) start h e bytes = tt

fit_by : (text : List ℕ) (at stop : ℕ) (ts : List Token) → IsSpread at (length text) ts stop → is_too_long text ts ≡ false → All (Fits text) ts ⊎ IsCutOff ts → All (Fits text) ts
fit_by text at stop ts s e (inl f) = f
fit_by text at stop ts s e (inr c) =
    let t : Token = record { kind = c.0; start = c.1; end = c.1 + longest + 1 } in
    let spread : IsSpread at (length text) (t ∷ []) stop = subst (λ us. IsSpread at (length text) us stop) c.2 s in
    subst (All (Fits text)) (sym c.2)
    (all_more (Fits text) t [] (cut_off_fits text c.0 c.1 (omega (arith, spread.0.2, spread.2)) (ap (is_too_long text) (sym c.2) ∙ e) (spelled text t)) (all_none (Fits text)))

-- the tokens of a text's next sentence are cut
pub next_cut : (text : List ℕ) (from stop : ℕ) (ts : List Token) → next text from ≡ Ok (sentence ts stop) → IsCut text ts
next_cut text from stop ts e = by (nat_le from (length text)) refl
  where
    by : (b : Bool) → nat_le from (length text) ≡ b → IsCut text ts
    by true i =
        record {
          from = from;
          stop = stop;
          spread = subst (Spreads from (length text)) e (next_spreads text from (omega (arith, leb-true from (length text) i)));
          reads = subst (Reads text) e (next_reads text from);
        }
    by false i = absurd (finished_is ts stop (sym (none_beyond text from (omega (arith, leb-false from (length text) i))) ∙ e))

-- where the sentence of such tokens is not too long, they stand in the text and have the bytes of their kinds
pub cut_readable : (text : List ℕ) (ts : List Token) → IsCut text ts → is_too_long text ts ≡ false → All (IsReadable text) ts
cut_readable text ts cut e = readable text cut.from cut.stop ts cut.spread.2 cut.spread.0 (fit_by text cut.from cut.stop ts cut.spread e cut.reads)

spanned : (text : List ℕ) (at stop : ℕ) (ts : List Token) → stop ≤ length text → AreSpans at ts stop → All (IsSpanned text) ts
spanned text at stop [] h s = all_none (IsSpanned text)
spanned text at stop (t ∷ ts) h s =
    all_more (IsSpanned text) t ts (omega (arith, s.1), omega (arith, h, spans_fit t.end stop ts s.2)) (spanned text t.end stop ts h s.2)

-- all such tokens stand in the text
pub cut_spanned : (text : List ℕ) (ts : List Token) → IsCut text ts → All (IsSpanned text) ts
cut_spanned text ts cut = spanned text cut.from cut.stop ts cut.spread.2 cut.spread.0
