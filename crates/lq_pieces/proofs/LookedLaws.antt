-- The tokens that can be looked at of a text that goes on are cut.
use Rattle.std.proofs.Common.{◌≡◌, refl, sym, ap, subst, arith, length-drop, ℕ, zero, suc, ◌+◌, ◌<◌, ◌≤◌, Bool, true, false, List, [], ◌∷◌, ◌++◌, drop, length, Ok, Err, inl, inr}
use Rattle.std.specs.Prelude.{All}
use Rattle.std.proofs.lemmas.List.Elements.{All-push}
use Rattle.lq_grammar.specs.declared.token.Token.{Token}
use Rattle.lq_grammar.specs.Cells.{Cells, cells, place, window}
use Rattle.lq_grammar.specs.Tokens.{Found, nothing, bound, space, word, crossing, flaw, token, found}
use Rattle.lq_grammar.specs.Selectors.{spelled, is_empty}
use Rattle.lq_grammar.specs.Cutting.{longest, is_space}
use Rattle.lq_grammar.specs.Spans.{AreSpans}
use Rattle.lq_grammar.proofs.CellLaws.{place_window}
use Rattle.lq_grammar.proofs.SpanLaws.{Rises, place_rises, IsWordAt, IsFoundAt, found_spans, first_spans, window_rises, cells_rise}
use Rattle.lq_spelling.specs.Spellings.{Spells, IsCut}
use Rattle.lq_spelling.proofs.SpellingLaws.{IsText, IsRead, window_text, text_cells}
use Rattle.lq_spelling.proofs.StringLaws.{found_reads}
use Rattle.lq_rest.proofs.LookLaws.{after_found}
use Rattle.lq_sessions.specs.Rest.{Looked, stopped, is_inside, may_go_on, looked, looked_behind, looked_begun, looked_at}

-- ---- where the tokens stand

spans_more : (from p q : ℕ) (ts : List Token) → p ≤ q → AreSpans from ts p → AreSpans from ts q
spans_more from p q [] h s = omega (arith, h, s)
spans_more from p q (t ∷ ts) h s = (s.0, s.1, spans_more t.end p q ts h s.2)

spans_push : (from p q : ℕ) (ts : List Token) (t : Token) → AreSpans from ts p → t.start ≡ p → p < t.end → t.end ≡ q → AreSpans from (ts ++ t ∷ []) q
spans_push from p q [] t s e h f = (omega (arith, s, e), omega (arith, e, h), omega (arith, f))
spans_push from p q (u ∷ ts) t s e h f = (s.0, s.1, spans_push u.end p q ts t s.2 e h f)

spans_ahead : (from stop : ℕ) (ts : List Token) → AreSpans from ts stop → from ≤ stop
spans_ahead from stop [] s = s
spans_ahead from stop (t ∷ ts) s = omega (arith, s.0, s.1, spans_ahead t.end stop ts s.2)

-- ---- the tokens that can be looked at

Fits : List ℕ → Token → Type 0
Fits text t = Spells t.kind (spelled text t)

-- no token, or tokens that are cut
abbrev pub Lookable : List ℕ → Looked → Type 0
Lookable text (Ok []) = Unit {0}
Lookable text (Ok (t ∷ ts)) = IsCut text (t ∷ ts)
Lookable text (Err f) = Unit {0}

-- what comes of what is found (`after_found`)
looked-suc : (turns : ℕ) (text : List ℕ) (ts : List Token) (cs : Cells) → looked (suc turns) text ts cs ≡ after_found turns text ts cs (found (is_empty ts) cs)
unfolding looked
looked-suc turns text ts cs = refl

either_lookable : (text : List ℕ) (b : Bool) (x y : Looked) → Lookable text x → Lookable text y → Lookable text (elim b as (λ _. Looked) [ true ↦ x | false ↦ y ])
either_lookable text true x y h i = h
either_lookable text false x y h i = i

-- tokens up to a place
up_to : (text : List ℕ) (L from : ℕ) (t : Token) (ts : List Token) (cs : Cells) → AreSpans from (t ∷ ts) (place cs) → All (Fits text) (t ∷ ts) → Rises L (length text) cs → IsCut text (t ∷ ts)
unfolding Fits
up_to text L from t ts cs s f r =
    record {
      from = from;
      stop = place cs;
      spread = (s, omega (arith, s.0, s.1, spans_ahead t.end (place cs) ts s.2), place_rises L (length text) cs r);
      reads = inl f;
    }

looked_more : (turns : ℕ) (text : List ℕ) (L from : ℕ) (t : Token) (ts : List Token) (cs : Cells) → AreSpans from (t ∷ ts) (place cs) → All (Fits text) (t ∷ ts) → IsText text cs → Rises L (length text) cs →
    Lookable text (looked turns text (t ∷ ts) cs)
unfolding looked stopped Fits
looked_more zero text L from t ts cs s f c r = up_to text L from t ts cs s f r
looked_more (suc turns) text L from t ts cs s f c r =
    subst (Lookable text) (sym (looked-suc turns text (t ∷ ts) cs))
    (step (found false cs) (found_spans L (length text) false cs r) (found_reads text false cs c) (λ us rest a b d e. looked_more turns text L from t us rest a b d e)) where
      stays : IsCut text (t ∷ ts)
      stays = up_to text L from t ts cs s f r

      step : (g : Found) → IsFoundAt L (length text) (place cs) g → IsRead text g →
          ((us : List Token) (rest : Cells) → AreSpans from (t ∷ us) (place rest) → All (Fits text) (t ∷ us) → IsText text rest → Rises L (length text) rest → Lookable text (looked turns text (t ∷ us) rest)) →
          Lookable text (after_found turns text (t ∷ ts) cs g)
      step nothing h i go = stays
      step bound h i go = stays
      step (space rest) h i go = go ts rest (spans_more from (place cs) (place rest) (t ∷ ts) (omega (arith, h.0)) s) f i h.1
      step (crossing k) h i go = stays
      step (flaw fault) h i go = either_lookable text (is_inside text fault) (Err fault) (Ok (t ∷ ts)) tt stays
      step (word u rest) h i go =
          either_lookable text (may_go_on text u) (Ok (t ∷ ts)) (looked turns text (t ∷ (ts ++ u ∷ [])) rest) stays
          (go (ts ++ u ∷ []) rest (spans_push from (place cs) (place rest) (t ∷ ts) u s h.0 h.1 h.2) (All-push (Fits text) (t ∷ ts) u f i.0) i.1 h.3)

-- the first token, whose sentence has its bound so many bytes behind its start
looked_first : (turns : ℕ) (text : List ℕ) (L : ℕ) (cs : Cells) → L ≡ place cs + longest → IsText text cs → Rises L (length text) cs → IsWordAt L (length text) (place cs) (found true cs) →
    Lookable text (looked turns text [] cs)
unfolding looked stopped Fits
looked_first zero text L cs b c r w = tt
looked_first (suc turns) text L cs b c r w = subst (Lookable text) (sym (looked-suc turns text [] cs)) (step (found true cs) w (found_reads text true cs c)) where
  step : (g : Found) → IsWordAt L (length text) (place cs) g → IsRead text g → Lookable text (after_found turns text [] cs g)
  step nothing h i = tt
  step bound h i = tt
  step (space rest) h i = absurd h
  step (crossing k) h i =
      record {
        from = place cs;
        stop = place cs + longest + 1;
        spread = ((omega arith, omega arith, omega arith), omega arith, omega (arith, h, b));
        reads = inr (k, place cs, refl);
      }
  step (flaw fault) h i = either_lookable text (is_inside text fault) (Err fault) (Ok []) tt tt
  step (word u rest) h i =
      either_lookable text (may_go_on text u) (Ok []) (looked turns text (u ∷ []) rest) tt
      (looked_more turns text L (place cs) u [] rest (omega (arith, h.0), omega (arith, h.0, h.1), omega (arith, h.2)) (All-push (Fits text) [] u (λ k d g. absurd (omega (arith, g))) i.0) i.1 h.3)

begun_lookable : (turns : ℕ) (text : List ℕ) (cs : Cells) → IsText text cs → Rises (length text) (length text) cs → Lookable text (looked_begun turns text cs)
unfolding looked_begun stopped
begun_lookable zero text cs c r = tt
begun_lookable (suc turns) text cs c r =
    step (is_space cs) refl (found false cs) (found_spans (length text) (length text) false cs r) (found_reads text false cs c) (λ rest d e. begun_lookable turns text rest d e) where
      L : ℕ
      L = place cs + longest

      starts : is_space cs ≡ false → Lookable text (looked (suc (length text)) text [] (window (place cs + longest) cs))
      starts e =
          let same = place_window (place cs + longest) cs in
          let w = window_rises (place cs + longest) (length text) cs r in
          looked_first (suc (length text)) text (place cs + longest) (window (place cs + longest) cs) (ap (λ p. p + longest) (sym same)) (window_text text (place cs + longest) cs c) w
          (first_spans (place cs + longest) (length text) cs e w)

      behind : (go : Cells → Looked) → ((rest : Cells) → IsText text rest → Rises (length text) (length text) rest → Lookable text (go rest)) →
          (f : Found) → IsFoundAt (length text) (length text) (place cs) f → IsRead text f → Lookable text (looked_behind text go f)
      behind go others nothing h i = tt
      behind go others bound h i = tt
      behind go others (space rest) h i = others rest i h.1
      behind go others (word t rest) h i = tt
      behind go others (crossing k) h i = tt
      behind go others (flaw fault) h i = either_lookable text (is_inside text fault) (Err fault) (Ok []) tt tt

      step : (b : Bool) → is_space cs ≡ b → (f : Found) → IsFoundAt (length text) (length text) (place cs) f → IsRead text f →
          ((rest : Cells) → IsText text rest → Rises (length text) (length text) rest → Lookable text (looked_begun turns text rest)) →
          Lookable text (elim b as (λ _. Looked) [ true ↦ looked_behind text (λ rest. looked_begun turns text rest) f | false ↦ looked (suc (length text)) text [] (window (place cs + longest) cs) ])
      step true e f h i others = behind (λ rest. looked_begun turns text rest) others f h i
      step false e f h i others = starts e

-- the tokens of a text that can be looked at from a place on are cut
pub looked_lookable : (text : List ℕ) (from : ℕ) → from ≤ length text → Lookable text (looked_at text from)
unfolding looked_at
looked_lookable text from h = begun_lookable (suc (length text)) text (cells from (drop from text)) (text_cells text from) (cells_rise (length text) 0 from (drop from text) (omega (arith, length-drop from text)))
