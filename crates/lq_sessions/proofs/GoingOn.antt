-- A text that goes on behind a script: it gives the lines of the script's settled sentences, and then what the rest gives from the session that they reached.
use Rattle.std.proofs.Common.{◌≡◌, ◌∙◌, refl, sym, ap, ap₂, subst, arith, ℕ, zero, suc, ◌+◌, ◌-◌, ◌≤◌, Bool, true, false, List, [], ◌∷◌, ◌++◌, length, length-append, length-drop, take, drop, append-nil, Option, Some, None, Result, Ok, Err, inl, inr, append_assoc}
use Rattle.std.specs.Prelude.{not, ◌&&◌, ◌||◌, nat_lt, nat_le, map}
use Rattle.std.proofs.lemmas.Bool.{le-ltb}
use Rattle.std.proofs.lemmas.List.{drop-append-le, take-append-le}
use Rattle.lq_grammar.specs.declared.fault.LexFault.{LexFault}
use Rattle.lq_grammar.specs.declared.token.Token.{Token}
use Rattle.lq_grammar.specs.declared.token.TokenKind.{TokenKind}
use Rattle.lq_grammar.specs.declared.token.TokenKind.TheVariants as kind
use Rattle.lq_grammar.specs.Cells.{Cells, cells, place, window}
use Rattle.lq_grammar.specs.Tokens.{Found, nothing, bound, space, word, crossing, flaw, found}
use Rattle.lq_grammar.specs.Selectors.{spelled, is_empty, closes}
use Rattle.lq_grammar.specs.Spans.{AreSpans}
use Rattle.lq_grammar.specs.Cutting.{Next, sentence as cut_sentence, finished, longest, gathered, is_space, begun, next}
use Rattle.lq_grammar.specs.Settled.{has_character, is_settled, settled_behind, begins_settled, settles}
use Rattle.lq_grammar.proofs.Turns.{gathered-suc, after_found, begun-suc, begun_by}
use Rattle.lq_grammar.proofs.SpanLaws.{Spreads, next_spreads}
use Rattle.lq_grammar.proofs.Staying.{Stand, stand_push, closes_more, settled_by, is_settled-suc, begins_settled-suc, begins_by, next_stays}
use Rattle.lq_sentences.specs.declared.fault.SyntaxFault.{SyntaxFault}
use Rattle.lq_sentences.specs.Words.{words, word_of}
use Rattle.lq_sentences.specs.Reading.{is_closed_behind, is_too_long, start_of, fault_of, with_faults, Whole, sentence as sentence_of, read_sentence}
use Rattle.lq_ast.specs.Commands.{Sentence}
use Rattle.lq_texts.specs.Causes.{not_built}
use Rattle.lq_meaning.specs.Values.{Text}
use Rattle.lq_sessions.specs.Sessions.{Session, Fault}
use Rattle.lq_sessions.specs.Sentences.{sentence}
use Rattle.lq_sessions.specs.Built.{Parts, sentence_built}
use Rattle.lq_sessions.specs.Ahead.{Reached, reached, with_lines, ran_ahead, read_ahead, piece_ahead, ahead}
use Rattle.lq_sessions.specs.Output.{faulted, Run, behind, faulted_by, ran, read_and_ran, piece_ran, turn, run_from, script_run, most_bytes, run}

-- ---- tokens of a text, in a longer one

spans_rise : (at stop : ℕ) (ts : List Token) → AreSpans at ts stop → at ≤ stop
spans_rise at stop [] h = h
spans_rise at stop (t ∷ ts) h = omega (arith, h.0, h.1, spans_rise t.end stop ts h.2)

spans_stand : (at stop n : ℕ) (ts : List Token) → AreSpans at ts stop → stop ≤ n → Stand n ts
spans_stand at stop n [] h l = tt
spans_stand at stop n (t ∷ ts) h l = (omega (arith, h.1), omega (arith, spans_rise t.end stop ts h.2), spans_stand t.end stop n ts h.2 l)

module _ (text more : List ℕ) where
  spelled_longer : (t : Token) → t.start ≤ t.end → t.end ≤ length text → spelled (text ++ more) t ≡ spelled text t
  spelled_longer t h k =
      let first : t.start ≤ length text = omega arith in
      let last : t.end - t.start ≤ length (drop t.start text) = omega (arith, length-drop t.start text) in
      ap (take (t.end - t.start)) (drop-append-le t.start text more first) ∙ take-append-le (t.end - t.start) (drop t.start text) more last

  words_longer : (ts : List Token) → Stand (length text) ts → words (text ++ more) ts ≡ words text ts
  unfolding words
  words_longer [] s = refl
  words_longer (t ∷ ts) s = ap₂ (λ w ws. (word_of t.kind w, t.start) ∷ ws) (spelled_longer t s.0 s.1) (words_longer ts s.2)

  closed_longer : (before ts : List Token) → Stand (length text) before → Stand (length text) ts → is_closed_behind (text ++ more) before ts ≡ is_closed_behind text before ts
  unfolding is_closed_behind
  closed_longer before [] s k = refl
  closed_longer before (t ∷ []) s k = closes_more t.kind text more before s
  closed_longer before (t ∷ u ∷ ts) s k = closed_longer (before ++ t ∷ []) (u ∷ ts) (stand_push (length text) before t s k.0 k.1) k.2

-- ---- a settled sentence has its end

closed_last : (text : List ℕ) (before ts : List Token) (t : Token) → is_closed_behind text before (ts ++ t ∷ []) ≡ closes t.kind text (before ++ ts)
unfolding is_closed_behind
closed_last text before [] t = ap (closes t.kind text) (sym (append-nil before))
closed_last text before (u ∷ []) t = refl
closed_last text before (u ∷ w ∷ us) t = closed_last text (before ++ u ∷ []) (w ∷ us) t ∙ ap (closes t.kind text) (append_assoc before (u ∷ []) (w ∷ us))

-- what comes next has its end, if it is a sentence
abbrev IsClosed : List ℕ → Result Next LexFault → Type 0
IsClosed text (Ok (cut_sentence ts p)) = is_closed_behind text [] ts ≡ true
IsClosed text _ = Unit {0}

gathered_closed : (turns : ℕ) (text : List ℕ) (ts : List Token) (cs : Cells) → is_settled turns text ts cs ≡ true → IsClosed text (gathered turns text ts cs)
unfolding is_settled settled_by after_found
gathered_closed zero text ts cs e = absurd cc
gathered_closed (suc m) text ts cs e =
    subst (IsClosed text) (sym (gathered-suc m text ts cs)) (step (found (is_empty ts) cs) (sym (is_settled-suc m text ts cs) ∙ e) (λ us rest k. gathered_closed m text us rest k)) where
      chosen : (t : Token) (rest : Cells) (c : Bool) → closes t.kind text ts ≡ c → elim c as (λ _. Bool) [ true ↦ has_character rest | false ↦ is_settled m text (ts ++ t ∷ []) rest ] ≡ true →
          ((us : List Token) (others : Cells) → is_settled m text us others ≡ true → IsClosed text (gathered m text us others)) →
          IsClosed text (elim c as (λ _. Result Next LexFault) [ true ↦ Ok (cut_sentence (ts ++ t ∷ []) t.end) | false ↦ gathered m text (ts ++ t ∷ []) rest ])
      chosen t rest true f k go = closed_last text [] ts t ∙ f
      chosen t rest false f k go = go (ts ++ t ∷ []) rest k

      step : (f : Found) → settled_by m text ts f ≡ true → ((us : List Token) (rest : Cells) → is_settled m text us rest ≡ true → IsClosed text (gathered m text us rest)) → IsClosed text (after_found m text ts cs f)
      step nothing k go = absurd cc
      step bound k go = absurd cc
      step (space rest) k go = go ts rest k
      step (crossing c) k go = absurd cc
      step (flaw fault) k go = tt
      step (word t rest) k go = chosen t rest (closes t.kind text ts) refl k go

begun_closed : (turns : ℕ) (text : List ℕ) (cs : Cells) → begins_settled turns text cs ≡ true → IsClosed text (begun turns text cs)
unfolding begins_settled begins_by begun_by
begun_closed zero text cs e = absurd cc
begun_closed (suc m) text cs e =
    subst (IsClosed text) (sym (begun-suc m text cs)) (step (is_space cs) (found false cs) (sym (begins_settled-suc m text cs) ∙ e) (λ rest k. begun_closed m text rest k)) where
      step : (c : Bool) (f : Found) → begins_by m text cs c f ≡ true → ((rest : Cells) → begins_settled m text rest ≡ true → IsClosed text (begun m text rest)) → IsClosed text (begun_by m text cs c f)
      step true nothing k go = absurd cc
      step true bound k go = absurd cc
      step true (space rest) k go = go rest k
      step true (crossing c) k go = absurd cc
      step true (flaw fault) k go = absurd cc
      step true (word t rest) k go = absurd cc
      step false f k go = gathered_closed (suc (length text)) text [] (window (place cs + longest) cs) k

-- ---- a sentence that was read, in a longer text

with_ok : (m n : ℕ) (w : Whole Sentence) (x : Sentence) → with_faults m w ≡ Ok x → with_faults n w ≡ Ok x
with_ok m n (Ok y) x e = e
with_ok m n (Err f) x e = absurd cc

read_closed : (text : List ℕ) (ts : List Token) → is_closed_behind text [] ts ≡ true → read_sentence text ts ≡ with_faults (length text) (sentence_of (words text ts))
unfolding read_sentence
read_closed text ts e =
    ap (λ c. elim (not c && nat_le (start_of ts + longest) (length text)) as (λ _. Result Sentence SyntaxFault) [
      | true ↦ Err (SyntaxFault.SentenceTooLong (start_of ts))
      | false ↦ with_faults (length text) (sentence_of (words text ts))
    ]) e

read_longer : (text more : List ℕ) (ts : List Token) (x : Sentence) → Stand (length text) ts → is_closed_behind text [] ts ≡ true → read_sentence text ts ≡ Ok x → read_sentence (text ++ more) ts ≡ Ok x
read_longer text more ts x s c e =
    read_closed (text ++ more) ts (closed_longer text more [] ts tt s ∙ c)
    ∙ ap (λ ws. with_faults (length (text ++ more)) (sentence_of ws)) (words_longer text more ts s)
    ∙ with_ok (length text) (length (text ++ more)) (sentence_of (words text ts)) x (sym (read_closed text ts c) ∙ e)

-- ---- scripts

-- what a text gives: the lines of accepted sentences, and then what comes from the session, the place and the number that they reached
pub record GoesOn (b : Parts) (text : List ℕ) (r : Run) (a : Reached) : Type 0 where
  pub turns : ℕ
  pub is : r ≡ behind a.lines (run_from b turns true text a.place a.session a.number)

some_is : (a c : Reached) → Some a ≡ Some c → a ≡ c
some_is a c e = cc

-- lines more in front
abbrev LinesAhead : Parts → List ℕ → Text → Run → Option Reached → Type 0
LinesAhead b text w r o = (a : Reached) → with_lines w o ≡ Some a → GoesOn b text (behind w r) a

lines_ahead : (b : Parts) (text : List ℕ) (w : Text) (r : Run) (o : Option Reached) → ((a : Reached) → o ≡ Some a → GoesOn b text r a) → LinesAhead b text w r o
unfolding with_lines
lines_ahead b text w r None f a e = absurd cc
lines_ahead b text w r (Some c) f a e =
    let g = f c refl in
    let more : GoesOn b text (behind w r) (reached (w ++ c.lines) c.session c.place c.number) = record {
      turns = g.turns;
      is = ap (behind w) g.is ∙ ap₂ (λ x y. (x, y)) (sym (append_assoc w c.lines (run_from b g.turns true text c.place c.session c.number).0)) refl;
    } in
    subst (GoesOn b text (behind w r)) (some_is _ a e) more

whole-suc : (b : Parts) (m from k : ℕ) (text : List ℕ) (s : Session) → run_from b (suc m) true text from s k ≡ piece_ran b text s k (next text from) (λ p t. run_from b m true text p t (suc k))
unfolding run_from turn
whole-suc b m from k text s = refl

module _ (b : Parts) (u v : List ℕ) where
  -- that what comes of the longer text goes on from what this one reaches
  abbrev Both : (go : ℕ → Session → Option Reached) (more : ℕ → Session → Run) → Type 0
  Both go more = (p : ℕ) (s : Session) (a : Reached) → p ≤ length u → go p s ≡ Some a → GoesOn b (u ++ v) (more p s) a

  ran_goes_on : (s : Session) (k : ℕ) (x : Sentence) (go : Session → Option Reached) (more : Session → Run) (a : Reached) →
      ((s : Session) (c : Reached) → go s ≡ Some c → GoesOn b (u ++ v) (more s) c) → ran_ahead b s x go ≡ Some a → GoesOn b (u ++ v) (ran b s k x more) a
  unfolding ran ran_ahead
  ran_goes_on s k x go more a rest e = step (sentence_built b x) (sentence s x).1 e where
    step : (c : Bool) (d : Result Session Fault) →
        elim c as (λ _. Option Reached) [ false ↦ None | true ↦ elim d as (λ _. Option Reached) [ Err f ↦ None | Ok t ↦ with_lines (sentence s x).0 (go t) ] ] ≡ Some a →
        GoesOn b (u ++ v) (elim c as (λ _. Run) [ false ↦ faulted_by s k not_built | true ↦ elim d as (λ _. Run) [ Err f ↦ ((sentence s x).0, faulted k f) | Ok t ↦ behind (sentence s x).0 (more t) ] ]) a
    step false d e = absurd cc
    step true (Err f) e = absurd cc
    step true (Ok t) e = lines_ahead b (u ++ v) (sentence s x).0 (more t) (go t) (rest t) a e

  sentence_goes_on : (s : Session) (k : ℕ) (ts : List Token) (go : Session → Option Reached) (more : Session → Run) (a : Reached) → Stand (length u) ts → is_closed_behind u [] ts ≡ true →
      ((s : Session) (c : Reached) → go s ≡ Some c → GoesOn b (u ++ v) (more s) c) → read_ahead b s (read_sentence u ts) go ≡ Some a → GoesOn b (u ++ v) (read_and_ran b s k (read_sentence (u ++ v) ts) more) a
  unfolding read_and_ran read_ahead
  sentence_goes_on s k ts go more a h c rest e = step (read_sentence u ts) refl e where
    step : (x : Result Sentence SyntaxFault) → read_sentence u ts ≡ x → read_ahead b s x go ≡ Some a → GoesOn b (u ++ v) (read_and_ran b s k (read_sentence (u ++ v) ts) more) a
    step (Err f) is e = absurd cc
    step (Ok x) is e = subst (λ y. GoesOn b (u ++ v) (read_and_ran b s k y more) a) (sym (read_longer u v ts x h c is)) (ran_goes_on s k x go more a rest e)

  piece_goes_on : (from : ℕ) (s : Session) (k : ℕ) (n : Result Next LexFault) (go : ℕ → Session → Option Reached) (more : ℕ → Session → Run) (a : Reached) → Spreads from (length u) n → IsClosed u n → Both go more →
      piece_ahead b u s n go ≡ Some a → GoesOn b (u ++ v) (piece_ran b (u ++ v) s k n more) a
  unfolding piece_ran piece_ahead
  piece_goes_on from s k (Err f) go more a h c both e = absurd cc
  piece_goes_on from s k (Ok finished) go more a h c both e = absurd cc
  piece_goes_on from s k (Ok (cut_sentence ts p)) go more a h c both e =
      sentence_goes_on s k ts (go p) (more p) a (spans_stand from p (length u) ts h.0 h.2) c (λ s2 d q. both p s2 d h.2 q) e

  from_goes_on : (m n from : ℕ) (s : Session) (k : ℕ) (a : Reached) → m ≤ n → from ≤ length u → ahead b m u from s k ≡ Some a → GoesOn b (u ++ v) (run_from b n true (u ++ v) from s k) a
  unfolding ahead settles next
  from_goes_on zero n from s k a h l e = subst (GoesOn b (u ++ v) (run_from b n true (u ++ v) from s k)) (some_is _ a e) (record { turns = n; is = refl })
  from_goes_on (suc m) zero from s k a h l e = absurd (omega arith)
  from_goes_on (suc m) (suc n) from s k a h l e =
      step (settles u from) refl e (λ p s2 c q f. from_goes_on m n p s2 (suc k) c (omega arith) q f) where
        step : (c : Bool) → settles u from ≡ c →
            elim c as (λ _. Option Reached) [ false ↦ Some (reached [] s from k) | true ↦ piece_ahead b u s (next u from) (λ p t. ahead b m u p t (suc k)) ] ≡ Some a →
            Both (λ p t. ahead b m u p t (suc k)) (λ p t. run_from b n true (u ++ v) p t (suc k)) → GoesOn b (u ++ v) (run_from b (suc n) true (u ++ v) from s k) a
        step false is e both = subst (GoesOn b (u ++ v) (run_from b (suc n) true (u ++ v) from s k)) (some_is _ a e) (record { turns = suc n; is = refl })
        step true is e both =
            subst (λ r. GoesOn b (u ++ v) r a) (sym (whole-suc b n from k (u ++ v) s ∙ ap (λ x. piece_ran b (u ++ v) s k x (λ p t. run_from b n true (u ++ v) p t (suc k))) (next_stays u v from l is)))
            (piece_goes_on from s k (next u from) _ _ a (next_spreads u from l) (begun_closed (suc (length u)) u (cells from (drop from u)) is) both e)

-- The output of a text that begins with a script whose settled sentences are accepted is their lines, and then what the rest gives from the session that they reached.
pub run_goes_on : (b : Parts) (u v : List ℕ) (s : Session) (a : Reached) → length (u ++ v) ≤ most_bytes b → ahead b (suc (length u)) u 0 s 1 ≡ Some a → GoesOn b (u ++ v) (run b (u ++ v) s) a
unfolding run script_run
run_goes_on b u v s a h e =
    subst (λ c. GoesOn b (u ++ v) (elim c as (λ _. Run) [ true ↦ script_run b false (take (most_bytes b) (u ++ v)) s | false ↦ script_run b true (u ++ v) s ]) a) (sym (le-ltb (most_bytes b) (length (u ++ v)) h))
    (from_goes_on b u v (suc (length u)) (suc (length (u ++ v))) 0 s 1 a (omega (arith, length-append u v)) (omega arith) e)
