-- `Check` and a printed surface are one sentence that reads to it.
use Rattle.std.proofs.Common.{Ok, ◌≡◌, ℕ, suc, ◌+◌, ◌<◌, ◌≤◌, true, false, not, List, [], ◌∷◌, ◌++◌, drop, length, Result, Err, refl, sym, ap, ◌∙◌, subst, arith, inl, inr, append_assoc, length-append}
use Rattle.std.specs.Prelude.{◌&&◌, nat_le, codes}
use Rattle.std.proofs.lemmas.Bool.{le-leb}
use Rattle.lq_grammar.specs.declared.token.Symbol.TheVariants as sign
use Rattle.lq_grammar.specs.declared.token.Token.{Token}
use Rattle.lq_grammar.specs.declared.token.TokenKind.TheVariants as kind
use Rattle.lq_grammar.specs.Cells.{Cells, letter, cells, view}
use Rattle.lq_grammar.specs.Tokens.{word, found}
use Rattle.lq_grammar.specs.Selectors.{closes}
use Rattle.lq_grammar.specs.Cutting.{sentence, longest, gathered, is_space, next}
use Rattle.lq_grammar.proofs.CellLaws.{view_own, view_whole}
use Rattle.lq_grammar.proofs.Turns.{after_found, gathered-suc, begun_by, begun-suc}
use Rattle.lq_grammar.proofs.Computing.{cutting}
use Rattle.lq_ast.specs.Syntax.{Surface}
use Rattle.lq_ast.specs.Commands.{Sentence, stated, command, check}
use Rattle.lq_sentences.specs.declared.fault.SyntaxFault.{SyntaxFault}
use Rattle.lq_sentences.specs.declared.fault.SyntaxFault.TheVariants.{SentenceTooLong}
use Rattle.lq_sentences.specs.Words.{Words, name, symbol, words}
use Rattle.lq_sentences.specs.Reading.{with_faults, is_closed_behind, is_too_long, start_of, read_sentence}
use Rattle.lq_sentences.specs.Reading as reading
use Rattle.lq_sentences.proofs.PlaceLaws.{Rising}
use Rattle.lq_texts.specs.Printing.{text}
use Rattle.lq_texts.specs.ReadBack.{ReadsTo, reads_to, is_nested, is_long}
use Rattle.lq_texts.proofs.Fronts.{Shows, shows_ascii, drop_behind}
use Rattle.lq_texts.proofs.NameLexing.{FoundTo}
use Rattle.lq_texts.proofs.Runs.{end_blank}
use Rattle.lq_texts.proofs.Pieces.{Piece, blank, said, bytes, tokens, placed, Fine, bytes_append, fine_append, word_found}
use Rattle.lq_texts.proofs.Gathering.{stop_token, AreQuiet, Gathers, gathered_pieces}
use Rattle.lq_texts.proofs.TokenWords.{words_placed, words_append, word_stop, fine_long, above_placed, rising_placed, closed_by_stop, quiet_open}
use Rattle.lq_texts.proofs.PrintedPieces.{any, pieces, IsSpoken, text_pieces}
use Rattle.lq_texts.proofs.PieceWords.{says, split}
use Rattle.lq_texts.proofs.FinePieces.{fine_pieces}
use Rattle.lq_texts.proofs.GrammarWords.{word_check}
use Rattle.lq_texts.proofs.CheckReading.{Reads, check_reads}

-- what stands behind `Check` up to the `.`
abbrev behind_check : Surface → List Piece
behind_check s = blank ∷ (pieces any s ++ blank ∷ [])

abbrev spoken : Surface → List ℕ
spoken s = bytes (said (name (codes "Check")) ∷ behind_check s) ++ 46 ∷ []

abbrev pub written : Surface → List ℕ
written s = codes "Check " ++ text 0 s ++ codes " ."

spoken_is : (s : Surface) → IsSpoken s → written s ≡ spoken s
spoken_is s h =
    ap (λ bs. codes "Check " ++ bs ++ codes " .") (text_pieces s h any)
    ∙ ap (λ bs. codes "Check " ++ bs)
    (sym (append_assoc (bytes (pieces any s)) (32 ∷ []) (46 ∷ [])) ∙ ap (λ bs. bs ++ (46 ∷ [])) (sym (bytes_append (pieces any s) (blank ∷ []))))

module _ (s : Surface) (h : IsSpoken s) where
  all_fine : Fine (behind_check s) (46 ∷ [])
  all_fine = fine_append (pieces any s) (blank ∷ []) (46 ∷ []) (fine_pieces s h any (32 ∷ 46 ∷ []) end_blank) tt

  abbrev check_token : Token
  check_token = record { kind = kind.Name; start = 0; end = 5 }

  -- ---- the tokens

  check_found : FoundTo longest (spoken s) 0 5 kind.Name
  check_found = word_found longest (spoken s) 0 (name (codes "Check")) (bytes (behind_check s) ++ 46 ∷ []) word_check end_blank refl

  long_enough : 1 ≤ length (spoken s)
  long_enough = omega arith

  first_shown : (L : ℕ) → 1 ≤ L → view L (spoken s) 0 ≡ letter 0 67 (view L (spoken s) 1)
  first_shown L low = by (shows_ascii L (spoken s) 0 67 (drop 1 (spoken s)) refl (omega arith))
    where
      by : Shows L (spoken s) 0 67 1 → view L (spoken s) 0 ≡ letter 0 67 (view L (spoken s) 1)
      by (inl v) = v.1
      by (inr v) = absurd (omega (arith, v.0, low))

  no_space : (cs : Cells) → is_space (letter 0 67 cs) ≡ false
  unfolding cutting
  no_space cs = refl

  at_start : (cs : Cells) → found true (letter 0 67 cs) ≡ found false (letter 0 67 cs)
  unfolding cutting
  at_start cs = refl

  begins : next (spoken s) 0 ≡ gathered (suc (length (spoken s))) (spoken s) [] (view longest (spoken s) 0)
  unfolding next begun_by
  begins =
      let here = sym (view_whole (length (spoken s)) (spoken s) 0 (omega arith) (omega arith)) ∙ first_shown (length (spoken s)) long_enough in
      begun-suc (length (spoken s)) (spoken s) (cells 0 (spoken s))
      ∙ ap (λ b. begun_by (length (spoken s)) (spoken s) (cells 0 (spoken s)) b (found false (cells 0 (spoken s))))
      (ap is_space here ∙ no_space (view (length (spoken s)) (spoken s) 1))
      ∙ ap (gathered (suc (length (spoken s))) (spoken s) []) (view_own longest (spoken s) 0)

  found_first : found true (view longest (spoken s) 0) ≡ found false (view longest (spoken s) 0)
  found_first = let e = first_shown longest (omega arith) in ap (found true) e ∙ at_start (view longest (spoken s) 1) ∙ ap (found false) (sym e)

  check_word : FoundTo longest (spoken s) 0 5 kind.Name → found false (view longest (spoken s) 0) ≡ word check_token (view longest (spoken s) 5)
  check_word (inl f) = f.1
  check_word (inr f) = absurd (omega (arith, f.0))

  after_check : (turns : ℕ) (cs rest : Cells) → after_found turns (spoken s) [] cs (word check_token rest) ≡ gathered turns (spoken s) (check_token ∷ []) rest
  unfolding after_found closes
  after_check turns cs rest = refl

  next_gathers : next (spoken s) 0 ≡ gathered (length (spoken s)) (spoken s) (check_token ∷ []) (view longest (spoken s) 5)
  next_gathers =
      begins ∙ gathered-suc (length (spoken s)) (spoken s) [] (view longest (spoken s) 0)
      ∙ ap (after_found (length (spoken s)) (spoken s) [] (view longest (spoken s) 0)) (found_first ∙ check_word check_found)
      ∙ after_check (length (spoken s)) (view longest (spoken s) 0) (view longest (spoken s) 5)

  few_pieces : length (behind_check s) < length (spoken s)
  few_pieces =
      let long = fine_long (behind_check s) (46 ∷ []) all_fine in
      let all = length-append (bytes (said (name (codes "Check")) ∷ behind_check s)) (46 ∷ []) in
      omega (arith, long, all)

  gathers : Gathers longest 5 (check_token ∷ []) (behind_check s) (next (spoken s) 0)
  gathers =
      subst (Gathers longest 5 (check_token ∷ []) (behind_check s)) (sym next_gathers)
      (gathered_pieces longest (spoken s) (behind_check s) (length (spoken s)) 5 check_token [] all_fine
      (drop_behind (spoken s) 0 (codes "Check") (bytes (behind_check s) ++ 46 ∷ []) refl) few_pieces)

  -- ---- the words

  abbrev stop_at : ℕ
  stop_at = 5 + length (bytes (behind_check s))

  abbrev all_tokens : List Token
  all_tokens = check_token ∷ (tokens 5 (behind_check s) ++ stop_token stop_at ∷ [])

  abbrev end_words : Words
  end_words = (symbol sign.Stop, stop_at) ∷ []

  words_are : words (spoken s) all_tokens ≡ (name (codes "Check"), 0) ∷ (placed 6 (pieces any s) ++ end_words)
  words_are =
      words_append (spoken s) (check_token ∷ tokens 5 (behind_check s)) (stop_token stop_at ∷ [])
      ∙ ap (λ ws. ws ++ words (spoken s) (stop_token stop_at ∷ []))
      (words_placed (spoken s) (said (name (codes "Check")) ∷ behind_check s) 0 (46 ∷ []) (word_check, end_blank, all_fine) refl)
      ∙ ap (λ ws. ((name (codes "Check"), 0) ∷ placed 5 (behind_check s)) ++ ws) (word_stop (spoken s) stop_at)
      ∙ ap (λ ws. (name (codes "Check"), 0) ∷ ws) (split 6 (pieces any s) (blank ∷ []) end_words)

  rising : Rising ((name (codes "Check"), 0) ∷ (placed 6 (pieces any s) ++ end_words))
  rising =
      let f = fine_pieces s h any (32 ∷ 46 ∷ []) end_blank in
      let low : 6 + length (bytes (pieces any s)) ≤ stop_at =
      omega (arith, ap length (bytes_append (pieces any s) (blank ∷ [])), length-append (bytes (pieces any s)) (32 ∷ [])) in (
        above_placed 0 (pieces any s) 6 (32 ∷ 46 ∷ []) end_words f (omega arith) (omega arith, tt),
        rising_placed (pieces any s) 6 (32 ∷ 46 ∷ []) (symbol sign.Stop) stop_at f low,
      )

  reads : Reads 0 s (placed 6 (pieces any s) ++ end_words)
  reads = check_reads 0 stop_at rising ((says s h).term 6 end_words)

  -- ---- the sentence

  read_whole : (r : reading.Whole Sentence) → reading.sentence ((name (codes "Check"), 0) ∷ (placed 6 (pieces any s) ++ end_words)) ≡ r →
      read_sentence (spoken s) all_tokens ≡ with_faults (length (spoken s)) r
  unfolding read_sentence
  read_whole r e =
      let closed = closed_by_stop (spoken s) [] (check_token ∷ tokens 5 (behind_check s)) stop_at in
      ap (λ b. elim (not b && nat_le (start_of all_tokens + longest) (length (spoken s))) as (λ _. Result Sentence SyntaxFault)
      [ true ↦ Err (SentenceTooLong (start_of all_tokens)) | false ↦ with_faults (length (spoken s)) (reading.sentence (words (spoken s) all_tokens)) ])
      closed
      ∙ ap (with_faults (length (spoken s))) (ap reading.sentence words_are ∙ e)

  read_long : (us : List Token) → AreQuiet us → longest < length (spoken s) → read_sentence (spoken s) (check_token ∷ us) ≡ Err (SentenceTooLong 0)
  unfolding read_sentence closes
  read_long us q long =
      let open_is = quiet_open (spoken s) [] (check_token ∷ us) ((λ text ts. refl), q) in
      let large = le-leb longest (length (spoken s)) (omega arith) in
      ap (λ b. elim (not b && nat_le (start_of (check_token ∷ us) + longest) (length (spoken s))) as (λ _. Result Sentence SyntaxFault) [
        | true ↦ Err
            (SentenceTooLong (start_of (check_token ∷ us)))
        | false ↦ with_faults (length (spoken s)) (reading.sentence (words (spoken s) (check_token ∷ us)))
      ]) open_is
      ∙ ap (λ b. elim b as (λ _. Result Sentence SyntaxFault)
      [ true ↦ Err (SentenceTooLong 0) | false ↦ with_faults (length (spoken s)) (reading.sentence (words (spoken s) (check_token ∷ us))) ]) large

  whole_length : length (spoken s) ≡ 5 + length (bytes (behind_check s)) + 1
  whole_length = let all = length-append (bytes (said (name (codes "Check")) ∷ behind_check s)) (46 ∷ []) in omega (arith, all)

  -- the spoken text reads to its surface
  spoken_reads : ReadsTo (spoken s) (stated 0 (command (check s)))
  spoken_reads = by gathers
    where
      by : Gathers longest 5 (check_token ∷ []) (behind_check s) (next (spoken s) 0) → ReadsTo (spoken s) (stated 0 (command (check s)))
      by (inl g) = whole reads
        where
          ends_there : next (spoken s) 0 ≡ Ok (sentence all_tokens (length (spoken s)))
          ends_there = g.1 ∙ ap (λ p. Ok (sentence all_tokens p)) (sym whole_length)

          whole : Reads 0 s (placed 6 (pieces any s) ++ end_words) → ReadsTo (spoken s) (stated 0 (command (check s)))
          whole (inl r) = reads_to all_tokens ends_there (read_whole _ r)
          whole (inr r) = is_nested all_tokens r.0 ends_there (read_whole _ r.1)
      by (inr g) = is_long (check_token ∷ g.1) _ g.3 (read_long g.1 g.2 (omega (arith, g.0, whole_length)))

-- `Check`, the text of a surface that is printed, and `.`
pub written_reads : (s : Surface) → IsSpoken s → ReadsTo (written s) (stated 0 (command (check s)))
written_reads s h = subst (λ bs. ReadsTo bs (stated 0 (command (check s)))) (sym (spoken_is s h)) (spoken_reads s h)
