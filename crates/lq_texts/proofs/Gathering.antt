-- The tokens of a printed text.
use Rattle.std.proofs.Common.{◌≡◌, ℕ, zero, suc, ◌+◌, ◌-◌, ◌<◌, ◌≤◌, Bool, true, false, List, [], ◌∷◌, ◌++◌, drop, length, Option, Some, None, Result, Ok, Err, refl, sym, ap, ◌∙◌, subst, arith, inl, inr, length-append, length-drop, append_assoc}
use Rattle.std.specs.Prelude.{◌⊎◌}
use Rattle.lq_grammar.specs.declared.fault.LexFault.{LexFault}
use Rattle.lq_grammar.specs.declared.token.Symbol.TheVariants as sign
use Rattle.lq_grammar.specs.declared.token.Token.{Token}
use Rattle.lq_grammar.specs.declared.token.TokenKind.TheVariants as kind
use Rattle.lq_grammar.specs.Cells.{Cells, view}
use Rattle.lq_grammar.specs.Tokens.{Found, bound, space, word, crossing, found}
use Rattle.lq_grammar.specs.Selectors.{closes}
use Rattle.lq_grammar.specs.Cutting.{Next, sentence, so_far, gathered}
use Rattle.lq_grammar.proofs.Turns.{after_found, gathered-suc}
use Rattle.lq_grammar.proofs.Computing.{cutting}
use Rattle.lq_sentences.specs.Words.{Word}
use Rattle.lq_texts.proofs.Fronts.{Shows, shows_ascii, drop_next, drop_behind}
use Rattle.lq_texts.proofs.NameLexing.{Stopped, FoundTo}
use Rattle.lq_texts.proofs.SignLexing.{stop_found}
use Rattle.lq_texts.proofs.Pieces.{Piece, blank, said, spelling, bytes, kind_of, tokens, IsSayable, Fits, Fine, closes_none, word_found}

-- ---- one step

module _ (turns : ℕ) (text : List ℕ) (t : Token) (ts : List Token) (cs : Cells) where
  abbrev so : List Token
  so = t ∷ ts

  by_found : (f : Found) → found false cs ≡ f → gathered (suc turns) text so cs ≡ after_found turns text so cs f
  by_found f e = gathered-suc turns text so cs ∙ ap (after_found turns text so cs) e

  at_stopped : Stopped (found false cs) → gathered (suc turns) text so cs ≡ Ok (so_far so)
  unfolding after_found
  at_stopped (inl e) = by_found bound e
  at_stopped (inr e) = by_found (crossing e.0) e.1

  at_space : (rest : Cells) → found false cs ≡ space rest → gathered (suc turns) text so cs ≡ gathered turns text so rest
  unfolding after_found
  at_space rest e = by_found (space rest) e

  closing : (b : Bool) (u : Token) (rest : Cells) → closes u.kind text so ≡ b → after_found turns text so cs (word u rest) ≡
      elim b as (λ _. Result Next LexFault) [ true ↦ Ok (sentence (so ++ u ∷ []) u.end) | false ↦ gathered turns text (so ++ u ∷ []) rest ]
  unfolding after_found
  closing b u rest e =
      ap (λ c. elim c as (λ _. Result Next LexFault) [ true ↦ Ok (sentence (so ++ u ∷ []) u.end) | false ↦ gathered turns text (so ++ u ∷ []) rest ]) e

  at_word : (u : Token) (rest : Cells) → found false cs ≡ word u rest → closes u.kind text so ≡ false →
      gathered (suc turns) text so cs ≡ gathered turns text (so ++ u ∷ []) rest
  at_word u rest e c = by_found (word u rest) e ∙ closing false u rest c

  at_last : (u : Token) (rest : Cells) → found false cs ≡ word u rest → closes u.kind text so ≡ true →
      gathered (suc turns) text so cs ≡ Ok (sentence (so ++ u ∷ []) u.end)
  at_last u rest e c = by_found (word u rest) e ∙ closing true u rest c

-- ---- all pieces up to the end

-- the token of the last `.`
abbrev pub stop_token : ℕ → Token
stop_token at = record { kind = kind.Symbol sign.Stop; start = at; end = at + 1 }

-- a token that ends no sentence
abbrev pub IsQuiet : Token → Type 0
IsQuiet t = (text : List ℕ) (ts : List Token) → closes t.kind text ts ≡ false

abbrev pub AreQuiet : List Token → Type 0
AreQuiet [] = Unit {0}
AreQuiet (t ∷ ts) = IsQuiet t × AreQuiet ts

-- the pieces end within the bound, and all their tokens are there; or some of them are, and none of these ends the sentence
abbrev pub Gathers : ℕ → ℕ → List Token → List Piece → Result Next LexFault → Type 0
Gathers L at so ps r =
    ((at + length (bytes ps) + 1 ≤ L) × (r ≡ Ok (sentence (so ++ (tokens at ps ++ stop_token (at + length (bytes ps)) ∷ [])) (at + length (bytes ps) + 1))))
    ⊎ ((L < at + length (bytes ps) + 1) × (us : List Token) × AreQuiet us × (r ≡ Ok (so_far (so ++ us))))

append_none : (ts : List Token) → ts ++ [] ≡ ts
append_none ts = Rattle.std.proofs.Common.append-nil ts

blank_space : (L : ℕ) (text : List ℕ) (at : ℕ) (more : List ℕ) → drop at text ≡ 32 ∷ more →
    ((at + 1 ≤ L) × (found false (view L text at) ≡ space (view L text (at + 1)))) ⊎ ((L < at + 1) × Stopped (found false (view L text at)))
unfolding cutting
blank_space L text at more e = by (shows_ascii L text at 32 more e (omega arith))
  where
    by : Shows L text at 32 1 →
        ((at + 1 ≤ L) × (found false (view L text at) ≡ space (view L text (at + 1)))) ⊎ ((L < at + 1) × Stopped (found false (view L text at)))
    by (inl s) = inl (s.0, ap (found false) s.1)
    by (inr s) = inr (s.0, inl (ap (found false) s.1))

module _ (L : ℕ) (text : List ℕ) where
  last_piece : (turns at : ℕ) (t : Token) (ts : List Token) → drop at text ≡ 46 ∷ [] →
      Gathers L at (t ∷ ts) [] (gathered (suc turns) text (t ∷ ts) (view L text at))
  unfolding closes
  last_piece turns at t ts e = by (stop_found L text at e long)
    where
      long : length text ≤ at + 1
      long = omega (arith, length-drop at text, ap length e)

      same : at ≡ at + 0
      same = omega arith

      by : FoundTo L text at (at + 1) (kind.Symbol sign.Stop) → Gathers L at (t ∷ ts) [] (gathered (suc turns) text (t ∷ ts) (view L text at))
      by (inl s) =
          inl (
            omega (arith, s.0),
            at_last turns text t ts (view L text at) (stop_token at) (view L text (at + 1)) s.1 refl
                ∙ ap (λ p. Ok (sentence ((t ∷ ts) ++ stop_token p ∷ []) (p + 1))) same,
          )
      by (inr s) = inr (omega (arith, s.0), [], tt, at_stopped turns text t ts (view L text at) s.1 ∙ ap (λ us. Ok (so_far us)) (sym (append_none (t ∷ ts))))

  -- a piece before others
  before_blank : (turns at : ℕ) (t : Token) (ts : List Token) (ps : List Piece) (more : List ℕ) → drop at text ≡ 32 ∷ more →
      (at + 1 ≤ L → Gathers L (at + 1) (t ∷ ts) ps (gathered turns text (t ∷ ts) (view L text (at + 1)))) →
      Gathers L at (t ∷ ts) (blank ∷ ps) (gathered (suc turns) text (t ∷ ts) (view L text at))
  before_blank turns at t ts ps more e others = by (blank_space L text at more e)
    where
      same : at + 1 + length (bytes ps) ≡ at + suc (length (bytes ps))
      same = omega arith

      through : gathered (suc turns) text (t ∷ ts) (view L text at) ≡ gathered turns text (t ∷ ts) (view L text (at + 1)) →
          Gathers L (at + 1) (t ∷ ts) ps (gathered turns text (t ∷ ts) (view L text (at + 1))) →
          Gathers L at (t ∷ ts) (blank ∷ ps) (gathered (suc turns) text (t ∷ ts) (view L text at))
      through e (inl g) = inl (omega (arith, g.0), e ∙ g.1 ∙ ap (λ p. Ok (sentence ((t ∷ ts) ++ (tokens (at + 1) ps ++ stop_token p ∷ [])) (p + 1))) same)
      through e (inr g) = inr (omega (arith, g.0), g.1, g.2, e ∙ g.3)

      by : ((at + 1 ≤ L) × (found false (view L text at) ≡ space (view L text (at + 1)))) ⊎ ((L < at + 1) × Stopped (found false (view L text at))) →
          Gathers L at (t ∷ ts) (blank ∷ ps) (gathered (suc turns) text (t ∷ ts) (view L text at))
      by (inl s) = through (at_space turns text t ts (view L text at) (view L text (at + 1)) s.1) (others s.0)
      by (inr s) = inr (omega (arith, s.0), [], tt, at_stopped turns text t ts (view L text at) s.1 ∙ ap (λ us. Ok (so_far us)) (sym (append_none (t ∷ ts))))

  before_word : (turns at : ℕ) (t : Token) (ts : List Token) (w : Word) (ps : List Piece) (more : List ℕ) → IsSayable w → Fits w more →
      drop at text ≡ spelling w ++ more →
      (let u : Token = record { kind = kind_of w; start = at; end = at + length (spelling w) } in
      at + length (spelling w) ≤ L →
      Gathers L (at + length (spelling w)) (t ∷ (ts ++ u ∷ [])) ps (gathered turns text (t ∷ (ts ++ u ∷ [])) (view L text (at + length (spelling w))))) →
      Gathers L at (t ∷ ts) (said w ∷ ps) (gathered (suc turns) text (t ∷ ts) (view L text at))
  before_word turns at t ts w ps more h f e others = by (word_found L text at w more h f e)
    where
      u : Token
      u = record { kind = kind_of w; start = at; end = at + length (spelling w) }

      len : length (spelling w ++ bytes ps) ≡ length (spelling w) + length (bytes ps)
      len = length-append (spelling w) (bytes ps)

      same : at + length (spelling w) + length (bytes ps) ≡ at + length (spelling w ++ bytes ps)
      same = omega (arith, len)

      through : gathered (suc turns) text (t ∷ ts) (view L text at) ≡ gathered turns text (t ∷ (ts ++ u ∷ [])) (view L text (at + length (spelling w))) →
          Gathers L (at + length (spelling w)) (t ∷ (ts ++ u ∷ [])) ps (gathered turns text (t ∷ (ts ++ u ∷ [])) (view L text (at + length (spelling w)))) →
          Gathers L at (t ∷ ts) (said w ∷ ps) (gathered (suc turns) text (t ∷ ts) (view L text at))
      through e (inl g) =
          inl (
            omega (arith, g.0, len),
            e ∙ g.1
                ∙ ap (λ us. Ok (sentence us (at + length (spelling w) + length (bytes ps) + 1)))
                (append_assoc (t ∷ ts) (u ∷ []) (tokens (at + length (spelling w)) ps ++ stop_token (at + length (spelling w) + length (bytes ps)) ∷ []))
                ∙ ap (λ p. Ok (sentence ((t ∷ ts) ++ (u ∷ (tokens (at + length (spelling w)) ps ++ stop_token p ∷ []))) (p + 1))) same,
          )
      through e (inr g) =
          inr (omega (arith, g.0, len), u ∷ g.1, (closes_none w h, g.2), e ∙ g.3 ∙ ap (λ us. Ok (so_far us)) (append_assoc (t ∷ ts) (u ∷ []) g.1))

      by : FoundTo L text at (at + length (spelling w)) (kind_of w) →
          Gathers L at (t ∷ ts) (said w ∷ ps) (gathered (suc turns) text (t ∷ ts) (view L text at))
      by (inl s) =
          through (at_word turns text t ts (view L text at) u (view L text (at + length (spelling w))) s.1 (closes_none w h text (t ∷ ts))) (others s.0)
      by (inr s) =
          inr (omega (arith, s.0, len), [], tt, at_stopped turns text t ts (view L text at) s.1 ∙ ap (λ us. Ok (so_far us)) (sym (append_none (t ∷ ts))))

  -- the rest of a printed text behind some tokens
  pub gathered_pieces : (ps : List Piece) (turns at : ℕ) (t : Token) (ts : List Token) → Fine ps (46 ∷ []) → drop at text ≡ bytes ps ++ (46 ∷ []) →
      length ps < turns → Gathers L at (t ∷ ts) ps (gathered turns text (t ∷ ts) (view L text at))
  gathered_pieces [] zero at t ts f e h = absurd (omega arith)
  gathered_pieces (p ∷ ps) zero at t ts f e h = absurd (omega arith)
  gathered_pieces [] (suc turns) at t ts f e h = last_piece turns at t ts e
  gathered_pieces (blank ∷ ps) (suc turns) at t ts f e h =
      before_blank turns at t ts ps (bytes ps ++ (46 ∷ [])) e
      (λ low. gathered_pieces ps turns (at + 1) t ts f (drop_next text at 1 (32 ∷ (bytes ps ++ (46 ∷ []))) e) (omega arith))
  gathered_pieces (said w ∷ ps) (suc turns) at t ts f e h =
      let g = e ∙ append_assoc (spelling w) (bytes ps) (46 ∷ []) in
      before_word turns at t ts w ps (bytes ps ++ (46 ∷ [])) f.0 f.1 g
      (λ low. gathered_pieces ps turns (at + length (spelling w)) t (ts ++ record { kind = kind_of w; start = at; end = at + length (spelling w) } ∷ []) f.2
      (drop_behind text at (spelling w) (bytes ps ++ (46 ∷ [])) g) (omega arith))
