-- Atoms in a row, and the loop over the arguments of an application.
use Rattle.std.proofs.Common.{◌≡◌, ℕ, suc, ◌+◌, true, false, List, [], ◌∷◌, ◌++◌, Ok, Err, refl, sym, ap, ◌∙◌, inl, inr, arith, append-nil, append_assoc}
use Rattle.std.specs.Prelude.{◌⊎◌}
use Rattle.lq_ast.specs.Syntax.{Surface, Applied, applied}
use Rattle.lq_sentences.specs.Words.{Word, Words}
use Rattle.lq_sentences.specs.Rules.{sees, too_nested, Read, and_then, read_word, read}
use Rattle.lq_sentences.specs.Parts.{many}
use Rattle.lq_sentences.specs.Terms.{begins_argument, atom_at, term}
use Rattle.lq_sentences.specs.Patterns.{free_spot}
use Rattle.lq_sentences.proofs.RuleLaws.{chosen_true}
use Rattle.lq_sentences.proofs.LoopLaws.{many_again, many_done}
use Rattle.lq_texts.proofs.GoodLaws.{Good}

-- ---- atoms in a row, with m levels of nesting inside

-- what stands behind the first word of an atom gives the atom, and leaves the rest
abbrev pub an_atom : ℕ → Word × ℕ → Words → Read Surface
an_atom m w ws = read (atom_at m (term m) free_spot w) ws

-- the words are atoms, and others are left
pub data Row (m : ℕ) : Words → List Surface → Words → Type 0 where
  row_end : {ws : Words} → Row m ws [] ws
  row_more : {w : Word × ℕ} {ws us rest : Words} {a : Surface} {as_ : List Surface} → begins_argument [] w.0 ≡ true → an_atom m w ws ≡ Ok (a, us) →
      Row m us as_ rest → Row m (w ∷ ws) (a ∷ as_) rest

-- the words are atoms up to one in which a word is nested too deep
pub data Cut (m : ℕ) : Words → ℕ → Type 0 where
  cut_here : {w : Word × ℕ} {ws : Words} {q : ℕ} → begins_argument [] w.0 ≡ true → an_atom m w ws ≡ Err (too_nested q) → Cut m (w ∷ ws) q
  cut_later : {w : Word × ℕ} {ws us : Words} {a : Surface} {q : ℕ} → begins_argument [] w.0 ≡ true → an_atom m w ws ≡ Ok (a, us) → Cut m us q →
      Cut m (w ∷ ws) q

pub row_push : (m : ℕ) (us vs ws : Words) (as_ : List Surface) (a : Surface) → Row m us as_ vs → Row m vs (a ∷ []) ws → Row m us (as_ ++ a ∷ []) ws
row_push m us vs ws as_ a row_end r = r
row_push m us vs ws as_ a (row_more {ws = xs} {us = ys} {as_ = bs} b e more) r = row_more b e (row_push m ys vs ws bs a more r)

pub row_cut : (m : ℕ) (us vs : Words) (as_ : List Surface) (q : ℕ) → Row m us as_ vs → Cut m vs q → Cut m us q
row_cut m us vs as_ q row_end c = c
row_cut m us vs as_ q (row_more {us = ys} {as_ = bs} b e more) c = cut_later b e (row_cut m ys vs bs q more c)

-- the words are the atoms of an application, or a word in them is nested too deep
abbrev pub Atoms : ℕ → Surface → Words → Words → Type 0
Atoms m s us rest = ((f : Surface) × (as_ : List Surface) × (applied f as_ ≡ s) × Row m us (f ∷ as_) rest) ⊎ ((q : ℕ) × Cut m us q)

-- the words are one atom
abbrev pub OneAtom : ℕ → Surface → Words → Words → Type 0
OneAtom m s us rest = Row m us (s ∷ []) rest ⊎ ((q : ℕ) × Cut m us q)

pub one_of : (m : ℕ) (s : Surface) (w : Word × ℕ) (ws rest : Words) → begins_argument [] w.0 ≡ true → Good (an_atom m w ws) (s, rest) →
    OneAtom m s (w ∷ ws) rest
one_of m s w ws rest b (inl e) = inl (row_more b e row_end)
one_of m s w ws rest b (inr e) = inr (e.0, cut_here b e.1)

pub applied_more : (f a : Surface) (as_ : List Surface) → applied f (as_ ++ a ∷ []) ≡ Applied (applied f as_) a
unfolding applied
applied_more f a [] = refl
applied_more f a (b ∷ bs) = applied_more (Applied f b) a bs

pub applied_nil : (f : Surface) → applied f [] ≡ f
unfolding applied
applied_nil f = refl

pub atoms_one : (m : ℕ) (s : Surface) (us rest : Words) → OneAtom m s us rest → Atoms m s us rest
atoms_one m s us rest (inl r) = inl (s, [], applied_nil s, r)
atoms_one m s us rest (inr c) = inr c

pub atoms_more : (m : ℕ) (f a : Surface) (us vs rest : Words) → Atoms m f us vs → OneAtom m a vs rest → Atoms m (Applied f a) us rest
atoms_more m f a us vs rest (inl r) (inl o) =
    inl (r.0, r.1 ++ a ∷ [], applied_more r.0 a r.1 ∙ ap (λ g. Applied g a) r.2, row_push m us vs rest (r.0 ∷ r.1) a r.3 o)
atoms_more m f a us vs rest (inl r) (inr c) = inr (c.0, row_cut m us vs (r.0 ∷ r.1) c.0 r.3 c.1)
atoms_more m f a us vs rest (inr c) o = inr c

-- ---- the loop over arguments

module _ (m : ℕ) where
  abbrev pub looped : List Surface → Words → Read (List Surface)
  looped found ws = read (many (m + 1) (begins_argument []) (atom_at m (term m) free_spot) found) ws

  pub word_here : (w : Word × ℕ) (ws : Words) → begins_argument [] w.0 ≡ true → read_word (m + 1) (begins_argument []) (w ∷ ws) ≡ Ok (w, ws)
  unfolding read_word
  word_here w ws b = let e : m + 1 ≡ suc m = omega arith in rw e (chosen_true (begins_argument [] w.0) _ _ b)

  pub turn : (found : List Surface) (w : Word × ℕ) (ws : Words) → begins_argument [] w.0 ≡ true →
      looped found (w ∷ ws) ≡ and_then (an_atom m w ws) (λ a us. looped (found ++ a ∷ []) us)
  unfolding sees
  turn found w ws b =
      many_again (m + 1) (begins_argument []) (atom_at m (term m) free_spot) found (w ∷ ws) b
      ∙ ap (λ r. and_then r (λ v vs. and_then (an_atom m v vs) (λ a us. looped (found ++ a ∷ []) us))) (word_here w ws b)

  pub loop_row : (us rest : Words) (as_ : List Surface) → Row m us as_ rest → sees (begins_argument []) rest ≡ false → (found : List Surface) →
      looped found us ≡ Ok (found ++ as_, rest)
  loop_row us rest as_ row_end stops found =
      many_done (m + 1) (begins_argument []) (atom_at m (term m) free_spot) found us stops ∙ ap (λ xs. Ok (xs, us)) (sym (append-nil found))
  loop_row us rest as_ (row_more {w = w} {ws = ws} {us = vs} {a = a} {as_ = bs} b e more) stops found =
      turn found w ws b ∙ ap (λ r. and_then r (λ c vs. looped (found ++ c ∷ []) vs)) e ∙ loop_row vs rest bs more stops (found ++ a ∷ [])
      ∙ ap (λ xs. Ok (xs, rest)) (append_assoc found (a ∷ []) bs)

  pub loop_cut : (us : Words) (q : ℕ) → Cut m us q → (found : List Surface) → looped found us ≡ Err (too_nested q)
  loop_cut us q (cut_here {w = w} {ws = ws} b e) found = turn found w ws b ∙ ap (λ r. and_then r (λ c vs. looped (found ++ c ∷ []) vs)) e
  loop_cut us q (cut_later {w = w} {ws = ws} {us = vs} {a = a} b e more) found =
      turn found w ws b ∙ ap (λ r. and_then r (λ c vs. looped (found ++ c ∷ []) vs)) e ∙ loop_cut vs q more (found ++ a ∷ [])
