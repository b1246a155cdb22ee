-- Each form of a printed term is read again, where its parts are.
use Rattle.std.proofs.Common.{◌≡◌, ℕ, zero, suc, ◌+◌, ◌-◌, true, false, List, [], ◌∷◌, Ok, Err, refl, ap, ◌∙◌, inl, inr, arith}
use Rattle.std.specs.Prelude.{codes}
use Rattle.lq_grammar.specs.declared.token.Symbol.TheVariants.{ColonEqual, FatArrow, Arrow as ArrowSign, CloseRound, Colon, Comma}
use Rattle.lq_trees.specs.Tree.{Name}
use Rattle.lq_ast.specs.Syntax.{Surface, Forall, Fun, LetIn, Arrow, applied, Written}
use Rattle.lq_sentences.specs.Words.{Word, Words, name, symbol, is_name, is_sign, same_symbol, reads}
use Rattle.lq_sentences.specs.Rules.{Rule, ◌>>=◌, choose, sees, too_nested, Read, and_then, read_word, read}
use Rattle.lq_sentences.specs.Parts.{behind}
use Rattle.lq_sentences.specs.Terms.{begins_atom, begins_term, begins_argument, atom, arrow_behind, arrow_term, quantified, let_term, levels, term}
use Rattle.lq_sentences.specs.Patterns.{free_spot}
use Rattle.lq_sentences.proofs.RuleLaws.{chosen_true, chosen_false}
use Rattle.lq_texts.proofs.Said.{bound_word, IsFreeBinder}
use Rattle.lq_texts.proofs.GoodLaws.{Good, good_then, good_is, good_done}
use Rattle.lq_texts.proofs.BinderReading.{behind_sign, quantified_good, let_good}
use Rattle.lq_texts.proofs.AtomRows.{an_atom, Row, Cut, Atoms, loop_row, loop_cut, row_more, cut_here, cut_later}
use Rattle.lq_texts.proofs.AtomReading.{Halts, no_level, no_level, term_above, other_word, and_left, begins_some}

-- ---- each form

pub sees_begins : (w : Word × ℕ) (ws : Words) → begins_argument [] w.0 ≡ true → sees begins_term (w ∷ ws) ≡ true
unfolding sees
sees_begins w ws e = begins_some w.0 e

pub forall_case : (n : ℕ) (x : Name) (A t : Surface) (p q r o : ℕ) (us vs rest : Words) → IsFreeBinder x →
    ((m : ℕ) → Good (read (term m free_spot) us) (A, (symbol Comma, o) ∷ vs)) → ((m : ℕ) → Good (read (term m free_spot) vs) (t, rest)) →
    Good (read (term n free_spot) ((name (codes "forall"), p) ∷ (bound_word x, q) ∷ (symbol Colon, r) ∷ us)) (Forall x (Written A) t, rest)
unfolding sees is_name is_sign same_symbol reads
forall_case zero x A t p q r o us vs rest free g h = no_level ((name (codes "forall"), p) ∷ (bound_word x, q) ∷ (symbol Colon, r) ∷ us) rest refl
forall_case (suc m) x A t p q r o us vs rest free g h =
    good_is _ (read (quantified m (m - 1) (term m) (levels m).1 free_spot (codes "forall") Forall Comma)
    ((name (codes "forall"), p) ∷ (bound_word x, q) ∷ (symbol Colon, r) ∷ us)) (Forall x (Written A) t, rest)
    (ap (λ c. read c ((name (codes "forall"), p) ∷ (bound_word x, q) ∷ (symbol Colon, r) ∷ us)) (term_above m))
    (quantified_good m (m - 1) (term m) (levels m).1 (codes "forall") Forall Comma x A t p q r o us vs rest refl refl free (g m) (h m))

pub fun_case : (n : ℕ) (x : Name) (A t : Surface) (p q r o : ℕ) (us vs rest : Words) → IsFreeBinder x →
    ((m : ℕ) → Good (read (term m free_spot) us) (A, (symbol FatArrow, o) ∷ vs)) → ((m : ℕ) → Good (read (term m free_spot) vs) (t, rest)) →
    Good (read (term n free_spot) ((name (codes "fun"), p) ∷ (bound_word x, q) ∷ (symbol Colon, r) ∷ us)) (Fun x (Written A) t, rest)
unfolding sees is_name is_sign same_symbol reads
fun_case zero x A t p q r o us vs rest free g h = no_level ((name (codes "fun"), p) ∷ (bound_word x, q) ∷ (symbol Colon, r) ∷ us) rest refl
fun_case (suc m) x A t p q r o us vs rest free g h =
    good_is _ (read (quantified m (m - 1) (term m) (levels m).1 free_spot (codes "fun") Fun FatArrow)
    ((name (codes "fun"), p) ∷ (bound_word x, q) ∷ (symbol Colon, r) ∷ us)) (Fun x (Written A) t, rest)
    (ap (λ c. read c ((name (codes "fun"), p) ∷ (bound_word x, q) ∷ (symbol Colon, r) ∷ us)) (term_above m))
    (quantified_good m (m - 1) (term m) (levels m).1 (codes "fun") Fun FatArrow x A t p q r o us vs rest refl refl free (g m) (h m))

pub let_case : (n : ℕ) (x : Name) (A v t : Surface) (p q r o i : ℕ) (us vs ws rest : Words) → IsFreeBinder x →
    ((m : ℕ) → Good (read (term m free_spot) us) (A, (symbol ColonEqual, o) ∷ vs)) →
    ((m : ℕ) → Good (read (term m free_spot) vs) (v, (name (codes "in"), i) ∷ ws)) → ((m : ℕ) → Good (read (term m free_spot) ws) (t, rest)) →
    Good (read (term n free_spot) ((name (codes "let"), p) ∷ (bound_word x, q) ∷ (symbol Colon, r) ∷ us)) (LetIn x (Written A) v t, rest)
unfolding sees is_name is_sign same_symbol reads
let_case zero x A v t p q r o i us vs ws rest free g h j = no_level ((name (codes "let"), p) ∷ (bound_word x, q) ∷ (symbol Colon, r) ∷ us) rest refl
let_case (suc m) x A v t p q r o i us vs ws rest free g h j =
    good_is _ (read (let_term m (term m) free_spot) ((name (codes "let"), p) ∷ (bound_word x, q) ∷ (symbol Colon, r) ∷ us)) (LetIn x (Written A) v t, rest)
    (ap (λ c. read c ((name (codes "let"), p) ∷ (bound_word x, q) ∷ (symbol Colon, r) ∷ us)) (term_above m))
    (let_good m (m - 1) (term m) (levels m).1 x A v t p q r o i us vs ws rest free (g m) (h m) (j m))

-- a term that begins with an atom
module _ (m : ℕ) (w : Word × ℕ) (ws : Words) (b : begins_argument [] w.0 ≡ true) where
  pub passes : {A : Type 0} (x : Name) (p q : Rule A) → begins_argument [] (name x) ≡ false → read (choose (reads x) p q) (w ∷ ws) ≡ read q (w ∷ ws)
  unfolding sees
  passes x p q out = chosen_false (sees (reads x) (w ∷ ws)) _ _ (other_word x w.0 out b)

  pub begins_app : read (term (suc m) free_spot) (w ∷ ws) ≡ read (atom m (term m) free_spot >>= arrow_term m (term m) free_spot) (w ∷ ws)
  unfolding is_name is_sign same_symbol reads
  begins_app =
      ap (λ c. read c (w ∷ ws)) (term_above m)
      ∙ passes (codes "forall") (quantified m (m - 1) (term m) (levels m).1 free_spot (codes "forall") Forall Comma)
      (choose (reads (codes "fun")) (quantified m (m - 1) (term m) (levels m).1 free_spot (codes "fun") Fun FatArrow)
      (choose (reads (codes "let")) (let_term m (term m) free_spot) (atom m (term m) free_spot >>= arrow_term m (term m) free_spot))) refl
      ∙ passes (codes "fun") (quantified m (m - 1) (term m) (levels m).1 free_spot (codes "fun") Fun FatArrow)
      (choose (reads (codes "let")) (let_term m (term m) free_spot) (atom m (term m) free_spot >>= arrow_term m (term m) free_spot)) refl
      ∙ passes (codes "let") (let_term m (term m) free_spot) (atom m (term m) free_spot >>= arrow_term m (term m) free_spot) refl

  pub first_word : read_word (m + 1) begins_atom (w ∷ ws) ≡ Ok (w, ws)
  unfolding read_word
  first_word = let e : m + 1 ≡ suc m = omega arith in let c = and_left (begins_atom w.0) _ b in rw e (chosen_true (begins_atom w.0) _ _ c)

  pub app_by : read (term (suc m) free_spot) (w ∷ ws) ≡ and_then (an_atom m w ws) (λ f vs. read (arrow_term m (term m) free_spot f) vs)
  app_by = begins_app ∙ ap (λ r. and_then (and_then r (λ v vs. an_atom m v vs)) (λ f vs. read (arrow_term m (term m) free_spot f) vs)) first_word

module _ (m : ℕ) where
  -- what stands behind the first atom
  pub behind_row : (f : Surface) (vs rest : Words) (as_ : List Surface) → Row m vs as_ rest → sees (begins_argument []) rest ≡ false →
      read (arrow_term m (term m) free_spot f) vs ≡ read (arrow_behind m (term m) free_spot (applied f as_)) rest
  behind_row f vs rest as_ r stops =
      ap (λ (x : Read (List Surface)). and_then (and_then x (λ xs zs. Ok (applied f xs, zs))) (λ A zs. read (arrow_behind m (term m) free_spot A) zs))
      (loop_row m vs rest as_ r stops [])

  pub behind_cut : (f : Surface) (vs : Words) (q : ℕ) → Cut m vs q → read (arrow_term m (term m) free_spot f) vs ≡ Err (too_nested q)
  behind_cut f vs q c =
      ap (λ (x : Read (List Surface)). and_then (and_then x (λ xs zs. Ok (applied f xs, zs))) (λ A zs. read (arrow_behind m (term m) free_spot A) zs))
      (loop_cut m vs q c [])

  pub app_row : (f : Surface) (as_ : List Surface) (us rest : Words) → Row m us (f ∷ as_) rest → sees (begins_argument []) rest ≡ false →
      read (term (suc m) free_spot) us ≡ read (arrow_behind m (term m) free_spot (applied f as_)) rest
  app_row f as_ us rest (row_more {w = w} {ws = ws} {us = vs} b e more) stops =
      app_by m w ws b ∙ ap (λ r. and_then r (λ g zs. read (arrow_term m (term m) free_spot g) zs)) e ∙ behind_row f vs rest as_ more stops

  pub app_cut : (us : Words) (q : ℕ) → Cut m us q → read (term (suc m) free_spot) us ≡ Err (too_nested q)
  app_cut us q (cut_here {w = w} {ws = ws} b e) = app_by m w ws b ∙ ap (λ r. and_then r (λ g zs. read (arrow_term m (term m) free_spot g) zs)) e
  app_cut us q (cut_later {w = w} {ws = ws} {us = vs} {a = f} b e more) =
      app_by m w ws b ∙ ap (λ r. and_then r (λ g zs. read (arrow_term m (term m) free_spot g) zs)) e ∙ behind_cut f vs q more

  pub app_good : (s : Surface) (us rest : Words) → Atoms m s us rest → Halts rest → Good (read (term (suc m) free_spot) us) (s, rest)
  app_good s us rest (inl r) h =
      inl (app_row r.0 r.1 us rest r.3 h.no_argument ∙ chosen_false (sees (is_sign ArrowSign) rest) _ _ h.no_arrow ∙ ap (λ t. Ok (t, rest)) r.2)
  app_good s us rest (inr c) h = inr (c.0, app_cut us c.0 c.1)

  pub arrow_good : (a b : Surface) (o : ℕ) (us vs rest : Words) → Atoms m a us ((symbol ArrowSign, o) ∷ vs) → Good (read (term m free_spot) vs) (b, rest) →
      Good (read (term (suc m) free_spot) us) (Arrow a b, rest)
  unfolding sees is_name is_sign same_symbol reads
  arrow_good a b o us vs rest (inl r) g =
      good_is _ (read (arrow_behind m (term m) free_spot a) ((symbol ArrowSign, o) ∷ vs)) (Arrow a b, rest)
      (app_row r.0 r.1 us ((symbol ArrowSign, o) ∷ vs) r.3 refl ∙ ap (λ f. read (arrow_behind m (term m) free_spot f) ((symbol ArrowSign, o) ∷ vs)) r.2)
      (good_then (read (behind (m + 1) ArrowSign (term m free_spot)) ((symbol ArrowSign, o) ∷ vs)) (λ B ws. Ok (Arrow a B, ws)) (b, rest) (Arrow a b, rest)
      (behind_sign (m + 1) ArrowSign (term m free_spot) o vs (b, rest) refl g) (good_done _))
  arrow_good a b o us vs rest (inr c) g = inr (c.0, app_cut us c.0 c.1)

pub app_case : (n : ℕ) (s : Surface) (us rest : Words) → sees begins_term us ≡ true → ((m : ℕ) → Atoms m s us rest) → Halts rest →
    Good (read (term n free_spot) us) (s, rest)
app_case zero s us rest b g h = no_level us rest b
app_case (suc m) s us rest b g h = app_good m s us rest (g m) h

pub arrow_case : (n : ℕ) (a b : Surface) (o : ℕ) (us vs rest : Words) → sees begins_term us ≡ true → ((m : ℕ) → Atoms m a us ((symbol ArrowSign, o) ∷ vs)) →
    ((m : ℕ) → Good (read (term m free_spot) vs) (b, rest)) →
    Good (read (term n free_spot) us) (Arrow a b, rest)
arrow_case zero a b o us vs rest c g h = no_level us rest c
arrow_case (suc m) a b o us vs rest c g h = arrow_good m a b o us vs rest (g m) (h m)

-- ---- signs and words behind which no term goes on

pub at_comma : (o : ℕ) (ws : Words) → Halts ((symbol Comma, o) ∷ ws)
unfolding sees is_name is_sign same_symbol reads
at_comma o ws = record { no_argument = refl; no_arrow = refl }

pub at_fat_arrow : (o : ℕ) (ws : Words) → Halts ((symbol FatArrow, o) ∷ ws)
unfolding sees is_name is_sign same_symbol reads
at_fat_arrow o ws = record { no_argument = refl; no_arrow = refl }

pub at_becomes : (o : ℕ) (ws : Words) → Halts ((symbol ColonEqual, o) ∷ ws)
unfolding sees is_name is_sign same_symbol reads
at_becomes o ws = record { no_argument = refl; no_arrow = refl }

pub at_close : (o : ℕ) (ws : Words) → Halts ((symbol CloseRound, o) ∷ ws)
unfolding sees is_name is_sign same_symbol reads
at_close o ws = record { no_argument = refl; no_arrow = refl }

pub at_in : (o : ℕ) (ws : Words) → Halts ((name (codes "in"), o) ∷ ws)
unfolding sees is_name is_sign same_symbol reads
at_in o ws = record { no_argument = refl; no_arrow = refl }
