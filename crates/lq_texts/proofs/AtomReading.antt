-- Printed atoms are read again, and what a term begins with.
use Rattle.std.proofs.Common.{◌≡◌, ℕ, suc, ◌+◌, ◌-◌, ◌≤◌, Bool, true, false, [], ◌∷◌, Ok, refl, sym, ap, ◌∙◌, inr, arith}
use Rattle.std.specs.Prelude.{◌&&◌, ◌||◌, not, codes}
use Rattle.std.proofs.lemmas.Bool.{le-leb}
use Rattle.std.proofs.lemmas.Slice.Eq.{bytes_eq-Decides}
use Rattle.lq_grammar.specs.declared.token.Symbol.TheVariants.{Arrow as ArrowSign, OpenRound, CloseRound}
use Rattle.lq_grammar.specs.Selectors.{is_reserved}
use Rattle.lq_trees.specs.Tree.{Name}
use Rattle.lq_ast.specs.Syntax.{Surface, Ident, PropSort, TypeSort}
use Rattle.lq_sentences.specs.Words.{Word, Words, name, number, quoted, symbol, bullet, is_name, is_sign, same_symbol, reads}
use Rattle.lq_sentences.specs.Rules.{sees, Read, and_then, read_word, read}
use Rattle.lq_sentences.specs.Parts.{expect}
use Rattle.lq_sentences.specs.Terms.{top_level, begins_atom, begins_term, begins_argument, is_level, level_of, cast_behind, term_in, levels, term}
use Rattle.lq_sentences.specs.Patterns.{free_spot}
use Rattle.lq_sentences.proofs.RuleLaws.{chosen_true}
use Rattle.lq_texts.proofs.Said.{IsFree}
use Rattle.lq_texts.proofs.GoodLaws.{Good, good_then, good_word, good_done}
use Rattle.lq_texts.proofs.AtomRows.{an_atom}

-- ---- names that are not reserved

pub or_false : (a b : Bool) → (a || b) ≡ false → (a ≡ false) × (b ≡ false)
or_false true b e = absurd cc
or_false false b e = (refl, e)

-- the words that terms hold
pub record IsOwn (x : Name) : Type 0 where
  pub no_forall : reads (codes "forall") (name x) ≡ false
  pub no_fun : reads (codes "fun") (name x) ≡ false
  pub no_let : reads (codes "let") (name x) ≡ false
  pub no_prop : reads (codes "Prop") (name x) ≡ false
  pub no_type : reads (codes "Type") (name x) ≡ false

pub own_word : (x : Name) → is_reserved x ≡ false → IsOwn x
unfolding reads
own_word x h =
    let a = or_false _ _ h in
    let b = or_false _ _ a.1 in
    let c = or_false _ _ b.1 in
    let d = or_false _ _ c.1 in
    let e = or_false _ _ d.1 in
    let f = or_false _ _ e.1 in
    record { no_forall = a.0; no_fun = b.0; no_let = c.0; no_prop = e.0; no_type = f.0 }

-- ---- atoms

pub starts : (x : Name) → IsFree x → begins_argument [] (name x) ≡ true
unfolding is_name is_sign same_symbol reads
starts [] h = absurd h
starts (b ∷ bs) h = rw h refl

pub name_good : (m : ℕ) (x : Name) (p : ℕ) (ws : Words) → IsFree x → Good (an_atom m (name x, p) ws) (Ident x, ws)
unfolding is_sign same_symbol
name_good m [] p ws h = absurd h
name_good m (b ∷ bs) p ws h = let o = own_word (b ∷ bs) h in let e = o.no_prop in let f = o.no_type in rw (e, f) (good_done (Ident (b ∷ bs), ws))

pub type_good : (m i p q : ℕ) (ws : Words) → i ≤ top_level → Good (an_atom m (name (codes "Type"), p) ((number i, q) ∷ ws)) (TypeSort i, ws)
unfolding is_sign same_symbol reads
type_good m i p q ws h =
    good_then (read_word (m + 1) is_level ((number i, q) ∷ ws)) (λ w us. Ok (level_of w.0, us)) ((number i, q), ws) (TypeSort i, ws)
    (good_word (m + 1) is_level (number i, q) ws (le-leb i top_level h)) (good_done (TypeSort i, ws))

pub brackets_good : (m : ℕ) (s : Surface) (p q : ℕ) (us ws : Words) → Good (read (term m free_spot) us) (s, (symbol CloseRound, q) ∷ ws) →
    Good (an_atom m (symbol OpenRound, p) us) (s, ws)
unfolding sees is_sign same_symbol
brackets_good m s p q us ws g =
    good_then (and_then (read (term m free_spot) us) (λ t vs. read (cast_behind m (term m) free_spot t) vs))
    (λ t vs. and_then (read (expect (m + 1) CloseRound) vs) (λ u zs. Ok (t, zs))) (s, (symbol CloseRound, q) ∷ ws) (s, ws)
    (good_then (read (term m free_spot) us) (λ t vs. read (cast_behind m (term m) free_spot t) vs) (s, (symbol CloseRound, q) ∷ ws)
    (s, (symbol CloseRound, q) ∷ ws) g (good_done _))
    (good_then (read (expect (m + 1) CloseRound) ((symbol CloseRound, q) ∷ ws)) (λ u zs. Ok (s, zs)) (tt, ws) (s, ws)
    (good_then (read_word (m + 1) (is_sign CloseRound) ((symbol CloseRound, q) ∷ ws)) (λ w vs. Ok (tt, vs)) ((symbol CloseRound, q), ws) (tt, ws)
    (good_word (m + 1) (is_sign CloseRound) (symbol CloseRound, q) ws refl) (good_done (tt, ws)))
    (good_done (s, ws)))

-- ---- terms

-- what stands behind a term does not go on with it
pub record Halts (ws : Words) : Type 0 where
  pub no_argument : sees (begins_argument []) ws ≡ false
  pub no_arrow : sees (is_sign ArrowSign) ws ≡ false

-- with no level left a word is nested too deep
pub no_level : {s : Surface} (us rest : Words) → sees begins_term us ≡ true → Good (read (term 0 free_spot) us) (s, rest)
unfolding sees levels read_word
no_level [] rest h = absurd cc
no_level (w ∷ ws) rest h = inr (w.1, ap (λ (r : Read (Word × ℕ)). and_then r (λ v vs. Ok (PropSort, vs))) (chosen_true (begins_term w.0) _ _ h))

pub term_above : (m : ℕ) → term (suc m) free_spot ≡ term_in m (m - 1) (term m) (levels m).1 free_spot
unfolding levels
term_above m = refl

pub reads_is : (x : Name) (w : Word) → reads x w ≡ true → w ≡ name x
unfolding reads
reads_is x (name y) e = ap name (sym ((bytes_eq-Decides x y).0 e))
reads_is x (number n) e = absurd cc
reads_is x (quoted s) e = absurd cc
reads_is x (symbol s) e = absurd cc
reads_is x (bullet c n) e = absurd cc

-- a word with which an atom begins is none with which no atom does
pub other_word : (x : Name) (w : Word) → begins_argument [] (name x) ≡ false → begins_argument [] w ≡ true → reads x w ≡ false
other_word x w out begins = by (reads x w) refl
  where
    by : (b : Bool) → reads x w ≡ b → reads x w ≡ false
    by true e = absurd (true_false (sym begins ∙ ap (begins_argument []) (reads_is x w e) ∙ out))
      where
        true_false : true ≡ false → ⊥
        true_false f = absurd cc
    by false e = e

pub and_left : (a b : Bool) → (a && b) ≡ true → a ≡ true
and_left true b e = refl
and_left false b e = absurd cc

pub or_left : (a b : Bool) → a ≡ true → (a || b) ≡ true
or_left true b e = refl
or_left false b e = absurd cc

pub begins_some : (w : Word) → begins_argument [] w ≡ true → begins_term w ≡ true
begins_some w e = grind (arith, or_left, and_left (begins_atom w) (not (reads [] w)) e)
