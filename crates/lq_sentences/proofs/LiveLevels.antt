-- Terms of one number of levels and of at least two more: what is begun with the first is completed with the second.
use Rattle.std.proofs.Common.{◌≡◌, ℕ, zero, suc, ◌+◌, ◌-◌, ◌≤◌, ◌<◌, Bool, true, false, [], ◌∷◌, Ok, Err, refl, ap, ◌∙◌, arith}
use Rattle.std.specs.Prelude.{codes, ◌||◌}
use Rattle.lq_grammar.specs.declared.token.Symbol.TheVariants.{Arrow as ArrowSign}
use Rattle.lq_ast.specs.Syntax.{Surface, Ident, PropSort, applied}
use Rattle.lq_sentences.specs.Words.{Word, Words, is_sign, reads}
use Rattle.lq_sentences.specs.Rules.{Rule, sees, unexpected, ended, and_then, read}
use Rattle.lq_sentences.specs.Terms.{Spot, begins_atom, begins_term, begins_argument, atom_at, atom, arrow_behind, arrow_term, term_in, no_term, levels, term, atom_level, term_behind}
use Rattle.lq_sentences.proofs.RuleLaws.{chosen_false}
use Rattle.lq_sentences.proofs.LoopLaws.{many_done}
use Rattle.lq_sentences.proofs.WordLaws.{word_ended, word_wrong, word_right, sees_next}
use Rattle.lq_sentences.proofs.Completing.{Begins, Fresh, Live, Room, Refuses, none_live}
use Rattle.lq_sentences.proofs.LiveParts.{testing, x_word}
use Rattle.lq_sentences.proofs.LiveTerms.{TermEnds, Terms, atom_live, arrow_term_live, term_in_live}

-- ---- a term of one name

-- nothing behind an atom, where the next word ends the term
ends_there : (k : ℕ) (t : Spot → Rule Surface) (c : Spot) (f : Surface) (w : Word) (ws : Words) → TermEnds c w → Begins w ws → read (arrow_term k t c f) ws ≡ Ok (f, ws)
unfolding applied
ends_there k t c f w ws h i =
    let stops = sees_next (begins_argument c.ends) ws (w, i.0) i.1 i.2 ∙ h.0 in
    let no_arrow = sees_next (is_sign ArrowSign) ws (w, i.0) i.1 i.2 ∙ h.1 in
    ap (λ r. and_then (and_then r (λ xs us. Ok (applied f xs, us))) (λ a us. read (arrow_behind k t c a) us)) (many_done (k + 1) (begins_argument c.ends) (atom_at k t c) [] ws stops)
    ∙ chosen_false (sees (is_sign ArrowSign) ws) _ _ no_arrow

pub arrow_fresh : (k : ℕ) (t : Spot → Rule Surface) (c : Spot) (f : Surface) (w : Word) → TermEnds c w → Fresh w (arrow_term k t c f) w
arrow_fresh k t c f w h = ([], f, λ other i. i, λ other i. ends_there k t c f w other h i)

-- `x` is an atom, and a term
x_atom : (k : ℕ) (t : Spot → Rule Surface) (c : Spot) (ws : Words) → read (atom k t c) ((x_word, 0) ∷ ws) ≡ Ok (Ident (codes "x"), ws)
unfolding testing
x_atom k t c ws = ap (λ r. and_then r (λ x us. read (atom_at k t c x) us)) (word_right (k + 1) begins_atom ((x_word, 0) ∷ ws) (x_word, 0) ws (omega arith) refl refl)

x_term : (k j : ℕ) (t d : Spot → Rule Surface) (c : Spot) (w : Word) (ws : Words) → TermEnds c w → Begins w ws → read (term_in k j t d c) ((x_word, 0) ∷ ws) ≡ Ok (Ident (codes "x"), ws)
unfolding testing sees
x_term k j t d c w ws h i =
    ap (λ r. and_then r (λ f us. read (arrow_term k t c f) us)) (x_atom k t c ws) ∙ ends_there k t c (Ident (codes "x")) w ws h i

x_fresh : (k j : ℕ) (t d : Spot → Rule Surface) (c : Spot) (w : Word) → TermEnds c w → Fresh x_word (term_in k j t d c) w
x_fresh k j t d c w h = ((x_word, 0) ∷ [], Ident (codes "x"), λ other i. (0, other, refl), λ other i. x_term k j t d c w other h i)

-- ---- what a term refuses

or_none : (a b : Bool) → (a || b) ≡ false → (a ≡ false) × (b ≡ false)
or_none true b e = absurd cc
or_none false b e = (refl, e)

atom_refuses : (k : ℕ) (t : Spot → Rule Surface) (c : Spot) → Refuses begins_atom (atom k t c)
atom_refuses k t c = record {
  at_end = ap (λ r. and_then r (λ x us. read (atom_at k t c x) us)) (word_ended (k + 1) begins_atom [] refl);
  at_word = λ w ws e. ap (λ r. and_then r (λ x us. read (atom_at k t c x) us)) (word_wrong (k + 1) begins_atom (w ∷ ws) w ws refl e);
}

term_ended : (k j : ℕ) (t d : Spot → Rule Surface) (c : Spot) → read (term_in k j t d c) [] ≡ Err ended
unfolding sees
term_ended k j t d c = ap (λ r. and_then r (λ f us. read (arrow_term k t c f) us)) (atom_refuses k t c).at_end

term_refused : (k j : ℕ) (t d : Spot → Rule Surface) (c : Spot) (w : Word × ℕ) (ws : Words) → begins_term w.0 ≡ false → read (term_in k j t d c) (w ∷ ws) ≡ Err (unexpected w.1)
unfolding sees
term_refused k j t d c w ws e =
    let no_let = or_none _ _ e in
    let no_fun = or_none _ _ no_let.0 in
    let no_forall = or_none _ _ no_fun.0 in
    chosen_false (reads (codes "forall") w.0) _ _ no_forall.1
    ∙ chosen_false (reads (codes "fun") w.0) _ _ no_fun.1
    ∙ chosen_false (reads (codes "let") w.0) _ _ no_let.1
    ∙ ap (λ r. and_then r (λ f us. read (arrow_term k t c f) us)) ((atom_refuses k t c).at_word w ws no_forall.0)

term_refuses : (k j : ℕ) (t d : Spot → Rule Surface) (c : Spot) → Refuses begins_term (term_in k j t d c)
term_refuses k j t d c = record { at_end = term_ended k j t d c; at_word = term_refused k j t d c }

no_term_live : (k j : ℕ) (t d : Spot → Rule Surface) → Terms no_term (term_in k j t d)
no_term_live k j t d c w e = none_live begins_term (λ v. PropSort) (x_fresh k j t d c w e) (term_refuses k j t d c)

-- ---- levels

levels_live : (n m : ℕ) → n + 2 ≤ m → Terms (levels n).0 (levels m).0 × Terms (levels n).1 (levels m).1
unfolding levels
levels_live zero zero h = absurd (omega arith)
levels_live zero (suc zero) h = absurd (omega arith)
levels_live zero (suc (suc k)) h = (no_term_live (suc k) (suc k - 1) (levels (suc k)).0 (levels (suc k)).1, no_term_live k (k - 1) (levels k).0 (levels k).1)
levels_live (suc n) zero h = absurd (omega arith)
levels_live (suc n) (suc m) h =
    let l = levels_live n m (omega arith) in (
      λ c w e. term_in_live n m (n - 1) (m - 1) (omega arith, omega arith) (omega arith, omega arith) (levels n).0 (levels m).0 (levels n).1 (levels m).1 l.0 l.1 c w e,
      l.0,
    )

-- terms with at least two levels more
pub term_live : (n m : ℕ) → n + 2 ≤ m → Terms (term n) (term m)
term_live n m h = (levels_live n m h).0

pub atom_level_live : (n m : ℕ) → n + 2 ≤ m → (c : Spot) (w : Word) → Live x_word (atom_level n c) (atom_level m c) w
unfolding atom_level
atom_level_live zero zero h c w = absurd (omega arith)
atom_level_live zero (suc k) h c w =
    none_live begins_atom _ ((x_word, 0) ∷ [], Ident (codes "x"), λ other i. (0, other, refl), λ other i. x_atom k (term k) c other) (atom_refuses k (term k) c)
atom_level_live (suc n) zero h c w = absurd (omega arith)
atom_level_live (suc n) (suc m) h c w =
    let l = term_live n m (omega arith) in
    let r : Room n m = (omega arith, omega arith) in
    atom_live n m n m r r (term n) (term m) (term n) (term m) l l c w

-- what a term goes on with, where levels are left
pub term_behind_live : (n m : ℕ) → 0 < n → n + 2 ≤ m → (c : Spot) (f : Surface) (w : Word) → TermEnds c w → Live w (term_behind n c f) (term_behind m c f) w
unfolding term_behind
term_behind_live zero m z h c f w e = absurd (omega arith)
term_behind_live (suc n) zero z h c f w e = absurd (omega arith)
term_behind_live (suc n) (suc m) z h c f w e =
    let l = term_live n m (omega arith) in
    let r : Room n m = (omega arith, omega arith) in
    arrow_term_live n m n m r r (term n) (term m) (term n) (term m) l l c f w e
