-- Printed pieces are a printed term in words.
use Rattle.std.proofs.Common.{◌≡◌, ℕ, ◌+◌, true, List, [], ◌∷◌, ◌++◌, length, refl, sym, ap, ◌∙◌, subst, append_assoc}
use Rattle.std.specs.Prelude.{codes}
use Rattle.lq_grammar.specs.declared.token.Symbol.TheVariants.{ColonEqual, FatArrow, Arrow as ArrowSign, OpenRound, CloseRound, Colon, Comma}
use Rattle.lq_trees.specs.Tree.{Name}
use Rattle.lq_ast.specs.Syntax.{Surface, Forall, Fun, LetIn, Arrow, Applied, Ident, PropSort, TypeSort, Written}
use Rattle.lq_sentences.specs.Words.{Words, name, number, symbol}
use Rattle.lq_texts.proofs.Said.{bound_word, IsFreeBinder, Said, said_forall, said_fun, said_let, said_arrow, said_spine, Spine, spine_applied, spine_atom, Atom, atom_name, atom_prop, atom_type, atom_brackets}
use Rattle.lq_texts.proofs.Pieces.{Piece, blank, said, spelling, bytes, placed, placed_append}
use Rattle.lq_texts.proofs.PrintedPieces.{Want, any, app, alone, round_open, round_app, in_round, pieces, IsBinder, IsSpoken}

-- ---- the words are a printed term

pub split : (at : ℕ) (ps qs : List Piece) (rest : Words) → placed at (ps ++ qs) ++ rest ≡ placed at ps ++ (placed (at + length (bytes ps)) qs ++ rest)
split at ps qs rest = ap (λ ws. ws ++ rest) (placed_append at ps qs) ∙ append_assoc (placed at ps) (placed (at + length (bytes ps)) qs) rest

-- the pieces of a term, wherever they stand
pub record Says (s : Surface) : Type 0 where
  pub term : (at : ℕ) (rest : Words) → Said s (placed at (pieces any s) ++ rest) rest
  pub spine : (at : ℕ) (rest : Words) → Spine s (placed at (pieces app s) ++ rest) rest
  pub atom : (at : ℕ) (rest : Words) → Atom s (placed at (pieces alone s) ++ rest) rest

pub round_atom : (s : Surface) (ps : List Piece) → ((at : ℕ) (rest : Words) → Said s (placed at ps ++ rest) rest) → (at : ℕ) (rest : Words) →
    Atom s (placed at (in_round true ps) ++ rest) rest
unfolding in_round
round_atom s ps d at rest =
    subst (λ us. Atom s ((symbol OpenRound, at) ∷ us) rest) (sym (split (at + 1) ps (said (symbol CloseRound) ∷ []) rest))
    (atom_brackets (d (at + 1) ((symbol CloseRound, at + 1 + length (bytes ps)) ∷ rest)))

pub free_binder : (x : Name) → IsBinder x → IsFreeBinder x
free_binder [] h = tt
free_binder (b ∷ bs) h = h.free

-- a term with a binder or an arrow
pub says_open : (s : Surface) (ps : List Piece) → pieces any s ≡ ps → pieces app s ≡ in_round true ps → pieces alone s ≡ in_round true ps →
    ((at : ℕ) (rest : Words) → Said s (placed at ps ++ rest) rest) → Says s
says_open s ps e f g d = record {
  term = λ at rest. subst (λ qs. Said s (placed at qs ++ rest) rest) (sym e) (d at rest);
  spine = λ at rest. subst (λ qs. Spine s (placed at qs ++ rest) rest) (sym f) (spine_atom (round_atom s ps d at rest));
  atom = λ at rest. subst (λ qs. Atom s (placed at qs ++ rest) rest) (sym g) (round_atom s ps d at rest);
}

pub says_alone : (s : Surface) (ps : List Piece) → ((k : Want) → pieces k s ≡ ps) → ((at : ℕ) (rest : Words) → Atom s (placed at ps ++ rest) rest) → Says s
says_alone s ps e d = record {
  term = λ at rest. subst (λ qs. Said s (placed at qs ++ rest) rest) (sym (e any)) (said_spine (spine_atom (d at rest)));
  spine = λ at rest. subst (λ qs. Spine s (placed at qs ++ rest) rest) (sym (e app)) (spine_atom (d at rest));
  atom = λ at rest. subst (λ qs. Atom s (placed at qs ++ rest) rest) (sym (e alone)) (d at rest);
}

abbrev pub two : Surface → List Piece → Surface → List Piece
two A sep t = pieces any A ++ (sep ++ pieces any t)

pub forall_said : (x : Name) (A t : Surface) → IsBinder x → Says A → Says t → (at : ℕ) (rest : Words) →
    Said (Forall x (Written A) t) (placed at
    (said (name (codes "forall")) ∷ blank ∷ said (bound_word x) ∷ blank ∷ said (symbol Colon) ∷ blank ∷ two A (said (symbol Comma) ∷ blank ∷ []) t)
    ++ rest) rest
forall_said x A t h a b at rest =
    let p : ℕ = at + 6 + 1 + length (spelling (bound_word x)) + 1 + 1 + 1 in
    subst (λ us. Said (Forall x (Written A) t)
    ((name (codes "forall"), at) ∷ (bound_word x, at + 6 + 1) ∷ (symbol Colon, at + 6 + 1 + length (spelling (bound_word x)) + 1) ∷ us) rest)
    (sym (split p (pieces any A) (said (symbol Comma) ∷ blank ∷ pieces any t) rest))
    (said_forall (free_binder x h) (a.term p _) (b.term _ rest))

pub fun_said : (x : Name) (A t : Surface) → IsBinder x → Says A → Says t → (at : ℕ) (rest : Words) →
    Said (Fun x (Written A) t) (placed at (said (name (codes "fun")) ∷ blank ∷ said (bound_word x) ∷ blank ∷ said (symbol Colon) ∷ blank ∷ two A
    (blank ∷ said (symbol FatArrow) ∷ blank ∷ []) t) ++ rest) rest
fun_said x A t h a b at rest =
    let p : ℕ = at + 3 + 1 + length (spelling (bound_word x)) + 1 + 1 + 1 in
    subst (λ us. Said (Fun x (Written A) t)
    ((name (codes "fun"), at) ∷ (bound_word x, at + 3 + 1) ∷ (symbol Colon, at + 3 + 1 + length (spelling (bound_word x)) + 1) ∷ us) rest)
    (sym (split p (pieces any A) (blank ∷ said (symbol FatArrow) ∷ blank ∷ pieces any t) rest))
    (said_fun (free_binder x h) (a.term p _) (b.term _ rest))

pub let_said : (x : Name) (A v t : Surface) → IsBinder x → Says A → Says v → Says t → (at : ℕ) (rest : Words) →
    Said (LetIn x (Written A) v t)
    (placed at (said (name (codes "let")) ∷ blank ∷ said (bound_word x) ∷ blank ∷ said (symbol Colon) ∷ blank ∷
    (pieces any A ++ blank ∷ said (symbol ColonEqual) ∷ blank ∷ two v (blank ∷ said (name (codes "in")) ∷ blank ∷ []) t)) ++ rest) rest
let_said x A v t h a b c at rest =
    let p : ℕ = at + 3 + 1 + length (spelling (bound_word x)) + 1 + 1 + 1 in
    let q : ℕ = p + length (bytes (pieces any A)) + 1 + 2 + 1 in
    subst (λ us. Said (LetIn x (Written A) v t)
    ((name (codes "let"), at) ∷ (bound_word x, at + 3 + 1) ∷ (symbol Colon, at + 3 + 1 + length (spelling (bound_word x)) + 1) ∷ us) rest)
    (sym (split p (pieces any A) (blank ∷ said (symbol ColonEqual) ∷ blank ∷ two v (blank ∷ said (name (codes "in")) ∷ blank ∷ []) t) rest
    ∙ ap (λ us. placed p (pieces any A) ++ ((symbol ColonEqual, p + length (bytes (pieces any A)) + 1) ∷ us))
    (split q (pieces any v) (blank ∷ said (name (codes "in")) ∷ blank ∷ pieces any t) rest)))
    (said_let (free_binder x h) (a.term p _) (b.term q _) (c.term _ rest))

pub arrow_said : (a b : Surface) → Says a → Says b → (at : ℕ) (rest : Words) →
    Said (Arrow a b) (placed at (pieces app a ++ blank ∷ said (symbol ArrowSign) ∷ blank ∷ pieces any b) ++ rest) rest
arrow_said a b d e at rest =
    subst (λ us. Said (Arrow a b) us rest) (sym (split at (pieces app a) (blank ∷ said (symbol ArrowSign) ∷ blank ∷ pieces any b) rest))
    (said_arrow (d.spine at _) (e.term _ rest))

pub applied_said : (f a : Surface) → Says f → Says a → (at : ℕ) (rest : Words) →
    Spine (Applied f a) (placed at (pieces app f ++ blank ∷ pieces alone a) ++ rest) rest
applied_said f a d e at rest =
    subst (λ us. Spine (Applied f a) us rest) (sym (split at (pieces app f) (blank ∷ pieces alone a) rest)) (spine_applied (d.spine at _) (e.atom _ rest))

pub says_applied : (s : Surface) (ps : List Piece) → pieces any s ≡ ps → pieces app s ≡ ps → pieces alone s ≡ in_round true ps →
    ((at : ℕ) (rest : Words) → Spine s (placed at ps ++ rest) rest) → Says s
says_applied s ps e f g d = record {
  term = λ at rest. subst (λ qs. Said s (placed at qs ++ rest) rest) (sym e) (said_spine (d at rest));
  spine = λ at rest. subst (λ qs. Spine s (placed at qs ++ rest) rest) (sym f) (d at rest);
  atom = λ at rest. subst (λ qs. Atom s (placed at qs ++ rest) rest) (sym g) (round_atom s ps (λ at rest. said_spine (d at rest)) at rest);
}

-- printed pieces are a printed term in words
pub says : (s : Surface) → IsSpoken s → Says s
unfolding pieces in_round round_open round_app
says (Forall x (Written A) t) h = says_open (Forall x (Written A) t) _ refl refl refl (forall_said x A t h.0 (says A h.1) (says t h.2))
says (Fun x (Written A) t) h = says_open (Fun x (Written A) t) _ refl refl refl (fun_said x A t h.0 (says A h.1) (says t h.2))
says (LetIn x (Written A) v t) h = says_open (LetIn x (Written A) v t) _ refl refl refl (let_said x A v t h.0 (says A h.1) (says v h.2) (says t h.3))
says (Arrow a b) h = says_open (Arrow a b) _ refl refl refl (arrow_said a b (says a h.0) (says b h.1))
says (Applied f a) h = says_applied (Applied f a) _ refl refl refl (applied_said f a (says f h.0) (says a h.1))
says (Ident x) h = says_alone (Ident x) (said (name x) ∷ []) (λ k. refl) (λ at rest. atom_name h.free)
says PropSort h = says_alone PropSort (said (name (codes "Prop")) ∷ []) (λ k. refl) (λ at rest. atom_prop)
says (TypeSort i) h = says_alone (TypeSort i) (said (name (codes "Type")) ∷ blank ∷ said (number i) ∷ []) (λ k. refl) (λ at rest. atom_type h)
says _ h = absurd h
