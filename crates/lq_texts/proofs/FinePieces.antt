-- Each word of a printed term is one token.
use Rattle.std.proofs.Common.{◌≡◌, ℕ, ◌<◌, Bool, true, false, List, [], ◌∷◌, ◌++◌, sym, ap, ◌∙◌, subst, arith, append_assoc, append-nil}
use Rattle.std.specs.Prelude.{codes}
use Rattle.lq_grammar.specs.declared.token.Class.TheVariants as class
use Rattle.lq_grammar.specs.declared.token.Symbol.TheVariants.{ColonEqual, FatArrow, Arrow as ArrowSign, CloseRound, Colon, Comma}
use Rattle.lq_grammar.specs.Tokens.{class_of}
use Rattle.lq_grammar.proofs.Computing.{cutting}
use Rattle.lq_trees.specs.Tree.{Name}
use Rattle.lq_ast.specs.Syntax.{Surface, Forall, Fun, LetIn, Arrow, Applied, Ident, PropSort, TypeSort, Written}
use Rattle.lq_sentences.specs.Words.{Word, name, number, symbol}
use Rattle.lq_texts.proofs.Said.{bound_word}
use Rattle.lq_texts.proofs.Fronts.{decoded_more, decoded_ascii}
use Rattle.lq_texts.proofs.NameLexing.{IsLexed}
use Rattle.lq_texts.proofs.Runs.{Ends, end_blank, end_close, end_comma}
use Rattle.lq_texts.proofs.Pieces.{Piece, blank, said, bytes, IsSayable, Opens, Fits, Fine, bytes_append, fine_append}
use Rattle.lq_texts.proofs.PrintedPieces.{Want, any, app, alone, round_open, round_app, in_round, pieces, IsBinder, IsSpoken}
use Rattle.lq_texts.proofs.GrammarWords.{word_forall, word_fun, word_let, word_in, word_prop, word_type}

-- ---- what a printed term begins with

star_class : (d : ℕ) → class_of false 42 d ≡ class.Name → ⊥
unfolding cutting
star_class d f = absurd cc

-- a name begins with no `*`
no_star : (c d : ℕ) → class_of false c d ≡ class.Name → c ≡ 42 → ⊥
no_star c d h e = star_class d (ap (λ b. class_of false b d) (sym e) ∙ h)

opens_byte : (b : ℕ) (bs : List ℕ) → b < 128 → (b ≡ 42 → ⊥) → Opens (b ∷ bs)
opens_byte b bs h k = (b, (decoded_ascii b bs h).0, k)

-- a word of letters before other pieces
opens_head : (b : ℕ) (bs : List ℕ) (ps : List Piece) → b < 128 → (b ≡ 42 → ⊥) → (tail : List ℕ) → Opens (bytes (said (name (b ∷ bs)) ∷ ps) ++ tail)
opens_head b bs ps h k tail = opens_byte b ((bs ++ bytes ps) ++ tail) h k

-- what stands behind `forall`, `fun` and `let`
abbrev bound_pieces : Name → Surface → List Piece → List Piece
bound_pieces x A qs = blank ∷ said (bound_word x) ∷ blank ∷ said (symbol Colon) ∷ blank ∷ (pieces any A ++ qs)

abbrev forall_tail : Surface → List Piece
forall_tail t = said (symbol Comma) ∷ blank ∷ pieces any t

abbrev fun_tail : Surface → List Piece
fun_tail t = blank ∷ said (symbol FatArrow) ∷ blank ∷ pieces any t

abbrev let_tail : Surface → Surface → List Piece
let_tail v t = blank ∷ said (symbol ColonEqual) ∷ blank ∷ (pieces any v ++ blank ∷ said (name (codes "in")) ∷ blank ∷ pieces any t)

opens_forall : (x : Name) (A t : Surface) (tail : List ℕ) → Opens (bytes (said (name (codes "forall")) ∷ bound_pieces x A (forall_tail t)) ++ tail)
opens_forall x A t = opens_head 102 (codes "orall") (bound_pieces x A (forall_tail t)) (omega arith) (λ e. absurd (omega arith))

opens_fun : (x : Name) (A t : Surface) (tail : List ℕ) → Opens (bytes (said (name (codes "fun")) ∷ bound_pieces x A (fun_tail t)) ++ tail)
opens_fun x A t = opens_head 102 (codes "un") (bound_pieces x A (fun_tail t)) (omega arith) (λ e. absurd (omega arith))

opens_let : (x : Name) (A v t : Surface) (tail : List ℕ) → Opens (bytes (said (name (codes "let")) ∷ bound_pieces x A (let_tail v t)) ++ tail)
opens_let x A v t = opens_head 108 (codes "et") (bound_pieces x A (let_tail v t)) (omega arith) (λ e. absurd (omega arith))

opens_name : (x : Name) (more : List ℕ) → IsLexed x → Opens (x ++ more)
opens_name x more l = (l.initial, ap (λ r. r.char) (decoded_more x more l.initial l.begins) ∙ l.begins, no_star l.initial _ l.named)

opens_front : (ps qs : List Piece) (more : List ℕ) → ((tail : List ℕ) → Opens (bytes ps ++ tail)) → Opens (bytes (ps ++ qs) ++ more)
opens_front ps qs more h = subst Opens (sym (ap (λ bs. bs ++ more) (bytes_append ps qs) ∙ append_assoc (bytes ps) (bytes qs) more)) (h (bytes qs ++ more))

opens_round : (b : Bool) (ps : List Piece) (more : List ℕ) → ((tail : List ℕ) → Opens (bytes ps ++ tail)) → Opens (bytes (in_round b ps) ++ more)
unfolding in_round
opens_round false ps more h = h more
opens_round true ps more h = opens_byte 40 _ (omega arith) (λ e. absurd (omega arith))

pub opens_pieces : (s : Surface) → IsSpoken s → (k : Want) (more : List ℕ) → Opens (bytes (pieces k s) ++ more)
unfolding pieces
opens_pieces (Forall x (Written A) t) h k more = opens_round (round_open k) _ more (opens_forall x A t)
opens_pieces (Fun x (Written A) t) h k more = opens_round (round_open k) _ more (opens_fun x A t)
opens_pieces (LetIn x (Written A) v t) h k more = opens_round (round_open k) _ more (opens_let x A v t)
opens_pieces (Arrow a b) h k more = opens_round (round_open k) _ more (λ tail. opens_front (pieces app a) _ tail (opens_pieces a h.0 app))
opens_pieces (Applied f a) h k more = opens_round (round_app k) _ more (λ tail. opens_front (pieces app f) _ tail (opens_pieces f h.0 app))
opens_pieces (Ident x) h k more = subst (λ bs. Opens (bs ++ more)) (sym (append-nil x)) (opens_name x more h.lexed)
opens_pieces PropSort h k more = opens_head 80 (codes "rop") [] (omega arith) (λ e. absurd (omega arith)) more
opens_pieces (TypeSort i) h k more = opens_head 84 (codes "ype") (blank ∷ said (number i) ∷ []) (omega arith) (λ e. absurd (omega arith)) more
opens_pieces _ h k more = absurd h

-- ---- all words

-- the pieces are fine before a blank, a bracket or a comma
abbrev IsFine : List Piece → Type 0
IsFine ps = (tail : List ℕ) → Ends tail → Fine ps tail

fine_round : (b : Bool) (ps : List Piece) → ((tail : List ℕ) → Opens (bytes ps ++ tail)) → IsFine ps → IsFine (in_round b ps)
unfolding in_round
fine_round false ps o f tail e = f tail e
fine_round true ps o f tail e =
    let q = ap (λ bs. bs ++ tail) (bytes_append ps (said (symbol CloseRound) ∷ [])) ∙ append_assoc (bytes ps) (41 ∷ []) tail in
    (tt, subst Opens (sym q) (o (41 ∷ tail)), fine_append ps (said (symbol CloseRound) ∷ []) tail (f (41 ∷ tail) end_close) (tt, e, tt))

fine_binder : (x : Name) (more : List ℕ) → IsBinder x → IsSayable (bound_word x) × Fits (bound_word x) (32 ∷ more)
fine_binder [] more h = (tt, end_blank)
fine_binder (b ∷ bs) more h = (h.lexed, end_blank)

-- behind a sign with blanks round it, and behind a comma
behind_sign : (w : Word) (ps : List Piece) → IsSayable w → ((more : List ℕ) → Fits w (32 ∷ more)) → IsFine ps → IsFine (blank ∷ said w ∷ blank ∷ ps)
behind_sign w ps h f g tail e = (h, f (bytes ps ++ tail), g tail e)

behind_comma : (ps : List Piece) → IsFine ps → IsFine (said (symbol Comma) ∷ blank ∷ ps)
behind_comma ps g tail e = (tt, end_blank, g tail e)

-- a head, a binder and its type before other pieces
fine_bound : (w : Word) (x : Name) (ps qs : List Piece) → IsSayable w → ((more : List ℕ) → Fits w (32 ∷ more)) → IsBinder x → IsFine ps →
    ((tail : List ℕ) → Ends (bytes qs ++ tail)) → IsFine qs →
    IsFine (said w ∷ blank ∷ said (bound_word x) ∷ blank ∷ said (symbol Colon) ∷ blank ∷ (ps ++ qs))
fine_bound w x ps qs h f b p d q tail e =
    let v = fine_binder x (58 ∷ 32 ∷ (bytes (ps ++ qs) ++ tail)) b in
    (h, f _, (v.0, v.1, (tt, end_blank, fine_append ps qs tail (p (bytes qs ++ tail) (d tail)) (q tail e))))

pub fine_pieces : (s : Surface) → IsSpoken s → (k : Want) → IsFine (pieces k s)
unfolding pieces
fine_pieces (Forall x (Written A) t) h k =
    fine_round (round_open k) _ (opens_forall x A t)
    (fine_bound (name (codes "forall")) x (pieces any A) (said (symbol Comma) ∷ blank ∷ pieces any t) word_forall (λ more. end_blank) h.0
    (fine_pieces A h.1 any) (λ tail. end_comma) (behind_comma (pieces any t) (fine_pieces t h.2 any)))
fine_pieces (Fun x (Written A) t) h k =
    fine_round (round_open k) _ (opens_fun x A t)
    (fine_bound (name (codes "fun")) x (pieces any A) (blank ∷ said (symbol FatArrow) ∷ blank ∷ pieces any t) word_fun (λ more. end_blank) h.0
    (fine_pieces A h.1 any) (λ tail. end_blank)
    (behind_sign (symbol FatArrow) (pieces any t) tt (λ more. end_blank) (fine_pieces t h.2 any)))
fine_pieces (LetIn x (Written A) v t) h k =
    fine_round (round_open k) _ (opens_let x A v t)
    (fine_bound (name (codes "let")) x (pieces any A)
    (blank ∷ said (symbol ColonEqual) ∷ blank ∷ (pieces any v ++ blank ∷ said (name (codes "in")) ∷ blank ∷ pieces any t)) word_let (λ more. end_blank)
    h.0 (fine_pieces A h.1 any) (λ tail. end_blank)
    (behind_sign (symbol ColonEqual) (pieces any v ++ blank ∷ said (name (codes "in")) ∷ blank ∷ pieces any t) tt (λ more. end_blank)
    (λ tail e. fine_append (pieces any v) (blank ∷ said (name (codes "in")) ∷ blank ∷ pieces any t) tail (fine_pieces v h.2 any _ end_blank)
    (behind_sign (name (codes "in")) (pieces any t) word_in (λ more. end_blank) (fine_pieces t h.3 any) tail e))))
fine_pieces (Arrow a b) h k =
    fine_round (round_open k) _ (λ tail. opens_front (pieces app a) _ tail (opens_pieces a h.0 app))
    (λ tail e. fine_append (pieces app a) (blank ∷ said (symbol ArrowSign) ∷ blank ∷ pieces any b) tail (fine_pieces a h.0 app _ end_blank)
    (behind_sign (symbol ArrowSign) (pieces any b) tt (λ more. end_blank) (fine_pieces b h.1 any) tail e))
fine_pieces (Applied f a) h k =
    fine_round (round_app k) _ (λ tail. opens_front (pieces app f) _ tail (opens_pieces f h.0 app))
    (λ tail e. fine_append (pieces app f) (blank ∷ pieces alone a) tail (fine_pieces f h.0 app _ end_blank) (fine_pieces a h.1 alone tail e))
fine_pieces (Ident x) h k = λ tail e. (h.lexed, e, tt)
fine_pieces PropSort h k = λ tail e. (word_prop, e, tt)
fine_pieces (TypeSort i) h k = λ tail e. (word_type, end_blank, (h, e, tt))
fine_pieces _ h k = absurd h
