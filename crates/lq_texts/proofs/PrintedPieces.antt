-- The pieces of a printed term.
use Rattle.std.proofs.Common.{◌≡◌, ℕ, ◌≤◌, Bool, true, false, List, [], ◌∷◌, ◌++◌, refl, sym, ap, ◌∙◌, append_assoc, append-nil}
use Rattle.std.specs.Prelude.{nat_lt, codes, decimal}
use Rattle.lq_grammar.specs.declared.token.Symbol.TheVariants.{ColonEqual, FatArrow, Arrow as ArrowSign, OpenRound, CloseRound, Colon, Comma}
use Rattle.lq_trees.specs.Tree.{Name}
use Rattle.lq_ast.specs.Syntax.{Surface, Forall, Fun, LetIn, Arrow, Applied, Ident, PropSort, TypeSort, Written}
use Rattle.lq_sentences.specs.Words.{name, number, symbol}
use Rattle.lq_texts.specs.Printing.{name_text, in_brackets, text, kind_text}
use Rattle.lq_texts.proofs.Said.{bound_word, IsFree}
use Rattle.lq_texts.proofs.NameLexing.{IsLexed}
use Rattle.lq_texts.proofs.Pieces.{Piece, blank, said, spelling, bytes, bytes_append}

-- what stands where any term, an application, an atom is wanted
pub data Want : Type 0 where
  any : Want
  app : Want
  alone : Want

abbrev pub level : Want → ℕ
level any = 0
level app = 1
level alone = 2

-- whether a term with a binder or an arrow, an application is put in brackets there
unfoldable pub round_open : Want → Bool
round_open any = false
round_open _ = true

unfoldable pub round_app : Want → Bool
round_app alone = true
round_app _ = false

unfoldable pub in_round : Bool → List Piece → List Piece
in_round false ps = ps
in_round true ps = said (symbol OpenRound) ∷ (ps ++ said (symbol CloseRound) ∷ [])

unfoldable pub pieces : Want → Surface → List Piece
pieces k (Forall x (Written A) t) = in_round (round_open k) (said (name (codes "forall")) ∷ blank ∷ said (bound_word x) ∷ blank ∷ said (symbol Colon)
    ∷ blank ∷ (pieces any A ++ said (symbol Comma) ∷ blank ∷ pieces any t))
pieces k (Fun x (Written A) t) = in_round (round_open k) (said (name (codes "fun")) ∷ blank ∷ said (bound_word x) ∷ blank ∷ said (symbol Colon) ∷ blank ∷
    (pieces any A ++ blank ∷ said (symbol FatArrow) ∷ blank ∷ pieces any t))
pieces k (LetIn x (Written A) v t) =
    in_round (round_open k) (said (name (codes "let")) ∷ blank ∷ said (bound_word x) ∷ blank ∷ said (symbol Colon) ∷ blank ∷
    (pieces any A ++ blank ∷ said (symbol ColonEqual) ∷ blank ∷ (pieces any v ++ blank ∷ said (name (codes "in")) ∷ blank ∷ pieces any t)))
pieces k (Arrow a b) = in_round (round_open k) (pieces app a ++ blank ∷ said (symbol ArrowSign) ∷ blank ∷ pieces any b)
pieces k (Applied f a) = in_round (round_app k) (pieces app f ++ blank ∷ pieces alone a)
pieces k (Ident x) = said (name x) ∷ []
pieces k PropSort = said (name (codes "Prop")) ∷ []
pieces k (TypeSort i) = said (name (codes "Type")) ∷ blank ∷ said (number i) ∷ []
pieces k _ = []

-- a name that is one token and not reserved
pub record IsWord (x : Name) : Type 0 where
  pub lexed : IsLexed x
  pub free : IsFree x

abbrev pub IsBinder : Name → Type 0
IsBinder [] = Unit {0}
IsBinder (b ∷ bs) = IsWord (b ∷ bs)

-- a surface that is printed of a term without variables
abbrev pub IsSpoken : Surface → Type 0
IsSpoken (Forall x (Written A) t) = IsBinder x × IsSpoken A × IsSpoken t
IsSpoken (Fun x (Written A) t) = IsBinder x × IsSpoken A × IsSpoken t
IsSpoken (LetIn x (Written A) v t) = IsBinder x × IsSpoken A × IsSpoken v × IsSpoken t
IsSpoken (Arrow a b) = IsSpoken a × IsSpoken b
IsSpoken (Applied f a) = IsSpoken f × IsSpoken a
IsSpoken (Ident x) = IsWord x
IsSpoken PropSort = Unit {0}
IsSpoken (TypeSort i) = i ≤ 3
IsSpoken _ = ⊥

-- ---- the text is that of the pieces

binder_text : (x : Name) → name_text x ≡ spelling (bound_word x)
unfolding name_text
binder_text [] = refl
binder_text (b ∷ bs) = refl

round_is : (k : Want) → (nat_lt 0 (level k) ≡ round_open k) × (nat_lt 1 (level k) ≡ round_app k)
unfolding round_open round_app
round_is any = (refl, refl)
round_is app = (refl, refl)
round_is alone = (refl, refl)

round_bytes : (b : Bool) (xs : List ℕ) (ps : List Piece) → xs ≡ bytes ps → in_brackets b xs ≡ bytes (in_round b ps)
unfolding in_brackets in_round
round_bytes false xs ps e = e
round_bytes true xs ps e = ap (λ ys. 40 ∷ (ys ++ 41 ∷ [])) e ∙ ap (λ ys. 40 ∷ ys) (sym (bytes_append ps (said (symbol CloseRound) ∷ [])))

joined : (xs ys : List ℕ) (ps sep qs : List Piece) → xs ≡ bytes ps → ys ≡ bytes qs → xs ++ (bytes sep ++ ys) ≡ bytes (ps ++ (sep ++ qs))
joined xs ys ps sep qs e f =
    ap (λ a. a ++ (bytes sep ++ ys)) e ∙ ap (λ b. bytes ps ++ (bytes sep ++ b)) f
    ∙ sym (bytes_append ps (sep ++ qs) ∙ ap (λ b. bytes ps ++ b) (bytes_append sep qs))

-- a term with a binder or an arrow, an application
rounded : (k : Want) (s : Surface) (xs : List ℕ) (ps : List Piece) → text (level k) s ≡ in_brackets (nat_lt 0 (level k)) xs →
    pieces k s ≡ in_round (round_open k) ps → xs ≡ bytes ps → text (level k) s ≡ bytes (pieces k s)
rounded k s xs ps t p e = t ∙ ap (λ b. in_brackets b xs) (round_is k).0 ∙ round_bytes (round_open k) xs ps e ∙ ap bytes (sym p)

rounded_app : (k : Want) (s : Surface) (xs : List ℕ) (ps : List Piece) → text (level k) s ≡ in_brackets (nat_lt 1 (level k)) xs →
    pieces k s ≡ in_round (round_app k) ps → xs ≡ bytes ps → text (level k) s ≡ bytes (pieces k s)
rounded_app k s xs ps t p e = t ∙ ap (λ b. in_brackets b xs) (round_is k).1 ∙ round_bytes (round_app k) xs ps e ∙ ap bytes (sym p)

regroup : (h n c a s t : List ℕ) → (((h ++ n) ++ (c ++ a)) ++ s) ++ t ≡ h ++ (n ++ (c ++ (a ++ (s ++ t))))
regroup h n c a s t = simp append_assoc

-- `head x : A`, a sign and a term
bound_text : (head : List ℕ) (x : Name) (A t : Surface) (sep : List Piece) → text 0 A ≡ bytes (pieces any A) → text 0 t ≡ bytes (pieces any t) →
    (((head ++ name_text x) ++ (codes " : " ++ text 0 A)) ++ bytes sep) ++ text 0 t
    ≡ head ++ (spelling (bound_word x) ++ (codes " : " ++ bytes (pieces any A ++ (sep ++ pieces any t))))
bound_text head x A t sep e f =
    regroup head (name_text x) (codes " : ") (text 0 A) (bytes sep) (text 0 t)
    ∙ ap (λ n. head ++ (n ++ (codes " : " ++ (text 0 A ++ (bytes sep ++ text 0 t))))) (binder_text x)
    ∙ ap (λ ys. head ++ (spelling (bound_word x) ++ (codes " : " ++ ys))) (joined (text 0 A) (text 0 t) (pieces any A) sep (pieces any t) e f)

gather : (h n c a s v i t : List ℕ) → ((h ++ (n ++ (c ++ (a ++ (s ++ v))))) ++ i) ++ t ≡ h ++ (n ++ (c ++ (a ++ (s ++ (v ++ (i ++ t))))))
gather h n c a s v i t = simp append_assoc

let_text : (x : Name) (A v t : Surface) → text 0 A ≡ bytes (pieces any A) → text 0 v ≡ bytes (pieces any v) → text 0 t ≡ bytes (pieces any t) →
    (((((codes "let " ++ name_text x) ++ (codes " : " ++ text 0 A)) ++ codes " := ") ++ text 0 v) ++ codes " in ") ++ text 0 t
    ≡ codes "let " ++ (spelling (bound_word x) ++ (codes " : " ++ bytes
    (pieces any A ++ blank ∷ said (symbol ColonEqual) ∷ blank ∷ (pieces any v ++ blank ∷ said (name (codes "in")) ∷ blank ∷ pieces any t))))
let_text x A v t e f g =
    let inner = joined (text 0 v) (text 0 t) (pieces any v) (blank ∷ said (name (codes "in")) ∷ blank ∷ []) (pieces any t) f g in
    let outer = joined (text 0 A) (text 0 v ++ (codes " in " ++ text 0 t)) (pieces any A) (blank ∷ said (symbol ColonEqual) ∷ blank ∷ [])
    (pieces any v ++ blank ∷ said (name (codes "in")) ∷ blank ∷ pieces any t) e inner in
    ap (λ ys. (ys ++ codes " in ") ++ text 0 t) (regroup (codes "let ") (name_text x) (codes " : ") (text 0 A) (codes " := ") (text 0 v))
    ∙ gather (codes "let ") (name_text x) (codes " : ") (text 0 A) (codes " := ") (text 0 v) (codes " in ") (text 0 t)
    ∙ ap (λ n. codes "let " ++ (n ++ (codes " : " ++ (text 0 A ++ (codes " := " ++ (text 0 v ++ (codes " in " ++ text 0 t))))))) (binder_text x)
    ∙ ap (λ ys. codes "let " ++ (spelling (bound_word x) ++ (codes " : " ++ ys))) outer

pub text_pieces : (s : Surface) → IsSpoken s → (k : Want) → text (level k) s ≡ bytes (pieces k s)
unfolding text kind_text pieces
text_pieces (Forall x (Written A) t) h k = rounded k (Forall x (Written A) t) _ _ refl refl
    (bound_text (codes "forall ") x A t (said (symbol Comma) ∷ blank ∷ []) (text_pieces A h.1 any) (text_pieces t h.2 any))
text_pieces (Fun x (Written A) t) h k =
    rounded k (Fun x (Written A) t) _ _ refl refl
    (bound_text (codes "fun ") x A t (blank ∷ said (symbol FatArrow) ∷ blank ∷ []) (text_pieces A h.1 any) (text_pieces t h.2 any))
text_pieces (LetIn x (Written A) v t) h k =
    rounded k (LetIn x (Written A) v t) _ _ refl refl (let_text x A v t (text_pieces A h.1 any) (text_pieces v h.2 any) (text_pieces t h.3 any))
text_pieces (Arrow a b) h k =
    rounded k (Arrow a b) _ _ refl refl (append_assoc (text 1 a) (codes " -> ") (text 0 b) ∙ joined (text 1 a) (text 0 b) (pieces app a)
    (blank ∷ said (symbol ArrowSign) ∷ blank ∷ []) (pieces any b) (text_pieces a h.0 app) (text_pieces b h.1 any))
text_pieces (Applied f a) h k = rounded_app k (Applied f a) _ _ refl refl (append_assoc (text 1 f) (codes " ") (text 2 a)
    ∙ joined (text 1 f) (text 2 a) (pieces app f) (blank ∷ []) (pieces alone a) (text_pieces f h.0 app) (text_pieces a h.1 alone))
text_pieces (Ident x) h k = sym (append-nil x)
text_pieces PropSort h k = refl
text_pieces (TypeSort i) h k = ap (λ ds. codes "Type " ++ ds) (sym (append-nil (decimal i)))
text_pieces _ h k = absurd h
