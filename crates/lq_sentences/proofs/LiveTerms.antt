-- Terms with more levels: what is begun is completed.
use Rattle.std.proofs.Common.{◌≡◌, ℕ, ◌+◌, false, List, [], refl}
use Rattle.std.specs.Prelude.{codes}
use Rattle.lq_grammar.specs.declared.token.Symbol.{Symbol}
use Rattle.lq_grammar.specs.declared.token.Symbol.TheVariants.{ColonEqual, FatArrow, Arrow as ArrowSign, OpenRound, CloseRound, OpenSquare, CloseSquare, Colon, Comma, Question, Underscore}
use Rattle.lq_trees.specs.Tree.{Name}
use Rattle.lq_ast.specs.Syntax.{Surface, Domain, Forall, Fun, applied, Meta, NewVar}
use Rattle.lq_ast.specs.Plain.{joined}
use Rattle.lq_sentences.specs.Words.{Word, name, symbol, is_sign, reads}
use Rattle.lq_sentences.specs.Rules.{Rule}
use Rattle.lq_sentences.specs.Parts.{is_binder}
use Rattle.lq_sentences.specs.Terms.{Spot, within, begins_atom, begins_argument, is_level, group, cast_behind, bracketed, new_variable, behind_question, behind_type, atom_at, atom, arguments, arrow_behind, arrow_term, names_behind, inner_group, binders, quantified, domain_behind, let_head, let_body, let_term, term_in}
use Rattle.lq_sentences.proofs.Completing.{Live, Alive, Room, room_up, alive, pure_live, both_live, map_live, word_then, word_live, choose_other, when_alive}
use Rattle.lq_sentences.proofs.LiveParts.{testing, x_word, zero_word, expect_live, expect_word_live, behind_live, many_live, a_name_live, a_binder_live, some_binders_live}

-- a term ends before that word
abbrev pub TermEnds : Spot → Word → Type 0
TermEnds c w = (begins_argument c.ends w ≡ false) × (is_sign ArrowSign w ≡ false)

-- terms with more levels
abbrev pub Terms : (Spot → Rule Surface) → (Spot → Rule Surface) → Type 0
Terms t s = (c : Spot) (w : Word) → TermEnds c w → Live x_word (t c) (s c) w

-- what binders may stand before
abbrev pub BindersEnd : Spot → Word → Type 0
BindersEnd c w = TermEnds (within c) w × (is_binder w ≡ false) × (is_sign OpenRound w ≡ false) × (is_sign Colon w ≡ false)

pub group_live : {t s : Rule Surface} (w : Word) (n m i j : ℕ) → Room n m → Room i j → Live x_word t s (symbol CloseRound) → Live x_word (group n i t) (group m j s) w
unfolding testing
group_live w n m i j r q l =
    both_live (both_live (some_binders_live (symbol Colon) i j q refl) (λ xs. both_live (behind_live i j Colon q l) (λ A. pure_live _ (symbol CloseRound))))
    (λ xs. map_live _ (expect_live w n m CloseRound r))

module _ (n m i j : ℕ) (room : Room n m) (inner : Room i j) (t s d e : Spot → Rule Surface) (ts : Terms t s) (ds : Terms d e) where
  up : Room (n + 1) (m + 1)
  up = room_up n m room

  cast_live : (c : Spot) (a : Surface) → Live (symbol CloseRound) (cast_behind n t c a) (cast_behind m s c a) (symbol CloseRound)
  unfolding testing
  cast_live c a =
      choose_other (is_sign Colon) (pure_live a (symbol CloseRound)) refl (alive (map_live _ (behind_live n m Colon room (ts (within c) (symbol CloseRound) (refl, refl)))))

  bracketed_live : (c : Spot) (w : Word) → Live x_word (bracketed n t c) (bracketed m s c) w
  unfolding testing
  bracketed_live c w =
      both_live (both_live (ts (within c) (symbol CloseRound) (refl, refl)) (λ a. cast_live c a))
      (λ a. both_live (expect_live w (n + 1) (m + 1) CloseRound up) (λ u. pure_live a w))

  variable_live : (p : ℕ) (w : Word) → Live (symbol OpenSquare) (new_variable n p) (new_variable m p) w
  variable_live p w =
      both_live (expect_live x_word (n + 1) (m + 1) OpenSquare up)
      (λ u. both_live (a_name_live (symbol CloseSquare) n m room) (λ x. both_live (expect_live w (n + 1) (m + 1) CloseSquare up) (λ v. pure_live (NewVar x p) w)))

  question_live : (c : Spot) (p : ℕ) (w : Word) → Alive (behind_question n c p) (behind_question m c p) w
  question_live c p w = when_alive c.is_pattern (alive (map_live Meta (a_name_live w (n + 1) (m + 1) up))) (alive (variable_live p w))

  type_live : (w : Word) → Live zero_word (behind_type (n + 1)) (behind_type (m + 1)) w
  type_live w = map_live _ (word_live zero_word w (n + 1) (m + 1) is_level up refl)

  pub atom_at_live : (c : Spot) (w : Word) (x : Word × ℕ) → Alive (atom_at n t c x) (atom_at m s c x) w
  atom_at_live c w x =
      when_alive (is_sign Underscore x.0) (alive (pure_live _ w))
      (when_alive (is_sign OpenRound x.0) (alive (bracketed_live c w))
      (when_alive (is_sign Question x.0) (question_live c x.1 w)
      (when_alive (reads (codes "Prop") x.0) (alive (pure_live _ w))
      (when_alive (reads (codes "Type") x.0) (alive (type_live w)) (alive (pure_live _ w))))))

  pub atom_live : (c : Spot) (w : Word) → Live x_word (atom n t c) (atom m s c) w
  unfolding testing
  atom_live c w = word_then x_word (n + 1) (m + 1) begins_atom up refl (λ x f. atom_at_live c w x)

  arguments_live : (c : Spot) (w : Word) → begins_argument c.ends w ≡ false → Live w (arguments n t c) (arguments m s c) w
  arguments_live c w f = many_live w (n + 1) (m + 1) (begins_argument c.ends) (atom_at n t c) (atom_at m s c) up f (λ x g. atom_at_live c w x) []

  arrow_live : (c : Spot) (a : Surface) (w : Word) → TermEnds c w → Live w (arrow_behind n t c a) (arrow_behind m s c a) w
  arrow_live c a w h = choose_other (is_sign ArrowSign) (pure_live a w) h.1 (alive (map_live _ (behind_live (n + 1) (m + 1) ArrowSign up (ts c w h))))

  pub arrow_term_live : (c : Spot) (f : Surface) (w : Word) → TermEnds c w → Live w (arrow_term n t c f) (arrow_term m s c f) w
  arrow_term_live c f w h = both_live (map_live (applied f) (arguments_live c w h.0)) (λ a. arrow_live c a w h)

  names_live : (c : Spot) (xs : List (Name × ℕ)) (w : Word) → BindersEnd c w → Live w (names_behind n t c xs) (names_behind m s c xs) w
  names_live c xs w h = choose_other (is_sign Colon) (pure_live _ w) h.3 (alive (map_live _ (behind_live n m Colon room (ts (within c) w h.0))))

  inner_live : (c : Spot) (w : Word) (x : Word × ℕ) → Alive (inner_group n i d c x) (inner_group m j e c x) w
  unfolding testing
  inner_live c w x = alive (group_live w n m i j room inner (ds (within c) (symbol CloseRound) (refl, refl)))

  binders_live : (c : Spot) (w : Word) → BindersEnd c w → Live x_word (binders n i t d c) (binders m j s e c) w
  unfolding testing
  binders_live c w h =
      choose_other (is_sign OpenRound) (both_live (some_binders_live w n m room h.1) (λ xs. names_live c xs w h)) refl
      (alive (map_live joined (many_live w n m (is_sign OpenRound) (inner_group n i d c) (inner_group m j e c) room h.2 (λ x f. inner_live c w x) [])))

  quantified_live : (c : Spot) (head : Name) (node : Name → Domain → Surface → Surface) (b : Symbol) (w : Word) → BindersEnd c (symbol b) → TermEnds c w →
      Live (name head) (quantified n i t d c head node b) (quantified m j s e c head node b) w
  quantified_live c head node b w h k =
      both_live (expect_word_live x_word (n + 1) (m + 1) head up)
      (λ u. both_live (binders_live c (symbol b) h) (λ xs. both_live (behind_live n m b room (ts c w k)) (λ a. pure_live _ w)))

  domain_live : (c : Spot) (p : ℕ) → Live (symbol ColonEqual) (domain_behind n t c p) (domain_behind m s c p) (symbol ColonEqual)
  unfolding testing
  domain_live c p =
      choose_other (is_sign Colon) (pure_live _ (symbol ColonEqual)) refl (alive (map_live _ (behind_live n m Colon room (ts (within c) (symbol ColonEqual) (refl, refl)))))

  let_head_live : (c : Spot) → Live (name (codes "let")) (let_head n t c) (let_head m s c) (symbol ColonEqual)
  let_head_live c =
      both_live (expect_word_live x_word (n + 1) (m + 1) (codes "let") up)
      (λ u. both_live (a_binder_live (symbol ColonEqual) n m room) (λ x. both_live (domain_live c x.1) (λ a. pure_live _ (symbol ColonEqual))))

  let_body_live : (c : Spot) (w : Word) → TermEnds c w → Live (symbol ColonEqual) (let_body n t c) (let_body m s c) w
  unfolding testing
  let_body_live c w h =
      both_live (behind_live n m ColonEqual room (ts (within c) (name (codes "in")) (refl, refl)))
      (λ v. both_live (expect_word_live x_word n m (codes "in") room) (λ u. both_live (ts c w h) (λ a. pure_live _ w)))

  let_live : (c : Spot) (w : Word) → TermEnds c w → Live (name (codes "let")) (let_term n t c) (let_term m s c) w
  let_live c w h = both_live (let_head_live c) (λ x. both_live (let_body_live c w h) (λ a. pure_live _ w))

  pub term_in_live : (c : Spot) (w : Word) → TermEnds c w → Live x_word (term_in n i t d c) (term_in m j s e c) w
  unfolding testing
  term_in_live c w h =
      choose_other (reads (codes "forall"))
      (choose_other (reads (codes "fun"))
      (choose_other (reads (codes "let")) (both_live (atom_live c w) (λ f. arrow_term_live c f w h)) refl (alive (let_live c w h)))
      refl
      (alive (quantified_live c (codes "fun") Fun FatArrow w ((refl, refl), refl, refl, refl) h)))
      refl
      (alive (quantified_live c (codes "forall") Forall Comma w ((refl, refl), refl, refl, refl) h))
