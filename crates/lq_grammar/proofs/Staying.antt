-- A sentence that ends and has a character behind it is the next one however the text goes on.
use Rattle.std.proofs.Common.{◌≡◌, ℕ, zero, suc, ◌+◌, ◌-◌, ◌≤◌, Bool, true, false, List, [], ◌∷◌, ◌++◌, take, drop, length, length-append, length-drop, Result, Ok, refl, sym, ap, ◌∙◌, subst, arith, inl, inr, if◌then◌else◌}
use Rattle.std.specs.Prelude.{nat_lt, nat_le, ◌&&◌, ◌||◌, not, codes, bytes_eq}
use Rattle.std.proofs.lemmas.List.{drop-append-le, take-append-le}
use Rattle.lq_grammar.specs.declared.fault.LexFault.{LexFault}
use Rattle.lq_grammar.specs.declared.selector.RangePart.TheVariants.{First}
use Rattle.lq_grammar.specs.declared.token.Class.TheVariants as class
use Rattle.lq_grammar.specs.declared.token.Symbol.TheVariants as sign
use Rattle.lq_grammar.specs.declared.token.Token.{Token}
use Rattle.lq_grammar.specs.declared.token.TokenKind.{TokenKind}
use Rattle.lq_grammar.specs.declared.token.TokenKind.TheVariants as kind
use Rattle.lq_grammar.specs.Cells.{Cells, over, broken, beyond, letter, cells, place, front, window}
use Rattle.lq_grammar.specs.Tokens.{Found, nothing, bound, space, word, crossing, flaw, is_blank, class_of, found_at, found}
use Rattle.lq_grammar.specs.Selectors.{spelled, is_empty, is_colon, is_bang, is_word, is_reserved, is_open_square, is_close_square, is_word_selector, is_named_selector, ranges_to_colon, opens, closes}
use Rattle.lq_grammar.specs.Cutting.{Next, sentence, longest, gathered, is_space_class, is_space, behind_space, begun, next}
use Rattle.lq_grammar.specs.Settled.{has_character, is_settled, settled_behind, begins_settled}
use Rattle.lq_grammar.proofs.Turns.{digit_first, gathered-suc, after_found, begun-suc, begun_by}
use Rattle.lq_grammar.proofs.SpanLaws.{Rises, IsFoundAt, found_spans, place_rises, window_rises, cells_rise}
use Rattle.lq_grammar.proofs.Agreement.{Agrees, IsFirm, is_firm, firm_front, IsBlankClass, blank_class, other_class, other_blank, class_unfirm, Follows, found_follows, place_agrees, window_agrees, text_agrees}

-- ---- tokens in a longer text

-- tokens that stand in a text of n bytes
abbrev pub Stand : ℕ → List Token → Type 0
Stand n [] = Unit {0}
Stand n (t ∷ ts) = (t.start ≤ t.end) × (t.end ≤ n) × Stand n ts

pub stand_push : (n : ℕ) (ts : List Token) (t : Token) → Stand n ts → t.start ≤ t.end → t.end ≤ n → Stand n (ts ++ t ∷ [])
stand_push n [] t s h k = (h, k, tt)
stand_push n (u ∷ ts) t s h k = (s.0, s.1, stand_push n ts t s.2 h k)

spelled_more : (text more : List ℕ) (t : Token) → t.start ≤ t.end → t.end ≤ length text → spelled (text ++ more) t ≡ spelled text t
spelled_more text more t h k =
    let first : t.start ≤ length text = omega arith in
    let last : t.end - t.start ≤ length (drop t.start text) = omega (arith, length-drop t.start text) in
    ap (take (t.end - t.start)) (drop-append-le t.start text more first) ∙ take-append-le (t.end - t.start) (drop t.start text) more last

word_more : (text more : List ℕ) (ts : List Token) → Stand (length text) ts → is_word_selector (text ++ more) ts ≡ is_word_selector text ts
word_more text more [] s = refl
word_more text more (a ∷ []) s = refl
word_more text more (a ∷ b ∷ []) s =
    ap (λ w. is_colon b.kind && (is_bang a.kind || (is_word a.kind && (bytes_eq w (codes "all") || bytes_eq w (codes "par"))))) (spelled_more text more a s.0 s.1)
word_more text more (a ∷ b ∷ c ∷ ts) s = refl

named_more : (text more : List ℕ) (ts : List Token) → Stand (length text) ts → is_named_selector (text ++ more) ts ≡ is_named_selector text ts
named_more text more [] s = refl
named_more text more (a ∷ []) s = refl
named_more text more (a ∷ b ∷ []) s = refl
named_more text more (a ∷ b ∷ c ∷ []) s = refl
named_more text more (a ∷ b ∷ c ∷ d ∷ []) s =
    ap (λ w. is_open_square a.kind && is_word b.kind && not (is_reserved w) && is_close_square c.kind && is_colon d.kind) (spelled_more text more b s.2.0 s.2.1)
named_more text more (a ∷ b ∷ c ∷ d ∷ e ∷ ts) s = refl

opens_more : (text more : List ℕ) (ts : List Token) → Stand (length text) ts → opens (text ++ more) ts ≡ opens text ts
unfolding opens
opens_more text more ts s = ap (λ w. is_empty ts || w || is_named_selector (text ++ more) ts || ranges_to_colon First ts) (word_more text more ts s) ∙ ap (λ w. is_empty ts || is_word_selector text ts || w || ranges_to_colon First ts) (named_more text more ts s)

pub closes_more : (k : TokenKind) (text more : List ℕ) (ts : List Token) → Stand (length text) ts → closes k (text ++ more) ts ≡ closes k text ts
unfolding closes
closes_more (kind.Symbol sign.OpenCurly) text more ts s = opens_more text more ts s
closes_more _ text more ts s = refl

-- ---- sentences

firm_by : (cs : Cells) → has_character cs ≡ true → IsFirm cs
unfolding has_character
firm_by (over p) e = absurd cc
firm_by (broken p) e = absurd cc
firm_by (beyond p c) e = absurd cc
firm_by (letter p c cs) e = tt

unfoldable pub settled_by : ℕ → List ℕ → List Token → Found → Bool
settled_by turns text ts f =
    elim f as (λ _. Bool) [
      | nothing ↦ false
      | bound ↦ false
      | space rest ↦ is_settled turns text ts rest
      | crossing k ↦ false
      | flaw fault ↦ false
      | word t rest ↦ elim (closes t.kind text ts) as (λ _. Bool) [ true ↦ has_character rest | false ↦ is_settled turns text (ts ++ t ∷ []) rest ]
    ]

pub is_settled-suc : (turns : ℕ) (text : List ℕ) (ts : List Token) (cs : Cells) → is_settled (suc turns) text ts cs ≡ settled_by turns text ts (found (is_empty ts) cs)
unfolding is_settled settled_by
is_settled-suc turns text ts cs = refl

-- a sentence that is settled behind some characters has one at their front
settled_firm : (turns : ℕ) (text : List ℕ) (ts : List Token) (cs : Cells) → is_settled turns text ts cs ≡ true → IsFirm cs
unfolding is_settled found
settled_firm zero text ts cs e = absurd cc
settled_firm (suc turns) text ts (over p) e = absurd cc
settled_firm (suc turns) text ts (broken p) e = absurd cc
settled_firm (suc turns) text ts (beyond p c) e = absurd cc
settled_firm (suc turns) text ts (letter p c cs) e = tt

-- what a token leaves to be settled
word_settled : (turns : ℕ) (text : List ℕ) (ts : List Token) (t : Token) (rest : Cells) (x : Bool) → closes t.kind text ts ≡ x → settled_by turns text ts (word t rest) ≡ true → x ≡ false → is_settled turns text (ts ++ t ∷ []) rest ≡ true
unfolding settled_by
word_settled turns text ts t rest x e h f =
    sym (ap (λ v. elim v as (λ _. Bool) [ true ↦ has_character rest | false ↦ is_settled turns text (ts ++ t ∷ []) rest ]) (e ∙ f)) ∙ h

word_firm : (turns : ℕ) (text : List ℕ) (ts : List Token) (t : Token) (rest : Cells) (x : Bool) → closes t.kind text ts ≡ x → settled_by turns text ts (word t rest) ≡ true → IsFirm rest
unfolding settled_by
word_firm turns text ts t rest true e h = firm_by rest (sym (ap (λ v. elim v as (λ _. Bool) [ true ↦ has_character rest | false ↦ is_settled turns text (ts ++ t ∷ []) rest ]) e) ∙ h)
word_firm turns text ts t rest false e h = settled_firm turns text (ts ++ t ∷ []) rest (word_settled turns text ts t rest false e h refl)

abbrev ending : Bool → Next → Result Next LexFault → Result Next LexFault
ending v n more = elim v as (λ _. Result Next LexFault) [ true ↦ Ok n | false ↦ more ]

word_stays : (m n : ℕ) (text more : List ℕ) (ts : List Token) (t : Token) (rest others cs ds : Cells) (x : Bool) → closes t.kind text ts ≡ x → closes t.kind (text ++ more) ts ≡ closes t.kind text ts →
    (x ≡ false → gathered n (text ++ more) (ts ++ t ∷ []) others ≡ gathered m text (ts ++ t ∷ []) rest) → after_found n (text ++ more) ts ds (word t others) ≡ after_found m text ts cs (word t rest)
unfolding after_found
word_stays m n text more ts t rest others cs ds true e f go =
    ap (λ v. ending v (sentence (ts ++ t ∷ []) t.end) (gathered n (text ++ more) (ts ++ t ∷ []) others)) (f ∙ e) ∙ sym (ap (λ v. ending v (sentence (ts ++ t ∷ []) t.end) (gathered m text (ts ++ t ∷ []) rest)) e)
word_stays m n text more ts t rest others cs ds false e f go =
    ap (λ v. ending v (sentence (ts ++ t ∷ []) t.end) (gathered n (text ++ more) (ts ++ t ∷ []) others)) (f ∙ e) ∙ go refl ∙ sym (ap (λ v. ending v (sentence (ts ++ t ∷ []) t.end) (gathered m text (ts ++ t ∷ []) rest)) e)

settled_zero : (text : List ℕ) (ts : List Token) (cs : Cells) → is_settled zero text ts cs ≡ true → ⊥
unfolding is_settled
settled_zero text ts cs e = cc

-- A settled sentence is the same where the text goes on, with as many turns or more.
pub gathered_stays : (m n : ℕ) (text more : List ℕ) (L : ℕ) (ts : List Token) (cs ds : Cells) → m ≤ n → Agrees cs ds → Rises L (length text) cs → Stand (length text) ts → is_settled m text ts cs ≡ true →
    gathered n (text ++ more) ts ds ≡ gathered m text ts cs
unfolding settled_by after_found
gathered_stays zero n text more L ts cs ds h a r s e = absurd (settled_zero text ts cs e)
gathered_stays (suc m) zero text more L ts cs ds h a r s e = absurd (omega arith)
gathered_stays (suc m) (suc n) text more L ts cs ds h a r s e =
    gathered-suc n (text ++ more) ts ds
    ∙ step (found (is_empty ts) cs) (found (is_empty ts) ds) (found_follows (is_empty ts) cs ds a) (found_spans L (length text) (is_empty ts) cs r) (sym (is_settled-suc m text ts cs) ∙ e)
    (λ us rest others b q k f. gathered_stays m n text more L us rest others (omega arith) b q k f)
    ∙ sym (gathered-suc m text ts cs) where
      step : (f g : Found) → Follows f g → IsFoundAt L (length text) (place cs) f → settled_by m text ts f ≡ true →
          ((us : List Token) (rest others : Cells) → Agrees rest others → Rises L (length text) rest → Stand (length text) us → is_settled m text us rest ≡ true → gathered n (text ++ more) us others ≡ gathered m text us rest) →
          after_found n (text ++ more) ts ds g ≡ after_found m text ts cs f
      step nothing g b q k others = absurd cc
      step bound g b q k others = absurd cc
      step (space rest) g b q k others = ap (after_found n (text ++ more) ts ds) b.1 ∙ others ts rest b.0 b.2 q.1 s k
      step (crossing c) g b q k others = absurd cc
      step (flaw fault) g b q k others = absurd cc
      step (word t rest) g b q k others =
          let known = word_settled m text ts t rest (closes t.kind text ts) refl k in
          let follows = b (word_firm m text ts t rest (closes t.kind text ts) refl k) in
          ap (after_found n (text ++ more) ts ds) follows.1
          ∙ word_stays m n text more ts t rest follows.0 cs ds (closes t.kind text ts) refl (closes_more t.kind text more ts s)
          (λ e. others (ts ++ t ∷ []) rest follows.0 follows.2 q.3 (stand_push (length text) ts t s (omega (arith, q.0, q.1)) (omega (arith, q.2, place_rises L (length text) rest q.3))) (known e))

-- ---- blanks and comments before a sentence

-- nothing follows a thing that waits for more
none_follows : (f : Found) (rest : Cells) → f ≡ space rest → Follows f nothing → ⊥
none_follows f rest e h = let P : Found → Type 0 = λ g. Follows g nothing in let k = subst P e h in let same = k.1 in cc

none_word : (f : Found) (t : Token) (rest : Cells) → f ≡ word t rest → IsFirm rest → Follows f nothing → ⊥
none_word f t rest e firm h = let P : Found → Type 0 = λ g. Follows g nothing in let k = subst P e h firm in let same = k.1 in cc

-- the class of a first character stays, where it begins a space or a sentence that is settled
class_stays : (p c : ℕ) (cs ds : Cells) → Agrees cs ds → ((IsFirm cs → ⊥) → (IsBlankClass (class_of false c (front cs)) → ⊥) → ⊥) → class_of false c (front ds) ≡ class_of false c (front cs)
class_stays p c cs ds a never =
    elim (is_firm cs) [
      | inl f ↦ ap (class_of false c) (firm_front cs ds f a)
      | inr unfirm ↦ elim (blank_class false c (front cs) (front ds)) [ inl e ↦ sym e | inr blank ↦ absurd (never unfirm blank) ]
    ]

is_space_letter : (p c : ℕ) (cs : Cells) → is_space (letter p c cs) ≡ is_space_class (class_of false c (front cs))
unfolding is_space
is_space_letter p c cs = refl

found-letter : (b : Bool) (p c : ℕ) (cs : Cells) → found b (letter p c cs) ≡ found_at (class_of b c (front cs)) p c cs
unfolding found
found-letter b p c cs = refl

is_space_stays : (p c : ℕ) (cs ds es : Cells) (b : Bool) → ds ≡ letter p c es → Agrees cs es → is_space (letter p c cs) ≡ b → ((IsFirm cs → ⊥) → (IsBlankClass (class_of false c (front cs)) → ⊥) → ⊥) → is_space ds ≡ b
is_space_stays p c cs ds es b e a is never =
    ap is_space e ∙ is_space_letter p c es ∙ ap is_space_class (class_stays p c cs es a never) ∙ sym (is_space_letter p c cs) ∙ is

-- a space that was found
space_stays : (cs ds rest : Cells) → Agrees cs ds → is_space cs ≡ true → found false cs ≡ space rest → is_space ds ≡ true
unfolding is_space
space_stays (over p) ds rest a is e = absurd cc
space_stays (broken p) ds rest a is e = absurd cc
space_stays (beyond p c) ds rest a is e = absurd cc
space_stays (letter p c cs) ds rest a is e =
    is_space_stays p c cs ds a.0 true a.1 a.2 is
    (λ unfirm blank. none_follows (found_at (class_of false c (front cs)) p c cs) rest (sym (found-letter false p c cs) ∙ e) (class_unfirm (class_of false c (front cs)) p c cs nothing blank (digit_first false c (front cs)) unfirm))

unfirm_window : (L : ℕ) (cs : Cells) → (IsFirm cs → ⊥) → IsFirm (window L cs) → ⊥
unfolding window
unfirm_window L (over p) never f = f
unfirm_window L (broken p) never f = step (nat_lt p L) f where
  step : (b : Bool) → IsFirm (elim b as (λ _. Cells) [ true ↦ broken p | false ↦ beyond p 0 ]) → ⊥
  step true g = g
  step false g = g
unfirm_window L (beyond p c) never f = f
unfirm_window L (letter p c cs) never f = never tt

blank_start : (c d e : ℕ) → (IsBlankClass (class_of false c d) → ⊥) → IsBlankClass (class_of true c e) → ⊥
unfolding class_of other_class
blank_start c d e = step (is_blank c) where
  step : (v : Bool) → (IsBlankClass (if v then class.Blank else other_class false c d) → ⊥) → IsBlankClass (if v then class.Blank else other_class true c e) → ⊥
  step true never h = never tt
  step false never h = other_blank true c e h

-- a settled sentence begins with something that has a character behind it
settled_found : (turns : ℕ) (text : List ℕ) (f : Found) → settled_by turns text [] f ≡ true → Follows f nothing → ⊥
unfolding settled_by
settled_found turns text nothing e h = absurd cc
settled_found turns text bound e h = absurd cc
settled_found turns text (space rest) e h = none_follows (space rest) rest refl h
settled_found turns text (crossing k) e h = absurd cc
settled_found turns text (flaw fault) e h = absurd cc
settled_found turns text (word t rest) e h = none_word (word t rest) t rest refl (word_firm turns text [] t rest (closes t.kind text []) refl e) h

settled_start : (turns : ℕ) (text : List ℕ) (L p c : ℕ) (cs : Cells) → is_settled (suc turns) text [] (window L (letter p c cs)) ≡ true → (IsFirm cs → ⊥) → (IsBlankClass (class_of false c (front cs)) → ⊥) → ⊥
unfolding window
settled_start turns text L p c cs e unfirm blank = step (nat_le (place cs) L) e where
  step : (b : Bool) → is_settled (suc turns) text [] (elim b as (λ _. Cells) [ true ↦ letter p c (window L cs) | false ↦ beyond p c ]) ≡ true → ⊥
  step true g =
      let ws : Cells = window L cs in
      settled_found turns text (found_at (class_of true c (front ws)) p c ws) (ap (settled_by turns text []) (sym (found-letter true p c ws)) ∙ sym (is_settled-suc turns text [] (letter p c ws)) ∙ g)
      (class_unfirm (class_of true c (front ws)) p c ws nothing (blank_start c (front cs) (front ws) blank) (digit_first true c (front ws)) (unfirm_window L cs unfirm))
  step false g = settled_firm (suc turns) text [] (beyond p c) g

start_stays : (turns : ℕ) (text : List ℕ) (L : ℕ) (cs ds : Cells) → Agrees cs ds → is_space cs ≡ false → is_settled (suc turns) text [] (window L cs) ≡ true → is_space ds ≡ false
start_stays turns text L (over p) ds a is e = absurd (unfirm_window L (over p) (λ f. f) (settled_firm (suc turns) text [] (window L (over p)) e))
start_stays turns text L (broken p) ds a is e = absurd (unfirm_window L (broken p) (λ f. f) (settled_firm (suc turns) text [] (window L (broken p)) e))
start_stays turns text L (beyond p c) ds a is e = absurd (unfirm_window L (beyond p c) (λ f. f) (settled_firm (suc turns) text [] (window L (beyond p c)) e))
start_stays turns text L (letter p c cs) ds a is e = is_space_stays p c cs ds a.0 false a.1 a.2 is (λ unfirm blank. settled_start turns text L p c cs e unfirm blank)

unfoldable pub begins_by : ℕ → List ℕ → Cells → Bool → Found → Bool
begins_by turns text cs is f =
    elim is as (λ _. Bool) [
      | true ↦ settled_behind (λ rest. begins_settled turns text rest) f
      | false ↦ is_settled (suc (length text)) text [] (window (place cs + longest) cs)
    ]

pub begins_settled-suc : (turns : ℕ) (text : List ℕ) (cs : Cells) → begins_settled (suc turns) text cs ≡ begins_by turns text cs (is_space cs) (found false cs)
unfolding begins_settled begins_by
begins_settled-suc turns text cs = refl

begins_zero : (text : List ℕ) (cs : Cells) → begins_settled zero text cs ≡ true → ⊥
unfolding begins_settled
begins_zero text cs e = cc

sentence_stays : (text more : List ℕ) (cs ds : Cells) → Agrees cs ds → Rises (length text) (length text) cs → is_settled (suc (length text)) text [] (window (place cs + longest) cs) ≡ true →
    gathered (suc (length (text ++ more))) (text ++ more) [] (window (place ds + longest) ds) ≡ gathered (suc (length text)) text [] (window (place cs + longest) cs)
sentence_stays text more cs ds a r e =
    ap (λ p. gathered (suc (length (text ++ more))) (text ++ more) [] (window (p + longest) ds)) (place_agrees cs ds a)
    ∙ gathered_stays (suc (length text)) (suc (length (text ++ more))) text more (place cs + longest) [] (window (place cs + longest) cs) (window (place cs + longest) ds) (omega (arith, length-append text more))
    (window_agrees (place cs + longest) cs ds a) (window_rises (place cs + longest) (length text) cs r) tt e

begun_space_stays : (m n : ℕ) (text more : List ℕ) (cs ds : Cells) (f : Found) → is_space cs ≡ true → found false cs ≡ f → Agrees cs ds → Follows f (found false ds) → settled_behind (λ rest. begins_settled m text rest) f ≡ true →
    ((rest others : Cells) → f ≡ space rest → Agrees rest others → begins_settled m text rest ≡ true → begun n (text ++ more) others ≡ begun m text rest) →
    begun_by n (text ++ more) ds (is_space ds) (found false ds) ≡ begun_by m text cs true f
unfolding begun_by
begun_space_stays m n text more cs ds nothing is e a b k others = absurd cc
begun_space_stays m n text more cs ds bound is e a b k others = absurd cc
begun_space_stays m n text more cs ds (space rest) is e a b k others =
    ap (λ v. begun_by n (text ++ more) ds v (found false ds)) (space_stays cs ds rest a is e)
    ∙ ap (behind_space (λ us. begun n (text ++ more) us)) b.1
    ∙ others rest b.0 refl b.2 k
begun_space_stays m n text more cs ds (crossing c) is e a b k others = absurd cc
begun_space_stays m n text more cs ds (flaw fault) is e a b k others = absurd cc
begun_space_stays m n text more cs ds (word t rest) is e a b k others = absurd cc

begun_start_stays : (m n : ℕ) (text more : List ℕ) (cs ds : Cells) → is_space cs ≡ false → Agrees cs ds → Rises (length text) (length text) cs → is_settled (suc (length text)) text [] (window (place cs + longest) cs) ≡ true →
    begun_by n (text ++ more) ds (is_space ds) (found false ds) ≡ begun_by m text cs false (found false cs)
unfolding begun_by
begun_start_stays m n text more cs ds is a r e =
    ap (λ v. begun_by n (text ++ more) ds v (found false ds)) (start_stays (length text) text (place cs + longest) cs ds a is e) ∙ sentence_stays text more cs ds a r e

-- So is the first settled sentence behind blanks and comments.
pub begun_stays : (m n : ℕ) (text more : List ℕ) (cs ds : Cells) → m ≤ n → Agrees cs ds → Rises (length text) (length text) cs → begins_settled m text cs ≡ true → begun n (text ++ more) ds ≡ begun m text cs
unfolding begins_by
begun_stays zero n text more cs ds h a r e = absurd (begins_zero text cs e)
begun_stays (suc m) zero text more cs ds h a r e = absurd (omega arith)
begun_stays (suc m) (suc n) text more cs ds h a r e =
    begun-suc n (text ++ more) ds
    ∙ step (is_space cs) refl (sym (begins_settled-suc m text cs) ∙ e) (λ rest others b q k. begun_stays m n text more rest others (omega arith) b q k)
    ∙ sym (begun-suc m text cs) where
      rest_rises : (rest : Cells) → found false cs ≡ space rest → Rises (length text) (length text) rest
      rest_rises rest f = let P : Found → Type 0 = λ g. IsFoundAt (length text) (length text) (place cs) g in let k = subst P f (found_spans (length text) (length text) false cs r) in k.1

      step : (b : Bool) → is_space cs ≡ b → begins_by m text cs b (found false cs) ≡ true →
          ((rest others : Cells) → Agrees rest others → Rises (length text) (length text) rest → begins_settled m text rest ≡ true → begun n (text ++ more) others ≡ begun m text rest) →
          begun_by n (text ++ more) ds (is_space ds) (found false ds) ≡ begun_by m text cs b (found false cs)
      step true is k go = begun_space_stays m n text more cs ds (found false cs) is refl a (found_follows false cs ds a) k (λ rest others f b q. go rest others b (rest_rises rest f) q)
      step false is k go = begun_start_stays m n text more cs ds is a r k

-- What a text has next is settled, and stays, if the sentence ends and a character stands behind it.
pub next_stays : (text more : List ℕ) (at : ℕ) → at ≤ length text → begins_settled (suc (length text)) text (cells at (drop at text)) ≡ true → next (text ++ more) at ≡ next text at
unfolding next
next_stays text more at h e =
    begun_stays (suc (length text)) (suc (length (text ++ more))) text more (cells at (drop at text)) (cells at (drop at (text ++ more))) (omega (arith, length-append text more))
    (text_agrees text more at h) (cells_rise (length text) 0 at (drop at text) (omega (arith, length-drop at text))) e
