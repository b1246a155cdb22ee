-- A rule and the same rule with more levels: what the first reads the second reads, and where the words of the first only end, the second goes on.
use Rattle.std.proofs.Common.{◌≡◌, ℕ, zero, suc, ◌+◌, ◌≤◌, ◌<◌, Bool, true, false, [], ◌∷◌, ◌++◌, length, Ok, Err, refl, sym, ap, subst, ◌∙◌, arith, append_assoc}
use Rattle.lq_sentences.specs.Words.{Word, Words}
use Rattle.lq_sentences.specs.Rules.{Rule, pure, word, both, choose, loop, when, ◌<$>◌, sees, unexpected, too_nested, ended, Read, and_then, read_word, read}
use Rattle.lq_sentences.proofs.RuleLaws.{chosen_true, chosen_false}
use Rattle.lq_sentences.proofs.LoopLaws.{loop_again, loop_done, read_shorter, word_takes, word_passes}
use Rattle.lq_sentences.proofs.WordLaws.{word_right, sees_next}
use Rattle.lq_sentences.proofs.FaultLaws.{Local, local}

-- ---- what is claimed

-- an answer with more levels: the same, but where the nesting ended it
abbrev pub Kept : {A : Type 0} → Read A → Read A → Type 0
Kept (Ok r) s = s ≡ Ok r
Kept (Err (unexpected q)) s = s ≡ Err (unexpected q)
Kept (Err (too_nested q)) s = Unit {0}
Kept (Err ended) s = s ≡ Err ended

-- all words are taken: the answer leaves none, or they end inside
abbrev pub IsOpen : {A : Type 0} → Read A → Type 0
IsOpen (Ok (a, [])) = Unit {0}
IsOpen (Ok (a, w ∷ ws)) = ⊥
IsOpen (Err (unexpected q)) = ⊥
IsOpen (Err (too_nested q)) = ⊥
IsOpen (Err ended) = Unit {0}

-- the words begin with that one
abbrev pub Begins : Word → Words → Type 0
Begins w ws = (p : ℕ) × (rest : Words) × (ws ≡ (w, p) ∷ rest)

-- words that complete some words, if that word follows
abbrev pub Completed : {A : Type 0} → Rule A → Word → Words → Type 0
Completed {A = A} q w ws = (more : Words) × (a : A) × ((other : Words) → Begins w other → read q (ws ++ (more ++ other)) ≡ Ok (a, other))

-- words that are a whole part, if that word follows; with this word they begin with another
abbrev pub Fresh : {A : Type 0} → Word → Rule A → Word → Type 0
Fresh {A = A} u q w =
    (more : Words) × (a : A) × ((other : Words) → Begins w other → Begins u (more ++ other)) × ((other : Words) → Begins w other → read q (more ++ other) ≡ Ok (a, other))

-- q is p with more levels, and each part that p has begun q completes before the word w; a part that is not begun is completed from u on
pub record Live {A : Type 0} (u : Word) (p q : Rule A) (w : Word) : Type 0 where
  pub kept : (ws : Words) → Kept (read p ws) (read q ws)
  pub fresh : Fresh u q w
  pub inside : (v : Word × ℕ) (vs : Words) → IsOpen (read p (v ∷ vs)) → Completed q w (v ∷ vs)

abbrev pub Alive : {A : Type 0} → Rule A → Rule A → Word → Type 0
Alive p q w = (u : Word) × Live u p q w

-- levels and more of them
abbrev pub Room : ℕ → ℕ → Type 0
Room n m = (n ≤ m) × (0 < m)

pub room_up : (n m : ℕ) → Room n m → Room (n + 1) (m + 1)
room_up n m r = (omega (arith, r.0), omega (arith, r.1))

pub alive : {A : Type 0} {u : Word} {p q : Rule A} {w : Word} → Live u p q w → Alive p q w
alive {u = u} l = (u, l)

-- ---- no word

pub pure_live : {A : Type 0} (a : A) (w : Word) → Live w (pure a) (pure a) w
pure_live a w = record {
  kept = λ ws. refl;
  fresh = ([], a, λ other h. h, λ other h. refl);
  inside = λ v vs o. absurd o;
}

-- ---- one word

word_kept : (n m : ℕ) (test : Word → Bool) (ws : Words) → Room n m → Kept (read_word n test ws) (read_word m test ws)
unfolding read_word
word_kept zero zero test ws r = absurd (omega (arith, r.1))
word_kept (suc n) zero test ws r = absurd (omega (arith, r.1))
word_kept zero (suc m) test [] r = refl
word_kept (suc n) (suc m) test [] r = refl
word_kept zero (suc m) test (w ∷ ws) r = by (test w.0)
  where
    by : (b : Bool) → Kept (elim b as (λ _. Read (Word × ℕ)) [ true ↦ Err (too_nested w.1) | false ↦ Err (unexpected w.1) ])
        (elim b as (λ _. Read (Word × ℕ)) [ true ↦ Ok (w, ws) | false ↦ Err (unexpected w.1) ])
    by true = tt
    by false = refl
word_kept (suc n) (suc m) test (w ∷ ws) r = by (test w.0)
  where
    by : (b : Bool) → Kept (elim b as (λ _. Read (Word × ℕ)) [ true ↦ Ok (w, ws) | false ↦ Err (unexpected w.1) ])
        (elim b as (λ _. Read (Word × ℕ)) [ true ↦ Ok (w, ws) | false ↦ Err (unexpected w.1) ])
    by true = refl
    by false = refl

-- a word that is taken passes the test, and what is read behind it is open
word_goes : {B : Type 0} (n : ℕ) (test : Word → Bool) (v : Word × ℕ) (vs : Words) (f : Word × ℕ → Words → Read B) → IsOpen (and_then (read_word n test (v ∷ vs)) f) → (test v.0 ≡ true) × IsOpen (f v vs)
unfolding read_word
word_goes {B = B} zero test v vs f o = by (test v.0) o
  where
    by : (b : Bool) → IsOpen (and_then (elim b as (λ _. Read (Word × ℕ)) [ true ↦ Err (too_nested v.1) | false ↦ Err (unexpected v.1) ]) f) → (b ≡ true) × IsOpen (f v vs)
    by true o = absurd o
    by false o = absurd o
word_goes {B = B} (suc n) test v vs f o = by (test v.0) o
  where
    by : (b : Bool) → IsOpen (and_then (elim b as (λ _. Read (Word × ℕ)) [ true ↦ Ok (v, vs) | false ↦ Err (unexpected v.1) ]) f) → (b ≡ true) × IsOpen (f v vs)
    by true o = (refl, o)
    by false o = absurd o

-- a word that is taken alone
only_word : (n : ℕ) (test : Word → Bool) (v : Word × ℕ) (vs : Words) → IsOpen (read_word n test (v ∷ vs)) → (test v.0 ≡ true) × (vs ≡ [])
unfolding read_word
only_word zero test v vs o = by (test v.0) o
  where
    by : (b : Bool) → IsOpen (elim b as (λ _. Read (Word × ℕ)) [ true ↦ Err (too_nested v.1) | false ↦ Err (unexpected v.1) ]) → (b ≡ true) × (vs ≡ [])
    by true o = absurd o
    by false o = absurd o
only_word (suc n) test v vs o = by (test v.0) vs o
  where
    by : (b : Bool) (us : Words) → IsOpen (elim b as (λ _. Read (Word × ℕ)) [ true ↦ Ok (v, us) | false ↦ Err (unexpected v.1) ]) → (b ≡ true) × (us ≡ [])
    by true [] o = (refl, refl)
    by true (x ∷ xs) o = absurd o
    by false us o = absurd o

-- ---- one part behind another

pub kept_then : {A B : Type 0} (r s : Read A) (f g : A → Words → Read B) → Kept r s → ((y : A × Words) → r ≡ Ok y → Kept (f y.0 y.1) (g y.0 y.1)) → Kept (and_then r f) (and_then s g)
kept_then (Ok y) s f g k h = subst (λ t. Kept (f y.0 y.1) (and_then t g)) (sym k) (h y refl)
kept_then (Err (unexpected q)) s f g k h = ap (λ t. and_then t g) k
kept_then (Err (too_nested q)) s f g k h = tt
kept_then (Err ended) s f g k h = ap (λ t. and_then t g) k

module _ {A B : Type 0} (p q : Rule A) (f g : A → Rule B) (w : Word) where
  abbrev second : A → Words → Read B
  second a vs = read (g a) vs

  -- a second part from nothing, behind words that complete the first
  pub then_fresh : (m : Word) (ws : Words) → ((a : A) → Fresh m (g a) w) → Completed q m ws → Completed (both q g) w ws
  then_fresh m ws h c =
      let n = h c.1 in (
        c.0 ++ n.0,
        n.1,
        λ other i.
            ap (λ us. read (both q g) (ws ++ us)) (append_assoc c.0 n.0 other)
            ∙ ap (λ r. and_then r second) (c.2 (n.0 ++ other) (n.2 other i))
            ∙ n.3 other i,
      )

  -- words that the first part leaves, which the second completes
  then_inside : (ws : Words) (a : A) (x : Word × ℕ) (xs : Words) → read q ws ≡ Ok (a, x ∷ xs) → Completed (g a) w (x ∷ xs) → Completed (both q g) w ws
  then_inside ws a x xs e c =
      let l = subst (Local (read q) ws) e (local q ws) in (
        c.0,
        c.1,
        λ other i.
            ap (λ us. read (both q g) (us ++ (c.0 ++ other))) l.1
            ∙ ap (read (both q g)) (append_assoc l.0 (x ∷ xs) (c.0 ++ other))
            ∙ ap (λ r. and_then r second) (l.2 ((x ∷ xs) ++ (c.0 ++ other)) refl)
            ∙ c.2 other i,
      )

  -- words that both parts take
  both_inside : (m : Word) (ws : Words) → ((vs : Words) → Kept (read p vs) (read q vs)) → ((a : A) → Fresh m (g a) w) → (IsOpen (read p ws) → Completed q m ws) →
      ((a : A) (x : Word × ℕ) (xs : Words) → read p ws ≡ Ok (a, x ∷ xs) → IsOpen (read (f a) (x ∷ xs)) → Completed (g a) w (x ∷ xs)) → IsOpen (read (both p f) ws) → Completed (both q g) w ws
  both_inside m ws k h first second_part o = by (read p ws) refl o
    where
      by : (r : Read A) → read p ws ≡ r → IsOpen (and_then r (λ a vs. read (f a) vs)) → Completed (both q g) w ws
      by (Ok (a, [])) e o = then_fresh m ws h (first (subst IsOpen (sym e) tt))
      by (Ok (a, x ∷ xs)) e o = then_inside ws a x xs (subst (λ r. Kept r (read q ws)) e (k ws)) (second_part a x xs e o)
      by (Err (unexpected n)) e o = absurd o
      by (Err (too_nested n)) e o = absurd o
      by (Err ended) e o = then_fresh m ws h (first (subst IsOpen (sym e) tt))

  -- both parts from nothing
  both_fresh : (u m : Word) → Fresh u q m → ((a : A) → Fresh m (g a) w) → Fresh u (both q g) w
  both_fresh u m c h =
      let n = h c.1 in (
        c.0 ++ n.0,
        n.1,
        λ other i. subst (Begins u) (sym (append_assoc c.0 n.0 other)) (c.2 (n.0 ++ other) (n.2 other i)),
        λ other i.
            ap (read (both q g)) (append_assoc c.0 n.0 other)
            ∙ ap (λ r. and_then r second) (c.3 (n.0 ++ other) (n.2 other i))
            ∙ n.3 other i,
      )

-- a second part that counts where the first one is read
pub both_next : {A B : Type 0} {u m w : Word} {p q : Rule A} {f g : A → Rule B} → Live u p q m →
    ((a : A) (ws rest : Words) → read p ws ≡ Ok (a, rest) → Live m (f a) (g a) w) → ((a : A) → Fresh m (g a) w) → Live u (both p f) (both q g) w
both_next {u = u} {m = m} {w = w} {p = p} {q = q} {f = f} {g = g} l h c = record {
  kept = λ ws. kept_then (read p ws) (read q ws) _ _ (l.kept ws) (λ y e. (h y.0 ws y.1 e).kept y.1);
  fresh = both_fresh p q f g w u m l.fresh c;
  inside = λ v vs o. both_inside p q f g w m (v ∷ vs) l.kept c (l.inside v vs) (λ a x xs e i. (h a (v ∷ vs) (x ∷ xs) e).inside x xs i) o;
}

pub both_live : {A B : Type 0} {u m w : Word} {p q : Rule A} {f g : A → Rule B} → Live u p q m → ((a : A) → Live m (f a) (g a) w) → Live u (both p f) (both q g) w
both_live l h = both_next l (λ a ws rest e. h a) (λ a. (h a).fresh)

pub map_live : {A B : Type 0} {u w : Word} {p q : Rule A} (f : A → B) → Live u p q w → Live u (f <$> p) (f <$> q) w
map_live {w = w} f l = both_live l (λ a. pure_live (f a) w)

-- a word, and a part that it decides
pub word_then : {B : Type 0} {w : Word} {f g : Word × ℕ → Rule B} (u : Word) (n m : ℕ) (test : Word → Bool) → Room n m → test u ≡ true →
    ((x : Word × ℕ) → test x.0 ≡ true → Alive (f x) (g x) w) → Live u (both (word n test) f) (both (word m test) g) w
word_then {B = B} {w = w} {f = f} {g = g} u n m test r e h = record {
  kept = λ ws. kept_then (read_word n test ws) (read_word m test ws) _ _ (word_kept n m test ws r) (λ y i. (h y.0 (word_passes n test ws y.0 y.1 i)).1.kept y.1);
  fresh = (let c = (h (u, 0) e).1.fresh in (
    (u, 0) ∷ c.0,
    c.1,
    λ other i. (0, c.0 ++ other, refl),
    λ other i. takes (u, 0) (c.0 ++ other) e ∙ c.3 other i,
  ));
  inside = λ v vs o. (let t = word_goes n test v vs (λ x us. read (f x) us) o in behind v vs t.0 t.1);
}
  where
    takes : (v : Word × ℕ) (vs : Words) → test v.0 ≡ true → read (both (word m test) g) (v ∷ vs) ≡ read (g v) vs
    takes v vs i = ap (λ s. and_then s (λ x us. read (g x) us)) (word_right m test (v ∷ vs) v vs r.1 refl i)

    behind : (v : Word × ℕ) (vs : Words) → test v.0 ≡ true → IsOpen (read (f v) vs) → Completed (both (word m test) g) w (v ∷ vs)
    behind v [] i o = let c = (h v i).1.fresh in (c.0, c.1, λ other j. takes v (c.0 ++ other) i ∙ c.3 other j)
    behind v (x ∷ xs) i o = let c = (h v i).1.inside x xs o in (c.0, c.1, λ other j. takes v ((x ∷ xs) ++ (c.0 ++ other)) i ∙ c.2 other j)

pub word_live : (u w : Word) (n m : ℕ) (test : Word → Bool) → Room n m → test u ≡ true → Live u (word n test) (word m test) w
word_live u w n m test r e = record {
  kept = λ ws. word_kept n m test ws r;
  fresh = ((u, 0) ∷ [], (u, 0), λ other i. (0, other, refl), λ other i. word_right m test ((u, 0) ∷ other) (u, 0) other r.1 refl e);
  inside = λ v vs o. alone v vs (only_word n test v vs o);
}
  where
    alone : (v : Word × ℕ) (vs : Words) → (test v.0 ≡ true) × (vs ≡ []) → Completed (word m test) w (v ∷ vs)
    alone v vs t =
        subst (λ us. Completed (word m test) w (v ∷ us)) (sym t.1) ([], v, λ other i. word_right m test (v ∷ other) v other r.1 refl t.0)

-- ---- choices

choice_kept : {A : Type 0} (b : Bool) (r s t u : Read A) → Kept r t → Kept s u → Kept (elim b as (λ _. Read A) [ true ↦ r | false ↦ s ]) (elim b as (λ _. Read A) [ true ↦ t | false ↦ u ])
choice_kept true r s t u k l = k
choice_kept false r s t u k l = l

-- what is begun is completed
abbrev GoesOn : {A : Type 0} → Rule A → Rule A → Word → Type 0
GoesOn p q w = (v : Word × ℕ) (vs : Words) → IsOpen (read p (v ∷ vs)) → Completed q w (v ∷ vs)

module _ {A : Type 0} (w : Word) (test : Word → Bool) (p q r s : Rule A) where
  choose_read : (x : Word × ℕ) (xs : Words) → read (choose test q s) (x ∷ xs) ≡ elim (test x.0) as (λ _. Read A) [ true ↦ read q (x ∷ xs) | false ↦ read s (x ∷ xs) ]
  unfolding sees
  choose_read x xs = refl

  choose_by : GoesOn p q w → GoesOn r s w → (x : Word × ℕ) (xs : Words) (b : Bool) → test x.0 ≡ b →
      IsOpen (elim b as (λ _. Read A) [ true ↦ read p (x ∷ xs) | false ↦ read r (x ∷ xs) ]) → Completed (choose test q s) w (x ∷ xs)
  choose_by k l x xs true e o = let c = k x xs o in (c.0, c.1, λ other i. choose_read x (xs ++ (c.0 ++ other)) ∙ chosen_true (test x.0) _ _ e ∙ c.2 other i)
  choose_by k l x xs false e o = let c = l x xs o in (c.0, c.1, λ other i. choose_read x (xs ++ (c.0 ++ other)) ∙ chosen_false (test x.0) _ _ e ∙ c.2 other i)

  choose_inside : GoesOn p q w → GoesOn r s w → GoesOn (choose test p r) (choose test q s) w
  unfolding sees
  choose_inside k l x xs o = choose_by k l x xs (test x.0) refl o

  sees_begins : (x : Word) (ws : Words) → Begins x ws → sees test ws ≡ test x
  sees_begins x ws i = sees_next test ws (x, i.0) i.1 i.2

-- a choice whose first part begins with a word of the test
pub choose_first : {A : Type 0} {u w : Word} {p q r s : Rule A} (test : Word → Bool) → Live u p q w → test u ≡ true → Alive r s w → Live u (choose test p r) (choose test q s) w
choose_first {u = u} {w = w} {p = p} {q = q} {r = r} {s = s} test k e l = record {
  kept = λ ws. choice_kept (sees test ws) _ _ _ _ (k.kept ws) (l.1.kept ws);
  fresh = (let c = k.fresh in
      (c.0, c.1, c.2, λ other i. chosen_true (sees test (c.0 ++ other)) _ _ (sees_begins w test p q r s u (c.0 ++ other) (c.2 other i) ∙ e) ∙ c.3 other i));
  inside = choose_inside w test p q r s k.inside l.1.inside;
}

-- a choice whose second part begins with another word
pub choose_other : {A : Type 0} {u w : Word} {p q r s : Rule A} (test : Word → Bool) → Live u r s w → test u ≡ false → Alive p q w → Live u (choose test p r) (choose test q s) w
choose_other {u = u} {w = w} {p = p} {q = q} {r = r} {s = s} test k e l = record {
  kept = λ ws. choice_kept (sees test ws) _ _ _ _ (l.1.kept ws) (k.kept ws);
  fresh = (let c = k.fresh in
      (c.0, c.1, c.2, λ other i. chosen_false (sees test (c.0 ++ other)) _ _ (sees_begins w test p q r s u (c.0 ++ other) (c.2 other i) ∙ e) ∙ c.3 other i));
  inside = choose_inside w test p q r s l.1.inside k.inside;
}

pub when_alive : {A : Type 0} {w : Word} {p q r s : Rule A} (b : Bool) → Alive p q w → Alive r s w → Alive (when b p r) (when b q s) w
when_alive true k l = k
when_alive false k l = l

pub when_live : {A : Type 0} {u w : Word} {p q r s : Rule A} (b : Bool) → Live u p q w → Live u r s w → Live u (when b p r) (when b q s) w
when_live true k l = k
when_live false k l = l

-- a choice whose test no word passes
never : {A : Type 0} (p r : Rule A) (ws : Words) → read (choose (λ x. false) p r) ws ≡ read r ws
unfolding sees
never p r [] = refl
never p r (v ∷ vs) = refl

pub choose_never : {A : Type 0} {u w : Word} {p q r s : Rule A} → Live u r s w → Live u (choose (λ x. false) p r) (choose (λ x. false) q s) w
choose_never {w = w} {p = p} {q = q} {r = r} {s = s} k = record {
  kept = λ ws. never_kept ws;
  fresh = (let c = k.fresh in (c.0, c.1, c.2, λ other i. never q s (c.0 ++ other) ∙ c.3 other i));
  inside = λ v vs o. (let c = k.inside v vs (subst IsOpen (never p r (v ∷ vs)) o) in (c.0, c.1, λ other i. never q s ((v ∷ vs) ++ (c.0 ++ other)) ∙ c.2 other i));
}
  where
    never_kept : (ws : Words) → Kept (read (choose (λ x. false) p r) ws) (read (choose (λ x. false) q s) ws)
    never_kept ws = subst (λ t. Kept t (read (choose (λ x. false) q s) ws)) (sym (never p r ws)) (subst (λ t. Kept (read r ws) t) (sym (never q s ws)) (k.kept ws))

-- ---- loops

module _ {A : Type 0} (n m : ℕ) (test : A → Word → Bool) (body other_body : A → Word × ℕ → Rule A) (w : Word) (room : Room n m) (ends : (b : A) → test b w ≡ false)
    (bodies : (b : A) (x : Word × ℕ) → test b x.0 ≡ true → Alive (body b x) (other_body b x) w) where
  abbrev short : A → Rule A
  short b = loop n test body b

  abbrev long : A → Rule A
  long b = loop m test other_body b

  -- the rest of a turn, and the turns behind it
  abbrev short_turn : A → Word × ℕ → Rule A
  short_turn b x = both (body b x) short

  abbrev long_turn : A → Word × ℕ → Rule A
  long_turn b x = both (other_body b x) long

  long_ends : (b : A) (ws : Words) → Begins w ws → read (long b) ws ≡ Ok (b, ws)
  long_ends b ws i = loop_done m test other_body b ws (sees_next (test b) ws (w, i.0) i.1 i.2 ∙ ends b)

  loop_fresh : (b : A) → Fresh w (long b) w
  loop_fresh b = ([], b, λ other i. i, λ other i. long_ends b other i)

  by_kept : (b : A) (ws : Words) (x : Bool) → sees (test b) ws ≡ x → ((c : A) (us : Words) → suc (length us) ≤ length ws → Kept (read (short c) us) (read (long c) us)) →
      Kept (read (short b) ws) (read (long b) ws)
  by_kept b ws false e again =
      subst (λ r. Kept r (read (long b) ws)) (sym (loop_done n test body b ws e)) (loop_done m test other_body b ws e)
  by_kept b ws true e again =
      subst (λ r. Kept r (read (long b) ws)) (sym (loop_again n test body b ws e))
      (subst (λ r. Kept (and_then (read_word n (test b) ws) (λ x vs. read (short_turn b x) vs)) r) (sym (loop_again m test other_body b ws e))
      (kept_then (read_word n (test b) ws) (read_word m (test b) ws) _ _ (word_kept n m (test b) ws room)
      (λ y f. kept_then (read (body b y.0) y.1) (read (other_body b y.0) y.1) _ _ ((bodies b y.0 (word_passes n (test b) ws y.0 y.1 f)).1.kept y.1)
      (λ z g. again z.0 z.1 (omega (arith, word_takes n (test b) ws y.0 y.1 f, read_shorter (body b y.0) y.1 z.0 z.1 g))))))

  loop_kept : (k : ℕ) (b : A) (ws : Words) → length ws ≤ k → Kept (read (short b) ws) (read (long b) ws)
  loop_kept zero b ws h = by_kept b ws (sees (test b) ws) refl (λ c us less. absurd (omega arith))
  loop_kept (suc k) b ws h = by_kept b ws (sees (test b) ws) refl (λ c us less. loop_kept k c us (omega arith))

  -- the words of a turn are completed where those behind it are
  turn_completed : (b : A) (v : Word × ℕ) (vs : Words) → test b v.0 ≡ true → Completed (long_turn b v) w vs → Completed (long b) w (v ∷ vs)
  turn_completed b v vs e c = (
    c.0,
    c.1,
    λ other i.
        loop_again m test other_body b (v ∷ (vs ++ (c.0 ++ other))) (sees_next (test b) (v ∷ (vs ++ (c.0 ++ other))) v (vs ++ (c.0 ++ other)) refl ∙ e)
        ∙ ap (λ r. and_then r (λ x us. read (long_turn b x) us)) (word_right m (test b) (v ∷ (vs ++ (c.0 ++ other))) v (vs ++ (c.0 ++ other)) room.1 refl e)
        ∙ c.2 other i,
  )

  turn_inside : (b : A) (v : Word × ℕ) (vs : Words) → test b v.0 ≡ true → IsOpen (read (short_turn b v) vs) →
      ((c : A) (x : Word × ℕ) (xs : Words) → suc (length xs) ≤ length vs → IsOpen (read (short c) (x ∷ xs)) → Completed (long c) w (x ∷ xs)) → Completed (long_turn b v) w vs
  turn_inside b v [] e o again =
      let c = both_fresh (body b v) (other_body b v) short long w (bodies b v e).0 w (bodies b v e).1.fresh loop_fresh in (c.0, c.1, λ other i. c.3 other i)
  turn_inside b v (y ∷ ys) e o again =
      both_inside (body b v) (other_body b v) short long w w (y ∷ ys) (bodies b v e).1.kept loop_fresh ((bodies b v e).1.inside y ys)
      (λ c x xs f i. again c x xs (omega (arith, read_shorter (body b v) (y ∷ ys) c (x ∷ xs) f)) i) o

  by_inside : (b : A) (v : Word × ℕ) (vs : Words) (x : Bool) → sees (test b) (v ∷ vs) ≡ x → IsOpen (read (short b) (v ∷ vs)) →
      ((c : A) (y : Word × ℕ) (ys : Words) → suc (length ys) ≤ length vs → IsOpen (read (short c) (y ∷ ys)) → Completed (long c) w (y ∷ ys)) → Completed (long b) w (v ∷ vs)
  by_inside b v vs false e o again = absurd (subst IsOpen (loop_done n test body b (v ∷ vs) e) o)
  by_inside b v vs true e o again =
      let t = word_goes n (test b) v vs (λ x us. read (short_turn b x) us) (subst IsOpen (loop_again n test body b (v ∷ vs) e) o) in
      turn_completed b v vs t.0 (turn_inside b v vs t.0 t.1 again)

  loop_inside : (k : ℕ) (b : A) (v : Word × ℕ) (vs : Words) → length vs ≤ k → IsOpen (read (short b) (v ∷ vs)) → Completed (long b) w (v ∷ vs)
  loop_inside zero b v vs h o = by_inside b v vs (sees (test b) (v ∷ vs)) refl o (λ c y ys less. absurd (omega arith))
  loop_inside (suc k) b v vs h o = by_inside b v vs (sees (test b) (v ∷ vs)) refl o (λ c y ys less. loop_inside k c y ys (omega arith))

  pub loop_live : (a : A) → Live w (short a) (long a) w
  loop_live a = record {
    kept = λ ws. loop_kept (length ws) a ws (omega arith);
    fresh = loop_fresh a;
    inside = λ v vs o. loop_inside (length vs) a v vs (omega arith) o;
  }

-- ---- where no level is left

-- a rule refuses each word that does not pass a test, and asks for one where the words end
pub record Refuses {A : Type 0} (test : Word → Bool) (q : Rule A) : Type 0 where
  pub at_end : read q [] ≡ Err ended
  pub at_word : (w : Word × ℕ) (ws : Words) → test w.0 ≡ false → read q (w ∷ ws) ≡ Err (unexpected w.1)

module _ {A : Type 0} (test : Word → Bool) (f : Word × ℕ → A) where
  none_kept : (q : Rule A) → Refuses test q → (ws : Words) → Kept (read (f <$> word 0 test) ws) (read q ws)
  unfolding read_word
  none_kept q r [] = r.at_end
  none_kept q r (w ∷ ws) = by (test w.0) refl
    where
      by : (b : Bool) → test w.0 ≡ b → Kept (and_then (elim b as (λ _. Read (Word × ℕ)) [ true ↦ Err (too_nested w.1) | false ↦ Err (unexpected w.1) ]) (λ x us. Ok (f x, us))) (read q (w ∷ ws))
      by true e = tt
      by false e = r.at_word w ws e

  none_open : (v : Word × ℕ) (vs : Words) → IsOpen (read (f <$> word 0 test) (v ∷ vs)) → ⊥
  unfolding read_word
  none_open v vs o = by (test v.0) o
    where
      by : (b : Bool) → IsOpen (and_then (elim b as (λ _. Read (Word × ℕ)) [ true ↦ Err (too_nested v.1) | false ↦ Err (unexpected v.1) ]) (λ x us. Ok (f x, us))) → ⊥
      by true o = o
      by false o = o

  -- the rule without levels takes no word
  pub none_live : {u w : Word} {q : Rule A} → Fresh u q w → Refuses test q → Live u (f <$> word 0 test) q w
  none_live {q = q} c r = record {
    kept = none_kept q r;
    fresh = c;
    inside = λ v vs o. absurd (none_open v vs o);
  }

  -- so one that is read has levels
  pub reached : (n : ℕ) (ws : Words) (y : A × Words) → read (f <$> word n test) ws ≡ Ok y → 0 < n
  unfolding read_word
  reached (suc n) ws y e = omega arith
  reached zero [] y e = absurd cc
  reached zero (w ∷ ws) y e = by (test w.0) e
    where
      by : (b : Bool) → and_then (elim b as (λ _. Read (Word × ℕ)) [ true ↦ Err (too_nested w.1) | false ↦ Err (unexpected w.1) ]) (λ x us. Ok (f x, us)) ≡ Ok y → 0 < 0
      by true e = absurd cc
      by false e = absurd cc

pub word_reached : (n : ℕ) (test : Word → Bool) (ws : Words) (y : (Word × ℕ) × Words) → read_word n test ws ≡ Ok y → 0 < n
word_reached n test ws y e = reached test (λ x. x) n ws y (ap (λ r. and_then r (λ x us. Ok (x, us))) e)
