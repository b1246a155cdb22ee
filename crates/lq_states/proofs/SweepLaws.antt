-- Goals leave the lists only where one of them got a value since they were last looked through.
use Rattle.std.specs.Prelude.{not, slice_get}
use Rattle.std.proofs.Common.{◌≡◌, ◌≤◌, ◌<◌, ◌+◌, ◌-◌, ◌∙◌, ℕ, zero, suc, refl, sym, ap, ap₂, arith, eqb, eq-eqb, Bool, true, false, List, [], ◌∷◌, ◌++◌, length, take, drop, Option, Some, None, Ok}
use Rattle.lq_trees.specs.Tree.{Tree}
use Rattle.lq_solving.specs.Stores.{Store, Variable, Assigned, count, find_value, value, has_value, is_open, with_variable, with_value, with_kind}
use Rattle.lq_solving.proofs.Later.{Later, now, given_later}
use Rattle.lq_states.specs.Goals.{Frame, Proof, with_lists, with_store, has, without, still_open, open_frames, swept, refocused, has_each, shelve}
use Rattle.lq_states.specs.Kept.{times, behind_all, listed_goals, IsListed, MayReplace, IsProof, IsSwept, oldest}
use Rattle.lq_states.proofs.ListLaws.{times_append, times_without, has_stands, lacks_none}
use Rattle.lq_states.proofs.KeptLaws.{times_listed, open_inside, exchanged, few}
use Rattle.lq_states.proofs.FrameLaws.{each_has, shelved_so}

-- the first of two
abbrev pub or_then : Option Tree → Option Tree → Option Tree
or_then None o = o
or_then (Some t) o = Some t

-- a value is found among the newest, or among the others
pub found_split : (n : ℕ) (as_ : List Assigned) (k : ℕ) → find_value as_ k ≡ or_then (find_value (take n as_) k) (find_value (drop n as_) k)
unfolding find_value
found_split zero as_ k = refl
found_split (suc n) [] k = refl
found_split (suc n) (a ∷ as_) k = go (eqb a.id k) (found_split n as_ k)
  where
    go : (b : Bool) → find_value as_ k ≡ or_then (find_value (take n as_) k) (find_value (drop n as_) k) →
        elim b as (λ z. Option Tree) [ true ↦ Some a.body | false ↦ find_value as_ k ]
        ≡ or_then (elim b [ true ↦ Some a.body | false ↦ find_value (take n as_) k ]) (find_value (drop n as_) k)
    go true e = refl
    go false e = e

-- a list whose goals have no value stays
pub all_open : (s : Store) (js : List ℕ) → ((k : ℕ) → 1 ≤ times js k → has_value s k ≡ false) → still_open s js ≡ js
unfolding still_open times
all_open s [] h = refl
all_open s (j ∷ js) h = go (has_value s j) (here (eqb j j) (eq-eqb j j refl) (h j)) (all_open s js (λ k l. h k (there (eqb j k) k l)))
  where
    here : (b : Bool) → b ≡ true → (1 ≤ elim b [ true ↦ 1 + times js j | false ↦ times js j ] → has_value s j ≡ false) → has_value s j ≡ false
    here true e f = f (omega arith)
    here false e f = absurd cc

    there : (b : Bool) (k : ℕ) → 1 ≤ times js k → 1 ≤ elim b [ true ↦ 1 + times js k | false ↦ times js k ]
    there true k l = omega (arith, l)
    there false k l = l

    go : (b : Bool) → b ≡ false → still_open s js ≡ js → elim b as (λ z. List ℕ) [ true ↦ still_open s js | false ↦ j ∷ still_open s js ] ≡ j ∷ js
    go true e f = absurd cc
    go false e f = ap (λ z. j ∷ z) f

pub all_frames_open : (s : Store) (fs : List Frame) → ((k : ℕ) → 1 ≤ times (behind_all fs) k → has_value s k ≡ false) → open_frames s fs ≡ fs
unfolding open_frames behind_all
all_frames_open s [] h = refl
all_frames_open s (f ∷ fs) h =
    ap₂ (λ js gs. record { mark = f.mark; behind = js } ∷ gs)
    (all_open s f.behind (λ k l. h k (omega (arith, times_append f.behind (behind_all fs) k, l))))
    (all_frames_open s fs (λ k l. h k (omega (arith, times_append f.behind (behind_all fs) k, l))))

-- a variable without a value has none
open_valueless : (s : Store) (k : ℕ) → is_open s k ≡ true → has_value s k ≡ false
unfolding is_open
open_valueless s k e = by (slice_get s.variables k) (has_value s k) e
  where
    by : (o : Option Variable) (b : Bool) → elim o as (λ z. Bool) [ None ↦ false | Some v ↦ not b ] ≡ true → b ≡ false
    by None b f = absurd (grind (arith, f))
    by (Some v) false f = refl
    by (Some v) true f = absurd (grind (arith, f))

-- lists that are the same make the same proof
lists : (p : Proof) {js ks : List ℕ} {fs gs : List Frame} {ms ns : List ℕ} → js ≡ ks → fs ≡ gs → ms ≡ ns → with_lists p js fs ms ≡ with_lists p ks gs ns
lists p {ks = ks} {fs = fs} {gs = gs} {ms = ms} e f g = ap (λ z. with_lists p z fs ms) e ∙ ap (λ z. with_lists p ks z ms) f ∙ ap (with_lists p ks gs) g

-- no value among the newest is one of a goal that stays in the lists
abbrev pub IsQuiet : Proof → List ℕ → ℕ → ℕ → Type 0
IsQuiet p taken given seen = (k : ℕ) (b : Tree) → k < seen → find_value (take (length p.store.values - given) p.store.values) k ≡ Some b → has taken k ≡ true

module _ (p : Proof) (taken left shelved : List ℕ) (given seen : ℕ) (h : IsListed p) (r : MayReplace p taken left shelved) (w : IsSwept p given seen) (q : IsQuiet p taken given seen) where
  -- a goal that stays has no value
  stays : (k : ℕ) → 1 ≤ times (listed_goals p) k → has taken k ≡ false → has_value p.store k ≡ false
  unfolding has_value value
  stays k l e =
      let newest = length p.store.values - given in
      by (find_value (take newest p.store.values) k) refl (found_split newest p.store.values k) (w.valueless k l)
    where
      by : (o : Option Tree) → find_value (take (length p.store.values - given) p.store.values) k ≡ o →
          find_value p.store.values k ≡ or_then (find_value (take (length p.store.values - given) p.store.values) k) (find_value (oldest given p.store.values) k) →
          find_value (oldest given p.store.values) k ≡ None → elim (find_value p.store.values k) as (λ z. Bool) [ None ↦ false | Some b ↦ true ] ≡ false
      by (Some b) i f g = absurd (grind (arith, q k b (w.inside k l) i, e))
      by None i f g = ap (λ o. elim o as (λ z. Bool) [ None ↦ false | Some b ↦ true ]) (f ∙ ap₂ or_then i g)

  given_open : (k : ℕ) → 1 ≤ times left k + times shelved k → has_value p.store k ≡ false
  given_open k l = open_valueless p.store k (r.valueless k l)

  -- no goal of the new lists has a value
  valueless : (m : ℕ) → 1 ≤ times (listed_goals (exchanged p taken left shelved h r)) m → has_value p.store m ≡ false
  valueless m l = by (times left m + times shelved m) refl
    where
      old : (b : Bool) → has taken m ≡ b → times (without taken p.focus) m ≡ elim b [ true ↦ 0 | false ↦ times p.focus m ] →
          times (without taken p.shelf) m ≡ elim b [ true ↦ 0 | false ↦ times p.shelf m ] → times left m + times shelved m ≡ 0 → has_value p.store m ≡ false
      old true e c d f =
          absurd (omega (arith, few p taken left shelved h r m, l, c, d, f, times_listed p m, h.once m, r.there m (has_stands taken m e)))
      old false e c d f = stays m (omega (arith, few p taken left shelved h r m, l, c, d, f, times_listed p m)) e

      by : (n : ℕ) → times left m + times shelved m ≡ n → has_value p.store m ≡ false
      by zero f = old (has taken m) refl (times_without taken p.focus m) (times_without taken p.shelf m) f
      by (suc n) f = given_open m (omega (arith, f))

  listed : (m : ℕ) → times (listed_goals (exchanged p taken left shelved h r)) m
      ≡ times (refocused taken left p.focus) m + (times (behind_all p.frames) m + times (without taken p.shelf ++ shelved) m)
  listed m = times_listed (exchanged p taken left shelved h r) m

  -- so none leaves
  pub nothing_leaves : swept (exchanged p taken left shelved h r) ≡ exchanged p taken left shelved h r
  unfolding swept
  nothing_leaves =
      lists p (all_open p.store (refocused taken left p.focus) (λ k l. valueless k (omega (arith, l, listed k))))
      (all_frames_open p.store p.frames (λ k l. valueless k (omega (arith, l, listed k))))
      (all_open p.store (without taken p.shelf ++ shelved) (λ k l. valueless k (omega (arith, l, listed k))))

-- in a proof each goal of the lists is one of the store without a value
pub proof_swept : (p : Proof) → IsProof p → IsSwept p (length p.store.values) (count p.store)
unfolding has_value value
proof_swept p h = record {
  values = omega arith;
  inside = λ k l. open_inside p.store k (h.valueless k l);
  valueless = λ k l. found k (find_value p.store.values k) refl (open_valueless p.store k (h.valueless k l)) (omega (arith));
}
  where
    found : (k : ℕ) (o : Option Tree) → find_value p.store.values k ≡ o → has_value p.store k ≡ false → length p.store.values - length p.store.values ≡ 0 →
        find_value (oldest (length p.store.values) p.store.values) k ≡ None
    found k None e f n = ap (λ j. find_value (drop j p.store.values) k) n ∙ e
    found k (Some b) e f n = absurd (grind (arith, sym (ap (λ o. elim o as (λ z. Bool) [ None ↦ false | Some c ↦ true ]) e) ∙ f))

-- the oldest values stay where a value is given
oldest_more : (n : ℕ) (a : Assigned) (as_ : List Assigned) → n ≤ length as_ → oldest n (a ∷ as_) ≡ oldest n as_
oldest_more n a as_ l = ap (λ j. drop j (a ∷ as_)) (more (omega (arith, l)))
  where
    more : suc (length as_) - n ≡ suc (length as_ - n) → suc (length as_) - n ≡ suc (length as_ - n)
    more e = e

pub swept_later : (p : Proof) (given seen : ℕ) {s : Store} → Later p.store s → IsSwept p given seen → IsSwept (with_store p s) given seen
unfolding with_value listed_goals
swept_later p given seen now w = w
swept_later p given seen (given_later {s1} l k b may) w =
    let v = swept_later p given seen l w in
    record {
      values = omega (arith, v.values);
      inside = v.inside;
      valueless = λ j m. ap (λ as_. find_value as_ j) (oldest_more given (record { id = k; body = b }) s1.values v.values) ∙ v.valueless j m;
    }

-- and where a variable is made, or gets another type
pub swept_more : (p : Proof) (given seen : ℕ) (v : Variable) → IsSwept p given seen → IsSwept (with_store p (with_variable p.store v)) given seen
unfolding with_variable listed_goals
swept_more p given seen v w = record { values = w.values; inside = w.inside; valueless = w.valueless }

pub swept_kind : (p : Proof) (given seen k : ℕ) (A : Tree) → IsSwept p given seen → IsSwept (with_store p (with_kind p.store k A)) given seen
unfolding with_kind listed_goals
swept_kind p given seen k A w = record { values = w.values; inside = w.inside; valueless = w.valueless }

-- and in other lists, in which no goal stands that stood in none
pub swept_among : (p : Proof) (given seen : ℕ) (focus : List ℕ) (frames : List Frame) (shelf : List ℕ) → IsSwept p given seen →
    ((m : ℕ) → 1 ≤ times (listed_goals (with_lists p focus frames shelf)) m → 1 ≤ times (listed_goals p) m) → IsSwept (with_lists p focus frames shelf) given seen
swept_among p given seen focus frames shelf w f = record { values = w.values; inside = λ k l. w.inside k (f k l); valueless = λ k l. w.valueless k (f k l) }

-- so where goals are shelved
pub swept_shelved : (p q : Proof) (given seen : ℕ) (ks : List ℕ) → IsSwept p given seen → shelve p ks ≡ Ok q → IsSwept q given seen
swept_shelved p q given seen ks w = shelved_so (λ z. IsSwept z given seen) p q ks (λ f. swept_among p given seen (without ks p.focus) p.frames (p.shelf ++ ks) w (among f))
  where
    among : has_each p.focus ks ≡ true → (m : ℕ) → 1 ≤ times (listed_goals (with_lists p (without ks p.focus) p.frames (p.shelf ++ ks))) m → 1 ≤ times (listed_goals p) m
    among f m l = go (has ks m) refl (times_without ks p.focus m)
      where
        now : times (listed_goals (with_lists p (without ks p.focus) p.frames (p.shelf ++ ks))) m ≡ times (without ks p.focus) m + (times (behind_all p.frames) m + times (p.shelf ++ ks) m)
        now = times_listed (with_lists p (without ks p.focus) p.frames (p.shelf ++ ks)) m

        go : (b : Bool) → has ks m ≡ b → times (without ks p.focus) m ≡ elim b [ true ↦ 0 | false ↦ times p.focus m ] → 1 ≤ times (listed_goals p) m
        go true i j = omega (arith, times_listed p m, each_has p.focus ks m f (has_stands ks m i))
        go false i j = omega (arith, times_listed p m, l, now, j, times_append p.shelf ks m, lacks_none ks m i)
