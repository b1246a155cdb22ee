-- Each call on a proof keeps that no variable stands twice in its lists, and that none there has a value.
use Rattle.std.proofs.Common.{◌≡◌, ◌≤◌, ◌<◌, ◌+◌, ◌*◌, ℕ, zero, suc, refl, sym, ◌∙◌, ap, arith, eqb, leb, Bool, true, false, not, ◌||◌, List, [], ◌∷◌, ◌++◌, length, Option, Some, None, Result, Ok, Err, ◌⊎◌, inl, inr, get_or}
use Rattle.std.proofs.Common.{subst as along}
use Rattle.std.specs.Prelude.{slice_get}
use Rattle.std.proofs.lemmas.Option.{slice_get_within, slice_get_cases}
use Rattle.std.proofs.lemmas.Bool.{eq-eqb}
use Rattle.lq_solving.specs.Stores.{Store, Variable, has_value, is_open, count}
use Rattle.lq_states.specs.Goals.{Frame, Proof, GoalFault, with_lists, has, without, still_open, open_frames, swept, within_goals, refocused, placed, replaced}
use Rattle.lq_states.specs.Kept.{times, behind_all, listed_goals, IsListed, MayReplace, IsProof}
use Rattle.lq_states.proofs.ListLaws.{times_append, has_stands, lacks_none, times_without, times_open, times_placed}

-- how often a variable stands in the lists
pub times_listed : (p : Proof) (m : ℕ) → times (listed_goals p) m ≡ times p.focus m + (times (behind_all p.frames) m + times p.shelf m)
unfolding listed_goals
times_listed p m = omega (arith, times_append (p.focus ++ behind_all p.frames) p.shelf m, times_append p.focus (behind_all p.frames) m)

-- where a list has no element it has ended
get_none : {A : Type 0} (xs : List A) (k : ℕ) → slice_get xs k ≡ None → length xs ≤ k
get_none {A = A} xs k e = by (slice_get_cases xs k).1
  where
    by : ((x : A) × (k < length xs) × (slice_get xs k ≡ Some x) × (get_or xs k x ≡ x)) ⊎ ((length xs ≤ k) × (slice_get xs k ≡ None)) → length xs ≤ k
    by (inl h) = absurd (grind (arith, sym e ∙ h.2))
    by (inr h) = h.0

-- a variable without a value is in the store, and one of the store without a value is one
pub open_inside : (s : Store) (k : ℕ) → is_open s k ≡ true → k < count s
unfolding is_open
open_inside s k e = by (slice_get s.variables k) refl e
  where
    by : (o : Option Variable) → slice_get s.variables k ≡ o → elim o as (λ z. Bool) [ None ↦ false | Some v ↦ not (has_value s k) ] ≡ true → k < count s
    by None p f = absurd (grind (arith, f))
    by (Some v) p f = slice_get_within s.variables k v p

pub inside_open : (s : Store) (k : ℕ) → k < count s → has_value s k ≡ false → is_open s k ≡ true
unfolding is_open
inside_open s k l e = by (slice_get s.variables k) refl
  where
    by : (o : Option Variable) → slice_get s.variables k ≡ o → elim o as (λ z. Bool) [ None ↦ false | Some v ↦ not (has_value s k) ] ≡ true
    by None p = absurd (omega (arith, l, get_none s.variables k p))
    by (Some v) p = ap not e

-- ---- a goal that has a value leaves every list

times_frames : (s : Store) (fs : List Frame) (m : ℕ) → times (behind_all (open_frames s fs)) m ≡ elim (has_value s m) [ true ↦ 0 | false ↦ times (behind_all fs) m ]
unfolding behind_all open_frames times
times_frames s [] m = go (has_value s m)
  where
    go : (b : Bool) → 0 ≡ elim b as (λ z. ℕ) [ true ↦ 0 | false ↦ 0 ]
    go true = refl
    go false = refl
times_frames s (f ∷ fs) m =
    times_append (still_open s f.behind) (behind_all (open_frames s fs)) m ∙ go (has_value s m) (times_open s f.behind m) (times_frames s fs m)
  where
    go : (b : Bool) → times (still_open s f.behind) m ≡ elim b [ true ↦ 0 | false ↦ times f.behind m ] →
        times (behind_all (open_frames s fs)) m ≡ elim b [ true ↦ 0 | false ↦ times (behind_all fs) m ] →
        times (still_open s f.behind) m + times (behind_all (open_frames s fs)) m ≡ elim b [ true ↦ 0 | false ↦ times (f.behind ++ behind_all fs) m ]
    go true d e = omega (arith, d, e)
    go false d e = omega (arith, d, e, times_append f.behind (behind_all fs) m)

times_swept : (p : Proof) (m : ℕ) → times (listed_goals (swept p)) m ≡ elim (has_value p.store m) [ true ↦ 0 | false ↦ times (listed_goals p) m ]
unfolding swept
times_swept p m =
    times_listed (swept p) m ∙ go (has_value p.store m) (times_open p.store p.focus m) (times_frames p.store p.frames m) (times_open p.store p.shelf m)
  where
    go : (b : Bool) → times (still_open p.store p.focus) m ≡ elim b [ true ↦ 0 | false ↦ times p.focus m ] →
        times (behind_all (open_frames p.store p.frames)) m ≡ elim b [ true ↦ 0 | false ↦ times (behind_all p.frames) m ] →
        times (still_open p.store p.shelf) m ≡ elim b [ true ↦ 0 | false ↦ times p.shelf m ] →
        times (still_open p.store p.focus) m + (times (behind_all (open_frames p.store p.frames)) m + times (still_open p.store p.shelf) m)
        ≡ elim b [ true ↦ 0 | false ↦ times (listed_goals p) m ]
    go true c d e = omega (arith, c, d, e)
    go false c d e = omega (arith, c, d, e, times_listed p m)

pub swept_kept : (p : Proof) → IsListed p → IsProof (swept p)
unfolding swept
swept_kept p h = record {
  rooted = h.rooted;
  once = λ k. once k (has_value p.store k) (times_swept p k);
  valueless = λ k l. valueless k (has_value p.store k) refl (times_swept p k) l;
}
  where
    once : (k : ℕ) (b : Bool) → times (listed_goals (swept p)) k ≡ elim b [ true ↦ 0 | false ↦ times (listed_goals p) k ] → times (listed_goals (swept p)) k ≤ 1
    once k true e = omega (arith, e)
    once k false e = omega (arith, e, h.once k)

    valueless : (k : ℕ) (b : Bool) → has_value p.store k ≡ b → times (listed_goals (swept p)) k ≡ elim b [ true ↦ 0 | false ↦ times (listed_goals p) k ] →
        1 ≤ times (listed_goals (swept p)) k → is_open p.store k ≡ true
    valueless k true v e l = absurd (omega (arith, e, l))
    valueless k false v e l = inside_open p.store k (h.inside k (omega (arith, e, l))) v

-- a proof that keeps within the limit is the one that was looked at
pub within_is : (p q : Proof) → within_goals p ≡ Ok q → p ≡ q
unfolding within_goals
within_is p q e = by (leb (length p.focus) 10000) e
  where
    by : (b : Bool) → elim b as (λ z. Result Proof GoalFault) [ true ↦ Ok p | false ↦ Err GoalFault.too_many_goals ] ≡ Ok q → p ≡ q
    by true f = grind (arith, f)
    by false f = absurd (grind (arith, f))

-- ---- goals in the place of others

-- the goals left stand there once at most
pub times_refocused : (taken left focus : List ℕ) → ((k : ℕ) → times focus k ≤ 1) → (m : ℕ) →
    times (refocused taken left focus) m ≤ times left m + times (without taken focus) m
unfolding refocused has
times_refocused [] left focus h m = omega (arith, times_without [] focus m)
times_refocused (k ∷ ks) left focus h m = by (has focus k)
  where
    taken : has (k ∷ ks) k ≡ true
    taken = go (eqb k k) (eq-eqb k k refl)
      where
        go : (b : Bool) → b ≡ true → b || has ks k ≡ true
        go true e = refl
        go false e = absurd (grind (arith, e))

    by : (b : Bool) → times (elim b [ true ↦ placed k (k ∷ ks) left focus | false ↦ left ++ without (k ∷ ks) focus ]) m ≤ times left m + times (without (k ∷ ks) focus) m
    by true = go (times focus k) (h k) (times_placed k (k ∷ ks) left focus m taken)
      where
        go : (n : ℕ) → n ≤ 1 → times (placed k (k ∷ ks) left focus) m ≡ n * times left m + times (without (k ∷ ks) focus) m →
            times (placed k (k ∷ ks) left focus) m ≤ times left m + times (without (k ∷ ks) focus) m
        go zero l e = omega (arith, e)
        go (suc zero) l e = omega (arith, e)
        go (suc (suc n)) l e = absurd (omega (arith, l))
    by false = omega (arith, times_append left (without (k ∷ ks) focus) m)

module _ (p : Proof) (taken left shelved : List ℕ) (h : IsListed p) (r : MayReplace p taken left shelved) where
  -- the lists before goals with a value leave
  abbrev pub exchanged : Proof
  exchanged = with_lists p (refocused taken left p.focus) p.frames (without taken p.shelf ++ shelved)

  focus_once : (k : ℕ) → times p.focus k ≤ 1
  focus_once k = omega (arith, times_listed p k, h.once k)

  pub few : (m : ℕ) → times (listed_goals exchanged) m ≤ times left m + times shelved m + times (without taken p.focus) m + times (behind_all p.frames) m + times (without taken p.shelf) m
  few m = omega (arith, times_listed exchanged m, times_refocused taken left p.focus focus_once m, times_append (without taken p.shelf) shelved m)

  once : (m : ℕ) → times (listed_goals exchanged) m ≤ 1
  once m = by (has taken m) refl (times_without taken p.focus m) (times_without taken p.shelf m)
    where
      by : (b : Bool) → has taken m ≡ b → times (without taken p.focus) m ≡ elim b [ true ↦ 0 | false ↦ times p.focus m ] →
          times (without taken p.shelf) m ≡ elim b [ true ↦ 0 | false ↦ times p.shelf m ] → times (listed_goals exchanged) m ≤ 1
      by true e c d = omega (arith, few m, c, d, times_listed p m, h.once m, r.once m, r.there m (has_stands taken m e))
      by false e c d = go (times left m + times shelved m) refl
        where
          go : (n : ℕ) → times left m + times shelved m ≡ n → times (listed_goals exchanged) m ≤ 1
          go zero f = omega (arith, few m, c, d, f, times_listed p m, h.once m)
          go (suc n) f = none (times (listed_goals p) m) refl
            where
              none : (l : ℕ) → times (listed_goals p) m ≡ l → times (listed_goals exchanged) m ≤ 1
              none zero g = omega (arith, few m, c, d, g, times_listed p m, r.once m)
              none (suc l) g = absurd (omega (arith, r.apart m (omega (arith, f)) (omega (arith, g)), lacks_none taken m e))

  inside : (m : ℕ) → 1 ≤ times (listed_goals exchanged) m → m < count p.store
  inside m l = go (times left m + times shelved m) refl
    where
      within : times (without taken p.focus) m ≤ times p.focus m
      within = by (has taken m) (times_without taken p.focus m)
        where
          by : (b : Bool) → times (without taken p.focus) m ≡ elim b [ true ↦ 0 | false ↦ times p.focus m ] → times (without taken p.focus) m ≤ times p.focus m
          by true e = omega (arith, e)
          by false e = omega (arith, e)

      behind : times (without taken p.shelf) m ≤ times p.shelf m
      behind = by (has taken m) (times_without taken p.shelf m)
        where
          by : (b : Bool) → times (without taken p.shelf) m ≡ elim b [ true ↦ 0 | false ↦ times p.shelf m ] → times (without taken p.shelf) m ≤ times p.shelf m
          by true e = omega (arith, e)
          by false e = omega (arith, e)

      go : (n : ℕ) → times left m + times shelved m ≡ n → m < count p.store
      go zero f = h.inside m (omega (arith, few m, l, f, within, behind, times_listed p m))
      go (suc n) f = open_inside p.store m (r.valueless m (omega (arith, f)))

  pub replaced_kept : (q : Proof) → replaced p taken left shelved ≡ Ok q → IsProof q
  unfolding replaced
  replaced_kept q e = along IsProof (within_is (swept exchanged) q e) (swept_kept exchanged (record { rooted = h.rooted; once = once; inside = inside }))
