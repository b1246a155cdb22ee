-- Beginning, shelving, braces and bullets keep what holds of a proof's lists.
use Rattle.std.proofs.Common.{◌≡◌, ◌≤◌, ◌+◌, ℕ, zero, suc, refl, sym, ◌∙◌, ap, arith, eqb, eqb-true, Bool, true, false, ◌&&◌, ◌||◌, List, [], ◌∷◌, ◌++◌, length, Option, Some, None, Result, Ok, Err}
use Rattle.std.proofs.Common.{subst as along}
use Rattle.lq_trees.specs.Tree.{Tree, Context}
use Rattle.lq_solving.specs.Stores.{find_value, value, has_value, is_open, with_variable}
use Rattle.lq_states.specs.Goals.{Frame, Proof, GoalFault, with_lists, alone, has, without, within_goals, has_each, shelve, unshelve}
use Rattle.lq_states.specs.Frames.{brace, open_inside, nearest_brace, unbrace, same_bullet, has_frame, next_goal, resume_frame, open_frame, bullet}
use Rattle.lq_states.specs.Kept.{times, behind_all, listed_goals, AreDistinct, IsListed, IsProof}
use Rattle.lq_states.proofs.ListLaws.{times_append, has_stands, lacks_none, times_without}
use Rattle.lq_states.proofs.KeptLaws.{times_listed, within_is}

-- other lists in which nothing stands more often
fewer_kept : (p : Proof) (focus : List ℕ) (frames : List Frame) (shelf : List ℕ) → IsProof p →
    ((m : ℕ) → times focus m + (times (behind_all frames) m + times shelf m) ≤ times p.focus m + (times (behind_all p.frames) m + times p.shelf m)) →
    IsProof (with_lists p focus frames shelf)
fewer_kept p focus frames shelf h f = record {
  rooted = h.rooted;
  once = λ k. omega (arith, times_listed (with_lists p focus frames shelf) k, times_listed p k, f k, h.once k);
  valueless = λ k l. h.valueless k (omega (arith, times_listed (with_lists p focus frames shelf) k, times_listed p k, f k, l));
}

fewer_listed : (p : Proof) (focus : List ℕ) (frames : List Frame) (shelf : List ℕ) → IsListed p →
    ((m : ℕ) → times focus m + (times (behind_all frames) m + times shelf m) ≤ times p.focus m + (times (behind_all p.frames) m + times p.shelf m)) →
    IsListed (with_lists p focus frames shelf)
fewer_listed p focus frames shelf h f = record {
  rooted = h.rooted;
  once = λ k. omega (arith, times_listed (with_lists p focus frames shelf) k, times_listed p k, f k, h.once k);
  inside = λ k l. h.inside k (omega (arith, times_listed (with_lists p focus frames shelf) k, times_listed p k, f k, l));
}

-- ---- one goal

pub alone_kept : (g : Context) (A : Tree) → IsProof (alone g A)
unfolding alone listed_goals behind_all times is_open has_value value find_value with_variable
alone_kept g A = record {
  rooted = omega arith;
  once = λ k. one (eqb 0 k);
  valueless = λ k l. valueless k l;
}
  where
    one : (b : Bool) → elim b [ true ↦ 1 + 0 | false ↦ 0 ] ≤ 1
    one true = omega arith
    one false = omega arith

    valueless : (k : ℕ) → 1 ≤ elim (eqb 0 k) [ true ↦ 1 + 0 | false ↦ 0 ] → is_open (alone g A).store k ≡ true
    valueless zero l = refl
    valueless (suc k) l = absurd (grind (arith, l))

-- ---- the shelf

pub each_has : (js ks : List ℕ) (m : ℕ) → has_each js ks ≡ true → 1 ≤ times ks m → 1 ≤ times js m
unfolding has_each times
each_has js [] m e l = absurd (omega (arith, l))
each_has js (k ∷ ks) m e l = by (has js k) refl e (eqb k m) (λ f. ap (has js) (eqb-true k m f)) l (each_has js ks m)
  where
    by : (a : Bool) → has js k ≡ a → a && has_each js ks ≡ true → (b : Bool) → (b ≡ true → has js k ≡ has js m) → 1 ≤ elim b [ true ↦ 1 + times ks m | false ↦ times ks m ] →
        (has_each js ks ≡ true → 1 ≤ times ks m → 1 ≤ times js m) → 1 ≤ times js m
    by true p f true same l i = has_stands js m (sym (same refl) ∙ p)
    by true p f false same l i = i f l
    by false p f b same l i = absurd (grind (arith, f))

-- shelving puts no goal into the lists more often
shelved_few : (p : Proof) (ks : List ℕ) → AreDistinct ks → has_each p.focus ks ≡ true → (m : ℕ) →
    times (without ks p.focus) m + (times (behind_all p.frames) m + times (p.shelf ++ ks) m) ≤ times p.focus m + (times (behind_all p.frames) m + times p.shelf m)
shelved_few p ks distinct f m = go (has ks m) refl (times_without ks p.focus m)
  where
    go : (b : Bool) → has ks m ≡ b → times (without ks p.focus) m ≡ elim b [ true ↦ 0 | false ↦ times p.focus m ] →
        times (without ks p.focus) m + (times (behind_all p.frames) m + times (p.shelf ++ ks) m) ≤ times p.focus m + (times (behind_all p.frames) m + times p.shelf m)
    go true i j = omega (arith, j, times_append p.shelf ks m, distinct m, each_has p.focus ks m f (has_stands ks m i))
    go false i j = omega (arith, j, times_append p.shelf ks m, lacks_none ks m i)

-- what holds of the lists after shelving, where it is shown of those lists
pub shelved_so : (P : Proof → Type 0) (p q : Proof) (ks : List ℕ) → (has_each p.focus ks ≡ true → P (with_lists p (without ks p.focus) p.frames (p.shelf ++ ks))) → shelve p ks ≡ Ok q → P q
unfolding shelve
shelved_so P p q ks h e = by (has_each p.focus ks) refl e
  where
    by : (b : Bool) → has_each p.focus ks ≡ b →
        elim b as (λ z. Result Proof GoalFault) [ true ↦ Ok (with_lists p (without ks p.focus) p.frames (p.shelf ++ ks)) | false ↦ Err GoalFault.nothing_focused ] ≡ Ok q → P q
    by true f i = along P (grind (arith, i)) (h f)
    by false f i = absurd (grind (arith, i))

pub shelve_kept : (p q : Proof) (ks : List ℕ) → IsProof p → AreDistinct ks → shelve p ks ≡ Ok q → IsProof q
shelve_kept p q ks h distinct = shelved_so IsProof p q ks (λ f. fewer_kept p (without ks p.focus) p.frames (p.shelf ++ ks) h (shelved_few p ks distinct f))

pub shelve_listed : (p q : Proof) (ks : List ℕ) → IsListed p → AreDistinct ks → shelve p ks ≡ Ok q → IsListed q
shelve_listed p q ks h distinct = shelved_so IsListed p q ks (λ f. fewer_listed p (without ks p.focus) p.frames (p.shelf ++ ks) h (shelved_few p ks distinct f))

pub unshelve_kept : (p q : Proof) → IsProof p → unshelve p ≡ Ok q → IsProof q
unfolding unshelve times
unshelve_kept p q h e =
    along IsProof (within_is (with_lists p (p.focus ++ p.shelf) p.frames []) q e)
    (fewer_kept p (p.focus ++ p.shelf) p.frames [] h (λ m. omega (arith, times_append p.focus p.shelf m)))

-- ---- braces

-- a goal of the list in the place of the others
first_apart : (k : ℕ) (js : List ℕ) (m : ℕ) → has js k ≡ true → times (k ∷ []) m + times (without (k ∷ []) js) m ≤ times js m
unfolding has times
first_apart k js m e = by (eqb k m) (λ f. ap (has js) (eqb-true k m f)) (times_without (k ∷ []) js m)
  where
    by : (b : Bool) → (b ≡ true → has js k ≡ has js m) → times (without (k ∷ []) js) m ≡ elim (b || false) [ true ↦ 0 | false ↦ times js m ] →
        elim b [ true ↦ 1 + 0 | false ↦ 0 ] + times (without (k ∷ []) js) m ≤ times js m
    by true same f = omega (arith, f, has_stands js m (sym (same refl) ∙ e))
    by false same f = omega (arith, f)

pub brace_kept : (p q : Proof) (k : ℕ) → IsProof p → brace p k ≡ Ok q → IsProof q
unfolding brace behind_all
brace_kept p q k h e = by (has p.focus k) refl e
  where
    frames : List Frame
    frames = record { mark = None; behind = without (k ∷ []) p.focus } ∷ p.frames

    by : (b : Bool) → has p.focus k ≡ b → elim b as (λ z. Result Proof GoalFault) [ false ↦ Err GoalFault.nothing_focused | true ↦ Ok (with_lists p (k ∷ []) frames p.shelf) ] ≡ Ok q → IsProof q
    by true f i =
        along IsProof (grind (arith, i)) (fewer_kept p (k ∷ []) frames p.shelf h (λ m. omega (arith, first_apart k p.focus m f, times_append (without (k ∷ []) p.focus) (behind_all p.frames) m)))
    by false f i = absurd (grind (arith, i))

-- what stands behind the nearest brace stood behind some frame
nearest_times : (fs : List Frame) (b : List ℕ × List Frame) → nearest_brace fs ≡ Some b → (m : ℕ) → times b.0 m + times (behind_all b.1) m ≤ times (behind_all fs) m
unfolding nearest_brace behind_all
nearest_times [] b e m = absurd (grind (arith, e))
nearest_times (f ∷ fs) b e m = by f.mark e (λ i. nearest_times fs b i m)
  where
    by : (o : Option (ℕ × ℕ)) → elim o as (λ z. Option (List ℕ × List Frame)) [ None ↦ Some (f.behind, fs) | Some c ↦ nearest_brace fs ] ≡ Some b →
        (nearest_brace fs ≡ Some b → times b.0 m + times (behind_all b.1) m ≤ times (behind_all fs) m) → times b.0 m + times (behind_all b.1) m ≤ times (f.behind ++ behind_all fs) m
    by None i again =
        let same : (f.behind, fs) ≡ b = grind (arith, i) in
        along (λ (z : List ℕ × List Frame). times z.0 m + times (behind_all z.1) m ≤ times (f.behind ++ behind_all fs) m) same (omega (arith, times_append f.behind (behind_all fs) m))
    by (Some c) i again = omega (arith, times_append f.behind (behind_all fs) m, again i)

pub unbrace_kept : (p q : Proof) → IsProof p → unbrace p ≡ Ok q → IsProof q
unfolding unbrace
unbrace_kept p q h e = by (nearest_brace p.frames) refl e
  where
    by : (o : Option (List ℕ × List Frame)) → nearest_brace p.frames ≡ o →
        elim o as (λ z. Result Proof GoalFault) [
          | None ↦ Err GoalFault.no_brace
          | Some b ↦ elim (length p.focus + open_inside p.frames) [
            | suc n ↦ Err (GoalFault.not_solved (suc n))
            | zero ↦ within_goals (with_lists p b.0 b.1 p.shelf)
          ]
        ] ≡ Ok q → IsProof q
    by None f i = absurd (grind (arith, i))
    by (Some b) f i = go (length p.focus + open_inside p.frames) i
      where
        go : (n : ℕ) → elim n as (λ z. Result Proof GoalFault) [ suc n ↦ Err (GoalFault.not_solved (suc n)) | zero ↦ within_goals (with_lists p b.0 b.1 p.shelf) ] ≡ Ok q → IsProof q
        go zero j = along IsProof (within_is (with_lists p b.0 b.1 p.shelf) q j) (fewer_kept p b.0 b.1 p.shelf h (λ m. omega (arith, nearest_times p.frames b f m)))
        go (suc n) j = absurd (grind (arith, j))

-- ---- bullets

-- the next goal of some frame takes the place of all frames before it
resumed : (p q : Proof) (b : ℕ × ℕ) (fs : List Frame) → IsProof p → ((m : ℕ) → times (behind_all fs) m ≤ times (behind_all p.frames) m) → resume_frame p b fs ≡ Ok q → IsProof q
unfolding resume_frame next_goal behind_all times
resumed p q b [] h l e = absurd (grind (arith, e))
resumed p q b (f ∷ fs) h l e = by f.mark e (resumed p q b fs h)
  where
    taken : (a : ℕ × ℕ) (k : ℕ) (ks : List ℕ) → f.behind ≡ k ∷ ks → (c : Bool) →
        elim c as (λ z. Result Proof GoalFault) [ true ↦ Ok (with_lists p (k ∷ []) (record { mark = Some a; behind = ks } ∷ fs) p.shelf) | false ↦ Err (GoalFault.wrong_bullet a) ] ≡ Ok q → IsProof q
    taken a k ks i true j =
        along IsProof (grind (arith, j))
        (fewer_kept p (k ∷ []) (record { mark = Some a; behind = ks } ∷ fs) p.shelf h (λ m. omega (arith, l m, times_append f.behind (behind_all fs) m, ap (λ z. times z m) i, times_append (k ∷ []) ks m, times_append ks (behind_all fs) m)))
    taken a k ks i false j = absurd (grind (arith, j))

    go : (((m : ℕ) → times (behind_all fs) m ≤ times (behind_all p.frames) m) → resume_frame p b fs ≡ Ok q → IsProof q) →
        (a : ℕ × ℕ) (ks : List ℕ) → f.behind ≡ ks → elim ks as (λ z. Result Proof GoalFault) [ [] ↦ resume_frame p b fs | k ∷ js ↦ next_goal p b a k js fs ] ≡ Ok q → IsProof q
    go again a [] i j = again (λ m. omega (arith, l m, times_append f.behind (behind_all fs) m)) j
    go again a (k ∷ ks) i j = taken a k ks i (same_bullet a b) j

    by : (o : Option (ℕ × ℕ)) → elim o as (λ z. Result Proof GoalFault) [ None ↦ Err GoalFault.nothing_focused | Some a ↦ elim f.behind [ [] ↦ resume_frame p b fs | k ∷ ks ↦ next_goal p b a k ks fs ] ] ≡ Ok q →
        (((m : ℕ) → times (behind_all fs) m ≤ times (behind_all p.frames) m) → resume_frame p b fs ≡ Ok q → IsProof q) → IsProof q
    by None i again = absurd (grind (arith, i))
    by (Some a) i again = go again a f.behind refl i

pub bullet_kept : (p q : Proof) (b : ℕ × ℕ) → IsProof p → bullet p b ≡ Ok q → IsProof q
unfolding bullet open_frame behind_all times
bullet_kept p q b h e = by p.focus refl e
  where
    frame : ℕ → List ℕ → Proof
    frame k ks = with_lists p (k ∷ []) (record { mark = Some b; behind = ks } ∷ p.frames) p.shelf

    opened : (k : ℕ) (ks : List ℕ) → p.focus ≡ k ∷ ks → (c : Bool) → elim c as (λ z. Result Proof GoalFault) [ true ↦ Err (GoalFault.not_solved (length (k ∷ ks))) | false ↦ Ok (frame k ks) ] ≡ Ok q → IsProof q
    opened k ks f true i = absurd (grind (arith, i))
    opened k ks f false i =
        along IsProof (grind (arith, i))
        (fewer_kept p (k ∷ []) (record { mark = Some b; behind = ks } ∷ p.frames) p.shelf h (λ m. omega (arith, ap (λ z. times z m) f, times_append (k ∷ []) ks m, times_append ks (behind_all p.frames) m)))

    by : (js : List ℕ) → p.focus ≡ js → elim js as (λ z. Result Proof GoalFault) [ [] ↦ resume_frame p b p.frames | k ∷ ks ↦ open_frame p b k ks ] ≡ Ok q → IsProof q
    by [] f i = resumed p q b p.frames h (λ m. omega arith) i
    by (k ∷ ks) f i = opened k ks f (has_frame b p.frames) i
