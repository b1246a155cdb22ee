-- What is held stays held: fewer choices, and a later machine.
use Rattle.std.proofs.Common.{◌≡◌, ◌≤◌, ◌<◌, ◌+◌, ◌⊎◌, inl, inr, ℕ, zero, suc, max, List, [], ◌∷◌, ◌++◌, length, take, slice_index_or, refl, sym, ap, subst, arith, le_trans}
use Rattle.std.proofs.lemmas.List.{length_push}
use Rattle.lq_stream.specs.Stepping.{Knowing, StaysKnown}
use Rattle.lq_stream.specs.declared.stacks.Link.{Link}
use Rattle.lq_stream.specs.declared.stacks.Choice.{Choice}
use Rattle.lq_stream.specs.declared.stacks.Choice.TheVariants.{Alternative, Otherwise, Lowering, Passed, NoSuccess, FirstSuccess}
use Rattle.lq_stream.specs.Holding.{IsChoice, AreChoices, KnowsMark}
use Rattle.lq_stream.specs.Places.{AreTops, Shrinks, GrowsByOne, newest, Held}
use Rattle.lq_stream.proofs.Later.{links_known, choices_known}
use Rattle.lq_stream.proofs.Cutting.{held_cut}
use Rattle.lq_stream.proofs.Tops.{tops_shrunk, tops_pushed, tops_at, tops_high, tops_length, last_place}

-- nothing is left
pub none_left : {A : Type 0} (xs : List A) → length xs ≡ 0 → xs ≡ []
none_left [] e = refl
none_left (x ∷ xs) e = absurd (omega arith)

-- the number that was read at the end is the newest
pub newest_is : (low : ℕ) (ts : List ℕ) (y n : ℕ) → suc n ≡ length ts → y ≡ slice_index_or ts n y → y ≡ newest low ts
newest_is low [] y n h e = absurd (let i : suc n ≡ 0 = h in omega arith)
newest_is low (t ∷ []) y n h e =
    let i : suc n ≡ 1 = h in
    let j : n ≡ 0 = omega arith in
    subst (λ z. y ≡ slice_index_or (t ∷ []) z y) j e
newest_is low (t ∷ u ∷ ts) y zero h e = absurd (let i : 1 ≡ suc (suc (length ts)) = h in omega arith)
newest_is low (t ∷ u ∷ ts) y (suc n) h e = newest_is t (u ∷ ts) y n (let i : suc (suc n) ≡ suc (length (u ∷ ts)) = h in omega arith) e

-- a choice's mark is known
pub knows_mark : {A R V C K : Type 0} (k : Knowing A R V C K) (n : ℕ) (x : Choice A V C K) → IsChoice k n x → KnowsMark k.mark x
knows_mark k n (Alternative a m i) h = h.1
knows_mark k n (Otherwise a m i) h = h.1
knows_mark k n Lowering h = tt
knows_mark k n Passed h = tt
knows_mark k n (NoSuccess c i) h = tt
knows_mark k n (FirstSuccess c m v i) h = h.1

module _ {A R V C K : Type 0} (k l : Knowing A R V C K) (stays : StaysKnown k l) (ls : List (Link R)) (xs xs2 : List (Choice A V C K)) (ts ts2 : List ℕ) where
  pub held_shrunk : Held k ls xs ts → AreChoices k (length ls) xs2 → Shrinks xs xs2 → ts2 ≡ take (length xs2) ts → Held l ls xs2 ts2
  held_shrunk q p s e = record {
    linked = links_known k l stays 0 ls q.linked;
    chosen = choices_known k l stays (length ls) xs2 p;
    topped = subst (λ z. AreTops 0 (length ls) z xs2) (sym e) (tops_shrunk 0 (length ls) ts xs xs2 q.topped s);
  }

  -- after the links are cut back
  pub held_cut_later : (new : List (Link R)) (place : ℕ) → Held k ls xs ts → place ≤ length ls → new ≡ take (max place (newest 0 ts)) ls → Held l new xs ts
  held_cut_later new place q h e =
      let i : newest 0 ts ≤ length ls = tops_high 0 (length ls) ts xs q.topped in
      let m : Held k (take (max place (newest 0 ts)) ls) xs ts = held_cut k ls xs ts (max place (newest 0 ts)) q (omega arith) (omega arith) in
      let r : Held k new xs ts = subst (λ z. Held k z xs ts) (sym e) m in
      record { linked = links_known k l stays 0 new r.linked; chosen = choices_known k l stays (length new) xs r.chosen; topped = r.topped }

-- the newest choice has got a top
pub tops_covered : {A R V C K : Type 0} (k : Knowing A R V C K) (high n m : ℕ) (ts us : List ℕ) (xs ys : List (Choice A V C K)) → AreTops 0 high ts xs → GrowsByOne xs ys → high ≤ n → AreChoices k n ys → m ≡ length ys →
    ((length ts < m) × (us ≡ ts ++ n ∷ [])) ⊎ ((m ≤ length ts) × (us ≡ ts)) → AreTops 0 n us ys
tops_covered k high n m ts us xs ys q (inl e) h c o (inl p) =
    let i : length ts ≡ length xs = tops_length 0 high ts xs q in
    let j : length ys ≡ length xs = ap length e in
    let u : length ts < m = p.0 in
    absurd (omega arith)
tops_covered k high n m ts us xs ys q (inl e) h c o (inr p) =
    subst (λ z. AreTops 0 n z ys) (sym p.1)
    (subst (AreTops 0 n ts) (sym e) (tops_at 0 high n ts xs q (le_trans (tops_high 0 high ts xs q) h)))
tops_covered {R = R} k high n m ts us xs ys q (inr g) h c o (inl p) =
    subst (λ z. AreTops 0 n z ys) (sym p.1)
    (subst (AreTops 0 n (ts ++ n ∷ [])) (sym g.1) (tops_pushed 0 high n ts xs g.0 q h (last_place {R = R} k n xs g.0 (subst (AreChoices k n) g.1 c))))
tops_covered k high n m ts us xs ys q (inr g) h c o (inr p) =
    let i : length ts ≡ length xs = tops_length 0 high ts xs q in
    let j : length ys ≡ length (xs ++ g.0 ∷ []) = ap length g.1 in
    let l : length (xs ++ g.0 ∷ []) ≡ length xs + 1 = length_push xs g.0 in
    let u : m ≤ length ts = p.0 in
    absurd (omega arith)
