-- What is known of terms that were read: what is found, and what one more gives.
use Rattle.std.proofs.lemmas.List.{take_more}
use Rattle.std.proofs.Common.{◌≡◌, ◌≤◌, ◌<◌, ◌+◌, ◌∙◌, ◌++◌, map, length, take, slice_index_or, zero, suc, inl, inr, ℕ, Bool, true, false, eqb-true, eq-eqb, refl, sym, ap, ap₂, arith, List, [], ◌∷◌, Option, Some, None, Result, Ok, Err}
use Rattle.lq_terms.specs.declared.nodes.NoMemory.{NoMemory}
use Rattle.std.proofs.Common.{subst as along}
use Rattle.std.specs.Prelude.{OnOk, IfOk, ◌==◌, cond, is_some, if◌then◌else◌}
use Rattle.std.specs.Map.{lookup}
use Rattle.indexmap.specs.IndexMap.{insert_entry}
use Rattle.lq_trees.specs.Tree.{Tree}
use Rattle.lq_trees.specs.Marks.{loose}
use Rattle.lq_terms.specs.declared.nodes.TermId.{TermId}
use Rattle.lq_terms.specs.Terms.{Terms, HasTerm, Grows, tree_of}
use Rattle.lq_evars.specs.Places.{Places, store_of, HasStore}
use Rattle.lq_evars.specs.Near.{IsNear}
use Rattle.lq_evars.specs.Reading.{as_read, IsIn, AllIn, trees_known, Reads, EachReads, AreRead, Covers, IsLow}
use Rattle.lq_evars.proofs.Growing.{store_of-grown}

pub reads-grown : (old new : Terms) (s : Places) (t u : TermId) → Grows old new → HasStore old s → Reads old s t u → Reads new s t u
reads-grown old new s t u g h r = record {
  part = omega (arith, r.part, g.nodes);
  has = omega (arith, r.has, g.nodes);
  near = along (λ z. IsNear 0 (tree_of new u) (as_read z (tree_of new t))) (sym (store_of-grown old new g s h))
      (along (λ z. IsNear 0 (tree_of new u) (as_read (store_of old s) z)) (sym (g.tree t r.part)) (along (λ z. IsNear 0 z (as_read (store_of old s) (tree_of old t))) (sym (g.tree u r.has)) r.near));
  low = along (λ z. loose z ≤ 2000001) (sym (g.tree u r.has)) r.low;
}

pub read-grown : (old new : Terms) (s : Places) (es : List (TermId × TermId)) → Grows old new → HasStore old s → AreRead old s es → AreRead new s es
read-grown old new s [] g h r = tt
read-grown old new s (e ∷ es) g h r = (reads-grown old new s e.0 e.1 g h r.0, read-grown old new s es g h r.1)

pub trees-grown : (old new : Terms) (s : Places) (es : List (TermId × TermId)) → Grows old new → AreRead old s es → trees_known new es ≡ trees_known old es
trees-grown old new s [] g r = refl
trees-grown old new s (e ∷ es) g r = ap₂ (λ t ts. t ∷ ts) (g.tree e.0 r.0.part) (trees-grown old new s es g r.1)

place_is : (t u : TermId) → (t.place == u.place) ≡ true → t ≡ u
place_is t u e = ap (λ n. record { place = n }) (eqb-true t.place u.place e)

is_place_of : (t : TermId) → (t.place == t.place) ≡ true
is_place_of t = eq-eqb t.place t.place refl

module _ (t : TermId) (test : TermId → Bool) (is_place : (u : TermId) → test u ≡ (t.place == u.place)) where
  pub found_read : (bank : Terms) (s : Places) (es : List (TermId × TermId)) (u : TermId) → AreRead bank s es → lookup test es ≡ Some u → Reads bank s t u
  found_read bank s [] u r e = absurd (grind arith)
  found_read bank s (d ∷ es) u r e = by (test d.0) (is_place d.0) e (λ f. found_read bank s es u r.1 f)
    where
      by : (b : Bool) → b ≡ (t.place == d.0.place) → cond b (Some d.1) (lookup test es) ≡ Some u → (lookup test es ≡ Some u → Reads bank s t u) → Reads bank s t u
      by true p f ih =
          along (λ z. Reads bank s t z) (ap (λ o. elim o [ Some x ↦ x | None ↦ u ]) f)
          (along (λ z. Reads bank s z d.1) (sym (place_is t d.0 (sym p))) r.0)
      by false p f ih = ih f

  pub found_in : (bank : Terms) (es : List (TermId × TermId)) (u : TermId) → lookup test es ≡ Some u → IsIn (tree_of bank t) (trees_known bank es)
  found_in bank [] u e = absurd (grind arith)
  found_in bank (d ∷ es) u e = by (test d.0) (is_place d.0) e (λ f. found_in bank es u f)
    where
      by : (b : Bool) → b ≡ (t.place == d.0.place) → cond b (Some d.1) (lookup test es) ≡ Some u → (lookup test es ≡ Some u → IsIn (tree_of bank t) (trees_known bank es)) → IsIn (tree_of bank t) (tree_of bank d.0 ∷ trees_known bank es)
      by true p f ih = inl (ap (tree_of bank) (place_is t d.0 (sym p)))
      by false p f ih = inr (ih f)

  -- a term that is known is found
  pub known_found : (bank : Terms) (s : Places) (es : List (TermId × TermId)) → AreRead bank s es → HasTerm bank t →
      ((x y : TermId) → HasTerm bank x → HasTerm bank y → tree_of bank x ≡ tree_of bank y → x ≡ y) → IsIn (tree_of bank t) (trees_known bank es) → lookup test es ≡ None → ⊥
  known_found bank s [] r h apart i e = absurd i
  known_found bank s (d ∷ es) r h apart i e = by (test d.0) refl e (λ f j. known_found bank s es r.1 h apart j f) i
    where
      here : test d.0 ≡ false → tree_of bank t ≡ tree_of bank d.0 → ⊥
      here p q =
          let same : t ≡ d.0 = apart t d.0 h r.0.part q in
          let found : test d.0 ≡ true = is_place d.0 ∙ ap (λ z. t.place == z.place) (sym same) ∙ is_place_of t in
          absurd (grind arith)

      by : (b : Bool) → test d.0 ≡ b → ◌≡◌ {A = Option TermId} (cond b (Some d.1) (lookup test es)) None → (lookup test es ≡ None → IsIn (tree_of bank t) (trees_known bank es) → ⊥) → IsIn (tree_of bank t) (tree_of bank d.0 ∷ trees_known bank es) → ⊥
      by true p f ih j = absurd (grind arith)
      by false p f ih (inl q) = here p q
      by false p f ih (inr j) = ih f j

-- one more is noted
module _ (eq : TermId → TermId → Bool) (is_place : (x y : TermId) → eq x y ≡ (x.place == y.place)) where
  pub noted_read : (bank : Terms) (s : Places) (es : List (TermId × TermId)) (t u : TermId) → AreRead bank s es → Reads bank s t u → AreRead bank s (insert_entry eq es t u)
  noted_read bank s [] t u r n = (n, tt)
  noted_read bank s (d ∷ es) t u r n = by (eq t d.0) (is_place t d.0) (noted_read bank s es t u r.1 n)
    where
      by : (b : Bool) → b ≡ (t.place == d.0.place) → AreRead bank s (insert_entry eq es t u) → AreRead bank s (if b then (d.0, u) ∷ es else d ∷ insert_entry eq es t u)
      by true p ih = (along (λ z. Reads bank s z u) (place_is t d.0 (sym p)) n, r.1)
      by false p ih = (r.0, ih)

  pub noted_in : (bank : Terms) (es : List (TermId × TermId)) (t u : TermId) → Covers (tree_of bank t ∷ trees_known bank es) (trees_known bank (insert_entry eq es t u))
  noted_in bank [] t u x h = h
  noted_in bank (d ∷ es) t u x h = by (eq t d.0) (is_place t d.0) (noted_in bank es t u x) h
    where
      by : (b : Bool) → b ≡ (t.place == d.0.place) → (IsIn x (tree_of bank t ∷ trees_known bank es) → IsIn x (trees_known bank (insert_entry eq es t u))) → IsIn x (tree_of bank t ∷ tree_of bank d.0 ∷ trees_known bank es) →
          IsIn x (trees_known bank (if b then (d.0, u) ∷ es else d ∷ insert_entry eq es t u))
      by true p ih (inl e) = inl (e ∙ ap (tree_of bank) (place_is t d.0 (sym p)))
      by true p ih (inr i) = i
      by false p ih (inl e) = inr (ih (inl e))
      by false p ih (inr (inl e)) = inl e
      by false p ih (inr (inr i)) = inr (ih (inr i))

-- what is found
pub some_known : (o : Option TermId) → is_some o ≡ true → (u : TermId) × (o ≡ Some u)
some_known None e = absurd (grind arith)
some_known (Some u) e = (u, refl)

-- what is noted of a term
pub noted_reads :
    (old new : Terms) (s : Places) (t a u : TermId) → HasStore old s → Grows old new → HasTerm old t → HasTerm new u → IsLow new u → ((x : Tree) → IsNear 0 (tree_of old a) x → IsNear 0 (tree_of new u) x)
    → IsNear 0 (tree_of old a) (as_read (store_of old s) (tree_of old t)) → Reads new s t u
noted_reads old new s t a u h g k i l f n = record {
  part = omega (arith, k, g.nodes);
  has = i;
  near = along (λ z. IsNear 0 (tree_of new u) (as_read z (tree_of new t))) (sym (store_of-grown old new g s h))
      (along (λ z. IsNear 0 (tree_of new u) (as_read (store_of old s) z)) (sym (g.tree t k)) (f (as_read (store_of old s) (tree_of old t)) n));
  low = l;
}

-- one of several parts
pub in_at : (bank : Terms) (ts : List TermId) (us : List Tree) (i : ℕ) (d : TermId) → AllIn (map (tree_of bank) ts) us → i < length ts → IsIn (tree_of bank (slice_index_or ts i d)) us
in_at bank [] us i d h l = absurd (omega (arith, l))
in_at bank (t ∷ ts) us zero d h l = h.0
in_at bank (t ∷ ts) us (suc i) d h l = in_at bank ts us i d h.1 (omega (arith, l))

each_push : (bank : Terms) (s : Places) (ts us : List TermId) (t u : TermId) → EachReads bank s ts us → Reads bank s t u → EachReads bank s (ts ++ t ∷ []) (us ++ u ∷ [])
each_push bank s [] [] t u h r = (r, tt)
each_push bank s (x ∷ xs) (y ∷ ys) t u h r = (h.0, each_push bank s xs ys t u h.1 r)
each_push bank s [] (y ∷ ys) t u h r = absurd h
each_push bank s (x ∷ xs) [] t u h r = absurd h

-- one part more
pub each_more : (bank : Terms) (s : Places) (ts us more : List TermId) (u : TermId) (i : ℕ) (d : TermId) → i < length ts → EachReads bank s (take i ts) us → Reads bank s (slice_index_or ts i d) u → more ≡ us ++ u ∷ [] → EachReads bank s (take (i + 1) ts) more
each_more bank s ts us more u i d l h r e =
    along (λ z. EachReads bank s z more) (sym (take_more ts i d l)) (along (EachReads bank s (take i ts ++ slice_index_or ts i d ∷ [])) (sym e) (each_push bank s (take i ts) us (slice_index_or ts i d) u h r))

-- the same in a bank that has grown
pub near-grown : (old new : Terms) (s : Places) (t : TermId) (x : Tree) → Grows old new → HasStore old s → HasTerm old t → IsNear 0 x (as_read (store_of old s) (tree_of old t)) → IsNear 0 x (as_read (store_of new s) (tree_of new t))
near-grown old new s t x g h k n =
    along (λ z. IsNear 0 x (as_read z (tree_of new t))) (sym (store_of-grown old new g s h)) (along (λ z. IsNear 0 x (as_read (store_of old s) z)) (sym (g.tree t k)) n)

pub near-before : (old new : Terms) (s : Places) (t : TermId) (x : Tree) → Grows old new → HasStore old s → HasTerm old t → IsNear 0 x (as_read (store_of new s) (tree_of new t)) → IsNear 0 x (as_read (store_of old s) (tree_of old t))
near-before old new s t x g h k n =
    along (λ z. IsNear 0 x (as_read z (tree_of old t))) (store_of-grown old new g s h) (along (λ z. IsNear 0 x (as_read (store_of new s) z)) (g.tree t k) n)

pub covers-grown : (old new : Terms) (s : Places) (t : TermId) (es : List (TermId × TermId)) (us : List Tree) (o : Result (Unit {0}) NoMemory) → Grows old new → AreRead old s es → HasTerm old t →
    OnOk o (Covers (tree_of new t ∷ trees_known new es) us) → OnOk o (Covers (tree_of old t ∷ trees_known old es) us)
covers-grown old new s t es us o g r k c =
    along (λ ts. OnOk o (Covers ts us)) (ap₂ (λ x xs. x ∷ xs) (g.tree t k) (trees-grown old new s es g r)) c

-- what stands for a term, seen from the bank before
pub reads-before : (old new : Terms) (s : Places) (t : TermId) (o : Result TermId NoMemory) → Grows old new → HasStore old s → HasTerm old t → IfOk o (Reads new s t) → IfOk o (λ u. IsNear 0 (tree_of new u) (as_read (store_of old s) (tree_of old t)))
reads-before old new s t (Ok u) g h k r = near-before old new s t (tree_of new u) g h k r.near
reads-before old new s t (Err e) g h k r = tt
