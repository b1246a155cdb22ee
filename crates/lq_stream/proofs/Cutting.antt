-- Links that are cut back: the continuations at the places that stay do not change.
use Rattle.std.proofs.Common.{◌≡◌, ◌≤◌, ◌<◌, ◌+◌, ℕ, zero, suc, List, [], ◌∷◌, ◌++◌, length, take, drop, Some, None, refl, sym, ◌∙◌, ap, subst, arith}
use Rattle.std.proofs.lemmas.List.{take-append-drop, length-take-le}
use Rattle.lq_runs.specs.Stacks as Stacks
use Rattle.lq_stream.specs.Stepping.{Telling, Knowing}
use Rattle.lq_stream.specs.declared.stacks.Link.{Link}
use Rattle.lq_stream.specs.declared.stacks.Choice.{Choice}
use Rattle.lq_stream.specs.declared.stacks.Choice.TheVariants.{Alternative, Otherwise, Lowering, Passed, NoSuccess, FirstSuccess}
use Rattle.lq_stream.specs.Reading.{frame_of, stack_in, stacks_from, stack_at, choice_of, choices_onto, choices_of}
use Rattle.lq_stream.specs.Holding.{AreLinks, IsChoice, AreChoices}
use Rattle.lq_stream.specs.Places.{AreTops, newest, Held}
use Rattle.lq_stream.proofs.Arenas.{from_front, from_length}
use Rattle.lq_stream.proofs.Tops.{tops_at, choices_within}

module _ {R R2 : Type 0} (rest : R → R2) where
  from_append : (xs : List (List (Stacks.Frame R2))) (ls ms : List (Link R)) → stacks_from rest xs (ls ++ ms) ≡ stacks_from rest (stacks_from rest xs ls) ms
  unfolding stacks_from
  from_append xs [] ms = refl
  from_append xs (l ∷ ls) ms = from_append (xs ++ (frame_of rest l.frame ∷ stack_in rest xs l.below) ∷ []) ls ms

  -- the continuations at a place of the front
  stack_front : (ls ms : List (Link R)) (i : ℕ) → i ≤ length ls → stack_at rest (ls ++ ms) i ≡ stack_at rest ls i
  unfolding stack_at
  stack_front ls ms i h =
      let n : length (stacks_from rest ([] ∷ []) ls) ≡ 1 + length ls = from_length rest ([] ∷ []) ls in
      ap (λ z. stack_in rest z i) (from_append ([] ∷ []) ls ms) ∙ from_front rest (stacks_from rest ([] ∷ []) ls) ms i (omega arith)

  pub stack_cut : (ls : List (Link R)) (n i : ℕ) → n ≤ length ls → i ≤ n → stack_at rest (take n ls) i ≡ stack_at rest ls i
  stack_cut ls n i h j =
      let m : length (take n ls) ≡ n = length-take-le n ls h in
      sym (stack_front (take n ls) (drop n ls) i (omega arith)) ∙ ap (λ z. stack_at rest z i) (take-append-drop n ls)

  -- nothing stands at place 0
  pub stack_none : (ls : List (Link R)) → stack_at rest ls 0 ≡ []
  unfolding stack_at stack_in
  stack_none ls = from_front rest ([] ∷ []) ls 0 (let h : 0 < 1 = omega arith in h)

links_cut : {R : Type 0} (P : R → Type 0) (m n : ℕ) (ls : List (Link R)) → AreLinks P m ls → AreLinks P m (take n ls)
links_cut P m zero ls q = tt
links_cut P m (suc n) [] q = tt
links_cut P m (suc n) (l ∷ ls) q = (q.0, q.1, links_cut P (suc m) n ls q.2)

module _ {A R V C K A2 R2 V2 C2 S : Type 0} (k : Knowing A R V C K) (t : Telling A R V C K A2 R2 V2 C2 S) (ls : List (Link R)) (n : ℕ) (h : n ≤ length ls) where
  choice_cut : (x : Choice A V C K) → IsChoice k n x → choice_of t (take n ls) x ≡ choice_of t ls x
  choice_cut (Alternative a m i) q = ap (Stacks.alternative (t.code a) (t.marked m)) (stack_cut t.rest ls n i h q.2)
  choice_cut (Otherwise a m i) q = ap (Stacks.otherwise (t.code a) (t.marked m)) (stack_cut t.rest ls n i h q.2)
  choice_cut Lowering q = refl
  choice_cut Passed q = refl
  choice_cut (NoSuccess c i) q = ap (Stacks.sole_one (t.cause c) None) (stack_cut t.rest ls n i h q.1)
  choice_cut (FirstSuccess c m v i) q = ap (Stacks.sole_one (t.cause c) (Some (t.marked m, t.value v))) (stack_cut t.rest ls n i h q.3)

  choices_onto_cut : (hs : List (Stacks.Choice A2 R2 V2 C2 S)) (xs : List (Choice A V C K)) → AreChoices k n xs → choices_onto t (take n ls) hs xs ≡ choices_onto t ls hs xs
  unfolding choices_onto
  choices_onto_cut hs [] q = refl
  choices_onto_cut hs (x ∷ xs) q = choices_onto_cut (choice_of t (take n ls) x ∷ hs) xs q.1 ∙ ap (λ y. choices_onto t ls (y ∷ hs) xs) (choice_cut x q.0)

  pub choices_cut : (xs : List (Choice A V C K)) → AreChoices k n xs → choices_of t (take n ls) xs ≡ choices_of t ls xs
  choices_cut xs q = choices_onto_cut [] xs q

-- what stays true of the lists
pub held_cut : {A R V C K : Type 0} (k : Knowing A R V C K) (ls : List (Link R)) (xs : List (Choice A V C K)) (ts : List ℕ) (n : ℕ) → Held k ls xs ts → n ≤ length ls → newest 0 ts ≤ n → Held k (take n ls) xs ts
held_cut k ls xs ts n q h i =
    let m : length (take n ls) ≡ n = length-take-le n ls h in
    record {
      linked = links_cut k.rest 0 n ls q.linked;
      chosen = subst (λ z. AreChoices k z xs) (sym m) (choices_within k 0 (length ls) (length ls) n ts xs q.topped i q.chosen);
      topped = subst (λ z. AreTops 0 z ts xs) (sym m) (tops_at 0 (length ls) n ts xs q.topped i);
    }
