-- A later machine reads both stacks alike.
use Rattle.std.proofs.Common.{◌≡◌, ℕ, suc, List, [], ◌∷◌, ◌++◌, Some, None, refl, sym, ◌∙◌, ap, subst}
use Rattle.lq_runs.specs.Machines.{Does}
use Rattle.lq_runs.specs.Runs.{Run}
use Rattle.lq_runs.specs.Stacks as Stacks
use Rattle.lq_runs.specs.Streams.{runs, has, fails, Shows}
use Rattle.lq_stream.specs.Stepping.{Telling, Knowing, StaysKnown, ToldAlike}
use Rattle.lq_stream.specs.declared.stacks.Frame.{Frame}
use Rattle.lq_stream.specs.declared.stacks.Frame.TheVariants.{Then, Test, Only, Less, Alone}
use Rattle.lq_stream.specs.declared.stacks.Link.{Link}
use Rattle.lq_stream.specs.declared.stacks.Choice.{Choice}
use Rattle.lq_stream.specs.declared.stacks.Choice.TheVariants.{Alternative, Otherwise, Lowering, Passed, NoSuccess, FirstSuccess}
use Rattle.lq_stream.specs.declared.turns.Doing.{Doing}
use Rattle.lq_stream.specs.declared.turns.Doing.TheVariants.{Run as Running, Success, Failure, Look}
use Rattle.lq_stream.specs.Reading.{frame_of, stack_in, stacks_from, stack_at, choice_of, choices_onto, choices_of}
use Rattle.lq_stream.specs.Holding.{RestHas, AreLinks, IsChoice, AreChoices, HasDoing, Stands}

module _ {A R V C K : Type 0} (k l : Knowing A R V C K) (h : StaysKnown k l) where
  rest_known : (x : Frame R) → RestHas k.rest x → RestHas l.rest x
  rest_known (Then r) p = h.rest r p
  rest_known (Test r i) p = h.rest r p
  rest_known (Only i) p = tt
  rest_known (Less i) p = tt
  rest_known (Alone i) p = tt

  pub links_known : (n : ℕ) (ls : List (Link R)) → AreLinks k.rest n ls → AreLinks l.rest n ls
  links_known n [] p = tt
  links_known n (x ∷ ls) p = (p.0, rest_known x.frame p.1, links_known (suc n) ls p.2)

  choice_known : (n : ℕ) (x : Choice A V C K) → IsChoice k n x → IsChoice l n x
  choice_known n (Alternative a m i) p = (h.code a p.0, h.mark m p.1, p.2)
  choice_known n (Otherwise a m i) p = (h.code a p.0, h.mark m p.1, p.2)
  choice_known n Lowering p = tt
  choice_known n Passed p = tt
  choice_known n (NoSuccess c i) p = (h.cause c p.0, p.1)
  choice_known n (FirstSuccess c m v i) p = (h.cause c p.0, h.mark m p.1, h.value v p.2, p.3)

  pub choices_known : (n : ℕ) (xs : List (Choice A V C K)) → AreChoices k n xs → AreChoices l n xs
  choices_known n [] p = tt
  choices_known n (x ∷ xs) p = (choice_known n x p.0, choices_known n xs p.1)

  pub doing_known : (x : Doing A V C) → HasDoing k x → HasDoing l x
  doing_known (Running a) p = h.code a p
  doing_known (Success v) p = h.value v p
  doing_known (Failure n c) p = h.cause c p
  doing_known Look p = tt

module _ {A R V C K A2 R2 V2 C2 S : Type 0} (k : Knowing A R V C K) (t u : Telling A R V C K A2 R2 V2 C2 S) (h : ToldAlike k t u) where
  frame_alike : (x : Frame R) → RestHas k.rest x → frame_of u.rest x ≡ frame_of t.rest x
  frame_alike (Then r) p = ap Stacks.then (h.rest r p)
  frame_alike (Test r i) p = ap (λ z. Stacks.test z i) (h.rest r p)
  frame_alike (Only i) p = refl
  frame_alike (Less i) p = refl
  frame_alike (Alone i) p = refl

  stacks_alike : (n : ℕ) (xs : List (List (Stacks.Frame R2))) (ls : List (Link R)) → AreLinks k.rest n ls → stacks_from u.rest xs ls ≡ stacks_from t.rest xs ls
  unfolding stacks_from stack_in
  stacks_alike n xs [] p = refl
  stacks_alike n xs (x ∷ ls) p =
      stacks_alike (suc n) (xs ++ (frame_of u.rest x.frame ∷ stack_in u.rest xs x.below) ∷ []) ls p.2
      ∙ ap (λ z. stacks_from t.rest (xs ++ (z ∷ stack_in t.rest xs x.below) ∷ []) ls) (frame_alike x.frame p.1)

  -- the continuations at a place
  pub stack_alike : (ls : List (Link R)) (i : ℕ) → AreLinks k.rest 0 ls → stack_at u.rest ls i ≡ stack_at t.rest ls i
  unfolding stack_at stack_in
  stack_alike ls i p = ap (λ z. stack_in t.rest z i) (stacks_alike 0 ([] ∷ []) ls p)

  choice_alike : (n : ℕ) (ls : List (Link R)) (x : Choice A V C K) → AreLinks k.rest 0 ls → IsChoice k n x → choice_of u ls x ≡ choice_of t ls x
  choice_alike n ls (Alternative a m i) q p =
      ap (λ z. Stacks.alternative z (u.marked m) (stack_at u.rest ls i)) (h.code a p.0)
      ∙ ap (λ z. Stacks.alternative (t.code a) z (stack_at u.rest ls i)) (h.marked m p.1) ∙ ap (Stacks.alternative (t.code a) (t.marked m)) (stack_alike ls i q)
  choice_alike n ls (Otherwise a m i) q p =
      ap (λ z. Stacks.otherwise z (u.marked m) (stack_at u.rest ls i)) (h.code a p.0)
      ∙ ap (λ z. Stacks.otherwise (t.code a) z (stack_at u.rest ls i)) (h.marked m p.1) ∙ ap (Stacks.otherwise (t.code a) (t.marked m)) (stack_alike ls i q)
  choice_alike n ls Lowering q p = refl
  choice_alike n ls Passed q p = refl
  choice_alike n ls (NoSuccess c i) q p =
      ap (λ z. Stacks.sole_one z None (stack_at u.rest ls i)) (h.cause c p.0) ∙ ap (Stacks.sole_one (t.cause c) None) (stack_alike ls i q)
  choice_alike n ls (FirstSuccess c m v i) q p =
      ap (λ z. Stacks.sole_one z (Some (u.marked m, u.value v)) (stack_at u.rest ls i)) (h.cause c p.0)
      ∙ ap (λ z. Stacks.sole_one (t.cause c) (Some (z, u.value v)) (stack_at u.rest ls i)) (h.marked m p.1)
      ∙ ap (λ z. Stacks.sole_one (t.cause c) (Some (t.marked m, z)) (stack_at u.rest ls i)) (h.value v p.2)
      ∙ ap (Stacks.sole_one (t.cause c) (Some (t.marked m, t.value v))) (stack_alike ls i q)

  choices_onto_alike : (n : ℕ) (ls : List (Link R)) (hs : List (Stacks.Choice A2 R2 V2 C2 S)) (xs : List (Choice A V C K)) → AreLinks k.rest 0 ls → AreChoices k n xs →
      choices_onto u ls hs xs ≡ choices_onto t ls hs xs
  unfolding choices_onto
  choices_onto_alike n ls hs [] q p = refl
  choices_onto_alike n ls hs (x ∷ xs) q p =
      choices_onto_alike n ls (choice_of u ls x ∷ hs) xs q p.1 ∙ ap (λ z. choices_onto t ls (z ∷ hs) xs) (choice_alike n ls x q p.0)

  -- the choices
  pub choices_alike : (n : ℕ) (ls : List (Link R)) (xs : List (Choice A V C K)) → AreLinks k.rest 0 ls → AreChoices k n xs → choices_of u ls xs ≡ choices_of t ls xs
  choices_alike n ls xs q p = choices_onto_alike n ls [] xs q p

  -- what a stream does next
  pub stands_alike : {M : Type 0} (rank : R2 → ℕ) (d : Does M C2 S V2 A2 R2) (s : S) (x : Doing A V C) (ks : List (Stacks.Frame R2)) (hs : List (Stacks.Choice A2 R2 V2 C2 S))
      (f : ℕ → Run M C2 S V2) → HasDoing k x → Stands rank t d s x ks hs f → Stands rank u d s x ks hs f
  stands_alike rank d s (Running a) ks hs f p q = subst (λ z. Shows rank d s (runs z) ks hs f) (sym (h.code a p)) q
  stands_alike rank d s (Success v) ks hs f p q = subst (λ z. Shows rank d s (has z) ks hs f) (sym (h.value v p)) q
  stands_alike rank d s (Failure n c) ks hs f p q = subst (λ z. Shows rank d s (fails n z) ks hs f) (sym (h.cause c p)) q
  stands_alike rank d s Look ks hs f p q = q
