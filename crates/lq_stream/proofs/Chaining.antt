-- Pieces of a stream's work, one after another.
use Rattle.std.proofs.Common.{◌≡◌, ℕ, max, List, [], ◌∷◌, ◌++◌, Result, Ok, Err, refl, sym, ◌∙◌, ap, subst, arith, append_assoc, append-nil}
use Rattle.lq_runs.specs.Runs.{Run, Runs}
use Rattle.lq_runs.specs.Machines.{Does, First, gives, ends, out, hearing, heard, seen}
use Rattle.lq_runs.proofs.FirstLaws.{heard_append}
use Rattle.lq_stream.specs.Reading.{Answers}
use Rattle.lq_stream.specs.declared.moves.StepFault.{StepFault}
use Rattle.lq_stream.specs.declared.stacks.Answer.{Answer}
use Rattle.lq_stream.specs.declared.stacks.Answer.TheVariants.{Success, End}
use Rattle.lq_stream.specs.declared.turns.Turn.{Turn}
use Rattle.lq_stream.specs.declared.turns.Turn.TheVariants.{GoesOn, Answered}
use Rattle.lq_stream.specs.Turning.{Goes, Spends, Gives, Scene, LeadsTo}

module _ {M C S V : Type 0} where
  heard_gives : (ms : List M) (left : ℕ) (ns : List M) (s : S) (v : V) (as1 : Runs M C S V) → heard ms (gives left ns s v as1) ≡ gives left (ms ++ ns) s v as1
  unfolding heard hearing
  heard_gives [] left ns s v as1 = refl
  heard_gives (m ∷ ms) left ns s v as1 = ap (hearing m) (heard_gives ms left ns s v as1)

  heard_ends : (ms : List M) (left : ℕ) (ns : List M) (n : ℕ) (c : C) → ◌≡◌ {A = First M C S V} (heard ms (ends left ns n c)) (ends left (ms ++ ns) n c)
  unfolding heard hearing
  heard_ends [] left ns n c = refl
  heard_ends (m ∷ ms) left ns n c = ap (hearing m) (heard_ends ms left ns n c)

  heard_out : (ms ns : List M) → ◌≡◌ {A = First M C S V} (heard ms (out ns)) (out (ms ++ ns))
  unfolding heard hearing
  heard_out [] ns = refl
  heard_out (m ∷ ms) ns = ap (hearing m) (heard_out ms ns)

  -- nothing was done
  pub goes_same : (left : ℕ) (old new : List M) (f : ℕ → Run M C S V) → new ≡ old → Goes left old f left new f
  unfolding heard
  goes_same left old new f e = record { spoken = []; added = e ∙ sym (append-nil old); same = (0, λ n h. refl) }

  pub goes_on : (l1 l2 l3 : ℕ) (m1 m2 m3 : List M) (f g h : ℕ → Run M C S V) → Goes l1 m1 f l2 m2 g → Goes l2 m2 g l3 m3 h → Goes l1 m1 f l3 m3 h
  goes_on l1 l2 l3 m1 m2 m3 f g h p q = record {
    spoken = p.spoken ++ q.spoken;
    added = q.added ∙ ap (λ z. z ++ q.spoken) p.added ∙ append_assoc m1 p.spoken q.spoken;
    same = (
      max p.same.0 q.same.0,
      λ n i. p.same.1 n (omega arith) ∙ ap (heard p.spoken) (q.same.1 n (omega arith)) ∙ sym (heard_append p.spoken q.spoken (seen l3 (h n))),
    );
  }

  pub goes_out : (l1 l2 : ℕ) (m1 m2 m3 : List M) (f g : ℕ → Run M C S V) → Goes l1 m1 f l2 m2 g → Spends l2 m2 g m3 → Spends l1 m1 f m3
  goes_out l1 l2 m1 m2 m3 f g p q = record {
    spoken = p.spoken ++ q.spoken;
    added = q.added ∙ ap (λ z. z ++ q.spoken) p.added ∙ append_assoc m1 p.spoken q.spoken;
    same = (max p.same.0 q.same.0, λ n i. p.same.1 n (omega arith) ∙ ap (heard p.spoken) (q.same.1 n (omega arith)) ∙ heard_out p.spoken q.spoken);
  }

module _ {V C V2 C2 M S : Type 0} (value : V → V2) (cause : C → C2) where
  -- messages before an answer
  heard_answer : (f : First M C2 S V2) (left : ℕ) (ms ns : List M) (s : S) (after : Runs M C2 S V2) (x : Answer V C) →
      Answers value cause f left ns s after x → Answers value cause (heard ms f) left (ms ++ ns) s after x
  heard_answer f left ms ns s after (Success v) e = ap (heard ms) e ∙ heard_gives ms left ns s (value v) _
  heard_answer f left ms ns s after (End k c) e = ap (heard ms) e ∙ heard_ends ms left ns k (cause c)

  seen_answer : (f g : First M C2 S V2) (left : ℕ) (ns : List M) (s : S) (after : Runs M C2 S V2) (x : Answer V C) → f ≡ g →
      Answers value cause g left ns s after x → Answers value cause f left ns s after x
  seen_answer f g left ns s after x e q = subst (λ z. Answers value cause z left ns s after x) (sym e) q

  pub goes_gives : (l1 l2 l3 : ℕ) (m1 m2 m3 : List M) (f g : ℕ → Run M C2 S V2) (s : S) (after : ℕ → Runs M C2 S V2) (x : Answer V C) → Goes l1 m1 f l2 m2 g →
      Gives value cause l2 m2 g l3 m3 s after x → Gives value cause l1 m1 f l3 m3 s after x
  goes_gives l1 l2 l3 m1 m2 m3 f g s after x p q = record {
    spoken = p.spoken ++ q.spoken;
    added = q.added ∙ ap (λ z. z ++ q.spoken) p.added ∙ append_assoc m1 p.spoken q.spoken;
    same = (
      max p.same.0 q.same.0,
      λ n i.
          seen_answer (seen l1 (f n)) (heard p.spoken (seen l2 (g n))) l3 (p.spoken ++ q.spoken) s (after n) x (p.same.1 n (omega arith))
          (heard_answer (seen l2 (g n)) l3 p.spoken q.spoken s (after n) x (q.same.1 n (omega arith))),
    );
  }

module _ {A R V C K A2 R2 V2 C2 S M : Type 0} (rank : A2 → ℕ) (rest_rank : R2 → ℕ) (d : Does M C2 S V2 A2 R2) where
  -- work that went on, and then what it leads to
  pub leads_on : (o m n : Scene A R V C K A2 R2 V2 C2 S M) (f g : ℕ → Run M C2 S V2) (r : Result (Turn A V C) StepFault) → Goes o.left o.messages f m.left m.messages g →
      LeadsTo rank rest_rank d m n g r → LeadsTo rank rest_rank d o n f r
  leads_on o m n f g (Ok (GoesOn y q)) p l = (l.0, l.1, goes_on o.left m.left n.left o.messages m.messages n.messages f g l.0 p l.2)
  leads_on o m n f g (Ok (Answered a)) p l = (goes_gives n.told.value n.told.cause o.left m.left n.left o.messages m.messages n.messages f g n.state _ a p l.0, l.1)
  leads_on o m n f g (Err StepFault.StepsOut) p l = (goes_out o.left m.left o.messages m.messages n.messages f g p l.0, l.1)
  leads_on o m n f g (Err StepFault.NoMemory) p l = tt
