-- Turns one after another: what was led to so far, and the next piece of work.
use Rattle.std.proofs.Common.{◌≡◌, ◌<◌, ℕ, Result, Ok, Err, refl, sym, subst}
use Rattle.lq_runs.specs.Runs.{Run}
use Rattle.lq_runs.specs.Machines.{Does}
use Rattle.lq_stream.specs.declared.moves.StepFault.{StepFault}
use Rattle.lq_stream.specs.declared.turns.Doing.{Doing}
use Rattle.lq_stream.specs.declared.turns.Turn.{Turn}
use Rattle.lq_stream.specs.declared.turns.Turn.TheVariants.{GoesOn}
use Rattle.lq_stream.specs.Turning.{Goes, Scene, Works, turns_at, LeadsTo, Turns}
use Rattle.lq_stream.proofs.Chaining.{goes_same, leads_on}

module _ {A R V C K A2 R2 V2 C2 S M : Type 0} (rank : A2 → ℕ) (rest_rank : R2 → ℕ) (d : Does M C2 S V2 A2 R2) (o : Scene A R V C K A2 R2 V2 C2 S M) (x : Doing A V C) (p : ℕ) where
  -- whichever run it was, it goes on as another
  abbrev Leading : Scene A R V C K A2 R2 V2 C2 S M → Doing A V C → ℕ → Type 0
  Leading m y q = (f : ℕ → Run M C2 S V2) → Works rank rest_rank d o x p f →
      (h : ℕ → Run M C2 S V2) × Works rank rest_rank d m y q h × Goes o.left o.messages f m.left m.messages h

  pub starts_leading : Leading o x p
  starts_leading = λ f w. (f, w, goes_same o.left o.messages o.messages f refl)

  module _ (d2 : Does M C2 S V2 A2 R2) (same : d2 ≡ d) (m : Scene A R V C K A2 R2 V2 C2 S M) (y : Doing A V C) (q : ℕ) (leads : Leading m y q) where
    pub now_works : ((f : ℕ → Run M C2 S V2) × Works rank rest_rank d o x p f) → (h : ℕ → Run M C2 S V2) × Works rank rest_rank d2 m y q h
    now_works w = let r : _ = leads w.0 w.1 in (r.0, subst (λ z. Works rank rest_rank z m y q r.0) (sym same) r.1)

    pub on_leads : (n : Scene A R V C K A2 R2 V2 C2 S M) (r : Result (Turn A V C) StepFault) → ((f : ℕ → Run M C2 S V2) → Works rank rest_rank d2 m y q f → LeadsTo rank rest_rank d2 m n f r) →
        (f : ℕ → Run M C2 S V2) → Works rank rest_rank d o x p f → LeadsTo rank rest_rank d o n f r
    on_leads n r h f w =
        let l : _ = leads f w in
        leads_on rank rest_rank d o m n f l.0 r l.2 (subst (λ z. (g : ℕ → Run M C2 S V2) → Works rank rest_rank z m y q g → LeadsTo rank rest_rank z m n g r) same h l.0 l.1)

    pub turn_leads : (n : Scene A R V C K A2 R2 V2 C2 S M) (r : Result (Turn A V C) StepFault) → Turns rank rest_rank d2 m y q n r →
        (f : ℕ → Run M C2 S V2) → Works rank rest_rank d o x p f → LeadsTo rank rest_rank d o n f r
    turn_leads n r h = on_leads n r (λ f w. (h f w).0)

    pub turn_falls : (n : Scene A R V C K A2 R2 V2 C2 S M) (y2 : Doing A V C) (q2 : ℕ) → Turns rank rest_rank d2 m y q n (Ok (GoesOn y2 q2)) → ((f : ℕ → Run M C2 S V2) × Works rank rest_rank d o x p f) →
        n.left ≡ m.left → turns_at rank rest_rank d n y2 q2 < turns_at rank rest_rank d m y q
    turn_falls n y2 q2 h w e =
        let l : _ = leads w.0 w.1 in
        (subst (λ z. Turns rank rest_rank z m y q n (Ok (GoesOn y2 q2))) same h l.0 l.1).1 e

-- the exit of a `?`
pub exits : {A R V C K A2 R2 V2 C2 S M : Type 0} (rank : A2 → ℕ) (rest_rank : R2 → ℕ) (d : Does M C2 S V2 A2 R2) (o n : Scene A R V C K A2 R2 V2 C2 S M) (f : ℕ → Run M C2 S V2)
    (r : Result (Turn A V C) StepFault) (e : StepFault) → ((y : StepFault) × (r ≡ Err y) × (y ≡ e)) → LeadsTo rank rest_rank d o n f (Err e) → LeadsTo rank rest_rank d o n f r
exits rank rest_rank d o n f r e p h = subst (λ z. LeadsTo rank rest_rank d o n f z) (sym p.1) (subst (λ z. LeadsTo rank rest_rank d o n f (Err z)) (sym p.2) h)
