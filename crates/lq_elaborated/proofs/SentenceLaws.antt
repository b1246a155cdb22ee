-- Sentences by the work that elaborates their terms.
use Rattle.std.proofs.Common.{◌≡◌, ◌∙◌, refl, sym, ap, ℕ, zero, suc, List, [], ◌∷◌, Option, Some, None}
use Rattle.lq_trees.specs.Tree.{Name, Tree}
use Rattle.lq_trees.specs.Ticks.{gives, fails, ◌>>=◌, Outcome, done, failed, steps_out, within, next}
use Rattle.lq_trees.proofs.TickLaws.{within_bind}
use Rattle.lq_ast.specs.Syntax.{Surface, Bound, bound, Forall}
use Rattle.lq_solving.specs.Elaboration.{Found, made_between}
use Rattle.lq_solving.specs.Stores.{Store, StoreFault as Lack, no_variables, read, size_fault}
use Rattle.lq_texts.specs.Causes.{Cause as ScriptCause, unresolved}
use Rattle.lq_sessions.specs.Told.{of_store}
use Rattle.lq_sessions.specs.Sessions.{Session, Done, Work, refused, accepted, came_to, worked, all_fit, open_among}
use Rattle.lq_sessions.specs.Declaring.{type_work, solved_work, fitting_work, all_solved, opened_on, stated}
use Rattle.lq_elaborated.specs.Stating.{finished_work, statement_work}

module _ (s : Session) (x : Name) (xs : List Bound) (t : Surface) where
  opens : Tree → Done
  opens A = accepted (opened_on s x A)

  -- what comes behind elaboration
  ends : Found → Done
  ends f = all_solved s f.store (all_fit s f.store (f.term ∷ []) (opens (read f.store f.term)))

  by_fit : Store → Tree → Option Lack → Work Tree
  by_fit st A o = elim o as (λ z. Work (Unit {0})) [ Some f ↦ fails (of_store f) | None ↦ gives tt ] >>= λ ok2. gives (read st A)

  fits : (st : Store) (A : Tree) (left : ℕ) (o : Option Lack) → came_to s s.env opens (within left (by_fit st A o)) ≡ elim o as (λ z. Done) [ Some f ↦ refused s (of_store f) | None ↦ opens (read st A) ]
  unfolding came_to within ◌>>=◌ opens by_fit
  fits st A left None = refl
  fits st A left (Some f) = refl

  by_count : Store → Tree → ℕ → Work Tree
  by_count st A m = elim m as (λ z. Work (Unit {0})) [ zero ↦ gives tt | suc n ↦ fails (unresolved (suc n)) ] >>= λ ok. fitting_work st (A ∷ []) >>= λ ok2. gives (read st A)

  solved : (st : Store) (A : Tree) (left m : ℕ) →
      came_to s s.env opens (within left (by_count st A m)) ≡ elim m as (λ z. Done) [ zero ↦ all_fit s st (A ∷ []) (opens (read st A)) | suc n ↦ refused s (unresolved (suc n)) ]
  unfolding came_to within ◌>>=◌ opens by_count by_fit fitting_work all_fit
  solved st A left zero = fits st A left (size_fault (read st A))
  solved st A left (suc n) = refl

  end_is : (f : Found) (left n : ℕ) → came_to s s.env opens (within left (finished_work f.store f.term n)) ≡ ends f
  unfolding all_solved solved_work ends by_count
  end_is f left n = solved f.store f.term left (open_among f.store (made_between no_variables f.store))

  outcome_is : (n : ℕ) (o : Outcome ScriptCause Found) → came_to s s.env ends o ≡ came_to s s.env opens (next o (λ f rest. within rest (finished_work f.store f.term n)))
  unfolding came_to next ends opens
  outcome_is n (done f left) = sym (end_is f left n)
  outcome_is n (failed c left) = refl
  outcome_is n steps_out = refl

  pub stated_is : stated s x xs t ≡ worked s s.env (statement_work s.env (bound Forall xs t)) (λ A. accepted (opened_on s x A))
  unfolding stated worked ends opens
  stated_is =
      outcome_is (suc s.kernel) (within s.kernel (type_work s.env (suc s.kernel) [] no_variables (bound Forall xs t)))
      ∙ ap (came_to s s.env opens) (sym (within_bind s.kernel (type_work s.env (suc s.kernel) [] no_variables (bound Forall xs t)) (λ f. finished_work f.store f.term (suc s.kernel))))
