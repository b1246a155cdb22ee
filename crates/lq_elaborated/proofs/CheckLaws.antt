-- A term that is checked, with its type.
use Rattle.std.proofs.Common.{◌≡◌, ◌∙◌, refl, sym, ap, ap₂, ℕ, zero, suc, ◌-◌, [], ◌∷◌, length, Option, Some, None, Result, Ok, Err}
use Rattle.std.proofs.lemmas.List.{length-map}
use Rattle.lq_trees.specs.Tree.{Tree}
use Rattle.lq_trees.specs.Ticks.{gives, fails, ◌>>=◌, Outcome, done, failed, steps_out, within, next, ComesTo}
use Rattle.lq_trees.proofs.TickLaws.{within_bind}
use Rattle.lq_trees.proofs.Outcomes.{comes_then}
use Rattle.lq_ast.specs.Syntax.{Surface}
use Rattle.lq_terms.specs.Terms.{Terms, tree_of}
use Rattle.lq_solving.specs.Elaboration.{Found, found, numbers, made_between}
use Rattle.lq_solving.specs.Stores.{Store, StoreFault as Lack, read, size_fault, count}
use Rattle.lq_evars.specs.declared.store.StoreFault.{StoreFault}
use Rattle.lq_evars.specs.Places.{Places, store_of, variable_of}
use Rattle.lq_print.specs.declared.causes.SentenceCause.{SentenceCause}
use Rattle.lq_print.specs.declared.causes.Cause.{Cause}
use Rattle.lq_texts.specs.Causes.{Cause as ScriptCause, too_large, too_deep, unresolved}
use Rattle.lq_sessions.specs.Sessions.{Session, Done, Work, refused, came_to, worked, all_fit, open_among}
use Rattle.lq_sessions.specs.Told.{of_store}
use Rattle.lq_sessions.specs.Declaring.{term_work, fitting_work}
use Rattle.lq_sessions.specs.Sentences.{checked, context_of, store_of as store_at, typed_text}
use Rattle.lq_texts.specs.Views.{check_text}
use Rattle.lq_causes.specs.declared.stops.Stop.{Stop}
use Rattle.lq_causes.specs.Stops.{store_stop}
use Rattle.lq_declaring.specs.Constants.{Passes, ReadsBoth}
use Rattle.lq_elaborated.specs.declared.terms.Typed.{Typed}
use Rattle.lq_elaborated.specs.Checking.{made_work, typed_work, checked_work, trees_of, ReadsFound, Checks}
use Rattle.lq_elaborated.proofs.FindLaws.{stops_rest}

module _ (bank : Terms) (s : Store) (f : Found) where
  after_made : Work (Unit {0}) → Work (Tree × Tree)
  after_made w = w >>= λ ok. fitting_work f.store (f.term ∷ f.kind ∷ []) >>= λ ok2. gives (read f.store f.term, read f.store f.kind)

  by_count : ℕ → Work (Unit {0})
  by_count m = elim m as (λ z. Work (Unit {0})) [ zero ↦ gives tt | suc n ↦ fails (unresolved (suc n)) ]

  made_stops : (c : ℕ) → ¬ (c ≡ 0) → c ≡ open_among f.store (made_between s f.store) → ReadsFound bank (Err (Stop.Refused (Cause.Sentence (SentenceCause.Unresolved c)))) s f
  unfolding within ◌>>=◌ after_made by_count
  made_stops zero h e left = absurd (h refl)
  made_stops (suc c) h e left = (tt, λ n l. ap (λ m. within left (after_made (by_count m))) (sym e))

  all_made : 0 ≡ open_among f.store (made_between s f.store) → made_work s f.store ≡ gives tt
  unfolding by_count
  all_made e = ap by_count (sym e)

  passed_by : made_work s f.store ≡ gives tt → (c : ScriptCause) → fitting_work f.store (f.term ∷ f.kind ∷ []) ≡ fails c → (left n : ℕ) → within left (typed_work s f n) ≡ failed c left
  unfolding within ◌>>=◌ after_made
  passed_by u c p left n = ap (λ w. within left (after_made w)) u ∙ ap (λ w. within left (w >>= λ ok2. gives (read f.store f.term, read f.store f.kind))) p

  limit_stops : made_work s f.store ≡ gives tt → (e : StoreFault) → Passes e f.store (f.term ∷ f.kind ∷ []) → ReadsFound bank (Err (store_stop e)) s f
  limit_stops u StoreFault.TooLarge p left = (tt, λ n l. passed_by u too_large p left n)
  limit_stops u StoreFault.TooDeep p left = (tt, λ n l. passed_by u too_deep p left n)
  limit_stops u StoreFault.Full p left = absurd p
  limit_stops u StoreFault.NoMemory p left = tt

  is_read : made_work s f.store ≡ gives tt → (e : Typed) → ReadsBoth bank (Ok (e.term, e.kind)) f.store f.term f.kind → ReadsFound bank (Ok e) s f
  unfolding within ◌>>=◌ after_made
  is_read u e r = (
    r.0.has,
    r.1.has,
    λ left n l. ap (λ w. within left (after_made w)) u ∙ ap (λ w. within left (w >>= λ ok2. gives (read f.store f.term, read f.store f.kind))) r.2 ∙ ap₂ (λ x y. done (x, y) left) (sym r.0.is) (sym r.1.is),
  )

-- the variables that were made are those from the first on
pub made_is : (bank : Terms) (s : Store) (p : Places) (first c : ℕ) → first ≡ count s → c ≡ open_among (store_of bank p) (numbers first (length p.variables - first)) → c ≡ open_among (store_of bank p) (made_between s (store_of bank p))
unfolding made_between
made_is bank s p first c e h = h ∙ ap₂ (λ k m. open_among (store_of bank p) (numbers k (m - k))) e (sym (length-map p.variables (variable_of bank)))

-- a term that was found over a store of places
module _ (bank : Terms) (s : Store) (p : Places) (t : Typed) (first : ℕ) (e : first ≡ count s) (b0 : Terms) where
  abbrev here : Found
  here = found (store_of b0 p) (tree_of b0 t.term) (tree_of b0 t.kind)

  pub found_stops : (c : ℕ) → ¬ (c ≡ 0) → c ≡ open_among (store_of b0 p) (numbers first (length p.variables - first)) → ReadsFound bank (Err (Stop.Refused (Cause.Sentence (SentenceCause.Unresolved c)))) s here
  found_stops c h q = made_stops bank s here c h (made_is b0 s p first c e q)

  pub found_passes : (c : ℕ) → c ≡ 0 → c ≡ open_among (store_of b0 p) (numbers first (length p.variables - first)) → (y : StoreFault) → Passes y (store_of b0 p) (tree_of b0 t.term ∷ tree_of b0 t.kind ∷ []) → ReadsFound bank (Err (store_stop y)) s here
  found_passes c z q y k = limit_stops bank s here (all_made bank s here (sym z ∙ made_is b0 s p first c e q)) y k

  pub found_reads : (c : ℕ) → c ≡ 0 → c ≡ open_among (store_of b0 p) (numbers first (length p.variables - first)) → (r : Typed) → ReadsBoth bank (Ok (r.term, r.kind)) (store_of b0 p) (tree_of b0 t.term) (tree_of b0 t.kind) → ReadsFound bank (Ok r) s here
  found_reads c z q r k = is_read bank s here (all_made bank s here (sym z ∙ made_is b0 s p first c e q)) r k

pub checks_rest : (bank : Terms) (x : ℕ → Work Found) (s : Store) (b l : ℕ) (F : Found) (r : Result Typed Stop) → ComesTo x b (done F l) → ReadsFound bank r s F → Checks bank r (λ n. x n >>= (λ f. typed_work s f n)) b l
checks_rest bank x s b l F (Ok e) h f = (f.0, f.1, comes_then x (λ f. typed_work s f) b F l (done (trees_of bank e) l) h (f.2 l))
checks_rest bank x s b l F (Err stop) h f = stops_rest bank x (λ f. typed_work s f) b F l l stop h (f l)

-- ---- as a sentence

module _ (s : Session) (t : Surface) where
  writes : Tree × Tree → Done
  writes p = (check_text s.env p.0 p.1, Ok s)

  -- what comes behind elaboration
  ends : Found → Done
  ends f =
      elim (open_among f.store (made_between (store_at s.opened) f.store)) as (λ z. Done) [
        | suc k ↦ refused s (unresolved (suc k))
        | zero ↦ all_fit s f.store (f.term ∷ f.kind ∷ []) (typed_text s f, Ok s)
      ]

  kind_fits : (f : Found) (left : ℕ) (o : Option Lack) →
      came_to s s.env writes (within left (elim o as (λ z. Work (Unit {0})) [ Some e ↦ fails (of_store e) | None ↦ gives tt ] >>= λ ok2. gives (read f.store f.term, read f.store f.kind)))
      ≡ elim o as (λ z. Done) [ Some e ↦ refused s (of_store e) | None ↦ (typed_text s f, Ok s) ]
  unfolding came_to within ◌>>=◌ writes
  kind_fits f left None = refl
  kind_fits f left (Some e) = refl

  term_fits : (f : Found) (left : ℕ) (o : Option Lack) →
      came_to s s.env writes
      (within left (elim o as (λ z. Work (Unit {0})) [ Some e ↦ fails (of_store e) | None ↦ fitting_work f.store (f.kind ∷ []) ] >>= λ ok2. gives (read f.store f.term, read f.store f.kind)))
      ≡ elim o as (λ z. Done) [ Some e ↦ refused s (of_store e) | None ↦ all_fit s f.store (f.kind ∷ []) (typed_text s f, Ok s) ]
  unfolding came_to within ◌>>=◌ writes fitting_work all_fit
  term_fits f left None = kind_fits f left (size_fault (read f.store f.kind))
  term_fits f left (Some e) = refl

  solved : (f : Found) (left m : ℕ) →
      came_to s s.env writes
      (within left
      (elim m as (λ z. Work (Unit {0})) [ zero ↦ gives tt | suc n ↦ fails (unresolved (suc n)) ] >>= λ ok. fitting_work f.store (f.term ∷ f.kind ∷ []) >>= λ ok2. gives (read f.store f.term, read f.store f.kind)))
      ≡ elim m as (λ z. Done) [ suc k ↦ refused s (unresolved (suc k)) | zero ↦ all_fit s f.store (f.term ∷ f.kind ∷ []) (typed_text s f, Ok s) ]
  unfolding came_to within ◌>>=◌ writes fitting_work all_fit
  solved f left zero = term_fits f left (size_fault (read f.store f.term))
  solved f left (suc n) = refl

  end_is : (f : Found) (left n : ℕ) → came_to s s.env writes (within left (typed_work (store_at s.opened) f n)) ≡ ends f
  unfolding ends
  end_is f left n = solved f left (open_among f.store (made_between (store_at s.opened) f.store))

  outcome_is : (n : ℕ) (o : Outcome ScriptCause Found) → came_to s s.env ends o ≡ came_to s s.env writes (next o (λ f rest. within rest (typed_work (store_at s.opened) f n)))
  unfolding came_to next ends writes
  outcome_is n (done f left) = sym (end_is f left n)
  outcome_is n (failed c left) = refl
  outcome_is n steps_out = refl

  pub checked_is : checked s t ≡ worked s s.env (checked_work s.env (context_of s.opened) (store_at s.opened) t) (λ p. (check_text s.env p.0 p.1, Ok s))
  unfolding checked worked ends writes
  checked_is =
      outcome_is (suc s.kernel) (within s.kernel (term_work s.env (suc s.kernel) (context_of s.opened) (store_at s.opened) t None))
      ∙ ap (came_to s s.env writes) (sym (within_bind s.kernel (term_work s.env (suc s.kernel) (context_of s.opened) (store_at s.opened) t None) (λ f. typed_work (store_at s.opened) f (suc s.kernel))))
