-- The end of elaboration, and a statement.
use Rattle.std.proofs.Common.{◌≡◌, ◌∙◌, refl, sym, ap, subst, ℕ, List, [], ◌∷◌, Result, Ok, Err}
use Rattle.std.specs.Prelude.{IfOk}
use Rattle.lq_trees.specs.Tree.{Tree}
use Rattle.lq_trees.specs.Ticks.{gives, fails, ◌>>=◌, done, failed, within, ComesTo}
use Rattle.lq_trees.proofs.Outcomes.{comes_then}
use Rattle.lq_kernel.specs.Closed.{IsScoped}
use Rattle.lq_terms.specs.declared.nodes.TermId.{TermId}
use Rattle.lq_terms.specs.Terms.{Terms, tree_of}
use Rattle.lq_solving.specs.Elaboration.{Found}
use Rattle.lq_solving.specs.Kept.{IsStore, Stands, StandsIn}
use Rattle.lq_solving.specs.Stores.{Store, no_variables, read, read_fitting}
use Rattle.lq_evars.specs.declared.store.StoreFault.{StoreFault}
use Rattle.lq_evars.specs.Reading.{Answers}
use Rattle.lq_ast.specs.Syntax.{Surface}
use Rattle.lq_calculus.specs.Declarations.{Env as Environment}
use Rattle.lq_terms.specs.declared.nodes.Hypothesis.{Hypothesis}
use Rattle.lq_terms.specs.Contexts.{context_of}
use Rattle.lq_texts.specs.Causes.{Cause as ScriptCause, too_large, too_deep}
use Rattle.lq_sessions.specs.Sessions.{Work}
use Rattle.lq_sessions.specs.Declaring.{type_work, fitting_work}
use Rattle.lq_causes.specs.declared.stops.Stop.{Stop}
use Rattle.lq_causes.specs.Stops.{store_stop}
use Rattle.lq_causes.specs.Stopping.{Stops}
use Rattle.lq_declaring.specs.Constants.{IsSolved, Passes}
use Rattle.lq_declaring.proofs.ConstantLaws.{fits_first, passes_first}
use Rattle.lq_elaborated.specs.Stating.{finished_work, statement_work, IsFinished, Finishes, States}
use Rattle.lq_elaborated.proofs.FindLaws.{stops_first, stops_rest}
use Rattle.lq_elaborated.proofs.SolvedLaws.{read_stands}

-- ---- the end of elaboration

module _ (bank : Terms) (s : Store) (t : Tree) where
  after_solved : Work (Unit {0}) → Work Tree
  after_solved w = w >>= λ ok. fitting_work s (t ∷ []) >>= λ ok2. gives (read s t)

  pub unsolved_stops : (stop : Stop) → IsSolved s (Err stop) → Finishes bank (Err stop) s t
  unfolding within ◌>>=◌ after_solved
  unsolved_stops stop u left = subst (λ z. Stops bank z (finished_work s t) left left) (sym u.told) (tt, λ n l. ap (λ w. within left (after_solved w)) u.work)

  passed_by : IsSolved s (Ok tt) → (c : ScriptCause) → fitting_work s (t ∷ []) ≡ fails c → (left n : ℕ) → within left (finished_work s t n) ≡ failed c left
  unfolding within ◌>>=◌ after_solved
  passed_by u c p left n = ap (λ w. within left (after_solved w)) u ∙ ap (λ w. within left (w >>= λ ok2. gives (read s t))) p

  passes_stops : IsSolved s (Ok tt) → (e : StoreFault) → Passes e s (t ∷ []) → Finishes bank (Err (store_stop e)) s t
  passes_stops u StoreFault.TooLarge p left = (tt, λ n l. passed_by u too_large p left n)
  passes_stops u StoreFault.TooDeep p left = (tt, λ n l. passed_by u too_deep p left n)
  passes_stops u StoreFault.Full p left = absurd p
  passes_stops u StoreFault.NoMemory p left = tt

  pub limit_stops : IsSolved s (Ok tt) → (e : StoreFault) → Answers bank (Err e) (read_fitting s t) → Finishes bank (Err (store_stop e)) s t
  limit_stops u e a = passes_stops u e (passes_first bank s e t [] a)

  none_left : fitting_work s [] ≡ gives tt
  unfolding fitting_work
  none_left = refl

  pub is_finished : IsSolved s (Ok tt) → (r : TermId) → Answers bank (Ok r) (read_fitting s t) → IsFinished bank s t r
  is_finished u r a = let f = fits_first bank s r t [] a in record { is = f.0; solved = u; fits = f.1 ∙ none_left }

  finished_comes : (r : TermId) → IsFinished bank s t r → (left : ℕ) → ComesTo (finished_work s t) left (done (tree_of bank r) left)
  unfolding within ◌>>=◌ after_solved
  finished_comes r f left =
      λ n l. ap (λ w. within left (after_solved w)) f.solved ∙ ap (λ w. within left (w >>= λ ok2. gives (read s t))) f.fits ∙ ap (λ z. done z left) (sym f.is.is)

  pub finished_stands : (r : Result TermId Stop) → IsStore s → Stands s [] t → Finishes bank r s t → IfOk r (IsScoped bank 0) × IfOk r (λ z. StandsIn no_variables [] (tree_of bank z))
  finished_stands (Ok r) i k f =
      let h = subst (Stands no_variables []) (sym f.is.is) (read_stands s i f.solved [] t k) in (record { has = f.is.has; within = h.within }, h)
  finished_stands (Err stop) i k f = (tt, tt)

-- ---- a statement

pub finishes_rest : (bank : Terms) (x : ℕ → Work Found) (b l : ℕ) (F : Found) (r : Result TermId Stop) → ComesTo x b (done F l) → Finishes bank r F.store F.term → States bank r (λ n. x n >>= (λ f. finished_work f.store f.term n)) b l
finishes_rest bank x b l F (Ok r) h f = comes_then x (λ f. finished_work f.store f.term) b F l (done (tree_of bank r) l) h (finished_comes bank F.store F.term r f l)
finishes_rest bank x b l F (Err stop) h f = stops_rest bank x (λ f. finished_work f.store f.term) b F l l stop h (f l)

module _ (bank b0 : Terms) (env : Environment) (hs : List Hypothesis) (S : Store) (A : Surface) (b l : ℕ) (empty : hs ≡ []) (none : S ≡ no_variables) where
  pub statement_states : (F : Found) (r : Result TermId Stop) → ComesTo (λ n. type_work env n (context_of b0 hs) S A) b (done F l) → Finishes bank r F.store F.term → States bank r (statement_work env A) b l
  statement_states F r h f =
      finishes_rest bank (λ n. type_work env n [] no_variables A) b l F r
      (subst (λ z. ComesTo (λ n. type_work env n [] z A) b (done F l)) none (subst (λ z. ComesTo (λ n. type_work env n (context_of b0 z) S A) b (done F l)) empty h)) f

  pub statement_stops : (stop : Stop) → Stops bank stop (λ n. type_work env n (context_of b0 hs) S A) b l → Stops bank stop (statement_work env A) b l
  statement_stops stop h =
      stops_first bank (λ n. type_work env n [] no_variables A) (λ f. finished_work f.store f.term) b l stop
      (subst (λ z. Stops bank stop (λ n. type_work env n [] z A) b l) none (subst (λ z. Stops bank stop (λ n. type_work env n (context_of b0 z) S A) b l) empty h))
