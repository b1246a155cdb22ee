-- What is found in the work of a sentence, one part after the other.
use Rattle.std.proofs.Math.Path.{fun_ext}
use Rattle.std.proofs.Common.{◌≡◌, refl, sym, arith, ℕ, None, subst, ap, ◌∙◌}
use Rattle.lq_trees.specs.Tree.{Context}
use Rattle.lq_trees.specs.Ticks.{gives, ◌>>=◌, done, failed, steps_out, ComesTo}
use Rattle.lq_trees.proofs.Outcomes.{comes_gives, comes_then, comes_failed, comes_spent}
use Rattle.lq_terms.specs.Terms.{Terms, Grows}
use Rattle.lq_solving.specs.Stores.{Store}
use Rattle.lq_solving.proofs.ElabKept.{Grown}
use Rattle.lq_evars.specs.Places.{Places, store_of}
use Rattle.lq_evars.proofs.Growing.{store_of-grown, HasStore-grown}
use Rattle.lq_elab.specs.declared.elaborating.Elaborated.{Elaborated}
use Rattle.lq_elab.specs.Calls.{IsElaborated}
use Rattle.lq_elaborated.specs.declared.terms.Typed.{Typed}
use Rattle.lq_trees.specs.Ticks.{Outcome, within, Paid, fails, cut, tick, faults_as}
use Rattle.lq_declaring.proofs.ConstantLaws.{stops_as}
use Rattle.lq_trees.specs.declared.Sort.{Sort as Universe}
use Rattle.lq_calculus.specs.Declarations.{Env}
use Rattle.lq_ast.specs.Syntax.{Surface}
use Rattle.lq_solving.specs.Elaboration.{Found, elaborate_call, found_sort}
use Rattle.lq_typing.specs.declared.faults.ElabFault.{ElabFault}
use Rattle.lq_typing.specs.Refusals.{Refuses}
use Rattle.lq_sessions.specs.Told.{of_elab}
use Rattle.lq_sessions.specs.Declaring.{plain_site, term_work, type_work}
use Rattle.lq_causes.proofs.StopLaws.{comes_told}
use Rattle.lq_elaborated.specs.Faults.{elab_stop}
use Rattle.lq_elaborated.proofs.FaultLaws.{elab_stops}
use Rattle.lq_texts.specs.Causes.{Cause as ScriptCause}
use Rattle.lq_print.specs.declared.causes.TermCause.{TermCause}
use Rattle.lq_print.specs.declared.causes.Cause.{Cause}
use Rattle.lq_sessions.specs.Sessions.{Work, told_as}
use Rattle.lq_causes.specs.declared.stops.Stop.{Stop}
use Rattle.lq_causes.specs.Stopping.{term_outcome, outcome_of, Stops}
use Rattle.lq_elaborated.specs.Finding.{found_in, IsTyped}

-- ---- what stops one work stops another

module _ {A B : Type 0} (bank : Terms) (x : ℕ → Work A) (y : ℕ → Work B) (b d l : ℕ) (fails : (c : ScriptCause) → ComesTo x b (failed c l) → ComesTo y d (failed c l)) (out : ComesTo x b steps_out → ComesTo y d steps_out) where
  by_term : (c : TermCause) → ComesTo x b (term_outcome bank c l) → ComesTo y d (term_outcome bank c l)
  by_term (TermCause.Unknown z) h = fails _ h
  by_term (TermCause.NotAProduct t) h = fails _ h
  by_term (TermCause.NotASort t) h = fails _ h
  by_term (TermCause.Mismatch t u) h = fails _ h
  by_term TermCause.NoSortAbove h = fails _ h
  by_term (TermCause.CannotInfer p) h = fails _ h
  by_term (TermCause.HasVariable n) h = fails _ h
  by_term TermCause.StepsOut h = out h
  by_term TermCause.TooLarge h = fails _ h
  by_term TermCause.TooDeep h = fails _ h
  by_term TermCause.Full h = fails _ h

  by_cause : (c : Cause) → ComesTo x b (outcome_of bank c l) → ComesTo y d (outcome_of bank c l)
  by_cause (Cause.Text c) h = fails _ h
  by_cause (Cause.Sentence c) h = fails _ h
  by_cause (Cause.Declaration c) h = fails _ h
  by_cause (Cause.Term c) h = by_term c h
  by_cause (Cause.Goal c) h = fails _ h
  by_cause (Cause.Primitive c) h = fails _ h
  by_cause (Cause.Rule c) h = fails _ h
  by_cause (Cause.Ltac c) h = fails _ h

  pub stops_by : (stop : Stop) → Stops bank stop x b l → Stops bank stop y d l
  stops_by (Stop.Refused c) h = (h.0, by_cause c h.1)
  stops_by Stop.NoMemory h = tt

module _ {A B : Type 0} (bank : Terms) (x : ℕ → Work A) (k : A → ℕ → Work B) (b : ℕ) where
  pub stops_first : (l : ℕ) (stop : Stop) → Stops bank stop x b l → Stops bank stop (λ n. x n >>= (λ a. k a n)) b l
  stops_first l stop h = stops_by bank x (λ n. x n >>= (λ a. k a n)) b b l (λ c e. comes_failed x k b c l e) (λ e. comes_spent x k b e) stop h

  pub stops_rest : (a : A) (l m : ℕ) (stop : Stop) → ComesTo x b (done a l) → Stops bank stop (k a) l m → Stops bank stop (λ n. x n >>= (λ z. k z n)) b m
  stops_rest a l m stop e h = stops_by bank (k a) (λ n. x n >>= (λ z. k z n)) l b m (λ c f. comes_then x k b a l (failed c m) e f) (λ f. comes_then x k b a l steps_out e f) stop h

-- equal work
pub comes_same : {A : Type 0} (f g : ℕ → Work A) (b : ℕ) (o : Outcome ScriptCause A) → ((n : ℕ) → f n ≡ g n) → ComesTo g b o → ComesTo f b o
comes_same f g b o e h = λ n i. ap (within b) (e n) ∙ h n i

-- ---- what was elaborated

pub typed_of : (bank : Terms) (S : Store) (s : Places) (c : Context) (e : Elaborated) → IsElaborated bank S s c e → IsTyped bank S s c (record { term = e.term; kind = e.kind })
typed_of bank S s c e h = record {
  store = h.store;
  grown = h.grown;
  term = h.term;
  kind = h.kind;
  term_stands = h.term_stands;
  kind_stands = h.kind_stands;
  term_fits = h.term_fits;
  kind_fits = h.kind_fits;
}

-- the same in a bank that has grown
module _ (old new : Terms) (g : Grows old new) (S : Store) (s : Places) (c : Context) (e : Typed) (h : IsTyped old S s c e) where
  pub store_same : store_of new s ≡ store_of old s
  store_same = store_of-grown old new g s h.store

  pub found_same : found_in new s e ≡ found_in old s e
  found_same = rw (store_same, g.tree e.term h.term, g.tree e.kind h.kind) refl

  pub typed_grown : IsTyped new S s c e
  typed_grown = record {
    store = HasStore-grown old new g s h.store;
    grown = subst (Grown S) (sym store_same) h.grown;
    term = omega (arith, h.term, g.nodes);
    kind = omega (arith, h.kind, g.nodes);
    term_stands = rw (store_same, g.tree e.term h.term) h.term_stands;
    kind_stands = rw (store_same, g.tree e.kind h.kind) h.kind_stands;
    term_fits = rw (store_same, g.tree e.term h.term) h.term_fits;
    kind_fits = rw (store_same, g.tree e.kind h.kind) h.kind_fits;
  }

-- ---- a type, whose own type must be a sort

-- faults of parts told in another way
pub told_bind : {F G A B : Type 0} (h : F → G) (m : Paid F A) (k : A → Paid F B) → faults_as h (m >>= k) ≡ faults_as h m >>= (λ a. faults_as h (k a))
unfolding ◌>>=◌ faults_as
told_bind h (gives a) k = refl
told_bind h (fails f) k = refl
told_bind h cut k = refl
told_bind h (tick r) k = ap tick (told_bind h r k)

told_sort : {F G A B : Type 0} (h : F → G) (m : Paid F A) (b : B) → faults_as h (m >>= (λ a. gives b)) ≡ faults_as h m >>= (λ a. gives b)
unfolding ◌>>=◌ faults_as
told_sort h (gives a) b = refl
told_sort h (fails f) b = refl
told_sort h cut b = refl
told_sort h (tick r) b = ap tick (told_sort h r b)

module _ (env : Env) (g : Context) (S : Store) (t : Surface) (b left last : ℕ) where
  abbrev sort_work : Found → ℕ → Work Universe
  sort_work f n = told_as of_elab (found_sort (plain_site env n g) g f)

  abbrev sorted : Found → ℕ → Work Found
  sorted f n = sort_work f n >>= λ u. gives f

  abbrev first_found : ℕ → Work Found
  first_found n = term_work env n g S t None

  type_is : (n : ℕ) → type_work env n g S t ≡ first_found n >>= (λ f. sorted f n)
  unfolding type_work
  type_is n =
      told_bind of_elab (elaborate_call (plain_site env n g) S t None) (λ f. found_sort (plain_site env n g) g f >>= λ u. gives f)
      ∙ ap (λ k. first_found n >>= k) (fun_ext (λ f. told_sort of_elab (found_sort (plain_site env n g) g f) f))

  pub type_comes : (F : Found) (u : Universe) → ComesTo first_found b (done F left) → ComesTo (λ n. found_sort (plain_site env n g) g F) left (done u last) →
      ComesTo (λ n. type_work env n g S t) b (done F last)
  type_comes F u h k =
      comes_same (λ n. type_work env n g S t) (λ n. first_found n >>= (λ f. sorted f n)) b (done F last) type_is
      (comes_then first_found sorted b F left (done F last) h
      (comes_then (sort_work F) (λ u n. gives F) left u last (done F last) (comes_told of_elab (λ n. found_sort (plain_site env n g) g F) left (done u last) k) (comes_gives (λ n. gives F) F last (λ n. refl))))

  pub type_stops_first : (bank : Terms) (stop : Stop) → Stops bank stop first_found b left → Stops bank stop (λ n. type_work env n g S t) b left
  type_stops_first bank stop h = stops_as bank stop (λ n. type_work env n g S t) (λ n. first_found n >>= (λ f. sorted f n)) b left type_is (stops_first bank first_found sorted b left stop h)

  pub type_stops : (bank : Terms) (F : Found) (e : ElabFault) → ComesTo first_found b (done F left) → Refuses bank e (λ n. found_sort (plain_site env n g) g F) left last →
      Stops bank (elab_stop e) (λ n. type_work env n g S t) b last
  type_stops bank F e h k =
      stops_as bank (elab_stop e) (λ n. type_work env n g S t) (λ n. first_found n >>= (λ f. sorted f n)) b last type_is
      (stops_rest bank first_found sorted b F left last (elab_stop e) h
      (stops_first bank (sort_work F) (λ u n. gives F) left last (elab_stop e) (elab_stops bank e (λ n. found_sort (plain_site env n g) g F) left last k)))
