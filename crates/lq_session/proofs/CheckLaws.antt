-- Where a term is checked, and its line.
use Rattle.std.proofs.Common.{◌≡◌, ◌∙◌, ◌≤◌, ◌<◌, ◌+◌, refl, sym, ap, ap₂, subst, arith, ℕ, eqb, true, false, List, [], ◌∷◌, ◌++◌, length, Some, None, Ok, Err, inl, inr}
use Rattle.std.specs.Prelude.{slice_get, option_map, IfSome}
use Rattle.std.proofs.lemmas.List.{length-map}
use Rattle.std.proofs.lemmas.Option.{slice_get_cases, slice_get-map}
use Rattle.lq_trees.specs.Tree.{Tree}
use Rattle.lq_trees.specs.Ticks.{done, ComesTo}
use Rattle.lq_ast.specs.Syntax.{Surface}
use Rattle.lq_terms.specs.declared.nodes.Hypothesis.{Hypothesis}
use Rattle.lq_terms.specs.Terms.{Terms, HasTerm, Grows, tree_of}
use Rattle.lq_terms.specs.Contexts.{context_of}
use Rattle.lq_env.specs.Environments.{env_of}
use Rattle.lq_env.proofs.Grown.{env_of-grown}
use Rattle.lq_solving.specs.Stores.{no_variables}
use Rattle.lq_solving.specs.Kept.{IsStore}
use Rattle.lq_solving.proofs.KindLaws.{all_get}
use Rattle.lq_evars.specs.declared.store.Variable.{Variable}
use Rattle.lq_evars.specs.Places.{Places, store_of, variable_of, HasVariable}
use Rattle.std.specs.List.{AllByRecursion}
use Rattle.lq_evars.proofs.ValueRead.{variable_has}
use Rattle.lq_goals.specs.Held.{proof_of}
use Rattle.lq_meaning.specs.Works.{context_at}
use Rattle.lq_states.specs.Kept.{times, listed_goals, behind_all}
use Rattle.lq_sessions.specs.Sessions as trees
use Rattle.lq_sessions.specs.Sessions.{Work, Done}
use Rattle.lq_sessions.specs.Sentences as sentences
use Rattle.lq_sessions.specs.Sentences.{checked}
use Rattle.lq_texts.specs.Views.{check_text}
use Rattle.lq_causes.specs.declared.stops.Stop.{Stop}
use Rattle.lq_causes.specs.Stopping.{Stops}
use Rattle.lq_elaborated.specs.declared.terms.Typed.{Typed}
use Rattle.lq_elaborated.specs.Checking.{checked_work, trees_of}
use Rattle.lq_elaborated.proofs.CheckLaws.{checked_is}
use Rattle.lq_session.specs.declared.opened.Opened.{Opened}
use Rattle.lq_session.specs.declared.opened.Session.{Session}
use Rattle.lq_session.specs.Sessions.{opened_of, session_of, IsOpened, IsSession, Does}
use Rattle.lq_session.specs.Checking.{IsHere, IsPlace}
use Rattle.lq_session.proofs.SessionLaws.{stops_does}
use Rattle.lq_session.proofs.ShowLaws.{session_grown, proof_listed}
use Rattle.lq_session.proofs.DeclareLaws.{done_does}

-- ---- the context of the first goal in focus

-- the first of a list is the head of it
first_of : (ks : List ℕ) (k : ℕ) → slice_get ks 0 ≡ Some k → (js : List ℕ) × (ks ≡ k ∷ js)
first_of [] k e = absurd (grind (arith, e))
first_of (j ∷ js) k e = (js, ap (λ o. elim o [ Some z ↦ z ∷ js | None ↦ j ∷ js ]) e)

none_first : (ks : List ℕ) → slice_get ks 0 ≡ None → ks ≡ []
none_first [] e = refl
none_first (j ∷ js) e = absurd (grind (arith, e))

same_number : (k : ℕ) → eqb k k ≡ true
same_number k = grind arith

listed_first : (k : ℕ) (js : List ℕ) → 1 ≤ times (k ∷ js) k
unfolding times
listed_first k js = subst (λ b. 1 ≤ elim b as (λ z. ℕ) [ true ↦ 1 + times js k | false ↦ times js k ]) (sym (same_number k)) (omega arith)

module _ (bank : Terms) (o : Opened) (i : IsOpened bank o) where
  pub goal_inside : (k : ℕ) → slice_get o.proof.focus 0 ≡ Some k → k < length o.proof.store.variables
  unfolding listed_goals
  goal_inside k e =
      let f = first_of o.proof.focus k e in
      omega (arith, (proof_listed (proof_of bank o.proof) i.proof).inside k (subst (λ z. 1 ≤ times (z ++ behind_all [] ++ o.proof.shelf) k) (sym f.1) (listed_first k (f.0 ++ behind_all [] ++ o.proof.shelf))), length-map o.proof.store.variables (variable_of bank))

  pub here_none : slice_get o.proof.focus 0 ≡ None → IsHere bank o []
  unfolding context_at
  here_none e = record { has = tt; is = ap (context_at (store_of bank o.proof.store)) (sym (none_first o.proof.focus e)); stands = tt }

  here_at : (k : ℕ) (js : List ℕ) (v : Variable) → slice_get o.proof.store.variables k ≡ Some v → context_of bank v.context ≡ context_at (store_of bank o.proof.store) (k ∷ js)
  unfolding context_at
  here_at k js v e =
      sym (ap (λ z. elim z [ Some w ↦ w.context | None ↦ [] ]) (slice_get-map (variable_of bank) o.proof.store.variables k ∙ ap (option_map (variable_of bank)) e))

  here_variable : (k : ℕ) (v : Variable) → slice_get o.proof.focus 0 ≡ Some k → slice_get o.proof.store.variables k ≡ Some v → IsHere bank o v.context
  here_variable k v e q =
      let f = first_of o.proof.focus k e in record {
        has = (variable_has bank o.proof.store.variables k v i.store.variables q).context;
        is = here_at k f.0 v q ∙ ap (context_at (store_of bank o.proof.store)) (sym f.1);
        stands = (all_get _ (store_of bank o.proof.store).variables k (variable_of bank v) i.stored.variables (slice_get-map (variable_of bank) o.proof.store.variables k ∙ ap (option_map (variable_of bank)) q)).0;
      }

  pub here_goal : (k : ℕ) (c : List Hypothesis) → slice_get o.proof.focus 0 ≡ Some k → ((v : Variable) → slice_get o.proof.store.variables k ≡ Some v → c ≡ v.context) → IsHere bank o c
  here_goal k c e q = elim (slice_get_cases o.proof.store.variables k).1 [
    | inl f ↦ subst (IsHere bank o) (sym (q f.0 f.2)) (here_variable k f.0 e f.2)
    | inr p ↦ absurd (omega (arith, goal_inside k e, p.0))
  ]

-- ---- the store and the context

none_kept : IsStore no_variables
none_kept = record { values = tt; variables = tt; named = λ j k v w x e f m n. absurd (grind (arith, e)) }

pub place_none : (bank : Terms) (s : Session) (st : Places) → s.opened ≡ None → ((b : Terms) → store_of b st ≡ no_variables) → st.variables ≡ [] → st.values ≡ [] → IsPlace bank s (st, [])
unfolding sentences.store_of sentences.context_of
place_none bank s st e t v w = record {
  store = record { variables = subst (AllByRecursion (HasVariable bank)) (sym v) tt; values = subst (AllByRecursion (λ a. HasTerm bank a.1)) (sym w) tt };
  kept = subst IsStore (sym (t bank)) none_kept;
  context = tt;
  stands = tt;
  store_is = t bank ∙ sym (ap (λ o. sentences.store_of (option_map (opened_of bank) o)) e);
  context_is = sym (ap (λ o. sentences.context_of (option_map (opened_of bank) o)) e);
}

pub place_opened : (bank : Terms) (s : Session) (o : Opened) → s.opened ≡ Some o → IsSession bank s → (st : Places) (c : List Hypothesis) → st ≡ o.proof.store → IsHere bank o c → IsPlace bank s (st, c)
unfolding sentences.store_of sentences.context_of
place_opened bank s o e i st c q h =
    let k = subst (λ z. IfSome z (IsOpened bank)) e i.opened in
    subst (λ z. IsPlace bank s (z, c)) (sym q)
    (record {
      store = k.store;
      kept = k.stored;
      context = h.has;
      stands = h.stands;
      store_is = sym (ap (λ o. sentences.store_of (option_map (opened_of bank) o)) e);
      context_is = h.is ∙ sym (ap (λ o. sentences.context_of (option_map (opened_of bank) o)) e);
    })

-- ---- the line

module _ (old new : Terms) (g : Grows old new) (s : Session) (i : IsSession old s) (st : Places) (c : List Hypothesis) (place : IsPlace old s (st, c)) (t : Surface) (b left : ℕ) (budget : b ≡ s.kernel) where
  abbrev written : Tree × Tree → Done
  written p = (check_text (env_of old s.env) p.0 p.1, Ok (session_of old s))

  abbrev work : ℕ → Work (Tree × Tree)
  work = checked_work (env_of old s.env) (context_of old c) (store_of old st) t

  check_is : checked (session_of old s) t ≡ trees.worked (session_of old s) (env_of old s.env) work written
  check_is =
      checked_is (session_of old s) t
      ∙ ap₂ (λ G S. trees.worked (session_of old s) (env_of old s.env) (checked_work (env_of old s.env) G S t) written) (sym place.context_is) (sym place.store_is)

  pub check_does : (e : Typed) (line : List ℕ) → line ≡ check_text (env_of new s.env) (tree_of new e.term) (tree_of new e.kind) → ComesTo work b (done (trees_of new e) left) → Does old new (Ok line) s s (checked (session_of old s) t)
  check_does e line told h =
      done_does old new s s line work written (checked (session_of old s) t) (trees_of new e) b left budget check_is h
      (ap₂ (λ y z. (y, Ok z)) (ap (λ E. check_text E (tree_of new e.term) (tree_of new e.kind)) (sym (env_of-grown old new g s.env i.env)) ∙ sym told) (sym (session_grown old new g s i)))

  pub check_stops : (stop : Stop) → Stops new stop work b left → Does old new (Err stop) s s (checked (session_of old s) t)
  check_stops stop h = stops_does old new s s stop work written (checked (session_of old s) t) b left budget check_is h
