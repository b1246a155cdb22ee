-- What `Show` writes.
use Rattle.std.proofs.Common.{◌≡◌, ◌∙◌, refl, sym, ap, ap₂, subst, arith, ℕ, ◌<◌, true, false, length, List, [], ◌∷◌, map, Option, Some, None, Result, Ok, Err}
use Rattle.std.specs.Prelude.{option_map, IfSome, not, slice_get}
use Rattle.std.proofs.lemmas.Option.{slice_get_within}
use Rattle.std.specs.List.{AllByRecursion}
use Rattle.lq_terms.specs.declared.nodes.NameId.{NameId}
use Rattle.lq_terms.specs.declared.nodes.TermId.{TermId}
use Rattle.lq_terms.specs.declared.nodes.Hypothesis.{Hypothesis}
use Rattle.lq_terms.specs.Terms.{Terms, Grows}
use Rattle.lq_terms.specs.Contexts.{HasContext, HasBody}
use Rattle.lq_env.specs.Environments.{env_of}
use Rattle.lq_env.proofs.Grown.{env_of-grown, IsEnv-grown}
use Rattle.lq_trees.specs.Index.{Within}
use Rattle.lq_solving.specs.Claims.{ArePlainDeclarations}
use Rattle.lq_goals.proofs.Viewing.{kept_grown}
use Rattle.lq_solving.specs.Stores.{Store, Variable, StoreFault as Lack, is_open, has_value}
use Rattle.lq_states.specs.Goals.{Proof}
use Rattle.lq_states.specs.Kept.{IsProof, IsSwept, IsListed}
use Rattle.lq_evars.specs.declared.store.StoreFault.{StoreFault}
use Rattle.lq_evars.specs.Places.{HasNameOr}
use Rattle.lq_evars.proofs.Growing.{store_of-grown, HasStore-grown}
use Rattle.lq_states.specs.Views.{GoalView as TreeView, ProofView as TreeProofView, proof_view}
use Rattle.lq_goals.specs.declared.views.GoalView.{GoalView}
use Rattle.lq_goals.specs.declared.views.ProofView.{ProofView}
use Rattle.lq_goals.specs.Held.{proof_of}
use Rattle.lq_goals.specs.Seen.{AreViews, IsProofView, Shows}
use Rattle.lq_texts.specs.Views.{proof_text}
use Rattle.lq_texts.specs.Causes.{Cause as ScriptCause, too_large, too_deep}
use Rattle.lq_print.specs.Goals.{goal_of, view_of, HasTermOr, HasHypothesis, HasGoal}
use Rattle.lq_print.specs.Goals as print
use Rattle.lq_sessions.specs.Told.{of_store}
use Rattle.lq_sessions.specs.Sessions as trees
use Rattle.lq_sessions.specs.Sessions.{Done, refused, needs_proof}
use Rattle.lq_sessions.specs.Sentences as sentences
use Rattle.lq_sessions.specs.Sentences.{goals_of, shown}
use Rattle.lq_causes.specs.Stops.{store_stop}
use Rattle.lq_session.specs.declared.opened.Opened.{Opened}
use Rattle.lq_session.specs.declared.opened.Session.{Session}
use Rattle.lq_session.specs.Sessions.{opened_of, session_of, IsOpened, IsSession, Does}
use Rattle.lq_session.proofs.SessionLaws.{with_proof}

-- ---- a session in a bank that has grown

opened_grown : (old new : Terms) → Grows old new → (o : Opened) → IsOpened old o → opened_of new o ≡ opened_of old o
opened_grown old new g o i = rw (g.text o.name i.name, g.tree o.statement i.statement.has, store_of-grown old new g o.proof.store i.store) refl

pub session_grown : (old new : Terms) → Grows old new → (s : Session) → IsSession old s → session_of new s ≡ session_of old s
session_grown old new g s i = ap₂ (λ E o. record { env = E; definitions = []; steps = s.steps; kernel = s.kernel; opened = o }) (env_of-grown old new g s.env i.env) (at s.opened i.opened)
  where
    at : (o : Option Opened) → IfSome o (IsOpened old) → option_map (opened_of new) o ≡ option_map (opened_of old) o
    at None k = refl
    at (Some o) k = ap Some (opened_grown old new g o k)

is_opened_grown : (old new : Terms) → Grows old new → (o : Opened) → IsOpened old o → IsOpened new o
is_opened_grown old new g o i = record {
  name = omega (arith, i.name, g.names);
  statement = record { has = omega (arith, i.statement.has, g.nodes); within = subst (Within 0) (sym (g.tree o.statement i.statement.has)) i.statement.within };
  store = HasStore-grown old new g o.proof.store i.store;
  stored = kept_grown old new g o.proof.store i.store i.stored;
  proof = subst (λ st. IsProof (record { store = st; focus = o.proof.focus; frames = []; shelf = o.proof.shelf })) (sym (store_of-grown old new g o.proof.store i.store)) i.proof;
  swept = subst (λ st. IsSwept (record { store = st; focus = o.proof.focus; frames = []; shelf = o.proof.shelf }) o.proof.given o.proof.seen) (sym (store_of-grown old new g o.proof.store i.store)) i.swept;
}

pub is_session_grown : (old new : Terms) → Grows old new → (s : Session) → IsSession old s → IsSession new s
is_session_grown old new g s i = record {
  env = IsEnv-grown old new g s.env i.env;
  plain = subst ArePlainDeclarations (sym (env_of-grown old new g s.env i.env)) i.plain;
  opened = at s.opened i.opened;
}
  where
    at : (o : Option Opened) → IfSome o (IsOpened old) → IfSome o (IsOpened new)
    at None k = tt
    at (Some o) k = is_opened_grown old new g o k

-- ---- the lists of a proof

open_inside : (st : Store) (k : ℕ) → is_open st k ≡ true → k < length st.variables
unfolding is_open
open_inside st k e = at (slice_get st.variables k) refl e
  where
    at : (o : Option Variable) → slice_get st.variables k ≡ o → elim o [ None ↦ false | Some v ↦ not (has_value st k) ] ≡ true → k < length st.variables
    at None q e = grind arith
    at (Some v) q e = slice_get_within st.variables k v q

pub proof_listed : (p : Proof) → IsProof p → IsListed p
proof_listed p k = record { rooted = k.rooted; once = k.once; inside = λ j l. open_inside p.store j (k.valueless j l) }

-- ---- goals as they read

has_name : (bank : Terms) (o : Option NameId) → HasNameOr bank o → print.HasNameOr bank o
has_name bank None h = tt
has_name bank (Some x) h = h

has_term : (bank : Terms) (o : Option TermId) → HasBody bank o → HasTermOr bank o
has_term bank None h = tt
has_term bank (Some t) h = h

has_hypotheses : (bank : Terms) (hs : List Hypothesis) → HasContext bank hs → AllByRecursion (HasHypothesis bank) hs
has_hypotheses bank [] k = tt
has_hypotheses bank (h ∷ hs) k = (record { name = k.0.name; body = has_term bank h.body k.0.body; kind = k.0.kind }, has_hypotheses bank hs k.1)

pub goals_are : (bank : Terms) (gs : List TreeView) (vs : List GoalView) → AreViews bank gs vs → AllByRecursion (HasGoal bank) vs × (map (goal_of bank) vs ≡ goals_of gs)
unfolding goals_of
goals_are bank [] [] a = (tt, refl)
goals_are bank (g ∷ gs) (v ∷ vs) a =
    let rest = goals_are bank gs vs a.1 in (
      (record { name = has_name bank v.name a.0.name.0; context = has_hypotheses bank v.context a.0.context.0; kind = a.0.kind.0 }, rest.0),
      ap₂ (λ x xs. x ∷ xs) (rw (a.0.name.1, a.0.context.1, a.0.kind.1) refl) rest.1,
    )
goals_are bank [] (v ∷ vs) a = absurd a
goals_are bank (g ∷ gs) [] a = absurd a

-- what a proof's view is, of those that it may be
pub view_found : (bank : Terms) (v : ProofView) (r : Result TreeProofView Lack) → Shows (IsProofView bank) (Ok v) r → (t : TreeProofView) × (r ≡ Ok t) × IsProofView bank t v
view_found bank v (Ok t) s = (t, refl, s)
view_found bank v (Err f) s = absurd s

-- ---- the sentence

abbrev shown_by : trees.Session → Result TreeProofView Lack → Done
shown_by s r = elim r [ Err f ↦ refused s (of_store f) | Ok v ↦ (proof_text s.env (sentences.view_of v), Ok s) ]

module _ (old new : Terms) (g : Grows old new) (s : Session) (i : IsSession old s) (o : Opened) (is : s.opened ≡ Some o) where
  shown_is : needs_proof (session_of old s) (shown (session_of old s)) ≡ shown_by (session_of old s) (proof_view (proof_of old o.proof))
  unfolding shown
  shown_is = with_proof old s (shown (session_of old s)) o is

  pub show_does : (v : ProofView) (t : List ℕ) → Shows (IsProofView new) (Ok v) (proof_view (proof_of old o.proof)) → t ≡ proof_text (env_of new s.env) (view_of new v) →
      Does old new (Ok t) s s (needs_proof (session_of old s) (shown (session_of old s)))
  show_does v t told e =
      let f = view_found new v (proof_view (proof_of old o.proof)) told in
      let goals = goals_are new f.0.goals v.goals.items f.2.goals in
      shown_is ∙ ap (shown_by (session_of old s)) f.1
      ∙ ap₂ (λ x y. (x, Ok y)) (sym (e ∙ ap₂ proof_text (env_of-grown old new g s.env i.env) (view_is f.0 goals.1 f.2.shelved))) (sym (session_grown old new g s i))
    where
      view_is : (p : TreeProofView) → map (goal_of new) v.goals.items ≡ goals_of p.goals → v.shelved ≡ p.shelved → view_of new v ≡ sentences.view_of p
      view_is p a b = ap₂ (λ xs n. record { goals = xs; shelved = n }) a b

  pub show_stops : (e : StoreFault) → Shows (IsProofView new) (Err e) (proof_view (proof_of old o.proof)) → Does old new (Err (store_stop e)) s s (needs_proof (session_of old s) (shown (session_of old s)))
  unfolding of_store
  show_stops e told = at e (proof_view (proof_of old o.proof)) refl told
    where
      by : (c : ScriptCause) (f : Lack) → proof_view (proof_of old o.proof) ≡ Err f → of_store f ≡ c → needs_proof (session_of old s) (shown (session_of old s)) ≡ refused (session_of old s) c
      by c f q k = shown_is ∙ ap (shown_by (session_of old s)) q ∙ ap (refused (session_of old s)) k

      at : (e : StoreFault) (r : Result TreeProofView Lack) → proof_view (proof_of old o.proof) ≡ r → Shows (IsProofView new) (Err e) r → Does old new (Err (store_stop e)) s s (needs_proof (session_of old s) (shown (session_of old s)))
      at StoreFault.TooLarge (Ok v) q t = grind arith
      at StoreFault.TooLarge (Err f) q t = (tt, by too_large f q (ap (λ o. elim o [ Some z ↦ of_store z | None ↦ too_large ]) t))
      at StoreFault.TooDeep (Ok v) q t = grind arith
      at StoreFault.TooDeep (Err f) q t = (tt, by too_deep f q (ap (λ o. elim o [ Some z ↦ of_store z | None ↦ too_deep ]) t))
      at StoreFault.Full (Ok v) q t = absurd t
      at StoreFault.Full (Err f) q t = absurd t
      at StoreFault.NoMemory r q t = tt
