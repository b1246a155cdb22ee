-- A goal under one hypothesis more, by places of a bank.
use Rattle.std.proofs.Common.{◌≡◌, ◌∙◌, ℕ, sym, ap, false, List, [], ◌∷◌, ◌++◌, Result}
use Rattle.std.proofs.Common.{subst as along}
use Rattle.std.proofs.lemmas.List.{map-append}
use Rattle.lq_trees.specs.Tree.{Tree, Context}
use Rattle.lq_trees.specs.Fresh.{is_listed, opened}
use Rattle.lq_terms.specs.declared.nodes.Hypothesis.{Hypothesis}
use Rattle.lq_terms.specs.declared.nodes.TermId.{TermId}
use Rattle.lq_terms.specs.Terms.{Terms, IsTerm, Grows, tree_of}
use Rattle.lq_terms.specs.Contexts.{HasAllOf, HasContext, hypothesis_of, context_of}
use Rattle.lq_solving.specs.Stores.{Store, names_in}
use Rattle.lq_solving.specs.Kept.{IsContext, OptionStands, StandsIn}
use Rattle.lq_solving.proofs.StandsLaws.{StandsUnder}
use Rattle.lq_evars.specs.Places.{Places, store_of}
use Rattle.lq_evars.proofs.Growing.{store_of-grown, context_grown}
use Rattle.lq_tactics.specs.Rows.{Scene, new_goal}
use Rattle.lq_tactics.proofs.IntroKept.{more_context, unshut_stands}
use Rattle.lq_prims.specs.declared.faults.PrimFault.{PrimFault}
use Rattle.lq_prims.specs.Scenes.{IsGoal, context_at, behind}
use Rattle.lq_prims.specs.Working.{Does}
use Rattle.lq_prims.proofs.SceneLaws.{context_stands, HasGoalContext}

-- a hypothesis in a bank that has grown
pub behind_is : (old new : Terms) → Grows old new → (hs : List Hypothesis) (h : Hypothesis) (more : List Hypothesis) → HasContext old hs → HasAllOf old h → more ≡ hs ++ h ∷ [] →
    HasContext new more × (context_of new more ≡ behind (context_of old hs) (hypothesis_of old h))
behind_is old new g hs h more has a e =
    let k = context_grown old new g (hs ++ h ∷ []) (all_behind hs has) in
    (along (HasContext new) (sym e) k.1, ap (context_of new) e ∙ k.0 ∙ map-append (hypothesis_of old) hs (h ∷ []))
  where
    all_behind : (js : List Hypothesis) → HasContext old js → HasContext old (js ++ h ∷ [])
    all_behind [] k = (a, tt)
    all_behind (j ∷ js) k = (k.0, all_behind js k.1)

module _ (old mid : Terms) (grows : Grows old mid) (p : Places) (goal : ℕ) (q : IsGoal old p goal) (hs : List Hypothesis) (c : HasGoalContext old p goal q hs) (h : Hypothesis) (all : HasAllOf old h)
    (more : List Hypothesis) (e : more ≡ hs ++ h ∷ []) where
  abbrev pub s : Store
  s = store_of old p

  abbrev pub g : Context
  g = context_at s goal

  longer : context_of mid more ≡ behind g (hypothesis_of old h)
  longer = (behind_is old mid grows hs h more c.has all e).1 ∙ ap (λ z. behind z (hypothesis_of old h)) c.is

  same : store_of mid p ≡ s
  same = store_of-grown old mid grows p q.store

  pub longer_has : HasContext mid more
  longer_has = (behind_is old mid grows hs h more c.has all e).0

  module _ (new : is_listed (names_in g) (hypothesis_of old h).name ≡ false) (body : OptionStands s (names_in g) (hypothesis_of old h).body) (kind : StandsIn s g (hypothesis_of old h).kind) where
    pub longer_stands : IsContext (store_of mid p) (context_of mid more)
    longer_stands = along (λ z. IsContext z (context_of mid more)) (sym same) (along (IsContext s) (sym longer) (more_context s g (hypothesis_of old h) (context_stands old p goal q) new body kind))

    pub rest_stands_in : (B : Tree) (u : TermId) → StandsUnder s (names_in g) 1 B → IsTerm mid u (opened (hypothesis_of old h).name B) → StandsIn (store_of mid p) (context_of mid more) (tree_of mid u)
    rest_stands_in B u r o =
        along (λ z. StandsIn z (context_of mid more) (tree_of mid u)) (sym same)
        (along (λ z. StandsIn s z (tree_of mid u)) (sym longer) (along (StandsIn s (behind g (hypothesis_of old h))) (sym o.is) (unshut_stands s q.kept g (hypothesis_of old h) B r)))

  pub entered_does : {X : Type 0} (bank : Terms) (tell : X → Store × ℕ) (r : Result X PrimFault) (c : ℕ → Scene) (B : Tree) (u : TermId) (b left : ℕ) → IsTerm mid u (opened (hypothesis_of old h).name B) →
      Does bank tell r (λ n. new_goal (c n) (store_of mid p) (context_of mid more) (tree_of mid u)) b left → Does bank tell r (λ n. new_goal (c n) s (behind g (hypothesis_of old h)) (opened (hypothesis_of old h).name B)) b left
  entered_does bank tell r c B u b left o k =
      along (λ z. Does bank tell r (λ n. new_goal (c n) s (behind g (hypothesis_of old h)) z) b left) o.is
      (along (λ z. Does bank tell r (λ n. new_goal (c n) s z (tree_of mid u)) b left) longer
      (along (λ z. Does bank tell r (λ n. new_goal (c n) z (context_of mid more) (tree_of mid u)) b left) same k))
