-- What a new goal leaves, by the calls that make it.
use Rattle.std.proofs.Common.{◌≡◌, ℕ, suc, refl, sym, List, [], None, Result, Ok, Err}
use Rattle.std.proofs.Common.{subst as along}
use Rattle.lq_trees.specs.Tree.{Tree, Context}
use Rattle.lq_trees.specs.Tree.Tree.{Rel}
use Rattle.lq_trees.specs.Hypotheses.{HoldsOnly}
use Rattle.lq_trees.specs.Ticks.{gives, done, ComesTo}
use Rattle.lq_calculus.proofs.ConvSound.{Gives}
use Rattle.lq_terms.specs.declared.nodes.Hypothesis.{Hypothesis}
use Rattle.lq_terms.specs.declared.nodes.TermId.{TermId}
use Rattle.lq_terms.specs.Terms.{Terms, HasTerm, Grows, tree_of}
use Rattle.lq_terms.specs.Contexts.{HasContext, context_of}
use Rattle.lq_solving.specs.Stores.{Store, names_in, read, new_variable}
use Rattle.lq_solving.specs.Kept.{IsContext, IsStore, StandsIn}
use Rattle.lq_evars.specs.declared.store.StoreFault.{StoreFault}
use Rattle.lq_evars.specs.Places.{Places, HasStore, store_of, variable_of, one_more, Makes}
use Rattle.lq_evars.proofs.Growing.{store_of-grown, HasStore-grown, context_grown}
use Rattle.lq_evars.proofs.Having.{more_has}
use Rattle.lq_tactics.specs.Rows.{Scene, needed, new_goal}
use Rattle.lq_tactics.proofs.RowsKept.{IsMade, goal_made, needed_is}
use Rattle.lq_prims.specs.declared.faults.PrimFault.{PrimFault}
use Rattle.lq_prims.specs.Refusals.{store_refusal}
use Rattle.lq_prims.specs.Scenes.{scene_by, normal_work}
use Rattle.lq_prims.specs.Working.{Refuses}
use Rattle.lq_prims.proofs.WorkLaws.{comes_is_given}
use Rattle.lq_prims.proofs.NeedLaws.{variable, goal_does, make_ok, make_err}

-- a term as read holds the hypotheses of its context alone
pub read_holds : (s : Store) (g : Context) (t u : Tree) → StandsIn s g t → needed (read s t) ≡ gives u → HoldsOnly (names_in g) u
read_holds s g t u h e = along (HoldsOnly (names_in g)) (needed_is (read s t) u (along (λ z. Gives z u) (sym e) refl)) h.holds

module _ (old new : Terms) (grows : Grows old new) (p : Places) (has : HasStore old p) (hs : List Hypothesis) (context : HasContext old hs) (A : TermId) (form : TermId) where
  abbrev pub s : Store
  s = store_of old p

  abbrev pub g : Context
  g = context_of old hs

  makes_as : (r : Result ℕ StoreFault) (p1 : Places) → Makes new r p1 (new_variable (store_of new p) (variable_of new (record { context = hs; kind = form; name = None }))) → Makes new r p1 (new_variable s (variable g (tree_of new form)))
  makes_as r p1 h = along (λ w. Makes new r p1 (new_variable s (variable w (tree_of new form)))) (context_grown old new grows hs context).0
      (along (λ z. Makes new r p1 (new_variable z (variable (context_of new hs) (tree_of new form)))) (store_of-grown old new grows p has) h)

  module _ (T : Tree) (b left : ℕ) (q : needed (read s (tree_of old A)) ≡ gives T) (h : ComesTo (normal_work T) b (done (tree_of new form) left)) where
    pub goal_comes : (c : ℕ → Scene) → ((n : ℕ) → (c n).bound ≡ n) → (p1 : Places) (k : ℕ) → Makes new (Ok k) p1 (new_variable (store_of new p) (variable_of new (record { context = hs; kind = form; name = None }))) →
        ComesTo (λ n. new_goal (c n) s g (tree_of old A)) b (done (store_of new p1, k) left)
    goal_comes c bound p1 k m =
        goal_does c bound s g (tree_of old A) new T (tree_of new form) b left q h (λ j. (store_of new p1, j)) (Ok k) (make_ok new p1 k s (variable g (tree_of new form)) (makes_as (Ok k) p1 m))

    pub goal_full : (c : ℕ → Scene) → ((n : ℕ) → (c n).bound ≡ n) → (p1 : Places) (f : StoreFault) (e : PrimFault) → e ≡ store_refusal f → Makes new (Err f) p1 (new_variable (store_of new p) (variable_of new (record { context = hs; kind = form; name = None }))) →
        Refuses new e (λ n. new_goal (c n) s g (tree_of old A)) b left
    goal_full c bound p1 f e r m =
        goal_does c bound s g (tree_of old A) new T (tree_of new form) b left q h (λ j. (store_of new p1, j)) (Err e) (make_err new p1 f e s (variable g (tree_of new form)) r (makes_as (Err f) p1 m))

    -- some scene
    abbrev pub any_scene : ℕ → Scene
    any_scene n = scene_by [] s 0 g (Rel 0) [] n

    pub goal_is_made : IsStore s → IsContext s g → StandsIn s g (tree_of old A) → (p1 : Places) (k : ℕ) → Makes new (Ok k) p1 (new_variable (store_of new p) (variable_of new (record { context = hs; kind = form; name = None }))) →
        IsMade s g (store_of new p1, k)
    goal_is_made i c a p1 k m =
        goal_made (any_scene (suc b)) s g (tree_of old A) (store_of new p1, k) i c a
        (comes_is_given (λ n. new_goal (any_scene n) s g (tree_of old A)) b left (store_of new p1, k) (goal_comes any_scene (λ n. refl) p1 k m))

  pub goal_has : HasTerm new form → (p1 : Places) → p1 ≡ one_more p (record { context = hs; kind = form; name = None }) → HasStore new p1
  goal_has f p1 e = along (HasStore new) (sym e)
      (more_has new p (record { context = hs; kind = form; name = None }) (HasStore-grown old new grows p has) (record { context = (context_grown old new grows hs context).1; kind = f; name = tt }))
