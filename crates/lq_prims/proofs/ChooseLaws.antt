-- The first opening whose rest unifies, one by one.
use Rattle.std.proofs.Common.{subst as along}
use Rattle.std.proofs.Common.{◌≡◌, ℕ, refl, List, [], ◌∷◌, Option, Some, None, Result, Ok}
use Rattle.lq_trees.specs.Tree.{Tree, Context}
use Rattle.lq_trees.specs.Ticks.{gives, ◌>>=◌, done, ComesTo}
use Rattle.lq_trees.proofs.Outcomes.{comes_then, comes_gives}
use Rattle.lq_calculus.specs.Declarations.{Env as Environment, rules_of}
use Rattle.lq_terms.specs.declared.nodes.Hypothesis.{Hypothesis}
use Rattle.lq_terms.specs.declared.nodes.NameId.{NameId}
use Rattle.lq_terms.specs.declared.nodes.TermId.{TermId}
use Rattle.lq_terms.specs.Terms.{Terms, HasTerm, Grows, tree_of}
use Rattle.lq_terms.specs.Contexts.{HasContext, context_of}
use Rattle.lq_env.specs.declared.environment.Declared.{Declared}
use Rattle.lq_env.specs.Environments.{IsEnv, env_of}
use Rattle.lq_env.proofs.Grown.{env_of-grown}
use Rattle.lq_evars.specs.Places.{store_of}
use Rattle.lq_evars.proofs.Growing.{context_grown}
use Rattle.lq_prims.specs.declared.opening.Opening.{Opening}
use Rattle.lq_solving.specs.Stores.{Store}
use Rattle.lq_solving.specs.ElabFaults.{by_unify}
use Rattle.lq_solving.specs.Unification.{unify}
use Rattle.lq_solving.specs.Elaboration.{Givens}
use Rattle.lq_tactics.specs.Rows.{Doing, Scene, elab_work}
use Rattle.lq_tactics.specs.Applying.{Opening as TreeOpening, first_opening}
use Rattle.lq_prims.specs.declared.faults.PrimFault.{PrimFault}
use Rattle.lq_prims.specs.Opening.{opening_of, opening_then, chosen_then, choose_work}
use Rattle.lq_prims.specs.Scenes.{scene_by}
use Rattle.lq_prims.specs.Working.{Refuses, Does}
use Rattle.lq_prims.proofs.OpenLaws.{then_again}
use Rattle.lq_prims.proofs.WorkLaws.{refuses_first, refuses_same, does_same, does_then}

-- what the rest comes to is what the whole comes to
abbrev pub Chooses : (whole rest : ℕ → Doing (Option TreeOpening)) → (budget left : ℕ) → Type 0
Chooses whole rest b l = (late : Terms) (a : Option TreeOpening) (q : Result (Unit {0}) PrimFault) (left : ℕ) → Does late (λ u. a) q rest l left → Does late (λ u. a) q whole b left

module _ (E : Environment) (s : Store) (k : ℕ) (g : Context) (T0 : Tree) (vs : Givens) (T : Tree) (b : ℕ) where
  abbrev c : ℕ → Scene
  c n = scene_by E s k g T0 vs n

  module _ (o : TreeOpening) (os : List TreeOpening) where
    abbrev pub unified : ℕ → Doing (Option Store)
    unified n = elab_work (by_unify (unify (rules_of E) n g o.store o.rest T))

    abbrev first_after : ℕ → Option Store → Doing (Option (TreeOpening × Store))
    first_after n a = elim a as (λ z. Doing (Option (TreeOpening × Store))) [ Some s1 ↦ gives (Some (o, s1)) | None ↦ first_opening (c n) T os ]

    abbrev choose_after : Option Store → ℕ → Doing (Option TreeOpening)
    choose_after a n = first_after n a >>= λ p. gives (chosen_then p)

    choose_is : (n : ℕ) → (unified n >>= λ a. choose_after a n) ≡ choose_work (c n) T (o ∷ os)
    unfolding choose_work first_opening
    choose_is n = then_again (unified n) (first_after n) (λ p. gives (chosen_then p))

    pub choose_refused : (bank : Terms) (e : PrimFault) (l : ℕ) → Refuses bank e unified b l → Refuses bank e (λ n. choose_work (c n) T (o ∷ os)) b l
    choose_refused bank e l h = refuses_same bank e (λ n. unified n >>= λ a. choose_after a n) (λ n. choose_work (c n) T (o ∷ os)) b l choose_is (refuses_first bank e unified choose_after b l h)

    pub choose_found : (bank : Terms) (s1 : Store) (l : ℕ) → ComesTo unified b (done (Some s1) l) → ComesTo (λ n. choose_work (c n) T (o ∷ os)) b (done (Some (opening_then (o, s1))) l)
    unfolding ◌>>=◌
    choose_found bank s1 l h =
        does_same {X = Unit {0}} bank (λ u. Some (opening_then (o, s1))) (Ok tt) (λ n. unified n >>= λ a. choose_after a n) (λ n. choose_work (c n) T (o ∷ os)) b l choose_is
        (comes_then unified choose_after b (Some s1) l (done (Some (opening_then (o, s1))) l) h (comes_gives (choose_after (Some s1)) (Some (opening_then (o, s1))) l (λ n. refl)))

    pub choose_next : (l : ℕ) → ComesTo unified b (done None l) → Chooses (λ n. choose_work (c n) T (o ∷ os)) (λ n. choose_work (c n) T os) b l
    unfolding choose_work
    choose_next l h late a q left d =
        does_same late (λ u. a) q (λ n. unified n >>= λ a. choose_after a n) (λ n. choose_work (c n) T (o ∷ os)) b left choose_is (does_then late (λ u. a) q unified choose_after b l left None h d)

  pub choose_end : ComesTo (λ n. choose_work (c n) T []) b (done None b)
  unfolding choose_work first_opening ◌>>=◌
  choose_end = comes_gives (λ n. choose_work (c n) T []) None b (λ n. refl)

-- unification in a bank that has grown
pub unified_as : (old mid : Terms) (grows : Grows old mid) (ds : List (NameId × Declared)) → IsEnv old ds → (hs : List Hypothesis) → HasContext old hs → (o : Opening) (w : TermId) → HasTerm old w → {X : Type 0} (new : Terms) (tell : X → Option Store) (r : Result X PrimFault) (b l : ℕ) →
    Does new tell r (λ n. elab_work (by_unify (unify (rules_of (env_of mid ds)) n (context_of mid hs) (store_of mid o.store) (tree_of mid o.rest) (tree_of mid w)))) b l →
    Does new tell r (λ n. elab_work (by_unify (unify (rules_of (env_of old ds)) n (context_of old hs) (opening_of mid o).store (opening_of mid o).rest (tree_of old w)))) b l
unified_as old mid grows ds d hs has o w k new tell r b l h =
    along (λ z. Does new tell r (λ n. elab_work (by_unify (unify (rules_of z) n (context_of old hs) (store_of mid o.store) (tree_of mid o.rest) (tree_of old w)))) b l) (env_of-grown old mid grows ds d)
    (along (λ z. Does new tell r (λ n. elab_work (by_unify (unify (rules_of (env_of mid ds)) n z (store_of mid o.store) (tree_of mid o.rest) (tree_of old w)))) b l) (context_grown old mid grows hs has).0
    (along (λ z. Does new tell r (λ n. elab_work (by_unify (unify (rules_of (env_of mid ds)) n (context_of mid hs) (store_of mid o.store) (tree_of mid o.rest) z))) b l) (grows.tree w k) h))
