-- A context with one hypothesis more.
use Rattle.std.proofs.Common.{◌≡◌, sym, ℕ, List, [], ◌∷◌, ◌++◌}
use Rattle.std.proofs.Common.{subst as along}
use Rattle.lq_trees.specs.Tree.{Tree, Context}
use Rattle.lq_trees.specs.Tree.{Hypothesis as TreeHypothesis}
use Rattle.lq_trees.specs.Tree.Tree.{Rel, Evar}
use Rattle.lq_trees.specs.Change.{close}
use Rattle.lq_calculus.specs.Declarations.{variables}
use Rattle.lq_terms.specs.declared.nodes.Hypothesis.{Hypothesis}
use Rattle.lq_terms.specs.declared.nodes.TermId.{TermId}
use Rattle.lq_terms.specs.Terms.{Terms, IsTerm, text_of, tree_of}
use Rattle.lq_terms.specs.Contexts.{HasContext, context_of, hypothesis_of}
use Rattle.lq_terms.proofs.Growth.{Grows-refl}
use Rattle.lq_solving.specs.Stores.{Store, instance_list, names_in}
use Rattle.lq_solving.specs.Kept.{IsContext, Stands, StandsIn}
use Rattle.lq_solving.proofs.InferKept.{names_more}
use Rattle.lq_solving.proofs.InstanceLaws.{is_same}
use Rattle.lq_solving.proofs.StandsLaws.{listed_more}
use Rattle.lq_solving.proofs.UnifyForms.{stands_more}
use Rattle.lq_evars.specs.Places.{Places, store_of}
use Rattle.lq_tactics.specs.Rows.{goal_term}
use Rattle.lq_tactics.proofs.IntroKept.{more_context}
use Rattle.lq_prims.specs.Making.{IsIn, HasIn, MayFollow}
use Rattle.lq_prims.specs.Scenes.{behind}
use Rattle.lq_prims.proofs.BinderLaws.{goal_closed}
use Rattle.lq_prims.proofs.EnterLaws.{behind_is}

-- a term below one hypothesis more
more_names : (s : Store) (g : Context) (h : TreeHypothesis) (t : Tree) → StandsIn s g t → StandsIn s (behind g h) t
more_names s g h t k = along (λ xs. Stands s xs t) (sym (names_more g h)) (stands_more s (names_in g) (names_in g ++ h.name ∷ []) (λ x l. listed_more (names_in g) (h.name ∷ []) x l) t k)

module _ (bank : Terms) (s : Places) (hs : List Hypothesis) (i : IsIn bank s hs) (h : Hypothesis) (f : MayFollow bank s hs h) where
  module _ (more : List Hypothesis) (e : more ≡ hs ++ h ∷ []) where
    longer : HasContext bank more × (context_of bank more ≡ behind (context_of bank hs) (hypothesis_of bank h))
    longer = behind_is bank bank (Grows-refl bank) hs h more i.has f.has e

    pub longer_is : context_of bank more ≡ behind (context_of bank hs) (hypothesis_of bank h)
    longer_is = longer.1

    pub longer_in : IsIn bank s more
    longer_in = record {
      store = i.store;
      kept = i.kept;
      has = longer.0;
      stands = along (IsContext (store_of bank s)) (sym longer.1) (more_context (store_of bank s) (context_of bank hs) (hypothesis_of bank h) i.stands f.new f.body f.kind);
    }

    pub kind_longer : (t : TermId) → HasIn bank s hs t → HasIn bank s more t
    kind_longer t k = record {
      has = k.has;
      stands = along (λ z. StandsIn (store_of bank s) z (tree_of bank t)) (sym longer.1) (more_names (store_of bank s) (context_of bank hs) (hypothesis_of bank h) (tree_of bank t) k.stands);
    }

  -- the goal's term below the hypothesis' binder
  pub goal_behind : (new : Terms) (k : ℕ) (t : TermId) → IsTerm new t (Evar k (instance_list (variables (context_of bank hs) ++ Rel 0 ∷ []))) →
      IsTerm new t (close (text_of bank h.name) (goal_term k (behind (context_of bank hs) (hypothesis_of bank h))))
  goal_behind new k t is = along (IsTerm new t) (sym (goal_closed k (context_of bank hs) (hypothesis_of bank h) f.new (is_same (text_of bank h.name)))) is
