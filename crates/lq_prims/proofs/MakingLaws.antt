-- Where goals are made: in a bank that has grown, and in a store that has grown.
use Rattle.std.proofs.Common.{◌≡◌, sym, arith, ℕ, List, []}
use Rattle.std.proofs.Common.{subst as along}
use Rattle.lq_terms.specs.declared.nodes.Hypothesis.{Hypothesis}
use Rattle.lq_terms.specs.declared.nodes.TermId.{TermId}
use Rattle.lq_trees.specs.Tree.{Name, Tree}
use Rattle.lq_trees.specs.Tree.Tree.{Prod}
use Rattle.lq_terms.specs.Terms.{Terms, IsTerm, Grows, tree_of}
use Rattle.lq_terms.specs.Contexts.{context_of}
use Rattle.lq_solving.specs.Stores.{Store, names_in}
use Rattle.lq_solving.specs.Kept.{IsStore, IsContext, Stands, StandsIn}
use Rattle.lq_solving.proofs.ElabKept.{Grown}
use Rattle.lq_solving.proofs.Good.{IsGood}
use Rattle.lq_solving.proofs.Later.{good_stands}
use Rattle.lq_solving.proofs.OverLaws.{within_more}
use Rattle.lq_solving.proofs.StandsLaws.{StandsUnder, prod_stands}
use Rattle.lq_solving.proofs.StoreLaws.{context_keeps}
use Rattle.lq_evars.specs.Places.{Places, store_of, HasStore}
use Rattle.lq_evars.proofs.Growing.{HasStore-grown, store_of-grown, context_grown}
use Rattle.lq_prims.specs.Making.{IsIn, HasIn}
use Rattle.lq_prims.specs.Scenes.{IsGoal}
use Rattle.lq_prims.proofs.SceneLaws.{HasGoalContext, context_stands}

-- a term below a binder that it does not look at
below : (s : Store) (xs : List Name) (t : Tree) → Stands s xs t → StandsUnder s xs 1 t
below s xs t h = record { over = h.over; within = within_more 0 1 (omega arith) t h.within; holds = h.holds }

module _ (old new : Terms) (g : Grows old new) (s : Places) (hs : List Hypothesis) (i : IsIn old s hs) where
  pub same_store : store_of new s ≡ store_of old s
  same_store = store_of-grown old new g s i.store

  pub same_context : context_of new hs ≡ context_of old hs
  same_context = (context_grown old new g hs i.has).0

  pub in_grown : IsIn new s hs
  in_grown = record {
    store = HasStore-grown old new g s i.store;
    kept = along IsStore (sym same_store) i.kept;
    has = (context_grown old new g hs i.has).1;
    stands = along (λ z. IsContext z (context_of new hs)) (sym same_store) (along (IsContext (store_of old s)) (sym same_context) i.stands);
  }

  pub term_grown : (t : TermId) → HasIn old s hs t → HasIn new s hs t
  term_grown t h = record {
    has = omega (arith, h.has, g.nodes);
    stands = along (λ z. StandsIn z (context_of new hs) (tree_of new t)) (sym same_store)
        (along (λ z. StandsIn (store_of old s) z (tree_of new t)) (sym same_context) (along (StandsIn (store_of old s) (context_of old hs)) (sym (g.tree t h.has)) h.stands));
  }

  -- a product that its rest does not look at
  pub arrow_in : (t u : TermId) → HasIn old s hs t → HasIn old s hs u → (v : TermId) → IsTerm new v (Prod [] (tree_of old t) (tree_of old u)) → HasIn new s hs v
  arrow_in t u h k v is = record {
    has = is.has;
    stands = along (λ z. StandsIn z (context_of new hs) (tree_of new v)) (sym same_store)
        (along (λ z. StandsIn (store_of old s) z (tree_of new v)) (sym same_context) (along (StandsIn (store_of old s) (context_of old hs)) (sym is.is)
        (prod_stands (store_of old s) i.kept (names_in (context_of old hs)) [] (tree_of old t) (tree_of old u) h.stands (below (store_of old s) (names_in (context_of old hs)) (tree_of old u) k.stands))));
  }

  -- a constant of the calculus
  pub leaf_in : (t : Tree) → IsGood (store_of old s).variables [] (names_in (context_of old hs)) 0 t → (v : TermId) → IsTerm new v t → HasIn new s hs v
  leaf_in t h v is = record {
    has = is.has;
    stands = along (λ z. StandsIn z (context_of new hs) (tree_of new v)) (sym same_store)
        (along (λ z. StandsIn (store_of old s) z (tree_of new v)) (sym same_context) (along (StandsIn (store_of old s) (context_of old hs)) (sym is.is) (good_stands (store_of old s) i.kept [] (names_in (context_of old hs)) t h)));
  }

  -- the store has grown too
  module _ (s1 : Places) (has : HasStore new s1) (k : Grown (store_of old s) (store_of new s1)) where
    pub in_later : IsIn new s1 hs
    in_later = record {
      store = has;
      kept = k.store;
      has = in_grown.has;
      stands = along (IsContext (store_of new s1)) (sym same_context) (context_keeps (store_of old s) (store_of new s1) k.keeps [] (context_of old hs) i.stands);
    }

    pub term_later : (t : TermId) → HasIn old s hs t → HasIn new s1 hs t
    term_later t h = record {
      has = (term_grown t h).has;
      stands = along (λ z. StandsIn (store_of new s1) z (tree_of new t)) (sym same_context)
          (along (λ z. Stands (store_of new s1) (names_in (context_of old hs)) z) (sym (g.tree t h.has)) (k.keeps (names_in (context_of old hs)) (tree_of old t) h.stands));
    }

-- where a goal stands
pub goal_in : (bank : Terms) (s : Places) (k : ℕ) (q : IsGoal bank s k) (hs : List Hypothesis) → HasGoalContext bank s k q hs → IsIn bank s hs
goal_in bank s k q hs h = record {
  store = q.store;
  kept = q.kept;
  has = h.has;
  stands = along (IsContext (store_of bank s)) (sym h.is) (context_stands bank s k q);
}
