-- A goal after a term was elaborated in its context, which was copied before.
use Rattle.std.proofs.Common.{◌≡◌, ◌∙◌, sym, arith, ℕ, suc, List, Option, Some}
use Rattle.std.proofs.Common.{subst as along}
use Rattle.std.specs.Prelude.{slice_get}
use Rattle.lq_trees.specs.declared.Fit.{Fit}
use Rattle.lq_trees.specs.Size.{fit}
use Rattle.lq_trees.specs.Tree.{Tree, Context}
use Rattle.lq_trees.specs.Ticks.{done, ComesTo}
use Rattle.lq_ast.specs.Syntax.{Surface}
use Rattle.lq_terms.specs.declared.nodes.Hypothesis.{Hypothesis}
use Rattle.lq_terms.specs.declared.nodes.NameId.{NameId}
use Rattle.lq_terms.specs.declared.nodes.TermId.{TermId}
use Rattle.lq_terms.specs.Terms.{Terms, Grows, tree_of}
use Rattle.lq_terms.specs.Contexts.{context_of}
use Rattle.lq_env.specs.declared.environment.Declared.{Declared}
use Rattle.lq_solving.specs.Kept.{StandsIn}
use Rattle.lq_solving.specs.Stores.{Store, read}
use Rattle.lq_solving.proofs.ElabKept.{Grown}
use Rattle.lq_evars.proofs.Growing.{HasStore-grown, store_of-grown}
use Rattle.lq_solving.specs.Elaboration.{Givens, found}
use Rattle.lq_evars.specs.declared.store.Variable.{Variable}
use Rattle.lq_evars.specs.Places.{Places, store_of}
use Rattle.lq_elab.specs.Calls.{IsElaborated}
use Rattle.lq_elab.specs.declared.elaborating.Elaborated.{Elaborated}
use Rattle.lq_tactics.specs.Rows.{term_of}
use Rattle.lq_tactics.proofs.ApplyKept.{IsFound}
use Rattle.lq_prims.specs.Making.{IsIn, HasIn}
use Rattle.lq_prims.specs.Scenes.{IsGoal, IsPlaced, context_at, scene_in}
use Rattle.lq_prims.proofs.MakingLaws.{goal_in, in_later, term_later, same_context}
use Rattle.lq_prims.proofs.SceneLaws.{HasGoalContext, goal_context, kind_stands}
use Rattle.lq_prims.proofs.TermLaws.{found_once}
use Rattle.lq_prims.proofs.WorkLaws.{comes_is_given}

-- what was elaborated, in a bank that has grown
pub elaborated_grown : (mid new : Terms) → Grows mid new → (old : Store) (s : Places) (g : Context) (e : Elaborated) → IsElaborated mid old s g e → IsElaborated new old s g e
elaborated_grown mid new grows old s g e f =
    let same = sym (store_of-grown mid new grows s f.store) in
    let term = sym (grows.tree e.term f.term) in
    let kind = sym (grows.tree e.kind f.kind) in
    record {
      store = HasStore-grown mid new grows s f.store;
      grown = along (Grown old) same f.grown;
      term = omega (arith, f.term, grows.nodes);
      kind = omega (arith, f.kind, grows.nodes);
      term_stands = along (λ z. StandsIn z g (tree_of new e.term)) same (along (StandsIn (store_of mid s) g) term f.term_stands);
      kind_stands = along (λ z. StandsIn z g (tree_of new e.kind)) same (along (StandsIn (store_of mid s) g) kind f.kind_stands);
      term_fits = along (λ z. fit (read z (tree_of new e.term)) ≡ Fit.Fits) same (along (λ t. fit (read (store_of mid s) t) ≡ Fit.Fits) term f.term_fits);
      kind_fits = along (λ z. fit (read z (tree_of new e.kind)) ≡ Fit.Fits) same (along (λ t. fit (read (store_of mid s) t) ≡ Fit.Fits) kind f.kind_fits);
    }

-- the goal alone
module _ (bank : Terms) (p : Places) (k : ℕ) (q : IsGoal bank p k) (hs : List Hypothesis) (is : (v : Variable) → slice_get p.variables k ≡ Some v → hs ≡ v.context) where
  context_now : HasGoalContext bank p k q hs
  context_now = goal_context bank p k q hs is

  now_in : IsIn bank p hs
  now_in = goal_in bank p k q hs context_now

  module _ (mid : Terms) (grows : Grows bank mid) (s1 : Places) (e : Elaborated) (f : IsElaborated mid (store_of bank p) s1 (context_at (store_of bank p) k) e) where
    pub context_then : context_of mid hs ≡ context_at (store_of bank p) k
    context_then = same_context bank mid grows p hs now_in ∙ context_now.is

    pub in_then : IsIn mid s1 hs
    in_then = in_later bank mid grows p hs now_in s1 f.store f.grown

    pub type_then : HasIn mid s1 hs e.kind
    type_then = record { has = f.kind; stands = along (λ z. StandsIn (store_of mid s1) z (tree_of mid e.kind)) (sym context_then) f.kind_stands }

-- the goal with its type
module _ (bank : Terms) (ds : List (NameId × Declared)) (p : Places) (k : ℕ) (T : TermId) (q : IsPlaced bank ds p k T) (hs : List Hypothesis) (is : (v : Variable) → slice_get p.variables k ≡ Some v → hs ≡ v.context) where
  before_kind : HasIn bank p hs T
  before_kind = record { has = q.kind; stands = along (λ z. StandsIn (store_of bank p) z (tree_of bank T)) (sym (context_now bank p k q.place hs is).is) (kind_stands bank ds p k T q) }

  module _ (mid : Terms) (grows : Grows bank mid) (s1 : Places) (e : Elaborated) (f : IsElaborated mid (store_of bank p) s1 (context_at (store_of bank p) k) e) where
    pub after_context : context_of mid hs ≡ context_at (store_of bank p) k
    after_context = context_then bank p k q.place hs is mid grows s1 e f

    pub after_in : IsIn mid s1 hs
    after_in = in_then bank p k q.place hs is mid grows s1 e f

    pub after_kind : HasIn mid s1 hs T
    after_kind = term_later bank mid grows p hs (now_in bank p k q.place hs is) s1 f.store f.grown T before_kind

    pub after_term : HasIn mid s1 hs e.term
    after_term = record { has = f.term; stands = along (λ z. StandsIn (store_of mid s1) z (tree_of mid e.term)) (sym after_context) f.term_stands }

    pub after_type : HasIn mid s1 hs e.kind
    after_type = type_then bank p k q.place hs is mid grows s1 e f

    -- the written term is found as it was elaborated
    pub after_found : (vs : Givens) (t : Surface) (w : Option Tree) (b l : ℕ) → ComesTo (λ n. term_of (scene_in bank ds p k T vs n) t w) b (done (found (store_of mid s1) (tree_of mid e.term) (tree_of mid e.kind)) l) →
        IsFound (scene_in bank ds p k T vs (suc b)) t w
    after_found vs t w b l h =
        found_once (scene_in bank ds p k T vs (suc b)) t w (found (store_of mid s1) (tree_of mid e.term) (tree_of mid e.kind))
        (comes_is_given (λ n. term_of (scene_in bank ds p k T vs n) t w) b l (found (store_of mid s1) (tree_of mid e.term) (tree_of mid e.kind)) h) (f.grown, f.term_stands, f.kind_stands)
