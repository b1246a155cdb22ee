-- Products that were built over the hypotheses of a context are those of the definition.
use Rattle.std.proofs.Common.{◌≡◌, ◌≤◌, ◌<◌, ◌+◌, ◌∙◌, ℕ, sym, ap, ap₂, arith, min, List, [], length, map}
use Rattle.std.proofs.Common.{subst as along}
use Rattle.std.specs.List.{AllByRecursion}
use Rattle.std.proofs.lemmas.List.{length-map}
use Rattle.lq_trees.specs.Tree.{Tree}
use Rattle.lq_trees.specs.Change.{lift, put}
use Rattle.lq_trees.specs.Size.{size, counted}
use Rattle.lq_trees.specs.Index.{Within, highest, last_index}
use Rattle.lq_terms.specs.declared.nodes.TermId.{TermId}
use Rattle.lq_terms.specs.declared.nodes.Hypothesis.{Hypothesis}
use Rattle.lq_terms.specs.Terms.{Terms, HasTerm, IsTerm, Grows, tree_of}
use Rattle.lq_terms.specs.Changes.{bindings}
use Rattle.lq_terms.specs.Contexts.{hypothesis_of, context_of, HasContext}
use Rattle.lq_terms.proofs.Growth.{Grows-trans}
use Rattle.lq_terms.proofs.Replaced.{size-lift}
use Rattle.lq_calculus.specs.Declarations.{count_down, products}
use Rattle.lq_env.specs.declared.telescopes.Binder.{Binder}
use Rattle.lq_env.specs.Telescopes.{telescope, places_of, binders_behind, weight_of, AreApart}
use Rattle.lq_env.specs.Building.{HasBinder, binders_of, many}
use Rattle.lq_env.proofs.Families.{context_of-grown}
use Rattle.lq_env.proofs.Weights.{length-weight, put-highest, size-products}
use Rattle.lq_env.proofs.Closing.{products_telescope}
use Rattle.lq_env.proofs.Loops.{trees-grown, binders_of-grown, bindings_places}

-- how large products over a bank's context are
pub size_whole : (bank : Terms) (hs : List Hypothesis) (end : TermId) (tree : Tree) → tree_of bank end ≡ lift (length hs) 0 tree → size (products (context_of bank hs) tree) ≡ weight_of (context_of bank hs) + size (tree_of bank end)
size_whole bank hs end tree e = omega (arith, size-products (context_of bank hs) tree, size-lift (length hs) 0 tree, ap size e)

pub large_whole :
    (bank : Terms) (hs : List Hypothesis) (end : TermId) (nodes more : ℕ) → nodes ≡ min (weight_of (context_of bank hs)) 1000001 → more ≡ min (size (tree_of bank end)) counted → 1000000 < nodes + more
    → (tree : Tree) → tree_of bank end ≡ lift (length hs) 0 tree → 1000000 < size (products (context_of bank hs) tree)
large_whole bank hs end nodes more n m l tree e = omega (arith, size_whole bank hs end tree e)

pub small_sum : (whole end nodes more : ℕ) → nodes ≡ min whole 1000001 → more ≡ min end counted → nodes + more ≤ 1000000 → whole + end ≤ 1000000
small_sum whole end nodes more e q l = omega arith

pub short_context : (bank : Terms) (hs : List Hypothesis) → weight_of (context_of bank hs) ≤ 1000000 → length hs ≤ 1000000
short_context bank hs l = omega (arith, length-map hs (hypothesis_of bank), length-weight (context_of bank hs))

-- the places of all hypotheses
module _
    (old mid new : Terms) (g : Grows old mid) (k : Grows mid new) (hs : List Hypothesis) (ts : List TermId) (ctx : HasContext old hs) (has : AllByRecursion (HasTerm mid) ts)
    (trees : map (tree_of mid) ts ≡ count_down (length hs)) where
  pub all_bindings : bindings new hs ts ≡ places_of (context_of old hs)
  all_bindings =
      bindings_places new hs ts (trees-grown mid new k ts has ∙ trees)
      ∙ ap places_of (context_of-grown old new (Grows-trans old mid new g k) hs ctx)

  pub end_fits :
      (us : List TermId) (under : TermId) → us ≡ ts → HasTerm old under → Within many (tree_of old under) → weight_of (context_of old hs) + size (tree_of old under) ≤ 1000000
      → highest (put (bindings new hs us) 0 (tree_of new under)) ≤ last_index
  end_fits us under e h w l =
      let same : tree_of new under ≡ tree_of old under = (Grows-trans old mid new g k).tree under h in
      along (λ t. highest (put (bindings new hs us) 0 t) ≤ last_index) (sym same)
      (along (λ ps. highest (put ps 0 (tree_of old under)) ≤ last_index) (sym (ap (bindings new hs) e ∙ all_bindings))
      (put-highest (context_of old hs) (tree_of old under) (omega (arith, length-weight (context_of old hs))) w (omega arith)))

-- the whole
pub products_built :
    (b0 b1 b2 b3 b4 : Terms) (hs : List Hypothesis) (ts us : List TermId) (bs cs : List Binder) (under end whole : TermId) → us ≡ ts → cs ≡ bs → Grows b0 b1 → Grows b1 b2 → Grows b2 b3 → HasContext b0 hs → AreApart (context_of b0 hs)
    → AllByRecursion (HasTerm b1) ts → map (tree_of b1) ts ≡ count_down (length hs) → HasTerm b0 under → AllByRecursion (HasBinder b2) bs → binders_of b2 bs ≡ binders_behind [] (context_of b1 hs)
    → IsTerm b3 end (put (bindings b2 hs us) 0 (tree_of b2 under)) → IsTerm b4 whole (telescope (binders_of b3 cs) (tree_of b3 end)) → weight_of (context_of b0 hs) + size (tree_of b0 under) ≤ 1000000
    → (tree : Tree) → tree_of b0 under ≡ lift (length hs) 0 tree → IsTerm b4 whole (products (context_of b0 hs) tree) × (size (products (context_of b0 hs) tree) ≤ 1000000)
products_built b0 b1 b2 b3 b4 hs ts us bs cs under end whole eu ec g1 g2 g3 ctx apart has trees h all closed e w small tree is =
    let inner : tree_of b3 end ≡ put (places_of (context_of b0 hs)) 0 (lift (length (context_of b0 hs)) 0 tree) =
    e.is ∙ ap₂ (λ ps t. put ps 0 t) (ap (bindings b2 hs) eu ∙ all_bindings b0 b1 b2 g1 g2 hs ts ctx has trees)
    ((Grows-trans b0 b1 b2 g1 g2).tree under h ∙ is ∙ ap (λ n. lift n 0 tree) (sym (length-map hs (hypothesis_of b0)))) in
    let outer : binders_of b3 cs ≡ binders_behind [] (context_of b0 hs) = ap (binders_of b3) ec ∙ binders_of-grown b2 b3 g3 bs all ∙ closed ∙ ap (binders_behind []) (context_of-grown b0 b1 g1 hs ctx) in
    (record { has = w.has; is = w.is ∙ ap₂ telescope outer inner ∙ sym (products_telescope (context_of b0 hs) tree apart) }, omega (arith, size_whole b0 hs under tree is))
