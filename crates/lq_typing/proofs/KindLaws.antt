-- The type of a function, as it is made.
use Rattle.std.proofs.Common.{◌≡◌, ◌∙◌, ℕ, refl, sym, ap, ap₂, arith, List, [], Ok, Err}
use Rattle.std.proofs.Common.{subst as along}
use Rattle.std.specs.Prelude.{Result}
use Rattle.lq_trees.specs.Tree.{Tree}
use Rattle.lq_trees.specs.Change.{subst, close}
use Rattle.lq_trees.specs.Hypotheses.{HoldsOnly}
use Rattle.lq_trees.specs.Index.{Within}
use Rattle.lq_trees.specs.Ticks.{fails, ◌>>=◌, failed, ComesTo}
use Rattle.lq_trees.proofs.Outcomes.{comes_fails}
use Rattle.lq_trees.proofs.FillLaws.{subst_fill}
use Rattle.lq_trees.proofs.Reach.{within-close}
use Rattle.lq_terms.specs.declared.nodes.Hypothesis.{Hypothesis}
use Rattle.lq_terms.specs.declared.nodes.NameId.{NameId}
use Rattle.lq_terms.specs.declared.nodes.TermId.{TermId}
use Rattle.lq_terms.specs.declared.nodes.Node.{Node}
use Rattle.lq_terms.specs.Terms.{Terms, HasName, HasTerm, IsTerm, Grows, node_tree, text_of, tree_of}
use Rattle.lq_terms.specs.Contexts.{HasContext, context_of}
use Rattle.lq_terms.proofs.Growth.{Grows-trans}
use Rattle.lq_calculus.specs.Checking.{Kernel, fitting, mismatch}
use Rattle.lq_solving.specs.Inference.{by_store_types}
use Rattle.lq_solving.specs.Stores.{Variable, Store, names_in, read}
use Rattle.lq_solving.specs.Kept.{IsOver, IsStore}
use Rattle.lq_solving.proofs.StandsLaws.{close_over, fill_over}
use Rattle.lq_evars.specs.Places.{Places, store_of, HasStore}
use Rattle.lq_evars.proofs.Growing.{context_grown, store_of-grown}
use Rattle.lq_kernel.specs.declared.faults.KernelFault.{KernelFault}
use Rattle.lq_kernel.specs.Answers.{Refuses}
use Rattle.lq_kernel.specs.Steps.{Fitted}
use Rattle.lq_kernel.proofs.FormLaws.{fitting_fits}
use Rattle.lq_kernel.proofs.Goes.{refuses_first}
use Rattle.lq_typing.proofs.FittedLaws.{fitted_refuses}

-- a type that was read in a bank that has grown
pub read_before : (old new : Terms) → Grows old new → (s : Places) → HasStore old s → (last : Terms) (r : Result TermId KernelFault) (U V : Tree) → U ≡ V → Fitted last r (read (store_of new s) U) → Fitted last r (read (store_of old s) V)
read_before old new g s store last r U V e k = along (λ z. Fitted last r (read z V)) (store_of-grown old new g s store) (along (λ t. Fitted last r (read (store_of new s) t)) e k)

module _ (old mid new : Terms) (g : Grows old mid) (h : Grows mid new) (x y : NameId) (A T rest p : TermId) (name : HasName old x) (domain : HasTerm old A)
    (closed : IsTerm mid rest (close (text_of old y) (tree_of old T))) (made : IsTerm new p (node_tree mid (Node.Prod x A rest))) where
  pub product_is : tree_of new p ≡ Tree.Prod (text_of old x) (tree_of old A) (close (text_of old y) (tree_of old T))
  product_is = made.is ∙ rw (g.text x name, g.tree A domain, closed.is) refl

  module _ (s : Places) (store : HasStore old s) where
    both : Grows old new
    both = Grows-trans old mid new g h

    pub product_over : IsOver (store_of old s).variables (tree_of old A) → IsOver (store_of old s).variables (tree_of old T) → IsOver (store_of new s).variables (tree_of new p)
    product_over a t =
        along (λ z. IsOver z.variables (tree_of new p)) (sym (store_of-grown old new both s store))
        (along (IsOver (store_of old s).variables) (sym product_is) (a, close_over (store_of old s).variables [] (text_of old y) 0 (tree_of old T) t))

    pub product_within : Within 0 (tree_of old A) → Within 0 (tree_of old T) → Within 0 (tree_of new p)
    product_within a t = along (Within 0) (sym product_is) (a, within-close 0 (text_of old y) (tree_of old T) t)

    pub product_fitted : (last : Terms) (r : Result TermId KernelFault) → Fitted last r (read (store_of new s) (tree_of new p)) →
        Fitted last r (read (store_of old s) (Tree.Prod (text_of old x) (tree_of old A) (close (text_of old y) (tree_of old T))))
    product_fitted last r k = read_before old new both s store last r (tree_of new p) (Tree.Prod (text_of old x) (tree_of old A) (close (text_of old y) (tree_of old T))) product_is k

-- the rest of a function, or of a local definition, closed, as it is handed on
module _ (old mid : Terms) (g : Grows old mid) (y : NameId) (T rest : TermId) (closed : IsTerm mid rest (close (text_of old y) (tree_of old T))) (s : Places) (store : HasStore old s) where
  pub closed_over : IsOver (store_of old s).variables (tree_of old T) → IsOver (store_of mid s).variables (tree_of mid rest)
  closed_over t =
      along (λ z. IsOver z.variables (tree_of mid rest)) (sym (store_of-grown old mid g s store))
      (along (IsOver (store_of old s).variables) (sym closed.is) (close_over (store_of old s).variables [] (text_of old y) 0 (tree_of old T) t))

  pub closed_within : Within 0 (tree_of old T) → Within 1 (tree_of mid rest)
  closed_within t = along (Within 1) (sym closed.is) (within-close 0 (text_of old y) (tree_of old T) t)

  pub closed_holds : (hs : List Hypothesis) → HasContext old hs → HoldsOnly (names_in (context_of old hs)) (close (text_of old y) (tree_of old T)) → HoldsOnly (names_in (context_of mid hs)) (tree_of mid rest)
  closed_holds hs c h = along (λ z. HoldsOnly (names_in z) (tree_of mid rest)) (sym (context_grown old mid g hs c).0) (along (HoldsOnly (names_in (context_of old hs))) (sym closed.is) h)

  pub closed_fitted : (v : TermId) → HasTerm old v → (last : Terms) (r : Result TermId KernelFault) → Fitted last r (read (store_of mid s) (subst (tree_of mid v) (tree_of mid rest))) →
      Fitted last r (read (store_of old s) (subst (tree_of old v) (close (text_of old y) (tree_of old T))))
  closed_fitted v hv last r k = read_before old mid g s store last r (subst (tree_of mid v) (tree_of mid rest)) (subst (tree_of old v) (close (text_of old y) (tree_of old T))) (ap₂ subst (g.tree v hv) closed.is) k

-- what is over a store, and stays so
pub over_grown : (old new : Terms) → Grows old new → (s : Places) → HasStore old s → (t : TermId) → HasTerm old t → IsOver (store_of old s).variables (tree_of old t) → IsOver (store_of new s).variables (tree_of new t)
over_grown old new g s store t has h = along (λ z. IsOver z.variables (tree_of new t)) (sym (store_of-grown old new g s store)) (along (IsOver (store_of old s).variables) (sym (g.tree t has)) h)

pub made_over : (old new : Terms) → Grows old new → (s : Places) → HasStore old s → (t : TermId) (U : Tree) → IsTerm new t U → IsOver (store_of old s).variables U → IsOver (store_of new s).variables (tree_of new t)
made_over old new g s store t U is h = along (λ z. IsOver z.variables (tree_of new t)) (sym (store_of-grown old new g s store)) (along (IsOver (store_of old s).variables) (sym is.is) h)

pub kept_grown : (old new : Terms) → Grows old new → (s : Places) → HasStore old s → IsStore (store_of old s) → IsStore (store_of new s)
kept_grown old new g s store h = along IsStore (sym (store_of-grown old new g s store)) h

pub within_grown : (old new : Terms) → Grows old new → (n : ℕ) (t : TermId) → HasTerm old t → Within n (tree_of old t) → Within n (tree_of new t)
within_grown old new g n t has h = along (Within n) (sym (g.tree t has)) h

pub holds_grown : (old new : Terms) → Grows old new → (hs : List Hypothesis) → HasContext old hs → (t : TermId) → HasTerm old t → HoldsOnly (names_in (context_of old hs)) (tree_of old t) → HoldsOnly (names_in (context_of new hs)) (tree_of new t)
holds_grown old new g hs c t has h = along (λ z. HoldsOnly (names_in z) (tree_of new t)) (sym (context_grown old new g hs c).0) (along (HoldsOnly (names_in (context_of old hs))) (sym (g.tree t has)) h)

pub subst_before : (old new last : Terms) → Grows old new → (v t : TermId) → HasTerm old v → HasTerm old t → (u : TermId) → IsTerm last u (subst (tree_of new v) (tree_of new t)) → IsTerm last u (subst (tree_of old v) (tree_of old t))
subst_before old new last g v t hv ht u h = record { has = h.has; is = h.is ∙ ap₂ subst (g.tree v hv) (g.tree t ht) }

pub subst_is_over : (vs : List Variable) (v t : Tree) → IsOver vs v → IsOver vs t → IsOver vs (subst v t)
subst_is_over vs v t h k = along (IsOver vs) (sym (subst_fill v t)) (fill_over vs v h 0 t k)

pub read_later : (old new : Terms) → Grows old new → (s : Places) → HasStore old s → (t : TermId) → HasTerm old t → read (store_of new s) (tree_of new t) ≡ read (store_of old s) (tree_of old t)
read_later old new g s store t has = ap₂ read (store_of-grown old new g s store) (g.tree t has)

-- ---- a found type that differs from one that was written

module _ (s : Store) (T W : Tree) (b : ℕ) where
  -- the work
  abbrev pub differing : ℕ → Kernel (Unit {0})
  differing n = (by_store_types s).differ T W

pub differ_fits : (old new : Terms) → Grows old new → (s : Store) (found : TermId) → HasTerm old found → (W : Tree) (w : TermId) (b : ℕ) → Fitted new (Ok w) W → Refuses {A = Unit {0}} new (KernelFault.Mismatch found w) (differing s (tree_of old found) W b) b b
unfolding ◌>>=◌
differ_fits old new g s found has W w b h = (
  omega (arith, has, g.nodes),
  h.0.has,
  along (λ z. ComesTo (differing s (tree_of old found) W b) b (failed (mismatch z (tree_of new w)) b)) (sym (g.tree found has))
      (along (λ z. ComesTo (differing s (tree_of old found) W b) b (failed (mismatch (tree_of old found) z) b)) (sym h.0.is)
      (comes_fails (differing s (tree_of old found) W b) (mismatch (tree_of old found) W) b (λ n. ap (λ z. z >>= (λ A. fails (mismatch (tree_of old found) A))) (fitting_fits W h.1)))),
)

pub differ_large : (bank : Terms) (s : Store) (T W : Tree) (e : KernelFault) (b : ℕ) → Fitted bank (Err e) W → Refuses {A = Unit {0}} bank e (differing s T W b) b b
differ_large bank s T W e b h = refuses_first bank e (λ n. fitting W) (λ A n. fails (mismatch T A)) b b (fitted_refuses bank e W b h)
