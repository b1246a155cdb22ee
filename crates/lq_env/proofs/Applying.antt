-- A function applied to one argument after the other.
use Rattle.std.proofs.Common.{◌≡◌, ◌≤◌, ◌<◌, ◌+◌, ◌-◌, ◌∙◌, ℕ, suc, refl, sym, ap, ap₂, arith, List, [], ◌∷◌, ◌++◌, length, map, get_or, take}
use Rattle.std.proofs.Common.{subst as along}
use Rattle.std.specs.List.{AllByRecursion}
use Rattle.std.proofs.lemmas.List.{take_more, map-append}
use Rattle.lq_trees.specs.Tree.{Tree, Hypothesis as TreeHypothesis, Context}
use Rattle.lq_trees.specs.Change.{fill}
use Rattle.lq_trees.specs.Size.{size}
use Rattle.lq_trees.specs.Index.{Within, highest, last_index}
use Rattle.lq_terms.specs.declared.nodes.TermId.{TermId}
use Rattle.lq_terms.specs.declared.nodes.Hypothesis.{Hypothesis}
use Rattle.lq_terms.specs.Terms.{Terms, HasTerm, IsTerm, Grows, text_of, tree_of}
use Rattle.lq_terms.specs.Changes.{variables_at}
use Rattle.lq_terms.specs.Contexts.{hypothesis_of, context_of, HasAllOf, HasContext}
use Rattle.lq_calculus.specs.Contraction.{apply}
use Rattle.lq_calculus.specs.Declarations.{variables}
use Rattle.lq_env.specs.Premises.{AreBelow}
use Rattle.lq_env.proofs.Loops.{all_at, no_hypothesis, context_more}
use Rattle.lq_env.proofs.SpineLaws.{no_term}
use Rattle.lq_env.proofs.Weights.{small-highest}
use Rattle.lq_env.proofs.PremiseLaws.{within-fill, variables_within, length-variables, size-spread}

pub apply-append : (f : Tree) (args : List Tree) (a : Tree) → apply f (args ++ a ∷ []) ≡ Tree.App (apply f args) a
unfolding apply
apply-append f [] a = refl
apply-append f (b ∷ args) a = apply-append (Tree.App f b) args a

pub apply-none : (f : Tree) → apply f [] ≡ f
unfolding apply
apply-none f = refl

pub variables-append : (g : Context) (h : TreeHypothesis) → variables (g ++ h ∷ []) ≡ variables g ++ Tree.Var h.name ∷ []
unfolding variables
variables-append [] h = refl
variables-append (k ∷ g) h = ap (λ z. Tree.Var k.name ∷ z) (variables-append g h)

pub variables-none : variables [] ≡ []
unfolding variables
variables-none = refl

-- one hypothesis more
pub hypotheses_step :
    (first mid new : Terms) (hs : List Hypothesis) (i : ℕ) (f : Tree) (whole t : TermId) → i < length hs → HasContext first hs → Grows first mid
    → IsTerm mid whole (apply f (variables (context_of first (take i hs)))) → IsTerm new t (Tree.App (tree_of mid whole) (Tree.Var (text_of mid (get_or hs i no_hypothesis).name)))
    → IsTerm new t (apply f (variables (context_of first (take (i + 1) hs))))
hypotheses_step first mid new hs i f whole t l ctx g w h =
    let at : HasAllOf first (get_or hs i no_hypothesis) = all_at (HasAllOf first) hs i no_hypothesis ctx l in
    record {
      has = h.has;
      is = h.is ∙ ap₂ (λ u x. Tree.App u (Tree.Var x)) (w.is) (g.text (get_or hs i no_hypothesis).name at.name)
          ∙ sym (apply-append f (variables (context_of first (take i hs))) (Tree.Var (text_of first (get_or hs i no_hypothesis).name)))
          ∙ ap (apply f) (sym (ap variables (context_more first hs i no_hypothesis l) ∙ variables-append (context_of first (take i hs)) (hypothesis_of first (get_or hs i no_hypothesis))));
    }

-- one place more
pub places_step :
    (mid new : Terms) (ps : List ℕ) (i inside d : ℕ) (f : Tree) (whole t : TermId) (index : ℕ) → i < length ps → index ≡ inside - suc (get_or ps i d)
    → IsTerm mid whole (apply f (map (λ p. Tree.Rel (inside - suc p)) (take i ps))) → IsTerm new t (Tree.App (tree_of mid whole) (Tree.Rel index))
    → IsTerm new t (apply f (map (λ p. Tree.Rel (inside - suc p)) (take (i + 1) ps)))
places_step mid new ps i inside d f whole t index l e w h =
    record {
      has = h.has;
      is = h.is ∙ ap₂ (λ u k. Tree.App u (Tree.Rel k)) (w.is) e
          ∙ sym (apply-append f (map (λ p. Tree.Rel (inside - suc p)) (take i ps)) (Tree.Rel (inside - suc (get_or ps i d))))
          ∙ ap (apply f) (sym (ap (map (λ p. Tree.Rel (inside - suc p))) (take_more ps i d l) ∙ map-append (λ p. Tree.Rel (inside - suc p)) (take i ps) (get_or ps i d ∷ [])));
    }

-- a bank has room for the numbers of moved variables
pub moved-highest : (n : ℕ) (ps : List ℕ) (t : Tree) → AreBelow n ps → n ≤ 1000001 → Within (length ps) t → size t ≤ 1000000 → highest (fill (variables_at n ps) 0 t) ≤ last_index
moved-highest n ps t b l h s =
    small-highest (fill (variables_at n ps) 0 t)
    (within-fill 4000000000 (variables_at n ps) t (variables_within n 4000000000 ps b (omega arith)) (along (λ k. Within k t) (sym (length-variables n ps)) h)) (omega (arith, size-spread n ps 0 t))

-- one moved term more
module _ (first mid : Terms) (g : Grows first mid) (ps : List ℕ) (inside : ℕ) (ts : List TermId) (has : AllByRecursion (HasTerm first) ts) (i : ℕ) (l : i < length ts) where
  at_term : tree_of mid (get_or ts i no_term) ≡ tree_of first (get_or ts i no_term)
  at_term = g.tree (get_or ts i no_term) (all_at (HasTerm first) ts i no_term has l)

  pub each_fits :
      AreBelow inside ps → inside ≤ 1000001 → AllByRecursion (λ t. Within (length ps) (tree_of first t)) ts → AllByRecursion (λ t. size (tree_of first t) ≤ 1000000) ts
      → highest (fill (variables_at inside ps) 0 (tree_of mid (get_or ts i no_term))) ≤ last_index
  each_fits b k w s =
      along (λ u. highest (fill (variables_at inside ps) 0 u) ≤ last_index) (sym at_term)
      (moved-highest inside ps (tree_of first (get_or ts i no_term)) b k (all_at (λ t. Within (length ps) (tree_of first t)) ts i no_term w l) (all_at (λ t. size (tree_of first t) ≤ 1000000) ts i no_term s l))

  pub each_step :
      (new : Terms) (f : Tree) (whole t : TermId) → IsTerm mid whole (apply f (map (fill (variables_at inside ps) 0) (map (tree_of first) (take i ts))))
      → IsTerm new t (Tree.App (tree_of mid whole) (fill (variables_at inside ps) 0 (tree_of mid (get_or ts i no_term))))
      → IsTerm new t (apply f (map (fill (variables_at inside ps) 0) (map (tree_of first) (take (i + 1) ts))))
  each_step new f whole t w h =
      record {
        has = h.has;
        is = h.is ∙ ap₂ (λ u v. Tree.App u (fill (variables_at inside ps) 0 v)) (w.is) at_term
            ∙ sym (apply-append f (map (fill (variables_at inside ps) 0) (map (tree_of first) (take i ts))) (fill (variables_at inside ps) 0 (tree_of first (get_or ts i no_term))))
            ∙ ap (apply f) (sym (ap (λ z. map (fill (variables_at inside ps) 0) (map (tree_of first) z)) (take_more ts i no_term l)
            ∙ ap (map (fill (variables_at inside ps) 0)) (map-append (tree_of first) (take i ts) (get_or ts i no_term ∷ []))
            ∙ map-append (fill (variables_at inside ps) 0) (map (tree_of first) (take i ts)) (tree_of first (get_or ts i no_term) ∷ [])));
      }
