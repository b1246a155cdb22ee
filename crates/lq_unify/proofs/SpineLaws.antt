-- The laws of spines, and of applications made again.
use Rattle.std.proofs.Common.{◌≡◌, ◌<◌, ◌≤◌, ◌+◌, ◌∙◌, ℕ, zero, suc, refl, sym, ap, arith, List, [], ◌∷◌, ◌++◌, length, map, reverse, get_or, drop}
use Rattle.std.proofs.Common.{subst as along}
use Rattle.std.specs.List.{AllByRecursion}
use Rattle.std.proofs.lemmas.List.{reverse-append, drop_more}
use Rattle.std.proofs.Math.ListN.{drop_of_length-le}
use Rattle.lq_trees.specs.Tree.{Tree}
use Rattle.lq_trees.specs.Tree.Tree.{App}
use Rattle.lq_terms.specs.declared.nodes.TermId.{TermId}
use Rattle.lq_terms.specs.declared.nodes.Node.{Node}
use Rattle.lq_terms.specs.Terms.{Terms, HasTerm, Grows, node_tree, tree_of}
use Rattle.lq_calculus.specs.Contraction.{spine, apply}

pub all_push : {X : Type 0} (T : X → Type 0) (xs : List X) (x : X) → AllByRecursion T xs → T x → AllByRecursion T (xs ++ x ∷ [])
all_push T [] x h p = (p, tt)
all_push T (y ∷ ys) x h p = (h.0, all_push T ys x h.1 p)

-- one argument more at the front
pub spine_app : (bank : Terms) (args : List TermId) (f a head : TermId) (whole : Tree × List Tree) → tree_of bank head ≡ App (tree_of bank f) (tree_of bank a)
    → whole ≡ spine (tree_of bank head) (map (tree_of bank) (reverse args)) → whole ≡ spine (tree_of bank f) (map (tree_of bank) (reverse (args ++ a ∷ [])))
unfolding spine
spine_app bank args f a head whole e h =
    h ∙ ap (λ t. spine t (map (tree_of bank) (reverse args))) e ∙ ap (λ z. spine (tree_of bank f) (map (tree_of bank) z)) (sym (reverse-append args (a ∷ [])))

pub spine_stop :
    (bank : Terms) (node : Node) (t : TermId) (args : List Tree) → node_tree bank node ≡ tree_of bank t → ((f a : TermId) → node ≡ Node.App f a → ⊥) → spine (tree_of bank t) args ≡ (tree_of bank t, args)
unfolding spine
spine_stop bank (Node.Rel i) t args e h = ap (λ u. spine u args) (sym e) ∙ ap (λ u. (u, args)) e
spine_stop bank (Node.Var x) t args e h = ap (λ u. spine u args) (sym e) ∙ ap (λ u. (u, args)) e
spine_stop bank (Node.Sort s) t args e h = ap (λ u. spine u args) (sym e) ∙ ap (λ u. (u, args)) e
spine_stop bank (Node.Prod x a b) t args e h = ap (λ u. spine u args) (sym e) ∙ ap (λ u. (u, args)) e
spine_stop bank (Node.Lam x a b) t args e h = ap (λ u. spine u args) (sym e) ∙ ap (λ u. (u, args)) e
spine_stop bank (Node.Let x v a b) t args e h = ap (λ u. spine u args) (sym e) ∙ ap (λ u. (u, args)) e
spine_stop bank (Node.App f a) t args e h = absurd (h f a refl)
spine_stop bank (Node.Const x) t args e h = ap (λ u. spine u args) (sym e) ∙ ap (λ u. (u, args)) e
spine_stop bank (Node.Ind x) t args e h = ap (λ u. spine u args) (sym e) ∙ ap (λ u. (u, args)) e
spine_stop bank (Node.Ctor x k) t args e h = ap (λ u. spine u args) (sym e) ∙ ap (λ u. (u, args)) e
spine_stop bank (Node.Elim x s) t args e h = ap (λ u. spine u args) (sym e) ∙ ap (λ u. (u, args)) e
spine_stop bank (Node.Evar n ts) t args e h = ap (λ u. spine u args) (sym e) ∙ ap (λ u. (u, args)) e

pub all_reversed : {X : Type 0} (T : X → Type 0) (xs : List X) → AllByRecursion T xs → AllByRecursion T (reverse xs)
all_reversed T [] h = tt
all_reversed T (x ∷ xs) h = along (λ z. AllByRecursion T z) (sym (reverse-append (x ∷ []) xs)) (all_push T (reverse xs) x (all_reversed T xs h.1) h.0)

pub arg_has : (bank : Terms) (ts : List TermId) → AllByRecursion (HasTerm bank) ts → (i : ℕ) (d : TermId) → i < length ts → HasTerm bank (get_or ts i d)
arg_has bank [] h i d l = absurd (omega (arith, l))
arg_has bank (t ∷ ts) h zero d l = h.0
arg_has bank (t ∷ ts) h (suc i) d l = arg_has bank ts h.1 i d (omega (arith, l))

-- one argument more is put on
module _ (b0 b1 b2 : Terms) (g : Grows b0 b1) (args : List TermId) (has : AllByRecursion (HasTerm b0) args) (i : ℕ) (d : TermId) (inside : i < length args) where
  pub applied_more : (t u : TermId) (whole : Tree) → tree_of b2 u ≡ App (tree_of b1 t) (tree_of b1 (get_or args i d)) →
      apply (tree_of b1 t) (map (tree_of b0) (drop i args)) ≡ whole → apply (tree_of b2 u) (map (tree_of b0) (drop (i + 1) args)) ≡ whole
  unfolding apply
  applied_more t u whole e same =
      ap (λ z. apply z (map (tree_of b0) (drop (i + 1) args))) (e ∙ ap (App (tree_of b1 t)) (g.tree (get_or args i d) (arg_has b0 args has i d inside)))
      ∙ ap (λ us. apply (tree_of b1 t) (map (tree_of b0) us)) (sym (drop_more args i d inside)) ∙ same

pub applied_end : (b0 b1 : Terms) (args : List TermId) (i : ℕ) (t : TermId) (whole : Tree) → length args ≤ i → apply (tree_of b1 t) (map (tree_of b0) (drop i args)) ≡ whole → tree_of b1 t ≡ whole
unfolding apply
applied_end b0 b1 args i t whole h same = ap (λ us. apply (tree_of b1 t) (map (tree_of b0) us)) (sym (drop_of_length-le args h)) ∙ same
