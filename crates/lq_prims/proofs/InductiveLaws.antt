-- When a term is an inductive type.
use Rattle.std.proofs.Common.{◌≡◌, ◌+◌, ◌∙◌, refl, sym, ap, ap₂, arith, eqb, Bool, true, false, List, [], ◌∷◌, length, map, Option, Some, None}
use Rattle.std.proofs.Common.{subst as along}
use Rattle.std.proofs.lemmas.List.{length-map}
use Rattle.std.specs.List.{AllByRecursion}
use Rattle.lq_trees.specs.Tree.{Tree}
use Rattle.lq_trees.specs.Tree.Tree.{Rel, Var, Sort, Prod, Lam, Let, App, Const, Ind, Ctor, Elim, Evar}
use Rattle.lq_calculus.specs.Contraction.{spine}
use Rattle.lq_calculus.specs.Declarations.{Env as Environment, Family as TreeFamily, lookup, family_in}
use Rattle.lq_terms.specs.declared.nodes.NameId.{NameId}
use Rattle.lq_terms.specs.declared.nodes.TermId.{TermId}
use Rattle.lq_terms.specs.declared.nodes.Node.{Node}
use Rattle.lq_terms.specs.Terms.{Terms, node_tree, text_of, tree_of}
use Rattle.lq_terms.specs.Contexts.{hypothesis_of}
use Rattle.lq_env.specs.declared.family.Family.{Family}
use Rattle.lq_env.specs.Families.{family_of}
use Rattle.lq_tactics.specs.Applying.{Inductive as TreeInductive, inductive_if, inductive_at, inductive_of}
use Rattle.lq_prims.specs.Inductives.{IsShallow}

-- ---- the arguments of a shallow term

-- a shallow term applied to shallow terms, taken apart
pub spine_shallow : (t : Tree) (ts : List Tree) → IsShallow t → AllByRecursion IsShallow ts → AllByRecursion IsShallow (spine t ts).1
unfolding spine
spine_shallow (App f a) ts h k =
    spine_shallow f (a ∷ ts) (record { within = h.within.0; deep = omega (arith, h.deep) }) (record { within = h.within.1; deep = omega (arith, h.deep) }, k)
spine_shallow (Rel i) ts h k = k
spine_shallow (Var x) ts h k = k
spine_shallow (Sort u) ts h k = k
spine_shallow (Prod x A B) ts h k = k
spine_shallow (Lam x A B) ts h k = k
spine_shallow (Let x v A B) ts h k = k
spine_shallow (Const c) ts h k = k
spine_shallow (Ind c) ts h k = k
spine_shallow (Ctor c i) ts h k = k
spine_shallow (Elim c u) ts h k = k
spine_shallow (Evar i us) ts h k = k

each_shallow : (bank : Terms) (ts : List TermId) → AllByRecursion IsShallow (map (tree_of bank) ts) → AllByRecursion (λ t. IsShallow (tree_of bank t)) ts
each_shallow bank [] h = tt
each_shallow bank (t ∷ ts) h = (h.0, each_shallow bank ts h.1)

pub arguments_shallow : (bank : Terms) (t : Tree) (head : TermId) (ts : List TermId) → IsShallow t → spine t [] ≡ (tree_of bank head, map (tree_of bank) ts) → AllByRecursion (λ u. IsShallow (tree_of bank u)) ts
arguments_shallow bank t head ts h e = each_shallow bank ts (along (λ z. AllByRecursion IsShallow z.1) e (spine_shallow t [] h tt))

-- ---- its head

-- another head is no inductive type
other_head : (bank : Terms) (E : Environment) (n : Node) (ts : List Tree) → ((x : NameId) → ¬ (n ≡ Node.Ind x)) → inductive_of E (node_tree bank n, ts) ≡ None
unfolding inductive_of
other_head bank E (Node.Ind x) ts h = absurd (h x refl)
other_head bank E (Node.Prod x a b) ts h = refl
other_head bank E (Node.Let x v a b) ts h = refl
other_head bank E (Node.Rel i) ts h = refl
other_head bank E (Node.Var x) ts h = refl
other_head bank E (Node.Sort s) ts h = refl
other_head bank E (Node.Lam x a b) ts h = refl
other_head bank E (Node.App f a) ts h = refl
other_head bank E (Node.Const x) ts h = refl
other_head bank E (Node.Ctor x i) ts h = refl
other_head bank E (Node.Elim x s) ts h = refl
other_head bank E (Node.Evar i us) ts h = refl

pub no_inductive : (bank : Terms) (E : Environment) (n : Node) (head : TermId) (ts : List Tree) → node_tree bank n ≡ tree_of bank head → ((x : NameId) → ¬ (n ≡ Node.Ind x)) → inductive_of E (tree_of bank head, ts) ≡ None
no_inductive bank E n head ts e h = ap (λ t. inductive_of E (t, ts)) (sym e) ∙ other_head bank E n ts h

module _ (bank : Terms) (E : Environment) (n : Node) (head : TermId) (x : NameId) (ts : List Tree) (e : node_tree bank n ≡ tree_of bank head) (is : n ≡ Node.Ind x) where
  -- by its family, if it has one
  abbrev by_family : Option TreeFamily → Option TreeInductive
  by_family o = elim o as (λ z. Option TreeInductive) [ None ↦ None | Some f ↦ inductive_if (eqb (length ts) (length f.parameters + length f.indices)) (text_of bank x) f ts ]

  head_is : tree_of bank head ≡ Ind (text_of bank x)
  head_is = sym e ∙ ap (node_tree bank) is

  inductive_is : inductive_of E (tree_of bank head, ts) ≡ by_family (family_in (lookup E (text_of bank x)))
  unfolding inductive_of inductive_at
  inductive_is = ap (λ t. inductive_of E (t, ts)) head_is

  pub no_family : family_in (lookup E (text_of bank x)) ≡ None → inductive_of E (tree_of bank head, ts) ≡ None
  no_family h = inductive_is ∙ ap by_family h

  module _ (f : TreeFamily) (h : family_in (lookup E (text_of bank x)) ≡ Some f) (b : Bool) (many : b ≡ eqb (length ts) (length f.parameters + length f.indices)) where
    by_number : inductive_of E (tree_of bank head, ts) ≡ inductive_if b (text_of bank x) f ts
    by_number = inductive_is ∙ ap by_family h ∙ ap (λ z. inductive_if z (text_of bank x) f ts) (sym many)

    pub too_many_or_few : b ≡ false → inductive_of E (tree_of bank head, ts) ≡ None
    unfolding inductive_if
    too_many_or_few q = by_number ∙ ap (λ z. inductive_if z (text_of bank x) f ts) q

    pub inductive_found : b ≡ true → inductive_of E (tree_of bank head, ts) ≡ Some (record { name = text_of bank x; family = f; args = ts })
    unfolding inductive_if
    inductive_found q = by_number ∙ ap (λ z. inductive_if z (text_of bank x) f ts) q

-- as many terms are as many trees
pub number_is : (bank : Terms) (f : Family) (ts : List TermId) (b : Bool) → b ≡ eqb (length ts) (length f.parameters + length f.indices) →
    b ≡ eqb (length (map (tree_of bank) ts)) (length (family_of bank f).parameters + length (family_of bank f).indices)
number_is bank f ts b e =
    e ∙ ap₂ eqb (sym (length-map ts (tree_of bank))) (ap₂ (λ p q. p + q) (sym (length-map f.parameters (hypothesis_of bank))) (sym (length-map f.indices (hypothesis_of bank))))
