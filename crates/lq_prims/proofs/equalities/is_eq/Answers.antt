use Rattle.std.proofs.Common.{◌≡◌, ◌∙◌, refl, sym, ap, false}
use Rattle.std.specs.Prelude.{codes}
use Rattle.lq_trees.specs.Tree.{same_name}
use Rattle.lq_terms.specs.declared.nodes.NameId.{NameId}
use Rattle.lq_terms.specs.declared.nodes.Node.{Node}
use Rattle.lq_terms.specs.Terms.{Terms, node_tree, text_of}
use Rattle.lq_prims.specs.Equalities.{is_eq}
use Rattle.lq_prims.proofs.equalities.is_eq.Goals as goal

no_eq : (bank : Terms) (n : Node) → ((x : NameId) → ¬ (n ≡ Node.Ind x)) → is_eq (node_tree bank n) ≡ false
unfolding is_eq
no_eq bank (Node.Ind x) h = absurd (h x refl)
no_eq bank (Node.Prod x a b) h = refl
no_eq bank (Node.Let x v a b) h = refl
no_eq bank (Node.Rel i) h = refl
no_eq bank (Node.Var x) h = refl
no_eq bank (Node.Sort s) h = refl
no_eq bank (Node.Lam x a b) h = refl
no_eq bank (Node.App f a) h = refl
no_eq bank (Node.Const x) h = refl
no_eq bank (Node.Ctor x i) h = refl
no_eq bank (Node.Elim x s) h = refl
no_eq bank (Node.Evar i ts) h = refl

pub returns-in_default : goal.returns-in_default
returns-in_default c = sym (ap is_eq (sym c.node.ensures.tree) ∙ no_eq c.args.bank.now c.node.result.now c.in_default.not-Ind)

-- a family by its name
ind_is : (bank : Terms) (n : Node) (x : NameId) → n ≡ Node.Ind x → is_eq (node_tree bank n) ≡ same_name (text_of bank x) (codes "eq")
unfolding is_eq
ind_is bank n x e = ap (λ z. is_eq (node_tree bank z)) e

pub returns-in-Ind : goal.returns-in-Ind
returns-in-Ind c = c.eq.ensures ∙ ap (λ z. same_name z (codes "eq")) c.text.ensures.text ∙ sym (ap is_eq (sym c.node.ensures.tree) ∙ ind_is c.args.bank.now c.node.result.now c.in-Ind.family c.in-Ind.is)
