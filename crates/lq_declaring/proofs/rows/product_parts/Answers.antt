use Rattle.std.proofs.Common.{◌≡◌, refl, sym, ap, false, ◌∙◌}
use Rattle.lq_terms.specs.declared.nodes.NameId.{NameId}
use Rattle.lq_terms.specs.declared.nodes.TermId.{TermId}
use Rattle.lq_terms.specs.declared.nodes.Node.{Node}
use Rattle.lq_terms.specs.Terms.{Terms, node_tree}
use Rattle.lq_calculus.specs.Typing.{is_product}
use Rattle.lq_declaring.proofs.rows.product_parts.Goals as goal

no_product : (bank : Terms) (n : Node) → ((x : NameId) (a b : TermId) → ¬ (n ≡ Node.Prod x a b)) → is_product (node_tree bank n) ≡ false
unfolding is_product
no_product bank (Node.Prod x a b) h = absurd (h x a b refl)
no_product bank (Node.Rel i) h = refl
no_product bank (Node.Var x) h = refl
no_product bank (Node.Sort s) h = refl
no_product bank (Node.Lam x a b) h = refl
no_product bank (Node.Let x v a b) h = refl
no_product bank (Node.App f a) h = refl
no_product bank (Node.Const x) h = refl
no_product bank (Node.Ind x) h = refl
no_product bank (Node.Ctor x k) h = refl
no_product bank (Node.Elim x s) h = refl
no_product bank (Node.Evar k ts) h = refl

pub returns-in_default : goal.returns-in_default
returns-in_default c = ap is_product (sym c.node.ensures.tree) ∙ no_product c.args.bank.now c.node.result.now c.in_default.not-Prod
