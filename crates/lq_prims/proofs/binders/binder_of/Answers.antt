use Rattle.std.proofs.Common.{◌≡◌, refl, sym, ap, false, ◌∙◌}
use Rattle.lq_terms.specs.declared.nodes.NameId.{NameId}
use Rattle.lq_terms.specs.declared.nodes.TermId.{TermId}
use Rattle.lq_terms.specs.declared.nodes.Node.{Node}
use Rattle.lq_terms.specs.Terms.{Terms, node_tree}
use Rattle.lq_tactics.specs.Primitives.{is_binder}
use Rattle.lq_prims.proofs.binders.binder_of.Goals as goal

no_binder : (bank : Terms) (n : Node) → ((x : NameId) (a b : TermId) → ¬ (n ≡ Node.Prod x a b)) → ((x : NameId) (v a b : TermId) → ¬ (n ≡ Node.Let x v a b)) → is_binder (node_tree bank n) ≡ false
unfolding is_binder
no_binder bank (Node.Prod x a b) h k = absurd (h x a b refl)
no_binder bank (Node.Let x v a b) h k = absurd (k x v a b refl)
no_binder bank (Node.Rel i) h k = refl
no_binder bank (Node.Var x) h k = refl
no_binder bank (Node.Sort s) h k = refl
no_binder bank (Node.Lam x a b) h k = refl
no_binder bank (Node.App f a) h k = refl
no_binder bank (Node.Const x) h k = refl
no_binder bank (Node.Ind x) h k = refl
no_binder bank (Node.Ctor x i) h k = refl
no_binder bank (Node.Elim x s) h k = refl
no_binder bank (Node.Evar i ts) h k = refl

pub returns-in_default : goal.returns-in_default
returns-in_default c = ap is_binder (sym c.node.ensures.tree) ∙ no_binder c.args.bank.now c.node.result.now c.in_default.not-Prod c.in_default.not-Let
