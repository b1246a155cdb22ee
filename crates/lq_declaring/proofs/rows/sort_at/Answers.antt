use Rattle.std.proofs.Common.{◌≡◌, refl, subst, ℕ}
use Rattle.lq_trees.specs.declared.Sort.{Sort as Universe}
use Rattle.lq_trees.specs.Tree.{Context}
use Rattle.lq_trees.specs.Ticks.{fails}
use Rattle.lq_terms.specs.declared.nodes.Node.{Node}
use Rattle.lq_terms.specs.Terms.{Terms, node_tree}
use Rattle.lq_texts.specs.Causes.{not_a_sort}
use Rattle.lq_declaring.specs.Rows.{row_end}
use Rattle.lq_declaring.proofs.rows.sort_at.Goals as goal

no_sort : (bank : Terms) (n : Node) → ((s : Universe) → ¬ (n ≡ Node.Sort s)) → (k : ℕ) (h : Context) → row_end k h (node_tree bank n) ≡ fails (not_a_sort (node_tree bank n))
unfolding row_end
no_sort bank (Node.Rel i) e k h = refl
no_sort bank (Node.Var x) e k h = refl
no_sort bank (Node.Prod x a b) e k h = refl
no_sort bank (Node.Lam x a b) e k h = refl
no_sort bank (Node.Let x v a b) e k h = refl
no_sort bank (Node.App f a) e k h = refl
no_sort bank (Node.Const x) e k h = refl
no_sort bank (Node.Ind x) e k h = refl
no_sort bank (Node.Ctor x j) e k h = refl
no_sort bank (Node.Elim x s) e k h = refl
no_sort bank (Node.Evar j ts) e k h = refl
no_sort bank (Node.Sort s) e k h = absurd (e s refl)

pub returns-in_default : goal.returns-in_default
returns-in_default c k h = subst (λ t. row_end k h t ≡ fails (not_a_sort t)) c.node.ensures.tree (no_sort c.args.bank.now c.node.result.now c.in_default.not-Sort k h)
