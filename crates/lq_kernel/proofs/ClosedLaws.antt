-- Inference where no variable has a type is the kernel's.
use Rattle.std.proofs.Common.{◌≡◌, ◌∙◌, ℕ, List, refl, sym, ap, subst}
use Rattle.lq_trees.specs.declared.Sort.{Sort as Universe}
use Rattle.lq_trees.specs.Tree.{Tree, Trees, Context}
use Rattle.lq_trees.specs.Tree.Tree.{Evar}
use Rattle.lq_trees.specs.Ticks.{fails, ◌>>=◌, failed, ComesTo}
use Rattle.lq_trees.proofs.Outcomes.{comes_fails}
use Rattle.lq_terms.specs.declared.nodes.Node.{Node}
use Rattle.lq_terms.specs.declared.nodes.TermId.{TermId}
use Rattle.lq_terms.specs.Terms.{Terms, node_tree, tree_of, trees_by}
use Rattle.lq_calculus.specs.Declarations.{Env as Environment}
use Rattle.lq_calculus.specs.Checking.{KernelFault as Fault, Kernel, has_variable, as_sort, needed_form, matching, infer, sort_of, check}
use Rattle.lq_inference.specs.Inference.{closed, infer_by}
use Rattle.lq_inference.proofs.InferLaws.{infer_is}
use Rattle.lq_kernel.specs.Steps.{sort_by, check_by}

pub infers_are : (E : Environment) → ◌≡◌ {A = ℕ → Context → Tree → Kernel Tree} (infer_by closed E) (infer E)
infers_are E = λ i n. infer_is E n i

pub sorts_are : (E : Environment) → ◌≡◌ {A = ℕ → Context → Tree → Kernel Universe} (sort_by closed E) (sort_of E)
unfolding sort_by sort_of
sorts_are E = λ i n g A. infer_is E n i g A >>= λ K. needed_form E n g K >>= as_sort

pub checks_are : (E : Environment) → ◌≡◌ {A = ℕ → Context → Tree → Tree → Kernel (Unit {0})} (check_by closed E) (check E)
unfolding check_by check
checks_are E = λ i n g t A. infer_is E n i g t >>= λ B. matching E n g B A

-- a variable, by its node
pub no_type : (bank : Terms) (n : Node) (t : TermId) (j : ℕ) (ps : List TermId) (k : ℕ) (ts : Trees) (b : ℕ) → node_tree bank n ≡ tree_of bank t → n ≡ Node.Evar j ps → tree_of bank t ≡ Evar k ts →
    ComesTo {F = Fault} {A = Tree} (λ m. fails (has_variable k)) b (failed (has_variable j) b)
no_type bank n t j ps k ts b e i f =
    let is : Evar j (trees_by (tree_of bank) ps) ≡ Evar k ts = sym (ap (node_tree bank) i) ∙ e ∙ f in
    let same : k ≡ j = ap (λ z. elim z as (λ w. ℕ) [ Evar m us ↦ m | _ ↦ k ]) (sym is) in
    subst (λ m. ComesTo {F = Fault} {A = Tree} (λ l. fails (has_variable k)) b (failed (has_variable m) b)) same (comes_fails {F = Fault} {A = Tree} (λ l. fails (has_variable k)) (has_variable k) b (λ l. refl))
