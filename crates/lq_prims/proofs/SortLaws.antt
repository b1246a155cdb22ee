-- The sort of a goal's type.
use Rattle.std.proofs.Common.{◌≡◌, ◌∙◌, ℕ, refl, sym, ap, Result}
use Rattle.lq_trees.specs.declared.Sort.{Sort as Universe}
use Rattle.lq_trees.specs.Tree.{Tree, Context}
use Rattle.lq_trees.specs.Ticks.{gives, fails, ◌>>=◌, faults_as, done, ComesTo}
use Rattle.lq_calculus.specs.Contraction.{whnf}
use Rattle.lq_calculus.specs.Declarations.{Env as Environment, rules_of}
use Rattle.lq_calculus.proofs.Comparison.{bind_same}
use Rattle.lq_terms.specs.declared.nodes.TermId.{TermId}
use Rattle.lq_terms.specs.declared.nodes.Node.{Node}
use Rattle.lq_terms.specs.Terms.{Terms, HasTerm, tree_of, node_tree}
use Rattle.lq_solving.specs.Stores.{Store, read, read_context}
use Rattle.lq_solving.specs.ElabFaults.{elab_fitting, type_of, no_sort}
use Rattle.lq_solving.specs.Elaboration.{Givens, form_of, sort_form}
use Rattle.lq_typing.specs.declared.faults.ElabFault.{ElabFault}
use Rattle.lq_unify.proofs.ReduceSteps.{head_faults}
use Rattle.lq_tactics.specs.Rows.{Doing, by_elab, elab_work, needed_form, site, goal_sort}
use Rattle.lq_prims.specs.declared.faults.PrimFault.{PrimFault}
use Rattle.lq_prims.specs.Scenes.{scene_by, form_work}
use Rattle.lq_prims.specs.Working.{Refuses, Does}
use Rattle.lq_prims.proofs.CompareLaws.{faults_bind}
use Rattle.lq_prims.proofs.WorkLaws.{refuses_at_once, refuses_first, refuses_then, refuses_same, does_then, does_same}

-- what is no sort
not_sort : (bank : Terms) (n : Node) → ((s : Universe) → ¬ (n ≡ Node.Sort s)) → sort_form (node_tree bank n) ≡ fails (no_sort (node_tree bank n))
unfolding sort_form
not_sort bank (Node.Sort s) h = absurd (h s refl)
not_sort bank (Node.Ind x) h = refl
not_sort bank (Node.Prod x a b) h = refl
not_sort bank (Node.Let x v a b) h = refl
not_sort bank (Node.Rel i) h = refl
not_sort bank (Node.Var x) h = refl
not_sort bank (Node.Lam x a b) h = refl
not_sort bank (Node.App f a) h = refl
not_sort bank (Node.Const x) h = refl
not_sort bank (Node.Ctor x i) h = refl
not_sort bank (Node.Elim x s) h = refl
not_sort bank (Node.Evar i ts) h = refl

pub sort_refused : (bank : Terms) (n : Node) (t : TermId) → HasTerm bank t → tree_of bank t ≡ node_tree bank n → ((s : Universe) → ¬ (n ≡ Node.Sort s)) → (b : ℕ) →
    Refuses bank (PrimFault.Elab (ElabFault.NotASort t)) (λ m. elab_work (sort_form (tree_of bank t))) b b
unfolding faults_as
sort_refused bank n t has e h b =
    refuses_at_once bank (PrimFault.Elab (ElabFault.NotASort t)) (by_elab (no_sort (tree_of bank t))) (elab_work (sort_form (tree_of bank t))) (no_sort (tree_of bank t), (has, refl), refl)
    (ap (λ z. elab_work (sort_form z)) e ∙ ap elab_work (not_sort bank n h) ∙ ap (λ z. fails (by_elab (no_sort z))) (sym e)) b

pub sort_given : (bank : Terms) (n : Node) (t : Tree) (s : Universe) → t ≡ node_tree bank n → n ≡ Node.Sort s → elab_work (sort_form t) ≡ gives s
unfolding faults_as sort_form
sort_given bank n t s e i = ap (λ z. elab_work (sort_form z)) (e ∙ ap (node_tree bank) i)

module _ (E : Environment) (s : Store) (k : ℕ) (g : Context) (T : Tree) (vs : Givens) where
  abbrev pub kinds : ℕ → Doing Tree
  kinds n = elab_work (type_of E n s g T)

  form_elab : (n : ℕ) (K : Tree) → elab_work (form_of (site (scene_by E s k g T vs n)) g s K) ≡ form_work E s g K n
  unfolding form_of
  form_elab n K = faults_bind by_elab (whnf (rules_of E) (read_context s g) n (read s K)) elab_fitting ∙ ap (λ z. z >>= needed_form) (head_faults by_elab _ n (read s K))

  sort_is : (n : ℕ) → (kinds n >>= λ K. form_work E s g K n >>= λ t. elab_work (sort_form t)) ≡ goal_sort (scene_by E s k g T vs n)
  unfolding goal_sort
  sort_is n =
      sym (faults_bind by_elab (type_of E n s g T) (λ K. form_of (site (scene_by E s k g T vs n)) g s K >>= sort_form)
      ∙ bind_same (kinds n) _ _ (λ K. faults_bind by_elab (form_of (site (scene_by E s k g T vs n)) g s K) sort_form ∙ ap (λ z. z >>= λ t. elab_work (sort_form t)) (form_elab n K)))

  abbrev after_kind : Tree → ℕ → Doing Universe
  after_kind K n = form_work E s g K n >>= λ t. elab_work (sort_form t)

  pub kind_refused : (bank : Terms) (e : PrimFault) (b left : ℕ) → Refuses bank e kinds b left → Refuses bank e (λ n. goal_sort (scene_by E s k g T vs n)) b left
  kind_refused bank e b left h = refuses_same bank e (λ n. kinds n >>= λ K. after_kind K n) (λ n. goal_sort (scene_by E s k g T vs n)) b left sort_is (refuses_first bank e kinds after_kind b left h)

  module _ (b m : ℕ) (K : Tree) (h : ComesTo kinds b (done K m)) where
    pub sort_unformed : (bank : Terms) (e : PrimFault) (left : ℕ) → Refuses bank e (form_work E s g K) m left → Refuses bank e (λ n. goal_sort (scene_by E s k g T vs n)) b left
    sort_unformed bank e left y =
        refuses_same bank e (λ n. kinds n >>= λ K. after_kind K n) (λ n. goal_sort (scene_by E s k g T vs n)) b left sort_is
        (refuses_then bank e kinds after_kind b m left K h (refuses_first bank e (form_work E s g K) (λ t n. elab_work (sort_form t)) m left y))

    pub sort_does : {X : Type 0} (bank : Terms) (tell : X → Universe) (q : Result X PrimFault) (l left : ℕ) (t : Tree) → ComesTo (form_work E s g K) m (done t l) → Does bank tell q (λ n. elab_work (sort_form t)) l left →
        Does bank tell q (λ n. goal_sort (scene_by E s k g T vs n)) b left
    sort_does bank tell q l left t i y =
        does_same bank tell q (λ n. kinds n >>= λ K. after_kind K n) (λ n. goal_sort (scene_by E s k g T vs n)) b left sort_is
        (does_then bank tell q kinds after_kind b m left K h (does_then bank tell q (form_work E s g K) (λ t n. elab_work (sort_form t)) m l left t i y))
