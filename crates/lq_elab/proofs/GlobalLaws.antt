-- Names of the environment, by the kernel's calls.
use Rattle.std.proofs.Common.{◌≡◌, ◌∙◌, ℕ, refl, sym, ap, ap₂, Bool, List, [], None, Some, Result, Ok, Err, ◌⊎◌, inl, inr}
use Rattle.std.proofs.Common.{subst as along}
use Rattle.lq_trees.specs.declared.Sort.{Sort as Universe}
use Rattle.lq_trees.specs.Tree.{Name, Tree, Context}
use Rattle.lq_trees.specs.Tree.Tree.{Const, Ind, Ctor, Elim}
use Rattle.lq_trees.specs.Ticks.{gives, fails, ◌>>=◌, done, ComesTo}
use Rattle.lq_trees.proofs.Outcomes.{comes_then, comes_gives, comes_fails}
use Rattle.lq_calculus.specs.Declarations.{Env as Environment, Entry as TreeEntry, Family as TreeFamily, lookup, constant, family, arity, constructor}
use Rattle.lq_calculus.specs.Declarations.{eliminator}
use Rattle.lq_calculus.specs.Checking.{Kernel, constant_kind, family_kind, ctor_kind, elim_kind}
use Rattle.lq_inference.specs.Inference.{Open, closed, infer_by}
use Rattle.lq_terms.specs.declared.nodes.NameId.{NameId}
use Rattle.lq_terms.specs.declared.nodes.TermId.{TermId}
use Rattle.lq_terms.specs.Terms.{Terms, HasName, IsTerm, Grows, text_of, tree_of}
use Rattle.lq_env.specs.declared.environment.Entry.{Entry as CodeEntry}
use Rattle.lq_env.specs.declared.family.Family.{Family as CodeFamily}
use Rattle.lq_env.specs.Environments.{IsEntry, Looks, entry_of}
use Rattle.lq_kernel.specs.declared.faults.KernelFault.{KernelFault}
use Rattle.lq_kernel.specs.Steps.{Types, behind, inside_of}
use Rattle.lq_solving.specs.Stores.{Store}
use Rattle.lq_solving.specs.ElabFaults.{by_kernel, unknown}
use Rattle.lq_solving.specs.Elaboration.{Site, Found, found, entry_found}
use Rattle.lq_solving.proofs.ElabSettled.{at}
use Rattle.lq_typing.specs.declared.faults.ElabFault.{ElabFault}
use Rattle.lq_typing.specs.Refusals.{Refuses, kernel_refusal}
use Rattle.lq_typing.proofs.RefusalLaws.{by_done, by_refused}
use Rattle.lq_elab.specs.declared.finding.Found.{Found as CodeFound}
use Rattle.lq_elab.specs.Answers.{Comes, leaf_work}
use Rattle.lq_elab.proofs.AnswerLaws.{refuses_first, comes_as}

-- ---- a leaf with its type

module _ (s : Store) (T : Tree) (k : Kernel Tree) (left : ℕ) where
  pub leaf_found : (old new : Terms) → Grows old new → (K t : TermId) → Types old (Ok K) (λ n. k) left left → IsTerm new t T →
      ComesTo (λ n. by_kernel k >>= (λ A. gives (found s T A))) left (done (found s (tree_of new t) (tree_of new K)) left)
  leaf_found old new g K t h is =
      along (λ z. ComesTo (λ n. by_kernel k >>= (λ A. gives (found s T A))) left (done z left)) (ap₂ (λ a b. found s a b) (sym is.is) (sym (g.tree K h.0.term.has)))
      (comes_then (λ n. by_kernel k) (λ A n. gives (found s T A)) left (tree_of old K) left (done (found s T (tree_of old K)) left) (by_done (λ n. k) left (tree_of old K) left h.1)
      (comes_gives (λ n. gives (found s T (tree_of old K))) (found s T (tree_of old K)) left (λ n. refl)))

  pub leaf_refused : (bank : Terms) (e : KernelFault) → Types bank (Err e) (λ n. k) left left → Refuses {A = Found} bank (kernel_refusal e) (λ n. by_kernel k >>= (λ A. gives (found s T A))) left left
  leaf_refused bank e h = refuses_first bank (λ n. by_kernel k) (λ A n. gives (found s T A)) left left (kernel_refusal e) (by_refused (λ n. k) left bank e left h)

-- ---- the kernel's types of leaves

module _ (bank : Terms) (q : Result TermId KernelFault) (o : Open) (E : Environment) (g : Context) (b : ℕ) where
  pub constant_types : (x : Name) → Types bank q (inside_of o E g (Const x)) b b → Types bank q (λ n. constant_kind x (lookup E x)) b b
  unfolding inside_of behind infer_by
  constant_types x h = h

  pub family_types : (x : Name) → Types bank q (inside_of o E g (Ind x)) b b → Types bank q (λ n. family_kind x (lookup E x)) b b
  unfolding inside_of behind infer_by
  family_types x h = h

  pub ctor_types : (c : Name) (k : ℕ) → Types bank q (inside_of o E g (Ctor c k)) b b → Types bank q (λ n. ctor_kind c k (lookup E c)) b b
  unfolding inside_of behind infer_by
  ctor_types c k h = h

  pub elim_types : (c : Name) (u : Universe) → Types bank q (inside_of o E g (Elim c u)) b b → Types bank q (λ n. elim_kind c u (lookup E c)) b b
  unfolding inside_of behind infer_by
  elim_types c u h = h

-- ---- entries

module _ (e : Site) (s : Store) (x : Name) (n : ℕ) where
  pub constant_is : (A t : Tree) (opaque : Bool) → lookup e.env x ≡ Some (constant A t opaque) → entry_found (at n e) s x (lookup e.env x) ≡ (by_kernel (constant_kind x (lookup e.env x)) >>= (λ K. gives (found s (Const x) K)))
  unfolding entry_found
  constant_is A t opaque q = along (λ o. entry_found (at n e) s x o ≡ (by_kernel (constant_kind x o) >>= (λ K. gives (found s (Const x) K)))) (sym q) refl

  pub family_is : (f : TreeFamily) (us : List Universe) → lookup e.env x ≡ Some (family f us) → entry_found (at n e) s x (lookup e.env x) ≡ (by_kernel (family_kind x (lookup e.env x)) >>= (λ K. gives (found s (Ind x) K)))
  unfolding entry_found
  family_is f us q = along (λ o. entry_found (at n e) s x o ≡ (by_kernel (family_kind x o) >>= (λ K. gives (found s (Ind x) K)))) (sym q) refl

  pub arity_is : (A : Tree) → lookup e.env x ≡ Some (arity A) → entry_found (at n e) s x (lookup e.env x) ≡ (by_kernel (family_kind x (lookup e.env x)) >>= (λ K. gives (found s (Ind x) K)))
  unfolding entry_found
  arity_is A q = along (λ o. entry_found (at n e) s x o ≡ (by_kernel (family_kind x o) >>= (λ K. gives (found s (Ind x) K)))) (sym q) refl

  pub ctor_is : (c : Name) (k : ℕ) → lookup e.env x ≡ Some (constructor c k) → entry_found (at n e) s x (lookup e.env x) ≡ (by_kernel (ctor_kind c k (lookup e.env c)) >>= (λ K. gives (found s (Ctor c k) K)))
  unfolding entry_found
  ctor_is c k q = along (λ o. entry_found (at n e) s x o ≡ (by_kernel (ctor_kind c k (lookup e.env c)) >>= (λ K. gives (found s (Ctor c k) K)))) (sym q) refl

  pub elim_is : (c : Name) (u : Universe) → lookup e.env x ≡ Some (eliminator c u) → entry_found (at n e) s x (lookup e.env x) ≡ (by_kernel (elim_kind c u (lookup e.env c)) >>= (λ K. gives (found s (Elim c u) K)))
  unfolding entry_found
  elim_is c u q = along (λ o. entry_found (at n e) s x o ≡ (by_kernel (elim_kind c u (lookup e.env c)) >>= (λ K. gives (found s (Elim c u) K)))) (sym q) refl

-- ---- by the look-up

absent_is : (e : Site) (s : Store) (x : Name) (n : ℕ) → lookup e.env x ≡ None → entry_found (at n e) s x (lookup e.env x) ≡ fails (unknown x)
unfolding entry_found
absent_is e s x n q = ap (entry_found (at n e) s x) q

pub absent_refuses : (bank : Terms) (x : NameId) → HasName bank x → (E : Environment) (e : Site) → E ≡ e.env → (s : Store) (left : ℕ) → lookup E (text_of bank x) ≡ None →
    Refuses {A = Found} bank (ElabFault.Unknown x) (λ n. entry_found (at n e) s (text_of bank x) (lookup e.env (text_of bank x))) left left
absent_refuses bank x has E e q s left h = (
  has,
  comes_fails (λ n. entry_found (at n e) s (text_of bank x) (lookup e.env (text_of bank x))) (unknown (text_of bank x)) left
      (λ n. absent_is e s (text_of bank x) n (along (λ z. lookup z (text_of bank x) ≡ None) q h)),
)

-- what a leaf comes to
abbrev LeafBy : Terms → Terms → Result CodeFound ElabFault → Result TermId KernelFault → Tree → Type 0
LeafBy bank new q kq T = (k : Kernel Tree) (s : Store) (left : ℕ) → Types bank kq (λ n. k) left left → Comes new (λ f. found s (tree_of new f.term) (tree_of new f.kind)) q (λ n. leaf_work k s T) left left

abbrev TypesIn : Terms → Environment → Result TermId KernelFault → Tree → Type 0
TypesIn bank E kq T = (o : Open) (G : Context) (b : ℕ) → Types bank kq (inside_of o E G T) b b

module _ (bank : Terms) (E : Environment) (X : Name) (e : Site) (x : E ≡ e.env) (s : Store) (left : ℕ) (new : Terms) (q : Result CodeFound ElabFault) (entry : CodeEntry) where
  -- the entry at the site
  there : (d : TreeEntry) → lookup E X ≡ Some d → lookup e.env X ≡ Some d
  there d h = along (λ z. lookup z X ≡ Some d) x h

  abbrev Answer : Type 0
  Answer = Comes new (λ f. found s (tree_of new f.term) (tree_of new f.kind)) q (λ n. entry_found (at n e) s X (lookup e.env X)) left left

  pub constant_answer : (kind body : TermId) (opaque : Bool) → entry ≡ CodeEntry.Constant kind body opaque → Looks bank (Some entry) (lookup E X) → (kq : Result TermId KernelFault) → TypesIn bank E kq (Const X) → LeafBy bank new q kq (Const X) → Answer
  constant_answer kind body opaque is told kq kt la =
      comes_as new (λ f. found s (tree_of new f.term) (tree_of new f.kind)) q (λ n. entry_found (at n e) s X (lookup e.env X)) (λ n. leaf_work (constant_kind X (lookup e.env X)) s (Const X)) left left
      (λ n. constant_is e s X n (tree_of bank kind) (tree_of bank body) opaque (there (constant (tree_of bank kind) (tree_of bank body) opaque) (told.1 ∙ ap (λ z. Some (entry_of bank z)) is)))
      (la (constant_kind X (lookup e.env X)) s left (along (λ z. Types bank kq (λ n. constant_kind X (lookup z X)) left left) x (constant_types bank kq closed E [] left X (kt closed [] left))))

  pub family_answer : ((f : CodeFamily) × (ss : List Universe) × (entry ≡ CodeEntry.Family f ss)) ⊎ ((kind : TermId) × (entry ≡ CodeEntry.Arity kind)) → Looks bank (Some entry) (lookup E X) → (kq : Result TermId KernelFault) → TypesIn bank E kq (Ind X) →
      LeafBy bank new q kq (Ind X) → Answer
  family_answer is told kq kt la =
      comes_as new (λ f. found s (tree_of new f.term) (tree_of new f.kind)) q (λ n. entry_found (at n e) s X (lookup e.env X)) (λ n. leaf_work (family_kind X (lookup e.env X)) s (Ind X)) left left (entry_is is)
      (la (family_kind X (lookup e.env X)) s left (along (λ z. Types bank kq (λ n. family_kind X (lookup z X)) left left) x (family_types bank kq closed E [] left X (kt closed [] left))))
    where
      entry_is : ((f : CodeFamily) × (ss : List Universe) × (entry ≡ CodeEntry.Family f ss)) ⊎ ((kind : TermId) × (entry ≡ CodeEntry.Arity kind)) → (n : ℕ) → entry_found (at n e) s X (lookup e.env X) ≡ leaf_work (family_kind X (lookup e.env X)) s (Ind X)
      entry_is (inl p) n = family_is e s X n _ p.1 (there (entry_of bank (CodeEntry.Family p.0 p.1)) (told.1 ∙ ap (λ z. Some (entry_of bank z)) p.2))
      entry_is (inr p) n = arity_is e s X n (tree_of bank p.0) (there (arity (tree_of bank p.0)) (told.1 ∙ ap (λ z. Some (entry_of bank z)) p.1))

  pub ctor_answer : (c : NameId) (k : ℕ) → entry ≡ CodeEntry.Constructor c k → Looks bank (Some entry) (lookup E X) → (mid : Terms) → Grows bank mid → (kq : Result TermId KernelFault) → TypesIn mid E kq (Ctor (text_of bank c) k) →
      LeafBy mid new q kq (Ctor (text_of mid c) k) → Answer
  ctor_answer c k is told mid g kq kt la =
      comes_as new (λ f. found s (tree_of new f.term) (tree_of new f.kind)) q (λ n. entry_found (at n e) s X (lookup e.env X)) (λ n. leaf_work (ctor_kind (text_of bank c) k (lookup e.env (text_of bank c))) s (Ctor (text_of mid c) k)) left left
      (λ n. ctor_is e s X n (text_of bank c) k (there (constructor (text_of bank c) k) (told.1 ∙ ap (λ z. Some (entry_of bank z)) is))
      ∙ ap (λ y. leaf_work (ctor_kind (text_of bank c) k (lookup e.env (text_of bank c))) s (Ctor y k)) (sym (g.text c (along (IsEntry bank) is told.0))))
      (la (ctor_kind (text_of bank c) k (lookup e.env (text_of bank c))) s left
      (along (λ z. Types mid kq (λ n. ctor_kind (text_of bank c) k (lookup z (text_of bank c))) left left) x (ctor_types mid kq closed E [] left (text_of bank c) k (kt closed [] left))))

  pub elim_answer : (c : NameId) (u : Universe) → entry ≡ CodeEntry.Eliminator c u → Looks bank (Some entry) (lookup E X) → (kq : Result TermId KernelFault) → TypesIn bank E kq (Elim (text_of bank c) u) → LeafBy bank new q kq (Elim (text_of bank c) u) → Answer
  elim_answer c u is told kq kt la =
      comes_as new (λ f. found s (tree_of new f.term) (tree_of new f.kind)) q (λ n. entry_found (at n e) s X (lookup e.env X)) (λ n. leaf_work (elim_kind (text_of bank c) u (lookup e.env (text_of bank c))) s (Elim (text_of bank c) u)) left left
      (λ n. elim_is e s X n (text_of bank c) u (there (eliminator (text_of bank c) u) (told.1 ∙ ap (λ z. Some (entry_of bank z)) is)))
      (la (elim_kind (text_of bank c) u (lookup e.env (text_of bank c))) s left
      (along (λ z. Types bank kq (λ n. elim_kind (text_of bank c) u (lookup z (text_of bank c))) left left) x (elim_types bank kq closed E [] left (text_of bank c) u (kt closed [] left))))

-- the type of a leaf is there
module _ (bank : Terms) (E : Environment) (kq : Result TermId KernelFault) (P : Type 0) (h : (k : Kernel Tree) (left : ℕ) → Types bank kq (λ n. k) left left → P) where
  pub constant_known : (X : Name) → TypesIn bank E kq (Const X) → P
  constant_known X kt = h (constant_kind X (lookup E X)) 0 (constant_types bank kq closed E [] 0 X (kt closed [] 0))

  pub family_known : (X : Name) → TypesIn bank E kq (Ind X) → P
  family_known X kt = h (family_kind X (lookup E X)) 0 (family_types bank kq closed E [] 0 X (kt closed [] 0))

  pub ctor_known : (c : Name) (k : ℕ) → TypesIn bank E kq (Ctor c k) → P
  ctor_known c k kt = h (ctor_kind c k (lookup E c)) 0 (ctor_types bank kq closed E [] 0 c k (kt closed [] 0))

  pub elim_known : (c : Name) (u : Universe) → TypesIn bank E kq (Elim c u) → P
  elim_known c u kt = h (elim_kind c u (lookup E c)) 0 (elim_types bank kq closed E [] 0 c u (kt closed [] 0))
