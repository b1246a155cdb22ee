-- What the parts of a weak head form answer.
use Rattle.std.proofs.Common.{◌≡◌, ◌∙◌, ℕ, refl, sym, ap, Option, None, Some, Result, Ok, Err, IfOk}
use Rattle.std.proofs.Common.{subst as along}
use Rattle.std.specs.Prelude.{option_map}
use Rattle.lq_trees.specs.declared.Sort.{Sort as Universe}
use Rattle.lq_trees.specs.Tree.{Tree, Context}
use Rattle.lq_trees.specs.Ticks.{gives, fails, done, ComesTo}
use Rattle.lq_trees.specs.Hypotheses.{HoldsOnly}
use Rattle.lq_terms.specs.declared.nodes.NameId.{NameId}
use Rattle.lq_terms.specs.declared.nodes.Node.{Node}
use Rattle.lq_terms.specs.declared.nodes.TermId.{TermId}
use Rattle.lq_terms.specs.Terms.{Terms, HasTerm, node_tree, tree_of}
use Rattle.lq_solving.specs.Stores.{Store, names_in}
use Rattle.lq_solving.specs.Kept.{IsStore, StandsIn}
use Rattle.lq_solving.specs.ElabFaults.{no_sort, no_product}
use Rattle.lq_solving.specs.Elaboration.{Site, found, form_of, sort_form, product_form, found_sort, as_wanted, wanted_product}
use Rattle.lq_solving.proofs.ElabSettled.{at}
use Rattle.lq_solving.proofs.StandsLaws.{StandsUnder, domain_stands, rest_stands}
use Rattle.lq_typing.specs.declared.faults.ElabFault.{ElabFault}
use Rattle.lq_typing.specs.Refusals.{Refuses}
use Rattle.lq_elab.specs.Answers.{Comes, product_found}
use Rattle.lq_elab.specs.Forms.{IsSortOr, IsProductOr, IsProductIf}
use Rattle.lq_elab.specs.Frames.{pair_of, HasPair, ProductStands}
use Rattle.lq_elab.proofs.HeadForms.{sort_comes, sort_refuses, product_comes, product_refuses, wanted_comes, wanted_is}

module _ (e : Site) (g : Context) (s : Store) (K : Tree) (b left : ℕ) (bank : Terms) (T : TermId) (has : HasTerm bank T) (h : ComesTo (λ n. form_of (at n e) g s K) b (done (tree_of bank T) left)) where
  pub sort_answer : (t : Tree) (q : Result Universe ElabFault) → IsSortOr bank q T → Comes bank (λ u. u) q (λ n. found_sort (at n e) g (found s t K)) b left
  sort_answer t (Ok u) k = sort_comes e g s K b left (tree_of bank T) t u h k
  sort_answer t (Err y) k = along (λ z. Refuses bank z (λ n. found_sort (at n e) g (found s t K)) b left) (sym k.0) (sort_refuses e g s K b left bank T t has h k.1)

  pub product_answer : (q : Result (TermId × TermId) ElabFault) → IsProductOr bank q T → Comes bank (pair_of bank) q (λ n. product_found (at n e) g s K) b left
  product_answer (Ok p) k = product_comes e g s K b left (tree_of bank T) k.binder (tree_of bank p.0) (tree_of bank p.1) h k.is
  product_answer (Err y) k = along (λ z. Refuses bank z (λ n. product_found (at n e) g s K) b left) (sym k.0) (product_refuses e g s K b left bank T has h k.1)

  pub wanted_answer : (o : Option (TermId × TermId)) → IsProductIf bank o T → ComesTo (λ n. wanted_product (at n e) g s (Some K)) b (done (option_map (pair_of bank) o) left)
  wanted_answer (Some p) k = wanted_comes e g s K b left (tree_of bank T) (Some (pair_of bank p)) h (wanted_is (tree_of bank T) k.binder (tree_of bank p.0) (tree_of bank p.1) k.is)
  wanted_answer None k = wanted_comes e g s K b left (tree_of bank T) None h k

-- the parts of the product stand where it stands
module _ (s : Store) (i : IsStore s) (g : Context) (bank : Terms) (T : TermId) (stands : StandsIn s g (tree_of bank T)) where
  pub product_has : (q : Result (TermId × TermId) ElabFault) → IsProductOr bank q T → IfOk q (λ p. HasTerm bank p.0 × HasTerm bank p.1)
  product_has (Ok p) k = (k.domain, k.rest)
  product_has (Err y) k = tt

  pub product_domain : (q : Result (TermId × TermId) ElabFault) → IsProductOr bank q T → IfOk q (λ p. StandsIn s g (tree_of bank p.0))
  product_domain (Ok p) k = domain_stands s i (names_in g) k.binder (tree_of bank p.0) (tree_of bank p.1) (along (StandsIn s g) k.is stands)
  product_domain (Err y) k = tt

  pub product_rest : (q : Result (TermId × TermId) ElabFault) → IsProductOr bank q T → IfOk q (λ p. StandsUnder s (names_in g) 1 (tree_of bank p.1))
  product_rest (Ok p) k = rest_stands s i (names_in g) k.binder (tree_of bank p.0) (tree_of bank p.1) (along (StandsIn s g) k.is stands)
  product_rest (Err y) k = tt

  pub product_holds : (q : Result (TermId × TermId) ElabFault) → IsProductOr bank q T → HoldsOnly (names_in g) (tree_of bank T) → IfOk q (λ p. HoldsOnly (names_in g) (tree_of bank p.1))
  product_holds (Ok p) k h = (along (HoldsOnly (names_in g)) k.is h).1
  product_holds (Err y) k h = tt

  pub pair_has : (o : Option (TermId × TermId)) → IsProductIf bank o T → HasPair bank o
  pair_has (Some p) k = (k.domain, k.rest)
  pair_has None k = tt

  pub pair_stands : (o : Option (TermId × TermId)) → IsProductIf bank o T → ProductStands s (names_in g) (option_map (pair_of bank) o)
  pair_stands (Some p) k = (
    domain_stands s i (names_in g) k.binder (tree_of bank p.0) (tree_of bank p.1) (along (StandsIn s g) k.is stands),
    rest_stands s i (names_in g) k.binder (tree_of bank p.0) (tree_of bank p.1) (along (StandsIn s g) k.is stands),
  )
  pair_stands None k = tt

-- ---- other forms

node_no_sort : (bank : Terms) (n : Node) → ((u : Universe) → n ≡ Node.Sort u → ⊥) → sort_form (node_tree bank n) ≡ fails (no_sort (node_tree bank n))
unfolding sort_form
node_no_sort bank (Node.Rel i) h = refl
node_no_sort bank (Node.Var x) h = refl
node_no_sort bank (Node.Sort u) h = absurd (h u refl)
node_no_sort bank (Node.Prod x a b) h = refl
node_no_sort bank (Node.Lam x a b) h = refl
node_no_sort bank (Node.Let x v a b) h = refl
node_no_sort bank (Node.App f a) h = refl
node_no_sort bank (Node.Const x) h = refl
node_no_sort bank (Node.Ind x) h = refl
node_no_sort bank (Node.Ctor x k) h = refl
node_no_sort bank (Node.Elim x u) h = refl
node_no_sort bank (Node.Evar k ts) h = refl

node_no_product : (bank : Terms) (n : Node) → ((x : NameId) (a b : TermId) → n ≡ Node.Prod x a b → ⊥) → product_form (node_tree bank n) ≡ fails (no_product (node_tree bank n))
unfolding product_form
node_no_product bank (Node.Rel i) h = refl
node_no_product bank (Node.Var x) h = refl
node_no_product bank (Node.Sort u) h = refl
node_no_product bank (Node.Prod x a b) h = absurd (h x a b refl)
node_no_product bank (Node.Lam x a b) h = refl
node_no_product bank (Node.Let x v a b) h = refl
node_no_product bank (Node.App f a) h = refl
node_no_product bank (Node.Const x) h = refl
node_no_product bank (Node.Ind x) h = refl
node_no_product bank (Node.Ctor x k) h = refl
node_no_product bank (Node.Elim x u) h = refl
node_no_product bank (Node.Evar k ts) h = refl

node_not_wanted : (bank : Terms) (n : Node) → ((x : NameId) (a b : TermId) → n ≡ Node.Prod x a b → ⊥) → as_wanted (node_tree bank n) ≡ None
unfolding as_wanted
node_not_wanted bank (Node.Rel i) h = refl
node_not_wanted bank (Node.Var x) h = refl
node_not_wanted bank (Node.Sort u) h = refl
node_not_wanted bank (Node.Prod x a b) h = absurd (h x a b refl)
node_not_wanted bank (Node.Lam x a b) h = refl
node_not_wanted bank (Node.Let x v a b) h = refl
node_not_wanted bank (Node.App f a) h = refl
node_not_wanted bank (Node.Const x) h = refl
node_not_wanted bank (Node.Ind x) h = refl
node_not_wanted bank (Node.Ctor x k) h = refl
node_not_wanted bank (Node.Elim x u) h = refl
node_not_wanted bank (Node.Evar k ts) h = refl

module _ (bank : Terms) (n : Node) where
  pub is_sort : (u : Universe) (t : TermId) → node_tree bank n ≡ tree_of bank t → n ≡ Node.Sort u → sort_form (tree_of bank t) ≡ gives u
  unfolding sort_form
  is_sort u t e q = ap sort_form (sym e ∙ ap (node_tree bank) q)

  pub other_sort : (t : TermId) → node_tree bank n ≡ tree_of bank t → ((u : Universe) → n ≡ Node.Sort u → ⊥) → sort_form (tree_of bank t) ≡ fails (no_sort (tree_of bank t))
  other_sort t e h = along (λ z. sort_form z ≡ fails (no_sort z)) e (node_no_sort bank n h)

  pub other_product : (t : TermId) → node_tree bank n ≡ tree_of bank t → ((x : NameId) (a b : TermId) → n ≡ Node.Prod x a b → ⊥) → product_form (tree_of bank t) ≡ fails (no_product (tree_of bank t))
  other_product t e h = along (λ z. product_form z ≡ fails (no_product z)) e (node_no_product bank n h)

  pub other_wanted : (t : TermId) → node_tree bank n ≡ tree_of bank t → ((x : NameId) (a b : TermId) → n ≡ Node.Prod x a b → ⊥) → as_wanted (tree_of bank t) ≡ None
  other_wanted t e h = along (λ z. as_wanted z ≡ None) e (node_not_wanted bank n h)
