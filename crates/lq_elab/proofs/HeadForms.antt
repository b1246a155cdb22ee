-- Weak head forms of types that are kept, by the call of reduction.
use Rattle.std.proofs.Common.{◌≡◌, ℕ, suc, refl, ap, arith, List, Option, None, Some, Result, Ok, Err}
use Rattle.std.proofs.Common.{subst as along}
use Rattle.lq_trees.specs.declared.Fit.{Fit}
use Rattle.lq_trees.specs.declared.Sort.{Sort as Universe}
use Rattle.lq_trees.specs.Tree.{Name, Tree, Context}
use Rattle.lq_trees.specs.Tree.Tree.{Prod}
use Rattle.lq_trees.specs.Size.{fit}
use Rattle.lq_trees.specs.Rules.{Rules}
use Rattle.lq_trees.specs.Hypotheses.{HoldsOnly}
use Rattle.lq_trees.specs.Reading.{Reads, ReadsContext, ReadsRules}
use Rattle.lq_trees.specs.Ticks.{gives, fails, ◌>>=◌, done, failed, ComesTo}
use Rattle.lq_trees.proofs.Outcomes.{comes_then, comes_gives, comes_fails, comes_spent}
use Rattle.lq_calculus.specs.Contraction.{whnf, contract}
use Rattle.lq_calculus.specs.Declarations.{Env as Environment, rules_of}
use Rattle.lq_calculus.specs.Checking.{KernelFault}
use Rattle.lq_calculus.proofs.ConvSound.{done_gives}
use Rattle.lq_terms.specs.declared.nodes.Hypothesis.{Hypothesis}
use Rattle.lq_terms.specs.declared.nodes.TermId.{TermId}
use Rattle.lq_terms.specs.Terms.{Terms, HasTerm, tree_of}
use Rattle.lq_terms.specs.Contexts.{context_of}
use Rattle.lq_terms.specs.Telling.{Telling, Tells, values_in}
use Rattle.lq_reduce.specs.declared.faults.ReduceFault.{ReduceFault}
use Rattle.lq_reduce.specs.Answers.{Reduces}
use Rattle.lq_solving.specs.Stores.{Store, names_in, read, read_context, values_of}
use Rattle.lq_solving.specs.Kept.{IsContext, IsStore, StandsIn}
use Rattle.lq_solving.specs.Claims.{ArePlainRules}
use Rattle.lq_solving.specs.ElabFaults.{ElabFault as TreeFault, Elab, elab_fitting, elab_too_large, elab_too_deep, no_sort, no_product}
use Rattle.lq_solving.specs.Elaboration.{Site, found, form_of, sort_form, product_form, found_sort, as_wanted, wanted_product}
use Rattle.lq_solving.proofs.ElabSettled.{at}
use Rattle.lq_solving.proofs.Good.{IsGood, form_good, good_done}
use Rattle.lq_solving.proofs.DoneLaws.{done_reads}
use Rattle.lq_solving.proofs.Later.{good_read, good_stands, bodies_good}
use Rattle.lq_solving.proofs.UnifyProved.{bodies_stand}
use Rattle.lq_evars.specs.Places.{Places, store_of, body_at}
use Rattle.lq_unify.proofs.ReduceSteps.{form_done, form_out}
use Rattle.lq_unify.proofs.OneForm.{context_read, term_read, rules_read}
use Rattle.lq_typing.specs.declared.faults.ElabFault.{ElabFault}
use Rattle.lq_typing.specs.Refusals.{Refuses}
use Rattle.lq_elab.specs.Answers.{Comes}
use Rattle.lq_elab.specs.Forms.{elab_fault}
use Rattle.lq_elab.proofs.AnswerLaws.{refuses_first}

-- whether a term is within the limits
unfoldable pub fitted : Fit → Tree → Elab Tree
fitted q t = elim q [ Fit.Fits ↦ gives t | Fit.TooLarge ↦ fails elab_too_large | Fit.TooDeep ↦ fails elab_too_deep ]

pub fits_is : (t : Tree) (q : Fit) → fit t ≡ q → elab_fitting t ≡ fitted q t
unfolding elab_fitting fitted
fits_is t q e = ap (λ z. fitted z t) e

-- the form of the definition, from the answer of reduction
module _ (r : Rules) (g : Context) (t : Tree) (b left : ℕ) where
  abbrev pub FormBy : Terms → Result TermId ReduceFault → Type 0
  FormBy bank (Ok u) = ComesTo {F = TreeFault} (λ n. whnf r g n t >>= elab_fitting) b (done (tree_of bank u) left)
  FormBy bank (Err f) = Comes bank (tree_of bank) (Err (elab_fault f)) (λ n. whnf r g n t >>= elab_fitting) b left

  whole : (u : Tree) → ComesTo {F = KernelFault} (λ n. whnf r g n t) b (done u left) → ComesTo {F = TreeFault} (λ n. whnf r g n t) b (done u left)
  whole u k = form_done (λ z. elab_too_large) (contract r g) t u b left k

  pub form_by : (bank : Terms) (q : Result TermId ReduceFault) → Reduces {F = KernelFault} bank q (λ n. whnf r g n t) b left → FormBy bank q
  unfolding fitted
  form_by bank (Ok u) k =
      comes_then (λ n. whnf r g n t) (λ z n. elab_fitting z) b (tree_of bank u) left (done (tree_of bank u) left) (whole (tree_of bank u) k.2)
      (comes_gives (λ n. elab_fitting (tree_of bank u)) (tree_of bank u) left (λ n. fits_is (tree_of bank u) Fit.Fits k.1))
  form_by bank (Err ReduceFault.StepsOut) k = (comes_spent (λ n. whnf r g n t) (λ z n. elab_fitting z) b (form_out (λ z. elab_too_large) (contract r g) t b k.0), k.1)
  form_by bank (Err ReduceFault.TooLarge) k =
      comes_then (λ n. whnf r g n t) (λ z n. elab_fitting z) b k.tree left (failed elab_too_large left) (whole k.tree k.comes)
      (comes_fails (λ n. elab_fitting k.tree) elab_too_large left (λ n. fits_is k.tree Fit.TooLarge k.passes))
  form_by bank (Err ReduceFault.TooDeep) k =
      comes_then (λ n. whnf r g n t) (λ z n. elab_fitting z) b k.tree left (failed elab_too_deep left) (whole k.tree k.comes)
      (comes_fails (λ n. elab_fitting k.tree) elab_too_deep left (λ n. fits_is k.tree Fit.TooDeep k.passes))
  form_by bank (Err ReduceFault.NoMemory) k = tt

-- a form stands in the context, and holds no other hypotheses as it is
pub form_bare : (s : Store) → IsStore s → (r : Rules) → ArePlainRules r → (g : Context) → IsContext s g → (A T : Tree) → StandsIn s g A → (b left : ℕ) →
    ComesTo {F = KernelFault} (λ n. whnf r (read_context s g) n (read s A)) b (done T left) → StandsIn s g T × HoldsOnly (names_in g) T
unfolding read
form_bare s i r plain g c A T k b left h =
    let stands = good_stands s i s.values (names_in g) T good in
    (stands, along (HoldsOnly (names_in g)) (done_reads s.variables s.values T (good_done s.variables s.values (names_in g) 0 T good)) stands.holds)
  where
    good : IsGood s.variables s.values (names_in g) 0 T
    good =
        form_good s.variables s.values (names_in g) KernelFault r plain (read_context s g) (bodies_good r s i g (bodies_stand s g c)) (suc b) (read s A) T (good_read s i (names_in g) A k)
        (done_gives b (whnf r (read_context s g) (suc b) (read s A)) T left (h (suc b) (omega arith)))

-- by the call
module _ (bank : Terms) (s : Places) (hs : List Hypothesis) (i : TermId) (kept : IsStore (store_of bank s)) (c : IsContext (store_of bank s) (context_of bank hs)) (h : StandsIn (store_of bank s) (context_of bank hs) (tree_of bank i))
    (same : (k : ℕ) → values_in bank (body_at s) k ≡ values_of (store_of bank s) k) (E : Environment) (plain : ArePlainRules (rules_of E)) (told : Telling) (tells : Tells bank told (rules_of E)) (new : Terms) (b left : ℕ) (q : Result TermId ReduceFault)
    (answer : (p r : Rules) (g : Context) (t : Tree) → Tells bank told p → ReadsRules (values_in bank (body_at s)) p r → ReadsContext (values_in bank (body_at s)) (context_of bank hs) g → Reads (values_in bank (body_at s)) (tree_of bank i) t →
    Reduces {F = KernelFault} new q (λ n. whnf r g n t) b left) where
  abbrev H : Context
  H = read_context (store_of bank s) (context_of bank hs)

  abbrev T : Tree
  T = read (store_of bank s) (tree_of bank i)

  pub reduced : Reduces {F = KernelFault} new q (λ n. whnf (rules_of E) H n T) b left
  reduced = answer (rules_of E) (rules_of E) H T tells (rules_read bank s hs i kept c h same (rules_of E) plain) (context_read bank s hs i kept c h same) (term_read bank s hs i kept c h same)

  -- the form of the definition, at each site of that environment
  abbrev pub FormAt : Result TermId ReduceFault → Type 0
  FormAt (Ok u) = (e : Site) → E ≡ e.env → ComesTo (λ n. form_of (at n e) (context_of bank hs) (store_of bank s) (tree_of bank i)) b (done (tree_of new u) left)
  FormAt (Err f) = (e : Site) → E ≡ e.env → Comes new (tree_of new) (Err (elab_fault f)) (λ n. form_of (at n e) (context_of bank hs) (store_of bank s) (tree_of bank i)) b left

  at_site : (p : Result TermId ReduceFault) → FormBy (rules_of E) H T b left new p → FormAt p
  unfolding form_of
  at_site (Ok u) k = λ e x. along (λ y. ComesTo (λ n. whnf (rules_of y) H n T >>= elab_fitting) b (done (tree_of new u) left)) x k
  at_site (Err f) k = λ e x. along (λ y. Comes new (tree_of new) (Err (elab_fault f)) (λ n. whnf (rules_of y) H n T >>= elab_fitting) b left) x k

  pub form_at : FormAt q
  form_at = at_site q (form_by (rules_of E) H T b left new q reduced)

-- ---- what a form must be

module _ (e : Site) (g : Context) (s : Store) (K : Tree) (b left : ℕ) where
  -- a sort
  pub sort_comes : (T t : Tree) (u : Universe) → ComesTo (λ n. form_of (at n e) g s K) b (done T left) → sort_form T ≡ gives u → ComesTo (λ n. found_sort (at n e) g (found s t K)) b (done u left)
  unfolding found_sort
  sort_comes T t u h k = comes_then (λ n. form_of (at n e) g s K) (λ z n. sort_form z) b T left (done u left) h (comes_gives (λ n. sort_form T) u left (λ n. k))

  pub sort_refuses : (bank : Terms) (T : TermId) (t : Tree) → HasTerm bank T → ComesTo (λ n. form_of (at n e) g s K) b (done (tree_of bank T) left) → sort_form (tree_of bank T) ≡ fails (no_sort (tree_of bank T)) →
      Refuses bank (ElabFault.NotASort T) (λ n. found_sort (at n e) g (found s t K)) b left
  unfolding found_sort
  sort_refuses bank T t has h k =
      (has, comes_then (λ n. form_of (at n e) g s K) (λ z n. sort_form z) b (tree_of bank T) left (failed (no_sort (tree_of bank T)) left) h (comes_fails (λ n. sort_form (tree_of bank T)) (no_sort (tree_of bank T)) left (λ n. k)))

  pub sort_stops : (bank : Terms) (t : Tree) (f : ElabFault) → Refuses bank f (λ n. form_of (at n e) g s K) b left → Refuses bank f (λ n. found_sort (at n e) g (found s t K)) b left
  unfolding found_sort
  sort_stops bank t f h = refuses_first bank (λ n. form_of (at n e) g s K) (λ z n. sort_form z) b left f h

  -- a product
  pub product_comes : (T : Tree) (x : Name) (A B : Tree) → ComesTo (λ n. form_of (at n e) g s K) b (done T left) → T ≡ Prod x A B → ComesTo (λ n. form_of (at n e) g s K >>= product_form) b (done (A, B) left)
  unfolding product_form
  product_comes T x A B h k =
      comes_then (λ n. form_of (at n e) g s K) (λ z n. product_form z) b T left (done (A, B) left) h (comes_gives (λ n. product_form T) (A, B) left (λ n. ap product_form k))

  pub product_refuses : (bank : Terms) (T : TermId) → HasTerm bank T → ComesTo (λ n. form_of (at n e) g s K) b (done (tree_of bank T) left) → product_form (tree_of bank T) ≡ fails (no_product (tree_of bank T)) →
      Refuses bank (ElabFault.NotAProduct T) (λ n. form_of (at n e) g s K >>= product_form) b left
  product_refuses bank T has h k =
      (has, comes_then (λ n. form_of (at n e) g s K) (λ z n. product_form z) b (tree_of bank T) left (failed (no_product (tree_of bank T)) left) h (comes_fails (λ n. product_form (tree_of bank T)) (no_product (tree_of bank T)) left (λ n. k)))

  pub product_stops : (bank : Terms) (f : ElabFault) → Refuses bank f (λ n. form_of (at n e) g s K) b left → Refuses bank f (λ n. form_of (at n e) g s K >>= product_form) b left
  product_stops bank f h = refuses_first bank (λ n. form_of (at n e) g s K) (λ z n. product_form z) b left f h

  -- a product that is wanted, if there is one
  pub wanted_comes : (T : Tree) (o : Option (Tree × Tree)) → ComesTo (λ n. form_of (at n e) g s K) b (done T left) → as_wanted T ≡ o → ComesTo (λ n. wanted_product (at n e) g s (Some K)) b (done o left)
  unfolding wanted_product
  wanted_comes T o h k = comes_then (λ n. form_of (at n e) g s K) (λ z n. gives (as_wanted z)) b T left (done o left) h (comes_gives (λ n. gives (as_wanted T)) o left (λ n. ap (λ z. gives z) k))

  pub wanted_stops : (bank : Terms) (f : ElabFault) → Refuses bank f (λ n. form_of (at n e) g s K) b left → Refuses bank f (λ n. wanted_product (at n e) g s (Some K)) b left
  unfolding wanted_product
  wanted_stops bank f h = refuses_first bank (λ n. form_of (at n e) g s K) (λ z n. gives (as_wanted z)) b left f h

pub none_wanted : (e : Site) (g : Context) (s : Store) (b : ℕ) → ComesTo (λ n. wanted_product (at n e) g s None) b (done None b)
unfolding wanted_product
none_wanted e g s b = comes_gives (λ n. gives None) None b (λ n. refl)

pub wanted_is : (T : Tree) (x : Name) (A B : Tree) → T ≡ Prod x A B → as_wanted T ≡ Some (A, B)
unfolding as_wanted
wanted_is T x A B e = ap as_wanted e
