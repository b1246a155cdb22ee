-- What the forms, comparisons and limits of the kernel tell, by the calls that they stand on.
use Rattle.std.proofs.Common.{◌≡◌, ◌∙◌, ℕ, refl, sym, ap, subst, arith, Result, Ok, Err, Bool, true, false}
use Rattle.std.specs.Result.{IsErrAnd}
use Rattle.lq_trees.specs.declared.Sort.{Sort as Universe}
use Rattle.lq_trees.specs.declared.Fit.{Fit}
use Rattle.lq_trees.specs.Tree.{Name, Tree, Context}
use Rattle.lq_trees.specs.Tree.Tree.{Sort, Prod}
use Rattle.lq_trees.specs.Change.{close}
use Rattle.lq_trees.specs.Index.{Within}
use Rattle.lq_trees.specs.Size.{fit}
use Rattle.lq_trees.specs.Ticks.{gives, fails, done, failed, ComesTo}
use Rattle.lq_trees.proofs.Outcomes.{comes_gives, comes_fails}
use Rattle.lq_terms.specs.declared.nodes.TermId.{TermId}
use Rattle.lq_terms.specs.declared.change.SizeFault.{SizeFault}
use Rattle.lq_terms.specs.Terms.{Terms, HasTerm, Grows, tree_of}
use Rattle.lq_terms.specs.Changes.{Answers as Changed}
use Rattle.lq_calculus.specs.Contraction.{whnf}
use Rattle.lq_calculus.specs.Declarations.{Env as Environment, rules_of}
use Rattle.lq_calculus.specs.Checking.{KernelFault as Fault, Kernel, not_a_sort, not_a_product, mismatch, type_too_large, type_too_deep, fitting, as_sort, as_product, needed_form, matching, conv}
use Rattle.lq_inference.specs.Inference.{Open, matching_by}
use Rattle.lq_reduce.specs.declared.faults.ReduceFault.{ReduceFault}
use Rattle.lq_reduce.specs.Answers.{Reduces, Compares}
use Rattle.lq_kernel.specs.declared.faults.KernelFault.{KernelFault}
use Rattle.lq_kernel.specs.Answers.{Refuses}
use Rattle.lq_kernel.specs.Steps.{Types, Sorts, Products, Fitted, IsSortOr, IsProductOr, reduce_fault, limit_fault}
use Rattle.lq_kernel.proofs.Goes.{Goes, goes_then, refuses_goes, refuses_first, err_out}
use Rattle.lq_kernel.proofs.Trees.{fit-close}

-- a type within the limits, and one beyond them
pub fitting_fits : (t : Tree) → fit t ≡ Fit.Fits → fitting t ≡ gives t
unfolding fitting
fitting_fits t e = rw (e, fitting)

pub fitting_large : (t : Tree) → fit t ≡ Fit.TooLarge → fitting t ≡ fails type_too_large
unfolding fitting
fitting_large t e = rw (e, fitting)

pub fitting_deep : (t : Tree) → fit t ≡ Fit.TooDeep → fitting t ≡ fails type_too_deep
unfolding fitting
fitting_deep t e = rw (e, fitting)

-- a type that must be within the limits
pub fitted_types : (bank : Terms) (r : Result TermId KernelFault) (tree : Tree) (b : ℕ) → Within 0 tree → Fitted bank r tree → Types bank r (λ n. fitting tree) b b
fitted_types bank (Ok t) tree b w h = (
  record { term = record { has = h.0.has; is = refl }; within = subst (Within 0) (sym h.0.is) w; fits = ap fit h.0.is ∙ h.1 },
  comes_gives (λ n. fitting tree) (tree_of bank t) b (λ n. fitting_fits tree h.1 ∙ ap gives (sym h.0.is)),
)
fitted_types bank (Err KernelFault.TooLarge) tree b w h = comes_fails (λ n. fitting tree) type_too_large b (λ n. fitting_large tree h)
fitted_types bank (Err KernelFault.TooDeep) tree b w h = comes_fails (λ n. fitting tree) type_too_deep b (λ n. fitting_deep tree h)
fitted_types bank (Err KernelFault.NoMemory) tree b w h = tt
fitted_types bank (Err (KernelFault.Unbound x)) tree b w h = absurd h
fitted_types bank (Err (KernelFault.NotAProduct t)) tree b w h = absurd h
fitted_types bank (Err (KernelFault.NotASort t)) tree b w h = absurd h
fitted_types bank (Err (KernelFault.Mismatch t u)) tree b w h = absurd h
fitted_types bank (Err KernelFault.NoSortAbove) tree b w h = absurd h
fitted_types bank (Err (KernelFault.HasVariable n)) tree b w h = absurd h
fitted_types bank (Err KernelFault.StepsOut) tree b w h = absurd h
fitted_types bank (Err (KernelFault.TooBig x k)) tree b w h = absurd h
fitted_types bank (Err (KernelFault.Env e)) tree b w h = absurd h

-- the weak head form that a rule needs
module _ (E : Environment) (G : Context) (T : Tree) (bank : Terms) (b left : ℕ) where
  form_then : (u : Tree) → ComesTo (λ n. whnf {F = Fault} (rules_of E) G n T) b (done u left) → Goes Tree (λ n. needed_form E n G T) b (λ n. fitting u) left
  unfolding needed_form
  form_then u h = goes_then (λ n. whnf {F = Fault} (rules_of E) G n T) (λ x n. fitting x) b u left h

  pub form_ok : (t : TermId) → Reduces {F = Fault} bank (Ok t) (λ n. whnf (rules_of E) G n T) b left → Within 0 (tree_of bank t) → Types bank (Ok t) (λ n. needed_form E n G T) b left
  form_ok t h w = (
    record { term = record { has = h.0; is = refl }; within = w; fits = h.1 },
    form_then (tree_of bank t) h.2 _ (comes_gives (λ n. fitting (tree_of bank t)) (tree_of bank t) left (λ n. fitting_fits (tree_of bank t) h.1)),
  )

  form_out : (e : ReduceFault) → Reduces {F = Fault} bank (Err e) (λ n. whnf (rules_of E) G n T) b left → Refuses bank (reduce_fault e) (λ n. needed_form E n G T) b left
  unfolding needed_form
  form_out ReduceFault.StepsOut h = refuses_first bank KernelFault.StepsOut (λ n. whnf {F = Fault} (rules_of E) G n T) (λ x n. fitting x) b left h
  form_out ReduceFault.TooLarge h = form_then h.tree h.comes _ (comes_fails (λ n. fitting h.tree) type_too_large left (λ n. fitting_large h.tree h.passes))
  form_out ReduceFault.TooDeep h = form_then h.tree h.comes _ (comes_fails (λ n. fitting h.tree) type_too_deep left (λ n. fitting_deep h.tree h.passes))
  form_out ReduceFault.NoMemory h = tt

  pub form_err : (e : ReduceFault) (k : KernelFault) → k ≡ reduce_fault e → Reduces {F = Fault} bank (Err e) (λ n. whnf (rules_of E) G n T) b left → Refuses bank k (λ n. needed_form E n G T) b left
  form_err e k i h = subst (λ z. Refuses bank z (λ n. needed_form E n G T) b left) (sym i) (form_out e h)

-- the comparison of two types
module _ (E : Environment) (G : Context) (T U : Tree) (bank : Terms) (b left : ℕ) where
  compare_out : (e : ReduceFault) → Compares {F = Fault} (Err e) (λ n. conv (rules_of E) G n T U) b left → Refuses bank (reduce_fault e) (λ n. conv (rules_of E) G n T U) b left
  compare_out ReduceFault.StepsOut h = h
  compare_out ReduceFault.TooLarge h = absurd h
  compare_out ReduceFault.TooDeep h = absurd h
  compare_out ReduceFault.NoMemory h = tt

  pub compare_err : (e : ReduceFault) (k : KernelFault) → k ≡ reduce_fault e → Compares {F = Fault} (Err e) (λ n. conv (rules_of E) G n T U) b left → Refuses bank k (λ n. conv (rules_of E) G n T U) b left
  compare_err e k i h = subst (λ z. Refuses bank z (λ n. conv (rules_of E) G n T U) b left) (sym i) (compare_out e h)

  answer_of : Bool → Kernel (Unit {0})
  answer_of true = gives (tt {0})
  answer_of false = fails (mismatch T U)

  pub matching_out : (e : KernelFault) → Refuses bank e (λ n. conv (rules_of E) G n T U) b left → Refuses bank e (λ n. matching E n G T U) b left
  unfolding matching
  matching_out e h = refuses_first bank e (λ n. conv (rules_of E) G n T U) (λ same n. elim same [ true ↦ gives (tt {0}) | false ↦ fails (mismatch T U) ]) b left h

  pub matching_yes : (same : Bool) → same ≡ true → ComesTo {F = Fault} (λ n. conv (rules_of E) G n T U) b (done same left) → ComesTo (λ n. matching E n G T U) b (done (tt {0}) left)
  unfolding matching
  matching_yes true e h =
      goes_then (λ n. conv (rules_of E) G n T U) (λ same n. elim same [ true ↦ gives (tt {0}) | false ↦ fails (mismatch T U) ]) b true left h _ (comes_gives (λ n. gives (tt {0})) (tt {0}) left (λ n. refl))
  matching_yes false e h = absurd cc

  pub matching_no : (same : Bool) → same ≡ false → ComesTo {F = Fault} (λ n. conv (rules_of E) G n T U) b (done same left) → ComesTo (λ n. matching E n G T U) b (failed (mismatch T U) left)
  unfolding matching
  matching_no false e h =
      goes_then (λ n. conv (rules_of E) G n T U) (λ same n. elim same [ true ↦ gives (tt {0}) | false ↦ fails (mismatch T U) ]) b false left h _
      (comes_fails (λ n. fails (mismatch T U)) (mismatch T U) left (λ n. refl))
  matching_no true e h = absurd cc

-- the fault of two types that do not compare, at a bank that has grown
pub mismatched :
    (E : Environment) (G : Context) (T U : Tree) (old new : Terms) (b left : ℕ) (found wanted : TermId) (same : Bool) → Grows old new → HasTerm old found → HasTerm old wanted → tree_of old found ≡ T → tree_of old wanted ≡ U
    → same ≡ false → ComesTo {F = Fault} (λ n. conv (rules_of E) G n T U) b (done same left) → Refuses new (KernelFault.Mismatch found wanted) (λ n. matching E n G T U) b left
mismatched E G T U old new b left found wanted same g hf hw t u e h =
    let t1 : tree_of new found ≡ T = g.tree found hf ∙ t in
    let u1 : tree_of new wanted ≡ U = g.tree wanted hw ∙ u in (
      omega (arith, hf, g.nodes),
      omega (arith, hw, g.nodes),
      subst (λ z. ComesTo (λ n. matching E n G T U) b (failed (mismatch z (tree_of new wanted)) left)) (sym t1)
          (subst (λ z. ComesTo (λ n. matching E n G T U) b (failed (mismatch T z) left)) (sym u1) (matching_no E G T U new b left same e h)),
    )

-- a found type against one that was written
module _ (o : Open) (E : Environment) (G : Context) (T U : Tree) (bank : Terms) (b left : ℕ) where
  pub written_out : (e : KernelFault) → Refuses bank e (λ n. conv (rules_of E) G n T U) b left → Refuses bank e (λ n. matching_by o E n G T U) b left
  unfolding matching_by
  written_out e h = refuses_first bank e (λ n. conv (rules_of E) G n T U) (λ same n. elim same [ true ↦ gives (tt {0}) | false ↦ o.differ T U ]) b left h

  pub written_yes : (same : Bool) → same ≡ true → ComesTo {F = Fault} (λ n. conv (rules_of E) G n T U) b (done same left) → ComesTo (λ n. matching_by o E n G T U) b (done (tt {0}) left)
  unfolding matching_by
  written_yes true e h =
      goes_then (λ n. conv (rules_of E) G n T U) (λ same n. elim same [ true ↦ gives (tt {0}) | false ↦ o.differ T U ]) b true left h _ (comes_gives (λ n. gives (tt {0})) (tt {0}) left (λ n. refl))
  written_yes false e h = absurd cc

  pub written_no : (m : Open) (V W : Tree) (k : KernelFault) (same : Bool) → same ≡ false → m ≡ o → V ≡ T → W ≡ U → ComesTo {F = Fault} (λ n. conv (rules_of E) G n T U) b (done same left) → Refuses bank k (λ n. m.differ V W) left left
      → Refuses bank k (λ n. matching_by o E n G T U) b left
  unfolding matching_by
  written_no m V W k false e same v w h r =
      refuses_goes bank k (λ n. matching_by o E n G T U) b (λ n. o.differ T U) left left
      (goes_then (λ n. conv (rules_of E) G n T U) (λ same n. elim same [ true ↦ gives (tt {0}) | false ↦ o.differ T U ]) b false left h)
      (subst (λ (z : Open). Refuses bank k (λ n. z.differ T U) left left) same (subst (λ y. Refuses bank k (λ n. m.differ T y) left left) w (subst (λ x. Refuses bank k (λ n. m.differ x W) left left) v r)))
  written_no m V W k true e same v w h r = absurd cc

-- a form that must be a sort, or a product
pub as_sort_not : (t : Tree) → ((s : Universe) → ¬ (t ≡ Sort s)) → as_sort t ≡ fails (not_a_sort t)
unfolding as_sort
as_sort_not (Sort s) h = absurd (h s refl)
as_sort_not _ h = refl

pub as_product_not : (t : Tree) → ((x : Name) (A B : Tree) → ¬ (t ≡ Prod x A B)) → as_product t ≡ fails (not_a_product t)
unfolding as_product
as_product_not (Prod x A B) h = absurd (h x A B refl)
as_product_not _ h = refl

pub sort_sorts : (bank : Terms) (r : Result Universe KernelFault) (t : TermId) (b : ℕ) → HasTerm bank t → IsSortOr bank r t → Sorts bank r (λ n. as_sort (tree_of bank t)) b b
unfolding as_sort
sort_sorts bank (Ok s) t b has h = comes_gives (λ n. as_sort (tree_of bank t)) s b (λ n. ap as_sort h)
sort_sorts bank (Err e) t b has h =
    subst (λ z. Refuses bank z (λ n. as_sort (tree_of bank t)) b b) (sym h.0) (has, comes_fails (λ n. as_sort (tree_of bank t)) (not_a_sort (tree_of bank t)) b (λ n. as_sort_not (tree_of bank t) h.1))

pub product_products : (bank : Terms) (r : Result (TermId × TermId) KernelFault) (t : TermId) (b : ℕ) → HasTerm bank t → Within 0 (tree_of bank t) → IsProductOr bank r t → Products bank r (λ n. as_product (tree_of bank t)) b b
unfolding as_product
product_products bank (Ok p) t b has w h =
    let parts : Within 0 (Prod h.binder (tree_of bank p.0) (tree_of bank p.1)) = subst (Within 0) h.is w in (
      record { domain = record { has = h.domain; within = parts.0 }; rest = record { has = h.rest; within = parts.1 } },
      comes_gives (λ n. as_product (tree_of bank t)) (tree_of bank p.0, tree_of bank p.1) b (λ n. ap as_product h.is),
    )
product_products bank (Err e) t b has w h =
    subst (λ z. Refuses bank z (λ n. as_product (tree_of bank t)) b b) (sym h.0) (has, comes_fails (λ n. as_product (tree_of bank t)) (not_a_product (tree_of bank t)) b (λ n. as_product_not (tree_of bank t) h.1))

-- the close of a type within the limits is within them, so that it is refused for want of memory alone
pub close_stops :
    (bank : Terms) (r : Result TermId KernelFault) (e : SizeFault) (y : Name) (body tree : Tree) → IsErrAnd r (λ z. z ≡ limit_fault e) → fit body ≡ Fit.Fits → Changed bank (Err e) (close y body)
    → Fitted bank r tree
close_stops bank r SizeFault.NoMemory y body tree i f h = err_out (λ z. Fitted bank z tree) r KernelFault.NoMemory i tt
close_stops bank r SizeFault.TooLarge y body tree i f h = let k = fit-close y body in absurd cc
close_stops bank r SizeFault.TooDeep y body tree i f h = let k = fit-close y body in absurd cc

-- a change that may pass the limits
pub fitted_err : (bank : Terms) (r : Result TermId KernelFault) (e : SizeFault) (tree : Tree) → IsErrAnd r (λ z. z ≡ limit_fault e) → Changed bank (Err e) tree → Fitted bank r tree
fitted_err bank r SizeFault.NoMemory tree i h = err_out (λ z. Fitted bank z tree) r KernelFault.NoMemory i tt
fitted_err bank r SizeFault.TooLarge tree i h = err_out (λ z. Fitted bank z tree) r KernelFault.TooLarge i h
fitted_err bank r SizeFault.TooDeep tree i h = err_out (λ z. Fitted bank z tree) r KernelFault.TooDeep i h
