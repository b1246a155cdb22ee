-- What a store and a context tell reduction, and what its answers tell.
use Rattle.std.proofs.Common.{◌≡◌, ◌∙◌, ℕ, suc, sym, ap, arith, List, Bool, Result, Ok, Err}
use Rattle.std.proofs.Common.{subst as along}
use Rattle.lq_trees.specs.declared.Sort.{Sort as Universe}
use Rattle.lq_trees.specs.Tree.{Name, Tree, Context}
use Rattle.lq_trees.specs.Tree.Tree.{Prod}
use Rattle.lq_trees.specs.Rules.{Rules}
use Rattle.lq_trees.specs.Ticks.{◌>>=◌, done, ComesTo}
use Rattle.lq_trees.specs.Reading.{Reads, ReadsContext, ReadsRules}
use Rattle.lq_calculus.specs.Contraction.{whnf}
use Rattle.lq_calculus.specs.Declarations.{Env as Environment, rules_of}
use Rattle.lq_calculus.specs.Checking.{KernelFault as Fault, conv, as_sort, as_product, needed_form}
use Rattle.lq_calculus.proofs.ConvSound.{done_gives}
use Rattle.lq_terms.specs.declared.nodes.Hypothesis.{Hypothesis}
use Rattle.lq_terms.specs.declared.nodes.NameId.{NameId}
use Rattle.lq_terms.specs.declared.nodes.TermId.{TermId}
use Rattle.lq_terms.specs.Terms.{Terms, HasTerm, tree_of}
use Rattle.lq_terms.specs.Contexts.{context_of}
use Rattle.lq_terms.specs.Telling.{Tells, values_in}
use Rattle.lq_env.specs.declared.environment.Declared.{Declared}
use Rattle.lq_env.specs.Environments.{env_of, telling}
use Rattle.lq_reduce.specs.declared.faults.ReduceFault.{ReduceFault}
use Rattle.lq_reduce.specs.Answers.{Reduces, Compares}
use Rattle.lq_solving.specs.Stores.{Store, names_in, read, read_context, values_of}
use Rattle.lq_solving.specs.Kept.{IsOver, IsContext, IsStore, StandsIn}
use Rattle.lq_solving.specs.Claims.{ArePlainRules}
use Rattle.lq_solving.proofs.Readings.{reads_read}
use Rattle.lq_solving.proofs.ReadingRules.{plain_rules}
use Rattle.lq_solving.proofs.Good.{IsGood, form_good, good_done}
use Rattle.lq_solving.proofs.DoneLaws.{done_reads}
use Rattle.lq_solving.proofs.Later.{reads_prod, good_read, good_stands, bodies_good}
use Rattle.lq_solving.proofs.UnifyProved.{bodies_stand}
use Rattle.lq_evars.specs.Places.{Places, store_of, body_at}
use Rattle.lq_kernel.specs.declared.faults.KernelFault.{KernelFault}
use Rattle.lq_kernel.specs.Answers.{Refuses}
use Rattle.lq_kernel.specs.Steps.{Sorts, IsSortOr, IsProductOr, reduce_fault}
use Rattle.lq_kernel.proofs.Goes.{goes_then, refuses_first, sorts_goes, products_goes}
use Rattle.lq_kernel.proofs.FormLaws.{form_ok, form_err, sort_sorts, product_products}
use Rattle.lq_unify.proofs.OneForm.{values_are, context_read}
use Rattle.lq_typing.specs.Sites.{IsSite}
use Rattle.lq_typing.specs.Kinds.{IsKind, Kinds, Splits}
use Rattle.lq_typing.proofs.StandingLaws.{product_parts}

-- the weak head form of a type as read is one
pub form_kind : (old new : Terms) (s : Store) → IsStore s → (E : Environment) → ArePlainRules (rules_of E) → (g : Context) → IsContext s g → (t u : TermId) → IsKind old s g t → HasTerm new u → (b left : ℕ) →
    ComesTo {F = Fault} (λ n. whnf (rules_of E) (read_context s g) n (tree_of old t)) b (done (tree_of new u) left) → IsKind new s g u
unfolding read
form_kind old new s i E plain g c t u k has b left h = record {
  has = has;
  stands = good_stands s i s.values (names_in g) (tree_of new u) good;
  reads = done_reads s.variables s.values (tree_of new u) (good_done s.variables s.values (names_in g) 0 (tree_of new u) good);
}
  where
    start : IsGood s.variables s.values (names_in g) 0 (tree_of old t)
    start = along (IsGood s.variables s.values (names_in g) 0) k.reads (good_read s i (names_in g) (tree_of old t) k.stands)

    good : IsGood s.variables s.values (names_in g) 0 (tree_of new u)
    good =
        form_good s.variables s.values (names_in g) Fault (rules_of E) plain (read_context s g) (bodies_good (rules_of E) s i g (bodies_stand s g c)) (suc b) (tree_of old t) (tree_of new u) start
        (done_gives b (whnf (rules_of E) (read_context s g) (suc b) (tree_of old t)) (tree_of new u) left (h (suc b) (omega arith)))

module _ (bank : Terms) (ds : List (NameId × Declared)) (p : Places) (hs : List Hypothesis) (site : IsSite bank ds p hs) (told : (k : ℕ) → values_in bank (body_at p) k ≡ values_of (store_of bank p) k)
    (tells : Tells bank (telling ds) (rules_of (env_of bank ds))) (t : TermId) (k : IsKind bank (store_of bank p) (context_of bank hs) t) where
  -- the environment, the store and the context over trees, the context as read
  abbrev E : Environment
  E = env_of bank ds

  abbrev s : Store
  s = store_of bank p

  abbrev g : Context
  g = context_of bank hs

  abbrev G : Context
  G = read_context s g

  context_told : ReadsContext (values_in bank (body_at p)) g G
  context_told = context_read bank p hs t site.lent.kept site.context k.stands told

  reads_told : (T : Tree) → IsOver s.variables T → Reads (values_in bank (body_at p)) T (read s T)
  reads_told T o = along (λ vs. Reads vs T (read s T)) (sym (values_are bank p told)) (reads_read s site.lent.kept T o)

  kind_told : Reads (values_in bank (body_at p)) (tree_of bank t) (tree_of bank t)
  kind_told = along (Reads (values_in bank (body_at p)) (tree_of bank t)) k.reads (reads_told (tree_of bank t) k.stands.over)

  rules_told : ReadsRules (values_in bank (body_at p)) (rules_of E) (rules_of E)
  rules_told = plain_rules (values_in bank (body_at p)) (rules_of E) site.lent.plain.rules

  -- ---- a weak head form

  module _ (new : Terms) (b left : ℕ) where
    module _ (q : Result TermId ReduceFault)
        (answer : (x r : Rules) (h : Context) (T : Tree) → Tells bank (telling ds) x → ReadsRules (values_in bank (body_at p)) x r → ReadsContext (values_in bank (body_at p)) g h → Reads (values_in bank (body_at p)) (tree_of bank t) T →
        Reduces {F = Fault} new q (λ n. whnf r h n T) b left) where
      reduced : Reduces {F = Fault} new q (λ n. whnf (rules_of E) G n (tree_of bank t)) b left
      reduced = answer (rules_of E) (rules_of E) G (tree_of bank t) tells rules_told context_told kind_told

    pub head_kind : (u : TermId) → Reduces {F = Fault} new (Ok u) (λ n. whnf (rules_of E) G n (tree_of bank t)) b left → IsKind new s g u
    head_kind u h = form_kind bank new s site.lent.kept E site.lent.plain.rules g site.context t u k h.0 b left h.2

    pub head_comes : (u : TermId) → (h : Reduces {F = Fault} new (Ok u) (λ n. whnf (rules_of E) G n (tree_of bank t)) b left) → Kinds new (Ok u) s g (λ n. needed_form E n G (tree_of bank t)) b left
    head_comes u h = let c = head_kind u h in (c, h.1, (form_ok E G (tree_of bank t) new b left u h c.stands.within).1)

    pub head_ok : (u : TermId)
        (answer : (x r : Rules) (h : Context) (T : Tree) → Tells bank (telling ds) x → ReadsRules (values_in bank (body_at p)) x r → ReadsContext (values_in bank (body_at p)) g h → Reads (values_in bank (body_at p)) (tree_of bank t) T →
        Reduces {F = Fault} new (Ok u) (λ n. whnf r h n T) b left) → Kinds new (Ok u) s g (λ n. needed_form E n G (tree_of bank t)) b left
    head_ok u answer = head_comes u (reduced (Ok u) answer)

    pub head_err : (f : ReduceFault) (e : KernelFault) → e ≡ reduce_fault f →
        (answer : (x r : Rules) (h : Context) (T : Tree) → Tells bank (telling ds) x → ReadsRules (values_in bank (body_at p)) x r → ReadsContext (values_in bank (body_at p)) g h → Reads (values_in bank (body_at p)) (tree_of bank t) T →
        Reduces {F = Fault} new (Err f) (λ n. whnf r h n T) b left) → Refuses new e (λ n. needed_form E n G (tree_of bank t)) b left
    head_err f e q answer = form_err E G (tree_of bank t) new b left f e q (reduced (Err f) answer)

    -- ---- a comparison

    module _ (w : TermId) (stands : StandsIn s g (tree_of bank w)) (q : Result Bool ReduceFault)
        (answer : (x r : Rules) (h : Context) (T U : Tree) → Tells bank (telling ds) x → ReadsRules (values_in bank (body_at p)) x r → ReadsContext (values_in bank (body_at p)) g h → Reads (values_in bank (body_at p)) (tree_of bank t) T →
        Reads (values_in bank (body_at p)) (tree_of bank w) U → Compares {F = Fault} q (λ n. conv r h n T U) b left) where
      pub compared : Compares {F = Fault} q (λ n. conv (rules_of E) G n (tree_of bank t) (read s (tree_of bank w))) b left
      compared = answer (rules_of E) (rules_of E) G (tree_of bank t) (read s (tree_of bank w)) tells rules_told context_told kind_told (reads_told (tree_of bank w) stands.over)

-- ---- forms that must be a sort, or a product

reads_prod_read : (s : Store) (x : Name) (A B : Tree) → read s (Prod x A B) ≡ Prod x (read s A) (read s B)
unfolding read
reads_prod_read s x A B = reads_prod s.variables s.values x A B

-- the parts of a product
domain_of : Tree → Tree
domain_of (Prod x A B) = A
domain_of t = t

rest_of : Tree → Tree
rest_of (Prod x A B) = B
rest_of t = t

module _ (E : Environment) (G : Context) (T : Tree) (s : Store) (g : Context) (bank : Terms) (b left : ℕ) where
  pub sort_refused : (e : KernelFault) → Refuses bank e (λ n. needed_form E n G T) b left → Refuses bank e (λ n. needed_form E n G T >>= as_sort) b left
  sort_refused e h = refuses_first bank e (λ n. needed_form E n G T) (λ u n. as_sort u) b left h

  pub product_refused : (e : KernelFault) → Refuses bank e (λ n. needed_form E n G T) b left → Refuses bank e (λ n. needed_form E n G T >>= as_product) b left
  product_refused e h = refuses_first bank e (λ n. needed_form E n G T) (λ u n. as_product u) b left h

  module _ (u : TermId) (h : Kinds bank (Ok u) s g (λ n. needed_form E n G T) b left) where
    pub sort_answers : (r : Result Universe KernelFault) → IsSortOr bank r u → Sorts bank r (λ n. needed_form E n G T >>= as_sort) b left
    sort_answers r is = sorts_goes bank r (λ n. needed_form E n G T >>= as_sort) b (λ n. as_sort (tree_of bank u)) left left
        (goes_then (λ n. needed_form E n G T) (λ z n. as_sort z) b (tree_of bank u) left h.2) (sort_sorts bank r u left h.0.has is)

    pub product_answers : (r : Result (TermId × TermId) KernelFault) → IsProductOr bank r u → Splits bank r s g (λ n. needed_form E n G T >>= as_product) b left
    unfolding domain_of rest_of
    product_answers (Ok q) is =
        let k = products_goes bank (Ok q) (λ n. needed_form E n G T >>= as_product) b (λ n. as_product (tree_of bank u)) left left
        (goes_then (λ n. needed_form E n G T) (λ z n. as_product z) b (tree_of bank u) left h.2) (product_products bank (Ok q) u left h.0.has h.0.stands.within is) in
        let parts = product_parts s g is.binder (tree_of bank q.0) (tree_of bank q.1) (along (StandsIn s g) is.is h.0.stands) in
        let reads : Prod is.binder (read s (tree_of bank q.0)) (read s (tree_of bank q.1)) ≡ Prod is.binder (tree_of bank q.0) (tree_of bank q.1) =
        sym (reads_prod_read s is.binder (tree_of bank q.0) (tree_of bank q.1)) ∙ ap (read s) (sym is.is) ∙ h.0.reads ∙ is.is in
        (record { has = is.domain; stands = parts.0; reads = ap domain_of reads }, record { has = is.rest; stands = parts.1; reads = ap rest_of reads }, k.1)
    product_answers (Err e) is =
        products_goes bank (Err e) (λ n. needed_form E n G T >>= as_product) b (λ n. as_product (tree_of bank u)) left left
        (goes_then (λ n. needed_form E n G T) (λ z n. as_product z) b (tree_of bank u) left h.2) (product_products bank (Err e) u left h.0.has h.0.stands.within is)
