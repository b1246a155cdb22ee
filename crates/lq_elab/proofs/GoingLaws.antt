-- Each step of elaboration leads to the work that is left, so that a loop over what waits ends in what the recursion finds.
use Rattle.std.proofs.Common.{◌≡◌, ◌<◌, ◌+◌, ℕ, zero, suc, refl, ◌∙◌, ap, List, [], ◌∷◌, length, Option, None, Some}
use Rattle.std.proofs.Common.{subst as along}
use Rattle.std.proofs.Math.Path.{fun_ext}
use Rattle.lq_trees.specs.declared.Sort.{Sort as Universe}
use Rattle.lq_trees.specs.Tree.{Name, Tree}
use Rattle.lq_trees.specs.Fresh.{fresh, under, under_let}
use Rattle.lq_trees.specs.Ticks.{fails, tick, ◌>>=◌, Outcome, done, failed, steps_out, within, ComesTo}
use Rattle.lq_trees.proofs.TickLaws.{bind_bind}
use Rattle.lq_trees.proofs.Outcomes.{comes_gives, comes_then, comes_failed, comes_spent}
use Rattle.lq_ast.specs.Syntax.{Surface, Forall, Fun, LetIn, Arrow, Cast, Written, Missing, applied}
use Rattle.lq_solving.specs.Stores.{Store}
use Rattle.lq_solving.specs.ElabFaults.{ElabFault, Elab, cannot_infer}
use Rattle.lq_solving.specs.Elaboration.{Site, Found, found_sort, form_of, product_form, bind, against, wanted_product, domain_agrees, rest_wanted}
use Rattle.lq_solving.specs.Elaboration.{function_found, elaborate, domain_found}
use Rattle.lq_solving.proofs.ElabSettled.{at}
use Rattle.lq_elab.specs.Arguments.{ticks, with_argument, with_arguments}
use Rattle.lq_elab.specs.Waiting.{Spot, below, below_let, Part, product_domain, product_rest, function_domain, function_rest, definition_kind, definition_value}
use Rattle.lq_elab.specs.Waiting.{definition_rest, applied_function, applied_argument, cast_kind, cast_term, Waiting, waiting, kind_or, left_wanted, product_of}
use Rattle.lq_elab.specs.Waiting.{function_of, application_of, with_more, resumed, go_on, found_work, asked_work, Leads}
use Rattle.lq_elab.proofs.ArgumentLaws.{comes_ticks, lacks_ticks, several_arguments}

-- one work, and then what is the same for each answer
pub same_then : {A B : Type 0} (x : Elab A) (k l : A → Elab B) → ((a : A) → k a ≡ l a) → (x >>= k) ≡ (x >>= l)
same_then x k l e = ap (λ f. x >>= f) (fun_ext e)

-- work that is the same for each bound
pub comes_same : {A : Type 0} (f g : ℕ → Elab A) (b : ℕ) (r : Outcome ElabFault A) → ((n : ℕ) → f n ≡ g n) → ComesTo g b r → ComesTo f b r
comes_same f g b r e h = λ n i. ap (within b) (e n) ∙ h n i

pub leads_itself : (f : ℕ → Elab Found) (b : ℕ) → Leads f f b b
leads_itself f b = λ o h. h

pub leads_same : (f g h : ℕ → Elab Found) (b l : ℕ) → ((n : ℕ) → g n ≡ h n) → Leads f g b l → Leads f h b l
leads_same f g h b l e k = λ o m. k o (comes_same g h l o e m)

-- a part is done, is refused, or lacks a tick
pub leads_done : {A : Type 0} (f : ℕ → Elab Found) (x : ℕ → Elab A) (k : A → ℕ → Elab Found) (b l m : ℕ) (a : A) → Leads f (λ n. x n >>= (λ z. k z n)) b l → ComesTo x l (done a m) → Leads f (k a) b m
leads_done f x k b l m a h c = λ o d. h o (comes_then x k l a m o c d)

pub leads_failed : {A : Type 0} (f : ℕ → Elab Found) (x : ℕ → Elab A) (k : A → ℕ → Elab Found) (b l m : ℕ) (y : ElabFault) → Leads f (λ n. x n >>= (λ z. k z n)) b l → ComesTo x l (failed y m) → ComesTo f b (failed y m)
leads_failed f x k b l m y h c = h (failed y m) (comes_failed x k l y m c)

pub leads_spent : {A : Type 0} (f : ℕ → Elab Found) (x : ℕ → Elab A) (k : A → ℕ → Elab Found) (b l : ℕ) → Leads f (λ n. x n >>= (λ z. k z n)) b l → ComesTo x l steps_out → ComesTo f b steps_out
leads_spent f x k b l h c = h steps_out (comes_spent x k l c)

-- a tick is paid, or is not there; several
pub leads_paid : (f g : ℕ → Elab Found) (b k l m : ℕ) → k + m ≡ l → Leads f (λ n. ticks k (g n)) b l → Leads f g b m
leads_paid f g b k l m e h = λ o c. h o (along (λ z. ComesTo (λ n. ticks k (g n)) z o) e (comes_ticks k m g o c))

pub leads_lacks : (f g : ℕ → Elab Found) (b k l : ℕ) → l < k → Leads f (λ n. ticks k (g n)) b l → ComesTo f b steps_out
leads_lacks f g b k l i h = h steps_out (lacks_ticks k l i g)

ticks_then : {A B : Type 0} (k : ℕ) (r : Elab A) (g : A → Elab B) → (ticks k r >>= g) ≡ ticks k (r >>= g)
unfolding ticks ◌>>=◌
ticks_then zero r g = refl
ticks_then (suc k) r g = ap tick (ticks_then k r g)

-- the whole was elaborated
pub leads_ends : (e : Site) (f : ℕ → Elab Found) (b l : ℕ) (x : Found) → Leads f (found_work e [] x) b l → ComesTo f b (done x l)
unfolding go_on
leads_ends e f b l x h = h (done x l) (comes_gives (found_work e [] x) x l (λ n. refl))

-- ---- the steps: what waits goes on behind a part of its work

module _ (e : Site) (vs : List Waiting) (l : Spot) (w : Option Tree) where
  -- behind a bind of what waits
  behind : {A : Type 0} (n : ℕ) (p : Part) (h : Found) (x : Elab A) (k : A → Elab Found) → resumed (at n e) l w p h ≡ (x >>= k) →
      found_work e (waiting l w p ∷ vs) h n ≡ (x >>= (λ a. k a >>= go_on (at n e) vs))
  unfolding go_on
  behind n p h x k q = ap (λ z. z >>= go_on (at n e) vs) q ∙ bind_bind x k (go_on (at n e) vs)

  -- what was found is held against the type that is wanted of it
  pub agrees_work : (x y : Found) (p : Part) (v : Option Tree) (n : ℕ) → resumed (at n e) l w p x ≡ against (at n e) l.context v y →
      found_work e (waiting l w p ∷ vs) x n ≡ (against (at n e) l.context v y >>= (λ z. found_work e vs z n))
  unfolding go_on
  agrees_work x y p v n q = ap (λ z. z >>= go_on (at n e) vs) q

  -- a product
  pub product_domain_work : (x : Name) (B : Surface) (f : Found) (n : ℕ) →
      found_work e (waiting l w (product_domain x B) ∷ vs) f n
      ≡ (found_sort (at n e) l.context f
      >>= (λ s. asked_work e (waiting l w (product_rest x (fresh l.context x) f.term s) ∷ vs) (below l x (fresh l.context x) f.term) f.store B None n))
  unfolding resumed go_on
  product_domain_work x B f n =
      behind n (product_domain x B) f (found_sort (at n e) l.context f) _ refl
      ∙ same_then (found_sort (at n e) l.context f) _ _ (λ s. bind_bind (elaborate (at n e) (bind x (fresh l.context x) l.binders) (under l.context (fresh l.context x) f.term) f.store B None) _ (go_on (at n e) vs))

  pub product_rest_work : (x y : Name) (A : Tree) (s : Universe) (h : Found) (n : ℕ) →
      found_work e (waiting l w (product_rest x y A s) ∷ vs) h n
      ≡ (found_sort (at n e) (under l.context y A) h >>= (λ s2. against (at n e) l.context w (product_of x y A s s2 h) >>= (λ z. found_work e vs z n)))
  unfolding resumed go_on
  product_rest_work x y A s h n = behind n (product_rest x y A s) h (found_sort (at n e) (under l.context y A) h) _ refl

  -- a function
  rest_agrees : (x y : Name) (A : Tree) (p : Option (Tree × Tree)) (n : ℕ) (h : Found) →
      (function_found (at n e) l.context w p (function_of x y A h) >>= go_on (at n e) vs) ≡ found_work e (waiting l (left_wanted w p) (function_rest x y A) ∷ vs) h n
  unfolding resumed go_on function_found left_wanted
  rest_agrees x y A None n h = refl
  rest_agrees x y A (Some p) n h = refl

  pub function_domain_work : (x : Name) (t : Surface) (p : Option (Tree × Tree)) (f : Found) (n : ℕ) →
      found_work e (waiting l w (function_domain x t p) ∷ vs) f n
      ≡ (found_sort (at n e) l.context f >>= (λ s. domain_agrees (at n e) l.context f p
      >>= (λ s2. asked_work e (waiting l (left_wanted w p) (function_rest x (fresh l.context x) f.term) ∷ vs) (below l x (fresh l.context x) f.term) s2 t (rest_wanted (fresh l.context x) p) n)))
  unfolding resumed go_on
  function_domain_work x t p f n =
      behind n (function_domain x t p) f (found_sort (at n e) l.context f) _ refl
      ∙ same_then (found_sort (at n e) l.context f) _ _ (λ s.
      bind_bind (domain_agrees (at n e) l.context f p) _ (go_on (at n e) vs)
      ∙ same_then (domain_agrees (at n e) l.context f p) _ _ (λ s2.
      bind_bind (elaborate (at n e) (bind x (fresh l.context x) l.binders) (under l.context (fresh l.context x) f.term) s2 t (rest_wanted (fresh l.context x) p)) _ (go_on (at n e) vs)
      ∙ same_then (elaborate (at n e) (bind x (fresh l.context x) l.binders) (under l.context (fresh l.context x) f.term) s2 t (rest_wanted (fresh l.context x) p)) _ _
      (λ h. rest_agrees x (fresh l.context x) f.term p n h)))

  -- a local definition
  pub definition_kind_work : (x : Name) (v t : Surface) (f : Found) (n : ℕ) →
      found_work e (waiting l w (definition_kind x v t) ∷ vs) f n
      ≡ (found_sort (at n e) l.context f >>= (λ s. asked_work e (waiting l w (definition_value x (Some f.term) t) ∷ vs) l f.store v (Some f.term) n))
  unfolding resumed go_on kind_or
  definition_kind_work x v t f n =
      behind n (definition_kind x v t) f (found_sort (at n e) l.context f) _ refl
      ∙ same_then (found_sort (at n e) l.context f) _ _ (λ s. bind_bind (elaborate (at n e) l.binders l.context f.store v (Some f.term)) _ (go_on (at n e) vs))

  pub definition_value_work : (x : Name) (A : Option Tree) (t : Surface) (k : Found) (n : ℕ) →
      found_work e (waiting l w (definition_value x A t) ∷ vs) k n
      ≡ asked_work e (waiting l w (definition_rest x (fresh l.context x) k.term (kind_or A k)) ∷ vs) (below_let l x (fresh l.context x) k.term (kind_or A k)) k.store t None n
  unfolding resumed go_on
  definition_value_work x A t k n =
      bind_bind (elaborate (at n e) (bind x (fresh l.context x) l.binders) (under_let l.context (fresh l.context x) k.term (kind_or A k)) k.store t None) _ (go_on (at n e) vs)

  -- an application
  argument_work : (a : Surface) (as_ : List Surface) (f : Found) (n : ℕ) →
      with_arguments (at n e) l.binders l.context a as_ w f
      ≡ (form_of (at n e) l.context f.store f.kind >>= product_form >>= (λ p. elaborate (at n e) l.binders l.context f.store a (Some p.0)
      >>= (λ h. with_more (at n e) l as_ w (application_of f.term p.1 h))))
  unfolding with_arguments with_argument with_more ◌>>=◌
  argument_work a [] f n =
      bind_bind (form_of (at n e) l.context f.store f.kind >>= product_form) _ (against (at n e) l.context w)
      ∙ same_then (form_of (at n e) l.context f.store f.kind >>= product_form) _ _ (λ p. bind_bind (elaborate (at n e) l.binders l.context f.store a (Some p.0)) _ (against (at n e) l.context w))
  argument_work a (c ∷ cs) f n =
      ap (λ z. z >>= with_arguments (at n e) l.binders l.context c cs w) (
      bind_bind (form_of (at n e) l.context f.store f.kind >>= product_form) _ (against (at n e) l.context None)
      ∙ same_then (form_of (at n e) l.context f.store f.kind >>= product_form) _ _ (λ p. bind_bind (elaborate (at n e) l.binders l.context f.store a (Some p.0)) _ (against (at n e) l.context None)))
      ∙ bind_bind (form_of (at n e) l.context f.store f.kind >>= product_form) _ (with_arguments (at n e) l.binders l.context c cs w)
      ∙ same_then (form_of (at n e) l.context f.store f.kind >>= product_form) _ _ (λ p. bind_bind (elaborate (at n e) l.binders l.context f.store a (Some p.0)) _ (with_arguments (at n e) l.binders l.context c cs w))

  pub function_work : (a : Surface) (as_ : List Surface) (f : Found) (n : ℕ) →
      found_work e (waiting l w (applied_function a as_) ∷ vs) f n
      ≡ (form_of (at n e) l.context f.store f.kind >>= product_form
      >>= (λ p. asked_work e (waiting l w (applied_argument f.term p.1 as_) ∷ vs) l f.store a (Some p.0) n))
  unfolding resumed go_on
  function_work a as_ f n =
      behind n (applied_function a as_) f (form_of (at n e) l.context f.store f.kind >>= product_form) _ (argument_work a as_ f n)
      ∙ same_then (form_of (at n e) l.context f.store f.kind >>= product_form) _ _ (λ p. bind_bind (elaborate (at n e) l.binders l.context f.store a (Some p.0)) _ (go_on (at n e) vs))

  pub last_argument_work : (f B : Tree) (h : Found) (n : ℕ) →
      found_work e (waiting l w (applied_argument f B []) ∷ vs) h n ≡ (against (at n e) l.context w (application_of f B h) >>= (λ z. found_work e vs z n))
  unfolding resumed go_on with_more
  last_argument_work f B h n = refl

  pub more_arguments_work : (f B : Tree) (c : Surface) (cs : List Surface) (h : Found) (n : ℕ) →
      found_work e (waiting l w (applied_argument f B (c ∷ cs)) ∷ vs) h n
      ≡ (against (at n e) l.context None (application_of f B h) >>= (λ z. found_work e (waiting l w (applied_function c cs) ∷ vs) z n))
  unfolding resumed go_on with_more
  more_arguments_work f B c cs h n = bind_bind (against (at n e) l.context None (application_of f B h)) _ (go_on (at n e) vs)

  -- a cast
  pub cast_kind_work : (t : Surface) (f : Found) (n : ℕ) →
      found_work e (waiting l w (cast_kind t) ∷ vs) f n
      ≡ (found_sort (at n e) l.context f >>= (λ s. asked_work e (waiting l w (cast_term f.term) ∷ vs) l f.store t (Some f.term) n))
  unfolding resumed go_on
  cast_kind_work t f n =
      behind n (cast_kind t) f (found_sort (at n e) l.context f) _ refl
      ∙ same_then (found_sort (at n e) l.context f) _ _ (λ s. bind_bind (elaborate (at n e) l.binders l.context f.store t (Some f.term)) _ (go_on (at n e) vs))

  -- ---- a term: its tick, and the part that comes first

  pub product_asked : (s : Store) (x : Name) (A B : Surface) (n : ℕ) →
      asked_work e vs l s (Forall x (Written A) B) w n ≡ ticks 1 (asked_work e (waiting l w (product_domain x B) ∷ vs) l s A None n)
  unfolding elaborate domain_found resumed go_on ticks ◌>>=◌
  product_asked s x A B n = ap tick (bind_bind (elaborate (at n e) l.binders l.context s A None) _ (go_on (at n e) vs))

  pub arrow_asked : (s : Store) (A B : Surface) (n : ℕ) → asked_work e vs l s (Arrow A B) w n ≡ ticks 1 (asked_work e (waiting l w (product_domain [] B) ∷ vs) l s A None n)
  unfolding elaborate resumed go_on ticks bind ◌>>=◌
  arrow_asked s A B n = ap tick (bind_bind (elaborate (at n e) l.binders l.context s A None) _ (go_on (at n e) vs))

  pub bare_product_asked : (s : Store) (x : Name) (p : ℕ) (B : Surface) (n : ℕ) →
      asked_work e vs l s (Forall x (Missing p) B) w n ≡ ticks 1 (fails (cannot_infer p))
  unfolding elaborate domain_found ticks ◌>>=◌
  bare_product_asked s x p B n = refl

  pub function_asked : (s : Store) (x : Name) (A t : Surface) (n : ℕ) →
      asked_work e vs l s (Fun x (Written A) t) w n
      ≡ ticks 1 (wanted_product (at n e) l.context s w >>= (λ p. asked_work e (waiting l w (function_domain x t p) ∷ vs) l s A None n))
  unfolding elaborate resumed go_on ticks ◌>>=◌
  function_asked s x A t n =
      ap tick (bind_bind (wanted_product (at n e) l.context s w) _ (go_on (at n e) vs)
      ∙ same_then (wanted_product (at n e) l.context s w) _ _ (λ p. bind_bind (elaborate (at n e) l.binders l.context s A None) _ (go_on (at n e) vs)))

  pub definition_asked : (s : Store) (x : Name) (A v t : Surface) (n : ℕ) →
      asked_work e vs l s (LetIn x (Written A) v t) w n ≡ ticks 1 (asked_work e (waiting l w (definition_kind x v t) ∷ vs) l s A None n)
  unfolding elaborate resumed go_on ticks ◌>>=◌
  definition_asked s x A v t n = ap tick (bind_bind (elaborate (at n e) l.binders l.context s A None) _ (go_on (at n e) vs))

  pub bare_definition_asked : (s : Store) (x : Name) (p : ℕ) (v t : Surface) (n : ℕ) →
      asked_work e vs l s (LetIn x (Missing p) v t) w n ≡ ticks 1 (asked_work e (waiting l w (definition_value x None t) ∷ vs) l s v None n)
  unfolding elaborate resumed go_on kind_or ticks ◌>>=◌
  bare_definition_asked s x p v t n = ap tick (bind_bind (elaborate (at n e) l.binders l.context s v None) _ (go_on (at n e) vs))

  pub application_asked : (s : Store) (t a : Surface) (as_ : List Surface) (n : ℕ) →
      asked_work e vs l s (applied t (a ∷ as_)) w n ≡ ticks (suc (length as_)) (asked_work e (waiting l w (applied_function a as_) ∷ vs) l s t None n)
  unfolding resumed go_on
  application_asked s t a as_ n =
      ap (λ z. z >>= go_on (at n e) vs) (several_arguments (at n e) l.binders l.context s t a as_ w)
      ∙ ticks_then (suc (length as_)) _ _
      ∙ ap (ticks (suc (length as_))) (bind_bind (elaborate (at n e) l.binders l.context s t None) _ (go_on (at n e) vs))

  pub cast_asked : (s : Store) (t A : Surface) (n : ℕ) →
      asked_work e vs l s (Cast t A) w n ≡ ticks 1 (asked_work e (waiting l w (cast_kind t) ∷ vs) l s A None n)
  unfolding elaborate resumed go_on ticks ◌>>=◌
  cast_asked s t A n = ap tick (bind_bind (elaborate (at n e) l.binders l.context s A None) _ (go_on (at n e) vs))
