-- Each step of inference leads to the work that is left, so that a loop over what waits ends in the type that the recursion finds.
use Rattle.std.proofs.Common.{◌≡◌, ◌<◌, ℕ, zero, suc, refl, sym, ◌∙◌, ap, arith, le_refl, List, [], ◌∷◌, ◌++◌}
use Rattle.lq_trees.specs.declared.Sort.{Sort as Universe}
use Rattle.lq_trees.specs.Tree.{Name, Tree, Hypothesis, Context}
use Rattle.lq_trees.specs.Tree.Tree.{Prod, Lam, Let, App}
use Rattle.lq_trees.specs.Fresh.{fresh, opened, under, under_let}
use Rattle.lq_trees.specs.Ticks.{tick, ◌>>=◌, Outcome, done, failed, steps_out, within, Agree, ComesTo}
use Rattle.lq_trees.proofs.TickLaws.{agree_refl, agree_bind, agree_within, bind_bind, bind_gives}
use Rattle.lq_trees.proofs.Outcomes.{comes_gives, comes_then, comes_failed, comes_spent}
use Rattle.lq_calculus.specs.Declarations.{Env}
use Rattle.lq_calculus.specs.Checking.{KernelFault, Kernel, as_sort, as_product, needed_form}
use Rattle.lq_calculus.proofs.Settled.{form_agree, matching_agree}
use Rattle.lq_inference.specs.Inference.{Open, matching_by, infer_by}
use Rattle.lq_solving.proofs.ElabSettled.{by_agree, infer_by_agree}
use Rattle.lq_typing.specs.Typing.{Part, product_domain, product_rest, function_domain, function_rest, definition_kind, definition_value, definition_rest, applied_function, applied_argument, shorter, outside, resumed, go_on, typed_work, asked_work, Leads}

-- work that is the same for each bound
pub comes_same : {A : Type 0} (f g : ℕ → Kernel A) (b : ℕ) (r : Outcome KernelFault A) → ((n : ℕ) → f n ≡ g n) → ComesTo g b r → ComesTo f b r
comes_same f g b r e h = λ n i. ap (within b) (e n) ∙ h n i

pub leads_on : (f g h : ℕ → Kernel Tree) (b c d : ℕ) → Leads f g b c → Leads g h c d → Leads f h b d
leads_on f g h b c d k l = λ r m. k r (l r m)

module _ {A : Type 0} (w : ℕ → Kernel Tree) (f : ℕ → Kernel A) (k : A → ℕ → Kernel Tree) (l : Tree → ℕ → Kernel Tree) (e : (n : ℕ) → w n ≡ (f n >>= (λ a. k a n) >>= (λ T. l T n))) (b : ℕ) where
  three : (n : ℕ) → w n ≡ (f n >>= (λ a. k a n >>= (λ T. l T n)))
  three n = e n ∙ bind_bind (f n) (λ a. k a n) (λ T. l T n)

  pub first_done : (a : A) (left : ℕ) → ComesTo f b (done a left) → Leads w (λ n. k a n >>= (λ T. l T n)) b left
  first_done a left h = λ r m. comes_same w (λ n. f n >>= (λ a. k a n >>= (λ T. l T n))) b r three (comes_then f (λ a n. k a n >>= (λ T. l T n)) b a left r h m)

  pub first_failed : (x : KernelFault) (left : ℕ) → ComesTo f b (failed x left) → ComesTo w b (failed x left)
  first_failed x left h = comes_same w (λ n. f n >>= (λ a. k a n >>= (λ T. l T n))) b (failed x left) three (comes_failed f (λ a n. k a n >>= (λ T. l T n)) b x left h)

  pub first_spent : ComesTo f b steps_out → ComesTo w b steps_out
  first_spent h = comes_same w (λ n. f n >>= (λ a. k a n >>= (λ T. l T n))) b steps_out three (comes_spent f (λ a n. k a n >>= (λ T. l T n)) b h)

-- ---- every bound above the budget gives one outcome

module _ (o : Open) (env : Env) (n m b : ℕ) (i : b < n) (j : b < m) where
  sort_agree : (g : Context) (K : Tree) → Agree b (needed_form env n g K >>= as_sort) (needed_form env m g K >>= as_sort)
  sort_agree g K = agree_bind b _ _ _ _ (form_agree env g n m b i j K) (λ w. agree_refl b _)

  resumed_agree : (w : Part) (g : Context) (T : Tree) → Agree b (resumed o env n w g T) (resumed o env m w g T)
  unfolding resumed
  resumed_agree (product_domain x A B) g T =
      agree_bind b _ _ _ _ (sort_agree g T) (λ s1.
      agree_bind b _ _ _ _ (infer_by_agree o env n m b i j _ _) (λ L.
      agree_bind b _ _ _ _ (sort_agree _ L) (λ s2. agree_refl b _)))
  resumed_agree (product_rest s1) g T = agree_bind b _ _ _ _ (sort_agree g T) (λ s2. agree_refl b _)
  resumed_agree (function_domain x A t) g T =
      agree_bind b _ _ _ _ (sort_agree g T) (λ s.
      agree_bind b _ _ _ _ (infer_by_agree o env n m b i j _ _) (λ B. agree_refl b _))
  resumed_agree (function_rest x y A) g T = agree_refl b _
  resumed_agree (definition_kind x v A t) g T =
      agree_bind b _ _ _ _ (sort_agree g T) (λ s.
      agree_bind b _ _ _ _ (infer_by_agree o env n m b i j _ _) (λ V.
      agree_bind b _ _ _ _ (by_agree o env g n m b i j V A) (λ ok.
      agree_bind b _ _ _ _ (infer_by_agree o env n m b i j _ _) (λ B. agree_refl b _))))
  resumed_agree (definition_value x v A t) g T =
      agree_bind b _ _ _ _ (by_agree o env g n m b i j T A) (λ ok.
      agree_bind b _ _ _ _ (infer_by_agree o env n m b i j _ _) (λ B. agree_refl b _))
  resumed_agree (definition_rest y v) g T = agree_refl b _
  resumed_agree (applied_function a) g T =
      agree_bind b _ _ _ _ (agree_bind b _ _ _ _ (form_agree env g n m b i j T) (λ w. agree_refl b _)) (λ p.
      agree_bind b _ _ _ _ (infer_by_agree o env n m b i j _ _) (λ A.
      agree_bind b _ _ _ _ (matching_agree env g n m b i j A p.0) (λ ok. agree_refl b _)))
  resumed_agree (applied_argument a D R) g T = agree_bind b _ _ _ _ (matching_agree env g n m b i j T D) (λ ok. agree_refl b _)

  pub go_agree : (ws : List Part) (g : Context) (T : Tree) → Agree b (go_on o env n ws g T) (go_on o env m ws g T)
  unfolding go_on
  go_agree [] g T = agree_refl b _
  go_agree (w ∷ ws) g T = agree_bind b _ _ _ _ (resumed_agree w g T) (λ U. go_agree ws (outside w g) U)

module _ (o : Open) (env : Env) (ws : List Part) where
  -- ---- a node pays its tick

  module _ (g : Context) (t : Tree) (inner : ℕ → Kernel Tree) (e : (n : ℕ) → infer_by o env (suc n) g t ≡ tick (inner n)) where
    ticked_at : (b : ℕ) (r : Outcome KernelFault Tree) → ComesTo (λ n. inner n >>= go_on o env n ws g) b r → (n : ℕ) → suc b < n → within (suc b) (asked_work o env ws g t n) ≡ r
    unfolding ◌>>=◌ within
    ticked_at b r h zero i = absurd (omega arith)
    ticked_at b r h (suc n) i =
        ap (λ z. within (suc b) (z >>= go_on o env (suc n) ws g)) (e n)
        ∙ agree_within b _ _ (agree_bind b (inner n) _ _ _ (agree_refl b _) (λ T. go_agree o env (suc n) n b (omega arith) (omega arith) ws g T)) b (le_refl b)
        ∙ h n (omega arith)

    pub ticked : (b : ℕ) → Leads (asked_work o env ws g t) (λ n. inner n >>= go_on o env n ws g) (suc b) b
    ticked b = λ r h n i. ticked_at b r h n i

    unpaid_at : (n : ℕ) → 0 < n → within 0 (asked_work o env ws g t n) ≡ steps_out
    unfolding ◌>>=◌ within
    unpaid_at zero i = absurd (omega arith)
    unpaid_at (suc n) i = ap (λ z. within 0 (z >>= go_on o env (suc n) ws g)) (e n)

    pub unpaid : ComesTo (asked_work o env ws g t) 0 steps_out
    unpaid = λ n i. unpaid_at n i

  -- a node that asks for the type of a part first
  pub asks : (w : Part) (g : Context) (t a : Tree) → ((n : ℕ) → infer_by o env (suc n) g t ≡ tick (infer_by o env n g a >>= (λ K. resumed o env n w g K))) → outside w g ≡ g →
      (b : ℕ) → Leads (asked_work o env ws g t) (asked_work o env (w ∷ ws) g a) (suc b) b
  unfolding go_on
  asks w g t a e f b = λ r h. ticked g t inner e b r (comes_same (λ n. inner n >>= go_on o env n ws g) (asked_work o env (w ∷ ws) g a) b r same h)
    where
      inner : ℕ → Kernel Tree
      inner n = infer_by o env n g a >>= (λ K. resumed o env n w g K)

      same : (n : ℕ) → (inner n >>= go_on o env n ws g) ≡ asked_work o env (w ∷ ws) g a n
      same n =
          bind_bind (infer_by o env n g a) (λ K. resumed o env n w g K) (go_on o env n ws g)
          ∙ ap (λ h. infer_by o env n g a >>= (λ K. resumed o env n w g K >>= go_on o env n ws h)) (sym f)

  module _ (w : Part) (g : Context) (T : Tree) (b : ℕ) where
    -- what is left of a node comes to its end
    pub ends_done : (U : Tree) (left : ℕ) → ComesTo (λ n. resumed o env n w g T) b (done U left) → Leads (typed_work o env (w ∷ ws) g T) (typed_work o env ws (outside w g) U) b left
    unfolding go_on
    ends_done U left h = λ r k. comes_then (λ n. resumed o env n w g T) (λ V n. go_on o env n ws (outside w g) V) b U left r h k

    pub ends_failed : (x : KernelFault) (left : ℕ) → ComesTo (λ n. resumed o env n w g T) b (failed x left) → ComesTo (typed_work o env (w ∷ ws) g T) b (failed x left)
    unfolding go_on
    ends_failed x left h = comes_failed (λ n. resumed o env n w g T) (λ V n. go_on o env n ws (outside w g) V) b x left h

    pub ends_spent : ComesTo (λ n. resumed o env n w g T) b steps_out → ComesTo (typed_work o env (w ∷ ws) g T) b steps_out
    unfolding go_on
    ends_spent h = comes_spent (λ n. resumed o env n w g T) (λ V n. go_on o env n ws (outside w g) V) b h

    -- what is left of a node asks for the type of another part, after some work
    module _ {A : Type 0} (f : ℕ → Kernel A) (v : A → Part) (h : A → Context) (t : A → Tree)
        (e : (n : ℕ) → resumed o env n w g T ≡ (f n >>= (λ a. infer_by o env n (h a) (t a) >>= (λ L. resumed o env n (v a) (h a) L)))) where
      -- that part, and the rest behind it
      abbrev after : A → ℕ → Kernel Tree
      after a n = infer_by o env n (h a) (t a) >>= (λ L. resumed o env n (v a) (h a) L)

      whole : (n : ℕ) → typed_work o env (w ∷ ws) g T n ≡ (f n >>= (λ a. after a n) >>= (λ V. go_on o env n ws (outside w g) V))
      unfolding go_on
      whole n = ap (λ z. z >>= (λ V. go_on o env n ws (outside w g) V)) (e n)

      pub more_failed : (x : KernelFault) (left : ℕ) → ComesTo f b (failed x left) → ComesTo (typed_work o env (w ∷ ws) g T) b (failed x left)
      more_failed x left k = first_failed (typed_work o env (w ∷ ws) g T) f after (λ V n. go_on o env n ws (outside w g) V) whole b x left k

      pub more_spent : ComesTo f b steps_out → ComesTo (typed_work o env (w ∷ ws) g T) b steps_out
      more_spent k = first_spent (typed_work o env (w ∷ ws) g T) f after (λ V n. go_on o env n ws (outside w g) V) whole b k

      pub more_done : (a : A) (left : ℕ) → outside (v a) (h a) ≡ outside w g → ComesTo f b (done a left) → Leads (typed_work o env (w ∷ ws) g T) (asked_work o env (v a ∷ ws) (h a) (t a)) b left
      unfolding go_on
      more_done a left q k = λ r m.
          first_done (typed_work o env (w ∷ ws) g T) f after (λ V n. go_on o env n ws (outside w g) V) whole b a left k r
          (comes_same (λ n. after a n >>= (λ V. go_on o env n ws (outside w g) V)) (asked_work o env (v a ∷ ws) (h a) (t a)) left r same m)
        where
          same : (n : ℕ) → (after a n >>= (λ V. go_on o env n ws (outside w g) V)) ≡ asked_work o env (v a ∷ ws) (h a) (t a) n
          same n =
              bind_bind (infer_by o env n (h a) (t a)) (λ L. resumed o env n (v a) (h a) L) (λ V. go_on o env n ws (outside w g) V)
              ∙ ap (λ i. infer_by o env n (h a) (t a) >>= (λ L. resumed o env n (v a) (h a) L >>= go_on o env n ws i)) (sym q)

-- ---- the nodes that ask

pub shorter_more : (g : Context) (h : Hypothesis) → shorter (g ++ h ∷ []) ≡ g
unfolding shorter
shorter_more [] h = refl
shorter_more (i ∷ []) h = refl
shorter_more (i ∷ j ∷ g) h = ap (λ z. i ∷ z) (shorter_more (j ∷ g) h)

module _ (o : Open) (env : Env) (ws : List Part) (g : Context) (b : ℕ) where
  pub asks_product : (x : Name) (A B : Tree) → Leads (asked_work o env ws g (Prod x A B)) (asked_work o env (product_domain x A B ∷ ws) g A) (suc b) b
  unfolding infer_by resumed outside
  asks_product x A B = asks o env ws (product_domain x A B) g (Prod x A B) A (λ n. refl) refl b

  pub asks_function : (x : Name) (A t : Tree) → Leads (asked_work o env ws g (Lam x A t)) (asked_work o env (function_domain x A t ∷ ws) g A) (suc b) b
  unfolding infer_by resumed outside
  asks_function x A t = asks o env ws (function_domain x A t) g (Lam x A t) A (λ n. refl) refl b

  pub asks_definition : (x : Name) (v A t : Tree) → Leads (asked_work o env ws g (Let x v A t)) (asked_work o env (definition_kind x v A t ∷ ws) g A) (suc b) b
  unfolding infer_by resumed outside
  asks_definition x v A t = asks o env ws (definition_kind x v A t) g (Let x v A t) A (λ n. refl) refl b

  pub asks_application : (f a : Tree) → Leads (asked_work o env ws g (App f a)) (asked_work o env (applied_function a ∷ ws) g f) (suc b) b
  unfolding infer_by resumed outside
  asks_application f a = asks o env ws (applied_function a) g (App f a) f (λ n. refl) refl b

  -- ---- what is left of them

  module _ (K : Tree) (s : Universe) (left : ℕ) (h : ComesTo (λ n. needed_form env n g K >>= as_sort) b (done s left)) where
    pub product_on : (x : Name) (A B : Tree) → Leads (typed_work o env (product_domain x A B ∷ ws) g K) (asked_work o env (product_rest s ∷ ws) (under g (fresh g x) A) (opened (fresh g x) B)) b left
    unfolding resumed outside under
    product_on x A B =
        more_done o env ws (product_domain x A B) g K b (λ n. needed_form env n g K >>= as_sort) (λ u. product_rest u) (λ u. under g (fresh g x) A) (λ u. opened (fresh g x) B) (λ n. refl)
        s left (shorter_more g _) h

    pub function_on : (x : Name) (A t : Tree) → Leads (typed_work o env (function_domain x A t ∷ ws) g K) (asked_work o env (function_rest x (fresh g x) A ∷ ws) (under g (fresh g x) A) (opened (fresh g x) t)) b left
    unfolding resumed outside under
    function_on x A t =
        more_done o env ws (function_domain x A t) g K b (λ n. needed_form env n g K >>= as_sort) (λ u. function_rest x (fresh g x) A) (λ u. under g (fresh g x) A) (λ u. opened (fresh g x) t) (λ n. refl)
        s left (shorter_more g _) h

    pub definition_on : (x : Name) (v A t : Tree) → Leads (typed_work o env (definition_kind x v A t ∷ ws) g K) (asked_work o env (definition_value x v A t ∷ ws) g v) b left
    unfolding resumed outside
    definition_on x v A t =
        more_done o env ws (definition_kind x v A t) g K b (λ n. needed_form env n g K >>= as_sort) (λ u. definition_value x v A t) (λ u. g) (λ u. v) (λ n. refl)
        s left refl h

  pub value_on : (V : Tree) (left : ℕ) (x : Name) (v A t : Tree) → ComesTo (λ n. matching_by o env n g V A) b (done tt left) →
      Leads (typed_work o env (definition_value x v A t ∷ ws) g V) (asked_work o env (definition_rest (fresh g x) v ∷ ws) (under_let g (fresh g x) v A) (opened (fresh g x) t)) b left
  unfolding resumed outside under_let
  value_on V left x v A t h =
      more_done o env ws (definition_value x v A t) g V b (λ n. matching_by o env n g V A) (λ u. definition_rest (fresh g x) v) (λ u. under_let g (fresh g x) v A) (λ u. opened (fresh g x) t) (λ n. refl)
      tt left (shorter_more g _) h

  pub function_applied : (F : Tree) (p : Tree × Tree) (left : ℕ) (a : Tree) → ComesTo (λ n. needed_form env n g F >>= as_product) b (done p left) →
      Leads (typed_work o env (applied_function a ∷ ws) g F) (asked_work o env (applied_argument a p.0 p.1 ∷ ws) g a) b left
  unfolding resumed outside
  function_applied F p left a h =
      more_done o env ws (applied_function a) g F b (λ n. needed_form env n g F >>= as_product) (λ q. applied_argument a q.0 q.1) (λ q. g) (λ q. a) (λ n. refl)
      p left refl h

-- ---- the beginning and the end

pub begun : (o : Open) (env : Env) (g : Context) (t : Tree) (b : ℕ) → Leads (λ n. infer_by o env n g t) (asked_work o env [] g t) b b
unfolding go_on
begun o env g t b = λ r h. comes_same (λ n. infer_by o env n g t) (asked_work o env [] g t) b r (λ n. sym (bind_gives (infer_by o env n g t))) h

pub ended : (o : Open) (env : Env) (g : Context) (T : Tree) (b : ℕ) → ComesTo (typed_work o env [] g T) b (done T b)
unfolding go_on
ended o env g T b = comes_gives (typed_work o env [] g T) T b (λ n. refl)
