-- Each step of inference over terms as they are kept leads to the work that is left.
use Rattle.std.proofs.Common.{◌≡◌, ◌∙◌, ℕ, suc, refl, sym, ap, ap₂, List, [], ◌∷◌, map, None, Some, codes}
use Rattle.std.proofs.Common.{subst as along}
use Rattle.std.proofs.lemmas.List.{map-append}
use Rattle.lq_trees.specs.declared.Sort.{Sort as Universe}
use Rattle.lq_trees.specs.Tree.{Name, Tree, Context}
use Rattle.lq_trees.specs.Tree.Tree.{Prod, Lam, Let, App, Var}
use Rattle.lq_trees.specs.Change.{subst}
use Rattle.lq_trees.specs.Fresh.{fresh, fresh_of, opened, under, under_let}
use Rattle.lq_trees.specs.Ticks.{◌>>=◌, done, ComesTo}
use Rattle.lq_trees.proofs.FillLaws.{subst_fill}
use Rattle.lq_calculus.specs.Declarations.{Env}
use Rattle.lq_calculus.specs.Checking.{Kernel, as_sort, as_product, needed_form}
use Rattle.lq_inference.specs.Inference.{Open, matching_by}
use Rattle.lq_solving.specs.Stores.{Store, names_in, read, read_hypothesis, read_context}
use Rattle.lq_solving.specs.Kept.{IsStore}
use Rattle.lq_solving.specs.Inference.{by_store_types}
use Rattle.lq_solving.proofs.Later.{reads_prod, reads_lam, reads_let, reads_app, reads_fill, reads_opened}
use Rattle.lq_typing.specs.Typing.{Part, product_domain, product_rest, function_domain, function_rest, definition_kind, definition_value, definition_rest, applied_function, applied_argument, shorter, outside, resumed, typed_work, asked_work, Leads}
use Rattle.lq_typing.specs.Kept.{read_part, kept_asked, kept_typed}
use Rattle.lq_typing.proofs.TypingLaws.{ends_done, asks_product, asks_function, asks_definition, asks_application, product_on, function_on, definition_on, value_on, function_applied}

-- ---- contexts and binders as read

module _ (s : Store) where
  pub names_read : (g : Context) → names_in (read_context s g) ≡ names_in g
  unfolding read_context read_hypothesis
  names_read [] = refl
  names_read (h ∷ g) = ap (λ xs. h.name ∷ xs) (names_read g)

  pub fresh_read : (g : Context) (x : Name) → fresh (read_context s g) x ≡ fresh g x
  unfolding fresh
  fresh_read g [] = ap (λ xs. fresh_of xs (codes "x")) (names_read g)
  fresh_read g (b ∷ bs) = ap (λ xs. fresh_of xs (b ∷ bs)) (names_read g)

  pub under_read : (g : Context) (y : Name) (A : Tree) → under (read_context s g) y (read s A) ≡ read_context s (under g y A)
  unfolding read_context read_hypothesis under
  under_read g y A = sym (map-append (read_hypothesis s) g (record { name = y; body = None; kind = A } ∷ []))

  pub under_let_read : (g : Context) (y : Name) (v A : Tree) → under_let (read_context s g) y (read s v) (read s A) ≡ read_context s (under_let g y v A)
  unfolding read_context read_hypothesis under_let
  under_let_read g y v A = sym (map-append (read_hypothesis s) g (record { name = y; body = Some v; kind = A } ∷ []))

  pub shorter_read : (g : Context) → shorter (read_context s g) ≡ read_context s (shorter g)
  unfolding read_context shorter
  shorter_read [] = refl
  shorter_read (h ∷ []) = refl
  shorter_read (h ∷ i ∷ g) = ap (λ z. read_hypothesis s h ∷ z) (shorter_read (i ∷ g))

  pub outside_read : (w : Part) (g : Context) → outside (read_part s w) (read_context s g) ≡ read_context s (outside w g)
  unfolding outside read_part
  outside_read (product_domain x A B) g = refl
  outside_read (product_rest u) g = shorter_read g
  outside_read (function_domain x A t) g = refl
  outside_read (function_rest x y A) g = shorter_read g
  outside_read (definition_kind x v A t) g = refl
  outside_read (definition_value x v A t) g = refl
  outside_read (definition_rest y v) g = shorter_read g
  outside_read (applied_function a) g = refl
  outside_read (applied_argument a D R) g = refl

  module _ (i : IsStore s) where
    pub subst_read : (v t : Tree) → read s (subst v t) ≡ subst (read s v) (read s t)
    unfolding read
    subst_read v t = ap (read s) (subst_fill v t) ∙ reads_fill s.variables s.values i.values v 0 t ∙ sym (subst_fill (read s v) (read s t))

    pub opened_read : (y : Name) (t : Tree) → opened y (read s t) ≡ read s (opened y t)
    unfolding read opened
    opened_read y t = subst_fill (Var y) (read s t) ∙ sym (reads_opened s.variables s.values i.values y t)

-- ---- the steps

-- where the rest is the same work
rest_same : (f g h : ℕ → Kernel Tree) (b left : ℕ) → g ≡ h → Leads f g b left → Leads f h b left
rest_same f g h b left e k = along (λ z. Leads f z b left) e k

whole_same : (f g h : ℕ → Kernel Tree) (b left : ℕ) → f ≡ g → Leads g h b left → Leads f h b left
whole_same f g h b left e k = along (λ z. Leads z h b left) (sym e) k

module _ (s : Store) (i : IsStore s) (env : Env) (ws : List Part) (g : Context) (b : ℕ) where
  -- the rest of the definition, as read
  abbrev o : Open
  o = by_store_types s

  abbrev vs : List Part
  vs = map (read_part s) ws

  abbrev G : Context
  G = read_context s g

  pub shown : (t u : Tree) → read s t ≡ read s u → kept_asked s env ws g t ≡ kept_asked s env ws g u
  shown t u e = ap (λ z. asked_work o env vs G z) e

  pub kept_product : (x : Name) (A B : Tree) → Leads (kept_asked s env ws g (Prod x A B)) (kept_asked s env (product_domain x A B ∷ ws) g A) (suc b) b
  unfolding read read_part
  kept_product x A B = whole_same _ _ _ (suc b) b (ap (λ z. asked_work o env vs G z) (reads_prod s.variables s.values x A B)) (asks_product o env vs G b x (read s A) (read s B))

  pub kept_function : (x : Name) (A t : Tree) → Leads (kept_asked s env ws g (Lam x A t)) (kept_asked s env (function_domain x A t ∷ ws) g A) (suc b) b
  unfolding read read_part
  kept_function x A t = whole_same _ _ _ (suc b) b (ap (λ z. asked_work o env vs G z) (reads_lam s.variables s.values x A t)) (asks_function o env vs G b x (read s A) (read s t))

  pub kept_definition : (x : Name) (v A t : Tree) → Leads (kept_asked s env ws g (Let x v A t)) (kept_asked s env (definition_kind x v A t ∷ ws) g A) (suc b) b
  unfolding read read_part
  kept_definition x v A t = whole_same _ _ _ (suc b) b (ap (λ z. asked_work o env vs G z) (reads_let s.variables s.values x v A t)) (asks_definition o env vs G b x (read s v) (read s A) (read s t))

  pub kept_application : (f a : Tree) → Leads (kept_asked s env ws g (App f a)) (kept_asked s env (applied_function a ∷ ws) g f) (suc b) b
  unfolding read read_part
  kept_application f a = whole_same _ _ _ (suc b) b (ap (λ z. asked_work o env vs G z) (reads_app s.variables s.values f a)) (asks_application o env vs G b (read s f) (read s a))

  -- what is under a binder, as read and as it is kept
  under_same : (x : Name) (A t : Tree) (w : Name → Part) →
      asked_work o env (w (fresh G x) ∷ vs) (under G (fresh G x) (read s A)) (opened (fresh G x) (read s t)) ≡ asked_work o env (w (fresh g x) ∷ vs) (read_context s (under g (fresh g x) A)) (read s (opened (fresh g x) t))
  under_same x A t w =
      ap (λ y. asked_work o env (w y ∷ vs) (under G y (read s A)) (opened y (read s t))) (fresh_read s g x)
      ∙ ap₂ (λ c u. asked_work o env (w (fresh g x) ∷ vs) c u) (under_read s g (fresh g x) A) (opened_read s i (fresh g x) t)

  under_let_same : (x : Name) (v A t : Tree) (w : Name → Part) →
      asked_work o env (w (fresh G x) ∷ vs) (under_let G (fresh G x) (read s v) (read s A)) (opened (fresh G x) (read s t)) ≡ asked_work o env (w (fresh g x) ∷ vs) (read_context s (under_let g (fresh g x) v A)) (read s (opened (fresh g x) t))
  under_let_same x v A t w =
      ap (λ y. asked_work o env (w y ∷ vs) (under_let G y (read s v) (read s A)) (opened y (read s t))) (fresh_read s g x)
      ∙ ap₂ (λ c u. asked_work o env (w (fresh g x) ∷ vs) c u) (under_let_read s g (fresh g x) v A) (opened_read s i (fresh g x) t)

  module _ (K : Tree) (u : Universe) (left : ℕ) (h : ComesTo (λ n. needed_form env n (read_context s g) K >>= as_sort) b (done u left)) where
    pub kept_product_on : (x : Name) (A B : Tree) → Leads (kept_typed s env (product_domain x A B ∷ ws) g K) (kept_asked s env (product_rest u ∷ ws) (under g (fresh g x) A) (opened (fresh g x) B)) b left
    unfolding read_part
    kept_product_on x A B = rest_same _ _ _ b left (under_same x A B (λ y. product_rest u)) (product_on o env vs G b K u left h x (read s A) (read s B))

    pub kept_function_on : (x : Name) (A t : Tree) → Leads (kept_typed s env (function_domain x A t ∷ ws) g K) (kept_asked s env (function_rest x (fresh g x) A ∷ ws) (under g (fresh g x) A) (opened (fresh g x) t)) b left
    unfolding read_part
    kept_function_on x A t = rest_same _ _ _ b left (under_same x A t (λ y. function_rest x y (read s A))) (function_on o env vs G b K u left h x (read s A) (read s t))

    pub kept_definition_on : (x : Name) (v A t : Tree) → Leads (kept_typed s env (definition_kind x v A t ∷ ws) g K) (kept_asked s env (definition_value x v A t ∷ ws) g v) b left
    unfolding read_part
    kept_definition_on x v A t = definition_on o env vs G b K u left h x (read s v) (read s A) (read s t)

  pub kept_value_on : (V : Tree) (left : ℕ) (x : Name) (v A t : Tree) → ComesTo (λ n. matching_by o env n (read_context s g) V (read s A)) b (done tt left) →
      Leads (kept_typed s env (definition_value x v A t ∷ ws) g V) (kept_asked s env (definition_rest (fresh g x) v ∷ ws) (under_let g (fresh g x) v A) (opened (fresh g x) t)) b left
  unfolding read_part
  kept_value_on V left x v A t h = rest_same _ _ _ b left (under_let_same x v A t (λ y. definition_rest y (read s v))) (value_on o env vs G b V left x (read s v) (read s A) (read s t) h)

  pub kept_applied : (F : Tree) (p : Tree × Tree) (left : ℕ) (a : Tree) → ComesTo (λ n. needed_form env n (read_context s g) F >>= as_product) b (done p left) →
      Leads (kept_typed s env (applied_function a ∷ ws) g F) (kept_asked s env (applied_argument a p.0 p.1 ∷ ws) g a) b left
  unfolding read_part
  kept_applied F p left a h = function_applied o env vs G b F p left (read s a) h

  -- what is left of a node comes to its end
  pub kept_ends : (w : Part) (T U : Tree) (left : ℕ) → ComesTo (λ n. resumed o env n (read_part s w) (read_context s g) T) b (done U left) → Leads (kept_typed s env (w ∷ ws) g T) (kept_typed s env ws (outside w g) U) b left
  kept_ends w T U left h = rest_same _ _ _ b left (ap (λ c. typed_work o env vs c U) (outside_read s w g)) (ends_done o env vs (read_part s w) G T b U left h)
