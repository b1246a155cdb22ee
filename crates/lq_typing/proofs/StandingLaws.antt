-- What stands goes on to stand, step by step.
use Rattle.std.proofs.Common.{◌≡◌, ◌∙◌, ◌<◌, ◌^◌, refl, sym, ap, List, [], ◌∷◌, ◌++◌, length, Option, None, Some}
use Rattle.std.proofs.Common.{subst as along}
use Rattle.std.proofs.lemmas.List.{map-append}
use Rattle.lq_trees.specs.declared.Sort.{Sort as Universe}
use Rattle.lq_trees.specs.declared.Fit.{Fit}
use Rattle.lq_trees.specs.Tree.{Name, Tree, Hypothesis, Context}
use Rattle.lq_trees.specs.Tree.Tree.{Prod, Lam, Let, App}
use Rattle.lq_trees.specs.Size.{fit}
use Rattle.lq_trees.specs.Fresh.{fresh, opened, under, under_let}
use Rattle.lq_trees.specs.Hypotheses.{HoldsOnly}
use Rattle.lq_solving.specs.Stores.{Store, names_in, read}
use Rattle.lq_solving.specs.Kept.{Stands, OptionStands, StandBehind, IsContext, StandsIn, IsStore}
use Rattle.lq_solving.proofs.Later.{reads_prod, reads_lam, reads_let, reads_app}
use Rattle.lq_solving.proofs.FreshLaws.{fresh_new}
use Rattle.lq_solving.proofs.StandsLaws.{open_stands}
use Rattle.lq_solving.proofs.ElabKept.{context_under}
use Rattle.lq_typing.specs.Typing.{Part, product_domain, product_rest, function_domain, function_rest, definition_kind, definition_value, definition_rest, applied_function, applied_argument, shorter, outside}
use Rattle.lq_typing.specs.Standing.{RestStands, EndsIn, PartStands, PartsStand, Asked, Typed}
use Rattle.lq_typing.proofs.TypingLaws.{shorter_more}

-- ---- parts of terms

module _ (s : Store) (g : Context) where
  pub product_parts : (x : Name) (A B : Tree) → StandsIn s g (Prod x A B) → StandsIn s g A × RestStands s g B
  unfolding read
  product_parts x A B h =
      let k = along (HoldsOnly (names_in g)) (reads_prod s.variables s.values x A B) h.holds in
      (record { over = h.over.0; within = h.within.0; holds = k.0 }, record { over = h.over.1; within = h.within.1; holds = k.1 })

  pub function_parts : (x : Name) (A t : Tree) → StandsIn s g (Lam x A t) → StandsIn s g A × RestStands s g t
  unfolding read
  function_parts x A t h =
      let k = along (HoldsOnly (names_in g)) (reads_lam s.variables s.values x A t) h.holds in
      (record { over = h.over.0; within = h.within.0; holds = k.0 }, record { over = h.over.1; within = h.within.1; holds = k.1 })

  pub definition_parts : (x : Name) (v A t : Tree) → StandsIn s g (Let x v A t) → StandsIn s g v × StandsIn s g A × RestStands s g t
  unfolding read
  definition_parts x v A t h =
      let k = along (HoldsOnly (names_in g)) (reads_let s.variables s.values x v A t) h.holds in (
        record { over = h.over.0; within = h.within.0; holds = k.0 },
        record { over = h.over.1; within = h.within.1; holds = k.1 },
        record { over = h.over.2; within = h.within.2; holds = k.2 },
      )

  pub application_parts : (f a : Tree) → StandsIn s g (App f a) → StandsIn s g f × StandsIn s g a
  unfolding read
  application_parts f a h =
      let k = along (HoldsOnly (names_in g)) (reads_app s.variables s.values f a) h.holds in
      (record { over = h.over.0; within = h.within.0; holds = k.0 }, record { over = h.over.1; within = h.within.1; holds = k.1 })

-- ---- contexts

names_last : (g : Context) (h : Hypothesis) → names_in (g ++ h ∷ []) ≡ names_in g ++ h.name ∷ []
names_last g h = map-append (λ k. k.name) g (h ∷ [])

-- one hypothesis more is the last
ends_in : (g : Context) (h : Hypothesis) → EndsIn (g ++ h ∷ []) h.name
ends_in g h = names_last g h ∙ ap (λ z. names_in z ++ h.name ∷ []) (sym (shorter_more g h))

behind_shorter : (s : Store) (xs : List Name) (g : Context) → StandBehind s xs g → StandBehind s xs (shorter g)
unfolding shorter
behind_shorter s xs [] b = tt
behind_shorter s xs (h ∷ []) b = tt
behind_shorter s xs (h ∷ i ∷ g) b = (b.0, b.1, b.2, behind_shorter s (h.name ∷ xs) (i ∷ g) b.3)

pub context_outside : (s : Store) (w : Part) (g : Context) → IsContext s g → IsContext s (outside w g)
unfolding outside
context_outside s (product_domain x A B) g c = c
context_outside s (product_rest u) g c = behind_shorter s [] g c
context_outside s (function_domain x A t) g c = c
context_outside s (function_rest x y A) g c = behind_shorter s [] g c
context_outside s (definition_kind x v A t) g c = c
context_outside s (definition_value x v A t) g c = c
context_outside s (definition_rest y v) g c = behind_shorter s [] g c
context_outside s (applied_function a) g c = c
context_outside s (applied_argument a D R) g c = c

-- ---- a node asks

module _ (s : Store) (ws : List Part) (g : Context) where
  pub asked_product : (x : Name) (A B : Tree) → Asked s ws g (Prod x A B) → Asked s (product_domain x A B ∷ ws) g A
  unfolding outside
  asked_product x A B h = let p = product_parts s g x A B h.term in record { context = h.context; term = p.0; parts = (p, h.parts) }

  pub asked_function : (x : Name) (A t : Tree) → Asked s ws g (Lam x A t) → Asked s (function_domain x A t ∷ ws) g A
  unfolding outside
  asked_function x A t h = let p = function_parts s g x A t h.term in record { context = h.context; term = p.0; parts = (p, h.parts) }

  pub asked_definition : (x : Name) (v A t : Tree) → Asked s ws g (Let x v A t) → Asked s (definition_kind x v A t ∷ ws) g A
  unfolding outside
  asked_definition x v A t h = let p = definition_parts s g x v A t h.term in record { context = h.context; term = p.1; parts = (p, h.parts) }

  pub asked_application : (f a : Tree) → Asked s ws g (App f a) → Asked s (applied_function a ∷ ws) g f
  unfolding outside
  asked_application f a h = let p = application_parts s g f a h.term in record { context = h.context; term = p.0; parts = (p.1, h.parts) }

  -- ---- what is left of a node asks

  module _ (i : IsStore s) (few : length g < 10 ^ 64) where
    rest_opened : (h : Hypothesis) (t : Tree) → RestStands s g t → StandsIn s (g ++ h ∷ []) (opened h.name t)
    rest_opened h t k = along (λ xs. Stands s xs (opened h.name t)) (sym (names_last g h)) (open_stands s i (names_in g) h.name t (record { over = k.over; within = k.within; holds = k.holds }))

    goes_under : (x : Name) (o : Option Tree) (A t : Tree) (w : Part) → IsContext s g → OptionStands s (names_in g) o → StandsIn s g A → RestStands s g t → PartsStand s g ws →
        outside w (g ++ record { name = fresh g x; body = o; kind = A } ∷ []) ≡ shorter (g ++ record { name = fresh g x; body = o; kind = A } ∷ []) → PartStands s (g ++ record { name = fresh g x; body = o; kind = A } ∷ []) w →
        Asked s (w ∷ ws) (g ++ record { name = fresh g x; body = o; kind = A } ∷ []) (opened (fresh g x) t)
    goes_under x o A t w c b a k p e q = record {
      context = context_under s g (record { name = fresh g x; body = o; kind = A }) c (fresh_new g x few) b a;
      term = rest_opened (record { name = fresh g x; body = o; kind = A }) t k;
      parts = (q, along (λ z. PartsStand s z ws) (sym (e ∙ shorter_more g _)) p);
    }

    stands_shorter : (h : Hypothesis) (A : Tree) → StandsIn s g A → StandsIn s (shorter (g ++ h ∷ [])) A
    stands_shorter h A a = along (λ z. StandsIn s z A) (sym (shorter_more g h)) a

    pub typed_product : (x : Name) (A B K : Tree) (u : Universe) → Typed s (product_domain x A B ∷ ws) g K → Asked s (product_rest u ∷ ws) (under g (fresh g x) A) (opened (fresh g x) B)
    unfolding under outside
    typed_product x A B K u h = goes_under x None A B (product_rest u) h.context tt h.parts.0.0 h.parts.0.1 h.parts.1 refl tt

    pub typed_function : (x : Name) (A t K : Tree) → Typed s (function_domain x A t ∷ ws) g K → Asked s (function_rest x (fresh g x) A ∷ ws) (under g (fresh g x) A) (opened (fresh g x) t)
    unfolding under outside
    typed_function x A t K h = goes_under x None A t (function_rest x (fresh g x) A) h.context tt h.parts.0.0 h.parts.0.1 h.parts.1 refl (ends_in g _, stands_shorter _ A h.parts.0.0)

    pub typed_value : (x : Name) (v A t V : Tree) → Typed s (definition_value x v A t ∷ ws) g V → Asked s (definition_rest (fresh g x) v ∷ ws) (under_let g (fresh g x) v A) (opened (fresh g x) t)
    unfolding under_let outside
    typed_value x v A t V h = goes_under x (Some v) A t (definition_rest (fresh g x) v) h.context h.parts.0.0 h.parts.0.1 h.parts.0.2 h.parts.1 refl (ends_in g _, stands_shorter _ v h.parts.0.0)

  pub typed_definition : (x : Name) (v A t K : Tree) → Typed s (definition_kind x v A t ∷ ws) g K → Asked s (definition_value x v A t ∷ ws) g v
  unfolding outside
  typed_definition x v A t K h = record { context = h.context; term = h.parts.0.0; parts = h.parts }

  pub typed_applied : (a F D R : Tree) → Typed s (applied_function a ∷ ws) g F → StandsIn s g D → RestStands s g R → read s D ≡ D → read s R ≡ R → Asked s (applied_argument a D R ∷ ws) g a
  unfolding outside
  typed_applied a F D R h d k e f = record { context = h.context; term = h.parts.0; parts = ((h.parts.0, d, k, e, f), h.parts.1) }

  -- ---- a node's type is found

  pub typed_ends : (w : Part) (T U : Tree) → Typed s (w ∷ ws) g T → StandsIn s (outside w g) U → read s U ≡ U → fit U ≡ Fit.Fits → Typed s ws (outside w g) U
  typed_ends w T U h k e f = record { context = context_outside s w g h.context; kind = k; reads = e; fits = f; parts = h.parts.1 }
