-- What waits, in a bank and a store that have grown, and what it tells of names.
use Rattle.std.proofs.Common.{◌≡◌, ◌∙◌, refl, sym, ap, ap₂, arith, true, List, [], ◌∷◌, ◌++◌, map, Option, None, Some}
use Rattle.std.proofs.Common.{subst as along}
use Rattle.std.specs.Prelude.{option_map}
use Rattle.std.specs.List.{AllByRecursion}
use Rattle.lq_trees.specs.declared.Sort.{Sort as Universe}
use Rattle.lq_trees.specs.Tree.{Name, Tree, Hypothesis as TreeHypothesis}
use Rattle.lq_trees.specs.Tree.Tree.{Prod, Sort}
use Rattle.lq_trees.specs.Fresh.{is_listed}
use Rattle.lq_ast.specs.Plain.{plain}
use Rattle.lq_terms.specs.declared.nodes.NameId.{NameId}
use Rattle.lq_terms.specs.declared.nodes.TermId.{TermId}
use Rattle.lq_terms.specs.declared.nodes.Hypothesis.{Hypothesis}
use Rattle.lq_terms.specs.Terms.{Terms, HasName, HasTerm, Grows, text_of, tree_of}
use Rattle.lq_terms.specs.Contexts.{HasAllOf, HasContext, hypothesis_of, context_of}
use Rattle.lq_terms.proofs.Tellings.{HasBody-grown, body-grown, context_of-grown}
use Rattle.lq_solving.specs.Stores.{Store, names_in}
use Rattle.lq_solving.specs.Kept.{IsStore}
use Rattle.lq_solving.specs.Elaboration.{Site, bind}
use Rattle.lq_solving.proofs.InferKept.{names_more}
use Rattle.lq_solving.proofs.StandsLaws.{StandsUnder, listed_more, prod_stands, rest_stands}
use Rattle.lq_solving.proofs.StoreLaws.{Keeps, option_keeps}
use Rattle.lq_solving.proofs.Later.{good_stands}
use Rattle.lq_elab.specs.declared.frames.Bound.{Bound}
use Rattle.lq_elab.specs.declared.frames.Part.{Part}
use Rattle.lq_elab.specs.declared.frames.Frame.{Frame}
use Rattle.lq_elab.specs.Waiting.{Spot, Waiting, waiting}
use Rattle.lq_elab.specs.Waiting as tree
use Rattle.lq_elab.specs.Naming.{meaning, AreBound}
use Rattle.lq_elab.specs.Views.{asked_tree}
use Rattle.lq_elab.specs.Frames.{pair_of, part_of, shorter, outside, binders_with, binders_of, spot_of, waits, HasBound, HasPair, HasPart, IsBound, PartBinds}
use Rattle.lq_elab.specs.Frames.{FramesHold, ProductStands, PartStands, AllStand}
use Rattle.lq_elab.proofs.NamingLaws.{bound_under}
use Rattle.lq_elab.proofs.ScopeLaws.{meaning_grown, has_meaning_grown}

-- ---- lists without their last

pub shorter_all : {A : Type 0} (P : A → Type 0) (xs : List A) → AllByRecursion P xs → AllByRecursion P (shorter xs)
unfolding shorter
shorter_all P [] h = tt
shorter_all P (x ∷ []) h = tt
shorter_all P (x ∷ y ∷ xs) h = (h.0, shorter_all P (y ∷ xs) h.1)

pub shorter_last : {A : Type 0} (xs : List A) (x : A) → shorter (xs ++ x ∷ []) ≡ xs
unfolding shorter
shorter_last [] x = refl
shorter_last (y ∷ []) x = refl
shorter_last (y ∷ z ∷ xs) x = ap (λ l. y ∷ l) (shorter_last (z ∷ xs) x)

outside_all : (P : Hypothesis → Type 0) (p : Part) (hs : List Hypothesis) → AllByRecursion P hs → AllByRecursion P (outside p hs)
outside_all P (Part.ProductDomain x r) hs h = h
outside_all P (Part.ProductRest b u) hs h = shorter_all P hs h
outside_all P (Part.FunctionDomain x r p) hs h = h
outside_all P (Part.FunctionRest b) hs h = shorter_all P hs h
outside_all P (Part.DefinitionKind x v t) hs h = h
outside_all P (Part.DefinitionValue x A t) hs h = h
outside_all P (Part.DefinitionRest b v) hs h = shorter_all P hs h
outside_all P (Part.Function a as_) hs h = h
outside_all P (Part.Argument f B as_) hs h = h
outside_all P (Part.CastKind t) hs h = h
outside_all P (Part.CastTerm A) hs h = h

-- ---- a bank that has grown

module _ (old new : Terms) (g : Grows old new) where
  name_grown : (x : NameId) → HasName old x → HasName new x
  name_grown x h = omega (arith, h, g.names)

  term_grown : (t : TermId) → HasTerm old t → HasTerm new t
  term_grown t h = omega (arith, h, g.nodes)

  bound_grown : (b : Bound) → HasBound old b → HasBound new b
  bound_grown b h = record {
    binder = name_grown b.binder h.binder;
    hypothesis = name_grown b.hypothesis h.hypothesis;
    kind = term_grown b.kind h.kind;
    hidden = has_meaning_grown old new g b.hidden h.hidden;
  }

  pair_grown : (p : Option (TermId × TermId)) → HasPair old p → (option_map (pair_of new) p ≡ option_map (pair_of old) p) × HasPair new p
  pair_grown None h = (refl, tt)
  pair_grown (Some p) h = (ap₂ (λ a b. Some (a, b)) (g.tree p.0 h.0) (g.tree p.1 h.1), (term_grown p.0 h.0, term_grown p.1 h.1))

  three : (node : Name → Name → Tree → tree.Part) (b : Bound) → HasBound old b →
      node (text_of new b.binder) (text_of new b.hypothesis) (tree_of new b.kind) ≡ node (text_of old b.binder) (text_of old b.hypothesis) (tree_of old b.kind)
  three node b h =
      ap (λ z. node z (text_of new b.hypothesis) (tree_of new b.kind)) (g.text b.binder h.binder)
      ∙ ap₂ (node (text_of old b.binder)) (g.text b.hypothesis h.hypothesis) (g.tree b.kind h.kind)

  pub part_grown : (p : Part) → HasPart old p → (part_of new p ≡ part_of old p) × HasPart new p
  part_grown (Part.ProductDomain x r) h = (ap (λ z. tree.product_domain z (asked_tree r)) (g.text x h), name_grown x h)
  part_grown (Part.ProductRest b u) h = (three (λ x y A. tree.product_rest x y A u) b h, bound_grown b h)
  part_grown (Part.FunctionDomain x r p) h =
      let q = pair_grown p h.1 in (ap₂ (λ z w. tree.function_domain z (asked_tree r) w) (g.text x h.0) q.0, (name_grown x h.0, q.1))
  part_grown (Part.FunctionRest b) h = (three tree.function_rest b h, bound_grown b h)
  part_grown (Part.DefinitionKind x v t) h = (ap (λ z. tree.definition_kind z (plain v.now) (plain t.now)) (g.text x h), name_grown x h)
  part_grown (Part.DefinitionValue x A t) h =
      (ap₂ (λ z w. tree.definition_value z w (plain t.now)) (g.text x h.0) (body-grown old new g A h.1), (name_grown x h.0, HasBody-grown old new g A h.1))
  part_grown (Part.DefinitionRest b v) h =
      (three (λ x y A. tree.definition_rest x y (tree_of new v) A) b h.0 ∙ ap (λ z. tree.definition_rest (text_of old b.binder) (text_of old b.hypothesis) z (tree_of old b.kind)) (g.tree v h.1), (bound_grown b h.0, term_grown v h.1))
  part_grown (Part.Function a as_) h = (refl, tt)
  part_grown (Part.Argument f B as_) h = (ap₂ (λ z w. tree.applied_argument z w (map plain as_.now)) (g.tree f h.0) (g.tree B h.1), (term_grown f h.0, term_grown B h.1))
  part_grown (Part.CastKind t) h = (refl, tt)
  part_grown (Part.CastTerm A) h = (ap tree.cast_term (g.tree A h), term_grown A h)

  bind_grown : (b : Bound) → HasBound old b → (bs cs : List (Name × Name)) → bs ≡ cs → bind (text_of new b.binder) (text_of new b.hypothesis) bs ≡ bind (text_of old b.binder) (text_of old b.hypothesis) cs
  bind_grown b h bs cs e = ap (λ z. bind z (text_of new b.hypothesis) bs) (g.text b.binder h.binder) ∙ ap₂ (bind (text_of old b.binder)) (g.text b.hypothesis h.hypothesis) e

  with_grown : (p : Part) → HasPart old p → (bs cs : List (Name × Name)) → bs ≡ cs → binders_with new p bs ≡ binders_with old p cs
  with_grown (Part.ProductDomain x r) h bs cs e = e
  with_grown (Part.ProductRest b u) h bs cs e = bind_grown b h bs cs e
  with_grown (Part.FunctionDomain x r p) h bs cs e = e
  with_grown (Part.FunctionRest b) h bs cs e = bind_grown b h bs cs e
  with_grown (Part.DefinitionKind x v t) h bs cs e = e
  with_grown (Part.DefinitionValue x A t) h bs cs e = e
  with_grown (Part.DefinitionRest b v) h bs cs e = bind_grown b h.0 bs cs e
  with_grown (Part.Function a as_) h bs cs e = e
  with_grown (Part.Argument f B as_) h bs cs e = e
  with_grown (Part.CastKind t) h bs cs e = e
  with_grown (Part.CastTerm A) h bs cs e = e

  module _ (e : Site) where
    pub binders_grown : (hs : List Hypothesis) (fs : List Frame) → FramesHold old e hs fs → binders_of new fs ≡ binders_of old fs
    binders_grown hs [] h = refl
    binders_grown hs (f ∷ fs) h = with_grown f.part h.0 (binders_of new fs) (binders_of old fs) (binders_grown (outside f.part hs) fs h.3)

    pub spot_grown : (hs : List Hypothesis) (fs : List Frame) → HasContext old hs → FramesHold old e hs fs → spot_of new hs fs ≡ spot_of old hs fs
    spot_grown hs fs c h = ap₂ (λ bs k. record { binders = bs; context = k }) (binders_grown hs fs h) (context_of-grown old new g hs c)

    pub waits_grown : (hs : List Hypothesis) (fs : List Frame) → HasContext old hs → FramesHold old e hs fs → waits new hs fs ≡ waits old hs fs
    waits_grown hs [] c h = refl
    waits_grown hs (f ∷ fs) c h =
        let k = outside_all (HasAllOf old) f.part hs c in
        ap₂ (λ v vs. v ∷ vs)
        (ap (λ z. waiting z (option_map (tree_of new) f.wanted) (part_of new f.part)) (spot_grown (outside f.part hs) fs k h.3)
        ∙ ap₂ (waiting (spot_of old (outside f.part hs) fs)) (body-grown old new g f.wanted h.1) (part_grown f.part h.0).0)
        (waits_grown (outside f.part hs) fs k h.3)

    is_bound_grown : (hs : List Hypothesis) (fs : List Frame) (b : Bound) (o : Option TermId) → HasContext old hs → FramesHold old e (shorter hs) fs → HasBound old b → IsBound old e hs fs b o → IsBound new e hs fs b o
    is_bound_grown hs fs b o c k has h = record {
      last = h.last;
      hidden =
          meaning_grown old new g b.hidden has.hidden ∙ h.hidden
          ∙ ap₂ (meaning e) (sym (spot_grown (shorter hs) fs (shorter_all (HasAllOf old) hs c) k)) (sym (g.text b.binder has.binder));
    }

    binds_grown : (hs : List Hypothesis) (fs : List Frame) (p : Part) → HasContext old hs → FramesHold old e (outside p hs) fs → HasPart old p → PartBinds old e hs fs p → PartBinds new e hs fs p
    binds_grown hs fs (Part.ProductDomain x r) c k has h = tt
    binds_grown hs fs (Part.ProductRest b u) c k has h = is_bound_grown hs fs b None c k has h
    binds_grown hs fs (Part.FunctionDomain x r p) c k has h = tt
    binds_grown hs fs (Part.FunctionRest b) c k has h = is_bound_grown hs fs b None c k has h
    binds_grown hs fs (Part.DefinitionKind x v t) c k has h = tt
    binds_grown hs fs (Part.DefinitionValue x A t) c k has h = tt
    binds_grown hs fs (Part.DefinitionRest b v) c k has h = is_bound_grown hs fs b (Some v) c k has.0 h
    binds_grown hs fs (Part.Function a as_) c k has h = tt
    binds_grown hs fs (Part.Argument f B as_) c k has h = tt
    binds_grown hs fs (Part.CastKind t) c k has h = tt
    binds_grown hs fs (Part.CastTerm A) c k has h = tt

    pub frames_grown : (hs : List Hypothesis) (fs : List Frame) → HasContext old hs → FramesHold old e hs fs → FramesHold new e hs fs
    frames_grown hs [] c h = context_of-grown old new g hs c ∙ h
    frames_grown hs (f ∷ fs) c h =
        let k = outside_all (HasAllOf old) f.part hs c in
        ((part_grown f.part h.0).1, HasBody-grown old new g f.wanted h.1, binds_grown hs fs f.part c h.3 h.0 h.2, frames_grown (outside f.part hs) fs k h.3)

-- ---- the names of the outermost context, and the hypotheses of binders

-- one hypothesis more
pub context_more : (bank : Terms) (hs : List Hypothesis) (h : Hypothesis) → context_of bank (hs ++ h ∷ []) ≡ context_of bank hs ++ hypothesis_of bank h ∷ []
context_more bank [] h = refl
context_more bank (i ∷ is) h = ap (λ l. hypothesis_of bank i ∷ l) (context_more bank is h)

module _ (bank : Terms) (e : Site) where
  -- the context of a part of a binder
  abbrev last_of : Bound → Option TermId → TreeHypothesis
  last_of b o = record { name = text_of bank b.hypothesis; body = option_map (tree_of bank) o; kind = tree_of bank b.kind }

  pub bound_context : (hs : List Hypothesis) (fs : List Frame) (b : Bound) (o : Option TermId) → IsBound bank e hs fs b o → context_of bank hs ≡ context_of bank (shorter hs) ++ last_of b o ∷ []
  bound_context hs fs b o h = ap (context_of bank) h.last ∙ context_more bank (shorter hs) (record { name = b.hypothesis; body = o; kind = b.kind })

  one_inside : (hs : List Hypothesis) (fs : List Frame) (b : Bound) (o : Option TermId) → IsBound bank e hs fs b o → (x : Name) → is_listed (names_in (context_of bank (shorter hs))) x ≡ true → is_listed (names_in (context_of bank hs)) x ≡ true
  one_inside hs fs b o h x l =
      along (λ z. is_listed (names_in z) x ≡ true) (sym (bound_context hs fs b o h))
      (along (λ z. is_listed z x ≡ true) (sym (names_more (context_of bank (shorter hs)) (last_of b o))) (listed_more (names_in (context_of bank (shorter hs))) (text_of bank b.hypothesis ∷ []) x l))

  part_inside : (hs : List Hypothesis) (fs : List Frame) (p : Part) → PartBinds bank e hs fs p → (x : Name) → is_listed (names_in (context_of bank (outside p hs))) x ≡ true → is_listed (names_in (context_of bank hs)) x ≡ true
  part_inside hs fs (Part.ProductDomain y r) h x l = l
  part_inside hs fs (Part.ProductRest b u) h x l = one_inside hs fs b None h x l
  part_inside hs fs (Part.FunctionDomain y r p) h x l = l
  part_inside hs fs (Part.FunctionRest b) h x l = one_inside hs fs b None h x l
  part_inside hs fs (Part.DefinitionKind y v t) h x l = l
  part_inside hs fs (Part.DefinitionValue y A t) h x l = l
  part_inside hs fs (Part.DefinitionRest b v) h x l = one_inside hs fs b (Some v) h x l
  part_inside hs fs (Part.Function a as_) h x l = l
  part_inside hs fs (Part.Argument f B as_) h x l = l
  part_inside hs fs (Part.CastKind t) h x l = l
  part_inside hs fs (Part.CastTerm A) h x l = l

  pub frames_inside : (hs : List Hypothesis) (fs : List Frame) → FramesHold bank e hs fs → (x : Name) → is_listed (names_in e.outer) x ≡ true → is_listed (names_in (context_of bank hs)) x ≡ true
  frames_inside hs [] h x l = along (λ z. is_listed (names_in z) x ≡ true) (sym h) l
  frames_inside hs (f ∷ fs) h x l = part_inside hs fs f.part h.2 x (frames_inside (outside f.part hs) fs h.3 x l)

  one_bound : (hs : List Hypothesis) (fs : List Frame) (b : Bound) (o : Option TermId) → IsBound bank e hs fs b o → AreBound (spot_of bank (shorter hs) fs) →
      AreBound (record { binders = bind (text_of bank b.binder) (text_of bank b.hypothesis) (binders_of bank fs); context = context_of bank hs })
  one_bound hs fs b o h k =
      along (λ z. AreBound (record { binders = bind (text_of bank b.binder) (text_of bank b.hypothesis) (binders_of bank fs); context = z })) (sym (bound_context hs fs b o h))
      (bound_under (spot_of bank (shorter hs) fs) (text_of bank b.binder) (last_of b o) k)

  part_bound : (hs : List Hypothesis) (fs : List Frame) (p : Part) → PartBinds bank e hs fs p → AreBound (spot_of bank (outside p hs) fs) → AreBound (record { binders = binders_with bank p (binders_of bank fs); context = context_of bank hs })
  part_bound hs fs (Part.ProductDomain y r) h k = k
  part_bound hs fs (Part.ProductRest b u) h k = one_bound hs fs b None h k
  part_bound hs fs (Part.FunctionDomain y r p) h k = k
  part_bound hs fs (Part.FunctionRest b) h k = one_bound hs fs b None h k
  part_bound hs fs (Part.DefinitionKind y v t) h k = k
  part_bound hs fs (Part.DefinitionValue y A t) h k = k
  part_bound hs fs (Part.DefinitionRest b v) h k = one_bound hs fs b (Some v) h k
  part_bound hs fs (Part.Function a as_) h k = k
  part_bound hs fs (Part.Argument f B as_) h k = k
  part_bound hs fs (Part.CastKind t) h k = k
  part_bound hs fs (Part.CastTerm A) h k = k

  pub frames_bound : (hs : List Hypothesis) (fs : List Frame) → FramesHold bank e hs fs → AreBound (spot_of bank hs fs)
  frames_bound hs [] h = tt
  frames_bound hs (f ∷ fs) h = part_bound hs fs f.part h.2 (frames_bound (outside f.part hs) fs h.3)

-- ---- a store that has grown

-- a rest is one of a product
under_keeps : (s s1 : Store) → Keeps s s1 → IsStore s → IsStore s1 → (xs : List Name) (B : Tree) → StandsUnder s xs 1 B → StandsUnder s1 xs 1 B
under_keeps s s1 k i j xs B h =
    rest_stands s1 j xs [] (Sort Universe.Base) B (k xs (Prod [] (Sort Universe.Base) B) (prod_stands s i xs [] (Sort Universe.Base) B (good_stands s i [] xs (Sort Universe.Base) tt) h))

product_keeps : (s s1 : Store) → Keeps s s1 → IsStore s → IsStore s1 → (xs : List Name) (p : Option (Tree × Tree)) → ProductStands s xs p → ProductStands s1 xs p
product_keeps s s1 k i j xs None h = tt
product_keeps s s1 k i j xs (Some p) h = (k xs p.0 h.0, under_keeps s s1 k i j xs p.1 h.1)

part_keeps : (s s1 : Store) → Keeps s s1 → IsStore s → IsStore s1 → (xs : List Name) (p : tree.Part) → PartStands s xs p → PartStands s1 xs p
part_keeps s s1 k i j xs (tree.product_domain x B) h = tt
part_keeps s s1 k i j xs (tree.product_rest x y A u) h = tt
part_keeps s s1 k i j xs (tree.function_domain x t p) h = product_keeps s s1 k i j xs p h
part_keeps s s1 k i j xs (tree.function_rest x y A) h = tt
part_keeps s s1 k i j xs (tree.definition_kind x v t) h = tt
part_keeps s s1 k i j xs (tree.definition_value x A t) h = option_keeps s s1 k xs A h
part_keeps s s1 k i j xs (tree.definition_rest x y v A) h = tt
part_keeps s s1 k i j xs (tree.applied_function a as_) h = tt
part_keeps s s1 k i j xs (tree.applied_argument f B as_) h = (k xs f h.0, under_keeps s s1 k i j xs B h.1, h.2)
part_keeps s s1 k i j xs (tree.cast_kind t) h = tt
part_keeps s s1 k i j xs (tree.cast_term A) h = k xs A h

pub stand_keeps : (s s1 : Store) → Keeps s s1 → IsStore s → IsStore s1 → (vs : List Waiting) → AllStand s vs → AllStand s1 vs
stand_keeps s s1 k i j [] h = tt
stand_keeps s s1 k i j (v ∷ vs) h = (option_keeps s s1 k (names_in v.spot.context) v.wanted h.0, part_keeps s s1 k i j (names_in v.spot.context) v.part h.1, stand_keeps s s1 k i j vs h.2)
