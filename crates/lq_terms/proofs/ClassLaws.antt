-- What a bank keeps of the classes of its terms.
use Rattle.std.proofs.Common.{◌≡◌, ◌↔◌, ◌∙◌, ◌⊎◌, inl, inr, Bool, ℕ, zero, suc, ◌+◌, ◌-◌, ◌<◌, ◌≤◌, List, [], ◌∷◌, ◌++◌, length, map, take, get_or, slice_get, Some, IsTrue, refl, sym, ap, subst, arith}
use Rattle.std.specs.Bool.{Decides}
use Rattle.std.proofs.lemmas.List.{get_or_append_left, length-map, length-take, map-append, take-map, get_or-take}
use Rattle.std.proofs.lemmas.Option.{slice_get-map, slice_get_within, slice_get-get_or, get_or_from_slice_get, same_Some}
use Rattle.std.specs.Option.{option_map}
use Rattle.lq_trees.specs.Same.{Same, nameless}
use Rattle.lq_terms.specs.declared.nodes.TermId.{TermId}
use Rattle.lq_terms.specs.declared.nodes.Node.{Node}
use Rattle.lq_terms.specs.declared.classes.Shape.{Shape}
use Rattle.lq_terms.specs.Terms.{Terms, HasName, HasTerm, HasParts, EachPart, text_of, tree_of, node_tree}
use Rattle.lq_terms.specs.Shapes.{AreDistinct, shape_by}
use Rattle.lq_terms.specs.Sound.{Entry, IsSound, AreClassed, bank_of, class_at}
use Rattle.lq_terms.proofs.Trees.{slice_get-push, EachPart-weaker}
use Rattle.lq_terms.proofs.Shapes.{node_alike, node_shape, shape_by-same}
use Rattle.lq_terms.specs.declared.entries.Kept.{Kept}
use Rattle.lq_terms.proofs.Banks.{mapped_from, slice_get-take, node_is, same_text}

-- a term's class is that of its entry
pub class_is : (entries : List Entry) (t : TermId) (e : Entry) → slice_get entries t.place ≡ Some e → class_at entries t ≡ e.1.class
class_is entries t e s = get_or_from_slice_get (map (λ (e : Entry). e.1.class) entries) t.place e.1.class 0 (slice_get-map (λ (e : Entry). e.1.class) entries t.place ∙ ap (option_map (λ (e : Entry). e.1.class)) s)

pub class_kept : (entries : List Entry) (t : TermId) (k : Kept) → slice_get (map (λ (e : Entry). e.1) entries) t.place ≡ Some k → class_at entries t ≡ k.class
class_kept entries t k s =
    let found : (e : Entry) × (slice_get entries t.place ≡ Some e) × (e.1 ≡ k) = mapped_from (λ (e : Entry). e.1) entries t.place k s in
    class_is entries t found.0 found.1 ∙ ap (λ (l : Kept). l.class) found.2

-- each term has an entry
pub entry_of : (entries : List Entry) (t : TermId) → t.place < length entries → (e : Entry) × (slice_get entries t.place ≡ Some e)
entry_of [] t l = absurd (omega arith)
entry_of (e ∷ es) t l = (get_or (e ∷ es) t.place e, slice_get-get_or (e ∷ es) t.place e l)

module _ (entries : List Entry) (e : Entry) where
  pub class-push : (t : TermId) → t.place < length entries → class_at (entries ++ e ∷ []) t ≡ class_at entries t
  class-push t l =
      let inside : t.place < length (map (λ (e : Entry). e.1.class) entries) = omega (arith, length-map entries (λ (e : Entry). e.1.class)) in
      ap (λ (cs : List ℕ). get_or cs t.place 0) (map-append (λ (e : Entry). e.1.class) entries (e ∷ []))
      ∙ get_or_append_left (map (λ (e : Entry). e.1.class) entries) (map (λ (e : Entry). e.1.class) (e ∷ [])) 0 t.place inside

  pub shape-push : (n : Node) → EachPart (λ _. Unit {0}) (λ t. t.place < length entries) n → shape_by (class_at (entries ++ e ∷ [])) n ≡ shape_by (class_at entries) n
  shape-push = shape_by-same (class_at entries) (class_at (entries ++ e ∷ [])) (λ _. Unit {0}) (λ t. t.place < length entries) class-push

-- more shapes
pub AreClassed-wider : (shapes wider : List Shape) (entries : List Entry) → AreDistinct wider → ((i : ℕ) (s : Shape) → slice_get shapes i ≡ Some s → slice_get wider i ≡ Some s) → AreClassed shapes entries → AreClassed wider entries
AreClassed-wider shapes wider entries distinct kept classed = record {
  distinct = distinct;
  classes = λ k e s. kept e.1.class _ (classed.classes k e s);
  counts = classed.counts;
}

-- one more entry
pub AreClassed-push :
    (shapes : List Shape) (entries : List Entry) (e : Entry) → ((k : ℕ) (d : Entry) → slice_get entries k ≡ Some d → EachPart (λ _. Unit {0}) (λ t. t.place < length entries) d.0)
    → EachPart (λ _. Unit {0}) (λ t. t.place < length entries) e.0 → slice_get shapes e.1.class ≡ Some (shape_by (class_at entries) e.0) → e.1.shapes ≡ length shapes
    → AreClassed shapes entries → AreClassed shapes (entries ++ e ∷ [])
AreClassed-push shapes entries e old new stands count classed = record {
  distinct = classed.distinct;
  classes = λ k d s. shape k d (slice_get-push entries e d k s);
  counts = λ j k c d r s l. counted j k c d l (slice_get-push entries e c j r) (slice_get-push entries e d k s);
}
  where
    shape : (k : ℕ) (d : Entry) → (slice_get entries k ≡ Some d) ⊎ ((k ≡ length entries) × (e ≡ d)) → slice_get shapes d.1.class ≡ Some (shape_by (class_at (entries ++ e ∷ [])) d.0)
    shape k d (inl q) = classed.classes k d q ∙ ap Some (sym (shape-push entries e d.0 (old k d q)))
    shape k d (inr q) = subst (λ (f : Entry). slice_get shapes f.1.class ≡ Some (shape_by (class_at (entries ++ e ∷ [])) f.0)) q.1 (stands ∙ ap Some (sym (shape-push entries e e.0 new)))

    below : (c : ℕ) (s : Shape) → slice_get shapes c ≡ Some s → c < e.1.shapes
    below c s r = let l = slice_get_within shapes c s r in omega (arith, count)

    counted : (j k : ℕ) (c d : Entry) → j ≤ k → (slice_get entries j ≡ Some c) ⊎ ((j ≡ length entries) × (e ≡ c)) → (slice_get entries k ≡ Some d) ⊎ ((k ≡ length entries) × (e ≡ d)) → c.1.class < d.1.shapes
    counted j k c d l (inl p) (inl q) = classed.counts j k c d p q l
    counted j k c d l (inl p) (inr q) = subst (λ (f : Entry). c.1.class < f.1.shapes) q.1 (below c.1.class _ (classed.classes j c p))
    counted j k c d l (inr p) (inl q) = let within = slice_get_within entries k d q in absurd (omega (arith, p.0))
    counted j k c d l (inr p) (inr q) = subst (λ (f : Entry). f.1.class < d.1.shapes) p.1 (subst (λ (f : Entry). e.1.class < f.1.shapes) q.1 (below e.1.class _ stands))

-- the entry of a new node, which may have come with a new shape
pub AreClassed-pushed :
    (names : List (List ℕ)) (shapes wider : List Shape) (entries longer : List Entry) (bank : Terms) (e : Entry) → bank_of names entries ≡ bank → longer ≡ entries ++ e ∷ [] → IsSound names entries → HasParts bank e.0
    → slice_get wider e.1.class ≡ Some (shape_by (class_at entries) e.0) → e.1.shapes ≡ length wider → AreClassed wider entries → AreClassed wider longer
AreClassed-pushed names shapes wider entries longer bank e v l sound parts stands count classed =
    let nodes : length bank.nodes ≡ length entries = sym (ap (λ (b : Terms). length b.nodes) v) ∙ length-map entries (λ (e : Entry). e.0) in
    subst (λ (es : List Entry). AreClassed wider es) (sym l)
    (AreClassed-push wider entries e
    (λ k d s. let within = slice_get_within entries k d s in EachPart-weaker (λ x. x.place < length names) (λ _. Unit {0}) (λ t. t.place < k) (λ t. t.place < length entries) (λ x h. tt) (λ t h. omega arith) d.0 (sound.parts k d s))
    (EachPart-weaker (HasName bank) (λ _. Unit {0}) (HasTerm bank) (λ t. t.place < length entries) (λ x h. tt) (λ t h. omega (arith, nodes)) e.0 parts) stands count classed)

pub slice_get-of_take : {X : Type 0} (xs : List X) (n k : ℕ) (x : X) → k < n → slice_get xs k ≡ Some x → slice_get (take n xs) k ≡ Some x
slice_get-of_take [] zero k x l h = h
slice_get-of_take [] (suc n) k x l h = h
slice_get-of_take (y ∷ ys) zero k x l h = absurd (omega arith)
slice_get-of_take (y ∷ ys) (suc n) zero x l h = h
slice_get-of_take (y ∷ ys) (suc n) (suc k) x l h = let m : k < n = omega arith in slice_get-of_take ys n k x m h

-- fewer entries, and the shapes that stood when the last of them was made
module _ (shapes fewer : List Shape) (entries first : List Entry) (m n : ℕ) (f : fewer ≡ take m shapes) (g : first ≡ take n entries) where
  taken : (k : ℕ) (e : Entry) → slice_get first k ≡ Some e → slice_get entries k ≡ Some e
  taken k e s = slice_get-take entries n k e (ap (λ (es : List Entry). slice_get es k) (sym g) ∙ s)

  class-taken : (k : ℕ) (e : Entry) → slice_get first k ≡ Some e → (t : TermId) → t.place < k → class_at first t ≡ class_at entries t
  class-taken k e s t l =
      let within : k < length first = slice_get_within first k e s in
      let inside : t.place < n = omega (arith, ap length g, length-take n entries) in
      ap (λ (es : List Entry). class_at es t) g
      ∙ ap (λ (cs : List ℕ). get_or cs t.place 0) (sym (take-map (λ (e : Entry). e.1.class) n entries))
      ∙ get_or-take n (map (λ (e : Entry). e.1.class) entries) t.place 0 inside

  pub AreClassed-take :
      ((k : ℕ) (e : Entry) → slice_get entries k ≡ Some e → EachPart (λ _. Unit {0}) (λ t. t.place < k) e.0) → ((k : ℕ) (e : Entry) → slice_get first k ≡ Some e → k + 1 ≡ length first → m ≡ e.1.shapes) → AreClassed shapes entries
      → AreClassed fewer first
  AreClassed-take parts count classed = record {
    distinct = λ i j s p q. classed.distinct i j s (whole i s p) (whole j s q);
    classes = λ k e s.
        ap (λ (ss : List Shape). slice_get ss e.1.class) f
        ∙ slice_get-of_take shapes m e.1.class _ (below k e s) (classed.classes k e (taken k e s))
        ∙ ap Some (sym (shape_by-same (class_at entries) (class_at first) (λ _. Unit {0}) (λ t. t.place < k) (class-taken k e s) e.0 (parts k e (taken k e s))));
    counts = λ j k d e r s l. classed.counts j k d e (taken j d r) (taken k e s) l;
  }
    where
      whole : (i : ℕ) (s : Shape) → slice_get fewer i ≡ Some s → slice_get shapes i ≡ Some s
      whole i s p = slice_get-take shapes m i s (ap (λ (ss : List Shape). slice_get ss i) (sym f) ∙ p)

      below : (k : ℕ) (e : Entry) → slice_get first k ≡ Some e → e.1.class < m
      below k e s =
          let within : k < length first = slice_get_within first k e s in
          let last : (d : Entry) × (slice_get first (length first - 1) ≡ Some d) = entry_of first (record { place = length first - 1 }) (omega arith) in
          let count_is : m ≡ last.0.1.shapes = count (length first - 1) last.0 last.1 (omega arith) in
          let small : e.1.class < last.0.1.shapes = classed.counts k (length first - 1) e last.0 (taken k e s) (taken (length first - 1) last.0 last.1) (omega arith) in
          omega arith

-- two terms are the same exactly where they have one class
module _ (names : List (List ℕ)) (shapes : List Shape) (entries : List Entry) (sound : IsSound names entries) (classed : AreClassed shapes entries) where
  abbrev bank : Terms
  bank = bank_of names entries

  -- the shape of a term's node
  shape_is : (t : TermId) (e : Entry) → slice_get entries t.place ≡ Some e → slice_get shapes (class_at entries t) ≡ Some (shape_by (class_at entries) e.0)
  shape_is t e s = ap (slice_get shapes) (class_is entries t e s) ∙ classed.classes t.place e s

  parts_below : (b : ℕ) (t : TermId) (e : Entry) → t.place < suc b → slice_get entries t.place ≡ Some e → EachPart (HasName bank) (λ u. u.place < b) e.0
  parts_below b t e l s = EachPart-weaker (λ x. x.place < length names) (HasName bank) (λ u. u.place < t.place) (λ u. u.place < b) (λ x h. h) (λ u h. omega arith) e.0 (sound.parts t.place e s)

  pub alike_below : (b : ℕ) → b ≤ length entries → (t u : TermId) → t.place < b → u.place < b → class_at entries t ≡ class_at entries u → nameless (tree_of bank t) ≡ nameless (tree_of bank u)
  alike_below zero n t u l m c = absurd (omega arith)
  alike_below (suc b) n t u l m c =
      let d : (e : Entry) × (slice_get entries t.place ≡ Some e) = entry_of entries t (omega arith) in
      let e : (e : Entry) × (slice_get entries u.place ≡ Some e) = entry_of entries u (omega arith) in
      let shapes_are : shape_by (class_at entries) d.0.0 ≡ shape_by (class_at entries) e.0.0 = same_Some _ _ (sym (shape_is t d.0 d.1) ∙ ap (slice_get shapes) c ∙ shape_is u e.0 e.1) in
      sym (ap nameless (node_is names entries sound bank t d.0 refl d.1))
      ∙ node_alike (text_of bank) (tree_of bank) (class_at entries) (HasName bank) (λ v. v.place < b) (λ v w h k. alike_below b (omega arith) v w h k) d.0.0 e.0.0 (parts_below b t d.0 l d.1) (parts_below b u e.0 m e.1) shapes_are
      ∙ ap nameless (node_is names entries sound bank u e.0 refl e.1)

  pub class_below : (b : ℕ) → b ≤ length entries → (t u : TermId) → t.place < b → u.place < b → nameless (tree_of bank t) ≡ nameless (tree_of bank u) → class_at entries t ≡ class_at entries u
  class_below zero n t u l m e = absurd (omega arith)
  class_below (suc b) n t u l m same =
      let d : (e : Entry) × (slice_get entries t.place ≡ Some e) = entry_of entries t (omega arith) in
      let e : (e : Entry) × (slice_get entries u.place ≡ Some e) = entry_of entries u (omega arith) in
      let nodes_are : nameless (node_tree bank d.0.0) ≡ nameless (node_tree bank e.0.0) =
      ap nameless (node_is names entries sound bank t d.0 refl d.1) ∙ same ∙ sym (ap nameless (node_is names entries sound bank u e.0 refl e.1)) in
      let shapes_are : shape_by (class_at entries) d.0.0 ≡ shape_by (class_at entries) e.0.0 =
      node_shape (text_of bank) (tree_of bank) (class_at entries) (HasName bank) (λ v. v.place < b) (λ x y h k. same_text names entries bank refl sound x y h k) (λ v w h k. class_below b (omega arith) v w h k) d.0.0 e.0.0
      (parts_below b t d.0 l d.1) (parts_below b u e.0 m e.1) nodes_are in
      classed.distinct (class_at entries t) (class_at entries u) (shape_by (class_at entries) e.0.0) (shape_is t d.0 d.1 ∙ ap Some shapes_are) (shape_is u e.0 e.1)

  pub same_is : (now : Terms) → bank_of names entries ≡ now → (t u : TermId) → HasTerm now t → HasTerm now u → (b : Bool) → Decides b (class_at entries t ≡ class_at entries u) → IsTrue b ↔ Same (tree_of now t) (tree_of now u)
  same_is now v t u h k b d =
      let count : length now.nodes ≡ length entries = sym (ap (λ (b : Terms). length b.nodes) v) ∙ length-map entries (λ (e : Entry). e.0) in
      subst (λ (c : Terms). IsTrue b ↔ Same (tree_of c t) (tree_of c u)) v
      (λ yes. alike_below (length entries) (omega arith) t u (omega arith) (omega arith) (d.0 yes), λ same. d.1 (class_below (length entries) (omega arith) t u (omega arith) (omega arith) same))
