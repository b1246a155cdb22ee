-- The places of entries, found from the last entry to the first.
use Rattle.std.proofs.Common.{◌≡◌, ◌≤◌, ◌<◌, ◌+◌, ◌-◌, ◌∙◌, ℕ, zero, suc, Bool, true, false, refl, sym, ap, ap₂, arith, List, [], ◌∷◌, length, get_or, drop, Option, Some, None}
use Rattle.std.proofs.Common.{subst as along}
use Rattle.std.proofs.Math.Path.{fun_ext}
use Rattle.std.specs.Prelude.{if◌then◌else◌, ◌==◌}
use Rattle.std.specs.List.{AllByRecursion}
use Rattle.std.proofs.lemmas.List.{drop_more}
use Rattle.std.proofs.Math.ListN.{drop_of_length-le}
use Rattle.indexmap.specs.IndexMap.{insert_entry}
use Rattle.lq_trees.specs.Tree.{Name, Tree, Trees, more, same_name, value_of}
use Rattle.lq_trees.specs.Tree.Tree.{Rel, Var, Sort, Prod, Lam, Let, App, Const, Ind, Ctor, Elim, Evar}
use Rattle.lq_terms.specs.declared.nodes.Hypothesis.{Hypothesis}
use Rattle.lq_terms.specs.declared.nodes.NameId.{NameId}
use Rattle.lq_terms.specs.declared.nodes.Node.{Node}
use Rattle.lq_terms.specs.declared.nodes.TermId.{TermId}
use Rattle.lq_terms.specs.Terms.{Terms, HasName, HasTerm, Grows, IsTerm, node_tree, text_of, tree_of, trees_by}
use Rattle.lq_terms.specs.Changes.{HasHypothesis}
use Rattle.lq_solving.specs.Unification.{place_of}
use Rattle.lq_solving.proofs.InstanceLaws.{same_flip}
use Rattle.lq_unify.specs.Solutions.{solution, or_itself, places_of, place_in, HasPlaces, place_more, names_of}
use Rattle.lq_unify.proofs.PlaceLaws.{NamesApart, places-grown, HasPlaces-grown}
use Rattle.lq_unify.proofs.GivenLaws.{inserted, inserted_has}
use Rattle.lq_unify.proofs.SpineLaws.{arg_has}

-- one entry more, ahead of the others
pub place_ahead : (y : Name) (ys : List Name) (e : Tree) (es : Trees) (x : Name) → place_of (y ∷ ys) (more e es) x ≡ place_more y e (place_of ys es) x
unfolding place_of place_more
place_ahead y ys (Var z) es x = by (same_name z x)
  where
    by : (b : Bool) → elim b as (λ w. Option Tree) [ true ↦ Some (Var y) | false ↦ place_of ys es x ] ≡ (if b then Some (Var y) else place_of ys es x)
    by true = refl
    by false = refl
place_ahead y ys (Rel i) es x = refl
place_ahead y ys (Sort s) es x = refl
place_ahead y ys (Prod n A B) es x = refl
place_ahead y ys (Lam n A t) es x = refl
place_ahead y ys (Let n v A t) es x = refl
place_ahead y ys (App f a) es x = refl
place_ahead y ys (Const c) es x = refl
place_ahead y ys (Ind c) es x = refl
place_ahead y ys (Ctor c k) es x = refl
place_ahead y ys (Elim c s) es x = refl
place_ahead y ys (Evar n ts) es x = refl

-- an entry that is no hypothesis changes nothing
pub other_entry : (bank : Terms) (node : Node) (t : TermId) (y : Name) (others : Name → Option Tree) (x : Name) → node_tree bank node ≡ tree_of bank t → ((z : NameId) → node ≡ Node.Var z → ⊥) → others x ≡ place_more y (tree_of bank t) others x
unfolding place_more
other_entry bank (Node.Rel i) t y others x e h = ap (λ T. place_more y T others x) e
other_entry bank (Node.Var z) t y others x e h = absurd (h z refl)
other_entry bank (Node.Sort s) t y others x e h = ap (λ T. place_more y T others x) e
other_entry bank (Node.Prod n a b) t y others x e h = ap (λ T. place_more y T others x) e
other_entry bank (Node.Lam n a b) t y others x e h = ap (λ T. place_more y T others x) e
other_entry bank (Node.Let n v a b) t y others x e h = ap (λ T. place_more y T others x) e
other_entry bank (Node.App f a) t y others x e h = ap (λ T. place_more y T others x) e
other_entry bank (Node.Const c) t y others x e h = ap (λ T. place_more y T others x) e
other_entry bank (Node.Ind c) t y others x e h = ap (λ T. place_more y T others x) e
other_entry bank (Node.Ctor c k) t y others x e h = ap (λ T. place_more y T others x) e
other_entry bank (Node.Elim c s) t y others x e h = ap (λ T. place_more y T others x) e
other_entry bank (Node.Evar n ts) t y others x e h = ap (λ T. place_more y T others x) e

module _ (old bank : Terms) (g : Grows old bank) (apart : NamesApart bank) (eq : NameId → NameId → Bool) (is_place : (x y : NameId) → eq x y ≡ (x.place == y.place)) (es new : List (NameId × TermId)) (found : NameId) (t : TermId) (name : NameId) (entry : TermId)
    (has : HasPlaces old es) (found_has : HasName old found) (name_has : HasName old name) (is : tree_of old entry ≡ Var (text_of old found)) (made : IsTerm bank t (Var (text_of old name))) (put_on : new ≡ insert_entry eq es found t) where
  pub placed : (x : Name) → value_of (places_of bank new) x ≡ place_more (text_of old name) (tree_of old entry) (value_of (places_of old es)) x
  unfolding place_more
  placed x =
      ap (λ l. value_of (places_of bank l) x) put_on
      ∙ inserted bank apart eq is_place es found t x (HasPlaces-grown old bank g es has) (omega (arith, found_has, g.names))
      ∙ ap₂ (λ b o. if b then o else value_of (places_of bank es) x) (ap (same_name x) (g.text found found_has) ∙ same_flip x (text_of old found)) (ap Some made.is)
      ∙ ap (λ l. if same_name (text_of old found) x then Some (Var (text_of old name)) else value_of l x) (places-grown old bank g es has)
      ∙ sym (ap (λ T. place_more (text_of old name) T (value_of (places_of old es)) x) is)

  pub placed_has : HasPlaces bank new
  placed_has = along (HasPlaces bank) (sym put_on) (inserted_has bank apart eq is_place es found t (HasPlaces-grown old bank g es has) (omega (arith, found_has, g.names)) made.has)

-- ---- all entries

pub hypothesis_has : (bank : Terms) (hs : List Hypothesis) → AllByRecursion (HasHypothesis bank) hs → (i : ℕ) (d : Hypothesis) → i < length hs → HasName bank (get_or hs i d).name
hypothesis_has bank [] h i d l = absurd (omega (arith, l))
hypothesis_has bank (y ∷ hs) h zero d l = h.0
hypothesis_has bank (y ∷ hs) h (suc i) d l = hypothesis_has bank hs h.1 i d (omega (arith, l))

module _ (bank : Terms) (hs : List Hypothesis) (ts : List TermId) where
  -- the places of the entries from number i on
  abbrev pub places_behind : ℕ → Name → Option Tree
  places_behind i x = place_of (names_of bank (drop i hs)) (trees_by (tree_of bank) (drop i ts)) x

  pub none_behind : (x : Name) → length hs ≤ length hs → None ≡ places_behind (length hs) x
  unfolding place_of
  none_behind x l = ap (λ l1. place_of (names_of bank l1) (trees_by (tree_of bank) (drop (length hs) ts)) x) (sym (drop_of_length-le hs l))

  pub one_behind : (i : ℕ) (d : Hypothesis) (e : TermId) (x : Name) → i < length hs → i < length ts →
      places_behind i x ≡ place_more (text_of bank (get_or hs i d).name) (tree_of bank (get_or ts i e)) (places_behind (i + 1)) x
  one_behind i d e x l k =
      ap₂ (λ a b. place_of (names_of bank a) (trees_by (tree_of bank) b) x) (drop_more hs i d l) (drop_more ts i e k)
      ∙ place_ahead (text_of bank (get_or hs i d).name) (names_of bank (drop (i + 1) hs)) (tree_of bank (get_or ts i e)) (trees_by (tree_of bank) (drop (i + 1) ts)) x

  more_same : (y : Name) (T : Tree) (p q : Name → Option Tree) (x : Name) → ((z : Name) → p z ≡ q z) → place_more y T p x ≡ place_more y T q x
  more_same y T p q x h = ap (λ f. place_more y T f x) (fun_ext h)

  module _ (b1 b2 : Terms) (g : Grows bank b1) (i : ℕ) (d : Hypothesis) (e : TermId) (some : 0 < i) (within : i ≤ length hs) (many : length hs ≡ length ts) (context : AllByRecursion (HasHypothesis bank) hs) (terms : AllByRecursion (HasTerm bank) ts)
      (old new : List (NameId × TermId)) (are : (x : Name) → value_of (places_of b1 old) x ≡ places_behind i x)
      (next : (x : Name) → value_of (places_of b2 new) x ≡ place_more (text_of b1 (get_or hs (i - 1) d).name) (tree_of b1 (get_or ts (i - 1) e)) (value_of (places_of b1 old)) x) where
    pub places_next : (x : Name) → value_of (places_of b2 new) x ≡ places_behind (i - 1) x
    places_next x =
        next x
        ∙ ap₂ (λ y T. place_more y T (value_of (places_of b1 old)) x) (g.text (get_or hs (i - 1) d).name (hypothesis_has bank hs context (i - 1) d (omega (arith, some, within)))) (g.tree (get_or ts (i - 1) e) (arg_has bank ts terms (i - 1) e (omega (arith, some, within, many))))
        ∙ more_same (text_of bank (get_or hs (i - 1) d).name) (tree_of bank (get_or ts (i - 1) e)) (value_of (places_of b1 old)) (places_behind i) x are
        ∙ ap (λ j. place_more (text_of bank (get_or hs (i - 1) d).name) (tree_of bank (get_or ts (i - 1) e)) (places_behind j) x) back
        ∙ sym (one_behind (i - 1) d e x (omega (arith, some, within)) (omega (arith, some, within, many)))
      where
        back : i ≡ i - 1 + 1
        back = omega (arith, some)

-- what is found by places that end there, is the definition's
pub place_is : (f : Name → Option Tree) (bank : Terms) (es : List (NameId × TermId)) (k : Option ℕ) (T : Tree) → ((x : Name) → value_of (places_of bank es) x ≡ f x) → solution k (place_in bank false es) T ≡ solution k f T
unfolding or_itself
place_is f bank es k T h = ap (λ p. solution k p T) (fun_ext (λ x. or_none x (value_of (places_of bank es) x) ∙ h x))
  where
    or_none : (x : Name) (o : Option Tree) → or_itself false x o ≡ o
    or_none x None = refl
    or_none x (Some t) = refl
