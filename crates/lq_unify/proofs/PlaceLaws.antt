-- What is given for hypotheses, and what is known of parts.
use Rattle.std.proofs.Common.{◌≡◌, ◌∙◌, ℕ, Bool, true, false, eqb, eqb-true, eq-eqb, refl, sym, ap, ap₂, arith, List, [], ◌∷◌, Option, Some, None}
use Rattle.std.proofs.Common.{subst as along}
use Rattle.std.specs.Prelude.{option_map, if◌then◌else◌, ◌==◌, cond, IfSome}
use Rattle.std.specs.Map.{lookup}
use Rattle.indexmap.specs.IndexMap.{insert_entry}
use Rattle.lq_trees.specs.Tree.{Name, Tree, same_name, value_of}
use Rattle.lq_trees.specs.Tree.Tree.{Var}
use Rattle.lq_terms.specs.declared.nodes.NameId.{NameId}
use Rattle.lq_terms.specs.declared.nodes.TermId.{TermId}
use Rattle.lq_terms.specs.Terms.{Terms, HasName, HasTerm, Grows, text_of, tree_of}
use Rattle.lq_solving.proofs.InstanceLaws.{same_is, is_same}
use Rattle.lq_unify.specs.Solutions.{is_barred, solution, or_itself, places_of, place_in, HasPlaces, IsSolved, AreSolved}

-- no two names have one text
abbrev pub NamesApart : Terms → Type 0
NamesApart bank = (x y : NameId) → HasName bank x → HasName bank y → text_of bank x ≡ text_of bank y → x ≡ y

pub same_place : (bank : Terms) → NamesApart bank → (x y : NameId) → HasName bank x → HasName bank y → same_name (text_of bank x) (text_of bank y) ≡ (x.place == y.place)
same_place bank apart x y h k = either (same_name (text_of bank x) (text_of bank y)) (x.place == y.place) refl refl
  where
    no : true ≡ false → ⊥
    no p = grind arith

    either : (a b : Bool) → same_name (text_of bank x) (text_of bank y) ≡ a → (x.place == y.place) ≡ b → a ≡ b
    either true true e f = refl
    either false false e f = refl
    either true false e f =
        let same : x ≡ y = apart x y h k (same_is (text_of bank x) (text_of bank y) e) in
        absurd (no (sym (eq-eqb x.place y.place (ap (λ z. z.place) same)) ∙ f))
    either false true e f =
        let same : x.place ≡ y.place = eqb-true x.place y.place f in
        absurd (no (sym (ap (λ n. same_name (text_of bank x) (text_of bank (record { place = n }))) (sym same) ∙ is_same (text_of bank x)) ∙ e))

-- what a map finds is what the list over texts gives
module _ (bank : Terms) (apart : NamesApart bank) (x : NameId) (h : HasName bank x) (test : NameId → Bool) (is_place : (y : NameId) → test y ≡ (x.place == y.place)) where
  pub found_place : (es : List (NameId × TermId)) → HasPlaces bank es → option_map (tree_of bank) (lookup test es) ≡ value_of (places_of bank es) (text_of bank x)
  found_place [] k = refl
  found_place (e ∷ es) k = by (test e.0) (same_name (text_of bank x) (text_of bank e.0)) (is_place e.0 ∙ sym (same_place bank apart x e.0 h k.0.0)) (found_place es k.1)
    where
      by : (a b : Bool) → a ≡ b → option_map (tree_of bank) (lookup test es) ≡ value_of (places_of bank es) (text_of bank x) →
          option_map (tree_of bank) (cond a (Some e.1) (lookup test es)) ≡ (if b then Some (tree_of bank e.1) else value_of (places_of bank es) (text_of bank x))
      by true true i f = refl
      by false false i f = f
      by true false i f = absurd (grind arith)
      by false true i f = absurd (grind arith)

  pub found_has : (es : List (NameId × TermId)) (t : TermId) → HasPlaces bank es → lookup test es ≡ Some t → HasTerm bank t
  found_has [] t k e = absurd (grind arith)
  found_has (d ∷ es) t k e = by (test d.0) e (λ f. found_has es t k.1 f)
    where
      by : (b : Bool) → cond b (Some d.1) (lookup test es) ≡ Some t → (lookup test es ≡ Some t → HasTerm bank t) → HasTerm bank t
      by true f ih = along (HasTerm bank) (ap (λ o. elim o [ Some z ↦ z | None ↦ t ]) f) k.0.1
      by false f ih = ih f

pub some_given : (stays : Bool) (x : Name) (u : Tree) (o : Option Tree) → Some u ≡ o → Some u ≡ or_itself stays x o
unfolding or_itself
some_given stays x u (Some v) e = e
some_given stays x u None e = absurd (grind arith)

pub none_stays : (stays : Bool) (x : Name) (u : Tree) (o : Option Tree) → None ≡ o → stays ≡ true → u ≡ Var x → Some u ≡ or_itself stays x o
unfolding or_itself
none_stays true x u None e s q = ap Some q
none_stays true x u (Some v) e s q = absurd (grind arith)
none_stays false x u o e s q = absurd (grind arith)

pub none_ends : (stays : Bool) (x : Name) (o : Option Tree) → None ≡ o → stays ≡ false → None ≡ or_itself stays x o
unfolding or_itself
none_ends false x None e s = refl
none_ends false x (Some v) e s = absurd (grind arith)
none_ends true x o e s = absurd (grind arith)

pub barred_some : (o : Option ℕ) (b n : ℕ) → o ≡ Some b → eqb b n ≡ is_barred o n
unfolding is_barred
barred_some o b n e = ap (λ z. is_barred z n) (sym e)

pub barred_none : (o : Option ℕ) (n : ℕ) → o ≡ None → false ≡ is_barred o n
unfolding is_barred
barred_none o n e = ap (λ z. is_barred z n) (sym e)

-- ---- what is known

pub if_some : {A : Type 0} {P : A → Type 0} (o : Option A) → ((u : A) → o ≡ Some u → P u) → IfSome o P
if_some (Some u) h = h u refl
if_some None h = tt

place_is : (t u : TermId) → (t.place == u.place) ≡ true → t ≡ u
place_is t u e = ap (λ n. record { place = n }) (eqb-true t.place u.place e)

module _ (bank : Terms) (k : Option ℕ) (stays : Bool) (es : List (NameId × TermId)) where
  pub found_known : (t : TermId) (test : TermId → Bool) → ((u : TermId) → test u ≡ (t.place == u.place)) → (known : List (TermId × TermId)) (u : TermId) → AreSolved bank k stays es known → lookup test known ≡ Some u → IsSolved bank k stays es (t, u)
  found_known t test is [] u h e = absurd (grind arith)
  found_known t test is (d ∷ known) u h e = by (test d.0) (is d.0) e (λ f. found_known t test is known u h.1 f)
    where
      by : (b : Bool) → b ≡ (t.place == d.0.place) → cond b (Some d.1) (lookup test known) ≡ Some u → (lookup test known ≡ Some u → IsSolved bank k stays es (t, u)) → IsSolved bank k stays es (t, u)
      by true p f ih =
          along (λ z. IsSolved bank k stays es (t, z)) (ap (λ o. elim o [ Some x ↦ x | None ↦ u ]) f)
          (along (λ z. IsSolved bank k stays es (z, d.1)) (sym (place_is t d.0 (sym p))) h.0)
      by false p f ih = ih f

  pub noted : (eq : TermId → TermId → Bool) → ((x y : TermId) → eq x y ≡ (x.place == y.place)) → (known : List (TermId × TermId)) (t u : TermId) → AreSolved bank k stays es known → IsSolved bank k stays es (t, u) →
      AreSolved bank k stays es (insert_entry eq known t u)
  noted eq is [] t u h n = (n, tt)
  noted eq is (d ∷ known) t u h n = by (eq t d.0) (is t d.0) (noted eq is known t u h.1 n)
    where
      by : (b : Bool) → b ≡ (t.place == d.0.place) → AreSolved bank k stays es (insert_entry eq known t u) → AreSolved bank k stays es (if b then (d.0, u) ∷ known else d ∷ insert_entry eq known t u)
      by true p ih = (along (λ z. IsSolved bank k stays es (z, u)) (place_is t d.0 (sym p)) n, h.1)
      by false p ih = (h.0, ih)

-- ---- in a bank that has grown

module _ (old new : Terms) (g : Grows old new) where
  pub places-grown : (es : List (NameId × TermId)) → HasPlaces old es → places_of new es ≡ places_of old es
  places-grown [] h = refl
  places-grown (e ∷ es) h = ap₂ (λ p ps. p ∷ ps) (ap₂ (λ x t. (x, t)) (g.text e.0 h.0.0) (g.tree e.1 h.0.1)) (places-grown es h.1)

  pub HasPlaces-grown : (es : List (NameId × TermId)) → HasPlaces old es → HasPlaces new es
  HasPlaces-grown [] h = tt
  HasPlaces-grown (e ∷ es) h = ((omega (arith, h.0.0, g.names), omega (arith, h.0.1, g.nodes)), HasPlaces-grown es h.1)

  pub solution-grown : (k : Option ℕ) (stays : Bool) (es : List (NameId × TermId)) (t : TermId) → HasPlaces old es → HasTerm old t → solution k (place_in new stays es) (tree_of new t) ≡ solution k (place_in old stays es) (tree_of old t)
  solution-grown k stays es t h i = ap₂ (λ ps T. solution k (λ x. or_itself stays x (value_of ps x)) T) (places-grown es h) (g.tree t i)

  pub IsSolved-grown : (k : Option ℕ) (stays : Bool) (es : List (NameId × TermId)) (e : TermId × TermId) → HasPlaces old es → IsSolved old k stays es e → IsSolved new k stays es e
  IsSolved-grown k stays es e h i = record {
    whole = omega (arith, i.whole, g.nodes);
    has = omega (arith, i.has, g.nodes);
    is = solution-grown k stays es e.0 h i.whole ∙ i.is ∙ ap Some (sym (g.tree e.1 i.has));
  }

  pub AreSolved-grown : (k : Option ℕ) (stays : Bool) (es : List (NameId × TermId)) (known : List (TermId × TermId)) → HasPlaces old es → AreSolved old k stays es known → AreSolved new k stays es known
  AreSolved-grown k stays es [] h i = tt
  AreSolved-grown k stays es (d ∷ known) h i = (IsSolved-grown k stays es d h i.0, AreSolved-grown k stays es known h i.1)
