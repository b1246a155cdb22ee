-- What is given for the hypotheses of a context.
use Rattle.std.proofs.Common.{◌≡◌, ◌≤◌, ◌<◌, ◌+◌, ◌-◌, ◌∙◌, ℕ, zero, suc, Bool, true, false, eqb-true, refl, sym, ap, ap₂, arith, List, [], ◌∷◌, length, get_or, drop, Option, Some, None}
use Rattle.std.proofs.Common.{subst as along}
use Rattle.std.proofs.Math.Path.{fun_ext}
use Rattle.std.specs.Prelude.{if◌then◌else◌, ◌==◌}
use Rattle.std.specs.List.{AllByRecursion}
use Rattle.std.proofs.lemmas.List.{drop_more}
use Rattle.indexmap.specs.IndexMap.{insert_entry}
use Rattle.lq_trees.specs.Tree.{Name, Tree, same_name, value_of}
use Rattle.lq_trees.specs.Change.{put}
use Rattle.lq_trees.specs.Index.{Within}
use Rattle.lq_terms.specs.declared.nodes.Hypothesis.{Hypothesis}
use Rattle.lq_terms.specs.declared.nodes.NameId.{NameId}
use Rattle.lq_terms.specs.declared.nodes.TermId.{TermId}
use Rattle.lq_terms.specs.Terms.{Terms, HasName, HasTerm, text_of, tree_of}
use Rattle.lq_terms.specs.Changes.{bindings, HasHypothesis}
use Rattle.lq_solving.proofs.InstanceLaws.{same_is}
use Rattle.lq_unify.specs.Solutions.{solution, or_itself, places_of, place_in, HasPlaces, AreClosed}
use Rattle.lq_unify.proofs.PlaceLaws.{NamesApart}
use Rattle.lq_unify.proofs.SpineLaws.{arg_has}
use Rattle.lq_unify.proofs.FilledLaws.{AllClosed, put_solution}

-- one hypothesis more, ahead of the others
pub binding_more : (bank : Terms) (hs : List Hypothesis) (ts : List TermId) (i : ℕ) (d : Hypothesis) (e : TermId) (x : Name) → i < length hs → i < length ts →
    value_of (bindings bank (drop i hs) (drop i ts)) x ≡ (if same_name x (text_of bank (get_or hs i d).name) then Some (tree_of bank (get_or ts i e)) else value_of (bindings bank (drop (i + 1) hs) (drop (i + 1) ts)) x)
binding_more bank hs ts i d e x h k = ap₂ (λ a b. value_of (bindings bank a b) x) (drop_more hs i d h) (drop_more ts i e k)

module _ (bank : Terms) (apart : NamesApart bank) (eq : NameId → NameId → Bool) (is_place : (x y : NameId) → eq x y ≡ (x.place == y.place)) where
  place_is : (x y : NameId) → (x.place == y.place) ≡ true → x ≡ y
  place_is x y e = ap (λ n. record { place = n }) (eqb-true x.place y.place e)

  -- what is put on counts, and what was there for other names
  pub inserted : (es : List (NameId × TermId)) (k : NameId) (v : TermId) (x : Name) → HasPlaces bank es → HasName bank k →
      value_of (places_of bank (insert_entry eq es k v)) x ≡ (if same_name x (text_of bank k) then Some (tree_of bank v) else value_of (places_of bank es) x)
  inserted [] k v x h n = refl
  inserted (e ∷ es) k v x h n = by (eq k e.0) refl (inserted es k v x h.1 n)
    where
      same : (b c : Bool) (o : Option Tree) → b ≡ c → (if b then Some (tree_of bank v) else o) ≡ (if c then Some (tree_of bank v) else (if b then Some (tree_of bank e.1) else o))
      same true true o q = refl
      same false false o q = refl
      same true false o q = absurd (grind arith)
      same false true o q = absurd (grind arith)

      other : (b c : Bool) (o : Option Tree) → (b ≡ true → c ≡ true → ⊥) → (if b then Some (tree_of bank e.1) else (if c then Some (tree_of bank v) else o)) ≡ (if c then Some (tree_of bank v) else (if b then Some (tree_of bank e.1) else o))
      other true false o q = refl
      other false c o q = refl
      other true true o q = absurd (q refl refl)

      by : (a : Bool) → eq k e.0 ≡ a → value_of (places_of bank (insert_entry eq es k v)) x ≡ (if same_name x (text_of bank k) then Some (tree_of bank v) else value_of (places_of bank es) x) →
          value_of (places_of bank (if a then (e.0, v) ∷ es else e ∷ insert_entry eq es k v)) x ≡ (if same_name x (text_of bank k) then Some (tree_of bank v) else (if same_name x (text_of bank e.0) then Some (tree_of bank e.1) else value_of (places_of bank es) x))
      by true q ih =
          let p : k ≡ e.0 = place_is k e.0 (sym (is_place k e.0) ∙ q) in
          same (same_name x (text_of bank e.0)) (same_name x (text_of bank k)) (value_of (places_of bank es) x) (ap (λ z. same_name x (text_of bank z)) (sym p))
      by false q ih =
          ap (λ o. if same_name x (text_of bank e.0) then Some (tree_of bank e.1) else o) ih
          ∙ other (same_name x (text_of bank e.0)) (same_name x (text_of bank k)) (value_of (places_of bank es) x) (λ a c. clash (sym (same_is x (text_of bank e.0) a) ∙ same_is x (text_of bank k) c))
        where
          clash : text_of bank e.0 ≡ text_of bank k → ⊥
          clash r =
              let s : e.0 ≡ k = apart e.0 k h.0.0 n r in
              no (sym q ∙ ap (eq k) s ∙ is_place k k ∙ own k.place)
            where
              no : false ≡ true → ⊥
              no t = grind arith

              own : (m : ℕ) → (m == m) ≡ true
              own m = grind arith

  pub inserted_has : (es : List (NameId × TermId)) (k : NameId) (v : TermId) → HasPlaces bank es → HasName bank k → HasTerm bank v → HasPlaces bank (insert_entry eq es k v)
  inserted_has [] k v h n t = ((n, t), tt)
  inserted_has (e ∷ es) k v h n t = by (eq k e.0) (inserted_has es k v h.1 n t)
    where
      by : (a : Bool) → HasPlaces bank (insert_entry eq es k v) → HasPlaces bank (if a then (e.0, v) ∷ es else e ∷ insert_entry eq es k v)
      by true ih = ((h.0.0, t), h.1)
      by false ih = (h.0, ih)

  -- the loop from the last hypothesis to the first
  module _ (hs : List Hypothesis) (ts : List TermId) (old new : List (NameId × TermId)) (i : ℕ) (d : Hypothesis) (e : TermId) (some : 0 < i) (within : i ≤ length hs) (many : length hs ≡ length ts)
      (context : AllByRecursion (HasHypothesis bank) hs) (terms : AllByRecursion (HasTerm bank) ts) (has : HasPlaces bank old)
      (put_on : new ≡ insert_entry eq old (get_or hs (i - 1) d).name (get_or ts (i - 1) e)) where
    name_has : HasName bank (get_or hs (i - 1) d).name
    name_has = at hs context (i - 1) (omega (arith, some, within))
      where
        at : (gs : List Hypothesis) → AllByRecursion (HasHypothesis bank) gs → (j : ℕ) → j < length gs → HasName bank (get_or gs j d).name
        at [] h j l = absurd (omega (arith, l))
        at (g ∷ gs) h zero l = h.0
        at (g ∷ gs) h (suc j) l = at gs h.1 j (omega (arith, l))

    pub given_has : HasPlaces bank new
    given_has = along (HasPlaces bank) (sym put_on) (inserted_has old (get_or hs (i - 1) d).name (get_or ts (i - 1) e) has name_has (arg_has bank ts terms (i - 1) e (omega (arith, some, within, many))))

    pub given_more : ((x : Name) → value_of (places_of bank old) x ≡ value_of (bindings bank (drop i hs) (drop i ts)) x) → (x : Name) →
        value_of (places_of bank new) x ≡ value_of (bindings bank (drop (i - 1) hs) (drop (i - 1) ts)) x
    given_more are x =
        ap (λ es. value_of (places_of bank es) x) put_on
        ∙ inserted old (get_or hs (i - 1) d).name (get_or ts (i - 1) e) x has name_has
        ∙ ap (λ o. if same_name x (text_of bank (get_or hs (i - 1) d).name) then Some (tree_of bank (get_or ts (i - 1) e)) else o)
        (are x ∙ ap (λ j. value_of (bindings bank (drop j hs) (drop j ts)) x) next)
        ∙ sym (binding_more bank hs ts (i - 1) d e x (omega (arith, some, within)) (omega (arith, some, within, many)))
      where
        next : i ≡ i - 1 + 1
        next = omega (arith, some)

-- terms for hypotheses that are closed
pub bindings_closed : (bank : Terms) (hs : List Hypothesis) (ts : List TermId) → AreClosed bank ts → AllClosed (bindings bank hs ts)
bindings_closed bank [] ts h x v e = absurd (grind arith)
bindings_closed bank (y ∷ hs) [] h x v e = absurd (grind arith)
bindings_closed bank (y ∷ hs) (t ∷ ts) h x v e = by (same_name x (text_of bank y.name)) e (λ f. bindings_closed bank hs ts h.1 x v f)
  where
    by : (b : Bool) → (if b then Some (tree_of bank t) else value_of (bindings bank hs ts) x) ≡ Some v → (value_of (bindings bank hs ts) x ≡ Some v → Within 0 v) → Within 0 v
    by true f ih = along (Within 0) (ap (λ o. elim o [ Some z ↦ z | None ↦ v ]) f) h.0
    by false f ih = ih f

-- the answer with what is given is the body with it put in
pub filled_is : (bank : Terms) (hs : List Hypothesis) (ts : List TermId) (es : List (NameId × TermId)) (T : Tree) → AreClosed bank ts → ((x : Name) → value_of (places_of bank es) x ≡ value_of (bindings bank hs ts) x) →
    solution None (place_in bank true es) T ≡ Some (put (bindings bank hs ts) 0 T)
filled_is bank hs ts es T h e =
    ap (λ p. solution None p T) (fun_ext (λ x. ap (or_itself true x) (e x))) ∙ put_solution (bindings bank hs ts) (bindings_closed bank hs ts h) 0 T

pub is_some_not : (o : Option Tree) (T : Tree) → None ≡ o → o ≡ Some T → ⊥
is_some_not o T e f = none (e ∙ f)
  where
    none : ◌≡◌ {A = Option Tree} None (Some T) → ⊥
    none g = grind arith

pub term_is : (T U : Tree) (o : Option Tree) → Some T ≡ o → o ≡ Some U → T ≡ U
term_is T U o e f = ap (λ p. elim p [ Some x ↦ x | None ↦ T ]) (e ∙ f)
