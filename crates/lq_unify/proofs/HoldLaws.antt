-- What a term holds as it reads, by its form; and sets of hypotheses that are held.
use Rattle.std.proofs.Common.{◌≡◌, ◌<◌, ◌≤◌, ◌+◌, ◌∙◌, inl, inr, ℕ, zero, suc, Bool, true, false, ◌||◌, eqb, eqb-true, eq-eqb, refl, sym, ap, ap₂, arith, List, [], ◌∷◌, ◌++◌, map, length, take, drop, slice_index_or, Result, Ok, Err, Option, Some, None}
use Rattle.std.proofs.Common.{subst as along}
use Rattle.std.proofs.Math.Path.{fun_ext}
use Rattle.std.proofs.lemmas.List.{take_more, take_all, drop_more, map-append, length-map}
use Rattle.std.specs.Prelude.{◌==◌, cond, if◌then◌else◌, zip, option_map, IfOk}
use Rattle.std.specs.Map.{lookup}
use Rattle.std.specs.List.{AllByRecursion, list_any}
use Rattle.indexmap.specs.IndexMap.{insert_entry}
use Rattle.indexmap.specs.IndexSet.{insert_key}
use Rattle.lq_trees.specs.Tree.{Name, Tree, Trees, same_name, value_of}
use Rattle.lq_trees.specs.Tree.Tree.{Rel, Var, Sort, Prod, Lam, Let, App, Const, Ind, Ctor, Elim, Evar}
use Rattle.lq_trees.specs.Marks.{holds_hypothesis, holds_unknown}
use Rattle.lq_trees.specs.Reading.{entries}
use Rattle.lq_terms.specs.declared.nodes.Hypothesis.{Hypothesis}
use Rattle.lq_terms.specs.declared.nodes.NameId.{NameId}
use Rattle.lq_terms.specs.declared.nodes.NoMemory.{NoMemory}
use Rattle.lq_terms.specs.declared.nodes.Node.{Node}
use Rattle.lq_terms.specs.declared.nodes.TermId.{TermId}
use Rattle.lq_terms.specs.Terms.{Terms, HasName, HasTerm, node_tree, text_of, tree_of, trees_by}
use Rattle.lq_terms.specs.Changes.{bindings}
use Rattle.lq_terms.specs.Contexts.{HasContext}
use Rattle.lq_terms.specs.Telling.{values_in}
use Rattle.lq_evars.specs.Places.{Places, store_of, body_at as kept_at}
use Rattle.lq_solving.specs.Stores.{Variable, Assigned, Store, body_at, names_at, find_value, fill_values, read_values, values_of}
use Rattle.lq_solving.specs.Kept.{EachIsOver, IsOver, IsStore, Sound}
use Rattle.lq_solving.proofs.ReadLaws.{filled_each, open_stays, reads_as_value}
use Rattle.lq_solving.proofs.Later.{reads_prod, reads_lam, reads_let, reads_app, reads_var, reads_sort, reads_const, reads_ind, reads_ctor, reads_eliminator}
use Rattle.lq_evars.specs.Reading.{as_read, IsIn, AllIn, Covers}
use Rattle.lq_evars.specs.Turns.{parts_of as needed_of, with_value}
use Rattle.lq_evars.proofs.Given.{plain_read}
use Rattle.lq_evars.proofs.Rebuilt.{behind_value}
use Rattle.lq_unify.specs.declared.holding.Holding.{Holding}
use Rattle.lq_unify.specs.Parts.{parts_of}
use Rattle.lq_unify.specs.Solutions.{places_of}
use Rattle.lq_unify.specs.Held.{holds_any, one_holds, stands_marked, is_absent}
use Rattle.lq_unify.specs.Holding.{one_marked, tells, marked_through, has_no_place, IsHeld, AreHeld, trees_held, AreGivenKnown, IsValueOf, Known}
use Rattle.lq_unify.proofs.PartLaws.{entries_map}
use Rattle.lq_unify.proofs.UnreadLaws.{reads_rel, entries_filled}
use Rattle.lq_unify.proofs.ExposeSteps.{bindings_zip, context_names, told_is}
use Rattle.lq_unify.proofs.HeldLaws.{put_holds, entries_hold, plain_holds, or_nothing, or_third}

-- ---- sets of hypotheses

pub marked-append : (bank : Terms) (m : Name → Bool) (xs : List NameId) (y : NameId) → one_marked bank m (xs ++ y ∷ []) ≡ (one_marked bank m xs || m (text_of bank y))
marked-append bank m [] y = or_nothing (m (text_of bank y))
marked-append bank m (x ∷ xs) y = ap (λ b. m (text_of bank x) || b) (marked-append bank m xs y) ∙ sym (or_third (m (text_of bank x)) (one_marked bank m xs) (m (text_of bank y)))

name_is : (x y : NameId) → (x.place == y.place) ≡ true → x ≡ y
name_is x y e = ap (λ n. record { place = n }) (eqb-true x.place y.place e)

module _ (bank : Terms) (eq : NameId → NameId → Bool) (is_place : (x y : NameId) → eq x y ≡ (x.place == y.place)) where
  -- one that is there already tells nothing new
  marked_there : (m : Name → Bool) (xs : List NameId) (y : NameId) → list_any (eq y) xs ≡ true → one_marked bank m xs ≡ (one_marked bank m xs || m (text_of bank y))
  marked_there m [] y e = absurd (grind arith)
  marked_there m (x ∷ xs) y e = by (eq y x) refl e (λ f. marked_there m xs y f)
    where
      twice : (a b : Bool) → (a || b) ≡ (a || b || a)
      twice true b = refl
      twice false true = refl
      twice false false = refl

      by : (b : Bool) → eq y x ≡ b → (b || list_any (eq y) xs) ≡ true → (list_any (eq y) xs ≡ true → one_marked bank m xs ≡ (one_marked bank m xs || m (text_of bank y))) →
          (m (text_of bank x) || one_marked bank m xs) ≡ (m (text_of bank x) || one_marked bank m xs || m (text_of bank y))
      by true p f ih =
          twice (m (text_of bank x)) (one_marked bank m xs)
          ∙ ap (λ z. m (text_of bank x) || one_marked bank m xs || m (text_of bank z)) (sym (name_is y x (sym (is_place y x) ∙ p)))
      by false p f ih = ap (λ b. m (text_of bank x) || b) (ih f) ∙ sym (or_third (m (text_of bank x)) (one_marked bank m xs) (m (text_of bank y)))

  pub marked_insert : (m : Name → Bool) (xs : List NameId) (y : NameId) → one_marked bank m (insert_key eq xs y) ≡ (one_marked bank m xs || m (text_of bank y))
  marked_insert m xs y = by (list_any (eq y) xs) refl
    where
      by : (b : Bool) → list_any (eq y) xs ≡ b → one_marked bank m (if b then xs else xs ++ y ∷ []) ≡ (one_marked bank m xs || m (text_of bank y))
      by true e = marked_there m xs y e
      by false e = marked-append bank m xs y

  pub names_insert : (xs : List NameId) (y : NameId) → AllByRecursion (HasName bank) xs → HasName bank y → AllByRecursion (HasName bank) (insert_key eq xs y)
  names_insert xs y h n = by (list_any (eq y) xs)
    where
      append : (zs : List NameId) → AllByRecursion (HasName bank) zs → AllByRecursion (HasName bank) (zs ++ y ∷ [])
      append [] k = (n, tt)
      append (z ∷ zs) k = (k.0, append zs k.1)

      by : (b : Bool) → AllByRecursion (HasName bank) (if b then xs else xs ++ y ∷ [])
      by true = h
      by false = append xs h

-- so many of the hypotheses, one after the other
pub marked_more : (bank : Terms) (m : Name → Bool) (xs : List NameId) (i : ℕ) (d : NameId) → i < length xs → one_marked bank m (take (i + 1) xs) ≡ (one_marked bank m (take i xs) || m (text_of bank (slice_index_or xs i d)))
marked_more bank m xs i d l = ap (one_marked bank m) (take_more xs i d l) ∙ marked-append bank m (take i xs) (slice_index_or xs i d)

pub name_at : (bank : Terms) (xs : List NameId) (i : ℕ) (d : NameId) → AllByRecursion (HasName bank) xs → i < length xs → HasName bank (slice_index_or xs i d)
name_at bank [] i d h l = absurd (omega (arith, l))
name_at bank (x ∷ xs) zero d h l = h.0
name_at bank (x ∷ xs) (suc i) d h l = name_at bank xs i d h.1 (omega (arith, l))

-- ---- by the form of a term

-- no hypothesis and no variable
abbrev pub IsByForm : Tree → Type 0
IsByForm (Var x) = ⊥
IsByForm (Evar n ts) = ⊥
IsByForm t = Unit {0}

pub by_form : (bank : Terms) (node : Node) (t : TermId) → node_tree bank node ≡ tree_of bank t → ((x : NameId) → node ≡ Node.Var x → ⊥) → ((n : ℕ) (ts : List TermId) → node ≡ Node.Evar n ts → ⊥) → IsByForm (tree_of bank t)
by_form bank (Node.Rel i) t e h k = along IsByForm e tt
by_form bank (Node.Var x) t e h k = absurd (h x refl)
by_form bank (Node.Sort s) t e h k = along IsByForm e tt
by_form bank (Node.Prod x a b) t e h k = along IsByForm e tt
by_form bank (Node.Lam x a b) t e h k = along IsByForm e tt
by_form bank (Node.Let x v a b) t e h k = along IsByForm e tt
by_form bank (Node.App f a) t e h k = along IsByForm e tt
by_form bank (Node.Const x) t e h k = along IsByForm e tt
by_form bank (Node.Ind x) t e h k = along IsByForm e tt
by_form bank (Node.Ctor x i) t e h k = along IsByForm e tt
by_form bank (Node.Elim x s) t e h k = along IsByForm e tt
by_form bank (Node.Evar n ts) t e h k = absurd (k n ts refl)

form_known : (as_ : List Assigned) (t : Tree) (known : List Tree) → IsByForm t → AllIn (needed_of as_ t) known → AllIn (parts_of t) known
unfolding parts_of
form_known as_ (Rel i) known h k = k
form_known as_ (Var x) known h k = absurd h
form_known as_ (Sort s) known h k = k
form_known as_ (Prod x A B) known h k = k
form_known as_ (Lam x A B) known h k = k
form_known as_ (Let x v A B) known h k = k
form_known as_ (App f a) known h k = k
form_known as_ (Const c) known h k = k
form_known as_ (Ind c) known h k = k
form_known as_ (Ctor c i) known h k = k
form_known as_ (Elim c s) known h k = k
form_known as_ (Evar n ts) known h k = absurd h

module _ (k : ℕ) (m : Name → Bool) (vs : List Variable) (as_ : List Assigned) where
  abbrev r : Tree → Tree
  r t = fill_values vs (read_values vs as_) t

  pair_holds : (t u : Tree) → (holds_any k m t || holds_any k m u) ≡ one_holds k m (t ∷ u ∷ [])
  unfolding one_holds
  pair_holds t u = ap (λ b. holds_any k m t || b) (sym (or_nothing (holds_any k m u)))

  pub form_holds : (t : Tree) → IsByForm t → holds_any k m (r t) ≡ one_holds k m (map r (parts_of t))
  unfolding holds_any one_holds parts_of
  form_holds (Rel i) h = ap (holds_any k m) (reads_rel vs as_ i)
  form_holds (Var x) h = absurd h
  form_holds (Sort s) h = ap (holds_any k m) (reads_sort vs as_ s)
  form_holds (Prod x A B) h = ap (holds_any k m) (reads_prod vs as_ x A B) ∙ pair_holds (r A) (r B)
  form_holds (Lam x A B) h = ap (holds_any k m) (reads_lam vs as_ x A B) ∙ pair_holds (r A) (r B)
  form_holds (Let x v A B) h =
      ap (holds_any k m) (reads_let vs as_ x v A B) ∙ or_third (holds_any k m (r v)) (holds_any k m (r A)) (holds_any k m (r B))
      ∙ ap (λ b. holds_any k m (r v) || b) (pair_holds (r A) (r B))
  form_holds (App f a) h = ap (holds_any k m) (reads_app vs as_ f a) ∙ pair_holds (r f) (r a)
  form_holds (Const c) h = ap (holds_any k m) (reads_const vs as_ c)
  form_holds (Ind c) h = ap (holds_any k m) (reads_ind vs as_ c)
  form_holds (Ctor c i) h = ap (holds_any k m) (reads_ctor vs as_ c i)
  form_holds (Elim c s) h = ap (holds_any k m) (reads_eliminator vs as_ c s)
  form_holds (Evar n ts) h = absurd h

  pub name_holds : (x : Name) → holds_any k m (r (Var x)) ≡ m x
  unfolding holds_any
  name_holds x = ap (holds_any k m) (reads_var vs as_ x)

  pub open_holds : (n : ℕ) (ts : Trees) → find_value as_ n ≡ None → holds_any k m (r (Evar n ts)) ≡ (eqb k n || one_holds k m (map r (entries ts)))
  unfolding holds_any
  open_holds n ts e = ap (holds_any k m) (open_stays vs as_ n ts e) ∙ ap (λ b. eqb k n || b) (entries_hold k m (filled_each vs as_ ts) ∙ ap (one_holds k m) (entries_filled vs as_ ts))

  mapped : (f : Tree → Tree) (ys : List Name) (us : List Tree) (x : Name) → value_of (zip ys (map f us)) x ≡ option_map f (value_of (zip ys us) x)
  mapped f [] us x = refl
  mapped f (y ∷ ys) [] x = refl
  mapped f (y ∷ ys) (u ∷ us) x = by (same_name x y) (mapped f ys us x)
    where
      by : (b : Bool) → value_of (zip ys (map f us)) x ≡ option_map f (value_of (zip ys us) x) →
          (if b then Some (f u) else value_of (zip ys (map f us)) x) ≡ option_map f (if b then Some u else value_of (zip ys us) x)
      by true h = refl
      by false h = h

  pub value_holds : Sound vs as_ → (n : ℕ) (b : Tree) (ts : Trees) → find_value as_ n ≡ Some b → EachIsOver vs ts →
      holds_any k m (r (Evar n ts)) ≡ holds_any k (λ x. stands_marked k m x (option_map r (value_of (zip (names_at vs n) (entries ts)) x))) (r b)
  unfolding body_at
  value_holds s n b ts e o =
      ap (holds_any k m) (reads_as_value vs as_ s n b ts e o)
      ∙ put_holds k m (zip (names_at vs n) (entries (filled_each vs as_ ts))) 0 (r b)
      ∙ ap (λ f. holds_any k f (r b))
      (fun_ext (λ x. ap (λ us. stands_marked k m x (value_of (zip (names_at vs n) us) x)) (entries_filled vs as_ ts) ∙ ap (stands_marked k m x) (mapped r (names_at vs n) (entries ts) x)))

-- ---- what is known

module _ (bank : Terms) (s : Store) (k : ℕ) where
  place_is : (t u : TermId) → (t.place == u.place) ≡ true → t ≡ u
  place_is t u e = ap (λ n. record { place = n }) (eqb-true t.place u.place e)

  own_place : (t : TermId) → (t.place == t.place) ≡ true
  own_place t = eq-eqb t.place t.place refl

  module _ (t : TermId) (test : TermId → Bool) (is_place : (u : TermId) → test u ≡ (t.place == u.place)) where
    pub found_holding : (es : List (TermId × Holding)) (h : Holding) → AreHeld bank s k es → lookup test es ≡ Some h → IsHeld bank s k t h
    found_holding [] h r e = absurd (grind arith)
    found_holding (d ∷ es) h r e = by (test d.0) (is_place d.0) e (λ f. found_holding es h r.1 f)
      where
        by : (b : Bool) → b ≡ (t.place == d.0.place) → cond b (Some d.1) (lookup test es) ≡ Some h → (lookup test es ≡ Some h → IsHeld bank s k t h) → IsHeld bank s k t h
        by true p f ih =
            along (λ z. IsHeld bank s k t z) (ap (λ o. elim o [ Some x ↦ x | None ↦ h ]) f)
            (along (λ z. IsHeld bank s k z d.1) (sym (place_is t d.0 (sym p))) r.0)
        by false p f ih = ih f

    pub found_in : (es : List (TermId × Holding)) (h : Holding) → lookup test es ≡ Some h → IsIn (tree_of bank t) (trees_held bank es)
    found_in [] h e = absurd (grind arith)
    found_in (d ∷ es) h e = by (test d.0) (is_place d.0) e (λ f. found_in es h f)
      where
        by : (b : Bool) → b ≡ (t.place == d.0.place) → cond b (Some d.1) (lookup test es) ≡ Some h → (lookup test es ≡ Some h → IsIn (tree_of bank t) (trees_held bank es)) → IsIn (tree_of bank t) (tree_of bank d.0 ∷ trees_held bank es)
        by true p f ih = inl (ap (tree_of bank) (place_is t d.0 (sym p)))
        by false p f ih = inr (ih f)

    -- what is known is found
    pub known_found : (es : List (TermId × Holding)) → AreHeld bank s k es → HasTerm bank t → ((x y : TermId) → HasTerm bank x → HasTerm bank y → tree_of bank x ≡ tree_of bank y → x ≡ y) →
        IsIn (tree_of bank t) (trees_held bank es) → lookup test es ≡ None → ⊥
    known_found [] r h apart i e = absurd i
    known_found (d ∷ es) r h apart i e = by (test d.0) refl e (λ f j. known_found es r.1 h apart j f) i
      where
        here : test d.0 ≡ false → tree_of bank t ≡ tree_of bank d.0 → ⊥
        here p q =
            let same : t ≡ d.0 = apart t d.0 h r.0.part q in
            let found : test d.0 ≡ true = is_place d.0 ∙ ap (λ z. t.place == z.place) (sym same) ∙ own_place t in
            absurd (grind arith)

        by : (b : Bool) → test d.0 ≡ b → ◌≡◌ {A = Option Holding} (cond b (Some d.1) (lookup test es)) None → (lookup test es ≡ None → IsIn (tree_of bank t) (trees_held bank es) → ⊥) → IsIn (tree_of bank t) (tree_of bank d.0 ∷ trees_held bank es) → ⊥
        by true p f ih j = absurd (grind arith)
        by false p f ih (inl q) = here p q
        by false p f ih (inr j) = ih f j

  -- one more is noted
  module _ (eq : TermId → TermId → Bool) (is_place : (x y : TermId) → eq x y ≡ (x.place == y.place)) where
    pub noted_held : (es : List (TermId × Holding)) (t : TermId) (h : Holding) → AreHeld bank s k es → IsHeld bank s k t h → AreHeld bank s k (insert_entry eq es t h)
    noted_held [] t h r n = (n, tt)
    noted_held (d ∷ es) t h r n = by (eq t d.0) (is_place t d.0) (noted_held es t h r.1 n)
      where
        by : (b : Bool) → b ≡ (t.place == d.0.place) → AreHeld bank s k (insert_entry eq es t h) → AreHeld bank s k (if b then (d.0, h) ∷ es else d ∷ insert_entry eq es t h)
        by true p ih = (along (λ z. IsHeld bank s k z h) (place_is t d.0 (sym p)) n, r.1)
        by false p ih = (r.0, ih)

    pub noted_in : (es : List (TermId × Holding)) (t : TermId) (h : Holding) → Covers (tree_of bank t ∷ trees_held bank es) (trees_held bank (insert_entry eq es t h))
    noted_in [] t h x i = i
    noted_in (d ∷ es) t h x i = by (eq t d.0) (is_place t d.0) (noted_in es t h x) i
      where
        by : (b : Bool) → b ≡ (t.place == d.0.place) → (IsIn x (tree_of bank t ∷ trees_held bank es) → IsIn x (trees_held bank (insert_entry eq es t h))) → IsIn x (tree_of bank t ∷ tree_of bank d.0 ∷ trees_held bank es) →
            IsIn x (trees_held bank (if b then (d.0, h) ∷ es else d ∷ insert_entry eq es t h))
        by true p ih (inl e) = inl (e ∙ ap (tree_of bank) (place_is t d.0 (sym p)))
        by true p ih (inr j) = j
        by false p ih (inl e) = inr (ih (inl e))
        by false p ih (inr (inl e)) = inl e
        by false p ih (inr (inr j)) = inr (ih (inr j))

  -- a term without hypotheses and variables holds nothing
  pub nothing_held : (t : TermId) (h : Holding) → HasTerm bank t → holds_hypothesis (tree_of bank t) ≡ false → holds_unknown (tree_of bank t) ≡ false → h.variable ≡ false → h.names.keys ≡ [] → IsHeld bank s k t h
  nothing_held t h has p q v n = record {
    part = has;
    names = along (AllByRecursion (HasName bank)) (sym n) tt;
    is = λ m. ap (holds_any k m) (plain_read s.variables s.values (tree_of bank t) q) ∙ plain_holds k m (tree_of bank t) p q ∙ sym (ap₂ (λ b xs. b || one_marked bank m xs) v n);
  }

  -- ---- a term whose parts are known

  abbrev rs : Tree → Tree
  rs t = as_read s t

  read_parts : (parts : List TermId) → map (λ t. rs (tree_of bank t)) parts ≡ map rs (map (tree_of bank) parts)
  read_parts [] = refl
  read_parts (t ∷ ts) = ap (λ us. rs (tree_of bank t) ∷ us) (read_parts ts)

  module _ (sound : Sound s.variables s.values) (known : List (TermId × Holding)) (t : TermId) (f : Known bank s k known t) where
    pub parts_known : IsByForm (tree_of bank t) → (parts : List TermId) → map (tree_of bank) parts ≡ parts_of (tree_of bank t) → AllIn (map (tree_of bank) parts) (trees_held bank known)
    parts_known h parts e = along (λ us. AllIn us (trees_held bank known)) (sym e) (form_known s.values (tree_of bank t) (trees_held bank known) h f.parts)

    pub form_held : (h : Holding) → IsByForm (tree_of bank t) → (parts : List TermId) → map (tree_of bank) parts ≡ parts_of (tree_of bank t) → AllByRecursion (HasName bank) h.names.keys →
        ((m : Name → Bool) → tells bank m h ≡ (false || one_holds k m (map (λ t. rs (tree_of bank t)) parts))) → IsHeld bank s k t h
    form_held h i parts e names told = record {
      part = f.term.has;
      names = names;
      is = λ m. form_holds k m s.variables s.values (tree_of bank t) i ∙ ap (λ us. one_holds k m (map rs us)) (sym e) ∙ ap (one_holds k m) (sym (read_parts parts)) ∙ sym (told m);
    }

    pub name_held : (h : Holding) (x : NameId) → tree_of bank t ≡ Var (text_of bank x) → AllByRecursion (HasName bank) h.names.keys → ((m : Name → Bool) → tells bank m h ≡ m (text_of bank x)) → IsHeld bank s k t h
    name_held h x e names told = record {
      part = f.term.has;
      names = names;
      is = λ m. ap (λ T. holds_any k m (rs T)) e ∙ name_holds k m s.variables s.values (text_of bank x) ∙ sym (told m);
    }

    module _ (n : ℕ) (ts : List TermId) (is : tree_of bank t ≡ Evar n (trees_by (tree_of bank) ts)) where
      needed_here : AllIn (with_value (find_value s.values n) (entries (trees_by (tree_of bank) ts))) (trees_held bank known)
      needed_here = along (λ T. AllIn (needed_of s.values T) (trees_held bank known)) is f.parts

      pub entries_known : AllIn (map (tree_of bank) ts) (trees_held bank known)
      entries_known = along (λ us. AllIn us (trees_held bank known)) (entries_map bank ts) (behind_value (find_value s.values n) (entries (trees_by (tree_of bank) ts)) (trees_held bank known) needed_here)

      pub value_known : (b : Tree) → find_value s.values n ≡ Some b → IsIn b (trees_held bank known)
      value_known b e = (along (λ o. AllIn (with_value o (entries (trees_by (tree_of bank) ts))) (trees_held bank known)) e needed_here).0

      over : IsOver s.variables (Evar n (trees_by (tree_of bank) ts))
      over = along (IsOver s.variables) is f.term.over

      pub open_held : (h : Holding) → find_value s.values n ≡ None → AllByRecursion (HasName bank) h.names.keys →
          ((m : Name → Bool) → tells bank m h ≡ (eqb k n || one_holds k m (map (λ t. rs (tree_of bank t)) ts))) → IsHeld bank s k t h
      open_held h e names told = record {
        part = f.term.has;
        names = names;
        is = λ m. ap (λ T. holds_any k m (rs T)) is ∙ open_holds k m s.variables s.values n (trees_by (tree_of bank) ts) e
            ∙ ap (λ us. eqb k n || one_holds k m us) (ap (map rs) (entries_map bank ts) ∙ sym (read_parts ts)) ∙ sym (told m);
      }

    -- what is given for the hypotheses of a value is known
    given_in : (hs : List Hypothesis) (ts : List TermId) (x : Name) (T : Tree) (us : List Tree) → value_of (bindings bank hs ts) x ≡ Some T → AllIn (map (tree_of bank) ts) us → IsIn T us
    given_in [] ts x T us e a = absurd (grind arith)
    given_in (y ∷ hs) [] x T us e a = absurd (grind arith)
    given_in (y ∷ hs) (u ∷ ts) x T us e a = by (same_name x (text_of bank y.name)) e (λ g. given_in hs ts x T us g a.1)
      where
        by : (b : Bool) → (if b then Some (tree_of bank u) else value_of (bindings bank hs ts) x) ≡ Some T → (value_of (bindings bank hs ts) x ≡ Some T → IsIn T us) → IsIn T us
        by true g ih = along (λ z. IsIn z us) (ap (λ o. elim o [ Some z ↦ z | None ↦ T ]) g) a.0
        by false g ih = ih g

    module _ (hs : List Hypothesis) (v : TermId) (ts : List TermId) (i : IsValueOf bank s t hs v ts) where
      pub body_known : IsIn (tree_of bank v) (trees_held bank known)
      body_known = value_known i.number ts i.is (tree_of bank v) i.found

      module _ (es : List (NameId × TermId)) (are : (x : Name) → value_of (places_of bank es) x ≡ value_of (bindings bank hs ts) x) where
        pub given_known : AreGivenKnown (places_of bank es) (trees_held bank known)
        given_known x T e = given_in hs ts x T (trees_held bank known) (sym (are x) ∙ e) (entries_known i.number ts i.is)

        zip_is : (x : Name) → value_of (zip (names_at s.variables i.number) (entries (trees_by (tree_of bank) ts))) x ≡ value_of (places_of bank es) x
        zip_is x = ap₂ (λ xs us. value_of (zip xs us) x) i.names (entries_map bank ts) ∙ ap (λ ps. value_of ps x) (sym (bindings_zip bank hs ts)) ∙ sym (are x)

        pub value_held : (hb h : Holding) → IsHeld bank s k v hb → AllByRecursion (HasName bank) h.names.keys → ((m : Name → Bool) → tells bank m h ≡ tells bank (marked_through k m s (places_of bank es)) hb) → IsHeld bank s k t h
        value_held hb h b names told = record {
          part = f.term.has;
          names = names;
          is = λ m. ap (λ T. holds_any k m (rs T)) i.is
              ∙ value_holds k m s.variables s.values sound i.number (tree_of bank v) (trees_by (tree_of bank) ts) i.found (over i.number ts i.is).2
              ∙ ap (λ g. holds_any k g (rs (tree_of bank v))) (fun_ext (λ x. ap (λ o. stands_marked k m x (option_map rs o)) (zip_is x)))
              ∙ b.is (marked_through k m s (places_of bank es)) ∙ sym (told m);
        }

        pub value_if : (hb : Holding) (o : Result Holding NoMemory) → IsHeld bank s k v hb → IfOk o (λ h. AllByRecursion (HasName bank) h.names.keys) →
            IfOk o (λ h. (m : Name → Bool) → tells bank m h ≡ tells bank (marked_through k m s (places_of bank es)) hb) → IfOk o (IsHeld bank s k t)
        value_if hb (Ok h) b names told = value_held hb h b names told
        value_if hb (Err e) b names told = tt

-- ---- values by places

pub value_kept :
    (bank : Terms) (p : Places) → IsStore (store_of bank p) → (t : TermId) (n : ℕ) (ts : List TermId) → values_in bank (kept_at p) n ≡ values_of (store_of bank p) n → (hs : List Hypothesis) (v : TermId) → kept_at p n ≡ Some (hs, v)
    → HasTerm bank v → HasContext bank hs → tree_of bank t ≡ Evar n (trees_by (tree_of bank) ts) → IsOver (store_of bank p).variables (tree_of bank t) → AllByRecursion (HasTerm bank) ts → IsValueOf bank (store_of bank p) t hs v ts
value_kept bank p i t n ts told hs v e has context is over entries =
    let q = told_is bank p i n told hs v e in
    let o : IsOver (store_of bank p).variables (Evar n (trees_by (tree_of bank) ts)) = along (IsOver (store_of bank p).variables) is over in record {
      number = n;
      is = is;
      found = q.0;
      names = q.1;
      value = has;
      context = context_names bank hs context;
      entries = entries;
      as_many = sym (ap length q.1 ∙ length-map hs (λ h. text_of bank h.name)) ∙ sym o.1 ∙ ap length (entries_map bank ts) ∙ length-map ts (tree_of bank);
    }

module _ (bank : Terms) (s : Store) (k : ℕ) (sound : Sound s.variables s.values) (known : List (TermId × Holding)) (t : TermId) (f : Known bank s k known t) (o : Result Holding NoMemory) (names : IfOk o (λ h. AllByRecursion (HasName bank) h.names.keys)) where
  pub open_if : (n : ℕ) (ts : List TermId) → tree_of bank t ≡ Evar n (trees_by (tree_of bank) ts) → find_value s.values n ≡ None →
      IfOk o (λ h. (m : Name → Bool) → tells bank m h ≡ (eqb k n || one_holds k m (map (λ t. as_read s (tree_of bank t)) ts))) → IfOk o (IsHeld bank s k t)
  open_if n ts is e told = by o names told
    where
      by : (q : Result Holding NoMemory) → IfOk q (λ h. AllByRecursion (HasName bank) h.names.keys) → IfOk q (λ h. (m : Name → Bool) → tells bank m h ≡ (eqb k n || one_holds k m (map (λ t. as_read s (tree_of bank t)) ts))) → IfOk q (IsHeld bank s k t)
      by (Ok h) a b = open_held bank s k sound known t f n ts is h e a b
      by (Err x) a b = tt

  pub name_if : (x : NameId) → tree_of bank t ≡ Var (text_of bank x) → IfOk o (λ h. (m : Name → Bool) → tells bank m h ≡ m (text_of bank x)) → IfOk o (IsHeld bank s k t)
  name_if x is told = by o names told
    where
      by : (q : Result Holding NoMemory) → IfOk q (λ h. AllByRecursion (HasName bank) h.names.keys) → IfOk q (λ h. (m : Name → Bool) → tells bank m h ≡ m (text_of bank x)) → IfOk q (IsHeld bank s k t)
      by (Ok h) a b = name_held bank s k sound known t f h x is a b
      by (Err x) a b = tt

  pub form_if : IsByForm (tree_of bank t) → (parts : List TermId) → map (tree_of bank) parts ≡ parts_of (tree_of bank t) →
      IfOk o (λ h. (m : Name → Bool) → tells bank m h ≡ (false || one_holds k m (map (λ t. as_read s (tree_of bank t)) parts))) → IfOk o (IsHeld bank s k t)
  form_if i parts e told = by o names told
    where
      by : (q : Result Holding NoMemory) → IfOk q (λ h. AllByRecursion (HasName bank) h.names.keys) → IfOk q (λ h. (m : Name → Bool) → tells bank m h ≡ (false || one_holds k m (map (λ t. as_read s (tree_of bank t)) parts))) → IfOk q (IsHeld bank s k t)
      by (Ok h) a b = form_held bank s k sound known t f h i parts e a b
      by (Err x) a b = tt

-- ---- loops

pub names_step : (bank : Terms) (m : Name → Bool) (xs : List NameId) (i : ℕ) (d : NameId) (first before after : Bool) → i < length xs → before ≡ (first || one_marked bank m (take i xs)) →
    after ≡ (before || m (text_of bank (slice_index_or xs i d))) → after ≡ (first || one_marked bank m (take (i + 1) xs))
names_step bank m xs i d first before after l e f =
    f ∙ ap (λ b. b || m (text_of bank (slice_index_or xs i d))) e ∙ or_third first (one_marked bank m (take i xs)) (m (text_of bank (slice_index_or xs i d)))
    ∙ ap (λ b. first || b) (sym (marked_more bank m xs i d l))

pub names_end : (bank : Terms) (m : Name → Bool) (xs : List NameId) (i : ℕ) (first before : Bool) → length xs ≤ i → before ≡ (first || one_marked bank m (take i xs)) → before ≡ (first || one_marked bank m xs)
names_end bank m xs i first before l e = e ∙ ap (λ ys. first || one_marked bank m ys) (take_all i xs l)

holds-append : (k : ℕ) (m : Name → Bool) (ts : List Tree) (u : Tree) → one_holds k m (ts ++ u ∷ []) ≡ (one_holds k m ts || holds_any k m u)
unfolding one_holds
holds-append k m [] u = or_nothing (holds_any k m u)
holds-append k m (t ∷ ts) u = ap (λ b. holds_any k m t || b) (holds-append k m ts u) ∙ sym (or_third (holds_any k m t) (one_holds k m ts) (holds_any k m u))

pub parts_step : (k : ℕ) (m : Name → Bool) (f : TermId → Tree) (xs : List TermId) (i : ℕ) (d : TermId) (first before after : Bool) → i < length xs → before ≡ (first || one_holds k m (map f (take i xs))) →
    after ≡ (before || holds_any k m (f (slice_index_or xs i d))) → after ≡ (first || one_holds k m (map f (take (i + 1) xs)))
parts_step k m f xs i d first before after l e g =
    g ∙ ap (λ b. b || holds_any k m (f (slice_index_or xs i d))) e ∙ or_third first (one_holds k m (map f (take i xs))) (holds_any k m (f (slice_index_or xs i d)))
    ∙ ap (λ b. first || b) (sym (ap (one_holds k m) (ap (map f) (take_more xs i d l) ∙ map-append f (take i xs) (slice_index_or xs i d ∷ [])) ∙ holds-append k m (map f (take i xs)) (f (slice_index_or xs i d))))

pub parts_end : (k : ℕ) (m : Name → Bool) (f : TermId → Tree) (xs : List TermId) (i : ℕ) (first before : Bool) → length xs ≤ i → before ≡ (first || one_holds k m (map f (take i xs))) → before ≡ (first || one_holds k m (map f xs))
parts_end k m f xs i first before l e = e ∙ ap (λ ys. first || one_holds k m (map f ys)) (take_all i xs l)

pub part_at : (bank : Terms) (xs : List TermId) (i : ℕ) (d : TermId) → AllByRecursion (HasTerm bank) xs → i < length xs → HasTerm bank (slice_index_or xs i d)
part_at bank [] i d h l = absurd (omega (arith, l))
part_at bank (x ∷ xs) zero d h l = h.0
part_at bank (x ∷ xs) (suc i) d h l = part_at bank xs i d h.1 (omega (arith, l))

-- the flag and the hypotheses of two together
pub both_told : (a p n q : Bool) → (a || p || n || q) ≡ (a || n || (p || q))
both_told true p n q = refl
both_told false true true q = refl
both_told false true false q = refl
both_told false false n q = refl

-- what stands for a hypothesis
pub given_marked : (k : ℕ) (m : Name → Bool) (s : Store) (ps : List (Name × Tree)) (x : Name) (T : Tree) → Some T ≡ value_of ps x → holds_any k m (as_read s T) ≡ marked_through k m s ps x
unfolding stands_marked
given_marked k m s ps x T e = ap (λ o. stands_marked k m x (option_map (as_read s) o)) e

pub itself_marked : (k : ℕ) (m : Name → Bool) (s : Store) (ps : List (Name × Tree)) (x : Name) → None ≡ value_of ps x → m x ≡ marked_through k m s ps x
unfolding stands_marked
itself_marked k m s ps x e = ap (λ o. stands_marked k m x (option_map (as_read s) o)) e

pub has_place : (ps : List (Name × Tree)) (x : Name) (T : Tree) → Some T ≡ value_of ps x → false ≡ has_no_place ps x
unfolding is_absent
has_place ps x T e = ap is_absent e

pub without_place : (ps : List (Name × Tree)) (x : Name) → None ≡ value_of ps x → true ≡ has_no_place ps x
unfolding is_absent
without_place ps x e = ap (λ o. is_absent o) e

pub in_parts : (bank : Terms) (ts : List TermId) (us : List Tree) (i : ℕ) (d : TermId) → AllIn (map (tree_of bank) ts) us → i < length ts → IsIn (tree_of bank (slice_index_or ts i d)) us
in_parts bank [] us i d h l = absurd (omega (arith, l))
in_parts bank (t ∷ ts) us zero d h l = h.0
in_parts bank (t ∷ ts) us (suc i) d h l = in_parts bank ts us i d h.1 (omega (arith, l))

-- the hypotheses that are left
pub first_marked : (bank : Terms) (m : Name → Bool) (xs : List NameId) (i : ℕ) (d : NameId) → i < length xs → m (text_of bank (slice_index_or xs i d)) ≡ true → true ≡ one_marked bank m (drop i xs)
first_marked bank m [] i d l e = absurd (omega (arith, l))
first_marked bank m (x ∷ xs) zero d l e = sym (ap (λ b. b || one_marked bank m xs) e)
first_marked bank m (x ∷ xs) (suc i) d l e = first_marked bank m xs i d (omega (arith, l)) e

pub first_not : (bank : Terms) (m : Name → Bool) (xs : List NameId) (i : ℕ) (d : NameId) → i < length xs → m (text_of bank (slice_index_or xs i d)) ≡ false → one_marked bank m (drop (i + 1) xs) ≡ one_marked bank m (drop i xs)
first_not bank m xs i d l e = sym (ap (one_marked bank m) (drop_more xs i d l) ∙ ap (λ b. b || one_marked bank m (drop (i + 1) xs)) e)

pub none_left : (bank : Terms) (m : Name → Bool) (xs : List NameId) (i : ℕ) → length xs ≤ i → false ≡ one_marked bank m (drop i xs)
none_left bank m [] zero l = refl
none_left bank m [] (suc i) l = refl
none_left bank m (x ∷ xs) zero l = absurd (omega (arith, l))
none_left bank m (x ∷ xs) (suc i) l = none_left bank m xs i (omega (arith, l))
