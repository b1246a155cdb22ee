-- What stands, its parts stand.
use Rattle.std.proofs.Common.{◌≡◌, ◌<◌, ◌+◌, ◌-◌, ◌^◌, ◌∙◌, ℕ, zero, suc, refl, sym, ap, arith, Bool, true, false, ◌||◌, ◌&&◌, eqb, leb, List, [], ◌∷◌, ◌++◌, map, length, take, drop, if◌then◌else◌, Option, Some, None}
use Rattle.std.proofs.Common.{subst as along}
use Rattle.std.specs.Prelude.{nat_lt, ◌==◌}
use Rattle.lq_trees.specs.Tree.{Name, Tree, Trees, Hypothesis, Context, same_name, none, more}
use Rattle.lq_trees.specs.Tree.Tree.{Rel, Var, Sort, Prod, Lam, Let, App, Const, Ind, Ctor, Elim, Evar}
use Rattle.lq_trees.specs.Change.{Leaves, replace, replace_each, substituting, lift}
use Rattle.lq_trees.specs.Fresh.{is_listed, fresh, opened, under, under_let}
use Rattle.lq_trees.specs.Hypotheses.{HoldsOnly, EachHoldsOnly}
use Rattle.lq_trees.specs.Index.{EachWithin}
use Rattle.lq_trees.specs.Reading.{entries}
use Rattle.lq_trees.proofs.FillLaws.{subst_fill}
use Rattle.lq_trees.proofs.Reach.{within-subst}
use Rattle.lq_calculus.specs.Contraction.{apply, spine}
use Rattle.lq_calculus.specs.Checking.{same_sort}
use Rattle.lq_solving.specs.Stores.{Variable, Store, names_in, read}
use Rattle.lq_solving.specs.Kept.{IsOver, EachIsOver, Stands, OptionStands, StandBehind, IsContext, StandsIn, IsStore}
use Rattle.lq_solving.specs.Unification.{Sides, sides, parts_of, one_variable, no_parts_if, is_variable, application_parts, same_form, split_last, split_left, split_right, first_some, parts_by_form}
use Rattle.lq_solving.proofs.ReadLaws.{filled, filled_each, filled_over, filled_within, open_stays}
use Rattle.lq_solving.proofs.DoneLaws.{filled_done}
use Rattle.lq_solving.proofs.StoreLaws.{context_keeps}
use Rattle.lq_solving.proofs.Good.{is_good, good_holds}
use Rattle.lq_solving.proofs.Later.{Later, later_keeps, reads_prod, reads_lam, reads_let, reads_app}
use Rattle.lq_solving.proofs.UnifyForms.{names_under, name_last, stands_more, opened_good, read_opened}
use Rattle.lq_solving.proofs.FreshLaws.{fresh_new}
use Rattle.lq_unify.specs.Heads.{HasOpenHead}
use Rattle.lq_unify.specs.Standing.{RestStands, EachStands, SidesStand, AllStand}
use Rattle.lq_unify.proofs.UnreadLaws.{entries_filled}

-- ---- later stores

pub sides_keep : {s s1 : Store} → Later s s1 → IsStore s → (p : Sides) → SidesStand s p → SidesStand s1 p
sides_keep {s} {s1} l i p h = record {
  context = context_keeps s s1 (later_keeps l i) [] p.context h.context;
  left = later_keeps l i (names_in p.context) p.left h.left;
  right = later_keeps l i (names_in p.context) p.right h.right;
}

pub all_keep : {s s1 : Store} → Later s s1 → IsStore s → (ps : List Sides) → AllStand s ps → AllStand s1 ps
all_keep l i [] h = tt
all_keep l i (p ∷ ps) h = (sides_keep l i p h.0, all_keep l i ps h.1)

-- each of several terms holds hypotheses of these names alone
abbrev HoldEach : List Name → List Tree → Type 0
HoldEach xs [] = Unit {0}
HoldEach xs (t ∷ ts) = HoldsOnly xs t × HoldEach xs ts

-- ---- opened terms

module _ (vs : List Variable) (f : Leaves) (b : (d i : ℕ) → IsOver vs (f.bound d i)) (n : (d : ℕ) (x : Name) → IsOver vs (f.named d x)) where
  replaced_length : (d : ℕ) (ts : Trees) → length (entries (replace_each f d ts)) ≡ length (entries ts)
  unfolding entries
  replaced_length d none = refl
  replaced_length d (more t ts) = ap suc (replaced_length d ts)

  mutual
    pub replace_over : (d : ℕ) (t : Tree) → IsOver vs t → IsOver vs (replace f d t)
    replace_over d (Rel i) h = b d i
    replace_over d (Var x) h = n d x
    replace_over d (Sort s) h = tt
    replace_over d (Prod x A B) h = (replace_over d A h.0, replace_over (d + 1) B h.1)
    replace_over d (Lam x A t) h = (replace_over d A h.0, replace_over (d + 1) t h.1)
    replace_over d (Let x v A t) h = (replace_over d v h.0, replace_over d A h.1, replace_over (d + 1) t h.2)
    replace_over d (App g a) h = (replace_over d g h.0, replace_over d a h.1)
    replace_over d (Const c) h = tt
    replace_over d (Ind c) h = tt
    replace_over d (Ctor c k) h = tt
    replace_over d (Elim c s) h = tt
    replace_over d (Evar k ts) h = (h.0, replaced_length d ts ∙ h.1, each_replace_over d ts h.2)

    pub each_replace_over : (d : ℕ) (ts : Trees) → EachIsOver vs ts → EachIsOver vs (replace_each f d ts)
    each_replace_over d none h = tt
    each_replace_over d (more t ts) h = (replace_over d t h.0, each_replace_over d ts h.1)

pub opened_over : (vs : List Variable) (y : Name) (t : Tree) → IsOver vs t → IsOver vs (opened y t)
unfolding opened
opened_over vs y t h = replace_over vs (substituting (Var y)) (λ d i. by d i (nat_lt i d) (i == d)) (λ d x. tt) 0 t h
  where
    by : (d i : ℕ) (a c : Bool) → IsOver vs (if a then Rel i else if c then lift d 0 (Var y) else Rel (i - 1))
    by d i true c = tt
    by d i false true = tt
    by d i false false = tt

module _ (s : Store) (i : IsStore s) where
  pub opened_stands : (xs ys : List Name) (y : Name) → ((x : Name) → is_listed xs x ≡ true → is_listed ys x ≡ true) → is_listed ys y ≡ true → (t : Tree) → RestStands s xs t → Stands s ys (opened y t)
  unfolding opened read
  opened_stands xs ys y f e t h = record {
    over = opened_over s.variables y t h.over;
    within = within-subst 0 (Var y) t h.within tt;
    holds = along (HoldsOnly ys) (sym (read_opened s i y t ∙ sym (subst_fill (Var y) (read s t))))
        (good_holds s.variables s.values ys 0 (opened y (read s t)) (opened_good s.variables s.values xs ys y f e (read s t)
        (is_good s.variables s.values xs 1 (read s t) (filled_over s.variables s.values i.values t h.over) (filled_done s.variables s.values i.values t) (filled_within s.variables s.values i.values 1 t h.within) h.holds)));
  }

  -- ---- parts of nodes

  module _ (xs : List Name) where
    pub prod_stands : (x : Name) (A B : Tree) → Stands s xs (Prod x A B) → Stands s xs A × RestStands s xs B
    unfolding read
    prod_stands x A B h =
        let k : HoldsOnly xs (Prod x (read s A) (read s B)) = along (HoldsOnly xs) (reads_prod s.variables s.values x A B) h.holds in
        (record { over = h.over.0; within = h.within.0; holds = k.0 }, record { over = h.over.1; within = h.within.1; holds = k.1 })

    pub lam_stands : (x : Name) (A B : Tree) → Stands s xs (Lam x A B) → Stands s xs A × RestStands s xs B
    unfolding read
    lam_stands x A B h =
        let k : HoldsOnly xs (Lam x (read s A) (read s B)) = along (HoldsOnly xs) (reads_lam s.variables s.values x A B) h.holds in
        (record { over = h.over.0; within = h.within.0; holds = k.0 }, record { over = h.over.1; within = h.within.1; holds = k.1 })

    pub let_stands : (x : Name) (v A B : Tree) → Stands s xs (Let x v A B) → Stands s xs v × Stands s xs A × RestStands s xs B
    unfolding read
    let_stands x v A B h =
        let k : HoldsOnly xs (Let x (read s v) (read s A) (read s B)) = along (HoldsOnly xs) (reads_let s.variables s.values x v A B) h.holds in
        (record { over = h.over.0; within = h.within.0; holds = k.0 }, record { over = h.over.1; within = h.within.1; holds = k.1 }, record { over = h.over.2; within = h.within.2; holds = k.2 })

    pub app_stands : (f a : Tree) → Stands s xs (App f a) → Stands s xs f × Stands s xs a
    unfolding read
    app_stands f a h =
        let k : HoldsOnly xs (App (read s f) (read s a)) = along (HoldsOnly xs) (reads_app s.variables s.values f a) h.holds in
        (record { over = h.over.0; within = h.within.0; holds = k.0 }, record { over = h.over.1; within = h.within.1; holds = k.1 })

    pub applied_stands : (f a : Tree) → Stands s xs f → Stands s xs a → Stands s xs (App f a)
    unfolding read
    applied_stands f a h k = record {
      over = (h.over, k.over);
      within = (h.within, k.within);
      holds = along (HoldsOnly xs) (sym (reads_app s.variables s.values f a)) (h.holds, k.holds);
    }

    pub spine_stands : (t : Tree) (args : List Tree) → Stands s xs t → EachStands s xs args → Stands s xs (spine t args).0 × EachStands s xs (spine t args).1
    unfolding spine
    spine_stands (App f a) args h k = let q = app_stands f a h in spine_stands f (a ∷ args) q.0 (q.1, k)
    spine_stands (Rel j) args h k = (h, k)
    spine_stands (Var x) args h k = (h, k)
    spine_stands (Sort u) args h k = (h, k)
    spine_stands (Prod x A B) args h k = (h, k)
    spine_stands (Lam x A B) args h k = (h, k)
    spine_stands (Let x v A B) args h k = (h, k)
    spine_stands (Const c) args h k = (h, k)
    spine_stands (Ind c) args h k = (h, k)
    spine_stands (Ctor c m) args h k = (h, k)
    spine_stands (Elim c u) args h k = (h, k)
    spine_stands (Evar m ts) args h k = (h, k)

    pub apply_stands : (f : Tree) (ts : List Tree) → Stands s xs f → EachStands s xs ts → Stands s xs (apply f ts)
    unfolding apply
    apply_stands f [] h k = h
    apply_stands f (t ∷ ts) h k = apply_stands (App f t) ts (applied_stands f t h k.0) k.1

    pub take_stands : (m : ℕ) (ts : List Tree) → EachStands s xs ts → EachStands s xs (take m ts)
    take_stands zero ts k = tt
    take_stands (suc m) [] k = tt
    take_stands (suc m) (t ∷ ts) k = (k.0, take_stands m ts k.1)

    pub drop_stands : (m : ℕ) (ts : List Tree) → EachStands s xs ts → EachStands s xs (drop m ts)
    drop_stands zero ts k = k
    drop_stands (suc m) [] k = tt
    drop_stands (suc m) (t ∷ ts) k = drop_stands m ts k.1

    held : (ts : Trees) → EachHoldsOnly xs ts → HoldEach xs (entries ts)
    unfolding entries
    held none k = tt
    held (more t ts) k = (k.0, held ts k.1)

    each_by : (ts : Trees) → EachIsOver s.variables ts → EachWithin 0 ts → HoldEach xs (map (filled s.variables s.values) (entries ts)) → EachStands s xs (entries ts)
    unfolding entries read
    each_by none a c k = tt
    each_by (more t ts) a c k = (record { over = a.0; within = c.0; holds = k.0 }, each_by ts a.1 c.1 k.1)

    each_entry : (es : Trees) → EachIsOver s.variables es → EachWithin 0 es → EachHoldsOnly xs (filled_each s.variables s.values es) → EachStands s xs (entries es)
    each_entry es o w h = each_by es o w (along (HoldEach xs) (entries_filled s.variables s.values es) (held (filled_each s.variables s.values es) h))

    pub entries_stand : (k : ℕ) (es : Trees) → HasOpenHead s.values (Evar k es) → Stands s xs (Evar k es) → EachStands s xs (entries es)
    unfolding read
    entries_stand k es o h = each_entry es h.over.2 h.within (along (HoldsOnly xs) (open_stays s.variables s.values k es o) h.holds)

  -- ---- contexts

  pub behind_more : (xs : List Name) (g : Context) (h : Hypothesis) → StandBehind s xs g → is_listed xs h.name ≡ false → is_listed (names_in g) h.name ≡ false →
      ((ys : List Name) → ((x : Name) → is_listed xs x ≡ true → is_listed ys x ≡ true) → ((x : Name) → is_listed (names_in g) x ≡ true → is_listed ys x ≡ true) → OptionStands s ys h.body × Stands s ys h.kind) → StandBehind s xs (g ++ (h ∷ []))
  unfolding is_listed
  behind_more xs [] h k e f m = let q = m xs (λ x j. j) (λ x j. absurd (grind arith)) in (e, q.0, q.1, tt)
  behind_more xs (j ∷ g) h k e f m =
      let q = or_none (same_name j.name h.name) (is_listed (names_in g) h.name) f in (
        k.0,
        k.1,
        k.2,
        behind_more (j.name ∷ xs) g h k.3 (neither (same_name j.name h.name) (is_listed xs h.name) q.0 e) q.1
            (λ ys a c. m ys (λ x l. a x (right (same_name j.name x) (is_listed xs x) l)) (λ x l. either ys x (same_name j.name x) refl l (a x) (c x))),
      )
    where
      or_none : (a b : Bool) → (a || b) ≡ false → (a ≡ false) × (b ≡ false)
      or_none false b l = (refl, l)
      or_none true b l = absurd (grind arith)

      neither : (a b : Bool) → a ≡ false → b ≡ false → (a || b) ≡ false
      neither false b l n = n
      neither true b l n = absurd (grind arith)

      right : (a b : Bool) → b ≡ true → (a || b) ≡ true
      right true b l = refl
      right false b l = l

      either : (ys : List Name) (x : Name) (o : Bool) → same_name j.name x ≡ o → (o || is_listed (names_in g) x) ≡ true → (is_listed (j.name ∷ xs) x ≡ true → is_listed ys x ≡ true) → (is_listed (names_in g) x ≡ true → is_listed ys x ≡ true) → is_listed ys x ≡ true
      either ys x true l n a c = a (ap (λ o. o || is_listed xs x) l)
      either ys x false l n a c = c n

  -- ---- parts of sides

  module _ (g : Context) (few : length g < 10 ^ 64) (c : IsContext s g) where
    pub pair_stands : (t u : Tree) → StandsIn s g t → StandsIn s g u → SidesStand s (sides g t u)
    pair_stands t u h k = record { context = c; left = h; right = k }

    new_name : (x : Name) → is_listed (names_in g) (fresh g x) ≡ false
    new_name x = fresh_new g x few

    pub under_context : (x : Name) (A : Tree) → StandsIn s g A → IsContext s (under g (fresh g x) A)
    unfolding under is_listed
    under_context x A h = behind_more [] g (record { name = fresh g x; body = None; kind = A }) c refl (new_name x) (λ ys a d. (tt, stands_more s (names_in g) ys d A h))

    pub under_let_context : (x : Name) (v A : Tree) → StandsIn s g v → StandsIn s g A → IsContext s (under_let g (fresh g x) v A)
    unfolding under_let is_listed
    under_let_context x v A k h =
        behind_more [] g (record { name = fresh g x; body = Some v; kind = A }) c refl (new_name x) (λ ys a d. (stands_more s (names_in g) ys d v k, stands_more s (names_in g) ys d A h))

    pub under_stands : (x : Name) (A t u : Tree) → StandsIn s g A → RestStands s (names_in g) t → RestStands s (names_in g) u → SidesStand s (sides (under g (fresh g x) A) (opened (fresh g x) t) (opened (fresh g x) u))
    unfolding under
    under_stands x A t u h k m = let j : Hypothesis = record { name = fresh g x; body = None; kind = A } in record {
      context = under_context x A h;
      left = opened_stands (names_in g) (names_in (g ++ (j ∷ []))) (fresh g x) (λ y e. names_under g j y e) (name_last g j) t k;
      right = opened_stands (names_in g) (names_in (g ++ (j ∷ []))) (fresh g x) (λ y e. names_under g j y e) (name_last g j) u m;
    }

    pub under_let_stands : (x : Name) (v A t u : Tree) → StandsIn s g v → StandsIn s g A → RestStands s (names_in g) t → RestStands s (names_in g) u →
        SidesStand s (sides (under_let g (fresh g x) v A) (opened (fresh g x) t) (opened (fresh g x) u))
    unfolding under_let
    under_let_stands x v A t u n h k m = let j : Hypothesis = record { name = fresh g x; body = Some v; kind = A } in record {
      context = under_let_context x v A n h;
      left = opened_stands (names_in g) (names_in (g ++ (j ∷ []))) (fresh g x) (λ y e. names_under g j y e) (name_last g j) t k;
      right = opened_stands (names_in g) (names_in (g ++ (j ∷ []))) (fresh g x) (λ y e. names_under g j y e) (name_last g j) u m;
    }

    some_stand : (ps qs : List Sides) → Some qs ≡ Some ps → AllStand s qs → AllStand s ps
    some_stand ps qs e h = along (AllStand s) (ap (λ o. elim o [ Some z ↦ z | None ↦ qs ]) e) h

    pub parts_of_stand : (ts us : List Tree) (ps : List Sides) → EachStands s (names_in g) ts → EachStands s (names_in g) us → parts_of g ts us ≡ Some ps → AllStand s ps
    unfolding parts_of
    parts_of_stand [] [] ps h k e = some_stand ps [] e tt
    parts_of_stand [] (u ∷ us) ps h k e = absurd (grind arith)
    parts_of_stand (t ∷ ts) [] ps h k e = absurd (grind arith)
    parts_of_stand (t ∷ ts) (u ∷ us) ps h k e = at (parts_of g ts us) e (λ qs q. parts_of_stand ts us qs h.1 k.1 q) refl
      where
        at : (o : Option (List Sides)) → elim o [ None ↦ None | Some qs ↦ Some (sides g t u ∷ qs) ] ≡ Some ps → ((qs : List Sides) → parts_of g ts us ≡ Some qs → AllStand s qs) → parts_of g ts us ≡ o → AllStand s ps
        at None f ih q = absurd (grind arith)
        at (Some qs) f ih q = some_stand ps (sides g t u ∷ qs) f (pair_stands t u h.0 k.0, ih qs q)

    no_parts_stand : (b : Bool) (ps : List Sides) → no_parts_if b ≡ Some ps → AllStand s ps
    unfolding no_parts_if
    no_parts_stand true ps e = some_stand ps [] e tt
    no_parts_stand false ps e = absurd (grind arith)

    pub one_stands : (t u : Tree) (ps : List Sides) → HasOpenHead s.values t → HasOpenHead s.values u → StandsIn s g t → StandsIn s g u → one_variable g t u ≡ Some ps → AllStand s ps
    unfolding one_variable
    one_stands (Evar k es) (Evar l fs) ps a b h m e = at (eqb k l) e
      where
        at : (o : Bool) → elim o [ true ↦ parts_of g (entries es) (entries fs) | false ↦ None ] ≡ Some ps → AllStand s ps
        at true q = parts_of_stand (entries es) (entries fs) ps (entries_stand (names_in g) k es a h) (entries_stand (names_in g) l fs b m) q
        at false q = absurd (grind arith)
    one_stands _ _ ps a b h m e = absurd (grind arith)

    application_stands : (p q : Tree × List Tree) (ps : List Sides) → StandsIn s g p.0 → EachStands s (names_in g) p.1 → StandsIn s g q.0 → EachStands s (names_in g) q.1 → application_parts g p q ≡ Some ps → AllStand s ps
    unfolding application_parts
    application_stands p q ps a b d f e = at (is_variable p.0 || is_variable q.0) e
      where
        at : (o : Bool) → elim o [ true ↦ None | false ↦ parts_of g (p.0 ∷ p.1) (q.0 ∷ q.1) ] ≡ Some ps → AllStand s ps
        at true z = absurd (grind arith)
        at false z = parts_of_stand (p.0 ∷ p.1) (q.0 ∷ q.1) ps (a, b) (d, f) z

    -- the other side without its last arguments, and those
    other_stands : (q : Tree × List Tree) (n : ℕ) → StandsIn s g q.0 → EachStands s (names_in g) q.1 → EachStands s (names_in g) (apply q.0 (split_last n q.1).0 ∷ (split_last n q.1).1)
    unfolding split_last
    other_stands q n h k =
        (apply_stands (names_in g) q.0 (take (length q.1 - n) q.1) h (take_stands (names_in g) (length q.1 - n) q.1 k), drop_stands (names_in g) (length q.1 - n) q.1 k)

    left_stands : (p q : Tree × List Tree) (ps : List Sides) → StandsIn s g p.0 → EachStands s (names_in g) p.1 → StandsIn s g q.0 → EachStands s (names_in g) q.1 → split_left g p q ≡ Some ps → AllStand s ps
    unfolding split_left
    left_stands p q ps a b d f e = at (is_variable p.0 && leb 1 (length p.1) && leb (length p.1) (length q.1)) e
      where
        at : (o : Bool) → elim o [ false ↦ None | true ↦ parts_of g (p.0 ∷ p.1) (apply q.0 (split_last (length p.1) q.1).0 ∷ (split_last (length p.1) q.1).1) ] ≡ Some ps → AllStand s ps
        at true z = parts_of_stand (p.0 ∷ p.1) (apply q.0 (split_last (length p.1) q.1).0 ∷ (split_last (length p.1) q.1).1) ps (a, b) (other_stands q (length p.1) d f) z
        at false z = absurd (grind arith)

    right_stands : (p q : Tree × List Tree) (ps : List Sides) → StandsIn s g p.0 → EachStands s (names_in g) p.1 → StandsIn s g q.0 → EachStands s (names_in g) q.1 → split_right g p q ≡ Some ps → AllStand s ps
    unfolding split_right
    right_stands p q ps a b d f e = at (is_variable q.0 && leb 1 (length q.1) && leb (length q.1) (length p.1)) e
      where
        at : (o : Bool) → elim o [ false ↦ None | true ↦ parts_of g (apply p.0 (split_last (length q.1) p.1).0 ∷ (split_last (length q.1) p.1).1) (q.0 ∷ q.1) ] ≡ Some ps → AllStand s ps
        at true z = parts_of_stand (apply p.0 (split_last (length q.1) p.1).0 ∷ (split_last (length q.1) p.1).1) (q.0 ∷ q.1) ps (other_stands p (length q.1) a b) (d, f) z
        at false z = absurd (grind arith)

    same_form_stands : (t u : Tree) (ps : List Sides) → StandsIn s g t → StandsIn s g u → same_form g t u ≡ Some ps → AllStand s ps
    unfolding same_form
    same_form_stands (Var x) (Var y) ps h k e = no_parts_stand (same_name x y) ps e
    same_form_stands (Sort x) (Sort y) ps h k e = no_parts_stand (same_sort x y) ps e
    same_form_stands (Const x) (Const y) ps h k e = no_parts_stand (same_name x y) ps e
    same_form_stands (Ind x) (Ind y) ps h k e = no_parts_stand (same_name x y) ps e
    same_form_stands (Ctor x n) (Ctor y m) ps h k e = no_parts_stand (same_name x y && eqb n m) ps e
    same_form_stands (Elim x n) (Elim y m) ps h k e = no_parts_stand (same_name x y && same_sort n m) ps e
    same_form_stands (Prod x A B) (Prod y C D) ps h k e =
        let p = prod_stands (names_in g) x A B h in
        let q = prod_stands (names_in g) y C D k in
        some_stand ps _ e (pair_stands A C p.0 q.0, (under_stands x A B D p.0 p.1 q.1, tt))
    same_form_stands (Lam x A B) (Lam y C D) ps h k e =
        let p = lam_stands (names_in g) x A B h in
        let q = lam_stands (names_in g) y C D k in
        some_stand ps _ e (pair_stands A C p.0 q.0, (under_stands x A B D p.0 p.1 q.1, tt))
    same_form_stands (Let x v A B) (Let y w C D) ps h k e =
        let p = let_stands (names_in g) x v A B h in
        let q = let_stands (names_in g) y w C D k in
        some_stand ps _ e (pair_stands v w p.0 q.0, (pair_stands A C p.1 q.1, (under_let_stands x v A B D p.0 p.1 p.2 q.2, tt)))
    same_form_stands (App f a) (App m b) ps h k e =
        let p = spine_stands (names_in g) (App f a) [] h tt in
        let q = spine_stands (names_in g) (App m b) [] k tt in
        application_stands (spine (App f a) []) (spine (App m b) []) ps p.0 p.1 q.0 q.1 e
    same_form_stands _ _ ps h k e = absurd (grind arith)

    pub form_stands : (t u : Tree) (ps : List Sides) → StandsIn s g t → StandsIn s g u → parts_by_form g t u ≡ Some ps → AllStand s ps
    unfolding parts_by_form first_some
    form_stands t u ps h k e = at (same_form g t u) refl e
      where
        p : StandsIn s g (spine t []).0 × EachStands s (names_in g) (spine t []).1
        p = spine_stands (names_in g) t [] h tt

        q : StandsIn s g (spine u []).0 × EachStands s (names_in g) (spine u []).1
        q = spine_stands (names_in g) u [] k tt

        by_split : (o : Option (List Sides)) → split_left g (spine t []) (spine u []) ≡ o → first_some o (split_right g (spine t []) (spine u [])) ≡ Some ps → AllStand s ps
        by_split None z f = right_stands (spine t []) (spine u []) ps p.0 p.1 q.0 q.1 f
        by_split (Some qs) z f = left_stands (spine t []) (spine u []) ps p.0 p.1 q.0 q.1 (z ∙ f)

        at : (o : Option (List Sides)) → same_form g t u ≡ o → first_some o (first_some (split_left g (spine t []) (spine u [])) (split_right g (spine t []) (spine u []))) ≡ Some ps → AllStand s ps
        at None z f = by_split (split_left g (spine t []) (spine u [])) refl f
        at (Some qs) z f = same_form_stands t u ps h k (z ∙ f)
