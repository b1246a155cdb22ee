-- What is spelled of a term: its names, the binders that it uses, its pieces.
use Rattle.std.proofs.Common.{◌≡◌, ℕ, zero, suc, ◌≤◌, Bool, true, false, List, [], ◌∷◌, ◌++◌, length, refl, sym, ap, ◌∙◌, arith, append_assoc, append-nil, eq-eqb}
use Rattle.std.specs.Prelude.{◌||◌, ◌+◌}
use Rattle.std.proofs.lemmas.Bool.{ne_eqb}
use Rattle.std.proofs.Math.Seq.{take-append_seam, drop-append_seam}
use Rattle.lq_trees.specs.Tree.{Name, Tree, Trees, none, more}
use Rattle.lq_trees.specs.Tree.Tree.{Rel, Var, Sort, Prod, Lam, Let, App, Const, Ind, Ctor, Elim, Evar}
use Rattle.lq_calculus.specs.Declarations.{Env}
use Rattle.lq_texts.specs.Printing.{uses, uses_any, constructor_name, eliminator_text}
use Rattle.lq_print.specs.Spelling.{Spelled, Over, Shown, named, applied, product, function, local, unknown, marked, emit, put_name, enter, leave, over, hide, spell, spell_each}
use Rattle.lq_print.specs.Flat.{names_back, names_back_each, over_of, flat, or_each, used_by}

-- ---- the binders that are used

or_nothing : (b : Bool) → (b || false) ≡ b
or_nothing true = refl
or_nothing false = refl

or_something : (b : Bool) → (b || true) ≡ true
or_something true = refl
or_something false = refl

or_assoc : (a b c : Bool) → ((a || b) || c) ≡ (a || (c || b))
or_assoc true b c = refl
or_assoc false true true = refl
or_assoc false true false = refl
or_assoc false false true = refl
or_assoc false false false = refl

or_each_none : (f : ℕ → Bool) (d : ℕ) (bs : List Bool) → ((k : ℕ) → f k ≡ false) → or_each f d bs ≡ bs
or_each_none f d [] h = refl
or_each_none f d (b ∷ bs) h =
    ap (λ c. (b || c) ∷ or_each f (suc d) bs) (h d) ∙ ap (λ c. c ∷ or_each f (suc d) bs) (or_nothing b) ∙ ap (λ cs. b ∷ cs) (or_each_none f (suc d) bs h)

or_each_ext : (f g : ℕ → Bool) (d : ℕ) (bs : List Bool) → ((k : ℕ) → f k ≡ g k) → or_each f d bs ≡ or_each g d bs
or_each_ext f g d [] h = refl
or_each_ext f g d (b ∷ bs) h = ap (λ c. (b || c) ∷ or_each f (suc d) bs) (h d) ∙ ap (λ cs. (b || g d) ∷ cs) (or_each_ext f g (suc d) bs h)

or_each_shift : (f : ℕ → Bool) (d : ℕ) (bs : List Bool) → or_each f (suc d) bs ≡ or_each (λ k. f (suc k)) d bs
or_each_shift f d [] = refl
or_each_shift f d (b ∷ bs) = ap (λ cs. (b || f (suc d)) ∷ cs) (or_each_shift f (suc d) bs)

or_each_both : (f g : ℕ → Bool) (d : ℕ) (bs : List Bool) → or_each f d (or_each g d bs) ≡ or_each (λ k. f k || g k) d bs
or_each_both f g d [] = refl
or_each_both f g d (b ∷ bs) =
    ap (λ c. c ∷ or_each f (suc d) (or_each g (suc d) bs)) (or_assoc b (g d) (f d)) ∙ ap (λ cs. (b || (f d || g d)) ∷ cs) (or_each_both f g (suc d) bs)

-- two terms, one after the other
used_both : (f g h : ℕ → Bool) (bs : List Bool) → ((k : ℕ) → (f k || g k) ≡ h k) → or_each f 0 (or_each g 0 bs) ≡ or_each h 0 bs
used_both f g h bs e = or_each_both f g 0 bs ∙ or_each_ext (λ k. f k || g k) h 0 bs e

-- a body under a binder, and then a term beside it
used_under : (f g h : ℕ → Bool) (bs : List Bool) → ((k : ℕ) → (f k || g (suc k)) ≡ h k) → or_each f 0 (or_each g 1 bs) ≡ or_each h 0 bs
used_under f g h bs e = ap (or_each f 0) (or_each_shift g 0 bs) ∙ used_both f (λ k. g (suc k)) h bs e

bound_past : (i d : ℕ) (bs : List Bool) → suc i ≤ d → or_each (λ k. uses k (Rel i)) d bs ≡ bs
unfolding uses
bound_past i d [] h = refl
bound_past i d (b ∷ bs) h =
    ap (λ c. (b || c) ∷ or_each (λ k. uses k (Rel i)) (suc d) bs) (ne_eqb d i (λ e. absurd (omega (arith, e, h))))
    ∙ ap (λ c. c ∷ or_each (λ k. uses k (Rel i)) (suc d) bs) (or_nothing b) ∙ ap (λ cs. b ∷ cs) (bound_past i (suc d) bs (omega arith))

bound_at : (i j d : ℕ) (bs : List Bool) → j ≡ d + i → or_each (λ k. uses k (Rel j)) d bs ≡ marked i bs
unfolding uses
bound_at i j d [] e = by i
  where
    by : (i : ℕ) → or_each (λ k. uses k (Rel j)) d [] ≡ marked i []
    by zero = refl
    by (suc i) = refl
bound_at zero j d (b ∷ bs) e =
    ap (λ c. (b || c) ∷ or_each (λ k. uses k (Rel j)) (suc d) bs) (eq-eqb d j (omega (arith, e)))
    ∙ ap (λ c. c ∷ or_each (λ k. uses k (Rel j)) (suc d) bs) (or_something b) ∙ ap (λ cs. true ∷ cs) (bound_past j (suc d) bs (omega (arith, e)))
bound_at (suc i) j d (b ∷ bs) e =
    ap (λ c. (b || c) ∷ or_each (λ k. uses k (Rel j)) (suc d) bs) (ne_eqb d j (λ f. absurd (omega (arith, e, f))))
    ∙ ap (λ c. c ∷ or_each (λ k. uses k (Rel j)) (suc d) bs) (or_nothing b) ∙ ap (λ cs. b ∷ cs) (bound_at i j (suc d) bs (omega (arith, e)))

-- ---- all together

-- what has been spelled, by its parts
abbrev with_parts : Spelled → List Name → (ℕ → Bool) → List Shown → Spelled
with_parts s xs f ps = record { names = s.names ++ xs; flags = or_each f 0 s.flags; pieces = s.pieces ++ ps }

-- the same parts
same_parts : (xs ys : List Name) (fs gs : List Bool) (ps qs : List Shown) → xs ≡ ys → fs ≡ gs → ps ≡ qs →
    ◌≡◌ {A = Spelled} (record { names = xs; flags = fs; pieces = ps }) (record { names = ys; flags = gs; pieces = qs })
same_parts xs ys fs gs ps qs e f g = cc

-- a leaf with one name
leaf_named : (s : Spelled) (x : Name) (f : ℕ → Bool) → ((k : ℕ) → f k ≡ false) → put_name x s ≡ with_parts s (x ∷ []) f (named x ∷ [])
leaf_named s x f h = same_parts _ _ s.flags (or_each f 0 s.flags) _ _ refl (sym (or_each_none f 0 s.flags h)) refl

-- a binder over a body
over_is : (env : Env) (x : Name) (body : Tree) (s : Spelled) →
    over x (length s.names) (with_parts (enter s) (names_back env body) (λ k. uses k body) (flat env body)) ≡ over_of env x body
over_is env x body s = ap (λ (xs : List Name). record { own = x; used = uses 0 body; inside = xs }) (drop-append_seam s.names (names_back env body))

turned : (a b c : Bool) → (a || (b || c)) ≡ ((b || a) || c)
turned true true c = refl
turned true false c = refl
turned false true c = refl
turned false false c = refl

-- the pieces of an instance, which are left out
abbrev flat_each : Env → Trees → List Shown
flat_each env none = []
flat_each env (more t ts) = flat_each env ts ++ flat env t

mutual
  unfolding uses uses_any

  pub spell_is : (env : Env) (t : Tree) (s : Spelled) →
      spell env t s ≡ record { names = s.names ++ names_back env t; flags = used_by t s.flags; pieces = s.pieces ++ flat env t }
  spell_is env (Rel i) s = same_parts _ _ (marked i s.flags) (used_by (Rel i) s.flags) _ _ (sym (append-nil s.names)) (sym (bound_at i i 0 s.flags (omega arith))) refl
  spell_is env (Var x) s = leaf_named s x (λ k. uses k (Var x)) (λ k. refl)
  spell_is env (Sort u) s =
      same_parts _ _ s.flags (used_by (Sort u) s.flags) _ _ (sym (append-nil s.names)) (sym (or_each_none (λ k. uses k (Sort u)) 0 s.flags (λ k. refl))) refl
  spell_is env (Prod x A B) s =
      ap (λ (b : Spelled). emit (product (over x (length s.names) b)) (spell env A (leave b))) (spell_is env B (enter s))
      ∙ ap (λ (r : Spelled). emit (product (over x (length s.names) (with_parts (enter s) (names_back env B) (λ k. uses k B) (flat env B)))) r)
      (spell_is env A (leave (with_parts (enter s) (names_back env B) (λ k. uses k B) (flat env B))))
      ∙ same_parts _ _ _ _ _ _ (append_assoc s.names (names_back env B) (names_back env A))
      (used_under (λ k. uses k A) (λ k. uses k B) (λ k. uses k (Prod x A B)) s.flags (λ k. refl))
      (ap (λ (o : Over). ((s.pieces ++ flat env B) ++ flat env A) ++ product o ∷ []) (over_is env x B s)
      ∙ simp append_assoc)
  spell_is env (Lam x A B) s =
      ap (λ (b : Spelled). emit (function (over x (length s.names) b)) (spell env A (leave b))) (spell_is env B (enter s))
      ∙ ap (λ (r : Spelled). emit (function (over x (length s.names) (with_parts (enter s) (names_back env B) (λ k. uses k B) (flat env B)))) r)
      (spell_is env A (leave (with_parts (enter s) (names_back env B) (λ k. uses k B) (flat env B))))
      ∙ same_parts _ _ _ _ _ _ (append_assoc s.names (names_back env B) (names_back env A))
      (used_under (λ k. uses k A) (λ k. uses k B) (λ k. uses k (Lam x A B)) s.flags (λ k. refl))
      (ap (λ (o : Over). ((s.pieces ++ flat env B) ++ flat env A) ++ function o ∷ []) (over_is env x B s)
      ∙ simp append_assoc)
  spell_is env (Let x v A B) s =
      let b : Spelled = with_parts (enter s) (names_back env B) (λ k. uses k B) (flat env B) in
      let w : Spelled = with_parts (leave b) (names_back env v) (λ k. uses k v) (flat env v) in
      ap (λ (b : Spelled). emit (local (over x (length s.names) b)) (spell env A (spell env v (leave b)))) (spell_is env B (enter s))
      ∙ ap (λ (r : Spelled). emit (local (over x (length s.names) b)) (spell env A r)) (spell_is env v (leave b))
      ∙ ap (λ (r : Spelled). emit (local (over x (length s.names) b)) r) (spell_is env A w)
      ∙ same_parts _ _ _ _ _ _ (simp append_assoc)
      (ap (or_each (λ k. uses k A) 0) (used_under (λ k. uses k v) (λ k. uses k B) (λ k. uses k v || uses (suc k) B) s.flags (λ k. refl))
      ∙ used_both (λ k. uses k A) (λ k. uses k v || uses (suc k) B) (λ k. uses k (Let x v A B)) s.flags (λ k. turned (uses k A) (uses k v) (uses (suc k) B)))
      (ap (λ (o : Over). (((s.pieces ++ flat env B) ++ flat env v) ++ flat env A) ++ local o ∷ []) (over_is env x B s)
      ∙ simp append_assoc)
  spell_is env (App f a) s =
      let r : Spelled = with_parts s (names_back env a) (λ k. uses k a) (flat env a) in
      ap (λ (r : Spelled). emit applied (spell env f r)) (spell_is env a s)
      ∙ ap (λ (r : Spelled). emit applied r) (spell_is env f r)
      ∙ same_parts _ _ _ _ _ _ (append_assoc s.names (names_back env a) (names_back env f))
      (used_both (λ k. uses k f) (λ k. uses k a) (λ k. uses k (App f a)) s.flags (λ k. refl))
      (simp append_assoc)
  spell_is env (Const c) s = leaf_named s c (λ k. uses k (Const c)) (λ k. refl)
  spell_is env (Ind c) s = leaf_named s c (λ k. uses k (Ind c)) (λ k. refl)
  spell_is env (Ctor c n) s = leaf_named s (constructor_name env c n) (λ k. uses k (Ctor c n)) (λ k. refl)
  spell_is env (Elim c u) s = leaf_named s (eliminator_text c u) (λ k. uses k (Elim c u)) (λ k. refl)
  spell_is env (Evar n ts) s =
      ap (λ (r : Spelled). hide n (length s.pieces) r) (spell_each_is env ts s)
      ∙ same_parts _ _ _ _ _ _ refl refl (ap (λ (ps : List Shown). ps ++ unknown n ∷ []) (take-append_seam s.pieces (flat_each env ts)))

  spell_each_is : (env : Env) (ts : Trees) (s : Spelled) →
      spell_each env ts s ≡ record { names = s.names ++ names_back_each env ts; flags = or_each (λ k. uses_any k ts) 0 s.flags; pieces = s.pieces ++ flat_each env ts }
  spell_each_is env none s =
      same_parts _ _ _ _ _ _ (sym (append-nil s.names)) (sym (or_each_none (λ k. uses_any k none) 0 s.flags (λ k. refl))) (sym (append-nil s.pieces))
  spell_each_is env (more t ts) s =
      let r : Spelled = with_parts s (names_back_each env ts) (λ k. uses_any k ts) (flat_each env ts) in
      ap (λ (r : Spelled). spell env t r) (spell_each_is env ts s)
      ∙ spell_is env t r
      ∙ same_parts _ _ _ _ _ _ (append_assoc s.names (names_back_each env ts) (names_back env t))
      (used_both (λ k. uses k t) (λ k. uses_any k ts) (λ k. uses_any k (more t ts)) s.flags (λ k. refl))
      (append_assoc s.pieces (flat_each env ts) (flat env t))
