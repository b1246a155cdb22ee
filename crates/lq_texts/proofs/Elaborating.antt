-- Where elaboration of a printed term succeeds, it gives the term back.
use Rattle.std.proofs.Common.{◌≡◌, ℕ, zero, suc, ◌+◌, ◌^◌, ◌<◌, Bool, true, false, List, [], ◌∷◌, ◌++◌, map, length, Option, Some, None, refl, sym, ap, ◌∙◌, subst as along, arith, inl, inr, length-append, eq-eqb}
use Rattle.lq_trees.proofs.FillLaws.{filled_some}
use Rattle.std.specs.Prelude.{◌⊎◌, ◌||◌, slice_get, if◌then◌else◌, codes}
use Rattle.std.specs.List.{AllByRecursion}
use Rattle.std.proofs.lemmas.Slice.Eq.{bytes_eq-Decides}
use Rattle.lq_trees.specs.declared.Sort.{Sort as Universe}
use Rattle.lq_trees.specs.Tree.{Name, Tree, Context, Hypothesis, value_of, same_name}
use Rattle.lq_trees.specs.Tree.Tree.{Rel, Var, Sort, Prod, Lam, Let, App, Const, Ind, Ctor, Elim, Evar}
use Rattle.lq_trees.specs.Change.{fill, close}
use Rattle.lq_trees.specs.Fresh.{is_listed, fresh, under, under_let}
use Rattle.lq_trees.specs.Hypotheses.{HoldsOnly}
use Rattle.lq_trees.specs.Index.{Within}
use Rattle.lq_trees.specs.Same.{nameless, Same}
use Rattle.lq_trees.specs.Size.{depth}
use Rattle.lq_calculus.specs.Contraction.{hypothesis}
use Rattle.lq_calculus.specs.Declarations.{Env, lookup}
use Rattle.lq_calculus.proofs.ConvSound.{Gives}
use Rattle.lq_ast.specs.Syntax.{Surface}
use Rattle.lq_solving.specs.Stores.{Store}
use Rattle.lq_solving.specs.Elaboration.{Site, Found, bind, elaborate, elaborate_call}
use Rattle.lq_solving.proofs.FreshLaws.{fresh_new}
use Rattle.lq_texts.specs.Printing.{uses, names_in, printed_name, bound_name, sort_surface, surface, constructor_name, eliminator_text}
use Rattle.lq_texts.specs.ReadBack.{IsDeclared, globals}
use Rattle.lq_texts.proofs.PrintedNames.{Held, held_left, held_right, or_true, or_first, or_second}
use Rattle.lq_texts.proofs.Closing.{as_vars, NoEvar, same_self, rest_closed}
use Rattle.lq_texts.proofs.ElaborationSteps.{product_gives, function_gives, let_gives, applied_gives, base_gives, level_gives, name_gives, bound_gives, hypothesis_gives, entry_gives, constant_gives, family_gives, constructor_gives, eliminator_gives}
use Rattle.lq_texts.proofs.BinderNames.{printed_apart, Binds, Frees, all_left, all_right, under_binds, under_frees}

-- ---- the contexts

abbrev pub named : Context → List Name
named g = map (λ h. h.name) g

more_named : (g : Context) (k : Hypothesis) (y : Name) → is_listed (named g) y ≡ true → is_listed (named (g ++ k ∷ [])) y ≡ true
unfolding is_listed
more_named [] k y e = absurd cc
more_named (h ∷ g) k y e =
    elim (or_true (same_name h.name y) _ e) [ inl f ↦ or_first (same_name h.name y) _ f | inr f ↦ or_second (same_name h.name y) _ (more_named g k y f) ]

last_named : (g : Context) (k : Hypothesis) → is_listed (named (g ++ k ∷ [])) k.name ≡ true
unfolding is_listed
last_named [] k = or_first (same_name k.name k.name) _ (same_self k.name)
last_named (h ∷ g) k = or_second (same_name h.name k.name) _ (last_named g k)

not_listed : (ys zs : List Name) (z : Name) → ((y : Name) → is_listed ys y ≡ true → is_listed zs y ≡ true) → is_listed zs z ≡ false → is_listed ys z ≡ false
not_listed ys zs z inside e = by (is_listed ys z) refl
  where
    true_false : true ≡ false → ⊥
    true_false g = absurd cc

    by : (b : Bool) → is_listed ys z ≡ b → is_listed ys z ≡ false
    by true f = absurd (true_false (sym (inside z f) ∙ e))
    by false f = f

-- hypotheses that stand for binders, and those outside, are hypotheses of a context
pub record Around (outers ys : List Name) (g : Context) : Type 0 where
  pub inside : (y : Name) → is_listed ys y ≡ true → is_listed (named g) y ≡ true
  pub outside : (y : Name) → is_listed outers y ≡ true → is_listed (named g) y ≡ true

around_more : (outers ys : List Name) (g : Context) (k : Hypothesis) → Around outers ys g → Around outers (k.name ∷ ys) (g ++ k ∷ [])
unfolding is_listed
around_more outers ys g k a = record {
  inside = λ y e.
      elim (or_true (same_name k.name y) _ e) [
        | inl f ↦ along (λ x. is_listed (named (g ++ k ∷ [])) x ≡ true) ((bytes_eq-Decides k.name y).0 f) (last_named g k)
        | inr f ↦ more_named g k y (a.inside y f)
      ];
  outside = λ y e. more_named g k y (a.outside y e);
}

got_var : (ys : List Name) (i : ℕ) (y : Name) → slice_get ys i ≡ Some y → slice_get (as_vars ys) i ≡ Some (Var y)
got_var [] i y e = absurd cc
got_var (x ∷ ys) zero y e = let same : x ≡ y = cc in ap (λ z. Some (Var z)) same
got_var (x ∷ ys) (suc i) y e = got_var ys i y e

product_same : (x y : Name) (A B C D : Tree) → Same A C → Same B D → Same (Prod x A B) (Prod y C D)
product_same x y A B C D e f = rw (e, f) refl

function_same : (x y : Name) (A B C D : Tree) → Same A C → Same B D → Same (Lam x A B) (Lam y C D)
function_same x y A B C D e f = rw (e, f) refl

let_same : (x y : Name) (u A B v C D : Tree) → Same u v → Same A C → Same B D → Same (Let x u A B) (Let y v C D)
let_same x y u A B v C D e f g = rw (e, f, g) refl

applied_same : (f a g b : Tree) → Same f g → Same a b → Same (App f a) (App g b)
applied_same f a g b e h = rw (e, h) refl

-- ---- the term is given back

module _ (bound : ℕ) (env : Env) (outer : Context) (names : List Name) where
  abbrev pub site : Site
  site = record { env = env; bound = bound; values = []; outer = outer }

  abbrev pub NoClash : List Name → Type 0
  NoClash cs = AllByRecursion (λ c. hypothesis outer c ≡ None) cs

  sort_gives : (b : List (Name × Name)) (g : Context) (s : Store) (w : Option Tree) (f : Found) (u : Universe) →
      Gives (elaborate site b g s (sort_surface u) w) f → f.term ≡ Sort u
  unfolding sort_surface
  sort_gives b g s w f Universe.Base h = base_gives site b g s w f h
  sort_gives b g s w f (Universe.Level i) h = level_gives site b g s w f i h

  -- a global is found by its name
  global_gives : (b : List (Name × Name)) (g : Context) (s : Store) (w : Option Tree) (f : Found) (x : Name) → value_of b x ≡ None →
      hypothesis outer x ≡ None → Gives (elaborate site b g s (Rattle.lq_ast.specs.Syntax.Ident x) w) f →
      (r : Found) × Gives (Rattle.lq_solving.specs.Elaboration.entry_found site s x (lookup env x)) r × (f.term ≡ r.term)
  global_gives b g s w f x free none h =
      let r = name_gives site b g s w f x h in
      (r.0, entry_gives site refl b g s x r.0 free none r.1, r.2)

  -- what is said of a term under binders
  abbrev pub Back : Tree → Type 0
  Back t =
      (bs ys : List Name) (b : List (Name × Name)) (g : Context) → Around (named outer) ys g → Within (length ys) t → Binds bs ys b t →
      Frees b (names_in env t) →
      length names + length bs + depth t < 2 ^ 64 → length g + depth t < 2 ^ 64 →
      (s : Store) (w : Option Tree) (f : Found) → Gives (elaborate site b g s (surface env bs t) w) f → Same f.term (fill (as_vars ys) 0 t)

  -- the rest of a binder, closed
  rest_back : (x : Name) (B : Tree) → Back B → NoEvar B → HoldsOnly (named outer) B → Held names (names_in env B) →
      (bs ys : List Name) (b : List (Name × Name)) (g : Context) → Around (named outer) ys g → Within (length ys + 1) B →
      ((i : ℕ) → uses (suc i) B ≡ true → (v : Name) × (slice_get ys i ≡ Some v) × (value_of b (bound_name (slice_get bs i)) ≡ Some v)) →
      Frees b (names_in env B) →
      length names + length bs + 1 + depth B < 2 ^ 64 → length g + 1 + depth B < 2 ^ 64 →
      (v : Option Tree) (A : Tree) (s : Store) (w : Option Tree) (f : Found) →
      (let y : Name = printed_name env bs x B in
      Gives (elaborate site (bind y (fresh g y) b) (g ++ (record { name = fresh g y; body = v; kind = A } ∷ [])) s (surface env (y ∷ bs) B) w) f →
      Same (close (fresh g y) f.term) (fill (as_vars ys) 1 B))
  rest_back x B back v h n bs ys b g ar wi bd fr few small body A s w f k =
      let y : Name = printed_name env bs x B in
      let z : Name = fresh g y in
      let hyp : Hypothesis = record { name = z; body = body; kind = A } in
      let out = fresh_new g y (omega (arith, small)) in
      let p = printed_apart env names bs x B n (omega (arith, few)) in
      let one : length ys + 1 ≡ suc (length ys) = omega arith in
      let two : length ys + 1 ≡ 1 + length ys = omega arith in
      let o =
      back (y ∷ bs) (z ∷ ys) (bind y z b) (g ++ (hyp ∷ [])) (around_more (named outer) ys g hyp ar) (along (λ m. Within m B) one wi)
      (under_binds env y z B bs ys b p bd) (under_frees env y z B bs b p fr)
      (omega (arith, few)) (omega (arith, small, length-append g (hyp ∷ []))) s w f k in
      rest_closed z ys (named outer) f.term B (not_listed ys (named g) z ar.inside out) (not_listed (named outer) (named g) z ar.outside out) v h
      (along (λ m. Within m B) two wi) o

  pub gives_back : (t : Tree) → NoEvar t → IsDeclared env t → HoldsOnly (named outer) t → NoClash (globals env t) → Held names (names_in env t) → Back t
  unfolding surface names_in uses globals under under_let
  gives_back (Rel i) v d h c n bs ys b g ar wi bd fr few small s w f k =
      let r = name_gives site b g s w f _ k in
      let y = bd i (eq-eqb i i refl) in
      let one : Rattle.std.specs.Prelude.◌-◌ i 0 ≡ i = omega arith in
      ap nameless (r.2 ∙ bound_gives site refl b g s _ r.0 y.0 y.2 r.1
      ∙ sym (filled_some (as_vars ys) 0 i (Var y.0) (omega arith) (ap (slice_get (as_vars ys)) one ∙ got_var ys i y.0 y.1)))
  gives_back (Var x) v d h c n bs ys b g ar wi bd fr few small s w f k =
      let r = name_gives site b g s w f x k in
      ap nameless (r.2 ∙ hypothesis_gives site refl b g s x r.0 fr.0 h r.1)
  gives_back (Sort u) v d h c n bs ys b g ar wi bd fr few small s w f k = ap nameless (sort_gives b g s w f u k)
  gives_back (Const x) v d h c n bs ys b g ar wi bd fr few small s w f k =
      let r = global_gives b g s w f x fr.0 c.0 k in
      ap nameless (r.2 ∙ constant_gives site s x r.0 (lookup env x) d r.1)
  gives_back (Ind x) v d h c n bs ys b g ar wi bd fr few small s w f k =
      let r = global_gives b g s w f x fr.0 c.0 k in
      ap nameless (r.2 ∙ family_gives site s x r.0 (lookup env x) d r.1)
  gives_back (Ctor x j) v d h c n bs ys b g ar wi bd fr few small s w f k =
      let r = global_gives b g s w f (constructor_name env x j) fr.0 c.0 k in
      ap nameless (r.2 ∙ constructor_gives site s (constructor_name env x j) r.0 x j d.1 r.1)
  gives_back (Elim x u) v d h c n bs ys b g ar wi bd fr few small s w f k =
      let r = global_gives b g s w f (eliminator_text x u) fr.0 c.0 k in
      ap nameless (r.2 ∙ eliminator_gives site s (eliminator_text x u) r.0 x u d r.1)
  gives_back (App t a) v d h c n bs ys b g ar wi bd fr few small s w f k =
      let r = applied_gives site b g s w f _ _ k in
      let e =
      gives_back t v.0 d.0 h.0 (all_left _ (globals env t) (globals env a) c) (held_left names (names_in env t) (names_in env a) n) bs ys b g ar wi.0
      (λ i q. bd i (or_first (uses i t) _ q))
      (all_left _ (names_in env t) (names_in env a) fr) (omega (arith, few)) (omega (arith, small)) s None r.0 r.1 in
      let o =
      gives_back a v.1 d.1 h.1 (all_right _ (globals env t) (globals env a) c) (held_right names (names_in env t) (names_in env a) n) bs ys b g ar wi.1
      (λ i q. bd i (or_second (uses i t) _ q))
      (all_right _ (names_in env t) (names_in env a) fr) (omega (arith, few)) (omega (arith, small)) r.0.store r.2 r.3 r.4 in
      ap nameless r.5 ∙ applied_same _ _ _ _ e o
  gives_back (Prod x A B) v d h c n bs ys b g ar wi bd fr few small s w f k =
      let r = product_gives site b g s w f (printed_name env bs x B) _ _ k in
      let e =
      gives_back A v.0 d.0 h.0 (all_left _ (globals env A) (globals env B) c) (held_left names (names_in env A) (names_in env B) n) bs ys b g ar wi.0
      (λ i q. bd i (or_first (uses i A) _ q))
      (all_left _ (names_in env A) (names_in env B) fr) (omega (arith, few)) (omega (arith, small)) s None r.0 r.1 in
      let held = held_right names (names_in env A) (names_in env B) n in
      let o =
      rest_back x B (gives_back B v.1 d.1 h.1 (all_right _ (globals env A) (globals env B) c) held) v.1 h.1 held bs ys b g ar wi.1
      (λ i q. bd i (or_second (uses i A) _ q))
      (all_right _ (names_in env A) (names_in env B) fr) (omega (arith, few)) (omega (arith, small)) None r.0.term r.0.store None r.2 r.3 in
      ap nameless r.4 ∙ product_same (printed_name env bs x B) x _ _ _ _ e o
  gives_back (Lam x A B) v d h c n bs ys b g ar wi bd fr few small s w f k =
      let r = function_gives site b g s w f (printed_name env bs x B) _ _ k in
      let e =
      gives_back A v.0 d.0 h.0 (all_left _ (globals env A) (globals env B) c) (held_left names (names_in env A) (names_in env B) n) bs ys b g ar wi.0
      (λ i q. bd i (or_first (uses i A) _ q))
      (all_left _ (names_in env A) (names_in env B) fr) (omega (arith, few)) (omega (arith, small)) s None r.0 r.1 in
      let held = held_right names (names_in env A) (names_in env B) n in
      let o =
      rest_back x B (gives_back B v.1 d.1 h.1 (all_right _ (globals env A) (globals env B) c) held) v.1 h.1 held bs ys b g ar wi.1
      (λ i q. bd i (or_second (uses i A) _ q))
      (all_right _ (names_in env A) (names_in env B) fr) (omega (arith, few)) (omega (arith, small)) None r.0.term r.2 r.3 r.4 r.5 in
      ap nameless r.6 ∙ function_same (printed_name env bs x B) x _ _ _ _ e o
  gives_back (Let x u A B) v d h c n bs ys b g ar wi bd fr few small s w f k =
      let r = let_gives site b g s w f (printed_name env bs x B) _ _ _ k in
      let front = all_left _ (globals env u ++ globals env A) (globals env B) c in
      let names_front = held_left names (names_in env u ++ names_in env A) (names_in env B) n in
      let free_front = all_left _ (names_in env u ++ names_in env A) (names_in env B) fr in
      let e =
      gives_back A v.1 d.1 h.1 (all_right _ (globals env u) (globals env A) front) (held_right names (names_in env u) (names_in env A) names_front)
      bs ys b g ar wi.1
      (λ i q. bd i (or_first (uses i u || uses i A) _ (or_second (uses i u) _ q))) (all_right _ (names_in env u) (names_in env A) free_front)
      (omega (arith, few)) (omega (arith, small)) s None r.0 r.1 in
      let l =
      gives_back u v.0 d.0 h.0 (all_left _ (globals env u) (globals env A) front) (held_left names (names_in env u) (names_in env A) names_front)
      bs ys b g ar wi.0
      (λ i q. bd i (or_first (uses i u || uses i A) _ (or_first (uses i u) _ q))) (all_left _ (names_in env u) (names_in env A) free_front)
      (omega (arith, few)) (omega (arith, small)) r.0.store (Some r.0.term) r.2 r.3 in
      let held = held_right names (names_in env u ++ names_in env A) (names_in env B) n in
      let o =
      rest_back x B (gives_back B v.2 d.2 h.2 (all_right _ (globals env u ++ globals env A) (globals env B) c) held) v.2 h.2 held bs ys b g ar wi.2
      (λ i q. bd i (or_second (uses i u || uses i A) _ q))
      (all_right _ (names_in env u ++ names_in env A) (names_in env B) fr) (omega (arith, few)) (omega (arith, small)) (Some r.2.term)
      r.0.term r.2.store None r.4 r.5 in
      ap nameless r.6 ∙ let_same (printed_name env bs x B) x _ _ _ _ _ _ l e o
  gives_back (Evar j ts) v d h c n bs ys b g ar wi bd fr few small s w f k = absurd v
