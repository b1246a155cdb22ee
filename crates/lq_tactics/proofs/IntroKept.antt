-- `intro` and `intros` keep what holds.
use Rattle.std.proofs.Common.{◌≡◌, ◌≤◌, ◌<◌, ◌+◌, ◌^◌, ◌∙◌, ℕ, zero, suc, refl, sym, ap, arith, eqb, eqb-true, Bool, true, false, ◌||◌, List, [], ◌∷◌, ◌++◌, length, length-append, Option, Some, None}
use Rattle.std.proofs.Common.{subst as along}
use Rattle.std.proofs.lemmas.List.{length-map}
use Rattle.std.specs.Prelude.{slice_get}
use Rattle.lq_trees.specs.Tree.{Name, Tree, Context, Hypothesis}
use Rattle.lq_trees.specs.Tree.Tree.{Rel, Var, Sort, Prod, Lam, Let, App, Const, Ind, Ctor, Elim, Evar}
use Rattle.lq_trees.specs.Change.{close}
use Rattle.lq_trees.specs.Fresh.{is_listed, opened, under, under_let}
use Rattle.lq_trees.specs.Hypotheses.{HoldsOnly}
use Rattle.lq_trees.specs.Ticks.{gives, fails, ◌>>=◌}
use Rattle.lq_calculus.proofs.ConvSound.{Gives, gives_bind}
use Rattle.lq_solving.specs.Occurs.{holds_variable}
use Rattle.lq_solving.specs.Stores.{Store, Variable, names_in, has_value, read, with_value, read_too_large}
use Rattle.lq_solving.specs.Kept.{Stands, StandsIn, OptionStands, IsContext, IsStore}
use Rattle.lq_solving.proofs.FreshLaws.{fresh_of_new}
use Rattle.lq_solving.proofs.InferKept.{names_more}
use Rattle.lq_solving.proofs.StandsLaws.{StandsUnder, close_stands, open_stands, lam_stands, let_stands, domain_stands, rest_stands}
use Rattle.lq_solving.proofs.Later.{reads_let}
use Rattle.lq_solving.proofs.ElabKept.{Grown, grown_now, context_under}
use Rattle.lq_states.specs.Kept.{times}
use Rattle.lq_tactics.specs.Rows.{RowFault, by_store_call, Doing, Scene, Done, Step, needed, head_of, new_goal, given_to, ended, unused, then_next, stays, used_name}
use Rattle.lq_tactics.specs.Primitives.{or_h, intro_name, under_product, under_value, intro_on, is_binder, binder_form, do_intro, intro_each, intro_all}
use Rattle.lq_tactics.proofs.RowsKept.{IsScene, AreNew, IsReached, IsStep, IsMade, IsSceneOf, head_stands, goal_made, same_values, unborn_valueless, ended_kept}
use Rattle.lq_tactics.proofs.StepsKept.{one_once, one_is, stays_kept, then_kept}

-- ---- one made goal, or two

pub one_new : (s0 s : Store) (g : Context) (r : Store × ℕ) → Grown s0 s → IsStore s → IsMade s g r → AreNew s0 r.0 (r.1 ∷ [])
one_new s0 s g r h i m = record {
  once = one_once r.1;
  inside = λ k l. omega (arith, one_is r.1 k l, m.number, m.many);
  valueless = λ k l. same_values s r.0 m.values k ∙ unborn_valueless s i k (omega (arith, one_is r.1 k l, m.number));
  new = λ k l. omega (arith, one_is r.1 k l, m.number, h.more);
}

two_within : (j k m : ℕ) → j ≤ k → 1 ≤ times (j ∷ k ∷ []) m → (j ≤ m) × (m ≤ k)
unfolding times
two_within j k m b l = at (eqb j m) refl l
  where
    at : (o : Bool) → eqb j m ≡ o → 1 ≤ elim o as (λ z. ℕ) [ true ↦ 1 + times (k ∷ []) m | false ↦ times (k ∷ []) m ] → (j ≤ m) × (m ≤ k)
    at true e i = let q = eqb-true j m e in (omega (arith, q), omega (arith, q, b))
    at false e i = let q = one_is k m i in (omega (arith, q, b), omega (arith, q))

two_once : (j k m : ℕ) → (j ≡ k → ⊥) → times (j ∷ k ∷ []) m ≤ 1
unfolding times
two_once j k m f = at (eqb j m) (eqb k m) refl refl
  where
    at : (b d : Bool) → eqb j m ≡ b → eqb k m ≡ d → elim b as (λ z. ℕ) [ true ↦ 1 + elim d as (λ z. ℕ) [ true ↦ 1 + 0 | false ↦ 0 ] | false ↦ elim d as (λ z. ℕ) [ true ↦ 1 + 0 | false ↦ 0 ] ] ≤ 1
    at true true e h = absurd (f (eqb-true j m e ∙ sym (eqb-true k m h)))
    at true false e h = omega arith
    at false true e h = omega arith
    at false false e h = omega arith

pub two_new : (s0 s : Store) (g d : Context) (r q : Store × ℕ) → Grown s0 s → IsStore s → IsMade s g r → IsMade r.0 d q → AreNew s0 q.0 (r.1 ∷ q.1 ∷ [])
two_new s0 s g d r q h i m n = record {
  once = λ k. two_once r.1 q.1 k (λ e. omega (arith, e, m.number, m.many, n.number));
  inside = λ k l. omega (arith, where_is k l, m.number, m.many, n.number, n.many);
  valueless = λ k l. same_values r.0 q.0 n.values k ∙ same_values s r.0 m.values k ∙ unborn_valueless s i k (omega (arith, where_is k l, m.number, m.many, n.number));
  new = λ k l. omega (arith, where_is k l, m.number, m.many, n.number, h.more);
}
  where
    where_is : (k : ℕ) → 1 ≤ times (r.1 ∷ q.1 ∷ []) k → (r.1 ≤ k) × (k ≤ q.1)
    where_is k l = two_within r.1 q.1 k (omega (arith, m.number, m.many, n.number)) l

-- ---- under a binder

-- a context with one more hypothesis
pub more_context : (s : Store) (g : Context) (h : Hypothesis) → IsContext s g → is_listed (names_in g) h.name ≡ false → OptionStands s (names_in g) h.body → Stands s (names_in g) h.kind → IsContext s (g ++ h ∷ [])
more_context s g h c new body kind = context_under s g h c new body kind

pub shut_stands : (s : Store) → IsStore s → (g : Context) (h : Hypothesis) (t : Tree) → Stands s (names_in (g ++ h ∷ [])) t → StandsUnder s (names_in g) 1 (close h.name t)
shut_stands s i g h t k = close_stands s i (names_in g) h.name t (along (λ xs. Stands s xs t) (names_more g h) k)

pub unshut_stands : (s : Store) → IsStore s → (g : Context) (h : Hypothesis) (t : Tree) → StandsUnder s (names_in g) 1 t → Stands s (names_in (g ++ h ∷ [])) (opened h.name t)
unshut_stands s i g h t k = along (λ xs. Stands s xs (opened h.name t)) (sym (names_more g h)) (open_stands s i (names_in g) h.name t k)

-- goals whose contexts have at most so many hypotheses
abbrev pub AreNear : ℕ → Store → List ℕ → Type 0
AreNear m s ks = (k : ℕ) (v : Variable) → 1 ≤ times ks k → slice_get s.variables k ≡ Some v → length v.context ≤ m

one_near : (s : Store) (g : Context) (r : Store × ℕ) (m : ℕ) → IsMade s g r → length g ≤ m → AreNear m r.0 (r.1 ∷ [])
one_near s g r m h l k v i e =
    let w = h.there in
    let same = ap (λ o. elim o as (λ z. Variable) [ Some z ↦ z | None ↦ v ]) (sym w.1 ∙ along (λ j. slice_get r.0.variables j ≡ Some v) (sym (one_is r.1 k i)) e) in
    along (λ d. length d ≤ m) (sym w.2 ∙ ap (λ z. z.context) same) l

-- what `intro` reaches
abbrev pub IsIntroduced : Scene → Done → Type 0
IsIntroduced c d = IsReached c d × AreNear (suc (length c.context)) d.store d.goals

longer : (g : Context) (h : Hypothesis) → length (g ++ h ∷ []) ≤ suc (length g)
longer g h = omega (arith, length-append g (h ∷ []))

-- a name that the context lacks
pub unused_is : (c : Scene) (z x : Name) → Gives (unused c z) x → (z ≡ x) × (is_listed (names_in c.context) x ≡ false)
unfolding unused
unused_is c z x y = at (is_listed (names_in c.context) z) refl y
  where
    at : (o : Bool) → is_listed (names_in c.context) z ≡ o → Gives {F = RowFault} (elim o as (λ w. Doing Name) [ true ↦ fails (used_name z) | false ↦ gives z ]) x → (z ≡ x) × (is_listed (names_in c.context) x ≡ false)
    at true e w = absurd w
    at false e w = (w, along (λ v. is_listed (names_in c.context) v ≡ false) w e)

pub unused_new : (c : Scene) (z x : Name) → Gives (unused c z) x → is_listed (names_in c.context) z ≡ false
unused_new c z x y = let q = unused_is c z x y in along (λ v. is_listed (names_in c.context) v ≡ false) (sym q.0) q.1

-- the parts of a local definition
let_parts : (s : Store) (xs : List Name) (x : Name) (v A B : Tree) → Stands s xs (Let x v A B) → Stands s xs v × Stands s xs A × StandsUnder s xs 1 B
unfolding read
let_parts s xs x v A B h =
    let q = along (HoldsOnly xs) (reads_let s.variables s.values x v A B) h.holds in (
      record { over = h.over.0; within = h.within.0; holds = q.0 },
      record { over = h.over.1; within = h.within.1; holds = q.1 },
      record { over = h.over.2; within = h.within.2; holds = q.2 },
    )

module _ (c : Scene) (s : IsScene c) where
  pub product_reached : (x y : Name) (A B : Tree) (d : Done) → is_listed (names_in c.context) x ≡ false → StandsIn c.store c.context A → StandsUnder c.store (names_in c.context) 1 B →
      Gives (under_product c x y A B) d → IsIntroduced c d
  unfolding under_product under
  product_reached x y A B d new a b z =
      let h : Hypothesis = record { name = x; body = None; kind = A } in
      let r = gives_bind (new_goal c c.store (under c.context x A) (opened x B)) _ d z in
      let m = goal_made c c.store (c.context ++ h ∷ []) (opened x B) r.0 s.store (more_context c.store c.context h s.context new tt a) (unshut_stands c.store s.store c.context h B b) r.1 in
      along (IsIntroduced c) r.2 (
        record {
          grown = m.grown;
          body = lam_stands r.0.0 m.grown.store (names_in c.context) y A _ (m.grown.keeps (names_in c.context) A a) (shut_stands r.0.0 m.grown.store c.context h _ m.term);
          goals = one_new c.store c.store (c.context ++ h ∷ []) r.0 (grown_now c.store s.store) s.store m;
        },
        one_near c.store (c.context ++ h ∷ []) r.0 (suc (length c.context)) m (longer c.context h),
      )

  pub value_reached : (x y : Name) (v A B : Tree) (d : Done) → is_listed (names_in c.context) x ≡ false → StandsIn c.store c.context v → StandsIn c.store c.context A → StandsUnder c.store (names_in c.context) 1 B →
      Gives (under_value c x y v A B) d → IsIntroduced c d
  unfolding under_value under_let
  value_reached x y v A B d new w a b z =
      let h : Hypothesis = record { name = x; body = Some v; kind = A } in
      let r = gives_bind (new_goal c c.store (under_let c.context x v A) (opened x B)) _ d z in
      let m = goal_made c c.store (c.context ++ h ∷ []) (opened x B) r.0 s.store (more_context c.store c.context h s.context new w a) (unshut_stands c.store s.store c.context h B b) r.1 in
      along (IsIntroduced c) r.2 (
        record {
          grown = m.grown;
          body = let_stands r.0.0 m.grown.store (names_in c.context) y v A _ (m.grown.keeps (names_in c.context) v w) (m.grown.keeps (names_in c.context) A a)
              (shut_stands r.0.0 m.grown.store c.context h _ m.term);
          goals = one_new c.store c.store (c.context ++ h ∷ []) r.0 (grown_now c.store s.store) s.store m;
        },
        one_near c.store (c.context ++ h ∷ []) r.0 (suc (length c.context)) m (longer c.context h),
      )

  -- the name is a new one
  intro_new : (w : Option Name) (b x : Name) → (w ≡ None → suc (length c.context) < 10 ^ 64) → Gives (intro_name c w b) x → is_listed (names_in c.context) x ≡ false
  unfolding intro_name
  intro_new None b x few y =
      along (λ z. is_listed (names_in c.context) z ≡ false) y
      (fresh_of_new (names_in c.context) (or_h b) (along (λ n. n < 10 ^ 64) (sym (length-map c.context (λ h. h.name))) (omega (arith, few refl))))
  intro_new (Some z) b x few y = (unused_is c z x y).1

  pub intro_on_reached : (w : Option Name) (t : Tree) (d : Done) → (w ≡ None → suc (length c.context) < 10 ^ 64) → StandsIn c.store c.context t → Gives (intro_on c w t) d → IsIntroduced c d
  unfolding intro_on
  intro_on_reached w (Prod b A B) d few h y =
      let x = gives_bind (intro_name c w b) _ d y in
      product_reached x.0 x.0 A B d (intro_new w b x.0 few x.1) (domain_stands c.store s.store (names_in c.context) b A B h) (rest_stands c.store s.store (names_in c.context) b A B h) x.2
  intro_on_reached w (Let b v A B) d few h y =
      let x = gives_bind (intro_name c w b) _ d y in
      let p = let_parts c.store (names_in c.context) b v A B h in
      value_reached x.0 x.0 v A B d (intro_new w b x.0 few x.1) p.0 p.1 p.2 x.2
  intro_on_reached w (Rel x) d few h y = absurd y
  intro_on_reached w (Var x) d few h y = absurd y
  intro_on_reached w (Sort x) d few h y = absurd y
  intro_on_reached w (Lam x A t) d few h y = absurd y
  intro_on_reached w (App t u) d few h y = absurd y
  intro_on_reached w (Const x) d few h y = absurd y
  intro_on_reached w (Ind x) d few h y = absurd y
  intro_on_reached w (Ctor x k) d few h y = absurd y
  intro_on_reached w (Elim x u) d few h y = absurd y
  intro_on_reached w (Evar k ts) d few h y = absurd y

  pub intro_reached : (w : Option Name) (d : Done) → (w ≡ None → suc (length c.context) < 10 ^ 64) → Gives (do_intro c w) d → IsIntroduced c d
  unfolding do_intro binder_form
  intro_reached w d few y = let t = gives_bind (binder_form c) (intro_on c w) d y in intro_on_reached w t.0 d few (at (is_binder c.kind) t.0 t.1) t.2
    where
      at : (b : Bool) (t : Tree) → Gives {F = RowFault} (elim b as (λ z. Doing Tree) [ true ↦ gives c.kind | false ↦ head_of c c.store c.kind ]) t → StandsIn c.store c.context t
      at true t z = along (StandsIn c.store c.context) z s.kind
      at false t z = head_stands c s.plain c.store s.store s.context c.kind t s.kind z

-- ---- several

-- the goal gets its body: the goals' contexts are as before
given_near : (m k : ℕ) (d : Done) (st : Step) → AreNear m d.store d.goals → Gives (given_to k d) st → AreNear m st.store st.goals
unfolding given_to with_value
given_near m k d st h y = let a = gives_bind (needed (read d.store d.body)) _ st y in at a.0 (has_value d.store k || holds_variable k a.0) a.2
  where
    at : (b : Tree) (o : Bool) → Gives {F = RowFault} (elim o as (λ z. Doing Step) [ true ↦ fails (by_store_call read_too_large) | false ↦ gives (record { store = with_value d.store k b; goals = d.goals }) ]) st → AreNear m st.store st.goals
    at b true z = absurd z
    at b false z = along (λ w. AreNear m w.store w.goals) z h

pub intro_near : (c : Scene) (w : Option Name) (st : Step) → IsScene c → (w ≡ None → suc (length c.context) < 10 ^ 64) → Gives (ended c (do_intro c w)) st → AreNear (suc (length c.context)) st.store st.goals
unfolding ended
intro_near c w st s few y =
    let d = gives_bind (do_intro c w) (given_to c.goal) st y in given_near (suc (length c.context)) c.goal d.0 st (intro_reached c s w d.0 few d.1).1 d.2

pub intro_kept : (c : Scene) (w : Option Name) (st : Step) → IsScene c → (w ≡ None → suc (length c.context) < 10 ^ 64) → Gives (ended c (do_intro c w)) st → IsStep c st
intro_kept c w st s few y = ended_kept c (do_intro c w) st s (λ d z. (intro_reached c s w d few z).0) y

-- a scene's goal in a store
scene_store : (c d : Scene) (st : Store) (k : ℕ) → IsSceneOf c.env c.bound c.values st k d → has_value st k ≡ false → has_value d.store d.goal ≡ false
scene_store c d st k q e = along (λ z. has_value z.store z.goal ≡ false) q.is e

pub intro_each_kept : (xs : List Name) (c : Scene) (st : Step) → IsScene c → has_value c.store c.goal ≡ false → Gives (intro_each xs c) st → IsStep c st
unfolding intro_each
intro_each_kept [] c st s e y = along (IsStep c) y (stays_kept c s e)
intro_each_kept (x ∷ xs) c st s e y =
    let a = gives_bind (ended c (do_intro c (Some x))) _ st y in
    let k = intro_kept c (Some x) a.0 s (λ z. absurd (grind (arith, z))) a.1 in
    then_kept c a.0 st (intro_each xs) s k (λ j d l v q sd z. intro_each_kept xs d st sd (scene_store c d a.0.store j q v) z) a.2

pub intro_all_kept : (m : ℕ) (c : Scene) (st : Step) → IsScene c → has_value c.store c.goal ≡ false → length c.context + m < 10 ^ 64 → Gives (intro_all m c) st → IsStep c st
unfolding intro_all
intro_all_kept zero c st s e few y = along (IsStep c) y (stays_kept c s e)
intro_all_kept (suc m) c st s e few y = at (is_binder c.kind) y (λ d r v few1 z. intro_all_kept m d st r v few1 z)
  where
    at : (b : Bool) → Gives {F = RowFault} (elim b as (λ z. Doing Step) [ false ↦ gives (stays c) | true ↦ ended c (do_intro c None) >>= λ st1. then_next c st1 (intro_all m) ]) st →
        ((d : Scene) → IsScene d → has_value d.store d.goal ≡ false → length d.context + m < 10 ^ 64 → Gives (intro_all m d) st → IsStep d st) → IsStep c st
    at false z ih = along (IsStep c) z (stays_kept c s e)
    at true z ih =
        let a = gives_bind (ended c (do_intro c None)) _ st z in
        let k = intro_kept c None a.0 s (λ i. omega (arith, few)) a.1 in
        let near = intro_near c None a.0 s (λ i. omega (arith, few)) a.1 in
        then_kept c a.0 st (intro_all m) s k (λ j d l v q sd w. ih d sd (scene_store c d a.0.store j q v) (room d j a.0 l q near) w) a.2
      where
        room : (d : Scene) (j : ℕ) (st1 : Step) → 1 ≤ times st1.goals j → IsSceneOf c.env c.bound c.values st1.store j d → AreNear (suc (length c.context)) st1.store st1.goals → length d.context + m < 10 ^ 64
        room d j st1 l q near = along (λ z. length z.context + m < 10 ^ 64) q.is (omega (arith, few, near j q.variable l q.there))
