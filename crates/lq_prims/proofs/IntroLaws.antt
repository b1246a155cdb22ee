-- `intro`, step by step.
use Rattle.std.proofs.Common.{◌≡◌, ◌∙◌, ℕ, refl, sym, ap, arith, Bool, true, false, [], ◌∷◌, ◌++◌, Option, Some, None, Result}
use Rattle.std.proofs.Common.{subst as along}
use Rattle.lq_trees.specs.Tree.{Name, Tree, Context}
use Rattle.lq_trees.specs.Tree.Tree.{Rel, Var, Sort, Prod, Lam, Let, App, Const, Ind, Ctor, Elim, Evar}
use Rattle.lq_trees.specs.Change.{close}
use Rattle.lq_trees.specs.Fresh.{is_listed, opened, under, under_let}
use Rattle.lq_trees.specs.Ticks.{gives, fails, done, ComesTo}
use Rattle.lq_trees.proofs.Outcomes.{comes_then, comes_gives, comes_fails}
use Rattle.lq_calculus.specs.Declarations.{Env as Environment, variables}
use Rattle.lq_calculus.proofs.ConvSound.{Gives}
use Rattle.lq_terms.specs.Terms.{Terms}
use Rattle.lq_solving.specs.Stores.{Store, names_in, instance_list, count}
use Rattle.lq_solving.specs.Kept.{StandsIn}
use Rattle.lq_solving.specs.Elaboration.{Givens}
use Rattle.lq_tactics.specs.Rows.{RowFault, Doing, Scene, Done, done_by, new_goal, goal_term, head_of, unused, nothing_to_introduce}
use Rattle.lq_tactics.specs.Primitives.{intro_name, under_product, under_value, intro_on, is_binder, binder_form, do_intro}
use Rattle.lq_tactics.proofs.RowsKept.{IsScene, head_stands}
use Rattle.lq_prims.specs.declared.faults.PrimFault.{PrimFault}
use Rattle.lq_prims.specs.Working.{Refuses, Does}
use Rattle.lq_prims.specs.Scenes.{scene_by, form_work}
use Rattle.lq_prims.proofs.WorkLaws.{refuses_at, refuses_then, refuses_first, refuses_same, does_then, does_same, does_after}
use Rattle.lq_solving.proofs.InstanceLaws.{is_same}
use Rattle.lq_prims.proofs.BinderLaws.{goal_closed}

-- a term that is no product and no local definition
pub no_binder : (c : Scene) (w : Option Name) (t : Tree) → is_binder t ≡ false → intro_on c w t ≡ fails nothing_to_introduce
unfolding is_binder intro_on
no_binder c w (Prod x A B) e = absurd (grind (arith, e))
no_binder c w (Let x v A B) e = absurd (grind (arith, e))
no_binder c w (Rel i) e = refl
no_binder c w (Var x) e = refl
no_binder c w (Sort s) e = refl
no_binder c w (Lam x A t) e = refl
no_binder c w (App f a) e = refl
no_binder c w (Const x) e = refl
no_binder c w (Ind x) e = refl
no_binder c w (Ctor x i) e = refl
no_binder c w (Elim x s) e = refl
no_binder c w (Evar i ts) e = refl

module _ (E : Environment) (s : Store) (k : ℕ) (g : Context) (T : Tree) (vs : Givens) where
  abbrev pub c : ℕ → Scene
  c n = scene_by E s k g T vs n

  -- ---- under a binder

  -- what the next goal is inside a binder
  abbrev pub inside : Tree
  inside = Evar (count s) (instance_list (variables g ++ Rel 0 ∷ []))

  module _ (x : Name) (A B : Tree) (b left : ℕ) where
    -- the goal of the rest
    abbrev pub product_goal : ℕ → Doing (Store × ℕ)
    product_goal n = new_goal (c n) s (under g x A) (opened x B)

    abbrev then_function : Store × ℕ → ℕ → Doing Done
    then_function r n = gives (done_by r.0 (Lam x A (close x (goal_term r.1 (under g x A)))) (r.1 ∷ []))

    function_is : (j : ℕ) (body : Tree) → is_listed (names_in g) x ≡ false → j ≡ count s → body ≡ Lam x A inside → Lam x A (close x (goal_term j (under g x A))) ≡ body
    unfolding under
    function_is j body new e is = ap (Lam x A) (goal_closed j g (record { name = x; body = None; kind = A }) new (is_same x) ∙ ap (λ i. Evar i (instance_list (variables g ++ Rel 0 ∷ []))) e) ∙ sym is

    pub product_done : (s1 : Store) (j : ℕ) (body : Tree) → is_listed (names_in g) x ≡ false → j ≡ count s → body ≡ Lam x A inside → ComesTo product_goal b (done (s1, j) left) →
        ComesTo (λ n. under_product (c n) x x A B) b (done (done_by s1 body (j ∷ [])) left)
    unfolding under_product
    product_done s1 j body new e is h =
        comes_then product_goal then_function b (s1, j) left (done (done_by s1 body (j ∷ [])) left) h
        (comes_gives (then_function (s1, j)) (done_by s1 body (j ∷ [])) left (λ n. ap (λ z. gives (done_by s1 z (j ∷ []))) (function_is j body new e is)))

    pub product_refused : (bank : Terms) (e : PrimFault) → Refuses bank e product_goal b left → Refuses bank e (λ n. under_product (c n) x x A B) b left
    unfolding under_product
    product_refused bank e h = refuses_first bank e product_goal then_function b left h

  module _ (x : Name) (v A B : Tree) (b left : ℕ) where
    abbrev pub value_goal : ℕ → Doing (Store × ℕ)
    value_goal n = new_goal (c n) s (under_let g x v A) (opened x B)

    abbrev then_let : Store × ℕ → ℕ → Doing Done
    then_let r n = gives (done_by r.0 (Let x v A (close x (goal_term r.1 (under_let g x v A)))) (r.1 ∷ []))

    let_is : (j : ℕ) (body : Tree) → is_listed (names_in g) x ≡ false → j ≡ count s → body ≡ Let x v A inside → Let x v A (close x (goal_term j (under_let g x v A))) ≡ body
    unfolding under_let
    let_is j body new e is = ap (Let x v A) (goal_closed j g (record { name = x; body = Some v; kind = A }) new (is_same x) ∙ ap (λ i. Evar i (instance_list (variables g ++ Rel 0 ∷ []))) e) ∙ sym is

    pub value_done : (s1 : Store) (j : ℕ) (body : Tree) → is_listed (names_in g) x ≡ false → j ≡ count s → body ≡ Let x v A inside → ComesTo value_goal b (done (s1, j) left) →
        ComesTo (λ n. under_value (c n) x x v A B) b (done (done_by s1 body (j ∷ [])) left)
    unfolding under_value
    value_done s1 j body new e is h =
        comes_then value_goal then_let b (s1, j) left (done (done_by s1 body (j ∷ [])) left) h
        (comes_gives (then_let (s1, j)) (done_by s1 body (j ∷ [])) left (λ n. ap (λ z. gives (done_by s1 z (j ∷ []))) (let_is j body new e is)))

    pub value_refused : (bank : Terms) (e : PrimFault) → Refuses bank e value_goal b left → Refuses bank e (λ n. under_value (c n) x x v A B) b left
    unfolding under_value
    value_refused bank e h = refuses_first bank e value_goal then_let b left h

  -- ---- the name

  name_same : (w : Option Name) (b : Name) (n : ℕ) → intro_name (c 0) w b ≡ intro_name (c n) w b
  unfolding intro_name unused
  name_same None b n = refl
  name_same (Some x) b n = refl

  module _ (w : Option Name) (y : Name) (A B : Tree) where
    pub product_named : {X : Type 0} (bank : Terms) (tell : X → Done) (q : Result X PrimFault) (x : Name) (b left : ℕ) → ((n : ℕ) → intro_name (c n) w y ≡ gives x) → Does bank tell q (λ n. under_product (c n) x x A B) b left →
        Does bank tell q (λ n. intro_on (c n) w (Prod y A B)) b left
    unfolding intro_on
    product_named bank tell q x b left e h = does_after bank tell q (λ n. intro_name (c n) w y) (λ z n. under_product (c n) z z A B) b left x e h

    pub product_unnamed : (bank : Terms) (e : PrimFault) (b : ℕ) → Refuses bank e (λ n. intro_name (c 0) w y) b b → Refuses bank e (λ n. intro_on (c n) w (Prod y A B)) b b
    unfolding intro_on
    product_unnamed bank e b h =
        refuses_first bank e (λ n. intro_name (c n) w y) (λ z n. under_product (c n) z z A B) b b (refuses_same bank e (λ n. intro_name (c 0) w y) (λ n. intro_name (c n) w y) b b (name_same w y) h)

  module _ (w : Option Name) (y : Name) (v A B : Tree) where
    pub value_named : {X : Type 0} (bank : Terms) (tell : X → Done) (q : Result X PrimFault) (x : Name) (b left : ℕ) → ((n : ℕ) → intro_name (c n) w y ≡ gives x) → Does bank tell q (λ n. under_value (c n) x x v A B) b left →
        Does bank tell q (λ n. intro_on (c n) w (Let y v A B)) b left
    unfolding intro_on
    value_named bank tell q x b left e h = does_after bank tell q (λ n. intro_name (c n) w y) (λ z n. under_value (c n) z z v A B) b left x e h

    pub value_unnamed : (bank : Terms) (e : PrimFault) (b : ℕ) → Refuses bank e (λ n. intro_name (c 0) w y) b b → Refuses bank e (λ n. intro_on (c n) w (Let y v A B)) b b
    unfolding intro_on
    value_unnamed bank e b h =
        refuses_first bank e (λ n. intro_name (c n) w y) (λ z n. under_value (c n) z z v A B) b b (refuses_same bank e (λ n. intro_name (c 0) w y) (λ n. intro_name (c n) w y) b b (name_same w y) h)

  -- ---- the goal's type, or its weak head form

  binder_at : (b : Bool) → is_binder T ≡ b → (n : ℕ) → elim b as (λ z. Doing Tree) [ true ↦ gives T | false ↦ head_of (c n) s T ] ≡ binder_form (c n)
  unfolding binder_form
  binder_at b e n = ap (λ z. elim z as (λ w. Doing Tree) [ true ↦ gives T | false ↦ head_of (c n) s T ]) (sym e)

  pub form_now : (bank : Terms) (b : ℕ) → is_binder T ≡ true → ComesTo (λ n. binder_form (c n)) b (done T b)
  form_now bank b e = comes_gives (λ n. binder_form (c n)) T b (λ n. sym (binder_at true e n))

  pub form_later : {X : Type 0} (bank : Terms) (tell : X → Tree) (q : Result X PrimFault) (b left : ℕ) → is_binder T ≡ false → Does bank tell q (form_work E s g T) b left → Does bank tell q (λ n. binder_form (c n)) b left
  unfolding head_of
  form_later bank tell q b left e h = does_same bank tell q (form_work E s g T) (λ n. binder_form (c n)) b left (binder_at false e) h

  module _ (w : Option Name) (b l : ℕ) (t : Tree) (h : ComesTo (λ n. binder_form (c n)) b (done t l)) where
    pub intro_then : {X : Type 0} (bank : Terms) (tell : X → Done) (q : Result X PrimFault) (left : ℕ) → Does bank tell q (λ n. intro_on (c n) w t) l left → Does bank tell q (λ n. do_intro (c n) w) b left
    unfolding do_intro
    intro_then bank tell q left k = does_then bank tell q (λ n. binder_form (c n)) (λ z n. intro_on (c n) w z) b l left t h k

    pub intro_none : (bank : Terms) → is_binder t ≡ false → Refuses bank PrimFault.NothingToIntroduce (λ n. do_intro (c n) w) b l
    unfolding do_intro
    intro_none bank e =
        refuses_then bank PrimFault.NothingToIntroduce (λ n. binder_form (c n)) (λ z n. intro_on (c n) w z) b l l t h
        (refuses_at bank PrimFault.NothingToIntroduce nothing_to_introduce (λ n. intro_on (c n) w t) l l refl (comes_fails (λ n. intro_on (c n) w t) nothing_to_introduce l (λ n. no_binder (c n) w t e)))

  pub intro_refused : (w : Option Name) (bank : Terms) (e : PrimFault) (b left : ℕ) → Refuses bank e (λ n. binder_form (c n)) b left → Refuses bank e (λ n. do_intro (c n) w) b left
  unfolding do_intro
  intro_refused w bank e b left h = refuses_first bank e (λ n. binder_form (c n)) (λ z n. intro_on (c n) w z) b left h

-- the form stands in the goal's context
pub form_stands : (c : Scene) → IsScene c → (t : Tree) → Gives (binder_form c) t → StandsIn c.store c.context t
unfolding binder_form
form_stands c s t y = at (is_binder c.kind) y
  where
    at : (b : Bool) → Gives {F = RowFault} (elim b as (λ z. Doing Tree) [ true ↦ gives c.kind | false ↦ head_of c c.store c.kind ]) t → StandsIn c.store c.context t
    at true z = along (StandsIn c.store c.context) z s.kind
    at false z = head_stands c s.plain c.store s.store s.context c.kind t s.kind z
