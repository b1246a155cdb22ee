-- How solutions are found part by part, and that they are those of the definition.
use Rattle.std.proofs.Common.{◌≡◌, ◌∙◌, ℕ, suc, refl, sym, ap, ap₂, arith, Bool, true, false, ◌||◌, eqb, List, [], ◌∷◌, ◌++◌, length, Option, Some, None, append_assoc}
use Rattle.std.specs.Prelude.{option_map}
use Rattle.lq_trees.specs.Tree.{Name, Tree, Trees, none, more}
use Rattle.lq_trees.specs.Tree.Tree.{Rel, Var, Sort, Prod, Lam, Let, App, Const, Ind, Ctor, Elim, Evar}
use Rattle.lq_trees.specs.Marks.{holds_hypothesis, holds_unknown}
use Rattle.lq_trees.specs.Reading.{entries}
use Rattle.lq_solving.specs.Occurs.{holds_variable, holds_variable_in}
use Rattle.lq_solving.specs.Stores.{Store, names_at, instance_list}
use Rattle.lq_solving.specs.Unification.{two, three, place_of, inverted, inverted_each, given_body, solve}
use Rattle.lq_unify.specs.Parts.{parts_of, with_parts}
use Rattle.lq_unify.specs.Solutions.{is_barred, IsByParts, solution, solution_each, solutions}

pub some_is : {A : Type 0} {a b : A} → Some a ≡ Some b → a ≡ b
some_is {A} {a} e = ap (λ o. elim o [ Some x ↦ x | None ↦ a ]) e

-- ---- a term without hypotheses and without variables is its own solution

neither : (a b : Bool) → (a || b) ≡ false → (a ≡ false) × (b ≡ false)
neither false b e = (refl, e)
neither true b e = absurd (grind arith)

pub plain_solution : (k : Option ℕ) (place : Name → Option Tree) (t : Tree) → holds_hypothesis t ≡ false → holds_unknown t ≡ false → solution k place t ≡ Some t
unfolding solution two three
plain_solution k place (Rel i) h u = refl
plain_solution k place (Var x) h u = absurd (grind arith)
plain_solution k place (Sort s) h u = refl
plain_solution k place (Prod x A B) h u =
    let a = neither (holds_hypothesis A) (holds_hypothesis B) h in
    let b = neither (holds_unknown A) (holds_unknown B) u in
    ap₂ (λ o p. two o p (Prod x)) (plain_solution k place A a.0 b.0) (plain_solution k place B a.1 b.1)
plain_solution k place (Lam x A t) h u =
    let a = neither (holds_hypothesis A) (holds_hypothesis t) h in
    let b = neither (holds_unknown A) (holds_unknown t) u in
    ap₂ (λ o p. two o p (Lam x)) (plain_solution k place A a.0 b.0) (plain_solution k place t a.1 b.1)
plain_solution k place (Let x v A t) h u =
    let a = neither (holds_hypothesis v || holds_hypothesis A) (holds_hypothesis t) h in
    let c = neither (holds_hypothesis v) (holds_hypothesis A) a.0 in
    let b = neither (holds_unknown v || holds_unknown A) (holds_unknown t) u in
    let d = neither (holds_unknown v) (holds_unknown A) b.0 in
    ap (λ o. three o (solution k place A) (solution k place t) (Let x)) (plain_solution k place v c.0 d.0)
    ∙ ap₂ (λ o p. three (Some v) o p (Let x)) (plain_solution k place A c.1 d.1) (plain_solution k place t a.1 b.1)
plain_solution k place (App f a) h u =
    let g = neither (holds_hypothesis f) (holds_hypothesis a) h in
    let b = neither (holds_unknown f) (holds_unknown a) u in
    ap₂ (λ o p. two o p App) (plain_solution k place f g.0 b.0) (plain_solution k place a g.1 b.1)
plain_solution k place (Const c) h u = refl
plain_solution k place (Ind c) h u = refl
plain_solution k place (Ctor c i) h u = refl
plain_solution k place (Elim c s) h u = refl
plain_solution k place (Evar n ts) h u = absurd (grind arith)

-- ---- a node by its parts

module _ (k : Option ℕ) (place : Name → Option Tree) where
  -- a tree of two parts
  two_parts : (f : Tree → Tree → Tree) (g : List Tree → Tree) (A B : Tree) → ((C D : Tree) → g (C ∷ D ∷ []) ≡ f C D) →
      two (solution k place A) (solution k place B) f ≡ option_map g (solutions k place (A ∷ B ∷ []))
  unfolding two solutions
  two_parts f g A B e = by (solution k place A) (solution k place B)
    where
      by : (o p : Option Tree) → two o p f ≡ option_map g (two o (two p (Some []) (λ u us. u ∷ us)) (λ u us. u ∷ us))
      by None p = refl
      by (Some C) None = refl
      by (Some C) (Some D) = ap Some (sym (e C D))

  three_parts : (f : Tree → Tree → Tree → Tree) (g : List Tree → Tree) (v A B : Tree) → ((w C D : Tree) → g (w ∷ C ∷ D ∷ []) ≡ f w C D) →
      three (solution k place v) (solution k place A) (solution k place B) f ≡ option_map g (solutions k place (v ∷ A ∷ B ∷ []))
  unfolding two three solutions
  three_parts f g v A B e = by (solution k place v) (solution k place A) (solution k place B)
    where
      by : (n o p : Option Tree) → three n o p f ≡ option_map g (two n (two o (two p (Some []) (λ u us. u ∷ us)) (λ u us. u ∷ us)) (λ u us. u ∷ us))
      by None o p = refl
      by (Some w) None p = refl
      by (Some w) (Some C) None = refl
      by (Some w) (Some C) (Some D) = ap Some (sym (e w C D))

  each_parts : (ts : Trees) → solution_each k place ts ≡ option_map instance_list (solutions k place (entries ts))
  unfolding solution solution_each solutions two entries instance_list
  each_parts none = refl
  each_parts (more t ts) = ap (λ p. two (solution k place t) p more) (each_parts ts) ∙ by (solution k place t) (solutions k place (entries ts))
    where
      by : (o : Option Tree) (p : Option (List Tree)) → two o (option_map instance_list p) more ≡ option_map instance_list (two o p (λ u us. u ∷ us))
      by None p = refl
      by (Some u) None = refl
      by (Some u) (Some us) = refl

  pub by_parts : (t : Tree) → IsByParts k t → solution k place t ≡ option_map (with_parts t) (solutions k place (parts_of t))
  unfolding solution solutions parts_of with_parts
  by_parts (Rel i) h = refl
  by_parts (Var x) h = absurd h
  by_parts (Sort s) h = refl
  by_parts (Prod x A B) h = two_parts (Prod x) (with_parts (Prod x A B)) A B (λ C D. refl)
  by_parts (Lam x A t) h = two_parts (Lam x) (with_parts (Lam x A t)) A t (λ C D. refl)
  by_parts (Let x v A t) h = three_parts (Let x) (with_parts (Let x v A t)) v A t (λ w C D. refl)
  by_parts (App f a) h = two_parts App (with_parts (App f a)) f a (λ C D. refl)
  by_parts (Const c) h = refl
  by_parts (Ind c) h = refl
  by_parts (Ctor c i) h = refl
  by_parts (Elim c s) h = refl
  by_parts (Evar n ts) h =
      ap (λ b. elim b [ true ↦ None | false ↦ elim (solution_each k place ts) [ None ↦ None | Some us ↦ Some (Evar n us) ] ]) h
      ∙ ap (λ o. elim o [ None ↦ None | Some us ↦ Some (Evar n us) ]) (each_parts ts) ∙ by (solutions k place (entries ts))
    where
      by : (o : Option (List Tree)) → elim (option_map instance_list o) [ None ↦ None | Some us ↦ Some (Evar n us) ] ≡ option_map (λ us. Evar n (instance_list us)) o
      by None = refl
      by (Some us) = refl

  -- the variable itself has none
  pub own_solution : (n : ℕ) (ts : Trees) → is_barred k n ≡ true → solution k place (Evar n ts) ≡ None
  unfolding solution
  own_solution n ts e = ap (λ b. elim b [ true ↦ None | false ↦ elim (solution_each k place ts) [ None ↦ None | Some us ↦ Some (Evar n us) ] ]) e

  -- ---- the parts one after the other

  -- solutions that were found ahead of those that are to be found
  abbrev pub ahead : List Tree → Option (List Tree) → Option (List Tree)
  ahead us o = option_map (λ vs. us ++ vs) o

  pub ahead_none : (o : Option (List Tree)) → o ≡ ahead [] o
  ahead_none None = refl
  ahead_none (Some vs) = refl

  pub ahead_more : (us : List Tree) (t u : Tree) (ts : List Tree) → solution k place t ≡ Some u → ahead us (solutions k place (t ∷ ts)) ≡ ahead (us ++ u ∷ []) (solutions k place ts)
  unfolding solutions two
  ahead_more us t u ts e = ap (λ o. ahead us (two o (solutions k place ts) (λ v vs. v ∷ vs))) e ∙ by (solutions k place ts)
    where
      by : (o : Option (List Tree)) → ahead us (two (Some u) o (λ v vs. v ∷ vs)) ≡ ahead (us ++ u ∷ []) o
      by None = refl
      by (Some vs) = ap Some (sym (append_assoc us (u ∷ []) vs))

  pub ahead_ended : (us : List Tree) (t : Tree) (ts : List Tree) → solution k place t ≡ None → ahead us (solutions k place (t ∷ ts)) ≡ None
  unfolding solutions two
  ahead_ended us t ts e = ap (λ o. ahead us (two o (solutions k place ts) (λ v vs. v ∷ vs))) e

-- ---- the solution is the definition's

module _ (k : ℕ) (ys : List Name) (es : Trees) where
  -- what is found where the variable stands in the term, and where not
  abbrev unless : Bool → Option Tree → Option Tree
  unless b o = elim b [ true ↦ None | false ↦ o ]

  abbrev unless_each : Bool → Option Trees → Option Trees
  unless_each b o = elim b [ true ↦ None | false ↦ o ]

  both : {A B : Type 0} (a b : Bool) (o : Option A) (p : Option B) (f : A → B → Tree) →
      two (elim a as (λ z. Option A) [ true ↦ None | false ↦ o ]) (elim b as (λ z. Option B) [ true ↦ None | false ↦ p ]) f ≡ unless (a || b) (two o p f)
  unfolding two
  both false false o p f = refl
  both true b o p f = refl
  both false true None p f = refl
  both false true (Some x) p f = refl

  both_each : (a b : Bool) (o : Option Tree) (p : Option Trees) → two (unless a o) (unless_each b p) more ≡ unless_each (a || b) (two o p more)
  unfolding two
  both_each false false o p = refl
  both_each true b o p = refl
  both_each false true None p = refl
  both_each false true (Some x) p = refl

  all_three : (a b c : Bool) (o p q : Option Tree) (f : Tree → Tree → Tree → Tree) → three (unless a o) (unless b p) (unless c q) f ≡ unless (a || b || c) (three o p q f)
  unfolding three
  all_three true b c o p q f = refl
  all_three false b c None p q f = by (b || c)
    where
      by : (d : Bool) → None ≡ unless d None
      by true = refl
      by false = refl
  all_three false b c (Some x) p q f = both b c p q (f x)

  mutual
    unfolding solution is_barred holds_variable inverted

    pub solution_is : (t : Tree) → solution (Some k) (place_of ys es) t ≡ unless (holds_variable k t) (inverted ys es t)
    solution_is (Rel i) = refl
    solution_is (Var x) = refl
    solution_is (Sort s) = refl
    solution_is (Prod x A B) = ap₂ (λ o p. two o p (Prod x)) (solution_is A) (solution_is B) ∙ both (holds_variable k A) (holds_variable k B) (inverted ys es A) (inverted ys es B) (Prod x)
    solution_is (Lam x A t) = ap₂ (λ o p. two o p (Lam x)) (solution_is A) (solution_is t) ∙ both (holds_variable k A) (holds_variable k t) (inverted ys es A) (inverted ys es t) (Lam x)
    solution_is (Let x v A t) =
        ap (λ o. three o (solution (Some k) (place_of ys es) A) (solution (Some k) (place_of ys es) t) (Let x)) (solution_is v)
        ∙ ap₂ (λ o p. three (unless (holds_variable k v) (inverted ys es v)) o p (Let x)) (solution_is A) (solution_is t)
        ∙ all_three (holds_variable k v) (holds_variable k A) (holds_variable k t) (inverted ys es v) (inverted ys es A) (inverted ys es t) (Let x)
    solution_is (App f a) = ap₂ (λ o p. two o p App) (solution_is f) (solution_is a) ∙ both (holds_variable k f) (holds_variable k a) (inverted ys es f) (inverted ys es a) App
    solution_is (Const c) = refl
    solution_is (Ind c) = refl
    solution_is (Ctor c i) = refl
    solution_is (Elim c s) = refl
    solution_is (Evar n ts) = ap (λ o. elim (eqb k n) [ true ↦ None | false ↦ elim o [ None ↦ None | Some us ↦ Some (Evar n us) ] ]) (each_solution_is ts) ∙ by (eqb k n) (holds_variable_in k ts) (inverted_each ys es ts)
      where
        by : (a b : Bool) (o : Option Trees) → elim a as (λ z. Option Tree) [ true ↦ None | false ↦ elim (unless_each b o) [ None ↦ None | Some us ↦ Some (Evar n us) ] ] ≡ unless (a || b) (elim o [ None ↦ None | Some us ↦ Some (Evar n us) ])
        by true b o = refl
        by false true o = refl
        by false false o = refl

    pub each_solution_is : (ts : Trees) → solution_each (Some k) (place_of ys es) ts ≡ unless_each (holds_variable_in k ts) (inverted_each ys es ts)
    each_solution_is none = refl
    each_solution_is (more t ts) =
        ap₂ (λ o p. two o p more) (solution_is t) (each_solution_is ts) ∙ both_each (holds_variable k t) (holds_variable_in k ts) (inverted ys es t) (inverted_each ys es ts)

-- solving gives the solution for a body, if there is one
pub solve_is : (s : Store) (k : ℕ) (es : Trees) (u : Tree) → solve s k es u ≡ given_body s k (solution (Some k) (place_of (names_at s.variables k) es) u)
unfolding solve given_body
solve_is s k es u = by (holds_variable k u) ∙ sym (ap (given_body s k) (solution_is k (names_at s.variables k) es u))
  where
    by : (b : Bool) → elim b [ true ↦ given_body s k None | false ↦ given_body s k (inverted (names_at s.variables k) es u) ]
        ≡ given_body s k (elim b as (λ z. Option Tree) [ true ↦ None | false ↦ inverted (names_at s.variables k) es u ])
    by true = refl
    by false = refl

pub at_variable : (k : Option ℕ) (place : Name → Option Tree) (t : Tree) (x : Name) → t ≡ Var x → solution k place t ≡ place x
unfolding solution
at_variable k place t x e = ap (solution k place) e

pub at_barred : (k : Option ℕ) (place : Name → Option Tree) (t : Tree) (n : ℕ) (ts : Trees) → t ≡ Evar n ts → is_barred k n ≡ true → None ≡ solution k place t
at_barred k place t n ts e b = sym (ap (solution k place) e ∙ own_solution k place n ts b)

pub solutions_length : (k : Option ℕ) (place : Name → Option Tree) (ts us : List Tree) → Some us ≡ solutions k place ts → length us ≡ length ts
unfolding solutions two
solutions_length k place [] us e = ap length (some_is e)
solutions_length k place (t ∷ ts) us e = by (solution k place t) (solutions k place ts) (λ vs q. solutions_length k place ts vs q) e
  where
    by : (o : Option Tree) (p : Option (List Tree)) → ((vs : List Tree) → Some vs ≡ p → length vs ≡ length ts) → Some us ≡ two o p (λ v vs. v ∷ vs) → length us ≡ suc (length ts)
    by None p ih f = absurd (grind arith)
    by (Some v) None ih f = absurd (grind arith)
    by (Some v) (Some vs) ih f = ap length (some_is f) ∙ ap suc (ih vs refl)
