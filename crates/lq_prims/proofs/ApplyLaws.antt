-- `apply`, step by step.
use Rattle.std.proofs.Common.{◌≡◌, ◌<◌, ◌^◌, ◌∙◌, ℕ, suc, refl, sym, ap, arith, length, Bool, true, false, List, [], ◌∷◌, map, Option, Some, None, Result, Ok, Err}
use Rattle.std.proofs.Common.{subst as along}
use Rattle.std.specs.Prelude.{IfOk}
use Rattle.lq_trees.specs.Tree.{Tree, Context}
use Rattle.lq_trees.specs.Ticks.{gives, fails, cut, tick, ◌>>=◌, done, within, ComesTo}
use Rattle.lq_trees.proofs.Outcomes.{comes_then, comes_gives}
use Rattle.lq_calculus.specs.Contraction.{apply}
use Rattle.lq_calculus.specs.Declarations.{Env as Environment}
use Rattle.lq_calculus.proofs.Comparison.{bind_same}
use Rattle.lq_ast.specs.Syntax.{Surface}
use Rattle.lq_terms.specs.declared.nodes.Hypothesis.{Hypothesis}
use Rattle.lq_terms.specs.declared.nodes.TermId.{TermId}
use Rattle.lq_terms.specs.Contexts.{context_of}
use Rattle.lq_terms.specs.Terms.{Terms, HasTerm, Grows, tree_of}
use Rattle.lq_solving.specs.Stores.{Store, read, names_in}
use Rattle.lq_solving.specs.Kept.{StandsIn}
use Rattle.lq_solving.specs.Elaboration.{Found, Givens}
use Rattle.lq_evars.specs.Places.{Places, store_of}
use Rattle.lq_states.specs.Goals.{without}
use Rattle.lq_tactics.specs.Applying.{Opening, not_opened, most_premises, open_type, first_opening, is_needed, dependent_in, determined, premise_terms, applied_to, applied_or, apply_found, do_apply}
use Rattle.lq_tactics.specs.Rows.{Doing, Scene, Done, done_by, goal_term, needed, as_goals, open_of, made_open, term_of}
use Rattle.lq_tactics.proofs.RowsKept.{IsScene, IsReached, read_stands}
use Rattle.lq_tactics.proofs.ApplyKept.{IsFound, apply_reached}
use Rattle.lq_prims.specs.declared.faults.PrimFault.{PrimFault}
use Rattle.lq_prims.specs.Applied.{goals_work, applied_work, chosen_work, applied_if}
use Rattle.lq_prims.specs.Making.{IsIn, HasIn}
use Rattle.lq_prims.specs.Opening.{open_work, choose_work, opening_then, chosen_then}
use Rattle.lq_prims.specs.Scenes.{scene_by}
use Rattle.lq_prims.specs.Working.{Refuses, Does}
use Rattle.lq_prims.proofs.MakingLaws.{same_store, same_context}
use Rattle.lq_prims.proofs.ToldLaws.{needed_same}
use Rattle.lq_prims.proofs.TermLaws.{reached_any}
use Rattle.lq_prims.proofs.WorkLaws.{comes_is_given, refuses_first, refuses_then, refuses_same, does_same, does_then}

-- ---- what an opening builds

module _ (c : ℕ → Scene) (strict : Bool) (s : Store) (t : Tree) (o : Opening) where
  abbrev settled : List ℕ → ℕ → Doing Store
  settled ks n = as_goals (c n) o.store ks

  abbrev built : List ℕ → Store → ℕ → Doing Done
  built ks s1 n = gives (done_by s1 (apply t (premise_terms (c n) o.premises)) ks)

  abbrev from_goals : List ℕ → ℕ → Doing Done
  from_goals ks n = settled ks n >>= λ s1. built ks s1 n

  work_is : (n : ℕ) → (goals_work strict s o >>= λ ks. from_goals ks n) ≡ applied_work (c n) strict s t o
  unfolding applied_work
  work_is n = refl

  pub goals_not : (bank : Terms) (x : PrimFault) (b : ℕ) → Refuses bank x (λ n. goals_work strict s o) b b → Refuses bank x (λ n. applied_work (c n) strict s t o) b b
  goals_not bank x b h =
      refuses_same bank x (λ n. goals_work strict s o >>= λ ks. from_goals ks n) (λ n. applied_work (c n) strict s t o) b b work_is (refuses_first bank x (λ n. goals_work strict s o) from_goals b b h)

  module _ (ks : List ℕ) (e : goals_work strict s o ≡ gives ks) (b left : ℕ) where
    pub goals_unsettled : (bank : Terms) (x : PrimFault) → Refuses bank x (settled ks) b left → Refuses bank x (λ n. applied_work (c n) strict s t o) b left
    goals_unsettled bank x h =
        refuses_same bank x (λ n. goals_work strict s o >>= λ ks. from_goals ks n) (λ n. applied_work (c n) strict s t o) b left work_is
        (refuses_then bank x (λ n. goals_work strict s o) from_goals b b left ks (comes_gives (λ n. goals_work strict s o) ks b (λ n. e)) (refuses_first bank x (settled ks) (built ks) b left h))

    pub opening_built : (s1 : Store) → ComesTo (settled ks) b (done s1 left) → (g : Context) → ((n : ℕ) → (c n).context ≡ g) → (u : Tree) → u ≡ apply t (map (λ k. goal_term k g) o.premises) →
        ComesTo (λ n. applied_work (c n) strict s t o) b (done (done_by s1 u ks) left)
    unfolding premise_terms
    opening_built s1 h g at u is =
        λ n l. sym (ap (within b) (work_is n))
        ∙ comes_then (λ n. goals_work strict s o) from_goals b ks b (done (done_by s1 u ks) left) (comes_gives (λ n. goals_work strict s o) ks b (λ n. e))
        (comes_then (settled ks) (built ks) b s1 left (done (done_by s1 u ks) left) h
        (comes_gives (built ks s1) (done_by s1 u ks) left (λ n. ap (λ z. gives (done_by s1 (apply t (map (λ k. goal_term k z) o.premises)) ks)) (at n) ∙ ap (λ z. gives (done_by s1 z ks)) (sym is)))) n l

-- ---- which opening is chosen

module _ (c : ℕ → Scene) (U : Tree) (f : Found) (b : ℕ) where
  abbrev openings : ℕ → Doing (List Opening)
  openings n = open_work (c n) most_premises (not_opened f) []

  choice_is : (n : ℕ) → (openings n >>= λ os. choose_work (c n) U os) ≡ chosen_work (c n) U f
  unfolding chosen_work
  choice_is n = refl

  pub not_open : (bank : Terms) (x : PrimFault) (left : ℕ) → Refuses bank x openings b left → Refuses bank x (λ n. chosen_work (c n) U f) b left
  not_open bank x left h =
      refuses_same bank x (λ n. openings n >>= λ os. choose_work (c n) U os) (λ n. chosen_work (c n) U f) b left choice_is (refuses_first bank x openings (λ os n. choose_work (c n) U os) b left h)

  pub chosen_does : (l : ℕ) (os : List Opening) → ComesTo openings b (done os l) → {X : Type 0} (bank : Terms) (tell : X → Option Opening) (r : Result X PrimFault) (left : ℕ) → Does bank tell r (λ n. choose_work (c n) U os) l left →
      Does bank tell r (λ n. chosen_work (c n) U f) b left
  chosen_does l os h bank tell r left d =
      does_same bank tell r (λ n. openings n >>= λ z. choose_work (c n) U z) (λ n. chosen_work (c n) U f) b left choice_is (does_then bank tell r openings (λ z n. choose_work (c n) U z) b l left os h d)

-- the choice in equal scenes
pub choose_as : {X : Type 0} (E F : Environment) (s : Store) (k : ℕ) (g h : Context) (T : Tree) (vs : Givens) (U V : Tree) (os : List Opening) (bank : Terms) (tell : X → Option Opening) (r : Result X PrimFault) (b left : ℕ) → E ≡ F → g ≡ h → U ≡ V →
    Does bank tell r (λ n. choose_work (scene_by E s k g T vs n) U os) b left → Does bank tell r (λ n. choose_work (scene_by F s k h T vs n) V os) b left
choose_as E F s k g h T vs U V os bank tell r b left e i j d =
    along (λ z. Does bank tell r (λ n. choose_work (scene_by F s k h T vs n) z os) b left) j
    (along (λ z. Does bank tell r (λ n. choose_work (scene_by F s k z T vs n) U os) b left) i (along (λ z. Does bank tell r (λ n. choose_work (scene_by z s k g T vs n) U os) b left) e d))

pub chosen_as : {X : Type 0} (E F : Environment) (s : Store) (k : ℕ) (g h : Context) (T : Tree) (vs : Givens) (U : Tree) (f1 f2 : Found) (bank : Terms) (tell : X → Option Opening) (r : Result X PrimFault) (b left : ℕ) → E ≡ F → g ≡ h → f1 ≡ f2 →
    Does bank tell r (λ n. chosen_work (scene_by E s k g T vs n) U f1) b left → Does bank tell r (λ n. chosen_work (scene_by F s k h T vs n) U f2) b left
chosen_as E F s k g h T vs U f1 f2 bank tell r b left e i j d =
    along (λ z. Does bank tell r (λ n. chosen_work (scene_by F s k h T vs n) U z) b left) j
    (along (λ z. Does bank tell r (λ n. chosen_work (scene_by F s k z T vs n) U f1) b left) i (along (λ z. Does bank tell r (λ n. chosen_work (scene_by z s k g T vs n) U f1) b left) e d))

-- ---- the definition by these

pass_on : {A X B : Type 0} (w : Doing A) (x : X) (k : X → Doing B) → ((w >>= λ a. gives x) >>= k) ≡ (w >>= λ a. k x)
unfolding ◌>>=◌
pass_on (gives a) x k = refl
pass_on (fails f) x k = refl
pass_on cut x k = refl
pass_on (tick w) x k = ap tick (pass_on w x k)

then_as : {Y Z B : Type 0} (w : Doing Y) (j : Y → Z) (h : Z → Doing B) (k : Y → Doing B) → ((y : Y) → h (j y) ≡ k y) → ((w >>= λ y. gives (j y)) >>= h) ≡ (w >>= k)
unfolding ◌>>=◌
then_as (gives y) j h k same = same y
then_as (fails f) j h k same = refl
then_as cut j h k same = refl
then_as (tick w) j h k same = ap tick (then_as w j h k same)

first_as : {P X Y Z B : Type 0} (w : Doing P) (i : P → X) (m : X → Doing Y) (j : Y → Z) (h : Z → Doing B) (k : Y → Doing B) → ((y : Y) → h (j y) ≡ k y) →
    (((w >>= λ p. gives (i p)) >>= λ x. m x >>= λ y. gives (j y)) >>= h) ≡ (w >>= λ p. m (i p) >>= k)
unfolding ◌>>=◌
first_as (gives p) i m j h k same = then_as (m (i p)) j h k same
first_as (fails f) i m j h k same = refl
first_as cut i m j h k same = refl
first_as (tick w) i m j h k same = ap tick (first_as w i m j h k same)

module _ (s : Store) (o : Opening) where
  abbrev late : Opening
  late = opening_then (o, s)

  same_needed : (js : List ℕ) → dependent_in s late js ≡ dependent_in s o js
  unfolding dependent_in is_needed
  same_needed [] = refl
  same_needed (j ∷ js) = ap (λ z. elim (is_needed s o j) as (λ w. List ℕ) [ true ↦ j ∷ z | false ↦ z ]) (same_needed js)

  same_determined : (strict : Bool) (js : List ℕ) → determined strict s late js ≡ determined strict s o js
  unfolding determined
  same_determined false js = refl
  same_determined true [] = refl
  same_determined true (j ∷ js) = refl

  pub applied_is : (c : Scene) (strict : Bool) (f : Found) → applied_work c strict c.store f.term late ≡ applied_to c strict f o s
  unfolding applied_work applied_to goals_work
  applied_is c strict f =
      ap (λ js. (determined strict s late js >>= λ ok. gives (without js (open_of s o.premises))) >>= rest) (same_needed (made_open c.store s))
      ∙ ap (λ w. (w >>= λ ok. gives goals) >>= rest) (same_determined strict needed_ones) ∙ pass_on (determined strict s o needed_ones) goals rest
    where
      needed_ones : List ℕ
      needed_ones = dependent_in s o (made_open c.store s)

      goals : List ℕ
      goals = without needed_ones (open_of s o.premises)

      rest : List ℕ → Doing Done
      rest ks = as_goals c s ks >>= λ s1. gives (done_by s1 (apply f.term (premise_terms c o.premises)) ks)

same_end : (c : Scene) (strict : Bool) (f : Found) (U : Tree) (a : Option (Opening × Store)) → applied_if c strict f U (chosen_then a) ≡ applied_or c strict f U a
unfolding applied_if applied_or
same_end c strict f U (Some p) = applied_is p.1 p.0 c strict f
same_end c strict f U None = refl

module _ (E : Environment) (s : Store) (k : ℕ) (g : Context) (T : Tree) (vs : Givens) (strict : Bool) (f : Found) (b : ℕ) where
  abbrev scenes : ℕ → Scene
  scenes n = scene_by E s k g T vs n

  abbrev pick : Tree → ℕ → Doing (Option Opening)
  pick U n = chosen_work (scenes n) U f

  abbrev from_type : Tree → ℕ → Doing Done
  from_type U n = pick U n >>= λ a. applied_if (scenes n) strict f U a

  found_is : (n : ℕ) → (needed (read f.store T) >>= λ U. from_type U n) ≡ apply_found (scenes n) strict f
  unfolding apply_found chosen_work open_work choose_work
  found_is n =
      bind_same (needed (read f.store T)) (λ U. from_type U n) _
      (λ U. first_as (open_type (scenes n) most_premises (not_opened f) []) (λ p. p.0) (first_opening (scenes n) U) chosen_then (applied_if (scenes n) strict f U) (applied_or (scenes n) strict f U) (same_end (scenes n) strict f U))

  pub type_not_read : (bank : Terms) (x : PrimFault) → Refuses bank x (λ n. needed (read f.store T)) b b → Refuses bank x (λ n. apply_found (scenes n) strict f) b b
  type_not_read bank x h =
      refuses_same bank x (λ n. needed (read f.store T) >>= λ U. from_type U n) (λ n. apply_found (scenes n) strict f) b b found_is (refuses_first bank x (λ n. needed (read f.store T)) from_type b b h)

  module _ (U : Tree) (e : needed (read f.store T) ≡ gives U) where
    pub not_chosen : (bank : Terms) (x : PrimFault) (left : ℕ) → Refuses bank x (pick U) b left → Refuses bank x (λ n. apply_found (scenes n) strict f) b left
    not_chosen bank x left h =
        refuses_same bank x (λ n. needed (read f.store T) >>= λ U. from_type U n) (λ n. apply_found (scenes n) strict f) b left found_is
        (refuses_then bank x (λ n. needed (read f.store T)) from_type b b left U (comes_gives (λ n. needed (read f.store T)) U b (λ n. e)) (refuses_first bank x (pick U) (λ a n. applied_if (scenes n) strict f U a) b left h))

    pub chosen_then_does : (l : ℕ) (a : Option Opening) → ComesTo (pick U) b (done a l) → {X : Type 0} (bank : Terms) (tell : X → Done) (r : Result X PrimFault) (left : ℕ) → Does bank tell r (λ n. applied_if (scenes n) strict f U a) l left →
        Does bank tell r (λ n. apply_found (scenes n) strict f) b left
    chosen_then_does l a h bank tell r left d =
        does_same bank tell r (λ n. needed (read f.store T) >>= λ U. from_type U n) (λ n. apply_found (scenes n) strict f) b left found_is
        (does_then bank tell r (λ n. needed (read f.store T)) from_type b b left U (comes_gives (λ n. needed (read f.store T)) U b (λ n. e)) (does_then bank tell r (pick U) (λ a n. applied_if (scenes n) strict f U a) b l left a h d))

-- ---- the type that is wanted

-- it keeps within the limits
pub wanted_fits : (t u : Tree) → needed t ≡ gives u → needed u ≡ gives u
wanted_fits t u e = along (λ z. needed z ≡ gives u) (needed_same t u e) e

-- it stands where the goal's type does
pub wanted_in : (old new : Terms) (grows : Grows old new) (s : Places) (hs : List Hypothesis) (i : IsIn old s hs) (A : TermId) → HasIn old s hs A → (U : TermId) → HasTerm new U →
    needed (read (store_of old s) (tree_of old A)) ≡ gives (tree_of new U) → HasIn new s hs U
wanted_in old new grows s hs i A h U has e = record {
  has = has;
  stands = along (λ z. StandsIn z (context_of new hs) (tree_of new U)) (sym (same_store old new grows s hs i))
      (along (λ z. StandsIn (store_of old s) z (tree_of new U)) (sym (same_context old new grows s hs i))
      (along (StandsIn (store_of old s) (context_of old hs)) (needed_same (read (store_of old s) (tree_of old A)) (tree_of new U) e) (read_stands (store_of old s) i.kept (names_in (context_of old hs)) (tree_of old A) h.stands)));
}

-- ---- a written term

-- what is found in equal scenes
pub found_as : {X : Type 0} (E F : Environment) (s : Store) (k : ℕ) (g h : Context) (T U : Tree) (vs : Givens) (strict : Bool) (f : Found) (bank : Terms) (tell : X → Done) (r : Result X PrimFault) (b left : ℕ) → E ≡ F → g ≡ h → T ≡ U →
    Does bank tell r (λ n. apply_found (scene_by E s k g T vs n) strict f) b left → Does bank tell r (λ n. apply_found (scene_by F s k h U vs n) strict f) b left
found_as E F s k g h T U vs strict f bank tell r b left e i j d =
    along (λ z. Does bank tell r (λ n. apply_found (scene_by F s k h z vs n) strict f) b left) j
    (along (λ z. Does bank tell r (λ n. apply_found (scene_by F s k z T vs n) strict f) b left) i (along (λ z. Does bank tell r (λ n. apply_found (scene_by z s k g T vs n) strict f) b left) e d))

module _ (E : Environment) (s : Store) (k : ℕ) (g : Context) (T : Tree) (vs : Givens) (strict : Bool) (t : Surface) (b : ℕ) where
  abbrev at_goal : ℕ → Scene
  at_goal n = scene_by E s k g T vs n

  abbrev written : ℕ → Doing Found
  written n = term_of (at_goal n) t None

  apply_is : (n : ℕ) → (written n >>= λ f. apply_found (at_goal n) strict f) ≡ do_apply (at_goal n) strict t
  unfolding do_apply
  apply_is n = refl

  pub apply_unfound : (bank : Terms) (x : PrimFault) (left : ℕ) → Refuses bank x written b left → Refuses bank x (λ n. do_apply (at_goal n) strict t) b left
  apply_unfound bank x left h =
      refuses_same bank x (λ n. written n >>= λ f. apply_found (at_goal n) strict f) (λ n. do_apply (at_goal n) strict t) b left apply_is (refuses_first bank x written (λ f n. apply_found (at_goal n) strict f) b left h)

  pub apply_term : (l : ℕ) (f : Found) → ComesTo written b (done f l) → {X : Type 0} (bank : Terms) (tell : X → Done) (r : Result X PrimFault) (left : ℕ) → Does bank tell r (λ n. apply_found (at_goal n) strict f) l left →
      Does bank tell r (λ n. do_apply (at_goal n) strict t) b left
  apply_term l f h bank tell r left d =
      does_same bank tell r (λ n. written n >>= λ f. apply_found (at_goal n) strict f) (λ n. do_apply (at_goal n) strict t) b left apply_is (does_then bank tell r written (λ f n. apply_found (at_goal n) strict f) b l left f h d)

  pub apply_reaches : {X : Type 0} (bank : Terms) (tell : X → Done) (r : Result X PrimFault) (left : ℕ) (d : Scene) → Does bank tell r (λ n. do_apply (at_goal n) strict t) b left → IsScene (at_goal (suc b)) → IsFound (at_goal (suc b)) t None →
      length g < 2 ^ 64 → suc b < 2 ^ 65 → s ≡ d.store → g ≡ d.context → IfOk r (λ y. IsReached d (tell y))
  apply_reaches bank tell (Ok y) left d h i f few m e q =
      reached_any (at_goal (suc b)) d (tell y) e q (apply_reached (at_goal (suc b)) i strict t (tell y) f (omega (arith, few, m)) (comes_is_given (λ n. do_apply (at_goal n) strict t) b left (tell y) h))
  apply_reaches bank tell (Err x) left d h i f few m p q = tt
