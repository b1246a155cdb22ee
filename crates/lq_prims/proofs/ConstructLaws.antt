-- `constructor`, `split`, `left` and `right`, step by step.
use Rattle.std.proofs.Common.{◌≡◌, ◌<◌, ◌^◌, ◌∙◌, ℕ, zero, suc, refl, sym, ap, arith, true, List, length, Option, Some, None, Result, Ok, Err}
use Rattle.std.proofs.Common.{subst as along}
use Rattle.std.specs.Prelude.{IfOk}
use Rattle.lq_trees.specs.Tree.{Name, Tree, Context}
use Rattle.lq_trees.specs.Tree.Tree.{Ctor}
use Rattle.lq_trees.specs.Change.{instance}
use Rattle.lq_trees.specs.Ticks.{gives, ◌>>=◌, done, ComesTo}
use Rattle.lq_trees.proofs.TickLaws.{bind_gives, bind_bind}
use Rattle.lq_calculus.specs.Contraction.{apply}
use Rattle.lq_calculus.specs.Declarations.{Env as Environment}
use Rattle.lq_calculus.proofs.Comparison.{bind_same}
use Rattle.lq_calculus.proofs.ConvSound.{Gives, gives_bind}
use Rattle.lq_ast.specs.Syntax.{constructor, split, to_left, to_right}
use Rattle.lq_terms.specs.declared.nodes.Hypothesis.{Hypothesis}
use Rattle.lq_terms.specs.declared.nodes.TermId.{TermId}
use Rattle.lq_terms.specs.Contexts.{context_of}
use Rattle.lq_terms.specs.Terms.{Terms, HasTerm, Grows, tree_of}
use Rattle.lq_solving.specs.Stores.{Store}
use Rattle.lq_solving.specs.Kept.{StandsIn}
use Rattle.lq_solving.specs.Elaboration.{Found, Givens, found}
use Rattle.lq_solving.proofs.ElabStands.{Finds}
use Rattle.lq_evars.specs.Places.{Places, store_of}
use Rattle.lq_tactics.specs.Rows.{Doing, Scene, Done, ended}
use Rattle.lq_tactics.specs.Applying.{Inductive, goal_inductive, parameter_values, parameters_of, constructor_at, constructor_found, apply_found, numbered}
use Rattle.lq_tactics.specs.Primitives.{prim_row}
use Rattle.lq_tactics.proofs.RowsKept.{IsScene, IsReached}
use Rattle.lq_tactics.proofs.ApplyKept.{HasRoom}
use Rattle.lq_tactics.proofs.ConstructorsKept.{IsInductive, goal_is_inductive, constructor_finds, numbered_reached, right_number}
use Rattle.lq_prims.specs.declared.faults.PrimFault.{PrimFault}
use Rattle.lq_prims.specs.declared.inductives.Typed.{Typed}
use Rattle.lq_prims.specs.Constructing.{wanted_work, picked_work, constructor_work, constructor_row, StandsTyped}
use Rattle.lq_prims.specs.Inductives.{found_by, numbered_work}
use Rattle.lq_prims.specs.Making.{IsIn, HasIn}
use Rattle.lq_prims.specs.Scenes.{scene_by}
use Rattle.lq_prims.specs.Working.{Refuses, Does, Tells}
use Rattle.lq_prims.proofs.ConstructorLaws.{numbered_is}
use Rattle.lq_prims.proofs.MakingLaws.{same_store, same_context}
use Rattle.lq_prims.proofs.TermLaws.{reached_any}
use Rattle.lq_prims.proofs.WorkLaws.{comes_is_given, refuses_first, refuses_same, does_same, does_then, does_at_once, tells_same}

-- ---- the rows of the table

pub is_constructor : (c : Scene) (n : ℕ) → prim_row c (constructor (Some n)) ≡ ended c (constructor_row c None n)
unfolding prim_row constructor_row wanted_work
is_constructor c n = ap (λ w. ended c (w >>= λ i. numbered c i n)) (sym (bind_gives (goal_inductive c)))

pub is_split : (c : Scene) → prim_row c split ≡ ended c (constructor_row c (Some 1) 1)
unfolding prim_row constructor_row wanted_work numbered
is_split c = refl

pub is_left : (c : Scene) → prim_row c to_left ≡ ended c (constructor_row c (Some 2) 1)
unfolding prim_row constructor_row wanted_work numbered
is_left c = refl

pub is_right : (c : Scene) → prim_row c to_right ≡ ended c (constructor_row c (Some 2) 2)
unfolding prim_row constructor_row wanted_work numbered
is_right c = refl

-- ---- what stands

module _ (c : Scene) (s : IsScene c) where
  -- the type that has the wanted number is the goal's
  wanted_right : (w : Option ℕ) (i : Inductive) → Gives (goal_inductive c >>= wanted_work w) i → IsInductive c i
  unfolding wanted_work
  wanted_right None i y = let j = gives_bind (goal_inductive c) (wanted_work None) i y in along (IsInductive c) j.2 (goal_is_inductive c s j.0 j.1)
  wanted_right (Some n) i y = right_number c s n i y

  numbered_finds : (i : Inductive) → IsInductive c i → (m : ℕ) (f : Found) → Gives (numbered_work c i m) f → Finds c.store c.context f
  unfolding numbered_work
  numbered_finds i h zero f y = absurd y
  numbered_finds i h (suc k) f y = constructor_finds c s i h k f y

  work_finds : (w : Option ℕ) (m : ℕ) (f : Found) → Gives (constructor_work c w m) f → Finds c.store c.context f
  unfolding constructor_work
  work_finds w m f y = let i = gives_bind (goal_inductive c >>= wanted_work w) _ f y in numbered_finds i.0 (wanted_right w i.0 i.1) m f i.2

  row_reached : (w : Option ℕ) (m : ℕ) (d : Done) → HasRoom c 0 → Gives (constructor_row c w m) d → IsReached c d
  unfolding constructor_row
  row_reached w m d few y = let i = gives_bind (goal_inductive c >>= wanted_work w) _ d y in numbered_reached c s i.0 (wanted_right w i.0 i.1) m d few i.2

-- ---- a constructor of an inductive type

module _ (c : Scene) (w : Option ℕ) (i : Inductive) (m : ℕ) where
  abbrev picked : Doing Found
  picked = picked_work c w i m

  pub wanted_refused : (bank : Terms) (e : PrimFault) → ((b : ℕ) → Refuses bank e (λ n. wanted_work w i) b b) → (b : ℕ) → Refuses bank e (λ n. picked) b b
  wanted_refused bank e h b = refuses_first bank e (λ n. wanted_work w i) (λ j n. numbered_work c j m) b b (h b)

  pub wanted_then : {X : Type 0} (bank : Terms) (tell : X → Found) (r : Result X PrimFault) → wanted_work w i ≡ gives i → Tells bank tell r (numbered_work c i m) → Tells bank tell r picked
  unfolding ◌>>=◌
  wanted_then bank tell r e h = tells_same bank tell r (numbered_work c i m) picked (ap (λ z. z >>= λ j. numbered_work c j m) (sym e)) h

-- it looks at the scene's store alone
module _ (c d : Scene) (e : c.store ≡ d.store) where
  same_found : (i : Inductive) (k : ℕ) (o : Option (Name × Tree)) → constructor_found c i k o ≡ constructor_found d i k o
  unfolding constructor_found constructor_at
  same_found i k None = refl
  same_found i k (Some x) = ap (λ s. gives (found s (apply (Ctor i.name k) (parameters_of i)) (instance (parameter_values i) x.1))) e

  same_numbered : (i : Inductive) (m : ℕ) → numbered_work c i m ≡ numbered_work d i m
  unfolding numbered_work
  same_numbered i zero = refl
  same_numbered i (suc k) = same_found i k _

  same_picked : (w : Option ℕ) (i : Inductive) (m : ℕ) → picked c w i m ≡ picked d w i m
  same_picked w i m = bind_same (wanted_work w i) (λ j. numbered_work c j m) (λ j. numbered_work d j m) (λ j. same_numbered j m)

-- ---- a constructor of the goal's type

module _ (E : Environment) (s : Store) (k : ℕ) (g : Context) (T : Tree) (vs : Givens) (w : Option ℕ) (m b : ℕ) where
  abbrev scenes : ℕ → Scene
  scenes n = scene_by E s k g T vs n

  abbrev types : ℕ → Doing Inductive
  types n = goal_inductive (scenes n)

  abbrev from_type : Inductive → ℕ → Doing Found
  from_type i n = picked (scenes n) w i m

  abbrev works : ℕ → Doing Found
  works n = constructor_work (scenes n) w m

  work_is : (n : ℕ) → (types n >>= λ i. from_type i n) ≡ works n
  unfolding constructor_work
  work_is n = sym (bind_bind (types n) (wanted_work w) (λ j. numbered_work (scenes n) j m))

  pub type_refused : (bank : Terms) (e : PrimFault) (left : ℕ) → Refuses bank e types b left → Refuses bank e works b left
  type_refused bank e left h = refuses_same bank e (λ n. types n >>= λ i. from_type i n) works b left work_is (refuses_first bank e types from_type b left h)

  pub type_does : (bank : Terms) (r : Result Typed PrimFault) (l : ℕ) (i : Inductive) → ComesTo types b (done i l) → ((c : Scene) → Tells bank (found_by bank c.store) r (picked c w i m)) → Does bank (found_by bank s) r works b l
  type_does bank r l i h t =
      does_same bank (found_by bank s) r (λ n. types n >>= λ i. from_type i n) works b l work_is
      (does_then bank (found_by bank s) r types from_type b l l i h
      (does_same bank (found_by bank s) r (λ n. picked (scenes 0) w i m) (from_type i) l l (λ n. same_picked (scenes 0) (scenes n) refl w i m) (does_at_once bank (found_by bank s) r (picked (scenes 0) w i m) (t (scenes 0)) l)))

  -- ---- and the constructor applied

  abbrev rows : ℕ → Doing Done
  rows n = constructor_row (scenes n) w m

  row_is : (n : ℕ) → (works n >>= λ f. apply_found (scenes n) true f) ≡ rows n
  unfolding constructor_work constructor_row
  row_is n =
      bind_bind (types n >>= wanted_work w) (λ i. numbered_work (scenes n) i m) (apply_found (scenes n) true)
      ∙ bind_same (types n >>= wanted_work w) (λ i. numbered_work (scenes n) i m >>= apply_found (scenes n) true) (λ i. numbered (scenes n) i m) (λ i. numbered_is (scenes n) i m)

  pub row_refused : (bank : Terms) (e : PrimFault) (left : ℕ) → Refuses bank e works b left → Refuses bank e rows b left
  row_refused bank e left h =
      refuses_same bank e (λ n. works n >>= λ f. apply_found (scenes n) true f) rows b left row_is (refuses_first bank e works (λ f n. apply_found (scenes n) true f) b left h)

  pub row_does : (l : ℕ) (f : Found) → ComesTo works b (done f l) → {X : Type 0} (bank : Terms) (tell : X → Done) (r : Result X PrimFault) (left : ℕ) → Does bank tell r (λ n. apply_found (scenes n) true f) l left →
      Does bank tell r rows b left
  row_does l f h bank tell r left d =
      does_same bank tell r (λ n. works n >>= λ f. apply_found (scenes n) true f) rows b left row_is (does_then bank tell r works (λ f n. apply_found (scenes n) true f) b l left f h d)

  pub row_reaches : {X : Type 0} (bank : Terms) (tell : X → Done) (r : Result X PrimFault) (left : ℕ) (d : Scene) → Does bank tell r rows b left → IsScene (scenes (suc b)) → length g < 2 ^ 64 → suc b < 2 ^ 65 →
      s ≡ d.store → g ≡ d.context → IfOk r (λ y. IsReached d (tell y))
  row_reaches bank tell (Ok y) left d h i few many e q =
      reached_any (scenes (suc b)) d (tell y) e q (row_reached (scenes (suc b)) i w m (tell y) (omega (arith, few, many)) (comes_is_given rows b left (tell y) h))
  row_reaches bank tell (Err x) left d h i few many e q = tt

  -- it stands in the goal's context
  pub work_stands : (bank : Terms) (r : Result Typed PrimFault) (left : ℕ) → Does bank (found_by bank s) r works b left → IsScene (scenes (suc b)) → IfOk r (StandsTyped bank s g)
  work_stands bank (Ok f) left h i = let y = work_finds (scenes (suc b)) i w m (found_by bank s f) (comes_is_given works b left (found_by bank s f) h) in (y.1, y.2)
  work_stands bank (Err x) left h i = tt

-- a term that stands in a context of a bank stands there when the bank has grown
pub stands_in : (old new : Terms) (grows : Grows old new) (s : Places) (hs : List Hypothesis) (i : IsIn old s hs) (g : Context) → context_of old hs ≡ g → (t : TermId) → HasTerm new t → StandsIn (store_of old s) g (tree_of new t) → HasIn new s hs t
stands_in old new grows s hs i g e t has h = record {
  has = has;
  stands = along (λ z. StandsIn z (context_of new hs) (tree_of new t)) (sym (same_store old new grows s hs i)) (along (λ z. StandsIn (store_of old s) z (tree_of new t)) (sym (same_context old new grows s hs i ∙ e)) h);
}
