-- The branches of an elimination, each on its goal, keep what holds.
use Rattle.std.proofs.Common.{◌≡◌, ◌≤◌, ◌<◌, ◌+◌, ◌^◌, ◌∙◌, ℕ, zero, suc, refl, sym, ap, arith, false, List, [], ◌∷◌, ◌++◌, length, drop}
use Rattle.std.proofs.Common.{subst as along, Option}
use Rattle.std.proofs.lemmas.List.{length-map}
use Rattle.std.specs.List.{AllByRecursion}
use Rattle.lq_trees.specs.Tree.{Name, Tree}
use Rattle.lq_trees.specs.Ticks.{◌>>=◌}
use Rattle.lq_calculus.specs.Declarations.{Family}
use Rattle.lq_calculus.proofs.ConvSound.{Gives, gives_bind}
use Rattle.lq_solving.specs.Stores.{Store, names_in, names_at, has_value, count, with_value}
use Rattle.lq_solving.specs.Kept.{IsStore}
use Rattle.lq_solving.specs.Claims.{ArePlainDeclarations}
use Rattle.lq_solving.specs.Elaboration.{Found}
use Rattle.lq_solving.proofs.ElabKept.{Grown, grown_now, grown_then}
use Rattle.lq_solving.proofs.ElabStands.{Finds}
use Rattle.lq_states.specs.Kept.{times}
use Rattle.lq_states.proofs.ListLaws.{times_append}
use Rattle.lq_tactics.specs.Rows.{Scene, Done, Step, scene, given_to}
use Rattle.lq_tactics.specs.Exchanging.{first_or}
use Rattle.lq_tactics.specs.Elimination.{Naming, Eliminated, eliminate, arguments_in, branch, branches, names_agree, eliminate_and_intro}
use Rattle.lq_tactics.proofs.RowsKept.{AreGiven, IsScene, IsStep, IsSceneOf, given_later, scene_is, scene_kept, step_kept}
use Rattle.lq_tactics.proofs.StepsKept.{first_stands}
use Rattle.lq_tactics.proofs.QuietKept.{given_is, IsQuiet, scene_store, scene_open, branch_quiet}
use Rattle.lq_tactics.proofs.ElimKept.{AreShort, eliminate_reached}

-- ---- goals one after the other

-- goals that are worked on: none of them twice, each without a value
pub record AreOpen (s : Store) (ks : List ℕ) : Type 0 where
  pub once : (k : ℕ) → times ks k ≤ 1
  pub inside : (k : ℕ) → 1 ≤ times ks k → k < count s
  pub valueless : (k : ℕ) → 1 ≤ times ks k → has_value s k ≡ false

-- what was done on them: the goals that are left are new ones or among them, and no other variable got a value
pub record AreBranched (s : Store) (ks : List ℕ) (st : Step) : Type 0 where
  pub grown : Grown s st.store
  pub once : (k : ℕ) → times st.goals k ≤ 1
  pub inside : (k : ℕ) → 1 ≤ times st.goals k → k < count st.store
  pub valueless : (k : ℕ) → 1 ≤ times st.goals k → has_value st.store k ≡ false
  pub new : (k : ℕ) → 1 ≤ times st.goals k → k < count s → 1 ≤ times ks k
  pub others : (j : ℕ) → j < count s → times ks j ≡ 0 → has_value st.store j ≡ has_value s j

none_branched : (s : Store) (ks : List ℕ) → IsStore s → AreBranched s ks (record { store = s; goals = [] })
unfolding times
none_branched s ks i = record {
  grown = grown_now s i;
  once = λ k. omega arith;
  inside = λ k l. absurd (omega (arith, l));
  valueless = λ k l. absurd (omega (arith, l));
  new = λ k l b. absurd (omega (arith, l));
  others = λ j l n. refl;
}

-- how often a number stands in a list with one more in front
two_times : (k : ℕ) (ks : List ℕ) (m : ℕ) → times (k ∷ ks) m ≡ times (k ∷ []) m + times ks m
two_times k ks m = times_append (k ∷ []) ks m

quiet_branched : (c : Scene) (st : Step) (s : Store) (k : ℕ) → c.store ≡ s → c.goal ≡ k → IsQuiet c st → AreBranched s (k ∷ []) st
quiet_branched c st s k e g q =
    along (λ z. AreBranched z (k ∷ []) st) e
    (along (λ j. AreBranched c.store (j ∷ []) st) g
    (record {
      grown = q.step.grown;
      once = q.step.once;
      inside = q.step.inside;
      valueless = q.step.valueless;
      new = λ j l b. along (λ i. 1 ≤ times (c.goal ∷ []) i) (sym (q.step.new j l b)) (first_stands c.goal []);
      others = λ j l n. q.others j l (λ i. omega (arith, n, along (λ z. 1 ≤ times (z ∷ []) j) i (first_stands j [])));
    }))

module _ (s : Store) (k : ℕ) (ks : List ℕ) (o : AreOpen s (k ∷ ks)) (st1 rest : Step) (a : AreBranched s (k ∷ []) st1) (b : AreBranched st1.store ks rest) where
  -- a goal that the first leaves is none of those behind
  apart : (m : ℕ) → 1 ≤ times st1.goals m → times ks m ≡ 0
  apart m l = at (times ks m) refl
    where
      at : (n : ℕ) → times ks m ≡ n → times ks m ≡ 0
      at zero e = e
      at (suc n) e =
          let t = two_times k ks m in
          absurd (omega (arith, e, t, o.once m, a.new m l (o.inside m (omega (arith, e, t)))))

  none_left : (m : ℕ) → 1 ≤ times st1.goals m → times rest.goals m ≡ 0
  none_left m l = at (times rest.goals m) refl
    where
      at : (n : ℕ) → times rest.goals m ≡ n → times rest.goals m ≡ 0
      at zero e = e
      at (suc n) e = absurd (omega (arith, apart m l, b.new m (omega (arith, e)) (a.inside m l)))

  -- a goal is left by the first, or by those behind
  either : (m : ℕ) (P : Type 0) → 1 ≤ times (st1.goals ++ rest.goals) m → (1 ≤ times st1.goals m → P) → (1 ≤ times rest.goals m → P) → P
  either m P l f g = at (times st1.goals m) refl
    where
      at : (n : ℕ) → times st1.goals m ≡ n → P
      at (suc n) e = f (omega (arith, e))
      at zero e = g (omega (arith, e, l, times_append st1.goals rest.goals m))

  both_branched : AreBranched s (k ∷ ks) (record { store = rest.store; goals = st1.goals ++ rest.goals })
  both_branched = record {
    grown = grown_then s st1.store rest.store a.grown b.grown;
    once = λ m. once m (times st1.goals m) refl;
    inside = λ m l. either m (m < count rest.store) l (λ i. omega (arith, a.inside m i, b.grown.more)) (λ i. b.inside m i);
    valueless = λ m l. either m (has_value rest.store m ≡ false) l (λ i. b.others m (a.inside m i) (apart m i) ∙ a.valueless m i) (λ i. b.valueless m i);
    new = λ m l h. either m (1 ≤ times (k ∷ ks) m) l (λ i. omega (arith, two_times k ks m, a.new m i h)) (λ i. omega (arith, two_times k ks m, b.new m i (omega (arith, h, a.grown.more))));
    others = λ j l n. b.others j (omega (arith, l, a.grown.more)) (omega (arith, n, two_times k ks j)) ∙ a.others j l (omega (arith, n, two_times k ks j));
  }
    where
      once : (m n : ℕ) → times st1.goals m ≡ n → times (st1.goals ++ rest.goals) m ≤ 1
      once m zero e = omega (arith, e, times_append st1.goals rest.goals m, b.once m)
      once m (suc n) e = omega (arith, times_append st1.goals rest.goals m, a.once m, none_left m (omega (arith, e)))

-- ---- the branches

-- room for the names that branches make where induction hypotheses are not kept
abbrev pub HavePlace : Naming → Family → ℕ → List (Name × Tree) → Type 0
HavePlace m f n ds = m.keeps ≡ false → AllByRecursion (λ d. length (arguments_in f d.1) ≤ 2000) ds × (n + 4000 + length m.reverted < 10 ^ 64)

-- goals behind the first
rest_open : (s : Store) (k : ℕ) (ks : List ℕ) (st : Step) → AreOpen s (k ∷ ks) → AreBranched s (k ∷ []) st → AreOpen st.store ks
rest_open s k ks st o a = record {
  once = λ m. omega (arith, o.once m, two_times k ks m);
  inside = λ m l. omega (arith, o.inside m (omega (arith, l, two_times k ks m)), a.grown.more);
  valueless = λ m l.
      let there : 1 ≤ times (k ∷ ks) m = omega (arith, l, two_times k ks m) in
      a.others m (o.inside m there) (omega (arith, l, two_times k ks m, o.once m)) ∙ o.valueless m there;
}

rest_short : (n : ℕ) (s s1 : Store) (k : ℕ) (ks : List ℕ) → AreOpen s (k ∷ ks) → Grown s s1 → AreShort n s (k ∷ ks) → AreShort n s1 ks
rest_short n s s1 k ks o g h m l =
    let there : 1 ≤ times (k ∷ ks) m = omega (arith, l, two_times k ks m) in
    along (λ xs. length xs ≤ n) (sym (g.names m (o.inside m there))) (h m there)

module _ (c : Scene) (plain : ArePlainDeclarations c.env) (m : Naming) (f : Family) (n : ℕ) where
  -- a goal's context is short
  context_short : (d : Scene) (s : Store) (k : ℕ) (ks : List ℕ) → IsSceneOf c.env c.bound c.values s k d → IsScene d → AreShort n s (k ∷ ks) →
      length d.context ≤ n
  context_short d s k ks q sd h =
      let r = scene_store c d s k q in
      let names = along (λ z. names_at z.variables k ≡ names_in d.context) r.0 (along (λ j. names_at d.store.variables j ≡ names_in d.context) r.1 sd.names) in
      omega (arith, ap length names, h k (first_stands k ks), length-map d.context (λ i. i.name))

  branches_done : (ds : List (Name × Tree)) (bs : List (List Name)) (ks : List ℕ) (s : Store) (st : Step) → IsStore s → AreGiven s c.values → AreOpen s ks →
      AreShort n s ks → HavePlace m f n ds →
      Gives (branches c m f ds bs ks s) st → AreBranched s ks st
  unfolding branches
  branches_done [] bs [] s st i g o h p y = along (AreBranched s []) y (none_branched s [] i)
  branches_done [] bs (k ∷ ks) s st i g o h p y = along (AreBranched s (k ∷ ks)) y (none_branched s (k ∷ ks) i)
  branches_done (d ∷ ds) bs [] s st i g o h p y = along (AreBranched s []) y (none_branched s [] i)
  branches_done (d ∷ ds) bs (k ∷ ks) s st i g o h p y =
      let a = gives_bind (scene c.env c.bound c.values s k >>= branch m m.own_name (arguments_in f d.1) (first_or bs [])) _ st y in
      let e = gives_bind (scene c.env c.bound c.values s k) (branch m m.own_name (arguments_in f d.1) (first_or bs [])) a.0 a.1 in
      let q = scene_is c.env c.bound c.values s k e.0 e.1 in
      let se = scene_kept c.env c.bound c.values s k e.0 plain i g (o.inside k (first_stands k ks)) q in
      let r = gives_bind (branches c m f ds (drop 1 bs) ks a.0.store) _ st a.2 in
      let short = context_short e.0 s k ks q se h in
      let v = branch_quiet m m.own_name (arguments_in f d.1) (first_or bs []) e.0 a.0 se (scene_open c e.0 s k q (o.valueless k (first_stands k ks)))
      (λ z. omega (arith, short, (p z).0.0, (p z).1)) e.2 in
      let b = quiet_branched e.0 a.0 s k (scene_store c e.0 s k q).0 (scene_store c e.0 s k q).1 v in
      let behind = branches_done ds (drop 1 bs) ks a.0.store r.0 b.grown.store (given_later s a.0.store c.values b.grown g) (rest_open s k ks a.0 o b) (rest_short n s a.0.store k ks o b.grown h)
      (λ z. ((p z).0.1, (p z).1)) r.1 in
      along (AreBranched s (k ∷ ks)) r.2 (both_branched s k ks o a.0 r.0 b behind)

-- the goal gets its body: the contexts stay
given_short : (k : ℕ) (d : Done) (st : Step) (n : ℕ) → Gives (given_to k d) st → AreShort n d.store d.goals → AreShort n st.store st.goals
unfolding with_value
given_short k d st n y h = along (λ z. AreShort n z.store z.goals) (given_is k d st y).is h

-- a term is eliminated, and each branch introduced
pub eliminate_and_intro_kept : (m : Naming) (names : Option (List (List Name))) (f : Found) (c : Scene) (st : Step) → IsScene c → Finds c.store c.context f →
    ((e : Eliminated) → Gives (eliminate c f) e → HavePlace m e.type.family (length c.context) e.type.family.constructors) → Gives (eliminate_and_intro m names f c) st → IsStep c st
unfolding eliminate_and_intro
eliminate_and_intro_kept m names f c st s k few y =
    let e = gives_bind (eliminate c f) _ st y in
    let a = gives_bind (given_to c.goal e.0.did) _ st e.2 in
    let bs = gives_bind (names_agree m.keeps e.0.type.family names) _ st a.2 in
    let r = eliminate_reached c s f e.0 k e.1 in
    let h = step_kept c e.0.did a.0 s r.0 a.1 in
    let short = given_short c.goal e.0.did a.0 (length c.context) a.1 r.1 in
    let b = branches_done c s.plain m e.0.type.family (length c.context) e.0.type.family.constructors bs.0 a.0.goals a.0.store st h.grown.store
    (given_later c.store a.0.store c.values h.grown s.values) (record { once = h.once; inside = h.inside; valueless = h.valueless }) short (few e.0 e.1) bs.2 in
    record {
      grown = grown_then c.store a.0.store st.store h.grown b.grown;
      once = b.once;
      inside = b.inside;
      valueless = b.valueless;
      new = λ j l i. h.new j (b.new j l (omega (arith, i, h.grown.more))) i;
    }
