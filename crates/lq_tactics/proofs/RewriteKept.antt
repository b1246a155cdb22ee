-- `rewrite` keeps what holds.
use Rattle.std.proofs.Common.{◌≡◌, ◌≤◌, ◌<◌, ◌+◌, ◌∙◌, ℕ, zero, suc, refl, sym, ap, arith, eqb, eqb-true, Bool, true, false, ◌&&◌, List, [], ◌∷◌, ◌++◌, Option, Some, None}
use Rattle.std.proofs.Common.{subst as along}
use Rattle.std.proofs.lemmas.Bool.{ltb-true}
use Rattle.std.specs.Prelude.{codes}
use Rattle.std.specs.List.{AllByRecursion}
use Rattle.lq_trees.specs.declared.Sort.{Sort as Universe}
use Rattle.lq_trees.specs.Tree.{Name, Tree, Trees, none, more}
use Rattle.lq_trees.specs.Tree.Tree.{Rel, Var, Sort, Prod, Lam, Let, App, Const, Ind, Ctor, Elim, Evar}
use Rattle.lq_trees.specs.Fresh.{fresh_of}
use Rattle.lq_trees.specs.Ticks.{gives, ◌>>=◌}
use Rattle.lq_calculus.specs.Contraction.{spine, apply}
use Rattle.lq_calculus.proofs.ConvSound.{Gives, gives_bind}
use Rattle.lq_ast.specs.Syntax.{Surface}
use Rattle.lq_solving.specs.Occurs.{is_closed, are_closed}
use Rattle.lq_solving.specs.Stores.{Store, Variable, Assigned, names_in, count, has_value, is_open, read}
use Rattle.lq_solving.specs.Kept.{StandsIn, IsContext, IsStore}
use Rattle.lq_solving.specs.Unification.{UnifyFault, unify}
use Rattle.lq_solving.specs.ElabFaults.{by_unify, unify_fault}
use Rattle.lq_solving.specs.Elaboration.{Found}
use Rattle.lq_solving.proofs.FreeLaws.{and_both}
use Rattle.lq_solving.proofs.StoreLaws.{context_keeps}
use Rattle.lq_solving.proofs.Good.{IsGood, EachIsGood, good_more, spine_good}
use Rattle.lq_solving.proofs.UnifyForms.{good_names, rest_holds}
use Rattle.lq_solving.proofs.StandsLaws.{listed_more, listed_end, lam_stands, app_stands}
use Rattle.lq_solving.proofs.Later.{good_read, good_stands}
use Rattle.lq_solving.proofs.ElabKept.{Grown, grown_then, by_gives, unified_grown}
use Rattle.lq_solving.proofs.ElabStands.{Finds, deep}
use Rattle.lq_states.specs.Kept.{times}
use Rattle.lq_tactics.specs.Rows.{RowFault, Doing, by_elab, Scene, Done, rules, elab_work, renewed, new_goal, as_goals, goal_term, open_of, made_open, term_of, goal_sort}
use Rattle.lq_tactics.specs.Applying.{Opening, not_opened, most_premises, opened_type, premise_terms, dependent_in, determined}
use Rattle.lq_tactics.specs.Matching.{Place, subterms}
use Rattle.lq_tactics.specs.Primitives.{equality_of}
use Rattle.lq_tactics.specs.Exchanging.{exchanged}
use Rattle.lq_tactics.specs.Elimination.{typed_predicate}
use Rattle.lq_tactics.specs.Rewriting.{first_place, equation_predicate, by_equation, rewriting_predicate, rewriting_body, rewritten, rewritten_or, equation_or, do_rewrite}
use Rattle.lq_tactics.proofs.RowsKept.{IsScene, AreNew, IsReached, goal_made, same_values, unborn_valueless, all_retyped}
use Rattle.lq_tactics.proofs.NumberLists.{IsAmong, filtered_among, open_filters}
use Rattle.lq_tactics.proofs.ApplyKept.{HasRoom, sides_stand, term_found, told_none, apply_stands, IsOpening, EndsIn, not_opened_is, type_opened, premises_new, all_terms, premises_stand}
use Rattle.lq_tactics.proofs.RetypingKept.{exchanged_good, renewed_is, renewed_kept}
use Rattle.lq_tactics.proofs.TelescopesKept.{close_good}

-- ---- subterms

module _ (vs : List Variable) (as_ : List Assigned) (xs : List Name) where
  mutual
    unfolding is_closed are_closed

    -- a term without variables bound outside it
    closed_good : (n d : ℕ) (t : Tree) → IsGood vs as_ xs n t → is_closed d t ≡ true → IsGood vs as_ xs d t
    closed_good n d (Rel i) g e = ltb-true i d e
    closed_good n d (Var x) g e = g
    closed_good n d (Sort u) g e = tt
    closed_good n d (Prod x A B) g e = let q = and_both (is_closed d A) (is_closed (suc d) B) e in (closed_good n d A g.0 q.0, closed_good (n + 1) (d + 1) B g.1 (ap (λ k. is_closed k B) (omega arith) ∙ q.1))
    closed_good n d (Lam x A t) g e = let q = and_both (is_closed d A) (is_closed (suc d) t) e in (closed_good n d A g.0 q.0, closed_good (n + 1) (d + 1) t g.1 (ap (λ k. is_closed k t) (omega arith) ∙ q.1))
    closed_good n d (Let x v A t) g e =
        let r = and_both (is_closed d v && is_closed d A) (is_closed (suc d) t) e in
        let q = and_both (is_closed d v) (is_closed d A) r.0 in
        (closed_good n d v g.0 q.0, closed_good n d A g.1 q.1, closed_good (n + 1) (d + 1) t g.2 (ap (λ k. is_closed k t) (omega arith) ∙ r.1))
    closed_good n d (App f a) g e = let q = and_both (is_closed d f) (is_closed d a) e in (closed_good n d f g.0 q.0, closed_good n d a g.1 q.1)
    closed_good n d (Const c) g e = tt
    closed_good n d (Ind c) g e = tt
    closed_good n d (Ctor c k) g e = tt
    closed_good n d (Elim c u) g e = tt
    closed_good n d (Evar k ts) g e = (g.0, g.1, g.2, each_closed_good n d ts g.3 e)

    each_closed_good : (n d : ℕ) (ts : Trees) → EachIsGood vs as_ xs n ts → are_closed d ts ≡ true → EachIsGood vs as_ xs d ts
    each_closed_good n d none g e = tt
    each_closed_good n d (more t ts) g e = let q = and_both (is_closed d t) (are_closed d ts) e in (closed_good n d t g.0 q.0, each_closed_good n d ts g.1 q.1)

  -- each place has a good term, below some binders
  abbrev AreParts : List Place → Type 0
  AreParts ps = AllByRecursion (λ p. (n : ℕ) × IsGood vs as_ xs n p.1) ps

  both_parts : (ps qs : List Place) → AreParts ps → AreParts qs → AreParts (ps ++ qs)
  both_parts [] qs h k = k
  both_parts (p ∷ ps) qs h k = (h.0, both_parts ps qs h.1 k)

  parts_good : (path : List ℕ) (n : ℕ) (t : Tree) → IsGood vs as_ xs n t → AreParts (subterms path t)
  unfolding subterms
  parts_good path n (Prod x A B) g = ((n, g), both_parts (subterms (0 ∷ path) A) (subterms (1 ∷ path) B) (parts_good (0 ∷ path) n A g.0) (parts_good (1 ∷ path) (n + 1) B g.1))
  parts_good path n (Lam x A B) g = ((n, g), both_parts (subterms (0 ∷ path) A) (subterms (1 ∷ path) B) (parts_good (0 ∷ path) n A g.0) (parts_good (1 ∷ path) (n + 1) B g.1))
  parts_good path n (Let x v A B) g = (
    (n, g),
    both_parts (subterms (0 ∷ path) v ++ subterms (1 ∷ path) A) (subterms (2 ∷ path) B)
        (both_parts (subterms (0 ∷ path) v) (subterms (1 ∷ path) A) (parts_good (0 ∷ path) n v g.0) (parts_good (1 ∷ path) n A g.1)) (parts_good (2 ∷ path) (n + 1) B g.2),
  )
  parts_good path n (App f a) g = ((n, g), both_parts (subterms (0 ∷ path) f) (subterms (1 ∷ path) a) (parts_good (0 ∷ path) n f g.0) (parts_good (1 ∷ path) n a g.1))
  parts_good path n (Rel i) g = ((n, g), tt)
  parts_good path n (Var x) g = ((n, g), tt)
  parts_good path n (Sort u) g = ((n, g), tt)
  parts_good path n (Const c) g = ((n, g), tt)
  parts_good path n (Ind c) g = ((n, g), tt)
  parts_good path n (Ctor c k) g = ((n, g), tt)
  parts_good path n (Elim c u) g = ((n, g), tt)
  parts_good path n (Evar k ts) g = ((n, g), tt)

  -- ---- predicates

  predicate_good : (A l Ty : Tree) (y : Name) → IsGood vs as_ xs 0 A → IsGood vs as_ xs 0 l → IsGood vs as_ (xs ++ y ∷ []) 0 Ty → IsGood vs as_ xs 0 (equation_predicate A l y Ty)
  unfolding equation_predicate
  predicate_good A l Ty y a b t = (
    a,
    close_good vs as_ xs y 0 0 (omega arith) (Lam [] (App (App (App (Ind (codes "eq")) A) l) (Var y)) Ty)
        ((((tt, wider A a), wider l b), listed_end xs y), good_more vs as_ (xs ++ y ∷ []) 0 1 (omega arith) Ty t),
  )
    where
      wider : (u : Tree) → IsGood vs as_ xs 0 u → IsGood vs as_ (xs ++ y ∷ []) 0 u
      wider u g = good_names vs as_ xs (xs ++ y ∷ []) (λ x e. listed_more xs (y ∷ []) x e) 0 u g

  wide_good : (y : Name) (u : Tree) → IsGood vs as_ xs 0 u → IsGood vs as_ (xs ++ y ∷ []) 0 u
  wide_good y u g = good_names vs as_ xs (xs ++ y ∷ []) (λ x e. listed_more xs (y ∷ []) x e) 0 u g

  rewriting_good : (forward : Bool) (A l T : Tree) (y : Name) (place : Tree) → IsGood vs as_ xs 0 A → IsGood vs as_ xs 0 l → IsGood vs as_ xs 0 T → IsGood vs as_ xs 0 (rewriting_predicate forward A l y T (exchanged place (Var y) T))
  unfolding rewriting_predicate
  rewriting_good forward A l T y place a b t = at forward
    where
      inner : IsGood vs as_ (xs ++ y ∷ []) 0 (exchanged place (Var y) T)
      inner = exchanged_good vs as_ (xs ++ y ∷ []) place (Var y) (listed_end xs y) 0 T (wide_good y T t)

      at : (o : Bool) → IsGood vs as_ xs 0 (rewriting_predicate o A l y T (exchanged place (Var y) T))
      at true = predicate_good A l (Prod [] (exchanged place (Var y) T) T) y a b (inner, good_more vs as_ (xs ++ y ∷ []) 0 1 (omega arith) T (wide_good y T t))
      at false = predicate_good A l (exchanged place (Var y) T) y a b inner

-- ---- the rows

-- a goal behind others in number stands first
first_new : (s0 s2 : Store) (j : ℕ) (ks : List ℕ) → count s0 ≤ j → j < count s2 → has_value s2 j ≡ false → ((k : ℕ) → 1 ≤ times ks k → k < j) → AreNew s0 s2 ks → AreNew s0 s2 (j ∷ ks)
unfolding times
first_new s0 s2 j ks low l v below h = record {
  once = λ m. once m (eqb j m) refl;
  inside = λ m i. by m (m < count s2) i (λ q. omega (arith, q, l)) (λ k. h.inside m k);
  valueless = λ m i. by m (has_value s2 m ≡ false) i (λ q. along (λ z. has_value s2 z ≡ false) q v) (λ k. h.valueless m k);
  new = λ m i. by m (count s0 ≤ m) i (λ q. omega (arith, q, low)) (λ k. h.new m k);
}
  where
    by : (m : ℕ) (P : Type 0) → 1 ≤ times (j ∷ ks) m → (j ≡ m → P) → (1 ≤ times ks m → P) → P
    by m P i f g = at (eqb j m) refl i
      where
        at : (b : Bool) → eqb j m ≡ b → 1 ≤ elim b as (λ z. ℕ) [ true ↦ 1 + times ks m | false ↦ times ks m ] → P
        at true q k = f (eqb-true j m q)
        at false q k = g k

    once : (m : ℕ) (b : Bool) → eqb j m ≡ b → elim b as (λ z. ℕ) [ true ↦ 1 + times ks m | false ↦ times ks m ] ≤ 1
    once m true q = none (times ks m) refl
      where
        none : (i : ℕ) → times ks m ≡ i → 1 + times ks m ≤ 1
        none zero p = omega (arith, p)
        none (suc i) p = absurd (omega (arith, below m (omega (arith, p)), eqb-true j m q))
    once m false q = h.once m

module _ (c : Scene) (s : IsScene c) (few : HasRoom c 0) where
  -- the first subterm that unifies stands, and the store has grown
  abbrev IsPlaced : Store → Option (Tree × Store) → Type 0
  IsPlaced s0 None = Unit {0}
  IsPlaced s0 (Some p) = StandsIn s0 c.context p.0 × Grown s0 p.1

  place_found : (s0 : Store) → Grown c.store s0 → (side : Tree) → StandsIn s0 c.context side → (ps : List Place) (a : Option (Tree × Store)) → AreParts s0.variables s0.values (names_in c.context) ps →
      Gives (first_place c s0 side ps) a → IsPlaced s0 a
  unfolding first_place
  place_found s0 g side h [] a k y = along (IsPlaced s0) y tt
  place_found s0 g side h (p ∷ ps) a k y = at (is_closed 0 p.1) refl y (λ z. place_found s0 g side h ps a k.1 z)
    where
      unified : StandsIn s0 c.context p.1 → (o : Option Store) → Gives {F = UnifyFault} (unify (rules c) c.bound c.context s0 p.1 side) o →
          Gives {F = RowFault} (elim o as (λ z. Doing (Option (Tree × Store))) [ Some s1 ↦ gives (Some (p.1, s1)) | None ↦ first_place c s0 side ps ]) a → (Gives (first_place c s0 side ps) a → IsPlaced s0 a) → IsPlaced s0 a
      unified t (Some s1) u z ih =
          along (IsPlaced s0) z (t, unified_grown (rules c) s.plain.rules c.bound s0 s1 c.context p.1 side (omega (arith, few)) g.store (context_keeps c.store s0 g.keeps [] c.context s.context) t h u)
      unified t None u z ih = ih z

      at : (o : Bool) → is_closed 0 p.1 ≡ o → Gives {F = RowFault} (elim o as (λ z. Doing (Option (Tree × Store))) [
        | false ↦ first_place c s0 side ps
        | true ↦ elab_work (by_unify (unify (rules c) c.bound c.context s0 p.1 side)) >>= λ u. elim u [ Some s1 ↦ gives (Some (p.1, s1)) | None ↦ first_place c s0 side ps ]
      ]) a → (Gives (first_place c s0 side ps) a → IsPlaced s0 a) → IsPlaced s0 a
      at false e z ih = ih z
      at true e z ih =
          let u = gives_bind (elab_work (by_unify (unify (rules c) c.bound c.context s0 p.1 side))) _ a z in
          let good = closed_good s0.variables s0.values (names_in c.context) k.0.0 0 p.1 k.0.1 e in
          unified (good_stands s0 g.store s0.values (names_in c.context) p.1 good) u.0
          (by_gives unify_fault (unify (rules c) c.bound c.context s0 p.1 side) u.0 (by_gives by_elab (by_unify (unify (rules c) c.bound c.context s0 p.1 side)) u.0 u.1)) u.2 ih

  -- the scene after that
  module _ (forward : Bool) (f : Found) (o : Opening) (found_in : Finds c.store c.context f) (opening : IsOpening c.context f.store o) where
    sides_keep : (s1 : Store) → Grown o.store s1 → (t : Tree) → StandsIn o.store c.context t → IsGood s1.variables s1.values (names_in c.context) 0 (read s1 t)
    sides_keep s1 g t h = good_read s1 g.store (names_in c.context) t (g.keeps (names_in c.context) t h)

    choose : (P : Tree → Type 0) (a b : Tree) → P a → P b → P (elim forward as (λ z. Tree) [ true ↦ a | false ↦ b ])
    choose P a b h k = at forward
      where
        at : (w : Bool) → P (elim w as (λ z. Tree) [ true ↦ a | false ↦ b ])
        at true = h
        at false = k

    body_stands : (s1 : Store) → IsStore s1 → (u : Universe) (A l r T P new t : Tree) → StandsIn s1 c.context A → StandsIn s1 c.context l → StandsIn s1 c.context r → StandsIn s1 c.context T → StandsIn s1 c.context P →
        StandsIn s1 c.context new → StandsIn s1 c.context t → StandsIn s1 c.context (rewriting_body forward u A l r P T new t)
    unfolding rewriting_body by_equation
    body_stands s1 i u A l r T P new t a b d e p n w = at forward
      where
        eliminator : StandsIn s1 c.context (Elim (codes "eq") u)
        eliminator = good_stands s1 i [] (names_in c.context) (Elim (codes "eq") u) tt

        function : StandsIn s1 c.context (Lam (codes "h") T (Rel 0))
        function = lam_stands s1 i (names_in c.context) (codes "h") T (Rel 0) e (record { over = tt; within = omega arith; holds = rest_holds s1 i (names_in c.context) [] (Rel 0) (omega arith) })

        at : (o1 : Bool) → StandsIn s1 c.context (rewriting_body o1 u A l r P T new t)
        at true = app_stands s1 i (names_in c.context) _ new (apply_stands s1 i (names_in c.context) (Elim (codes "eq") u) _ eliminator (a, (b, (p, (function, (d, (w, tt))))))) n
        at false = apply_stands s1 i (names_in c.context) (Elim (codes "eq") u) _ eliminator (a, (b, (p, (n, (d, (w, tt))))))

    rewritten_reached : (d : Scene) (e : Tree × Tree × Tree) (place : Tree) (r : Done) → IsScene d → Grown o.store d.store → d.context ≡ c.context →
        StandsIn o.store c.context e.0 → StandsIn o.store c.context e.1 → StandsIn o.store c.context e.2 → Gives (rewritten c d forward f o e place) r → IsReached c r
    unfolding rewritten
    rewritten_reached d e place r sd g same a b w y =
        let T = d.kind in
        let A = read d.store e.0 in
        let l = read d.store e.1 in
        let rr = read d.store e.2 in
        let z = fresh_of (names_in c.context) (codes "x") in
        let P = rewriting_predicate forward A l z T (exchanged place (Var z) T) in
        let u = gives_bind (goal_sort d) _ r y in
        let ok = gives_bind (typed_predicate d d.store P) _ r u.2 in
        let ok2 = gives_bind (determined true d.store o (dependent_in d.store o (made_open c.store d.store))) _ r ok.2 in
        let N = exchanged place (elim forward as (λ z. Tree) [ true ↦ rr | false ↦ l ]) T in
        let q = gives_bind (new_goal d d.store c.context N) _ r ok2.2 in
        let premises = open_of d.store o.premises in
        let v = gives_bind (as_goals d q.0.0 premises) _ r q.2 in
        let gt = along (λ k. IsGood d.store.variables d.store.values (names_in k) 0 T) same sd.good in
        let ga = sides_keep d.store g e.0 a in
        let gl = sides_keep d.store g e.1 b in
        let gr = sides_keep d.store g e.2 w in
        let gp = rewriting_good d.store.variables d.store.values (names_in c.context) forward A l T z place ga gl gt in
        let gn = exchanged_good d.store.variables d.store.values (names_in c.context) place (elim forward as (λ z. Tree) [ true ↦ rr | false ↦ l ])
        (choose (IsGood d.store.variables d.store.values (names_in c.context) 0) rr l gr gl) 0 T gt in
        let stand = λ (t : Tree). λ (k : IsGood d.store.variables d.store.values (names_in c.context) 0 t). good_stands d.store sd.store d.store.values (names_in c.context) t k in
        let m = goal_made d d.store c.context N q.0 sd.store (along (IsContext d.store) same sd.context) (stand N gn) q.1 in
        let t = all_retyped d q.0.0 v.0 premises m.grown.store v.1 in
        let last = grown_then d.store q.0.0 v.0 m.grown t.grown in
        let whole = grown_then f.store o.store v.0 opening.grown (grown_then o.store d.store v.0 g last) in
        let later = grown_then o.store d.store v.0 g last in
        let term = apply_stands v.0 last.store (names_in c.context) f.term (premise_terms c o.premises) (whole.keeps (names_in c.context) f.term found_in.1)
        (premises_stand c v.0 o.premises (all_terms (λ j. StandsIn v.0 c.context (goal_term j c.context)) o.premises (λ j i. later.keeps (names_in c.context) (goal_term j c.context) (opening.terms j i)))) in
        let new = premises_new f.store o.store d.store v.0 o.premises premises opening.premises g (t.values ∙ m.values) last.more (λ k. omega arith) in
        along (IsReached c) v.2 (record {
          grown = grown_then c.store f.store v.0 found_in.0 whole;
          body = body_stands v.0 last.store u.0 A l rr T P (goal_term q.0.1 c.context) (apply f.term (premise_terms c o.premises)) (last.keeps (names_in c.context) A (stand A ga)) (last.keeps (names_in c.context) l (stand l gl))
              (last.keeps (names_in c.context) rr (stand rr gr)) (last.keeps (names_in c.context) T (stand T gt)) (last.keeps (names_in c.context) P (stand P gp))
              (t.grown.keeps (names_in c.context) (goal_term q.0.1 c.context) m.term) term;
          goals = earlier v.0 q.0.1 premises (first_new f.store v.0 q.0.1 premises (omega (arith, m.number, opening.grown.more, g.more)) (omega (arith, m.number, m.many, t.count))
              (same_values d.store v.0 (t.values ∙ m.values) q.0.1 ∙ unborn_valueless d.store sd.store q.0.1 (omega (arith, m.number)))
              (λ k i. omega (arith, m.number, g.more, opening.premises.inside k (omega (arith, i, open_among d.store o.premises k)))) new);
        })
      where
        open_among : (s1 : Store) (ks : List ℕ) → IsAmong (open_of s1 ks) ks
        open_among s1 ks = filtered_among (is_open s1) (open_of s1) (open_filters s1) ks

        earlier : (s2 : Store) (j : ℕ) (ks : List ℕ) → AreNew f.store s2 (j ∷ ks) → AreNew c.store s2 (j ∷ ks)
        earlier s2 j ks n = record { once = n.once; inside = n.inside; valueless = n.valueless; new = λ k i. omega (arith, n.new k i, found_in.0.more) }

    -- the side is found in the goal's type, or nowhere
    found_reached : (e : Tree × Tree × Tree) (a : Option (Tree × Store)) (r : Done) → IsPlaced o.store a → StandsIn o.store c.context e.0 → StandsIn o.store c.context e.1 → StandsIn o.store c.context e.2 →
        Gives (rewritten_or c forward f o e a) r → IsReached c r
    unfolding rewritten_or
    found_reached e None r k a b w y = absurd y
    found_reached e (Some p) r k a b w y =
        let d = gives_bind (renewed c p.1) _ r y in
        let is = renewed_is c d.0 p.1 d.1 in
        let whole = grown_then c.store f.store p.1 found_in.0 (grown_then f.store o.store p.1 opening.grown k.1) in
        rewritten_reached d.0 e (read p.1 p.0) r (renewed_kept c d.0 p.1 s whole d.1) (along (λ z. Grown o.store z.store) is k.1) (sym (ap (λ z. z.context) is)) a b w d.2

  equation_reached : (forward : Bool) (f : Found) (os : List Opening) (t : Tree) (e : Option (Tree × Tree × Tree)) (r : Done) → Finds c.store c.context f → AllByRecursion (IsOpening c.context f.store) os → EndsIn c.context os t →
      equality_of (spine t []) ≡ e → Gives (equation_or c forward f os t e) r → IsReached c r
  unfolding equation_or
  equation_reached forward f [] t e r k h i q y = absurd (told_none (t ∷ []) _ r y)
  equation_reached forward f (o ∷ os) t None r k h i q y = absurd (told_none (t ∷ []) _ r y)
  equation_reached forward f (o ∷ os) t (Some e) r k h i q y =
      let d = gives_bind (renewed c o.store) _ r y in
      let is = renewed_is c d.0 o.store d.1 in
      let side = elim forward as (λ z. Tree) [ true ↦ e.1 | false ↦ e.2 ] in
      let a = gives_bind (first_place c o.store side (subterms [] d.0.kind)) (rewritten_or c forward f o e) r d.2 in
      let g = grown_then c.store f.store o.store k.0 h.0.grown in
      let sides = sides_stand o.store g.store (names_in c.context) (spine t []).0 (spine t []).1 e (spine_good o.store.variables o.store.values (names_in c.context) t [] i tt).1 q in
      let kind = along (λ z. IsGood o.store.variables o.store.values (names_in c.context) 0 z.kind) is (good_read o.store g.store (names_in c.context) c.kind (g.keeps (names_in c.context) c.kind s.kind)) in
      let parts = parts_good o.store.variables o.store.values (names_in c.context) [] 0 d.0.kind kind in
      found_reached forward f o k h.0 e a.0 r (place_found o.store g side (choose forward f o k h.0 (StandsIn o.store c.context) e.1 e.2 sides.1 sides.2) (subterms [] d.0.kind) a.0 parts a.1) sides.0 sides.1 sides.2 a.2

pub rewrite_reached : (c : Scene) → IsScene c → (forward : Bool) (t : Surface) (d : Done) → HasRoom c (deep t) → Gives (do_rewrite c forward t) d → IsReached c d
unfolding do_rewrite
rewrite_reached c s forward t d few y =
    let f = gives_bind (term_of c t None) _ d y in
    let k = term_found c s t None f.0 tt few f.1 in
    let os = gives_bind (opened_type c f.0) _ d f.2 in
    let g = context_keeps c.store f.0.store k.0.keeps [] c.context s.context in
    let h = type_opened c s f.0.store g most_premises (not_opened f.0) [] os.0 (not_opened_is c.context f.0 k.0.store k.2) tt os.1 in
    equation_reached c s (omega (arith, few)) forward f.0 os.0.0 os.0.1 (equality_of (spine os.0.1 [])) d k h.0 h.1 refl os.2
