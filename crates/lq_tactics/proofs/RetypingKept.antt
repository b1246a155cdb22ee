-- The primitives that give the goal another type keep what holds: `unfold`, `change`, `hnf` and `generalize`.
use Rattle.std.proofs.Common.{◌≡◌, ◌+◌, ◌∙◌, ℕ, suc, refl, ap, arith, Bool, true, false, List, [], ◌∷◌, ◌++◌, length, Option, Some, None}
use Rattle.std.proofs.Common.{subst as along}
use Rattle.std.specs.Prelude.{codes}
use Rattle.lq_trees.specs.Tree.{Name, Tree, Trees, none, more}
use Rattle.lq_trees.specs.Tree.Tree.{Rel, Var, Sort, Prod, Lam, Let, App, Const, Ind, Ctor, Elim, Evar}
use Rattle.lq_trees.specs.Change.{close}
use Rattle.lq_trees.specs.Fresh.{fresh_of}
use Rattle.lq_trees.specs.Reading.{entries}
use Rattle.lq_trees.specs.Ticks.{fails, ◌>>=◌}
use Rattle.lq_calculus.specs.Checking.{conv}
use Rattle.lq_calculus.proofs.ConvSound.{Gives, gives_bind}
use Rattle.lq_ast.specs.Syntax.{Surface}
use Rattle.lq_solving.specs.Alike.{same_tree}
use Rattle.lq_solving.specs.Occurs.{holds_constant}
use Rattle.lq_solving.specs.Stores.{Store, Variable, Assigned, names_in, read, read_context}
use Rattle.lq_solving.specs.Kept.{StandsIn, IsStore}
use Rattle.lq_solving.specs.Elaboration.{Found}
use Rattle.lq_solving.proofs.StoreLaws.{context_keeps}
use Rattle.lq_solving.proofs.Good.{IsGood, EachIsGood, good_more, plain_good}
use Rattle.lq_solving.proofs.UnifyForms.{good_names}
use Rattle.lq_solving.proofs.StandsLaws.{StandsUnder, listed_more, listed_end, close_stands, prod_stands, app_stands}
use Rattle.lq_solving.proofs.Later.{good_read, good_stands}
use Rattle.lq_solving.proofs.ElabKept.{Grown, grown_now, grown_then}
use Rattle.lq_solving.proofs.ElabStands.{deep}
use Rattle.lq_tactics.specs.Rows.{RowFault, Doing, Scene, Done, rules, needed, head_of, renewed, new_goal, term_of, told, does_not_occur, not_convertible}
use Rattle.lq_tactics.specs.Exchanging.{instead, exchanged, exchanged_each}
use Rattle.lq_tactics.specs.Rewriting.{retyped, do_unfold, do_change, do_generalize}
use Rattle.lq_tactics.proofs.RowsKept.{IsScene, IsReached, needed_is, head_stands, goal_made, given_later}
use Rattle.lq_tactics.proofs.IntroKept.{one_new}
use Rattle.lq_tactics.proofs.ApplyKept.{HasRoom, term_found, told_none}

-- ---- trees in the place of equal trees

module _ (vs : List Variable) (as_ : List Assigned) (xs : List Name) (u v : Tree) (h : IsGood vs as_ xs 0 v) where
  one_good : (n : ℕ) (b : Bool) (t : Tree) → IsGood vs as_ xs n t → IsGood vs as_ xs n (instead b v t)
  unfolding instead
  one_good n true t g = good_more vs as_ xs 0 n (omega arith) v h
  one_good n false t g = g

  many_same : (ts : Trees) → length (entries (exchanged_each u v ts)) ≡ length (entries ts)
  unfolding exchanged_each entries
  many_same none = refl
  many_same (more t ts) = ap suc (many_same ts)

  mutual
    unfolding exchanged exchanged_each

    pub exchanged_good : (n : ℕ) (t : Tree) → IsGood vs as_ xs n t → IsGood vs as_ xs n (exchanged u v t)
    exchanged_good n (Rel i) g = one_good n (same_tree u (Rel i)) (Rel i) g
    exchanged_good n (Var x) g = one_good n (same_tree u (Var x)) (Var x) g
    exchanged_good n (Sort s) g = one_good n (same_tree u (Sort s)) (Sort s) g
    exchanged_good n (Prod x A B) g = one_good n (same_tree u (Prod x A B)) (Prod x (exchanged u v A) (exchanged u v B)) (exchanged_good n A g.0, exchanged_good (n + 1) B g.1)
    exchanged_good n (Lam x A t) g = one_good n (same_tree u (Lam x A t)) (Lam x (exchanged u v A) (exchanged u v t)) (exchanged_good n A g.0, exchanged_good (n + 1) t g.1)
    exchanged_good n (Let x w A t) g =
        one_good n (same_tree u (Let x w A t)) (Let x (exchanged u v w) (exchanged u v A) (exchanged u v t)) (exchanged_good n w g.0, exchanged_good n A g.1, exchanged_good (n + 1) t g.2)
    exchanged_good n (App f a) g = one_good n (same_tree u (App f a)) (App (exchanged u v f) (exchanged u v a)) (exchanged_good n f g.0, exchanged_good n a g.1)
    exchanged_good n (Const c) g = one_good n (same_tree u (Const c)) (Const c) g
    exchanged_good n (Ind c) g = one_good n (same_tree u (Ind c)) (Ind c) g
    exchanged_good n (Ctor c k) g = one_good n (same_tree u (Ctor c k)) (Ctor c k) g
    exchanged_good n (Elim c s) g = one_good n (same_tree u (Elim c s)) (Elim c s) g
    exchanged_good n (Evar k ts) g = one_good n (same_tree u (Evar k ts)) (Evar k (exchanged_each u v ts)) (g.0, many_same ts ∙ g.1, g.2, each_exchanged_good n ts g.3)

    each_exchanged_good : (n : ℕ) (ts : Trees) → EachIsGood vs as_ xs n ts → EachIsGood vs as_ xs n (exchanged_each u v ts)
    each_exchanged_good n none g = tt
    each_exchanged_good n (more t ts) g = (exchanged_good n t g.0, each_exchanged_good n ts g.1)

-- ---- the rows

module _ (c : Scene) (s : IsScene c) where
  -- a new type for the goal, in a store that has grown
  pub retyped_reached : (s1 : Store) (A : Tree) (d : Done) → Grown c.store s1 → StandsIn s1 c.context A → Gives (retyped c s1 A) d → IsReached c d
  unfolding retyped
  retyped_reached s1 A d g h y =
      let r = gives_bind (new_goal c s1 c.context A) _ d y in
      let m = goal_made c s1 c.context A r.0 g.store (context_keeps c.store s1 g.keeps [] c.context s.context) h r.1 in
      along (IsReached c) r.2 (record {
        grown = grown_then c.store s1 r.0.0 g m.grown;
        body = m.term;
        goals = one_new c.store s1 c.context r.0 g g.store m;
      })

  pub hnf_reached : (d : Done) → Gives (head_of c c.store c.kind >>= retyped c c.store) d → IsReached c d
  hnf_reached d y =
      let t = gives_bind (head_of c c.store c.kind) (retyped c c.store) d y in
      retyped_reached c.store t.0 d (grown_now c.store s.store) (head_stands c s.plain c.store s.store s.context c.kind t.0 s.kind t.1) t.2

  pub unfold_reached : (x : Name) (o : Option Tree) (d : Done) → (rules c).delta x ≡ o → Gives (do_unfold c x o) d → IsReached c d
  unfolding do_unfold
  unfold_reached x None d e y = absurd y
  unfold_reached x (Some b) d e y = at (holds_constant x c.kind) y
    where
      at : (o : Bool) → Gives {F = RowFault} (elim o as (λ z. Doing Done) [ false ↦ fails (does_not_occur x) | true ↦ retyped c c.store (exchanged (Const x) b c.kind) ]) d → IsReached c d
      at false z = absurd z
      at true z =
          let p = s.plain.rules.delta x b e in
          let body = plain_good c.store.variables c.store.values (names_in c.context) 0 b p.over p.within p.holds in
          retyped_reached c.store (exchanged (Const x) b c.kind) d (grown_now c.store s.store)
          (good_stands c.store s.store c.store.values (names_in c.context) (exchanged (Const x) b c.kind)
          (exchanged_good c.store.variables c.store.values (names_in c.context) (Const x) b body 0 c.kind s.good)) z

  pub change_reached : (A : Surface) (d : Done) → HasRoom c (deep A) → Gives (do_change c A) d → IsReached c d
  unfolding do_change
  change_reached A d few y =
      let f = gives_bind (term_of c A None) _ d y in
      let k = term_found c s A None f.0 tt few f.1 in
      let b = gives_bind (conv (rules c) (read_context f.0.store c.context) c.bound (read f.0.store f.0.term) (read f.0.store c.kind)) _ d f.2 in
      at f.0 k.0 k.1 b.0 b.2
    where
      at : (f : Found) → Grown c.store f.store → StandsIn f.store c.context f.term → (o : Bool) → Gives {F = RowFault} (elim o as (λ z. Doing Done) [
        | true ↦ retyped c f.store f.term
        | false ↦ told (read f.store f.term ∷ read f.store c.kind ∷ []) (not_convertible (read f.store f.term) (read f.store c.kind))
      ]) d → IsReached c d
      at f g h true z = retyped_reached f.store f.term d g h z
      at f g h false z = absurd (told_none (read f.store f.term ∷ read f.store c.kind ∷ []) _ d z)

-- ---- a name that a row makes

-- a good term is good among more names
pub renewed_is : (c d : Scene) (s1 : Store) → Gives (renewed c s1) d → record { env = c.env; bound = c.bound; values = c.values; store = s1; goal = c.goal; context = c.context; kind = read s1 c.kind } ≡ d
unfolding renewed
renewed_is c d s1 y =
    let a = gives_bind (needed (read s1 c.kind)) _ d y in
    ap (λ T. record { env = c.env; bound = c.bound; values = c.values; store = s1; goal = c.goal; context = c.context; kind = T }) (needed_is (read s1 c.kind) a.0 a.1) ∙ a.2

-- the scene with a later store is one
pub renewed_kept : (c d : Scene) (s1 : Store) → IsScene c → Grown c.store s1 → Gives (renewed c s1) d → IsScene d
renewed_kept c d s1 s g y =
    let kind = g.keeps (names_in c.context) c.kind s.kind in
    let good = good_read s1 g.store (names_in c.context) c.kind kind in
    along IsScene (renewed_is c d s1 y) (record {
      plain = s.plain;
      store = g.store;
      context = context_keeps c.store s1 g.keeps [] c.context s.context;
      kind = good_stands s1 g.store s1.values (names_in c.context) (read s1 c.kind) good;
      good = good;
      inside = omega (arith, s.inside, g.more);
      names = g.names c.goal s.inside ∙ s.names;
      values = given_later c.store s1 c.values g s.values;
    })

-- a name for the trees that are equal to one, under a binder
pub exchanged_closed : (s : Store) → IsStore s → (xs : List Name) (z : Name) (u T : Tree) → IsGood s.variables s.values xs 0 T → StandsUnder s xs 1 (close z (exchanged u (Var z) T))
exchanged_closed s i xs z u T h =
    let more_names = good_names s.variables s.values xs (xs ++ z ∷ []) (λ y l. listed_more xs (z ∷ []) y l) 0 T h in
    close_stands s i xs z (exchanged u (Var z) T)
    (good_stands s i s.values (xs ++ z ∷ []) (exchanged u (Var z) T) (exchanged_good s.variables s.values (xs ++ z ∷ []) u (Var z) (listed_end xs z) 0 T more_names))

module _ (c : Scene) (s : IsScene c) where
  pub generalize_reached : (t : Surface) (d : Done) → HasRoom c (deep t) → Gives (do_generalize c t) d → IsReached c d
  unfolding do_generalize
  generalize_reached t d few y =
      let f = gives_bind (term_of c t None) _ d y in
      let k = term_found c s t None f.0 tt few f.1 in
      let e = gives_bind (renewed c f.0.store) _ d f.2 in
      let z = fresh_of (names_in c.context) (codes "x") in
      let good = along (λ w. IsGood f.0.store.variables f.0.store.values (names_in c.context) 0 w.kind) (renewed_is c e.0 f.0.store e.1)
      (good_read f.0.store k.0.store (names_in c.context) c.kind (k.0.keeps (names_in c.context) c.kind s.kind)) in
      let E = close z (exchanged (read f.0.store f.0.term) (Var z) e.0.kind) in
      let r = gives_bind (new_goal c f.0.store c.context (Prod [] f.0.kind E)) _ d e.2 in
      let product = prod_stands f.0.store k.0.store (names_in c.context) [] f.0.kind E k.2 (exchanged_closed f.0.store k.0.store (names_in c.context) z (read f.0.store f.0.term) e.0.kind good) in
      let m = goal_made c f.0.store c.context (Prod [] f.0.kind E) r.0 k.0.store (context_keeps c.store f.0.store k.0.keeps [] c.context s.context) product r.1 in
      along (IsReached c) r.2 (record {
        grown = grown_then c.store f.0.store r.0.0 k.0 m.grown;
        body = app_stands r.0.0 m.grown.store (names_in c.context) _ f.0.term m.term (m.grown.keeps (names_in c.context) f.0.term k.1);
        goals = one_new c.store f.0.store c.context r.0 k.0 k.0.store m;
      })
