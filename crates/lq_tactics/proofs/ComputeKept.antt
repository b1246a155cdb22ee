-- Contraction by all rules leads from terms that are good below binders to such terms; so `compute` keeps what holds.
use Rattle.std.proofs.Common.{◌≡◌, ◌≤◌, ◌+◌, ◌-◌, ◌∙◌, ℕ, zero, suc, refl, sym, ap, arith, List, [], ◌∷◌, ◌++◌, map, length, reverse, take, drop}
use Rattle.std.proofs.Common.{Option, Some, None, inl, inr}
use Rattle.std.proofs.Common.{subst as along}
use Rattle.std.proofs.lemmas.Bool.{cases_lt}
use Rattle.std.proofs.lemmas.List.{reverse-append, length-reverse, length-take-le}
use Rattle.std.specs.Prelude.{slice_get}
use Rattle.std.specs.List.{AllByRecursion}
use Rattle.lq_trees.specs.Tree.{Name, Tree, Trees, Context, none, more}
use Rattle.lq_trees.specs.Tree.Tree.{Rel, Var, Sort, Prod, Lam, Let, App, Const, Ind, Ctor, Elim, Evar}
use Rattle.lq_trees.specs.Change.{filled, fill, fill_each}
use Rattle.lq_trees.specs.Rules.{Arguments, Rules}
use Rattle.lq_trees.specs.Ticks.{◌>>=◌}
use Rattle.lq_trees.proofs.FillLaws.{filled_below, filled_some}
use Rattle.lq_calculus.specs.Contraction.{Elimination, spine, apply, premise_arguments, elimination, iota, beta, contract, normal}
use Rattle.lq_calculus.proofs.ConvSound.{Gives, gives_bind}
use Rattle.lq_solving.specs.Stores.{Variable, Assigned, names_in, read_context}
use Rattle.lq_solving.specs.Kept.{StandsIn}
use Rattle.lq_solving.specs.Claims.{IsPlain, ArePlain, ArePlainRules}
use Rattle.lq_solving.proofs.Moving.{AllHave, Eliminates, elimination_is, Fires, iota_fires}
use Rattle.lq_solving.proofs.Motions.{all_take, all_drop}
use Rattle.lq_solving.proofs.Good.{IsGood, EachIsGood, entries_filled, good_more, plain_good}
use Rattle.lq_solving.proofs.Later.{good_stands, bodies_good}
use Rattle.lq_solving.proofs.UnifyProved.{bodies_stand}
use Rattle.lq_solving.proofs.ElabKept.{grown_now}
use Rattle.lq_tactics.specs.Rows.{RowFault, Scene, Done, rules, needed_form}
use Rattle.lq_tactics.specs.Rewriting.{retyped}
use Rattle.lq_tactics.proofs.BetaKept.{lift_good, subst_open_good, beta_good, normal_good}
use Rattle.lq_tactics.proofs.RowsKept.{IsScene, IsReached, form_is}
use Rattle.lq_tactics.proofs.RetypingKept.{retyped_reached}

module _ (vs : List Variable) (as_ : List Assigned) (xs : List Name) where
  abbrev Good : ℕ → Tree → Type 0
  Good n t = IsGood vs as_ xs n t

  abbrev AllGood : ℕ → List Tree → Type 0
  AllGood n ts = AllHave (IsGood vs as_ xs n) ts

  get_good : (n : ℕ) (us : List Tree) → AllGood n us → (j : ℕ) (v : Tree) → slice_get us j ≡ Some v → Good n v
  get_good n [] g j v e = absurd (grind (arith, e))
  get_good n (u ∷ us) g zero v e = along (Good n) (ap (λ o. elim o as (λ z. Tree) [ Some w ↦ w | None ↦ u ]) e) g.0
  get_good n (u ∷ us) g (suc j) v e = get_good n us g.1 j v e

  -- ---- filled in

  module _ (n : ℕ) (ws : List Tree) (h : AllGood n ws) where
    past : (us : List Tree) (j : ℕ) → slice_get us j ≡ None → length us ≤ j
    past [] j e = omega arith
    past (u ∷ us) zero e = absurd (grind (arith, e))
    past (u ∷ us) (suc j) e = omega (arith, past us j e)

    rel_many_good : (d k : ℕ) → k ≡ n + d → (i : ℕ) → suc i ≤ length ws + d → Good k (filled ws d i)
    rel_many_good d k q i l = elim (cases_lt i d) [
      | inl b ↦ along (Good k) (sym (filled_below ws d i b)) (omega (arith, q, b))
      | inr b ↦ got (slice_get ws (i - d)) refl b
    ]
      where
        got : (o : Option Tree) → slice_get ws (i - d) ≡ o → d ≤ i → Good k (filled ws d i)
        got None e b = absurd (omega (arith, past ws (i - d) e, l, b))
        got (Some v) e b = along (Good k) (sym (filled_some ws d i v b e)) (lift_good vs as_ xs d 0 n k q v (get_good n ws h (i - d) v e))

    mutual
      many_good : (d k m : ℕ) → k ≡ n + d → m ≡ length ws + d → (t : Tree) → Good m t → Good k (fill ws d t)
      many_good d k m q e (Rel i) g = rel_many_good d k q i (omega (arith, g, e))
      many_good d k m q e (Var x) g = g
      many_good d k m q e (Sort u) g = tt
      many_good d k m q e (Prod x A B) g = (many_good d k m q e A g.0, many_good (d + 1) (k + 1) (m + 1) (omega (arith, q)) (omega (arith, e)) B g.1)
      many_good d k m q e (Lam x A B) g = (many_good d k m q e A g.0, many_good (d + 1) (k + 1) (m + 1) (omega (arith, q)) (omega (arith, e)) B g.1)
      many_good d k m q e (Let x v A B) g = (many_good d k m q e v g.0, many_good d k m q e A g.1, many_good (d + 1) (k + 1) (m + 1) (omega (arith, q)) (omega (arith, e)) B g.2)
      many_good d k m q e (App f a) g = (many_good d k m q e f g.0, many_good d k m q e a g.1)
      many_good d k m q e (Const c) g = tt
      many_good d k m q e (Ind c) g = tt
      many_good d k m q e (Ctor c i) g = tt
      many_good d k m q e (Elim c u) g = tt
      many_good d k m q e (Evar j ts) g = (g.0, entries_filled ws d ts ∙ g.1, g.2, each_many_good d k m q e ts g.3)

      each_many_good : (d k m : ℕ) → k ≡ n + d → m ≡ length ws + d → (ts : Trees) → EachIsGood vs as_ xs m ts → EachIsGood vs as_ xs k (fill_each ws d ts)
      each_many_good d k m q e none g = tt
      each_many_good d k m q e (more t ts) g = (many_good d k m q e t g.0, each_many_good d k m q e ts g.1)

  -- ---- applications

  apply_open_good : (n : ℕ) (f : Tree) (ts : List Tree) → Good n f → AllGood n ts → Good n (apply f ts)
  unfolding apply
  apply_open_good n f [] g h = g
  apply_open_good n f (t ∷ ts) g h = apply_open_good n (App f t) ts (g, h.0) h.1

  spine_open_good : (n : ℕ) (f : Tree) (ts : List Tree) → Good n f → AllGood n ts → Good n (spine f ts).0 × AllGood n (spine f ts).1
  unfolding spine
  spine_open_good n (App f a) ts g h = spine_open_good n f (a ∷ ts) g.0 (g.1, h)
  spine_open_good n (Rel i) ts g h = (g, h)
  spine_open_good n (Var x) ts g h = (g, h)
  spine_open_good n (Sort s) ts g h = (g, h)
  spine_open_good n (Prod x A B) ts g h = (g, h)
  spine_open_good n (Lam x A B) ts g h = (g, h)
  spine_open_good n (Let x v A B) ts g h = (g, h)
  spine_open_good n (Const c) ts g h = (g, h)
  spine_open_good n (Ind c) ts g h = (g, h)
  spine_open_good n (Ctor c k) ts g h = (g, h)
  spine_open_good n (Elim c s) ts g h = (g, h)
  spine_open_good n (Evar k us) ts g h = (g, h)

  all_append : (n : ℕ) (ts us : List Tree) → AllGood n ts → AllGood n us → AllGood n (ts ++ us)
  all_append n [] us h k = k
  all_append n (t ∷ ts) us h k = (h.0, all_append n ts us h.1 k)

  all_reverse : (n : ℕ) (ts : List Tree) → AllGood n ts → AllGood n (reverse ts)
  all_reverse n [] h = tt
  all_reverse n (t ∷ ts) h = along (AllGood n) (sym (reverse-append (t ∷ []) ts)) (all_append n (reverse ts) (t ∷ []) (all_reverse n ts h.1) (h.0, tt))

  -- ---- iota

  targets_open_good : (n m : ℕ) (seen ts : List Tree) → length seen ≡ m → AllGood n seen → AllByRecursion (IsPlain m) ts → AllGood n (map (fill seen 0) ts)
  targets_open_good n m seen [] l h p = tt
  targets_open_good n m seen (t ∷ ts) l h p =
      (many_good n seen h 0 n m (omega arith) (omega (arith, l)) t (plain_good vs as_ xs m t p.0.over p.0.within p.0.holds), targets_open_good n m seen ts l h p.1)

  arguments_open_good : (n m : ℕ) (again : Tree) (seen : List Tree) (rs : Arguments) (args : List Tree) → length seen ≡ m → Good n again → AllGood n seen →
      AllGood n args → ArePlain m rs →
      AllGood n (premise_arguments again seen rs args)
  unfolding premise_arguments
  arguments_open_good n m again seen [] args l a h k p = tt
  arguments_open_good n m again seen (None ∷ rs) [] l a h k p = tt
  arguments_open_good n m again seen (Some ts ∷ rs) [] l a h k p = tt
  arguments_open_good n m again seen (None ∷ rs) (b ∷ args) l a h k p = (k.0, arguments_open_good n (suc m) again (b ∷ seen) rs args (ap suc l) a (k.0, h) k.1 p)
  arguments_open_good n m again seen (Some ts ∷ rs) (b ∷ args) l a h k p = (
    k.0,
    ((apply_open_good n again (map (fill seen 0) ts) a (targets_open_good n m seen ts l h p.0), k.0), arguments_open_good n (suc m) again (b ∷ seen) rs args (ap suc l) a (k.0, h) k.1 p.1),
  )

  module _ (r : Rules) (plain : ArePlainRules r) (n : ℕ) where
    iota_open_good : (f a : Tree) (e : Elimination) (u : Tree) → Good n f → Good n a → Eliminates r f e → Fires r e a u → Good n u
    iota_open_good f a e u gf ga h fi =
        along (Good n) (sym fi.is)
        (apply_open_good n fi.premise _ (get_good n e.args args (m + 1 + fi.k) fi.premise fi.at)
        (arguments_open_good n m _ (reverse (take m cs)) fi.rule (drop m cs) (length-reverse (take m cs) ∙ length-take-le m cs (omega (arith, fi.many)))
        (apply_open_good n (Elim e.family e.sort) _ tt (all_take (IsGood vs as_ xs n) (m + 1 + e.numbers.constructors) e.args args))
        (all_reverse n (take m cs) (all_take (IsGood vs as_ xs n) m cs all)) (all_drop (IsGood vs as_ xs n) m cs all) (plain.arguments e.family fi.k e.numbers fi.rule h.counts fi.known)))
      where
        m : ℕ
        m = e.numbers.parameters

        cs : List Tree
        cs = (spine a []).1

        all : AllGood n (spine a []).1
        all = (spine_open_good n a [] ga tt).1

        args : AllGood n e.args
        args = along (AllGood n) h.args (spine_open_good n f [] gf tt).1

    -- the contraction at the head; bodies of hypotheses are closed
    module _ (g : Context) (bodies : (x : Name) (v : Tree) → contract r g (Var x) ≡ Some v → Good 0 v) where
      some_is : (t u : Tree) → Some t ≡ Some u → Good n t → Good n u
      some_is t u e h = along (Good n) (ap (λ o. elim o as (λ z. Tree) [ Some z ↦ z | None ↦ u ]) e) h

      scrutinee_open_good : (f a u : Tree) → Good n f → ((a1 : Tree) → contract r g a ≡ Some a1 → Good n a1) → (o : Option Tree) → contract r g a ≡ o →
          elim o as (λ z. Option Tree) [ Some a1 ↦ Some (App f a1) | None ↦ None ] ≡ Some u → Good n u
      scrutinee_open_good f a u gf ih None k w = absurd (grind (arith, w))
      scrutinee_open_good f a u gf ih (Some a1) k w = some_is (App f a1) u w (gf, ih a1 k)

      rest_open_good : (f a u : Tree) → Good n f → Good n a → ((a1 : Tree) → contract r g a ≡ Some a1 → Good n a1) → (o : Option Elimination) →
          elimination r f ≡ o →
          elim o as (λ z. Option Tree) [
            | None ↦ None
            | Some e ↦ elim (iota r e a) [ Some t ↦ Some t | None ↦ elim (contract r g a) [ Some a1 ↦ Some (App f a1) | None ↦ None ] ]
          ] ≡ Some u → Good n u
      rest_open_good f a u gf ga ih None k w = absurd (grind (arith, w))
      rest_open_good f a u gf ga ih (Some e) k w = by_iota (iota r e a) refl w
        where
          by_iota : (o : Option Tree) → iota r e a ≡ o →
              elim o as (λ z. Option Tree) [ Some t ↦ Some t | None ↦ elim (contract r g a) [ Some a1 ↦ Some (App f a1) | None ↦ None ] ] ≡ Some u → Good n u
          by_iota (Some t) i v = some_is t u v (iota_open_good f a e t gf ga (elimination_is r f e k) (iota_fires r e a t i))
          by_iota None i v = scrutinee_open_good f a u gf ih (contract r g a) refl v

      function_open_good : (f a u : Tree) → Good n f → Good n a → ((f1 : Tree) → contract r g f ≡ Some f1 → Good n f1) →
          ((a1 : Tree) → contract r g a ≡ Some a1 → Good n a1) →
          (o : Option Tree) → contract r g f ≡ o →
          elim o as (λ z. Option Tree) [
            | Some f1 ↦ Some (App f1 a)
            | None ↦ elim (elimination r f) [
              | None ↦ None
              | Some e ↦ elim (iota r e a) [ Some t ↦ Some t | None ↦ elim (contract r g a) [ Some a1 ↦ Some (App f a1) | None ↦ None ] ]
            ]
          ] ≡ Some u → Good n u
      function_open_good f a u gf ga ihf iha (Some f1) c v = some_is (App f1 a) u v (ihf f1 c, ga)
      function_open_good f a u gf ga ihf iha None c v = rest_open_good f a u gf ga iha (elimination r f) refl v

      application_open_good : (f a u : Tree) → Good n f → Good n a → ((f1 : Tree) → contract r g f ≡ Some f1 → Good n f1) →
          ((a1 : Tree) → contract r g a ≡ Some a1 → Good n a1) →
          (o : Option Tree) → beta f a ≡ o →
          elim o as (λ z. Option Tree) [
            | Some t ↦ Some t
            | None ↦ elim (contract r g f) [
              | Some f1 ↦ Some (App f1 a)
              | None ↦ elim (elimination r f) [
                | None ↦ None
                | Some e ↦ elim (iota r e a) [ Some t ↦ Some t | None ↦ elim (contract r g a) [ Some a1 ↦ Some (App f a1) | None ↦ None ] ]
              ]
            ]
          ] ≡ Some u → Good n u
      application_open_good f a u gf ga ihf iha (Some t) k w = some_is t u w (beta_good vs as_ xs n f a t gf ga k)
      application_open_good f a u gf ga ihf iha None k w = function_open_good f a u gf ga ihf iha (contract r g f) refl w

      contract_open_good : (t u : Tree) → Good n t → contract r g t ≡ Some u → Good n u
      unfolding contract
      contract_open_good (Let x v A t) u h e = some_is _ u e (subst_open_good vs as_ xs n v t h.0 h.2)
      contract_open_good (Var x) u h e = good_more vs as_ xs 0 n (omega arith) u (bodies x u e)
      contract_open_good (Const c) u h e = let p = plain.delta c u e in good_more vs as_ xs 0 n (omega arith) u (plain_good vs as_ xs 0 u p.over p.within p.holds)
      contract_open_good (App f a) u h e =
          application_open_good f a u h.0 h.1 (λ f1 k. contract_open_good f f1 h.0 k) (λ a1 k. contract_open_good a a1 h.1 k) (beta f a) refl e
      contract_open_good (Rel i) u h e = absurd (grind (arith, e))
      contract_open_good (Sort s) u h e = absurd (grind (arith, e))
      contract_open_good (Prod x A B) u h e = absurd (grind (arith, e))
      contract_open_good (Lam x A B) u h e = absurd (grind (arith, e))
      contract_open_good (Ind c) u h e = absurd (grind (arith, e))
      contract_open_good (Ctor c k) u h e = absurd (grind (arith, e))
      contract_open_good (Elim c s) u h e = absurd (grind (arith, e))
      contract_open_good (Evar k ts) u h e = absurd (grind (arith, e))

-- the normal form of the goal's type becomes its type
pub compute_reached : (c : Scene) → IsScene c → (d : Done) →
    Gives (normal (rules c) (read_context c.store c.context) c.bound c.kind >>= needed_form >>= retyped c c.store) d → IsReached c d
compute_reached c s d y =
    let g = read_context c.store c.context in
    let a = gives_bind (normal (rules c) g c.bound c.kind >>= needed_form) (retyped c c.store) d y in
    let b = gives_bind (normal (rules c) g c.bound c.kind) needed_form a.0 a.1 in
    let bodies = bodies_good (rules c) c.store s.store c.context (bodies_stand c.store c.context s.context) in
    let good = normal_good c.store.variables c.store.values (names_in c.context) RowFault (contract (rules c) g)
    (λ n t u h e. contract_open_good c.store.variables c.store.values (names_in c.context) (rules c) s.plain.rules n g bodies t u h e) c.bound 0 c.kind b.0 s.good b.1 in
    retyped_reached c s c.store a.0 d (grown_now c.store s.store)
    (along (StandsIn c.store c.context) (form_is b.0 a.0 b.2) (good_stands c.store s.store c.store.values (names_in c.context) b.0 good)) a.2
