-- What is put together from a family's parameters, indices and constructors stands where its arguments do: predicates and premises.
use Rattle.std.proofs.Common.{◌≡◌, ◌≤◌, ◌<◌, ◌+◌, ◌-◌, ◌∙◌, ℕ, zero, suc, refl, sym, ap, arith, Bool, true, false, ◌||◌, ◌&&◌, if◌then◌else◌, List, [], ◌∷◌, ◌++◌, map, length, reverse, drop, take, Option, Some, None, inl, inr}
use Rattle.std.proofs.Common.{subst as along}
use Rattle.std.proofs.lemmas.Bool.{cases_lt}
use Rattle.std.proofs.lemmas.List.{length-map, reverse-append}
use Rattle.std.specs.Prelude.{slice_get, eqb, not}
use Rattle.lq_trees.specs.Tree.{Name, Tree, Trees, Context, none, more, same_name}
use Rattle.lq_trees.specs.Tree.Tree.{Rel, Var, Sort, Prod, Lam, Let, App, Const, Ind, Ctor, Elim, Evar}
use Rattle.lq_trees.specs.Change.{lift, lifted, filled, fill, close_at, closed, closing, replace_each}
use Rattle.lq_trees.specs.Fresh.{is_listed}
use Rattle.lq_trees.specs.Reading.{entries}
use Rattle.lq_trees.proofs.FillLaws.{filled_below, filled_some, lifted_below, lifted_above}
use Rattle.lq_calculus.specs.Contraction.{spine, apply}
use Rattle.lq_calculus.specs.Declarations.{Family, variables, any_holds, are_variables, own_of, own, product, products, premise_end, premise}
use Rattle.lq_solving.specs.Stores.{Variable, Assigned, names_in}
use Rattle.lq_solving.proofs.InstanceLaws.{is_same}
use Rattle.lq_solving.proofs.Moving.{AllHave}
use Rattle.lq_solving.proofs.Motions.{all_drop}
use Rattle.lq_solving.proofs.Good.{IsGood, EachIsGood, good_more}
use Rattle.lq_solving.proofs.StandsLaws.{listed_last}
use Rattle.lq_solving.proofs.Steady.{entries_replace}
use Rattle.lq_tactics.proofs.BetaKept.{lift_good}
use Rattle.lq_tactics.proofs.ConstructorsKept.{IsBare, unclosed}

-- ---- a hypothesis becomes bound

module _ (vs : List Variable) (as_ : List Assigned) (xs : List Name) (y : Name) where
  rel_closed : (d n i : ℕ) → d ≤ n → suc i ≤ n → IsGood vs as_ xs (n + 1) (lifted 1 d i)
  rel_closed d n i l h = elim (cases_lt i d) [
    | inl b ↦ along (IsGood vs as_ xs (n + 1)) (sym (lifted_below 1 d i b)) (omega (arith, h))
    | inr b ↦ along (IsGood vs as_ xs (n + 1)) (sym (lifted_above 1 d i b)) (omega (arith, h))
  ]

  name_closed : (x : Name) (d n : ℕ) → d ≤ n → is_listed (xs ++ y ∷ []) x ≡ true → IsGood vs as_ xs (n + 1) (closed y d x)
  name_closed x d n l h = at (same_name x y) refl
    where
      at : (b : Bool) → same_name x y ≡ b → IsGood vs as_ xs (n + 1) (if b then Rel d else Var x)
      at true e = omega (arith, l)
      at false e = listed_last xs y x h e

  mutual
    pub close_good : (d n : ℕ) → d ≤ n → (t : Tree) → IsGood vs as_ (xs ++ y ∷ []) n t → IsGood vs as_ xs (n + 1) (close_at y d t)
    close_good d n l (Rel i) h = rel_closed d n i l h
    close_good d n l (Var x) h = name_closed x d n l h
    close_good d n l (Sort u) h = tt
    close_good d n l (Prod x A B) h = (close_good d n l A h.0, close_good (d + 1) (n + 1) (omega (arith, l)) B h.1)
    close_good d n l (Lam x A B) h = (close_good d n l A h.0, close_good (d + 1) (n + 1) (omega (arith, l)) B h.1)
    close_good d n l (Let x v A B) h = (close_good d n l v h.0, close_good d n l A h.1, close_good (d + 1) (n + 1) (omega (arith, l)) B h.2)
    close_good d n l (App f a) h = (close_good d n l f h.0, close_good d n l a h.1)
    close_good d n l (Const c) h = tt
    close_good d n l (Ind c) h = tt
    close_good d n l (Ctor c k) h = tt
    close_good d n l (Elim c u) h = tt
    close_good d n l (Evar k ts) h = (h.0, ap length (entries_replace (closing y) d ts) ∙ length-map (entries ts) _ ∙ h.1, h.2, each_close_good d n l ts h.3)

    each_close_good : (d n : ℕ) → d ≤ n → (ts : Trees) → EachIsGood vs as_ (xs ++ y ∷ []) n ts → EachIsGood vs as_ xs (n + 1) (replace_each (closing y) d ts)
    each_close_good d n l none h = tt
    each_close_good d n l (more t ts) h = (close_good d n l t h.0, each_close_good d n l ts h.1)

-- ---- values for bound variables, in which bound variables may be loose

module _ (xs : List Name) where
  abbrev Bare : ℕ → Tree → Type 0
  Bare n t = IsBare xs n t

  abbrev AllBare : ℕ → List Tree → Type 0
  AllBare n ts = AllHave (IsBare xs n) ts

  all_get : (P : Tree → Type 0) (ts : List Tree) → AllHave P ts → (k : ℕ) → k < length ts → (v : Tree) × (slice_get ts k ≡ Some v) × P v
  all_get P [] h k l = absurd (omega (arith, l))
  all_get P (t ∷ ts) h zero l = (t, refl, h.0)
  all_get P (t ∷ ts) h (suc k) l = all_get P ts h.1 k (omega (arith, l))

  rel_all_filled : (ws : List Tree) (n : ℕ) → AllBare n ws → (d j k i : ℕ) → j ≡ n + d → k ≡ length ws + d → suc i ≤ k → Bare j (filled ws d i)
  rel_all_filled ws n h d j k i e g l = elim (cases_lt i d) [
    | inl b ↦ along (Bare j) (sym (filled_below ws d i b)) (omega (arith, e, b))
    | inr b ↦
        let q = all_get (IsBare xs n) ws h (i - d) (omega (arith, l, g, b)) in
        along (Bare j) (sym (filled_some ws d i q.0 b q.1)) (lift_good [] [] xs d 0 n j e q.0 q.2)
  ]

  mutual
    fill_bare : (ws : List Tree) (n : ℕ) → AllBare n ws → (d j k : ℕ) → j ≡ n + d → k ≡ length ws + d → (t : Tree) → Bare k t → Bare j (fill ws d t)
    fill_bare ws n h d j k e g (Rel i) p = rel_all_filled ws n h d j k i e g p
    fill_bare ws n h d j k e g (Var x) p = p
    fill_bare ws n h d j k e g (Sort u) p = tt
    fill_bare ws n h d j k e g (Prod x A B) p = (fill_bare ws n h d j k e g A p.0, fill_bare ws n h (d + 1) (j + 1) (k + 1) (omega (arith, e)) (omega (arith, g)) B p.1)
    fill_bare ws n h d j k e g (Lam x A B) p = (fill_bare ws n h d j k e g A p.0, fill_bare ws n h (d + 1) (j + 1) (k + 1) (omega (arith, e)) (omega (arith, g)) B p.1)
    fill_bare ws n h d j k e g (Let x v A B) p =
        (fill_bare ws n h d j k e g v p.0, fill_bare ws n h d j k e g A p.1, fill_bare ws n h (d + 1) (j + 1) (k + 1) (omega (arith, e)) (omega (arith, g)) B p.2)
    fill_bare ws n h d j k e g (App f a) p = (fill_bare ws n h d j k e g f p.0, fill_bare ws n h d j k e g a p.1)
    fill_bare ws n h d j k e g (Const c) p = tt
    fill_bare ws n h d j k e g (Ind c) p = tt
    fill_bare ws n h d j k e g (Ctor c i) p = tt
    fill_bare ws n h d j k e g (Elim c u) p = tt
    fill_bare ws n h d j k e g (Evar i ts) p = absurd (omega (arith, p.0))

  -- ---- applications

  apply_bare : (n : ℕ) (f : Tree) (ts : List Tree) → Bare n f → AllBare n ts → Bare n (apply f ts)
  unfolding apply
  apply_bare n f [] h k = h
  apply_bare n f (t ∷ ts) h k = apply_bare n (App f t) ts (h, k.0) k.1

  spine_bare : (n : ℕ) (f : Tree) (ts : List Tree) → Bare n f → AllBare n ts → AllBare n (spine f ts).1
  unfolding spine
  spine_bare n (App f a) ts g h = spine_bare n f (a ∷ ts) g.0 (g.1, h)
  spine_bare n (Rel i) ts g h = h
  spine_bare n (Var x) ts g h = h
  spine_bare n (Sort s) ts g h = h
  spine_bare n (Prod x A B) ts g h = h
  spine_bare n (Lam x A B) ts g h = h
  spine_bare n (Let x v A B) ts g h = h
  spine_bare n (Const c) ts g h = h
  spine_bare n (Ind c) ts g h = h
  spine_bare n (Ctor c k) ts g h = h
  spine_bare n (Elim c s) ts g h = h
  spine_bare n (Evar k us) ts g h = h

  all_lifted : (n : ℕ) (by m : ℕ) → m ≡ n + by → (ts : List Tree) → AllBare n ts → AllBare m (map (lift by 0) ts)
  all_lifted n by m e [] h = tt
  all_lifted n by m e (t ∷ ts) h = (lift_good [] [] xs by 0 n m e t h.0, all_lifted n by m e ts h.1)

  all_filled : (ws : List Tree) (n k : ℕ) → AllBare n ws → k ≡ length ws → (ts : List Tree) → AllBare k ts → AllBare n (map (fill ws 0) ts)
  all_filled ws n k h e [] p = tt
  all_filled ws n k h e (t ∷ ts) p = (fill_bare ws n h 0 n k (omega arith) (omega (arith, e)) t p.0, all_filled ws n k h e ts p.1)

  all_append : (n : ℕ) (ts us : List Tree) → AllBare n ts → AllBare n us → AllBare n (ts ++ us)
  all_append n [] us h k = k
  all_append n (t ∷ ts) us h k = (h.0, all_append n ts us h.1 k)

  all_reversed : (n : ℕ) (ts : List Tree) → AllBare n ts → AllBare n (reverse ts)
  all_reversed n [] h = tt
  all_reversed n (t ∷ ts) h = along (AllBare n) (sym (reverse-append (t ∷ []) ts)) (all_append n (reverse ts) (t ∷ []) (all_reversed n ts h.1) (h.0, tt))

  -- the indices of a recursive argument are parts of it
  own_bare : (f : Family) (n : ℕ) (A : Tree) (ts : List Tree) → Bare n A → own f A ≡ Some ts → AllBare n ts
  unfolding own own_of
  own_bare f n A ts h e = at (spine A []).0 (spine A []).1 (spine_bare n A [] h tt) e
    where
      same : (args : List Tree) (b : Bool) → elim b as (λ z. Option (List Tree)) [ true ↦ Some (drop (length f.parameters) args) | false ↦ None ] ≡ Some ts → AllBare n args → AllBare n ts
      same args true q k = along (AllBare n) (ap (λ o. elim o as (λ z. List Tree) [ Some z ↦ z | None ↦ ts ]) q) (all_drop (IsBare xs n) (length f.parameters) args k)
      same args false q k = absurd (grind (arith, q))

      at : (h1 : Tree) (args : List Tree) → AllBare n args → own_of f h1 args ≡ Some ts → AllBare n ts
      at (Ind c) args k q =
          same args (same_name f.name c && are_variables f.parameters (take (length f.parameters) args) && eqb (length (drop (length f.parameters) args)) (length f.indices) && not (any_holds c (drop (length f.parameters) args))) q k
      at (Rel i) args k q = absurd (grind (arith, q))
      at (Var x) args k q = absurd (grind (arith, q))
      at (Sort x) args k q = absurd (grind (arith, q))
      at (Prod x A1 B) args k q = absurd (grind (arith, q))
      at (Lam x A1 B) args k q = absurd (grind (arith, q))
      at (Let x v A1 B) args k q = absurd (grind (arith, q))
      at (App g a) args k q = absurd (grind (arith, q))
      at (Const x) args k q = absurd (grind (arith, q))
      at (Ctor x i) args k q = absurd (grind (arith, q))
      at (Elim x u) args k q = absurd (grind (arith, q))
      at (Evar i us) args k q = absurd (grind (arith, q))

variables_bare : (g : Context) (xs : List Name) (n : ℕ) → ((x : Name) → is_listed (names_in g) x ≡ true → is_listed xs x ≡ true) → AllHave (IsBare xs n) (variables g)
unfolding variables is_listed
variables_bare [] xs n f = tt
variables_bare (h ∷ g) xs n f = (f h.name (ap (λ b. b || is_listed (names_in g) h.name) (is_same h.name)), variables_bare g xs n (λ x e. f x (later (same_name h.name x) (is_listed (names_in g) x) e)))
  where
    later : (a b : Bool) → b ≡ true → (a || b) ≡ true
    later true b e = refl
    later false b e = e

-- ---- premises

module _ (f : Family) (xs : List Name) (inside : (x : Name) → is_listed (names_in f.parameters) x ≡ true → is_listed xs x ≡ true) (k : ℕ) where
  end_bare : (n m : ℕ) (q : Tree) (seen : List Tree) (t : Tree) → m ≡ length seen → m ≤ n → IsBare xs n q → AllHave (IsBare xs n) seen → IsBare xs m t →
      IsBare xs n (elim (own f t) as (λ z. Tree) [ None ↦ t | Some ts ↦ premise_end f k q (reverse seen) (map (fill seen 0) ts) ])
  unfolding premise_end
  end_bare n m q seen t e l h s b = at (own f t) refl
    where
      at : (o : Option (List Tree)) → own f t ≡ o → IsBare xs n (elim o as (λ z. Tree) [ None ↦ t | Some ts ↦ premise_end f k q (reverse seen) (map (fill seen 0) ts) ])
      at None p = good_more [] [] xs m n l t b
      at (Some ts) p =
          let args = apply_bare xs n (apply (Ctor f.name k) (variables f.parameters)) (reverse seen)
          (apply_bare xs n (Ctor f.name k) (variables f.parameters) tt (variables_bare f.parameters xs n inside)) (all_reversed xs n seen s) in
          (apply_bare xs n q (map (fill seen 0) ts) h (all_filled xs seen n m s e ts (own_bare xs f m t ts b p)), args)

  hypotheses_bare : (n m : ℕ) (seen : List Tree) → m ≡ length seen → AllHave (IsBare xs n) seen → (ts : List Tree) → AllHave (IsBare xs m) ts → AllHave (IsBare xs (n + 1)) (map (λ t. lift 1 0 (fill seen 0 t)) ts)
  hypotheses_bare n m seen e s [] h = tt
  hypotheses_bare n m seen e s (t ∷ ts) h = (lift_good [] [] xs 1 0 n (n + 1) (omega arith) (fill seen 0 t) (fill_bare xs seen n s 0 n m (omega arith) (omega (arith, e)) t h.0), hypotheses_bare n m seen e s ts h.1)

  pub premise_bare : (n m : ℕ) (q : Tree) (seen : List Tree) (t : Tree) → m ≡ length seen → m ≤ n → IsBare xs n q → AllHave (IsBare xs n) seen → IsBare xs m t → IsBare xs n (premise f k q seen t)
  unfolding premise
  premise_bare n m q seen (Prod x A B) e l h s b =
      at (own f A) refl
      (premise_bare (n + 1) (m + 1) (lift 1 0 q) (Rel 0 ∷ map (lift 1 0) seen) B (omega (arith, e, length-map seen (lift 1 0))) (omega (arith, l)) (lift_good [] [] xs 1 0 n (n + 1) (omega arith) q h)
      (omega arith, all_lifted xs n 1 (n + 1) (omega arith) seen s) b.1)
      (premise_bare (n + 1 + 1) (m + 1) (lift 2 0 q) (Rel 1 ∷ map (lift 2 0) seen) B (omega (arith, e, length-map seen (lift 2 0))) (omega (arith, l)) (lift_good [] [] xs 2 0 n (n + 1 + 1) (omega arith) q h)
      (omega arith, all_lifted xs n 2 (n + 1 + 1) (omega arith) seen s) b.1)
    where
      domain : IsBare xs n (fill seen 0 A)
      domain = fill_bare xs seen n s 0 n m (omega arith) (omega (arith, e)) A b.0

      at : (o : Option (List Tree)) → own f A ≡ o → IsBare xs (n + 1) (premise f k (lift 1 0 q) (Rel 0 ∷ map (lift 1 0) seen) B) → IsBare xs (n + 1 + 1) (premise f k (lift 2 0 q) (Rel 1 ∷ map (lift 2 0) seen) B) →
          IsBare xs n (elim o as (λ z. Tree) [
            | None ↦ Prod x (fill seen 0 A) (premise f k (lift 1 0 q) (Rel 0 ∷ map (lift 1 0) seen) B)
            | Some ts ↦ Prod x (fill seen 0 A) (Prod [] (App (apply (lift 1 0 q) (map (λ t. lift 1 0 (fill seen 0 t)) ts)) (Rel 0)) (premise f k (lift 2 0 q) (Rel 1 ∷ map (lift 2 0) seen) B))
          ])
      at None p one two = (domain, one)
      at (Some ts) p one two =
          (domain, ((apply_bare xs (n + 1) (lift 1 0 q) (map (λ t. lift 1 0 (fill seen 0 t)) ts) (lift_good [] [] xs 1 0 n (n + 1) (omega arith) q h) (hypotheses_bare n m seen e s ts (own_bare xs f m A ts b.0 p)), omega arith), two))
  premise_bare n m q seen (Rel i) e l h s b = end_bare n m q seen (Rel i) e l h s b
  premise_bare n m q seen (Var x) e l h s b = end_bare n m q seen (Var x) e l h s b
  premise_bare n m q seen (Sort u) e l h s b = end_bare n m q seen (Sort u) e l h s b
  premise_bare n m q seen (Lam x A t) e l h s b = end_bare n m q seen (Lam x A t) e l h s b
  premise_bare n m q seen (Let x v A t) e l h s b = end_bare n m q seen (Let x v A t) e l h s b
  premise_bare n m q seen (App g a) e l h s b = end_bare n m q seen (App g a) e l h s b
  premise_bare n m q seen (Const c) e l h s b = end_bare n m q seen (Const c) e l h s b
  premise_bare n m q seen (Ind c) e l h s b = end_bare n m q seen (Ind c) e l h s b
  premise_bare n m q seen (Ctor c i) e l h s b = end_bare n m q seen (Ctor c i) e l h s b
  premise_bare n m q seen (Elim c u) e l h s b = end_bare n m q seen (Elim c u) e l h s b
  premise_bare n m q seen (Evar i ts) e l h s b = end_bare n m q seen (Evar i ts) e l h s b

-- ---- telescopes

-- the hypotheses of a context, each over those before it
abbrev pub AreBare : List Name → Context → Type 0
AreBare xs [] = Unit {0}
AreBare xs (h ∷ g) = IsBare xs 0 h.kind × AreBare (xs ++ h.name ∷ []) g

pub kinds_bare : (g : Context) (xs : List Name) (t : Tree) → IsBare xs 0 (products g t) → AreBare xs g
unfolding products product
kinds_bare [] xs t h = tt
kinds_bare (k ∷ g) xs t h = (h.0, kinds_bare g (xs ++ k.name ∷ []) t (unclosed xs k.name 0 0 (omega arith) (products g t) h.1))
