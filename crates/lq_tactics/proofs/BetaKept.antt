-- Beta contraction, also below binders, leads from terms that are good in a context to such terms.
use Rattle.std.proofs.Common.{◌≡◌, ◌≤◌, ◌+◌, ℕ, zero, suc, refl, sym, ◌∙◌, ap, arith, List, [], ◌∷◌, length, Option, Some, None, inl, inr}
use Rattle.std.proofs.Common.{subst as along}
use Rattle.std.proofs.lemmas.Bool.{cases_lt}
use Rattle.lq_trees.specs.Tree.{Name, Tree, Trees, none, more}
use Rattle.lq_trees.specs.Tree.Tree.{Rel, Var, Sort, Prod, Lam, Let, App, Const, Ind, Ctor, Elim, Evar}
use Rattle.lq_trees.specs.Change.{subst, lift, lift_each, lifted, filled, fill, fill_each}
use Rattle.lq_trees.specs.Reading.{entries}
use Rattle.lq_trees.specs.Ticks.{Paid, gives, tick, cut, ◌>>=◌}
use Rattle.lq_trees.proofs.FillLaws.{subst_fill, filled_below, lifted_below, lifted_above}
use Rattle.lq_calculus.specs.Contraction.{beta, contract_beta, normal_by, normal_all, normal_form}
use Rattle.lq_calculus.proofs.ConvSound.{Gives, gives_bind}
use Rattle.lq_solving.specs.Stores.{Variable, Assigned}
use Rattle.lq_solving.proofs.Steady.{at_place, beyond_place}
use Rattle.lq_solving.proofs.Good.{IsGood, EachIsGood, entries_filled}

module _ (vs : List Variable) (as_ : List Assigned) (xs : List Name) where
  abbrev Good : ℕ → Tree → Type 0
  Good n t = IsGood vs as_ xs n t

  abbrev EachGood : ℕ → Trees → Type 0
  EachGood n ts = EachIsGood vs as_ xs n ts

  -- ---- raised

  rel_lift_good : (a m n k i : ℕ) → k ≡ n + a → suc i ≤ n → Good k (lifted a m i)
  rel_lift_good a m n k i e l = elim (cases_lt i m) [
    | inl h ↦ along (Good k) (sym (lifted_below a m i h)) (omega (arith, e, l))
    | inr h ↦ along (Good k) (sym (lifted_above a m i h)) (omega (arith, e, l))
  ]

  entries_lifted : (a m : ℕ) (ts : Trees) → length (entries (lift_each a m ts)) ≡ length (entries ts)
  unfolding entries
  entries_lifted a m none = refl
  entries_lifted a m (more t ts) = ap suc (entries_lifted a m ts)

  mutual
    pub lift_good : (a m n k : ℕ) → k ≡ n + a → (t : Tree) → Good n t → Good k (lift a m t)
    lift_good a m n k e (Rel i) g = rel_lift_good a m n k i e g
    lift_good a m n k e (Var x) g = g
    lift_good a m n k e (Sort u) g = tt
    lift_good a m n k e (Prod x A B) g = (lift_good a m n k e A g.0, lift_good a (m + 1) (n + 1) (k + 1) (omega (arith, e)) B g.1)
    lift_good a m n k e (Lam x A B) g = (lift_good a m n k e A g.0, lift_good a (m + 1) (n + 1) (k + 1) (omega (arith, e)) B g.1)
    lift_good a m n k e (Let x v A B) g = (lift_good a m n k e v g.0, lift_good a m n k e A g.1, lift_good a (m + 1) (n + 1) (k + 1) (omega (arith, e)) B g.2)
    lift_good a m n k e (App f b) g = (lift_good a m n k e f g.0, lift_good a m n k e b g.1)
    lift_good a m n k e (Const c) g = tt
    lift_good a m n k e (Ind c) g = tt
    lift_good a m n k e (Ctor c i) g = tt
    lift_good a m n k e (Elim c u) g = tt
    lift_good a m n k e (Evar j ts) g = (g.0, entries_lifted a m ts ∙ g.1, g.2, each_lift_good a m n k e ts g.3)

    pub each_lift_good : (a m n k : ℕ) → k ≡ n + a → (ts : Trees) → EachGood n ts → EachGood k (lift_each a m ts)
    each_lift_good a m n k e none g = tt
    each_lift_good a m n k e (more t ts) g = (lift_good a m n k e t g.0, each_lift_good a m n k e ts g.1)

  -- ---- filled in

  module _ (n : ℕ) (v : Tree) (h : Good n v) where
    rel_fill_good : (d k : ℕ) → k ≡ n + d → (i : ℕ) → suc i ≤ k + 1 → Good k (filled (v ∷ []) d i)
    rel_fill_good d k e i l = elim (cases_lt i d) [
      | inl b ↦ along (Good k) (sym (filled_below (v ∷ []) d i b)) (omega (arith, e, b))
      | inr b ↦ elim (cases_lt d i) [
        | inl c ↦ along (Good k) (sym (beyond_place v d i c)) (omega (arith, l, c))
        | inr c ↦ along (λ j. Good k (filled (v ∷ []) d j)) (omega (arith, b, c)) (along (Good k) (sym (at_place v d)) (lift_good d 0 n k e v h))
      ]
    ]

    mutual
      pub fill_open_good : (d k : ℕ) → k ≡ n + d → (t : Tree) → Good (k + 1) t → Good k (fill (v ∷ []) d t)
      fill_open_good d k e (Rel i) g = rel_fill_good d k e i g
      fill_open_good d k e (Var x) g = g
      fill_open_good d k e (Sort u) g = tt
      fill_open_good d k e (Prod x A B) g = (fill_open_good d k e A g.0, fill_open_good (d + 1) (k + 1) (omega (arith, e)) B g.1)
      fill_open_good d k e (Lam x A B) g = (fill_open_good d k e A g.0, fill_open_good (d + 1) (k + 1) (omega (arith, e)) B g.1)
      fill_open_good d k e (Let x w A B) g = (fill_open_good d k e w g.0, fill_open_good d k e A g.1, fill_open_good (d + 1) (k + 1) (omega (arith, e)) B g.2)
      fill_open_good d k e (App f b) g = (fill_open_good d k e f g.0, fill_open_good d k e b g.1)
      fill_open_good d k e (Const c) g = tt
      fill_open_good d k e (Ind c) g = tt
      fill_open_good d k e (Ctor c i) g = tt
      fill_open_good d k e (Elim c u) g = tt
      fill_open_good d k e (Evar j ts) g = (g.0, entries_filled (v ∷ []) d ts ∙ g.1, g.2, each_fill_open_good d k e ts g.3)

      pub each_fill_open_good : (d k : ℕ) → k ≡ n + d → (ts : Trees) → EachGood (k + 1) ts → EachGood k (fill_each (v ∷ []) d ts)
      each_fill_open_good d k e none g = tt
      each_fill_open_good d k e (more t ts) g = (fill_open_good d k e t g.0, each_fill_open_good d k e ts g.1)

  pub subst_open_good : (n : ℕ) (v t : Tree) → Good n v → Good (n + 1) t → Good n (subst v t)
  subst_open_good n v t h g = along (Good n) (sym (subst_fill v t)) (fill_open_good n v h 0 n (omega arith) t g)

  -- ---- contracted

  pub beta_good : (n : ℕ) (f a u : Tree) → Good n f → Good n a → beta f a ≡ Some u → Good n u
  unfolding beta
  beta_good n (Lam x A t) a u g h e = along (Good n) (ap (λ o. elim o as (λ z. Tree) [ Some z ↦ z | None ↦ u ]) e) (subst_open_good n a t h g.1)
  beta_good n (Rel i) a u g h e = absurd (grind (arith, e))
  beta_good n (Var x) a u g h e = absurd (grind (arith, e))
  beta_good n (Sort s) a u g h e = absurd (grind (arith, e))
  beta_good n (Prod x A B) a u g h e = absurd (grind (arith, e))
  beta_good n (Let x v A B) a u g h e = absurd (grind (arith, e))
  beta_good n (App f b) a u g h e = absurd (grind (arith, e))
  beta_good n (Const c) a u g h e = absurd (grind (arith, e))
  beta_good n (Ind c) a u g h e = absurd (grind (arith, e))
  beta_good n (Ctor c k) a u g h e = absurd (grind (arith, e))
  beta_good n (Elim c s) a u g h e = absurd (grind (arith, e))
  beta_good n (Evar k ts) a u g h e = absurd (grind (arith, e))

  -- a rule of contraction that keeps what is good
  abbrev KeepsGood : (Tree → Option Tree) → Type 0
  KeepsGood step = (n : ℕ) (t u : Tree) → Good n t → step t ≡ Some u → Good n u

  contract_beta_good : KeepsGood contract_beta
  unfolding contract_beta
  contract_beta_good n (App f a) u g e = at (beta f a) refl e (λ f1 p. contract_beta_good n f f1 g.0 p)
    where
      inner : ((f1 : Tree) → contract_beta f ≡ Some f1 → Good n f1) → (o : Option Tree) → contract_beta f ≡ o → elim o as (λ z. Option Tree) [ Some f1 ↦ Some (App f1 a) | None ↦ None ] ≡ Some u → Good n u
      inner ih None p q = absurd (grind (arith, q))
      inner ih (Some f1) p q = along (Good n) (ap (λ o. elim o as (λ z. Tree) [ Some z ↦ z | None ↦ u ]) q) (ih f1 p, g.1)

      at : (o : Option Tree) → beta f a ≡ o →
          elim o as (λ z. Option Tree) [ Some t ↦ Some t | None ↦ elim (contract_beta f) [ Some f1 ↦ Some (App f1 a) | None ↦ None ] ] ≡ Some u →
          ((f1 : Tree) → contract_beta f ≡ Some f1 → Good n f1) → Good n u
      at (Some t) p q ih = beta_good n f a u g.0 g.1 (p ∙ q)
      at None p q ih = inner ih (contract_beta f) refl q
  contract_beta_good n (Rel i) u g e = absurd (grind (arith, e))
  contract_beta_good n (Var x) u g e = absurd (grind (arith, e))
  contract_beta_good n (Sort s) u g e = absurd (grind (arith, e))
  contract_beta_good n (Prod x A B) u g e = absurd (grind (arith, e))
  contract_beta_good n (Lam x A B) u g e = absurd (grind (arith, e))
  contract_beta_good n (Let x v A B) u g e = absurd (grind (arith, e))
  contract_beta_good n (Const c) u g e = absurd (grind (arith, e))
  contract_beta_good n (Ind c) u g e = absurd (grind (arith, e))
  contract_beta_good n (Ctor c k) u g e = absurd (grind (arith, e))
  contract_beta_good n (Elim c s) u g e = absurd (grind (arith, e))
  contract_beta_good n (Evar k ts) u g e = absurd (grind (arith, e))

  module _ {F : Type 0} (step : Tree → Option Tree) (keeps : KeepsGood step) (go : Tree → Paid F Tree) (after : (n : ℕ) (t u : Tree) → Good n t → Gives (go t) u → Good n u) where
    -- what is contracted, or stays
    fired : (n : ℕ) (t u : Tree) → Good n t → (w : Tree) → step t ≡ Some w → Gives (tick (go w)) u → Good n u
    fired n t u g w e y = after n w u (keeps n t w g e) y

    leaf : (n : ℕ) (t u : Tree) (o : Option Tree) → step t ≡ o → Good n t → Gives {F = F} (elim o as (λ z. Paid F Tree) [ Some w ↦ tick (go w) | None ↦ gives t ]) u → Good n u
    leaf n t u (Some w) e g y = fired n t u g w e y
    leaf n t u None e g y = along (Good n) y g

    -- or its parts are taken
    node : (n : ℕ) (t u : Tree) (p : Paid F Tree) (o : Option Tree) → step t ≡ o → Good n t → (Gives p u → Good n u) → Gives (elim o as (λ z. Paid F Tree) [ Some w ↦ tick (go w) | None ↦ p ]) u → Good n u
    node n t u p (Some w) e g f y = fired n t u g w e y
    node n t u p None e g f y = f y

    -- two and three parts
    two_good : (n m : ℕ) (p q : Paid F Tree) (h : Tree → Tree → Tree) (u : Tree) → ((a : Tree) → Gives p a → Good n a) → ((b : Tree) → Gives q b → Good m b) → ((a b : Tree) → Good n a → Good m b → Good n (h a b)) →
        Gives (p >>= λ a. q >>= λ b. gives (h a b)) u → Good n u
    two_good n m p q h u i j k y =
        let a = gives_bind p _ u y in
        let b = gives_bind q _ u a.2 in
        along (Good n) b.2 (k a.0 b.0 (i a.0 a.1) (j b.0 b.1))

    three_good : (n : ℕ) (p q r : Paid F Tree) (h : Tree → Tree → Tree → Tree) (u : Tree) → ((a : Tree) → Gives p a → Good n a) → ((b : Tree) → Gives q b → Good n b) → ((c : Tree) → Gives r c → Good (n + 1) c) →
        ((a b c : Tree) → Good n a → Good n b → Good (n + 1) c → Good n (h a b c)) → Gives (p >>= λ a. q >>= λ b. r >>= λ c. gives (h a b c)) u → Good n u
    three_good n p q r h u i j k l y =
        let a = gives_bind p _ u y in
        let b = gives_bind q _ u a.2 in
        let c = gives_bind r _ u b.2 in
        along (Good n) c.2 (l a.0 b.0 c.0 (i a.0 a.1) (j b.0 b.1) (k c.0 c.1))

    evar_good : (n k : ℕ) (ts : Trees) (p : Paid F Trees) (u : Tree) → Good n (Evar k ts) → ((us : Trees) → Gives p us → EachGood n us × (length (entries us) ≡ length (entries ts))) →
        Gives (p >>= λ us. gives (Evar k us)) u → Good n u
    evar_good n k ts p u g f y =
        let a = gives_bind p _ u y in
        let q = f a.0 a.1 in
        along (Good n) a.2 (g.0, q.1 ∙ g.1, g.2, q.0)

    mutual
      unfolding normal_by normal_all entries

      pub by_good : (t : Tree) (n : ℕ) (u : Tree) → Good n t → Gives (normal_by step go t) u → Good n u
      by_good (Rel i) n u g y = leaf n (Rel i) u (step (Rel i)) refl g y
      by_good (Var x) n u g y = leaf n (Var x) u (step (Var x)) refl g y
      by_good (Sort s) n u g y = leaf n (Sort s) u (step (Sort s)) refl g y
      by_good (Prod x A B) n u g y =
          node n (Prod x A B) u _ (step (Prod x A B)) refl g
          (λ z. two_good n (n + 1) (normal_by step go A) (normal_by step go B) (Prod x) u (λ a k. by_good A n a g.0 k) (λ b k. by_good B (n + 1) b g.1 k) (λ a b k l. (k, l)) z) y
      by_good (Lam x A B) n u g y =
          node n (Lam x A B) u _ (step (Lam x A B)) refl g
          (λ z. two_good n (n + 1) (normal_by step go A) (normal_by step go B) (Lam x) u (λ a k. by_good A n a g.0 k) (λ b k. by_good B (n + 1) b g.1 k) (λ a b k l. (k, l)) z) y
      by_good (Let x v A B) n u g y =
          node n (Let x v A B) u _ (step (Let x v A B)) refl g
          (λ z. three_good n (normal_by step go v) (normal_by step go A) (normal_by step go B) (Let x) u (λ a k. by_good v n a g.0 k) (λ a k. by_good A n a g.1 k) (λ b k. by_good B (n + 1) b g.2 k)
          (λ a b c k l m. (k, l, m)) z) y
      by_good (App f a) n u g y =
          node n (App f a) u _ (step (App f a)) refl g
          (λ z. two_good n n (normal_by step go f) (normal_by step go a) App u (λ b k. by_good f n b g.0 k) (λ b k. by_good a n b g.1 k) (λ b c k l. (k, l)) z) y
      by_good (Const c) n u g y = leaf n (Const c) u (step (Const c)) refl g y
      by_good (Ind c) n u g y = leaf n (Ind c) u (step (Ind c)) refl g y
      by_good (Ctor c k) n u g y = leaf n (Ctor c k) u (step (Ctor c k)) refl g y
      by_good (Elim c s) n u g y = leaf n (Elim c s) u (step (Elim c s)) refl g y
      by_good (Evar k ts) n u g y =
          node n (Evar k ts) u _ (step (Evar k ts)) refl g (λ z. evar_good n k ts (normal_all step go ts) u g (λ us h. each_by_good ts n us g.3 h) z) y

      pub each_by_good : (ts : Trees) (n : ℕ) (us : Trees) → EachGood n ts → Gives (normal_all step go ts) us → EachGood n us × (length (entries us) ≡ length (entries ts))
      each_by_good none n us g y = along (λ z. EachGood n z × (length (entries z) ≡ 0)) y (tt, refl)
      each_by_good (more t ts) n us g y =
          let a = gives_bind (normal_by step go t) _ us y in
          let b = gives_bind (normal_all step go ts) _ us a.2 in
          let q = each_by_good ts n b.0 g.1 b.1 in
          along (λ z. EachGood n z × (length (entries z) ≡ suc (length (entries ts)))) b.2 ((by_good t n a.0 g.0 a.1, q.0), ap suc q.1)

  pub normal_good : (F : Type 0) (step : Tree → Option Tree) → KeepsGood step → (m n : ℕ) (t u : Tree) → Good n t → Gives {F = F} (normal_form step m t) u → Good n u
  unfolding normal_form
  normal_good F step keeps zero n t u g y = by_good step keeps (λ z. cut) (λ k a b h i. absurd i) t n u g y
  normal_good F step keeps (suc m) n t u g y = by_good step keeps (normal_form step m) (λ k a b h i. normal_good F step keeps m k a b h i) t n u g y

  -- the beta normal form
  pub beta_normal_good : (F : Type 0) (m n : ℕ) (t u : Tree) → Good n t → Gives {F = F} (normal_form contract_beta m t) u → Good n u
  beta_normal_good F m n t u g y = normal_good F contract_beta contract_beta_good m n t u g y
