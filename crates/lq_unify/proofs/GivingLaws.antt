-- A body for a variable by places of the bank, and the store in which the variable got it.
use Rattle.std.proofs.Common.{◌≡◌, ◌<◌, ◌∙◌, ℕ, Bool, true, false, refl, sym, ap, ap₂, arith, List, [], ◌∷◌, map, length, append-nil, Result, Ok, Err, Option, Some, None}
use Rattle.std.proofs.Common.{subst as along}
use Rattle.std.proofs.Math.Path.{fun_ext}
use Rattle.std.proofs.lemmas.List.{length-map}
use Rattle.std.specs.Prelude.{IfOk, IfSome, OnOk, option_map, slice_get}
use Rattle.std.specs.List.{AllByRecursion}
use Rattle.lq_trees.specs.declared.Fit.{Fit}
use Rattle.lq_trees.specs.Size.{fit}
use Rattle.lq_trees.specs.Tree.{Tree, Trees}
use Rattle.lq_trees.specs.Tree.Tree.{Evar}
use Rattle.lq_terms.specs.declared.nodes.Hypothesis.{Hypothesis}
use Rattle.lq_terms.specs.declared.nodes.Node.{Node}
use Rattle.lq_terms.specs.declared.nodes.TermId.{TermId}
use Rattle.lq_terms.specs.Terms.{Terms, HasTerm, Grows, node_tree, text_of, tree_of, trees_by}
use Rattle.lq_terms.specs.Changes.{HasHypothesis}
use Rattle.lq_solving.specs.Stores.{Variable as TreeVariable, Store, StoreFault as TreeFault, names_in, names_at, read, read_fitting, size_fault, assigned, with_value, read_too_large, read_too_deep}
use Rattle.lq_trees.specs.Index.{Within, EachWithin}
use Rattle.lq_solving.specs.Kept.{IsOver, EachIsOver, IsStore}
use Rattle.lq_solving.specs.Unification.{place_of, solve, is_variable}
use Rattle.lq_solving.proofs.DoneLaws.{IsDone, filled_done}
use Rattle.lq_solving.proofs.ReadLaws.{filled_each, filled_over, filled_within}
use Rattle.lq_solving.proofs.Later.{Later, now, given_later}
use Rattle.lq_solving.proofs.StoreLaws.{MayBeGiven}
use Rattle.lq_evars.specs.declared.store.Variable.{Variable}
use Rattle.lq_evars.specs.Places.{Places, store_of, variable_of, one_given, HasStore}
use Rattle.lq_evars.specs.Reading.{as_read}
use Rattle.lq_evars.proofs.Bodies.{names_told}
use Rattle.lq_evars.proofs.Growing.{store_of-grown, HasStore-grown}
use Rattle.lq_evars.proofs.Lookups.{variable_told}
use Rattle.lq_evars.proofs.ValueRead.{names_have, variable_has, there}
use Rattle.lq_unify.specs.declared.faults.UnifyFault.{UnifyFault}
use Rattle.lq_unify.specs.Held.{is_absent}
use Rattle.lq_unify.specs.Solutions.{solution}
use Rattle.lq_unify.specs.Heads.{HasOpenHead}
use Rattle.lq_unify.specs.Exposing.{IsOfStore}
use Rattle.lq_unify.specs.Solving.{AreExposed, Solves, solved, GivesOn, GivesBody, IsMeant, IsOpenAt, body_of, IsThere, IsLimit, HasBody}
use Rattle.lq_unify.proofs.PartLaws.{entries_map}
use Rattle.lq_unify.proofs.UnsolvableLaws.{exposed_many, exposed_place}
use Rattle.lq_unify.proofs.SolvingLaws.{entries_over, entries_done, solved_is, answer_of, solves_none, solves_by, body_stands, given_solves, large_solves, deep_solves}

-- ---- the context of a variable

module _ (bank : Terms) (s : Places) (h : HasStore bank s) (k : ℕ) (l : k < length s.variables) (hs : List Hypothesis) (at : (v : Variable) → slice_get s.variables k ≡ Some v → hs ≡ v.context) where
  pub context_has : AllByRecursion (HasHypothesis bank) hs
  context_has =
      let v = there s.variables k l in
      along (AllByRecursion (HasHypothesis bank)) (sym (at v.0 v.1)) (names_have bank v.0.context (variable_has bank s.variables k v.0 h.variables v.1).context)

  pub context_names_are : map (λ x. text_of bank x.name) hs ≡ names_at (store_of bank s).variables k
  unfolding names_at
  context_names_are =
      let v = there s.variables k l in
      ap (map (λ x. text_of bank x.name)) (at v.0 v.1) ∙ names_told bank v.0.context
      ∙ sym (ap (λ (o : Option TreeVariable). elim o [ Some w ↦ names_in w.context | None ↦ [] ]) (variable_told bank s k v.0 v.1))

  pub context_many : length hs ≡ length (names_at (store_of bank s).variables k)
  context_many = sym (length-map hs (λ x. text_of bank x.name)) ∙ ap length context_names_are

-- ---- a body, or none

pub absent_none : (o : Option Tree) → is_absent o ≡ true → o ≡ None
unfolding is_absent
absent_none None e = refl
absent_none (Some b) e = absurd (grind arith)

there_is : (o : Option Tree) → is_absent o ≡ false → IsThere o
unfolding is_absent
there_is None e = absurd (grind arith)
there_is (Some b) e = (b, refl)

pub limit_body : (bank : Terms) (y : UnifyFault) (f : Fit) (o : Option Tree) → is_absent o ≡ false → IsLimit y f → HasBody bank (Err y) o f
limit_body bank UnifyFault.TooLarge f o e h = (there_is o e, h)
limit_body bank UnifyFault.TooDeep f o e h = (there_is o e, h)
limit_body bank UnifyFault.StepsOut f o e h = h
limit_body bank UnifyFault.NoMemory f o e h = tt

-- the fit of a term that reading answers, or refuses
module _ (s : Store) (t : Tree) where
  fault_at : (f : Fit) → fit (read s t) ≡ f →
      read_fitting s t ≡ elim (elim f as (λ z. Option TreeFault) [ Fit.Fits ↦ None | Fit.TooLarge ↦ Some read_too_large | Fit.TooDeep ↦ Some read_too_deep ]) as (λ z. Result Tree TreeFault) [ None ↦ Ok (read s t) | Some y ↦ Err y ]
  unfolding read_fitting size_fault
  fault_at f e =
      ap (λ z. elim (elim z as (λ w. Option TreeFault) [ Fit.Fits ↦ None | Fit.TooLarge ↦ Some read_too_large | Fit.TooDeep ↦ Some read_too_deep ]) as (λ w. Result Tree TreeFault) [ None ↦ Ok (read s t) | Some y ↦ Err y ]) e

  pub large_is : read_fitting s t ≡ Err read_too_large → fit (as_read s t) ≡ Fit.TooLarge
  unfolding read
  large_is e = by (fit (read s t)) refl
    where
      by : (f : Fit) → fit (read s t) ≡ f → f ≡ Fit.TooLarge
      by Fit.TooLarge h = refl
      by Fit.Fits h = absurd (no (sym (fault_at Fit.Fits h) ∙ e))
        where
          no : ◌≡◌ {A = Result Tree TreeFault} (Ok (read s t)) (Err read_too_large) → ⊥
          no p = grind arith
      by Fit.TooDeep h = absurd (no (sym (fault_at Fit.TooDeep h) ∙ e))
        where
          no : ◌≡◌ {A = Result Tree TreeFault} (Err read_too_deep) (Err read_too_large) → ⊥
          no p = grind arith

  pub deep_is : read_fitting s t ≡ Err read_too_deep → fit (as_read s t) ≡ Fit.TooDeep
  unfolding read
  deep_is e = by (fit (read s t)) refl
    where
      by : (f : Fit) → fit (read s t) ≡ f → f ≡ Fit.TooDeep
      by Fit.TooDeep h = refl
      by Fit.Fits h = absurd (no (sym (fault_at Fit.Fits h) ∙ e))
        where
          no : ◌≡◌ {A = Result Tree TreeFault} (Ok (read s t)) (Err read_too_deep) → ⊥
          no p = grind arith
      by Fit.TooLarge h = absurd (no (sym (fault_at Fit.TooLarge h) ∙ e))
        where
          no : ◌≡◌ {A = Result Tree TreeFault} (Err read_too_large) (Err read_too_deep) → ⊥
          no p = grind arith

  pub read_is : (T : Tree) → read_fitting s t ≡ Ok T → T ≡ as_read s t
  unfolding read
  read_is T e = by (fit (read s t)) refl
    where
      by : (f : Fit) → fit (read s t) ≡ f → T ≡ as_read s t
      by Fit.Fits h = ok (sym (fault_at Fit.Fits h) ∙ e)
        where
          ok : ◌≡◌ {A = Result Tree TreeFault} (Ok (read s t)) (Ok T) → T ≡ read s t
          ok p = grind arith
      by Fit.TooLarge h = absurd (no (sym (fault_at Fit.TooLarge h) ∙ e))
        where
          no : ◌≡◌ {A = Result Tree TreeFault} (Err read_too_large) (Ok T) → ⊥
          no p = grind arith
      by Fit.TooDeep h = absurd (no (sym (fault_at Fit.TooDeep h) ∙ e))
        where
          no : ◌≡◌ {A = Result Tree TreeFault} (Err read_too_deep) (Ok T) → ⊥
          no p = grind arith

-- ---- in a bank that has grown

module _ (old new : Terms) (g : Grows old new) (s : Places) (h : HasStore old s) where
  pub many_grown : (k n : ℕ) → length (names_at (store_of old s).variables k) ≡ n → length (names_at (store_of new s).variables k) ≡ n
  many_grown k n e = ap (λ z. length (names_at z.variables k)) (store_of-grown old new g s h) ∙ e

  trees_grown : (ts : List TermId) → AllByRecursion (HasTerm old) ts → trees_by (tree_of new) ts ≡ trees_by (tree_of old) ts
  trees_grown [] a = refl
  trees_grown (t ∷ ts) a = ap₂ Trees.more (g.tree t a.0) (trees_grown ts a.1)

  pub body_grown : (k : ℕ) (ts : List TermId) (U : Tree) → AllByRecursion (HasTerm old) ts → body_of new s k ts U ≡ body_of old s k ts U
  body_grown k ts U a =
      ap₂ (λ z E. solution (Some k) (place_of (names_at z.variables k) E) U) (store_of-grown old new g s h) (trees_grown ts a)

  pub fit_grown : (t : TermId) → HasTerm old t → as_read (store_of new s) (tree_of new t) ≡ as_read (store_of old s) (tree_of old t)
  fit_grown t a = ap₂ as_read (store_of-grown old new g s h) (g.tree t a)

  -- nothing was given
  pub gives_nothing : IsStore (store_of old s) → GivesOn old new s s
  gives_nothing i = record {
    has = HasStore-grown old new g s h;
    kept = along IsStore (sym (store_of-grown old new g s h)) i;
    later = along (Later (store_of old s)) (sym (store_of-grown old new g s h)) now;
    more = record { variables = refl; more = []; values = sym (append-nil s.values) };
  }

  given_with : (k : ℕ) (b : Tree) (s1 : Store) → assigned (store_of old s) k b ≡ Ok s1 → s1 ≡ with_value (store_of old s) k b
  unfolding assigned
  given_with k b s1 e = by (size_fault (read (store_of old s) b)) e
    where
      by : (o : Option TreeFault) → elim o as (λ z. Result Store TreeFault) [ None ↦ Ok (with_value (store_of old s) k b) | Some y ↦ Err y ] ≡ Ok s1 → s1 ≡ with_value (store_of old s) k b
      by None p = grind arith
      by (Some y) p = absurd (grind arith)

  -- a value was
  pub gives_one : (k : ℕ) (t : TermId) (s1 : Places) → MayBeGiven (store_of old s) k (tree_of old t) → s1 ≡ one_given s k t → assigned (store_of old s) k (tree_of old t) ≡ Ok (store_of new s1) → IsStore (store_of new s1) → HasStore new s1 →
      GivesOn old new s s1
  gives_one k t s1 m e q i a = record {
    has = a;
    kept = i;
    later = along (Later (store_of old s)) (sym (given_with k (tree_of old t) (store_of new s1) q)) (given_later now k (tree_of old t) m);
    more = record { variables = ap (λ z. z.variables) e; more = (k, t) ∷ []; values = ap (λ z. z.values) e };
  }

  -- the body that was made of the term as it was read
  pub body_made : (last : Terms) (k : ℕ) (ts : List TermId) (t u : TermId) (f : Fit) (o : Option TermId) → AllByRecursion (HasTerm old) ts → read_fitting (store_of old s) (tree_of old t) ≡ Ok (tree_of new u) →
      option_map (tree_of last) o ≡ body_of new s k ts (tree_of new u) → IfSome o (HasTerm last) → HasBody last (Ok o) (body_of old s k ts (as_read (store_of old s) (tree_of old t))) f
  body_made last k ts t u f o a r e b = by o (e ∙ ap (body_of new s k ts) (read_is (store_of old s) (tree_of old t) (tree_of new u) r) ∙ body_grown k ts (as_read (store_of old s) (tree_of old t)) a) b
    where
      by : (p : Option TermId) → option_map (tree_of last) p ≡ body_of old s k ts (as_read (store_of old s) (tree_of old t)) → IfSome p (HasTerm last) → HasBody last (Ok p) (body_of old s k ts (as_read (store_of old s) (tree_of old t))) f
      by None q c = sym q
      by (Some x) q c = (c, sym q)

  -- the same of a body that a later call answers for
  pub body_before : (last : Terms) (k : ℕ) (ts : List TermId) (t : TermId) (r : Result (Option TermId) UnifyFault) → AllByRecursion (HasTerm old) ts → HasTerm old t →
      HasBody last r (body_of new s k ts (as_read (store_of new s) (tree_of new t))) (fit (as_read (store_of new s) (tree_of new t))) →
      HasBody last r (body_of old s k ts (as_read (store_of old s) (tree_of old t))) (fit (as_read (store_of old s) (tree_of old t)))
  body_before last k ts t r a b c =
      along (λ z. HasBody last r z (fit (as_read (store_of old s) (tree_of old t)))) (body_grown k ts (as_read (store_of old s) (tree_of old t)) a)
      (along (λ U. HasBody last r (body_of new s k ts U) (fit U)) (fit_grown t b) c)

  pub limit_grown : (t : TermId) (y : UnifyFault) → HasTerm old t → IsLimit y (fit (as_read (store_of old s) (tree_of old t))) → IsLimit y (fit (as_read (store_of new s) (tree_of new t)))
  limit_grown t y a l = along (λ U. IsLimit y (fit U)) (sym (fit_grown t a)) l

-- ---- what solving comes to

module _ (old : Terms) (s : Places) (i : IsStore (store_of old s)) (k : ℕ) (ts : List TermId) (E : Trees) (m : IsMeant old (store_of old s) k ts E) (t : TermId) (o : IsOfStore old (store_of old s) t) where
  abbrev S : Store
  S = store_of old s

  abbrev U : Tree
  U = read S (tree_of old t)

  over_read : IsOver S.variables U
  unfolding read
  over_read = filled_over S.variables S.values i.values (tree_of old t) o.over

  done_read : IsDone S.values U
  unfolding read
  done_read = filled_done S.variables S.values i.values (tree_of old t)

  within_read : Within 0 U
  unfolding read
  within_read = filled_within S.variables S.values i.values 0 (tree_of old t) o.within

  answer_is : body_of old s k ts (as_read S (tree_of old t)) ≡ answer_of S i k E U
  unfolding read
  answer_is = ap (λ f. solution (Some k) f (as_read S (tree_of old t))) (fun_ext m.place)

  pub none_solves : (last : Terms) (s1 : Places) → body_of old s k ts (as_read S (tree_of old t)) ≡ None → Solves last (Ok false) s1 (solve S k E U)
  none_solves last s1 e = solves_none S i k E U (sym answer_is ∙ e)

  pub fault_solves : (mid last : Terms) (s1 : Places) (y : UnifyFault) → HasBody mid (Err y) (body_of old s k ts (as_read S (tree_of old t))) (fit (as_read S (tree_of old t))) → Solves last (Err y) s1 (solve S k E U)
  unfolding read
  fault_solves mid last s1 UnifyFault.TooLarge h = solves_by S i k E U h.0.0 (sym answer_is ∙ h.0.1) Fit.TooLarge h.1
  fault_solves mid last s1 UnifyFault.TooDeep h = solves_by S i k E U h.0.0 (sym answer_is ∙ h.0.1) Fit.TooDeep h.1
  fault_solves mid last s1 UnifyFault.StepsOut h = h
  fault_solves mid last s1 UnifyFault.NoMemory h = tt

  module _ (mid : Terms) (g : Grows old mid) (h : HasStore old s) (b : TermId) (e : body_of old s k ts (as_read S (tree_of old t)) ≡ Some (tree_of mid b)) where
    pub may_be_given : MayBeGiven (store_of mid s) k (tree_of mid b)
    may_be_given =
        along (λ z. MayBeGiven z k (tree_of mid b)) (sym (store_of-grown old mid g s h))
        (body_stands S i k E U (tree_of mid b) (sym answer_is ∙ e) m.over m.done over_read done_read within_read)

    same_store : assigned S k (tree_of mid b) ≡ assigned (store_of mid s) k (tree_of mid b)
    same_store = ap (λ z. assigned z k (tree_of mid b)) (sym (store_of-grown old mid g s h))

    pub given_is_solved : (last : Terms) (s1 : Places) (r : Result Bool UnifyFault) → GivesBody last r s1 (assigned (store_of mid s) k (tree_of mid b)) → Solves last r s1 (solve S k E U)
    given_is_solved last s1 (Ok true) q = given_solves S i k E U (tree_of mid b) (sym answer_is ∙ e) m.over m.done over_read done_read within_read (store_of last s1) (same_store ∙ q)
    given_is_solved last s1 (Ok false) q = absurd q
    given_is_solved last s1 (Err UnifyFault.TooLarge) q = large_solves S i k E U (tree_of mid b) (sym answer_is ∙ e) m.over m.done over_read done_read within_read (same_store ∙ q)
    given_is_solved last s1 (Err UnifyFault.TooDeep) q = deep_solves S i k E U (tree_of mid b) (sym answer_is ∙ e) m.over m.done over_read done_read within_read (same_store ∙ q)
    given_is_solved last s1 (Err UnifyFault.StepsOut) q = absurd q
    given_is_solved last s1 (Err UnifyFault.NoMemory) q = tt

-- a store in a bank that has grown, and what was given to it then
pub gives_grown : (old mid last : Terms) → Grows old mid → (s s1 : Places) → HasStore old s → GivesOn mid last s s1 → GivesOn old last s s1
gives_grown old mid last g s s1 h d = record { has = d.has; kept = d.kept; later = along (λ z. Later z (store_of last s1)) (store_of-grown old mid g s h) d.later; more = d.more }

-- ---- a variable at its instance

pub gives_if : (old mid last : Terms) → Grows old mid → (s s1 : Places) → HasStore old s → (r : Result Bool UnifyFault) → OnOk r (GivesOn mid last s s1) → OnOk r (GivesOn old last s s1)
gives_if old mid last g s s1 h (Ok b) d = gives_grown old mid last g s s1 h d
gives_if old mid last g s s1 h (Err y) d = tt

pub never_false : (last : Terms) (s s1 : Places) (w : Result Store TreeFault) (r : Result Bool UnifyFault) → GivesBody last r s1 w → IfOk r (λ b. b ≡ false → s1 ≡ s)
never_false last s s1 w (Ok true) d = λ e. absurd (grind arith)
never_false last s s1 w (Ok false) d = absurd d
never_false last s s1 w (Err y) d = tt

pub not_variable : (bank : Terms) (node : Node) (t : TermId) → node_tree bank node ≡ tree_of bank t → ((n : ℕ) (ts : List TermId) → node ≡ Node.Evar n ts → ⊥) → is_variable (tree_of bank t) ≡ true → ⊥
unfolding is_variable
not_variable bank node t e h k = by node h (ap is_variable e ∙ k)
  where
    by : (d : Node) → ((n : ℕ) (ts : List TermId) → d ≡ Node.Evar n ts → ⊥) → is_variable (node_tree bank d) ≡ true → ⊥
    by (Node.Rel i) h1 p = grind arith
    by (Node.Var x) h1 p = grind arith
    by (Node.Sort q) h1 p = grind arith
    by (Node.Prod x a b) h1 p = grind arith
    by (Node.Lam x a b) h1 p = grind arith
    by (Node.Let x v a b) h1 p = grind arith
    by (Node.App f a) h1 p = grind arith
    by (Node.Const x) h1 p = grind arith
    by (Node.Ind x) h1 p = grind arith
    by (Node.Ctor x i) h1 p = grind arith
    by (Node.Elim x q) h1 p = grind arith
    by (Node.Evar n ts) h1 p = h1 n ts refl

entries_of_store : (bank : Terms) (s : Store) (ts : List TermId) → EachIsOver s.variables (trees_by (tree_of bank) ts) → EachWithin 0 (trees_by (tree_of bank) ts) → AllByRecursion (HasTerm bank) ts → AllByRecursion (IsOfStore bank s) ts
entries_of_store bank s [] o w h = tt
entries_of_store bank s (t ∷ ts) o w h = (record { has = h.0; over = o.0; within = w.0 }, entries_of_store bank s ts o.1 w.1 h.1)

pub open_at : (bank : Terms) (s : Store) (variable : TermId) (k : ℕ) (ts : List TermId) → IsOfStore bank s variable → HasOpenHead s.values (tree_of bank variable) → tree_of bank variable ≡ Evar k (trees_by (tree_of bank) ts) → AllByRecursion (HasTerm bank) ts →
    IsOpenAt bank s k ts
open_at bank s variable k ts v o e h =
    let over : IsOver s.variables (Evar k (trees_by (tree_of bank) ts)) = along (IsOver s.variables) e v.over in
    let within : Within 0 (Evar k (trees_by (tree_of bank) ts)) = along (Within 0) e v.within in record {
      bare = along (HasOpenHead s.values) e o;
      over = over;
      entries = entries_of_store bank s ts over.2 within h;
    }

module _ (old mid : Terms) (g : Grows old mid) (s : Places) (h : HasStore old s) (i : IsStore (store_of old s)) (k : ℕ) (ts us : List TermId) (a : IsOpenAt old (store_of old s) k ts) (x : AreExposed (store_of old s) old mid ts us) (t : TermId) (o : IsOfStore old (store_of old s) t) where
  -- the entries as read
  abbrev E : Trees
  E = filled_each (store_of old s).variables (store_of old s).values (trees_by (tree_of old) ts)

  pub variable_there : k < length s.variables
  variable_there = along (λ n. k < n) (length-map s.variables (variable_of old)) a.over.0

  pub entries_many : length (names_at (store_of mid s).variables k) ≡ length us
  entries_many =
      ap (λ z. length (names_at z.variables k)) (store_of-grown old mid g s h) ∙ sym a.over.1 ∙ ap length (entries_map old ts) ∙ length-map ts (tree_of old)
      ∙ sym (exposed_many (store_of old s) old mid ts us x)

  pub entries_meant : IsMeant mid (store_of mid s) k us E
  entries_meant =
      along (λ z. IsMeant mid z k us E) (sym (store_of-grown old mid g s h))
      (record {
        place = λ y. exposed_place (store_of old s) old mid (names_at (store_of old s).variables k) ts us y x;
        over = entries_over (store_of old s) i k (trees_by (tree_of old) ts) (tree_of old t) a.bare a.over o.over o.within;
        done = entries_done (store_of old s) i k (trees_by (tree_of old) ts) (tree_of old t) a.bare a.over o.over o.within;
      })

  pub at_solves : (last : Terms) (s1 : Places) (r : Result Bool UnifyFault) → Solves last r s1 (solve (store_of mid s) k E (read (store_of mid s) (tree_of mid t))) →
      Solves last r s1 (solved (store_of old s) (read (store_of old s) (Evar k (trees_by (tree_of old) ts))) (read (store_of old s) (tree_of old t)))
  at_solves last s1 r d =
      along (Solves last r s1)
      (ap₂ (λ z T. solve z k E (read z T)) (store_of-grown old mid g s h) (g.tree t o.has)
      ∙ sym (solved_is (store_of old s) i k (trees_by (tree_of old) ts) (tree_of old t) a.bare a.over o.over o.within)) d
