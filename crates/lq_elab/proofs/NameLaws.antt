-- What names stand for, as elaboration finds them.
use Rattle.std.proofs.Common.{◌≡◌, ◌<◌, ◌≤◌, ◌-◌, ◌+◌, ◌∙◌, ℕ, zero, suc, refl, sym, ap, arith, Bool, true, false, ◌&&◌, ◌||◌, List, [], ◌∷◌, length, get_or, drop, Option, None, Some, Result, Ok, Err, IfOk}
use Rattle.std.proofs.Common.{subst as along}
use Rattle.std.specs.Prelude.{not, eqb, ◌==◌, if◌then◌else◌}
use Rattle.std.proofs.lemmas.List.{drop_more, drop_all}
use Rattle.indexmap.specs.IndexMap.{insert_entry}
use Rattle.lq_trees.specs.Tree.{Name, Tree, Trees, Hypothesis as TreeHypothesis, none, more, same_name, value_of}
use Rattle.lq_trees.specs.Tree.Tree.{Rel, Var, Sort, Prod, Lam, Let, App, Const, Ind, Ctor, Elim, Evar}
use Rattle.lq_trees.specs.Fresh.{is_listed}
use Rattle.lq_trees.specs.Hypotheses.{HoldsOnly, EachHoldsOnly}
use Rattle.lq_trees.specs.Ticks.{gives, fails, ◌>>=◌, done, ComesTo}
use Rattle.lq_trees.proofs.Outcomes.{comes_then, comes_gives}
use Rattle.lq_calculus.specs.Contraction.{hypothesis}
use Rattle.lq_calculus.specs.Declarations.{lookup}
use Rattle.lq_terms.specs.declared.nodes.Hypothesis.{Hypothesis}
use Rattle.lq_terms.specs.declared.nodes.NameId.{NameId}
use Rattle.lq_terms.specs.declared.nodes.TermId.{TermId}
use Rattle.lq_terms.specs.Terms.{Terms, HasName, HasTerm, text_of, tree_of}
use Rattle.lq_terms.specs.Contexts.{HasContext, context_of}
use Rattle.lq_solving.specs.Occurs.{only_names, only_names_in}
use Rattle.lq_solving.specs.Stores.{Variable, Store, names_in, read}
use Rattle.lq_solving.specs.Kept.{IsOver, EachIsOver, IsStore}
use Rattle.lq_solving.specs.ElabFaults.{Elab, unknown, not_a_term, type_of}
use Rattle.lq_solving.specs.Elaboration.{Given, given_term, given_name, given_other, Site, Found, found, name_found, value_found, entry_found}
use Rattle.lq_solving.proofs.ElabSettled.{at}
use Rattle.lq_solving.proofs.FreeLaws.{and_both}
use Rattle.lq_solving.proofs.InstanceLaws.{same_flip}
use Rattle.lq_solving.proofs.ReadLaws.{filled_over}
use Rattle.lq_evars.specs.Reading.{as_read}
use Rattle.lq_unify.specs.Held.{holds_any, hold_any, is_absent}
use Rattle.lq_unify.specs.Holding.{has_no_place}
use Rattle.lq_unify.specs.Solutions.{places_of, HasPlaces}
use Rattle.lq_unify.proofs.PlaceLaws.{NamesApart}
use Rattle.lq_unify.proofs.GivenLaws.{inserted, inserted_has}
use Rattle.lq_typing.specs.declared.faults.ElabFault.{ElabFault}
use Rattle.lq_typing.specs.Refusals.{Refuses}
use Rattle.lq_elab.specs.Waiting.{Spot}
use Rattle.lq_elab.specs.Naming.{Meaning, variable, term, nothing, no_term, meaning_of_name, meaning_of_value, meaning_if, value_or, outer_meaning, bound_or, meaning, meant}
use Rattle.lq_elab.proofs.AnswerLaws.{refuses_first, refuses_same}
use Rattle.lq_elab.proofs.GoingLaws.{comes_same}
use Rattle.lq_elab.proofs.NamingLaws.{name_meant}

-- ---- what a name stands for

module _ (e : Site) (l : Spot) (s : Store) (x : Name) where
  -- the bound does not count
  meaning_at : (n : ℕ) → meaning (at n e) l x ≡ meaning e l x
  unfolding meaning outer_meaning
  meaning_at n = refl

  by_meaning : (o : Option Meaning) → o ≡ meaning e l x → (n : ℕ) → name_found (at n e) l.binders l.context s x ≡ meant (at n e) s x o
  by_meaning o q n = name_meant (at n e) l s x ∙ ap (meant (at n e) s x) (meaning_at n ∙ sym q)

  pub variable_meant : (y : Name) (K : Tree) → Some (variable y K) ≡ meaning e l x → (n : ℕ) → name_found (at n e) l.binders l.context s x ≡ gives (found s (Var y) K)
  unfolding meant
  variable_meant y K q n = by_meaning (Some (variable y K)) q n

  pub term_meant : (t : Tree) → Some (term t) ≡ meaning e l x → (n : ℕ) → name_found (at n e) l.binders l.context s x ≡ value_found (at n e) s x (given_term t)
  unfolding meant
  term_meant t q n = by_meaning (Some (term t)) q n

  pub nothing_meant : Some nothing ≡ meaning e l x → (n : ℕ) → name_found (at n e) l.binders l.context s x ≡ fails (unknown x)
  unfolding meant
  nothing_meant q n = by_meaning (Some nothing) q n

  pub no_term_meant : Some no_term ≡ meaning e l x → (n : ℕ) → name_found (at n e) l.binders l.context s x ≡ fails (not_a_term x)
  unfolding meant
  no_term_meant q n = by_meaning (Some no_term) q n

  pub global_meant : None ≡ meaning e l x → (n : ℕ) → name_found (at n e) l.binders l.context s x ≡ entry_found (at n e) s x (lookup e.env x)
  unfolding meant
  global_meant q n = by_meaning None q n

  -- a term is an Ltac value
  no_hypothesis : (t : Tree) (h : Option TreeHypothesis) → Some (term t) ≡ Some (meaning_of_name h) → ⊥
  unfolding meaning_of_name
  no_hypothesis t (Some h) q = grind (arith, q)
  no_hypothesis t None q = grind (arith, q)

  term_is : (t u : Tree) → Some (term t) ≡ Some (term u) → u ≡ t
  term_is t u q = grind (arith, q)

  pub value_meant : (t : Tree) → Some (term t) ≡ meaning e l x → value_of e.values x ≡ Some (given_term t)
  unfolding meaning outer_meaning bound_or value_or meaning_if meaning_of_value
  value_meant t q = at_binder (value_of l.binders x) q
    where
      other : (h : Option TreeHypothesis) → Some (term t) ≡ meaning_if h → ⊥
      other (Some h) k = grind (arith, k)
      other None k = grind (arith, k)

      at_value : (v : Option Given) → value_of e.values x ≡ v → Some (term t) ≡ value_or e.outer v (hypothesis e.outer x) → value_of e.values x ≡ Some (given_term t)
      at_value (Some (given_term u)) r k = r ∙ ap (λ z. Some (given_term z)) (term_is t u k)
      at_value (Some (given_name y)) r k = absurd (no_hypothesis t (hypothesis e.outer y) k)
      at_value (Some given_other) r k = absurd (grind (arith, k))
      at_value None r k = absurd (other (hypothesis e.outer x) k)

      at_binder : (o : Option Name) → Some (term t) ≡ bound_or l.context o (outer_meaning e x) → value_of e.values x ≡ Some (given_term t)
      at_binder (Some y) k = absurd (no_hypothesis t (hypothesis l.context y) k)
      at_binder None k = at_value (value_of e.values x) refl k

-- ---- terms that are Ltac values

module _ (e : Site) (s : Store) (x : Name) (t : Tree) where
  known_value : only_names (names_in e.outer) (read s t) ≡ true → (n : ℕ) → value_found (at n e) s x (given_term t) ≡ (type_of e.env n s e.outer t >>= (λ A. gives (found s t A)))
  unfolding value_found
  known_value q n = ap (λ o. elim o as (λ _. Elab Found) [ false ↦ fails (unknown x) | true ↦ type_of e.env n s e.outer t >>= λ A. gives (found s t A) ]) q

  pub strange_value : only_names (names_in e.outer) (read s t) ≡ false → (n : ℕ) → value_found (at n e) s x (given_term t) ≡ fails (unknown x)
  unfolding value_found
  strange_value q n = ap (λ o. elim o as (λ _. Elab Found) [ false ↦ fails (unknown x) | true ↦ type_of e.env n s e.outer t >>= λ A. gives (found s t A) ]) q

  pub value_comes : (K : Tree) (b l : ℕ) → only_names (names_in e.outer) (read s t) ≡ true → ComesTo (λ n. type_of e.env n s e.outer t) b (done K l) → ComesTo (λ n. value_found (at n e) s x (given_term t)) b (done (found s t K) l)
  value_comes K b l q h =
      comes_same (λ n. value_found (at n e) s x (given_term t)) (λ n. type_of e.env n s e.outer t >>= (λ A. gives (found s t A))) b (done (found s t K) l) (known_value q)
      (comes_then (λ n. type_of e.env n s e.outer t) (λ A n. gives (found s t A)) b K l (done (found s t K) l) h (comes_gives (λ n. gives (found s t K)) (found s t K) l (λ n. refl)))

  pub value_refuses : (bank : Terms) (f : ElabFault) (b l : ℕ) → only_names (names_in e.outer) (read s t) ≡ true → Refuses bank f (λ n. type_of e.env n s e.outer t) b l → Refuses bank f (λ n. value_found (at n e) s x (given_term t)) b l
  value_refuses bank f b l q h =
      refuses_same bank (λ n. type_of e.env n s e.outer t >>= (λ A. gives (found s t A))) (λ n. value_found (at n e) s x (given_term t)) b l (known_value q) f
      (refuses_first bank (λ n. type_of e.env n s e.outer t) (λ A n. gives (found s t A)) b l f h)

-- ---- which hypotheses a term holds

not_not : (a : Bool) → not (not a) ≡ a
not_not true = refl
not_not false = refl

both_not : (a b c d : Bool) → a ≡ not c → b ≡ not d → (a && b) ≡ not (c || d)
both_not true true false false p q = refl
both_not true true false true p q = absurd (grind (arith, q))
both_not true true true d p q = absurd (grind (arith, p))
both_not true false false true p q = refl
both_not true false false false p q = absurd (grind (arith, q))
both_not true false true d p q = absurd (grind (arith, p))
both_not false b true d p q = refl
both_not false b false d p q = absurd (grind (arith, p))

other_number : (k n m : ℕ) → n < m → m ≤ k → eqb k n ≡ false
other_number k n m l h = grind (arith, l, h)

module _ (vs : List Variable) (xs : List Name) (k : ℕ) (m : Name → Bool) (many : length vs ≤ k) (marks : (x : Name) → m x ≡ not (is_listed xs x)) where
  mutual
    unfolding only_names only_names_in holds_any hold_any

    pub only_held : (t : Tree) → IsOver vs t → only_names xs t ≡ not (holds_any k m t)
    only_held (Rel i) h = refl
    only_held (Var x) h = sym (not_not (is_listed xs x)) ∙ ap not (sym (marks x))
    only_held (Sort u) h = refl
    only_held (Prod x A B) h = both_not (only_names xs A) (only_names xs B) (holds_any k m A) (holds_any k m B) (only_held A h.0) (only_held B h.1)
    only_held (Lam x A B) h = both_not (only_names xs A) (only_names xs B) (holds_any k m A) (holds_any k m B) (only_held A h.0) (only_held B h.1)
    only_held (Let x v A B) h =
        both_not (only_names xs v && only_names xs A) (only_names xs B) (holds_any k m v || holds_any k m A) (holds_any k m B)
        (both_not (only_names xs v) (only_names xs A) (holds_any k m v) (holds_any k m A) (only_held v h.0) (only_held A h.1)) (only_held B h.2)
    only_held (App f a) h = both_not (only_names xs f) (only_names xs a) (holds_any k m f) (holds_any k m a) (only_held f h.0) (only_held a h.1)
    only_held (Const c) h = refl
    only_held (Ind c) h = refl
    only_held (Ctor c i) h = refl
    only_held (Elim c u) h = refl
    only_held (Evar n ts) h = each_only_held ts h.2 ∙ ap (λ b. not (b || hold_any k m ts)) (sym (other_number k n (length vs) h.0 many))

    pub each_only_held : (ts : Trees) → EachIsOver vs ts → only_names_in xs ts ≡ not (hold_any k m ts)
    each_only_held none h = refl
    each_only_held (more t ts) h = both_not (only_names xs t) (only_names_in xs ts) (holds_any k m t) (hold_any k m ts) (only_held t h.0) (each_only_held ts h.1)

-- of a term as it reads
pub read_held : (s : Store) → IsStore s → (xs : List Name) (k : ℕ) (m : Name → Bool) → length s.variables ≤ k → ((x : Name) → m x ≡ not (is_listed xs x)) → (t : Tree) → IsOver s.variables t → (b : Bool) → b ≡ holds_any k m (as_read s t) →
    only_names xs (read s t) ≡ not b
unfolding read
read_held s i xs k m many marks t over b q =
    only_held s.variables xs k m many marks (as_read s t) (filled_over s.variables s.values i.values t over) ∙ ap not (sym q)

pub strange_by : (E : Type 0) (s : Store) → IsStore s → (xs : List Name) (k : ℕ) (m : Name → Bool) → length s.variables ≤ k → ((x : Name) → m x ≡ not (is_listed xs x)) → (t : Tree) → IsOver s.variables t → (q : Result Bool E) → IfOk q (λ b. b ≡ holds_any k m (as_read s t)) →
    IfOk q (λ b. only_names xs (read s t) ≡ not b)
strange_by E s i xs k m many marks t over (Ok b) h = read_held s i xs k m many marks t over b h
strange_by E s i xs k m many marks t over (Err y) h = tt

mutual
  unfolding only_names only_names_in

  pub only_holds : (xs : List Name) → (t : Tree) → only_names xs t ≡ true → HoldsOnly xs t
  only_holds xs (Rel i) e = tt
  only_holds xs (Var x) e = e
  only_holds xs (Sort u) e = tt
  only_holds xs (Prod x A B) e = let q = and_both (only_names xs A) (only_names xs B) e in (only_holds xs A q.0, only_holds xs B q.1)
  only_holds xs (Lam x A t) e = let q = and_both (only_names xs A) (only_names xs t) e in (only_holds xs A q.0, only_holds xs t q.1)
  only_holds xs (Let x v A t) e =
      let r = and_both (only_names xs v && only_names xs A) (only_names xs t) e in
      let q = and_both (only_names xs v) (only_names xs A) r.0 in
      (only_holds xs v q.0, only_holds xs A q.1, only_holds xs t r.1)
  only_holds xs (App f a) e = let q = and_both (only_names xs f) (only_names xs a) e in (only_holds xs f q.0, only_holds xs a q.1)
  only_holds xs (Const c) e = tt
  only_holds xs (Ind c) e = tt
  only_holds xs (Ctor c k) e = tt
  only_holds xs (Elim c u) e = tt
  only_holds xs (Evar n ts) e = each_only_holds xs ts e

  each_only_holds : (xs : List Name) → (ts : Trees) → only_names_in xs ts ≡ true → EachHoldsOnly xs ts
  each_only_holds xs none e = tt
  each_only_holds xs (more t ts) e = let q = and_both (only_names xs t) (only_names_in xs ts) e in (only_holds xs t q.0, each_only_holds xs ts q.1)

-- ---- the hypotheses of a context, by a map

context_has : (bank : Terms) (hs : List Hypothesis) → HasContext bank hs → (i : ℕ) (d : Hypothesis) → i < length hs → HasName bank (get_or hs i d).name × HasTerm bank (get_or hs i d).kind
context_has bank [] h i d l = absurd (omega (arith, l))
context_has bank (y ∷ hs) h zero d l = (h.0.name, h.0.kind)
context_has bank (y ∷ hs) h (suc i) d l = context_has bank hs h.1 i d (omega (arith, l))

-- the map has the hypotheses from number i on
abbrev pub HasFrom : Terms → List Hypothesis → List (NameId × TermId) → ℕ → Type 0
HasFrom bank hs es i = (x : Name) → has_no_place (places_of bank es) x ≡ not (is_listed (names_in (context_of bank (drop i hs))) x)

module _ (bank : Terms) (hs : List Hypothesis) where
  pub none_from : HasFrom bank hs [] (length hs)
  unfolding is_absent is_listed
  none_from x = ap (λ ks. not (is_listed (names_in (context_of bank ks)) x)) (sym (drop_all (length hs) hs (omega arith)))

  one_from : (x y : Name) (v : Tree) (ys : List Name) (o : Option Tree) → is_absent o ≡ not (is_listed ys x) → is_absent (if same_name x y then Some v else o) ≡ not (is_listed (y ∷ ys) x)
  unfolding is_absent is_listed
  one_from x y v ys o h = either (same_name x y) (same_name y x) (same_flip x y)
    where
      either : (b c : Bool) → b ≡ c → is_absent (if b then Some v else o) ≡ not (c || is_listed ys x)
      either true true q = refl
      either false false q = h
      either true false q = absurd (grind (arith, q))
      either false true q = absurd (grind (arith, q))

  module _ (context : HasContext bank hs) (apart : NamesApart bank) (eq : NameId → NameId → Bool) (is_place : (x y : NameId) → eq x y ≡ (x.place == y.place)) (old new : List (NameId × TermId)) (i : ℕ) (d : Hypothesis) (some : 0 < i) (within : i ≤ length hs) (has : HasPlaces bank old)
      (put_on : new ≡ insert_entry eq old (get_or hs (i - 1) d).name (get_or hs (i - 1) d).kind) where
    one : HasName bank (get_or hs (i - 1) d).name × HasTerm bank (get_or hs (i - 1) d).kind
    one = context_has bank hs context (i - 1) d (omega (arith, some, within))

    pub places_more : HasFrom bank hs old i → HasFrom bank hs new (i - 1)
    places_more h x =
        ap (λ es. has_no_place (places_of bank es) x) put_on
        ∙ ap is_absent (inserted bank apart eq is_place old (get_or hs (i - 1) d).name (get_or hs (i - 1) d).kind x has one.0)
        ∙ one_from x (text_of bank (get_or hs (i - 1) d).name) (tree_of bank (get_or hs (i - 1) d).kind) (names_in (context_of bank (drop i hs))) (value_of (places_of bank old) x) (h x)
        ∙ ap (λ ks. not (is_listed (names_in (context_of bank ks)) x)) (sym (drop_more hs (i - 1) d (omega (arith, some, within)) ∙ ap (λ j. get_or hs (i - 1) d ∷ drop j hs) back))
      where
        back : i - 1 + 1 ≡ i
        back = omega (arith, some)

    pub places_have : HasPlaces bank new
    places_have = along (HasPlaces bank) (sym put_on) (inserted_has bank apart eq is_place old (get_or hs (i - 1) d).name (get_or hs (i - 1) d).kind has one.0 one.1)
