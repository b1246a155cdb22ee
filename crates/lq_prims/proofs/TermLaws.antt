-- Written terms in a row, and the variables that they made.
use Rattle.std.proofs.Common.{◌≡◌, ◌∙◌, ◌≤◌, ◌-◌, refl, sym, ap, ap₂, arith, ℕ, zero, suc, Bool, true, false, List, [], ◌∷◌, length, take, Option, Some, None}
use Rattle.std.proofs.Common.{subst as along}
use Rattle.std.specs.Prelude.{◌==◌}
use Rattle.std.proofs.lemmas.Bool.{eqb-true}
use Rattle.std.proofs.lemmas.List.{length-take-le}
use Rattle.lq_trees.specs.Tree.{Tree, Context}
use Rattle.lq_trees.specs.Ticks.{gives, fails, ◌>>=◌, done, within, ComesTo}
use Rattle.lq_calculus.specs.Declarations.{Env as Environment}
use Rattle.lq_calculus.proofs.ConvSound.{Gives}
use Rattle.lq_calculus.proofs.DeclareSound.{gives_answer}
use Rattle.lq_calculus.proofs.Comparison.{bind_same}
use Rattle.lq_ast.specs.Syntax.{Surface}
use Rattle.lq_terms.specs.declared.nodes.TermId.{TermId}
use Rattle.lq_terms.specs.Terms.{Terms, HasTerm, Grows, tree_of}
use Rattle.lq_evars.specs.Places.{Places, HasStore, store_of}
use Rattle.lq_evars.proofs.Growing.{store_of-grown}
use Rattle.lq_solving.specs.Stores.{Store, is_open, count}
use Rattle.lq_solving.specs.ElabFaults.{Elab}
use Rattle.lq_solving.specs.Elaboration.{Found, Givens, found, numbers, made_between, elaborate_call}
use Rattle.lq_typing.specs.declared.faults.ElabFault.{ElabFault}
use Rattle.lq_typing.specs.Refusals.{Refuses as ElabRefuses}
use Rattle.lq_tactics.specs.Rows.{Doing, Scene, Done, done_by, elab_work, term_of, open_of, made_open, variables_left}
use Rattle.lq_solving.specs.Kept.{StandsIn}
use Rattle.lq_solving.proofs.ElabKept.{Grown}
use Rattle.lq_solving.proofs.ElabStands.{Finds}
use Rattle.lq_tactics.specs.Primitives.{do_exact}
use Rattle.lq_tactics.proofs.RowsKept.{IsReached, AreNew}
use Rattle.lq_tactics.proofs.ApplyKept.{IsFound}
use Rattle.lq_prims.specs.declared.faults.PrimFault.{PrimFault}
use Rattle.lq_prims.specs.Making.{left_work}
use Rattle.lq_prims.specs.Scenes.{scene_by}
use Rattle.lq_prims.specs.Working.{Refuses, Does}
use Rattle.lq_prims.proofs.ElabWorks.{elab_found, elab_refused}
use Rattle.lq_prims.proofs.WorkLaws.{refuses_at_once, refuses_first, refuses_same, refuses_then, does_then, does_same, does_at_once}

-- ---- the variables that were made

numbers_length : (n a : ℕ) → length (numbers a n) ≡ n
unfolding numbers
numbers_length zero a = refl
numbers_length (suc n) a = omega (arith, numbers_length n (suc a))

open_length : (s : Store) (ks : List ℕ) → length (open_of s ks) ≤ length ks
unfolding open_of
open_length s [] = omega arith
open_length s (k ∷ ks) = by (is_open s k) (open_length s ks)
  where
    by : (b : Bool) → length (open_of s ks) ≤ length ks → length (elim b as (λ _. List ℕ) [ true ↦ k ∷ open_of s ks | false ↦ open_of s ks ]) ≤ length (k ∷ ks)
    by true h = omega (arith, h)
    by false h = omega (arith, h)

-- no more than there are variables
pub made_few : (s s1 : Store) (ks : List ℕ) → ks ≡ made_open s s1 → length ks ≤ count s1
unfolding made_open made_between
made_few s s1 ks e = omega (arith, ap length e, open_length s1 (numbers (count s) (count s1 - count s)), numbers_length (count s1 - count s) (count s))

-- a store with so many variables
pub so_many : (s : Store) (n : ℕ) → n ≤ count s → (r : Store) × (count r ≡ n)
so_many s n l = (record { variables = take n s.variables; values = [] }, length-take-le n s.variables l)

-- none is left
pub nothing_left : (s s1 : Store) (ks : List ℕ) → ks ≡ made_open s s1 → (length ks == 0) ≡ true → left_work s s1 ≡ gives tt
unfolding left_work
nothing_left s s1 ks e n = ap (λ js. elim js as (λ _. Doing (Unit {0})) [ [] ↦ gives tt | j ∷ is ↦ fails (variables_left (length (j ∷ is))) ]) (sym e ∙ no_element ks n)
  where
    no_element : (js : List ℕ) → (length js == 0) ≡ true → js ≡ []
    no_element [] f = refl
    no_element (j ∷ js) f = absurd (omega (arith, eqb-true (length (j ∷ js)) 0 f))

-- some are left
pub something_left : (bank : Terms) (s s1 : Store) (ks : List ℕ) (n : ℕ) → ks ≡ made_open s s1 → (length ks == 0) ≡ false → n ≡ length ks → (b : ℕ) → Refuses bank (PrimFault.VariablesLeft n) (λ m. left_work s s1) b b
unfolding left_work
something_left bank s s1 ks n e some l b = at ks e some l
  where
    at : (js : List ℕ) → js ≡ made_open s s1 → (length js == 0) ≡ false → n ≡ length js → Refuses bank (PrimFault.VariablesLeft n) (λ m. left_work s s1) b b
    at [] f some l = absurd cc
    at (j ∷ js) f some l =
        refuses_at_once bank (PrimFault.VariablesLeft n) (variables_left n) (left_work s s1) refl
        (ap (λ is. elim is as (λ _. Doing (Unit {0})) [ [] ↦ gives tt | i ∷ more ↦ fails (variables_left (length (i ∷ more))) ]) (sym f) ∙ ap (λ m. fails (variables_left m)) (sym l)) b

-- ---- a written term

module _ (E : Environment) (s : Store) (k : ℕ) (g : Context) (T : Tree) (vs : Givens) (t : Surface) (w : Option Tree) (hs : Context) (is : hs ≡ g) where
  called : ℕ → Elab Found
  called n = elaborate_call (record { env = E; bound = n; values = vs; outer = hs }) s t w

  term_is : (n : ℕ) → elab_work (called n) ≡ term_of (scene_by E s k g T vs n) t w
  unfolding term_of called
  term_is n = ap (λ z. elab_work (elaborate_call (record { env = E; bound = n; values = vs; outer = z }) s t w)) is

  pub term_done : (b left : ℕ) (f : Found) → ComesTo (λ n. elaborate_call (record { env = E; bound = n; values = vs; outer = hs }) s t w) b (done f left) → ComesTo (λ n. term_of (scene_by E s k g T vs n) t w) b (done f left)
  unfolding called
  term_done b left f h = λ n l. sym (ap (within b) (term_is n)) ∙ elab_found called b left f h n l

  pub term_refused : (bank : Terms) (e : ElabFault) (b left : ℕ) → ElabRefuses bank e (λ n. elaborate_call (record { env = E; bound = n; values = vs; outer = hs }) s t w) b left →
      Refuses bank (PrimFault.Elab e) (λ n. term_of (scene_by E s k g T vs n) t w) b left
  unfolding called
  term_refused bank e b left h = refuses_same bank (PrimFault.Elab e) (λ n. elab_work (called n)) (λ n. term_of (scene_by E s k g T vs n) t w) b left term_is (elab_refused bank e called b left h)

-- ---- `exact`

module _ (E : Environment) (s : Store) (k : ℕ) (g : Context) (T : Tree) (vs : Givens) (t : Surface) where
  abbrev c : ℕ → Scene
  c n = scene_by E s k g T vs n

  abbrev found_work : ℕ → Doing Found
  found_work n = term_of (c n) t (Some T)

  abbrev then_left : Found → ℕ → Doing Done
  then_left f n = left_work s f.store >>= λ u. gives (done_by f.store f.term [])

  exact_is : (n : ℕ) → (found_work n >>= λ f. then_left f n) ≡ do_exact (c n) t
  unfolding do_exact left_work ◌>>=◌
  exact_is n = bind_same (found_work n) (λ f. then_left f n) rest same
    where
      rest : Found → Doing Done
      rest f = elim (made_open s f.store) as (λ _. Doing Done) [ [] ↦ gives (done_by f.store f.term []) | j ∷ js ↦ fails (variables_left (length (j ∷ js))) ]

      by : (f : Found) (js : List ℕ) → (elim js as (λ _. Doing (Unit {0})) [ [] ↦ gives tt | i ∷ more ↦ fails (variables_left (length (i ∷ more))) ] >>= λ u. gives (done_by f.store f.term []))
          ≡ elim js as (λ _. Doing Done) [ [] ↦ gives (done_by f.store f.term []) | i ∷ more ↦ fails (variables_left (length (i ∷ more))) ]
      by f [] = refl
      by f (j ∷ js) = refl

      same : (f : Found) → then_left f n ≡ rest f
      same f = by f (made_open s f.store)

  pub exact_refused : (bank : Terms) (e : PrimFault) (b left : ℕ) → Refuses bank e found_work b left → Refuses bank e (λ n. do_exact (c n) t) b left
  exact_refused bank e b left h = refuses_same bank e (λ n. found_work n >>= λ f. then_left f n) (λ n. do_exact (c n) t) b left exact_is (refuses_first bank e found_work then_left b left h)

  module _ (b l : ℕ) (f : Found) (h : ComesTo found_work b (done f l)) where
    pub exact_open : (bank : Terms) (e : PrimFault) → ((a : ℕ) → Refuses bank e (λ n. left_work s f.store) a a) → Refuses bank e (λ n. do_exact (c n) t) b l
    exact_open bank e r =
        refuses_same bank e (λ n. found_work n >>= λ x. then_left x n) (λ n. do_exact (c n) t) b l exact_is
        (refuses_then bank e found_work then_left b l l f h (refuses_first bank e (λ n. left_work s f.store) (λ u n. gives (done_by f.store f.term [])) l l (r l)))

    pub exact_done : (bank : Terms) {X : Type 0} (tell : X → Done) (x : X) → left_work s f.store ≡ gives tt → tell x ≡ done_by f.store f.term [] → Does bank tell (Rattle.std.proofs.Common.Ok x) (λ n. do_exact (c n) t) b l
    unfolding ◌>>=◌
    exact_done bank tell x w e =
        does_same bank tell (Rattle.std.proofs.Common.Ok x) (λ n. found_work n >>= λ y. then_left y n) (λ n. do_exact (c n) t) b l exact_is
        (does_then bank tell (Rattle.std.proofs.Common.Ok x) found_work then_left b l l f h
        (does_at_once bank tell (Rattle.std.proofs.Common.Ok x) (then_left f 0) (ap (λ z. z >>= λ u. gives (done_by f.store f.term [])) w ∙ ap gives (sym e)) l))

-- a term is found as it was elaborated
pub found_once : (c : Scene) (t : Surface) (w : Option Tree) (f : Found) → Gives (term_of c t w) f → Finds c.store c.context f → IsFound c t w
found_once c t w f y h x z = along (Finds c.store c.context) (same (sym (gives_answer (term_of c t w) f y) ∙ gives_answer (term_of c t w) x z)) h
  where
    same : Some f ≡ Some x → f ≡ x
    same e = ap (λ o. elim o as (λ _. Found) [ Some y ↦ y | None ↦ f ]) e

-- what a row reaches looks at the scene's store and context alone
pub reached_any : (c d : Scene) (e : Done) → c.store ≡ d.store → c.context ≡ d.context → IsReached c e → IsReached d e
reached_any c d e f g r = record {
  grown = along (λ z. Grown z e.store) f r.grown;
  body = along (λ z. StandsIn e.store z e.body) g r.body;
  goals = along (λ z. AreNew z e.store e.goals) f r.goals;
}

-- what was found, in a bank that has grown
pub found_as : (mid new : Terms) → Grows mid new → (s : Places) → HasStore mid s → (t A : TermId) → HasTerm mid t → HasTerm mid A →
    found (store_of new s) (tree_of new t) (tree_of new A) ≡ found (store_of mid s) (tree_of mid t) (tree_of mid A)
found_as mid new g s h t A has k = ap (λ z. found z (tree_of new t) (tree_of new A)) (store_of-grown mid new g s h) ∙ ap₂ (λ u B. found (store_of mid s) u B) (g.tree t has) (g.tree A k)
