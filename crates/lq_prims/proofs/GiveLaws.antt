-- What giving a goal its body comes to.
use Rattle.std.proofs.Common.{◌≡◌, ◌<◌, ℕ, refl, sym, ◌∙◌, ap, arith, Bool, true, false, ◌||◌, List, Option, Some, None, Result, Ok, Err, IsErrAnd}
use Rattle.std.proofs.Common.{subst as along}
use Rattle.std.proofs.lemmas.Result.{err_from_is_err_and}
use Rattle.std.specs.Prelude.{is_some, option_map}
use Rattle.lq_trees.specs.Tree.{Tree}
use Rattle.lq_trees.specs.Hypotheses.{HoldsOnly}
use Rattle.lq_trees.specs.Ticks.{gives, fails, ◌>>=◌}
use Rattle.lq_terms.specs.declared.nodes.TermId.{TermId}
use Rattle.lq_terms.specs.Terms.{Terms, tree_of}
use Rattle.lq_solving.specs.Occurs.{holds_variable}
use Rattle.lq_solving.specs.Stores.{Store, StoreFault as TreeFault, names_at, find_value, value, has_value, count, read, size_fault, read_fitting, assigned, with_value, read_too_large, read_too_deep}
use Rattle.lq_solving.specs.Kept.{Stands, IsStore}
use Rattle.lq_solving.proofs.StoreLaws.{MayBeGiven}
use Rattle.lq_solving.proofs.DoneLaws.{done_reads, done_leads}
use Rattle.lq_solving.proofs.Good.{good_done, good_over, good_within}
use Rattle.lq_solving.proofs.Later.{good_read}
use Rattle.lq_evars.specs.declared.store.StoreFault.{StoreFault}
use Rattle.lq_evars.specs.Places.{Places, store_of}
use Rattle.lq_evars.specs.Reading.{Answers, Gives}
use Rattle.lq_tactics.specs.Rows.{by_store_call, Doing, Step, done_by, needed, given_to}
use Rattle.lq_prims.specs.declared.faults.PrimFault.{PrimFault}
use Rattle.lq_prims.specs.Refusals.{store_refusal}
use Rattle.lq_prims.specs.Working.{Refuses, Tells}
use Rattle.lq_prims.specs.Scenes.{step_by}
use Rattle.lq_prims.proofs.WorkLaws.{refuses_at_once, no_memory}

-- a term that fits as it reads is as it reads
pub reads_is : (s : Store) (t u : Tree) → read_fitting s t ≡ Ok u → (size_fault (read s t) ≡ None) × (read s t ≡ u)
unfolding read_fitting
reads_is s t u e = at (size_fault (read s t)) refl e
  where
    at : (o : Option TreeFault) → size_fault (read s t) ≡ o → elim o as (λ z. Result Tree TreeFault) [ None ↦ Ok (read s t) | Some f ↦ Err f ] ≡ Ok u → (size_fault (read s t) ≡ None) × (read s t ≡ u)
    at None p q = (p, ap (λ z. elim z as (λ w. Tree) [ Ok w ↦ w | Err f ↦ u ]) q)
    at (Some f) p q = absurd (grind (arith, q))

pub reads_not : (s : Store) (t : Tree) (f : TreeFault) → read_fitting s t ≡ Err f → size_fault (read s t) ≡ Some f
unfolding read_fitting
reads_not s t f e = at (size_fault (read s t)) refl e
  where
    at : (o : Option TreeFault) → size_fault (read s t) ≡ o → elim o as (λ z. Result Tree TreeFault) [ None ↦ Ok (read s t) | Some g ↦ Err g ] ≡ Err f → size_fault (read s t) ≡ Some f
    at None p q = absurd (grind (arith, q))
    at (Some g) p q = p ∙ ap (λ z. elim z as (λ w. Option TreeFault) [ Ok w ↦ None | Err h ↦ Some h ]) q

-- the body passes a limit
limit_fails : (s : Store) (k : ℕ) (t : Tree) (ks : List ℕ) (f : TreeFault) → read_fitting s t ≡ Err f → given_to k (done_by s t ks) ≡ fails (by_store_call f)
unfolding given_to needed ◌>>=◌
limit_fails s k t ks f e =
    ap (λ o. (elim o as (λ z. Doing Tree) [ None ↦ gives (read s t) | Some g ↦ fails (by_store_call g) ]) >>= λ b.
    elim (has_value s k || holds_variable k b) as (λ z. Doing Step) [ true ↦ fails (by_store_call read_too_large) | false ↦ gives (record { store = with_value s k b; goals = ks }) ]) (reads_not s t f e)

-- the body fits
fits_goes : (s : Store) (k : ℕ) (t u : Tree) (ks : List ℕ) → read_fitting s t ≡ Ok u →
    given_to k (done_by s t ks) ≡ elim (has_value s k || holds_variable k u) as (λ z. Doing Step) [ true ↦ fails (by_store_call read_too_large) | false ↦ gives (record { store = with_value s k u; goals = ks }) ]
unfolding given_to needed ◌>>=◌
fits_goes s k t u ks e =
    let q = reads_is s t u e in
    ap (λ o. (elim o as (λ z. Doing Tree) [ None ↦ gives (read s t) | Some g ↦ fails (by_store_call g) ]) >>= λ b.
    elim (has_value s k || holds_variable k b) as (λ z. Doing Step) [ true ↦ fails (by_store_call read_too_large) | false ↦ gives (record { store = with_value s k b; goals = ks }) ]) q.0
    ∙ ap (λ b. elim (has_value s k || holds_variable k b) as (λ z. Doing Step) [ true ↦ fails (by_store_call read_too_large) | false ↦ gives (record { store = with_value s k b; goals = ks }) ]) q.1

-- ---- what the call answers

pub read_refused : (bank new : Terms) (p : Places) (s : Store) (k : ℕ) (t : Tree) (f : StoreFault) (r : Result (Unit {0}) PrimFault) → IsErrAnd r (λ y. y ≡ store_refusal f) → Answers bank (Err f) (read_fitting s t) →
    (ks : List ℕ) → Tells bank (λ u. step_by (store_of new p) ks) r (given_to k (done_by s t ks))
read_refused bank new p s k t f r e a ks =
    let q = err_from_is_err_and r e in along (λ z. Tells bank (λ u. step_by (store_of new p) ks) z (given_to k (done_by s t ks))) (sym (q.1 ∙ ap Err q.2)) (at f a)
  where
    at : (g : StoreFault) → Answers bank (Err g) (read_fitting s t) → (b : ℕ) → Refuses bank (store_refusal g) (λ n. given_to k (done_by s t ks)) b b
    at StoreFault.TooLarge h b = refuses_at_once bank (store_refusal StoreFault.TooLarge) (by_store_call read_too_large) (given_to k (done_by s t ks)) refl (limit_fails s k t ks read_too_large h) b
    at StoreFault.TooDeep h b = refuses_at_once bank (store_refusal StoreFault.TooDeep) (by_store_call read_too_deep) (given_to k (done_by s t ks)) refl (limit_fails s k t ks read_too_deep h) b
    at StoreFault.Full h b = absurd h
    at StoreFault.NoMemory h b = no_memory bank (λ n. given_to k (done_by s t ks)) b b

pub too_large : (bank : Terms) (s : Store) (k : ℕ) (t u : Tree) → read_fitting s t ≡ Ok u → (has_value s k || holds_variable k u) ≡ true → (ks : List ℕ) (b : ℕ) →
    Refuses bank (PrimFault.Store StoreFault.TooLarge) (λ n. given_to k (done_by s t ks)) b b
too_large bank s k t u e h ks b =
    refuses_at_once bank (PrimFault.Store StoreFault.TooLarge) (by_store_call read_too_large) (given_to k (done_by s t ks)) refl
    (fits_goes s k t u ks e ∙ ap (λ b. elim b as (λ z. Doing Step) [ true ↦ fails (by_store_call read_too_large) | false ↦ gives (record { store = with_value s k u; goals = ks }) ]) h) b

pub left_true : (a b : Bool) → a ≡ true → (a || b) ≡ true
left_true a b e = ap (λ z. z || b) e

pub right_true : (a b : Bool) → b ≡ true → (a || b) ≡ true
right_true true b e = refl
right_true false b e = e

pub both_false : (a b : Bool) → a ≡ false → b ≡ false → (a || b) ≡ false
both_false a b e f = ap (λ z. z || b) e ∙ f

-- whether there is a value
pub value_is : (bank : Terms) (s : Store) (k : ℕ) (o : Option TermId) → option_map (tree_of bank) o ≡ value s k → has_value s k ≡ is_some o
unfolding has_value
value_is bank s k None e = ap (λ z. elim z as (λ w. Bool) [ Some b ↦ true | None ↦ false ]) (sym e)
value_is bank s k (Some t) e = ap (λ z. elim z as (λ w. Bool) [ Some b ↦ true | None ↦ false ]) (sym e)

no_value : (s : Store) (k : ℕ) → has_value s k ≡ false → find_value s.values k ≡ None
unfolding has_value value
no_value s k e = at (find_value s.values k) e
  where
    at : (o : Option Tree) → elim o as (λ z. Bool) [ Some b ↦ true | None ↦ false ] ≡ false → o ≡ None
    at None f = refl
    at (Some b) f = absurd (grind (arith, f))

-- the body as it reads may be given
pub body_value : (s : Store) (k : ℕ) (t u : Tree) → IsStore s → k < count s → Stands s (names_at s.variables k) t → read_fitting s t ≡ Ok u → has_value s k ≡ false → holds_variable k u ≡ false → MayBeGiven s k u
unfolding read
body_value s k t u i l h f v e =
    let is = (reads_is s t u f).1 in
    let xs = names_at s.variables k in
    let good = good_read s i xs t h in
    let done = good_done s.variables s.values xs 0 (read s t) good in
    along (MayBeGiven s k) is (record {
      inside = l;
      new = no_value s k v;
      free = done_leads s.values k (read s t) done (ap (holds_variable k) is ∙ e);
      over = good_over s.variables s.values xs 0 (read s t) good;
      within = good_within s.variables s.values xs 0 (read s t) good;
      holds = along (HoldsOnly xs) (sym (done_reads s.variables s.values (read s t) done)) h.holds;
    })

-- a body that is as it reads fits as it reads
again : (s : Store) (t u : Tree) → IsStore s → (k : ℕ) → Stands s (names_at s.variables k) t → read_fitting s t ≡ Ok u → size_fault (read s u) ≡ None
unfolding read
again s t u i k h f =
    let q = reads_is s t u f in
    let good = good_read s i (names_at s.variables k) t h in
    along (λ z. size_fault (read s z) ≡ None) q.1
    (ap size_fault (done_reads s.variables s.values (read s t) (good_done s.variables s.values (names_at s.variables k) 0 (read s t) good)) ∙ q.0)

given_fits : (s : Store) (k : ℕ) (u : Tree) → size_fault (read s u) ≡ None → assigned s k u ≡ Ok (with_value s k u)
unfolding assigned
given_fits s k u e = ap (λ o. elim o as (λ z. Result Store TreeFault) [ None ↦ Ok (with_value s k u) | Some f ↦ Err f ]) e

pub assign_refused : (bank new : Terms) (p : Places) (s : Store) (k : ℕ) (t u : Tree) (f : StoreFault) (r : Result (Unit {0}) PrimFault) → IsStore s → Stands s (names_at s.variables k) t → read_fitting s t ≡ Ok u →
    IsErrAnd r (λ y. y ≡ store_refusal f) → Gives bank (Err f) p (assigned s k u) → (ks : List ℕ) → Tells bank (λ u. step_by (store_of new p) ks) r (given_to k (done_by s t ks))
assign_refused bank new p s k t u f r i h e a g ks =
    let q = err_from_is_err_and r a in along (λ z. Tells bank (λ u. step_by (store_of new p) ks) z (given_to k (done_by s t ks))) (sym (q.1 ∙ ap Err q.2)) (at f g)
  where
    not : (w : TreeFault) → assigned s k u ≡ Err w → ⊥
    not w z = grind (arith, sym (given_fits s k u (again s t u i k h e)) ∙ z)

    at : (w : StoreFault) → Gives bank (Err w) p (assigned s k u) → (b : ℕ) → Refuses bank (store_refusal w) (λ n. given_to k (done_by s t ks)) b b
    at StoreFault.TooLarge z b = absurd (not read_too_large z)
    at StoreFault.TooDeep z b = absurd (not read_too_deep z)
    at StoreFault.Full z b = absurd z
    at StoreFault.NoMemory z b = no_memory bank (λ n. given_to k (done_by s t ks)) b b

pub assign_given : (s new : Store) (k : ℕ) (t u : Tree) → IsStore s → Stands s (names_at s.variables k) t → read_fitting s t ≡ Ok u → has_value s k ≡ false → holds_variable k u ≡ false → assigned s k u ≡ Ok new → (ks : List ℕ) →
    given_to k (done_by s t ks) ≡ gives (record { store = new; goals = ks })
assign_given s new k t u i h e v w a ks =
    fits_goes s k t u ks e ∙ ap (λ b. elim b as (λ z. Doing Step) [ true ↦ fails (by_store_call read_too_large) | false ↦ gives (record { store = with_value s k u; goals = ks }) ]) (both_false (has_value s k) (holds_variable k u) v w)
    ∙ ap (λ z. gives (record { store = z; goals = ks })) same
  where
    same : with_value s k u ≡ new
    same = ap (λ z. elim z as (λ y. Store) [ Ok y ↦ y | Err f ↦ new ]) (sym (given_fits s k u (again s t u i k h e)) ∙ a)
