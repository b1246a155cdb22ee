-- The lists after goals gave their places to others, by places and over trees.
use Rattle.std.proofs.Common.{◌≡◌, ◌≤◌, ◌<◌, ◌+◌, ◌-◌, ◌∙◌, ℕ, zero, suc, refl, sym, ap, ap₂, subst, arith, le-leb, leb-true, eqb, eqb-true, eq-eqb, Bool, true, false, ◌||◌, List, [], ◌∷◌, ◌++◌, map, length, take, drop, append_assoc, Option, Some, None, Result, Ok, Err}
use Rattle.std.specs.Prelude.{not, leb, ◌==◌, if◌then◌else◌, IfOk, OnOk}
use Rattle.std.proofs.lemmas.List.{length-append, length-map, length-drop, take-append-drop}
use Rattle.std.proofs.Math.Seq.{take-append_seam}
use Rattle.lq_trees.specs.Tree.{Tree}
use Rattle.lq_terms.specs.declared.nodes.TermId.{TermId}
use Rattle.lq_terms.specs.declared.nodes.Hypothesis.{Hypothesis}
use Rattle.lq_terms.specs.declared.nodes.NoMemory.{NoMemory}
use Rattle.lq_terms.specs.Terms.{Terms, tree_of}
use Rattle.lq_terms.specs.Contexts.{context_of}
use Rattle.std.specs.Result.{is_ok, is_err}
use Rattle.lq_trees.specs.Tree.{Context}
use Rattle.lq_solving.specs.Stores.{Assigned, Store as TreeStore, StoreFault as StoreFaultOfTrees, find_value, value, has_value, count, no_variables, with_variable, new_variable, store_full}
use Rattle.lq_evars.specs.declared.store.StoreFault.{StoreFault}
use Rattle.lq_evars.specs.declared.store.Variable.{Variable}
use Rattle.lq_evars.specs.Places.{Places, store_of, variable_of, one_more, Makes, assigned_of, values_from, value_in, value_at}
use Rattle.lq_evars.proofs.Lookups.{newest_found, newest_other}
use Rattle.lq_states.specs.Goals.{Proof, GoalFault as TreeFault, with_lists, has, without, still_open, swept, open_frames, within_goals, refocused, replaced, alone, started, has_each, shelve, open_count, behind_count, nothing_focused, too_many_goals}
use Rattle.lq_states.specs.Kept.{times, listed_goals, IsListed, MayReplace, IsProof, IsSwept}
use Rattle.lq_states.proofs.ListLaws.{times_without, has_stands}
use Rattle.lq_states.proofs.KeptLaws.{times_listed, exchanged, replaced_kept}
use Rattle.lq_states.proofs.SweepLaws.{IsQuiet, nothing_leaves, proof_swept, swept_shelved}
use Rattle.lq_states.proofs.FrameLaws.{alone_kept}
use Rattle.lq_goals.specs.declared.proof.GoalFault.{GoalFault}
use Rattle.lq_goals.specs.Held.{Held, proof_of, with_goals, open_one, open_in, is_missing, Changes, Exchanges, AreQuiet, IsPlain}

-- ---- values by places, and over trees

-- values are put ahead of those that are there
pub values_ahead : (bank : Terms) (older : List Assigned) (xs : List (ℕ × TermId)) → values_from bank older xs ≡ values_from bank [] xs ++ older
values_ahead bank older [] = refl
values_ahead bank older (a ∷ xs) =
    values_ahead bank (assigned_of bank a ∷ older) xs
    ∙ sym (append_assoc (values_from bank [] xs) (assigned_of bank a ∷ []) older)
    ∙ ap (λ z. z ++ older) (sym (values_ahead bank (assigned_of bank a ∷ []) xs))

values_append : (bank : Terms) (older : List Assigned) (xs ys : List (ℕ × TermId)) → values_from bank older (xs ++ ys) ≡ values_from bank (values_from bank older xs) ys
values_append bank older [] ys = refl
values_append bank older (a ∷ xs) ys = values_append bank (assigned_of bank a ∷ older) xs ys

pub length_from : (bank : Terms) (older : List Assigned) (xs : List (ℕ × TermId)) → length (values_from bank older xs) ≡ length xs + length older
length_from bank older [] = omega arith
length_from bank older (a ∷ xs) = let e = length_from bank (assigned_of bank a ∷ older) xs in omega (arith, e)

-- the newest values are those behind the oldest
newest_from : (bank : Terms) (n : ℕ) (xs : List (ℕ × TermId)) → n ≤ length xs →
    take (length (values_from bank [] xs) - n) (values_from bank [] xs) ≡ values_from bank [] (drop n xs)
newest_from bank n xs l =
    let split : values_from bank [] xs ≡ values_from bank [] (drop n xs) ++ values_from bank [] (take n xs)
    = ap (values_from bank []) (sym (take-append-drop n xs)) ∙ values_append bank [] (take n xs) (drop n xs) ∙ values_ahead bank (values_from bank [] (take n xs)) (drop n xs) in
    let many : length (values_from bank [] xs) - n ≡ length (values_from bank [] (drop n xs))
    = omega (arith, length_from bank [] xs, length_from bank [] (drop n xs), length-drop n xs, l) in
    ap (λ k. take k (values_from bank [] xs)) many ∙ ap (take (length (values_from bank [] (drop n xs)))) split
    ∙ take-append_seam (values_from bank [] (drop n xs)) (values_from bank [] (take n xs))

-- each value of a list is one of a variable that is newer or a taken goal
abbrev AreQuietTrees : ℕ → List ℕ → List Assigned → Type 0
AreQuietTrees seen taken as_ = (k : ℕ) (b : Tree) → k < seen → find_value as_ k ≡ Some b → has taken k ≡ true

quiet_from : (bank : Terms) (seen : ℕ) (taken : List ℕ) (older : List Assigned) (xs : List (ℕ × TermId)) → AreQuietTrees seen taken older → AreQuiet seen taken xs →
    AreQuietTrees seen taken (values_from bank older xs)
quiet_from bank seen taken older [] q a = q
quiet_from bank seen taken older (x ∷ xs) q a = quiet_from bank seen taken (assigned_of bank x ∷ older) xs more a.1
  where
    more : AreQuietTrees seen taken (assigned_of bank x ∷ older)
    more k b l e = by (eqb k x.0) refl
      where
        by : (t : Bool) → eqb k x.0 ≡ t → has taken k ≡ true
        by true i = let j : k ≡ x.0 = eqb-true k x.0 i in subst (λ z. has taken z ≡ true) (sym j) (a.0 (subst (λ z. z < seen) j l))
        by false i = q k b l (sym (newest_other (assigned_of bank x) older k i) ∙ e)

pub is_quiet : (bank : Terms) (p : Held) (taken : List ℕ) → p.given ≤ length p.store.values → AreQuiet p.seen taken (drop p.given p.store.values) →
    IsQuiet (proof_of bank p) taken p.given p.seen
unfolding find_value
is_quiet bank p taken l a k b m e =
    quiet_from bank p.seen taken [] (drop p.given p.store.values) (λ k b l e. absurd (grind (arith, e))) a k b m
    (sym (ap (λ as_. find_value as_ k) (newest_from bank p.given p.store.values l)) ∙ e)

-- a variable has a value over trees where it has one by places
abbrev is_there : Option Tree → Bool
is_there None = false
is_there (Some t) = true

there_from : (bank : Terms) (older : List Assigned) (xs : List (ℕ × TermId)) (k : ℕ) →
    is_there (find_value (values_from bank older xs) k) ≡ (not (is_missing (value_in xs k)) || is_there (find_value older k))
there_from bank older [] k = refl
there_from bank older (a ∷ xs) k = there_from bank (assigned_of bank a ∷ older) xs k ∙ by (k == a.0) refl
  where
    by : (t : Bool) → (k == a.0) ≡ t → (not (is_missing (value_in xs k)) || is_there (find_value (assigned_of bank a ∷ older) k))
        ≡ (not (is_missing (if t then Some a.1 else value_in xs k)) || is_there (find_value older k))
    by true i = ap (λ o. not (is_missing (value_in xs k)) || is_there o) (newest_found (assigned_of bank a) older k i) ∙ always (not (is_missing (value_in xs k)))
      where
        always : (b : Bool) → (b || true) ≡ true
        always true = refl
        always false = refl
    by false i = ap (λ o. not (is_missing (value_in xs k)) || is_there o) (newest_other (assigned_of bank a) older k i)

has_told : (bank : Terms) (s : Places) (k : ℕ) → has_value (store_of bank s) k ≡ not (is_missing (value_at s k))
unfolding has_value value find_value
has_told bank s k = there (find_value (values_from bank [] s.values) k) ∙ there_from bank [] s.values k ∙ never (not (is_missing (value_at s k)))
  where
    there : (o : Option Tree) → elim o as (λ z. Bool) [ Some b ↦ true | None ↦ false ] ≡ is_there o
    there (Some b) = refl
    there None = refl

    never : (b : Bool) → (b || false) ≡ b
    never true = refl
    never false = refl

pub open_told : (bank : Terms) (s : Places) (js : List ℕ) → open_in s js ≡ still_open (store_of bank s) js
unfolding still_open
open_told bank s [] = refl
open_told bank s (j ∷ js) = by (value_at s j) (has_value (store_of bank s) j) (has_told bank s j) (open_told bank s js)
  where
    by : (o : Option TermId) (b : Bool) → b ≡ not (is_missing o) → open_in s js ≡ still_open (store_of bank s) js →
        open_one o j (open_in s js) ≡ elim b as (λ z. List ℕ) [ true ↦ still_open (store_of bank s) js | false ↦ j ∷ still_open (store_of bank s) js ]
    by None false e f = ap (λ z. j ∷ z) f
    by None true e f = absurd cc
    by (Some t) true e f = f
    by (Some t) false e f = absurd cc

-- ---- the lists

-- nothing of the shelf is taken
left_alone : (taken js : List ℕ) → ((k : ℕ) → has taken k ≡ true → times js k ≡ 0) → without taken js ≡ js
unfolding without times
left_alone taken [] h = refl
left_alone taken (j ∷ js) h = by (has taken j) refl (left_alone taken js (λ k e. less (eqb j k) k (h k e)))
  where
    less : (b : Bool) (k : ℕ) → elim b as (λ z. ℕ) [ true ↦ 1 + times js k | false ↦ times js k ] ≡ 0 → times js k ≡ 0
    less true k e = omega (arith, e)
    less false k e = e

    by : (b : Bool) → has taken j ≡ b → without taken js ≡ js → elim b as (λ z. List ℕ) [ true ↦ without taken js | false ↦ j ∷ without taken js ] ≡ j ∷ js
    by false e f = ap (λ z. j ∷ z) f
    by true e f = absurd (here (eqb j j) (eq-eqb j j refl) (h j e))
      where
        here : (b : Bool) → b ≡ true → elim b as (λ z. ℕ) [ true ↦ 1 + times js j | false ↦ times js j ] ≡ 0 → ⊥
        here true e f = omega (arith, f)
        here false e f = absurd cc

shelf_alone : (p : Proof) (taken : List ℕ) → IsListed p → IsPlain p.focus taken → without taken p.shelf ≡ p.shelf
unfolding has
shelf_alone p [] h i = left_alone [] p.shelf (λ k e. absurd (grind (arith, e)))
shelf_alone p (j ∷ []) h i = left_alone (j ∷ []) p.shelf (λ k e. by k (eqb j k) refl e)
  where
    by : (k : ℕ) (b : Bool) → eqb j k ≡ b → (b || false) ≡ true → times p.shelf k ≡ 0
    by k true e f =
        let same : j ≡ k = eqb-true j k e in
        subst (λ z. times p.shelf z ≡ 0) same (omega (arith, has_stands p.focus j i, times_listed p j, h.once j))
    by k false e f = absurd cc
shelf_alone p (j ∷ k ∷ ks) h i = absurd i

-- an exchange of lists is the definition's, where those are its lists
pub changes_by : (bank : Terms) (old new : Held) (focus shelf : List ℕ) (r : Result (Unit {0}) GoalFault) → Exchanges r old new focus shelf →
    Changes bank r new (within_goals (with_lists (proof_of bank old) focus [] shelf))
unfolding within_goals
changes_by bank old new focus shelf (Ok u) e =
    ap (λ b. elim b as (λ z. Result Proof TreeFault) [ true ↦ Ok (with_lists (proof_of bank old) focus [] shelf) | false ↦ Err too_many_goals ]) (le-leb (length focus) 10000 e.0)
    ∙ ap (λ p. Ok (proof_of bank p)) (sym e.1)
changes_by bank old new focus shelf (Err GoalFault.NothingFocused) e = absurd e
changes_by bank old new focus shelf (Err GoalFault.TooManyGoals) e = by (leb (length focus) 10000) refl
  where
    by : (b : Bool) → leb (length focus) 10000 ≡ b →
        elim b as (λ z. Result Proof TreeFault) [ true ↦ Ok (with_lists (proof_of bank old) focus [] shelf) | false ↦ Err too_many_goals ] ≡ Err too_many_goals
    by false i = refl
    by true i = absurd (omega (arith, leb-true (length focus) 10000 i, e.0))
changes_by bank old new focus shelf (Err GoalFault.NoMemory) e = tt

module _ (bank : Terms) (old new : Held) (taken left shelved : List ℕ) (r : Result (Unit {0}) GoalFault)
    (h : IsListed (proof_of bank old)) (m : MayReplace (proof_of bank old) taken left shelved) (w : IsSwept (proof_of bank old) old.given old.seen) where
  pub plain_told : IsPlain old.focus taken → AreQuiet old.seen taken (drop old.given old.store.values) →
      Exchanges r old new (refocused taken left old.focus) (old.shelf ++ shelved) → Changes bank r new (replaced (proof_of bank old) taken left shelved)
  unfolding replaced
  plain_told plain quiet e =
      let few : old.given ≤ length old.store.values = omega (arith, w.values, length_from bank [] old.store.values) in
      subst (λ p. Changes bank r new (within_goals p))
      (ap (λ js. with_lists (proof_of bank old) (refocused taken left old.focus) [] (js ++ shelved)) (sym (shelf_alone (proof_of bank old) taken h plain))
      ∙ sym (nothing_leaves (proof_of bank old) taken left shelved old.given old.seen h m w (is_quiet bank old taken few quiet)))
      (changes_by bank old new (refocused taken left old.focus) (old.shelf ++ shelved) r e)

  pub all_told : Exchanges r old new (open_in old.store (refocused taken left old.focus)) (open_in old.store (without taken old.shelf ++ shelved)) →
      Changes bank r new (replaced (proof_of bank old) taken left shelved)
  unfolding replaced swept open_frames
  all_told e =
      subst (λ p. Changes bank r new (within_goals p))
      (ap₂ (λ js ks. with_lists (proof_of bank old) js [] ks) (open_told bank old.store (refocused taken left old.focus)) (open_told bank old.store (without taken old.shelf ++ shelved)))
      (changes_by bank old new _ _ r e)

  pub stands : (focus shelf : List ℕ) → Exchanges r old new focus shelf → Changes bank r new (replaced (proof_of bank old) taken left shelved) →
      OnOk r (IsProof (proof_of bank new) × IsSwept (proof_of bank new) new.given new.seen)
  stands focus shelf e c = by r e c
    where
      by : (x : Result (Unit {0}) GoalFault) → Exchanges x old new focus shelf → Changes bank x new (replaced (proof_of bank old) taken left shelved) →
          OnOk x (IsProof (proof_of bank new) × IsSwept (proof_of bank new) new.given new.seen)
      by (Ok u) f d =
          let is = replaced_kept (proof_of bank old) taken left shelved h m (proof_of bank new) d in
          (is, hints is f.1)
        where
          hints : IsProof (proof_of bank new) → new ≡ with_goals old focus shelf → IsSwept (proof_of bank new) new.given new.seen
          hints is g =
              subst (λ n. IsSwept (proof_of bank new) n new.seen) (omega (arith, length_from bank [] new.store.values, ap (λ p. p.given) g, ap (λ p. length p.store.values) g))
              (subst (λ n. IsSwept (proof_of bank new) (length (store_of bank new.store).values) n) (length-map new.store.variables _ ∙ ap (λ p. length p.store.variables) g ∙ sym (ap (λ p. p.seen) g))
              (proof_swept (proof_of bank new) is))
      by (Err f) g d = tt

-- ---- a new proof, counts, and the shelf

pub root_store : (bank : Terms) (s : Places) (v : Variable) → s.variables ≡ [] → s.values ≡ [] → store_of bank (one_more s v) ≡ with_variable no_variables (variable_of bank v)
unfolding with_variable
root_store bank s v e f = rw (e, f) refl

-- a store without variables refuses none for want of room
pub first_made : (s : Places) (f : StoreFault) (new : Places) (v : Variable) → s.variables ≡ [] → s.values ≡ [] →
    ((bank : Terms) → Makes bank (Err f) new (new_variable (store_of bank s) (variable_of bank v))) → f ≡ StoreFault.NoMemory
unfolding new_variable
first_made s StoreFault.NoMemory new v e g h = refl
first_made s StoreFault.TooLarge new v e g h = absurd (h (record { names = []; nodes = [] }))
first_made s StoreFault.TooDeep new v e g h = absurd (h (record { names = []; nodes = [] }))
first_made s StoreFault.Full new v e g h =
    let bank : Terms = record { names = []; nodes = [] } in
    let is : store_of bank s ≡ no_variables = rw (e, g) refl in
    absurd (by bank (store_of bank s) is (h bank))
  where
    none : (bank : Terms) → new_variable no_variables (variable_of bank v) ≡ Err store_full → ⊥
    none bank r = grind (arith, r)

    by : (bank : Terms) (t : TreeStore) → t ≡ no_variables → new_variable t (variable_of bank v) ≡ Err store_full → ⊥
    by bank t q r = none bank (subst (λ z. new_variable z (variable_of bank v) ≡ Err store_full) q r)

pub alone_store : (g : Context) (A : Tree) → with_variable no_variables (record { context = g; kind = A; name = None }) ≡ (alone g A).store
unfolding alone
alone_store g A = refl

pub start_is : (r : Result Held NoMemory) (cs : List Hypothesis) (kind : TermId) → cs ≡ [] →
    IfOk r (λ p. (bank : Terms) → proof_of bank p ≡ alone (context_of bank cs) (tree_of bank kind)) → IfOk r (λ p. (bank : Terms) → proof_of bank p ≡ started (tree_of bank kind))
unfolding started
start_is r cs kind e h = subst (λ z. IfOk r (λ p. (bank : Terms) → proof_of bank p ≡ alone (context_of bank z) (tree_of bank kind))) e h

pub alone_is : (bank : Terms) (s : Places) (focus shelf : List ℕ) (g : Context) (A : Tree) → store_of bank s ≡ (alone g A).store → focus ≡ 0 ∷ [] → shelf ≡ [] →
    proof_of bank (record { store = s; focus = focus; shelf = shelf; given = 0; seen = 1 }) ≡ alone g A
unfolding alone
alone_is bank s focus shelf g A e f h = rw (e, f, h) refl

pub alone_swept : (g : Context) (A : Tree) → IsSwept (alone g A) 0 1
unfolding alone with_variable
alone_swept g A = proof_swept (alone g A) (alone_kept g A)

pub count_is : (bank : Terms) (p : Held) → length p.focus ≡ open_count (proof_of bank p)
unfolding open_count behind_count
count_is bank p = omega arith

pub shelve_lacks : (bank : Terms) (p : Held) (ks : List ℕ) → has_each p.focus ks ≡ false → shelve (proof_of bank p) ks ≡ Err nothing_focused
unfolding shelve
shelve_lacks bank p ks e =
    ap (λ b. elim b as (λ z. Result Proof TreeFault) [ true ↦ Ok (with_lists (proof_of bank p) (without ks p.focus) [] (p.shelf ++ ks)) | false ↦ Err nothing_focused ]) e

pub shelved_is : (bank : Terms) (p q : Held) (ks : List ℕ) → has_each p.focus ks ≡ true → q.store ≡ p.store → q.focus ≡ without ks p.focus → q.shelf ≡ p.shelf ++ ks →
    shelve (proof_of bank p) ks ≡ Ok (proof_of bank q)
unfolding shelve
shelved_is bank p q ks e s f h =
    ap (λ b. elim b as (λ z. Result Proof TreeFault) [ true ↦ Ok (with_lists (proof_of bank p) (without ks p.focus) [] (p.shelf ++ ks)) | false ↦ Err nothing_focused ]) e
    ∙ ap Ok (sym (ap (λ z. record { store = store_of bank z; focus = q.focus; frames = []; shelf = q.shelf }) s ∙ ap₂ (λ x y. record { store = store_of bank p.store; focus = x; frames = []; shelf = y }) f h))

pub shelved_swept : (bank : Terms) (p q : Held) (ks : List ℕ) → q.given ≡ p.given → q.seen ≡ p.seen → IsSwept (proof_of bank p) p.given p.seen →
    shelve (proof_of bank p) ks ≡ Ok (proof_of bank q) → IsSwept (proof_of bank q) q.given q.seen
shelved_swept bank p q ks e f w h =
    subst (λ n. IsSwept (proof_of bank q) n q.seen) (sym e)
    (subst (IsSwept (proof_of bank q) p.given) (sym f) (swept_shelved (proof_of bank p) (proof_of bank q) p.given p.seen ks w h))

pub appended : {A E : Type 0} (r : Result A E) (xs ys : List ℕ) (zs : List ℕ) → is_err r ≡ false → zs ≡ (if is_ok r then xs ++ ys else xs) → zs ≡ xs ++ ys
appended (Ok a) xs ys zs e f = f
appended (Err x) xs ys zs e f = absurd (grind (arith, e))
