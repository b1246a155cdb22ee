-- A weak head form of a term that is kept, by the call of reduction.
use Rattle.std.proofs.Common.{◌≡◌, ◌<◌, ◌∙◌, ℕ, refl, sym, ap, ap₂, arith, Bool, true, false, ◌&&◌, List, [], ◌∷◌}
use Rattle.std.proofs.Common.{Option, Some, None, Result, Ok, Err, inl, inr}
use Rattle.std.proofs.Common.{subst as along}
use Rattle.std.specs.List.{AllByRecursion}
use Rattle.std.proofs.Math.Path.{fun_ext}
use Rattle.std.proofs.lemmas.Bool.{cases_lt}
use Rattle.lq_trees.specs.Tree.{Name, Tree, Context}
use Rattle.lq_trees.specs.Rules.{Rules}
use Rattle.lq_trees.specs.Reading.{Reads, ReadsContext, ReadsRules}
use Rattle.lq_trees.specs.Ticks.{gives, ◌>>=◌, done, failed, steps_out, ComesTo}
use Rattle.lq_trees.proofs.Outcomes.{comes_then, comes_failed, comes_spent, comes_gives}
use Rattle.lq_calculus.specs.Contraction.{whnf, contract}
use Rattle.lq_calculus.specs.Checking.{KernelFault}
use Rattle.lq_terms.specs.declared.nodes.Hypothesis.{Hypothesis}
use Rattle.lq_terms.specs.declared.nodes.TermId.{TermId}
use Rattle.lq_terms.specs.Terms.{Terms, HasTerm, Grows, text_of, tree_of}
use Rattle.lq_terms.specs.Contexts.{HasContext, HasBody, context_of}
use Rattle.lq_terms.specs.Telling.{Telling, Tells, values_in}
use Rattle.lq_terms.proofs.Growth.{Grows-refl, Grows-trans}
use Rattle.lq_terms.proofs.Tellings.{context_of-grown}
use Rattle.lq_reduce.specs.declared.faults.ReduceFault.{ReduceFault}
use Rattle.lq_reduce.specs.Views.{HasClosedBody, HasBodies}
use Rattle.lq_reduce.specs.Answers.{Reduces}
use Rattle.lq_solving.specs.Stores.{Store, values_of, read, read_context}
use Rattle.lq_solving.specs.Kept.{OptionStands, StandBehind, StandsIn, IsContext, IsStore}
use Rattle.lq_solving.specs.Claims.{ArePlainRules}
use Rattle.lq_solving.specs.Unification.{UnifyFault as TreeFault, Unify, is_reduced, unify_too_large, unify_too_deep}
use Rattle.lq_solving.proofs.Readings.{reads_read}
use Rattle.lq_solving.proofs.ReadingRules.{reads_context, plain_rules}
use Rattle.lq_evars.specs.Places.{Places, store_of, body_at, HasStore}
use Rattle.lq_evars.proofs.Growing.{store_of-grown}
use Rattle.lq_unify.specs.declared.faults.UnifyFault.{UnifyFault}
use Rattle.lq_unify.specs.Reducing.{one_form, both_forms, are_reduced, FormComes, Formed, Unchanged, Changed, Forms}
use Rattle.lq_unify.specs.Faults.{fault_in}
use Rattle.lq_unify.specs.Telling.{NamesApart, TellsOn}
use Rattle.lq_unify.proofs.ReduceSteps.{form_done, form_out, form_fits, form_large, form_deep, form_stops, falls, unpaid_reduced, paid_reduced}

-- ---- hypotheses

pub have_bodies : (bank : Terms) (s : Store) (hs : List Hypothesis) → HasContext bank hs → IsContext s (context_of bank hs) → HasBodies bank hs
have_bodies bank s hs h k = record { context = h; bodies = by hs [] h k }
  where
    body : (xs : List Name) (o : Option TermId) → HasBody bank o → OptionStands s xs (elim o as (λ z. Option Tree) [ None ↦ None | Some t ↦ Some (tree_of bank t) ]) → HasClosedBody bank o
    body xs None a c = tt
    body xs (Some t) a c = (a, c.within)

    by : (js : List Hypothesis) (xs : List Name) → HasContext bank js → StandBehind s xs (context_of bank js) → AllByRecursion (λ j. HasClosedBody bank j.body) js
    by [] xs a c = tt
    by (j ∷ js) xs a c = (body xs j.body a.0.body c.1, by js (text_of bank j.name ∷ xs) a.1 c.3)

-- ---- what the store tells is what the definition has

pub values_are : (bank : Terms) (s : Places) → ((k : ℕ) → values_in bank (body_at s) k ≡ values_of (store_of bank s) k) → values_in bank (body_at s) ≡ values_of (store_of bank s)
values_are bank s h = fun_ext h

-- ---- one form

module _ (r : Rules) (g : Context) (t : Tree) (b left : ℕ) where
  -- the answer, with its fault told as one of unification
  abbrev pub FormedBy : Terms → Result TermId ReduceFault → Type 0
  FormedBy bank (Ok u) = Formed r g t bank (Ok u) b left
  FormedBy bank (Err f) = Formed r g t bank (Err (fault_in f)) b left

  pub formed : (bank : Terms) (q : Result TermId ReduceFault) → Reduces {F = KernelFault} bank q (λ n. whnf r g n t) b left → FormedBy bank q
  unfolding one_form
  formed bank (Ok u) k =
      let w : ComesTo {F = TreeFault} (λ n. whnf r g n t) b (done (tree_of bank u) left) = form_done (λ z. unify_too_large) (contract r g) t (tree_of bank u) b left k.2 in record {
        comes = form_fits r g t b left (tree_of bank u) w k.1;
        same = λ e. unpaid_reduced {F = TreeFault} r g t (tree_of bank u) b (along (λ z. ComesTo {F = TreeFault} (λ n. whnf r g n t) b (done (tree_of bank u) z)) e w);
        changed = λ l. paid_reduced {F = TreeFault} r g t (tree_of bank u) b left l w;
        fewer = falls {F = TreeFault} (contract r g) t (tree_of bank u) b left w;
      }
  formed bank (Err ReduceFault.StepsOut) k = (form_stops r g t b (form_out (λ z. unify_too_large) (contract r g) t b k.0), k.1)
  formed bank (Err ReduceFault.TooLarge) k = form_large r g t b left k.tree (form_done (λ z. unify_too_large) (contract r g) t k.tree b left k.comes) k.passes
  formed bank (Err ReduceFault.TooDeep) k = form_deep r g t b left k.tree (form_done (λ z. unify_too_large) (contract r g) t k.tree b left k.comes) k.passes
  formed bank (Err ReduceFault.NoMemory) k = tt

-- ---- both forms

module _ (r : Rules) (g : Context) (t u : Tree) (b : ℕ) where
  -- the second form, and then both
  abbrev then_second : Tree → ℕ → Unify (Tree × Tree)
  then_second t1 n = one_form r g u n >>= λ u1. gives (t1, u1)

  -- a fault of the first
  pub first_stops : (bank : Terms) (y : UnifyFault) (left : ℕ) → Formed r g t bank (Err y) b left → Forms r g t u bank (Err y) b left
  unfolding both_forms
  first_stops bank UnifyFault.StepsOut left k = (comes_spent (one_form r g t) then_second b k.0, k.1)
  first_stops bank UnifyFault.TooLarge left k = comes_failed (one_form r g t) then_second b unify_too_large left k
  first_stops bank UnifyFault.TooDeep left k = comes_failed (one_form r g t) then_second b unify_too_deep left k
  first_stops bank UnifyFault.NoMemory left k = tt

  module _ (t1 : Tree) (l : ℕ) (k : FormComes r g t t1 b l) where
    -- a fault of the second
    pub second_stops : (bank : Terms) (y : UnifyFault) (left : ℕ) → Formed r g u bank (Err y) l left → Forms r g t u bank (Err y) b left
    unfolding both_forms
    second_stops bank UnifyFault.StepsOut left j = (comes_then (one_form r g t) then_second b t1 l steps_out k.comes (comes_spent (one_form r g u) (λ u1 n. gives (t1, u1)) l j.0), j.1)
    second_stops bank UnifyFault.TooLarge left j = comes_then (one_form r g t) then_second b t1 l (failed unify_too_large left) k.comes (comes_failed (one_form r g u) (λ u1 n. gives (t1, u1)) l unify_too_large left j)
    second_stops bank UnifyFault.TooDeep left j = comes_then (one_form r g t) then_second b t1 l (failed unify_too_deep left) k.comes (comes_failed (one_form r g u) (λ u1 n. gives (t1, u1)) l unify_too_deep left j)
    second_stops bank UnifyFault.NoMemory left j = tt

    module _ (u1 : Tree) (left : ℕ) (j : FormComes r g u u1 l left) where
      both_come : ComesTo (both_forms r g t u) b (done (t1, u1) left)
      unfolding both_forms
      both_come = comes_then (one_form r g t) then_second b t1 l (done (t1, u1) left) k.comes
          (comes_then (one_form r g u) (λ z n. gives (t1, z)) l u1 left (done (t1, u1) left) j.comes (comes_gives (λ n. gives (t1, u1)) (t1, u1) left (λ n. refl)))

      pub unchanged_both : left ≡ b → Unchanged r g t u b left
      unchanged_both e = record {
        forms = (t1, u1);
        comes = both_come;
        same = ap₂ (λ x y. x && y) (k.same (omega (arith, e, k.fewer, j.fewer))) (j.same (omega (arith, e, k.fewer, j.fewer)));
      }

      is_changed : (left ≡ b → ⊥) → are_reduced r g t u ≡ false
      is_changed d = elim (cases_lt l b) [
        | inl m ↦ ap (λ x. x && is_reduced r g u) (k.changed m)
        | inr m ↦ second (omega (arith, m, d, k.fewer, j.fewer))
      ]
        where
          second : left < l → are_reduced r g t u ≡ false
          second m = ap (λ y. is_reduced r g t && y) (j.changed m) ∙ off (is_reduced r g t)
            where
              off : (x : Bool) → (x && false) ≡ false
              off true = refl
              off false = refl

      pub changed_both : (left ≡ b → ⊥) → (bank : Terms) (p : TermId × TermId) → t1 ≡ tree_of bank p.0 → u1 ≡ tree_of bank p.1 → Changed r g t u bank p b left
      changed_both d bank p e1 e2 = record {
        comes = along (λ z. ComesTo (both_forms r g t u) b (done (z, tree_of bank p.1) left)) e1 (along (λ z. ComesTo (both_forms r g t u) b (done (t1, z) left)) e2 both_come);
        changed = is_changed d;
      }

-- ---- by the call

module _ (bank : Terms) (s : Places) (hs : List Hypothesis) (i : TermId) (kept : IsStore (store_of bank s)) (c : IsContext (store_of bank s) (context_of bank hs)) (h : StandsIn (store_of bank s) (context_of bank hs) (tree_of bank i))
    (same : (k : ℕ) → values_in bank (body_at s) k ≡ values_of (store_of bank s) k) where
  pub context_read : ReadsContext (values_in bank (body_at s)) (context_of bank hs) (read_context (store_of bank s) (context_of bank hs))
  context_read = along (λ v. ReadsContext v (context_of bank hs) (read_context (store_of bank s) (context_of bank hs))) (sym (values_are bank s same)) (reads_context (store_of bank s) kept (context_of bank hs) c)

  pub term_read : Reads (values_in bank (body_at s)) (tree_of bank i) (read (store_of bank s) (tree_of bank i))
  term_read = along (λ v. Reads v (tree_of bank i) (read (store_of bank s) (tree_of bank i))) (sym (values_are bank s same)) (reads_read (store_of bank s) kept (tree_of bank i) h.over)

  pub rules_read : (r : Rules) → ArePlainRules r → ReadsRules (values_in bank (body_at s)) r r
  rules_read r plain = plain_rules (values_in bank (body_at s)) r plain

  -- the answer, from that of reduction in this bank
  module _ (new : Terms) (told : Telling) (b left : ℕ) (q : Result TermId ReduceFault)
      (answer : (p r : Rules) (g : Context) (t : Tree) → Tells bank told p → ReadsRules (values_in bank (body_at s)) p r → ReadsContext (values_in bank (body_at s)) (context_of bank hs) g → Reads (values_in bank (body_at s)) (tree_of bank i) t →
      Reduces {F = KernelFault} new q (λ n. whnf r g n t) b left)
      (apart : NamesApart bank) where
    pub form_found : (r : Rules) → TellsOn bank told r → ArePlainRules r → FormedBy r (read_context (store_of bank s) (context_of bank hs)) (read (store_of bank s) (tree_of bank i)) b left new q
    form_found r tells plain =
        formed r (read_context (store_of bank s) (context_of bank hs)) (read (store_of bank s) (tree_of bank i)) b left new q
        (answer r r (read_context (store_of bank s) (context_of bank hs)) (read (store_of bank s) (tree_of bank i)) (tells bank (Grows-refl bank) apart) (rules_read r plain) context_read term_read)

-- ---- in a bank that has grown

module _ (old new : Terms) (g : Grows old new) (s : Places) (hs : List Hypothesis) (store : HasStore old s) (context : HasContext old hs) where
  pub kept_later : IsStore (store_of old s) → IsStore (store_of new s)
  kept_later k = along IsStore (sym (store_of-grown old new g s store)) k

  pub context_later : IsContext (store_of old s) (context_of old hs) → IsContext (store_of new s) (context_of new hs)
  context_later k = along (λ z. IsContext z (context_of new hs)) (sym (store_of-grown old new g s store)) (along (IsContext (store_of old s)) (sym (context_of-grown old new g hs context)) k)

  pub stands_later : (i : TermId) → HasTerm old i → StandsIn (store_of old s) (context_of old hs) (tree_of old i) → StandsIn (store_of new s) (context_of new hs) (tree_of new i)
  stands_later i h k =
      along (λ z. StandsIn z (context_of new hs) (tree_of new i)) (sym (store_of-grown old new g s store))
      (along (λ z. StandsIn (store_of old s) z (tree_of new i)) (sym (context_of-grown old new g hs context)) (along (StandsIn (store_of old s) (context_of old hs)) (sym (g.tree i h)) k))

  -- the answer of a call in the later bank is one for what was read in the earlier bank
  pub formed_before : (r : Rules) (i : TermId) → HasTerm old i → (bank : Terms) (q : Result TermId UnifyFault) (b left : ℕ) →
      Formed r (read_context (store_of new s) (context_of new hs)) (read (store_of new s) (tree_of new i)) bank q b left → Formed r (read_context (store_of old s) (context_of old hs)) (read (store_of old s) (tree_of old i)) bank q b left
  formed_before r i h bank q b left k =
      along (λ z. Formed r (read_context z (context_of old hs)) (read z (tree_of old i)) bank q b left) (store_of-grown old new g s store)
      (along (λ z. Formed r (read_context (store_of new s) z) (read (store_of new s) (tree_of old i)) bank q b left) (context_of-grown old new g hs context)
      (along (λ z. Formed r (read_context (store_of new s) (context_of new hs)) (read (store_of new s) z) bank q b left) (g.tree i h) k))

-- ---- two calls, the second in the bank after the first

module _ (old middle new : Terms) (g : Grows old middle) (k : Grows middle new) (told : Telling) (s : Places) (hs : List Hypothesis) (store : HasStore old s) (context : HasContext old hs) (x y : TermId) (right : HasTerm old y) (b l left : ℕ) where
  -- the hypotheses, and both terms, as read
  abbrev H : Context
  H = read_context (store_of old s) (context_of old hs)

  abbrev T : Tree
  T = read (store_of old s) (tree_of old x)

  abbrev U : Tree
  U = read (store_of old s) (tree_of old y)

  -- the answers of both calls, and that of the two together
  abbrev pub First : Result TermId UnifyFault → Type 0
  First q = (r : Rules) → TellsOn old told r → ArePlainRules r → Formed r H T middle q b l

  abbrev pub Second : Result TermId UnifyFault → Type 0
  Second q = (r : Rules) → TellsOn middle told r → ArePlainRules r → Formed r (read_context (store_of middle s) (context_of middle hs)) (read (store_of middle s) (tree_of middle y)) new q l left

  abbrev pub Both : Result (Option (TermId × TermId)) UnifyFault → Type 0
  Both o = (r : Rules) → TellsOn old told r → ArePlainRules r → Forms r H T U new o b left

  second_before : (q : Result TermId UnifyFault) → Second q → (r : Rules) → TellsOn old told r → ArePlainRules r → Formed r H U new q l left
  second_before q f r tells plain = formed_before old middle g s hs store context r y right new q l left (f r (λ later m a. tells later (Grows-trans old middle later g m) a) plain)

  pub both_stop : (i : TermId) (f : UnifyFault) → First (Ok i) → Second (Err f) → Both (Err f)
  both_stop i f one two r tells plain = second_stops r H T U b (tree_of middle i) l (one r tells plain) new f left (second_before (Err f) two r tells plain)

  module _ (i j : TermId) (has : HasTerm middle i) (one : First (Ok i)) (two : Second (Ok j)) where
    pub both_same : left ≡ b → Both (Ok None)
    both_same e r tells plain = unchanged_both r H T U b (tree_of middle i) l (one r tells plain) (tree_of new j) left (second_before (Ok j) two r tells plain) e

    pub both_change : (left ≡ b → ⊥) → Both (Ok (Some (i, j)))
    both_change d r tells plain = changed_both r H T U b (tree_of middle i) l (one r tells plain) (tree_of new j) left (second_before (Ok j) two r tells plain) d new (i, j) (sym (k.tree i has)) refl
