-- A call as a whole: how it begins, what a yes gives, and what stays after a No.
use Rattle.std.proofs.Common.{◌≡◌, ◌<◌, ◌+◌, ◌^◌, ℕ, suc, Bool, true, false, sym, arith, List, [], length, Result, Ok, Err}
use Rattle.std.proofs.Common.{subst as along}
use Rattle.std.proofs.lemmas.List.{length-map}
use Rattle.std.specs.Prelude.{IfOk}
use Rattle.lq_trees.specs.Rules.{Rules}
use Rattle.lq_terms.specs.declared.nodes.Hypothesis.{Hypothesis}
use Rattle.lq_terms.specs.Terms.{Terms, Grows, HasTerm, tree_of}
use Rattle.lq_terms.specs.Contexts.{HasContext, context_of, hypothesis_of}
use Rattle.lq_solving.specs.Claims.{ArePlainRules}
use Rattle.lq_solving.specs.Kept.{IsContext, IsStore, StandsIn}
use Rattle.lq_solving.specs.Unification.{unify}
use Rattle.lq_solving.proofs.UnifyProved.{unified}
use Rattle.lq_solving.proofs.UnifyRows.{RowSound}
use Rattle.lq_evars.specs.Places.{Places, store_of, HasStore}
use Rattle.lq_unify.specs.declared.faults.UnifyFault.{UnifyFault}
use Rattle.lq_unify.specs.declared.frames.Frame.{Frame}
use Rattle.lq_unify.specs.declared.pairs.Pair.{Pair}
use Rattle.lq_unify.specs.Frames.{IsWork, sides_in}
use Rattle.lq_unify.specs.Solving.{GivesOn}
use Rattle.lq_unify.specs.Turns.{PairStands, Unifies}
use Rattle.lq_unify.specs.Working.{IsAsked}
use Rattle.lq_unify.proofs.GivingLaws.{gives_nothing}
use Rattle.lq_unify.proofs.StepLaws.{begun}

-- ---- how a call begins

module _ (bank : Terms) (s : Places) where
  pub work_begins : (hs own : List Hypothesis) (fs : List Frame) → own ≡ hs → fs ≡ [] → IsWork bank s hs [] → IsWork bank s own fs
  work_begins hs own fs e k h = along (IsWork bank s own) (sym k) (along (λ z. IsWork bank s z []) (sym e) h)

  pub pair_begins : (hs own : List Hypothesis) (p : Pair) → own ≡ hs → PairStands bank s hs p → PairStands bank s own p
  pair_begins hs own p e h = along (λ z. PairStands bank s z p) (sym e) h

  pub first_work : (hs : List Hypothesis) → HasStore bank s → IsStore (store_of bank s) → HasContext bank hs → IsWork bank s hs []
  first_work hs h i c = record { store = h; kept = i; context = c; frames = tt; nested = tt; stand = tt }

  pub first_pair : (hs : List Hypothesis) (p : Pair) → IsContext (store_of bank s) (context_of bank hs) →
      HasTerm bank p.left → StandsIn (store_of bank s) (context_of bank hs) (tree_of bank p.left) →
      HasTerm bank p.right → StandsIn (store_of bank s) (context_of bank hs) (tree_of bank p.right) → PairStands bank s hs p
  first_pair hs p c a i b j = record { has = (a, b); stands = record { context = c; left = i; right = j } }

  pub asked_begins : (r : Rules) (hs own : List Hypothesis) (p : Pair) (b : ℕ) → own ≡ hs →
      IsAsked r (λ n. unify r n (context_of bank hs) (store_of bank s) (tree_of bank p.left) (tree_of bank p.right)) b b (store_of bank s) []
      (sides_in bank own p)
  asked_begins r hs own p b e =
      along
      (λ z. IsAsked r (λ n. unify r n (context_of bank hs) (store_of bank s) (tree_of bank p.left) (tree_of bank p.right)) b b (store_of bank s) []
      (sides_in bank z p))
      (sym e)
      (begun r b (store_of bank s) (sides_in bank hs p))

-- ---- what a yes gives

few_names : (m b : ℕ) → m < 2 ^ 64 → b < 2 ^ 64 → suc (m + b) < 10 ^ 64
few_names m b h k = omega (arith, h, k)

pub yes_sound : (r : Rules) → ArePlainRules r → (old new : Terms) (s s1 : Places) (hs : List Hypothesis) (p : Pair) (budget left : ℕ) →
    length hs < 2 ^ 64 → budget < 2 ^ 64 → IsStore (store_of old s) → PairStands old s hs p →
    (o : Result Bool UnifyFault) →
    Unifies new s1 o (λ n. unify r n (context_of old hs) (store_of old s) (tree_of old p.left) (tree_of old p.right)) budget left →
    IfOk o (λ said. said ≡ true → RowSound r (store_of old s) (context_of old hs) (tree_of old p.left) (tree_of old p.right) (store_of new s1))
yes_sound r plain old new s s1 hs p budget left m b i q (Ok true) h = λ e.
    unified r (suc budget) budget left (context_of old hs) (store_of old s) (store_of new s1) (tree_of old p.left) (tree_of old p.right) plain
    (along (λ k. suc (k + budget) < 10 ^ 64) (sym (length-map hs (hypothesis_of old))) (few_names (length hs) budget m b))
    i q.stands.context q.stands.left q.stands.right (h (suc budget) (omega arith))
yes_sound r plain old new s s1 hs p budget left m b i q (Ok false) h = λ e. absurd (grind arith)
yes_sound r plain old new s s1 hs p budget left m b i q (Err y) h = tt

-- ---- what stays

-- the store is as it was, in a bank that has grown
pub unchanged : (old new : Terms) → Grows old new → (s s1 : Places) → HasStore old s → IsStore (store_of old s) → s1 ≡ s → GivesOn old new s s1
unchanged old new g s s1 h i e = along (GivesOn old new s) (sym e) (gives_nothing old new g s h i)
