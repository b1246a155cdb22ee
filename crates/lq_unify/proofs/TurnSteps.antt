-- One turn leads on to the outcome of the call.
use Rattle.std.proofs.Common.{◌≡◌, ◌+◌, ℕ, suc, sym, arith, true, false, List, [], None, Err}
use Rattle.std.proofs.Common.{subst as along}
use Rattle.lq_trees.specs.Tree.{Tree, Context}
use Rattle.lq_trees.specs.Rules.{Rules}
use Rattle.lq_trees.specs.Ticks.{done, ComesTo}
use Rattle.lq_terms.specs.declared.nodes.Hypothesis.{Hypothesis}
use Rattle.lq_terms.specs.declared.nodes.TermId.{TermId}
use Rattle.lq_terms.specs.Terms.{Terms, HasTerm, Grows, tree_of}
use Rattle.lq_terms.specs.Contexts.{context_of}
use Rattle.lq_terms.specs.Telling.{Telling}
use Rattle.lq_terms.proofs.Growth.{Grows-trans}
use Rattle.lq_terms.proofs.Tellings.{HasTelling-grown, context_of-grown}
use Rattle.lq_solving.specs.Stores.{Store, read, read_context}
use Rattle.lq_solving.specs.Claims.{ArePlainRules}
use Rattle.lq_solving.specs.Unification.{Unify, Answer, Sides, sides, unify_too_large, unify_too_deep}
use Rattle.lq_solving.specs.Waiting.{Waiting}
use Rattle.lq_evars.specs.Places.{Places, store_of}
use Rattle.lq_evars.proofs.Growing.{store_of-grown}
use Rattle.lq_unify.specs.declared.faults.UnifyFault.{UnifyFault}
use Rattle.lq_unify.specs.declared.pairs.Pair.{Pair}
use Rattle.lq_unify.specs.declared.frames.Frame.{Frame}
use Rattle.lq_unify.specs.declared.resuming.Next.{Next}
use Rattle.lq_unify.specs.Standing.{SidesStand}
use Rattle.lq_unify.specs.Working.{IsAnswered, IsAsked, IsReducing, IsRowed}
use Rattle.lq_unify.specs.Reducing.{Unchanged, Changed, Forms}
use Rattle.lq_unify.specs.Telling.{TellsOn, HasRules}
use Rattle.lq_unify.specs.Frames.{sides_in, waits, IsWork, answer_of}
use Rattle.lq_unify.specs.Turns.{PairStands, HasAnswer, Goes, Stops, IsAnswer, said_by}
use Rattle.lq_unify.proofs.FrameLaws.{waits_grown}
use Rattle.lq_unify.proofs.StepLaws.{unpaid_is, paid_is, ended}
use Rattle.lq_unify.proofs.FormTurns.{forms_out, forms_fail, unchanged_is, changed_is, both_read, both_stand}

-- ---- a call

pub asked_out : (r : Rules) (f : ℕ → Unify Answer) (b l m : ℕ) (s : Store) (vs : List Waiting) (p : Sides) → l ≡ 0 → m ≡ 0 → IsAsked r f b l s vs p → Stops f b m UnifyFault.StepsOut
asked_out r f b l m s vs p e d h = (unpaid_is r f b s vs p (along (λ n. IsAsked r f b n s vs p) e h), d)

pub asked_rowed : (r : Rules) (f : ℕ → Unify Answer) (b l m : ℕ) (s : Store) (vs : List Waiting) (p : Sides) → l ≡ m + 1 → IsAsked r f b l s vs p → IsRowed true r f b m s vs p
asked_rowed r f b l m s vs p e h = paid_is r f b m s vs p (along (λ n. IsAsked r f b n s vs p) (next l m e) h)
  where
    next : (i j : ℕ) → i ≡ j + 1 → i ≡ suc j
    next i j k = omega (arith, k)

-- ---- rules in a bank that has grown

module _ (old new : Terms) (g : Grows old new) (told : Telling) where
  pub tells_grown : (r : Rules) → TellsOn old told r → TellsOn new told r
  tells_grown r h = λ later k a. h later (Grows-trans old new later g k) a

  pub rules_grown : HasRules old told → HasRules new told
  rules_grown h = record { has = HasTelling-grown old new g told h.has; rules = h.rules; tells = tells_grown h.rules h.tells; plain = h.plain }

-- ---- weak head forms

module _ (old new : Terms) (g : Grows old new) (s : Places) (hs : List Hypothesis) (fs : List Frame) (w : IsWork old s hs fs) (p : Pair) (k : PairStands old s hs p) where
  -- the store, the hypotheses and the terms over trees
  abbrev S : Store
  S = store_of old s

  abbrev G : Context
  G = context_of old hs

  abbrev L : Tree
  L = tree_of old p.left

  abbrev R : Tree
  R = tree_of old p.right

  store_same : store_of new s ≡ S
  store_same = store_of-grown old new g s w.store

  context_same : context_of new hs ≡ G
  context_same = context_of-grown old new g hs w.context

  waits_same : waits new s hs fs ≡ waits old s hs fs
  waits_same = waits_grown old new g s hs fs w.store w.context w.frames

  pub forms_stop : (r : Rules) (f : ℕ → Unify Answer) (b l left : ℕ) (y : UnifyFault) → Forms r (read_context S G) (read S L) (read S R) new (Err y) l left → IsReducing r f b l S (waits old s hs fs) (sides_in old hs p) → Stops f b left y
  forms_stop r f b l left UnifyFault.StepsOut q h = (forms_out r f b l S (waits old s hs fs) (sides_in old hs p) h q.0, q.1)
  forms_stop r f b l left UnifyFault.TooLarge q h = forms_fail r f b l S (waits old s hs fs) (sides_in old hs p) h unify_too_large left q
  forms_stop r f b l left UnifyFault.TooDeep q h = forms_fail r f b l S (waits old s hs fs) (sides_in old hs p) h unify_too_deep left q
  forms_stop r f b l left UnifyFault.NoMemory q h = tt

  pub forms_same : (r : Rules) (f : ℕ → Unify Answer) (b l left : ℕ) → Unchanged r (read_context S G) (read S L) (read S R) l left → IsReducing r f b l S (waits old s hs fs) (sides_in old hs p) → HasAnswer r f b left new s hs fs false
  forms_same r f b l left q h =
      along (λ z. IsAnswered r f b left z (waits new s hs fs) None) (sym store_same)
      (along (λ z. IsAnswered r f b left S z None) (sym waits_same) (unchanged_is r f b l S (waits old s hs fs) (sides_in old hs p) h left q))

  module _ (q : TermId × TermId) where
    -- the pair of both forms
    abbrev forms : Pair
    forms = record { left = q.0; right = q.1 }

    pub forms_stand : (r : Rules) → ArePlainRules r → (b left : ℕ) → HasTerm new q.0 × HasTerm new q.1 → Changed r (read_context S G) (read S L) (read S R) new q b left → PairStands new s hs forms
    forms_stand r plain b left has c = let e = both_stand r plain S w.kept G k.stands.context L R (tree_of new q.0) (tree_of new q.1) k.stands.left k.stands.right b left c.comes in record {
      has = has;
      stands = along (λ z. SidesStand z (sides_in new hs forms)) (sym store_same)
          (along (λ z. SidesStand S (sides z (tree_of new q.0) (tree_of new q.1))) (sym context_same) (record { context = k.stands.context; left = e.0; right = e.1 }));
    }

    pub forms_rowed : (r : Rules) → ArePlainRules r → (f : ℕ → Unify Answer) (b l left : ℕ) → Changed r (read_context S G) (read S L) (read S R) new q l left → IsReducing r f b l S (waits old s hs fs) (sides_in old hs p) →
        IsRowed false r f b left (store_of new s) (waits new s hs fs) (sides_in new hs forms)
    forms_rowed r plain f b l left c h =
        let e = both_read r plain S w.kept G k.stands.context L R (tree_of new q.0) (tree_of new q.1) k.stands.left k.stands.right l left c.comes in
        along (λ z. IsRowed false r f b left z (waits new s hs fs) (sides_in new hs forms)) (sym store_same)
        (along (λ z. IsRowed false r f b left S z (sides_in new hs forms)) (sym waits_same)
        (along (λ z. IsRowed false r f b left S (waits old s hs fs) (sides z (tree_of new q.0) (tree_of new q.1))) (sym context_same)
        (changed_is r f b l S (waits old s hs fs) (sides_in old hs p) h new q left c e.0 e.1)))

-- ---- the end

pub run_ends : (r : Rules) (f : ℕ → Unify Answer) (b l : ℕ) (bank : Terms) (s : Places) (hs : List Hypothesis) (fs : List Frame) (n : Next) → fs ≡ [] → IsAnswer n → Goes r f b l bank s hs fs n → ComesTo f b (done (answer_of bank s (said_by n)) l)
run_ends r f b l bank s hs fs (Next.Ask p) e a h = absurd a
run_ends r f b l bank s hs fs (Next.Reduce p) e a h = absurd a
run_ends r f b l bank s hs fs (Next.Answer said) e a h = ended r f b l (store_of bank s) (answer_of bank s said) (along (λ z. IsAnswered r f b l (store_of bank s) (waits bank s hs z) (answer_of bank s said)) e h)
