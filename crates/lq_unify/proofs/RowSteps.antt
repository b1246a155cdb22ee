-- The rows lead on to the outcome of the call.
use Rattle.std.proofs.Common.{◌≡◌, ◌<◌, ◌+◌, ◌^◌, ◌∙◌, ℕ, refl, sym, ap, ap₂, arith, Bool, true, false, List, ◌∷◌, length, take, Option, Some, None, length-append, Ok, Err}
use Rattle.std.proofs.Common.{subst as along}
use Rattle.std.specs.List.{AllByRecursion}
use Rattle.std.proofs.Math.Seq.{take-length}
use Rattle.lq_trees.specs.Tree.{Name, Tree, Context}
use Rattle.lq_trees.specs.Hypotheses.{HoldsOnly}
use Rattle.lq_trees.specs.Rules.{Rules}
use Rattle.lq_terms.specs.declared.nodes.Hypothesis.{Hypothesis}
use Rattle.lq_terms.specs.Terms.{Terms, Grows, tree_of}
use Rattle.lq_terms.specs.Contexts.{HasContext, context_of, hypothesis_of}
use Rattle.std.proofs.lemmas.List.{length-map}
use Rattle.lq_terms.proofs.Tellings.{context_of-grown}
use Rattle.lq_solving.specs.Stores.{Store, read}
use Rattle.lq_trees.specs.Index.{Within}
use Rattle.lq_solving.specs.Kept.{IsStore, IsOver, Stands}
use Rattle.lq_solving.specs.Unification.{Unify, Answer, Sides, sides, one_variable, by_solving, parts_by_form, unify_too_large, unify_too_deep}
use Rattle.lq_solving.specs.Waiting.{Waiting, parts, reducing}
use Rattle.lq_solving.proofs.Later.{Later, now}
use Rattle.lq_evars.specs.Places.{Places, store_of, HasStore, GivesMore}
use Rattle.lq_evars.proofs.Growing.{store_of-grown}
use Rattle.lq_unify.specs.declared.faults.UnifyFault.{UnifyFault}
use Rattle.lq_unify.specs.declared.pairs.Pair.{Pair}
use Rattle.lq_unify.specs.declared.forms.Form.{Form}
use Rattle.lq_unify.specs.declared.frames.Parts.{Parts}
use Rattle.lq_unify.specs.declared.frames.Reducing.{Reducing}
use Rattle.lq_unify.specs.declared.frames.Frame.{Frame}
use Rattle.lq_unify.specs.Heads.{HasOpenHead}
use Rattle.lq_unify.specs.Pairs.{HasPair}
use Rattle.lq_unify.specs.Forms.{HasForm, form_in}
use Rattle.lq_unify.specs.Standing.{SidesStand, AllStand}
use Rattle.lq_unify.specs.Working.{IsAnswered, IsReducing, IsRowed}
use Rattle.lq_unify.specs.Solving.{SolvesOr, GivesOn}
use Rattle.lq_unify.specs.Frames.{with_values, sides_in, parts_in, waits, HasFrame, WaitingStand, IsWork}
use Rattle.lq_unify.specs.Turns.{PairStands, HasAnswer, Stops, NoRow, looked}
use Rattle.lq_unify.proofs.FrameLaws.{waits_grown, work_grown, SameUpTo, same_longer, waits_values, nested_more, waiting_keep}
use Rattle.lq_unify.proofs.FrameSteps.{full, parts_wait}
use Rattle.lq_unify.proofs.StandLaws.{form_stands, one_stands}
use Rattle.lq_unify.proofs.StepLaws.{row_one, row_formed, form_again, row_none, none_again, solved_yes, solved_no, solved_fails}

-- ---- terms that read the same

pub stands_as : (s : Store) (xs : List Name) (t u : Tree) → IsOver s.variables u → Within 0 u → read s u ≡ read s t → Stands s xs t → Stands s xs u
stands_as s xs t u o w e h = record { over = o; within = w; holds = along (HoldsOnly xs) (sym e) h.holds }

pub rowed_as : (first : Bool) (r : Rules) (f : ℕ → Unify Answer) (b l : ℕ) (s : Store) (vs : List Waiting) (g : Context) (t u t1 u1 : Tree) → read s t1 ≡ read s t → read s u1 ≡ read s u → IsRowed first r f b l s vs (sides g t u) → IsRowed first r f b l s vs (sides g t1 u1)
rowed_as true r f b l s vs g t u t1 u1 e d h = record {
  waits = h.waits;
  same = h.same;
  context = h.context;
  reads = h.reads;
  leads = rw (e, d) h.leads;
}
rowed_as false r f b l s vs g t u t1 u1 e d h = record {
  waits = h.waits;
  same = h.same;
  context = h.context;
  reads = h.reads;
  leads = rw (e, d) h.leads;
}

-- a pair stands in a bank that has grown
module _ (old new : Terms) (g : Grows old new) (s : Places) (hs : List Hypothesis) (h : HasStore old s) (c : HasContext old hs) where
  sides_grown : (p : Pair) → HasPair old p → sides_in new hs p ≡ sides_in old hs p
  sides_grown p k = ap₂ (λ a b. sides a b (tree_of new p.right)) (context_of-grown old new g hs c) (g.tree p.left k.0) ∙ ap (λ b. sides (context_of old hs) (tree_of old p.left) b) (g.tree p.right k.1)

  pub pair_grown : (p : Pair) → PairStands old s hs p → PairStands new s hs p
  pair_grown p k = record {
    has = (omega (arith, k.has.0, g.nodes), omega (arith, k.has.1, g.nodes));
    stands = along (λ z. SidesStand z (sides_in new hs p)) (sym (store_of-grown old new g s h)) (along (SidesStand (store_of old s)) (sym (sides_grown p k.has)) k.stands);
  }

  pub rowed_grown : (first : Bool) (r : Rules) (f : ℕ → Unify Answer) (b l : ℕ) (fs : List Frame) (p : Pair) → AllByRecursion (HasFrame old) fs → HasPair old p → IsRowed first r f b l (store_of old s) (waits old s hs fs) (sides_in old hs p) → IsRowed first r f b l (store_of new s) (waits new s hs fs) (sides_in new hs p)
  rowed_grown first r f b l fs p k m i =
      along (λ z. IsRowed first r f b l z (waits new s hs fs) (sides_in new hs p)) (sym (store_of-grown old new g s h))
      (along (λ z. IsRowed first r f b l (store_of old s) z (sides_in new hs p)) (sym (waits_grown old new g s hs fs h c k))
      (along (IsRowed first r f b l (store_of old s) (waits old s hs fs)) (sym (sides_grown p m)) i))

-- ---- parts wait

module _ (bank : Terms) (s : Places) (hs : List Hypothesis) (fs : List Frame) where
  -- a call that may go to weak head forms
  module _ (p : Pair) (q : Reducing) (mark : q.mark ≡ length hs) (given : q.given ≡ length s.values) (pair : q.pair ≡ p) where
    same_store : with_values q.given s ≡ s
    same_store = ap (λ z. record { variables = s.variables; values = z }) (ap (λ n. take n s.values) given ∙ take-length s.values)

    pub look_waits : waits bank s hs (Frame.Reducing q ∷ fs) ≡ reducing (context_of bank hs) (store_of bank s) (tree_of bank p.left) (tree_of bank p.right) ∷ waits bank s hs fs
    look_waits =
        ap (λ z. reducing (context_of bank z) (store_of bank (with_values q.given s)) (tree_of bank q.pair.left) (tree_of bank q.pair.right) ∷ waits bank (with_values q.given s) z fs) (full q.mark hs mark)
        ∙ ap₂ (λ y z. reducing (context_of bank hs) (store_of bank y) (tree_of bank z.left) (tree_of bank z.right) ∷ waits bank y hs fs) same_store pair

    pub look_work : IsWork bank s hs fs → PairStands bank s hs p → IsWork bank s hs (Frame.Reducing q ∷ fs)
    look_work w k = record {
      store = w.store;
      kept = w.kept;
      context = w.context;
      frames = (along (HasPair bank) (sym pair) k.has, w.frames);
      nested = (omega (arith, mark), omega (arith, given), nested_more (length s.values) q.given (length hs) q.mark fs (omega (arith, given)) (omega (arith, mark)) w.nested);
      stand = along (WaitingStand (store_of bank s)) (sym look_waits) (w.kept, now, k.stands, w.stand);
    }

  module _ (p : Parts) (mark : p.mark ≡ length hs) (next : p.next ≡ 0) where
    pub form_waits : waits bank s hs (Frame.Parts p ∷ fs) ≡ parts (form_in bank (context_of bank hs) p.form) ∷ waits bank s hs fs
    form_waits = parts_wait bank s hs fs p mark ∙ ap (λ n. parts (parts_in bank (context_of bank hs) (record { mark = p.mark; next = n; form = p.form })) ∷ waits bank s hs fs) next

    pub form_work : IsWork bank s hs fs → HasForm bank p.form → AllStand (store_of bank s) (form_in bank (context_of bank hs) p.form) → IsWork bank s hs (Frame.Parts p ∷ fs)
    form_work w k a = record {
      store = w.store;
      kept = w.kept;
      context = w.context;
      frames = (k, w.frames);
      nested = (omega (arith, mark), nested_more (length s.values) (length s.values) (length hs) p.mark fs (omega arith) (omega (arith, mark)) w.nested);
      stand = along (WaitingStand (store_of bank s)) (sym form_waits) (a, w.stand);
    }

-- ---- rows by forms

module _ (r : Rules) (f : ℕ → Unify Answer) (b l : ℕ) (s : Store) (i : IsStore s) (vs : List Waiting) (p : Sides) (a : HasOpenHead s.values p.left) (c : HasOpenHead s.values p.right)
    (e : one_variable p.context p.left p.right ≡ None) (k : by_solving s (read s p.left) (read s p.right) ≡ None) where
  pub formed_answer : (first : Bool) (ps : List Sides) → IsRowed first r f b l s vs p → parts_by_form p.context p.left p.right ≡ Some ps → IsAnswered r f b l s (parts ps ∷ looked first p.context s p.left p.right vs) (Some s)
  formed_answer true ps h j = row_formed r f b l s i vs p a c ps h e k j
  formed_answer false ps h j = form_again r f b l s i vs p a c ps h e k j

  -- none applies
  pub no_row_first : IsRowed true r f b l s vs p → parts_by_form p.context p.left p.right ≡ None → IsReducing r f b l s vs p
  no_row_first h j = row_none r f b l s i vs p a c h e k j

  pub no_row_again : IsRowed false r f b l s vs p → parts_by_form p.context p.left p.right ≡ None → IsAnswered r f b l s vs None
  no_row_again h j = none_again r f b l s i vs p a c h e k j

-- ---- in a bank that has grown

pub parts_there : (old new : Terms) → Grows old new → (s : Places) (hs : List Hypothesis) → HasStore old s → HasContext old hs → (form : Form) → AllStand (store_of old s) (form_in new (context_of old hs) form) → AllStand (store_of new s) (form_in new (context_of new hs) form)
parts_there old new g s hs k c form h = along (λ z. AllStand z (form_in new (context_of new hs) form)) (sym (store_of-grown old new g s k)) (along (λ z. AllStand (store_of old s) (form_in new z form)) (sym (context_of-grown old new g hs c)) h)

module _ (r : Rules) (f : ℕ → Unify Answer) (b l : ℕ) (old new : Terms) (g : Grows old new) (s : Places) (hs : List Hypothesis) (fs : List Frame) (w : IsWork old s hs fs) (p : Pair) (k : HasPair old p) where
  store_same : store_of new s ≡ store_of old s
  store_same = store_of-grown old new g s w.store

  context_same : context_of new hs ≡ context_of old hs
  context_same = context_of-grown old new g hs w.context

  waits_same : waits new s hs fs ≡ waits old s hs fs
  waits_same = waits_grown old new g s hs fs w.store w.context w.frames

  pub row_ends : (first : Bool) (form : Form) (gs : List Frame) →
      waits new s hs gs ≡ parts (form_in new (context_of new hs) form) ∷ looked first (context_of new hs) (store_of new s) (tree_of new p.left) (tree_of new p.right) (waits new s hs fs) →
      IsAnswered r f b l (store_of old s) (parts (form_in new (context_of old hs) form) ∷ looked first (context_of old hs) (store_of old s) (tree_of old p.left) (tree_of old p.right) (waits old s hs fs)) (Some (store_of old s)) →
      HasAnswer r f b l new s hs gs true
  row_ends first form gs e h =
      along (λ z. IsAnswered r f b l (store_of new s) z (Some (store_of new s))) (sym e)
      (along (λ z. IsAnswered r f b l (store_of new s) (parts (form_in new z form) ∷ looked first z (store_of new s) (tree_of new p.left) (tree_of new p.right) (waits new s hs fs)) (Some (store_of new s))) (sym context_same)
      (along (λ z. IsAnswered r f b l z (parts (form_in new (context_of old hs) form) ∷ looked first (context_of old hs) z (tree_of new p.left) (tree_of new p.right) (waits new s hs fs)) (Some z)) (sym store_same)
      (along (λ z. IsAnswered r f b l (store_of old s) (parts (form_in new (context_of old hs) form) ∷ looked first (context_of old hs) (store_of old s) z (tree_of new p.right) (waits new s hs fs)) (Some (store_of old s))) (sym (g.tree p.left k.0))
      (along (λ z. IsAnswered r f b l (store_of old s) (parts (form_in new (context_of old hs) form) ∷ looked first (context_of old hs) (store_of old s) (tree_of old p.left) z (waits new s hs fs)) (Some (store_of old s))) (sym (g.tree p.right k.1))
      (along (λ z. IsAnswered r f b l (store_of old s) (parts (form_in new (context_of old hs) form) ∷ looked first (context_of old hs) (store_of old s) (tree_of old p.left) (tree_of old p.right) z) (Some (store_of old s))) (sym waits_same) h)))))

  pub reduce_ends : IsReducing r f b l (store_of old s) (waits old s hs fs) (sides_in old hs p) → NoRow true r f b l new s hs fs p
  reduce_ends h =
      along (λ z. IsReducing r f b l z (waits new s hs fs) (sides_in new hs p)) (sym store_same)
      (along (λ z. IsReducing r f b l (store_of old s) z (sides_in new hs p)) (sym waits_same)
      (along (IsReducing r f b l (store_of old s) (waits old s hs fs)) (sym (sides_grown old new g s hs w.store w.context p k)) h))

  pub no_ends : IsAnswered r f b l (store_of old s) (waits old s hs fs) None → NoRow false r f b l new s hs fs p
  no_ends h =
      along (λ z. IsAnswered r f b l z (waits new s hs fs) None) (sym store_same)
      (along (λ z. IsAnswered r f b l (store_of old s) z None) (sym waits_same) h)

-- ---- a variable was solved

module _ (old new : Terms) (g : Grows old new) (s : Places) (hs : List Hypothesis) (fs : List Frame) (w : IsWork old s hs fs) (t : Places) (more : GivesMore s t) where
  begins : SameUpTo (length s.values) t.values s.values
  begins = along (λ z. SameUpTo (length s.values) z s.values) (sym more.values) (same_longer s.values more.more)

  waits_more : waits new t hs fs ≡ waits old s hs fs
  waits_more = waits_values new s t hs (length s.values) (length hs) fs more.variables begins w.nested ∙ waits_grown old new g s hs fs w.store w.context w.frames

  pub more_work : GivesOn old new s t → IsWork new t hs fs
  more_work h = record {
    store = h.has;
    kept = h.kept;
    context = (work_grown old new g s hs fs w).context;
    frames = (work_grown old new g s hs fs w).frames;
    nested = nested_more (length s.values) (length t.values) (length hs) (length hs) fs (omega (arith, many)) (omega arith) w.nested;
    stand = along (WaitingStand (store_of new t)) (sym waits_more) (waiting_keep h.later w.kept (waits old s hs fs) w.stand);
  }
    where
      many : length t.values ≡ length s.values + length more.more
      many = ap length more.values ∙ length-append s.values more.more

  module _ (p : Pair) (k : HasPair old p) (r : Rules) (f : ℕ → Unify Answer) (b l : ℕ) where
    module _ (first : Bool) (h : IsRowed first r f b l (store_of old s) (waits old s hs fs) (sides_in old hs p)) (e : one_variable (context_of old hs) (tree_of old p.left) (tree_of old p.right) ≡ None)
        (a : HasOpenHead (store_of old s).values (tree_of old p.left)) (c : HasOpenHead (store_of old s).values (tree_of old p.right)) where
      -- what the definition says of solving
      abbrev pub solving : Option (Unify Answer)
      solving = by_solving (store_of old s) (read (store_of old s) (tree_of old p.left)) (read (store_of old s) (tree_of old p.right))

      pub solved_turn : (said : Bool) → SolvesOr new (Ok (Some said)) t solving → Later (store_of old s) (store_of new t) → (said ≡ false → t ≡ s) → HasAnswer r f b l new t hs fs said
      solved_turn true q later same =
          along (λ z. IsAnswered r f b l (store_of new t) z (Some (store_of new t))) (sym waits_more) (solved_yes r f b l (store_of old s) w.kept (waits old s hs fs) (sides_in old hs p) a c first (store_of new t) later h e q)
      solved_turn false q later same =
          along (λ z. IsAnswered r f b l (store_of new z) (waits new z hs fs) None) (sym (same refl)) (no_ends r f b l old new g s hs fs w p k (solved_no r f b l (store_of old s) w.kept (waits old s hs fs) (sides_in old hs p) a c first h e q))

      pub solving_stops : (y : UnifyFault) → SolvesOr new (Err y) t solving → Stops f b l y
      solving_stops UnifyFault.TooLarge q = solved_fails r f b l (store_of old s) w.kept (waits old s hs fs) (sides_in old hs p) a c first unify_too_large h e q
      solving_stops UnifyFault.TooDeep q = solved_fails r f b l (store_of old s) w.kept (waits old s hs fs) (sides_in old hs p) a c first unify_too_deep h e q
      solving_stops UnifyFault.StepsOut q = absurd q
      solving_stops UnifyFault.NoMemory q = tt

-- ---- the parts of two terms that stand

module _ (old new : Terms) (g : Grows old new) (s : Places) (hs : List Hypothesis) (fs : List Frame) (w : IsWork old s hs fs) (p : Pair) (k : PairStands old s hs p) (few : length hs < 10 ^ 64)
    (a : HasOpenHead (store_of old s).values (tree_of old p.left)) (c : HasOpenHead (store_of old s).values (tree_of old p.right)) where
  few_here : length (context_of old hs) < 10 ^ 64
  few_here = along (λ n. n < 10 ^ 64) (sym (length-map hs (hypothesis_of old))) few

  -- by forms
  module _ (form : Form) (e : parts_by_form (context_of old hs) (tree_of old p.left) (tree_of old p.right) ≡ Some (form_in new (context_of old hs) form)) where
    pub formed_stand : AllStand (store_of new s) (form_in new (context_of new hs) form)
    formed_stand =
        parts_there old new g s hs w.store w.context form
        (form_stands (store_of old s) w.kept (context_of old hs) few_here k.stands.context (tree_of old p.left) (tree_of old p.right) (form_in new (context_of old hs) form) k.stands.left k.stands.right e)

    pub formed_goes : (first : Bool) (r : Rules) (f : ℕ → Unify Answer) (b l : ℕ) (gs : List Frame) →
        waits new s hs gs ≡ parts (form_in new (context_of new hs) form) ∷ looked first (context_of new hs) (store_of new s) (tree_of new p.left) (tree_of new p.right) (waits new s hs fs) →
        IsRowed first r f b l (store_of old s) (waits old s hs fs) (sides_in old hs p) → one_variable (context_of old hs) (tree_of old p.left) (tree_of old p.right) ≡ None →
        by_solving (store_of old s) (read (store_of old s) (tree_of old p.left)) (read (store_of old s) (tree_of old p.right)) ≡ None → HasAnswer r f b l new s hs gs true
    formed_goes first r f b l gs q h n m =
        row_ends r f b l old new g s hs fs w p k.has first form gs q (formed_answer r f b l (store_of old s) w.kept (waits old s hs fs) (sides_in old hs p) a c n m first (form_in new (context_of old hs) form) h e)

  pub unformed_goes : (first : Bool) (r : Rules) (f : ℕ → Unify Answer) (b l : ℕ) → parts_by_form (context_of old hs) (tree_of old p.left) (tree_of old p.right) ≡ None →
      IsRowed first r f b l (store_of old s) (waits old s hs fs) (sides_in old hs p) → one_variable (context_of old hs) (tree_of old p.left) (tree_of old p.right) ≡ None →
      by_solving (store_of old s) (read (store_of old s) (tree_of old p.left)) (read (store_of old s) (tree_of old p.right)) ≡ None → NoRow first r f b l new s hs fs p
  unformed_goes true r f b l e h n m = reduce_ends r f b l old new g s hs fs w p k.has (no_row_first r f b l (store_of old s) w.kept (waits old s hs fs) (sides_in old hs p) a c n m h e)
  unformed_goes false r f b l e h n m = no_ends r f b l old new g s hs fs w p k.has (no_row_again r f b l (store_of old s) w.kept (waits old s hs fs) (sides_in old hs p) a c n m h e)

-- ---- one variable on both sides

module _ (bank : Terms) (s : Places) (hs : List Hypothesis) (fs : List Frame) (w : IsWork bank s hs fs) (p : Pair) (k : PairStands bank s hs p) (few : length hs < 10 ^ 64)
    (a : HasOpenHead (store_of bank s).values (tree_of bank p.left)) (c : HasOpenHead (store_of bank s).values (tree_of bank p.right))
    (form : Form) (e : one_variable (context_of bank hs) (tree_of bank p.left) (tree_of bank p.right) ≡ Some (form_in bank (context_of bank hs) form)) where
  pub one_stand : AllStand (store_of bank s) (form_in bank (context_of bank hs) form)
  one_stand = one_stands (store_of bank s) w.kept (context_of bank hs) (along (λ n. n < 10 ^ 64) (sym (length-map hs (hypothesis_of bank))) few) k.stands.context (tree_of bank p.left) (tree_of bank p.right) (form_in bank (context_of bank hs) form) a c k.stands.left k.stands.right e

  pub one_goes : (first : Bool) (r : Rules) (f : ℕ → Unify Answer) (b l : ℕ) (gs : List Frame) → waits bank s hs gs ≡ parts (form_in bank (context_of bank hs) form) ∷ waits bank s hs fs →
      IsRowed first r f b l (store_of bank s) (waits bank s hs fs) (sides_in bank hs p) → HasAnswer r f b l bank s hs gs true
  one_goes first r f b l gs q h =
      along (λ z. IsAnswered r f b l (store_of bank s) z (Some (store_of bank s))) (sym q) (row_one r f b l (store_of bank s) w.kept (waits bank s hs fs) (sides_in bank hs p) a c first (form_in bank (context_of bank hs) form) h e)
