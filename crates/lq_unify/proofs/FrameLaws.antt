-- What waits means the same in a bank that has grown, by more hypotheses, and in a store with more values.
use Rattle.std.proofs.Common.{◌≡◌, ◌≤◌, ◌∙◌, ℕ, refl, sym, ap, ap₂, arith, List, [], ◌∷◌, ◌++◌, length, take, drop, Option, Some, None}
use Rattle.std.proofs.Common.{subst as along}
use Rattle.std.specs.List.{AllByRecursion}
use Rattle.std.proofs.lemmas.List.{take-take, take-append-le}
use Rattle.lq_trees.specs.Tree.{Context}
use Rattle.lq_terms.specs.declared.nodes.Hypothesis.{Hypothesis}
use Rattle.lq_terms.specs.Terms.{Terms, HasTerm, Grows, tree_of}
use Rattle.lq_terms.specs.Contexts.{HasContext, context_of}
use Rattle.lq_terms.proofs.Tellings.{HasContext-grown, context_of-grown}
use Rattle.lq_solving.specs.Stores.{Store}
use Rattle.lq_solving.specs.Kept.{IsStore}
use Rattle.lq_solving.specs.Unification.{sides}
use Rattle.lq_solving.specs.Waiting.{Waiting, parts, reducing}
use Rattle.lq_solving.proofs.Later.{Later, later_trans}
use Rattle.lq_evars.specs.Places.{Places, store_of, HasStore}
use Rattle.lq_evars.proofs.Growing.{store_of-grown, HasStore-grown}
use Rattle.lq_unify.specs.declared.pairs.Under.{Under}
use Rattle.lq_unify.specs.declared.forms.Form.{Form}
use Rattle.lq_unify.specs.declared.frames.Parts.{Parts}
use Rattle.lq_unify.specs.declared.frames.Frame.{Frame}
use Rattle.lq_unify.specs.Pairs.{HasPair}
use Rattle.lq_unify.specs.Forms.{under_in, HasUnder, HasForm, form_in}
use Rattle.lq_unify.specs.Frames.{with_values, parts_in, waits, AreNested, HasFrame, WaitingStand, IsWork}
use Rattle.lq_unify.proofs.ApplicationLaws.{all_take, all_drop}
use Rattle.lq_unify.proofs.FormLaws.{pairs_grown, sides_grown}
use Rattle.lq_unify.proofs.StandLaws.{all_keep}

-- ---- a bank that has grown

module _ (old new : Terms) (g : Grows old new) where
  under_grown : (c : Context) (o : Option Under) → HasUnder old o → (under_in new c o ≡ under_in old c o) × HasUnder new o
  under_grown c None h = (refl, tt)
  under_grown c (Some u) h = (
    ap₂ (λ a b. sides (c ++ a) b (tree_of new u.pair.right) ∷ []) (context_of-grown old new g (u.variable ∷ []) (h.0, tt)) (g.tree u.pair.left h.1.0)
        ∙ ap (λ b. sides (c ++ context_of old (u.variable ∷ [])) (tree_of old u.pair.left) b ∷ []) (g.tree u.pair.right h.1.1),
    ((HasContext-grown old new g (u.variable ∷ []) (h.0, tt)).0, (omega (arith, h.1.0, g.nodes), omega (arith, h.1.1, g.nodes))),
  )

  pub form_there : (f : Form) → HasForm old f → HasForm new f
  form_there f h = record { pairs = pairs_grown old new g f.pairs.items h.pairs; under = (under_grown [] f.under h.under).1 }

  pub form_grown : (c : Context) (f : Form) → HasForm old f → form_in new c f ≡ form_in old c f
  form_grown c f h = ap₂ (λ a b. a ++ b) (sides_grown old new g c f.pairs.items h.pairs) (under_grown c f.under h.under).0

  parts_grown : (c : Context) (p : Parts) → HasForm old p.form → parts_in new c p ≡ parts_in old c p
  parts_grown c p h = ap₂ (λ a b. a ++ b) (sides_grown old new g c (drop p.next p.form.pairs.items) (all_drop (HasPair old) p.next p.form.pairs.items h.pairs)) (under_grown c p.form.under h.under).0

  pub values_kept : (n : ℕ) (s : Places) → HasStore old s → HasStore old (with_values n s)
  values_kept n s h = record { variables = h.variables; values = all_take (λ a. HasTerm old a.1) n s.values h.values }

  pub waits_grown : (s : Places) (hs : List Hypothesis) (fs : List Frame) → HasStore old s → HasContext old hs → AllByRecursion (HasFrame old) fs → waits new s hs fs ≡ waits old s hs fs
  waits_grown s hs [] h k f = refl
  waits_grown s hs (Frame.Parts p ∷ fs) h k f =
      let c = all_take _ p.mark hs k in
      ap₂ (λ a b. parts a ∷ b) (ap (λ z. parts_in new z p) (context_of-grown old new g (take p.mark hs) c) ∙ parts_grown (context_of old (take p.mark hs)) p f.0) (waits_grown s (take p.mark hs) fs h c f.1)
  waits_grown s hs (Frame.Reducing r ∷ fs) h k f =
      let c = all_take _ r.mark hs k in
      let v = values_kept r.given s h in
      ap₂ (λ a b. reducing a b (tree_of new r.pair.left) (tree_of new r.pair.right) ∷ waits new (with_values r.given s) (take r.mark hs) fs) (context_of-grown old new g (take r.mark hs) c) (store_of-grown old new g (with_values r.given s) v)
      ∙ ap₂ (λ a b. reducing (context_of old (take r.mark hs)) (store_of old (with_values r.given s)) a b ∷ waits new (with_values r.given s) (take r.mark hs) fs) (g.tree r.pair.left f.0.0) (g.tree r.pair.right f.0.1)
      ∙ ap (λ b. reducing (context_of old (take r.mark hs)) (store_of old (with_values r.given s)) (tree_of old r.pair.left) (tree_of old r.pair.right) ∷ b) (waits_grown (with_values r.given s) (take r.mark hs) fs v c f.1)

  frame_there : (f : Frame) → HasFrame old f → HasFrame new f
  frame_there (Frame.Parts p) h = form_there p.form h
  frame_there (Frame.Reducing r) h = (omega (arith, h.0, g.nodes), omega (arith, h.1, g.nodes))

  frames_there : (fs : List Frame) → AllByRecursion (HasFrame old) fs → AllByRecursion (HasFrame new) fs
  frames_there [] h = tt
  frames_there (f ∷ fs) h = (frame_there f h.0, frames_there fs h.1)

  pub work_grown : (s : Places) (hs : List Hypothesis) (fs : List Frame) → IsWork old s hs fs → IsWork new s hs fs
  work_grown s hs fs w = record {
    store = HasStore-grown old new g s w.store;
    kept = along IsStore (sym (store_of-grown old new g s w.store)) w.kept;
    context = HasContext-grown old new g hs w.context;
    frames = frames_there fs w.frames;
    nested = w.nested;
    stand = along (λ z. WaitingStand z (waits new s hs fs)) (sym (store_of-grown old new g s w.store)) (along (WaitingStand (store_of old s)) (sym (waits_grown s hs fs w.store w.context w.frames)) w.stand);
  }

-- ---- hypotheses

-- two lists begin with the same
abbrev pub SameUpTo : {A : Type 0} → ℕ → List A → List A → Type 0
SameUpTo n xs ys = (k : ℕ) → k ≤ n → take k xs ≡ take k ys

pub same_longer : {A : Type 0} (xs ys : List A) → SameUpTo (length xs) (xs ++ ys) xs
same_longer xs ys k l = take-append-le k xs ys l

pub same_shorter : {A : Type 0} (n : ℕ) (xs : List A) → SameUpTo n (take n xs) xs
same_shorter n xs k l = take-take k n xs l

module _ (bank : Terms) where
  pub waits_hypotheses : (s : Places) (hs js : List Hypothesis) (v m : ℕ) (fs : List Frame) → SameUpTo m js hs → AreNested v m fs → waits bank s js fs ≡ waits bank s hs fs
  waits_hypotheses s hs js v m [] e h = refl
  waits_hypotheses s hs js v m (Frame.Parts p ∷ fs) e h = ap (λ z. parts (parts_in bank (context_of bank z) p) ∷ waits bank s z fs) (e p.mark h.0)
  waits_hypotheses s hs js v m (Frame.Reducing r ∷ fs) e h =
      ap (λ z. reducing (context_of bank z) (store_of bank (with_values r.given s)) (tree_of bank r.pair.left) (tree_of bank r.pair.right) ∷ waits bank (with_values r.given s) z fs) (e r.mark h.0)

  -- values
  pub waits_values : (s s1 : Places) (hs : List Hypothesis) (v m : ℕ) (fs : List Frame) → s1.variables ≡ s.variables → SameUpTo v s1.values s.values → AreNested v m fs → waits bank s1 hs fs ≡ waits bank s hs fs
  waits_values s s1 hs v m [] d e h = refl
  waits_values s s1 hs v m (Frame.Parts p ∷ fs) d e h = ap (λ z. parts (parts_in bank (context_of bank (take p.mark hs)) p) ∷ z) (waits_values s s1 (take p.mark hs) v p.mark fs d e h.1)
  waits_values s s1 hs v m (Frame.Reducing r ∷ fs) d e h =
      ap (λ z. reducing (context_of bank (take r.mark hs)) (store_of bank z) (tree_of bank r.pair.left) (tree_of bank r.pair.right) ∷ waits bank z (take r.mark hs) fs)
      (ap₂ (λ a b. record { variables = a; values = b }) d (e r.given h.1))

-- ---- what is nested stays nested

pub nested_more : (v w m n : ℕ) (fs : List Frame) → v ≤ w → m ≤ n → AreNested v m fs → AreNested w n fs
nested_more v w m n [] l k h = tt
nested_more v w m n (Frame.Parts p ∷ fs) l k h = (omega (arith, h.0, k), nested_more v w p.mark p.mark fs l (omega arith) h.1)
nested_more v w m n (Frame.Reducing r ∷ fs) l k h = (omega (arith, h.0, k), omega (arith, h.1, l), h.2)

-- ---- later stores

pub waiting_keep : {s s1 : Store} → Later s s1 → IsStore s → (ws : List Waiting) → WaitingStand s ws → WaitingStand s1 ws
waiting_keep l i [] h = tt
waiting_keep l i (parts ps ∷ ws) h = (all_keep l i ps h.0, waiting_keep l i ws h.1)
waiting_keep l i (reducing g s0 t u ∷ ws) h = (h.0, later_trans h.1 l, h.2, h.3)
