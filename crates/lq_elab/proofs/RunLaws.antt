-- Turn by turn to what is elaborated, and to the call's answer.
use Rattle.std.proofs.Common.{◌≡◌, ◌≤◌, ◌<◌, ◌+◌, ◌-◌, ◌*◌, ◌∙◌, ℕ, suc, refl, sym, ap, ap₂, arith, List, [], ◌∷◌, ◌++◌, append_assoc, append-nil, Option, None, Some, Result, Ok, Err}
use Rattle.std.proofs.Common.{subst as along}
use Rattle.std.proofs.Math.Path.{fun_ext}
use Rattle.lq_trees.specs.declared.Fit.{Fit}
use Rattle.lq_trees.specs.Tree.{Tree}
use Rattle.lq_trees.specs.Size.{fit}
use Rattle.lq_trees.specs.Ticks.{gives, fails, ◌>>=◌, done, within, ComesTo}
use Rattle.lq_trees.proofs.TickLaws.{bind_gives}
use Rattle.lq_trees.proofs.Outcomes.{comes_gives, comes_then}
use Rattle.lq_ast.specs.Syntax.{Surface}
use Rattle.lq_terms.specs.declared.nodes.NameId.{NameId}
use Rattle.lq_terms.specs.declared.nodes.TermId.{TermId}
use Rattle.lq_terms.specs.declared.nodes.Hypothesis.{Hypothesis}
use Rattle.lq_terms.specs.Terms.{Terms, HasTerm, Grows, tree_of}
use Rattle.lq_terms.specs.Contexts.{HasContext, context_of}
use Rattle.lq_terms.proofs.Tellings.{context_of-grown}
use Rattle.lq_solving.specs.Stores.{Store, read, count}
use Rattle.lq_solving.specs.Kept.{IsOver, IsStore, StandsIn}
use Rattle.lq_solving.specs.ElabFaults.{Elab, elab_fitting, elab_too_large, elab_too_deep}
use Rattle.lq_solving.specs.Elaboration.{Site as TreeSite, Found as TreeFound, found, elaborate, elaborate_call, numbers, made_between}
use Rattle.lq_solving.proofs.ElabSettled.{at}
use Rattle.lq_solving.proofs.ElabKept.{Grown, grown_then}
use Rattle.lq_evars.specs.Places.{Places, store_of, HasStore, GivesMore}
use Rattle.lq_evars.proofs.Growing.{store_of-grown, HasStore-grown}
use Rattle.lq_typing.specs.declared.faults.ElabFault.{ElabFault}
use Rattle.lq_typing.specs.Refusals.{Refuses}
use Rattle.lq_elab.specs.declared.finding.Found.{Found}
use Rattle.lq_elab.specs.declared.frames.Frame.{Frame}
use Rattle.lq_elab.specs.declared.scope.Meaning.{Meaning}
use Rattle.lq_elab.specs.declared.sites.Site.{Site}
use Rattle.lq_elab.specs.declared.turns.Turn.{Turn}
use Rattle.lq_elab.specs.Answers.{found_of}
use Rattle.lq_elab.specs.Making.{Restores}
use Rattle.lq_elab.specs.Naming.{meaning}
use Rattle.lq_elab.specs.Scopes.{IsScope}
use Rattle.lq_elab.specs.Waiting.{Leads, go_on, asked_work}
use Rattle.lq_elab.specs.Frames.{weights, spot_of, waits}
use Rattle.lq_elab.specs.Continuing.{IsNext}
use Rattle.lq_elab.specs.Running.{IsFound, found_at, IsEnd, Ends, limits}
use Rattle.lq_elab.specs.States.{IsSite, IsState, TurnStands, site_of, turn_work, due}
use Rattle.lq_elab.proofs.GoingLaws.{comes_same, leads_itself, leads_ends}
use Rattle.lq_elab.proofs.AnswerLaws.{refuses_first, refuses_rest, refuses_same, refuses_whole}

-- ---- one turn

-- a term was asked for
pub asked_continues : (bank : Terms) (c : Site) (S : Store) (s : Places) (hs : List Hypothesis) (es : List (NameId × Meaning)) (fs : List Frame) (t : Turn) (f : ℕ → Elab TreeFound) (b left most : ℕ) →
    IsState bank c s hs es fs → TurnStands bank s hs t → Grown S (store_of bank s) → weights fs + due t + 4 * left < most → Leads f (turn_work bank c s hs fs t) b left → IsNext bank c S s hs es fs t f b left most
asked_continues bank c S s hs es fs t f b left most state stands grown falls leads = record { state = state; stands = stands; grown = grown; falls = omega (arith, falls); leads = leads }

-- what waits is a little more once it is taken away
pub next_more : (bank : Terms) (c : Site) (S : Store) (s : Places) (hs : List Hypothesis) (es : List (NameId × Meaning)) (fs : List Frame) (t : Turn) (f : ℕ → Elab TreeFound) (b left most more : ℕ) → most ≤ more → IsNext bank c S s hs es fs t f b left most →
    IsNext bank c S s hs es fs t f b left more
next_more bank c S s hs es fs t f b left most more k h = record { state = h.state; stands = h.stands; grown = h.grown; falls = omega (arith, h.falls, k); leads = h.leads }

-- nothing waits
pub nothing_next : (bank : Terms) (c : Site) (s : Places) (hs : List Hypothesis) (es : List (NameId × Meaning)) (fs : List Frame) (t : Turn) (left : ℕ) → IsState bank c s hs es fs → TurnStands bank s hs t → Grown (store_of bank s) (store_of bank s) →
    IsNext bank c (store_of bank s) s hs es fs t (turn_work bank c s hs fs t) left left (weights fs + due t + 4 * left)
nothing_next bank c s hs es fs t left state stands grown = record { state = state; stands = stands; grown = grown; falls = omega arith; leads = leads_itself (turn_work bank c s hs fs t) left }

-- a store that is given back still is so where only values were given
pub restores_more : (before : Places) (saved : Option Places) (s t : Places) → GivesMore s t → Restores before saved s → Restores before saved t
restores_more before None s t m r = record {
  variables = m.variables ∙ r.variables;
  more = r.more ++ m.more;
  values = m.values ∙ ap (λ z. z ++ m.more) r.values ∙ append_assoc before.values r.more m.more;
}
restores_more before (Some k) s t m r = r

-- ---- further turns

module _ (f : ℕ → Elab TreeFound) (b l : ℕ) (first : Store) (old new : Terms) (g : Grows old new) (c : Site) (s : Places) (hs : List Hypothesis) (fs : List Frame) (turn : Turn) (has : HasStore old s) (grown : Grown first (store_of old s)) (leads : Leads f (turn_work old c s hs fs turn) b l) where
  pub goes_further : (s1 : Places) (ks : List Hypothesis) (es : List (NameId × Meaning)) (ps : List Frame) (t : Turn) (left most : ℕ) → IsNext new c (store_of old s) s1 ks es ps t (turn_work old c s hs fs turn) l left most → IsNext new c first s1 ks es ps t f b left most
  goes_further s1 ks es ps t left most h = record {
    state = h.state;
    stands = h.stands;
    grown = grown_then first (store_of old s) (store_of new s1) grown h.grown;
    falls = h.falls;
    leads = λ o k. leads o (h.leads o k);
  }

  pub refuses_further : (e : ElabFault) (left : ℕ) → Refuses new e (turn_work old c s hs fs turn) l left → Refuses new e f b left
  refuses_further e left h = refuses_whole new f (turn_work old c s hs fs turn) b l left leads e h

-- the last turn
pub last_ends : (bank : Terms) (c : Site) (S : Store) (s : Places) (hs : List Hypothesis) (es : List (NameId × Meaning)) (fs : List Frame) (x : Found) (f : ℕ → Elab TreeFound) (b left most : ℕ) → fs ≡ [] → IsNext bank c S s hs es fs (Turn.Found x) f b left most →
    IsEnd bank c S s x f b left
last_ends bank c S s hs es fs x f b left most e h =
    let n = along (λ z. IsNext bank c S s hs es z (Turn.Found x) f b left most) e h in record {
      has = n.state.store;
      grown = n.grown;
      term = n.stands.0;
      kind = n.stands.1;
      term_stands = along (λ z. StandsIn (store_of bank s) z (tree_of bank x.term)) n.state.frames n.stands.2;
      kind_stands = along (λ z. StandsIn (store_of bank s) z (tree_of bank x.kind)) n.state.frames n.stands.3;
      comes = leads_ends (site_of bank c) f b left (found_of bank s x) n.leads;
    }

pub turn_found : (t : Turn) (x : Found) → found_at t ≡ Some x → t ≡ Turn.Found x
turn_found (Turn.Ask a w) x e = absurd (grind (arith, e))
turn_found (Turn.Found y) x e = ap Turn.Found (some_is y x e)
  where
    some_is : (a d : Found) → Some a ≡ Some d → a ≡ d
    some_is a d q = grind (arith, q)

pub found_none : (t : Turn) → IsFound t → found_at t ≡ None → ⊥
found_none (Turn.Ask a w) h e = h
found_none (Turn.Found y) h e = grind (arith, e)

-- ---- the first turn

module _ (bank : Terms) (c : Site) (s : Places) (store : HasStore bank s) (kept : IsStore (store_of bank s)) (site : IsSite bank (store_of bank s) c) where
  pub state_first : (hs : List Hypothesis) (fs : List Frame) (es : List (NameId × Meaning)) → hs ≡ c.outer.now → fs ≡ [] → IsScope bank (meaning (site_of bank c) (spot_of bank c.outer.now [])) es → IsState bank c s hs es fs
  state_first hs fs es p q scope = along (λ z. IsState bank c s z es fs) (sym p) (along (λ z. IsState bank c s c.outer.now es z) (sym q) (record {
    store = store;
    kept = kept;
    site = site;
    context = site.outer;
    hypotheses = site.hypotheses;
    frames = refl;
    stand = tt;
    scope = scope;
  }))

-- with nothing that waits, the work is that of the definition
pub asked_is : (bank : Terms) (c : Site) (s : Places) (hs : List Hypothesis) (fs : List Frame) (t : Surface) (w : Option Tree) → hs ≡ c.outer.now → fs ≡ [] → (n : ℕ) →
    asked_work (site_of bank c) (waits bank hs fs) (spot_of bank hs fs) (store_of bank s) t w n ≡ elaborate (at n (site_of bank c)) [] (context_of bank c.outer.now) (store_of bank s) t w
unfolding go_on
asked_is bank c s hs fs t w p q n =
    ap₂ (λ ks ps. asked_work (site_of bank c) (waits bank ks ps) (spot_of bank ks ps) (store_of bank s) t w n) p q
    ∙ ap (λ k. elaborate (at n (site_of bank c)) [] (context_of bank c.outer.now) (store_of bank s) t w >>= k) (fun_ext (λ f. refl))
    ∙ bind_gives (elaborate (at n (site_of bank c)) [] (context_of bank c.outer.now) (store_of bank s) t w)

pub ends_same : (bank : Terms) (c : Site) (S : Store) (s : Places) (r : Result Found ElabFault) (f g : ℕ → Elab TreeFound) (b left : ℕ) → ((n : ℕ) → f n ≡ g n) → Ends bank c S s r f b left → Ends bank c S s r g b left
ends_same bank c S s (Ok x) f g b left q h = record {
  has = h.has;
  grown = h.grown;
  term = h.term;
  kind = h.kind;
  term_stands = h.term_stands;
  kind_stands = h.kind_stands;
  comes = comes_same g f b (done (found_of bank s x) left) (λ n. sym (q n)) h.comes;
}
ends_same bank c S s (Err e) f g b left q h = refuses_same bank f g b left (λ n. sym (q n)) e h

-- ---- the call: what was found keeps within the limits as it reads

pub fits_of : (T u : Tree) (left : ℕ) → ComesTo (λ n. elab_fitting T) left (done u left) → fit T ≡ Fit.Fits
unfolding elab_fitting within
fits_of T u left h = by (fit T) refl (h (suc left) (omega arith))
  where
    by : (o : Fit) → fit T ≡ o → within left (elim o as (λ z. Elab Tree) [ Fit.Fits ↦ gives T | Fit.TooLarge ↦ fails elab_too_large | Fit.TooDeep ↦ fails elab_too_deep ]) ≡ done u left → fit T ≡ Fit.Fits
    by Fit.Fits p q = p
    by Fit.TooLarge p q = absurd (grind (arith, q))
    by Fit.TooDeep p q = absurd (grind (arith, q))

-- the answer of the whole, in a bank that has grown
module _ (old new : Terms) (g : Grows old new) (c : Site) (S : Store) (s : Places) (x : Found) (context : HasContext old c.outer.now) (f : ℕ → Elab TreeFound) (b left : ℕ) (h : IsEnd old c S s x f b left) where
  store_is : store_of new s ≡ store_of old s
  store_is = store_of-grown old new g s h.has

  context_is : context_of new c.outer.now ≡ context_of old c.outer.now
  context_is = context_of-grown old new g c.outer.now context

  found_is : found_of new s x ≡ found_of old s x
  found_is = ap (λ z. found z (tree_of new x.term) (tree_of new x.kind)) store_is ∙ ap₂ (λ t k. found (store_of old s) t k) (g.tree x.term h.term) (g.tree x.kind h.kind)

  stands_still : (t : TermId) → HasTerm old t → StandsIn (store_of old s) (context_of old c.outer.now) (tree_of old t) → StandsIn (store_of new s) (context_of new c.outer.now) (tree_of new t)
  stands_still t k l =
      along (λ z. StandsIn z (context_of new c.outer.now) (tree_of new t)) (sym store_is)
      (along (λ z. StandsIn (store_of old s) z (tree_of new t)) (sym context_is) (along (StandsIn (store_of old s) (context_of old c.outer.now)) (sym (g.tree t k)) l))

  pub end_grown : (F : ℕ → Elab TreeFound) → ComesTo F b (done (found_of old s x) left) → IsEnd new c S s x F b left
  end_grown F comes = record {
    has = HasStore-grown old new g s h.has;
    grown = along (Grown S) (sym store_is) h.grown;
    term = omega (arith, h.term, g.nodes);
    kind = omega (arith, h.kind, g.nodes);
    term_stands = stands_still x.term h.term h.term_stands;
    kind_stands = stands_still x.kind h.kind h.kind_stands;
    comes = along (λ z. ComesTo F b (done z left)) (sym found_is) comes;
  }

  -- the type as it reads is the same there
  pub kind_reads : read (store_of new s) (tree_of new x.kind) ≡ read (store_of old s) (tree_of old x.kind)
  kind_reads = ap₂ read store_is (g.tree x.kind h.kind)

  pub term_reads : read (store_of new s) (tree_of new x.term) ≡ read (store_of old s) (tree_of old x.term)
  term_reads = ap₂ read store_is (g.tree x.term h.term)

-- the two limits
abbrev kind_limit : TreeFound → ℕ → Elab TreeFound
kind_limit f n = elab_fitting (read f.store f.kind) >>= (λ ok. gives f)

pub limits_pass : (f : TreeFound) (T K : Tree) (left : ℕ) → ComesTo (λ n. elab_fitting (read f.store f.term)) left (done T left) → ComesTo (λ n. elab_fitting (read f.store f.kind)) left (done K left) → ComesTo (λ n. limits f) left (done f left)
limits_pass f T K left k l =
    comes_then (λ n. elab_fitting (read f.store f.term)) (λ ok n. kind_limit f n) left T left (done f left) k
    (comes_then (λ n. elab_fitting (read f.store f.kind)) (λ ok n. gives f) left K left (done f left) l (comes_gives (λ n. gives f) f left (λ n. refl)))

pub term_passes_not : (f : TreeFound) (bank : Terms) (y : ElabFault) (left : ℕ) → Refuses bank y (λ n. elab_fitting (read f.store f.term)) left left → Refuses bank y (λ n. limits f) left left
term_passes_not f bank y left k = refuses_first bank (λ n. elab_fitting (read f.store f.term)) (λ ok n. kind_limit f n) left left y k

pub kind_passes_not : (f : TreeFound) (T : Tree) (bank : Terms) (y : ElabFault) (left : ℕ) → ComesTo (λ n. elab_fitting (read f.store f.term)) left (done T left) → Refuses bank y (λ n. elab_fitting (read f.store f.kind)) left left → Refuses bank y (λ n. limits f) left left
kind_passes_not f T bank y left k l =
    refuses_rest bank (λ n. elab_fitting (read f.store f.term)) (λ ok n. kind_limit f n) left T left left y k
    (refuses_first bank (λ n. elab_fitting (read f.store f.kind)) (λ ok n. gives f) left left y l)

-- the work of the call, by that of elaboration and the limits
module _ (e : TreeSite) (s : Store) (t : Surface) (w : Option Tree) (b left : ℕ) where
  abbrev pub whole : ℕ → Elab TreeFound
  whole n = elaborate_call (at n e) s t w

  abbrev pub inner : ℕ → Elab TreeFound
  inner n = elaborate (at n e) [] e.outer s t w

  pub call_passes : (f : TreeFound) → ComesTo inner b (done f left) → ComesTo (λ n. limits f) left (done f left) → ComesTo whole b (done f left)
  unfolding elaborate_call
  call_passes f h k = comes_then inner (λ z n. limits z) b f left (done f left) h k

  pub call_refuses : (bank : Terms) (y : ElabFault) → Refuses bank y inner b left → Refuses bank y whole b left
  unfolding elaborate_call
  call_refuses bank y h = refuses_first bank inner (λ z n. limits z) b left y h

  pub call_limited : (bank : Terms) (y : ElabFault) (f : TreeFound) → ComesTo inner b (done f left) → Refuses bank y (λ n. limits f) left left → Refuses bank y whole b left
  unfolding elaborate_call
  call_limited bank y f h k = refuses_rest bank inner (λ z n. limits z) b f left left y h k

-- a store and a term that are read, in a bank that has grown
module _ (old new : Terms) (g : Grows old new) (s : Places) (has : HasStore old s) where
  pub kept_there : IsStore (store_of old s) → IsStore (store_of new s)
  kept_there k = along IsStore (sym (store_of-grown old new g s has)) k

  pub over_there : (t : TermId) → HasTerm old t → IsOver (store_of old s).variables (tree_of old t) → IsOver (store_of new s).variables (tree_of new t)
  over_there t h o = along (λ z. IsOver z.variables (tree_of new t)) (sym (store_of-grown old new g s has)) (along (IsOver (store_of old s).variables) (sym (g.tree t h)) o)

  pub reads_there : (t : TermId) → HasTerm old t → read (store_of new s) (tree_of new t) ≡ read (store_of old s) (tree_of old t)
  reads_there t h = ap₂ read (store_of-grown old new g s has) (g.tree t h)

-- a measure falls from one turn to the next
pub falls_by : (t u : Turn) (x y z : ℕ) → t ≡ u → x < y + due t + z → x < y + due u + z
falls_by t u x y z e h = along (λ k. x < y + due k + z) e h

-- ---- the numbers of the variables that were made

pub numbers_step : (n e : ℕ) → n < e → numbers n (e - n) ≡ n ∷ numbers (n + 1) (e - (n + 1))
unfolding numbers
numbers_step n e h =
    let p : suc (e - (n + 1)) ≡ e - n = omega (arith, h) in
    let q : suc n ≡ n + 1 = omega arith in along (λ z. numbers n z ≡ n ∷ numbers (n + 1) (e - (n + 1))) p (ap (λ z. n ∷ numbers z (e - (n + 1))) q)

pub numbers_more : (xs : List ℕ) (n e : ℕ) → n < e → (xs ++ n ∷ []) ++ numbers (n + 1) (e - (n + 1)) ≡ xs ++ numbers n (e - n)
numbers_more xs n e h = append_assoc xs (n ∷ []) (numbers (n + 1) (e - (n + 1))) ∙ ap (λ z. xs ++ z) (sym (numbers_step n e h))

pub numbers_are : (xs : List ℕ) (n e : ℕ) (s s1 : Store) → xs ≡ numbers n (e - n) → n ≡ count s → e ≡ count s1 → xs ≡ made_between s s1
unfolding made_between
numbers_are xs n e s s1 h p q = h ∙ ap₂ (λ a b. numbers a (b - a)) p q

pub numbers_end : (xs : List ℕ) (n e : ℕ) → e ≤ n → xs ≡ xs ++ numbers n (e - n)
unfolding numbers
numbers_end xs n e h = let p : 0 ≡ e - n = omega (arith, h) in sym (append-nil xs) ∙ ap (λ z. xs ++ numbers n z) p
