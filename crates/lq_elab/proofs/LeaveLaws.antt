-- Back from under a binder: the state outside it, and what stands there.
use Rattle.std.proofs.Common.{◌≡◌, ◌≤◌, ◌+◌, ◌*◌, ◌∙◌, ℕ, refl, sym, ap, ap₂, arith, Bool, true, false, ◌||◌, List, [], ◌∷◌, ◌++◌, Option, None, Some, Result, Ok, Err}
use Rattle.std.proofs.Common.{subst as along}
use Rattle.std.specs.Prelude.{option_map, IfOk, OnOk}
use Rattle.lq_trees.specs.Tree.{Name, Tree, Context, Hypothesis as TreeHypothesis, same_name}
use Rattle.lq_trees.specs.Change.{close}
use Rattle.lq_trees.specs.Fresh.{is_listed}
use Rattle.lq_terms.specs.declared.nodes.NameId.{NameId}
use Rattle.lq_terms.specs.declared.nodes.TermId.{TermId}
use Rattle.lq_terms.specs.declared.nodes.Hypothesis.{Hypothesis}
use Rattle.lq_terms.specs.Terms.{Terms, text_of, tree_of}
use Rattle.lq_terms.specs.Contexts.{HasBody, HasAllOf, hypothesis_of, context_of}
use Rattle.lq_solving.specs.Stores.{Store, names_in}
use Rattle.lq_solving.specs.Kept.{IsContext, Stands, OptionStands, StandsIn, StandBehind}
use Rattle.lq_solving.specs.ElabFaults.{Elab}
use Rattle.lq_solving.specs.Elaboration.{Found as TreeFound}
use Rattle.lq_solving.proofs.ElabKept.{Grown}
use Rattle.lq_solving.proofs.Good.{no_name}
use Rattle.lq_solving.proofs.InferKept.{names_more}
use Rattle.lq_solving.proofs.StandsLaws.{StandsUnder, close_stands}
use Rattle.lq_solving.proofs.UnifyForms.{stands_more}
use Rattle.lq_evars.specs.Places.{Places, store_of}
use Rattle.lq_typing.specs.declared.faults.ElabFault.{ElabFault}
use Rattle.lq_elab.specs.declared.entering.Under.{Under}
use Rattle.lq_elab.specs.declared.finding.Found.{Found}
use Rattle.lq_elab.specs.declared.frames.Bound.{Bound}
use Rattle.lq_elab.specs.declared.frames.Frame.{Frame}
use Rattle.lq_elab.specs.declared.scope.Meaning.{Meaning}
use Rattle.lq_elab.specs.declared.sites.Site.{Site}
use Rattle.lq_elab.specs.declared.turns.Turn.{Turn}
use Rattle.lq_elab.specs.Naming.{meaning, under_binder, AreBound}
use Rattle.lq_elab.specs.Scopes.{IsScope}
use Rattle.lq_elab.specs.Frames.{shorter, binders_of, spot_of, waits, HasBound, IsBound, FramesHold, AllStand, weights}
use Rattle.lq_elab.specs.Entering.{body_under, part_under}
use Rattle.lq_elab.specs.Continuing.{Continues}
use Rattle.lq_elab.specs.States.{IsState, TurnStands, Goes, site_of, due}
use Rattle.lq_elab.proofs.FrameLaws.{shorter_all, bound_context, frames_bound}
use Rattle.lq_elab.proofs.EnterLaws.{outside_under, binders_under, bound_of, is_bound_of}

-- ---- a context without its last hypothesis

or_false : (a b : Bool) → (a || b) ≡ false → (a ≡ false) × (b ≡ false)
or_false false b e = (refl, e)
or_false true b e = absurd (grind (arith, e))

listed_tail : (z x : Name) (xs : List Name) → is_listed xs x ≡ true → is_listed (z ∷ xs) x ≡ true
unfolding is_listed
listed_tail z x xs e = at (same_name z x)
  where
    at : (b : Bool) → (b || is_listed xs x) ≡ true
    at true = refl
    at false = e

-- a name of one list or at the head of the other
listed_either : (z x : Name) (xs ns ys : List Name) → ((y : Name) → is_listed xs y ≡ true → is_listed ys y ≡ true) → ((y : Name) → is_listed (z ∷ ns) y ≡ true → is_listed ys y ≡ true) → is_listed (z ∷ xs) x ≡ true → is_listed ys x ≡ true
unfolding is_listed
listed_either z x xs ns ys e f l = at (same_name z x) refl l
  where
    at : (b : Bool) → same_name z x ≡ b → (b || is_listed xs x) ≡ true → is_listed ys x ≡ true
    at true q m = f x (ap (λ b. b || is_listed ns x) q)
    at false q m = e x m

-- the last hypothesis has a new name, and stands among those before it
record IsLast (s : Store) (xs : List Name) (g : Context) (h : TreeHypothesis) : Type 0 where
  front : StandBehind s xs g
  apart : is_listed xs h.name ≡ false
  new : is_listed (names_in g) h.name ≡ false
  there : (ys : List Name) → ((x : Name) → is_listed xs x ≡ true → is_listed ys x ≡ true) → ((x : Name) → is_listed (names_in g) x ≡ true → is_listed ys x ≡ true) → OptionStands s ys h.body × Stands s ys h.kind

behind_last : (s : Store) (xs : List Name) (g : Context) (h : TreeHypothesis) → StandBehind s xs (g ++ h ∷ []) → IsLast s xs g h
unfolding is_listed
behind_last s xs [] h b = record {
  front = tt;
  apart = b.0;
  new = refl;
  there = λ ys e f. (body h.body ys e b.1, stands_more s xs ys e h.kind b.2);
}
  where
    body : (o : Option Tree) (ys : List Name) → ((x : Name) → is_listed xs x ≡ true → is_listed ys x ≡ true) → OptionStands s xs o → OptionStands s ys o
    body None ys e k = tt
    body (Some t) ys e k = stands_more s xs ys e t k
behind_last s xs (k ∷ g) h b =
    let last = behind_last s (k.name ∷ xs) g h b.3 in
    let q = or_false (same_name k.name h.name) (is_listed xs h.name) last.apart in record {
      front = (b.0, b.1, b.2, last.front);
      apart = q.1;
      new = ap₂ (λ x y. x || y) q.0 last.new;
      there = λ ys e f. last.there ys (λ x l. listed_either k.name x xs (names_in g) ys e f l) (λ x l. f x (listed_tail k.name x (names_in g) l));
    }

-- what is true of the last hypothesis of a context
pub record EndsWith (s : Store) (g : Context) (h : TreeHypothesis) : Type 0 where
  pub front : IsContext s g
  pub new : is_listed (names_in g) h.name ≡ false
  pub body : OptionStands s (names_in g) h.body
  pub kind : Stands s (names_in g) h.kind

pub context_last : (s : Store) (g : Context) (h : TreeHypothesis) → IsContext s (g ++ h ∷ []) → EndsWith s g h
context_last s g h c =
    let last = behind_last s [] g h c in
    let q = last.there (names_in g) (λ x l. absurd (no_name x l)) (λ x l. l) in record { front = last.front; new = last.new; body = q.0; kind = q.1 }

-- ---- the state outside the binder

module _ (bank : Terms) (c : Site) (s : Places) (ks : List Hypothesis) (es : List (NameId × Meaning)) (fs : List Frame) (u : Under) (b : Bound) (w : Option TermId) (h : IsState bank c s ks es (record { part = part_under u b; wanted = w } ∷ fs)) where
  pub is_bound : IsBound bank (site_of bank c) ks fs b (body_under u)
  is_bound = is_bound_of bank (site_of bank c) ks fs u b h.frames.2

  pub has_bound : HasBound bank b × HasBody bank (body_under u)
  has_bound = bound_of bank u b h.frames.0

  abbrev pub inner : TreeHypothesis
  inner = hypothesis_of bank (record { name = b.hypothesis; body = body_under u; kind = b.kind })

  pub inner_context : context_of bank ks ≡ context_of bank (shorter ks) ++ inner ∷ []
  inner_context = bound_context bank (site_of bank c) ks fs b (body_under u) is_bound

  pub inner_names : names_in (context_of bank ks) ≡ names_in (context_of bank (shorter ks)) ++ text_of bank b.hypothesis ∷ []
  inner_names = ap names_in inner_context ∙ names_more (context_of bank (shorter ks)) inner

  pub ends : EndsWith (store_of bank s) (context_of bank (shorter ks)) inner
  ends = context_last (store_of bank s) (context_of bank (shorter ks)) inner (along (IsContext (store_of bank s)) inner_context h.hypotheses)

  pub outer_frames : FramesHold bank (site_of bank c) (shorter ks) fs
  outer_frames = along (λ gs. FramesHold bank (site_of bank c) gs fs) (outside_under u b ks) h.frames.3

  pub outer_bound : AreBound (spot_of bank (shorter ks) fs)
  outer_bound = frames_bound bank (site_of bank c) (shorter ks) fs outer_frames

  pub outer_wanted : HasBody bank w × OptionStands (store_of bank s) (names_in (context_of bank (shorter ks))) (option_map (tree_of bank) w)
  outer_wanted = (h.frames.1, along (λ gs. OptionStands (store_of bank s) (names_in (context_of bank gs)) (option_map (tree_of bank) w)) (outside_under u b ks) h.stand.0)

  pub inner_scope : IsScope bank (meaning (site_of bank c) (under_binder (spot_of bank (shorter ks) fs) (text_of bank b.binder) inner)) es
  inner_scope =
      along (λ l. IsScope bank (meaning (site_of bank c) l) es) (ap₂ (λ bs k. record { binders = bs; context = k }) (binders_under bank u b (binders_of bank fs)) inner_context) h.scope

  -- outside, with the scope as it was
  pub state_left : (ks1 : List Hypothesis) (es1 : List (NameId × Meaning)) → ks1 ≡ shorter ks → IsScope bank (meaning (site_of bank c) (spot_of bank (shorter ks) fs)) es1 → IsState bank c s ks1 es1 fs
  state_left ks1 es1 e scope = along (λ z. IsState bank c s z es1 fs) (sym e) (record {
    store = h.store;
    kept = h.kept;
    site = h.site;
    context = shorter_all (HasAllOf bank) ks h.context;
    hypotheses = ends.front;
    frames = outer_frames;
    stand = along (λ gs. AllStand (store_of bank s) (waits bank gs fs)) (outside_under u b ks) h.stand.2;
    scope = scope;
  })

  -- what was found inside, with the hypothesis as a bound variable
  pub closed_inside : (t : Tree) → StandsIn (store_of bank s) (context_of bank ks) t → StandsUnder (store_of bank s) (names_in (context_of bank (shorter ks))) 1 (close (text_of bank b.hypothesis) t)
  closed_inside t k = close_stands (store_of bank s) h.kept (names_in (context_of bank (shorter ks))) (text_of bank b.hypothesis) t (along (λ xs. Stands (store_of bank s) xs t) inner_names k)

-- ---- what was settled goes on

pub continues_settled : (bank : Terms) (c : Site) (S : Store) (s : Places) (hs : List Hypothesis) (es : List (NameId × Meaning)) (fs : List Frame) (x : Found) (r : Result Turn ElabFault) (f : ℕ → Elab TreeFound) (b l m most : ℕ) →
    IfOk r (λ _. IsState bank c s hs es fs) → IfOk r (TurnStands bank s hs) → IfOk r (λ t. t ≡ Turn.Found x) → OnOk r (Grown S (store_of bank s)) → OnOk r (m ≤ l) → weights fs + 1 + 4 * l ≤ most → Goes bank c s hs fs r f b m →
    Continues bank c S s hs es fs r f b m most
continues_settled bank c S s hs es fs x (Ok t) f b l m most state stands is grown fewer k goes = record {
  state = state;
  stands = stands;
  grown = grown;
  falls = along (λ z. weights fs + due z + 4 * m ≤ most) (sym is) (omega (arith, k, fewer));
  leads = goes;
}
continues_settled bank c S s hs es fs x (Err e) f b l m most state stands is grown fewer k goes = goes
