-- One frame more, under no binder.
use Rattle.std.proofs.Common.{◌≡◌, ℕ, refl, sym, ap, ap₂, List, ◌∷◌, Option}
use Rattle.std.proofs.Common.{subst as along}
use Rattle.std.specs.Prelude.{option_map}
use Rattle.lq_terms.specs.declared.nodes.NameId.{NameId}
use Rattle.lq_terms.specs.declared.nodes.TermId.{TermId}
use Rattle.lq_terms.specs.declared.nodes.Hypothesis.{Hypothesis}
use Rattle.lq_terms.specs.Terms.{Terms, tree_of}
use Rattle.lq_terms.specs.Contexts.{HasBody, context_of}
use Rattle.lq_solving.specs.Stores.{names_in}
use Rattle.lq_solving.specs.Kept.{OptionStands}
use Rattle.lq_solving.specs.Elaboration.{Site as TreeSite}
use Rattle.lq_evars.specs.Places.{Places, store_of}
use Rattle.lq_elab.specs.declared.frames.Part.{Part}
use Rattle.lq_elab.specs.declared.frames.Frame.{Frame}
use Rattle.lq_elab.specs.declared.scope.Meaning.{Meaning}
use Rattle.lq_elab.specs.declared.sites.Site.{Site}
use Rattle.lq_elab.specs.declared.views.Asked.{Asked}
use Rattle.lq_elab.specs.declared.turns.Turn.{Turn}
use Rattle.lq_elab.specs.Waiting.{waiting, asked_work}
use Rattle.lq_elab.specs.Views.{asked_tree}
use Rattle.lq_elab.specs.Naming.{meaning}
use Rattle.lq_elab.specs.Scopes.{IsScope}
use Rattle.lq_elab.specs.Frames.{IsOutside, HasPart, PartStands, PartBinds, FramesHold, AllStand, part_of, outside, binders_with, binders_of, spot_of, waits}
use Rattle.lq_elab.specs.States.{IsState, site_of, turn_work}

-- what is true of such a part
pub record IsPlainPart (bank : Terms) (e : TreeSite) (hs : List Hypothesis) (fs : List Frame) (p : Part) : Type 0 where
  pub same : outside p hs ≡ hs
  pub binders : binders_with bank p (binders_of bank fs) ≡ binders_of bank fs
  pub binds : PartBinds bank e hs fs p

pub plain_part : (bank : Terms) (e : TreeSite) (hs : List Hypothesis) (fs : List Frame) (p : Part) → IsOutside p → IsPlainPart bank e hs fs p
plain_part bank e hs fs (Part.ProductDomain x r) h = record { same = refl; binders = refl; binds = tt }
plain_part bank e hs fs (Part.ProductRest b u) h = absurd h
plain_part bank e hs fs (Part.FunctionDomain x r p) h = record { same = refl; binders = refl; binds = tt }
plain_part bank e hs fs (Part.FunctionRest b) h = absurd h
plain_part bank e hs fs (Part.DefinitionKind x v t) h = record { same = refl; binders = refl; binds = tt }
plain_part bank e hs fs (Part.DefinitionValue x A t) h = record { same = refl; binders = refl; binds = tt }
plain_part bank e hs fs (Part.DefinitionRest b v) h = absurd h
plain_part bank e hs fs (Part.Function a as_) h = record { same = refl; binders = refl; binds = tt }
plain_part bank e hs fs (Part.Argument f B as_) h = record { same = refl; binders = refl; binds = tt }
plain_part bank e hs fs (Part.CastKind t) h = record { same = refl; binders = refl; binds = tt }
plain_part bank e hs fs (Part.CastTerm A) h = record { same = refl; binders = refl; binds = tt }

-- the state with one frame more, and what waits then
module _ (bank : Terms) (c : Site) (s : Places) (hs : List Hypothesis) (scope : List (NameId × Meaning)) (fs : List Frame) (h : IsState bank c s hs scope fs) (p : Part) (w : Option TermId) (out : IsOutside p) where
  abbrev one : Frame
  one = record { part = p; wanted = w }

  plain : IsPlainPart bank (site_of bank c) hs fs p
  plain = plain_part bank (site_of bank c) hs fs p out

  pub spot_waited : spot_of bank hs (one ∷ fs) ≡ spot_of bank hs fs
  spot_waited = ap (λ bs. record { binders = bs; context = context_of bank hs }) plain.binders

  pub waits_waited : waits bank hs (one ∷ fs) ≡ waiting (spot_of bank hs fs) (option_map (tree_of bank) w) (part_of bank p) ∷ waits bank hs fs
  waits_waited = ap (λ gs. waiting (spot_of bank gs fs) (option_map (tree_of bank) w) (part_of bank p) ∷ waits bank gs fs) plain.same

  pub state_waited : HasBody bank w → OptionStands (store_of bank s) (names_in (context_of bank hs)) (option_map (tree_of bank) w) → HasPart bank p → PartStands (store_of bank s) (names_in (context_of bank hs)) (part_of bank p) → IsState bank c s hs scope (one ∷ fs)
  state_waited hw sw hp sp = record {
    store = h.store;
    kept = h.kept;
    site = h.site;
    context = h.context;
    hypotheses = h.hypotheses;
    frames = (hp, hw, plain.binds, along (λ gs. FramesHold bank (site_of bank c) gs fs) (sym plain.same) h.frames);
    stand = along (AllStand (store_of bank s)) (sym waits_waited) (sw, sp, h.stand);
    scope = along (λ l. IsScope bank (meaning (site_of bank c) l) scope) (sym spot_waited) h.scope;
  }

-- the nearest was taken away
module _ (bank : Terms) (c : Site) (s : Places) (hs : List Hypothesis) (scope : List (NameId × Meaning)) (f : Frame) (fs : List Frame) (h : IsState bank c s hs scope (f ∷ fs)) (out : IsOutside f.part) where
  taken : IsPlainPart bank (site_of bank c) hs fs f.part
  taken = plain_part bank (site_of bank c) hs fs f.part out

  pub waits_taken : waits bank hs (f ∷ fs) ≡ waiting (spot_of bank hs fs) (option_map (tree_of bank) f.wanted) (part_of bank f.part) ∷ waits bank hs fs
  waits_taken = ap (λ gs. waiting (spot_of bank gs fs) (option_map (tree_of bank) f.wanted) (part_of bank f.part) ∷ waits bank gs fs) taken.same

  pub state_taken : IsState bank c s hs scope fs
  state_taken = record {
    store = h.store;
    kept = h.kept;
    site = h.site;
    context = h.context;
    hypotheses = h.hypotheses;
    frames = along (λ gs. FramesHold bank (site_of bank c) gs fs) taken.same h.frames.3;
    stand = along (λ gs. AllStand (store_of bank s) (waits bank gs fs)) taken.same h.stand.2;
    scope = along (λ l. IsScope bank (meaning (site_of bank c) l) scope) (ap (λ bs. record { binders = bs; context = context_of bank hs }) taken.binders) h.scope;
  }

  -- its type that is wanted, and what it names, stand in the context
  pub wanted_taken : OptionStands (store_of bank s) (names_in (context_of bank hs)) (option_map (tree_of bank) f.wanted)
  wanted_taken = along (λ gs. OptionStands (store_of bank s) (names_in (context_of bank gs)) (option_map (tree_of bank) f.wanted)) taken.same h.stand.0

  pub part_taken : PartStands (store_of bank s) (names_in (context_of bank hs)) (part_of bank f.part)
  part_taken = along (λ gs. PartStands (store_of bank s) (names_in (context_of bank gs)) (part_of bank f.part)) taken.same h.stand.1

-- what waits then, and the part that is asked for
module _ (bank : Terms) (c : Site) (s : Places) (hs : List Hypothesis) (scope : List (NameId × Meaning)) (fs : List Frame) (h : IsState bank c s hs scope fs) (p : Part) (w first : Option TermId) (t : Asked) (out : IsOutside p) where
  pub asked_waited : (n : ℕ) → asked_work (site_of bank c) (waiting (spot_of bank hs fs) (option_map (tree_of bank) w) (part_of bank p) ∷ waits bank hs fs) (spot_of bank hs fs) (store_of bank s) (asked_tree t) (option_map (tree_of bank) first) n
      ≡ turn_work bank c s hs (record { part = p; wanted = w } ∷ fs) (Turn.Ask t first) n
  asked_waited n =
      ap₂ (λ vs l. asked_work (site_of bank c) vs l (store_of bank s) (asked_tree t) (option_map (tree_of bank) first) n)
      (sym (waits_waited bank c s hs scope fs h p w out)) (sym (spot_waited bank c s hs scope fs h p w out))
