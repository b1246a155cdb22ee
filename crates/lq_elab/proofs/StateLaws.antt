-- What is true between two turns, in a bank or a store that has grown.
use Rattle.std.proofs.Common.{◌≡◌, ◌∙◌, ℕ, refl, sym, ap, ap₂, arith, List, [], ◌∷◌, Option, Some}
use Rattle.std.proofs.Common.{subst as along}
use Rattle.std.specs.Prelude.{option_map}
use Rattle.std.specs.List.{AllByRecursion}
use Rattle.lq_trees.specs.Tree.{Name, Tree, value_of}
use Rattle.lq_terms.specs.declared.nodes.NameId.{NameId}
use Rattle.lq_terms.specs.declared.nodes.TermId.{TermId}
use Rattle.lq_terms.specs.declared.nodes.Hypothesis.{Hypothesis}
use Rattle.lq_terms.specs.Terms.{Terms, HasTerm, Grows, text_of, tree_of}
use Rattle.lq_terms.specs.Contexts.{HasBody, context_of}
use Rattle.lq_terms.proofs.Tellings.{HasBody-grown, HasContext-grown, body-grown, context_of-grown}
use Rattle.lq_env.specs.Environments.{env_of}
use Rattle.lq_env.proofs.Grown.{env_of-grown, IsEnv-grown}
use Rattle.lq_solving.specs.Stores.{Store, names_in}
use Rattle.lq_solving.specs.Kept.{IsContext, IsStore, OptionStands, StandsIn}
use Rattle.lq_solving.specs.Claims.{ArePlainDeclarations}
use Rattle.lq_solving.specs.Elaboration as tree
use Rattle.lq_solving.specs.Elaboration.{Found, given_term}
use Rattle.lq_solving.proofs.ElabKept.{Grown}
use Rattle.lq_solving.proofs.StoreLaws.{context_keeps}
use Rattle.lq_evars.specs.Places.{Places, store_of, HasStore}
use Rattle.lq_evars.proofs.Growing.{store_of-grown, HasStore-grown}
use Rattle.lq_elab.specs.declared.frames.Frame.{Frame}
use Rattle.lq_elab.specs.declared.scope.Meaning.{Meaning}
use Rattle.lq_elab.specs.declared.sites.Given.{Given}
use Rattle.lq_elab.specs.declared.sites.Site.{Site}
use Rattle.lq_elab.specs.declared.turns.Turn.{Turn}
use Rattle.lq_ast.specs.Syntax.{Surface}
use Rattle.lq_elab.specs.Waiting.{Waiting, waiting, found_work, asked_work}
use Rattle.lq_elab.specs.Waiting as waited
use Rattle.lq_elab.specs.declared.frames.Part.{Part}
use Rattle.lq_elab.specs.Naming.{meaning}
use Rattle.lq_elab.specs.Views.{asked_tree}
use Rattle.lq_elab.specs.Frames.{part_of, spot_of, waits, FramesHold, AllStand}
use Rattle.lq_elab.specs.Answers.{found_of}
use Rattle.lq_elab.specs.States.{given_of, givens_of, HasGiven, site_of, IsSite, IsState, TurnStands, turn_work}
use Rattle.lq_elab.proofs.FrameLaws.{spot_grown, waits_grown, frames_grown, stand_keeps}
use Rattle.lq_elab.proofs.ScopeLaws.{scope_grown, scope_same}

module _ (old new : Terms) (g : Grows old new) where
  pub given_grown : (v : NameId × Given) → HasGiven old v → (◌≡◌ {A = Name × tree.Given} (text_of new v.0, given_of new v.1) (text_of old v.0, given_of old v.1)) × HasGiven new v
  given_grown (x, Given.Term t) h = (ap₂ (λ z w. (z, given_term w)) (g.text x h.0) (g.tree t h.1), (omega (arith, h.0, g.names), omega (arith, h.1, g.nodes)))
  given_grown (x, Given.Name y) h = (ap₂ (λ z w. (z, tree.given_name w)) (g.text x h.0) (g.text y h.1), (omega (arith, h.0, g.names), omega (arith, h.1, g.names)))
  given_grown (x, Given.Other) h = (ap (λ z. (z, tree.given_other)) (g.text x h), omega (arith, h, g.names))

  pub givens_grown : (vs : List (NameId × Given)) → AllByRecursion (HasGiven old) vs → (givens_of new vs ≡ givens_of old vs) × AllByRecursion (HasGiven new) vs
  givens_grown [] h = (refl, tt)
  givens_grown (v ∷ vs) h = let a = given_grown v h.0 in let b = givens_grown vs h.1 in (ap₂ (λ z zs. z ∷ zs) a.0 b.0, (a.1, b.1))

  pub site_of_grown : (s : Store) (c : Site) → IsSite old s c → site_of new c ≡ site_of old c
  site_of_grown s c h =
      ap (λ z. record { env = z; bound = 0; values = givens_of new c.values.now; outer = context_of new c.outer.now }) (env_of-grown old new g c.env.now h.env)
      ∙ ap₂ (λ z w. record { env = env_of old c.env.now; bound = 0; values = z; outer = w }) (givens_grown c.values.now h.values).0 (context_of-grown old new g c.outer.now h.outer)

  pub site_grown : (s : Store) (c : Site) → IsSite old s c → IsSite new s c
  site_grown s c h = record {
    env = IsEnv-grown old new g c.env.now h.env;
    plain = along ArePlainDeclarations (sym (env_of-grown old new g c.env.now h.env)) h.plain;
    outer = HasContext-grown old new g c.outer.now h.outer;
    hypotheses = along (IsContext s) (sym (context_of-grown old new g c.outer.now h.outer)) h.hypotheses;
    values = (givens_grown c.values.now h.values).1;
    stand = λ x t q. h.stand x t (along (λ z. value_of z x ≡ Some (given_term t)) (givens_grown c.values.now h.values).0 q);
  }

  module _ (c : Site) (s : Places) (hs : List Hypothesis) (scope : List (NameId × Meaning)) (fs : List Frame) (h : IsState old c s hs scope fs) where
    store_is : store_of new s ≡ store_of old s
    store_is = store_of-grown old new g s h.store

    context_is : context_of new hs ≡ context_of old hs
    context_is = context_of-grown old new g hs h.context

    site_is : site_of new c ≡ site_of old c
    site_is = site_of_grown (store_of old s) c h.site

    spot_is : spot_of new hs fs ≡ spot_of old hs fs
    spot_is = spot_grown old new g (site_of old c) hs fs h.context h.frames

    waits_are : waits new hs fs ≡ waits old hs fs
    waits_are = waits_grown old new g (site_of old c) hs fs h.context h.frames

    pub state_grown : IsState new c s hs scope fs
    state_grown = record {
      store = HasStore-grown old new g s h.store;
      kept = along IsStore (sym store_is) h.kept;
      site = along (λ z. IsSite new z c) (sym store_is) (site_grown (store_of old s) c h.site);
      context = HasContext-grown old new g hs h.context;
      hypotheses = along (λ z. IsContext z (context_of new hs)) (sym store_is) (along (IsContext (store_of old s)) (sym context_is) h.hypotheses);
      frames = along (λ z. FramesHold new z hs fs) (sym site_is) (frames_grown old new g (site_of old c) hs fs h.context h.frames);
      stand = along (λ z. AllStand z (waits new hs fs)) (sym store_is) (along (AllStand (store_of old s)) (sym waits_are) h.stand);
      scope = scope_same new (meaning (site_of old c) (spot_of old hs fs)) (meaning (site_of new c) (spot_of new hs fs)) scope (λ z. ap₂ (λ a b. meaning a b z) (sym site_is) (sym spot_is)) (scope_grown old new g (meaning (site_of old c) (spot_of old hs fs)) scope h.scope);
    }

    pub stands_grown : (t : TermId) → HasTerm old t → StandsIn (store_of old s) (context_of old hs) (tree_of old t) → StandsIn (store_of new s) (context_of new hs) (tree_of new t)
    stands_grown t k l =
        along (λ z. StandsIn z (context_of new hs) (tree_of new t)) (sym store_is)
        (along (λ z. StandsIn (store_of old s) z (tree_of new t)) (sym context_is) (along (StandsIn (store_of old s) (context_of old hs)) (sym (g.tree t k)) l))

    -- what comes next leads to the same work
    pub asked_grown : (t : Turn) → TurnStands old s hs t → (n : ℕ) → turn_work new c s hs fs t n ≡ turn_work old c s hs fs t n
    asked_grown (Turn.Ask t w) k n =
        ap (λ z. asked_work z (waits new hs fs) (spot_of new hs fs) (store_of new s) (asked_tree t) (option_map (tree_of new) w) n) site_is
        ∙ ap₂ (λ z l. asked_work (site_of old c) z l (store_of new s) (asked_tree t) (option_map (tree_of new) w) n) waits_are spot_is
        ∙ ap₂ (λ z v. asked_work (site_of old c) (waits old hs fs) (spot_of old hs fs) z (asked_tree t) v n) store_is (body-grown old new g w k.0)
    asked_grown (Turn.Found f) k n =
        ap₂ (λ z v. found_work z v (found_of new s f) n) site_is waits_are
        ∙ ap (λ z. found_work (site_of old c) (waits old hs fs) (tree.found z (tree_of new f.term) (tree_of new f.kind)) n) store_is
        ∙ ap₂ (λ a b. found_work (site_of old c) (waits old hs fs) (tree.found (store_of old s) a b) n) (g.tree f.term k.0) (g.tree f.kind k.1)

    -- the same over any store
    pub found_over : (S : Store) (t k : TermId) → HasTerm old t → HasTerm old k → (n : ℕ) →
        found_work (site_of new c) (waits new hs fs) (tree.found S (tree_of new t) (tree_of new k)) n ≡ found_work (site_of old c) (waits old hs fs) (tree.found S (tree_of old t) (tree_of old k)) n
    found_over S t k ht hk n =
        ap₂ (λ z v. found_work z v (tree.found S (tree_of new t) (tree_of new k)) n) site_is waits_are
        ∙ ap₂ (λ a b. found_work (site_of old c) (waits old hs fs) (tree.found S a b) n) (g.tree t ht) (g.tree k hk)

    pub asked_over : (S : Store) (t : Surface) (w : Option Tree) (n : ℕ) → (v : Waiting) →
        asked_work (site_of new c) (v ∷ waits new hs fs) (spot_of new hs fs) S t w n ≡ asked_work (site_of old c) (v ∷ waits old hs fs) (spot_of old hs fs) S t w n
    asked_over S t w n v =
        ap (λ z. asked_work z (v ∷ waits new hs fs) (spot_of new hs fs) S t w n) site_is
        ∙ ap₂ (λ z l. asked_work (site_of old c) (v ∷ z) l S t w n) waits_are spot_is

    pub asked_moved : (p : Part) (P : waited.Part) → part_of new p ≡ P → (w first : Option TermId) (Z : Option Tree) → HasBody old w → option_map (tree_of new) first ≡ Z → (T : Surface) (n : ℕ) →
        asked_work (site_of new c) (waiting (spot_of new hs fs) (option_map (tree_of new) w) (part_of new p) ∷ waits new hs fs) (spot_of new hs fs) (store_of new s) T (option_map (tree_of new) first) n
        ≡ asked_work (site_of old c) (waiting (spot_of old hs fs) (option_map (tree_of old) w) P ∷ waits old hs fs) (spot_of old hs fs) (store_of old s) T Z n
    asked_moved p P e w first Z hw z T n =
        ap (λ v. asked_work (site_of new c) (v ∷ waits new hs fs) (spot_of new hs fs) (store_of new s) T (option_map (tree_of new) first) n)
        (ap (λ l. waiting l (option_map (tree_of new) w) (part_of new p)) spot_is ∙ ap₂ (waiting (spot_of old hs fs)) (body-grown old new g w hw) e)
        ∙ asked_over (store_of new s) T (option_map (tree_of new) first) n (waiting (spot_of old hs fs) (option_map (tree_of old) w) P)
        ∙ ap₂ (λ S v. asked_work (site_of old c) (waiting (spot_of old hs fs) (option_map (tree_of old) w) P ∷ waits old hs fs) (spot_of old hs fs) S T v n) store_is z

    pub wanted_grown : (w : Option TermId) → HasBody old w → OptionStands (store_of old s) (names_in (context_of old hs)) (option_map (tree_of old) w) →
        HasBody new w × OptionStands (store_of new s) (names_in (context_of new hs)) (option_map (tree_of new) w)
    wanted_grown w k l = (
      HasBody-grown old new g w k,
      along (λ z. OptionStands z (names_in (context_of new hs)) (option_map (tree_of new) w)) (sym store_is)
          (along (λ z. OptionStands (store_of old s) (names_in z) (option_map (tree_of new) w)) (sym context_is) (along (OptionStands (store_of old s) (names_in (context_of old hs))) (sym (body-grown old new g w k)) l)),
    )

    pub turn_grown : (t : Turn) → TurnStands old s hs t → TurnStands new s hs t
    turn_grown (Turn.Ask t w) k = wanted_grown w k.0 k.1
    turn_grown (Turn.Found f) k = (omega (arith, k.0, g.nodes), omega (arith, k.1, g.nodes), stands_grown f.term k.0 k.2, stands_grown f.kind k.1 k.3)

-- the store has grown
module _ (bank : Terms) (c : Site) (s s1 : Places) (hs : List Hypothesis) (scope : List (NameId × Meaning)) (fs : List Frame) (h : IsState bank c s hs scope fs) (has : HasStore bank s1) (grown : Grown (store_of bank s) (store_of bank s1)) where
  pub state_later : IsState bank c s1 hs scope fs
  state_later = record {
    store = has;
    kept = grown.store;
    site = record {
      env = h.site.env;
      plain = h.site.plain;
      outer = h.site.outer;
      hypotheses = context_keeps (store_of bank s) (store_of bank s1) grown.keeps [] (context_of bank c.outer.now) h.site.hypotheses;
      values = h.site.values;
      stand = λ x t q. let v = h.site.stand x t q in (grown.over t v.0, v.1);
    };
    context = h.context;
    hypotheses = context_keeps (store_of bank s) (store_of bank s1) grown.keeps [] (context_of bank hs) h.hypotheses;
    frames = h.frames;
    stand = stand_keeps (store_of bank s) (store_of bank s1) grown.keeps h.kept grown.store (waits bank hs fs) h.stand;
    scope = h.scope;
  }
