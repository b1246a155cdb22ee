-- What waits stands for the same in a bank that has grown.
use Rattle.std.proofs.Common.{◌≡◌, refl, sym, ap₂, arith, List, [], ◌∷◌}
use Rattle.std.proofs.Common.{subst as along}
use Rattle.std.specs.List.{AllByRecursion}
use Rattle.lq_trees.specs.Tree.{Tree, Context}
use Rattle.lq_calculus.specs.Declarations.{Env as Environment}
use Rattle.lq_terms.specs.declared.nodes.Hypothesis.{Hypothesis}
use Rattle.lq_terms.specs.declared.nodes.TermId.{TermId}
use Rattle.lq_terms.specs.Terms.{Terms, HasTerm, Grows, tree_of}
use Rattle.lq_terms.specs.Contexts.{HasContext, context_of}
use Rattle.lq_solving.specs.Stores.{Store}
use Rattle.lq_evars.specs.Places.{Places, store_of, HasStore}
use Rattle.lq_evars.proofs.Growing.{context_grown, store_of-grown}
use Rattle.lq_typing.specs.declared.waiting.Frame.{Frame}
use Rattle.lq_typing.specs.declared.waiting.Turn.{Turn}
use Rattle.lq_typing.specs.Typing.{Part}
use Rattle.lq_typing.specs.Kept.{kept_asked, kept_typed}
use Rattle.lq_typing.specs.Standing.{Asked, Typed}
use Rattle.lq_typing.specs.Frames.{part_of, HasFrame, parts_of, turn_work, TurnStands, IsTurn}

module _ (old new : Terms) (g : Grows old new) where
  pub frame_grown : (f : Frame) → HasFrame old f → (part_of new f ≡ part_of old f) × HasFrame new f
  frame_grown (Frame.ProductDomain x A B) h = (rw (g.text x h.0, g.tree A h.1, g.tree B h.2) refl, (omega (arith, h.0, g.names), omega (arith, h.1, g.nodes), omega (arith, h.2, g.nodes)))
  frame_grown (Frame.ProductRest u) h = (refl, tt)
  frame_grown (Frame.FunctionDomain x A B) h = (rw (g.text x h.0, g.tree A h.1, g.tree B h.2) refl, (omega (arith, h.0, g.names), omega (arith, h.1, g.nodes), omega (arith, h.2, g.nodes)))
  frame_grown (Frame.FunctionRest x y A) h = (rw (g.text x h.0, g.text y h.1, g.tree A h.2) refl, (omega (arith, h.0, g.names), omega (arith, h.1, g.names), omega (arith, h.2, g.nodes)))
  frame_grown (Frame.DefinitionKind x v A t) h =
      (rw (g.text x h.0, g.tree v h.1, g.tree A h.2, g.tree t h.3) refl, (omega (arith, h.0, g.names), omega (arith, h.1, g.nodes), omega (arith, h.2, g.nodes), omega (arith, h.3, g.nodes)))
  frame_grown (Frame.DefinitionValue x v A t) h =
      (rw (g.text x h.0, g.tree v h.1, g.tree A h.2, g.tree t h.3) refl, (omega (arith, h.0, g.names), omega (arith, h.1, g.nodes), omega (arith, h.2, g.nodes), omega (arith, h.3, g.nodes)))
  frame_grown (Frame.DefinitionRest y v) h = (rw (g.text y h.0, g.tree v h.1) refl, (omega (arith, h.0, g.names), omega (arith, h.1, g.nodes)))
  frame_grown (Frame.Function a) h = (rw (g.tree a h) refl, omega (arith, h, g.nodes))
  frame_grown (Frame.Argument a D R) h = (rw (g.tree a h.0, g.tree D h.1, g.tree R h.2) refl, (omega (arith, h.0, g.nodes), omega (arith, h.1, g.nodes), omega (arith, h.2, g.nodes)))

  pub frames_there : (fs : List Frame) → AllByRecursion (HasFrame old) fs → AllByRecursion (HasFrame new) fs
  frames_there [] h = tt
  frames_there (f ∷ fs) h = ((frame_grown f h.0).1, frames_there fs h.1)

  pub parts_grown : (fs : List Frame) → AllByRecursion (HasFrame old) fs → parts_of new fs ≡ parts_of old fs
  parts_grown [] h = refl
  parts_grown (f ∷ fs) h = ap₂ (λ p ps. p ∷ ps) (frame_grown f h.0).0 (parts_grown fs h.1)

  module _ (s : Places) (hs : List Hypothesis) (fs : List Frame) (store : HasStore old s) (context : HasContext old hs) (frames : AllByRecursion (HasFrame old) fs) where
    -- what is said of a store, of what waits, of a context and of a tree is said in both banks
    said : (P : Store → List Part → Context → Tree → Type 0) (t : TermId) → HasTerm old t → P (store_of old s) (parts_of old fs) (context_of old hs) (tree_of old t) → P (store_of new s) (parts_of new fs) (context_of new hs) (tree_of new t)
    said P t has p =
        along (λ z. P z (parts_of new fs) (context_of new hs) (tree_of new t)) (sym (store_of-grown old new g s store))
        (along (λ z. P (store_of old s) z (context_of new hs) (tree_of new t)) (sym (parts_grown fs frames))
        (along (λ z. P (store_of old s) (parts_of old fs) z (tree_of new t)) (sym (context_grown old new g hs context).0)
        (along (λ z. P (store_of old s) (parts_of old fs) (context_of old hs) z) (sym (g.tree t has)) p)))

    stands_grown : (turn : Turn) → TurnStands old s hs fs turn → TurnStands new s hs fs turn
    stands_grown (Turn.Ask t) h = (omega (arith, h.0, g.nodes), said Asked t h.0 h.1)
    stands_grown (Turn.Found t) h = (omega (arith, h.0, g.nodes), said Typed t h.0 h.1)

    pub work_grown : (env : Environment) (turn : Turn) → TurnStands old s hs fs turn → turn_work new s env hs fs turn ≡ turn_work old s env hs fs turn
    work_grown env (Turn.Ask t) h = said (λ z ws c u. kept_asked z env ws c u ≡ turn_work old s env hs fs (Turn.Ask t)) t h.0 refl
    work_grown env (Turn.Found t) h = said (λ z ws c u. kept_typed z env ws c u ≡ turn_work old s env hs fs (Turn.Found t)) t h.0 refl

  pub turn_grown : (s : Places) (hs : List Hypothesis) (fs : List Frame) (turn : Turn) → HasStore old s → IsTurn old s hs fs turn → IsTurn new s hs fs turn
  turn_grown s hs fs turn store h = record {
    context = (context_grown old new g hs h.context).1;
    frames = frames_there fs h.frames;
    stands = stands_grown s hs fs store h.context h.frames turn h.stands;
  }
