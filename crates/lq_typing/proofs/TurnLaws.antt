-- Where a turn stands, over trees: that stays as the bank grows.
use Rattle.std.proofs.Common.{◌≡◌, ◌∙◌, ℕ, refl, sym, ap, ap₂, arith, List, [], ◌∷◌, ◌++◌, Option, None, Some, Ok}
use Rattle.std.proofs.Common.{subst as along}
use Rattle.std.specs.Prelude.{MatchOption, option_map}
use Rattle.std.specs.List.{AllByRecursion}
use Rattle.std.proofs.lemmas.List.{map-append}
use Rattle.lq_trees.specs.declared.Fit.{Fit}
use Rattle.lq_trees.specs.Tree.{Tree, Hypothesis as TreeHypothesis, Context}
use Rattle.lq_trees.specs.Size.{fit}
use Rattle.lq_trees.specs.Fresh.{fresh, opened}
use Rattle.lq_terms.specs.declared.nodes.Hypothesis.{Hypothesis}
use Rattle.lq_terms.specs.declared.nodes.NameId.{NameId}
use Rattle.lq_terms.specs.declared.nodes.TermId.{TermId}
use Rattle.lq_terms.specs.Terms.{Terms, HasName, HasTerm, IsTerm, Grows, text_of, tree_of}
use Rattle.lq_terms.specs.Contexts.{HasAllOf, HasBody, HasContext, hypothesis_of, context_of}
use Rattle.lq_calculus.specs.Declarations.{Env as Environment}
use Rattle.lq_calculus.specs.Checking.{Kernel}
use Rattle.lq_env.specs.declared.environment.Declared.{Declared}
use Rattle.lq_env.proofs.Grown.{IsEnv-grown, env_of-grown}
use Rattle.lq_solving.specs.Stores.{Store}
use Rattle.lq_solving.specs.Kept.{IsStore}
use Rattle.lq_solving.specs.Claims.{ArePlainDeclarations}
use Rattle.lq_evars.specs.Places.{Places, store_of, HasStore}
use Rattle.lq_evars.proofs.Growing.{context_grown, store_of-grown, HasStore-grown}
use Rattle.lq_typing.specs.declared.waiting.Frame.{Frame}
use Rattle.lq_typing.specs.declared.waiting.Turn.{Turn}
use Rattle.lq_typing.specs.declared.waiting.Under.{Under}
use Rattle.lq_typing.specs.Typing.{Part, shorter, Leads}
use Rattle.lq_typing.specs.Kept.{kept_asked, kept_typed}
use Rattle.lq_typing.specs.Standing.{Asked, Typed}
use Rattle.lq_typing.specs.Frames.{part_of, parts_of, HasFrame, IsTurn}
use Rattle.lq_typing.specs.Going.{Goes}
use Rattle.lq_unify.specs.Exposing.{IsOfStore}
use Rattle.lq_typing.specs.Kinds.{IsKind}
use Rattle.lq_typing.specs.Sites.{IsLent, IsSite}
use Rattle.lq_typing.specs.Entering.{IsEntered, HasUnder, body_under, frame_under, part_under}
use Rattle.lq_typing.proofs.TypingLaws.{shorter_more}
use Rattle.lq_typing.proofs.FrameLaws.{frames_there, parts_grown}

-- ---- what is lent

module _ (old new : Terms) (g : Grows old new) where
  pub lent_grown : (ds : List (NameId × Declared)) (p : Places) → IsLent old ds p → IsLent new ds p
  lent_grown ds p h = record {
    env = IsEnv-grown old new g ds h.env;
    plain = along ArePlainDeclarations (sym (env_of-grown old new g ds h.env)) h.plain;
    store = HasStore-grown old new g p h.store;
    kept = along IsStore (sym (store_of-grown old new g p h.store)) h.kept;
  }

pub site_found : (bank : Terms) (ds : List (NameId × Declared)) (p : Places) (hs : List Hypothesis) (fs : List Frame) (t : TermId) → IsLent bank ds p → IsTurn bank p hs fs (Turn.Found t) → IsSite bank ds p hs
site_found bank ds p hs fs t l h = record { lent = l; has = h.context; context = h.stands.1.context }

pub site_asked : (bank : Terms) (ds : List (NameId × Declared)) (p : Places) (hs : List Hypothesis) (fs : List Frame) (t : TermId) → IsLent bank ds p → IsTurn bank p hs fs (Turn.Ask t) → IsSite bank ds p hs
site_asked bank ds p hs fs t l h = record { lent = l; has = h.context; context = h.stands.1.context }

-- ---- where a turn stands

pub record At (bank : Terms) (p : Places) (hs : List Hypothesis) (fs : List Frame) (s : Store) (ws : List Part) (g : Context) : Type 0 where
  pub has_store : HasStore bank p
  pub store : store_of bank p ≡ s
  pub has_context : HasContext bank hs
  pub context : context_of bank hs ≡ g
  pub has_frames : AllByRecursion (HasFrame bank) fs
  pub frames : parts_of bank fs ≡ ws

-- what waits behind the nearest
pub at_turn : (bank : Terms) (p : Places) (hs : List Hypothesis) (f : Frame) (fs : List Frame) (turn : Turn) → HasStore bank p → IsTurn bank p hs (f ∷ fs) turn →
    At bank p hs fs (store_of bank p) (parts_of bank fs) (context_of bank hs)
at_turn bank p hs f fs turn s h = record { has_store = s; store = refl; has_context = h.context; context = refl; has_frames = h.frames.1; frames = refl }

-- all that waits
pub at_all : (bank : Terms) (p : Places) (hs : List Hypothesis) (fs : List Frame) (turn : Turn) → HasStore bank p → IsTurn bank p hs fs turn →
    At bank p hs fs (store_of bank p) (parts_of bank fs) (context_of bank hs)
at_all bank p hs fs turn s h = record { has_store = s; store = refl; has_context = h.context; context = refl; has_frames = h.frames; frames = refl }

pub at_grown : (old new : Terms) (g : Grows old new) (p : Places) (hs : List Hypothesis) (fs : List Frame) (s : Store) (ws : List Part) (c : Context) → At old p hs fs s ws c → At new p hs fs s ws c
at_grown old new g p hs fs s ws c a = record {
  has_store = HasStore-grown old new g p a.has_store;
  store = store_of-grown old new g p a.has_store ∙ a.store;
  has_context = (context_grown old new g hs a.has_context).1;
  context = (context_grown old new g hs a.has_context).0 ∙ a.context;
  has_frames = frames_there old new g fs a.has_frames;
  frames = parts_grown old new g fs a.has_frames ∙ a.frames;
}

module _ (bank : Terms) (p : Places) (hs : List Hypothesis) (fs : List Frame) (s : Store) (ws : List Part) (g : Context) (a : At bank p hs fs s ws g) where
  pub at_frame : (f : Frame) (w : Part) → HasFrame bank f → part_of bank f ≡ w → At bank p hs (f ∷ fs) s (w ∷ ws) g
  at_frame f w h e = record { has_store = a.has_store; store = a.store; has_context = a.has_context; context = a.context; has_frames = (h, a.has_frames); frames = ap₂ (λ v vs. v ∷ vs) e a.frames }

  pub at_waiting : (ps : List Frame) (f : Frame) (w : Part) → ps ≡ f ∷ fs → HasFrame bank f → part_of bank f ≡ w → At bank p hs ps s (w ∷ ws) g
  at_waiting ps f w e h q = along (λ z. At bank p hs z s (w ∷ ws) g) (sym e) (at_frame f w h q)

  has_more : (ks : List Hypothesis) (h : Hypothesis) → HasContext bank ks → HasAllOf bank h → HasContext bank (ks ++ h ∷ [])
  has_more [] h k m = (m, tt)
  has_more (j ∷ ks) h k m = (k.0, has_more ks h k.1 m)

  pub at_hypothesis : (h : Hypothesis) (H : TreeHypothesis) → HasAllOf bank h → hypothesis_of bank h ≡ H → At bank p (hs ++ h ∷ []) fs s ws (g ++ H ∷ [])
  at_hypothesis h H k e = record {
    has_store = a.has_store;
    store = a.store;
    has_context = has_more hs h a.has_context k;
    context = map-append (hypothesis_of bank) hs (h ∷ []) ∙ ap₂ (λ xs x. xs ++ x ∷ []) a.context e;
    has_frames = a.has_frames;
    frames = a.frames;
  }

  has_fewer : (ks : List Hypothesis) (h : Hypothesis) → HasContext bank (ks ++ h ∷ []) → HasContext bank ks
  has_fewer [] h k = tt
  has_fewer (j ∷ ks) h k = (k.0, has_fewer ks h k.1)

  -- without the newest hypothesis
  pub at_popped : (o : Option Hypothesis) (ks : List Hypothesis) → MatchOption o ((hs ≡ []) × (ks ≡ [])) (λ h. hs ≡ ks ++ h ∷ []) → At bank p ks fs s ws (shorter g)
  unfolding shorter
  at_popped None ks h =
      along (λ z. At bank p z fs s ws (shorter g)) (sym h.1)
      (along (λ z. At bank p [] fs s ws (shorter z)) (along (λ z. context_of bank z ≡ g) h.0 a.context)
      (record { has_store = a.has_store; store = a.store; has_context = tt; context = refl; has_frames = a.has_frames; frames = a.frames }))
  at_popped (Some h) ks e = record {
    has_store = a.has_store;
    store = a.store;
    has_context = has_fewer ks h (along (HasContext bank) e a.has_context);
    context = sym (shorter_more (context_of bank ks) (hypothesis_of bank h)) ∙ ap shorter (sym (map-append (hypothesis_of bank) ks (h ∷ [])) ∙ ap (context_of bank) (sym e) ∙ a.context);
    has_frames = a.has_frames;
    frames = a.frames;
  }

  -- ---- a turn there

  module _ (E : Environment) (t : TermId) (T : Tree) (is : IsTerm bank t T) where
    said : (P : Store → List Part → Context → Tree → Type 0) → P s ws g T → P (store_of bank p) (parts_of bank fs) (context_of bank hs) (tree_of bank t)
    said P h =
        along (λ z. P z (parts_of bank fs) (context_of bank hs) (tree_of bank t)) (sym a.store)
        (along (λ z. P s z (context_of bank hs) (tree_of bank t)) (sym a.frames)
        (along (λ z. P s ws z (tree_of bank t)) (sym a.context)
        (along (λ z. P s ws g z) (sym is.is) h)))

    pub asks_there : Asked s ws g T → (f : ℕ → Kernel Tree) (b left : ℕ) → Leads f (kept_asked s E ws g T) b left → Goes bank p E hs fs (Ok (Turn.Ask t)) f b left
    asks_there h f b left l = (record { context = a.has_context; frames = a.has_frames; stands = (is.has, said Asked h) }, said (λ z ws c u. Leads f (kept_asked z E ws c u) b left) l)

    pub finds_there : Typed s ws g T → (f : ℕ → Kernel Tree) (b left : ℕ) → Leads f (kept_typed s E ws g T) b left → Goes bank p E hs fs (Ok (Turn.Found t)) f b left
    finds_there h f b left l = (record { context = a.has_context; frames = a.has_frames; stands = (is.has, said Typed h) }, said (λ z ws c u. Leads f (kept_typed z E ws c u) b left) l)

-- ---- under a binder

-- the hypothesis for a binder's variable
abbrev pub variable_under : Terms → Context → Under → (binder : NameId) → (domain : TermId) → TreeHypothesis
variable_under bank g under x A = record { name = fresh g (text_of bank x); body = option_map (tree_of bank) (body_under under); kind = tree_of bank A }

module _ (old mid new : Terms) (k : Grows old mid) (m : Grows mid new) (p : Places) (hs ks : List Hypothesis) (fs ps : List Frame) (s : Store) (ws : List Part) (g : Context) (under : Under) (x : NameId) (A B : TermId) (turn : Turn)
    (a : At old p hs fs s ws g) (e : IsEntered mid new hs ks fs ps under x A B turn) (hu : HasUnder old under) (hx : HasName old x) (hA : HasTerm old A) (hB : HasTerm old B) where
  middle : At mid p hs fs s ws g
  middle = at_grown old mid k p hs fs s ws g a

  after : At new p hs fs s ws g
  after = at_grown mid new m p hs fs s ws g middle

  pub name_is : text_of new e.name ≡ fresh g (text_of old x)
  name_is = e.named.is ∙ ap₂ fresh middle.context (k.text x hx)

  under_there : (u : Under) → HasUnder old u → HasBody new (body_under u)
  under_there (Under.Product u) h = tt
  under_there Under.Function h = tt
  under_there (Under.Definition v) h = omega (arith, h, k.nodes, m.nodes)

  body_same : (u : Under) → HasUnder old u → option_map (tree_of new) (body_under u) ≡ option_map (tree_of old) (body_under u)
  body_same (Under.Product u) h = refl
  body_same Under.Function h = refl
  body_same (Under.Definition v) h = ap (λ z. Some z) (m.tree v (omega (arith, h, k.nodes)) ∙ k.tree v h)

  kind_same : tree_of new A ≡ tree_of old A
  kind_same = m.tree A (omega (arith, hA, k.nodes)) ∙ k.tree A hA

  frame_there : (u : Under) → HasUnder old u → HasFrame new (frame_under u x e.name A)
  frame_there (Under.Product u) h = tt
  frame_there Under.Function h = (omega (arith, hx, k.names, m.names), e.named.has, omega (arith, hA, k.nodes, m.nodes))
  frame_there (Under.Definition v) h = (e.named.has, omega (arith, h, k.nodes, m.nodes))

  frame_same : (u : Under) → HasUnder old u → part_of new (frame_under u x e.name A) ≡ part_under old u (text_of old x) (fresh g (text_of old x)) (tree_of old A)
  frame_same (Under.Product u) h = refl
  frame_same Under.Function h = rw (name_is, kind_same, m.text x (omega (arith, hx, k.names)) ∙ k.text x hx) refl
  frame_same (Under.Definition v) h = rw (name_is, m.tree v (omega (arith, h, k.nodes)) ∙ k.tree v h) refl

  -- the hypothesis that is pushed
  abbrev pushed : Hypothesis
  pushed = record { name = e.name; body = body_under under; kind = A }

  variable_same : hypothesis_of new pushed ≡ variable_under old g under x A
  variable_same = rw (name_is, body_same under hu, kind_same) refl

  pub entered_at : At new p ks ps s (part_under old under (text_of old x) (fresh g (text_of old x)) (tree_of old A) ∷ ws) (g ++ variable_under old g under x A ∷ [])
  entered_at =
      along (λ z. At new p z ps s (part_under old under (text_of old x) (fresh g (text_of old x)) (tree_of old A) ∷ ws) (g ++ variable_under old g under x A ∷ [])) (sym e.context)
      (at_waiting new p (hs ++ pushed ∷ []) fs s ws (g ++ variable_under old g under x A ∷ [])
      (at_hypothesis new p hs fs s ws g after pushed (variable_under old g under x A) (record { name = e.named.has; body = under_there under hu; kind = omega (arith, hA, k.nodes, m.nodes) }) variable_same)
      ps (frame_under under x e.name A) _ e.frames (frame_there under hu) (frame_same under hu))

  pub entered_term : IsTerm new e.term (opened (fresh g (text_of old x)) (tree_of old B))
  entered_term = record { has = e.opened.has; is = e.opened.is ∙ ap₂ opened name_is (k.tree B hB) }

-- ---- a type that was found

pub kind_found : (bank : Terms) (p : Places) (hs : List Hypothesis) (fs : List Frame) (t : TermId) → IsTurn bank p hs fs (Turn.Found t) → IsKind bank (store_of bank p) (context_of bank hs) t
kind_found bank p hs fs t h = record { has = h.stands.0; stands = h.stands.1.kind; reads = h.stands.1.reads }

pub kind_found_fits : (bank : Terms) (p : Places) (hs : List Hypothesis) (fs : List Frame) (t : TermId) → IsTurn bank p hs fs (Turn.Found t) → fit (tree_of bank t) ≡ Fit.Fits
kind_found_fits bank p hs fs t h = h.stands.1.fits

-- a term that is asked for
pub term_asked : (bank : Terms) (p : Places) (hs : List Hypothesis) (fs : List Frame) (t : TermId) → IsTurn bank p hs fs (Turn.Ask t) → IsOfStore bank (store_of bank p) t
term_asked bank p hs fs t h = record { has = h.stands.0; over = h.stands.1.term.over; within = h.stands.1.term.within }

-- what the bank has without the newest hypothesis
pub popped_context : (bank : Terms) (p : Places) (hs : List Hypothesis) (fs : List Frame) (t : TermId) → HasStore bank p → IsTurn bank p hs fs (Turn.Found t) → (o : Option Hypothesis) (ks js : List Hypothesis) →
    MatchOption o ((hs ≡ []) × (ks ≡ [])) (λ h. hs ≡ ks ++ h ∷ []) → js ≡ ks → HasContext bank js
popped_context bank p hs fs t s h o ks js e q =
    along (HasContext bank) (sym q) (at_popped bank p hs fs (store_of bank p) (parts_of bank fs) (context_of bank hs) (at_all bank p hs fs (Turn.Found t) s h) o ks e).has_context
