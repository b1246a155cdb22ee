-- What waits goes on with a type that was found.
use Rattle.std.proofs.Common.{◌≡◌, ◌<◌, ◌^◌, ◌∙◌, ℕ, refl, sym, ap, arith, List, [], ◌∷◌, ◌++◌, map, length, Option, Result, Ok, Err}
use Rattle.std.proofs.Common.{subst as along}
use Rattle.std.specs.Prelude.{MatchOption}
use Rattle.std.proofs.lemmas.List.{length-map}
use Rattle.lq_trees.specs.declared.Sort.{Sort as Universe}
use Rattle.lq_trees.specs.Tree.{Name, Tree, Context}
use Rattle.lq_trees.specs.Tree.Tree.{Sort, Prod}
use Rattle.lq_trees.specs.Change.{subst, close}
use Rattle.lq_trees.specs.Hypotheses.{HoldsOnly}
use Rattle.lq_trees.specs.Fresh.{fresh, opened, under, under_let}
use Rattle.lq_trees.specs.Ticks.{gives, ◌>>=◌, Outcome, done, ComesTo}
use Rattle.lq_trees.proofs.Outcomes.{comes_then, comes_gives}
use Rattle.lq_terms.specs.declared.nodes.Hypothesis.{Hypothesis}
use Rattle.lq_terms.specs.declared.nodes.NameId.{NameId}
use Rattle.lq_terms.specs.declared.nodes.TermId.{TermId}
use Rattle.lq_terms.specs.Terms.{Terms, HasName, HasTerm, IsTerm, Grows, text_of, tree_of}
use Rattle.lq_terms.specs.Contexts.{HasContext, context_of, hypothesis_of}
use Rattle.lq_terms.proofs.Growth.{Grows-refl, Grows-trans}
use Rattle.lq_calculus.specs.Declarations.{Env as Environment}
use Rattle.lq_calculus.specs.Typing.{product_sort}
use Rattle.lq_calculus.specs.Checking.{KernelFault as Fault, Kernel, as_sort, as_product, fitting, needed_form, matching}
use Rattle.lq_inference.specs.Inference.{Open, matching_by}
use Rattle.lq_solving.specs.Stores.{Store, names_in, read, read_context}
use Rattle.lq_solving.specs.Kept.{IsStore, StandsIn}
use Rattle.lq_solving.specs.Inference.{by_store_types}
use Rattle.lq_solving.proofs.Later.{reads_sort}
use Rattle.lq_evars.specs.Places.{Places, store_of, HasStore}
use Rattle.lq_evars.proofs.Growing.{context_grown, store_of-grown}
use Rattle.lq_kernel.specs.declared.faults.KernelFault.{KernelFault}
use Rattle.lq_kernel.specs.Answers.{Refuses}
use Rattle.lq_kernel.specs.Steps.{Fitted}
use Rattle.lq_kernel.proofs.Goes.{goes_same, refuses_goes, refuses_first}
use Rattle.lq_typing.specs.declared.waiting.Frame.{Frame}
use Rattle.lq_typing.specs.declared.waiting.Turn.{Turn}
use Rattle.lq_typing.specs.declared.waiting.Under.{Under}
use Rattle.lq_typing.specs.Typing.{Part, product_rest, definition_value, applied_argument, shorter, outside, resumed, go_on, Leads}
use Rattle.lq_typing.specs.Kept.{read_part, kept_asked, kept_typed}
use Rattle.lq_typing.specs.Standing.{Asked, Typed}
use Rattle.lq_typing.specs.Frames.{part_of, parts_of, HasFrame, turn_work, IsTurn}
use Rattle.lq_typing.specs.Going.{Goes, turn_found}
use Rattle.lq_typing.specs.Kinds.{IsKind, IsRest}
use Rattle.lq_typing.specs.Entering.{IsEntered, HasUnder, part_under}
use Rattle.lq_typing.proofs.FittedLaws.{fitted_refuses, fitted_comes}
use Rattle.lq_typing.proofs.KeptLaws.{kept_product_on, kept_function_on, kept_definition_on, kept_value_on, kept_applied, kept_ends}
use Rattle.lq_typing.proofs.StandingLaws.{typed_product, typed_function, typed_value, typed_definition, typed_applied, typed_ends}
use Rattle.lq_typing.proofs.EndLaws.{closed_stands, closed_reads, function_reads, function_stands, definition_reads, definition_stands, argument_reads, argument_stands, read_stands, read_twice}
use Rattle.lq_typing.proofs.FrameLaws.{frame_grown}
use Rattle.lq_typing.proofs.TurnLaws.{At, at_turn, at_grown, at_waiting, at_popped, asks_there, finds_there, variable_under, entered_at, entered_term}

-- ---- refusals of what is done first

module _ (o : Open) (E : Environment) (w : Part) (vs : List Part) (G : Context) (T : Tree) where
  -- the refusal of what is left of a node is that of all the work
  pub all_refused : (bank : Terms) (e : KernelFault) (b left : ℕ) → Refuses bank e (λ n. resumed o E n w G T) b left → Refuses bank e (λ n. go_on o E n (w ∷ vs) G T) b left
  unfolding go_on
  all_refused bank e b left r = refuses_first bank e (λ n. resumed o E n w G T) (λ V n. go_on o E n vs (outside w G) V) b left r

  pub first_refused : {A : Type 0} (f : ℕ → Kernel A) (k : A → ℕ → Kernel Tree) → ((n : ℕ) → resumed o E n w G T ≡ (f n >>= (λ a. k a n))) → (bank : Terms) (e : KernelFault) (b left : ℕ) →
      Refuses bank e f b left → Refuses bank e (λ n. go_on o E n (w ∷ vs) G T) b left
  first_refused f k e bank x b left r =
      all_refused bank x b left
      (refuses_goes bank x (λ n. resumed o E n w G T) b (λ n. f n >>= (λ a. k a n)) b left (goes_same (λ n. resumed o E n w G T) (λ n. f n >>= (λ a. k a n)) b e) (refuses_first bank x f k b left r))

module _ (old : Terms) (p : Places) (E : Environment) (hs : List Hypothesis) (fs : List Frame) (K : TermId) (store : HasStore old p) (i : IsStore (store_of old p)) where
  -- over trees: the store, what waits behind the nearest, the context, the type that was found
  abbrev s : Store
  s = store_of old p

  abbrev ws : List Part
  ws = parts_of old fs

  abbrev g : Context
  g = context_of old hs

  abbrev T : Tree
  T = tree_of old K

  abbrev o : Open
  o = by_store_types s

  -- ---- a part under a binder is asked for

  module _ (f : Frame) (turn : IsTurn old p hs (f ∷ fs) (Turn.Found K)) where
    -- the work that is left
    abbrev work : ℕ → Kernel Tree
    work = turn_work old p E hs (f ∷ fs) (Turn.Found K)

    abbrev here : At old p hs fs s ws g
    here = at_turn old p hs f fs (Turn.Found K) store turn

    few_here : length hs < 10 ^ 64 → length g < 10 ^ 64
    few_here h = along (λ n. n < 10 ^ 64) (sym (length-map hs (hypothesis_of old))) h

    module _ (mid new : Terms) (k : Grows old mid) (m : Grows mid new) (ks : List Hypothesis) (ps : List Frame) (b l : ℕ) where
      module _ (u : Under) (x : NameId) (A B : TermId) (next : Turn) (e : IsEntered mid new hs ks fs ps u x A B next) (hu : HasUnder old u) (hx : HasName old x) (hA : HasTerm old A) (hB : HasTerm old B) where
        abbrev y : Name
        y = fresh g (text_of old x)

        abbrev w : Part
        w = part_under old u (text_of old x) y (tree_of old A)

        abbrev h : Context
        h = g ++ variable_under old g u x A ∷ []

        enters : Asked s (w ∷ ws) h (opened y (tree_of old B)) → Leads work (kept_asked s E (w ∷ ws) h (opened y (tree_of old B))) b l → Goes new p E ks ps (Ok next) work b l
        enters a q =
            along (λ z. Goes new p E ks ps (Ok z) work b l) (sym e.asks)
            (asks_there new p ks ps s (w ∷ ws) h (entered_at old mid new k m p hs ks fs ps s ws g u x A B next here e hu hx hA hB) E e.term (opened y (tree_of old B))
            (entered_term old mid new k m p hs ks fs ps s ws g u x A B next here e hu hx hA hB) a work b l q)

      -- ---- a part in the same context is asked for

      asks_here : (v : Frame) (t : TermId) → ks ≡ hs → ps ≡ v ∷ fs → (w : Part) → HasFrame new v → part_of new v ≡ w → HasTerm old t → Asked s (w ∷ ws) g (tree_of old t) →
          Leads work (kept_asked s E (w ∷ ws) g (tree_of old t)) b l → Goes new p E ks ps (Ok (Turn.Ask t)) work b l
      asks_here v t c d w hv q ht a r =
          let both : Grows old new = Grows-trans old mid new k m in
          along (λ z. Goes new p E z ps (Ok (Turn.Ask t)) work b l) (sym c)
          (asks_there new p hs ps s (w ∷ ws) g (at_waiting new p hs fs s ws g (at_grown old new both p hs fs s ws g here) ps v w d hv q) E t (tree_of old t)
          (record { has = omega (arith, ht, both.nodes); is = both.tree t ht }) a work b l r)

      -- ---- a type ends a node

      ends_here : (c : Context) → At old p ks fs s ws c → outside (part_of old f) g ≡ c → (U V : Tree) (r : Result TermId KernelFault) →
          ((q : Outcome Fault Tree) → ComesTo (λ n. fitting U) l q → ComesTo (λ n. resumed o E n (read_part s (part_of old f)) (read_context s g) T) b q) →
          StandsIn s c V → read s V ≡ U → Fitted new r U → Goes new p E ks fs (turn_found r) work b l
      ends_here c at same U V (Ok t) comes stands is h =
          let both : Grows old new = Grows-trans old mid new k m in
          let there : StandsIn s c U = along (StandsIn s c) is (read_stands s i c V stands) in
          let again : read s U ≡ U = along (λ z. read s z ≡ z) is (read_twice s i c V) in
          finds_there new p ks fs s ws c (at_grown old new both p ks fs s ws c at) E t U h.0
          (along (λ z. Typed s ws z U) same (typed_ends s ws g (part_of old f) T U turn.stands.1 (along (λ z. StandsIn s z U) (sym same) there) again h.1)) work b l
          (along (λ z. Leads work (kept_typed s E ws z U) b l) same (kept_ends s i E ws g b (part_of old f) T U l (comes (done U l) (fitted_comes new t U l h))))
      ends_here c at same U V (Err e) comes stands is h =
          all_refused o E (read_part s (part_of old f)) (map (read_part s) ws) (read_context s g) T new e b l
          (refuses_goes new e (λ n. resumed o E n (read_part s (part_of old f)) (read_context s g) T) b (λ n. fitting U) l l comes (fitted_refuses new e U l h))

-- ---- each of what waits

module _ (old : Terms) (p : Places) (E : Environment) (hs : List Hypothesis) (fs : List Frame) (K : TermId) (store : HasStore old p) (i : IsStore (store_of old p)) (b l : ℕ) where
  -- the sort that the type must be
  abbrev pub sort_work : ℕ → Kernel Universe
  sort_work n = needed_form E n (read_context (store_of old p) (context_of old hs)) (tree_of old K) >>= as_sort

  module _ (mid new : Terms) (k : Grows old mid) (m : Grows mid new) (ks : List Hypothesis) (ps : List Frame) where
    -- ---- a product

    module _ (x : NameId) (A B : TermId) (turn : IsTurn old p hs (Frame.ProductDomain x A B ∷ fs) (Turn.Found K)) where
      pub product_enters : (u : Universe) (next : Turn) → IsEntered mid new hs ks fs ps (Under.Product u) x A B next → ComesTo sort_work b (done u l) →
          Goes new p E ks ps (Ok next) (turn_work old p E hs (Frame.ProductDomain x A B ∷ fs) (Turn.Found K)) b l
      unfolding under
      product_enters u next e c =
          enters old p E hs fs K store i (Frame.ProductDomain x A B) turn mid new k m ks ps b l (Under.Product u) x A B next e tt turn.frames.0.0 turn.frames.0.1 turn.frames.0.2
          (typed_product (store_of old p) (parts_of old fs) (context_of old hs) i (few_here old p E hs fs K store i (Frame.ProductDomain x A B) turn e.few) (text_of old x) (tree_of old A) (tree_of old B) (tree_of old K) u turn.stands.1)
          (kept_product_on (store_of old p) i E (parts_of old fs) (context_of old hs) b (tree_of old K) u l c (text_of old x) (tree_of old A) (tree_of old B))

    module _ (x : NameId) (A B : TermId) (turn : IsTurn old p hs (Frame.FunctionDomain x A B ∷ fs) (Turn.Found K)) where
      pub function_enters : (u : Universe) (next : Turn) → IsEntered mid new hs ks fs ps Under.Function x A B next → ComesTo sort_work b (done u l) →
          Goes new p E ks ps (Ok next) (turn_work old p E hs (Frame.FunctionDomain x A B ∷ fs) (Turn.Found K)) b l
      unfolding under
      function_enters u next e c =
          enters old p E hs fs K store i (Frame.FunctionDomain x A B) turn mid new k m ks ps b l Under.Function x A B next e tt turn.frames.0.0 turn.frames.0.1 turn.frames.0.2
          (typed_function (store_of old p) (parts_of old fs) (context_of old hs) i (few_here old p E hs fs K store i (Frame.FunctionDomain x A B) turn e.few) (text_of old x) (tree_of old A) (tree_of old B) (tree_of old K) turn.stands.1)
          (kept_function_on (store_of old p) i E (parts_of old fs) (context_of old hs) b (tree_of old K) u l c (text_of old x) (tree_of old A) (tree_of old B))

    -- ---- a local definition

    module _ (x : NameId) (v A B : TermId) where
      pub definition_asks : (turn : IsTurn old p hs (Frame.DefinitionKind x v A B ∷ fs) (Turn.Found K)) → (u : Universe) → ks ≡ hs → ps ≡ Frame.DefinitionValue x v A B ∷ fs → ComesTo sort_work b (done u l) →
          Goes new p E ks ps (Ok (Turn.Ask v)) (turn_work old p E hs (Frame.DefinitionKind x v A B ∷ fs) (Turn.Found K)) b l
      definition_asks turn u c d h =
          let both : Grows old new = Grows-trans old mid new k m in
          let f = frame_grown old new both (Frame.DefinitionValue x v A B) turn.frames.0 in
          asks_here old p E hs fs K store i (Frame.DefinitionKind x v A B) turn mid new k m ks ps b l (Frame.DefinitionValue x v A B) v c d
          (definition_value (text_of old x) (tree_of old v) (tree_of old A) (tree_of old B)) f.1 f.0 turn.frames.0.1
          (typed_definition (store_of old p) (parts_of old fs) (context_of old hs) (text_of old x) (tree_of old v) (tree_of old A) (tree_of old B) (tree_of old K) turn.stands.1)
          (kept_definition_on (store_of old p) i E (parts_of old fs) (context_of old hs) b (tree_of old K) u l h (text_of old x) (tree_of old v) (tree_of old A) (tree_of old B))

      pub value_enters : (turn : IsTurn old p hs (Frame.DefinitionValue x v A B ∷ fs) (Turn.Found K)) → (next : Turn) → IsEntered mid new hs ks fs ps (Under.Definition v) x A B next →
          ComesTo (λ n. matching_by (by_store_types (store_of old p)) E n (read_context (store_of old p) (context_of old hs)) (tree_of old K) (read (store_of old p) (tree_of old A))) b (done tt l) →
          Goes new p E ks ps (Ok next) (turn_work old p E hs (Frame.DefinitionValue x v A B ∷ fs) (Turn.Found K)) b l
      unfolding under_let
      value_enters turn next e c =
          enters old p E hs fs K store i (Frame.DefinitionValue x v A B) turn mid new k m ks ps b l (Under.Definition v) x A B next e turn.frames.0.1 turn.frames.0.0 turn.frames.0.2 turn.frames.0.3
          (typed_value (store_of old p) (parts_of old fs) (context_of old hs) i (few_here old p E hs fs K store i (Frame.DefinitionValue x v A B) turn e.few) (text_of old x) (tree_of old v) (tree_of old A) (tree_of old B) (tree_of old K) turn.stands.1)
          (kept_value_on (store_of old p) i E (parts_of old fs) (context_of old hs) b (tree_of old K) l (text_of old x) (tree_of old v) (tree_of old A) (tree_of old B) c)

    -- ---- an application

    module _ (a D R : TermId) where
      pub function_asks : (turn : IsTurn old p hs (Frame.Function a ∷ fs) (Turn.Found K)) → ks ≡ hs → ps ≡ Frame.Argument a D R ∷ fs →
          IsKind mid (store_of old p) (context_of old hs) D → IsRest mid (store_of old p) (context_of old hs) R →
          ComesTo (λ n. needed_form E n (read_context (store_of old p) (context_of old hs)) (tree_of old K) >>= as_product) b (done (tree_of mid D, tree_of mid R) l) →
          Goes new p E ks ps (Ok (Turn.Ask a)) (turn_work old p E hs (Frame.Function a ∷ fs) (Turn.Found K)) b l
      function_asks turn c d kind rest h =
          let f = frame_grown mid new m (Frame.Argument a D R) (omega (arith, turn.frames.0, k.nodes), kind.has, rest.has) in
          asks_here old p E hs fs K store i (Frame.Function a) turn mid new k m ks ps b l (Frame.Argument a D R) a c d
          (applied_argument (tree_of old a) (tree_of mid D) (tree_of mid R)) f.1 (f.0 ∙ ap (λ z. applied_argument z (tree_of mid D) (tree_of mid R)) (k.tree a turn.frames.0)) turn.frames.0
          (typed_applied (store_of old p) (parts_of old fs) (context_of old hs) (tree_of old a) (tree_of old K) (tree_of mid D) (tree_of mid R) turn.stands.1 kind.stands rest.stands kind.reads rest.reads)
          (kept_applied (store_of old p) i E (parts_of old fs) (context_of old hs) b (tree_of old K) (tree_of mid D, tree_of mid R) l (tree_of old a) h)

    -- ---- the ends

    pub argument_ends : (a D R : TermId) → (turn : IsTurn old p hs (Frame.Argument a D R ∷ fs) (Turn.Found K)) → ks ≡ hs → ps ≡ fs → (r : Result TermId KernelFault) →
        ComesTo (λ n. matching E n (read_context (store_of old p) (context_of old hs)) (tree_of old K) (tree_of old D)) b (done tt l) →
        Fitted new r (read (store_of mid p) (subst (tree_of mid a) (tree_of mid R))) →
        Goes new p E ks ps (turn_found r) (turn_work old p E hs (Frame.Argument a D R ∷ fs) (Turn.Found K)) b l
    unfolding outside resumed read_part
    argument_ends a D R turn c d r h q =
        let parts = turn.stands.1.parts.0 in
        let is : read (store_of old p) (subst (tree_of old a) (tree_of old R)) ≡ subst (read (store_of old p) (tree_of old a)) (tree_of old R) = argument_reads (store_of old p) i (context_of old hs) (tree_of old a) (tree_of old R) parts.4 in
        along (λ z. Goes new p E z ps (turn_found r) (turn_work old p E hs (Frame.Argument a D R ∷ fs) (Turn.Found K)) b l) (sym c)
        (along (λ z. Goes new p E hs z (turn_found r) (turn_work old p E hs (Frame.Argument a D R ∷ fs) (Turn.Found K)) b l) (sym d)
        (ends_here old p E hs fs K store i (Frame.Argument a D R) turn mid new k m hs fs b l (context_of old hs) (at_turn old p hs (Frame.Argument a D R) fs (Turn.Found K) store turn) refl
        (subst (read (store_of old p) (tree_of old a)) (tree_of old R)) (subst (tree_of old a) (tree_of old R)) r
        (λ x y. comes_then (λ n. matching E n (read_context (store_of old p) (context_of old hs)) (tree_of old K) (tree_of old D)) (λ ok n. fitting (subst (read (store_of old p) (tree_of old a)) (tree_of old R))) b tt l x h y)
        (argument_stands (store_of old p) i (context_of old hs) (tree_of old a) (tree_of old R) parts.0 parts.2) is
        (along (Fitted new r) is
        (along (λ z. Fitted new r (read z (subst (tree_of old a) (tree_of old R)))) (store_of-grown old mid k p store)
        (along (λ z. Fitted new r (read (store_of mid p) (subst z (tree_of old R)))) (k.tree a turn.frames.0.0)
        (along (λ z. Fitted new r (read (store_of mid p) (subst (tree_of mid a) z))) (k.tree R turn.frames.0.2) q))))))

  module _ (new : Terms) (m : Grows old new) (ks : List Hypothesis) (gone : Option Hypothesis) (popped : MatchOption gone ((hs ≡ []) × (ks ≡ [])) (λ h. hs ≡ ks ++ h ∷ [])) where
    -- where the work stands without the newest hypothesis
    abbrev shorter_at : (f : Frame) → IsTurn old p hs (f ∷ fs) (Turn.Found K) → At old p ks fs (store_of old p) (parts_of old fs) (shorter (context_of old hs))
    shorter_at f turn = at_popped old p hs fs (store_of old p) (parts_of old fs) (context_of old hs) (at_turn old p hs f fs (Turn.Found K) store turn) gone ks popped

    pub product_ends : (u v : Universe) → (turn : IsTurn old p hs (Frame.ProductRest u ∷ fs) (Turn.Found K)) → ComesTo sort_work b (done v l) → (t : TermId) → IsTerm new t (Sort (product_sort u v)) →
        Goes new p E ks fs (Ok (Turn.Found t)) (turn_work old p E hs (Frame.ProductRest u ∷ fs) (Turn.Found K)) b l
    unfolding outside resumed read_part read
    product_ends u v turn h t is =
        finds_there new p ks fs (store_of old p) (parts_of old fs) (shorter (context_of old hs)) (at_grown old new m p ks fs (store_of old p) (parts_of old fs) (shorter (context_of old hs)) (shorter_at (Frame.ProductRest u) turn)) E t (Sort (product_sort u v)) is
        (typed_ends (store_of old p) (parts_of old fs) (context_of old hs) (product_rest u) (tree_of old K) (Sort (product_sort u v)) turn.stands.1
        (record { over = tt; within = tt; holds = along (HoldsOnly (names_in (shorter (context_of old hs)))) (sym (reads_sort (store_of old p).variables (store_of old p).values (product_sort u v))) tt })
        (reads_sort (store_of old p).variables (store_of old p).values (product_sort u v)) refl)
        (turn_work old p E hs (Frame.ProductRest u ∷ fs) (Turn.Found K)) b l
        (kept_ends (store_of old p) i E (parts_of old fs) (context_of old hs) b (product_rest u) (tree_of old K) (Sort (product_sort u v)) l
        (comes_then sort_work (λ z n. gives (Sort (product_sort u z))) b v l (done (Sort (product_sort u v)) l) h (comes_gives (λ n. gives (Sort (product_sort u v))) (Sort (product_sort u v)) l (λ n. refl))))

module _ (old : Terms) (p : Places) (E : Environment) (hs : List Hypothesis) (fs : List Frame) (K : TermId) (store : HasStore old p) (i : IsStore (store_of old p)) (b : ℕ)
    (new : Terms) (m : Grows old new) (ks : List Hypothesis) (gone : Option Hypothesis) (popped : MatchOption gone ((hs ≡ []) × (ks ≡ [])) (λ h. hs ≡ ks ++ h ∷ [])) (r : Result TermId KernelFault) where
  pub function_ends : (x y : NameId) (A : TermId) → (turn : IsTurn old p hs (Frame.FunctionRest x y A ∷ fs) (Turn.Found K)) →
      Fitted new r (read (store_of old p) (Prod (text_of old x) (tree_of old A) (close (text_of old y) (tree_of old K)))) →
      Goes new p E ks fs (turn_found r) (turn_work old p E hs (Frame.FunctionRest x y A ∷ fs) (Turn.Found K)) b b
  unfolding outside resumed read_part
  function_ends x y A turn q =
      let h = turn.stands.1 in
      let is : read (store_of old p) (Prod (text_of old x) (tree_of old A) (close (text_of old y) (tree_of old K))) ≡ Prod (text_of old x) (read (store_of old p) (tree_of old A)) (close (text_of old y) (tree_of old K)) =
      function_reads (store_of old p) i (context_of old hs) (text_of old y) (tree_of old K) h.parts.0.0 h.kind h.reads (text_of old x) (tree_of old A) in
      ends_here old p E hs fs K store i (Frame.FunctionRest x y A) turn old new (Grows-refl old) m ks fs b b (shorter (context_of old hs))
      (at_popped old p hs fs (store_of old p) (parts_of old fs) (context_of old hs) (at_turn old p hs (Frame.FunctionRest x y A) fs (Turn.Found K) store turn) gone ks popped) refl
      (Prod (text_of old x) (read (store_of old p) (tree_of old A)) (close (text_of old y) (tree_of old K))) (Prod (text_of old x) (tree_of old A) (close (text_of old y) (tree_of old K))) r (λ z w. w)
      (function_stands (store_of old p) i (context_of old hs) (text_of old y) (tree_of old K) h.parts.0.0 h.kind h.reads (text_of old x) (tree_of old A) h.parts.0.1) is (along (Fitted new r) is q)

  pub definition_ends : (y : NameId) (v : TermId) → (turn : IsTurn old p hs (Frame.DefinitionRest y v ∷ fs) (Turn.Found K)) →
      Fitted new r (read (store_of old p) (subst (tree_of old v) (close (text_of old y) (tree_of old K)))) →
      Goes new p E ks fs (turn_found r) (turn_work old p E hs (Frame.DefinitionRest y v ∷ fs) (Turn.Found K)) b b
  unfolding outside resumed read_part
  definition_ends y v turn q =
      let h = turn.stands.1 in
      let is : read (store_of old p) (subst (tree_of old v) (close (text_of old y) (tree_of old K))) ≡ subst (read (store_of old p) (tree_of old v)) (close (text_of old y) (tree_of old K)) =
      definition_reads (store_of old p) i (context_of old hs) (text_of old y) (tree_of old K) h.parts.0.0 h.kind h.reads (tree_of old v) in
      ends_here old p E hs fs K store i (Frame.DefinitionRest y v) turn old new (Grows-refl old) m ks fs b b (shorter (context_of old hs))
      (at_popped old p hs fs (store_of old p) (parts_of old fs) (context_of old hs) (at_turn old p hs (Frame.DefinitionRest y v) fs (Turn.Found K) store turn) gone ks popped) refl
      (subst (read (store_of old p) (tree_of old v)) (close (text_of old y) (tree_of old K))) (subst (tree_of old v) (close (text_of old y) (tree_of old K))) r (λ z w. w)
      (definition_stands (store_of old p) i (context_of old hs) (text_of old y) (tree_of old K) h.parts.0.0 h.kind h.reads (tree_of old v) h.parts.0.1) is (along (Fitted new r) is q)

-- ---- what the calls at the ends ask for

pub sort_made : (bank : Terms) (t : TermId) (u v : Universe) → u ≡ v → IsTerm bank t (Sort u) → IsTerm bank t (Sort v)
sort_made bank t u v e h = along (λ z. IsTerm bank t (Sort z)) e h

module _ (old : Terms) (p : Places) (hs : List Hypothesis) (fs : List Frame) (K : TermId) where
  pub argument_there : (a D R : TermId) → IsTurn old p hs (Frame.Argument a D R ∷ fs) (Turn.Found K) → IsKind old (store_of old p) (context_of old hs) D
  argument_there a D R turn = record { has = turn.frames.0.1; stands = turn.stands.1.parts.0.1; reads = turn.stands.1.parts.0.3 }

  pub closed_there : (store : HasStore old p) → IsStore (store_of old p) → (y : NameId) (v : TermId) → (turn : IsTurn old p hs (Frame.DefinitionRest y v ∷ fs) (Turn.Found K)) →
      (gone : Option Hypothesis) (ks js : List Hypothesis) → MatchOption gone ((hs ≡ []) × (ks ≡ [])) (λ h. hs ≡ ks ++ h ∷ []) → js ≡ ks → HoldsOnly (names_in (context_of old js)) (close (text_of old y) (tree_of old K))
  closed_there store i y v turn gone ks js popped e =
      let h = turn.stands.1 in
      let at = at_popped old p hs fs (store_of old p) (parts_of old fs) (context_of old hs) (at_turn old p hs (Frame.DefinitionRest y v) fs (Turn.Found K) store turn) gone ks popped in
      along (λ z. HoldsOnly (names_in (context_of old z)) (close (text_of old y) (tree_of old K))) (sym e)
      (along (λ z. HoldsOnly (names_in z) (close (text_of old y) (tree_of old K))) (sym at.context)
      (along (HoldsOnly (names_in (shorter (context_of old hs)))) (closed_reads (store_of old p) i (context_of old hs) (text_of old y) (tree_of old K) h.parts.0.0 h.kind h.reads)
      (closed_stands (store_of old p) i (context_of old hs) (text_of old y) (tree_of old K) h.parts.0.0 h.kind h.reads).holds))

pub rest_context : (old new : Terms) → Grows old new → (hs js : List Hypothesis) → js ≡ hs → HasContext old hs → HasContext new js
rest_context old new g hs js e h = along (HasContext new) (sym e) (context_grown old new g hs h).1

pub rest_holds : (old new : Terms) → Grows old new → (p : Places) (hs : List Hypothesis) (fs : List Frame) (K a D R : TermId) → IsTurn old p hs (Frame.Argument a D R ∷ fs) (Turn.Found K) → (js : List Hypothesis) → js ≡ hs →
    HoldsOnly (names_in (context_of new js)) (tree_of new R)
rest_holds old new g p hs fs K a D R turn js e =
    along (λ z. HoldsOnly (names_in (context_of new z)) (tree_of new R)) (sym e)
    (along (λ z. HoldsOnly (names_in z) (tree_of new R)) (sym (context_grown old new g hs turn.context).0)
    (along (HoldsOnly (names_in (context_of old hs))) (sym (g.tree R turn.frames.0.2))
    (along (HoldsOnly (names_in (context_of old hs))) turn.stands.1.parts.0.4 turn.stands.1.parts.0.2.holds)))
