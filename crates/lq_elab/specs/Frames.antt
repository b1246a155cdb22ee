-- What waits, by places of a bank, and what it stands for.
use Rattle.std.specs.Prelude.{◌≡◌, ◌+◌, ◌*◌, ℕ, List, [], ◌∷◌, ◌++◌, length, map, Option, Some, None, option_map}
use Rattle.lq_trees.specs.Tree.{Name, Tree}
use Rattle.lq_trees.specs.Hypotheses.{HoldsOnly}
use Rattle.lq_ast.specs.Plain.{plain}
use Rattle.lq_terms.specs.declared.nodes.TermId.{TermId}
use Rattle.lq_terms.specs.declared.nodes.Hypothesis.{Hypothesis}
use Rattle.lq_terms.specs.Terms.{Terms, HasName, HasTerm, text_of, tree_of}
use Rattle.lq_terms.specs.Contexts.{context_of, HasBody}
use Rattle.lq_solving.specs.Stores.{Store, names_in}
use Rattle.lq_solving.specs.Kept.{Stands, OptionStands}
use Rattle.lq_solving.specs.Elaboration.{Site, bind}
use Rattle.lq_solving.proofs.StandsLaws.{StandsUnder}
use Rattle.lq_elab.specs.declared.frames.Bound.{Bound}
use Rattle.lq_elab.specs.declared.frames.Part.{Part}
use Rattle.lq_elab.specs.declared.frames.Frame.{Frame}
use Rattle.lq_elab.specs.Waiting.{Spot, Waiting, waiting}
use Rattle.lq_elab.specs.Waiting as tree
use Rattle.lq_elab.specs.Naming.{meaning}
use Rattle.lq_elab.specs.Views.{asked_tree}
use Rattle.lq_elab.specs.Scopes.{meaning_of, HasMeaning}

-- the trees of two terms
abbrev pub pair_of : Terms → TermId × TermId → Tree × Tree
pair_of bank p = (tree_of bank p.0, tree_of bank p.1)

-- what a part stands for
abbrev pub part_of : Terms → Part → tree.Part
part_of bank (Part.ProductDomain x r) = tree.product_domain (text_of bank x) (asked_tree r)
part_of bank (Part.ProductRest b u) = tree.product_rest (text_of bank b.binder) (text_of bank b.hypothesis) (tree_of bank b.kind) u
part_of bank (Part.FunctionDomain x r p) = tree.function_domain (text_of bank x) (asked_tree r) (option_map (pair_of bank) p)
part_of bank (Part.FunctionRest b) = tree.function_rest (text_of bank b.binder) (text_of bank b.hypothesis) (tree_of bank b.kind)
part_of bank (Part.DefinitionKind x v t) = tree.definition_kind (text_of bank x) (plain v.now) (plain t.now)
part_of bank (Part.DefinitionValue x A t) = tree.definition_value (text_of bank x) (option_map (tree_of bank) A) (plain t.now)
part_of bank (Part.DefinitionRest b v) = tree.definition_rest (text_of bank b.binder) (text_of bank b.hypothesis) (tree_of bank v) (tree_of bank b.kind)
part_of bank (Part.Function a as_) = tree.applied_function (plain a.now) (map plain as_.now)
part_of bank (Part.Argument f B as_) = tree.applied_argument (tree_of bank f) (tree_of bank B) (map plain as_.now)
part_of bank (Part.CastKind t) = tree.cast_kind (plain t.now)
part_of bank (Part.CastTerm A) = tree.cast_term (tree_of bank A)

-- a list without its last
unfoldable pub shorter : {A : Type 0} → List A → List A
shorter [] = []
shorter (x ∷ []) = []
shorter (x ∷ y ∷ xs) = x ∷ shorter (y ∷ xs)

-- the hypotheses of the whole, by those of the part
abbrev pub outside : Part → List Hypothesis → List Hypothesis
outside (Part.ProductDomain x r) hs = hs
outside (Part.ProductRest b u) hs = shorter hs
outside (Part.FunctionDomain x r p) hs = hs
outside (Part.FunctionRest b) hs = shorter hs
outside (Part.DefinitionKind x v t) hs = hs
outside (Part.DefinitionValue x A t) hs = hs
outside (Part.DefinitionRest b v) hs = shorter hs
outside (Part.Function a as_) hs = hs
outside (Part.Argument f B as_) hs = hs
outside (Part.CastKind t) hs = hs
outside (Part.CastTerm A) hs = hs

-- the binders round the part, by those round the whole
abbrev pub binders_with : Terms → Part → List (Name × Name) → List (Name × Name)
binders_with bank (Part.ProductDomain x r) bs = bs
binders_with bank (Part.ProductRest b u) bs = bind (text_of bank b.binder) (text_of bank b.hypothesis) bs
binders_with bank (Part.FunctionDomain x r p) bs = bs
binders_with bank (Part.FunctionRest b) bs = bind (text_of bank b.binder) (text_of bank b.hypothesis) bs
binders_with bank (Part.DefinitionKind x v t) bs = bs
binders_with bank (Part.DefinitionValue x A t) bs = bs
binders_with bank (Part.DefinitionRest b v) bs = bind (text_of bank b.binder) (text_of bank b.hypothesis) bs
binders_with bank (Part.Function a as_) bs = bs
binders_with bank (Part.Argument f B as_) bs = bs
binders_with bank (Part.CastKind t) bs = bs
binders_with bank (Part.CastTerm A) bs = bs

-- the binders round a part, by all that waits for it
abbrev pub binders_of : Terms → List Frame → List (Name × Name)
binders_of bank [] = []
binders_of bank (f ∷ fs) = binders_with bank f.part (binders_of bank fs)

-- where a part stands
abbrev pub spot_of : Terms → List Hypothesis → List Frame → Spot
spot_of bank hs fs = record { binders = binders_of bank fs; context = context_of bank hs }

-- all that waits, the nearest first
abbrev pub waits : Terms → List Hypothesis → List Frame → List Waiting
waits bank hs [] = []
waits bank hs (f ∷ fs) =
    waiting (spot_of bank (outside f.part hs) fs) (option_map (tree_of bank) f.wanted) (part_of bank f.part) ∷ waits bank (outside f.part hs) fs

-- the bank has what is kept of a binder
pub record HasBound (bank : Terms) (b : Bound) : Type 0 where
  pub binder : HasName bank b.binder
  pub hypothesis : HasName bank b.hypothesis
  pub kind : HasTerm bank b.kind
  pub hidden : HasMeaning bank b.hidden

abbrev pub HasPair : Terms → Option (TermId × TermId) → Type 0
HasPair bank None = Unit {0}
HasPair bank (Some p) = HasTerm bank p.0 × HasTerm bank p.1

-- the bank has what a part names
abbrev pub HasPart : Terms → Part → Type 0
HasPart bank (Part.ProductDomain x r) = HasName bank x
HasPart bank (Part.ProductRest b u) = HasBound bank b
HasPart bank (Part.FunctionDomain x r p) = HasName bank x × HasPair bank p
HasPart bank (Part.FunctionRest b) = HasBound bank b
HasPart bank (Part.DefinitionKind x v t) = HasName bank x
HasPart bank (Part.DefinitionValue x A t) = HasName bank x × HasBody bank A
HasPart bank (Part.DefinitionRest b v) = HasBound bank b × HasTerm bank v
HasPart bank (Part.Function a as_) = Unit {0}
HasPart bank (Part.Argument f B as_) = HasTerm bank f × HasTerm bank B
HasPart bank (Part.CastKind t) = Unit {0}
HasPart bank (Part.CastTerm A) = HasTerm bank A

-- the last hypothesis is a binder's, and what its name stood for outside is kept
pub record IsBound (bank : Terms) (e : Site) (hs : List Hypothesis) (fs : List Frame) (b : Bound) (body : Option TermId) : Type 0 where
  pub last : hs ≡ shorter hs ++ record { name = b.hypothesis; body = body; kind = b.kind } ∷ []
  pub hidden : meaning_of bank b.hidden ≡ meaning e (spot_of bank (shorter hs) fs) (text_of bank b.binder)

abbrev pub PartBinds : Terms → Site → List Hypothesis → List Frame → Part → Type 0
PartBinds bank e hs fs (Part.ProductDomain x r) = Unit {0}
PartBinds bank e hs fs (Part.ProductRest b u) = IsBound bank e hs fs b None
PartBinds bank e hs fs (Part.FunctionDomain x r p) = Unit {0}
PartBinds bank e hs fs (Part.FunctionRest b) = IsBound bank e hs fs b None
PartBinds bank e hs fs (Part.DefinitionKind x v t) = Unit {0}
PartBinds bank e hs fs (Part.DefinitionValue x A t) = Unit {0}
PartBinds bank e hs fs (Part.DefinitionRest b v) = IsBound bank e hs fs b (Some v)
PartBinds bank e hs fs (Part.Function a as_) = Unit {0}
PartBinds bank e hs fs (Part.Argument f B as_) = Unit {0}
PartBinds bank e hs fs (Part.CastKind t) = Unit {0}
PartBinds bank e hs fs (Part.CastTerm A) = Unit {0}

-- what waits lies in the bank, its binders have their hypotheses, and the outermost context is the goal's
abbrev pub FramesHold : Terms → Site → List Hypothesis → List Frame → Type 0
FramesHold bank e hs [] = context_of bank hs ≡ e.outer
FramesHold bank e hs (f ∷ fs) = HasPart bank f.part × HasBody bank f.wanted × PartBinds bank e hs fs f.part × FramesHold bank e (outside f.part hs) fs

-- what a wanted product is among hypotheses
abbrev pub ProductStands : Store → List Name → Option (Tree × Tree) → Type 0
ProductStands s xs None = Unit {0}
ProductStands s xs (Some p) = Stands s xs p.0 × StandsUnder s xs 1 p.1

-- what a part names stands in the context of the whole
abbrev pub PartStands : Store → List Name → tree.Part → Type 0
PartStands s xs (tree.product_domain x B) = Unit {0}
PartStands s xs (tree.product_rest x y A u) = Unit {0}
PartStands s xs (tree.function_domain x t p) = ProductStands s xs p
PartStands s xs (tree.function_rest x y A) = Unit {0}
PartStands s xs (tree.definition_kind x v t) = Unit {0}
PartStands s xs (tree.definition_value x A t) = OptionStands s xs A
PartStands s xs (tree.definition_rest x y v A) = Unit {0}
PartStands s xs (tree.applied_function a as_) = Unit {0}
PartStands s xs (tree.applied_argument f B as_) = Stands s xs f × StandsUnder s xs 1 B × HoldsOnly xs B
PartStands s xs (tree.cast_kind t) = Unit {0}
PartStands s xs (tree.cast_term A) = Stands s xs A

-- all that waits does
abbrev pub AllStand : Store → List Waiting → Type 0
AllStand s [] = Unit {0}
AllStand s (v ∷ vs) = OptionStands s (names_in v.spot.context) v.wanted × PartStands s (names_in v.spot.context) v.part × AllStand s vs

-- the part is under no binder of the whole's
abbrev pub IsOutside : Part → Type 0
IsOutside (Part.ProductDomain x r) = Unit {0}
IsOutside (Part.ProductRest b u) = ⊥
IsOutside (Part.FunctionDomain x r p) = Unit {0}
IsOutside (Part.FunctionRest b) = ⊥
IsOutside (Part.DefinitionKind x v t) = Unit {0}
IsOutside (Part.DefinitionValue x A t) = Unit {0}
IsOutside (Part.DefinitionRest b v) = ⊥
IsOutside (Part.Function a as_) = Unit {0}
IsOutside (Part.Argument f B as_) = Unit {0}
IsOutside (Part.CastKind t) = Unit {0}
IsOutside (Part.CastTerm A) = Unit {0}

-- how much of the turns what waits takes
abbrev pub weight_of : Part → ℕ
weight_of (Part.ProductDomain x r) = 2
weight_of (Part.ProductRest b u) = 2
weight_of (Part.FunctionDomain x r p) = 2
weight_of (Part.FunctionRest b) = 2
weight_of (Part.DefinitionKind x v t) = 2
weight_of (Part.DefinitionValue x A t) = 2
weight_of (Part.DefinitionRest b v) = 2
weight_of (Part.Function a as_) = 3 + 3 * length as_.now
weight_of (Part.Argument f B as_) = 2 + 3 * length as_.now
weight_of (Part.CastKind t) = 2
weight_of (Part.CastTerm A) = 2

abbrev pub weights : List Frame → ℕ
weights [] = 0
weights (f ∷ fs) = weight_of f.part + weights fs
