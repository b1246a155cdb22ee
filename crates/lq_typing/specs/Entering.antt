-- The type of what stands under a binder is asked for, with one hypothesis more.
use Rattle.std.specs.Prelude.{◌≡◌, ◌<◌, ◌^◌, List, [], ◌∷◌, ◌++◌, length, Option, None, Some}
use Rattle.lq_trees.specs.Tree.{Name, Tree}
use Rattle.lq_trees.specs.Fresh.{fresh, opened}
use Rattle.lq_terms.specs.declared.nodes.Hypothesis.{Hypothesis}
use Rattle.lq_terms.specs.declared.nodes.NameId.{NameId}
use Rattle.lq_terms.specs.declared.nodes.TermId.{TermId}
use Rattle.lq_terms.specs.Terms.{Terms, HasTerm, IsName, IsTerm, text_of, tree_of}
use Rattle.lq_terms.specs.Contexts.{context_of}
use Rattle.lq_typing.specs.declared.waiting.Frame.{Frame}
use Rattle.lq_typing.specs.declared.waiting.Turn.{Turn}
use Rattle.lq_typing.specs.declared.waiting.Under.{Under}
use Rattle.lq_typing.specs.Typing.{Part, product_rest, function_rest, definition_rest}

-- the body of the hypothesis for a binder's variable
abbrev pub body_under : Under → Option TermId
body_under (Under.Product u) = None
body_under Under.Function = None
body_under (Under.Definition v) = Some v

-- what waits for the type of the rest
abbrev pub frame_under : Under → (binder name : NameId) → (domain : TermId) → Frame
frame_under (Under.Product u) x y A = Frame.ProductRest u
frame_under Under.Function x y A = Frame.FunctionRest x y A
frame_under (Under.Definition v) x y A = Frame.DefinitionRest y v

-- what that stands for
abbrev pub part_under : Terms → Under → (binder name : Name) → (domain : Tree) → Part
part_under bank (Under.Product u) x y A = product_rest u
part_under bank Under.Function x y A = function_rest x y A
part_under bank (Under.Definition v) x y A = definition_rest y (tree_of bank v)

-- the bank has the value, if there is one
abbrev pub HasUnder : Terms → Under → Type 0
HasUnder bank (Under.Product u) = Unit {0}
HasUnder bank Under.Function = Unit {0}
HasUnder bank (Under.Definition v) = HasTerm bank v

-- the turn asks for the type of the rest, under one hypothesis more with a name that is new, and a frame waits for it
pub record IsEntered (old new : Terms) (hs ks : List Hypothesis) (fs ps : List Frame) (under : Under) (binder : NameId) (domain rest : TermId) (turn : Turn) : Type 0 where
  pub name : NameId
  pub term : TermId
  pub few : length hs < 10 ^ 64
  pub asks : turn ≡ Turn.Ask term
  pub named : IsName new name (fresh (context_of old hs) (text_of old binder))
  pub opened : IsTerm new term (opened (text_of new name) (tree_of old rest))
  pub context : ks ≡ hs ++ record { name = name; body = body_under under; kind = domain } ∷ []
  pub frames : ps ≡ frame_under under binder name domain ∷ fs
