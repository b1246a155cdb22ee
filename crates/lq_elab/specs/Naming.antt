-- What a name stands for where a term is elaborated.
use Rattle.std.specs.Prelude.{◌≡◌, [], ◌∷◌, ◌++◌, true, false, Option, Some, None}
use Rattle.std.specs.List.{AllByRecursion}
use Rattle.lq_trees.specs.Tree.{Name, Tree, Context, Hypothesis, same_name, value_of}
use Rattle.lq_trees.specs.Tree.Tree.{Var}
use Rattle.lq_trees.specs.Fresh.{is_listed}
use Rattle.lq_trees.specs.Ticks.{gives, fails}
use Rattle.lq_calculus.specs.Contraction.{hypothesis}
use Rattle.lq_calculus.specs.Declarations.{lookup}
use Rattle.lq_solving.specs.Stores.{Store, names_in}
use Rattle.lq_solving.specs.ElabFaults.{Elab, unknown, not_a_term}
use Rattle.lq_solving.specs.Elaboration.{Given, given_term, given_name, given_other, Site, Found, found, bind, entry_found, value_found}
use Rattle.lq_elab.specs.Waiting.{Spot}

-- a hypothesis and its type, a term that is an Ltac value, nothing, or an Ltac value that is neither term nor name
pub data Meaning : Type 0 where
  variable : Name → Tree → Meaning
  term : Tree → Meaning
  nothing : Meaning
  no_term : Meaning

-- a hypothesis, else nothing
unfoldable pub meaning_of_name : Option Hypothesis → Meaning
meaning_of_name (Some h) = variable h.name h.kind
meaning_of_name None = nothing

-- an Ltac value
unfoldable pub meaning_of_value : Context → Given → Meaning
meaning_of_value g (given_term t) = term t
meaning_of_value g (given_name y) = meaning_of_name (hypothesis g y)
meaning_of_value g given_other = no_term

-- a hypothesis, if there is one
unfoldable pub meaning_if : Option Hypothesis → Option Meaning
meaning_if (Some h) = Some (variable h.name h.kind)
meaning_if None = None

-- the Ltac value, else the hypothesis
unfoldable pub value_or : Context → Option Given → Option Hypothesis → Option Meaning
value_or g (Some v) h = Some (meaning_of_value g v)
value_or g None h = meaning_if h

unfoldable pub outer_meaning : Site → Name → Option Meaning
outer_meaning e x = value_or e.outer (value_of e.values x) (hypothesis e.outer x)

-- the hypothesis for the nearest binder, else another meaning
unfoldable pub bound_or : Context → Option Name → Option Meaning → Option Meaning
bound_or g (Some y) otherwise = Some (meaning_of_name (hypothesis g y))
bound_or g None otherwise = otherwise

-- what a name stands for, if it is no global alone
unfoldable pub meaning : Site → Spot → Name → Option Meaning
meaning e l x = bound_or l.context (value_of l.binders x) (outer_meaning e x)

-- what is found of it
unfoldable pub meant : Site → Store → Name → Option Meaning → Elab Found
meant e s x (Some (variable y K)) = gives (found s (Var y) K)
meant e s x (Some (term t)) = value_found e s x (given_term t)
meant e s x (Some nothing) = fails (unknown x)
meant e s x (Some no_term) = fails (not_a_term x)
meant e s x None = entry_found e s x (lookup e.env x)

-- the same meanings, but for one name, if it is one
unfoldable pub with_meaning : Name → Meaning → (Name → Option Meaning) → Name → Option Meaning
with_meaning [] m others z = others z
with_meaning (c ∷ x) m others z = elim (same_name (c ∷ x) z) [ true ↦ Some m | false ↦ others z ]

-- each binder has a hypothesis of the context
abbrev pub AreBound : Spot → Type 0
AreBound l = AllByRecursion (λ p. is_listed (names_in l.context) p.1 ≡ true) l.binders

-- one binder more, with its hypothesis
abbrev pub under_binder : Spot → Name → Hypothesis → Spot
under_binder l x h = record { binders = bind x h.name l.binders; context = l.context ++ h ∷ [] }
