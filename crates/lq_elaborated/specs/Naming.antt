-- The names of a family, before any work.
use Rattle.std.specs.Prelude.{◌≡◌, List, map, Option, Some, None, Result, Ok, Err}
use Rattle.std.specs.List.{AllByRecursion}
use Rattle.lq_calculus.specs.Declarations.{EnvFault}
use Rattle.lq_ast.specs.declared.sentence.Constructor.{Constructor}
use Rattle.lq_terms.specs.declared.nodes.NameId.{NameId}
use Rattle.lq_terms.specs.declared.nodes.TermId.{TermId}
use Rattle.lq_terms.specs.Terms.{Terms}
use Rattle.lq_env.specs.Families.{HasConstructor, constructors_of}
use Rattle.lq_print.specs.Causes.{cause_of, HasCause}
use Rattle.lq_sessions.specs.Told.{of_env}
use Rattle.lq_causes.specs.declared.stops.Stop.{Stop}

-- constructors of a bank with the names that are written
pub record AreNamed (bank : Terms) (made : List (NameId × TermId)) (cs : List Constructor) : Type 0 where
  pub have : AllByRecursion (HasConstructor bank) made
  pub names : map (λ c. c.0) (constructors_of bank made) ≡ map (λ c. c.name) cs

-- no name is taken, or the first that is taken is told. Memory may end at any time.
abbrev pub NewOr : Terms → Result (Unit {0}) Stop → Option EnvFault → Type 0
NewOr bank (Ok ok) o = o ≡ None
NewOr bank (Err (Stop.Refused c)) o = HasCause bank c × (f : EnvFault) × (o ≡ Some f) × (of_env f ≡ cause_of bank c)
NewOr bank (Err Stop.NoMemory) o = Unit {0}
