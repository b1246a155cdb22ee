-- What rows declare: constants that stand for closed terms, and the family of natural numbers.
use Rattle.std.specs.Prelude.{◌==◌, ℕ, zero, suc, true, List, [], ◌∷◌, Option, Some, None, if◌then◌else◌}
use Rattle.std.specs.List.{AllByRecursion}
use Rattle.lq_trees.specs.Tree.{Name, Tree, same_name}
use Rattle.lq_trees.specs.Rules.{Counts as TreeCounts, Arguments, Rules as TreeRules}
use Rattle.lq_terms.specs.declared.nodes.NameId.{NameId}
use Rattle.lq_terms.specs.declared.nodes.TermId.{TermId}
use Rattle.lq_terms.specs.declared.rules.Counts.{Counts}
use Rattle.lq_terms.specs.declared.rules.IotaRule.{IotaRule}
use Rattle.lq_terms.specs.Terms.{Terms, HasName, HasTerm, text_of, tree_of}
use Rattle.lq_terms.specs.Telling.{Telling}
use Rattle.lq_solving.specs.Claims.{IsPlain}

-- constants with what they stand for, and the name of the natural numbers
pub record Declarations : Type 0 where
  pub bodies : List (NameId × TermId)
  pub nat : NameId

-- the rules of zero, which has no arguments, and of the successor, which has a recursive one
abbrev pub zero_rule : IotaRule
zero_rule = record { parameters = 0; indices = 0; constructors = 2; recursive = []; targets = [] }

abbrev pub successor_rule : IotaRule
successor_rule = record { parameters = 0; indices = 0; constructors = 2; recursive = true ∷ []; targets = [] ∷ [] }

-- the rule of a constructor, by its number
abbrev pub nat_rule : ℕ → Option IotaRule
nat_rule zero = Some zero_rule
nat_rule (suc zero) = Some successor_rule
nat_rule (suc (suc k)) = None

abbrev pub nat_counts : Counts
nat_counts = record { parameters = 0; indices = 0; constructors = 2 }

-- what a constant stands for
abbrev pub body_in : List (NameId × TermId) → NameId → Option TermId
body_in [] x = None
body_in (b ∷ bs) x = if x.place == b.0.place then Some b.1 else body_in bs x

abbrev pub counts_at : NameId → NameId → Option Counts
counts_at nat x = if x.place == nat.place then Some nat_counts else None

abbrev pub rule_at : NameId → NameId → ℕ → Option IotaRule
rule_at nat x k = if x.place == nat.place then nat_rule k else None

-- what the declarations tell of computation
abbrev pub telling : Declarations → Telling
telling d = record { delta = body_in d.bodies; counts = counts_at d.nat; rule = rule_at d.nat }

-- the same by texts, over trees
abbrev pub body_told : Terms → List (NameId × TermId) → Name → Option Tree
body_told bank [] x = None
body_told bank (b ∷ bs) x = if same_name x (text_of bank b.0) then Some (tree_of bank b.1) else body_told bank bs x

abbrev pub nat_arguments : ℕ → Option Arguments
nat_arguments zero = Some []
nat_arguments (suc zero) = Some (Some [] ∷ [])
nat_arguments (suc (suc k)) = None

abbrev pub tree_counts : TreeCounts
tree_counts = record { parameters = 0; indices = 0; constructors = 2 }

abbrev pub counts_told : Name → Name → Option TreeCounts
counts_told nat x = if same_name x nat then Some tree_counts else None

abbrev pub arguments_told : Name → Name → ℕ → Option Arguments
arguments_told nat x k = if same_name x nat then nat_arguments k else None

abbrev pub rules_of : Terms → Declarations → TreeRules
rules_of bank d = record { delta = body_told bank d.bodies; counts = counts_told (text_of bank d.nat); arguments = arguments_told (text_of bank d.nat) }

-- a constant of the bank that stands for a closed term without variables
pub record IsBody (bank : Terms) (b : NameId × TermId) : Type 0 where
  pub name : HasName bank b.0
  pub has : HasTerm bank b.1
  pub plain : IsPlain 0 (tree_of bank b.1)

-- the declarations lie in the bank
pub record IsDeclared (bank : Terms) (d : Declarations) : Type 0 where
  pub bodies : AllByRecursion (IsBody bank) d.bodies
  pub nat : HasName bank d.nat
