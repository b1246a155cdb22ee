-- What a bank knows of a term's tree from the making of its node on, and how that of a node comes from its parts.
use Rattle.std.specs.Prelude.{◌≡◌, ◌≤◌, ◌<◌, ◌+◌, ◌-◌, ◌^◌, ℕ, min, max, false, ◌||◌}
use Rattle.lq_trees.specs.Tree.{Tree, Trees}
use Rattle.lq_trees.specs.Size.{measure, measure_each, counted}
use Rattle.lq_trees.specs.Marks.{loose, loose_of, holds_hypothesis as has_hypothesis, hold_hypothesis, holds_unknown as has_unknown}
use Rattle.lq_terms.specs.declared.facts.Facts.{Facts}

-- of a tree
abbrev pub facts_of : Tree → Facts
facts_of t = record { measure = measure t; loose = loose t; holds_hypothesis = has_hypothesis t; holds_unknown = has_unknown t }

-- of several trees together, whose holding of unknowns nobody asks for
pub record AreFacts (ts : Trees) (f : Facts) : Type 0 where
  pub measure : f.measure ≡ measure_each ts
  pub loose : f.loose ≡ loose_of ts
  pub hypothesis : f.holds_hypothesis ≡ hold_hypothesis ts

-- numbers that a node above does not bring out of range
pub record IsSmall (f : Facts) : Type 0 where
  pub size : f.measure.size ≤ counted
  pub depth : f.measure.depth < 2 ^ 63

-- of no tree
abbrev pub no_facts : Facts
no_facts = record { measure = record { size = 0; depth = 0 }; loose = 0; holds_hypothesis = false; holds_unknown = false }

-- of one node above these parts
abbrev pub above_of : Facts → Facts
above_of f = record { measure = record { size = min (1 + f.measure.size) counted; depth = 1 + f.measure.depth }; loose = f.loose; holds_hypothesis = f.holds_hypothesis; holds_unknown = f.holds_unknown }

-- of both parts
abbrev pub beside_of : Facts → Facts → Facts
beside_of f g = record {
  measure = record { size = min (f.measure.size + g.measure.size) counted; depth = max f.measure.depth g.measure.depth };
  loose = max f.loose g.loose;
  holds_hypothesis = f.holds_hypothesis || g.holds_hypothesis;
  holds_unknown = f.holds_unknown || g.holds_unknown;
}

-- of a part below a binder
abbrev pub inside_of : Facts → Facts
inside_of f = record { measure = f.measure; loose = f.loose - 1; holds_hypothesis = f.holds_hypothesis; holds_unknown = f.holds_unknown }

-- of a bound variable
abbrev pub bound_of : ℕ → Facts
bound_of n = record { measure = record { size = 1; depth = 1 }; loose = n + 1; holds_hypothesis = false; holds_unknown = false }
