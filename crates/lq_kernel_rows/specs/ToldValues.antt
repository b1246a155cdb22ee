-- Values of variables by their numbers.
use Rattle.std.specs.Prelude.{ℕ, List, Option, option_map, slice_get}
use Rattle.lq_terms.specs.declared.nodes.TermId.{TermId}
use Rattle.lq_terms.specs.declared.nodes.Hypothesis.{Hypothesis}

-- variables have values by their numbers, all in one context
abbrev pub told_values : List Hypothesis → List TermId → ℕ → Option (List Hypothesis × TermId)
told_values hs ts n = option_map (λ t. (hs, t)) (slice_get ts n)
