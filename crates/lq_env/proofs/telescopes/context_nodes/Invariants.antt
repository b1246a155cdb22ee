use Rattle.std.proofs.Common.{◌≡◌, min, take}
use Rattle.lq_terms.specs.Contexts.{context_of}
use Rattle.lq_env.specs.Telescopes.{weight_of}
use Rattle.lq_env.proofs.telescopes.context_nodes.Given as goal

abbrev pub invariant-loop-hypothesis : goal.invariant-loop-hypothesis
invariant-loop-hypothesis l = l.nodes ≡ min (weight_of (context_of l.bank (take l.hypothesis-index l.context))) 1000001
