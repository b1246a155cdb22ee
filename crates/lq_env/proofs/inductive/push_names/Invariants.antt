use Rattle.std.proofs.Common.{◌≡◌, ◌++◌, take}
use Rattle.lq_env.specs.Inductive.{firsts}
use Rattle.lq_env.proofs.inductive.push_names.Given as goal

-- the names of the pairs so far stand behind the others
abbrev pub invariant-loop-pair : goal.invariant-loop-pair
invariant-loop-pair g l = l.names.items ≡ l.fn.names.items ++ firsts (take l.pair-index l.pairs)
