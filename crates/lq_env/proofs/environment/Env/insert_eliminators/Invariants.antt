use Rattle.std.proofs.Common.{◌≡◌, ◌++◌, take, drop}
use Rattle.lq_env.specs.Inductive.{AreFree, eliminators_declared, firsts}
use Rattle.lq_env.proofs.environment.Env.insert_eliminators.Given as goal

-- the eliminators so far stand behind the others, and the names that are left are free
abbrev pub invariant-loop-eliminator : goal.invariant-loop-eliminator
invariant-loop-eliminator l =
    (l.self ≡ l.fn.self ++ eliminators_declared l.family (take l.eliminator-index l.eliminators)) × AreFree l.self (firsts (drop l.eliminator-index l.eliminators))
