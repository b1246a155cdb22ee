use Rattle.std.proofs.Common.{◌≡◌, ◌++◌, take, drop}
use Rattle.lq_env.specs.Inductive.{AreFree, constructors_declared, firsts}
use Rattle.lq_env.proofs.environment.Env.insert_constructors.Given as goal

-- the constructors so far stand behind the others, and the names that are left are free
abbrev pub invariant-loop-index : goal.invariant-loop-index
invariant-loop-index l = (l.self ≡ l.fn.self ++ constructors_declared l.family 0 (take l.index l.constructors)) × AreFree l.self (firsts (drop l.index l.constructors))
