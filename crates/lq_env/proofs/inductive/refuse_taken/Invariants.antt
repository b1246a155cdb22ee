use Rattle.std.proofs.Common.{◌≡◌, drop}
use Rattle.lq_calculus.specs.Declarations.{first_taken, names_of}
use Rattle.lq_env.specs.Environments.{env_of}
use Rattle.lq_env.specs.Inductive.{HasNames, texts_of}
use Rattle.lq_env.proofs.Naming.{taken_of}
use Rattle.lq_env.proofs.inductive.refuse_taken.Given as goal

-- the first that is taken is the first of those that are left, by the names seen too
abbrev pub invariant-loop-name : goal.invariant-loop-name
invariant-loop-name l =
    HasNames l.bank l.seen.keys
    × (first_taken (names_of (env_of l.bank l.env)) (texts_of l.bank l.names) ≡ first_taken (taken_of l.bank l.env l.seen.keys) (texts_of l.bank (drop l.name-index l.names)))
