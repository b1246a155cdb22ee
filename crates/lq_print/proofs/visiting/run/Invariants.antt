use Rattle.std.proofs.Common.{◌≡◌}
use Rattle.std.specs.List.{AllByRecursion}
use Rattle.lq_env.specs.Environments.{env_of}
use Rattle.lq_print.specs.Pieces.{spelled_of, IsSpelling, Longer}
use Rattle.lq_print.specs.Works.{HasWork, run, weights}
use Rattle.lq_print.proofs.visiting.run.Given as goal

-- what is left comes to what all came to
abbrev pub invariant-loop-item : goal.invariant-loop-item
invariant-loop-item l = record {
  sound : IsSpelling l.bank l.spelling;
  has : AllByRecursion (HasWork l.bank l.spelling) l.work.items;
  longer : Longer l.fn.spelling l.spelling;
  same :
      run l.bank (env_of l.bank l.env) l.spelling l.work.items (spelled_of l.bank l.spelling)
      ≡ run l.bank (env_of l.bank l.env) l.fn.spelling l.fn.work.items (spelled_of l.bank l.fn.spelling);
}

abbrev pub decreases-loop-item : goal.decreases-loop-item
decreases-loop-item l = weights l.bank l.work.items
