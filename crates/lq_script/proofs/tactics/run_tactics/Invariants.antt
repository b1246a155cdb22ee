use Rattle.std.proofs.Common.{◌≡◌, [], map, drop}
use Rattle.lq_terms.specs.Terms.{Grows, tree_of}
use Rattle.lq_env.specs.Environments.{env_of}
use Rattle.lq_output.specs.Steps.{goal as open_goal, after_tactics}
use Rattle.lq_script.specs.Syntax.{plain_tactic}
use Rattle.lq_script.specs.Proofs.{proof_of, HasProof, Reaches}
use Rattle.lq_script.proofs.tactics.run_tactics.Given as goal

abbrev pub invariant-loop-tactic : goal.invariant-loop-tactic
invariant-loop-tactic l = record {
  grown : Grows l.initial.bank l.bank;
  has : HasProof l.bank l.proof;
  reaches : Reaches (tree_of l.initial.bank l.statement) (proof_of l.bank l.proof);
  so_far : after_tactics (env_of l.initial.bank l.env) (open_goal [] (tree_of l.initial.bank l.statement)) (map plain_tactic l.tactics) ≡ after_tactics (env_of l.initial.bank l.env) (proof_of l.bank l.proof) (map plain_tactic (drop l.tactic-index l.tactics));
}
