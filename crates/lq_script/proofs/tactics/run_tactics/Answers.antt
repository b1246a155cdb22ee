use Rattle.std.proofs.Common.{◌≡◌, [], sym, ◌∙◌, ap, subst, map, Err, arith}
use Rattle.lq_terms.specs.Terms.{tree_of}
use Rattle.lq_terms.specs.Contexts.{context_of, HasContext}
use Rattle.lq_terms.proofs.Growth.{Grows-refl, Grows-trans}
use Rattle.lq_env.specs.Environments.{env_of}
use Rattle.lq_output.specs.Steps.{goal as open_goal, after_tactic, after_tactics}
use Rattle.lq_script.specs.Introduced.{Introduced, from_statement}
use Rattle.lq_script.specs.Syntax.{plain_tactic}
use Rattle.lq_script.specs.Proofs.{proof_of}
use Rattle.lq_script.proofs.Grown.{IsEnv-grown}
use Rattle.lq_script.proofs.Running.{tells_weaker, tactics_step, tactics_stop, tactics_end, tactic_same, tactic_reaches}
use Rattle.lq_script.proofs.tactics.run_tactics.Goals as goal

pub loop-tactic-init : goal.loop-tactic-init
loop-tactic-init c = record {
  grown = Grows-refl c.args.bank.now;
  has = (subst (HasContext c.args.bank.now) (sym c.new.ensures) tt, c.requires.statement.has);
  reaches = subst (λ hs. Introduced (tree_of c.args.bank.now c.args.statement) (context_of c.args.bank.now hs) (tree_of c.args.bank.now c.args.statement)) (sym c.new.ensures) from_statement;
  so_far =
      ap (λ hs. after_tactics (env_of c.args.bank.now c.args.env.now) (open_goal (context_of c.args.bank.now hs) (tree_of c.args.bank.now c.args.statement)) (map plain_tactic c.args.tactics.now)) (sym c.new.ensures);
}

pub run_tactic-requires-clause-env : goal.run_tactic-requires-clause-env
run_tactic-requires-clause-env c = IsEnv-grown c.args.bank.now c.loop-tactic.bank c.args.env.now c.loop-tactic.invariant.grown c.requires.env

pub returns-in-Err-clause-answer : goal.returns-in-Err-clause-answer
returns-in-Err-clause-answer c =
    tells_weaker c.run_tactic.new.bank c.in-Err.fault
    (λ f. after_tactic (env_of c.loop-tactic.bank c.args.env.now) (proof_of c.loop-tactic.bank c.loop-tactic.proof) (plain_tactic c.tactic-item.result) ≡ Err f)
    (λ f. after_tactics (env_of c.args.bank.now c.args.env.now) (open_goal [] (tree_of c.args.bank.now c.args.statement)) (map plain_tactic c.args.tactics.now) ≡ Err f)
    (λ f h.
    c.loop-tactic.invariant.so_far
    ∙ tactics_stop plain_tactic (env_of c.args.bank.now c.args.env.now) c.args.tactics.now c.loop-tactic.tactic-index c.tactic-item.result c.loop-tactic-test.true (proof_of c.loop-tactic.bank c.loop-tactic.proof) f
    (tactic_same c.args.bank.now c.loop-tactic.bank c.args.env.now c.loop-tactic.invariant.grown c.requires.env (proof_of c.loop-tactic.bank c.loop-tactic.proof) c.tactic-item.result _ c.tactic-item.is ∙ h))
    c.in-Err.ensures.answer

pub loop-tactic-preserved : goal.loop-tactic-preserved
loop-tactic-preserved c =
    let same = tactic_same c.args.bank.now c.loop-tactic.bank c.args.env.now c.loop-tactic.invariant.grown c.requires.env (proof_of c.loop-tactic.bank c.loop-tactic.proof) c.tactic-item.result _ c.tactic-item.is in
    record {
      grown = Grows-trans _ _ _ c.loop-tactic.invariant.grown c.in-Ok.ensures.grows;
      has = c.in-Ok.ensures.answer.0;
      reaches =
          tactic_reaches (tree_of c.args.bank.now c.args.statement) c.requires.statement.simple c.requires.statement.below (env_of c.args.bank.now c.args.env.now) (proof_of c.loop-tactic.bank c.loop-tactic.proof) _
          (proof_of c.run_tactic.new.bank c.in-Ok.next) c.loop-tactic.invariant.reaches (same ∙ c.in-Ok.ensures.answer.1);
      so_far =
          c.loop-tactic.invariant.so_far
          ∙ tactics_step plain_tactic (env_of c.args.bank.now c.args.env.now) c.args.tactics.now c.loop-tactic.tactic-index c.tactic-item.result c.loop-tactic-test.true (proof_of c.loop-tactic.bank c.loop-tactic.proof)
          (proof_of c.run_tactic.new.bank c.in-Ok.next) (same ∙ c.in-Ok.ensures.answer.1);
    }

pub returns-clause-answer : goal.returns-clause-answer
returns-clause-answer c = (
  c.loop-tactic.invariant.has,
  c.loop-tactic.invariant.so_far
      ∙ tactics_end plain_tactic (env_of c.args.bank.now c.args.env.now) c.args.tactics.now c.loop-tactic.tactic-index (proof_of c.loop-tactic.bank c.loop-tactic.proof) (omega arith),
)
