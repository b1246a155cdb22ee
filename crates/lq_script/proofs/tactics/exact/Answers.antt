use Rattle.lq_script.proofs.Proving.{HasContext-grown}
use Rattle.lq_script.proofs.Exactly.{few_hypotheses, exact_nothing, exact_differs, exact_finished}
use Rattle.lq_script.proofs.Grown.{IsEnv-grown}
use Rattle.lq_script.proofs.tactics.exact.Goals as goal

pub known-requires-clause-few : goal.known-requires-clause-few
known-requires-clause-few c = few_hypotheses c.args.bank.now c.args.hypotheses.now c.args.statement c.args.conclusion c.requires.statement c.requires.reaches

pub returns-in_default-clause-answer : goal.returns-in_default-clause-answer
returns-in_default-clause-answer c =
    exact_nothing c.args.bank.now c.name.new.self c.args.env.now c.args.hypotheses.now c.in_ok-name.name c.args.text.now c.args.conclusion c.in_ok-name.ensures.grows c.requires.env c.requires.hypotheses c.in_ok-name.ensures.named
    c.requires.conclusion c.in_default.ensures

pub returns-then-not-same-clause-answer : goal.returns-then-not-same-clause-answer
returns-then-not-same-clause-answer c =
    exact_differs c.args.bank.now c.name.new.self c.args.env.now c.args.hypotheses.now c.in_ok-name.name c.args.text.now c.args.conclusion c.in_ok-name.ensures.grows c.requires.env c.requires.hypotheses c.in_ok-name.ensures.named
    c.requires.conclusion c.in-Some.leaf c.in-Some.kind c.in-Some.ensures c.same.result c.same.ensures c.if-not-same.true

pub finished-requires-clause-hypotheses : goal.finished-requires-clause-hypotheses
finished-requires-clause-hypotheses c = HasContext-grown c.args.bank.now c.name.new.self c.args.hypotheses.now c.in_ok-name.ensures.grows c.requires.hypotheses

pub returns-clause-answer : goal.returns-clause-answer
returns-clause-answer c =
    exact_finished c.args.bank.now c.name.new.self c.args.env.now c.args.hypotheses.now c.in_ok-name.name c.args.text.now c.args.conclusion c.in_ok-name.ensures.grows c.requires.env c.requires.hypotheses c.in_ok-name.ensures.named
    c.requires.conclusion c.in-Some.leaf c.in-Some.kind c.in-Some.ensures c.same.result c.same.ensures c.if-not-same.false c.args.statement c.requires.statement c.requires.reaches c.finished.new.bank c.in_ok-term.term
    c.in_ok-term.ensures.answer

pub known-requires-clause-env : goal.known-requires-clause-env
known-requires-clause-env c = IsEnv-grown c.args.bank.now c.name.new.self c.args.env.now c.in_ok-name.ensures.grows c.requires.env

pub known-requires-clause-hypotheses : goal.known-requires-clause-hypotheses
known-requires-clause-hypotheses c = HasContext-grown c.args.bank.now c.name.new.self c.args.hypotheses.now c.in_ok-name.ensures.grows c.requires.hypotheses
