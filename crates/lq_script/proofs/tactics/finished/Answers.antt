use Rattle.lq_script.proofs.Proving.{finished_is}
use Rattle.lq_script.proofs.tactics.finished.Goals as goal

pub returns-clause-answer : goal.returns-clause-answer
returns-clause-answer c =
    finished_is c.args.bank.now c.make.new.self c.abstraction.new.bank c.args.statement c.in_ok-leaf.leaf c.in_ok-term.term c.args.hypotheses.now c.args.leaf c.in_ok-leaf.ensures.grows c.requires.statement c.requires.hypotheses
    c.in_ok-leaf.ensures.made c.in_ok-term.ensures.answer
