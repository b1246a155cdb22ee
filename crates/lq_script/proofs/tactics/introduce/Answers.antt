use Rattle.std.proofs.Common.{[]}
use Rattle.lq_script.proofs.Proving.{introduced_ok}
use Rattle.lq_script.proofs.tactics.introduce.Goals as goal

pub returns-clause-answer : goal.returns-clause-answer
returns-clause-answer c =
    introduced_ok c.args.bank.now c.open.new.bank c.args.context c.push.new.self c.args.name c.args.kind c.args.rest c.in_ok-conclusion.conclusion [] c.requires.context c.requires.name c.requires.kind c.requires.new
    c.in_ok-conclusion.ensures.grows c.in_ok-conclusion.ensures.opened c.in_ok-push.ensures.ok
