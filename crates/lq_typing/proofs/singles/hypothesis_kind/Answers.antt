use Rattle.std.proofs.Common.{refl}
use Rattle.lq_typing.proofs.SingleLaws.{hypothesis_comes, hypothesis_lacks, hypothesis_over}
use Rattle.lq_typing.proofs.singles.hypothesis_kind.Goals as goal

pub read_kind-requires-clause-over : goal.read_kind-requires-clause-over
read_kind-requires-clause-over c = (hypothesis_over c.args.bank.now c.args.store.now c.args.hypotheses.now c.requires.context c.args.name c.find.result c.in-Some.hypothesis c.in-Some.is c.find.ensures.found).over

pub read_kind-requires-clause-closed : goal.read_kind-requires-clause-closed
read_kind-requires-clause-closed c = (hypothesis_over c.args.bank.now c.args.store.now c.args.hypotheses.now c.requires.context c.args.name c.find.result c.in-Some.hypothesis c.in-Some.is c.find.ensures.found).within

pub returns-in-Some-clause-answer : goal.returns-in-Some-clause-answer
returns-in-Some-clause-answer c E b =
    hypothesis_comes c.args.bank.now c.read_kind.new.bank c.args.store.now c.args.hypotheses.now c.requires.kept c.args.name E b c.find.result c.in-Some.hypothesis c.read_kind.result c.in-Some.is c.find.ensures.found c.read_kind.ensures.answer

pub returns-in-None-clause-answer : goal.returns-in-None-clause-answer
returns-in-None-clause-answer c E b =
    hypothesis_lacks c.args.bank.now c.args.bank.now c.args.store.now c.args.hypotheses.now c.requires.kept c.args.name E b c.find.result c.in-None.is c.find.ensures.found c.requires.name refl
