use Rattle.std.proofs.Common.{sym, ◌∙◌, None}
use Rattle.lq_terms.specs.Terms.{text_of}
use Rattle.lq_terms.specs.Contexts.{HasAllOf}
use Rattle.lq_goals.proofs.Seeing.{all_at}
use Rattle.lq_prims.proofs.NameLaws.{used_here, used_later, used_nowhere}
use Rattle.lq_prims.proofs.naming.is_used.Goals as goal

pub same_name-requires-clause-left : goal.same_name-requires-clause-left
same_name-requires-clause-left c = (all_at (HasAllOf c.args.bank.now) c.args.context.now c.loop-hypothesis.hypothesis-index _ c.loop-hypothesis-test.true c.requires.context).name

pub returns-then-same_name : goal.returns-then-same_name
returns-then-same_name c =
    used_here c.args.bank.now c.args.context.now c.loop-hypothesis.hypothesis-index _ (text_of c.args.bank.now c.args.name) c.loop-hypothesis-test.true (sym c.same_name.ensures ∙ c.if-same_name.true) c.loop-hypothesis.invariant

pub loop-hypothesis-preserved : goal.loop-hypothesis-preserved
loop-hypothesis-preserved c =
    used_later c.args.bank.now c.args.context.now c.loop-hypothesis.hypothesis-index _ (text_of c.args.bank.now c.args.name) c.loop-hypothesis-test.true (sym c.same_name.ensures ∙ c.if-same_name.false) c.loop-hypothesis.invariant

pub returns : goal.returns
returns c = used_nowhere c.args.bank.now c.args.context.now c.loop-hypothesis.hypothesis-index (record { name = record { place = 0 }; body = None; kind = record { place = 0 } }) (text_of c.args.bank.now c.args.name) c.loop-hypothesis-test.false c.loop-hypothesis.invariant
