use Rattle.lq_terms.specs.Terms.{tree_of}
use Rattle.lq_unify_rows.proofs.Keeping.{has_after}
use Rattle.lq_unify_rows.proofs.Looking.{seen_stands}
use Rattle.lq_unify_rows.proofs.Ruling.{declared_rules}
use Rattle.lq_unify_rows.proofs.asking.answer_in.Goals as goal

pub unify-requires-clause-left_stands : goal.unify-requires-clause-left_stands
unify-requires-clause-left_stands g c = seen_stands c.args.work.now.bank.now c.args.store.now c.args.context.now (tree_of c.args.work.now.bank.now c.args.pair.left) c.requires.scene.kept c.requires.left_seen

pub unify-requires-clause-right_stands : goal.unify-requires-clause-right_stands
unify-requires-clause-right_stands g c = seen_stands c.args.work.now.bank.now c.args.store.now c.args.context.now (tree_of c.args.work.now.bank.now c.args.pair.right) c.requires.scene.kept c.requires.right_seen

pub unify-requires-clause-rules : goal.unify-requires-clause-rules
unify-requires-clause-rules g c = declared_rules c.args.work.now.bank.now c.args.declared.now c.requires.scene.rules

pub returns-clause-has : goal.returns-clause-has
returns-clause-has g c = has_after c.args.work.now.bank.now c.unify.new.work.bank.now c.args.store.now c.unify.new.store c.unify.result c.unify.ensures.has c.unify.ensures.unchanged c.unify.ensures.grows c.requires.scene.store
