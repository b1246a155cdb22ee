use Rattle.std.proofs.Common.{ap, arith}
use Rattle.lq_terms.specs.Terms.{text_of, tree_of}
use Rattle.lq_elab.proofs.ShutSteps.{replaced_index, replaced_is}
use Rattle.lq_elab.proofs.shutting.replaced.Goals as goal

pub put_for-requires-clause-index : goal.put_for-requires-clause-index
put_for-requires-clause-index c = replaced_index (text_of c.args.bank.now c.args.name) (tree_of c.args.bank.now c.args.value) (tree_of c.args.bank.now c.args.term) c.requires.closed c.requires.within (omega (arith, ap (λ m. m.depth) c.measure-depth.ensures, ap (λ m. m.depth) c.measure-most.ensures, c.if-depth-gt-MOST_DEPTH.false, c.if-most-depth.false))

pub returns-clause-replaced : goal.returns-clause-replaced
returns-clause-replaced c = replaced_is (text_of c.args.bank.now c.args.name) (tree_of c.args.bank.now c.args.value) (tree_of c.args.bank.now c.args.term) c.requires.within c.put_for.new.bank c.put_for.result c.put_for.ensures.put
