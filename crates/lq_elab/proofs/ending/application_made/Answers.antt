use Rattle.lq_trees.specs.Change.{subst}
use Rattle.lq_terms.specs.Terms.{tree_of}
use Rattle.lq_elab.proofs.MadeLaws.{application_parts, application_is_made}
use Rattle.lq_elab.proofs.ending.application_made.Goals as goal

pub make-requires : goal.make-requires
make-requires c = application_parts c.args.bank.now c.filled.new.bank c.in_ok-kind.ensures.grows c.args.function c.args.argument c.requires.function c.requires.argument

pub returns-clause-made : goal.returns-clause-made
returns-clause-made c =
    application_is_made c.args.bank.now c.filled.new.bank c.in_ok-kind.ensures.grows c.args.function c.args.argument c.requires.function c.requires.argument c.make.new.self c.in_ok-term.ensures.grows c.in_ok-kind.kind
    (subst (tree_of c.args.bank.now c.args.argument) (tree_of c.args.bank.now c.args.rest)) c.in_ok-kind.ensures.filled c.in_ok-term.term c.in_ok-term.ensures.made
