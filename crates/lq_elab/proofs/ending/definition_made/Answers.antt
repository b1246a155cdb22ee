use Rattle.lq_trees.specs.Change.{close, subst}
use Rattle.lq_terms.specs.Terms.{text_of, tree_of}
use Rattle.lq_elab.proofs.MadeLaws.{within_later, close_there, definition_parts, definition_is_made}
use Rattle.lq_elab.proofs.ending.definition_made.Goals as goal

pub shut-requires-clause-within : goal.shut-requires-clause-within
shut-requires-clause-within c = within_later c.args.bank.now c.replaced.new.bank c.in_ok-kind.ensures.grows c.args.rest.term c.requires.rest c.requires.within

pub make-requires : goal.make-requires
make-requires c =
    definition_parts c.args.bank.now c.replaced.new.bank c.shut.new.bank c.in_ok-kind.ensures.grows c.in_ok-body.ensures.grows c.args.bound c.requires.bound c.args.value c.in_ok-body.body c.requires.value _
    (close_there c.args.bank.now c.replaced.new.bank c.in_ok-kind.ensures.grows c.args.bound c.requires.bound c.args.rest.term c.requires.rest c.shut.new.bank c.in_ok-body.body c.in_ok-body.ensures.shut)

pub returns-clause-made : goal.returns-clause-made
returns-clause-made c =
    definition_is_made c.args.bank.now c.replaced.new.bank c.shut.new.bank c.make.new.self c.in_ok-kind.ensures.grows c.in_ok-body.ensures.grows c.in_ok-term.ensures.grows c.args.bound c.requires.bound c.args.value c.in_ok-kind.kind c.in_ok-body.body c.requires.value
    (subst (tree_of c.args.bank.now c.args.value) (close (text_of c.args.bank.now c.args.bound.hypothesis) (tree_of c.args.bank.now c.args.rest.kind)))
    (close (text_of c.args.bank.now c.args.bound.hypothesis) (tree_of c.args.bank.now c.args.rest.term)) c.in_ok-kind.ensures.replaced
    (close_there c.args.bank.now c.replaced.new.bank c.in_ok-kind.ensures.grows c.args.bound c.requires.bound c.args.rest.term c.requires.rest c.shut.new.bank c.in_ok-body.body c.in_ok-body.ensures.shut)
    c.in_ok-term.term c.in_ok-term.ensures.made
