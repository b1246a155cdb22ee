use Rattle.lq_trees.specs.Change.{close}
use Rattle.lq_terms.specs.Terms.{text_of, tree_of}
use Rattle.lq_terms.proofs.Growth.{Grows-trans}
use Rattle.lq_elab.proofs.MadeLaws.{within_later, close_there, lambda_parts, codomain_parts, function_is_made}
use Rattle.lq_elab.proofs.ending.function_made.Goals as goal

pub shut-requires-2-clause-within : goal.shut-requires-2-clause-within
shut-requires-2-clause-within c = within_later c.args.bank.now c.shut.new.bank c.in_ok-body.ensures.grows c.args.rest.kind c.requires.kind c.requires.kind_within

pub make-requires : goal.make-requires
make-requires c =
    lambda_parts c.args.bank.now c.shut.new.bank c.shut-2.new.bank c.in_ok-body.ensures.grows c.in_ok-codomain.ensures.grows c.args.bound c.requires.bound c.in_ok-body.body _ c.in_ok-body.ensures.shut

pub make-requires-2 : goal.make-requires-2
make-requires-2 c =
    codomain_parts c.args.bank.now c.shut-2.new.bank c.make.new.self (Grows-trans c.args.bank.now c.shut.new.bank c.shut-2.new.bank c.in_ok-body.ensures.grows c.in_ok-codomain.ensures.grows) c.in_ok-term.ensures.grows c.args.bound c.requires.bound
    c.in_ok-codomain.codomain _ c.in_ok-codomain.ensures.shut

pub returns-clause-made : goal.returns-clause-made
returns-clause-made c =
    function_is_made c.args.bank.now c.shut.new.bank c.shut-2.new.bank c.make.new.self c.make-2.new.self c.in_ok-body.ensures.grows c.in_ok-codomain.ensures.grows c.in_ok-term.ensures.grows c.in_ok-kind.ensures.grows c.args.bound c.requires.bound
    c.in_ok-body.body c.in_ok-codomain.codomain (close (text_of c.args.bank.now c.args.bound.hypothesis) (tree_of c.args.bank.now c.args.rest.term)) (close (text_of c.args.bank.now c.args.bound.hypothesis) (tree_of c.args.bank.now c.args.rest.kind))
    c.in_ok-body.ensures.shut (close_there c.args.bank.now c.shut.new.bank c.in_ok-body.ensures.grows c.args.bound c.requires.bound c.args.rest.kind c.requires.kind c.shut-2.new.bank c.in_ok-codomain.codomain c.in_ok-codomain.ensures.shut)
    c.in_ok-term.term c.in_ok-kind.kind c.in_ok-term.ensures.made c.in_ok-kind.ensures.made

pub returns-in_err-kind-clause-grows : goal.returns-in_err-kind-clause-grows
returns-in_err-kind-clause-grows c =
    Grows-trans c.args.bank.now c.shut.new.bank c.make-2.new.self c.in_ok-body.ensures.grows
    (Grows-trans c.shut.new.bank c.shut-2.new.bank c.make-2.new.self c.in_ok-codomain.ensures.grows (Grows-trans c.shut-2.new.bank c.make.new.self c.make-2.new.self c.in_ok-term.ensures.grows c.make-2.ensures.grows))

pub returns-clause-grows : goal.returns-clause-grows
returns-clause-grows c =
    Grows-trans c.args.bank.now c.shut.new.bank c.make-2.new.self c.in_ok-body.ensures.grows
    (Grows-trans c.shut.new.bank c.shut-2.new.bank c.make-2.new.self c.in_ok-codomain.ensures.grows (Grows-trans c.shut-2.new.bank c.make.new.self c.make-2.new.self c.in_ok-term.ensures.grows c.make-2.ensures.grows))
