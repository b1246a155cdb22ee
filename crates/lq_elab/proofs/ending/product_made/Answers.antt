use Rattle.lq_trees.specs.Change.{close}
use Rattle.lq_terms.specs.Terms.{text_of, tree_of}
use Rattle.lq_terms.proofs.Growth.{Grows-trans}
use Rattle.lq_elab.proofs.MadeLaws.{product_parts, product_is_made}
use Rattle.lq_elab.proofs.ending.product_made.Goals as goal

pub make-requires : goal.make-requires
make-requires c = product_parts c.args.bank.now c.shut.new.bank c.in_ok-rest.ensures.grows c.args.bound c.requires.bound c.in_ok-rest.rest _ c.in_ok-rest.ensures.shut

pub returns-clause-made : goal.returns-clause-made
returns-clause-made c =
    product_is_made c.args.bank.now c.shut.new.bank c.in_ok-rest.ensures.grows c.args.bound c.requires.bound c.in_ok-rest.rest (close (text_of c.args.bank.now c.args.bound.hypothesis) (tree_of c.args.bank.now c.args.rest)) c.in_ok-rest.ensures.shut
    c.make.new.self c.make-2.new.self c.in_ok-kind.ensures.grows c.in_ok-term.term c.in_ok-kind.kind c.args.sort c.in_ok-term.ensures.made c.in_ok-kind.ensures.made

pub returns-in_err-kind-clause-grows : goal.returns-in_err-kind-clause-grows
returns-in_err-kind-clause-grows c =
    Grows-trans c.args.bank.now c.shut.new.bank c.make-2.new.self c.in_ok-rest.ensures.grows (Grows-trans c.shut.new.bank c.make.new.self c.make-2.new.self c.in_ok-term.ensures.grows c.make-2.ensures.grows)
