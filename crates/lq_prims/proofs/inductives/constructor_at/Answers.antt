use Rattle.std.proofs.Common.{◌∙◌, ap, ap₂, map}
use Rattle.lq_calculus.specs.Contraction.{apply}
use Rattle.lq_trees.specs.Change.{instance}
use Rattle.lq_terms.specs.Changes.{bindings}
use Rattle.lq_terms.specs.Terms.{tree_of}
use Rattle.lq_terms.proofs.Growth.{Grows-trans}
use Rattle.lq_prims.proofs.ConstructorLaws.{constructor_is}
use Rattle.lq_prims.proofs.inductives.constructor_at.Goals as goal

pub returns-clause-is : goal.returns-clause-is
returns-clause-is c s =
    let b0 = c.args.bank.now in
    let b1 = c.make.new.self in
    let b2 = c.applied.new.bank in
    let i = c.args.inductive.now in
    let f = tree_of b1 c.in_ok-constructor.constructor in
    constructor_is b0 b1 b2 c.placed.new.bank c.in_ok-constructor.ensures.grows (Grows-trans b0 b1 b2 c.in_ok-constructor.ensures.grows c.in_ok-term.ensures.grows) c.in_ok-kind.ensures.grows i c.requires.inductive c.args.index c.args.kind c.requires.kind
    c.in_ok-term.term c.in_ok-kind.kind f c.in_ok-term.ensures.made.has c.in_ok-constructor.ensures.made.is
    (c.in_ok-term.ensures.made.is ∙ ap (λ ts. apply f (map (tree_of b1) ts)) c.parameters_of-values.ensures)
    (c.in_ok-kind.ensures.placed.is ∙ ap₂ (λ hs ts. instance (bindings b2 hs ts) (tree_of b2 c.args.kind)) c.hypotheses.ensures c.parameters_of-values.ensures) s
