use Rattle.std.proofs.Common.{sym, ◌∙◌, ap, subst}
use Rattle.lq_terms.specs.Terms.{node_tree}
use Rattle.lq_script.specs.Proofs.{Proves}
use Rattle.lq_terms.proofs.Growth.{Grows-refl}
use Rattle.lq_script.proofs.Proving.{HasContext-grown}
use Rattle.lq_terms.specs.Contexts.{context_of}
use Rattle.lq_output.specs.Steps.{introduced}
use Rattle.lq_script.proofs.Running.{no_product, intro_taken, intro_new, intro_same}
use Rattle.lq_script.proofs.tactics.intro.Goals as goal

pub returns-in_default : goal.returns-in_default
returns-in_default c = record {
  answer = ap (introduced c.args.text.now (context_of c.args.bank.now c.args.context)) (sym c.node.ensures.tree) ∙ no_product c.args.bank.now c.node.result.now c.args.text.now (context_of c.args.bank.now c.args.context) c.in_default.not-Prod;
  grows = Grows-refl c.args.bank.now;
}

pub position-requires-clause-hypotheses : goal.position-requires-clause-hypotheses
position-requires-clause-hypotheses c = rw c.hypotheses.ensures (HasContext-grown c.args.bank.now c.name.new.self c.args.context c.in_ok-name.ensures.grows c.requires.context)

pub returns-then-is_some-clause-answer : goal.returns-then-is_some-clause-answer
returns-then-is_some-clause-answer c =
    intro_taken c.args.bank.now c.name.new.self c.args.context c.in_ok-name.name c.args.text.now c.args.conclusion c.in-Prod.field-0 c.in-Prod.kind c.in-Prod.rest c.in_ok-name.ensures.grows c.requires.context c.in_ok-name.ensures.named
    (sym c.node.ensures.tree ∙ ap (node_tree c.args.bank.now) c.in-Prod.is) c.hypotheses.result.now c.hypotheses.ensures c.position.result c.position.ensures (sym c.is_some.ensures ∙ c.if-is_some.true)

pub introduce-requires-clause-context : goal.introduce-requires-clause-context
introduce-requires-clause-context c = HasContext-grown c.args.bank.now c.name.new.self c.args.context c.in_ok-name.ensures.grows c.requires.context

pub introduce-requires-clause-new : goal.introduce-requires-clause-new
introduce-requires-clause-new c =
    intro_new c.name.new.self c.args.context c.in_ok-name.name c.hypotheses.result.now c.hypotheses.ensures c.position.result c.position.ensures (sym c.is_some.ensures ∙ c.if-is_some.false)

pub returns-clause-answer : goal.returns-clause-answer
returns-clause-answer c =
    subst (λ r. Proves c.introduce.new.bank c.introduce.result r)
    (intro_same c.args.bank.now c.name.new.self c.args.context c.in_ok-name.name c.args.text.now c.args.conclusion c.in-Prod.field-0 c.in-Prod.kind c.in-Prod.rest c.in_ok-name.ensures.grows c.requires.context c.in_ok-name.ensures.named
    (sym c.node.ensures.tree ∙ ap (node_tree c.args.bank.now) c.in-Prod.is) c.node.ensures.parts c.in-Prod.is)
    c.introduce.ensures.answer
