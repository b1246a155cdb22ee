use Rattle.std.proofs.Common.{sym, ap, ◌∙◌, map}
use Rattle.std.specs.Prelude.{reverse}
use Rattle.std.proofs.Common.{subst as along}
use Rattle.std.specs.List.{AllByRecursion}
use Rattle.lq_terms.specs.declared.nodes.Node.{Node}
use Rattle.lq_terms.specs.Terms.{HasTerm, tree_of}
use Rattle.lq_calculus.specs.Contraction.{spine}
use Rattle.lq_unify.proofs.SpineLaws.{all_push}
use Rattle.lq_unify.proofs.SpineLaws.{spine_app, spine_stop, all_reversed}
use Rattle.lq_unify.proofs.PartLaws.{tree_is}
use Rattle.lq_prims.proofs.spines.spine.Goals as goal

pub loop-function-preserved : goal.loop-function-preserved
loop-function-preserved c = let parts = rw c.in-App.is at c.node.ensures.parts in record {
  has = along (λ z. AllByRecursion (HasTerm c.args.bank.now) z) (sym c.in_ok-push.ensures.items)
      (all_push (HasTerm c.args.bank.now) c.loop-function.arguments.items c.in-App.argument c.loop-function.invariant.has parts.1.has);
  head = parts.0.has;
  same = spine_app c.args.bank.now c.loop-function.arguments.items c.in-App.function c.in-App.argument c.loop-function.head _
      (tree_is c.args.bank.now c.node.result.now (Node.App c.in-App.function c.in-App.argument) c.loop-function.head c.node.ensures.tree c.in-App.is) c.loop-function.invariant.same
      ∙ ap (λ z. spine (tree_of c.args.bank.now c.in-App.function) (map (tree_of c.args.bank.now) (reverse z))) (sym c.in_ok-push.ensures.items);
}

pub returns : goal.returns
returns c = record {
  is = c.loop-function.invariant.same
      ∙ spine_stop c.args.bank.now c.node.result.now c.loop-function.head (map (tree_of c.args.bank.now) (reverse c.loop-function.arguments.items)) c.node.ensures.tree c.in_default.not-App
      ∙ ap (λ z. (tree_of c.args.bank.now c.loop-function.head, map (tree_of c.args.bank.now) z)) (sym c.reverse.ensures.items);
  head = c.loop-function.invariant.head;
  arguments = along (λ z. AllByRecursion (HasTerm c.args.bank.now) z) (sym c.reverse.ensures.items) (all_reversed (HasTerm c.args.bank.now) c.loop-function.arguments.items c.loop-function.invariant.has);
}
