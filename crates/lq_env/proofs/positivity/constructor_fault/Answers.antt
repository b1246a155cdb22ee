use Rattle.std.proofs.Common.{sym, ap, arith, refl, ◌∙◌, ◌≡◌, ◌+◌, ℕ, suc}
use Rattle.lq_terms.specs.declared.nodes.Node.{Node}
use Rattle.lq_terms.specs.Terms.{tree_of, text_of}
use Rattle.lq_trees.specs.Size.{depth}
use Rattle.lq_trees.specs.declared.Measure.{Measure}
use Rattle.lq_calculus.specs.Declarations.{constructor_fault, argument_fault}
use Rattle.lq_env.specs.Families.{family_of}
use Rattle.lq_env.proofs.SpineLaws.{tree_is}
use Rattle.lq_env.proofs.FaultLaws.{number_fits, fault_product, fault_result, finds_some, finds_none, finds_same}
use Rattle.lq_env.proofs.positivity.constructor_fault.Goals as goal

pub loop-argument-init : goal.loop-argument-init
loop-argument-init c = record {
  has = c.requires.kind;
  few = omega (arith, ap (λ (m : Measure). m.depth) c.measure-measure.ensures, c.measure-measure.type_inv);
  same = refl;
}

pub returns-in-Some : goal.returns-in-Some
returns-in-Some c =
    finds_some c.args.bank.now c.in-Some.fault c.in_ok-fault.field-0 (argument_fault (family_of c.args.bank.now c.args.family.now) (text_of c.args.bank.now c.args.constructor) c.loop-argument.number (tree_of c.args.bank.now c.in-Prod.argument)) (constructor_fault (family_of c.args.bank.now c.args.family.now) (text_of c.args.bank.now c.args.constructor) (suc c.loop-argument.number) (tree_of c.args.bank.now c.in-Prod.body)) _
    c.in-Some.is c.in_ok-fault.ensures
    (sym (fault_product c.args.bank.now (family_of c.args.bank.now c.args.family.now) (text_of c.args.bank.now c.args.constructor) c.loop-argument.number c.node.result.now c.loop-argument.rest c.in-Prod.field-0 c.in-Prod.argument c.in-Prod.body c.node.ensures.tree c.in-Prod.is) ∙ c.loop-argument.invariant.same)

pub loop-argument-preserved : goal.loop-argument-preserved
loop-argument-preserved c = let parts = rw c.in-Prod.is at c.node.ensures.parts in record {
  has = parts.2.has;
  few = omega (arith, c.loop-argument.invariant.few, ap depth (tree_is c.args.bank.now c.node.result.now (Node.Prod c.in-Prod.field-0 c.in-Prod.argument c.in-Prod.body) c.loop-argument.rest c.node.ensures.tree c.in-Prod.is));
  same = ap (λ k. constructor_fault (family_of c.args.bank.now c.args.family.now) (text_of c.args.bank.now c.args.constructor) k (tree_of c.args.bank.now c.in-Prod.body)) (number_next c.loop-argument.number)
      ∙ finds_none c.args.bank.now c.in_ok-fault.field-0 (argument_fault (family_of c.args.bank.now c.args.family.now) (text_of c.args.bank.now c.args.constructor) c.loop-argument.number (tree_of c.args.bank.now c.in-Prod.argument)) (constructor_fault (family_of c.args.bank.now c.args.family.now) (text_of c.args.bank.now c.args.constructor) (suc c.loop-argument.number) (tree_of c.args.bank.now c.in-Prod.body)) _
      c.in_default-2.is c.in_ok-fault.ensures
      (sym (fault_product c.args.bank.now (family_of c.args.bank.now c.args.family.now) (text_of c.args.bank.now c.args.constructor) c.loop-argument.number c.node.result.now c.loop-argument.rest c.in-Prod.field-0 c.in-Prod.argument c.in-Prod.body c.node.ensures.tree c.in-Prod.is) ∙ c.loop-argument.invariant.same);
}
  where
    number_next : (n : ℕ) → n + 1 ≡ suc n
    number_next n = omega arith

pub returns : goal.returns
returns c =
    finds_same c.args.bank.now c.result_fault.result _ _
    (sym (fault_result c.args.bank.now (family_of c.args.bank.now c.args.family.now) (text_of c.args.bank.now c.args.constructor) c.loop-argument.number c.node.result.now c.loop-argument.rest c.node.ensures.tree c.in_default.not-Prod) ∙ c.loop-argument.invariant.same) c.result_fault.ensures

pub overflow_add-number : goal.overflow_add-number
overflow_add-number c = omega (arith, number_fits c.args.bank.now c.node.result.now c.loop-argument.rest c.in-Prod.field-0 c.in-Prod.argument c.in-Prod.body c.loop-argument.number c.node.ensures.tree c.in-Prod.is c.loop-argument.invariant.few)
