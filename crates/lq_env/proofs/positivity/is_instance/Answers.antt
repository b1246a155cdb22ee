use Rattle.std.proofs.Common.{sym, refl, ◌∙◌, ◌-◌, map, length}
use Rattle.lq_terms.specs.Terms.{tree_of, text_of}
use Rattle.lq_trees.specs.Tree.{same_name}
use Rattle.lq_env.specs.Families.{family_of}
use Rattle.lq_env.proofs.FaultLaws.{instance_is, instance_not, first_fails, variables_apart, count_apart, instance_holds}
use Rattle.lq_env.proofs.positivity.is_instance.Goals as goal

pub returns-in_default : goal.returns-in_default
returns-in_default c =
    sym (instance_not c.args.bank.now (family_of c.args.bank.now c.args.family.now) (map (tree_of c.args.bank.now) c.args.arguments.now) c.node.result.now c.args.head c.node.ensures.tree c.in_default.not-Ind)

pub returns-then-not-same_name : goal.returns-then-not-same_name
returns-then-not-same_name c =
    sym (instance_is c.args.bank.now (family_of c.args.bank.now c.args.family.now) c.node.result.now c.args.head c.in-Ind.name (map (tree_of c.args.bank.now) c.args.arguments.now) c.node.ensures.tree c.in-Ind.is
    ∙ first_fails (same_name (text_of c.args.bank.now c.args.family.now.name) (text_of c.args.bank.now c.in-Ind.name)) _ _ _ (sym c.same_name.ensures ∙ c.if-not-same_name.true))

pub returns-then-not-are_variables : goal.returns-then-not-are_variables
returns-then-not-are_variables c =
    variables_apart c.args.bank.now c.args.family.now c.node.result.now c.args.head c.in-Ind.name c.args.arguments.now c.min-split.result c.hypotheses-parameters.result.now c.args.family.now.indices c.node.ensures.tree c.in-Ind.is
    c.hypotheses-parameters.ensures refl c.min-split.ensures c.are_variables.result c.if-not-are_variables.true c.are_variables.ensures

pub returns-then-indices-hypotheses : goal.returns-then-indices-hypotheses
returns-then-indices-hypotheses c =
    count_apart c.args.bank.now c.args.family.now c.node.result.now c.args.head c.in-Ind.name c.args.arguments.now c.min-split.result c.hypotheses-parameters.result.now c.hypotheses.result.now c.node.ensures.tree c.in-Ind.is
    c.hypotheses-parameters.ensures c.hypotheses.ensures c.min-split.ensures (length c.args.arguments.now - c.min-split.result) refl c.if-indices-hypotheses.true

pub returns : goal.returns
returns c =
    instance_holds c.args.bank.now c.args.family.now c.node.result.now c.args.head c.in-Ind.name c.args.arguments.now c.min-split.result c.hypotheses-parameters.result.now c.hypotheses.result.now c.node.ensures.tree c.in-Ind.is
    c.hypotheses-parameters.ensures c.hypotheses.ensures c.min-split.ensures c.same_name.result c.are_variables.result c.in_ok-holds.holds (length c.args.arguments.now - c.min-split.result) refl c.if-not-same_name.false c.same_name.ensures
    c.if-not-are_variables.false c.are_variables.ensures c.if-indices-hypotheses.false c.in_ok-holds.ensures
