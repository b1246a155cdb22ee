use Rattle.std.proofs.Common.{◌∙◌, sym}
use Rattle.std.proofs.Common.{subst as along}
use Rattle.lq_terms.specs.Terms.{tree_of}
use Rattle.lq_solving.specs.Kept.{StandsIn}
use Rattle.lq_evars.specs.Places.{store_of}
use Rattle.lq_prims.proofs.SceneLaws.{there, goal_context, goal_type, type_stands}
use Rattle.lq_prims.proofs.DependLaws.{depends_by}
use Rattle.lq_prims.proofs.depending.kind_depends.Goals as goal

pub reads_with-requires-clause-context : goal.reads_with-requires-clause-context
reads_with-requires-clause-context c =
    (goal_context c.args.bank.now c.args.store.now c.args.variable c.requires c.hypotheses-context.result.now (λ v e. c.hypotheses-context.ensures ∙ c.context.ensures.place v e)).has

pub reads_with-requires-clause-term : goal.reads_with-requires-clause-term
reads_with-requires-clause-term c =
    (goal_type c.args.bank.now c.args.store.now c.args.variable c.requires c.kind-kind.result (λ v e. c.kind-kind.ensures.place v e) (λ v e. c.kind-kind.ensures.told c.args.bank.now v e)).has

pub reads_with-requires-clause-stands : goal.reads_with-requires-clause-stands
reads_with-requires-clause-stands c =
    along (λ z. StandsIn (store_of c.args.bank.now c.args.store.now) z (tree_of c.args.bank.now c.kind-kind.result))
    (sym (goal_context c.args.bank.now c.args.store.now c.args.variable c.requires c.hypotheses-context.result.now (λ v e. c.hypotheses-context.ensures ∙ c.context.ensures.place v e)).is)
    (type_stands c.args.bank.now c.args.store.now c.args.variable c.requires c.kind-kind.result (λ v e. c.kind-kind.ensures.told c.args.bank.now v e))

pub returns : goal.returns
returns c =
    let v = there c.args.bank.now c.args.store.now c.args.variable c.requires in
    depends_by (store_of c.args.bank.now c.args.store.now) c.args.other c.args.variable v.0 (tree_of c.args.bank.now c.kind-kind.result) v.1 (c.kind-kind.ensures.told c.args.bank.now v.0 v.1) c.reads_with.result c.reads_with.ensures
