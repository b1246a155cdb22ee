use Rattle.std.proofs.Common.{◌∙◌, ◌<◌, ◌^◌, length, ap, sym}
use Rattle.std.proofs.Common.{subst as along}
use Rattle.std.proofs.lemmas.List.{length-map}
use Rattle.lq_terms.specs.Contexts.{hypothesis_of}
use Rattle.lq_prims.proofs.SceneLaws.{goal_context}
use Rattle.lq_prims.proofs.rooms.has_room.Goals as goal

pub returns : goal.returns
returns c bank q =
    along (λ n. n < 2 ^ 64) (sym (length-map c.hypotheses-context.result.now (hypothesis_of bank)) ∙ ap length (goal_context bank c.args.store.now c.args.goal q c.hypotheses-context.result.now (λ v e. c.hypotheses-context.ensures ∙ c.context.ensures.place v e)).is)
    c.few.ensures
