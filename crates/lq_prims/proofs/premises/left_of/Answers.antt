use Rattle.std.proofs.Common.{◌∙◌, ap, map}
use Rattle.lq_calculus.specs.Contraction.{apply}
use Rattle.lq_terms.specs.Contexts.{context_of}
use Rattle.lq_terms.specs.Terms.{tree_of}
use Rattle.lq_evars.proofs.Growing.{context_grown}
use Rattle.lq_tactics.specs.Rows.{goal_term}
use Rattle.lq_prims.proofs.premises.left_of.Goals as goal

pub returns-in-Ok-applied-clause-body : goal.returns-in-Ok-applied-clause-body
returns-in-Ok-applied-clause-body c =
    let old = c.args.bank.now in
    let mid = c.goals_of.new.bank in
    let grows = c.in-Ok.ensures.grows in
    let is = c.in-Ok-applied.ensures.is in
    record {
      has = is.has;
      is =
          is.is ∙ ap (λ u. apply u (map (λ k. goal_term k (context_of mid c.hypotheses.result.now)) c.as_slice.result.now)) (grows.tree c.args.term c.requires.term)
          ∙ ap (λ g. apply (tree_of old c.args.term) (map (λ k. goal_term k g) c.as_slice.result.now))
          (ap (context_of mid) c.hypotheses.ensures ∙ (context_grown old mid grows c.args.context.now c.requires.opening.place.has).0)
          ∙ ap (λ ks. apply (tree_of old c.args.term) (map (λ k. goal_term k (context_of old c.args.context.now)) ks)) c.as_slice.ensures.value;
    }
