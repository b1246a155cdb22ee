use Rattle.std.proofs.Common.{◌∙◌, ◌-◌, ◌<◌, sym, arith, true, false, length, get_or, reverse, [], None}
use Rattle.std.proofs.Common.{subst as along}
use Rattle.lq_terms.specs.declared.nodes.Hypothesis.{Hypothesis}
use Rattle.lq_terms.specs.Contexts.{context_of}
use Rattle.lq_terms.specs.Terms.{tree_of, text_of}
use Rattle.lq_env.specs.Environments.{env_of}
use Rattle.lq_evars.specs.Places.{store_of}
use Rattle.lq_prims.specs.Scenes.{scene_by}
use Rattle.lq_prims.specs.Working.{Refuses}
use Rattle.lq_tactics.specs.Rows.{done_by}
use Rattle.lq_tactics.specs.Primitives.{first_assumption}
use Rattle.lq_trees.specs.Ticks.{done, ComesTo}
use Rattle.lq_trees.specs.Tree.Tree.{Var}
use Rattle.lq_prims.proofs.AssumptionLaws.{compared, place_within, place_next, kind_in, name_in, look_yes, look_no, look_refused, look_ends, asked_comes, asked_refused}
use Rattle.lq_prims.proofs.assumption.fitting.Goals as goal

-- what is read where there is nothing
nothing : Hypothesis
nothing = record { name = record { place = 0 }; body = None; kind = record { place = 0 } }

pub compares-requires-clause-kind_stands : goal.compares-requires-clause-kind_stands
unfolding nothing
compares-requires-clause-kind_stands g c =
    kind_in c.loop-place.work.bank.now c.args.work.now.bank.now c.loop-place.invariant.unchanged c.args.store.now c.args.context.now c.hypotheses-hypotheses.result.now c.hypotheses-hypotheses.ensures (c.loop-place.place - 1) nothing
    c.requires.hypotheses (place_within c.loop-place.place (length c.hypotheses-hypotheses.result.now) c.loop-place-test.true c.loop-place.invariant.within)

pub returns-in-Ok-true-clause-listed : goal.returns-in-Ok-true-clause-listed
unfolding nothing
returns-in-Ok-true-clause-listed g c =
    name_in c.args.work.now.bank.now (store_of c.args.work.now.bank.now c.args.store.now) c.args.context.now c.hypotheses-hypotheses.result.now c.hypotheses-hypotheses.ensures (c.loop-place.place - 1) nothing
    c.requires.hypotheses (place_within c.loop-place.place (length c.hypotheses-hypotheses.result.now) c.loop-place-test.true c.loop-place.invariant.within)

pub returns-in-Ok-true-clause-answer : goal.returns-in-Ok-true-clause-answer
unfolding nothing
returns-in-Ok-true-clause-answer g c k vs =
    let bank = c.args.work.now.bank.now in
    let hs = c.args.context.now in
    let j = c.loop-place.place - 1 in
    let within = place_within c.loop-place.place (length c.hypotheses-hypotheses.result.now) c.loop-place-test.true c.loop-place.invariant.within in
    along (λ z. ComesTo (λ n. first_assumption (scene_by (env_of bank c.args.env.now) (store_of bank c.args.store.now) k (context_of bank hs) (tree_of bank c.args.wanted) vs n) (reverse (context_of bank hs))) c.args.work.now.ticks.now.left
    (done (done_by (store_of bank c.args.store.now) (Var (text_of bank (get_or z j nothing).name)) []) c.compares.new.work.ticks.now.left)) (sym c.hypotheses-hypotheses.ensures)
    (look_yes bank (env_of bank c.args.env.now) (store_of bank c.args.store.now) hs (tree_of bank c.args.wanted) k vs j c.loop-place.place nothing (place_next c.loop-place.place c.loop-place-test.true)
    (along (λ z. j < length z) c.hypotheses-hypotheses.ensures within)
    c.args.work.now.ticks.now.left c.loop-place.work.ticks.now.left c.compares.new.work.ticks.now.left (c.loop-place.invariant.follows k vs)
    (asked_comes c.loop-place.work.bank.now bank c.loop-place.invariant.unchanged c.args.env.now c.args.store.now hs (get_or hs j nothing).kind c.args.wanted c.requires.is c.loop-place.work.ticks.now.left c.compares.new.work.ticks.now.left
    c.in-Ok-true.field-0 true c.in-Ok-true.field-0-test
    (along (λ z. ComesTo (compared c.loop-place.work.bank.now c.args.env.now c.args.store.now hs (get_or z j nothing).kind c.args.wanted) c.loop-place.work.ticks.now.left (done c.in-Ok-true.field-0 c.compares.new.work.ticks.now.left)) c.hypotheses-hypotheses.ensures
    c.in-Ok-true.ensures.answer)))

pub loop-place-preserved : goal.loop-place-preserved
unfolding nothing
loop-place-preserved g c =
    let bank = c.args.work.now.bank.now in
    let hs = c.args.context.now in
    let j = c.loop-place.place - 1 in
    let within = place_within c.loop-place.place (length c.hypotheses-hypotheses.result.now) c.loop-place-test.true c.loop-place.invariant.within in
    record {
      within = omega (arith, within);
      unchanged = c.in-Ok-false.ensures.unchanged ∙ c.loop-place.invariant.unchanged;
      same_bank = c.in-Ok-false.ensures.same_bank ∙ c.loop-place.invariant.same_bank;
      same_ticks = c.in-Ok-false.ensures.same_ticks ∙ c.loop-place.invariant.same_ticks;
      follows = λ k vs. look_no bank (env_of bank c.args.env.now) (store_of bank c.args.store.now) hs (tree_of bank c.args.wanted) k vs j c.loop-place.place nothing (place_next c.loop-place.place c.loop-place-test.true)
          (along (λ z. j < length z) c.hypotheses-hypotheses.ensures within)
          c.args.work.now.ticks.now.left c.loop-place.work.ticks.now.left c.compares.new.work.ticks.now.left (c.loop-place.invariant.follows k vs)
          (asked_comes c.loop-place.work.bank.now bank c.loop-place.invariant.unchanged c.args.env.now c.args.store.now hs (get_or hs j nothing).kind c.args.wanted c.requires.is c.loop-place.work.ticks.now.left c.compares.new.work.ticks.now.left
          c.in-Ok-false.field-0 false c.in-Ok-false.field-0-test
          (along (λ z. ComesTo (compared c.loop-place.work.bank.now c.args.env.now c.args.store.now hs (get_or z j nothing).kind c.args.wanted) c.loop-place.work.ticks.now.left (done c.in-Ok-false.field-0 c.compares.new.work.ticks.now.left)) c.hypotheses-hypotheses.ensures
          c.in-Ok-false.ensures.answer));
      budget = c.in-Ok-false.ensures.budget ∙ c.loop-place.invariant.budget;
      counted = omega (arith, c.in-Ok-false.ensures.counted, c.loop-place.invariant.counted);
    }

pub returns-in-Err-clause-answer : goal.returns-in-Err-clause-answer
unfolding nothing
returns-in-Err-clause-answer g c k vs =
    let bank = c.args.work.now.bank.now in
    let hs = c.args.context.now in
    let j = c.loop-place.place - 1 in
    let within = place_within c.loop-place.place (length c.hypotheses-hypotheses.result.now) c.loop-place-test.true c.loop-place.invariant.within in
    look_refused bank (env_of bank c.args.env.now) (store_of bank c.args.store.now) hs (tree_of bank c.args.wanted) k vs j c.loop-place.place nothing (place_next c.loop-place.place c.loop-place-test.true)
    (along (λ z. j < length z) c.hypotheses-hypotheses.ensures within)
    c.args.work.now.ticks.now.left c.loop-place.work.ticks.now.left c.compares.new.work.ticks.now.left (c.loop-place.invariant.follows k vs) c.compares.new.work.bank.now c.in-Err.fault
    (asked_refused c.loop-place.work.bank.now bank c.loop-place.invariant.unchanged c.args.env.now c.args.store.now hs (get_or hs j nothing).kind c.args.wanted c.requires.is c.loop-place.work.ticks.now.left c.compares.new.work.ticks.now.left
    c.compares.new.work.bank.now c.in-Err.fault
    (along (λ z. Refuses c.compares.new.work.bank.now c.in-Err.fault (compared c.loop-place.work.bank.now c.args.env.now c.args.store.now hs (get_or z j nothing).kind c.args.wanted) c.loop-place.work.ticks.now.left c.compares.new.work.ticks.now.left)
    c.hypotheses-hypotheses.ensures c.in-Err.ensures.answer))

pub returns-clause-answer : goal.returns-clause-answer
returns-clause-answer g c k vs =
    look_ends c.loop-place.work.bank.now c.args.work.now.bank.now (env_of c.args.work.now.bank.now c.args.env.now) (store_of c.args.work.now.bank.now c.args.store.now) c.args.context.now (tree_of c.args.work.now.bank.now c.args.wanted) k vs c.loop-place.place
    c.args.work.now.ticks.now.left c.loop-place.work.ticks.now.left (omega (arith, c.loop-place-test.false)) (c.loop-place.invariant.follows k vs)
