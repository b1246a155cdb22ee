use Rattle.std.proofs.Common.{◌∙◌, refl, sym, arith, subst}
use Rattle.lq_terms.specs.Contexts.{context_of}
use Rattle.lq_terms.proofs.Growth.{Grows-refl, Grows-trans}
use Rattle.lq_terms.proofs.Tellings.{HasContext-grown}
use Rattle.lq_env.specs.Environments.{env_of}
use Rattle.lq_env.proofs.Grown.{env_of-grown, IsEnv-grown}
use Rattle.lq_solving.specs.Claims.{ArePlainDeclarations}
use Rattle.lq_evars.specs.Places.{store_of}
use Rattle.lq_elaborated.proofs.MakingLaws.{so_far_begins, so_far_goes, so_far_stops, so_far_ends, context_stands}
use Rattle.lq_elaborated.proofs.families.constructors_in.Goals as goal

pub loop-constructor-init : goal.loop-constructor-init
loop-constructor-init g c =
    record {
      made = so_far_begins c.args.work.now.bank.now (env_of c.args.work.now.bank.now c.args.env.now) (context_of c.args.work.now.bank.now c.args.context.now) c.args.store.now c.requires.store c.requires.kept c.args.constructors.now c.args.work.now.ticks.now.left c.new-made.result c.new-made.ensures;
      same_bank = refl;
      same_ticks = refl;
      grows = Grows-refl c.args.work.now.bank.now;
      budget = refl;
      counted = refl;
    }

pub constructor_in-requires-clause-env : goal.constructor_in-requires-clause-env
constructor_in-requires-clause-env g c =
    IsEnv-grown c.args.work.now.bank.now c.loop-constructor.work.bank.now c.loop-constructor.invariant.grows c.args.env.now c.requires.env

pub constructor_in-requires-clause-plain : goal.constructor_in-requires-clause-plain
constructor_in-requires-clause-plain g c =
    subst ArePlainDeclarations (sym (env_of-grown c.args.work.now.bank.now c.loop-constructor.work.bank.now c.loop-constructor.invariant.grows c.args.env.now c.requires.env)) c.requires.plain

pub constructor_in-requires-clause-store : goal.constructor_in-requires-clause-store
constructor_in-requires-clause-store g c =
    c.loop-constructor.invariant.made.store

pub constructor_in-requires-clause-kept : goal.constructor_in-requires-clause-kept
constructor_in-requires-clause-kept g c =
    c.loop-constructor.invariant.made.grown.store

pub constructor_in-requires-clause-context : goal.constructor_in-requires-clause-context
constructor_in-requires-clause-context g c =
    HasContext-grown c.args.work.now.bank.now c.loop-constructor.work.bank.now c.loop-constructor.invariant.grows c.args.context.now c.requires.context

pub constructor_in-requires-clause-hypotheses : goal.constructor_in-requires-clause-hypotheses
constructor_in-requires-clause-hypotheses g c =
    context_stands c.args.work.now.bank.now c.loop-constructor.work.bank.now c.loop-constructor.invariant.grows (store_of c.args.work.now.bank.now c.args.store.now) c.loop-constructor.store c.args.context.now c.requires.context c.requires.hypotheses c.loop-constructor.invariant.made.grown

pub returns-in_err-push-in-Ok-clause-same_bank : goal.returns-in_err-push-in-Ok-clause-same_bank
returns-in_err-push-in-Ok-clause-same_bank g c =
    c.in-Ok.ensures.same_bank ∙ c.loop-constructor.invariant.same_bank

pub returns-in_err-push-in-Ok-clause-same_ticks : goal.returns-in_err-push-in-Ok-clause-same_ticks
returns-in_err-push-in-Ok-clause-same_ticks g c =
    c.in-Ok.ensures.same_ticks ∙ c.loop-constructor.invariant.same_ticks

pub returns-in_err-push-in-Ok-clause-grows : goal.returns-in_err-push-in-Ok-clause-grows
returns-in_err-push-in-Ok-clause-grows g c =
    Grows-trans c.args.work.now.bank.now c.loop-constructor.work.bank.now c.constructor_in.new.work.bank.now c.loop-constructor.invariant.grows c.in-Ok.ensures.grows

pub returns-in_err-push-in-Ok-clause-budget : goal.returns-in_err-push-in-Ok-clause-budget
returns-in_err-push-in-Ok-clause-budget g c =
    c.in-Ok.ensures.budget ∙ c.loop-constructor.invariant.budget

pub returns-in_err-push-in-Ok-clause-counted : goal.returns-in_err-push-in-Ok-clause-counted
returns-in_err-push-in-Ok-clause-counted g c =
    omega (arith, c.in-Ok.ensures.counted, c.loop-constructor.invariant.counted)

pub returns-in-Err-clause-same_bank : goal.returns-in-Err-clause-same_bank
returns-in-Err-clause-same_bank g c =
    c.in-Err.ensures.same_bank ∙ c.loop-constructor.invariant.same_bank

pub returns-in-Err-clause-same_ticks : goal.returns-in-Err-clause-same_ticks
returns-in-Err-clause-same_ticks g c =
    c.in-Err.ensures.same_ticks ∙ c.loop-constructor.invariant.same_ticks

pub returns-in-Err-clause-grows : goal.returns-in-Err-clause-grows
returns-in-Err-clause-grows g c =
    Grows-trans c.args.work.now.bank.now c.loop-constructor.work.bank.now c.constructor_in.new.work.bank.now c.loop-constructor.invariant.grows c.in-Err.ensures.grows

pub returns-in-Err-clause-budget : goal.returns-in-Err-clause-budget
returns-in-Err-clause-budget g c =
    c.in-Err.ensures.budget ∙ c.loop-constructor.invariant.budget

pub returns-in-Err-clause-counted : goal.returns-in-Err-clause-counted
returns-in-Err-clause-counted g c =
    omega (arith, c.in-Err.ensures.counted, c.loop-constructor.invariant.counted)

pub returns-in-Err-clause-answer : goal.returns-in-Err-clause-answer
returns-in-Err-clause-answer g c =
    so_far_stops c.args.work.now.bank.now c.loop-constructor.work.bank.now c.loop-constructor.invariant.grows c.args.env.now c.requires.env c.args.context.now c.requires.context (store_of c.args.work.now.bank.now c.args.store.now) c.loop-constructor.store c.args.constructors.now c.loop-constructor.constructor-index c.args.work.now.ticks.now.left c.loop-constructor.made c.loop-constructor.work.ticks.now.left c.loop-constructor.invariant.made c.loop-constructor-test.true c.constructor-item.result c.constructor-item.is c.constructor_in.new.work.bank.now c.constructor_in.new.work.ticks.now.left c.in-Err.stop c.in-Err.ensures.answer

pub loop-constructor-preserved : goal.loop-constructor-preserved
loop-constructor-preserved g c =
    record {
      made = so_far_goes c.args.work.now.bank.now c.loop-constructor.work.bank.now c.loop-constructor.invariant.grows c.args.env.now c.requires.env c.args.context.now c.requires.context (store_of c.args.work.now.bank.now c.args.store.now) c.loop-constructor.store c.args.constructors.now c.loop-constructor.constructor-index c.args.work.now.ticks.now.left c.loop-constructor.made c.loop-constructor.work.ticks.now.left c.loop-constructor.invariant.made c.loop-constructor-test.true c.constructor-item.result c.constructor-item.is c.constructor_in.new.work.bank.now c.in-Ok.ensures.grows c.constructor_in.new.store (c.in-Ok.name, c.in-Ok.kind) c.push.new.self c.constructor_in.new.work.ticks.now.left c.in-Ok.ensures.answer c.in_ok-push-in-Ok.ensures.ok;
      same_bank = c.in-Ok.ensures.same_bank ∙ c.loop-constructor.invariant.same_bank;
      same_ticks = c.in-Ok.ensures.same_ticks ∙ c.loop-constructor.invariant.same_ticks;
      grows = Grows-trans c.args.work.now.bank.now c.loop-constructor.work.bank.now c.constructor_in.new.work.bank.now c.loop-constructor.invariant.grows c.in-Ok.ensures.grows;
      budget = c.in-Ok.ensures.budget ∙ c.loop-constructor.invariant.budget;
      counted = omega (arith, c.in-Ok.ensures.counted, c.loop-constructor.invariant.counted);
    }

pub returns-clause-answer : goal.returns-clause-answer
returns-clause-answer g c =
    so_far_ends c.args.work.now.bank.now c.loop-constructor.work.bank.now c.loop-constructor.invariant.grows c.args.env.now c.requires.env c.args.context.now c.requires.context (store_of c.args.work.now.bank.now c.args.store.now) c.loop-constructor.store c.args.constructors.now c.loop-constructor.constructor-index c.args.work.now.ticks.now.left c.loop-constructor.made c.loop-constructor.work.ticks.now.left c.loop-constructor.invariant.made (omega (arith, c.loop-constructor-test.false))

pub returns-clause-few : goal.returns-clause-few
returns-clause-few g c =
    c.loop-constructor.invariant.made.few ∙ omega (arith, c.loop-constructor-test.false, c.loop-constructor.auto.constructor-index-end)

pub returns-clause-same_bank : goal.returns-clause-same_bank
returns-clause-same_bank g c =
    c.loop-constructor.invariant.same_bank

pub returns-clause-same_ticks : goal.returns-clause-same_ticks
returns-clause-same_ticks g c =
    c.loop-constructor.invariant.same_ticks

pub returns-clause-grows : goal.returns-clause-grows
returns-clause-grows g c =
    c.loop-constructor.invariant.grows

pub returns-clause-budget : goal.returns-clause-budget
returns-clause-budget g c =
    c.loop-constructor.invariant.budget

pub returns-clause-counted : goal.returns-clause-counted
returns-clause-counted g c =
    c.loop-constructor.invariant.counted
