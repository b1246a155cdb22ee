use Rattle.std.proofs.Common.{◌∙◌, ◌<◌, List, [], ◌∷◌, refl, sym, ap, subst}
use Rattle.std.specs.List.{AllByRecursion}
use Rattle.lq_env.specs.Environments.{env_of}
use Rattle.lq_print.specs.declared.work.Work.{Work}
use Rattle.lq_print.specs.Pieces.{spelled_of}
use Rattle.lq_print.specs.Works.{HasWork, run, done, weights}
use Rattle.lq_print.proofs.Lists.{all_back}
use Rattle.lq_print.proofs.VisitLaws.{longer_self, longer_trans, turn_runs, turn_lighter}
use Rattle.lq_print.proofs.visiting.run.Goals as goal

pub loop-item-init : goal.loop-item-init
loop-item-init c = record { sound = c.requires.spelling; has = c.requires.work; longer = longer_self c.args.spelling.now; same = refl }

pub step-requires-clause-item : goal.step-requires-clause-item
step-requires-clause-item c =
    (all_back (HasWork c.args.bank.now c.loop-item.spelling) c.pop.new.self.items (c.in-Some.item ∷ [])
    (subst (AllByRecursion (HasWork c.args.bank.now c.loop-item.spelling)) c.in-Some.ensures.items c.loop-item.invariant.has)).0

pub loop-item-smaller : goal.loop-item-smaller
loop-item-smaller c =
    subst (λ (ws : List Work). weights c.args.bank.now c.step.new.work.items < weights c.args.bank.now ws) (sym c.in-Some.ensures.items)
    (turn_lighter c.args.bank.now (env_of c.args.bank.now c.args.env.now)
    (done c.args.bank.now (env_of c.args.bank.now c.args.env.now) c.loop-item.spelling c.in-Some.item)
    c.pop.new.self.items c.step.new.work.items c.in-Some.item c.loop-item.spelling c.step.new.spelling c.in_ok-step.ensures)

pub loop-item-preserved : goal.loop-item-preserved
loop-item-preserved c =
    let env = env_of c.args.bank.now c.args.env.now in
    let left =
    turn_runs c.args.bank.now env (run c.args.bank.now env c.args.spelling.now c.args.work.now.items (spelled_of c.args.bank.now c.args.spelling.now))
    c.pop.new.self.items c.step.new.work.items c.in-Some.item c.loop-item.spelling c.step.new.spelling c.loop-item.invariant.sound
    (subst (AllByRecursion (HasWork c.args.bank.now c.loop-item.spelling)) c.in-Some.ensures.items c.loop-item.invariant.has)
    (ap (λ (ws : List Work). run c.args.bank.now env c.loop-item.spelling ws (spelled_of c.args.bank.now c.loop-item.spelling)) (sym c.in-Some.ensures.items)
    ∙ c.loop-item.invariant.same)
    c.in_ok-step.ensures in
    record {
      sound = c.in_ok-step.ensures.spelling;
      has = left.0;
      longer = longer_trans c.args.spelling.now c.loop-item.spelling c.step.new.spelling c.loop-item.invariant.longer c.in_ok-step.ensures.longer;
      same = left.1;
    }
