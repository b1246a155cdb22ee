use Rattle.std.proofs.Common.{◌≡◌, subst, sym}
use Rattle.std.specs.Prelude.{IfOk, IfNone}
use Rattle.lq_stream.specs.Reading.{stack_at, choices_of}
use Rattle.lq_stream.specs.Holding.{HasDoing, Stands}
use Rattle.lq_stream.specs.Asking.{IsReady, alternatives, run_of}
use Rattle.lq_stream.specs.Turning.{Gives, Spends}
use Rattle.lq_stream.proofs.Asked.{starts, starts_known, answer_in, fits_in, spent_in, ready_in}
use Rattle.lq_stream.proofs.stream.Stream.next.Goals as goal

pub to_answer-requires-clause-works : goal.to_answer-requires-clause-works
to_answer-requires-clause-works g c = (
  (run_of (g.M.Machine.does c.args.machine.now) (g.M.Machine.told c.args.machine.now) (g.M.Machine.state c.args.machine.now) (record { fresh = c.self.inside.fresh; links = c.self.inside.stacks.links.items; choices = c.self.inside.stacks.choices.items; tops = c.self.inside.stacks.tops.items }) c.args.demand.level ((g.M.Machine.told c.args.machine.now).cause c.args.demand.cause)),
  (subst (λ z. Stands g.M.Machine.rest_rank (g.M.Machine.told c.args.machine.now) (g.M.Machine.does c.args.machine.now) (g.M.Machine.state c.args.machine.now) z (stack_at (g.M.Machine.told c.args.machine.now).rest c.self.inside.stacks.links.items 0) (choices_of (g.M.Machine.told c.args.machine.now) c.self.inside.stacks.links.items c.self.inside.stacks.choices.items) (run_of (g.M.Machine.does c.args.machine.now) (g.M.Machine.told c.args.machine.now) (g.M.Machine.state c.args.machine.now) (record { fresh = c.self.inside.fresh; links = c.self.inside.stacks.links.items; choices = c.self.inside.stacks.choices.items; tops = c.self.inside.stacks.tops.items }) c.args.demand.level ((g.M.Machine.told c.args.machine.now).cause c.args.demand.cause))) (sym c.first_work-doing.ensures.doing)
      (starts g.M.Machine.rest_rank (g.M.Machine.does c.args.machine.now) (g.M.Machine.told c.args.machine.now) (g.M.Machine.state c.args.machine.now) c.self.inside.stacks.links.items c.self.inside.stacks.choices.items (g.M.Machine.known c.args.machine.now) c.self.inside.fresh c.self.inside.stacks.tops.items c.args.demand.level c.args.demand.cause (subst (IsReady (g.M.Machine.known c.args.machine.now) (g.M.Machine.told c.args.machine.now)) (sym c.self.view_is) c.requires.ready))),
)

pub to_answer-requires-clause-start : goal.to_answer-requires-clause-start
to_answer-requires-clause-start g c =
    subst (HasDoing (g.M.Machine.known c.args.machine.now)) (sym c.first_work-doing.ensures.doing)
    (starts_known g.M.Machine.rest_rank (g.M.Machine.does c.args.machine.now) (g.M.Machine.told c.args.machine.now) (g.M.Machine.state c.args.machine.now) c.self.inside.stacks.links.items c.self.inside.stacks.choices.items (g.M.Machine.known c.args.machine.now) c.self.inside.fresh c.self.inside.stacks.tops.items c.args.demand.level c.args.demand.cause (subst (IsReady (g.M.Machine.known c.args.machine.now) (g.M.Machine.told c.args.machine.now)) (sym c.self.view_is) c.requires.ready) (subst (λ x. IfNone x.fresh ((g.M.Machine.known c.args.machine.now).cause c.args.demand.cause)) (sym c.self.view_is) c.requires.cause))

pub returns-clause-answer : goal.returns-clause-answer
returns-clause-answer g c =
    subst (λ x. IfOk c.to_answer.result (Gives (g.M.Machine.told c.to_answer.new.machine).value (g.M.Machine.told c.to_answer.new.machine).cause c.args.ticks.now.left (g.M.Machine.messages c.args.machine.now) (run_of (g.M.Machine.does c.args.machine.now) (g.M.Machine.told c.args.machine.now) (g.M.Machine.state c.args.machine.now) x c.args.demand.level ((g.M.Machine.told c.args.machine.now).cause c.args.demand.cause))
    c.to_answer.new.ticks.left (g.M.Machine.messages c.to_answer.new.machine) (g.M.Machine.state c.to_answer.new.machine) (alternatives (g.M.Machine.does c.to_answer.new.machine) (g.M.Machine.told c.to_answer.new.machine) (record { fresh = c.first_work-doing.new.fresh; links = c.to_answer.new.stacks.links.items; choices = c.to_answer.new.stacks.choices.items; tops = c.to_answer.new.stacks.tops.items })))) c.self.view_is
    (answer_in g.M.Machine.rank g.M.Machine.rest_rank (g.M.Machine.does c.args.machine.now) (g.M.Machine.does c.to_answer.new.machine) (g.met.M.Machine.keeps_does c.args.machine.now c.to_answer.new.machine c.to_answer.ensures.later) (record { told = g.M.Machine.told c.args.machine.now; state = g.M.Machine.state c.args.machine.now; messages = g.M.Machine.messages c.args.machine.now; left = c.args.ticks.now.left; links = c.self.inside.stacks.links.items; choices = c.self.inside.stacks.choices.items }) (record { told = g.M.Machine.told c.to_answer.new.machine; state = g.M.Machine.state c.to_answer.new.machine; messages = g.M.Machine.messages c.to_answer.new.machine; left = c.to_answer.new.ticks.left; links = c.to_answer.new.stacks.links.items; choices = c.to_answer.new.stacks.choices.items }) (run_of (g.M.Machine.does c.args.machine.now) (g.M.Machine.told c.args.machine.now) (g.M.Machine.state c.args.machine.now) (record { fresh = c.self.inside.fresh; links = c.self.inside.stacks.links.items; choices = c.self.inside.stacks.choices.items; tops = c.self.inside.stacks.tops.items }) c.args.demand.level ((g.M.Machine.told c.args.machine.now).cause c.args.demand.cause)) c.to_answer.result (c.to_answer.ensures.ends (run_of (g.M.Machine.does c.args.machine.now) (g.M.Machine.told c.args.machine.now) (g.M.Machine.state c.args.machine.now) (record { fresh = c.self.inside.fresh; links = c.self.inside.stacks.links.items; choices = c.self.inside.stacks.choices.items; tops = c.self.inside.stacks.tops.items }) c.args.demand.level ((g.M.Machine.told c.args.machine.now).cause c.args.demand.cause)) (subst (λ z. Stands g.M.Machine.rest_rank (g.M.Machine.told c.args.machine.now) (g.M.Machine.does c.args.machine.now) (g.M.Machine.state c.args.machine.now) z (stack_at (g.M.Machine.told c.args.machine.now).rest c.self.inside.stacks.links.items 0) (choices_of (g.M.Machine.told c.args.machine.now) c.self.inside.stacks.links.items c.self.inside.stacks.choices.items) (run_of (g.M.Machine.does c.args.machine.now) (g.M.Machine.told c.args.machine.now) (g.M.Machine.state c.args.machine.now) (record { fresh = c.self.inside.fresh; links = c.self.inside.stacks.links.items; choices = c.self.inside.stacks.choices.items; tops = c.self.inside.stacks.tops.items }) c.args.demand.level ((g.M.Machine.told c.args.machine.now).cause c.args.demand.cause))) (sym c.first_work-doing.ensures.doing)
    (starts g.M.Machine.rest_rank (g.M.Machine.does c.args.machine.now) (g.M.Machine.told c.args.machine.now) (g.M.Machine.state c.args.machine.now) c.self.inside.stacks.links.items c.self.inside.stacks.choices.items (g.M.Machine.known c.args.machine.now) c.self.inside.fresh c.self.inside.stacks.tops.items c.args.demand.level c.args.demand.cause (subst (IsReady (g.M.Machine.known c.args.machine.now) (g.M.Machine.told c.args.machine.now)) (sym c.self.view_is) c.requires.ready)))))

pub returns-clause-spent : goal.returns-clause-spent
returns-clause-spent g c =
    λ e. subst (λ x. Spends c.args.ticks.now.left (g.M.Machine.messages c.args.machine.now) (run_of (g.M.Machine.does c.args.machine.now) (g.M.Machine.told c.args.machine.now) (g.M.Machine.state c.args.machine.now) x c.args.demand.level ((g.M.Machine.told c.args.machine.now).cause c.args.demand.cause)) (g.M.Machine.messages c.to_answer.new.machine) × (c.to_answer.new.ticks.left ≡ 0)) c.self.view_is
    (spent_in g.M.Machine.rank g.M.Machine.rest_rank (g.M.Machine.does c.args.machine.now) (g.M.Machine.does c.to_answer.new.machine) (g.met.M.Machine.keeps_does c.args.machine.now c.to_answer.new.machine c.to_answer.ensures.later) (record { told = g.M.Machine.told c.args.machine.now; state = g.M.Machine.state c.args.machine.now; messages = g.M.Machine.messages c.args.machine.now; left = c.args.ticks.now.left; links = c.self.inside.stacks.links.items; choices = c.self.inside.stacks.choices.items }) (record { told = g.M.Machine.told c.to_answer.new.machine; state = g.M.Machine.state c.to_answer.new.machine; messages = g.M.Machine.messages c.to_answer.new.machine; left = c.to_answer.new.ticks.left; links = c.to_answer.new.stacks.links.items; choices = c.to_answer.new.stacks.choices.items }) (run_of (g.M.Machine.does c.args.machine.now) (g.M.Machine.told c.args.machine.now) (g.M.Machine.state c.args.machine.now) (record { fresh = c.self.inside.fresh; links = c.self.inside.stacks.links.items; choices = c.self.inside.stacks.choices.items; tops = c.self.inside.stacks.tops.items }) c.args.demand.level ((g.M.Machine.told c.args.machine.now).cause c.args.demand.cause)) c.to_answer.result (c.to_answer.ensures.ends (run_of (g.M.Machine.does c.args.machine.now) (g.M.Machine.told c.args.machine.now) (g.M.Machine.state c.args.machine.now) (record { fresh = c.self.inside.fresh; links = c.self.inside.stacks.links.items; choices = c.self.inside.stacks.choices.items; tops = c.self.inside.stacks.tops.items }) c.args.demand.level ((g.M.Machine.told c.args.machine.now).cause c.args.demand.cause)) (subst (λ z. Stands g.M.Machine.rest_rank (g.M.Machine.told c.args.machine.now) (g.M.Machine.does c.args.machine.now) (g.M.Machine.state c.args.machine.now) z (stack_at (g.M.Machine.told c.args.machine.now).rest c.self.inside.stacks.links.items 0) (choices_of (g.M.Machine.told c.args.machine.now) c.self.inside.stacks.links.items c.self.inside.stacks.choices.items) (run_of (g.M.Machine.does c.args.machine.now) (g.M.Machine.told c.args.machine.now) (g.M.Machine.state c.args.machine.now) (record { fresh = c.self.inside.fresh; links = c.self.inside.stacks.links.items; choices = c.self.inside.stacks.choices.items; tops = c.self.inside.stacks.tops.items }) c.args.demand.level ((g.M.Machine.told c.args.machine.now).cause c.args.demand.cause))) (sym c.first_work-doing.ensures.doing)
    (starts g.M.Machine.rest_rank (g.M.Machine.does c.args.machine.now) (g.M.Machine.told c.args.machine.now) (g.M.Machine.state c.args.machine.now) c.self.inside.stacks.links.items c.self.inside.stacks.choices.items (g.M.Machine.known c.args.machine.now) c.self.inside.fresh c.self.inside.stacks.tops.items c.args.demand.level c.args.demand.cause (subst (IsReady (g.M.Machine.known c.args.machine.now) (g.M.Machine.told c.args.machine.now)) (sym c.self.view_is) c.requires.ready)))) e)

pub returns-clause-ready : goal.returns-clause-ready
returns-clause-ready g c =
    ready_in (g.M.Machine.known c.to_answer.new.machine) (g.M.Machine.told c.to_answer.new.machine) c.first_work-doing.new.fresh c.to_answer.new.stacks.links.items c.to_answer.new.stacks.choices.items c.to_answer.new.stacks.tops.items c.to_answer.result c.first_work-doing.ensures.after c.to_answer.ensures.held
    (fits_in g.M.Machine.rank g.M.Machine.rest_rank (g.M.Machine.does c.args.machine.now) (g.M.Machine.does c.to_answer.new.machine) (g.met.M.Machine.keeps_does c.args.machine.now c.to_answer.new.machine c.to_answer.ensures.later) (record { told = g.M.Machine.told c.args.machine.now; state = g.M.Machine.state c.args.machine.now; messages = g.M.Machine.messages c.args.machine.now; left = c.args.ticks.now.left; links = c.self.inside.stacks.links.items; choices = c.self.inside.stacks.choices.items }) (record { told = g.M.Machine.told c.to_answer.new.machine; state = g.M.Machine.state c.to_answer.new.machine; messages = g.M.Machine.messages c.to_answer.new.machine; left = c.to_answer.new.ticks.left; links = c.to_answer.new.stacks.links.items; choices = c.to_answer.new.stacks.choices.items }) (run_of (g.M.Machine.does c.args.machine.now) (g.M.Machine.told c.args.machine.now) (g.M.Machine.state c.args.machine.now) (record { fresh = c.self.inside.fresh; links = c.self.inside.stacks.links.items; choices = c.self.inside.stacks.choices.items; tops = c.self.inside.stacks.tops.items }) c.args.demand.level ((g.M.Machine.told c.args.machine.now).cause c.args.demand.cause)) c.to_answer.result (c.to_answer.ensures.ends (run_of (g.M.Machine.does c.args.machine.now) (g.M.Machine.told c.args.machine.now) (g.M.Machine.state c.args.machine.now) (record { fresh = c.self.inside.fresh; links = c.self.inside.stacks.links.items; choices = c.self.inside.stacks.choices.items; tops = c.self.inside.stacks.tops.items }) c.args.demand.level ((g.M.Machine.told c.args.machine.now).cause c.args.demand.cause)) (subst (λ z. Stands g.M.Machine.rest_rank (g.M.Machine.told c.args.machine.now) (g.M.Machine.does c.args.machine.now) (g.M.Machine.state c.args.machine.now) z (stack_at (g.M.Machine.told c.args.machine.now).rest c.self.inside.stacks.links.items 0) (choices_of (g.M.Machine.told c.args.machine.now) c.self.inside.stacks.links.items c.self.inside.stacks.choices.items) (run_of (g.M.Machine.does c.args.machine.now) (g.M.Machine.told c.args.machine.now) (g.M.Machine.state c.args.machine.now) (record { fresh = c.self.inside.fresh; links = c.self.inside.stacks.links.items; choices = c.self.inside.stacks.choices.items; tops = c.self.inside.stacks.tops.items }) c.args.demand.level ((g.M.Machine.told c.args.machine.now).cause c.args.demand.cause))) (sym c.first_work-doing.ensures.doing)
    (starts g.M.Machine.rest_rank (g.M.Machine.does c.args.machine.now) (g.M.Machine.told c.args.machine.now) (g.M.Machine.state c.args.machine.now) c.self.inside.stacks.links.items c.self.inside.stacks.choices.items (g.M.Machine.known c.args.machine.now) c.self.inside.fresh c.self.inside.stacks.tops.items c.args.demand.level c.args.demand.cause (subst (IsReady (g.M.Machine.known c.args.machine.now) (g.M.Machine.told c.args.machine.now)) (sym c.self.view_is) c.requires.ready)))))
