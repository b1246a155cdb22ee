use Rattle.std.proofs.Common.{rules, ◌≡◌, length, take, ◌∙◌, ap}
use Rattle.lq_stream.specs.Holding.{HasDoing, AreChoices}
use Rattle.lq_stream.proofs.Comings.{answers, success_goes}
use Rattle.lq_stream.proofs.HeldLaws.{held_shrunk}
use Rattle.lq_stream.proofs.turning.go_on.Goals as goal

pub returns-then-place-eq0-clause-turns : goal.returns-then-place-eq0-clause-turns
returns-then-place-eq0-clause-turns g c =
    λ left. answers g.M.Machine.rank g.M.Machine.rest_rank (g.M.Machine.does c.args.machine.now) (g.M.Machine.told c.args.machine.now) (g.M.Machine.state c.args.machine.now) (g.M.Machine.messages c.args.machine.now) left c.args.stacks.now.links.items c.args.stacks.now.choices.items c.args.place c.args.value c.if-place-eq0.true

pub returns-clause-held : goal.returns-clause-held
returns-clause-held g c =
    let keeps : AreChoices (g.M.Machine.known c.args.machine.now) (length c.args.stacks.now.links.items) c.succeeded.new.choices.items × HasDoing (g.M.Machine.known c.succeeded.new.machine) c.in_ok-doing.doing = c.in_ok-doing.ensures.keeps (length c.args.stacks.now.links.items) c.requires.held.chosen in
    let e : c.len.result ≡ length c.succeeded.new.choices.items = search (rules, c.len.ensures) in (
      held_shrunk (g.M.Machine.known c.args.machine.now) (g.M.Machine.known c.succeeded.new.machine) (g.met.M.Machine.keeps_known c.args.machine.now c.succeeded.new.machine c.in_ok-doing.ensures.later) c.args.stacks.now.links.items c.args.stacks.now.choices.items c.succeeded.new.choices.items c.args.stacks.now.tops.items c.truncate.new.self.items c.requires.held keeps.0 c.in_ok-doing.ensures.shrinks (c.truncate.ensures.items ∙ ap (λ z. take z c.args.stacks.now.tops.items) e),
      (keeps.1, c.in_ok-doing.ensures.place),
    )

pub returns-clause-turns : goal.returns-clause-turns
returns-clause-turns g c =
    let keeps : AreChoices (g.M.Machine.known c.args.machine.now) (length c.args.stacks.now.links.items) c.succeeded.new.choices.items × HasDoing (g.M.Machine.known c.succeeded.new.machine) c.in_ok-doing.doing = c.in_ok-doing.ensures.keeps (length c.args.stacks.now.links.items) c.requires.held.chosen in
    λ left. success_goes g.M.Machine.rank g.M.Machine.rest_rank (g.M.Machine.does c.args.machine.now) (g.M.Machine.told c.args.machine.now) (g.M.Machine.state c.args.machine.now) (g.M.Machine.messages c.args.machine.now) left c.args.stacks.now.links.items c.args.stacks.now.choices.items c.args.place (g.M.Machine.known c.args.machine.now) (g.M.Machine.told c.succeeded.new.machine) (g.met.M.Machine.keeps_told c.args.machine.now c.succeeded.new.machine c.in_ok-doing.ensures.later) c.requires.held.linked (length c.args.stacks.now.links.items) c.succeeded.new.choices.items keeps.0 (g.M.Machine.state c.succeeded.new.machine) (g.M.Machine.messages c.succeeded.new.machine) c.in_ok-doing.ensures.messages c.in_ok-doing.doing c.in_ok-doing.below c.args.value c.in_ok-doing.ensures.state c.in_ok-doing.ensures.stands c.in_ok-doing.ensures.falls
