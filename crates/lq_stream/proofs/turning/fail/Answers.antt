use Rattle.std.proofs.Common.{rules, ◌≡◌, ◌≤◌, length, take, [], ◌∷◌, ◌∙◌, ap, subst}
use Rattle.lq_stream.specs.Holding.{HasDoing, IsChoice, AreChoices}
use Rattle.lq_stream.specs.Reading.{choices_of}
use Rattle.lq_stream.proofs.Comings.{finishes, failure_goes}
use Rattle.lq_stream.proofs.Later.{doing_known}
use Rattle.lq_stream.proofs.Tops.{shrinks_front, last_choice}
use Rattle.lq_stream.proofs.HeldLaws.{none_left, knows_mark, held_shrunk}
use Rattle.lq_stream.proofs.turning.fail.Goals as goal

pub refused-doing-requires-clause-choice : goal.refused-doing-requires-clause-choice
refused-doing-requires-clause-choice g c =
    let held : AreChoices (g.M.Machine.known c.args.machine.now) (length c.args.stacks.now.links.items) c.pop.new.self.items × IsChoice (g.M.Machine.known c.args.machine.now) (length c.args.stacks.now.links.items) c.in-Some.choice = last_choice {R = g.row.M-Rest.Denot} (g.M.Machine.known c.args.machine.now) (length c.args.stacks.now.links.items) c.pop.new.self.items c.in-Some.choice (subst (AreChoices (g.M.Machine.known c.args.machine.now) (length c.args.stacks.now.links.items)) c.in-Some.ensures.items c.requires.held.chosen) in
    knows_mark (g.M.Machine.known c.args.machine.now) (length c.args.stacks.now.links.items) c.in-Some.choice held.1

pub returns-in-None-clause-turns : goal.returns-in-None-clause-turns
returns-in-None-clause-turns g c =
    let e : length c.args.stacks.now.choices.items ≡ 0 = search (rules, c.in-None.ensures.cases.0) in
    let i : length c.pop.new.self.items ≡ 0 = search (rules, c.in-None.ensures.cases.1) in
    λ left. finishes g.M.Machine.rank g.M.Machine.rest_rank (g.M.Machine.does c.args.machine.now) (g.M.Machine.told c.args.machine.now) (g.M.Machine.state c.args.machine.now) (g.M.Machine.messages c.args.machine.now) left c.args.stacks.now.links.items c.args.stacks.now.choices.items c.args.place c.args.level c.args.cause c.pop.new.self.items (none_left c.args.stacks.now.choices.items e) (none_left c.pop.new.self.items i)

pub returns-in-Some-clause-held : goal.returns-in-Some-clause-held
returns-in-Some-clause-held g c =
    let held : AreChoices (g.M.Machine.known c.args.machine.now) (length c.args.stacks.now.links.items) c.pop.new.self.items × IsChoice (g.M.Machine.known c.args.machine.now) (length c.args.stacks.now.links.items) c.in-Some.choice = last_choice {R = g.row.M-Rest.Denot} (g.M.Machine.known c.args.machine.now) (length c.args.stacks.now.links.items) c.pop.new.self.items c.in-Some.choice (subst (AreChoices (g.M.Machine.known c.args.machine.now) (length c.args.stacks.now.links.items)) c.in-Some.ensures.items c.requires.held.chosen) in
    let e : c.len.result ≡ length c.pop.new.self.items = search (rules, c.len.ensures) in
    let known : HasDoing (g.M.Machine.known c.args.machine.now) c.refused-doing.result.0 × (c.refused-doing.result.1 ≤ (length c.args.stacks.now.links.items)) = c.refused-doing.ensures.keeps (length c.args.stacks.now.links.items) c.requires.place held.1 in (
      held_shrunk (g.M.Machine.known c.args.machine.now) (g.M.Machine.known c.refused-doing.new.machine) (g.met.M.Machine.keeps_known c.args.machine.now c.refused-doing.new.machine c.refused-doing.ensures.later) c.args.stacks.now.links.items c.args.stacks.now.choices.items c.pop.new.self.items c.args.stacks.now.tops.items c.truncate.new.self.items c.requires.held held.0 (shrinks_front c.args.stacks.now.choices.items c.pop.new.self.items (c.in-Some.choice ∷ []) c.in-Some.ensures.items) (c.truncate.ensures.items ∙ ap (λ z. take z c.args.stacks.now.tops.items) e),
      (doing_known (g.M.Machine.known c.args.machine.now) (g.M.Machine.known c.refused-doing.new.machine) (g.met.M.Machine.keeps_known c.args.machine.now c.refused-doing.new.machine c.refused-doing.ensures.later) c.refused-doing.result.0 known.0, known.1),
    )

pub returns-in-Some-clause-turns : goal.returns-in-Some-clause-turns
returns-in-Some-clause-turns g c =
    let held : AreChoices (g.M.Machine.known c.args.machine.now) (length c.args.stacks.now.links.items) c.pop.new.self.items × IsChoice (g.M.Machine.known c.args.machine.now) (length c.args.stacks.now.links.items) c.in-Some.choice = last_choice {R = g.row.M-Rest.Denot} (g.M.Machine.known c.args.machine.now) (length c.args.stacks.now.links.items) c.pop.new.self.items c.in-Some.choice (subst (AreChoices (g.M.Machine.known c.args.machine.now) (length c.args.stacks.now.links.items)) c.in-Some.ensures.items c.requires.held.chosen) in
    λ left. failure_goes g.M.Machine.rank g.M.Machine.rest_rank (g.M.Machine.does c.args.machine.now) (g.M.Machine.told c.args.machine.now) (g.M.Machine.state c.args.machine.now) (g.M.Machine.messages c.args.machine.now) left c.args.stacks.now.links.items c.args.stacks.now.choices.items c.args.place (g.M.Machine.known c.args.machine.now) (g.M.Machine.told c.refused-doing.new.machine) (g.met.M.Machine.keeps_told c.args.machine.now c.refused-doing.new.machine c.refused-doing.ensures.later) c.requires.held.linked (length c.args.stacks.now.links.items) c.pop.new.self.items held.0 (g.M.Machine.state c.refused-doing.new.machine) (g.M.Machine.messages c.refused-doing.new.machine) c.refused-doing.ensures.messages c.refused-doing.result.0 c.refused-doing.result.1 c.in-Some.choice c.in-Some.ensures.items (c.refused-doing.ensures.keeps (length c.args.stacks.now.links.items) c.requires.place held.1).0 c.args.level c.args.cause (c.refused-doing.ensures.stands c.args.stacks.now.links.items (choices_of (g.M.Machine.told c.args.machine.now) c.args.stacks.now.links.items c.pop.new.self.items)) (c.refused-doing.ensures.falls c.args.stacks.now.links.items (choices_of (g.M.Machine.told c.args.machine.now) c.args.stacks.now.links.items c.pop.new.self.items))
