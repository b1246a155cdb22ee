use Rattle.std.proofs.Common.{rules, ◌≡◌, ◌≤◌, length, take, [], ◌∷◌, ◌∙◌, ap, subst}
use Rattle.lq_stream.specs.Holding.{HasDoing, IsChoice, AreChoices}
use Rattle.lq_stream.specs.Reading.{choices_of}
use Rattle.lq_stream.proofs.Comings.{look_goes}
use Rattle.lq_stream.proofs.Later.{doing_known}
use Rattle.lq_stream.proofs.Tops.{shrinks_front, last_choice}
use Rattle.lq_stream.proofs.HeldLaws.{knows_mark, held_shrunk}
use Rattle.lq_stream.proofs.turning.look.Goals as goal

pub looked-doing-requires : goal.looked-doing-requires
looked-doing-requires g c =
    let held : AreChoices (g.M.Machine.known c.args.machine.now) (length c.args.stacks.now.links.items) c.pop.new.self.items × IsChoice (g.M.Machine.known c.args.machine.now) (length c.args.stacks.now.links.items) c.in-Some.choice = last_choice {R = g.row.M-Rest.Denot} (g.M.Machine.known c.args.machine.now) (length c.args.stacks.now.links.items) c.pop.new.self.items c.in-Some.choice (subst (AreChoices (g.M.Machine.known c.args.machine.now) (length c.args.stacks.now.links.items)) c.in-Some.ensures.items c.requires.held.chosen) in
    record { choice = knows_mark (g.M.Machine.known c.args.machine.now) (length c.args.stacks.now.links.items) c.in-Some.choice held.1 }

pub returns-clause-held : goal.returns-clause-held
returns-clause-held g c =
    let held : AreChoices (g.M.Machine.known c.args.machine.now) (length c.args.stacks.now.links.items) c.pop.new.self.items × IsChoice (g.M.Machine.known c.args.machine.now) (length c.args.stacks.now.links.items) c.in-Some.choice = last_choice {R = g.row.M-Rest.Denot} (g.M.Machine.known c.args.machine.now) (length c.args.stacks.now.links.items) c.pop.new.self.items c.in-Some.choice (subst (AreChoices (g.M.Machine.known c.args.machine.now) (length c.args.stacks.now.links.items)) c.in-Some.ensures.items c.requires.held.chosen) in
    let e : c.len.result ≡ length c.pop.new.self.items = search (rules, c.len.ensures) in
    let known : HasDoing (g.M.Machine.known c.args.machine.now) c.looked-doing.result.0 × (c.looked-doing.result.1 ≤ (length c.args.stacks.now.links.items)) = c.looked-doing.ensures.keeps (length c.args.stacks.now.links.items) c.requires.place held.1 in (
      held_shrunk (g.M.Machine.known c.args.machine.now) (g.M.Machine.known c.looked-doing.new.machine) (g.met.M.Machine.keeps_known c.args.machine.now c.looked-doing.new.machine c.looked-doing.ensures.later) c.args.stacks.now.links.items c.args.stacks.now.choices.items c.pop.new.self.items c.args.stacks.now.tops.items c.truncate.new.self.items c.requires.held held.0 (shrinks_front c.args.stacks.now.choices.items c.pop.new.self.items (c.in-Some.choice ∷ []) c.in-Some.ensures.items) (c.truncate.ensures.items ∙ ap (λ z. take z c.args.stacks.now.tops.items) e),
      (doing_known (g.M.Machine.known c.args.machine.now) (g.M.Machine.known c.looked-doing.new.machine) (g.met.M.Machine.keeps_known c.args.machine.now c.looked-doing.new.machine c.looked-doing.ensures.later) c.looked-doing.result.0 known.0, known.1),
    )

pub returns-clause-turns : goal.returns-clause-turns
returns-clause-turns g c =
    let held : AreChoices (g.M.Machine.known c.args.machine.now) (length c.args.stacks.now.links.items) c.pop.new.self.items × IsChoice (g.M.Machine.known c.args.machine.now) (length c.args.stacks.now.links.items) c.in-Some.choice = last_choice {R = g.row.M-Rest.Denot} (g.M.Machine.known c.args.machine.now) (length c.args.stacks.now.links.items) c.pop.new.self.items c.in-Some.choice (subst (AreChoices (g.M.Machine.known c.args.machine.now) (length c.args.stacks.now.links.items)) c.in-Some.ensures.items c.requires.held.chosen) in
    λ left. look_goes g.M.Machine.rank g.M.Machine.rest_rank (g.M.Machine.does c.args.machine.now) (g.M.Machine.told c.args.machine.now) (g.M.Machine.state c.args.machine.now) (g.M.Machine.messages c.args.machine.now) left c.args.stacks.now.links.items c.args.stacks.now.choices.items c.args.place (g.M.Machine.known c.args.machine.now) (g.M.Machine.told c.looked-doing.new.machine) (g.met.M.Machine.keeps_told c.args.machine.now c.looked-doing.new.machine c.looked-doing.ensures.later) c.requires.held.linked (length c.args.stacks.now.links.items) c.pop.new.self.items held.0 (g.M.Machine.state c.looked-doing.new.machine) (g.M.Machine.messages c.looked-doing.new.machine) c.looked-doing.ensures.messages c.looked-doing.result.0 c.looked-doing.result.1 c.in-Some.choice c.in-Some.ensures.items (c.looked-doing.ensures.keeps (length c.args.stacks.now.links.items) c.requires.place held.1).0 (c.looked-doing.ensures.stands c.args.stacks.now.links.items (choices_of (g.M.Machine.told c.args.machine.now) c.args.stacks.now.links.items c.pop.new.self.items)) (c.looked-doing.ensures.falls c.args.stacks.now.links.items (choices_of (g.M.Machine.told c.args.machine.now) c.args.stacks.now.links.items c.pop.new.self.items))
