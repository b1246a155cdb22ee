use Rattle.std.proofs.Common.{rules, ◌≡◌, ◌≤◌, ◌<◌, ◌⊎◌, max, length, List, [], ◌∷◌, ◌++◌, subst, arith}
use Rattle.std.proofs.lemmas.Result.{err_from_is_err_and}
use Rattle.lq_runs.specs.Runs.{none}
use Rattle.lq_runs.specs.Machines.{first, gives}
use Rattle.lq_runs.proofs.StepLaws.{first_falls}
use Rattle.lq_stream.specs.Stepping.{move_of}
use Rattle.lq_stream.specs.Places.{newest, Held}
use Rattle.lq_stream.proofs.Tops.{choices_within, tops_high}
use Rattle.lq_stream.proofs.HeldLaws.{held_cut_later, tops_covered}
use Rattle.lq_stream.proofs.TurnLaws.{step_exits, step_goes}
use Rattle.lq_stream.proofs.turning.run_code.Goals as goal

pub returns-in_err-next-clause-turns : goal.returns-in_err-next-clause-turns
returns-in_err-next-clause-turns g c =
    step_exits g.M.Machine.rank g.M.Machine.rest_rank (g.M.Machine.does c.args.machine.now) (g.met.M.Machine.lawful c.args.machine.now) (g.M.Machine.told c.args.machine.now) (g.M.Machine.state c.args.machine.now) (g.M.Machine.messages c.args.machine.now) c.args.ticks.now.left c.args.stacks.now.links.items c.args.stacks.now.choices.items c.args.place c.args.code (g.M.Machine.state c.step.new.self) (g.M.Machine.messages c.step.new.self) c.step.new.ticks.left (g.M.Machine.told c.step.new.self) c.cut.new.links.items c.args.stacks.now.choices.items c.from_residual.result c.in_err-next.field-0.0 (err_from_is_err_and c.from_residual.result c.from_residual.ensures.1) c.in_err-next.ensures.spent

pub moved-requires-clause-links : goal.moved-requires-clause-links
moved-requires-clause-links g c =
    (held_cut_later (g.M.Machine.known c.args.machine.now) (g.M.Machine.known c.step.new.self) (g.met.M.Machine.keeps_known c.args.machine.now c.step.new.self c.step.ensures.later) c.args.stacks.now.links.items c.args.stacks.now.choices.items c.args.stacks.now.choices.items c.args.stacks.now.tops.items c.args.stacks.now.tops.items c.cut.new.links.items c.args.place c.requires.held c.requires.place c.cut.ensures).linked

pub moved-requires-clause-choices : goal.moved-requires-clause-choices
moved-requires-clause-choices g c =
    (held_cut_later (g.M.Machine.known c.args.machine.now) (g.M.Machine.known c.step.new.self) (g.met.M.Machine.keeps_known c.args.machine.now c.step.new.self c.step.ensures.later) c.args.stacks.now.links.items c.args.stacks.now.choices.items c.args.stacks.now.choices.items c.args.stacks.now.tops.items c.args.stacks.now.tops.items c.cut.new.links.items c.args.place c.requires.held c.requires.place c.cut.ensures).chosen

pub returns-clause-held : goal.returns-clause-held
returns-clause-held g c =
    let h : Held (g.M.Machine.known c.step.new.self) c.cut.new.links.items c.args.stacks.now.choices.items c.args.stacks.now.tops.items = held_cut_later (g.M.Machine.known c.args.machine.now) (g.M.Machine.known c.step.new.self) (g.met.M.Machine.keeps_known c.args.machine.now c.step.new.self c.step.ensures.later) c.args.stacks.now.links.items c.args.stacks.now.choices.items c.args.stacks.now.choices.items c.args.stacks.now.tops.items c.args.stacks.now.tops.items c.cut.new.links.items c.args.place c.requires.held c.requires.place c.cut.ensures in
    let e : c.len.result ≡ length c.moved.new.choices.items = search (rules, c.len.ensures) in
    let i : c.len-2.result ≡ length c.moved.new.links.items = search (rules, c.len-2.ensures) in
    let o : ((length c.args.stacks.now.tops.items < c.len.result) × (c.cover.new.tops.items ≡ c.args.stacks.now.tops.items ++ c.len-2.result ∷ [])) ⊎ ((c.len.result ≤ length c.args.stacks.now.tops.items) × (c.cover.new.tops.items ≡ c.args.stacks.now.tops.items)) = c.in_ok-cover.ensures in (
      record {
        linked = c.in_ok-doing.ensures.links;
        chosen = c.in_ok-doing.ensures.choices;
        topped = tops_covered (g.M.Machine.known c.step.new.self) (length c.cut.new.links.items) (length c.moved.new.links.items) c.len.result c.args.stacks.now.tops.items c.cover.new.tops.items c.args.stacks.now.choices.items c.moved.new.choices.items h.topped c.in_ok-doing.ensures.grown c.in_ok-doing.ensures.longer c.in_ok-doing.ensures.choices e
            (subst (λ z. ((length c.args.stacks.now.tops.items < c.len.result) × (c.cover.new.tops.items ≡ c.args.stacks.now.tops.items ++ z ∷ [])) ⊎ ((c.len.result ≤ length c.args.stacks.now.tops.items) × (c.cover.new.tops.items ≡ c.args.stacks.now.tops.items))) i o);
      },
      (c.in_ok-doing.ensures.doing, c.in_ok-doing.ensures.place),
    )

pub returns-clause-turns : goal.returns-clause-turns
returns-clause-turns g c =
    let top : newest 0 c.args.stacks.now.tops.items ≤ length c.args.stacks.now.links.items = tops_high 0 (length c.args.stacks.now.links.items) c.args.stacks.now.tops.items c.args.stacks.now.choices.items c.requires.held.topped in
    let h : Held (g.M.Machine.known c.args.machine.now) c.cut.new.links.items c.args.stacks.now.choices.items c.args.stacks.now.tops.items = held_cut_later (g.M.Machine.known c.args.machine.now) (g.M.Machine.known c.args.machine.now) (record { code = (λ x p. p); rest = (λ x p. p); value = (λ x p. p); cause = (λ x p. p); mark = (λ x p. p) }) c.args.stacks.now.links.items c.args.stacks.now.choices.items c.args.stacks.now.choices.items c.args.stacks.now.tops.items c.args.stacks.now.tops.items c.cut.new.links.items c.args.place c.requires.held c.requires.place c.cut.ensures in
    step_goes g.M.Machine.rank g.M.Machine.rest_rank (g.M.Machine.does c.args.machine.now) (g.met.M.Machine.lawful c.args.machine.now) (g.M.Machine.told c.args.machine.now) (g.M.Machine.state c.args.machine.now) (g.M.Machine.messages c.args.machine.now) c.args.ticks.now.left c.args.stacks.now.links.items c.args.stacks.now.choices.items c.args.place c.args.code (g.M.Machine.state c.step.new.self) (g.M.Machine.messages c.step.new.self) c.step.new.ticks.left (g.M.Machine.known c.args.machine.now) (g.M.Machine.told c.step.new.self) (g.met.M.Machine.keeps_told c.args.machine.now c.step.new.self c.step.ensures.later) (max c.args.place (newest 0 c.args.stacks.now.tops.items)) (omega arith) (omega arith) c.cut.new.links.items c.cut.ensures h.linked
    (choices_within {R = g.row.M-Rest.Denot} (g.M.Machine.known c.args.machine.now) 0 (length c.args.stacks.now.links.items) (length c.args.stacks.now.links.items) (max c.args.place (newest 0 c.args.stacks.now.tops.items)) c.args.stacks.now.tops.items c.args.stacks.now.choices.items c.requires.held.topped (omega arith) c.requires.held.chosen)
    c.in_ok-next.next c.in_ok-doing.doing c.in_ok-doing.below c.moved.new.links.items c.moved.new.choices.items (g.M.Machine.does c.step.new.self) (g.met.M.Machine.keeps_does c.args.machine.now c.step.new.self c.step.ensures.later) c.in_ok-next.ensures.moved c.in_ok-doing.ensures.stands c.in_ok-doing.ensures.falls

pub returns-clause-less : goal.returns-clause-less
returns-clause-less g c =
    let p : (spoken : List g.M.Machine.Message) × (first c.args.ticks.now.left ((g.M.Machine.does c.args.machine.now).steps c.args.ticks.now.left ((g.M.Machine.told c.args.machine.now).code c.args.code) (g.M.Machine.state c.args.machine.now))
    ≡ gives c.step.new.ticks.left spoken (g.M.Machine.state c.step.new.self) (move_of (g.M.Machine.told c.step.new.self) c.in_ok-next.next) none) × (g.M.Machine.messages c.step.new.self ≡ g.M.Machine.messages c.args.machine.now ++ spoken) = c.in_ok-next.ensures.moved in
    first_falls c.args.ticks.now.left ((g.M.Machine.does c.args.machine.now).steps c.args.ticks.now.left ((g.M.Machine.told c.args.machine.now).code c.args.code) (g.M.Machine.state c.args.machine.now)) c.step.new.ticks.left p.0 (g.M.Machine.state c.step.new.self) (move_of (g.M.Machine.told c.step.new.self) c.in_ok-next.next) none p.1
