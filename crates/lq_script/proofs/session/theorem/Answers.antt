use Rattle.std.proofs.Common.{sym, ◌∙◌}
use Rattle.lq_terms.proofs.Growth.{Grows-refl}
use Rattle.lq_env.specs.Environments.{env_of}
use Rattle.lq_script.specs.Syntax.{plain_surface}
use Rattle.lq_script.proofs.Grown.{IsEnv-grown}
use Rattle.lq_script.proofs.Moving.{theorem_misplaced, theorem_stops, theorem_goes, moves_by}
use Rattle.lq_script.proofs.session.theorem.Goals as goal

pub returns-in_default : goal.returns-in_default
returns-in_default g c = record {
  answer = theorem_misplaced c.args.bank.now (env_of c.args.bank.now c.args.env.now) c.args.place.now c.args.text.now (plain_surface c.args.surface.now) c.in_default.not-Outside;
  grows = Grows-refl c.args.bank.now;
}

pub is_declared-requires-clause-env : goal.is_declared-requires-clause-env
is_declared-requires-clause-env g c = IsEnv-grown c.args.bank.now c.name.new.self c.args.env.now c.in_ok-name.ensures.grows c.requires.env

pub returns-then-is_declared-clause-answer : goal.returns-then-is_declared-clause-answer
returns-then-is_declared-clause-answer g c =
    theorem_stops c.args.bank.now c.name.new.self c.args.env.now c.args.place.now c.in_ok-name.name c.args.text.now (plain_surface c.args.surface.now) c.in_ok-name.ensures.grows c.requires.env c.in_ok-name.ensures.named c.in-Outside.is
    (sym c.is_declared.ensures ∙ c.if-is_declared.true)

pub state-requires-clause-env : goal.state-requires-clause-env
state-requires-clause-env g c = IsEnv-grown c.args.bank.now c.name.new.self c.args.env.now c.in_ok-name.ensures.grows c.requires.env

pub returns-clause-answer : goal.returns-clause-answer
returns-clause-answer g c =
    moves_by c.state.new.bank c.args.env.now c.state.result _ _
    (theorem_goes c.args.bank.now c.name.new.self c.args.env.now c.args.place.now c.in_ok-name.name c.args.text.now (plain_surface c.args.surface.now) c.in_ok-name.ensures.grows c.requires.env c.in_ok-name.ensures.named c.in-Outside.is
    (sym c.is_declared.ensures ∙ c.if-is_declared.false))
    c.state.ensures.answer
