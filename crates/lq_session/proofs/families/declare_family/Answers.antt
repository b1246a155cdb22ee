use Rattle.std.proofs.Common.{sym, subst}
use Rattle.std.specs.Prelude.{map}
use Rattle.lq_ast.specs.Plain.{plain, plain_binders, joined}
use Rattle.lq_ast.specs.PlainCommands.{plain_constructor}
use Rattle.lq_calculus.specs.Declarations.{names_of}
use Rattle.lq_terms.specs.Terms.{text_of}
use Rattle.lq_terms.proofs.Growth.{Grows-trans}
use Rattle.lq_env.specs.Environments.{env_of}
use Rattle.lq_elaborated.proofs.InductiveLaws.{still_new}
use Rattle.lq_session.specs.Sessions.{IsSession}
use Rattle.lq_session.proofs.DeclareLaws.{is_session_with}
use Rattle.lq_session.proofs.InductiveLaws.{names_new, taken_does, family_does, family_stops}
use Rattle.lq_session.proofs.ShowLaws.{is_session_grown}
use Rattle.lq_session.proofs.families.declare_family.Goals as goal

pub returns-in-Err-refuse_taken-clause-answer : goal.returns-in-Err-refuse_taken-clause-answer
returns-in-Err-refuse_taken-clause-answer g c =
    taken_does c.args.work.now.bank.now c.args.session.now c.args.name (joined (map plain_binders c.args.groups.now)) (plain c.args.kind.now) (map plain_constructor c.args.constructors.now) c.in-Ok.ensures c.refuse_taken.new.bank c.args.session.now c.in-Err-refuse_taken.stop c.in-Err-refuse_taken.ensures.answer

pub returns-in-Err-refuse_taken-clause-session : goal.returns-in-Err-refuse_taken-clause-session
returns-in-Err-refuse_taken-clause-session g c =
    is_session_grown c.args.work.now.bank.now c.refuse_taken.new.bank c.in-Err-refuse_taken.ensures.grows c.args.session.now c.requires.session

pub define_family-requires-clause-env : goal.define_family-requires-clause-env
define_family-requires-clause-env g c =
    (is_session_grown c.args.work.now.bank.now c.refuse_taken.new.bank c.in-Ok-refuse_taken.ensures.grows c.args.session.now c.requires.session).env

pub define_family-requires-clause-plain : goal.define_family-requires-clause-plain
define_family-requires-clause-plain g c =
    (is_session_grown c.args.work.now.bank.now c.refuse_taken.new.bank c.in-Ok-refuse_taken.ensures.grows c.args.session.now c.requires.session).plain

pub define_family-requires-clause-new : goal.define_family-requires-clause-new
define_family-requires-clause-new g c =
    still_new c.args.work.now.bank.now c.refuse_taken.new.bank c.in-Ok-refuse_taken.ensures.grows c.args.session.now.env c.requires.session.env c.args.name c.requires.name (names_new (names_of (env_of c.args.work.now.bank.now c.args.session.now.env)) (text_of c.args.work.now.bank.now c.args.name) (map plain_constructor c.args.constructors.now) c.in-Ok-refuse_taken.ensures.answer)

pub returns-in-Ok-define_family-clause-answer : goal.returns-in-Ok-define_family-clause-answer
returns-in-Ok-define_family-clause-answer g c =
    family_does c.args.work.now.bank.now c.args.session.now c.args.name (joined (map plain_binders c.args.groups.now)) (plain c.args.kind.now) (map plain_constructor c.args.constructors.now) c.in-Ok.ensures c.in-Ok-refuse_taken.ensures.answer c.refuse_taken.new.bank c.define_family.new.work.bank.now c.in-Ok-refuse_taken.ensures.grows c.requires.session.env c.requires.name c.args.work.now.ticks.now.left c.define_family.new.work.ticks.now.left c.requires.budget c.define_family.new.env c.in_ok-line.line c.in_ok-line.ensures c.in-Ok-define_family.ensures.answer

pub returns-in-Ok-define_family-clause-session : goal.returns-in-Ok-define_family-clause-session
returns-in-Ok-define_family-clause-session g c =
    is_session_with c.define_family.new.work.bank.now c.args.session.now c.define_family.new.env c.in-Ok.ensures c.in-Ok-define_family.ensures.env c.in-Ok-define_family.ensures.plain

pub returns-in-Ok-define_family-clause-grows : goal.returns-in-Ok-define_family-clause-grows
returns-in-Ok-define_family-clause-grows g c =
    (Grows-trans c.args.work.now.bank.now c.refuse_taken.new.bank c.define_family.new.work.bank.now c.in-Ok-refuse_taken.ensures.grows c.in-Ok-define_family.ensures.grows)

pub returns-in-Err-define_family-clause-answer : goal.returns-in-Err-define_family-clause-answer
returns-in-Err-define_family-clause-answer g c =
    family_stops c.args.work.now.bank.now c.args.session.now c.args.name (joined (map plain_binders c.args.groups.now)) (plain c.args.kind.now) (map plain_constructor c.args.constructors.now) c.in-Ok.ensures c.in-Ok-refuse_taken.ensures.answer c.refuse_taken.new.bank c.define_family.new.work.bank.now c.in-Ok-refuse_taken.ensures.grows c.requires.session.env c.requires.name c.args.work.now.ticks.now.left c.define_family.new.work.ticks.now.left c.requires.budget (record { env = c.define_family.new.env; steps = c.args.session.now.steps; kernel = c.args.session.now.kernel; opened = c.args.session.now.opened }) c.in-Err-define_family.stop c.in-Err-define_family.ensures.answer

pub returns-in-Err-define_family-clause-session : goal.returns-in-Err-define_family-clause-session
returns-in-Err-define_family-clause-session g c =
    subst (λ ds. IsSession c.define_family.new.work.bank.now (record { env = ds; steps = c.args.session.now.steps; kernel = c.args.session.now.kernel; opened = c.args.session.now.opened })) (sym c.in-Err-define_family.ensures.kept)
    (is_session_grown c.args.work.now.bank.now c.define_family.new.work.bank.now (Grows-trans c.args.work.now.bank.now c.refuse_taken.new.bank c.define_family.new.work.bank.now c.in-Ok-refuse_taken.ensures.grows c.in-Err-define_family.ensures.grows) c.args.session.now c.requires.session)

pub returns-in-Err-define_family-clause-grows : goal.returns-in-Err-define_family-clause-grows
returns-in-Err-define_family-clause-grows g c =
    (Grows-trans c.args.work.now.bank.now c.refuse_taken.new.bank c.define_family.new.work.bank.now c.in-Ok-refuse_taken.ensures.grows c.in-Err-define_family.ensures.grows)

pub returns-in_err-line-clause-session : goal.returns-in_err-line-clause-session
returns-in_err-line-clause-session g c = is_session_grown c.args.work.now.bank.now c.refuse_taken.new.bank c.in-Ok-refuse_taken.ensures.grows c.args.session.now c.requires.session

pub returns-then-constructors-ge-MOST_CONSTRUCTORS-clause-session : goal.returns-then-constructors-ge-MOST_CONSTRUCTORS-clause-session
returns-then-constructors-ge-MOST_CONSTRUCTORS-clause-session g c = is_session_grown c.args.work.now.bank.now c.refuse_taken.new.bank c.in-Ok-refuse_taken.ensures.grows c.args.session.now c.requires.session
