use Rattle.std.proofs.Common.{◌∙◌, ◌++◌, refl, ap₂, Ok, Err}
use Rattle.lq_terms.specs.Contexts.{context_of}
use Rattle.lq_terms.proofs.Growth.{Grows-trans}
use Rattle.lq_calculus.specs.Declarations.{names_of, declared_names, first_taken}
use Rattle.lq_env.specs.Environments.{env_of}
use Rattle.lq_env.specs.Families.{family_of}
use Rattle.lq_env.proofs.Families.{family_of-grown, IsFamily-grown}
use Rattle.lq_kernel.specs.Declaring.{ChecksFamily}
use Rattle.lq_kernel.proofs.Goes.{err_out}
use Rattle.lq_kernel.proofs.Grown.{IsEnv-grown, env_at, nodes_back}
use Rattle.lq_kernel.proofs.OfferedLaws.{IsOffered-grown, offered_telescope, telescope_at}
use Rattle.lq_kernel.proofs.FamilyWork.{sorts_refused, checks_family, sorts_at, work_at}
use Rattle.lq_kernel.proofs.declaring.check_family.Goals as goal

pub sorts_of-requires-clause-env : goal.sorts_of-requires-clause-env
sorts_of-requires-clause-env g c = IsEnv-grown c.args.work.now.bank.now c.look_over.new.bank c.in_ok-look_over.ensures.grows c.args.env.now c.requires.env

pub sorts_of-requires-clause-context : goal.sorts_of-requires-clause-context
sorts_of-requires-clause-context g c = offered_telescope c.look_over.new.bank c.args.family.now (IsOffered-grown c.args.work.now.bank.now c.look_over.new.bank c.in_ok-look_over.ensures.grows c.args.family.now c.requires.family) c.in_ok-telescope.telescope c.in_ok-telescope.ensures

pub returns-in_err-sorts_of-clause-answer : goal.returns-in_err-sorts_of-clause-answer
returns-in_err-sorts_of-clause-answer g c =
    err_out (λ z. ChecksFamily c.sorts_of.new.work.bank.now z (env_of c.args.work.now.bank.now c.args.env.now) (family_of c.args.work.now.bank.now c.args.family.now) c.args.work.now.ticks.now.left c.sorts_of.new.work.ticks.now.left) c.from_residual-in_err-sorts_of.result c.in_err-sorts_of.field-0.0 c.from_residual-in_err-sorts_of.ensures.1
    (sorts_refused (env_of c.args.work.now.bank.now c.args.env.now) (family_of c.args.work.now.bank.now c.args.family.now) c.in_ok-look_over.ensures.answer c.sorts_of.new.work.bank.now c.args.work.now.ticks.now.left c.sorts_of.new.work.ticks.now.left c.in_err-sorts_of.field-0.0 (sorts_at c.sorts_of.new.work.bank.now (Err c.in_err-sorts_of.field-0.0) (env_of c.look_over.new.bank c.args.env.now) (env_of c.args.work.now.bank.now c.args.env.now) (context_of c.look_over.new.bank c.in_ok-telescope.telescope) ((family_of c.args.work.now.bank.now c.args.family.now).parameters ++ (family_of c.args.work.now.bank.now c.args.family.now).indices) c.args.work.now.ticks.now.left c.sorts_of.new.work.ticks.now.left (env_at c.args.work.now.bank.now c.look_over.new.bank c.in_ok-look_over.ensures.grows c.args.env.now (env_of c.args.work.now.bank.now c.args.env.now) c.requires.env refl) (telescope_at c.args.work.now.bank.now c.look_over.new.bank c.in_ok-look_over.ensures.grows c.args.family.now c.requires.family.has c.in_ok-telescope.telescope c.in_ok-telescope.ensures) c.in_err-sorts_of.ensures.answer))

pub check_inside-requires-clause-env : goal.check_inside-requires-clause-env
check_inside-requires-clause-env g c = IsEnv-grown c.args.work.now.bank.now c.sorts_of.new.work.bank.now (Grows-trans c.args.work.now.bank.now c.look_over.new.bank c.sorts_of.new.work.bank.now c.in_ok-look_over.ensures.grows c.in_ok-sorts_of.ensures.grows) c.args.env.now c.requires.env

pub check_inside-requires-clause-offered : goal.check_inside-requires-clause-offered
check_inside-requires-clause-offered g c = IsOffered-grown c.args.work.now.bank.now c.sorts_of.new.work.bank.now (Grows-trans c.args.work.now.bank.now c.look_over.new.bank c.sorts_of.new.work.bank.now c.in_ok-look_over.ensures.grows c.in_ok-sorts_of.ensures.grows) c.args.family.now c.requires.family

pub check_inside-requires-clause-family : goal.check_inside-requires-clause-family
check_inside-requires-clause-family g c = IsFamily-grown c.args.work.now.bank.now c.sorts_of.new.work.bank.now (Grows-trans c.args.work.now.bank.now c.look_over.new.bank c.sorts_of.new.work.bank.now c.in_ok-look_over.ensures.grows c.in_ok-sorts_of.ensures.grows) c.args.family.now c.in_ok-look_over.ensures.family

pub check_inside-requires-clause-new : goal.check_inside-requires-clause-new
check_inside-requires-clause-new g c =
    ap₂ (λ D H. first_taken (names_of D) (declared_names H)) (env_at c.args.work.now.bank.now c.sorts_of.new.work.bank.now (Grows-trans c.args.work.now.bank.now c.look_over.new.bank c.sorts_of.new.work.bank.now c.in_ok-look_over.ensures.grows c.in_ok-sorts_of.ensures.grows) c.args.env.now (env_of c.args.work.now.bank.now c.args.env.now) c.requires.env refl) (family_of-grown c.args.work.now.bank.now c.sorts_of.new.work.bank.now (Grows-trans c.args.work.now.bank.now c.look_over.new.bank c.sorts_of.new.work.bank.now c.in_ok-look_over.ensures.grows c.in_ok-sorts_of.ensures.grows) c.args.family.now c.requires.family.has) ∙ c.in_ok-look_over.ensures.new

pub returns-in_err-small-clause-answer : goal.returns-in_err-small-clause-answer
returns-in_err-small-clause-answer g c =
    err_out (λ z. ChecksFamily c.check_inside.new.work.bank.now z (env_of c.args.work.now.bank.now c.args.env.now) (family_of c.args.work.now.bank.now c.args.family.now) c.args.work.now.ticks.now.left c.check_inside.new.work.ticks.now.left) c.from_residual-in_err-small.result c.in_err-small.field-0.0 c.from_residual-in_err-small.ensures.1
    (checks_family (env_of c.args.work.now.bank.now c.args.env.now) (family_of c.args.work.now.bank.now c.args.family.now) c.in_ok-look_over.ensures.answer c.check_inside.new.work.bank.now c.args.work.now.ticks.now.left c.check_inside.new.work.ticks.now.left (Err c.in_err-small.field-0.0) c.sorts_of.new.work.ticks.now.left (sorts_at c.sorts_of.new.work.bank.now (Ok c.in_ok-sorts_of.field-0) (env_of c.look_over.new.bank c.args.env.now) (env_of c.args.work.now.bank.now c.args.env.now) (context_of c.look_over.new.bank c.in_ok-telescope.telescope) ((family_of c.args.work.now.bank.now c.args.family.now).parameters ++ (family_of c.args.work.now.bank.now c.args.family.now).indices) c.args.work.now.ticks.now.left c.sorts_of.new.work.ticks.now.left (env_at c.args.work.now.bank.now c.look_over.new.bank c.in_ok-look_over.ensures.grows c.args.env.now (env_of c.args.work.now.bank.now c.args.env.now) c.requires.env refl) (telescope_at c.args.work.now.bank.now c.look_over.new.bank c.in_ok-look_over.ensures.grows c.args.family.now c.requires.family.has c.in_ok-telescope.telescope c.in_ok-telescope.ensures) c.in_ok-sorts_of.ensures.answer)
    (work_at c.check_inside.new.work.bank.now (Err c.in_err-small.field-0.0) (env_of c.sorts_of.new.work.bank.now c.args.env.now) (env_of c.args.work.now.bank.now c.args.env.now) (family_of c.sorts_of.new.work.bank.now c.args.family.now) (family_of c.args.work.now.bank.now c.args.family.now) c.sorts_of.new.work.ticks.now.left c.check_inside.new.work.ticks.now.left
    (env_at c.args.work.now.bank.now c.sorts_of.new.work.bank.now (Grows-trans c.args.work.now.bank.now c.look_over.new.bank c.sorts_of.new.work.bank.now c.in_ok-look_over.ensures.grows c.in_ok-sorts_of.ensures.grows) c.args.env.now (env_of c.args.work.now.bank.now c.args.env.now) c.requires.env refl) (family_of-grown c.args.work.now.bank.now c.sorts_of.new.work.bank.now (Grows-trans c.args.work.now.bank.now c.look_over.new.bank c.sorts_of.new.work.bank.now c.in_ok-look_over.ensures.grows c.in_ok-sorts_of.ensures.grows) c.args.family.now c.requires.family.has) c.in_err-small.ensures.answer))

pub returns-clause-answer : goal.returns-clause-answer
returns-clause-answer g c =
    checks_family (env_of c.args.work.now.bank.now c.args.env.now) (family_of c.args.work.now.bank.now c.args.family.now) c.in_ok-look_over.ensures.answer c.check_inside.new.work.bank.now c.args.work.now.ticks.now.left c.check_inside.new.work.ticks.now.left (Ok c.in_ok-small.small) c.sorts_of.new.work.ticks.now.left (sorts_at c.sorts_of.new.work.bank.now (Ok c.in_ok-sorts_of.field-0) (env_of c.look_over.new.bank c.args.env.now) (env_of c.args.work.now.bank.now c.args.env.now) (context_of c.look_over.new.bank c.in_ok-telescope.telescope) ((family_of c.args.work.now.bank.now c.args.family.now).parameters ++ (family_of c.args.work.now.bank.now c.args.family.now).indices) c.args.work.now.ticks.now.left c.sorts_of.new.work.ticks.now.left (env_at c.args.work.now.bank.now c.look_over.new.bank c.in_ok-look_over.ensures.grows c.args.env.now (env_of c.args.work.now.bank.now c.args.env.now) c.requires.env refl) (telescope_at c.args.work.now.bank.now c.look_over.new.bank c.in_ok-look_over.ensures.grows c.args.family.now c.requires.family.has c.in_ok-telescope.telescope c.in_ok-telescope.ensures) c.in_ok-sorts_of.ensures.answer)
    (work_at c.check_inside.new.work.bank.now (Ok c.in_ok-small.small) (env_of c.sorts_of.new.work.bank.now c.args.env.now) (env_of c.args.work.now.bank.now c.args.env.now) (family_of c.sorts_of.new.work.bank.now c.args.family.now) (family_of c.args.work.now.bank.now c.args.family.now) c.sorts_of.new.work.ticks.now.left c.check_inside.new.work.ticks.now.left
    (env_at c.args.work.now.bank.now c.sorts_of.new.work.bank.now (Grows-trans c.args.work.now.bank.now c.look_over.new.bank c.sorts_of.new.work.bank.now c.in_ok-look_over.ensures.grows c.in_ok-sorts_of.ensures.grows) c.args.env.now (env_of c.args.work.now.bank.now c.args.env.now) c.requires.env refl) (family_of-grown c.args.work.now.bank.now c.sorts_of.new.work.bank.now (Grows-trans c.args.work.now.bank.now c.look_over.new.bank c.sorts_of.new.work.bank.now c.in_ok-look_over.ensures.grows c.in_ok-sorts_of.ensures.grows) c.args.family.now c.requires.family.has) c.in_ok-small.ensures.answer)

pub returns-clause-dropped : goal.returns-clause-dropped
returns-clause-dropped g c =
    nodes_back c.look_over.new.bank c.check_inside.new.work.bank.now c.undo.new.self c.mark-mark.result (Grows-trans c.look_over.new.bank c.sorts_of.new.work.bank.now c.check_inside.new.work.bank.now c.in_ok-sorts_of.ensures.grows c.in_ok-small.ensures.grows) c.mark-mark.ensures c.undo.ensures.undone ∙ c.in_ok-look_over.ensures.nodes

pub returns-clause-grows : goal.returns-clause-grows
returns-clause-grows g c =
    Grows-trans c.args.work.now.bank.now c.look_over.new.bank c.undo.new.self c.in_ok-look_over.ensures.grows
    (c.undo.ensures.back c.look_over.new.bank c.mark-mark.ensures (Grows-trans c.look_over.new.bank c.sorts_of.new.work.bank.now c.check_inside.new.work.bank.now c.in_ok-sorts_of.ensures.grows c.in_ok-small.ensures.grows))
