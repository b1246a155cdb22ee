use Rattle.std.proofs.Common.{◌∙◌, refl, sym, ap, subst}
use Rattle.lq_calculus.specs.Declarations.{permitted}
use Rattle.lq_env.specs.Environments.{IsEnv, env_of}
use Rattle.lq_env.specs.Families.{family_of}
use Rattle.lq_env.proofs.Families.{family_of-grown, IsFamily-grown}
use Rattle.lq_kernel.proofs.Grown.{IsEnv-grown, env_at}
use Rattle.lq_kernel.proofs.FamilyWork.{declares, adds_at, env_after}
use Rattle.lq_kernel.proofs.declaring.declare_family.Goals as goal

pub returns-in_err-small-clause-env : goal.returns-in_err-small-clause-env
returns-in_err-small-clause-env g c = subst (IsEnv c.check_family.new.work.bank.now) (sym c.in_err-small.ensures.kept) (IsEnv-grown c.args.work.now.bank.now c.check_family.new.work.bank.now c.in_err-small.ensures.grows c.args.env.now c.requires.env)

pub add_family-requires-clause-env : goal.add_family-requires-clause-env
add_family-requires-clause-env g c = (subst (IsEnv c.check_family.new.work.bank.now) (sym c.in_ok-small.ensures.kept) (IsEnv-grown c.args.work.now.bank.now c.check_family.new.work.bank.now c.in_ok-small.ensures.grows c.args.env.now c.requires.env))

pub add_family-requires-clause-family : goal.add_family-requires-clause-family
add_family-requires-clause-family g c = IsFamily-grown c.args.work.now.bank.now c.check_family.new.work.bank.now c.in_ok-small.ensures.grows c.args.family c.in_ok-small.ensures.family

pub returns-clause-answer : goal.returns-clause-answer
returns-clause-answer g c =
    let k = c.in_ok-small.ensures.answer in
    declares (env_of c.args.work.now.bank.now c.args.env.now) (family_of c.args.work.now.bank.now c.args.family) c.add_family.new.bank c.add_family.new.env c.args.work.now.ticks.now.left c.check_family.new.work.ticks.now.left c.in_ok-small.ensures.new k.1 k.0.found k.0.comes c.add_family.result
    (adds_at c.add_family.new.bank c.add_family.result c.add_family.new.env (env_of c.check_family.new.work.bank.now c.check_family.new.env) (env_of c.args.work.now.bank.now c.args.env.now) (family_of c.check_family.new.work.bank.now c.args.family) (family_of c.args.work.now.bank.now c.args.family) (permitted c.args.family.sort k.0.found)
    (ap (env_of c.check_family.new.work.bank.now) c.in_ok-small.ensures.kept ∙ env_at c.args.work.now.bank.now c.check_family.new.work.bank.now c.in_ok-small.ensures.grows c.args.env.now (env_of c.args.work.now.bank.now c.args.env.now) c.requires.env refl) (family_of-grown c.args.work.now.bank.now c.check_family.new.work.bank.now c.in_ok-small.ensures.grows c.args.family c.requires.family.has) (c.add_family.ensures.answer k.0.found k.0.is))

pub returns-clause-env : goal.returns-clause-env
returns-clause-env g c =
    let k = c.in_ok-small.ensures.answer in
    env_after c.check_family.new.work.bank.now c.add_family.new.bank c.add_family.result c.check_family.new.env c.add_family.new.env _ c.add_family.ensures.grows (subst (IsEnv c.check_family.new.work.bank.now) (sym c.in_ok-small.ensures.kept) (IsEnv-grown c.args.work.now.bank.now c.check_family.new.work.bank.now c.in_ok-small.ensures.grows c.args.env.now c.requires.env)) (c.add_family.ensures.answer k.0.found k.0.is) c.add_family.ensures.kept
