use Rattle.std.proofs.Common.{refl, ap₂, subst, arith, Ok}
use Rattle.lq_terms.specs.Terms.{text_of, tree_of}
use Rattle.lq_calculus.specs.Declarations.{names_of}
use Rattle.lq_env.specs.Environments.{Adds, env_of, with_arity}
use Rattle.lq_env.specs.Families.{family_of}
use Rattle.lq_env.proofs.Families.{family_of-grown}
use Rattle.lq_kernel.proofs.Grown.{IsEnv-grown, env_at}
use Rattle.lq_kernel.proofs.Told.{own}
use Rattle.lq_kernel.proofs.OfferedLaws.{IsOffered-grown}
use Rattle.lq_kernel.proofs.FamilyWork.{inside_finds, opened_env, family_new}
use Rattle.lq_kernel.proofs.Lacking.{arity_lacks}
use Rattle.lq_kernel.proofs.declaring.check_inside.Goals as goal

pub check_constructors-small-requires-clause-family : goal.check_constructors-small-requires-clause-family
check_constructors-small-requires-clause-family g c = IsOffered-grown c.args.work.now.bank.now c.family_arity.new.bank c.in_ok-arity.ensures.grows c.args.family.now c.requires.offered

pub check_constructors-small-requires-clause-env : goal.check_constructors-small-requires-clause-env
check_constructors-small-requires-clause-env g c = (c.in-Ok.ensures.told c.family_arity.new.bank (IsEnv-grown c.args.work.now.bank.now c.family_arity.new.bank c.in_ok-arity.ensures.grows c.args.env.now c.requires.env) (own c.family_arity.new.bank c.args.family.now.name c.names_apart.ensures (omega (arith, c.requires.offered.has.name, c.in_ok-arity.ensures.grows.names))) c.in_ok-arity.ensures.closed).0

pub returns-in-Ok-clause-answer : goal.returns-in-Ok-clause-answer
returns-in-Ok-clause-answer g c =
    inside_finds (env_of c.args.work.now.bank.now c.args.env.now) (family_of c.args.work.now.bank.now c.args.family.now) c.check_constructors-small.new.work.bank.now c.check_constructors-small.result (env_of c.family_arity.new.bank c.open_family.new.self) (family_of c.family_arity.new.bank c.args.family.now) (tree_of c.family_arity.new.bank c.in_ok-arity.arity) c.args.work.now.ticks.now.left c.check_constructors-small.new.work.ticks.now.left
    (opened_env c.family_arity.new.bank c.open_family.new.self (env_of c.args.work.now.bank.now c.args.env.now) (text_of c.args.work.now.bank.now c.args.family.now.name) (tree_of c.family_arity.new.bank c.in_ok-arity.arity) (family_new (names_of (env_of c.args.work.now.bank.now c.args.env.now)) (family_of c.args.work.now.bank.now c.args.family.now) c.requires.new)
    (subst (Adds c.family_arity.new.bank (Ok tt) c.open_family.new.self) (ap₂ (λ D y. with_arity D y (tree_of c.family_arity.new.bank c.in_ok-arity.arity)) (env_at c.args.work.now.bank.now c.family_arity.new.bank c.in_ok-arity.ensures.grows c.args.env.now (env_of c.args.work.now.bank.now c.args.env.now) c.requires.env refl) (c.in_ok-arity.ensures.grows.text c.args.family.now.name c.requires.offered.has.name)) (c.in-Ok.ensures.told c.family_arity.new.bank (IsEnv-grown c.args.work.now.bank.now c.family_arity.new.bank c.in_ok-arity.ensures.grows c.args.env.now c.requires.env) (own c.family_arity.new.bank c.args.family.now.name c.names_apart.ensures (omega (arith, c.requires.offered.has.name, c.in_ok-arity.ensures.grows.names))) c.in_ok-arity.ensures.closed)))
    (family_of-grown c.args.work.now.bank.now c.family_arity.new.bank c.in_ok-arity.ensures.grows c.args.family.now c.requires.offered.has) c.in_ok-arity.ensures.alike c.check_constructors-small.ensures.answer

pub lacking-requires : goal.lacking-requires
lacking-requires g c =
    arity_lacks c.args.work.now.bank.now c.family_arity.new.bank c.in_ok-arity.ensures.grows c.args.env.now c.open_family.new.self c.args.family.now.name c.in-Err.fault c.requires.env c.requires.offered.has.name (family_new (names_of (env_of c.args.work.now.bank.now c.args.env.now)) (family_of c.args.work.now.bank.now c.args.family.now) c.requires.new) _
    (c.in-Err.ensures.told c.family_arity.new.bank (IsEnv-grown c.args.work.now.bank.now c.family_arity.new.bank c.in_ok-arity.ensures.grows c.args.env.now c.requires.env) (own c.family_arity.new.bank c.args.family.now.name c.names_apart.ensures (omega (arith, c.requires.offered.has.name, c.in_ok-arity.ensures.grows.names))) c.in_ok-arity.ensures.closed)
