use Rattle.std.proofs.Common.{sym, subst, arith}
use Rattle.lq_trees.specs.Ticks.{done, ComesTo}
use Rattle.lq_terms.specs.Terms.{HasName, text_of, tree_of}
use Rattle.lq_calculus.specs.Checking.{declare_constant}
use Rattle.lq_env.specs.Environments.{IsEnv, env_of}
use Rattle.lq_env.proofs.Grown.{IsClosed-grown}
use Rattle.lq_kernel.specs.Answers.{Declares}
use Rattle.lq_kernel.proofs.Goes.{err_out}
use Rattle.lq_kernel.proofs.Grown.{IsEnv-grown}
use Rattle.lq_kernel.proofs.Told.{own}
use Rattle.lq_kernel.proofs.ConstantLaws.{added_later}
use Rattle.lq_kernel.proofs.Lacking.{constant_lacks}
use Rattle.lq_kernel.proofs.constants.declare_constant.Goals as goal

pub returns-in_err-check_constant-clause-answer : goal.returns-in_err-check_constant-clause-answer
returns-in_err-check_constant-clause-answer g c =
    err_out (λ z. Declares c.check_constant.new.work.bank.now z c.args.env.now (λ n. declare_constant (env_of c.args.work.now.bank.now c.args.env.now) n (text_of c.args.work.now.bank.now c.args.name) (tree_of c.args.work.now.bank.now c.args.kind) (tree_of c.args.work.now.bank.now c.args.body) c.args.opaque) c.args.work.now.ticks.now.left c.check_constant.new.work.ticks.now.left) c.from_residual.result c.in_err-check_constant.field-0.0 c.from_residual.ensures.1
    (c.in_err-check_constant.ensures.answer c.args.opaque)

pub returns-in_err-check_constant-clause-env : goal.returns-in_err-check_constant-clause-env
returns-in_err-check_constant-clause-env g c = IsEnv-grown c.args.work.now.bank.now c.check_constant.new.work.bank.now c.in_err-check_constant.ensures.grows c.args.env.now c.requires.env

pub returns-in-Ok-clause-answer : goal.returns-in-Ok-clause-answer
returns-in-Ok-clause-answer g c =
    let old = c.args.work.now.bank.now in
    let bank = c.check_constant.new.work.bank.now in
    let gr = c.in_ok-check_constant.ensures.grows in
    let named : HasName bank c.args.name = omega (arith, c.requires.name, gr.names) in
    let closed = c.in_ok-check_constant.ensures.closed in
    subst (λ z. ComesTo (λ n. declare_constant (env_of c.args.work.now.bank.now c.args.env.now) n (text_of c.args.work.now.bank.now c.args.name) (tree_of c.args.work.now.bank.now c.args.kind) (tree_of c.args.work.now.bank.now c.args.body) c.args.opaque) c.args.work.now.ticks.now.left (done z c.check_constant.new.work.ticks.now.left))
    (sym (added_later old bank gr c.args.env.now c.add_constant.new.self c.args.name c.args.kind c.args.body c.args.opaque c.requires.env c.requires.name c.requires.kind.has c.requires.body.has c.in_ok-check_constant.ensures.new
    (c.in-Ok.ensures.told bank (IsEnv-grown old bank gr c.args.env.now c.requires.env) (own bank c.args.name c.names_apart.ensures named) (IsClosed-grown old bank gr 0 c.args.kind closed.0) (IsClosed-grown old bank gr 0 c.args.body closed.1))))
    (c.in_ok-check_constant.ensures.answer c.args.opaque)

pub returns-in-Ok-clause-env : goal.returns-in-Ok-clause-env
returns-in-Ok-clause-env g c =
    let old = c.args.work.now.bank.now in
    let bank = c.check_constant.new.work.bank.now in
    let gr = c.in_ok-check_constant.ensures.grows in
    let named : HasName bank c.args.name = omega (arith, c.requires.name, gr.names) in
    let closed = c.in_ok-check_constant.ensures.closed in
    (c.in-Ok.ensures.told bank (IsEnv-grown old bank gr c.args.env.now c.requires.env) (own bank c.args.name c.names_apart.ensures named) (IsClosed-grown old bank gr 0 c.args.kind closed.0) (IsClosed-grown old bank gr 0 c.args.body closed.1)).0

pub returns-in-Err-clause-env : goal.returns-in-Err-clause-env
returns-in-Err-clause-env g c =
    subst (IsEnv c.check_constant.new.work.bank.now) (sym c.in-Err.ensures.kept)
    (IsEnv-grown c.args.work.now.bank.now c.check_constant.new.work.bank.now c.in_ok-check_constant.ensures.grows c.args.env.now c.requires.env)

pub lacking-requires : goal.lacking-requires
lacking-requires g c =
    let old = c.args.work.now.bank.now in
    let bank = c.check_constant.new.work.bank.now in
    let gr = c.in_ok-check_constant.ensures.grows in
    let named : HasName bank c.args.name = omega (arith, c.requires.name, gr.names) in
    let closed = c.in_ok-check_constant.ensures.closed in
    constant_lacks old bank gr c.args.env.now c.add_constant.new.self c.args.name c.in-Err.fault c.requires.env c.requires.name c.in_ok-check_constant.ensures.new _ _ c.args.opaque
    (c.in-Err.ensures.told bank (IsEnv-grown old bank gr c.args.env.now c.requires.env) (own bank c.args.name c.names_apart.ensures named) (IsClosed-grown old bank gr 0 c.args.kind closed.0) (IsClosed-grown old bank gr 0 c.args.body closed.1))
