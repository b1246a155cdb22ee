use Rattle.lq_terms.specs.Terms.{text_of}
use Rattle.lq_env.specs.Environments.{env_of}
use Rattle.lq_kernel.proofs.Leaves.{const_none, const_other, const_found}
use Rattle.lq_kernel.proofs.Told.{own}
use Rattle.lq_kernel.proofs.lookups.constant_type.Goals as goal

pub returns-in_default : goal.returns-in_default
returns-in_default c o G b = (c.requires.name, const_none o (env_of c.args.bank.now c.args.env.now) G (text_of c.args.bank.now c.args.name) b (c.in_default.ensures.told c.args.bank.now c.requires.env (own c.args.bank.now c.args.name c.names_apart.ensures c.requires.name)))

pub returns-in-Constant : goal.returns-in-Constant
returns-in-Constant c o G b =
    const_found o (env_of c.args.bank.now c.args.env.now) G (text_of c.args.bank.now c.args.name) b c.args.bank.now c.in-Some.entry.now c.in-Constant.kind c.in-Constant.body c.in-Constant.opaque c.within_limits.result c.in-Constant.is (c.in-Some.ensures.told c.args.bank.now c.requires.env (own c.args.bank.now c.args.name c.names_apart.ensures c.requires.name)) c.within_limits.ensures

pub returns-in_default-entry : goal.returns-in_default-entry
returns-in_default-entry c o G b = (c.requires.name, const_other o (env_of c.args.bank.now c.args.env.now) G (text_of c.args.bank.now c.args.name) b c.args.bank.now c.in-Some.entry.now (c.in-Some.ensures.told c.args.bank.now c.requires.env (own c.args.bank.now c.args.name c.names_apart.ensures c.requires.name)) c.in_default-entry.not-Constant)
