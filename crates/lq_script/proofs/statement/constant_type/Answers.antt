use Rattle.lq_terms.specs.Terms.{text_of}
use Rattle.lq_env.specs.Environments.{env_of}
use Rattle.lq_script.proofs.Meanings.{is_own, global_missing, global_known, global_other}
use Rattle.lq_script.proofs.statement.constant_type.Goals as goal

pub returns-in_default : goal.returns-in_default
returns-in_default c =
    global_missing c.args.bank.now (env_of c.args.bank.now c.args.env.now) (text_of c.args.bank.now c.args.name)
    (c.in_default.ensures.told c.args.bank.now c.requires.env (is_own c.args.bank.now c.args.name c.requires.name c.text-text.ensures.apart))

pub returns-in-Constant : goal.returns-in-Constant
returns-in-Constant c =
    global_known c.args.bank.now (env_of c.args.bank.now c.args.env.now) (text_of c.args.bank.now c.args.name) c.in-Some.entry.now c.in-Constant.kind c.in-Constant.body c.in-Constant.opaque c.in-Constant.is
    (c.in-Some.ensures.told c.args.bank.now c.requires.env (is_own c.args.bank.now c.args.name c.requires.name c.text-text.ensures.apart))

pub returns-in_default-entry : goal.returns-in_default-entry
returns-in_default-entry c =
    global_other c.args.bank.now (env_of c.args.bank.now c.args.env.now) (text_of c.args.bank.now c.args.name) c.in-Some.entry.now c.in_default-entry.not-Constant
    (c.in-Some.ensures.told c.args.bank.now c.requires.env (is_own c.args.bank.now c.args.name c.requires.name c.text-text.ensures.apart))
