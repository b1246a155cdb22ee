use Rattle.lq_terms.specs.Terms.{text_of}
use Rattle.lq_env.specs.Environments.{env_of}
use Rattle.lq_kernel.proofs.Leaves.{elim_none, elim_other, elim_inside}
use Rattle.lq_kernel.proofs.Told.{own}
use Rattle.lq_kernel.proofs.lookups.eliminator_type.Goals as goal

pub returns-in_default : goal.returns-in_default
returns-in_default c o G b = (c.requires.name, elim_none o (env_of c.args.bank.now c.args.env.now) G (text_of c.args.bank.now c.args.name) b c.args.sort (c.in_default.ensures.told c.args.bank.now c.requires.env (own c.args.bank.now c.args.name c.names_apart.ensures c.requires.name)))

pub returns-in-Family : goal.returns-in-Family
returns-in-Family c o G b = elim_inside o (env_of c.args.bank.now c.args.env.now) G (text_of c.args.bank.now c.args.name) b c.args.sort c.args.bank.now c.type_into.result (c.type_into.ensures b)

pub returns-in_default-entry : goal.returns-in_default-entry
returns-in_default-entry c o G b = (c.requires.name, elim_other o (env_of c.args.bank.now c.args.env.now) G (text_of c.args.bank.now c.args.name) b c.args.sort c.args.bank.now c.in-Some.entry.now (c.in-Some.ensures.told c.args.bank.now c.requires.env (own c.args.bank.now c.args.name c.names_apart.ensures c.requires.name)) c.in_default-entry.not-Family)
