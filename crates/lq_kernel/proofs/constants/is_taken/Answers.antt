use Rattle.std.proofs.Common.{◌∙◌, sym}
use Rattle.std.specs.Option.{option_copied}
use Rattle.lq_terms.specs.Terms.{text_of}
use Rattle.lq_env.specs.Environments.{env_of}
use Rattle.lq_kernel.proofs.Told.{own}
use Rattle.lq_kernel.proofs.ConstantLaws.{looks_listed, copied_some}
use Rattle.lq_kernel.proofs.constants.is_taken.Goals as goal

pub returns : goal.returns
returns c =
    c.is_some.ensures ∙ sym (copied_some c.lookup.result)
    ∙ looks_listed c.args.bank.now (option_copied c.lookup.result) (env_of c.args.bank.now c.args.env.now) (text_of c.args.bank.now c.args.name)
    (c.lookup.ensures.told c.args.bank.now c.requires.env (own c.args.bank.now c.args.name c.names_apart.ensures c.requires.name))
