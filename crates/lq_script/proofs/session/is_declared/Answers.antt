use Rattle.std.proofs.Common.{◌∙◌}
use Rattle.std.specs.Option.{option_copied}
use Rattle.lq_script.proofs.Moving.{copied_some}
use Rattle.lq_script.proofs.Meanings.{is_own, looks_some}
use Rattle.lq_script.proofs.session.is_declared.Goals as goal

pub returns : goal.returns
returns c =
    c.is_some.ensures ∙ copied_some c.lookup.result
    ∙ looks_some c.args.bank.now (option_copied c.lookup.result) _ (c.lookup.ensures.told c.args.bank.now c.requires.env (is_own c.args.bank.now c.args.name c.requires.name c.text-text.ensures.apart))
