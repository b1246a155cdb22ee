use Rattle.std.proofs.Common.{◌∙◌, sym}
use Rattle.lq_terms.proofs.FreshNames.{base_free, number_free}
use Rattle.lq_terms.proofs.fresh.fresh_name.Goals as goal

pub returns-then-not-is_taken-clause-name : goal.returns-then-not-is_taken-clause-name
returns-then-not-is_taken-clause-name c =
    base_free c.args.bank.now c.args.taken.now c.args.base c.requires.base (sym c.is_taken.ensures ∙ c.if-not-is_taken.true)

pub returns-clause-name : goal.returns-clause-name
returns-clause-name c =
    number_free c.args.bank.now c.numbered.new.bank c.args.taken.now c.args.base c.in_ok-number.number c.numbered.result (sym c.is_taken.ensures ∙ c.if-not-is_taken.false) c.in_ok-number.ensures c.numbered.ensures.name
