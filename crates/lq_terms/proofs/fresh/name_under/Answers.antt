use Rattle.std.proofs.Common.{◌∙◌}
use Rattle.lq_terms.proofs.FreshNames.{name_ends_in, has_names_in}
use Rattle.lq_terms.proofs.fresh.name_under.Goals as goal

pub fresh_name-requires-clause-taken : goal.fresh_name-requires-clause-taken
fresh_name-requires-clause-taken c =
    has_names_in c.args.bank.now c.base_of.new.bank c.args.context.now _ c.in_ok-base.ensures.grows c.requires.context (c.as_slice.ensures.value ∙ c.in_ok-taken.ensures)

pub returns-clause-name : goal.returns-clause-name
returns-clause-name c =
    name_ends_in c.args.bank.now c.base_of.new.bank c.fresh_name.new.bank c.args.context.now c.as_slice.result.now c.args.binder c.in_ok-base.base c.fresh_name.result c.requires.context c.in_ok-base.ensures.grows c.in_ok-base.ensures.base
    (c.as_slice.ensures.value ∙ c.in_ok-taken.ensures) c.fresh_name.ensures.name
