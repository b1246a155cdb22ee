use Rattle.lq_terms.specs.Terms.{text_of}
use Rattle.lq_evars.proofs.Growing.{context_grown}
use Rattle.lq_prims.proofs.NameLaws.{fresh_is}
use Rattle.lq_prims.proofs.naming.fresh_beside.Goals as goal

pub name_under-requires-clause-context : goal.name_under-requires-clause-context
name_under-requires-clause-context c = (context_grown c.args.bank.now c.base_of.new.bank c.base_of.ensures.grows c.args.context.now c.requires.context).1

pub returns-clause-name : goal.returns-clause-name
returns-clause-name c =
    fresh_is c.args.bank.now c.base_of.new.bank c.name_under.new.bank c.base_of.ensures.grows c.args.context.now c.requires.context c.in_ok-base.base (text_of c.args.bank.now c.args.binder) c.in_ok-base.ensures.base.is
    c.name_under.result c.name_under.ensures.name
