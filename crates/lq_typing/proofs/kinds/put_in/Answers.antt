use Rattle.lq_typing.proofs.PuttingLaws.{put_all_made}
use Rattle.lq_typing.proofs.kinds.put_in.Goals as goal

pub returns-clause-made : goal.returns-clause-made
returns-clause-made c =
    put_all_made c.args.bank.now c.name.new.self c.name_under.new.bank c.open.new.bank c.filled.new.bank c.name.ensures.grows c.name_under.ensures.grows c.open.ensures.grows c.args.context.now c.in_ok-base.base c.in_ok-name.name c.args.rest c.args.value
    c.in_ok-opened.opened c.requires.context c.few.ensures c.requires.rest c.requires.within c.requires.holds c.requires.value c.in_ok-name.ensures.name c.in_ok-opened.ensures.opened c.filled.result c.filled.ensures.made
