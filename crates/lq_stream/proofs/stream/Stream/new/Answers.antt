use Rattle.lq_stream.proofs.Asked.{ready_new}
use Rattle.lq_stream.proofs.stream.Stream.new.Goals as goal

pub returns-clause-ready : goal.returns-clause-ready
returns-clause-ready g c =
    λ m h. ready_new (g.M.Machine.known m) (g.M.Machine.told m) c.args.code c.new.result.items c.new-2.result.items c.new-3.result.items h c.new.ensures.items c.new-2.ensures.items c.new-3.ensures.items
