use Rattle.lq_stream_rows.proofs.asking.ask_all.Goals as goal

pub loop-digit-init : goal.loop-digit-init
loop-digit-init g c = c.in-Ok.ensures.ready c.args.machine.now tt
