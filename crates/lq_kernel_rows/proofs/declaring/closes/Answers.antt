use Rattle.lq_kernel_rows.proofs.declaring.closes.Goals as goal

pub close_family-requires : goal.close_family-requires
close_family-requires c = record { before = c.args.env.now; name = c.args.name; kind = c.args.arity; is = c.in-Ok.ensures.added }
