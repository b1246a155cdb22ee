use Rattle.std.proofs.Common.{[], ◌≡◌}
use Rattle.std.proofs.Common.{subst as along}
use Rattle.std.specs.Prelude.{IfOk}
use Rattle.lq_evars.specs.Places.{store_of}
use Rattle.lq_evars.specs.Closures.{same_pair}
use Rattle.lq_evars.proofs.Comparings.{compared_reads}
use Rattle.lq_evars.proofs.comparing.reads_alike.Goals as goal

pub returns : goal.returns
returns c =
    compared_reads c.args.bank.now (store_of c.args.bank.now c.args.store.now) c.args.left c.args.right c.run.result
    (along (λ p. IfOk c.run.result (λ b. b ≡ same_pair c.args.bank.now (store_of c.args.bank.now c.args.store.now) [] p)) c.first.ensures c.run.ensures)
