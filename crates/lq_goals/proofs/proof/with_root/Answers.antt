use Rattle.std.proofs.Common.{◌∙◌, ap, None}
use Rattle.lq_terms.specs.Terms.{tree_of}
use Rattle.lq_terms.specs.Contexts.{context_of}
use Rattle.lq_evars.specs.Places.{store_of}
use Rattle.lq_goals.proofs.Exchanging.{root_store, first_made, alone_store}
use Rattle.lq_goals.proofs.proof.with_root.Goals as goal

pub memory_ended-requires : goal.memory_ended-requires
memory_ended-requires c =
    first_made c.in_ok-store.store c.in-Err.fault c.new_var.new.self (record { context = c.args.context; kind = c.args.kind; name = None })
    c.in_ok-store.ensures.variables c.in_ok-store.ensures.values c.in-Err.ensures.told

pub returns-in-Ok-clause-told : goal.returns-in-Ok-clause-told
returns-in-Ok-clause-told c bank =
    ap (store_of bank) c.in-Ok.ensures.added
    ∙ root_store bank c.in_ok-store.store (record { context = c.args.context; kind = c.args.kind; name = None }) c.in_ok-store.ensures.variables c.in_ok-store.ensures.values
    ∙ alone_store (context_of bank c.args.context) (tree_of bank c.args.kind)
