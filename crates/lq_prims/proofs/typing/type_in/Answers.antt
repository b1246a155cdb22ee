use Rattle.std.proofs.Common.{ℕ, sym}
use Rattle.std.proofs.Common.{subst as along}
use Rattle.lq_trees.specs.Tree.{Tree}
use Rattle.lq_terms.specs.Contexts.{context_of}
use Rattle.lq_terms.specs.Terms.{tree_of}
use Rattle.lq_env.specs.Environments.{env_of}
use Rattle.lq_solving.specs.ElabFaults.{Elab, type_of}
use Rattle.lq_evars.specs.Places.{store_of}
use Rattle.lq_tactics.specs.Rows.{elab_work}
use Rattle.lq_prims.specs.Working.{Refuses}
use Rattle.lq_prims.proofs.ElabWorks.{elab_found, elab_refused}
use Rattle.lq_prims.proofs.typing.type_in.Goals as goal

pub returns-in-Ok-clause-answer : goal.returns-in-Ok-clause-answer
returns-in-Ok-clause-answer g c =
    let bank = c.args.work.now.bank.now in
    let f : ℕ → Elab Tree = λ n. type_of (env_of bank c.args.env.now) n (store_of bank c.args.store.now) (context_of bank c.args.context.now) (tree_of bank c.args.term) in
    elab_found f c.args.work.now.ticks.now.left c.type_of.new.work.ticks.now.left (tree_of c.type_of.new.work.bank.now c.in-Ok.kind) c.in-Ok.ensures.answer.1

pub returns-in-Err-clause-answer : goal.returns-in-Err-clause-answer
returns-in-Err-clause-answer g c =
    let bank = c.args.work.now.bank.now in
    let new = c.type_of.new.work.bank.now in
    let f : ℕ → Elab Tree = λ n. type_of (env_of bank c.args.env.now) n (store_of bank c.args.store.now) (context_of bank c.args.context.now) (tree_of bank c.args.term) in
    let b = c.args.work.now.ticks.now.left in
    let left = c.type_of.new.work.ticks.now.left in
    along (λ z. Refuses new z (λ n. elab_work (f n)) b left) (sym c.from.ensures) (elab_refused new c.in-Err.fault f b left c.in-Err.ensures.answer)
