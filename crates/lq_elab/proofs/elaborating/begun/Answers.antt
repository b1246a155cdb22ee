use Rattle.std.proofs.Common.{sym}
use Rattle.std.proofs.Common.{subst as along}
use Rattle.std.specs.Prelude.{option_map}
use Rattle.lq_terms.specs.Terms.{tree_of}
use Rattle.lq_terms.specs.Contexts.{context_of}
use Rattle.lq_solving.specs.Stores.{names_in}
use Rattle.lq_solving.specs.Kept.{OptionStands}
use Rattle.lq_evars.specs.Places.{store_of}
use Rattle.lq_elab.specs.Views.{asked_tree}
use Rattle.lq_elab.proofs.RunLaws.{state_first, ends_same, asked_is}
use Rattle.lq_elab.proofs.elaborating.begun.Goals as goal

pub run-requires : goal.run-requires
run-requires g c = record {
  state = state_first c.args.work.now.bank.now c.args.site.now c.args.store.now c.requires.store c.requires.kept c.requires.site c.args.context.now c.new-frames.result c.args.scope.now c.requires.context c.new-frames.ensures c.requires.scope;
  stands = (c.requires.wanted, along (λ z. OptionStands (store_of c.args.work.now.bank.now c.args.store.now) (names_in (context_of c.args.work.now.bank.now z)) (option_map (tree_of c.args.work.now.bank.now) c.args.wanted)) (sym c.requires.context) c.requires.wanted_stands);
}

pub returns-clause-ends : goal.returns-clause-ends
returns-clause-ends g c =
    ends_same c.run.new.work.bank.now c.args.site.now (store_of c.args.work.now.bank.now c.args.store.now) c.run.new.store c.run.result _ _ c.args.work.now.ticks.now.left c.run.new.work.ticks.now.left
    (asked_is c.args.work.now.bank.now c.args.site.now c.args.store.now c.args.context.now c.new-frames.result (asked_tree c.args.term) (option_map (tree_of c.args.work.now.bank.now) c.args.wanted) c.requires.context c.new-frames.ensures) c.run.ensures.ends
