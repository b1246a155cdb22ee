use Rattle.std.proofs.Common.{refl, sym, [], Ok, append-nil}
use Rattle.std.proofs.Common.{subst as along}
use Rattle.std.specs.Prelude.{option_map}
use Rattle.lq_terms.specs.Terms.{tree_of}
use Rattle.lq_evars.specs.Places.{store_of}
use Rattle.lq_solving.specs.Elaboration.{elaborate_call}
use Rattle.lq_typing.specs.Refusals.{Refuses}
use Rattle.lq_elab.specs.Calls.{site_at, Elaborates}
use Rattle.lq_elab.proofs.elaborating.elaborate.Goals as goal

pub with_numbers-requires : goal.with_numbers-requires
with_numbers-requires g c = record {
  site = record {
    env = c.requires.env;
    plain = c.requires.plain;
    outer = c.requires.context;
    hypotheses = c.requires.hypotheses;
    values = c.requires.values;
    stand = c.requires.values_stand;
  };
  store = c.requires.store;
  kept = c.requires.kept;
  wanted = c.requires.wanted;
  wanted_stands = c.requires.wanted_stands;
}

pub returns-in-Ok-clause-answer : goal.returns-in-Ok-clause-answer
returns-in-Ok-clause-answer g c =
    along (λ z. Elaborates c.with_numbers.new.work.bank.now c.with_numbers.new.store (Ok c.in-Ok.elaborated) (λ n. elaborate_call (site_at c.args.work.now.bank.now c.args.env.now c.args.context.now c.args.values.now n) (store_of c.args.work.now.bank.now c.args.store.now)
    z (option_map (tree_of c.args.work.now.bank.now) c.args.wanted)) c.args.work.now.ticks.now.left c.with_numbers.new.work.ticks.now.left) c.asked_of.ensures c.in-Ok.ensures.answer

pub returns-in-Err-clause-answer : goal.returns-in-Err-clause-answer
returns-in-Err-clause-answer g c =
    along (λ z. Refuses c.with_numbers.new.work.bank.now c.in-Err.fault (λ n. elaborate_call (site_at c.args.work.now.bank.now c.args.env.now c.args.context.now c.args.values.now n) (store_of c.args.work.now.bank.now c.args.store.now)
    z (option_map (tree_of c.args.work.now.bank.now) c.args.wanted)) c.args.work.now.ticks.now.left c.with_numbers.new.work.ticks.now.left) c.asked_of.ensures c.in-Err.ensures.answer

pub returns-in-Err-clause-back : goal.returns-in-Err-clause-back
returns-in-Err-clause-back g c =
    c.restore.ensures c.args.store.now (c.in-Err.ensures.since c.args.store.now (record { variables = refl; more = []; values = sym (append-nil c.args.store.now.values) })) c.given-given.ensures
