use Rattle.std.proofs.Common.{◌<◌, ◌∙◌, sym, arith, length}
use Rattle.std.proofs.Common.{subst as along}
use Rattle.std.specs.List.{AllByRecursion}
use Rattle.lq_solving.specs.Stores.{count}
use Rattle.lq_solving.proofs.InstanceLaws.{length_map}
use Rattle.lq_evars.specs.Places.{store_of, variable_of}
use Rattle.lq_prims.proofs.RefineLaws.{found_inside, free_inside}
use Rattle.lq_prims.proofs.refining.free_goals.Goals as goal

pub independent-requires-clause-variables : goal.independent-requires-clause-variables
independent-requires-clause-variables c =
    let same = length_map (variable_of c.args.bank.now) c.args.store.now.variables in
    along (λ n. AllByRecursion (λ k. k < n) c.as_slice.result.now) same
    (along (AllByRecursion (λ k. k < count (store_of c.args.bank.now c.args.store.now))) (sym c.as_slice.ensures.value) (found_inside (store_of c.args.bank.now c.args.store.now) c.args.before (omega (arith, c.requires.before, same)) c.in_ok-made.made.items (c.in_ok-made.ensures c.args.bank.now c.requires.kept)))

pub returns-clause-inside : goal.returns-clause-inside
returns-clause-inside c =
    let same = length_map (variable_of c.args.bank.now) c.args.store.now.variables in
    free_inside (λ k. k < length c.args.store.now.variables) (store_of c.args.bank.now c.args.store.now) c.as_slice.result.now c.independent.result
    (along (λ n. AllByRecursion (λ k. k < n) c.as_slice.result.now) same
    (found_inside (store_of c.args.bank.now c.args.store.now) c.args.before (omega (arith, c.requires.before, same)) c.as_slice.result.now (λ s e. c.as_slice.ensures.value ∙ c.in_ok-made.ensures c.args.bank.now c.requires.kept s e))) c.independent.ensures
