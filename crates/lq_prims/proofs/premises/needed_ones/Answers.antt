use Rattle.std.proofs.Common.{◌<◌, ◌∙◌, length}
use Rattle.std.proofs.Common.{subst as along}
use Rattle.std.specs.List.{AllByRecursion}
use Rattle.lq_solving.proofs.InstanceLaws.{length_map}
use Rattle.lq_evars.specs.Places.{store_of, variable_of}
use Rattle.lq_prims.specs.Opening.{opening_of}
use Rattle.lq_prims.proofs.PremiseLaws.{dependent_inside, made_all}
use Rattle.lq_prims.proofs.premises.needed_ones.Goals as goal

pub returns-clause-inside : goal.returns-clause-inside
returns-clause-inside c =
    let bank = c.args.bank.now in
    let o = c.args.opening.now in
    let s = store_of bank o.store in
    let same = length_map (variable_of bank) o.store.variables in
    dependent_inside (λ k. k < length o.store.variables) s (opening_of bank o) c.as_slice.result.now c.dependent_in.result
    (along (λ n. AllByRecursion (λ k. k < n) c.as_slice.result.now) same
    (made_all s c.args.before c.as_slice.result.now (λ z e. c.as_slice.ensures.value ∙ c.in_ok-made.ensures bank c.requires.opening.place.kept z e))) c.dependent_in.ensures
