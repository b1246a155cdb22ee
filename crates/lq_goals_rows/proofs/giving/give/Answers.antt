use Rattle.std.proofs.Common.{rules, ◌≡◌, ◌<◌, true, sym, subst, ap, arith, length, ◌∙◌}
use Rattle.std.specs.Prelude.{is_none, None}
use Rattle.lq_solving.specs.Stores.{find_value}
use Rattle.lq_solving.proofs.InstanceLaws.{length_map}
use Rattle.lq_solving.specs.Kept.{IsStore}
use Rattle.lq_evars.specs.Places.{store_of, variable_of}
use Rattle.lq_goals.specs.Held.{with_places}
use Rattle.lq_goals_rows.specs.Looks.{IsKept}
use Rattle.lq_goals_rows.proofs.Keeping.{IsKept-grown}
use Rattle.lq_goals_rows.proofs.Plain.{sort_value, no_value}
use Rattle.lq_goals_rows.proofs.giving.give.Goals as goal

pub assign-requires-clause-value : goal.assign-requires-clause-value
assign-requires-clause-value c =
    let bank = c.args.bank.now in
    let s = c.store_mut.result.now in
    let kept = subst (λ z. IsStore (store_of bank z)) (sym c.store_mut.ensures.value) c.requires.kept.kept in
    let inside : c.args.id < length s.variables = omega (arith, c.if-id-count.false, c.count.ensures.length, ap (λ z. length z.variables) c.store.ensures, ap (λ z. length z.variables) c.store_mut.ensures.value) in
    let none : is_none c.value.result ≡ true = search (rules, c.is_some.ensures, c.if-is_some.false) in
    sort_value bank s c.args.id c.args.sort kept c.requires.sort
    (omega (arith, inside, length_map (variable_of bank) s.variables))
    (subst (λ z. find_value (store_of bank z).values c.args.id ≡ None) (c.store-else-id-count.ensures ∙ sym c.store_mut.ensures.value)
    (no_value bank c.store-else-id-count.result.now c.args.id c.value.result none (c.value.ensures.told bank (subst (λ z. IsStore (store_of bank z)) (sym c.store-else-id-count.ensures) c.requires.kept.kept))))

pub returns-in-Err-clause-kept : goal.returns-in-Err-clause-kept
returns-in-Err-clause-kept c =
    subst (λ z. IsKept c.assign.new.bank (with_places c.args.proof.now z)) (sym (c.in-Err.ensures.kept ∙ c.store_mut.ensures.value))
    (IsKept-grown c.args.bank.now c.assign.new.bank c.args.proof.now c.in-Err.ensures.grows c.requires.kept)
