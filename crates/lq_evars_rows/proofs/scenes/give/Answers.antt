use Rattle.std.proofs.Common.{rules, ◌≡◌, ◌<◌, true, sym, subst, arith, length}
use Rattle.std.specs.Prelude.{is_none}
use Rattle.lq_solving.proofs.InstanceLaws.{length_map}
use Rattle.lq_evars.specs.Places.{variable_of}
use Rattle.lq_evars_rows.specs.Looks.{IsKept}
use Rattle.lq_evars_rows.proofs.Keeping.{IsKept-grown}
use Rattle.lq_evars_rows.proofs.Simple.{simple_value, no_value, apart}
use Rattle.lq_evars_rows.proofs.scenes.give.Goals as goal

pub assign-requires-clause-value : goal.assign-requires-clause-value
assign-requires-clause-value c =
    let bank = c.args.bank.now in
    let store = c.args.store.now in
    let inside : c.args.id < length store.variables = omega (arith, c.if-id-count.false, c.count.ensures.length) in
    let bare = c.is_bare.ensures c.if-not-is_bare.false in
    let none : is_none c.value.result ≡ true = search (rules, c.is_some.ensures, c.if-is_some.false) in
    let open_ : is_none c.value-else-is_some.result ≡ true = search (rules, c.is_some-else-is_some.ensures, c.if-is_some-2.false) in
    simple_value bank store c.args.id c.args.next c.args.body c.requires.kept c.requires.body
    (subst (λ m. c.args.id < m) (sym (length_map (variable_of bank) store.variables)) inside) bare.inside bare.bare
    (apart c.args.id c.args.next (search (rules, c.if-id-next.false)))
    (no_value bank store c.args.id c.value.result none (c.value.ensures.told bank c.requires.kept.kept))
    (no_value bank store c.args.next c.value-else-is_some.result open_ (c.value-else-is_some.ensures.told bank c.requires.kept.kept))

pub returns-in-Err-clause-kept : goal.returns-in-Err-clause-kept
returns-in-Err-clause-kept c = subst (IsKept c.assign.new.bank) (sym c.in-Err.ensures.kept) (IsKept-grown c.args.bank.now c.assign.new.bank c.args.store.now c.in-Err.ensures.grows c.requires.kept)
