use Rattle.std.proofs.Common.{◌∙◌, sym, ap, arith, length}
use Rattle.std.specs.Prelude.{◌==◌}
use Rattle.lq_solving.proofs.InstanceLaws.{length_map}
use Rattle.lq_evars.specs.Places.{store_of, variable_of}
use Rattle.lq_prims.proofs.TermLaws.{so_many, made_few, nothing_left, something_left}
use Rattle.lq_prims.proofs.making.refuse_open.Goals as goal

pub returns-then-is_empty : goal.returns-then-is_empty
returns-then-is_empty c s e =
    nothing_left s (store_of c.args.bank.now c.args.store.now) c.in-Ok.open.items (c.in-Ok.ensures c.args.bank.now c.requires.kept s e) (ap (λ ts. length ts == 0) (sym c.as_slice-left.ensures.value) ∙ sym c.is_empty.ensures ∙ c.if-is_empty.true)

pub count_of-requires : goal.count_of-requires
count_of-requires c =
    let bank = c.args.bank.now in
    let s1 = store_of bank c.args.store.now in
    let many = length_map (variable_of bank) c.args.store.now.variables in
    let s = so_many s1 c.args.before (omega (arith, c.requires.before, many)) in
    omega (arith, many, ap length c.as_slice-left.ensures.value, made_few s.0 s1 c.in-Ok.open.items (c.in-Ok.ensures bank c.requires.kept s.0 s.1))

pub returns-in-Ok : goal.returns-in-Ok
returns-in-Ok c s e b =
    something_left c.args.bank.now s (store_of c.args.bank.now c.args.store.now) c.in-Ok.open.items c.count_of.result (c.in-Ok.ensures c.args.bank.now c.requires.kept s e) (ap (λ ts. length ts == 0) (sym c.as_slice-left.ensures.value) ∙ sym c.is_empty.ensures ∙ c.if-is_empty.false)
    (c.count_of.ensures ∙ ap length c.as_slice-left.ensures.value) b
