use Rattle.std.proofs.Common.{refl, sym, subst, None}
use Rattle.lq_solving.specs.Kept.{IsStore}
use Rattle.lq_evars.specs.declared.store.Variable.{Variable}
use Rattle.lq_evars.specs.Places.{HasStore, store_of}
use Rattle.lq_goals_rows.proofs.Plain.{plain_variable, plain_has}
use Rattle.lq_goals_rows.proofs.giving.make.Goals as goal

pub returns-in-Ok : goal.returns-in-Ok
returns-in-Ok c =
    let v : Variable = record { context = c.new-context.result; kind = c.args.sort; name = None } in
    let s = c.store_mut.result.now in
    let has = subst (HasStore c.args.bank.now) (sym c.store_mut.ensures.value) c.requires.kept.has in
    let kept = subst (λ z. IsStore (store_of c.args.bank.now z)) (sym c.store_mut.ensures.value) c.requires.kept.kept in
    record {
      has = subst (HasStore c.args.bank.now) (sym c.in-Ok.ensures.added) (plain_has c.args.bank.now s v has c.new-context.ensures c.requires.sort refl);
      kept = c.in-Ok.ensures.stands c.args.bank.now has kept (plain_variable c.args.bank.now s v kept c.new-context.ensures c.requires.sort) tt;
    }
