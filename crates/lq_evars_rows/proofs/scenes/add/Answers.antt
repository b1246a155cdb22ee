use Rattle.std.proofs.Common.{refl, sym, subst, None}
use Rattle.lq_evars.specs.declared.store.Variable.{Variable}
use Rattle.lq_evars.specs.Places.{HasStore}
use Rattle.lq_evars_rows.proofs.Simple.{plain_variable, plain_has}
use Rattle.lq_evars_rows.proofs.scenes.add.Goals as goal

pub returns-in-Ok : goal.returns-in-Ok
returns-in-Ok c =
    let v : Variable = record { context = c.new-context.result; kind = c.args.sort; name = None } in
    record {
      has = subst (HasStore c.args.bank.now) (sym c.in-Ok.ensures.added) (plain_has c.args.bank.now c.args.store.now v c.requires.kept c.new-context.ensures c.requires.sort refl);
      kept = c.in-Ok.ensures.stands c.args.bank.now c.requires.kept.has c.requires.kept.kept (plain_variable c.args.bank.now c.args.store.now v c.requires.kept c.new-context.ensures c.requires.sort) tt;
    }
