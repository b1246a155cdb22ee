use Rattle.std.proofs.Common.{rules, sym, subst, IsTrue}
use Rattle.lq_evars.specs.Places.{HasStore, store_of}
use Rattle.lq_solving.specs.Kept.{IsStore}
use Rattle.lq_goals_rows.proofs.Keeping.{IsKept-grown}
use Rattle.lq_goals_rows.proofs.Rising.{one_distinct}
use Rattle.lq_goals_rows.proofs.views.hidden.Goals as goal

pub viewed-requires-clause-listed : goal.viewed-requires-clause-listed
viewed-requires-clause-listed c =
    let plain : IsTrue c.is_plain.result = search (rules, c.if-not-is_plain.false) in
    c.in_ok-shelve.ensures.listed c.args.bank.now (c.is_plain.ensures c.args.bank.now plain) (one_distinct _)

pub returns-clause-kept : goal.returns-clause-kept
returns-clause-kept c =
    IsKept-grown c.args.bank.now c.viewed.new.bank c.shelve.new.self c.viewed.ensures (record {
      has = subst (HasStore c.args.bank.now) (sym c.in_ok-shelve.ensures.store) c.requires.has;
      kept = subst (λ s. IsStore (store_of c.args.bank.now s)) (sym c.in_ok-shelve.ensures.store) c.requires.kept;
    })
