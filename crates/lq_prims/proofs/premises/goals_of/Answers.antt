use Rattle.std.proofs.Common.{◌<◌, ◌∙◌, sym, ap, ap₂, length}
use Rattle.std.proofs.Common.{subst as along}
use Rattle.std.specs.List.{AllByRecursion}
use Rattle.lq_trees.specs.Ticks.{gives}
use Rattle.lq_evars.specs.Places.{store_of}
use Rattle.lq_tactics.specs.Applying.{determined}
use Rattle.lq_prims.specs.Opening.{opening_of}
use Rattle.lq_prims.specs.Working.{Refuses}
use Rattle.lq_prims.proofs.PremiseLaws.{open_but, open_inside, goals_given, goals_refused}
use Rattle.lq_prims.proofs.premises.goals_of.Goals as goal

pub returns-in-Ok-open_without-clause-answer : goal.returns-in-Ok-open_without-clause-answer
returns-in-Ok-open_without-clause-answer c s e =
    let bank = c.args.bank.now in
    let p = c.args.opening.now in
    let o = opening_of bank p in
    let S = store_of bank p.store in
    goals_given c.args.strict s o (sym (ap (determined c.args.strict S o) (c.as_slice.ensures.value ∙ c.in-Ok.ensures.is s e)) ∙ c.in-Ok-determined.ensures.answer)
    ∙ ap gives (sym (c.in-Ok-open_without.ensures bank c.requires.opening.place.kept
    ∙ ap₂ (λ but ks. open_but S but ks) (c.as_slice-in-Ok-determined-2.ensures.value ∙ c.in-Ok.ensures.is s e) c.as_slice-in-Ok-determined.ensures.value))

pub returns-in-Ok-open_without-clause-inside : goal.returns-in-Ok-open_without-clause-inside
returns-in-Ok-open_without-clause-inside c =
    let bank = c.args.bank.now in
    let p = c.args.opening.now in
    let S = store_of bank p.store in
    along (AllByRecursion (λ k. k < length p.store.variables)) (sym (c.in-Ok-open_without.ensures bank c.requires.opening.place.kept))
    (open_inside (λ k. k < length p.store.variables) S c.as_slice-in-Ok-determined-2.result.now c.as_slice-in-Ok-determined.result.now
    (along (AllByRecursion (λ k. k < length p.store.variables)) (sym c.as_slice-in-Ok-determined.ensures.value) c.requires.opening.premises))

pub returns-clause-answer : goal.returns-clause-answer
returns-clause-answer c s e b =
    let bank = c.args.bank.now in
    let o = opening_of bank c.args.opening.now in
    goals_refused c.determined.new.bank c.in-Err-determined.fault c.args.strict s o b
    (along (λ js. Refuses c.determined.new.bank c.in-Err-determined.fault (λ n. determined c.args.strict o.store o js) b b) (c.as_slice.ensures.value ∙ c.in-Ok.ensures.is s e) (c.in-Err-determined.ensures.answer b))
