use Rattle.std.proofs.Common.{◌≡◌, ◌∙◌, ◌-◌, [], refl, sym, arith, length, suc, Some, None, Ok, Err}
use Rattle.std.proofs.Common.{subst as along}
use Rattle.std.specs.List.{AllByRecursion}
use Rattle.lq_trees.specs.Ticks.{done, ComesTo}
use Rattle.lq_terms.specs.Contexts.{context_of}
use Rattle.lq_terms.proofs.Growth.{Grows-refl, Grows-trans}
use Rattle.lq_env.specs.Environments.{env_of}
use Rattle.lq_env.proofs.Grown.{env_of-grown}
use Rattle.lq_tactics.specs.Applying.{most_premises}
use Rattle.lq_prims.specs.Making.{HasIn}
use Rattle.lq_prims.specs.Opening.{HasFurther, HasOpening, Carries, CarriesFurther, OneMore, Opens, open_work, opening_of, openings_of}
use Rattle.lq_prims.specs.Scenes.{scene_by}
use Rattle.lq_prims.specs.Working.{Does, Refuses}
use Rattle.lq_prims.proofs.MakingLaws.{same_context, term_grown}
use Rattle.lq_prims.proofs.OpenLaws.{all_behind, openings_then, openings_grown, opening_grown, carries_grown, opens_as, not_opened_has, one_less}
use Rattle.lq_prims.proofs.SceneLaws.{declared_grown}
use Rattle.lq_prims.proofs.opening.opened.Goals as goal

pub premises-init : goal.premises-init
premises-init g c = record {
  some = omega arith;
  room = omega arith;
  last = not_opened_has c.args.work.now.bank.now c.args.context.now c.args.store.now c.args.kind c.in-Ok.last c.requires.place c.requires.kind c.in-Ok.ensures.store c.in-Ok.ensures.rest c.in-Ok.ensures.names c.in-Ok.ensures.premises;
  all = along (AllByRecursion (HasOpening c.args.work.now.bank.now c.args.context.now)) (sym c.new-openings.ensures.items) tt;
  carried = λ t h. along (λ z. HasIn c.args.work.now.bank.now z c.args.context.now t) (sym c.in-Ok.ensures.store) h;
  carry = λ t h. along (AllByRecursion (Carries c.args.work.now.bank.now c.args.context.now t)) (sym c.new-openings.ensures.items) tt;
  leads = λ s k T t vs late ps q left d.
      let bank = c.args.work.now.bank.now in
      let E = env_of bank c.args.env.now in
      let G = context_of bank c.args.context.now in
      let b = c.args.work.now.ticks.now.left in
      along (λ z. Does late (λ u. ps) q (λ n. open_work (scene_by E s k G T vs n) most_premises z []) b left) (c.in-Ok.ensures.opening bank t)
      (along (λ os. Does late (λ u. ps) q (λ n. open_work (scene_by E s k G T vs n) most_premises (opening_of bank c.in-Ok.last) (openings_of bank os)) b left) c.new-openings.ensures.items d);
  same_bank = refl;
  same_ticks = refl;
  grows = Grows-refl c.args.work.now.bank.now;
  budget = refl;
  counted = refl;
}

pub opened_on-requires-clause-declared : goal.opened_on-requires-clause-declared
opened_on-requires-clause-declared g c = declared_grown c.args.work.now.bank.now c.premises.work.bank.now c.premises.invariant.grows c.args.env.now c.requires.declared

pub opened_on-requires-clause-last : goal.opened_on-requires-clause-last
opened_on-requires-clause-last g c = c.premises.invariant.last

pub premises-preserved : goal.premises-preserved
premises-preserved g c =
    let old = c.args.work.now.bank.now in
    let mid = c.premises.work.bank.now in
    let at = c.premises.invariant in
    let hs = c.args.context.now in
    let o = c.premises.last in
    let os = c.premises.openings.items in
    let E0 = env_of old c.args.env.now in
    let E = env_of mid c.args.env.now in
    let G0 = context_of old hs in
    let same = env_of-grown old mid at.grows c.args.env.now c.requires.declared.env in
    let here : context_of mid hs ≡ G0 = same_context old mid at.grows c.args.store.now hs c.requires.place in
    let b = c.premises.work.ticks.now.left in
    let new = c.opened_on.new.work.bank.now in
    let l = c.opened_on.new.work.ticks.now.left in
    let m = c.premises.more - 1 in
    let number = one_less c.premises.more at.some in
    let grows = c.in-Ok-Some.ensures.grows in
    let behind = c.in-Ok-Some.ensures.behind in
    let is = c.in-Ok-Some.field-0-is in
    let more = along (OneMore (length o.store.variables)) is c.in-Ok-Some.ensures.more in
    record {
      some = omega (arith, at.room, more.1);
      room = omega (arith, at.room, more.0, at.some);
      last = along (HasFurther new hs) is c.in-Ok-Some.ensures.has;
      all = all_behind (HasOpening new hs) os c.opened_on.new.openings.items o behind (openings_grown mid new grows hs os at.all).1 (opening_grown mid new grows hs o at.last);
      carried = λ t h. along (CarriesFurther new hs t) is (c.in-Ok-Some.ensures.later t (at.carried t h));
      carry = λ t h. all_behind (Carries new hs t) os c.opened_on.new.openings.items o behind (carries_grown mid new grows hs t os at.all (at.carry t h)) (term_grown mid new grows o.store hs at.last.place t (at.carried t h));
      leads = λ s k T t vs late ps q left d.
          at.leads s k T t vs late ps q left
          (along (λ z. Does late (λ u. ps) q (λ n. open_work (scene_by E0 s k G0 T vs n) z (opening_of mid o) (openings_of mid os)) b left) number
          ((opens_as new (Ok (Some c.in-Ok-Some.next)) E E0 s k (context_of mid hs) G0 T vs (opening_of mid o) b l same here (along (λ z. Opens new (Ok z) (λ n. scene_by E s k (context_of mid hs) T vs n) (opening_of mid o) b l) is (c.in-Ok-Some.ensures.answer s k T vs))) m (openings_of mid os) ps late q left
          (along (λ z. Does late (λ u. ps) q (λ n. open_work (scene_by E0 s k G0 T vs n) m (opening_of new c.in-Ok-Some.next) z) l left) (openings_then mid new grows hs os c.opened_on.new.openings.items o behind at.all at.last) d)));
      same_bank = c.in-Ok-Some.ensures.same_bank ∙ at.same_bank;
      same_ticks = c.in-Ok-Some.ensures.same_ticks ∙ at.same_ticks;
      grows = Grows-trans old mid new at.grows grows;
      budget = c.in-Ok-Some.ensures.budget ∙ at.budget;
      counted = omega (arith, c.in-Ok-Some.ensures.counted, at.counted, c.in-Ok-Some.ensures.budget, at.budget);
    }

pub returns-in-Ok-None-clause-answer : goal.returns-in-Ok-None-clause-answer
returns-in-Ok-None-clause-answer g c s k T t vs =
    let old = c.args.work.now.bank.now in
    let mid = c.premises.work.bank.now in
    let at = c.premises.invariant in
    let hs = c.args.context.now in
    let o = c.premises.last in
    let os = c.premises.openings.items in
    let E0 = env_of old c.args.env.now in
    let E = env_of mid c.args.env.now in
    let G0 = context_of old hs in
    let same = env_of-grown old mid at.grows c.args.env.now c.requires.declared.env in
    let here : context_of mid hs ≡ G0 = same_context old mid at.grows c.args.store.now hs c.requires.place in
    let b = c.premises.work.ticks.now.left in
    let new = c.opened_on.new.work.bank.now in
    let l = c.opened_on.new.work.ticks.now.left in
    let m = c.premises.more - 1 in
    let number = one_less c.premises.more at.some in
    let items = c.opened_on.new.openings.items in
    at.leads s k T t vs new (openings_of new items) (Ok tt) l
    (along (λ z. ComesTo (λ n. open_work (scene_by E0 s k G0 T vs n) z (opening_of mid o) (openings_of mid os)) b (done (openings_of new items) l)) number
    (along (λ z. ComesTo (λ n. open_work (scene_by E0 s k G0 T vs n) (suc m) (opening_of mid o) (openings_of mid os)) b (done z l)) (sym (openings_then mid new c.in-Ok-None.ensures.grows hs os items o c.in-Ok-None.ensures.behind at.all at.last))
    ((opens_as new (Ok None) E E0 s k (context_of mid hs) G0 T vs (opening_of mid o) b l same here (along (λ z. Opens new (Ok z) (λ n. scene_by E s k (context_of mid hs) T vs n) (opening_of mid o) b l) c.in-Ok-None.field-0-is (c.in-Ok-None.ensures.answer s k T vs))) m (openings_of mid os))))

pub returns-in-Ok-None-clause-has : goal.returns-in-Ok-None-clause-has
returns-in-Ok-None-clause-has g c =
    let old = c.args.work.now.bank.now in
    let mid = c.premises.work.bank.now in
    let at = c.premises.invariant in
    let hs = c.args.context.now in
    let o = c.premises.last in
    let os = c.premises.openings.items in
    let E0 = env_of old c.args.env.now in
    let E = env_of mid c.args.env.now in
    let G0 = context_of old hs in
    let same = env_of-grown old mid at.grows c.args.env.now c.requires.declared.env in
    let here : context_of mid hs ≡ G0 = same_context old mid at.grows c.args.store.now hs c.requires.place in
    let b = c.premises.work.ticks.now.left in
    let new = c.opened_on.new.work.bank.now in
    let l = c.opened_on.new.work.ticks.now.left in
    let m = c.premises.more - 1 in
    let number = one_less c.premises.more at.some in
    all_behind (HasOpening new hs) os c.opened_on.new.openings.items o c.in-Ok-None.ensures.behind (openings_grown mid new c.in-Ok-None.ensures.grows hs os at.all).1 (opening_grown mid new c.in-Ok-None.ensures.grows hs o at.last)

pub returns-in-Ok-None-clause-later : goal.returns-in-Ok-None-clause-later
returns-in-Ok-None-clause-later g c t h =
    let old = c.args.work.now.bank.now in
    let mid = c.premises.work.bank.now in
    let at = c.premises.invariant in
    let hs = c.args.context.now in
    let o = c.premises.last in
    let os = c.premises.openings.items in
    let E0 = env_of old c.args.env.now in
    let E = env_of mid c.args.env.now in
    let G0 = context_of old hs in
    let same = env_of-grown old mid at.grows c.args.env.now c.requires.declared.env in
    let here : context_of mid hs ≡ G0 = same_context old mid at.grows c.args.store.now hs c.requires.place in
    let b = c.premises.work.ticks.now.left in
    let new = c.opened_on.new.work.bank.now in
    let l = c.opened_on.new.work.ticks.now.left in
    let m = c.premises.more - 1 in
    let number = one_less c.premises.more at.some in
    all_behind (Carries new hs t) os c.opened_on.new.openings.items o c.in-Ok-None.ensures.behind (carries_grown mid new c.in-Ok-None.ensures.grows hs t os at.all (at.carry t h))
    (term_grown mid new c.in-Ok-None.ensures.grows o.store hs at.last.place t (at.carried t h))

pub returns-in-Ok-None-clause-same_bank : goal.returns-in-Ok-None-clause-same_bank
returns-in-Ok-None-clause-same_bank g c = c.in-Ok-None.ensures.same_bank ∙ c.premises.invariant.same_bank

pub returns-in-Ok-None-clause-same_ticks : goal.returns-in-Ok-None-clause-same_ticks
returns-in-Ok-None-clause-same_ticks g c = c.in-Ok-None.ensures.same_ticks ∙ c.premises.invariant.same_ticks

pub returns-in-Ok-None-clause-grows : goal.returns-in-Ok-None-clause-grows
returns-in-Ok-None-clause-grows g c = Grows-trans c.args.work.now.bank.now c.premises.work.bank.now c.opened_on.new.work.bank.now c.premises.invariant.grows c.in-Ok-None.ensures.grows

pub returns-in-Ok-None-clause-budget : goal.returns-in-Ok-None-clause-budget
returns-in-Ok-None-clause-budget g c = c.in-Ok-None.ensures.budget ∙ c.premises.invariant.budget

pub returns-in-Ok-None-clause-counted : goal.returns-in-Ok-None-clause-counted
returns-in-Ok-None-clause-counted g c = omega (arith, c.in-Ok-None.ensures.counted, c.premises.invariant.counted, c.in-Ok-None.ensures.budget, c.premises.invariant.budget)

pub returns-in-Err-opened_on-clause-answer : goal.returns-in-Err-opened_on-clause-answer
returns-in-Err-opened_on-clause-answer g c s k T t vs =
    let old = c.args.work.now.bank.now in
    let mid = c.premises.work.bank.now in
    let at = c.premises.invariant in
    let hs = c.args.context.now in
    let o = c.premises.last in
    let os = c.premises.openings.items in
    let E0 = env_of old c.args.env.now in
    let E = env_of mid c.args.env.now in
    let G0 = context_of old hs in
    let same = env_of-grown old mid at.grows c.args.env.now c.requires.declared.env in
    let here : context_of mid hs ≡ G0 = same_context old mid at.grows c.args.store.now hs c.requires.place in
    let b = c.premises.work.ticks.now.left in
    let new = c.opened_on.new.work.bank.now in
    let l = c.opened_on.new.work.ticks.now.left in
    let m = c.premises.more - 1 in
    let number = one_less c.premises.more at.some in
    at.leads s k T t vs new [] (Err c.in-Err-opened_on.fault) l
    (along (λ z. Refuses new c.in-Err-opened_on.fault (λ n. open_work (scene_by E0 s k G0 T vs n) z (opening_of mid o) (openings_of mid os)) b l) number
    ((opens_as new (Err c.in-Err-opened_on.fault) E E0 s k (context_of mid hs) G0 T vs (opening_of mid o) b l same here (c.in-Err-opened_on.ensures.answer s k T vs)) m (openings_of mid os)))

pub returns-in-Err-opened_on-clause-same_bank : goal.returns-in-Err-opened_on-clause-same_bank
returns-in-Err-opened_on-clause-same_bank g c = c.in-Err-opened_on.ensures.same_bank ∙ c.premises.invariant.same_bank

pub returns-in-Err-opened_on-clause-same_ticks : goal.returns-in-Err-opened_on-clause-same_ticks
returns-in-Err-opened_on-clause-same_ticks g c = c.in-Err-opened_on.ensures.same_ticks ∙ c.premises.invariant.same_ticks

pub returns-in-Err-opened_on-clause-grows : goal.returns-in-Err-opened_on-clause-grows
returns-in-Err-opened_on-clause-grows g c = Grows-trans c.args.work.now.bank.now c.premises.work.bank.now c.opened_on.new.work.bank.now c.premises.invariant.grows c.in-Err-opened_on.ensures.grows

pub returns-in-Err-opened_on-clause-budget : goal.returns-in-Err-opened_on-clause-budget
returns-in-Err-opened_on-clause-budget g c = c.in-Err-opened_on.ensures.budget ∙ c.premises.invariant.budget

pub returns-in-Err-opened_on-clause-counted : goal.returns-in-Err-opened_on-clause-counted
returns-in-Err-opened_on-clause-counted g c = omega (arith, c.in-Err-opened_on.ensures.counted, c.premises.invariant.counted, c.in-Err-opened_on.ensures.budget, c.premises.invariant.budget)

pub unreachable-requires : goal.unreachable-requires
unreachable-requires g c = omega (arith, c.premises.invariant.some, c.premises-test.false)
