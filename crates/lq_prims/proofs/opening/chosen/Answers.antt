use Rattle.std.proofs.Common.{◌≡◌, ◌∙◌, [], ◌∷◌, refl, sym, ap, arith, append-nil, reverse, rules, None, Some, Ok, Err}
use Rattle.std.proofs.Common.{subst as along}
use Rattle.lq_trees.specs.Ticks.{done, ComesTo}
use Rattle.lq_terms.specs.Contexts.{context_of}
use Rattle.lq_terms.specs.Terms.{tree_of}
use Rattle.lq_terms.proofs.Growth.{Grows-refl, Grows-trans}
use Rattle.lq_env.specs.Environments.{env_of}
use Rattle.lq_evars.specs.Places.{store_of}
use Rattle.lq_calculus.specs.Declarations.{rules_of}
use Rattle.lq_solving.specs.ElabFaults.{by_unify}
use Rattle.lq_solving.specs.Unification.{unify}
use Rattle.lq_unify.specs.Frames.{answer_of}
use Rattle.lq_tactics.specs.Rows.{elab_work}
use Rattle.lq_prims.specs.Working.{Does, Refuses}
use Rattle.lq_prims.specs.declared.opening.Opening.{Opening}
use Rattle.lq_prims.specs.Opening.{HasOpening, Carries, choose_work, opening_of, openings_of}
use Rattle.lq_prims.specs.Scenes.{scene_by}
use Rattle.lq_prims.proofs.ChooseLaws.{choose_refused, choose_found, choose_next, choose_end, unified_as}
use Rattle.lq_prims.proofs.OpenLaws.{all_before, openings_more, openings_grown, carries_grown, opening_unified, unified_tree}
use Rattle.lq_prims.proofs.SceneLaws.{declared_grown}
use Rattle.lq_prims.proofs.opening.chosen.Goals as goal

pub openings-init : goal.openings-init
openings-init g c = record {
  all = c.requires.openings;
  carry = c.requires.wanted;
  chooses = λ s k T vs late a q left d. d;
  same_bank = refl;
  same_ticks = refl;
  grows = Grows-refl c.args.work.now.bank.now;
  budget = refl;
  counted = refl;
}

pub unifies-requires-clause-site : goal.unifies-requires-clause-site
unifies-requires-clause-site g c =
    let old = c.args.work.now.bank.now in
    let mid = c.openings.work.bank.now in
    let at = c.openings.invariant in
    let hs = c.args.context.now in
    let ws = c.pop.new.self.items in
    let o = c.in-Some.opening in
    let e = c.in-Some.ensures.items in
    let all = all_before (HasOpening mid hs) ws c.openings.left.items o e at.all in
    let carry = all_before (Carries mid hs c.args.wanted) ws c.openings.left.items o e at.carry in
    let d = declared_grown old mid at.grows c.args.env.now c.requires.declared in
    record { lent = record { env = d.env; plain = d.plain; store = all.1.place.store; kept = all.1.place.kept }; has = all.1.place.has; context = all.1.place.stands }

pub unifies-requires-clause-left : goal.unifies-requires-clause-left
unifies-requires-clause-left g c = (all_before (HasOpening c.openings.work.bank.now c.args.context.now) c.pop.new.self.items c.openings.left.items c.in-Some.opening c.in-Some.ensures.items c.openings.invariant.all).1.rest.has

pub unifies-requires-clause-left_stands : goal.unifies-requires-clause-left_stands
unifies-requires-clause-left_stands g c = (all_before (HasOpening c.openings.work.bank.now c.args.context.now) c.pop.new.self.items c.openings.left.items c.in-Some.opening c.in-Some.ensures.items c.openings.invariant.all).1.rest.stands

pub unifies-requires-clause-right : goal.unifies-requires-clause-right
unifies-requires-clause-right g c = (all_before (Carries c.openings.work.bank.now c.args.context.now c.args.wanted) c.pop.new.self.items c.openings.left.items c.in-Some.opening c.in-Some.ensures.items c.openings.invariant.carry).1.has

pub unifies-requires-clause-right_stands : goal.unifies-requires-clause-right_stands
unifies-requires-clause-right_stands g c = (all_before (Carries c.openings.work.bank.now c.args.context.now c.args.wanted) c.pop.new.self.items c.openings.left.items c.in-Some.opening c.in-Some.ensures.items c.openings.invariant.carry).1.stands

pub returns-in-Ok-true-clause-answer : goal.returns-in-Ok-true-clause-answer
returns-in-Ok-true-clause-answer g c s k T vs =
    let old = c.args.work.now.bank.now in
    let mid = c.openings.work.bank.now in
    let at = c.openings.invariant in
    let hs = c.args.context.now in
    let ws = c.pop.new.self.items in
    let o = c.in-Some.opening in
    let e = c.in-Some.ensures.items in
    let all = all_before (HasOpening mid hs) ws c.openings.left.items o e at.all in
    let carry = all_before (Carries mid hs c.args.wanted) ws c.openings.left.items o e at.carry in
    let E = env_of old c.args.env.now in
    let G = context_of old hs in
    let W = tree_of old c.args.wanted in
    let b = c.openings.work.ticks.now.left in
    let new = c.unifies.new.work.bank.now in
    let l = c.unifies.new.work.ticks.now.left in
    let p = c.unifies.new.store in
    let told : Opening = record { store = p; premises = o.premises; names = o.names; rest = o.rest } in
    at.chooses s k T vs new (Some (opening_of new told)) (Ok tt) l
    (along (λ z. ComesTo (λ n. choose_work (scene_by E s k G T vs n) W z) b (done (Some (opening_of new told)) l)) (sym (openings_more mid ws c.openings.left.items o e))
    (along (λ z. ComesTo (λ n. choose_work (scene_by E s k G T vs n) W (opening_of mid o ∷ openings_of mid ws)) b (done (Some z) l)) (unified_tree mid new c.in-Ok-true.ensures.grows hs o all.1 p)
    (choose_found E s k G T vs W b (opening_of mid o) (openings_of mid ws) new (store_of new p) l
    (along (λ z. ComesTo (λ n. elab_work (by_unify (unify (rules_of E) n G (opening_of mid o).store (opening_of mid o).rest W))) b (done (answer_of new c.unifies.new.store z) l)) c.in-Ok-true.field-0-test (unified_as old mid at.grows c.args.env.now c.requires.declared.env hs c.requires.context o c.args.wanted c.requires.has new (answer_of new c.unifies.new.store) (Ok c.in-Ok-true.field-0) b l c.in-Ok-true.ensures.answer)))))

pub openings-preserved : goal.openings-preserved
openings-preserved g c =
    let old = c.args.work.now.bank.now in
    let mid = c.openings.work.bank.now in
    let at = c.openings.invariant in
    let hs = c.args.context.now in
    let ws = c.pop.new.self.items in
    let o = c.in-Some.opening in
    let e = c.in-Some.ensures.items in
    let all = all_before (HasOpening mid hs) ws c.openings.left.items o e at.all in
    let carry = all_before (Carries mid hs c.args.wanted) ws c.openings.left.items o e at.carry in
    let E = env_of old c.args.env.now in
    let G = context_of old hs in
    let W = tree_of old c.args.wanted in
    let b = c.openings.work.ticks.now.left in
    let new = c.unifies.new.work.bank.now in
    let l = c.unifies.new.work.ticks.now.left in
    let grown = openings_grown mid new c.in-Ok-false.ensures.grows hs ws all.0 in
    record {
      all = grown.1;
      carry = carries_grown mid new c.in-Ok-false.ensures.grows hs c.args.wanted ws all.0 carry.0;
      chooses = λ s k T vs late a q left d.
          at.chooses s k T vs late a q left
          (along (λ z. Does late (λ u. a) q (λ n. choose_work (scene_by E s k G T vs n) W z) b left) (sym (openings_more mid ws c.openings.left.items o e))
          (choose_next E s k G T vs W b (opening_of mid o) (openings_of mid ws) l (along (λ z. ComesTo (λ n. elab_work (by_unify (unify (rules_of E) n G (opening_of mid o).store (opening_of mid o).rest W))) b (done (answer_of new c.unifies.new.store z) l)) c.in-Ok-false.field-0-test (unified_as old mid at.grows c.args.env.now c.requires.declared.env hs c.requires.context o c.args.wanted c.requires.has new (answer_of new c.unifies.new.store) (Ok c.in-Ok-false.field-0) b l c.in-Ok-false.ensures.answer)) late a q left
          (along (λ z. Does late (λ u. a) q (λ n. choose_work (scene_by E s k G T vs n) W z) l left) (ap reverse grown.0) d)));
      same_bank = c.in-Ok-false.ensures.same_bank ∙ at.same_bank;
      same_ticks = c.in-Ok-false.ensures.same_ticks ∙ at.same_ticks;
      grows = Grows-trans old mid new at.grows c.in-Ok-false.ensures.grows;
      budget = c.in-Ok-false.ensures.budget ∙ at.budget;
      counted = omega (arith, c.in-Ok-false.ensures.counted, at.counted, c.in-Ok-false.ensures.budget, at.budget);
    }

pub returns-in-Err-clause-answer : goal.returns-in-Err-clause-answer
returns-in-Err-clause-answer g c s k T vs =
    let old = c.args.work.now.bank.now in
    let mid = c.openings.work.bank.now in
    let at = c.openings.invariant in
    let hs = c.args.context.now in
    let ws = c.pop.new.self.items in
    let o = c.in-Some.opening in
    let e = c.in-Some.ensures.items in
    let all = all_before (HasOpening mid hs) ws c.openings.left.items o e at.all in
    let carry = all_before (Carries mid hs c.args.wanted) ws c.openings.left.items o e at.carry in
    let E = env_of old c.args.env.now in
    let G = context_of old hs in
    let W = tree_of old c.args.wanted in
    let b = c.openings.work.ticks.now.left in
    let new = c.unifies.new.work.bank.now in
    let l = c.unifies.new.work.ticks.now.left in
    at.chooses s k T vs new None (Err c.in-Err.fault) l
    (along (λ z. Refuses new c.in-Err.fault (λ n. choose_work (scene_by E s k G T vs n) W z) b l) (sym (openings_more mid ws c.openings.left.items o e))
    (choose_refused E s k G T vs W b (opening_of mid o) (openings_of mid ws) new c.in-Err.fault l
    (unified_as old mid at.grows c.args.env.now c.requires.declared.env hs c.requires.context o c.args.wanted c.requires.has new (answer_of new c.unifies.new.store) (Err c.in-Err.fault) b l c.in-Err.ensures.answer)))

pub returns-in-Ok-true-clause-has : goal.returns-in-Ok-true-clause-has
returns-in-Ok-true-clause-has g c =
    let old = c.args.work.now.bank.now in
    let mid = c.openings.work.bank.now in
    let at = c.openings.invariant in
    let hs = c.args.context.now in
    let ws = c.pop.new.self.items in
    let o = c.in-Some.opening in
    let e = c.in-Some.ensures.items in
    let all = all_before (HasOpening mid hs) ws c.openings.left.items o e at.all in
    let carry = all_before (Carries mid hs c.args.wanted) ws c.openings.left.items o e at.carry in
    let E = env_of old c.args.env.now in
    let G = context_of old hs in
    let W = tree_of old c.args.wanted in
    let b = c.openings.work.ticks.now.left in
    let new = c.unifies.new.work.bank.now in
    let l = c.unifies.new.work.ticks.now.left in
    opening_unified mid new c.in-Ok-true.ensures.grows hs o all.1 c.unifies.new.store c.in-Ok-true.ensures.has c.in-Ok-true.ensures.is c.in-Ok-true.ensures.later

pub returns-clause-answer : goal.returns-clause-answer
returns-clause-answer g c s k T vs =
    let old = c.args.work.now.bank.now in
    let mid = c.openings.work.bank.now in
    let at = c.openings.invariant in
    let E = env_of old c.args.env.now in
    let G = context_of old c.args.context.now in
    let W = tree_of old c.args.wanted in
    let b = c.openings.work.ticks.now.left in
    let e = c.in_default.ensures.items ∙ append-nil c.pop.new.self.items in
    let none : c.pop.new.self.items ≡ [] = search rules in
    at.chooses s k T vs mid None (Ok tt) b
    (along (λ z. ComesTo (λ n. choose_work (scene_by E s k G T vs n) W (openings_of mid z)) b (done None b)) (sym (e ∙ none)) (choose_end E s k G T vs W b))

pub returns-in-Ok-true-clause-grows : goal.returns-in-Ok-true-clause-grows
returns-in-Ok-true-clause-grows g c = Grows-trans c.args.work.now.bank.now c.openings.work.bank.now c.unifies.new.work.bank.now c.openings.invariant.grows c.in-Ok-true.ensures.grows

pub returns-in-Err-clause-grows : goal.returns-in-Err-clause-grows
returns-in-Err-clause-grows g c = Grows-trans c.args.work.now.bank.now c.openings.work.bank.now c.unifies.new.work.bank.now c.openings.invariant.grows c.in-Err.ensures.grows
