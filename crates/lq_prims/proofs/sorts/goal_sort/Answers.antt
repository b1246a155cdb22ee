use Rattle.std.proofs.Common.{◌≡◌, sym}
use Rattle.std.proofs.Common.{subst as along}
use Rattle.lq_trees.specs.declared.Sort.{Sort as Universe}
use Rattle.lq_trees.specs.Ticks.{done, ComesTo}
use Rattle.lq_terms.specs.Contexts.{context_of}
use Rattle.lq_terms.specs.Terms.{tree_of}
use Rattle.lq_env.specs.Environments.{env_of}
use Rattle.lq_env.proofs.Grown.{env_of-grown}
use Rattle.lq_solving.specs.Kept.{StandsIn}
use Rattle.lq_evars.specs.Places.{store_of}
use Rattle.lq_evars.proofs.Growing.{store_of-grown}
use Rattle.lq_prims.specs.Scenes.{context_at, form_work}
use Rattle.lq_prims.specs.Working.{Refuses}
use Rattle.lq_prims.proofs.SceneLaws.{goal_context, site_of, kind_stands, goal_grown, declared_grown}
use Rattle.lq_prims.proofs.SortLaws.{kinds, kind_refused, sort_unformed, sort_does}
use Rattle.lq_prims.proofs.WorkLaws.{handed_on, does_at_once}
use Rattle.lq_prims.proofs.sorts.goal_sort.Goals as goal

pub type_in-requires-clause-site : goal.type_in-requires-clause-site
type_in-requires-clause-site g c =
    site_of c.args.work.now.bank.now c.args.env.now c.args.store.now c.args.goal c.requires.placed.declared c.requires.placed.place c.context.result.now
    (goal_context c.args.work.now.bank.now c.args.store.now c.args.goal c.requires.placed.place c.context.result.now (λ v e. c.context.ensures.place v e))

pub type_in-requires-clause-term : goal.type_in-requires-clause-term
type_in-requires-clause-term g c =
    along (λ z. StandsIn (store_of c.args.work.now.bank.now c.args.store.now) z (tree_of c.args.work.now.bank.now c.args.kind))
    (sym (goal_context c.args.work.now.bank.now c.args.store.now c.args.goal c.requires.placed.place c.context.result.now (λ v e. c.context.ensures.place v e)).is)
    (kind_stands c.args.work.now.bank.now c.args.env.now c.args.store.now c.args.goal c.args.kind c.requires.placed)

pub returns-in_err-found-clause-answer : goal.returns-in_err-found-clause-answer
returns-in_err-found-clause-answer g c vs =
    let bank = c.args.work.now.bank.now in
    let s = store_of bank c.args.store.now in
    let E = env_of bank c.args.env.now in
    let k = c.args.goal in
    let T = tree_of bank c.args.kind in
    let is : context_of bank c.context.result.now ≡ context_at s k = (goal_context bank c.args.store.now k c.requires.placed.place c.context.result.now (λ v e. c.context.ensures.place v e)).is in
    let b = c.args.work.now.ticks.now.left in
    let mid = c.type_in.new.work.bank.now in
    let m = c.type_in.new.work.ticks.now.left in
    handed_on mid _ c.from_residual.result c.in_err-found.field-0.0 _ b m c.from_residual.ensures.1
    (kind_refused E s k (context_at s k) T vs mid c.in_err-found.field-0.0 b m (along (λ z. Refuses mid c.in_err-found.field-0.0 (kinds E s k z T vs) b m) is c.in_err-found.ensures.answer))

pub head-requires-clause-site : goal.head-requires-clause-site
head-requires-clause-site g c =
    let bank = c.args.work.now.bank.now in
    let mid = c.type_in.new.work.bank.now in
    let goal = goal_grown bank mid c.in_ok-found.ensures.grows c.args.store.now c.args.goal c.requires.placed.place in
    site_of mid c.args.env.now c.args.store.now c.args.goal (declared_grown bank mid c.in_ok-found.ensures.grows c.args.env.now c.requires.placed.declared) goal c.context-2.result.now
    (goal_context mid c.args.store.now c.args.goal goal c.context-2.result.now (λ v e. c.context-2.ensures.place v e))

pub head-requires-clause-term : goal.head-requires-clause-term
head-requires-clause-term g c =
    let bank = c.args.work.now.bank.now in
    let s = store_of bank c.args.store.now in
    let E = env_of bank c.args.env.now in
    let k = c.args.goal in
    let T = tree_of bank c.args.kind in
    let is : context_of bank c.context.result.now ≡ context_at s k = (goal_context bank c.args.store.now k c.requires.placed.place c.context.result.now (λ v e. c.context.ensures.place v e)).is in
    let b = c.args.work.now.ticks.now.left in
    let mid = c.type_in.new.work.bank.now in
    let m = c.type_in.new.work.ticks.now.left in
    let K = tree_of mid c.in_ok-found.found in
    let goal = goal_grown bank mid c.in_ok-found.ensures.grows c.args.store.now k c.requires.placed.place in
    let is2 : context_of mid c.context-2.result.now ≡ context_at (store_of mid c.args.store.now) k = (goal_context mid c.args.store.now k goal c.context-2.result.now (λ v e. c.context-2.ensures.place v e)).is in
    let same = store_of-grown bank mid c.in_ok-found.ensures.grows c.args.store.now c.requires.placed.place.store in
    along (λ z. StandsIn (store_of mid c.args.store.now) z K) (sym is2) (along (λ z. StandsIn z (context_at z k) K) (sym same) (along (λ z. StandsIn s z K) is c.in_ok-found.ensures.stands.stands))

pub returns-in_err-form-clause-answer : goal.returns-in_err-form-clause-answer
returns-in_err-form-clause-answer g c vs =
    let bank = c.args.work.now.bank.now in
    let s = store_of bank c.args.store.now in
    let E = env_of bank c.args.env.now in
    let k = c.args.goal in
    let T = tree_of bank c.args.kind in
    let is : context_of bank c.context.result.now ≡ context_at s k = (goal_context bank c.args.store.now k c.requires.placed.place c.context.result.now (λ v e. c.context.ensures.place v e)).is in
    let b = c.args.work.now.ticks.now.left in
    let mid = c.type_in.new.work.bank.now in
    let m = c.type_in.new.work.ticks.now.left in
    let K = tree_of mid c.in_ok-found.found in
    let goal = goal_grown bank mid c.in_ok-found.ensures.grows c.args.store.now k c.requires.placed.place in
    let is2 : context_of mid c.context-2.result.now ≡ context_at (store_of mid c.args.store.now) k = (goal_context mid c.args.store.now k goal c.context-2.result.now (λ v e. c.context-2.ensures.place v e)).is in
    let same = store_of-grown bank mid c.in_ok-found.ensures.grows c.args.store.now c.requires.placed.place.store in
    let new = c.head.new.work.bank.now in
    let left = c.head.new.work.ticks.now.left in
    let f = c.in_err-form.field-0.0 in
    handed_on new _ c.from_residual-in_err-form.result f _ b left c.from_residual-in_err-form.ensures.1
    (sort_unformed E s k (context_at s k) T vs b m K (along (λ z. ComesTo (kinds E s k z T vs) b (done K m)) is c.in_ok-found.ensures.answer) new f left
    (along (λ F. Refuses new f (form_work F s (context_at s k) K) m left) (env_of-grown bank mid c.in_ok-found.ensures.grows c.args.env.now c.requires.placed.declared.env)
    (along (λ z. Refuses new f (form_work (env_of mid c.args.env.now) z (context_at z k) K) m left) same
    (along (λ z. Refuses new f (form_work (env_of mid c.args.env.now) (store_of mid c.args.store.now) z K) m left) is2 c.in_err-form.ensures.answer))))

pub returns-clause-answer : goal.returns-clause-answer
returns-clause-answer g c vs =
    let bank = c.args.work.now.bank.now in
    let s = store_of bank c.args.store.now in
    let E = env_of bank c.args.env.now in
    let k = c.args.goal in
    let T = tree_of bank c.args.kind in
    let is : context_of bank c.context.result.now ≡ context_at s k = (goal_context bank c.args.store.now k c.requires.placed.place c.context.result.now (λ v e. c.context.ensures.place v e)).is in
    let b = c.args.work.now.ticks.now.left in
    let mid = c.type_in.new.work.bank.now in
    let m = c.type_in.new.work.ticks.now.left in
    let K = tree_of mid c.in_ok-found.found in
    let goal = goal_grown bank mid c.in_ok-found.ensures.grows c.args.store.now k c.requires.placed.place in
    let is2 : context_of mid c.context-2.result.now ≡ context_at (store_of mid c.args.store.now) k = (goal_context mid c.args.store.now k goal c.context-2.result.now (λ v e. c.context-2.ensures.place v e)).is in
    let same = store_of-grown bank mid c.in_ok-found.ensures.grows c.args.store.now c.requires.placed.place.store in
    let new = c.head.new.work.bank.now in
    let l = c.head.new.work.ticks.now.left in
    let t = tree_of new c.in_ok-form.form in
    let tell : Universe → Universe = λ u. u in
    sort_does E s k (context_at s k) T vs b m K (along (λ z. ComesTo (kinds E s k z T vs) b (done K m)) is c.in_ok-found.ensures.answer) new tell c.sort_form.result l l t
    (along (λ F. ComesTo (form_work F s (context_at s k) K) m (done t l)) (env_of-grown bank mid c.in_ok-found.ensures.grows c.args.env.now c.requires.placed.declared.env)
    (along (λ z. ComesTo (form_work (env_of mid c.args.env.now) z (context_at z k) K) m (done t l)) same
    (along (λ z. ComesTo (form_work (env_of mid c.args.env.now) (store_of mid c.args.store.now) z K) m (done t l)) is2 c.in_ok-form.ensures.answer)))
    (does_at_once new tell c.sort_form.result _ c.sort_form.ensures l)
