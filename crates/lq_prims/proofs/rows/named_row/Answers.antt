use Rattle.std.proofs.Common.{◌∙◌, ℕ, sym, ap, Some}
use Rattle.std.proofs.Common.{subst as along}
use Rattle.lq_terms.specs.Terms.{text_of}
use Rattle.lq_ast.specs.Plain.{plain_prim}
use Rattle.lq_ast.specs.Syntax.{intro, intros, split, to_left, to_right}
use Rattle.lq_elab.specs.States.{givens_of}
use Rattle.lq_evars.specs.Places.{store_of}
use Rattle.lq_tactics.specs.Rows.{Scene, ended}
use Rattle.lq_tactics.specs.Primitives.{prim_row}
use Rattle.std.specs.Prelude.{option_map}
use Rattle.lq_prims.specs.Leaving.{names_of}
use Rattle.lq_prims.specs.Constructing.{constructor_row}
use Rattle.lq_prims.specs.Scenes.{scene_in, step_by}
use Rattle.lq_prims.specs.Working.{Does}
use Rattle.lq_prims.proofs.ConstructLaws.{is_split, is_left, is_right}
use Rattle.lq_prims.proofs.FirstNames.{first_name}
use Rattle.lq_prims.proofs.WorkLaws.{does_same}
use Rattle.lq_prims.proofs.rows.named_row.Goals as goal

pub returns-in-Constructor-clause-answer : goal.returns-in-Constructor-clause-answer
unfolding plain_prim
returns-in-Constructor-clause-answer g c =
    let bank = c.args.work.now.bank.now in
    let new = c.numbered_row.new.work.bank.now in
    let vs = givens_of bank c.args.values.now in
    let f : ℕ → Scene = λ n. scene_in bank c.args.env.now c.args.store.now c.args.goal c.args.kind vs n in
    along (λ p. Does new (λ v. step_by (store_of new c.numbered_row.new.store) v.items) c.numbered_row.result (λ n. prim_row (f n) (plain_prim p)) c.args.work.now.ticks.now.left c.numbered_row.new.work.ticks.now.left) (sym c.in-Constructor.is)
    (c.numbered_row.ensures.answer vs)

pub returns-in-Split-clause-answer : goal.returns-in-Split-clause-answer
unfolding plain_prim
returns-in-Split-clause-answer g c =
    let bank = c.args.work.now.bank.now in
    let new = c.constructor.new.work.bank.now in
    let vs = givens_of bank c.args.values.now in
    let f : ℕ → Scene = λ n. scene_in bank c.args.env.now c.args.store.now c.args.goal c.args.kind vs n in
    along (λ p. Does new (λ v. step_by (store_of new c.constructor.new.store) v.items) c.constructor.result (λ n. prim_row (f n) (plain_prim p)) c.args.work.now.ticks.now.left c.constructor.new.work.ticks.now.left) (sym c.in-Split.is)
    (does_same new (λ v. step_by (store_of new c.constructor.new.store) v.items) c.constructor.result (λ n. ended (f n) (constructor_row (f n) (Some 1) 1)) (λ n. prim_row (f n) (split)) c.args.work.now.ticks.now.left c.constructor.new.work.ticks.now.left
    (λ n. sym (is_split (f n))) (c.constructor.ensures.answer vs))

pub returns-in-Left-clause-answer : goal.returns-in-Left-clause-answer
unfolding plain_prim
returns-in-Left-clause-answer g c =
    let bank = c.args.work.now.bank.now in
    let new = c.constructor-in-Left.new.work.bank.now in
    let vs = givens_of bank c.args.values.now in
    let f : ℕ → Scene = λ n. scene_in bank c.args.env.now c.args.store.now c.args.goal c.args.kind vs n in
    along (λ p. Does new (λ v. step_by (store_of new c.constructor-in-Left.new.store) v.items) c.constructor-in-Left.result (λ n. prim_row (f n) (plain_prim p)) c.args.work.now.ticks.now.left c.constructor-in-Left.new.work.ticks.now.left) (sym c.in-Left.is)
    (does_same new (λ v. step_by (store_of new c.constructor-in-Left.new.store) v.items) c.constructor-in-Left.result (λ n. ended (f n) (constructor_row (f n) (Some 2) 1)) (λ n. prim_row (f n) (to_left)) c.args.work.now.ticks.now.left c.constructor-in-Left.new.work.ticks.now.left
    (λ n. sym (is_left (f n))) (c.constructor-in-Left.ensures.answer vs))

pub returns-in-Right-clause-answer : goal.returns-in-Right-clause-answer
unfolding plain_prim
returns-in-Right-clause-answer g c =
    let bank = c.args.work.now.bank.now in
    let new = c.constructor-in-Right.new.work.bank.now in
    let vs = givens_of bank c.args.values.now in
    let f : ℕ → Scene = λ n. scene_in bank c.args.env.now c.args.store.now c.args.goal c.args.kind vs n in
    along (λ p. Does new (λ v. step_by (store_of new c.constructor-in-Right.new.store) v.items) c.constructor-in-Right.result (λ n. prim_row (f n) (plain_prim p)) c.args.work.now.ticks.now.left c.constructor-in-Right.new.work.ticks.now.left) (sym c.in-Right.is)
    (does_same new (λ v. step_by (store_of new c.constructor-in-Right.new.store) v.items) c.constructor-in-Right.result (λ n. ended (f n) (constructor_row (f n) (Some 2) 2)) (λ n. prim_row (f n) (to_right)) c.args.work.now.ticks.now.left c.constructor-in-Right.new.work.ticks.now.left
    (λ n. sym (is_right (f n))) (c.constructor-in-Right.ensures.answer vs))

pub returns-in-Assumption-clause-answer : goal.returns-in-Assumption-clause-answer
unfolding plain_prim
returns-in-Assumption-clause-answer g c =
    let bank = c.args.work.now.bank.now in
    let new = c.assumption_row.new.work.bank.now in
    let vs = givens_of bank c.args.values.now in
    let f : ℕ → Scene = λ n. scene_in bank c.args.env.now c.args.store.now c.args.goal c.args.kind vs n in
    along (λ p. Does new (λ v. step_by (store_of new c.assumption_row.new.store) v.items) c.assumption_row.result (λ n. prim_row (f n) (plain_prim p)) c.args.work.now.ticks.now.left c.assumption_row.new.work.ticks.now.left) (sym c.in-Assumption.is)
    (c.assumption_row.ensures.answer vs)

pub returns-in-Reflexivity-clause-answer : goal.returns-in-Reflexivity-clause-answer
unfolding plain_prim
returns-in-Reflexivity-clause-answer g c =
    let bank = c.args.work.now.bank.now in
    let new = c.reflexivity_row.new.work.bank.now in
    let vs = givens_of bank c.args.values.now in
    let f : ℕ → Scene = λ n. scene_in bank c.args.env.now c.args.store.now c.args.goal c.args.kind vs n in
    along (λ p. Does new (λ v. step_by (store_of new c.reflexivity_row.new.store) v.items) c.reflexivity_row.result (λ n. prim_row (f n) (plain_prim p)) c.args.work.now.ticks.now.left c.reflexivity_row.new.work.ticks.now.left) (sym c.in-Reflexivity.is)
    (c.reflexivity_row.ensures.answer vs)

pub returns-in-Exfalso-clause-answer : goal.returns-in-Exfalso-clause-answer
unfolding plain_prim prim_row
returns-in-Exfalso-clause-answer g c =
    let bank = c.args.work.now.bank.now in
    let new = c.exfalso.new.work.bank.now in
    let vs = givens_of bank c.args.values.now in
    let f : ℕ → Scene = λ n. scene_in bank c.args.env.now c.args.store.now c.args.goal c.args.kind vs n in
    along (λ p. Does new (λ v. step_by (store_of new c.exfalso.new.store) v.items) c.exfalso.result (λ n. prim_row (f n) (plain_prim p)) c.args.work.now.ticks.now.left c.exfalso.new.work.ticks.now.left) (sym c.in-Exfalso.is)
    (c.exfalso.ensures.answer vs)

pub returns-in-Intros-clause-answer : goal.returns-in-Intros-clause-answer
unfolding plain_prim
returns-in-Intros-clause-answer g c =
    let bank = c.args.work.now.bank.now in
    let new = c.intros_or_named.new.work.bank.now in
    let vs = givens_of bank c.args.values.now in
    let f : ℕ → Scene = λ n. scene_in bank c.args.env.now c.args.store.now c.args.goal c.args.kind vs n in
    along (λ p. Does new (λ v. step_by (store_of new c.intros_or_named.new.store) v.items) c.intros_or_named.result (λ n. prim_row (f n) (plain_prim p)) c.args.work.now.ticks.now.left c.intros_or_named.new.work.ticks.now.left) (sym c.in-Intros.is)
    (along (λ xs. Does new (λ v. step_by (store_of new c.intros_or_named.new.store) v.items) c.intros_or_named.result (λ n. prim_row (f n) (intros xs)) c.args.work.now.ticks.now.left c.intros_or_named.new.work.ticks.now.left) (c.requires.names.are ∙ ap (λ p. names_of (plain_prim p)) c.in-Intros.is) (c.intros_or_named.ensures.answer vs))

pub returns-in-Intro-clause-answer : goal.returns-in-Intro-clause-answer
unfolding plain_prim
returns-in-Intro-clause-answer g c =
    let bank = c.args.work.now.bank.now in
    let new = c.intro_row.new.work.bank.now in
    let vs = givens_of bank c.args.values.now in
    let f : ℕ → Scene = λ n. scene_in bank c.args.env.now c.args.store.now c.args.goal c.args.kind vs n in
    along (λ p. Does new (λ v. step_by (store_of new c.intro_row.new.store) v.items) c.intro_row.result (λ n. prim_row (f n) (plain_prim p)) c.args.work.now.ticks.now.left c.intro_row.new.work.ticks.now.left) (sym c.in-Intro.is)
    (along (λ o. Does new (λ v. step_by (store_of new c.intro_row.new.store) v.items) c.intro_row.result (λ n. prim_row (f n) (intro o)) c.args.work.now.ticks.now.left c.intro_row.new.work.ticks.now.left)
    (ap (option_map (text_of bank)) (c.copied.ensures ∙ c.first.ensures.value) ∙ first_name bank c.args.names.now c.in-Intro.field-0 (c.requires.names.are ∙ ap (λ p. names_of (plain_prim p)) c.in-Intro.is)) (c.intro_row.ensures.answer vs))
