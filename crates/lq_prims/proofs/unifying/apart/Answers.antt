use Rattle.std.proofs.Common.{◌≡◌, ◌∙◌, ◌∷◌, [], sym, ap, ap₂, arith}
use Rattle.std.proofs.Common.{subst as along}
use Rattle.lq_trees.specs.Ticks.{gives}
use Rattle.lq_trees.specs.Index.{Within}
use Rattle.lq_terms.specs.Terms.{tree_of}
use Rattle.lq_solving.specs.Kept.{IsOver, IsStore}
use Rattle.lq_solving.specs.Stores.{read}
use Rattle.lq_evars.specs.Places.{store_of}
use Rattle.lq_evars.proofs.Growing.{store_of-grown, HasStore-grown}
use Rattle.lq_tactics.specs.Rows.{needed, do_not_unify}
use Rattle.lq_prims.specs.Working.{Refuses}
use Rattle.lq_prims.proofs.ToldLaws.{told_first, told_second, told_both}
use Rattle.lq_prims.proofs.unifying.apart.Goals as goal

pub returns-in-Err-clause-answer : goal.returns-in-Err-clause-answer
returns-in-Err-clause-answer c b =
    let s = store_of c.args.bank.now c.args.store.now in
    let l = read s (tree_of c.args.bank.now c.args.left) in
    let r = read s (tree_of c.args.bank.now c.args.right) in
    told_first c.needed.new.bank c.in-Err.fault l (r ∷ []) (do_not_unify l r) b (c.in-Err.ensures.answer b)

pub needed-requires-2-clause-store : goal.needed-requires-2-clause-store
needed-requires-2-clause-store c = HasStore-grown c.args.bank.now c.needed.new.bank c.in-Ok.ensures.grows c.args.store.now c.requires.store

pub needed-requires-2-clause-kept : goal.needed-requires-2-clause-kept
needed-requires-2-clause-kept c = along IsStore (sym (store_of-grown c.args.bank.now c.needed.new.bank c.in-Ok.ensures.grows c.args.store.now c.requires.store)) c.requires.kept

pub needed-requires-2-clause-over : goal.needed-requires-2-clause-over
needed-requires-2-clause-over c =
    let g = c.in-Ok.ensures.grows in
    along (λ z. IsOver z.variables (tree_of c.needed.new.bank c.args.right)) (sym (store_of-grown c.args.bank.now c.needed.new.bank g c.args.store.now c.requires.store))
    (along (IsOver (store_of c.args.bank.now c.args.store.now).variables) (sym (g.tree c.args.right c.requires.right)) c.requires.right_over)

pub needed-requires-2-clause-closed : goal.needed-requires-2-clause-closed
needed-requires-2-clause-closed c = along (Within 0) (sym (c.in-Ok.ensures.grows.tree c.args.right c.requires.right)) c.requires.right_closed

pub returns-in-Ok-needed-clause-answer : goal.returns-in-Ok-needed-clause-answer
returns-in-Ok-needed-clause-answer c b =
    let bank = c.args.bank.now in
    let mid = c.needed.new.bank in
    let new = c.needed-2.new.bank in
    let s = store_of bank c.args.store.now in
    let l = read s (tree_of bank c.args.left) in
    let r = read s (tree_of bank c.args.right) in
    let g = c.in-Ok.ensures.grows in
    told_both new c.in-Ok.read c.in-Ok-needed.right l r b (omega (arith, c.in-Ok.ensures.has, c.in-Ok-needed.ensures.grows.nodes)) c.in-Ok-needed.ensures.has
    (c.in-Ok.ensures.answer ∙ ap gives (sym (c.in-Ok-needed.ensures.grows.tree c.in-Ok.read c.in-Ok.ensures.has)))
    (along (λ z. needed z ≡ gives (tree_of new c.in-Ok-needed.right)) (ap₂ read (store_of-grown bank mid g c.args.store.now c.requires.store) (g.tree c.args.right c.requires.right)) c.in-Ok-needed.ensures.answer)

pub returns-in-Err-needed-clause-answer : goal.returns-in-Err-needed-clause-answer
returns-in-Err-needed-clause-answer c b =
    let bank = c.args.bank.now in
    let mid = c.needed.new.bank in
    let new = c.needed-2.new.bank in
    let s = store_of bank c.args.store.now in
    let l = read s (tree_of bank c.args.left) in
    let r = read s (tree_of bank c.args.right) in
    let g = c.in-Ok.ensures.grows in
    told_second new c.in-Err-needed.fault l (tree_of mid c.in-Ok.read) r [] (do_not_unify l r) b c.in-Ok.ensures.answer
    (along (λ z. Refuses new c.in-Err-needed.fault (λ n. needed z) b b) (ap₂ read (store_of-grown bank mid g c.args.store.now c.requires.store) (g.tree c.args.right c.requires.right)) (c.in-Err-needed.ensures.answer b))
