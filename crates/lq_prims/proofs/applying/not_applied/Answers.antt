use Rattle.std.proofs.Common.{◌∙◌, [], ◌∷◌, sym, ap, arith}
use Rattle.lq_trees.specs.Ticks.{gives}
use Rattle.lq_terms.specs.Terms.{tree_of}
use Rattle.lq_solving.specs.Stores.{read}
use Rattle.lq_evars.specs.Places.{store_of}
use Rattle.lq_tactics.specs.Rows.{cannot_apply}
use Rattle.lq_prims.proofs.ToldLaws.{told_first, told_applied}
use Rattle.lq_prims.proofs.applying.not_applied.Goals as goal

pub returns-in-Ok-clause-answer : goal.returns-in-Ok-clause-answer
returns-in-Ok-clause-answer c b =
    let old = c.args.bank.now in
    let new = c.needed.new.bank in
    told_applied new c.in-Ok.read c.args.wanted (read (store_of old c.args.store.now) (tree_of old c.args.term)) (tree_of old c.args.wanted) b c.in-Ok.ensures.has (omega (arith, c.requires.wanted, c.in-Ok.ensures.grows.nodes))
    c.in-Ok.ensures.answer (c.requires.fits ∙ ap gives (sym (c.in-Ok.ensures.grows.tree c.args.wanted c.requires.wanted)))

pub returns-in-Err-clause-answer : goal.returns-in-Err-clause-answer
returns-in-Err-clause-answer c b =
    let old = c.args.bank.now in
    let t = read (store_of old c.args.store.now) (tree_of old c.args.term) in
    told_first c.needed.new.bank c.in-Err.fault t (tree_of old c.args.wanted ∷ []) (cannot_apply t (tree_of old c.args.wanted)) b (c.in-Err.ensures.answer b)
