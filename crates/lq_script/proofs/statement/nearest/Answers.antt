use Rattle.std.proofs.Common.{sym, ◌∙◌, ap₂}
use Rattle.lq_terms.specs.Terms.{text_of}
use Rattle.lq_script.specs.Places.{next_place}
use Rattle.lq_script.proofs.Meanings.{nearest_none, nearest_few, nearest_more}
use Rattle.lq_script.proofs.statement.nearest.Goals as goal

pub loop-binder-init : goal.loop-binder-init
loop-binder-init c = nearest_none (text_of c.args.bank.now c.args.name)

pub behind-found-requires : goal.behind-found-requires
behind-found-requires c =
    nearest_few c.args.bank.now c.args.binders.now c.loop-binder.binder-index (text_of c.args.bank.now c.args.name) c.loop-binder.found c.loop-binder.invariant c.requires.few

pub loop-binder-preserved : goal.loop-binder-preserved
loop-binder-preserved c =
    c.behind-found.ensures ∙ ap₂ next_place c.same_name.ensures c.loop-binder.invariant
    ∙ sym (nearest_more c.args.bank.now c.args.binders.now c.loop-binder.binder-index (text_of c.args.bank.now c.args.name) _ c.loop-binder-test.true)
