use Rattle.lq_terms.specs.Terms.{text_of, tree_of}
use Rattle.lq_elab.specs.Frames.{shorter, spot_of}
use Rattle.lq_elab.specs.Naming.{variable, meaning}
use Rattle.lq_elab.specs.States.{site_of}
use Rattle.lq_elab.proofs.BindSteps.{scope_left}
use Rattle.lq_elab.proofs.binding.left.Goals as goal

pub returns-clause-scope : goal.returns-clause-scope
returns-clause-scope c =
    c.restore.ensures (meaning (site_of c.args.bank.now c.args.site.now) (spot_of c.args.bank.now (shorter c.args.context.now) c.args.frames.now))
    (variable (text_of c.args.bank.now c.args.bound.hypothesis) (tree_of c.args.bank.now c.args.bound.kind))
    (scope_left c.args.bank.now c.args.site.now (shorter c.args.context.now) c.args.frames.now c.args.bound.binder (record { name = c.args.bound.hypothesis; body = c.args.body; kind = c.args.bound.kind }) c.requires.bound c.requires.new c.args.scope.now c.requires.scope)
    c.requires.hidden
