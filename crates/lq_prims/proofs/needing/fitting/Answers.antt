use Rattle.std.proofs.Common.{sym, ◌∙◌}
use Rattle.lq_terms.specs.Terms.{tree_of}
use Rattle.lq_prims.proofs.BinderLaws.{form_fits}
use Rattle.lq_prims.proofs.NeedLaws.{form_too_large, form_too_deep}
use Rattle.lq_prims.proofs.needing.fitting.Goals as goal

pub returns-in-Fits-clause-answer : goal.returns-in-Fits-clause-answer
returns-in-Fits-clause-answer c = form_fits (tree_of c.args.bank.now c.args.form) (sym c.fits.ensures ∙ c.in-Fits.is)

pub returns-in-TooLarge-clause-answer : goal.returns-in-TooLarge-clause-answer
returns-in-TooLarge-clause-answer c b = form_too_large c.args.bank.now (tree_of c.args.bank.now c.args.form) (sym c.fits.ensures ∙ c.in-TooLarge.is) b

pub returns-in-TooDeep-clause-answer : goal.returns-in-TooDeep-clause-answer
returns-in-TooDeep-clause-answer c b = form_too_deep c.args.bank.now (tree_of c.args.bank.now c.args.form) (sym c.fits.ensures ∙ c.in-TooDeep.is) b
