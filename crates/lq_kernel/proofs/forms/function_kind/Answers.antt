use Rattle.lq_terms.specs.Terms.{text_of, tree_of}
use Rattle.lq_kernel.proofs.Trees.{index-close}
use Rattle.lq_kernel.proofs.FormLaws.{close_stops}
use Rattle.lq_terms.proofs.Growth.{Grows-trans}
use Rattle.lq_kernel.proofs.forms.function_kind.Goals as goal

pub close-requires-clause-index : goal.close-requires-clause-index
close-requires-clause-index c = index-close (text_of c.args.bank.now c.args.name) (tree_of c.args.bank.now c.args.body) c.requires.body.within

pub returns-in_err-rest-clause-answer : goal.returns-in_err-rest-clause-answer
returns-in_err-rest-clause-answer c x y A B e f h k =
    close_stops c.close.new.bank c.from_residual.result c.in_err-rest.field-0.0 (text_of c.args.bank.now c.args.name) (tree_of c.args.bank.now c.args.body) _ c.from_residual.ensures.1 c.requires.fits
    c.in_err-rest.ensures.answer

pub returns-clause-grows : goal.returns-clause-grows
returns-clause-grows c = Grows-trans _ _ _ c.close.ensures.grows c.make.ensures.grows
