use Rattle.std.proofs.Common.{◌∙◌, sym}
use Rattle.lq_evars.proofs.Given.{over_read, fits_read, deep_read}
use Rattle.lq_evars.proofs.store.Store.read.Goals as goal

pub returns-then-is_over-clause-answer : goal.returns-then-is_over-clause-answer
returns-then-is_over-clause-answer c = over_read c.args.bank.now c.read_near.new.bank c.args.self.now c.args.term c.in_ok-answer.answer c.requires.kept c.requires.closed c.in_ok-answer.ensures.near (c.is_over.ensures.over c.if-is_over.true)

pub returns-in-Fits-clause-answer : goal.returns-in-Fits-clause-answer
returns-in-Fits-clause-answer c = (c.in_ok-answer.ensures.has, fits_read c.args.bank.now c.read_near.new.bank c.args.self.now c.args.term c.in_ok-answer.answer c.requires.kept c.requires.closed c.in_ok-answer.ensures.near (c.is_over.ensures.within c.if-is_over.false) (sym c.in-Fits.is ∙ c.fits.ensures))

pub returns-in-TooDeep-clause-answer : goal.returns-in-TooDeep-clause-answer
returns-in-TooDeep-clause-answer c = deep_read c.args.bank.now c.read_near.new.bank c.args.self.now c.args.term c.in_ok-answer.answer c.requires.kept c.requires.closed c.in_ok-answer.ensures.near (c.is_over.ensures.within c.if-is_over.false) (sym c.in-TooDeep.is ∙ c.fits.ensures)
