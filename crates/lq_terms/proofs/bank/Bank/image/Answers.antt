use Rattle.lq_terms.proofs.Imports.{parts_have_images}
use Rattle.lq_terms.proofs.bank.Bank.image.Goals as goal

pub import_node-requires : goal.import_node-requires
import_node-requires c =
    parts_have_images c.args.other.now c.args.self.now c.args.marks.now c.args.images.now c.args.term c.stored.result.now c.requires.earlier c.requires.images c.stored.ensures.stands c.stored.ensures.parts (c.requires.parts c.if-not-marks-term.false)
