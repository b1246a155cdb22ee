use Rattle.lq_terms.proofs.Texts.{text_found, text_absent}
use Rattle.lq_print.proofs.texts.place_of.Goals as goal

pub returns-clause-found : goal.returns-clause-found
returns-clause-found c = text_found c.args.text.now c.args.texts.now.keys c.get_index_of.result c.get_index_of.ensures.index

pub returns-clause-absent : goal.returns-clause-absent
returns-clause-absent c = text_absent c.args.text.now c.args.texts.now.keys c.get_index_of.result c.get_index_of.ensures.index
