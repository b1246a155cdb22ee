use Rattle.lq_terms.proofs.Shapes.{distinct_shapes}
use Rattle.lq_terms.proofs.classes.class_of.Goals as goal

pub returns-clause-distinct : goal.returns-clause-distinct
returns-clause-distinct c = distinct_shapes c.insert_full.new.self.keys c.insert_full.ensures.unique
