use Rattle.lq_terms.proofs.Keys.{key_found, key_absent}
use Rattle.lq_terms.proofs.NodeLaws.{nodes_eq, own, exact, distinct_nodes}
use Rattle.lq_terms.proofs.bank.term_of.Goals as goal

pub returns-clause-found : goal.returns-clause-found
returns-clause-found c = key_found nodes_eq own exact _ c.args.node.now c.get_index_of.result c.get_index_of.ensures.index

pub returns-clause-absent : goal.returns-clause-absent
returns-clause-absent c = key_absent nodes_eq own _ c.args.node.now c.get_index_of.result c.get_index_of.ensures.index

pub returns-clause-distinct : goal.returns-clause-distinct
returns-clause-distinct c = distinct_nodes _ c.get_index_of.ensures.unique
