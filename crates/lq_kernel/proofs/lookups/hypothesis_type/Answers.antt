use Rattle.lq_terms.specs.Terms.{text_of}
use Rattle.lq_terms.specs.Contexts.{context_of}
use Rattle.lq_kernel.proofs.Leaves.{var_known, var_strange}
use Rattle.lq_kernel.proofs.lookups.hypothesis_type.Goals as goal

pub returns-in-Some : goal.returns-in-Some
returns-in-Some c o E b = var_known o E (context_of c.args.bank.now c.args.hypotheses.now) (text_of c.args.bank.now c.args.name) b c.args.bank.now c.in-Some.hypothesis c.within_limits.result c.in-Some.ensures.found c.in-Some.ensures.is c.within_limits.ensures

pub returns-in-None : goal.returns-in-None
returns-in-None c o E b = (c.requires.name, var_strange o E (context_of c.args.bank.now c.args.hypotheses.now) (text_of c.args.bank.now c.args.name) b c.in-None.ensures.found)
