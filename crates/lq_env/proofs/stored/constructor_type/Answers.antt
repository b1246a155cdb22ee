use Rattle.lq_calculus.specs.Declarations.{constructor_type}
use Rattle.lq_env.proofs.stored.constructor_type.Goals as goal

pub returns-clause-answer : goal.returns-clause-answer
unfolding constructor_type
returns-clause-answer c = c.under_parameters.ensures.answer
