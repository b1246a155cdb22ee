use Rattle.std.proofs.Common.{refl}
use Rattle.lq_trees.proofs.Outcomes.{comes_fails}
use Rattle.lq_terms.specs.Terms.{tree_of}
use Rattle.lq_calculus.specs.Checking.{mismatch}
use Rattle.lq_trees.specs.Ticks.{fails}
use Rattle.lq_typing.proofs.unknowns.NoVariablesVariables.differ.Goals as goal

pub returns : goal.returns
returns c b = (c.requires.found, c.requires.written, comes_fails (λ n. fails (mismatch (tree_of c.args._bank.now c.args.found) (tree_of c.args._bank.now c.args.written))) (mismatch (tree_of c.args._bank.now c.args.found) (tree_of c.args._bank.now c.args.written)) b (λ n. refl))
