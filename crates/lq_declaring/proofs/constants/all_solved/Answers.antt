use Rattle.std.proofs.Common.{◌∙◌, sym}
use Rattle.lq_declaring.proofs.ConstantLaws.{all_solved, some_unsolved}
use Rattle.lq_declaring.proofs.constants.all_solved.Goals as goal

pub returns-then-count-eq0 : goal.returns-then-count-eq0
returns-then-count-eq0 c bank kept = all_solved bank c.args.store.now (sym c.if-count-eq0.true ∙ c.unsolved_from-count.ensures bank kept)

pub returns-else-count-eq0 : goal.returns-else-count-eq0
returns-else-count-eq0 c bank kept = some_unsolved bank c.args.store.now c.unsolved_from-count.result c.if-count-eq0.false (c.unsolved_from-count.ensures bank kept)
