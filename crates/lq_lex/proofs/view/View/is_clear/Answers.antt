use Rattle.std.proofs.Common.{◌∙◌}
use Rattle.lq_lex.proofs.FrontLaws.{clear-from}
use Rattle.lq_lex.proofs.view.View.is_clear.Goals as goal

pub returns : goal.returns
returns c = c.is_clear.ensures ∙ clear-from c.args.self.now c.args.at c.front.result c.front.ensures
