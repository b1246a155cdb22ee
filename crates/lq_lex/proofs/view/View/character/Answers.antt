use Rattle.std.proofs.Common.{◌∙◌}
use Rattle.lq_lex.proofs.FrontLaws.{front-from}
use Rattle.lq_lex.proofs.view.View.character.Goals as goal

pub returns : goal.returns
returns c = c.character.ensures ∙ front-from c.args.self.now c.args.at c.front.result c.front.ensures
