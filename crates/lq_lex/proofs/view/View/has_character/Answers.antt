use Rattle.std.proofs.Common.{sym}
use Rattle.lq_lex.proofs.FrontLaws.{character-from, character-none}
use Rattle.lq_lex.proofs.view.View.has_character.Goals as goal

pub returns-in-Letter : goal.returns-in-Letter
returns-in-Letter c = sym (character-from c.args.self.now c.args.at c.in-Letter.field-0 c.in-Letter.field-1 c.in-Letter.ensures)

pub returns-in_default : goal.returns-in_default
returns-in_default c = sym (character-none c.args.self.now c.args.at c.front.result c.front.ensures c.in_default.not-Letter)
