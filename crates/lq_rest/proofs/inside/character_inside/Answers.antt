use Rattle.lq_rest.proofs.InsideLaws.{character_by}
use Rattle.lq_rest.proofs.inside.character_inside.Goals as goal

pub returns : goal.returns
returns c = character_by c.args.view.now c.args.at c.name_end.result c.is_cut_character.result c.requires.whole c.requires.at c.is_cut_character.ensures c.name_end.ensures
