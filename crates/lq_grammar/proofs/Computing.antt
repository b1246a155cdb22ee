-- What opens when a text is cut by computation.
use Rattle.unicode_ident.proofs.Computing.{unicode_ident}
use Rattle.lq_grammar.specs.Cells.{cells_from, place, front, window, past, goes_on}
use Rattle.lq_grammar.specs.Tokens.{starts_name, continues_name, comment_from, comment_at, string_from, name_at, value_from, number_by, bullet_at, pair_of, single_of, is_clear, single_at, pair_at, symbol_at, class_of, found_at, found}
use Rattle.lq_grammar.specs.Selectors.{ranges_to_colon, opens, closes}
use Rattle.lq_grammar.specs.Cutting.{gathered, is_space, begun, next}

unfoldable pub cutting : Unit {0}
unfolding
    unicode_ident cells_from place front window past goes_on starts_name continues_name comment_from comment_at string_from name_at value_from number_by bullet_at pair_of single_of is_clear single_at pair_at symbol_at class_of found_at found ranges_to_colon opens closes gathered is_space begun next
cutting = tt
