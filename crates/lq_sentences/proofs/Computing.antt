-- What opens when a text is cut and read by computation.
use Rattle.lq_grammar.proofs.Computing.{cutting}
use Rattle.lq_ast.specs.Syntax.{applied, bound}
use Rattle.lq_ast.specs.Tactics.{tacs_of, clauses_of, bindings_of, args_of, stepped, sequence}
use Rattle.lq_sentences.specs.Words.{undoubled, but_last, word_of, words, is_name, is_number, is_quoted, same_symbol, is_sign, reads}
use Rattle.lq_sentences.specs.Rules.{sees, read_word, turns, repeated}
use Rattle.lq_sentences.specs.Parts.{entry}
use Rattle.lq_sentences.specs.Terms.{levels, atom_level, term_behind}
use Rattle.lq_sentences.specs.Primitives.{primitive_words}
use Rattle.lq_sentences.specs.Tactics.{form_words, prefix_words, level}
use Rattle.lq_sentences.specs.Sentences.{command_words, opens, a_command, selector, whole_command, whole_tac, whole_selected, whole_open, whole_mark}
use Rattle.lq_sentences.specs.Reading.{statement, stated_by, statements, sentence, is_closed_behind, read_sentence}

unfoldable pub reading : Unit {0}
unfolding
    cutting applied bound tacs_of clauses_of bindings_of args_of stepped sequence undoubled but_last word_of words is_name is_number is_quoted same_symbol is_sign reads sees read_word turns repeated entry levels atom_level term_behind primitive_words form_words prefix_words level command_words opens a_command selector whole_command whole_tac whole_selected whole_open whole_mark statement stated_by statements sentence is_closed_behind read_sentence
reading = tt
