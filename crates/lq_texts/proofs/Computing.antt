-- What opens when a term, a goal or a fault is printed by computation.
use Rattle.lq_trees.specs.Fresh.{is_listed, fresh_from, fresh_of}
use Rattle.lq_calculus.specs.Contraction.{spine, apply}
use Rattle.lq_calculus.specs.Declarations.{product, products, variables, eliminator_name, family_type, constructor_type, predicate_type, conclusion, premise, premise_end, premises, instance_of, elim_type, permits, constructor_kind, own, own_of, misuse, holds, holds_all, any_holds, are_variables, family_entries, constructor_entries}
use Rattle.lq_texts.specs.Printing.{nth_name, constructor_in, eliminator_text, own_name, printed_name, bound_name, sort_surface, product_surface, surface, name_text, in_brackets, sort_text, term_text, uses, uses_any, names_in, names_in_all, text, kind_text}
use Rattle.lq_texts.specs.Faults.{spaced, with_messages, level_text, argument_text, cause_text, fault_text, error_line}
use Rattle.lq_texts.specs.Views.{goals_text, entry_text, goal_name_text, goal_text, goal_texts, shelf_text, proof_text, in_family, constructor_known, known, known_line, print_text, check_text, outcome_text, end_text, fail_text, defined_text}

unfoldable pub printing : Unit {0}
unfolding
    is_listed fresh_from fresh_of spine apply product products variables eliminator_name family_type constructor_type predicate_type conclusion premise premise_end premises instance_of elim_type permits constructor_kind own own_of misuse holds holds_all any_holds are_variables family_entries constructor_entries nth_name constructor_in eliminator_text own_name printed_name bound_name sort_surface product_surface surface name_text in_brackets sort_text term_text uses uses_any names_in names_in_all text kind_text spaced with_messages level_text argument_text cause_text fault_text error_line goals_text entry_text goal_name_text goal_text goal_texts shelf_text proof_text in_family constructor_known known known_line print_text check_text outcome_text end_text fail_text defined_text Rattle.std.specs.Fmt.digits
printing = tt
