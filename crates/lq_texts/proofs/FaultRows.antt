-- The texts of faults, computed: each line of their table.
use Rattle.std.specs.Prelude.{◌≡◌, refl, ℕ, List, [], ◌∷◌, map, codes}
use Rattle.lq_trees.specs.declared.Sort.{Sort as Universe}
use Rattle.lq_texts.specs.Causes.{Cause, bad_char, bad_number, open_comment, open_string, unexpected, end_inside, too_nested, sentence_too_long, not_built, no_proof, nested_proof, open_proof, open_goals, unresolved, has_not_failed, bad_count, name_taken, ltac_taken, not_positive, nested_use, bad_result, too_big, elim_forbidden, unknown, not_a_product, not_a_sort, mismatch, no_sort_above, cannot_infer, has_variable, steps_out, too_large, too_deep, full, no_such_goal, no_such_name, not_one, not_solved, wrong_bullet, nothing_focused, no_brace, too_many_goals, nothing_to_introduce, name_in_use, cannot_apply, not_determined, no_assumption, not_inductive, no_constructor, constructors, no_argument, not_equality, do_not_unify, ill_typed, not_a_hypothesis, wrong_names, not_an_equation, nothing_to_rewrite, not_transparent, does_not_occur, not_convertible, still_used, failure, nothing_applies, no_match, no_progress, many_successes, no_more, wrong_count, not_runnable, not_a_function, not_a_term, not_a_name, not_a_number, has_vars, partial, in_goal}
use Rattle.lq_texts.specs.Faults.{cause_text, fault_text, error_line}
use Rattle.lq_texts.proofs.Computing.{printing}
use Rattle.lq_texts.proofs.Samples.{a_, b_, f_, arrow, same}

abbrev told : List Cause → List (List ℕ)
told cs = map (cause_text []) cs

tokens : told (bad_char 6 ∷ bad_number 6 ∷ open_comment 0 ∷ open_string 11 ∷ unexpected 3 ∷ end_inside 16 ∷ too_nested 207 ∷ sentence_too_long 0 ∷ [])
    ≡ codes "bad character at 6" ∷ codes "bad number at 6" ∷ codes "comment opened at 0 is not closed" ∷ codes "string opened at 11 is not closed"
    ∷ codes "unexpected token at 3"
    ∷ codes "text ends inside a sentence at 16" ∷ codes "nested more than 200 deep at 207" ∷ codes "sentence longer than 65536 bytes at 0" ∷ []
unfolding printing
tokens = refl

sentences : told (not_built ∷ no_proof ∷ nested_proof (codes "t") ∷ open_proof (codes "t")
    ∷ open_goals 1 ∷ unresolved 2 ∷ has_not_failed ∷ bad_count 1001 ∷ name_taken (codes "t") ∷ ltac_taken (codes "f") ∷ [])
    ≡ codes "not built" ∷ codes "no proof is open" ∷ codes "proof of t is open" ∷ codes "script ends inside the proof of t" ∷ codes "open goals: 1"
    ∷ codes "variables without a value: 2"
    ∷ codes "the sentence has not failed" ∷ codes "count 1001 is out of range" ∷ codes "t is declared already" ∷ codes "Ltac f is defined already" ∷ []
unfolding printing
sentences = refl

declarations : told (not_positive (codes "mk") 1 ∷ nested_use (codes "mk") 2 ∷ bad_result (codes "mk") ∷ too_big (codes "mk") 3 ∷ elim_forbidden (codes "or")
    (Universe.Level 0) ∷ elim_forbidden (codes "or") Universe.Base ∷ [])
    ≡ codes "argument 1 of mk is not positive" ∷ codes "argument 2 of mk is a nested use" ∷ codes "mk has a wrong result"
    ∷ codes "argument 3 of mk is too big" ∷ codes "or cannot be eliminated into Type 0"
    ∷ codes "or cannot be eliminated into Prop" ∷ []
unfolding printing
declarations = refl

typing : told (unknown (codes "n") ∷ not_a_product a_ ∷ not_a_sort arrow ∷ mismatch arrow same ∷ no_sort_above ∷ cannot_infer 4 ∷ has_variable 3 ∷ steps_out
    ∷ too_large ∷ too_deep ∷ full ∷ [])
    ≡ codes "unknown name n" ∷ codes "not a product: a" ∷ codes "not a sort: a -> b" ∷ codes "found a -> b, wanted fun x : Prop => x"
    ∷ codes "no sort above Type 3" ∷ codes "cannot infer at 4"
    ∷ codes "variable ?3 in a finished term" ∷ codes "steps out" ∷ codes "term of more than 1000000 nodes" ∷ codes "term deeper than 2000"
    ∷ codes "too many variables" ∷ []
unfolding printing
typing = refl

goals : told (no_such_goal 2 ∷ no_such_name (codes "g")
    ∷ not_one 3 ∷ not_solved 1 ∷ wrong_bullet 45 1 ∷ wrong_bullet 42 3 ∷ nothing_focused ∷ no_brace ∷ too_many_goals ∷ [])
    ≡ codes "no goal 2" ∷ codes "no goal named g" ∷ codes "3 goals, wanted one" ∷ codes "goals left: 1" ∷ codes "expected bullet -"
    ∷ codes "expected bullet ***" ∷ codes "no goal is focused"
    ∷ codes "no brace is open" ∷ codes "more than 10000 goals" ∷ []
unfolding printing
goals = refl

primitives : told (nothing_to_introduce ∷ name_in_use (codes "x") ∷ cannot_apply f_ arrow ∷ not_determined (codes "n")
    ∷ not_determined [] ∷ no_assumption ∷ not_inductive arrow ∷ no_constructor 3 ∷ constructors 2 1 ∷ no_argument ∷ not_equality a_ ∷ do_not_unify a_ b_ ∷ [])
    ≡ codes "nothing to introduce" ∷ codes "name x is in use" ∷ codes "cannot apply f to a -> b" ∷ codes "n is not determined" ∷ codes "_ is not determined"
    ∷ codes "no assumption fits"
    ∷ codes "not an inductive type: a -> b" ∷ codes "no constructor 3" ∷ codes "2 constructors, wanted 1" ∷ codes "the constructor has no argument"
    ∷ codes "not an equality: a" ∷ codes "a and b do not unify" ∷ []
unfolding printing
primitives = refl

rules : told (ill_typed ∷ not_a_hypothesis (codes "x") ∷ wrong_names ∷ not_an_equation a_ ∷ nothing_to_rewrite ∷ not_transparent (codes "c") ∷ does_not_occur
    (codes "c") ∷ not_convertible a_ arrow ∷ still_used (codes "x") ∷ [])
    ≡ codes "ill-typed predicate" ∷ codes "x is not a hypothesis" ∷ codes "wrong names after as" ∷ codes "not an equation: a" ∷ codes "nothing to rewrite"
    ∷ codes "c is not transparent"
    ∷ codes "c does not occur" ∷ codes "a and a -> b are not convertible" ∷ codes "x is still used" ∷ []
unfolding printing
rules = refl

ltac : told (failure [] ∷ failure (codes "a" ∷ codes "b" ∷ []) ∷ failure ([] ∷ [])
    ∷ nothing_applies ∷ no_match ∷ no_progress ∷ many_successes ∷ no_more ∷ wrong_count 2 3 ∷ not_runnable ∷ not_a_function ∷ [])
    ≡ codes "Ltac failure" ∷ codes "Ltac failure: a b" ∷ codes "Ltac failure: " ∷ codes "nothing applies" ∷ codes "no matching clause" ∷ codes "no progress"
    ∷ codes "more than one success"
    ∷ codes "no more success" ∷ codes "2 goals, 3 branches" ∷ codes "value cannot be run" ∷ codes "too many arguments" ∷ []
unfolding printing
ltac = refl

values : told (not_a_term (codes "x") ∷ not_a_name (codes "x") ∷ not_a_number (codes "x")
    ∷ has_vars 2 ∷ partial 1 ∷ in_goal 3 no_assumption 0 ∷ in_goal 3 steps_out 0 ∷ in_goal 2 (failure []) 1 ∷ [])
    ≡ codes "x is not a term" ∷ codes "x is not a name" ∷ codes "x is not a number" ∷ codes "goal 2: it has existential variables"
    ∷ codes "goal 1: neither solved nor left unchanged"
    ∷ codes "goal 3: no assumption fits" ∷ codes "goal 3: steps out" ∷ codes "goal 2: Ltac failure (level 1)" ∷ []
unfolding printing
values = refl

-- a level above 0 is told
levels : map (fault_text [] (failure (codes "a" ∷ []))) (0 ∷ 1 ∷ 12 ∷ [])
    ≡ codes "Ltac failure: a" ∷ codes "Ltac failure: a (level 1)" ∷ codes "Ltac failure: a (level 12)" ∷ []
unfolding printing
levels = refl

-- the last line of a run
line : error_line [] 5 (wrong_bullet 45 1) 0 ≡ codes "Error: sentence 5: expected bullet -\n"
unfolding printing
line = refl

line_at_level : error_line [] 2 (failure []) 1 ≡ codes "Error: sentence 2: Ltac failure (level 1)\n"
unfolding printing
line_at_level = refl
