use Rattle.std.proofs.Common.{◌≡◌, ◌+◌, ◌*◌, length, map, codes}
use Rattle.lq_grammar.specs.declared.token.Symbol.TheVariants.{Bar, Semicolon}
use Rattle.lq_ast.specs.PlainTactics.{plain_tac, plain_step, plain_clause, plain_binding, plain_arg}
use Rattle.lq_sentences.specs.Words.{is_sign, reads}
use Rattle.lq_sentences.specs.Rules.{read}
use Rattle.lq_sentences.specs.Parts.{many}
use Rattle.lq_sentences.specs.Arguments.{begins_arg, argument_at, one_place}
use Rattle.lq_sentences.specs.Matches.{clause, one_more}
use Rattle.lq_sentences.specs.Tactics.{bind, step}
use Rattle.lq_phrases.specs.declared.word.Ends.TheVariants.{Nothing}
use Rattle.lq_phrases.specs.Views.{ends_of, here, free}
use Rattle.lq_phrases.proofs.Loops.{many_from, loop_from}
use Rattle.lq_parts.specs.Views.{mode_of}
use Rattle.lq_expressions.specs.Views.{a_tac, more_places, more_clauses, places_of}
use Rattle.lq_expressions.proofs.expressions.+expressions.Given as goal

abbrev pub decreases-tac : goal.decreases-tac
decreases-tac l = 40 * l.levels

abbrev pub decreases-pre_tac : goal.decreases-pre_tac
decreases-pre_tac l = 40 * l.levels

abbrev pub decreases-boxed_tac : goal.decreases-boxed_tac
decreases-boxed_tac l = 40 * l.levels + 1

abbrev pub decreases-boxed_pre : goal.decreases-boxed_pre
decreases-boxed_pre l = 40 * l.levels + 1

abbrev pub decreases-tac_in : goal.decreases-tac_in
decreases-tac_in l = 40 * l.inside + 38

abbrev pub decreases-steps_behind : goal.decreases-steps_behind
decreases-steps_behind l = 40 * l.inside + 37

abbrev pub decreases-more_steps : goal.decreases-more_steps
decreases-more_steps l = 40 * l.inside + 36

abbrev pub decreases-step : goal.decreases-step
decreases-step l = 40 * l.inside + 35

abbrev pub decreases-pre_in : goal.decreases-pre_in
decreases-pre_in l = 40 * l.inside + 34

abbrev pub decreases-pre_at : goal.decreases-pre_at
decreases-pre_at l = 40 * l.inside + 33

abbrev pub decreases-basic : goal.decreases-basic
decreases-basic l = 40 * l.inside + 32

abbrev pub decreases-operated : goal.decreases-operated
decreases-operated l = 40 * l.inside + 3

abbrev pub decreases-basic_at : goal.decreases-basic_at
decreases-basic_at l = 40 * l.inside + 31

abbrev pub decreases-round_tac : goal.decreases-round_tac
decreases-round_tac l = 40 * l.inside + 2

abbrev pub decreases-named : goal.decreases-named
decreases-named l = 40 * l.inside + 30

abbrev pub decreases-form_of : goal.decreases-form_of
decreases-form_of l = 40 * l.inside + 29

abbrev pub decreases-prefixed : goal.decreases-prefixed
decreases-prefixed l = 40 * l.inside + 10

abbrev pub decreases-do_form : goal.decreases-do_form
decreases-do_form l = 40 * l.inside + 3

abbrev pub decreases-tryif_form : goal.decreases-tryif_form
decreases-tryif_form l = 40 * l.inside + 3

abbrev pub decreases-call : goal.decreases-call
decreases-call l = 40 * l.inside + 12

abbrev pub decreases-more_args : goal.decreases-more_args
decreases-more_args l = 40 * l.inside + 11

abbrev pub decreases-argument_at : goal.decreases-argument_at
decreases-argument_at l = 40 * l.inside + 10

abbrev pub decreases-behind_ltac : goal.decreases-behind_ltac
decreases-behind_ltac l = 40 * l.inside + 2

abbrev pub decreases-first_form : goal.decreases-first_form
decreases-first_form l = 40 * l.inside + 10

abbrev pub decreases-solve_form : goal.decreases-solve_form
decreases-solve_form l = 40 * l.inside + 10

abbrev pub decreases-list : goal.decreases-list
decreases-list l = 40 * l.inside + 9

abbrev pub decreases-more_tacs : goal.decreases-more_tacs
decreases-more_tacs l = 40 * l.inside + 8

abbrev pub decreases-branches : goal.decreases-branches
decreases-branches l = 40 * l.inside + 12

abbrev pub decreases-first_place : goal.decreases-first_place
decreases-first_place l = 40 * l.inside + 11

abbrev pub decreases-one_place : goal.decreases-one_place
decreases-one_place l = 40 * l.inside + 10

abbrev pub decreases-place : goal.decreases-place
decreases-place l = 40 * l.inside + 9

abbrev pub decreases-more_places : goal.decreases-more_places
decreases-more_places l = 40 * l.inside + 11

abbrev pub decreases-function_form : goal.decreases-function_form
decreases-function_form l = 40 * l.inside + 3

abbrev pub decreases-let_form : goal.decreases-let_form
decreases-let_form l = 40 * l.inside + 10

abbrev pub decreases-let_behind : goal.decreases-let_behind
decreases-let_behind l = 40 * l.inside + 2

abbrev pub decreases-bindings : goal.decreases-bindings
decreases-bindings l = 40 * l.inside + 9

abbrev pub decreases-bind : goal.decreases-bind
decreases-bind l = 40 * l.inside + 2

abbrev pub decreases-more_bindings : goal.decreases-more_bindings
decreases-more_bindings l = 40 * l.inside + 8

abbrev pub decreases-match_form : goal.decreases-match_form
decreases-match_form l = 40 * l.inside + 17

abbrev pub decreases-clauses : goal.decreases-clauses
decreases-clauses l = 40 * l.inside + 15

abbrev pub decreases-one_clause : goal.decreases-one_clause
decreases-one_clause l = 40 * l.inside + 12

abbrev pub decreases-right_of : goal.decreases-right_of
decreases-right_of l = 40 * l.inside + 3

abbrev pub decreases-match_clauses : goal.decreases-match_clauses
decreases-match_clauses l = 40 * l.inside + 16

abbrev pub decreases-right_side : goal.decreases-right_side
decreases-right_side l = 40 * l.inside + 2

abbrev pub decreases-more_clauses : goal.decreases-more_clauses
decreases-more_clauses l = 40 * l.inside + 14

abbrev pub invariant-more_steps-loop-alloc : goal.invariant-more_steps-loop-alloc
invariant-more_steps-loop-alloc l =
    read (many (l.fn.inside + 1) (is_sign Semicolon) (λ w. step (here l.fn.inside l.fn.ends)) (map plain_step l.fn.found)) l.fn.cursor
    ≡ many_from (l.fn.inside + 1) (is_sign Semicolon) (λ w. step (here l.fn.inside l.fn.ends)) (map plain_step l.found) l.cursor

abbrev pub decreases-more_steps-loop-alloc : goal.decreases-more_steps-loop-alloc
decreases-more_steps-loop-alloc l = length l.cursor

abbrev pub invariant-more_args-loop-alloc : goal.invariant-more_args-loop-alloc
invariant-more_args-loop-alloc l =
    read (many (l.fn.inside + 1) (begins_arg (ends_of l.fn.ends)) (argument_at (here l.fn.inside l.fn.ends)) (map plain_arg l.fn.found)) l.fn.cursor
    ≡ many_from (l.fn.inside + 1) (begins_arg (ends_of l.fn.ends)) (argument_at (here l.fn.inside l.fn.ends)) (map plain_arg l.found) l.cursor

abbrev pub decreases-more_args-loop-alloc : goal.decreases-more_args-loop-alloc
decreases-more_args-loop-alloc l = length l.cursor

abbrev pub invariant-more_tacs-loop-alloc : goal.invariant-more_tacs-loop-alloc
invariant-more_tacs-loop-alloc l =
    read (many (l.fn.inside) (is_sign Bar) (λ w. a_tac l.fn.inside Nothing) (map plain_tac l.fn.found)) l.fn.cursor
    ≡ many_from (l.fn.inside) (is_sign Bar) (λ w. a_tac l.fn.inside Nothing) (map plain_tac l.found) l.cursor

abbrev pub decreases-more_tacs-loop-alloc : goal.decreases-more_tacs-loop-alloc
decreases-more_tacs-loop-alloc l = length l.cursor

abbrev pub invariant-more_bindings-loop-alloc : goal.invariant-more_bindings-loop-alloc
invariant-more_bindings-loop-alloc l =
    read (many (l.fn.inside) (reads (codes "with")) (λ w. bind (free l.fn.inside)) (map plain_binding l.fn.found)) l.fn.cursor
    ≡ many_from (l.fn.inside) (reads (codes "with")) (λ w. bind (free l.fn.inside)) (map plain_binding l.found) l.cursor

abbrev pub decreases-more_bindings-loop-alloc : goal.decreases-more_bindings-loop-alloc
decreases-more_bindings-loop-alloc l = length l.cursor

abbrev pub invariant-more_places-loop-alloc : goal.invariant-more_places-loop-alloc
invariant-more_places-loop-alloc l =
    read (more_places l.fn.inside (places_of l.fn.found)) l.fn.cursor
    ≡ loop_from l.fn.inside (λ p w. is_sign Bar w) (λ p w. one_place (free l.fn.inside) p) (places_of l.found) l.cursor

abbrev pub decreases-more_places-loop-alloc : goal.decreases-more_places-loop-alloc
decreases-more_places-loop-alloc l = length l.cursor

abbrev pub invariant-more_clauses-loop-alloc : goal.invariant-more_clauses-loop-alloc
invariant-more_clauses-loop-alloc l =
    read (more_clauses l.fn.inside (map plain_clause l.fn.found, mode_of l.fn.mode)) l.fn.cursor
    ≡ loop_from l.fn.inside (λ cs w. is_sign Bar w) (λ cs w. one_more cs (clause (free l.fn.inside) cs.1)) (map plain_clause l.found, mode_of l.last) l.cursor

abbrev pub decreases-more_clauses-loop-alloc : goal.decreases-more_clauses-loop-alloc
decreases-more_clauses-loop-alloc l = length l.cursor
