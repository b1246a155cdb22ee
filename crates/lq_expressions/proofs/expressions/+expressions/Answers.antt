use Rattle.std.proofs.Common.{◌≡◌, ◌+◌, Ok, arith, ap, sym, subst, ◌∙◌}
use Rattle.std.specs.Prelude.{map, codes}
use Rattle.lq_ast.specs.Tactics.{match, clauses_of}
use Rattle.lq_ast.specs.Plain.{plain}
use Rattle.lq_ast.specs.PlainTactics.{plain_tac, plain_step, plain_clause, plain_binding}
use Rattle.lq_ast.proofs.TacticLaws.{plain_match}
use Rattle.lq_grammar.specs.declared.token.Symbol.TheVariants.{Bar, Semicolon}
use Rattle.lq_sentences.specs.Words.{is_sign, reads}
use Rattle.lq_sentences.specs.Rules.{read}
use Rattle.lq_sentences.specs.Arguments.{argument_at, one_place}
use Rattle.lq_sentences.specs.Matches.{clause, one_more}
use Rattle.lq_sentences.specs.Tactics.{bind, step}
use Rattle.lq_sentences.proofs.LoopLaws.{word_takes, read_shorter}
use Rattle.lq_phrases.specs.declared.word.Ends.TheVariants.{Nothing}
use Rattle.lq_phrases.specs.Views.{placed_of, here, free, Fails, Gives}
use Rattle.lq_phrases.proofs.Loops.{many_from, many_step, map_more}
use Rattle.lq_parts.specs.Views.{mode_of, head_of}
use Rattle.lq_expressions.specs.Views.{a_tac, places_of}
use Rattle.lq_expressions.proofs.LevelLaws.{steps_fail, steps_give, place_fails, place_gives, let_fails, let_is, clauses_are, clause_fails, clause_is, right_fails, right_gives, match_fails, match_gives}
use Rattle.lq_expressions.proofs.expressions.+expressions.Goals as goal

pub more_steps-loop-alloc-smaller : goal.more_steps-loop-alloc-smaller
more_steps-loop-alloc-smaller t c =
    omega (arith, word_takes _ _ _ _ _ c.in_ok-take.ensures, read_shorter (step (here c.args.inside c.args.ends)) _ _ _ c.in_ok-step.ensures)

pub more_args-loop-alloc-smaller : goal.more_args-loop-alloc-smaller
more_args-loop-alloc-smaller t c =
    omega (arith, word_takes _ _ _ _ _ c.in_ok-next.ensures, read_shorter (argument_at (here c.args.inside c.args.ends) (placed_of c.in_ok-next.next)) _ _ _ c.in_ok-argument_at.ensures)

pub more_tacs-loop-alloc-smaller : goal.more_tacs-loop-alloc-smaller
more_tacs-loop-alloc-smaller t c =
    omega (arith, word_takes _ _ _ _ _ c.in_ok-take.ensures, read_shorter (a_tac c.args.inside Nothing) _ _ _ c.in_ok-tac.ensures)

pub more_bindings-loop-alloc-smaller : goal.more_bindings-loop-alloc-smaller
more_bindings-loop-alloc-smaller t c =
    omega (arith, word_takes _ _ _ _ _ c.in_ok-take.ensures, read_shorter (bind (free c.args.inside)) _ _ _ c.in_ok-bind.ensures)

pub more_places-loop-alloc-smaller : goal.more_places-loop-alloc-smaller
more_places-loop-alloc-smaller t c =
    omega (arith, word_takes _ _ _ _ _ c.in_ok-take.ensures, read_shorter (one_place (free c.args.inside) (places_of c.loop-alloc.found)) _ _ _ c.in_ok-one_place.ensures)

pub more_clauses-loop-alloc-smaller : goal.more_clauses-loop-alloc-smaller
more_clauses-loop-alloc-smaller t c =
    omega (
      arith,
      word_takes _ _ _ _ _ c.in_ok-take.ensures,
      read_shorter (one_more (map plain_clause c.loop-alloc.found, mode_of c.loop-alloc.last) (clause (free c.args.inside) (mode_of c.loop-alloc.last))) _ _ _ c.in_ok-last.ensures,
    )

pub more_steps-loop-alloc-preserved : goal.more_steps-loop-alloc-preserved
more_steps-loop-alloc-preserved t c =
    many_step (c.args.inside + 1) (is_sign Semicolon) (λ w. step (here c.args.inside c.args.ends)) (map plain_step c.loop-alloc.found) c.loop-alloc.cursor (placed_of c.in_ok-take.field-0) c.take.new.self (plain_step c.in_ok-step.field-0) c.step.new.cursor
    c.loop-alloc.invariant (sym c.sees.ensures ∙ c.loop-alloc-test.true) c.in_ok-take.ensures c.in_ok-step.ensures
    ∙ ap (λ ss. many_from (c.args.inside + 1) (is_sign Semicolon) (λ w. step (here c.args.inside c.args.ends)) ss c.step.new.cursor)
    (sym (ap (map plain_step) c.in_ok-push.ensures.ok ∙ map_more plain_step c.loop-alloc.found c.in_ok-step.field-0))

pub more_tacs-loop-alloc-preserved : goal.more_tacs-loop-alloc-preserved
more_tacs-loop-alloc-preserved t c =
    many_step c.args.inside (is_sign Bar) (λ w. a_tac c.args.inside Nothing) (map plain_tac c.loop-alloc.found) c.loop-alloc.cursor (placed_of c.in_ok-take.field-0) c.take.new.self (plain_tac c.in_ok-tac.field-0) c.tac.new.cursor
    c.loop-alloc.invariant (sym c.sees.ensures ∙ c.loop-alloc-test.true) c.in_ok-take.ensures c.in_ok-tac.ensures
    ∙ ap (λ xs. many_from c.args.inside (is_sign Bar) (λ w. a_tac c.args.inside Nothing) xs c.tac.new.cursor)
    (sym (ap (map plain_tac) c.in_ok-push.ensures.ok ∙ map_more plain_tac c.loop-alloc.found c.in_ok-tac.field-0))

pub more_bindings-loop-alloc-preserved : goal.more_bindings-loop-alloc-preserved
more_bindings-loop-alloc-preserved t c =
    many_step c.args.inside (reads (codes "with")) (λ w. bind (free c.args.inside)) (map plain_binding c.loop-alloc.found) c.loop-alloc.cursor (placed_of c.in_ok-take.field-0) c.take.new.self (plain_binding c.in_ok-bind.field-0) c.bind.new.cursor
    c.loop-alloc.invariant (sym c.sees.ensures ∙ c.loop-alloc-test.true) c.in_ok-take.ensures c.in_ok-bind.ensures
    ∙ ap (λ xs. many_from c.args.inside (reads (codes "with")) (λ w. bind (free c.args.inside)) xs c.bind.new.cursor)
    (sym (ap (map plain_binding) c.in_ok-push.ensures.ok ∙ map_more plain_binding c.loop-alloc.found c.in_ok-bind.field-0))

pub steps_behind-returns-in-Err : goal.steps_behind-returns-in-Err
steps_behind-returns-in-Err t c =
    steps_fail (here c.args.inside c.args.ends) (plain_tac c.args.first) c.in-Err.refusal c.args.cursor.now (map plain_step c.new-found.result) (ap (map plain_step) c.new-found.ensures) c.in-Err.ensures

pub steps_behind-returns-in_ok-sequence-in-Ok : goal.steps_behind-returns-in_ok-sequence-in-Ok
steps_behind-returns-in_ok-sequence-in-Ok t c =
    steps_give (here c.args.inside c.args.ends) (plain_tac c.args.first) (plain_tac c.in_ok-sequence-in-Ok.field-0) c.args.cursor.now (map plain_step c.new-found.result) (map plain_step c.more_steps.new.found) c.more_steps.new.cursor
    (ap (map plain_step) c.new-found.ensures) c.in-Ok.ensures c.in_ok-sequence-in-Ok.ensures

pub first_place-returns-in-Ok : goal.first_place-returns-in-Ok
first_place-returns-in-Ok t c =
    subst (λ p. read (one_place (free c.args.inside) p) c.args.cursor.now ≡ Ok (places_of c.one_place.new.found, c.one_place.new.cursor)) c.new-found.ensures c.in-Ok.ensures

pub first_place-returns-in-Err : goal.first_place-returns-in-Err
first_place-returns-in-Err t c =
    subst (λ p. Fails c.in-Err.refusal (read (one_place (free c.args.inside) p) c.args.cursor.now)) c.new-found.ensures c.in-Err.ensures

pub one_place-returns-in-Err : goal.one_place-returns-in-Err
one_place-returns-in-Err t c =
    place_fails c.args.inside (places_of c.args.found.now) (plain_tac c.in_ok-whole.whole) c.is_unfilled.result c.args.cursor.now c.place.new.cursor c.in-Err.refusal c.in_ok-whole.ensures c.is_unfilled.ensures c.in-Err.ensures

pub one_place-returns-in_ok-put-in-Ok : goal.one_place-returns-in_ok-put-in-Ok
one_place-returns-in_ok-put-in-Ok t c =
    place_gives c.args.inside (places_of c.args.found.now) (places_of c.put.new.self) (plain_tac c.in_ok-whole.whole) c.is_unfilled.result c.in-Ok.fills c.args.cursor.now c.place.new.cursor c.eat.new.self
    c.in_ok-whole.ensures c.is_unfilled.ensures c.in-Ok.ensures c.in_ok-put-in-Ok.ensures

pub let_form-returns-in-Err : goal.let_form-returns-in-Err
let_form-returns-in-Err t c =
    let_fails (here c.args.inside c.args.ends) c.in_ok-is_rec.is_rec c.args.cursor.now c.eat.new.self c.in-Err.refusal c.in_ok-is_rec.ensures c.in-Err.ensures

pub let_form-returns-in-Ok : goal.let_form-returns-in-Ok
let_form-returns-in-Ok t c =
    subst (λ r. Gives plain_tac r c.let_behind.result c.let_behind.new.cursor)
    (sym (let_is (here c.args.inside c.args.ends) c.in_ok-is_rec.is_rec c.args.cursor.now c.eat.new.self c.bindings.new.cursor (map plain_binding c.in-Ok.found) c.in_ok-is_rec.ensures c.in-Ok.ensures)) c.let_behind.ensures

pub clauses-returns : goal.clauses-returns
clauses-returns t c =
    subst (λ r. Gives (λ m. (map plain_clause c.more_clauses.new.found, mode_of m)) r c.more_clauses.result c.more_clauses.new.cursor)
    (sym (clauses_are c.args.inside (mode_of c.args.mode) c.args.cursor.now c.eat.new.self c.one_clause.new.cursor c.in_ok-eat.field-0 (map plain_clause c.args.found.now) (map plain_clause c.one_clause.new.found, mode_of c.in_ok-next.next)
    c.in_ok-eat.ensures (ap (map plain_clause) c.requires.none) c.in_ok-next.ensures)) c.more_clauses.ensures

pub one_clause-returns-in-Err : goal.one_clause-returns-in-Err
one_clause-returns-in-Err t c =
    clause_fails (free c.args.inside) (map plain_clause c.args.found.now) (mode_of c.args.mode) c.in-Err.refusal c.args.cursor.now c.in-Err.ensures

pub one_clause-returns-in-Ok : goal.one_clause-returns-in-Ok
one_clause-returns-in-Ok t c =
    subst (λ r. Gives (λ m. (map plain_clause c.right_of.new.found, mode_of m)) r c.right_of.result c.right_of.new.cursor)
    (sym (clause_is (free c.args.inside) (map plain_clause c.args.found.now) (mode_of c.args.mode) (head_of c.in-Ok.head, mode_of c.in-Ok.next) c.args.cursor.now c.clause_head.new.cursor c.in-Ok.ensures)) c.right_of.ensures

pub match_form-returns-in-Err : goal.match_form-returns-in-Err
match_form-returns-in-Err t c =
    match_fails (free c.args.inside) c.args.manner (c.in_ok-reversed.reversed, plain c.in_ok-reversed.subject, mode_of c.in_ok-reversed.mode) c.in-Err.refusal c.args.cursor.now c.match_head.new.cursor c.in_ok-reversed.ensures c.in-Err.ensures

pub match_form-returns-in-Ok : goal.match_form-returns-in-Ok
match_form-returns-in-Ok t c =
    match_gives (free c.args.inside) c.args.manner (c.in_ok-reversed.reversed, plain c.in_ok-reversed.subject, mode_of c.in_ok-reversed.mode) (map plain_clause c.in-Ok.found, mode_of c.in-Ok.last) _
    c.args.cursor.now c.match_head.new.cursor c.match_clauses.new.cursor c.in_ok-reversed.ensures c.in-Ok.ensures
    (plain_match c.args.manner c.matched_of.result c.in-Ok.found ∙ ap (λ w. match c.args.manner w (clauses_of (map plain_clause c.in-Ok.found))) c.matched_of.ensures)

pub right_of-returns-in-Err : goal.right_of-returns-in-Err
right_of-returns-in-Err t c =
    right_fails (free c.args.inside) (head_of c.args.head, mode_of c.args.next) (map plain_clause c.args.found.now) c.in-Err.refusal c.args.cursor.now c.in-Err.ensures

pub right_of-returns-in_ok-put_clause-in-Ok : goal.right_of-returns-in_ok-put_clause-in-Ok
right_of-returns-in_ok-put_clause-in-Ok t c =
    right_gives (free c.args.inside) (head_of c.args.head, mode_of c.args.next) (map plain_clause c.args.found.now) (map plain_clause c.put_clause.new.found) (plain_tac c.in-Ok.whole) c.args.cursor.now c.right_side.new.cursor
    c.in-Ok.ensures c.in_ok-put_clause-in-Ok.ensures
