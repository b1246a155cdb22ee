use Rattle.std.proofs.Common.{◌≡◌, take}
use Rattle.std.specs.List.{list_all}
use Rattle.lq_ast.specs.PlainTactics.{plain_tac, plain_step, plain_clause, plain_binding, plain_arg}
use Rattle.lq_sessions.specs.Built.{is_built, clause_built, binding_built, arg_built}
use Rattle.lq_built.specs.Parts.{parts_of, step_built}
use Rattle.lq_built.proofs.expressions.+expressions.Given as goal

abbrev pub invariant-each_built-loop-tac : goal.invariant-each_built-loop-tac
invariant-each_built-loop-tac l = l.all ≡ list_all (λ a. is_built (parts_of l.parts) (plain_tac a)) (take l.tac-index l.tacs)

abbrev pub invariant-steps_built-loop-step : goal.invariant-steps_built-loop-step
invariant-steps_built-loop-step l = l.all ≡ list_all (λ s. step_built (parts_of l.parts) (plain_step s)) (take l.step-index l.steps)

abbrev pub invariant-clauses_built-loop-clause : goal.invariant-clauses_built-loop-clause
invariant-clauses_built-loop-clause l = l.all ≡ list_all (λ c. clause_built (parts_of l.parts) (plain_clause c)) (take l.clause-index l.clauses)

abbrev pub invariant-bindings_built-loop-binding : goal.invariant-bindings_built-loop-binding
invariant-bindings_built-loop-binding l = l.all ≡ list_all (λ b. binding_built (parts_of l.parts) (plain_binding b)) (take l.binding-index l.bindings)

abbrev pub invariant-arguments_built-loop-argument : goal.invariant-arguments_built-loop-argument
invariant-arguments_built-loop-argument l = l.all ≡ list_all (λ a. arg_built (parts_of l.parts) (plain_arg a)) (take l.argument-index l.arguments)
