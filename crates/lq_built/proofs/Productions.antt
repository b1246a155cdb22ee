-- What each production asks of its parts.
use Rattle.std.proofs.Common.{◌≡◌, ◌∙◌, ℕ, refl, ap, ap₂, Bool, true, ◌&&◌, ◌||◌, List, [], ◌∷◌, map, Option}
use Rattle.std.specs.List.{list_all}
use Rattle.std.proofs.lemmas.List.Folds.{list_all-map}
use Rattle.lq_ast.specs.Tactics as Tree
use Rattle.lq_ast.specs.Tactics.{tacs_of, clauses_of, bindings_of, args_of}
use Rattle.lq_ast.specs.Plain.{plain_prim}
use Rattle.lq_ast.specs.PlainTactics.{plain_tac, plain_step, plain_clause, plain_binding, plain_arg}
use Rattle.lq_ast.specs.declared.surface.Surface.{Surface}
use Rattle.lq_ast.specs.declared.surface.Pattern.{Pattern}
use Rattle.lq_ast.specs.declared.prim.PrimTac.{PrimTac as UpperPrim}
use Rattle.lq_ast.specs.declared.prim.Rule.{Rule as LowerRule}
use Rattle.lq_ast.specs.declared.tac.Amount.{Amount}
use Rattle.lq_ast.specs.declared.tac.Message.{Message}
use Rattle.lq_ast.specs.declared.tac.Part.{Part}
use Rattle.lq_ast.specs.declared.tac.Manner.{Manner}
use Rattle.lq_ast.specs.declared.tac.Reduction.{Reduction}
use Rattle.lq_ast.specs.declared.tac.Matched.{Matched}
use Rattle.lq_ast.specs.declared.tac.Hyp.{Hyp}
use Rattle.lq_ast.specs.declared.tac.Arg.{Arg, Atom, Numeral, Inner}
use Rattle.lq_ast.specs.declared.tac.Binding.{Binding, the_lemmas}
use Rattle.lq_ast.specs.declared.tac.Clause.{Clause, Any, Pat, Sequent}
use Rattle.lq_ast.specs.declared.tac.Step.{Step, Then, Each, Fill}
use Rattle.lq_ast.specs.declared.tac.Tac.{Tac, Sequence, Try, Repeat, Once, ExactlyOnce, Progress, Do, Tryif, Plus, Orelse, First, Solve, Match, Idtac, Fail, Gfail, Lambda, LetTac, Fresh, TypeOf, Eval, Constr, Context, Number, Prim, Rule, Call, Shelve, Revgoals, Cycle, Swap}
use Rattle.lq_ast.proofs.TacticLaws.{plain_sequence, plain_try, plain_repeat, plain_once, plain_exactly_once, plain_progress, plain_do, plain_tryif, plain_plus, plain_orelse, plain_first, plain_solve, plain_match, plain_idtac, plain_fail, plain_gfail, plain_lambda, plain_let_tac, plain_fresh, plain_type_of, plain_eval, plain_constr, plain_context, plain_number, plain_prim_tac, plain_rule_tac, plain_call, plain_shelve, plain_revgoals, plain_cycle, plain_swap, plain_then, plain_each, plain_fill, plain_any, plain_pat, plain_sequent, plain_atom, plain_numeral, plain_inner}
use Rattle.lq_sessions.specs.Built.{Parts, no_messages, is_built, all_built, clause_built, binding_built, arg_built}
use Rattle.lq_built.specs.Parts.{prim_built, step_built}
use Rattle.lq_built.proofs.RowLaws.{all_listed, clauses_listed, bindings_listed, arguments_listed, sequence_built}

binding_is : (x : List ℕ) (xs : List (List ℕ)) (a : Tac) → plain_binding (record { name = x; parameters = xs; value = a }) ≡ Tree.binds x xs (plain_tac a)
unfolding plain_tac plain_binding
binding_is x xs a = search the_lemmas

module _ (b : Parts) where
  -- rows as the program has them
  tacs_built : (as_ : List Tac) → all_built b (tacs_of (map plain_tac as_)) ≡ list_all (λ a. is_built b (plain_tac a)) as_
  tacs_built as_ = all_listed b (map plain_tac as_) ∙ list_all-map (is_built b) plain_tac as_

  pub built_sequence : (a : Tac) (ss : List Step) → is_built b (plain_tac (Sequence a ss)) ≡ (is_built b (plain_tac a) && list_all (λ s. step_built b (plain_step s)) ss)
  unfolding is_built
  built_sequence a ss = ap (is_built b) (plain_sequence a ss)
      ∙ sequence_built b (plain_tac a) (map plain_step ss) ∙ ap (λ z. is_built b (plain_tac a) && z) (list_all-map (step_built b) plain_step ss)

  pub built_try : (a : Tac) → is_built b (plain_tac (Try a)) ≡ (b.values && is_built b (plain_tac a))
  unfolding is_built
  built_try a = ap (is_built b) (plain_try a)

  pub built_repeat : (a : Tac) → is_built b (plain_tac (Repeat a)) ≡ (b.values && is_built b (plain_tac a))
  unfolding is_built
  built_repeat a = ap (is_built b) (plain_repeat a)

  pub built_once : (a : Tac) → is_built b (plain_tac (Once a)) ≡ (b.values && is_built b (plain_tac a))
  unfolding is_built
  built_once a = ap (is_built b) (plain_once a)

  pub built_exactly_once : (a : Tac) → is_built b (plain_tac (ExactlyOnce a)) ≡ (b.backtracking && is_built b (plain_tac a))
  unfolding is_built
  built_exactly_once a = ap (is_built b) (plain_exactly_once a)

  pub built_progress : (a : Tac) → is_built b (plain_tac (Progress a)) ≡ (b.values && is_built b (plain_tac a))
  unfolding is_built
  built_progress a = ap (is_built b) (plain_progress a)

  pub built_do : (n : Amount) (a : Tac) → is_built b (plain_tac (Do n a)) ≡ (b.values && is_built b (plain_tac a))
  unfolding is_built
  built_do n a = ap (is_built b) (plain_do n a)

  pub built_tryif : (a c d : Tac) → is_built b (plain_tac (Tryif a c d)) ≡ (b.values && is_built b (plain_tac a) && is_built b (plain_tac c) && is_built b (plain_tac d))
  unfolding is_built
  built_tryif a c d = ap (is_built b) (plain_tryif a c d)

  pub built_plus : (a c : Tac) → is_built b (plain_tac (Plus a c)) ≡ (b.backtracking && is_built b (plain_tac a) && is_built b (plain_tac c))
  unfolding is_built
  built_plus a c = ap (is_built b) (plain_plus a c)

  pub built_orelse : (a c : Tac) → is_built b (plain_tac (Orelse a c)) ≡ (b.values && is_built b (plain_tac a) && is_built b (plain_tac c))
  unfolding is_built
  built_orelse a c = ap (is_built b) (plain_orelse a c)

  pub built_first : (as_ : List Tac) → is_built b (plain_tac (First as_)) ≡ (b.values && list_all (λ a. is_built b (plain_tac a)) as_)
  unfolding is_built
  built_first as_ = ap (is_built b) (plain_first as_)
      ∙ ap (λ z. b.values && z) (tacs_built as_)

  pub built_solve : (as_ : List Tac) → is_built b (plain_tac (Solve as_)) ≡ (b.values && list_all (λ a. is_built b (plain_tac a)) as_)
  unfolding is_built
  built_solve as_ = ap (is_built b) (plain_solve as_)
      ∙ ap (λ z. b.values && z) (tacs_built as_)

  pub built_match : (m : Manner) (w : Matched) (cs : List Clause) → is_built b (plain_tac (Match m w cs)) ≡ (b.matching && list_all (λ c. clause_built b (plain_clause c)) cs)
  unfolding is_built
  built_match m w cs = ap (is_built b) (plain_match m w cs)
      ∙ ap (λ z. b.matching && z) (clauses_listed b (map plain_clause cs) ∙ list_all-map (clause_built b) plain_clause cs)

  -- a row without messages is always built
  idtac_is : (ms : List Message) → is_built b (Tree.idtac ms) ≡ (no_messages ms || b.values)
  unfolding is_built no_messages
  idtac_is [] = refl
  idtac_is (m ∷ ms) = refl

  pub built_idtac : (ms : List Message) → is_built b (plain_tac (Idtac ms)) ≡ (no_messages ms || b.values)
  unfolding is_built
  built_idtac ms = ap (is_built b) (plain_idtac ms) ∙ idtac_is ms

  pub built_fail : (n : Option Amount) (ms : List Message) → is_built b (plain_tac (Fail n ms)) ≡ b.values
  unfolding is_built
  built_fail n ms = ap (is_built b) (plain_fail n ms)

  pub built_gfail : (n : Option Amount) (ms : List Message) → is_built b (plain_tac (Gfail n ms)) ≡ b.values
  unfolding is_built
  built_gfail n ms = ap (is_built b) (plain_gfail n ms)

  pub built_lambda : (xs : List (List ℕ)) (a : Tac) → is_built b (plain_tac (Lambda xs a)) ≡ (b.values && is_built b (plain_tac a))
  unfolding is_built
  built_lambda xs a = ap (is_built b) (plain_lambda xs a)

  pub built_let_tac : (r : Bool) (bs : List Binding) (a : Tac) → is_built b (plain_tac (LetTac r bs a)) ≡ (b.values && list_all (λ c. binding_built b (plain_binding c)) bs && is_built b (plain_tac a))
  unfolding is_built
  built_let_tac r bs a = ap (is_built b) (plain_let_tac r bs a)
      ∙ ap (λ z. b.values && z && is_built b (plain_tac a)) (bindings_listed b (map plain_binding bs) ∙ list_all-map (binding_built b) plain_binding bs)

  pub built_fresh : (ps : List Part) → is_built b (plain_tac (Fresh ps)) ≡ b.values
  unfolding is_built
  built_fresh ps = ap (is_built b) (plain_fresh ps)

  pub built_type_of : (t : Surface) → is_built b (plain_tac (TypeOf t)) ≡ b.values
  unfolding is_built
  built_type_of t = ap (is_built b) (plain_type_of t)

  pub built_eval : (k : Reduction) (t : Surface) → is_built b (plain_tac (Eval k t)) ≡ b.values
  unfolding is_built
  built_eval k t = ap (is_built b) (plain_eval k t)

  pub built_constr : (t : Surface) → is_built b (plain_tac (Constr t)) ≡ b.values
  unfolding is_built
  built_constr t = ap (is_built b) (plain_constr t)

  pub built_context : (x : List ℕ) (t : Surface) → is_built b (plain_tac (Context x t)) ≡ b.matching
  unfolding is_built
  built_context x t = ap (is_built b) (plain_context x t)

  pub built_number : (n : ℕ) → is_built b (plain_tac (Number n)) ≡ b.values
  unfolding is_built
  built_number n = ap (is_built b) (plain_number n)

  pub built_prim : (p : UpperPrim) → is_built b (plain_tac (Prim p)) ≡ prim_built b (plain_prim p)
  unfolding is_built
  built_prim p = ap (is_built b) (plain_prim_tac p)

  pub built_rule : (r : LowerRule) → is_built b (plain_tac (Rule r)) ≡ b.focus
  unfolding is_built
  built_rule r = ap (is_built b) (plain_rule_tac r)

  pub built_call : (x : List ℕ) (as_ : List Arg) → is_built b (plain_tac (Call x as_)) ≡ (b.values && list_all (λ c. arg_built b (plain_arg c)) as_)
  unfolding is_built
  built_call x as_ = ap (is_built b) (plain_call x as_)
      ∙ ap (λ z. b.values && z) (arguments_listed b (map plain_arg as_) ∙ list_all-map (arg_built b) plain_arg as_)

  pub built_shelve : is_built b (plain_tac Shelve) ≡ b.focus
  unfolding is_built
  built_shelve = ap (is_built b) (plain_shelve)

  pub built_revgoals : is_built b (plain_tac Revgoals) ≡ b.focus
  unfolding is_built
  built_revgoals = ap (is_built b) (plain_revgoals)

  pub built_cycle : (r : Bool) (n : ℕ) → is_built b (plain_tac (Cycle r n)) ≡ b.focus
  unfolding is_built
  built_cycle r n = ap (is_built b) (plain_cycle r n)

  pub built_swap : (i j : ℕ) → is_built b (plain_tac (Swap i j)) ≡ b.focus
  unfolding is_built
  built_swap i j = ap (is_built b) (plain_swap i j)

  -- what stands behind a `;`
  pub built_then : (a : Tac) → step_built b (plain_step (Then a)) ≡ is_built b (plain_tac a)
  unfolding step_built
  built_then a = ap (step_built b) (plain_then a)

  pub built_each : (as_ : List Tac) → step_built b (plain_step (Each as_)) ≡ (b.values && list_all (λ a. is_built b (plain_tac a)) as_)
  unfolding step_built
  built_each as_ = ap (step_built b) (plain_each as_) ∙ ap (λ z. b.values && z) (list_all-map (is_built b) plain_tac as_)

  pub built_fill : (as_ : List Tac) (a : Tac) (cs : List Tac) →
      step_built b (plain_step (Fill as_ a cs)) ≡ (b.values && list_all (λ c. is_built b (plain_tac c)) as_ && is_built b (plain_tac a) && list_all (λ c. is_built b (plain_tac c)) cs)
  unfolding step_built
  built_fill as_ a cs =
      ap (step_built b) (plain_fill as_ a cs)
      ∙ ap₂ (λ y z. b.values && y && is_built b (plain_tac a) && z) (list_all-map (is_built b) plain_tac as_) (list_all-map (is_built b) plain_tac cs)

  -- clauses, bindings, arguments
  pub built_any : (a : Tac) → clause_built b (plain_clause (Any a)) ≡ is_built b (plain_tac a)
  unfolding clause_built
  built_any a = ap (clause_built b) (plain_any a)

  pub built_pat : (p : Pattern) (a : Tac) → clause_built b (plain_clause (Pat p a)) ≡ is_built b (plain_tac a)
  unfolding clause_built
  built_pat p a = ap (clause_built b) (plain_pat p a)

  pub built_sequent : (hs : List Hyp) (p : Pattern) (a : Tac) → clause_built b (plain_clause (Sequent hs p a)) ≡ is_built b (plain_tac a)
  unfolding clause_built
  built_sequent hs p a = ap (clause_built b) (plain_sequent hs p a)

  built_binds : (x : List ℕ) (xs : List (List ℕ)) (a : Tac) → binding_built b (plain_binding (record { name = x; parameters = xs; value = a })) ≡ is_built b (plain_tac a)
  unfolding binding_built
  built_binds x xs a = ap (binding_built b) (binding_is x xs a)

  pub built_binding : (c : Binding) → binding_built b (plain_binding c) ≡ is_built b (plain_tac c.value)
  built_binding c = built_binds c.name c.parameters c.value

  pub built_atom : (t : Surface) → arg_built b (plain_arg (Atom t)) ≡ true
  unfolding arg_built
  built_atom t = ap (arg_built b) (plain_atom t)

  pub built_numeral : (n : ℕ) → arg_built b (plain_arg (Numeral n)) ≡ true
  unfolding arg_built
  built_numeral n = ap (arg_built b) (plain_numeral n)

  pub built_inner : (a : Tac) → arg_built b (plain_arg (Inner a)) ≡ is_built b (plain_tac a)
  unfolding arg_built
  built_inner a = ap (arg_built b) (plain_inner a)

pub ruleset built = (built_sequence, built_try, built_repeat, built_once, built_exactly_once, built_progress, built_do, built_tryif, built_plus, built_orelse, built_first, built_solve, built_match, built_idtac, built_fail, built_gfail, built_lambda, built_let_tac, built_fresh, built_type_of, built_eval, built_constr, built_context, built_number, built_prim, built_rule, built_call, built_shelve, built_revgoals, built_cycle, built_swap, built_then, built_each, built_fill, built_any, built_pat, built_sequent, built_binding, built_atom, built_numeral, built_inner)
