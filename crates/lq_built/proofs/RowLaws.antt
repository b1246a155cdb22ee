-- What stands in a row of an expression is built where each part of it is.
use Rattle.std.proofs.Common.{◌≡◌, ◌∙◌, refl, sym, ap, Bool, true, false, ◌&&◌, List, [], ◌∷◌}
use Rattle.std.specs.Prelude.{IsTrue, ◌↔◌}
use Rattle.std.proofs.lemmas.Bool.{true≢false}
use Rattle.std.specs.List.{list_all}
use mathlib.Core.Bool.{and_assoc, and-true}
use Rattle.lq_ast.specs.Tactics.{Tac, Step, one_step, each_step, fill_step, tacs_of, clauses_of, bindings_of, args_of, stepped, sequence, Clause, Binding, Arg}
use Rattle.lq_ast.specs.declared.tac.Message.{Message}
use Rattle.lq_sessions.specs.Built.{Parts, no_messages, is_built, all_built, clause_built, clauses_built, binding_built, bindings_built, arg_built, args_built}
use Rattle.lq_built.specs.Parts.{step_built}

swapped : (x y z : Bool) → (x && y && z) ≡ (y && (x && z))
swapped true y z = refl
swapped false true z = refl
swapped false false z = refl

module _ (b : Parts) where
  pub all_listed : (as_ : List Tac) → all_built b (tacs_of as_) ≡ list_all (is_built b) as_
  unfolding is_built all_built tacs_of
  all_listed [] = refl
  all_listed (a ∷ as_) = ap (λ z. is_built b a && z) (all_listed as_)

  pub clauses_listed : (cs : List Clause) → clauses_built b (clauses_of cs) ≡ list_all (clause_built b) cs
  unfolding clauses_built clauses_of
  clauses_listed [] = refl
  clauses_listed (c ∷ cs) = ap (λ z. clause_built b c && z) (clauses_listed cs)

  pub bindings_listed : (bs : List Binding) → bindings_built b (bindings_of bs) ≡ list_all (binding_built b) bs
  unfolding bindings_built bindings_of
  bindings_listed [] = refl
  bindings_listed (c ∷ bs) = ap (λ z. binding_built b c && z) (bindings_listed bs)

  pub arguments_listed : (as_ : List Arg) → args_built b (args_of as_) ≡ list_all (arg_built b) as_
  unfolding args_built args_of
  arguments_listed [] = refl
  arguments_listed (a ∷ as_) = ap (λ z. arg_built b a && z) (arguments_listed as_)

  -- an expression and what stands behind one `;`
  stepped_built : (a : Tac) (s : Step) → is_built b (stepped a s) ≡ (is_built b a && step_built b s)
  unfolding is_built stepped step_built
  stepped_built a (one_step c) = refl
  stepped_built a (each_step bs) = ap (λ z. b.values && is_built b a && z) (all_listed bs) ∙ swapped b.values (is_built b a) _
  stepped_built a (fill_step bs c ds) =
      let first : (b.values && is_built b a && all_built b (tacs_of bs)) ≡ (is_built b a && (b.values && list_all (is_built b) bs)) =
      ap (λ z. b.values && is_built b a && z) (all_listed bs) ∙ swapped b.values (is_built b a) _ in
      ap (λ z. z && is_built b c && all_built b (tacs_of ds)) first
      ∙ ap (λ z. z && all_built b (tacs_of ds)) (and_assoc (is_built b a) (b.values && list_all (is_built b) bs) (is_built b c))
      ∙ and_assoc (is_built b a) (b.values && list_all (is_built b) bs && is_built b c) (all_built b (tacs_of ds))
      ∙ ap (λ z. is_built b a && (b.values && list_all (is_built b) bs && is_built b c && z)) (all_listed ds)

  pub sequence_built : (a : Tac) (ss : List Step) → is_built b (sequence a ss) ≡ (is_built b a && list_all (step_built b) ss)
  unfolding sequence
  sequence_built a [] = sym (and-true (is_built b a))
  sequence_built a (s ∷ ss) =
      sequence_built (stepped a s) ss ∙ ap (λ z. z && list_all (step_built b) ss) (stepped_built a s) ∙ and_assoc (is_built b a) (step_built b s) (list_all (step_built b) ss)

-- whether there are messages
pub no_messages_are : (ms : List Message) (said : Bool) → (IsTrue said ↔ (ms ≡ [])) → said ≡ no_messages ms
unfolding no_messages
no_messages_are [] true h = refl
no_messages_are [] false h = absurd (true≢false (sym (h.1 refl)))
no_messages_are (m ∷ ms) false h = refl
no_messages_are (m ∷ ms) true h = absurd (nothing (h.0 refl))
  where
    nothing : {A : Type 0} {x : A} {xs : List A} → x ∷ xs ≡ [] → ⊥
    nothing e = absurd (true≢false (ap (λ zs. elim zs [ [] ↦ false | y ∷ ys ↦ true ]) e))
