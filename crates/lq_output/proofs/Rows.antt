-- The worked rows, computed.
use Rattle.std.proofs.Common.{refl, ◌≡◌, [], ◌∷◌, ◌++◌}
use Rattle.std.specs.Prelude.{codes}
use Rattle.lq_calculus.proofs.Tests.{opens as calculus}
use Rattle.lq_trees.specs.Ticks.{under_budget}
use Rattle.lq_output.specs.declared.Status.{Status}
use Rattle.lq_output.specs.Script.{in_front, cut}
use Rattle.lq_output.specs.Tokens.{after_byte, tokens_from, tokens}
use Rattle.lq_output.specs.Grammar.{is_name, atom, arrow_behind, rest_behind, product_behind, bracket_behind, term_by, term_within, tactic_of, before_tactics, tactics_of, statement_of, theorem_behind, lone, tactics_sentence, sentence_of, behind_blanks, is_short, read}
use Rattle.lq_output.specs.Alike.{alike, each_alike}
use Rattle.lq_output.specs.Steps.{binder_of, constant_in, global, meant, product_of, resolved, abstracted, introduced, known_as, exactly, after_tactic, after_tactics}
use Rattle.lq_output.specs.Printing.{uses, names_in, own_name, printed_name, sort_text, binder_text, left_side, arrow_text, forall_text, text_under, term_text}
use Rattle.lq_output.specs.Sentences.{told, ended, comes_to, with_sort, with_tree, stating, proving, defined, declared, closing_proof, doing, sentence, fault_text}
use Rattle.lq_output.specs.Output.{kernel_budget, refused, behind, all_blank, is_outside, at_end, run, too_long, output}

-- opens all that the rows compute with
unfoldable pub opens : Unit {0}
unfolding calculus in_front cut after_byte tokens_from tokens is_name atom arrow_behind rest_behind product_behind bracket_behind term_by term_within tactic_of before_tactics tactics_of statement_of theorem_behind lone tactics_sentence sentence_of behind_blanks is_short read alike each_alike binder_of constant_in global meant product_of resolved abstracted introduced known_as exactly after_tactic after_tactics uses names_in own_name printed_name sort_text binder_text left_side arrow_text forall_text text_under term_text told ended comes_to under_budget with_sort with_tree stating proving defined declared closing_proof doing sentence fault_text refused behind all_blank is_outside at_end run too_long output
opens = tt

accepted : output kernel_budget (codes "Theorem id : forall A : Prop, A -> A. Proof. intro A; intro x; exact x. Qed.") ≡ record { text = codes "id is defined" ++ 10 ∷ []; status = Status.Done }
unfolding opens
accepted = refl

empty : output kernel_budget [] ≡ record { text = []; status = Status.Done }
unfolding opens
empty = refl

open_goal : output kernel_budget (codes "Theorem a : forall A : Prop, A -> A. Proof. intro A. Qed.") ≡ record { text = codes "Error: sentence 4: open goals: 1" ++ 10 ∷ []; status = Status.ScriptFault }
unfolding opens
open_goal = refl

mismatch : output kernel_budget (codes "Theorem a : forall A : Prop, A -> Prop. Proof. intro A; intro x; exact x. Qed.") ≡ record { text = codes "Error: sentence 3: found A, wanted Prop" ++ 10 ∷ []; status = Status.ScriptFault }
unfolding opens
mismatch = refl

not_built : output kernel_budget (codes "Check Prop.") ≡ record { text = codes "Error: sentence 1: not built" ++ 10 ∷ []; status = Status.ScriptFault }
unfolding opens
not_built = refl

two : output kernel_budget (codes "Theorem id : forall A : Prop, A -> A. Proof. intro A; intro x; exact x. Qed. Theorem again : forall A : Prop, A -> A. Proof. exact id. Qed.") ≡ record { text = codes "id is defined" ++ 10 ∷ codes "again is defined" ++ 10 ∷ []; status = Status.Done }
unfolding opens
two = refl

inside : output kernel_budget (codes "Theorem id : forall A : Prop, A -> A. Proof. ") ≡ record { text = codes "Error: sentence 3: not built" ++ 10 ∷ []; status = Status.ScriptFault }
unfolding opens
inside = refl
