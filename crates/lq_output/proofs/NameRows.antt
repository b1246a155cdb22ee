-- The names in worked scripts, computed.
use Rattle.std.proofs.Common.{refl, ◌≡◌, [], ◌∷◌}
use Rattle.std.specs.Prelude.{codes}
use Rattle.lq_output.specs.Names.{term_names, tactic_name, sentence_names, stated_names, read_by, names_by, script_names, theorem_names}
use Rattle.lq_output.proofs.Rows.{opens}

occurring :
    script_names (codes "Theorem id : forall A : Prop, A -> A. Proof. intro A; intro x; exact x. Qed.")
    ≡ codes "id" ∷ codes "A" ∷ codes "A" ∷ codes "A" ∷ codes "A" ∷ codes "x" ∷ codes "x" ∷ []
unfolding opens term_names tactic_name sentence_names stated_names read_by names_by script_names theorem_names
occurring = refl

stated :
    theorem_names (codes "Theorem id : forall A : Prop, A -> A. Proof. intro A; intro x; exact x. Qed. Theorem again : forall A : Prop, A -> A. Proof. exact id. Qed.")
    ≡ codes "id" ∷ codes "again" ∷ []
unfolding opens term_names tactic_name sentence_names stated_names read_by names_by script_names theorem_names
stated = refl
