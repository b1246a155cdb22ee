-- Whole scripts, read sentence by sentence.
use Rattle.std.specs.Prelude.{◌≡◌, refl, codes, Some}
use Rattle.lq_sentences.proofs.Computing.{reading}
use Rattle.lq_sentences.proofs.Trying.{sentences}

prelude : sentences 100 (codes "Inductive True : Prop := I : True.\nInductive False : Prop := .\nInductive and (A B : Prop) : Prop := conj : A -> B -> and A B.\nInductive or (A B : Prop) : Prop := or_introl : A -> or A B | or_intror : B -> or A B.\nInductive ex (A : Type 0) (P : A -> Prop) : Prop := ex_intro : forall x : A, P x -> ex A P.\nInductive eq (A : Type 0) (x : A) : A -> Prop := eq_refl : eq A x x.\nInductive nat : Type 0 := O : nat | S : nat -> nat.\nInductive bool : Type 0 := true : bool | false : bool.\nDefinition not (A : Prop) : Prop := A -> False.\n") 0 ≡ Some 9
unfolding reading sentences
prelude = refl

plus_script : sentences 100 (codes "Definition plus (n m : nat) : nat := nat_rec0 (fun _ : nat => nat) m (fun (p : nat) (q : nat) => S q) n. Theorem two : eq nat (plus (S O) (S O)) (S (S O)). exact (eq_refl nat (S (S O))). Qed.") 0 ≡ Some 4
unfolding reading sentences
plus_script = refl

commuting : sentences 100 (codes "Theorem plus_n_O : forall n : nat, eq nat (plus n O) n.\nProof. intro n. induction n.\n- reflexivity.\n- change (eq nat (S (plus n O)) (S n)). rewrite IHn. reflexivity.\nQed.\nTheorem plus_n_Sm : forall n m : nat, eq nat (plus n (S m)) (S (plus n m)).\nProof. intros n m. induction n.\n- reflexivity.\n- change (eq nat (S (plus n (S m))) (S (S (plus n m)))). rewrite IHn. reflexivity.\nQed.\nTheorem plus_comm : forall n m : nat, eq nat (plus n m) (plus m n).\nProof. intros n m. induction n.\n- rewrite (plus_n_O m). reflexivity.\n- rewrite (plus_n_Sm m n). change (eq nat (S (plus n m)) (S (plus m n))).\n  rewrite IHn. reflexivity.\nQed.\n") 0 ≡ Some 35
unfolding reading sentences
commuting = refl

tautology : sentences 100 (codes "Ltac taut := let rec go := match goal with\n  | H : ?A |- ?A => exact H\n  | H : False |- _ => destruct H\n  | |- ?A -> ?B => intro; go\n  | H : and ?A ?B |- _ => destruct H; go\n  | H : or ?A ?B |- _ => destruct H; go\n  | |- and ?A ?B => split; go\n  | |- or ?A ?B => (left; go) + (right; go)\n  end in go.\nTheorem taut_five : forall A B C D E : Prop,\n  and A (and (or B C) (and D E)) -> and (or (and A B) (and A C)) (and E D).\nintros A B C D E. taut. Qed.\n") 0 ≡ Some 5
unfolding reading sentences
tautology = refl

bullets : sentences 100 (codes "Theorem t : and True (eq nat O O). split. - exact I. + reflexivity.") 0 ≡ Some 6
unfolding reading sentences
bullets = refl

parallel : sentences 100 (codes "Theorem p : forall A B : Prop, A -> and A (and A (and B A)). intros A B h. repeat match goal with |- and ?X ?Y => split end. par: (idtac \"t\"; assumption).") 0 ≡ Some 4
unfolding reading sentences
parallel = refl
