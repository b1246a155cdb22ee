-- What sentences write, computed.
use Rattle.std.specs.Prelude.{◌≡◌, refl, [], ◌∷◌, ◌++◌, codes, None, Some, Ok, Err}
use Rattle.lq_trees.specs.declared.Sort.{Sort as Universe}
use Rattle.lq_trees.specs.Tree.Tree.{Var, Prod, Const}
use Rattle.lq_calculus.specs.Declarations.{constant}
use Rattle.lq_texts.specs.Causes.{elim_forbidden, unknown, nothing_applies, no_more, no_match}
use Rattle.lq_texts.specs.Views.{Goal, proof_text, print_text, check_text, outcome_text, end_text, fail_text, defined_text}
use Rattle.lq_texts.proofs.Computing.{printing}
use Rattle.lq_texts.proofs.Samples.{base, at_level, a_, b_, same, arrow, identity, choices}

-- ---- `Show`

abbrev one_goal : Goal
one_goal = record {
  name = None;
  context = record { name = codes "A"; body = None; kind = base } ∷ record {
    name = codes "x";
    body = None;
    kind = Var
        (codes "A");
  } ∷ [];
  kind = Var (codes "A");
}

show : proof_text [] (record { goals = one_goal ∷ []; shelved = 0 }) ≡ codes "1 goal\ngoal 1\n  A : Prop\n  x : A\n  ====\n  A\n"
unfolding printing
show = refl

-- a goal with a name, a hypothesis with a body, a goal without hypotheses, and the shelf
show_all : proof_text [] (record {
  goals = record { name = Some (codes "n"); context = record { name = codes "h"; body = Some same; kind = arrow } ∷ []; kind = a_ }
      ∷ record { name = None; context = []; kind = base } ∷ [];
  shelved = 2;
})
    ≡ codes "2 goals\ngoal 1 (n)\n  h : a -> b := fun x : Prop => x\n  ====\n  a\ngoal 2\n  ====\n  Prop\nshelved: 2\n"
unfolding printing
show_all = refl

show_none : proof_text [] (record { goals = []; shelved = 0 }) ≡ codes "no goals\n"
unfolding printing
show_none = refl

show_shelf : proof_text [] (record { goals = []; shelved = 1 }) ≡ codes "no goals\nshelved: 1\n"
unfolding printing
show_shelf = refl

-- ---- `Print`

-- a constant, opaque or not
print_opaque : print_text identity (codes "id") ≡ Ok (codes "id : forall A : Prop, A -> A := fun A : Prop => fun x : A => x\n")
unfolding printing
print_opaque = refl

print_transparent : print_text ((codes "up", constant (at_level 2) (Const (codes "nat")) Rattle.std.specs.Prelude.false) ∷ []) (codes "up")
    ≡ Ok (codes "up : Type 2 := nat\n")
unfolding printing
print_transparent = refl

print_family : print_text choices (codes "or") ≡ Ok (codes "or : Prop -> Prop\n")
unfolding printing
print_family = refl

print_constructor : print_text choices (codes "one") ≡ Ok (codes "one : forall A : Prop, A -> or A\n")
unfolding printing
print_constructor = refl

print_eliminator : print_text choices (codes "or_ind")
    ≡ Ok (codes "or_ind : forall A : Prop, forall Q : or A -> Prop, (forall x : A, Q (one A x)) -> Q (two A) -> forall z : or A, Q z\n")
unfolding printing
print_eliminator = refl

print_forbidden : print_text choices (codes "or_rec0") ≡ Err (elim_forbidden (codes "or") (Universe.Level 0))
unfolding printing
print_forbidden = refl

print_unknown : print_text identity (codes "no") ≡ Err (unknown (codes "no"))
unfolding printing
print_unknown = refl

-- ---- `Check`, `Outcomes`, `Fail`, and what is declared

check : check_text [] same (Prod [] base base) ≡ codes "fun x : Prop => x : Prop -> Prop\n"
unfolding printing
check = refl

outcomes : outcome_text [] 1 (base ∷ []) ++ outcome_text [] 2 (a_ ∷ b_ ∷ []) ++ outcome_text [] 10 [] ++ end_text [] no_more 0
    ≡ codes "Outcome 1: 1 goal\n  Prop\nOutcome 2: 2 goals\n  a\n  b\nOutcome 10: no goals\nEnd: no more success\n"
unfolding printing
outcomes = refl

end_at_level : end_text [] nothing_applies 2 ≡ codes "End: nothing applies (level 2)\n"
unfolding printing
end_at_level = refl

fail : fail_text [] no_match 0 ≡ codes "Fail: no matching clause\n"
unfolding printing
fail = refl

fail_at_level : fail_text [] no_match 1 ≡ codes "Fail: no matching clause (level 1)\n"
unfolding printing
fail_at_level = refl

defined : defined_text (codes "id") ≡ codes "id is defined\n"
unfolding printing
defined = refl
