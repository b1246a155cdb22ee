-- Trees of sentences, computed.
use Rattle.std.specs.Prelude.{◌≡◌, refl, [], ◌∷◌, ◌++◌, replicate, codes, false, Some, None, Ok, Err}
use Rattle.lq_ast.specs.Syntax as u
use Rattle.lq_ast.specs.Tactics as t
use Rattle.lq_ast.specs.Commands as v
use Rattle.lq_ast.specs.declared.tac.Amount.TheVariants.{Count}
use Rattle.lq_ast.specs.declared.tac.Message.TheVariants.{Quoted, Word}
use Rattle.lq_ast.specs.declared.tac.Manner.TheVariants.{Plain}
use Rattle.lq_ast.specs.declared.sentence.Selector.TheVariants.{Ranges, All}
use Rattle.lq_ast.specs.declared.sentence.Range.TheVariants.{Single}
use Rattle.lq_sentences.specs.declared.fault.SyntaxFault.TheVariants.{Unexpected, TooNested, EndInside}
use Rattle.lq_sentences.proofs.Computing.{reading}
use Rattle.lq_sentences.proofs.Trying.{tree_at}

show : tree_at (codes "Show.") 0 ≡ Some (Ok (v.stated 0 (v.command v.show)))
unfolding reading
show = refl

abbrev a_ : u.Surface
a_ = u.Ident (codes "A")

identity : tree_at (codes "Theorem id : forall A : Prop, A -> A. Proof.") 0
    ≡ Some (Ok (v.stated 0 (v.command (v.theorem (codes "id") [] (u.Forall (codes "A") (u.Written u.PropSort) (u.Arrow a_ a_))))))
unfolding reading
identity = refl

script : tree_at (codes "intro A; intro x; exact x.") 0
    ≡ Some (Ok (v.stated 0 (v.run None (t.then (t.then (t.prim (u.intro (Some (codes "A")))) (t.prim (u.intro (Some (codes "x"))))) (t.prim (u.exact (u.Ident (codes "x"))))))))
unfolding reading
script = refl

inside : tree_at (codes "Theorem t : Prop") 0 ≡ Some (Err (EndInside 16))
unfolding reading
inside = refl

brace : tree_at (codes "2: {") 0 ≡ Some (Ok (v.open_brace (Some (Ranges (Single 2 ∷ [])))))
unfolding reading
brace = refl

no_brace : tree_at (codes "all: { x.") 0 ≡ Some (Err (Unexpected 5))
unfolding reading
no_brace = refl

mark : tree_at (codes "Show. -- exact I.") 5 ≡ Some (Ok (v.bullet 45 2))
unfolding reading
mark = refl

five : tree_at (codes "-----") 0 ≡ Some (Err (Unexpected 0))
unfolding reading
five = refl

goal : tree_at (codes "match goal with H : ?A |- ?A => exact H | |- _ => idtac end.") 0
    ≡ Some (Ok (v.stated 0 (v.run None (t.match Plain (t.the_goal false)
    (t.clauses_of (t.sequent_clause ((codes "H", u.whole_pattern (u.Meta (codes "A"))) ∷ []) (u.whole_pattern (u.Meta (codes "A"))) (t.prim (u.exact (u.Ident (codes "H"))))
    ∷ t.sequent_clause [] (u.whole_pattern (u.Blank 45)) (t.idtac []) ∷ []))))))
unfolding reading
goal = refl

choice : tree_at (codes "first [idtac + idtac \"b\" | idtac]; fail.") 0
    ≡ Some (Ok (v.stated 0 (v.run None (t.then (t.first (t.tacs_of (t.plus (t.idtac []) (t.idtac (Quoted (codes "b") ∷ [])) ∷ t.idtac [] ∷ []))) (t.fail None [])))))
unfolding reading
choice = refl

tests : tree_at (codes "tryif a then b c else d; [e | f .. | ].") 0
    ≡ Some (Ok (v.stated 0 (v.run None (t.then_fill (t.tryif (t.call (codes "a") t.no_arg) (t.call (codes "b") (t.args_of (t.term_arg (u.Ident (codes "c")) ∷ []))) (t.call (codes "d") t.no_arg))
    (t.tacs_of (t.call (codes "e") t.no_arg ∷ [])) (t.call (codes "f") t.no_arg) (t.tacs_of (t.idtac [] ∷ []))))))
unfolding reading
tests = refl

fails : tree_at (codes "Fail all: gfail.") 0 ≡ Some (Ok (v.stated 1 (v.run (Some All) (t.gfail None []))))
unfolding reading
fails = refl

fails_fail : tree_at (codes "Fail Fail Show.") 0 ≡ Some (Ok (v.stated 2 (v.command v.show)))
unfolding reading
fails_fail = refl

-- a command's word is a name where no command fits
vernac_as_call : tree_at (codes "Fail Show x.") 0 ≡ Some (Ok (v.stated 1 (v.run None (t.call (codes "Show") (t.args_of (t.term_arg (u.Ident (codes "x")) ∷ []))))))
unfolding reading
vernac_as_call = refl

fail_as_call : tree_at (codes "Fail Fail.") 0 ≡ Some (Ok (v.stated 1 (v.run None (t.call (codes "Fail") t.no_arg))))
unfolding reading
fail_as_call = refl

deep : tree_at (codes "Check " ++ replicate 201 40 ++ codes "Prop" ++ replicate 201 41 ++ codes ".") 0 ≡ Some (Err (TooNested 207))
unfolding reading
deep = refl

deepest : tree_at (codes "Check " ++ replicate 200 40 ++ codes "Prop" ++ replicate 200 41 ++ codes ".") 0 ≡ Some (Ok (v.stated 0 (v.command (v.check u.PropSort))))
unfolding reading
deepest = refl

words_of_a_test : tree_at (codes "tryif exact x then idtac else fail 1.") 0
    ≡ Some (Ok (v.stated 0 (v.run None (t.tryif (t.prim (u.exact (u.Ident (codes "x")))) (t.idtac []) (t.fail (Some (Count 1)) [])))))
unfolding reading
words_of_a_test = refl

-- `then` is a name where a sign must still follow
name_in_a_test : tree_at (codes "tryif exact (then) then idtac else exact (fun x : then => else).") 0
    ≡ Some (Ok (v.stated 0 (v.run None (t.tryif (t.prim (u.exact (u.Ident (codes "then")))) (t.idtac []) (t.prim (u.exact (u.Fun (codes "x") (u.Written (u.Ident (codes "then"))) (u.Ident (codes "else")))))))))
unfolding reading
name_in_a_test = refl

type_in_a_test : tree_at (codes "tryif exact fun x : f then => x then idtac else idtac.") 0
    ≡ Some (Ok (v.stated 0 (v.run None (t.tryif (t.prim (u.exact (u.Fun (codes "x") (u.Written (u.Applied (u.Ident (codes "f")) (u.Ident (codes "then")))) (u.Ident (codes "x"))))) (t.idtac []) (t.idtac [])))))
unfolding reading
type_in_a_test = refl

goal_as_a_name : tree_at (codes "match goal with _ => a | x => b end.") 0
    ≡ Some (Ok (v.stated 0 (v.run None (t.match Plain (t.the_term (u.Ident (codes "goal")))
    (t.clauses_of (t.any_clause (t.call (codes "a") t.no_arg) ∷ t.pattern_clause (u.whole_pattern (u.Ident (codes "x"))) (t.call (codes "b") t.no_arg) ∷ []))))))
unfolding reading
goal_as_a_name = refl

no_sequent : tree_at (codes "match goal with H : nat => idtac end.") 0 ≡ Some (Err (Unexpected 24))
unfolding reading
no_sequent = refl

arguments : tree_at (codes "all: f ltac:(a; b) (c : Prop) 7.") 0
    ≡ Some (Ok (v.stated 0 (v.run (Some All) (t.call (codes "f")
    (t.args_of (t.tac_arg (t.then (t.call (codes "a") t.no_arg) (t.call (codes "b") t.no_arg)) ∷ t.term_arg (u.Cast (u.Ident (codes "c")) u.PropSort) ∷ t.number_arg 7 ∷ []))))))
unfolding reading
arguments = refl

no_level : tree_at (codes "Check forall x _ : nat, Type 4.") 0 ≡ Some (Err (Unexpected 29))
unfolding reading
no_level = refl

contexts : tree_at (codes "match goal with |- context [S ?x] => idtac x; fail end.") 0
    ≡ Some (Ok (v.stated 0 (v.run None (t.match Plain (t.the_goal false)
    (t.clauses_of (t.sequent_clause [] (u.context_pattern None (u.Applied (u.Ident (codes "S")) (u.Meta (codes "x")))) (t.then (t.idtac (Word (codes "x") ∷ [])) (t.fail None [])) ∷ []))))))
unfolding reading
contexts = refl

-- `context` is a name where no bracket follows
context_as_a_name : tree_at (codes "match x with context y z => a | context C [y] => b end.") 0
    ≡ Some (Ok (v.stated 0 (v.run None (t.match Plain (t.the_term (u.Ident (codes "x")))
    (t.clauses_of (t.pattern_clause (u.whole_pattern (u.Applied (u.Applied (u.Ident (codes "context")) (u.Ident (codes "y"))) (u.Ident (codes "z")))) (t.call (codes "a") t.no_arg)
    ∷ t.pattern_clause (u.context_pattern (Some (codes "C")) (u.Ident (codes "y"))) (t.call (codes "b") t.no_arg) ∷ []))))))
unfolding reading
context_as_a_name = refl

-- brackets have no node: the arguments are those of one application
flat : tree_at (codes "Check (f a) b.") 0 ≡ Some (Ok (v.stated 0 (v.command (v.check (u.Applied (u.Applied (u.Ident (codes "f")) (u.Ident (codes "a"))) (u.Ident (codes "b")))))))
unfolding reading
flat = refl

-- at one word the nesting counts: only as an argument of a call could `?` stand there
nested_word : tree_at (codes "Outcomes 3 " ++ replicate 201 40 ++ codes "?[x]") 0 ≡ Some (Err (TooNested 212))
unfolding reading
nested_word = refl
