-- Trees of primitives, computed on words, which stand above each; a place is how many words stand before.
use Rattle.std.specs.Prelude.{◌≡◌, refl, [], ◌∷◌, codes, Some, None, Ok}
use Rattle.lq_grammar.specs.declared.token.Symbol.TheVariants as sign
use Rattle.lq_ast.specs.Syntax as u
use Rattle.lq_ast.specs.Tactics as t
use Rattle.lq_ast.specs.Commands as v
use Rattle.lq_sentences.specs.Words.{name, number, symbol}
use Rattle.lq_sentences.specs.Reading.{Whole, sentence}
use Rattle.lq_sentences.proofs.Computing.{reading}
use Rattle.lq_sentences.proofs.Placing.{placed}

abbrev runs : t.Tac → Whole v.Sentence
runs a = Ok (v.stated 0 (v.run None a))

abbrev A_ : u.Surface
A_ = u.Ident (codes "A")

abbrev f_ : u.Surface
f_ = u.Ident (codes "f")

abbrev x_ : u.Surface
x_ = u.Ident (codes "x")

-- intro; intro x; intros; intros x y.
intros : sentence (placed 0 (name (codes "intro") ∷ symbol sign.Semicolon ∷ name (codes "intro") ∷ name (codes "x") ∷ symbol sign.Semicolon ∷ name (codes "intros") ∷ symbol sign.Semicolon ∷ name (codes "intros") ∷ name (codes "x") ∷ name (codes "y") ∷ symbol sign.Stop ∷ []))
    ≡ runs (t.then (t.then (t.then (t.prim (u.intro None)) (t.prim (u.intro (Some (codes "x"))))) (t.prim (u.intros []))) (t.prim (u.intros (codes "x" ∷ codes "y" ∷ []))))
unfolding reading placed
intros = refl

-- exact x; refine (f x); apply f x; eapply x; exists x; cut A.
terms : sentence (placed 0 (name (codes "exact") ∷ name (codes "x") ∷ symbol sign.Semicolon ∷ name (codes "refine") ∷ symbol sign.OpenRound ∷ name (codes "f") ∷ name (codes "x") ∷ symbol sign.CloseRound ∷ symbol sign.Semicolon ∷ name (codes "apply") ∷ name (codes "f") ∷ name (codes "x") ∷ symbol sign.Semicolon ∷ name (codes "eapply") ∷ name (codes "x") ∷ symbol sign.Semicolon ∷ name (codes "exists") ∷ name (codes "x") ∷ symbol sign.Semicolon ∷ name (codes "cut") ∷ name (codes "A") ∷ symbol sign.Stop ∷ []))
    ≡ runs (t.then (t.then (t.then (t.then (t.then (t.prim (u.exact x_)) (t.prim (u.refine (u.Applied f_ x_)))) (t.prim (u.apply_with (u.Applied f_ x_)))) (t.prim (u.eapply x_))) (t.prim (u.exists x_))) (t.prim (u.cut_by A_)))
unfolding reading placed
terms = refl

-- assumption; constructor; constructor 2; split; left; right; exfalso; reflexivity.
words : sentence (placed 0 (name (codes "assumption") ∷ symbol sign.Semicolon ∷ name (codes "constructor") ∷ symbol sign.Semicolon ∷ name (codes "constructor") ∷ number 2 ∷ symbol sign.Semicolon ∷ name (codes "split") ∷ symbol sign.Semicolon ∷ name (codes "left") ∷ symbol sign.Semicolon ∷ name (codes "right") ∷ symbol sign.Semicolon ∷ name (codes "exfalso") ∷ symbol sign.Semicolon ∷ name (codes "reflexivity") ∷ symbol sign.Stop ∷ []))
    ≡ runs (t.then (t.then (t.then (t.then (t.then (t.then (t.then (t.prim u.assumption) (t.prim (u.constructor None))) (t.prim (u.constructor (Some 2)))) (t.prim u.split)) (t.prim u.to_left)) (t.prim u.to_right)) (t.prim u.exfalso)) (t.prim u.reflexivity))
unfolding reading placed
words = refl

-- assert (x : A); pose (x := f x).
pairs : sentence (placed 0 (name (codes "assert") ∷ symbol sign.OpenRound ∷ name (codes "x") ∷ symbol sign.Colon ∷ name (codes "A") ∷ symbol sign.CloseRound ∷ symbol sign.Semicolon ∷ name (codes "pose") ∷ symbol sign.OpenRound ∷ name (codes "x") ∷ symbol sign.ColonEqual ∷ name (codes "f") ∷ name (codes "x") ∷ symbol sign.CloseRound ∷ symbol sign.Stop ∷ []))
    ≡ runs (t.then (t.prim (u.assert_that (codes "x") A_)) (t.prim (u.pose (codes "x") (u.Applied f_ x_))))
unfolding reading placed
pairs = refl

-- elim x; induction x; induction x as [x y | ]; destruct f x; destruct x as [x].
inductions : sentence (placed 0 (name (codes "elim") ∷ name (codes "x") ∷ symbol sign.Semicolon ∷ name (codes "induction") ∷ name (codes "x") ∷ symbol sign.Semicolon ∷ name (codes "induction") ∷ name (codes "x") ∷ name (codes "as") ∷ symbol sign.OpenSquare ∷ name (codes "x") ∷ name (codes "y") ∷ symbol sign.Bar ∷ symbol sign.CloseSquare ∷ symbol sign.Semicolon ∷ name (codes "destruct") ∷ name (codes "f") ∷ name (codes "x") ∷ symbol sign.Semicolon ∷ name (codes "destruct") ∷ name (codes "x") ∷ name (codes "as") ∷ symbol sign.OpenSquare ∷ name (codes "x") ∷ symbol sign.CloseSquare ∷ symbol sign.Stop ∷ []))
    ≡ runs (t.then (t.then (t.then (t.then (t.rule (u.elimination_of x_)) (t.rule (u.induction (codes "x") None))) (t.rule (u.induction (codes "x") (Some ((codes "x" ∷ codes "y" ∷ []) ∷ [] ∷ []))))) (t.rule (u.destruct (u.Applied f_ x_) None))) (t.rule (u.destruct x_ (Some ((codes "x" ∷ []) ∷ [])))))
unfolding reading placed
inductions = refl

-- rewrite x; rewrite <- f x; unfold f; change A; hnf; compute.
rewriting : sentence (placed 0 (name (codes "rewrite") ∷ name (codes "x") ∷ symbol sign.Semicolon ∷ name (codes "rewrite") ∷ symbol sign.BackArrow ∷ name (codes "f") ∷ name (codes "x") ∷ symbol sign.Semicolon ∷ name (codes "unfold") ∷ name (codes "f") ∷ symbol sign.Semicolon ∷ name (codes "change") ∷ name (codes "A") ∷ symbol sign.Semicolon ∷ name (codes "hnf") ∷ symbol sign.Semicolon ∷ name (codes "compute") ∷ symbol sign.Stop ∷ []))
    ≡ runs (t.then (t.then (t.then (t.then (t.then (t.rule (u.rewrite x_)) (t.rule (u.rewrite_back (u.Applied f_ x_)))) (t.rule (u.unfold_constant (codes "f")))) (t.rule (u.change A_))) (t.rule u.hnf)) (t.rule u.compute))
unfolding reading placed
rewriting = refl

-- clear x; rename x into y; revert x; generalize x.
hypotheses : sentence (placed 0 (name (codes "clear") ∷ name (codes "x") ∷ symbol sign.Semicolon ∷ name (codes "rename") ∷ name (codes "x") ∷ name (codes "into") ∷ name (codes "y") ∷ symbol sign.Semicolon ∷ name (codes "revert") ∷ name (codes "x") ∷ symbol sign.Semicolon ∷ name (codes "generalize") ∷ name (codes "x") ∷ symbol sign.Stop ∷ []))
    ≡ runs (t.then (t.then (t.then (t.rule (u.clear (codes "x"))) (t.rule (u.rename (codes "x") (codes "y")))) (t.rule (u.revert (codes "x")))) (t.rule (u.generalize x_)))
unfolding reading placed
hypotheses = refl
