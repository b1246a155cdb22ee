-- Trees of commands, selectors and marks, one for each production, computed on words, which stand above each; a place is how many words stand before.
use Rattle.std.specs.Prelude.{◌≡◌, refl, [], ◌∷◌, codes, Some, None, Ok}
use Rattle.lq_grammar.specs.declared.token.Symbol.TheVariants as sign
use Rattle.lq_ast.specs.Syntax as u
use Rattle.lq_ast.specs.Tactics as t
use Rattle.lq_ast.specs.Commands as v
use Rattle.lq_ast.specs.declared.sentence.Selector.{Selector}
use Rattle.lq_ast.specs.declared.sentence.Selector.TheVariants.{Ranges, Named, All, Sole, Par}
use Rattle.lq_ast.specs.declared.sentence.Range.TheVariants.{Single, Span}
use Rattle.lq_sentences.specs.Words.{name, number, symbol, bullet}
use Rattle.lq_sentences.specs.Reading.{Whole, sentence}
use Rattle.lq_sentences.proofs.Computing.{reading}
use Rattle.lq_sentences.proofs.Placing.{placed}

abbrev commands : v.Vernac → Whole v.Sentence
commands c = Ok (v.stated 0 (v.command c))

-- the call `a`
abbrev go : t.Tac
go = t.call (codes "a") t.no_arg

abbrev selects : Selector → Whole v.Sentence
selects s = Ok (v.stated 0 (v.run (Some s) go))

abbrev A_ : u.Surface
A_ = u.Ident (codes "A")

abbrev B_ : u.Surface
B_ = u.Ident (codes "B")

abbrev f_ : u.Surface
f_ = u.Ident (codes "f")

abbrev x_ : u.Surface
x_ = u.Ident (codes "x")

-- Inductive or (A B : Prop) : Prop := or_introl : A -> f x | or_intror : B.
inductive : sentence (placed 0 (name (codes "Inductive") ∷ name (codes "or") ∷ symbol sign.OpenRound ∷ name (codes "A") ∷ name (codes "B") ∷ symbol sign.Colon ∷ name (codes "Prop") ∷ symbol sign.CloseRound ∷ symbol sign.Colon ∷ name (codes "Prop") ∷ symbol sign.ColonEqual ∷ name (codes "or_introl") ∷ symbol sign.Colon ∷ name (codes "A") ∷ symbol sign.Arrow ∷ name (codes "f") ∷ name (codes "x") ∷ symbol sign.Bar ∷ name (codes "or_intror") ∷ symbol sign.Colon ∷ name (codes "B") ∷ symbol sign.Stop ∷ []))
    ≡ commands (v.inductive_family (codes "or") ((codes "A", u.Written u.PropSort) ∷ (codes "B", u.Written u.PropSort) ∷ []) u.PropSort
    ((codes "or_introl", u.Arrow A_ (u.Applied f_ x_)) ∷ (codes "or_intror", B_) ∷ []))
unfolding reading placed
inductive = refl

-- Inductive A : Prop := | x : A.
first_bar : sentence (placed 0 (name (codes "Inductive") ∷ name (codes "A") ∷ symbol sign.Colon ∷ name (codes "Prop") ∷ symbol sign.ColonEqual ∷ symbol sign.Bar ∷ name (codes "x") ∷ symbol sign.Colon ∷ name (codes "A") ∷ symbol sign.Stop ∷ []))
    ≡ commands (v.inductive_family (codes "A") [] u.PropSort ((codes "x", A_) ∷ []))
unfolding reading placed
first_bar = refl

-- Inductive A : Prop := .
no_constructor : sentence (placed 0 (name (codes "Inductive") ∷ name (codes "A") ∷ symbol sign.Colon ∷ name (codes "Prop") ∷ symbol sign.ColonEqual ∷ symbol sign.Stop ∷ []))
    ≡ commands (v.inductive_family (codes "A") [] u.PropSort [])
unfolding reading placed
no_constructor = refl

-- Definition f (x : A) : B := x.
definition : sentence (placed 0 (name (codes "Definition") ∷ name (codes "f") ∷ symbol sign.OpenRound ∷ name (codes "x") ∷ symbol sign.Colon ∷ name (codes "A") ∷ symbol sign.CloseRound ∷ symbol sign.Colon ∷ name (codes "B") ∷ symbol sign.ColonEqual ∷ name (codes "x") ∷ symbol sign.Stop ∷ []))
    ≡ commands (v.definition (codes "f") ((codes "x", u.Written A_) ∷ []) (Some B_) x_)
unfolding reading placed
definition = refl

-- Definition f := x.
untyped : sentence (placed 0 (name (codes "Definition") ∷ name (codes "f") ∷ symbol sign.ColonEqual ∷ name (codes "x") ∷ symbol sign.Stop ∷ []))
    ≡ commands (v.definition (codes "f") [] None x_)
unfolding reading placed
untyped = refl

-- Theorem f (x y : A) (z : B) : A.
theorem : sentence (placed 0 (name (codes "Theorem") ∷ name (codes "f") ∷ symbol sign.OpenRound ∷ name (codes "x") ∷ name (codes "y") ∷ symbol sign.Colon ∷ name (codes "A") ∷ symbol sign.CloseRound ∷ symbol sign.OpenRound ∷ name (codes "z") ∷ symbol sign.Colon ∷ name (codes "B") ∷ symbol sign.CloseRound ∷ symbol sign.Colon ∷ name (codes "A") ∷ symbol sign.Stop ∷ []))
    ≡ commands (v.theorem (codes "f") ((codes "x", u.Written A_) ∷ (codes "y", u.Written A_) ∷ (codes "z", u.Written B_) ∷ []) A_)
unfolding reading placed
theorem = refl

-- Lemma f : A.
lemma : sentence (placed 0 (name (codes "Lemma") ∷ name (codes "f") ∷ symbol sign.Colon ∷ name (codes "A") ∷ symbol sign.Stop ∷ []))
    ≡ commands (v.lemma (codes "f") [] A_)
unfolding reading placed
lemma = refl

-- Proof.
proof : sentence (placed 0 (name (codes "Proof") ∷ symbol sign.Stop ∷ []))
    ≡ commands (v.proof)
unfolding reading placed
proof = refl

-- Qed.
qed : sentence (placed 0 (name (codes "Qed") ∷ symbol sign.Stop ∷ []))
    ≡ commands (v.qed)
unfolding reading placed
qed = refl

-- Defined.
defined : sentence (placed 0 (name (codes "Defined") ∷ symbol sign.Stop ∷ []))
    ≡ commands (v.defined)
unfolding reading placed
defined = refl

-- Abort.
abort : sentence (placed 0 (name (codes "Abort") ∷ symbol sign.Stop ∷ []))
    ≡ commands (v.abort)
unfolding reading placed
abort = refl

-- Unshelve.
unshelve : sentence (placed 0 (name (codes "Unshelve") ∷ symbol sign.Stop ∷ []))
    ≡ commands (v.unshelve)
unfolding reading placed
unshelve = refl

-- Print x.
print : sentence (placed 0 (name (codes "Print") ∷ name (codes "x") ∷ symbol sign.Stop ∷ []))
    ≡ commands (v.print (codes "x"))
unfolding reading placed
print = refl

-- Ltac f x y := a.
ltac : sentence (placed 0 (name (codes "Ltac") ∷ name (codes "f") ∷ name (codes "x") ∷ name (codes "y") ∷ symbol sign.ColonEqual ∷ name (codes "a") ∷ symbol sign.Stop ∷ []))
    ≡ commands (v.ltac (codes "f") (codes "x" ∷ codes "y" ∷ []) go)
unfolding reading placed
ltac = refl

-- Ltac f := a.
plain_ltac : sentence (placed 0 (name (codes "Ltac") ∷ name (codes "f") ∷ symbol sign.ColonEqual ∷ name (codes "a") ∷ symbol sign.Stop ∷ []))
    ≡ commands (v.ltac (codes "f") [] go)
unfolding reading placed
plain_ltac = refl

-- Outcomes 3 a.
outcomes : sentence (placed 0 (name (codes "Outcomes") ∷ number 3 ∷ name (codes "a") ∷ symbol sign.Stop ∷ []))
    ≡ commands (v.outcomes 3 go)
unfolding reading placed
outcomes = refl

-- counts are looked at when the sentence is run
-- Outcomes 0 idtac.
no_outcome : sentence (placed 0 (name (codes "Outcomes") ∷ number 0 ∷ name (codes "idtac") ∷ symbol sign.Stop ∷ []))
    ≡ commands (v.outcomes 0 (t.idtac []))
unfolding reading placed
no_outcome = refl

-- 2: a.
second : sentence (placed 0 (number 2 ∷ symbol sign.Colon ∷ name (codes "a") ∷ symbol sign.Stop ∷ []))
    ≡ selects (Ranges (Single 2 ∷ []))
unfolding reading placed
second = refl

-- 1, 3-4: a.
some : sentence (placed 0 (number 1 ∷ symbol sign.Comma ∷ number 3 ∷ symbol sign.Minus ∷ number 4 ∷ symbol sign.Colon ∷ name (codes "a") ∷ symbol sign.Stop ∷ []))
    ≡ selects (Ranges (Single 1 ∷ Span 3 4 ∷ []))
unfolding reading placed
some = refl

-- [x]: a.
called : sentence (placed 0 (symbol sign.OpenSquare ∷ name (codes "x") ∷ symbol sign.CloseSquare ∷ symbol sign.Colon ∷ name (codes "a") ∷ symbol sign.Stop ∷ []))
    ≡ selects (Named (codes "x"))
unfolding reading placed
called = refl

-- all: a.
every : sentence (placed 0 (name (codes "all") ∷ symbol sign.Colon ∷ name (codes "a") ∷ symbol sign.Stop ∷ []))
    ≡ selects (All)
unfolding reading placed
every = refl

-- !: a.
sole : sentence (placed 0 (symbol sign.Bang ∷ symbol sign.Colon ∷ name (codes "a") ∷ symbol sign.Stop ∷ []))
    ≡ selects (Sole)
unfolding reading placed
sole = refl

-- par: a.
each : sentence (placed 0 (name (codes "par") ∷ symbol sign.Colon ∷ name (codes "a") ∷ symbol sign.Stop ∷ []))
    ≡ selects (Par)
unfolding reading placed
each = refl

-- { a.
opened : sentence (placed 0 (symbol sign.OpenCurly ∷ []))
    ≡ Ok (v.open_brace None)
unfolding reading placed
opened = refl

-- [x]: {
opened_named : sentence (placed 0 (symbol sign.OpenSquare ∷ name (codes "x") ∷ symbol sign.CloseSquare ∷ symbol sign.Colon ∷ symbol sign.OpenCurly ∷ []))
    ≡ Ok (v.open_brace (Some (Named (codes "x"))))
unfolding reading placed
opened_named = refl

-- } a.
close : sentence (placed 0 (symbol sign.CloseCurly ∷ []))
    ≡ Ok v.close_brace
unfolding reading placed
close = refl

-- ****a.
stars : sentence (placed 0 (bullet 42 4 ∷ []))
    ≡ Ok (v.bullet 42 4)
unfolding reading placed
stars = refl

-- Fail 2: a.
failing : sentence (placed 0 (name (codes "Fail") ∷ number 2 ∷ symbol sign.Colon ∷ name (codes "a") ∷ symbol sign.Stop ∷ []))
    ≡ Ok (v.stated 1 (v.run (Some (Ranges (Single 2 ∷ []))) go))
unfolding reading placed
failing = refl
