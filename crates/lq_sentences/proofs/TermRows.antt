-- Trees of terms, one for each production, computed on words, which stand above each; a place is how many words stand before.
use Rattle.std.specs.Prelude.{◌≡◌, refl, [], ◌∷◌, codes, Ok}
use Rattle.lq_grammar.specs.declared.token.Symbol.TheVariants as sign
use Rattle.lq_ast.specs.Syntax as u
use Rattle.lq_ast.specs.Commands as v
use Rattle.lq_sentences.specs.Words.{name, number, symbol}
use Rattle.lq_sentences.specs.Reading.{Whole, sentence}
use Rattle.lq_sentences.proofs.Computing.{reading}
use Rattle.lq_sentences.proofs.Placing.{placed}

-- a sentence `Check t`
abbrev checks : u.Surface → Whole v.Sentence
checks t = Ok (v.stated 0 (v.command (v.check t)))

abbrev A_ : u.Surface
A_ = u.Ident (codes "A")

abbrev B_ : u.Surface
B_ = u.Ident (codes "B")

abbrev f_ : u.Surface
f_ = u.Ident (codes "f")

abbrev x_ : u.Surface
x_ = u.Ident (codes "x")

-- one product for each name, and `->` goes on to the right
-- Check forall A B : Prop, A -> B -> A.
products : sentence (placed 0 (name (codes "Check") ∷ name (codes "forall") ∷ name (codes "A") ∷ name (codes "B") ∷ symbol sign.Colon ∷ name (codes "Prop") ∷ symbol sign.Comma ∷ name (codes "A") ∷ symbol sign.Arrow ∷ name (codes "B") ∷ symbol sign.Arrow ∷ name (codes "A") ∷ symbol sign.Stop ∷ []))
    ≡ checks (u.Forall (codes "A") (u.Written u.PropSort) (u.Forall (codes "B") (u.Written u.PropSort) (u.Arrow A_ (u.Arrow B_ A_))))
unfolding reading placed
products = refl

-- Check forall (x y : A) (z : B), x.
groups : sentence (placed 0 (name (codes "Check") ∷ name (codes "forall") ∷ symbol sign.OpenRound ∷ name (codes "x") ∷ name (codes "y") ∷ symbol sign.Colon ∷ name (codes "A") ∷ symbol sign.CloseRound ∷ symbol sign.OpenRound ∷ name (codes "z") ∷ symbol sign.Colon ∷ name (codes "B") ∷ symbol sign.CloseRound ∷ symbol sign.Comma ∷ name (codes "x") ∷ symbol sign.Stop ∷ []))
    ≡ checks (u.Forall (codes "x") (u.Written A_) (u.Forall (codes "y") (u.Written A_) (u.Forall (codes "z") (u.Written B_) x_)))
unfolding reading placed
groups = refl

-- a binder without a type has its place
-- Check fun x y => f.
untyped : sentence (placed 0 (name (codes "Check") ∷ name (codes "fun") ∷ name (codes "x") ∷ name (codes "y") ∷ symbol sign.FatArrow ∷ name (codes "f") ∷ symbol sign.Stop ∷ []))
    ≡ checks (u.Fun (codes "x") (u.Missing 2) (u.Fun (codes "y") (u.Missing 3) f_))
unfolding reading placed
untyped = refl

-- Check fun _ : A => x.
blank_binder : sentence (placed 0 (name (codes "Check") ∷ name (codes "fun") ∷ symbol sign.Underscore ∷ symbol sign.Colon ∷ name (codes "A") ∷ symbol sign.FatArrow ∷ name (codes "x") ∷ symbol sign.Stop ∷ []))
    ≡ checks (u.Fun [] (u.Written A_) x_)
unfolding reading placed
blank_binder = refl

-- Check fun (x : A) => x.
function_group : sentence (placed 0 (name (codes "Check") ∷ name (codes "fun") ∷ symbol sign.OpenRound ∷ name (codes "x") ∷ symbol sign.Colon ∷ name (codes "A") ∷ symbol sign.CloseRound ∷ symbol sign.FatArrow ∷ name (codes "x") ∷ symbol sign.Stop ∷ []))
    ≡ checks (u.Fun (codes "x") (u.Written A_) x_)
unfolding reading placed
function_group = refl

-- Check let x : A := f in x.
typed_let : sentence (placed 0 (name (codes "Check") ∷ name (codes "let") ∷ name (codes "x") ∷ symbol sign.Colon ∷ name (codes "A") ∷ symbol sign.ColonEqual ∷ name (codes "f") ∷ name (codes "in") ∷ name (codes "x") ∷ symbol sign.Stop ∷ []))
    ≡ checks (u.LetIn (codes "x") (u.Written A_) f_ x_)
unfolding reading placed
typed_let = refl

-- Check let x := f in x.
untyped_let : sentence (placed 0 (name (codes "Check") ∷ name (codes "let") ∷ name (codes "x") ∷ symbol sign.ColonEqual ∷ name (codes "f") ∷ name (codes "in") ∷ name (codes "x") ∷ symbol sign.Stop ∷ []))
    ≡ checks (u.LetIn (codes "x") (u.Missing 2) f_ x_)
unfolding reading placed
untyped_let = refl

-- Check f (f x) _ Type 0.
applications : sentence (placed 0 (name (codes "Check") ∷ name (codes "f") ∷ symbol sign.OpenRound ∷ name (codes "f") ∷ name (codes "x") ∷ symbol sign.CloseRound ∷ symbol sign.Underscore ∷ name (codes "Type") ∷ number 0 ∷ symbol sign.Stop ∷ []))
    ≡ checks (u.Applied (u.Applied (u.Applied f_ (u.Applied f_ x_)) (u.Blank 6)) (u.TypeSort 0))
unfolding reading placed
applications = refl

-- Check Prop -> Type 3.
sorts : sentence (placed 0 (name (codes "Check") ∷ name (codes "Prop") ∷ symbol sign.Arrow ∷ name (codes "Type") ∷ number 3 ∷ symbol sign.Stop ∷ []))
    ≡ checks (u.Arrow u.PropSort (u.TypeSort 3))
unfolding reading placed
sorts = refl

-- Check (x : A) -> B.
typed_term : sentence (placed 0 (name (codes "Check") ∷ symbol sign.OpenRound ∷ name (codes "x") ∷ symbol sign.Colon ∷ name (codes "A") ∷ symbol sign.CloseRound ∷ symbol sign.Arrow ∷ name (codes "B") ∷ symbol sign.Stop ∷ []))
    ≡ checks (u.Arrow (u.Cast x_ A_) B_)
unfolding reading placed
typed_term = refl

-- Check f ?[x].
variable : sentence (placed 0 (name (codes "Check") ∷ name (codes "f") ∷ symbol sign.Question ∷ symbol sign.OpenSquare ∷ name (codes "x") ∷ symbol sign.CloseSquare ∷ symbol sign.Stop ∷ []))
    ≡ checks (u.Applied f_ (u.NewVar (codes "x") 2))
unfolding reading placed
variable = refl

-- Check f x -> A.
long_left : sentence (placed 0 (name (codes "Check") ∷ name (codes "f") ∷ name (codes "x") ∷ symbol sign.Arrow ∷ name (codes "A") ∷ symbol sign.Stop ∷ []))
    ≡ checks (u.Arrow (u.Applied f_ x_) A_)
unfolding reading placed
long_left = refl
