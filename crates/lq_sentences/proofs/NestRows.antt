-- Faults at nesting 201, for each form that nests, computed on words; the place of a word is how many stand before it.
use Rattle.std.specs.Prelude.{◌≡◌, refl, ℕ, zero, suc, List, [], ◌∷◌, ◌++◌, codes, None, Ok, Err}
use Rattle.lq_grammar.specs.declared.token.Symbol.TheVariants as sign
use Rattle.lq_ast.specs.Syntax as u
use Rattle.lq_ast.specs.Tactics as t
use Rattle.lq_ast.specs.Commands as v
use Rattle.lq_sentences.specs.Words.{Word, name, number, symbol}
use Rattle.lq_sentences.specs.Rules.{unexpected, too_nested}
use Rattle.lq_sentences.specs.Reading.{sentence}
use Rattle.lq_sentences.proofs.Computing.{reading}
use Rattle.lq_sentences.proofs.Placing.{placed}

-- some words so many times, before others
unfoldable times : ℕ → List Word → List Word → List Word
times zero xs ys = ys
times (suc n) xs ys = xs ++ times n xs ys

abbrev a : Word
a = name (codes "a")

abbrev x : Word
x = name (codes "x")

brackets : sentence (placed 0 (times 201 (symbol sign.OpenRound ∷ []) (a ∷ []))) ≡ Err (too_nested 201)
unfolding reading times placed
brackets = refl

-- a word that could not stand there is unexpected
no_bracket : sentence (placed 0 (times 201 (symbol sign.OpenRound ∷ []) (symbol sign.CloseRound ∷ []))) ≡ Err (unexpected 201)
unfolding reading times placed
no_bracket = refl

squares : sentence (placed 0 (times 201 (name (codes "first") ∷ symbol sign.OpenSquare ∷ []) (a ∷ []))) ≡ Err (too_nested 402)
unfolding reading times placed
squares = refl

-- the term that is matched stands inside the match
matches : sentence (placed 0 (times 201 (name (codes "match") ∷ x ∷ name (codes "with") ∷ symbol sign.Underscore ∷ symbol sign.FatArrow ∷ []) (a ∷ []))) ≡ Err (too_nested 1001)
unfolding reading times placed
matches = refl

-- so does what is bound
products : sentence (placed 0 (name (codes "Check") ∷ times 201 (name (codes "forall") ∷ x ∷ symbol sign.Comma ∷ []) (x ∷ []))) ≡ Err (too_nested 602)
unfolding reading times placed
products = refl

lets : sentence (placed 0 (name (codes "Check") ∷ times 201 (name (codes "let") ∷ x ∷ symbol sign.ColonEqual ∷ x ∷ name (codes "in") ∷ []) (x ∷ []))) ≡ Err (too_nested 1002)
unfolding reading times placed
lets = refl

-- the right side alone
arrows : sentence (placed 0 (name (codes "Check") ∷ times 201 (x ∷ symbol sign.Arrow ∷ []) (x ∷ []))) ≡ Err (too_nested 403)
unfolding reading times placed
arrows = refl

sums : sentence (placed 0 (times 201 (a ∷ symbol sign.Plus ∷ []) (a ∷ []))) ≡ Err (too_nested 402)
unfolding reading times placed
sums = refl

bars : sentence (placed 0 (times 201 (a ∷ symbol sign.Bars ∷ []) (a ∷ []))) ≡ Err (too_nested 402)
unfolding reading times placed
bars = refl

tries : sentence (placed 0 (times 201 (name (codes "try") ∷ []) (a ∷ []))) ≡ Err (too_nested 201)
unfolding reading times placed
tries = refl

counts : sentence (placed 0 (times 201 (name (codes "do") ∷ number 2 ∷ []) (a ∷ []))) ≡ Err (too_nested 401)
unfolding reading times placed
counts = refl

tests : sentence (placed 0 (times 201 (name (codes "tryif") ∷ a ∷ name (codes "then") ∷ []) (a ∷ []))) ≡ Err (too_nested 601)
unfolding reading times placed
tests = refl

functions : sentence (placed 0 (times 201 (name (codes "fun") ∷ x ∷ symbol sign.FatArrow ∷ []) (a ∷ []))) ≡ Err (too_nested 601)
unfolding reading times placed
functions = refl

-- the earlier place counts
earlier : sentence (placed 0 (name (codes "Check") ∷ times 201 (symbol sign.OpenRound ∷ []) (name (codes "Prop") ∷ name (codes "fun") ∷ []))) ≡ Err (too_nested 202)
unfolding reading times placed
earlier = refl

abbrev tried : ℕ → t.Tac → t.Tac
tried zero b = b
tried (suc n) b = t.try (tried n b)

deepest : sentence (placed 0 (times 200 (name (codes "try") ∷ []) (a ∷ symbol sign.Stop ∷ []))) ≡ Ok (v.stated 0 (v.run None (tried 200 (t.call (codes "a") t.no_arg))))
unfolding reading times placed
deepest = refl

abbrev words_said : ℕ → t.Args → t.Args
words_said zero as_ = as_
words_said (suc n) as_ = t.arg (t.term_arg (u.Ident (codes "try"))) (words_said n as_)

-- too deep behind `Fail`, which so is the name of a call
other_reading : sentence (placed 0 (name (codes "Fail") ∷ times 201 (name (codes "try") ∷ []) (a ∷ symbol sign.Stop ∷ [])))
    ≡ Ok (v.stated 0 (v.run None (t.call (codes "Fail") (words_said 201 (t.arg (t.term_arg (u.Ident (codes "a"))) t.no_arg)))))
unfolding reading times placed
other_reading = refl
