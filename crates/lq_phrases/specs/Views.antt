-- Words as the grammar has them, and what a function that reads ensures.
use Rattle.std.specs.Prelude.{◌≡◌, ℕ, ◌+◌, ◌-◌, Bool, false, ◌&&◌, ◌||◌, List, [], ◌∷◌, map, Option, Result, Ok, Err, codes}
use Rattle.lq_trees.specs.Tree.{Name as Text}
use Rattle.lq_ast.specs.Syntax.{Surface, Domain, Bound, applied}
use Rattle.lq_ast.specs.Plain.{name_of, joined, plain, plain_domain, plain_binders}
use Rattle.lq_ast.specs.declared.surface.Binders.{Binders}
use Rattle.lq_ast.specs.declared.surface.Binder.{Binder}
use Rattle.lq_ast.specs.declared.surface.Surface.{Surface as Term}
use Rattle.lq_ast.specs.declared.surface.Domain.{Domain as Code}
use Rattle.lq_grammar.specs.declared.token.Symbol.TheVariants.{OpenRound, Bar, CloseSquare, Dots}
use Rattle.lq_sentences.specs.Words as tree
use Rattle.lq_sentences.specs.Words.{Words, undoubled, is_name, is_number, is_sign, reads}
use Rattle.lq_sentences.specs.Rules.{Rule, ◌<$>◌, Stop, unexpected, too_nested, ended, Read}
use Rattle.lq_sentences.specs.Parts.{many, is_spare, is_binder}
use Rattle.lq_sentences.specs.Terms.{Spot as Where, term, term_in, inner_group, atom_at, arguments, begins_atom, begins_argument, begins_term, is_level}
use Rattle.lq_sentences.specs.Arguments.{begins_message, is_amount, begins_amount, begins_part, begins_arg}
use Rattle.lq_sentences.specs.Levels.{Here}
use Rattle.lq_sentences.specs.Sentences.{is_mark, opens, is_entry, command_words}
use Rattle.lq_sentences.specs.Tactics.{is_reduction, begins_pre, level}
use Rattle.lq_phrases.specs.declared.word.Word.{Word}
use Rattle.lq_phrases.specs.declared.word.Word.TheVariants.{Name, Number, Quoted, Symbol, Bullet}
use Rattle.lq_phrases.specs.declared.word.Placed.{Placed}
use Rattle.lq_phrases.specs.declared.word.Ends.{Ends}
use Rattle.lq_phrases.specs.declared.word.Ends.TheVariants.{Nothing, Then, Else}
use Rattle.lq_phrases.specs.declared.word.Test.{Test}
use Rattle.lq_phrases.specs.declared.word.Test.TheVariants as test
use Rattle.lq_phrases.specs.declared.word.Spot.{Spot}
use Rattle.lq_phrases.specs.declared.refusal.Refusal.{Refusal}
use Rattle.lq_phrases.specs.declared.refusal.Refusal.TheVariants.{NoMemory, Unexpected, TooNested, Ended}

-- the word of the grammar
abbrev pub word_of : Word → tree.Word
word_of (Name x) = tree.name x.now
word_of (Number n) = tree.number n
word_of (Quoted s) = tree.quoted (undoubled false s.now)
word_of (Symbol s) = tree.symbol s
word_of (Bullet c n) = tree.bullet c n

abbrev pub placed_of : Placed → tree.Word × ℕ
placed_of p = (word_of p.word, p.place)

abbrev pub words_of : List Placed → Words
words_of [] = []
words_of (p ∷ ps) = (word_of p.word, p.place) ∷ words_of ps

-- how the word that ends a part is written
abbrev pub ends_of : Ends → Text
ends_of Nothing = []
ends_of Then = codes "then"
ends_of Else = codes "else"

-- the test of the grammar
abbrev pub test_of : Test → tree.Word → Bool
test_of test.Name = is_name
test_of test.Number = is_number
test_of (test.Sign s) = is_sign s
test_of test.Binder = is_binder
test_of (test.Spare e) = is_spare (ends_of e)
test_of test.Atom = begins_atom
test_of (test.Argument e) = begins_argument (ends_of e)
test_of test.Term = begins_term
test_of test.Level = is_level
test_of (test.Message e) = begins_message (ends_of e)
test_of (test.Amount e) = begins_amount (ends_of e)
test_of test.Count = is_amount
test_of test.Reduction = is_reduction
test_of (test.Part e) = begins_part (ends_of e)
test_of (test.Arg e) = begins_arg (ends_of e)
test_of test.Tactic = begins_pre
test_of (test.Opening b) = opens b
test_of test.Mark = is_mark
test_of test.Rec = reads (codes "rec")
test_of test.With = reads (codes "with")
test_of test.Rim = λ w. is_sign Bar w || is_sign CloseSquare w || is_sign Dots w
test_of (test.Filling b) = λ w. b && is_sign Dots w
test_of test.Command = is_entry command_words

-- where a term stands
abbrev pub spot_of : Spot → Where
spot_of s = record { is_pattern = s.is_pattern; ends = ends_of s.ends }

abbrev pub same : {A : Type 0} → A → A
same a = a

-- the name and the place of what is bound
abbrev pub binder_of : Binder → Text × ℕ
binder_of b = (name_of b.name, b.place)

-- all that some parts bind, name by name
abbrev pub bound_of : List Binders → List Bound
bound_of bs = joined (map plain_binders bs)

-- a term with so many levels inside
abbrev pub inner_term : ℕ → Where → Rule Surface
inner_term n c = term_in n (n - 1) (term n) (term (n - 1)) c

-- groups in a row, in a term with so many levels inside
abbrev pub inner_groups : ℕ → Where → Rule (List Bound)
inner_groups n c = joined <$> many n (is_sign OpenRound) (inner_group n (n - 1) (term (n - 1)) c) []

-- the arguments behind those found so far, in a term with so many levels inside
abbrev pub more_atoms : ℕ → Where → List Surface → Rule (List Surface)
more_atoms n c found = many (n + 1) (begins_argument c.ends) (atom_at n (term n) c) found

-- a function with its arguments, behind the function
abbrev pub application_of : ℕ → Where → Surface → Rule Surface
application_of n c f = applied f <$> arguments n (term n) c

-- the head of a `let`, and what stands behind it
abbrev pub head_of : Option Text × Code → Text × Domain
head_of h = (name_of h.0, plain_domain h.1)

abbrev pub body_of : Term × Term → Surface × Surface
body_of b = (plain b.0, plain b.1)

-- where an expression is read that has so many levels inside
abbrev pub here : ℕ → Ends → Here
here n e = record { n = n; below = level n; ends = ends_of e }

-- the same where no word ends it
abbrev pub free : ℕ → Here
free n = here n Nothing

-- the refusal is that of the outcome, or memory ran out
abbrev pub Fails : {A : Type 0} → Refusal → Result A Stop → Type 0
Fails NoMemory outcome = Unit {0}
Fails (Unexpected p) outcome = outcome ≡ Err (unexpected p)
Fails (TooNested p) outcome = outcome ≡ Err (too_nested p)
Fails Ended outcome = outcome ≡ Err ended

-- the result has the outcome's tree and leaves what it leaves, unless memory ran out; `tree` tells the tree of a result
abbrev pub Gives : {A B : Type 0} → (A → B) → Read B → Result A Refusal → Words → Type 0
Gives tree outcome (Ok a) rest = outcome ≡ Ok (tree a, rest)
Gives tree outcome (Err e) rest = Fails e outcome

-- the words behind the first
abbrev pub behind : Words → Words
behind [] = []
behind (w ∷ ws) = ws
