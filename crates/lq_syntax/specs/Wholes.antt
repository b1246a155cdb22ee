-- What functions answer that read all the words.
use Rattle.std.specs.Prelude.{◌≡◌, ℕ, suc, nat_lt, Bool, true, false, [], ◌∷◌, drop, Result, Ok, Err, codes}
use Rattle.lq_ast.specs.Commands.{Sentence, stated}
use Rattle.lq_sentences.specs.Words.{Words, reads}
use Rattle.lq_sentences.specs.Reading.{Whole, whole_map, statement}
use Rattle.lq_phrases.specs.declared.refusal.Refusal.{Refusal}
use Rattle.lq_phrases.specs.declared.refusal.Refusal.TheVariants.{NoMemory, Unexpected, TooNested, Ended}
use Rattle.lq_phrases.specs.Views.{Fails}

-- the result has the outcome's tree, or its refusal is that of the outcome, or memory ran out
abbrev pub Tells : {A B : Type 0} → (A → B) → Whole B → Result A Refusal → Type 0
Tells tree outcome (Ok a) = outcome ≡ Ok (tree a)
Tells tree outcome (Err e) = Fails e outcome

-- of two refusals the one that got further, the end being the furthest; at one word the nesting
abbrev pub further_of : Refusal → Refusal → Refusal
further_of NoMemory f = NoMemory
further_of Ended NoMemory = NoMemory
further_of Ended Ended = Ended
further_of Ended (Unexpected n) = Ended
further_of Ended (TooNested n) = Ended
further_of (Unexpected m) NoMemory = NoMemory
further_of (Unexpected m) Ended = Ended
further_of (Unexpected m) (Unexpected n) = elim (nat_lt m n) [ true ↦ Unexpected n | false ↦ Unexpected m ]
further_of (Unexpected m) (TooNested n) = elim (nat_lt n m) [ true ↦ Unexpected m | false ↦ TooNested n ]
further_of (TooNested m) NoMemory = NoMemory
further_of (TooNested m) Ended = Ended
further_of (TooNested m) (Unexpected n) = elim (nat_lt m n) [ true ↦ Unexpected n | false ↦ TooNested m ]
further_of (TooNested m) (TooNested n) = elim (nat_lt m n) [ true ↦ TooNested n | false ↦ TooNested m ]

-- the second answer, or the refusal that got further
abbrev pub joined_behind : {A : Type 0} → Refusal → Result A Refusal → Result A Refusal
joined_behind e (Ok a) = Ok a
joined_behind e (Err f) = Err (further_of e f)

-- so it is, but where memory ran out before
abbrev pub joined : {A : Type 0} → Refusal → Result A Refusal → Result A Refusal
joined NoMemory second = Err NoMemory
joined Ended second = joined_behind Ended second
joined (Unexpected p) second = joined_behind (Unexpected p) second
joined (TooNested p) second = joined_behind (TooNested p) second

-- how many `Fail`s stand before all else
unfoldable pub fails_of : Words → ℕ
fails_of [] = 0
fails_of (w ∷ ws) = elim (reads (codes "Fail") w.0) [ true ↦ suc (fails_of ws) | false ↦ 0 ]

-- a statement behind so many words, each of which is `Fail`
abbrev pub stated_behind : ℕ → Words → Whole Sentence
stated_behind n ws = whole_map (stated n) (statement (drop n ws))
