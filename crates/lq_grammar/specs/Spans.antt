-- Where the tokens of a sentence stand.
use Rattle.std.specs.Prelude.{ℕ, ◌<◌, ◌≤◌, List, [], ◌∷◌}
use Rattle.lq_grammar.specs.declared.token.Token.{Token}

-- tokens stand one behind another from a place on and up to another, and none is empty
abbrev pub AreSpans : ℕ → List Token → ℕ → Type 0
AreSpans at [] stop = at ≤ stop
AreSpans at (t ∷ ts) stop = (at ≤ t.start) × (t.start < t.end) × AreSpans t.end ts stop

-- a sentence has a token, and its tokens stand between a place and its end, which lies in the text
abbrev pub IsSpread : ℕ → ℕ → List Token → ℕ → Type 0
IsSpread from len ts stop = AreSpans from ts stop × (from < stop) × (stop ≤ len)
