-- A row of tactics, one by one.
use Rattle.std.specs.Prelude.{ℕ, ◌+◌, List, [], ◌∷◌, length, Option, Some, None}
use Rattle.std.specs.Borrow.{Bor}
use Rattle.lq_output.specs.Tokens.{Token, word, semicolon}
use Rattle.lq_output.specs.Grammar.{Tactic, tactic_of}
use Rattle.lq_script.specs.declared.reader.lexer.Token.{Token as Borrowed}
use Rattle.lq_script.specs.Reading.{plain_tokens}

-- behind a tactic: the row behind a `;`, or no row at the end
unfoldable pub row_behind : List Token → Option (Option (List Token))
row_behind [] = Some None
row_behind (semicolon ∷ ts) = Some (Some ts)
row_behind _ = None

-- the tactic that a row begins with, and the row behind it
unfoldable pub first_tactic : List Token → Option (Tactic × Option (List Token))
first_tactic (word v ∷ word x ∷ ts) = elim (tactic_of v x) [ None ↦ None | Some t ↦ elim (row_behind ts) [ None ↦ None | Some row ↦ Some (t, row) ] ]
first_tactic _ = None

-- a row as the code has it
abbrev pub plain_row : Option (Bor (List Borrowed)) → Option (List Token)
plain_row None = None
plain_row (Some ts) = Some (plain_tokens ts.now)

-- how much is left where a row is left
abbrev pub row_len : Option (Bor (List Borrowed)) → ℕ
row_len None = 0
row_len (Some ts) = length ts.now + 1
