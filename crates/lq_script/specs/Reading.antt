-- What the readers of the code give.
use Rattle.std.specs.Prelude.{◌≡◌, true, false, List, map, Result, Ok, Err, Option, Some, None}
use Rattle.std.specs.Borrow.{Bor}
use Rattle.lq_output.specs.Grammar as plain
use Rattle.lq_output.specs.Grammar.{is_name}
use Rattle.lq_output.specs.Tokens as tokens
use Rattle.lq_trees.specs.Tree.{Name}
use Rattle.lq_script.specs.declared.reader.fault.Unread.{Unread}
use Rattle.lq_script.specs.declared.reader.fault.Unread.TheVariants.{Memory, Grammar}
use Rattle.lq_script.specs.declared.reader.lexer.Token.{Token}
use Rattle.lq_script.specs.declared.syntax.Surface.{Surface}
use Rattle.lq_script.specs.Syntax.{plain_surface}
use Rattle.lq_script.specs.declared.reader.lexer.Token.TheVariants.{Word, Colon, Comma, Arrow, Semicolon, Opening, Closing}

-- what a reader's fault says of the definition: there is nothing, unless there was no memory
abbrev pub Fails : {A : Type 0} → Unread → Option A → Type 0
Fails Memory definition = Unit {0}
Fails Grammar definition = definition ≡ None

-- What a reader returned, seen by `view`, is what the definition gives, unless there was no memory.
abbrev pub Reads : {X A : Type 0} → (X → A) → Result X Unread → Option A → Type 0
Reads view (Ok x) definition = definition ≡ Some (view x)
Reads view (Err fault) definition = Fails fault definition

-- a token, and tokens, without where they lie in memory
abbrev pub plain_token : Token → tokens.Token
plain_token (Word w) = tokens.word w.now
plain_token Colon = tokens.colon
plain_token Comma = tokens.comma
plain_token Arrow = tokens.arrow
plain_token Semicolon = tokens.semicolon
plain_token Opening = tokens.opening
plain_token Closing = tokens.closing

abbrev pub plain_tokens : List Token → List tokens.Token
plain_tokens ts = map plain_token ts

-- a word as a name
unfoldable pub name_of : Name → Option Name
name_of w = elim (is_name w) [ true ↦ Some w | false ↦ None ]

-- a term as it was read, and the tokens behind it
abbrev pub plain_rest : Surface × Bor (List Token) → plain.Surface × List tokens.Token
plain_rest r = (plain_surface r.0, plain_tokens r.1.now)
