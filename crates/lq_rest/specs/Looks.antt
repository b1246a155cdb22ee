-- What is told of the tokens that can be looked at.
use Rattle.std.specs.Prelude.{◌≡◌, ℕ, ◌+◌, ◌≤◌, List, suc, [], length, Option, Some, None, Result, Ok, Err}
use Rattle.lq_grammar.specs.declared.fault.LexFault.{LexFault}
use Rattle.lq_grammar.specs.declared.fault.LexFault.TheVariants.{BadChar, OpenComment, OpenString, BadNumber, NoMemory}
use Rattle.lq_grammar.specs.declared.token.Token.{Token}
use Rattle.lq_grammar.specs.Cells.{place, window}
use Rattle.lq_grammar.specs.Cutting.{longest}
use Rattle.lq_lex.specs.declared.view.View.{View}
use Rattle.lq_lex.specs.Views.{from}
use Rattle.lq_sessions.specs.Rest.{Looked, looked}

-- the tokens or the fault that are told are those of the definition, unless there was no memory
abbrev pub Looks : Result (List Token) LexFault → Looked → Type 0
Looks (Ok ts) r = r ≡ Ok ts
Looks (Err NoMemory) r = Unit {0}
Looks (Err (BadChar p)) r = r ≡ Err (BadChar p)
Looks (Err (OpenComment p)) r = r ≡ Err (OpenComment p)
Looks (Err (OpenString p)) r = r ≡ Err (OpenString p)
Looks (Err (BadNumber p)) r = r ≡ Err (BadNumber p)

-- where a sentence begins, or what there is in its place
abbrev pub Begins : View → Result (Option ℕ) LexFault → Looked → Type 0
Begins v (Ok (Some at)) r = (r ≡ looked (suc (length v.text.now)) v.text.now [] (window (place (from v at) + longest) (from v at))) × (at ≤ length v.text.now)
Begins v (Ok None) r = r ≡ Ok []
Begins v (Err fault) r = Looks (Err fault) r
