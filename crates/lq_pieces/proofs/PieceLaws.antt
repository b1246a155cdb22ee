-- What comes next, by what is read of it.
use Rattle.std.proofs.Common.{◌≡◌, ◌∙◌, refl, sym, ap, subst, arith, ℕ, suc, Bool, true, false, List, [], ◌∷◌, length, Result, Ok, Err}
use Rattle.std.proofs.lemmas.Bool.{eqb-true, eqb-false}
use Rattle.std.specs.Prelude.{◌&&◌, ◌==◌, ◌≤◌, nat_lt}
use Rattle.lq_grammar.specs.declared.token.Token.{Token}
use Rattle.lq_grammar.specs.Cutting.{Next, sentence, finished, next}
use Rattle.lq_lex.specs.Pieces.{Cuts}
use Rattle.lq_lex.specs.declared.piece.Piece.{Piece as Cut}
use Rattle.lq_ast.specs.Commands.{Sentence}
use Rattle.lq_ast.specs.PlainCommands.{plain_sentence}
use Rattle.lq_ast.specs.declared.sentence.Sentence.{Sentence as Code}
use Rattle.lq_sentences.specs.Reading.{read_sentence, is_closed_behind}
use Rattle.lq_syntax.specs.Answers.{Answers}
use Rattle.lq_rest.specs.Looks.{Looks}
use Rattle.lq_causes.specs.declared.stops.Stop.{Stop}
use Rattle.lq_sessions.specs.Rest.{Looked, counts, looked_at}
use Rattle.lq_pieces.specs.declared.pieces.Piece.{Piece}
use Rattle.lq_spelling.specs.Spellings.{IsCut}
use Rattle.lq_pieces.proofs.LookedLaws.{Lookable, looked_lookable}
use Rattle.lq_grammar.specs.declared.fault.LexFault.{LexFault}
use Rattle.lq_grammar.specs.declared.fault.LexFault.TheVariants as lex
use Rattle.lq_sentences.specs.declared.fault.SyntaxFault.{SyntaxFault}
use Rattle.lq_sentences.specs.declared.fault.SyntaxFault.TheVariants as syntax_fault
use Rattle.lq_causes.specs.Stops.{lex_stop, syntax_stop}
use Rattle.lq_sessions.specs.Told.{lexical, syntactic}
use Rattle.lq_sessions.specs.Sessions.{Session}
use Rattle.lq_sessions.specs.Built.{Parts}
use Rattle.lq_sessions.specs.Output.{Run, faulted_by, read_and_ran, rest_read, rest_looked, piece_ran, turn}
use Rattle.lq_pieces.specs.Pieces.{Runs, piece_run, Comes}

-- runs that are the same
abbrev pub AreSame : Runs → Runs → Type 0
AreSame q r = (b : Parts) (s : Session) (k : ℕ) (go : ℕ → Session → Run) → q b s k go ≡ r b s k go

pub comes_as : (o : Result Piece Stop) (q r : Runs) → AreSame q r → Comes o r → Comes o q
comes_as (Ok p) q r e h = λ b s k go. e b s k go ∙ h b s k go
comes_as (Err (Stop.Refused c)) q r e h = λ bank. ((h bank).0, λ b s k go. e b s k go ∙ (h bank).1 b s k go)
comes_as (Err Stop.NoMemory) q r e h = tt

-- a stop that is another
pub as_stop : (e f : Stop) (r : Runs) → e ≡ f → Comes (Err f) r → Comes (Err e) r
as_stop e f r same h = subst (λ x. Comes (Err x) r) (sym same) h

-- an answer of a fault that is another, and of a piece that is another
pub as_answer : (f g : SyntaxFault) (r : Result Sentence SyntaxFault) → f ≡ g → Answers (Err f) r → Answers (Err g) r
as_answer f g r same h = subst (λ x. Answers (Err x) r) same h

pub as_cut : (p q : Cut) (r : Result Next LexFault) → p ≡ q → Cuts (Ok p) r → Cuts (Ok q) r
as_cut p q r same h = subst (λ x. Cuts (Ok x) r) same h

pub as_fault : (f g : LexFault) (r : Result Next LexFault) → f ≡ g → Cuts (Err f) r → Cuts (Err g) r
as_fault f g r same h = subst (λ x. Cuts (Err x) r) same h

-- a fault of tokens
pub lex_comes : (f : LexFault) (r : Runs) → ((b : Parts) (s : Session) (k : ℕ) (go : ℕ → Session → Run) → r b s k go ≡ faulted_by s k (lexical f)) → Comes (Err (lex_stop f)) r
unfolding lexical
lex_comes (lex.BadChar p) r h = λ bank. (tt, h)
lex_comes (lex.OpenComment p) r h = λ bank. (tt, h)
lex_comes (lex.OpenString p) r h = λ bank. (tt, h)
lex_comes (lex.BadNumber p) r h = λ bank. (tt, h)
lex_comes lex.NoMemory r h = tt

-- a fault of syntax
pub syntax_comes : (f : SyntaxFault) (r : Runs) → ((b : Parts) (s : Session) (k : ℕ) (go : ℕ → Session → Run) → r b s k go ≡ faulted_by s k (syntactic f)) → Comes (Err (syntax_stop f)) r
unfolding syntactic
syntax_comes (syntax_fault.Unexpected p) r h = λ bank. (tt, h)
syntax_comes (syntax_fault.TooNested p) r h = λ bank. (tt, h)
syntax_comes (syntax_fault.EndInside p) r h = λ bank. (tt, h)
syntax_comes (syntax_fault.SentenceTooLong p) r h = λ bank. (tt, h)
syntax_comes syntax_fault.NoMemory r h = tt

-- ---- sentences

pub sentence_comes : (x : Code) (place : ℕ) (r : Result Sentence SyntaxFault) → r ≡ Ok (plain_sentence x) → Comes (Ok (Piece.Sentence x place)) (λ b s k go. read_and_ran b s k r (go place))
unfolding read_and_ran piece_run
sentence_comes x place r e = λ b s k go. ap (λ o. read_and_ran b s k o (go place)) e

fault_reads : (f : SyntaxFault) (place : ℕ) (r : Result Sentence SyntaxFault) → r ≡ Err f → Comes (Err (syntax_stop f)) (λ b s k go. read_and_ran b s k r (go place))
unfolding read_and_ran
fault_reads f place r e = syntax_comes f (λ b s k go. read_and_ran b s k r (go place)) (λ b s k go. ap (λ o. read_and_ran b s k o (go place)) e)

pub refused_comes : (f : SyntaxFault) (place : ℕ) (r : Result Sentence SyntaxFault) → Answers (Err f) r → Comes (Err (syntax_stop f)) (λ b s k go. read_and_ran b s k r (go place))
refused_comes (syntax_fault.Unexpected p) place r e = fault_reads (syntax_fault.Unexpected p) place r e
refused_comes (syntax_fault.TooNested p) place r e = fault_reads (syntax_fault.TooNested p) place r e
refused_comes (syntax_fault.EndInside p) place r e = fault_reads (syntax_fault.EndInside p) place r e
refused_comes (syntax_fault.SentenceTooLong p) place r e = fault_reads (syntax_fault.SentenceTooLong p) place r e
refused_comes syntax_fault.NoMemory place r e = tt

-- ---- the rest of a text that goes on

pub begun_comes : (x : Sentence) (r : Result Sentence SyntaxFault) → r ≡ Ok x → Comes (Ok Piece.TooLong) (λ b s k go. rest_read b s k r)
unfolding rest_read piece_run
begun_comes x r e = λ b s k go. ap (λ o. rest_read b s k o) e

pub ended_comes : (p : ℕ) (r : Result Sentence SyntaxFault) → r ≡ Err (syntax_fault.EndInside p) → Comes (Ok Piece.TooLong) (λ b s k go. rest_read b s k r)
unfolding rest_read piece_run
ended_comes p r e = λ b s k go. ap (λ o. rest_read b s k o) e

pub unexpected_comes : (p : ℕ) (r : Result Sentence SyntaxFault) → r ≡ Err (syntax_fault.Unexpected p) → Comes (Err (syntax_stop (syntax_fault.Unexpected p))) (λ b s k go. rest_read b s k r)
unfolding rest_read
unexpected_comes p r e = syntax_comes (syntax_fault.Unexpected p) (λ b s k go. rest_read b s k r) (λ b s k go. ap (λ o. rest_read b s k o) e)

pub nested_comes : (p : ℕ) (r : Result Sentence SyntaxFault) → r ≡ Err (syntax_fault.TooNested p) → Comes (Err (syntax_stop (syntax_fault.TooNested p))) (λ b s k go. rest_read b s k r)
unfolding rest_read
nested_comes p r e = syntax_comes (syntax_fault.TooNested p) (λ b s k go. rest_read b s k r) (λ b s k go. ap (λ o. rest_read b s k o) e)

pub long_comes : (p : ℕ) (r : Result Sentence SyntaxFault) → r ≡ Err (syntax_fault.SentenceTooLong p) → Comes (Err (syntax_stop (syntax_fault.SentenceTooLong p))) (λ b s k go. rest_read b s k r)
unfolding rest_read
long_comes p r e = syntax_comes (syntax_fault.SentenceTooLong p) (λ b s k go. rest_read b s k r) (λ b s k go. ap (λ o. rest_read b s k o) e)

pub nothing_looked : (text : List ℕ) (ts : List Token) (r : Looked) → r ≡ Ok ts → ts ≡ [] → Comes (Ok Piece.TooLong) (λ b s k go. rest_looked b text s k r)
unfolding rest_looked piece_run
nothing_looked text ts r e none = λ b s k go. ap (λ o. rest_looked b text s k o) (e ∙ ap (λ us. Ok us) none)

pub something_looked : (text : List ℕ) (t : Token) (ts us : List Token) (r : Looked) (o : Result Piece Stop) → r ≡ Ok us → us ≡ t ∷ ts → Comes o (λ b s k go. rest_read b s k (read_sentence text us)) →
    Comes o (λ b s k go. rest_looked b text s k r)
unfolding rest_looked
something_looked text t ts us r o e more h =
    comes_as o (λ b s k go. rest_looked b text s k r) (λ b s k go. rest_read b s k (read_sentence text us))
    (λ b s k go. ap (λ q. rest_looked b text s k q) (e ∙ ap (λ vs. Ok vs) more) ∙ ap (λ vs. rest_read b s k (read_sentence text vs)) (sym more)) h

fault_looked : (text : List ℕ) (f : LexFault) (r : Looked) → r ≡ Err f → Comes (Err (lex_stop f)) (λ b s k go. rest_looked b text s k r)
unfolding rest_looked
fault_looked text f r e = lex_comes f (λ b s k go. rest_looked b text s k r) (λ b s k go. ap (λ q. rest_looked b text s k q) e)

pub refused_looked : (text : List ℕ) (f : LexFault) (r : Looked) → Looks (Err f) r → Comes (Err (lex_stop f)) (λ b s k go. rest_looked b text s k r)
refused_looked text (lex.BadChar p) r e = fault_looked text (lex.BadChar p) r e
refused_looked text (lex.OpenComment p) r e = fault_looked text (lex.OpenComment p) r e
refused_looked text (lex.OpenString p) r e = fault_looked text (lex.OpenString p) r e
refused_looked text (lex.BadNumber p) r e = fault_looked text (lex.BadNumber p) r e
refused_looked text lex.NoMemory r e = tt

-- ---- turns

abbrev pub turning : Bool → List ℕ → ℕ → Runs
turning whole text from = λ b s k go. turn b whole text from s k go

pub whole_sentence : (text : List ℕ) (from place : ℕ) (ts : List Token) (o : Result Piece Stop) → next text from ≡ Ok (sentence ts place) →
    Comes o (λ b s k go. read_and_ran b s k (read_sentence text ts) (go place)) → Comes o (turning true text from)
unfolding turn piece_ran
whole_sentence text from place ts o e h = comes_as o (turning true text from) (λ b s k go. read_and_ran b s k (read_sentence text ts) (go place)) (λ b s k go. ap (λ r. piece_ran b text s k r go) e) h

pub whole_end : (text : List ℕ) (from : ℕ) → next text from ≡ Ok finished → Comes (Ok Piece.End) (turning true text from)
unfolding turn piece_ran piece_run
whole_end text from e = λ b s k go. ap (λ r. piece_ran b text s k r go) e

fault_next : (text : List ℕ) (from : ℕ) (f : LexFault) → next text from ≡ Err f → Comes (Err (lex_stop f)) (turning true text from)
unfolding turn piece_ran
fault_next text from f e = lex_comes f (turning true text from) (λ b s k go. ap (λ r. piece_ran b text s k r go) e)

pub whole_fault : (text : List ℕ) (from : ℕ) (f : LexFault) → Cuts (Err f) (next text from) → Comes (Err (lex_stop f)) (turning true text from)
whole_fault text from (lex.BadChar p) e = fault_next text from (lex.BadChar p) e
whole_fault text from (lex.OpenComment p) e = fault_next text from (lex.OpenComment p) e
whole_fault text from (lex.OpenString p) e = fault_next text from (lex.OpenString p) e
whole_fault text from (lex.BadNumber p) e = fault_next text from (lex.BadNumber p) e
whole_fault text from lex.NoMemory e = tt

pub open_counts : (text : List ℕ) (from place : ℕ) (ts : List Token) (o : Result Piece Stop) → next text from ≡ Ok (sentence ts place) → (is_closed_behind text [] ts && nat_lt place (length text)) ≡ true →
    Comes o (λ b s k go. read_and_ran b s k (read_sentence text ts) (go place)) → Comes o (turning false text from)
unfolding turn piece_ran counts
open_counts text from place ts o e is h =
    comes_as o (turning false text from) (λ b s k go. read_and_ran b s k (read_sentence text ts) (go place))
    (λ b s k go. ap (λ v. elim v as (λ _. Run) [ true ↦ piece_ran b text s k (next text from) go | false ↦ rest_looked b text s k (looked_at text from) ]) (ap (counts text) e ∙ is) ∙ ap (λ r. piece_ran b text s k r go) e) h

pub open_rest : (text : List ℕ) (from : ℕ) (o : Result Piece Stop) → counts text (next text from) ≡ false → Comes o (λ b s k go. rest_looked b text s k (looked_at text from)) → Comes o (turning false text from)
unfolding turn
open_rest text from o is h =
    comes_as o (turning false text from) (λ b s k go. rest_looked b text s k (looked_at text from))
    (λ b s k go. ap (λ v. elim v as (λ _. Run) [ true ↦ piece_ran b text s k (next text from) go | false ↦ rest_looked b text s k (looked_at text from) ]) is) h

pub none_counts : (text : List ℕ) (r : Result Next LexFault) → r ≡ Ok finished → counts text r ≡ false
unfolding counts
none_counts text r e = ap (counts text) e

pub fault_counts : (text : List ℕ) (f : LexFault) (r : Result Next LexFault) → r ≡ Err f → counts text r ≡ false
unfolding counts
fault_counts text f r e = ap (counts text) e

pub open_counted : (text : List ℕ) (ts : List Token) (place : ℕ) (r : Result Next LexFault) → r ≡ Ok (sentence ts place) → (is_closed_behind text [] ts && nat_lt place (length text)) ≡ false → counts text r ≡ false
unfolding counts
open_counted text ts place r e is = ap (counts text) e ∙ is

-- ---- tokens

pub no_tokens : (ts : List Token) → length ts == 0 ≡ true → ts ≡ []
no_tokens [] e = refl
no_tokens (t ∷ ts) e = let none : suc (length ts) ≡ 0 = eqb-true (suc (length ts)) 0 e in absurd (omega (arith, none))

pub looked_cut : (text : List ℕ) (from : ℕ) (ts : List Token) → from ≤ length text → looked_at text from ≡ Ok ts → length ts == 0 ≡ false → IsCut text ts
looked_cut text from [] h e some = absurd (omega (arith, eqb-false 0 0 some))
looked_cut text from (t ∷ ts) h e some = subst (Lookable text) e (looked_lookable text from h)

pub some_looked : (text : List ℕ) (us : List Token) (r : Looked) (o : Result Piece Stop) → r ≡ Ok us → length us == 0 ≡ false → Comes o (λ b s k go. rest_read b s k (read_sentence text us)) →
    Comes o (λ b s k go. rest_looked b text s k r)
some_looked text [] r o e some h = absurd (omega (arith, eqb-false 0 0 some))
some_looked text (t ∷ ts) r o e some h = something_looked text t ts (t ∷ ts) r o e refl h
