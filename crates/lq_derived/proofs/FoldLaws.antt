-- The declarations with which a script ends are derived.
use Rattle.std.proofs.Common.{ℕ, zero, suc, Bool, true, false, nat_lt, List, [], ◌∷◌, length, take, Option, Some, None, Result, Ok, Err}
use Rattle.lq_calculus.specs.Typing.{DerivedEnv, no_entry}
use Rattle.lq_grammar.specs.declared.fault.LexFault.{LexFault}
use Rattle.lq_grammar.specs.declared.token.Token.{Token}
use Rattle.lq_grammar.specs.Cutting.{Next, sentence as cut_sentence, finished, next}
use Rattle.lq_sentences.specs.declared.fault.SyntaxFault.{SyntaxFault}
use Rattle.lq_sentences.specs.declared.fault.SyntaxFault.TheVariants as syntax
use Rattle.lq_sentences.specs.Reading.{read_sentence}
use Rattle.lq_ast.specs.Commands.{Sentence}
use Rattle.lq_texts.specs.Causes.{not_built, open_proof}
use Rattle.lq_sessions.specs.Sessions.{Session, Opened, Done}
use Rattle.lq_sessions.specs.Sentences.{sentence}
use Rattle.lq_sessions.specs.Built.{Parts, sentence_built}
use Rattle.lq_sessions.specs.Rest.{counts, looked_at}
use Rattle.lq_sessions.specs.Output.{Ending, Run, accepted, faulted, cut_off, behind, faulted_by, ran, read_and_ran, at_end, rest_read, rest_looked, piece_ran, turn, run_from, script_run, run, most_bytes, prelude, blank, with_budgets, default_budget, env_of}
use Rattle.lq_derived.specs.Declared.{behind_declared, declarations}
use Rattle.lq_derived.proofs.SentenceLaws.{Derives, sentence_derives}

-- the declarations with which a run ends are derived
abbrev pub Ends : Run → Type 0
Ends r = DerivedEnv (env_of r.1)

module _ (b : Parts) (text : List ℕ) where
  ran_ends : (s : Session) → DerivedEnv s.env → (k : ℕ) (x : Sentence) (go : Session → Run) → ((t : Session) → DerivedEnv t.env → Ends (go t)) → Ends (ran b s k x go)
  unfolding ran env_of
  ran_ends s d k x go h = built (sentence_built b x)
    where
      came : (r : Done) → Derives r → Ends (elim r.1 as (λ _. Run) [ Err f ↦ (r.0, faulted k f) | Ok t ↦ behind r.0 (go t) ])
      came (t, Err f) e = e
      came (t, Ok s1) e = h s1 e

      built : (c : Bool) → Ends (elim c as (λ _. Run) [
        | false ↦ faulted_by s k not_built
        | true ↦ elim (sentence s x).1 as (λ _. Run) [ Err f ↦ ((sentence s x).0, faulted k f) | Ok t ↦ behind (sentence s x).0 (go t) ]
      ])
      built false = d
      built true = came (sentence s x) (sentence_derives s d x)

  read_ends : (s : Session) → DerivedEnv s.env → (k : ℕ) (r : Result Sentence SyntaxFault) (go : Session → Run) → ((t : Session) → DerivedEnv t.env → Ends (go t)) → Ends (read_and_ran b s k r go)
  unfolding read_and_ran env_of
  read_ends s d k (Err f) go h = d
  read_ends s d k (Ok x) go h = ran_ends s d k x go h

  end_ends : (s : Session) → DerivedEnv s.env → (k : ℕ) → Ends (at_end b s k)
  unfolding at_end env_of
  end_ends s d k = by s.opened
    where
      by : (o : Option Opened) → Ends (elim o as (λ _. Run) [ None ↦ ([], accepted s) | Some p ↦ faulted_by s k (open_proof p.name) ])
      by None = d
      by (Some p) = d

  rest_ends : (s : Session) → DerivedEnv s.env → (k : ℕ) (r : Result Sentence SyntaxFault) → Ends (rest_read b s k r)
  unfolding rest_read env_of
  rest_ends s d k (Err (syntax.Unexpected q)) = d
  rest_ends s d k (Err (syntax.EndInside q)) = d
  rest_ends s d k (Err (syntax.TooNested q)) = d
  rest_ends s d k (Err (syntax.SentenceTooLong q)) = d
  rest_ends s d k (Err syntax.NoMemory) = d
  rest_ends s d k (Ok x) = d

  looked_ends : (s : Session) → DerivedEnv s.env → (k : ℕ) (r : Result (List Token) LexFault) → Ends (rest_looked b text s k r)
  unfolding rest_looked env_of
  looked_ends s d k (Err f) = d
  looked_ends s d k (Ok []) = d
  looked_ends s d k (Ok (t ∷ ts)) = rest_ends s d k (read_sentence text (t ∷ ts))

  piece_ends : (s : Session) → DerivedEnv s.env → (k : ℕ) (n : Result Next LexFault) (go : ℕ → Session → Run) → ((place : ℕ) (t : Session) → DerivedEnv t.env → Ends (go place t)) → Ends (piece_ran b text s k n go)
  unfolding piece_ran env_of
  piece_ends s d k (Err f) go h = d
  piece_ends s d k (Ok finished) go h = end_ends s d k
  piece_ends s d k (Ok (cut_sentence ts place)) go h = read_ends s d k (read_sentence text ts) (go place) (h place)

  turn_ends : (whole : Bool) (from : ℕ) (s : Session) → DerivedEnv s.env → (k : ℕ) (go : ℕ → Session → Run) → ((place : ℕ) (t : Session) → DerivedEnv t.env → Ends (go place t)) → Ends (turn b whole text from s k go)
  unfolding turn
  turn_ends true from s d k go h = piece_ends s d k (next text from) go h
  turn_ends false from s d k go h = by (counts text (next text from)) (piece_ends s d k (next text from) go h) (looked_ends s d k (looked_at text from))
    where
      by : (c : Bool) → Ends (piece_ran b text s k (next text from) go) → Ends (rest_looked b text s k (looked_at text from)) →
          Ends (elim c as (λ _. Run) [ true ↦ piece_ran b text s k (next text from) go | false ↦ rest_looked b text s k (looked_at text from) ])
      by true p q = p
      by false p q = q

  from_ends : (turns : ℕ) (whole : Bool) (from : ℕ) (s : Session) → DerivedEnv s.env → (k : ℕ) → Ends (run_from b turns whole text from s k)
  unfolding run_from
  from_ends zero whole from s d k = end_ends s d k
  from_ends (suc turns) whole from s d k = turn_ends whole from s d k (λ place t. run_from b turns whole text place t (suc k)) (λ place t e. from_ends turns whole place t e (suc k))

  pub script_ends : (whole : Bool) (s : Session) → DerivedEnv s.env → Ends (script_run b whole text s)
  unfolding script_run
  script_ends whole s d = from_ends (suc (length text)) whole 0 s d 1

pub run_ends : (b : Parts) (bytes : List ℕ) (s : Session) → DerivedEnv s.env → Ends (run b bytes s)
unfolding run
run_ends b bytes s d = by (nat_lt (most_bytes b) (length bytes)) (script_ends b (take (most_bytes b) bytes) false s d) (script_ends b bytes true s d)
  where
    by : (c : Bool) → Ends (script_run b false (take (most_bytes b) bytes) s) → Ends (script_run b true bytes s) →
        Ends (elim c as (λ _. Run) [ true ↦ script_run b false (take (most_bytes b) bytes) s | false ↦ script_run b true bytes s ])
    by true p q = p
    by false p q = q

pub declarations_derived : (b : Parts) (steps kernel : ℕ) (bytes : List ℕ) → DerivedEnv (declarations b steps kernel bytes)
unfolding declarations behind_declared env_of
declarations_derived b steps kernel bytes = by (run b prelude (blank default_budget default_budget)).1 (run_ends b prelude (blank default_budget default_budget) no_entry)
  where
    by : (x : Ending) → DerivedEnv (env_of x) → DerivedEnv (behind_declared b steps kernel bytes x)
    by (accepted s) d = run_ends b bytes (with_budgets steps kernel s) d
    by (faulted k f) d = d
    by (cut_off s) d = d
