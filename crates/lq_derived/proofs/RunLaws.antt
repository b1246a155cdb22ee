-- A script runs sentence by sentence, and tells what it declares.
use Rattle.std.proofs.Common.{◌≡◌, refl, ℕ, zero, suc, Bool, true, false, nat_lt, List, [], ◌∷◌, length, take, Option, Some, None, Result, Ok, Err}
use Rattle.lq_grammar.specs.declared.fault.LexFault.{LexFault}
use Rattle.lq_grammar.specs.declared.token.Token.{Token}
use Rattle.lq_grammar.specs.Cutting.{Next, sentence as cut_sentence, finished, next}
use Rattle.lq_sentences.specs.declared.fault.SyntaxFault.{SyntaxFault}
use Rattle.lq_sentences.specs.declared.fault.SyntaxFault.TheVariants as syntax
use Rattle.lq_sentences.specs.Reading.{read_sentence}
use Rattle.lq_ast.specs.Commands.{Sentence}
use Rattle.lq_texts.specs.Causes.{not_built, open_proof}
use Rattle.lq_sessions.specs.Sessions.{Session, Opened, Done}
use Rattle.lq_sessions.specs.Sentences.{sentence}
use Rattle.lq_sessions.specs.Built.{Parts, sentence_built}
use Rattle.lq_sessions.specs.Rest.{counts, looked_at}
use Rattle.lq_sessions.specs.Output.{Run, accepted, faulted, behind, faulted_by, ran, read_and_ran, at_end, rest_read, rest_looked, piece_ran, turn, run_from, script_run, run, most_bytes, with_budgets, env_of}
use Rattle.lq_derived.specs.Reported.{AreReported, IsReported, Runs, ends, refuses, accepts}
use Rattle.lq_derived.proofs.ReportLaws.{sentence_told}

module _ (b : Parts) (text : List ℕ) where
  ran_runs : (s : Session) (k : ℕ) (x : Sentence) (go : Session → Run) → ((t : Session) → Runs t (go t)) → Runs s (ran b s k x go)
  unfolding ran env_of
  ran_runs s k x go h = built (sentence_built b x)
    where
      came : (r : Done) → sentence s x ≡ r → AreReported s.env r → Runs s (elim r.1 as (λ _. Run) [ Err f ↦ (r.0, faulted k f) | Ok t ↦ behind r.0 (go t) ])
      came (t, Err f) e told = refuses s x t k f e told
      came (t, Ok u) e told = accepts s u x t (go u) e told (h u)

      built : (c : Bool) → Runs s (elim c as (λ _. Run) [
        | false ↦ faulted_by s k not_built
        | true ↦ elim (sentence s x).1 as (λ _. Run) [ Err f ↦ ((sentence s x).0, faulted k f) | Ok t ↦ behind (sentence s x).0 (go t) ]
      ])
      built false = ends s _ refl
      built true = came (sentence s x) refl (sentence_told s x)

  read_runs : (s : Session) (k : ℕ) (r : Result Sentence SyntaxFault) (go : Session → Run) → ((t : Session) → Runs t (go t)) → Runs s (read_and_ran b s k r go)
  unfolding read_and_ran env_of
  read_runs s k (Err f) go h = ends s _ refl
  read_runs s k (Ok x) go h = ran_runs s k x go h

  end_runs : (s : Session) (k : ℕ) → Runs s (at_end b s k)
  unfolding at_end env_of
  end_runs s k = by s.opened
    where
      by : (o : Option Opened) → Runs s (elim o as (λ _. Run) [ None ↦ ([], accepted s) | Some p ↦ faulted_by s k (open_proof p.name) ])
      by None = ends s _ refl
      by (Some p) = ends s _ refl

  rest_runs : (s : Session) (k : ℕ) (r : Result Sentence SyntaxFault) → Runs s (rest_read b s k r)
  unfolding rest_read env_of
  rest_runs s k (Err (syntax.Unexpected q)) = ends s _ refl
  rest_runs s k (Err (syntax.EndInside q)) = ends s _ refl
  rest_runs s k (Err (syntax.TooNested q)) = ends s _ refl
  rest_runs s k (Err (syntax.SentenceTooLong q)) = ends s _ refl
  rest_runs s k (Err syntax.NoMemory) = ends s _ refl
  rest_runs s k (Ok x) = ends s _ refl

  looked_runs : (s : Session) (k : ℕ) (r : Result (List Token) LexFault) → Runs s (rest_looked b text s k r)
  unfolding rest_looked env_of
  looked_runs s k (Err f) = ends s _ refl
  looked_runs s k (Ok []) = ends s _ refl
  looked_runs s k (Ok (t ∷ ts)) = rest_runs s k (read_sentence text (t ∷ ts))

  piece_runs : (s : Session) (k : ℕ) (n : Result Next LexFault) (go : ℕ → Session → Run) → ((place : ℕ) (t : Session) → Runs t (go place t)) → Runs s (piece_ran b text s k n go)
  unfolding piece_ran env_of
  piece_runs s k (Err f) go h = ends s _ refl
  piece_runs s k (Ok finished) go h = end_runs s k
  piece_runs s k (Ok (cut_sentence ts place)) go h = read_runs s k (read_sentence text ts) (go place) (h place)

  turn_runs : (whole : Bool) (from : ℕ) (s : Session) (k : ℕ) (go : ℕ → Session → Run) → ((place : ℕ) (t : Session) → Runs t (go place t)) → Runs s (turn b whole text from s k go)
  unfolding turn
  turn_runs true from s k go h = piece_runs s k (next text from) go h
  turn_runs false from s k go h = by (counts text (next text from)) (piece_runs s k (next text from) go h) (looked_runs s k (looked_at text from))
    where
      by : (c : Bool) → Runs s (piece_ran b text s k (next text from) go) → Runs s (rest_looked b text s k (looked_at text from)) →
          Runs s (elim c as (λ _. Run) [ true ↦ piece_ran b text s k (next text from) go | false ↦ rest_looked b text s k (looked_at text from) ])
      by true p q = p
      by false p q = q

  from_runs : (turns : ℕ) (whole : Bool) (from : ℕ) (s : Session) (k : ℕ) → Runs s (run_from b turns whole text from s k)
  unfolding run_from
  from_runs zero whole from s k = end_runs s k
  from_runs (suc turns) whole from s k = turn_runs whole from s k (λ place t. run_from b turns whole text place t (suc k)) (λ place t. from_runs turns whole place t (suc k))

  pub script_runs : (whole : Bool) (s : Session) → Runs s (script_run b whole text s)
  unfolding script_run
  script_runs whole s = from_runs (suc (length text)) whole 0 s 1

pub run_runs : (b : Parts) (bytes : List ℕ) (s : Session) → Runs s (run b bytes s)
unfolding run
run_runs b bytes s = by (nat_lt (most_bytes b) (length bytes)) (script_runs b (take (most_bytes b) bytes) false s) (script_runs b bytes true s)
  where
    by : (c : Bool) → Runs s (script_run b false (take (most_bytes b) bytes) s) → Runs s (script_run b true bytes s) →
        Runs s (elim c as (λ _. Run) [ true ↦ script_run b false (take (most_bytes b) bytes) s | false ↦ script_run b true bytes s ])
    by true p q = p
    by false p q = q

pub script_reported : (b : Parts) (steps kernel : ℕ) (bytes : List ℕ) → IsReported b steps kernel bytes
script_reported b steps kernel bytes s e = run_runs b bytes (with_budgets steps kernel s)
