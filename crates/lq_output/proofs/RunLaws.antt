-- A run, sentence by sentence from the front of the script.
use Rattle.std.proofs.Common.{◌≡◌, ◌∙◌, refl, sym, ap, ℕ, ◌+◌, nat_lt, false, List, [], ◌∷◌, ◌++◌, length, drop, Result, Ok, Err, append_assoc}
use Rattle.lq_output.specs.Script.{Script, cut}
use Rattle.lq_output.specs.Faults.{Fault}
use Rattle.lq_output.specs.Sentences.{State, sentence}
use Rattle.lq_output.specs.Output.{Output, refused, behind, at_end, run, start, most_bytes, output}

pub behind_behind : (a b : List ℕ) (o : Output) → behind a (behind b o) ≡ behind (a ++ b) o
unfolding behind
behind_behind a b o = ap (λ z. let r : Output = record { text = z; status = o.status } in r) (sym (append_assoc a b o.text))

pub behind_nothing : (o : Output) → behind [] o ≡ o
unfolding behind
behind_nothing o = refl

-- the run of a script that has been cut
abbrev pub run_of : ℕ → State → ℕ → Script → Output
run_of n s k c = run n s k c.sentences c.rest

-- the script's run is the text so far and then the run of what is left, from a state and a number on
abbrev pub RunsOn : ℕ → State → List ℕ → List ℕ → State → ℕ → ℕ → Type 0
RunsOn n first bytes text s k from = run_of n first 1 (cut bytes) ≡ behind text (run_of n s k (cut (drop from bytes)))

pub runs_from_start : (n : ℕ) (first : State) (bytes : List ℕ) → RunsOn n first bytes [] first 1 0
runs_from_start n first bytes = sym (behind_nothing (run_of n first 1 (cut bytes)))

-- one sentence more is accepted
pub accepted_more :
    (n : ℕ) (first : State) (bytes text : List ℕ) (s : State) (k from : ℕ) (p line : List ℕ) (new : State) (after : ℕ)
    → RunsOn n first bytes text s k from
    → cut (drop from bytes) ≡ record { sentences = p ∷ (cut (drop after bytes)).sentences; rest = (cut (drop after bytes)).rest }
    → sentence n s p ≡ Ok (line, new)
    → RunsOn n first bytes (text ++ line) new (k + 1) after
unfolding run
accepted_more n first bytes text s k from p line new after so_far c e =
    so_far ∙ ap (λ z. behind text (run_of n s k z)) c
    ∙ ap (λ (z : Result (List ℕ × State) Fault). behind text (elim z [ Ok r ↦ behind r.0 (run n r.1 (k + 1) (cut (drop after bytes)).sentences (cut (drop after bytes)).rest) | Err f ↦ refused k f ])) e
    ∙ behind_behind text line (run_of n new (k + 1) (cut (drop after bytes)))

-- a sentence is refused
pub refused_here :
    (n : ℕ) (first : State) (bytes text : List ℕ) (s : State) (k from : ℕ) (p : List ℕ) (c : Script) (f : Fault)
    → RunsOn n first bytes text s k from
    → cut (drop from bytes) ≡ record { sentences = p ∷ c.sentences; rest = c.rest }
    → sentence n s p ≡ Err f
    → run_of n first 1 (cut bytes) ≡ behind text (refused k f)
unfolding run
refused_here n first bytes text s k from p c f so_far e h =
    so_far ∙ ap (λ z. behind text (run_of n s k z)) e
    ∙ ap (λ (z : Result (List ℕ × State) Fault). behind text (elim z [ Ok r ↦ behind r.0 (run n r.1 (k + 1) c.sentences c.rest) | Err f ↦ refused k f ])) h

-- no sentence is left
pub ends_here :
    (n : ℕ) (first : State) (bytes text : List ℕ) (s : State) (k from : ℕ)
    → RunsOn n first bytes text s k from
    → cut (drop from bytes) ≡ record { sentences = []; rest = drop from bytes }
    → run_of n first 1 (cut bytes) ≡ behind text (at_end s k (drop from bytes))
unfolding run
ends_here n first bytes text s k from so_far e = so_far ∙ ap (λ z. behind text (run_of n s k z)) e

-- the output of a script that is not too long
pub output_short : (n : ℕ) (bytes : List ℕ) → nat_lt most_bytes (length bytes) ≡ false → output n bytes ≡ run_of n start 1 (cut bytes)
unfolding output
output_short n bytes e = rw (e, output) refl
