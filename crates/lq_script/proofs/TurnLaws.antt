-- A sentence's text is read and then run.
use Rattle.std.proofs.Common.{◌≡◌, ◌∙◌, sym, ap, ℕ, List, Option, Some, None, Result, Ok, Err, IfOk, IfErr}
use Rattle.std.specs.Option.{option_map}
use Rattle.lq_terms.specs.Terms.{Terms}
use Rattle.lq_output.specs.Faults.{Fault, not_built}
use Rattle.lq_output.specs.Grammar.{Sentence, read}
use Rattle.lq_output.specs.Sentences.{State, doing, sentence}
use Rattle.lq_output.specs.Output.{kernel_budget}
use Rattle.lq_script.specs.declared.fault.SentenceFault.{SentenceFault}
use Rattle.lq_script.specs.declared.session.Session.{Session}
use Rattle.lq_script.specs.declared.syntax.Sentence.{Sentence as Written}
use Rattle.lq_script.specs.Syntax.{plain_sentence}
use Rattle.lq_script.specs.Proofs.{Tells}
use Rattle.lq_script.specs.Sessions.{Runs}
use Rattle.lq_script.specs.States.{state_of}
use Rattle.lq_script.specs.Turns.{IsAccepted, IsRefused}

-- a text that is a sentence does what the sentence does
pub sentence_read : (n : ℕ) (s : State) (text : List ℕ) (x : Sentence) → read text ≡ Some x → sentence n s text ≡ doing n s.env s.place x
unfolding sentence
sentence_read n s text x e = ap (λ (o : Option Sentence). elim o as (λ _. Result _ Fault) [ Some y ↦ doing n s.env s.place y | None ↦ Err not_built ]) e

-- another text is refused
pub sentence_unread : (n : ℕ) (s : State) (text : List ℕ) → read text ≡ None → sentence n s text ≡ Err not_built
unfolding sentence
sentence_unread n s text e = ap (λ (o : Option Sentence). elim o as (λ _. Result _ Fault) [ Some y ↦ doing n s.env s.place y | None ↦ Err not_built ]) e

pub unread_refused : (old : Session) (text : List ℕ) → read text ≡ None → IsRefused old text not_built
unread_refused old text e = sentence_unread kernel_budget (state_of old) text e

-- what was read
pub read_some : (o : Option Written) (x : Written) (text : List ℕ) → option_map plain_sentence o ≡ read text → o ≡ Some x → read text ≡ Some (plain_sentence x)
read_some o x text e i = sym e ∙ ap (option_map plain_sentence) i

pub read_none : (o : Option Written) (text : List ℕ) → option_map plain_sentence o ≡ read text → o ≡ None → read text ≡ None
read_none o text e i = sym e ∙ ap (option_map plain_sentence) i

-- what a run of the sentence tells is so of its text
tells_by : (bank : Terms) (fault : SentenceFault) (P Q : Fault → Type 0) → ((f : Fault) → P f → Q f) → Tells bank fault P → Tells bank fault Q
tells_by bank SentenceFault.NotBuilt P Q go t = go _ t
tells_by bank (SentenceFault.Differs found wanted) P Q go t = (t.0, t.1, go _ t.2)
tells_by bank (SentenceFault.OpenGoals k) P Q go t = go _ t
tells_by bank SentenceFault.NoMemory P Q go t = tt

pub run_accepted : {S : Type 0} (bytes : S → List ℕ) (old new : Session) (text : List ℕ) (x : Sentence) (r : Result S SentenceFault) → read text ≡ Some x
    → Runs bytes new.bank new.env new.place r (doing kernel_budget (state_of old).env (state_of old).place x) → IfOk r (λ line. IsAccepted old new text (bytes line))
run_accepted bytes old new text x (Ok line) e r = sentence_read kernel_budget (state_of old) text x e ∙ r
run_accepted bytes old new text x (Err fault) e r = tt

pub run_tells : {S : Type 0} (bytes : S → List ℕ) (old new : Session) (text : List ℕ) (x : Sentence) (r : Result S SentenceFault) → read text ≡ Some x
    → Runs bytes new.bank new.env new.place r (doing kernel_budget (state_of old).env (state_of old).place x) → IfErr r (λ fault. Tells new.bank fault (IsRefused old text))
run_tells bytes old new text x (Ok line) e r = tt
run_tells bytes old new text x (Err fault) e r =
    tells_by new.bank fault _ (IsRefused old text) (λ f c. sentence_read kernel_budget (state_of old) text x e ∙ c) r
