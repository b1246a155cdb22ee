-- A script's answer, sentence by sentence.
use Rattle.std.proofs.Common.{◌≡◌, ◌∙◌, refl, sym, ap, subst, ℕ, suc, ◌+◌, ◌≤◌, ◌<◌, ◌&&◌, ◌==◌, Bool, true, false, List, [], ◌∷◌, ◌++◌, length, drop, slice_range, append-nil, Some, arith, Result, Ok, Err, IfOk}
use Rattle.std.proofs.lemmas.Bool.{lt-ltb, le-ltb}
use Rattle.lq_output.specs.declared.Status.{Status}
use Rattle.lq_output.specs.Script.{cut, is_blank}
use Rattle.lq_output.specs.Grammar.{behind_blanks}
use Rattle.lq_output.specs.Faults.{not_built}
use Rattle.lq_output.specs.Sentences.{State}
use Rattle.lq_output.specs.Output.{Output, start, most_bytes, too_long, refused, behind, at_end, all_blank, is_outside, kernel_budget}
use Rattle.lq_output.proofs.RunLaws.{RunsOn, runs_from_start, accepted_more, refused_here, ends_here, output_short}
use Rattle.lq_script.specs.declared.script.Answer.{Answer}
use Rattle.lq_script.specs.declared.session.Session.{Session}
use Rattle.lq_script.specs.Answers.{as_output, IsOutputOf}
use Rattle.lq_script.specs.Ends.{IsFirstEnd}
use Rattle.lq_script.specs.States.{state_of}
use Rattle.lq_script.specs.Turns.{Accepts, Refuses, Turns, IsRunOf, IsEndOf}
use Rattle.lq_script.proofs.MainLaws.{output_long}

-- what holds of an answer holds of what follows from it
pub if_ok_map : {A E : Type 0} (P Q : A → Type 0) (r : Result A E) → ((a : A) → P a → Q a) → IfOk r P → IfOk r Q
if_ok_map P Q (Ok a) f p = f a p
if_ok_map P Q (Err e) f p = tt

-- a sentence behind which the run ends, and one behind which it goes on
pub turn_ends : (goes : Bool) (old new : Session) (number : ℕ) (text before after : List ℕ) → goes ≡ false → Turns goes old new number text before after → Refuses old number text before after
turn_ends true old new number text before after e t = absurd cc
turn_ends false old new number text before after e t = t

pub turn_goes : (goes : Bool) (old new : Session) (number : ℕ) (text before after : List ℕ) → goes ≡ true → Turns goes old new number text before after → Accepts old new text before after
turn_goes true old new number text before after e t = t
turn_goes false old new number text before after e t = absurd cc

-- a script of too many bytes
pub long_answer : (bytes : List ℕ) (a : Answer) → most_bytes < length bytes → too_long ≡ as_output a → IsOutputOf bytes a
long_answer bytes a l e = output_long kernel_budget bytes (lt-ltb most_bytes (length bytes) l) ∙ e

-- another script
pub short_answer : (bytes : List ℕ) (a : Answer) → length bytes ≤ most_bytes → IsRunOf bytes a → IsOutputOf bytes a
short_answer bytes a l r = output_short kernel_budget bytes (le-ltb most_bytes (length bytes) l) ∙ r

-- the run so far
abbrev pub HasRun : List ℕ → List ℕ → State → ℕ → ℕ → Type 0
HasRun bytes text s number from = RunsOn kernel_budget start bytes text s number from

pub no_run : (bytes : List ℕ) → HasRun bytes [] start 1 0
no_run bytes = runs_from_start kernel_budget start bytes

-- a sentence more
pub run_more : (bytes text after : List ℕ) (old new : Session) (number from dot : ℕ) → HasRun bytes text (state_of old) number from → IsFirstEnd bytes from dot
    → Accepts old new (slice_range bytes from dot) text after → HasRun bytes after (state_of new) (number + 1) (dot + 1)
run_more bytes text after old new number from dot r is a =
    subst (λ z. HasRun bytes z (state_of new) (number + 1) (dot + 1)) (sym a.there)
    (accepted_more kernel_budget start bytes text (state_of old) number from (slice_range bytes from dot) a.line (state_of new) (dot + 1) r is.first a.accepted)

-- a sentence that is refused
pub run_refused : (bytes text after : List ℕ) (old : Session) (number from dot : ℕ) (a : Answer) → HasRun bytes text (state_of old) number from → IsFirstEnd bytes from dot
    → Refuses old number (slice_range bytes from dot) text after → a.text.items ≡ after → a.status ≡ Status.ScriptFault → IsRunOf bytes a
unfolding behind refused
run_refused bytes text after old number from dot a r is f t s =
    let whole : behind text (refused number f.fault) ≡ as_output a =
    ap (λ z. let o : Output = record { text = z; status = Status.ScriptFault } in o) (sym f.there ∙ sym t) ∙ ap (λ z. let o : Output = record { text = a.text.items; status = z } in o) (sym s) in
    refused_here kernel_budget start bytes text (state_of old) number from (slice_range bytes from dot) (cut (drop (dot + 1) bytes)) f.fault r is.first f.refusal ∙ whole

-- no sentence is left
pub run_ended : (bytes text : List ℕ) (s : State) (number from : ℕ) (a : Answer) → HasRun bytes text s number from → cut (drop from bytes) ≡ record { sentences = []; rest = drop from bytes }
    → IsEndOf s number (drop from bytes) text a → IsRunOf bytes a
run_ended bytes text s number from a r is e = ends_here kernel_budget start bytes text s number from r is ∙ e

not_empty : (n : ℕ) → false ≡ (suc n == 0)
not_empty n = grind arith

-- a text is blanks alone where nothing stands behind its first blanks
pub all_blank-behind : (text : List ℕ) → all_blank text ≡ (length (behind_blanks text) == 0)
unfolding all_blank behind_blanks
all_blank-behind [] = refl
all_blank-behind (b ∷ bs) = by (is_blank b) (all_blank-behind bs)
  where
    by : (t : Bool) → all_blank bs ≡ (length (behind_blanks bs) == 0)
        → (t && all_blank bs) ≡ (length (elim t as (λ _. List ℕ) [ true ↦ behind_blanks bs | false ↦ b ∷ bs ]) == 0)
    by true e = e
    by false e = not_empty (length bs)

-- a script that ends well
pub ended_well : (s : State) (number : ℕ) (rest text : List ℕ) (a : Answer) → (is_outside s.place && all_blank rest) ≡ true → a.text.items ≡ text → a.status ≡ Status.Done
    → IsEndOf s number rest text a
unfolding at_end behind
ended_well s number rest text a e t d =
    ap (λ (b : Bool). behind text (elim b [ true ↦ record { text = []; status = Status.Done } | false ↦ refused number not_built ])) e
    ∙ ap (λ z. let o : Output = record { text = z; status = Status.Done } in o) (append-nil text ∙ sym t)
    ∙ ap (λ z. let o : Output = record { text = a.text.items; status = z } in o) (sym d)

-- a script that ends inside a theorem, or with a text that is no sentence
pub ended_badly : (s : State) (number : ℕ) (rest text : List ℕ) (a : Answer) → (is_outside s.place && all_blank rest) ≡ false
    → Some (text ++ (refused number not_built).text) ≡ Some a.text.items → a.status ≡ Status.ScriptFault → IsEndOf s number rest text a
unfolding at_end behind refused
ended_badly s number rest text a e t d =
    let same : text ++ (refused number not_built).text ≡ a.text.items = cc in
    ap (λ (b : Bool). behind text (elim b [ true ↦ record { text = []; status = Status.Done } | false ↦ refused number not_built ])) e
    ∙ ap (λ z. let o : Output = record { text = z; status = Status.ScriptFault } in o) same
    ∙ ap (λ z. let o : Output = record { text = a.text.items; status = z } in o) (sym d)

pub ruleset blanks = (all_blank-behind)
