-- From the answer to a script to what the top call says of it.
use Rattle.std.proofs.Common.{◌≡◌, ◌∙◌, refl, sym, ap, subst, ℕ, ◌+◌, ◌≤◌, ◌<◌, ◌&&◌, Bool, true, false, nat_lt, List, [], ◌∷◌, length, take, Option, None, Some, arith, ltb-true, ltb-false, append-nil, Result, Ok, Err}
use Rattle.std.proofs.lemmas.Bool.{lt-ltb}
use Rattle.std.proofs.lemmas.List.{take_all, drop_all, length-take, length-take-le}
use Rattle.std.specs.Io.KnownBytes.{Appends}
use Rattle.lq_output.specs.declared.Status.{Status}
use Rattle.lq_output.specs.declared.Status.TheVariants.{Done, ScriptFault, Usage, ReadFault, WriteFault, NoMemory, TooLong}
use Rattle.lq_output.specs.Faults.{Fault}
use Rattle.lq_output.specs.Sentences.{State, sentence}
use Rattle.lq_output.specs.Script.{cut}
use Rattle.lq_output.specs.Output.{kernel_budget, Output, output, run, start, most_bytes, too_long, at_end, is_outside, all_blank, refused, behind}
use Rattle.lq_output.specs.Faults.{not_built}
use Rattle.lq_output.proofs.RunLaws.{output_short}
use Rattle.lq_script.specs.Answers.{as_output, IsOutputOf}
use Rattle.lq_script.specs.Transfer.{AppendsFront, ReadsFront}
use Rattle.lq_script.specs.Main.{GivesAll, GivesFront, Gives, ReadsAll, IsVerdict, Delivers}
use Rattle.lq_script.specs.declared.script.Answer.{Answer}

-- the output of a script that is too long
pub output_long : (n : ℕ) (bytes : List ℕ) → nat_lt most_bytes (length bytes) ≡ true → output n bytes ≡ too_long
unfolding output
output_long n bytes e = rw (e, output) refl

-- the output of as many bytes as are read is that of all
pub output_front : (n : ℕ) (bytes : List ℕ) → output n (take 4194305 bytes) ≡ output n bytes
output_front n bytes = by (nat_lt most_bytes (length bytes)) refl
  where
    by : (b : Bool) → nat_lt most_bytes (length bytes) ≡ b → output n (take 4194305 bytes) ≡ output n bytes
    by false e = ap (output n) (take_all 4194305 bytes (let l : length bytes ≤ most_bytes = ltb-false most_bytes (length bytes) e in omega arith))
    by true e =
        let l : most_bytes < length bytes = ltb-true most_bytes (length bytes) e in
        let same : length (take 4194305 bytes) ≡ 4194305 = length-take-le 4194305 bytes (omega arith) in
        output_long n (take 4194305 bytes) (lt-ltb most_bytes (length (take 4194305 bytes)) (omega arith)) ∙ sym (output_long n bytes e)

-- a script's own status is one of three
status_at_end : (s : State) (k : ℕ) (rest : List ℕ) → IsVerdict (at_end s k rest).status
unfolding at_end refused
status_at_end s k rest = by (is_outside s.place && all_blank rest)
  where
    by : (b : Bool) → IsVerdict (elim b as (λ _. Output) [ true ↦ record { text = []; status = Status.Done } | false ↦ refused k not_built ]).status
    by true = tt
    by false = tt

status_run : (n : ℕ) (s : State) (k : ℕ) (ps : List (List ℕ)) (rest : List ℕ) → IsVerdict (run n s k ps rest).status
unfolding run refused behind
status_run n s k [] rest = status_at_end s k rest
status_run n s k (p ∷ ps) rest = by (sentence n s p) (λ r. status_run n r.1 (k + 1) ps rest)
  where
    by : (o : Result (List ℕ × State) Fault) → ((r : List ℕ × State) → IsVerdict (run n r.1 (k + 1) ps rest).status)
        → IsVerdict (elim o as (λ _. Output) [ Ok r ↦ behind r.0 (run n r.1 (k + 1) ps rest) | Err f ↦ refused k f ]).status
    by (Ok r) go = go r
    by (Err f) go = tt

pub status_output : (n : ℕ) (bytes : List ℕ) → IsVerdict (output n bytes).status
unfolding too_long
status_output n bytes = by (nat_lt most_bytes (length bytes)) refl
  where
    by : (b : Bool) → nat_lt most_bytes (length bytes) ≡ b → IsVerdict (output n bytes).status
    by true e = subst (λ o. IsVerdict o.status) (sym (output_long n bytes e)) tt
    by false e = subst (λ o. IsVerdict o.status) (sym (output_short n bytes e)) (status_run n start 1 (cut bytes).sentences (cut bytes).rest)

-- so it is with an answer
pub answer_verdict : (bytes : List ℕ) (a : Answer) → IsOutputOf bytes a → IsVerdict a.status
answer_verdict bytes a is = subst (λ (o : Output). IsVerdict o.status) is (status_output kernel_budget bytes)

-- all of an answer's text is there
all_given : (bytes : List ℕ) (before after : Option (List ℕ)) (a : Answer) (status : Status)
    → IsOutputOf (take 4194305 bytes) a → a.status ≡ status → Appends before after a.text.items → GivesAll bytes before after status
all_given bytes before after a status is e there =
    let o : output kernel_budget bytes ≡ as_output a = sym (output_front kernel_budget bytes) ∙ is in
    (ap (λ (z : Output). z.status) o ∙ e, subst (λ (z : Output). Appends before after z.text) (sym o) there)

-- a front of it is there
front_given : (bytes : List ℕ) (before after : Option (List ℕ)) (a : Answer)
    → IsOutputOf (take 4194305 bytes) a → AppendsFront before after a.text.items → GivesFront bytes before after
front_given bytes before after a is there =
    let o : output kernel_budget bytes ≡ as_output a = sym (output_front kernel_budget bytes) ∙ is in
    (there.count, subst (λ (z : Output). Appends before after (take there.count z.text)) (sym o) there.there)

-- nothing is there
pub nothing_given : (bytes : List ℕ) (known : Option (List ℕ)) → GivesFront bytes known known
nothing_given bytes known = (0, same known)
  where
    same : (known : Option (List ℕ)) → Appends known known []
    same None = tt
    same (Some xs) = sym (append-nil xs)

-- what was delivered is what the status says of the script
pub delivered_gives : (bytes : List ℕ) (before after : Option (List ℕ)) (a : Answer) (status : Status)
    → IsOutputOf (take 4194305 bytes) a → Delivers before after a status → Gives bytes before after status
delivered_gives bytes before after a Done is d = all_given bytes before after a Done is d.0 d.1
delivered_gives bytes before after a ScriptFault is d = all_given bytes before after a ScriptFault is d.0 d.1
delivered_gives bytes before after a TooLong is d = all_given bytes before after a TooLong is d.0 d.1
delivered_gives bytes before after a WriteFault is d = front_given bytes before after a is d
delivered_gives bytes before after a NoMemory is d = front_given bytes before after a is d
delivered_gives bytes before after a ReadFault is d = absurd (subst IsVerdict d.0 (answer_verdict (take 4194305 bytes) a is))
delivered_gives bytes before after a Usage is d = subst IsVerdict d.0 (answer_verdict (take 4194305 bytes) a is)

-- the source's bytes where they are told
pub script_given : (bytes script : List ℕ) (left rest before after : Option (List ℕ)) (a : Answer) (status : Status)
    → left ≡ Some bytes → ReadsFront 4194305 left rest script → IsOutputOf script a → Delivers before after a status → Gives bytes before after status
script_given bytes script None rest before after a status e reads is d = absurd cc
script_given bytes script (Some all) None before after a status e reads is d = absurd reads
script_given bytes script (Some all) (Some left_) before after a status e reads is d =
    let same : all ≡ bytes = cc in
    delivered_gives bytes before after a status (subst (λ z. IsOutputOf z a) (reads.0 ∙ ap (take 4194305) same) is) d

-- a script whose status isn't that of too many bytes was read to its end
short_ended : (bytes rest script : List ℕ) (a : Answer) → ReadsFront 4194305 (Some bytes) (Some rest) script → IsOutputOf script a
    → (a.status ≡ Status.TooLong → ⊥) → rest ≡ []
unfolding too_long
short_ended bytes rest script a reads is other = by (nat_lt most_bytes (length script)) refl
  where
    by : (b : Bool) → nat_lt most_bytes (length script) ≡ b → rest ≡ []
    by true e =
        let o : too_long ≡ as_output a = sym (output_long kernel_budget script e) ∙ is in
        absurd (other (sym (ap (λ (z : Output). z.status) o)))
    by false e =
        let l : length script ≤ most_bytes = ltb-false most_bytes (length script) e in
        let k : length (take 4194305 bytes) ≤ most_bytes = subst (λ z. length z ≤ most_bytes) reads.0 l in
        let all : length bytes ≤ 4194305 = omega (arith, length-take 4194305 bytes) in
        reads.1 ∙ drop_all 4194305 bytes all

pub read_ended : (bytes script : List ℕ) (left rest before after : Option (List ℕ)) (a : Answer) (status : Status)
    → left ≡ Some bytes → ReadsFront 4194305 left rest script → IsOutputOf script a → Delivers before after a status → ReadsAll status rest
read_ended bytes script None rest before after a status e reads is d = absurd cc
read_ended bytes script (Some all) None before after a status e reads is d = absurd reads
read_ended bytes script (Some all) (Some left_) before after a Done e reads is d = short_ended all left_ script a reads is (λ long. let no : Status.Done ≡ Status.TooLong = sym d.0 ∙ long in cc)
read_ended bytes script (Some all) (Some left_) before after a ScriptFault e reads is d = short_ended all left_ script a reads is (λ long. let no : Status.ScriptFault ≡ Status.TooLong = sym d.0 ∙ long in cc)
read_ended bytes script (Some all) (Some left_) before after a _ e reads is d = tt
