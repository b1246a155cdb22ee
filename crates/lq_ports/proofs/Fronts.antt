-- Fronts of lists that were copied.
use Rattle.std.proofs.Common.{◌≡◌, ℕ, ◌+◌, ◌≤◌, List, ◌++◌, length, take, drop, min, sym, ◌∙◌, ap, arith, Ok, Err, IsOk, IfOk, MatchResult, Result, take-append-drop, length-take-le, append_assoc}
use Rattle.lq_ports.specs.declared.ports.PortFault.{PortFault}
use Rattle.std.proofs.lemmas.List.{drop-append-le, drop-drop}
use Rattle.std.proofs.lemmas.Grind.{common_steps}

-- what stands at the front of the buffer is the front of what was left
front_copied : (left rest new : List ℕ) (n : ℕ) → n ≤ length left → new ≡ take n left ++ rest → left ≡ take n new ++ drop n left
front_copied left rest new n h e = grind (arith, common_steps)

-- the front of the buffer, and what is left behind it
pub front_moved : (bytes left rest new : List ℕ) (place n : ℕ) → drop place bytes ≡ left → n ≤ length left → new ≡ take n left ++ rest → left ≡ take n new ++ drop (place + n) bytes
front_moved bytes left rest new place n at h e =
    front_copied left rest new n h e ∙ ap (λ r. take n new ++ r) (ap (drop n) (sym at) ∙ drop-drop n place bytes)

-- a read into the front of a buffer leaves what stands behind it
front_filled : (left buf new : List ℕ) (n room : ℕ) → n ≤ room → room ≤ length buf → new ≡ take n left ++ drop n (take room buf)
    → new ++ drop room buf ≡ take n left ++ drop n buf
front_filled left buf new n room le within e =
    let front = take room buf in
    let last = drop room buf in
    let fits : n ≤ length front = omega (arith, length-take-le room buf) in
    let behind : drop n front ++ last ≡ drop n buf = sym (drop-append-le n front last fits) ∙ ap (drop n) (take-append-drop room buf) in
    ap (λ xs. xs ++ last) e ∙ append_assoc (take n left) (drop n front) last ∙ ap (λ xs. take n left ++ xs) behind

-- the same of what a read answers that never fails
pub read_filled : (result : Result ℕ PortFault) (left buf new : List ℕ) (room : ℕ) → room ≤ length buf → IsOk result
    → IfOk result (λ n. n ≡ min (length (take room buf)) (length left)) → IfOk result (λ n. new ≡ take n left ++ drop n (take room buf))
    → MatchResult result (λ n. new ++ drop room buf ≡ take n left ++ drop n buf) (λ _. new ++ drop room buf ≡ buf)
read_filled (Ok n) left buf new room within ok count copied = front_filled left buf new n room (omega (arith, length-take-le room buf)) within copied
read_filled (Err e) left buf new room within ok count copied = cc
