-- The texts of failures with their messages, one after another.
use Rattle.std.proofs.Common.{◌≡◌, ◌∙◌, ℕ, ◌+◌, ◌<◌, List, [], ◌∷◌, ◌++◌, length, take, get_or, refl, sym, ap, arith, append-nil, append_assoc}
use Rattle.std.specs.Prelude.{codes}
use Rattle.std.proofs.lemmas.List.{take_more, length-take-le}
use Rattle.lq_texts.specs.Faults.{spaced, with_messages}
use Rattle.lq_print.specs.Causes.{sign_before}

pub no_messages : (out : List ℕ) → out ≡ out ++ with_messages []
unfolding with_messages
no_messages out = sym (append-nil out)

-- texts with a space between, and one more behind them
spaced_push : (m : List ℕ) (ms : List (List ℕ)) (n : List ℕ) → spaced (m ∷ (ms ++ n ∷ [])) ≡ spaced (m ∷ ms) ++ codes " " ++ n
unfolding spaced
spaced_push m [] n = refl
spaced_push m (o ∷ ms) n =
    let a : List ℕ = m ++ codes " " in
    let s : List ℕ = spaced (o ∷ ms) in
    ap (λ z. a ++ z) (spaced_push o ms n) ∙ sym (append_assoc a (s ++ codes " ") n) ∙ ap (λ z. z ++ n) (sym (append_assoc a s (codes " ")))

messages_push : (ms : List (List ℕ)) (n : List ℕ) → with_messages (ms ++ n ∷ []) ≡ with_messages ms ++ sign_before (length ms) ++ n
unfolding with_messages spaced
messages_push [] n = refl
messages_push (m ∷ ms) n =
    let s : List ℕ = spaced (m ∷ ms) in
    ap (λ z. codes ": " ++ z) (spaced_push m ms n) ∙ sym (append_assoc (codes ": ") (s ++ codes " ") n)
    ∙ ap (λ z. z ++ n) (sym (append_assoc (codes ": ") s (codes " ")))

pub one_more_message :
    (out mid sign new : List ℕ) (ms : List (List ℕ)) (k : ℕ) (m : List ℕ) → k < length ms → m ≡ get_or ms k m
    → mid ≡ out ++ with_messages (take k ms) → sign ≡ mid ++ sign_before k → new ≡ sign ++ m
    → new ≡ out ++ with_messages (take (k + 1) ms)
one_more_message out mid sign new ms k m l at so_far signed e =
    let w : List ℕ = with_messages (take k ms) in
    e ∙ ap (λ z. z ++ m) (signed ∙ ap (λ z. z ++ sign_before k) so_far ∙ append_assoc out w (sign_before k))
    ∙ append_assoc out (w ++ sign_before k) m
    ∙ ap (λ z. out ++ z)
    (ap (λ j. w ++ sign_before j ++ m) (sym (length-take-le k ms (omega arith)))
    ∙ sym (messages_push (take k ms) m)
    ∙ ap with_messages (ap (λ z. take k ms ++ z ∷ []) at ∙ sym (take_more ms k m l)))

-- two texts, one after the other
pub two_parts : (out mid new a b : List ℕ) → mid ≡ out ++ a → new ≡ mid ++ b → new ≡ out ++ (a ++ b)
two_parts out mid new a b d e = e ∙ ap (λ z. z ++ b) d ∙ append_assoc out a b
