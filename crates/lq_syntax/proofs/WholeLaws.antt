-- Ways to read all the words, one after the other.
use Rattle.std.proofs.Common.{◌≡◌, ℕ, Bool, true, false, Result, Ok, Err, refl, sym, ap, ◌∙◌}
use Rattle.std.specs.Prelude.{nat_lt}
use Rattle.lq_sentences.specs.Rules.{Stop, unexpected, too_nested, ended}
use Rattle.lq_sentences.specs.Reading.{Whole, further, second_of, either}
use Rattle.lq_phrases.specs.declared.refusal.Refusal.{Refusal}
use Rattle.lq_phrases.specs.declared.refusal.Refusal.TheVariants.{NoMemory, Unexpected, TooNested, Ended}
use Rattle.lq_phrases.specs.Views.{Fails}
use Rattle.lq_syntax.specs.Wholes.{Tells, further_of, joined, joined_behind}

module _ {B : Type 0} where
  abbrev failed : Stop → Whole B
  failed d = Err d

  both : (p q : Whole B) (d e : Stop) → p ≡ failed d → q ≡ failed e → either p (λ u. q) ≡ failed (further d e)
  both p q d e h k = ap (λ r. either r (λ u. q)) h ∙ ap (λ r. second_of d r) k

  -- the refusal by a test is that of the reason by the same test
  by_test : (b : Bool) (r : Whole B) (e f : Refusal) (d g : Stop) → ((s : Whole B) → s ≡ failed d → Fails e s) → ((s : Whole B) → s ≡ failed g → Fails f s) →
      r ≡ failed (elim b as (λ _. Stop) [ true ↦ d | false ↦ g ]) → Fails (elim b as (λ _. Refusal) [ true ↦ e | false ↦ f ]) r
  by_test true r e f d g x y h = x r h
  by_test false r e f d g x y h = y r h

  unexpected_is : (n : ℕ) (s : Whole B) → s ≡ failed (unexpected n) → Fails (Unexpected n) s
  unexpected_is n s h = h

  nested_is : (n : ℕ) (s : Whole B) → s ≡ failed (too_nested n) → Fails (TooNested n) s
  nested_is n s h = h

  -- of two refusals the further one is that of the two ways
  further_fails : (e f : Refusal) (p q : Whole B) → Fails e p → Fails f q → Fails (further_of e f) (either p (λ u. q))
  further_fails NoMemory f p q h k = tt
  further_fails Ended NoMemory p q h k = tt
  further_fails Ended Ended p q h k = both p q ended ended h k
  further_fails Ended (Unexpected n) p q h k = both p q ended (unexpected n) h k
  further_fails Ended (TooNested n) p q h k = both p q ended (too_nested n) h k
  further_fails (Unexpected m) NoMemory p q h k = tt
  further_fails (Unexpected m) Ended p q h k = both p q (unexpected m) ended h k
  further_fails (Unexpected m) (Unexpected n) p q h k =
      by_test (nat_lt m n) (either p (λ u. q)) (Unexpected n) (Unexpected m) (unexpected n) (unexpected m) (unexpected_is n) (unexpected_is m) (both p q (unexpected m) (unexpected n) h k)
  further_fails (Unexpected m) (TooNested n) p q h k =
      by_test (nat_lt n m) (either p (λ u. q)) (Unexpected m) (TooNested n) (unexpected m) (too_nested n) (unexpected_is m) (nested_is n) (both p q (unexpected m) (too_nested n) h k)
  further_fails (TooNested m) NoMemory p q h k = tt
  further_fails (TooNested m) Ended p q h k = both p q (too_nested m) ended h k
  further_fails (TooNested m) (Unexpected n) p q h k =
      by_test (nat_lt m n) (either p (λ u. q)) (Unexpected n) (TooNested m) (unexpected n) (too_nested m) (unexpected_is n) (nested_is m) (both p q (too_nested m) (unexpected n) h k)
  further_fails (TooNested m) (TooNested n) p q h k =
      by_test (nat_lt m n) (either p (λ u. q)) (TooNested n) (TooNested m) (too_nested n) (too_nested m) (nested_is n) (nested_is m) (both p q (too_nested m) (too_nested n) h k)

  module _ {A : Type 0} (tree : A → B) where
    second_tells : (d : Stop) (a : A) (p q : Whole B) → p ≡ failed d → q ≡ Ok (tree a) → either p (λ u. q) ≡ Ok (tree a)
    second_tells d a p q h k = ap (λ r. either r (λ u. q)) h ∙ ap (λ r. second_of d r) k

    behind_tells : (e : Refusal) (d : Stop) (second : Result A Refusal) (p q : Whole B) → Fails e p → p ≡ failed d → Tells tree q second → Tells tree (either p (λ u. q)) (joined_behind e second)
    behind_tells e d (Ok a) p q f h k = second_tells d a p q h k
    behind_tells e d (Err g) p q f h k = further_fails e g p q f k

    -- what two ways to read tell
    pub either_tells : (e : Refusal) (second : Result A Refusal) (p q : Whole B) → Fails e p → Tells tree q second → Tells tree (either p (λ u. q)) (joined e second)
    either_tells NoMemory second p q h k = tt
    either_tells Ended second p q h k = behind_tells Ended ended second p q h h k
    either_tells (Unexpected m) second p q h k = behind_tells (Unexpected m) (unexpected m) second p q h h k
    either_tells (TooNested m) second p q h k = behind_tells (TooNested m) (too_nested m) second p q h h k

    pub first_tells : (a : A) (p q : Whole B) → p ≡ Ok (tree a) → either p (λ u. q) ≡ Ok (tree a)
    first_tells a p q h = ap (λ r. either r (λ u. q)) h
