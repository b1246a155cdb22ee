-- Reading statements behind any number of `Fail`s: what stands behind the last one and what begins with it are all that is to be read.
use Rattle.std.proofs.Common.{◌≡◌, ℕ, suc, Bool, true, false, nat_lt, [], ◌∷◌, ◌++◌, length, Ok, Err, refl, sym, ap, subst, ◌∙◌, inl, inr}
use Rattle.std.specs.Prelude.{◌⊎◌}
use Rattle.lq_ast.specs.Commands.{Statement, Sentence, stated}
use Rattle.lq_sentences.specs.Words.{Word, Words, reads}
use Rattle.lq_sentences.specs.Rules.{sees, Stop, unexpected, too_nested, ended}
use Rattle.lq_sentences.specs.Reading.{Whole, either, second_of, further, whole_map, failing, statement, stated_by, statements}
use Rattle.lq_sentences.proofs.RuleLaws.{chosen_true, chosen_false}
use Rattle.lq_sentences.proofs.PlaceLaws.{Rising, either_fails, map_fails}
use Rattle.lq_sentences.proofs.FailLaws.{fail_at, is_fail, fail_is, statement_again}

one_of : (b : Bool) (x y : Stop) → (elim b as (λ _. Stop) [ true ↦ x | false ↦ y ] ≡ x) ⊎ (elim b as (λ _. Stop) [ true ↦ x | false ↦ y ] ≡ y)
one_of true x y = inl refl
one_of false x y = inr refl

other_way : {A : Type 0} {x y z : A} → (x ≡ y) ⊎ (x ≡ z) → (x ≡ z) ⊎ (x ≡ y)
other_way (inl e) = inr e
other_way (inr e) = inl e

-- the further of two reasons is one of them
pub further_one : (d f : Stop) → (further d f ≡ d) ⊎ (further d f ≡ f)
further_one ended f = inl refl
further_one (unexpected m) ended = inr refl
further_one (too_nested m) ended = inr refl
further_one (unexpected m) (unexpected n) = other_way (one_of (nat_lt m n) (unexpected n) (unexpected m))
further_one (unexpected m) (too_nested n) = one_of (nat_lt n m) (unexpected m) (too_nested n)
further_one (too_nested m) (unexpected n) = other_way (one_of (nat_lt m n) (unexpected n) (too_nested m))
further_one (too_nested m) (too_nested n) = other_way (one_of (nat_lt m n) (too_nested n) (too_nested m))

either_way : {A : Type 0} {x y : A} → (x ≡ y) ⊎ (x ≡ y) → x ≡ y
either_way (inl e) = e
either_way (inr e) = e

further_self : (f : Stop) → further f f ≡ f
further_self f = either_way (further_one f f)

further_twice : (d f : Stop) → further (further d f) f ≡ further d f
further_twice d f =
    elim (further_one d f) [
      | inl e ↦ ap (λ x. further x f) e
      | inr e ↦ ap (λ x. further x f) e ∙ further_self f ∙ sym e
    ]

-- an alternative that is no further than the first adds nothing
nothing_added : (r q : Whole Sentence) → ((e : Stop) → r ≡ Err e → (f : Stop) × (q ≡ Err f) × (further e f ≡ e)) → either (whole_map failing r) (λ u. q) ≡ whole_map failing r
nothing_added (Ok s) q h = refl
nothing_added (Err e) q h = let k = h e refl in ap (second_of e) k.1 ∙ ap (λ x. Err x) k.2

-- ---- by the words

again : (p q : ℕ) (ws : Words) → Rising (fail_at p ∷ fail_at q ∷ ws) → statements (fail_at p ∷ fail_at q ∷ ws) ≡ whole_map failing (statements (fail_at q ∷ ws))
unfolding statements stated_by reads
again p q ws r =
    nothing_added (statements (fail_at q ∷ ws)) (whole_map (stated 0) (statement (fail_at p ∷ fail_at q ∷ ws)))
    (λ e i.
    let t = either_fails (whole_map failing (statements ws)) (whole_map (stated 0) (statement (fail_at q ∷ ws))) e i in
    let own = statement_again p q ws t.1 r (map_fails (stated 0) (statement (fail_at q ∷ ws)) t.1 t.3) in
    (t.1, ap (whole_map (stated 0)) own, ap (λ x. further x t.1) (sym t.4) ∙ further_twice t.0 t.1 ∙ t.4))

-- before another `Fail`, one more is only counted
pub fail_again : (v w : Word × ℕ) (ws : Words) → Rising (v ∷ w ∷ ws) → is_fail v.0 ≡ true → is_fail w.0 ≡ true → statements (v ∷ w ∷ ws) ≡ whole_map failing (statements (w ∷ ws))
fail_again v w ws r e f =
    subst (λ x. Rising (x ∷ w ∷ ws) → statements (x ∷ w ∷ ws) ≡ whole_map failing (statements (w ∷ ws))) (fail_is v e)
    (subst (λ y. Rising (fail_at v.1 ∷ y ∷ ws) → statements (fail_at v.1 ∷ y ∷ ws) ≡ whole_map failing (statements (y ∷ ws))) (fail_is w f) (again v.1 w.1 ws)) r

-- where no `Fail` stands, a statement is read
pub no_fail : (ws : Words) → sees is_fail ws ≡ false → statements ws ≡ whole_map (stated 0) (statement ws)
unfolding statements stated_by sees
no_fail [] e = refl
no_fail (w ∷ ws) e = chosen_false (is_fail w.0) _ _ e

map_twice : (r : Whole Statement) → whole_map failing (whole_map (stated 0) r) ≡ whole_map (stated 1) r
map_twice (Ok s) = refl
map_twice (Err e) = refl

-- the last `Fail`: what stands behind it, else a statement that begins with it
pub fail_last : (w : Word × ℕ) (ws : Words) → is_fail w.0 ≡ true → sees is_fail ws ≡ false →
    statements (w ∷ ws) ≡ either (whole_map (stated 1) (statement ws)) (λ u. whole_map (stated 0) (statement (w ∷ ws)))
unfolding statements stated_by
fail_last w ws e f =
    chosen_true (is_fail w.0) _ _ e
    ∙ ap (λ r. either r (λ u. whole_map (stated 0) (statement (w ∷ ws)))) (ap (whole_map failing) (no_fail ws f) ∙ map_twice (statement ws))

-- ---- any number of them

-- every word is `Fail`
abbrev pub AreFails : Words → Type 0
AreFails [] = Unit {0}
AreFails (w ∷ ws) = (is_fail w.0 ≡ true) × AreFails ws

failing_either : (j k : ℕ) (p q : Whole Statement) →
    whole_map failing (either (whole_map (stated j) p) (λ u. whole_map (stated k) q)) ≡ either (whole_map (stated (suc j)) p) (λ u. whole_map (stated (suc k)) q)
failing_either j k (Ok s) q = refl
failing_either j k (Err e) (Ok s) = refl
failing_either j k (Err e) (Err f) = refl

-- behind any number of `Fail`s two statements are to be read: the one behind the last of them, and the one that begins with it
pub two_attempts : (fails : Words) (w : Word × ℕ) (ws : Words) → Rising (fails ++ w ∷ ws) → AreFails fails → is_fail w.0 ≡ true → sees is_fail ws ≡ false →
    statements (fails ++ w ∷ ws) ≡ either (whole_map (stated (suc (length fails))) (statement ws)) (λ u. whole_map (stated (length fails)) (statement (w ∷ ws)))
two_attempts [] w ws r h e f = fail_last w ws e f
two_attempts (v ∷ []) w ws r h e f =
    fail_again v w ws r h.0 e ∙ ap (whole_map failing) (fail_last w ws e f) ∙ failing_either 1 0 (statement ws) (statement (w ∷ ws))
two_attempts (v ∷ u ∷ us) w ws r h e f =
    fail_again v u (us ++ w ∷ ws) r h.0 h.1.0
    ∙ ap (whole_map failing) (two_attempts (u ∷ us) w ws r.1 h.1 e f)
    ∙ failing_either (suc (suc (length us))) (suc (length us)) (statement ws) (statement (w ∷ ws))
