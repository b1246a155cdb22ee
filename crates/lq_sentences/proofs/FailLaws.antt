-- `Fail`s in a row: each but the last only adds one to what stands behind it, since as a call it stops where the next one does.
use Rattle.std.proofs.Common.{◌≡◌, ℕ, suc, ◌≤◌, Bool, true, false, nat_lt, List, [], ◌∷◌, ◌++◌, Ok, Err, refl, sym, ap, subst, ◌∙◌, arith, ltb-true, ltb-false}
use Rattle.std.specs.Prelude.{None, codes}
use Rattle.std.proofs.lemmas.Slice.Eq.{bytes_eq-Decides}
use Rattle.lq_grammar.specs.declared.token.Symbol.TheVariants.{Semicolon, Bars, Plus as PlusSign, Stop as StopSign}
use Rattle.lq_trees.specs.Tree.{Name, same_name}
use Rattle.lq_ast.specs.Syntax.{Ident}
use Rattle.lq_ast.specs.Tactics.{Tac, Arg, term_arg, args_of, stepped}
use Rattle.lq_ast.specs.Tactics as form
use Rattle.lq_ast.specs.Commands.{Statement, run}
use Rattle.lq_sentences.specs.Words.{Word, Words, name, is_name, is_number, same_symbol, is_sign, reads}
use Rattle.lq_sentences.specs.Rules.{loop, sees, Stop, unexpected, too_nested, ended, Read, and_then, read_word, read, ◌<$>◌}
use Rattle.lq_sentences.specs.Parts.{entry, expect, many}
use Rattle.lq_sentences.specs.Levels.{Here}
use Rattle.lq_sentences.specs.Primitives.{primitive_words}
use Rattle.lq_sentences.specs.Tactics.{form_words, prefix_words, operated, step, level, above}
use Rattle.lq_sentences.specs.Arguments.{begins_arg, argument_at}
use Rattle.lq_sentences.specs.Sentences.{command_words, stop, a_command, selector, whole_command, whole_selected, whole_tac}
use Rattle.lq_sentences.specs.Reading.{whole, either, further, statement}
use Rattle.lq_sentences.proofs.LoopLaws.{many_again}
use Rattle.lq_sentences.proofs.PlaceLaws.{Above, Rising, At, LiesIn, above_in, same_head, same_tail, either_fails, rule_stopped}
use Rattle.lq_sentences.proofs.ShapeLaws.{shape, then_alike, then_under, choice_alike, loops_alike, end_alike}

-- the word `Fail`, at a place
abbrev pub fail_at : ℕ → Word × ℕ
fail_at p = (name (codes "Fail"), p)

abbrev pub is_fail : Word → Bool
is_fail w = reads (codes "Fail") w

fail_name : (x : Name) → same_name (codes "Fail") x ≡ true → codes "Fail" ≡ x
fail_name x e = (bytes_eq-Decides (codes "Fail") x).0 e

pub fail_is : (w : Word × ℕ) → is_fail w.0 ≡ true → fail_at w.1 ≡ w
unfolding reads
fail_is (name x, p) e = ap (λ y. (name y, p)) (fail_name x e)
fail_is (Word.number n, p) e = absurd cc
fail_is (Word.quoted s, p) e = absurd cc
fail_is (Word.symbol s, p) e = absurd cc
fail_is (Word.bullet c n, p) e = absurd cc

-- ---- `Fail` as the name of a call

-- where an expression outside everything is read
abbrev top : Here
top = record { n = 200; below = level 200; ends = [] }

-- the arguments of a call behind those found so far
abbrev more_args : List Arg → Words → Read (List Arg)
more_args found ws = read (many 201 (begins_arg []) (argument_at top) found) ws

-- steps behind an expression, and the end of its sentence
abbrev steps : Tac → Words → Read Tac
steps a ws = read (loop 201 (λ b w. is_sign Semicolon w) (λ b w. stepped b <$> step top) a) ws

abbrev ending : Tac → Words → Read Statement
ending a ws = read (stop (run None a)) ws

-- what is read behind the name `Fail`, and behind arguments of it
abbrev called : List Arg → Words → Read Statement
called found ws =
    and_then (and_then (and_then (and_then (more_args found ws) (λ xs vs. Ok (form.call (codes "Fail") (args_of xs), vs))) (λ a vs. read (operated top a) vs)) steps) ending

the_level : (n : ℕ) → level (suc n) ≡ above n (level n)
unfolding level
the_level n = refl

call_read : (p : ℕ) (ws : Words) → read (whole_tac None) (fail_at p ∷ ws) ≡ called [] ws
unfolding whole_tac read_word is_name is_number same_symbol is_sign reads entry prefix_words form_words primitive_words
call_read p ws = ap (λ l. and_then (read (l.tac []) (fail_at p ∷ ws)) ending) (the_level 200)

more_arg : (p : ℕ) (found : List Arg) (ws : Words) → more_args found (fail_at p ∷ ws) ≡ more_args (found ++ term_arg (Ident (codes "Fail")) ∷ []) ws
unfolding sees read_word is_name is_number same_symbol is_sign reads
more_arg p found ws = many_again 201 (begins_arg []) (argument_at top) found (fail_at p ∷ ws) refl

one_arg : (p : ℕ) (found : List Arg) (ws : Words) → called found (fail_at p ∷ ws) ≡ called (found ++ term_arg (Ident (codes "Fail")) ∷ []) ws
one_arg p found ws =
    ap (λ r. and_then (and_then (and_then (and_then r (λ xs vs. Ok (form.call (codes "Fail") (args_of xs), vs))) (λ a vs. read (operated top a) vs)) steps) ending)
    (more_arg p found ws)

operated_alike : (a b : Tac) (ws : Words) → shape (read (operated top a) ws) ≡ shape (read (operated top b) ws)
operated_alike a b ws =
    choice_alike (sees (is_sign PlusSign) ws) _ _ _ _
    (then_under (read (expect 201 PlusSign) ws) _ _ (λ u vs. then_under (read ((level 200).pre []) vs) _ _ (λ c us. refl)))
    (choice_alike (sees (is_sign Bars) ws) _ _ _ _
    (then_under (read (expect 201 Bars) ws) _ _ (λ u vs. then_under (read ((level 200).pre []) vs) _ _ (λ c us. refl)))
    refl)

steps_alike : (a b : Tac) (ws : Words) → shape (steps a ws) ≡ shape (steps b ws)
steps_alike a b ws =
    loops_alike 201 (is_sign Semicolon) (λ b w. stepped b <$> step top) (λ b w. stepped b <$> step top)
    (λ c d w vs. then_under (read (step top) vs) _ _ (λ s us. refl)) a b ws

args_alike : (xs ys : List Arg) (ws : Words) → shape (more_args xs ws) ≡ shape (more_args ys ws)
args_alike xs ys ws =
    loops_alike 201 (begins_arg []) (λ zs w. (λ z. zs ++ z ∷ []) <$> argument_at top w) (λ zs w. (λ z. zs ++ z ∷ []) <$> argument_at top w)
    (λ c d w vs. then_under (read (argument_at top w) vs) _ _ (λ s us. refl)) xs ys ws

-- what is read behind a call doesn't show how many arguments it has
called_alike : (xs ys : List Arg) (ws : Words) → shape (called xs ws) ≡ shape (called ys ws)
called_alike xs ys ws =
    then_alike _ _ ending ending
    (then_alike _ _ steps steps
    (then_alike _ _ _ _
    (then_alike (more_args xs ws) (more_args ys ws) _ _ (args_alike xs ys ws) (λ a b vs. refl))
    (λ a b vs. operated_alike a b vs))
    (λ a b vs. steps_alike a b vs))
    (λ a b vs. then_under (read_word 201 (is_sign StopSign) vs) _ _ (λ w us. refl))

-- two calls of `Fail` in a row stop alike
call_alike : (p q : ℕ) (ws : Words) (e : Stop) → whole (whole_tac None) (fail_at q ∷ ws) ≡ Err e → whole (whole_tac None) (fail_at p ∷ fail_at q ∷ ws) ≡ Err e
call_alike p q ws e h =
    end_alike (read (whole_tac None) (fail_at q ∷ ws)) (read (whole_tac None) (fail_at p ∷ fail_at q ∷ ws)) e
    (ap shape (call_read q ws) ∙ called_alike [] (term_arg (Ident (codes "Fail")) ∷ []) ws ∙ sym (ap shape (call_read p (fail_at q ∷ ws) ∙ one_arg q [] ws))) h

-- ---- the faults of a statement that begins with `Fail`

no_command : (p : ℕ) (ws : Words) → whole whole_command (fail_at p ∷ ws) ≡ Err (unexpected p)
unfolding whole_command a_command read_word entry command_words
no_command p ws = refl

no_selector : (p : ℕ) (ws : Words) → whole whole_selected (fail_at p ∷ ws) ≡ Err (unexpected p)
unfolding whole_selected selector sees read_word is_number same_symbol is_sign reads
no_selector p ws = refl

-- the first of rising places is the least
first_least : (x : Word × ℕ) (ws : Words) (m : ℕ) → Rising (x ∷ ws) → At (x ∷ ws) m → x.1 ≤ m
first_least x ws m r t = by t.0 t.3
  where
    by : (used : Words) → x ∷ ws ≡ used ++ t.1 ∷ t.2 → x.1 ≤ m
    by [] e = omega (arith, ap (λ (v : Word × ℕ). v.1) (same_head x t.1 ws t.2 e), t.4)
    by (u ∷ us) e = let b = above_in x.1 us t.1 t.2 (subst (Above x.1) (same_tail x u ws (us ++ t.1 ∷ t.2) e) r.0) in omega (arith, t.4, b)

-- a reason at a word from there on is further than that the first one is unexpected
further_first : (x : Word × ℕ) (ws : Words) (e : Stop) → Rising (x ∷ ws) → LiesIn (x ∷ ws) e → further (unexpected x.1) e ≡ e
further_first x ws ended r h = refl
further_first x ws (unexpected m) r h = by (nat_lt x.1 m) refl
  where
    by : (b : Bool) → nat_lt x.1 m ≡ b → elim b as (λ _. Stop) [ true ↦ unexpected m | false ↦ unexpected x.1 ] ≡ unexpected m
    by true e = refl
    by false e = let i : x.1 ≡ m = omega (arith, first_least x ws m r h, ltb-false x.1 m e) in ap (λ k. unexpected k) i
further_first x ws (too_nested m) r h = by (nat_lt m x.1) refl
  where
    by : (b : Bool) → nat_lt m x.1 ≡ b → elim b as (λ _. Stop) [ true ↦ unexpected x.1 | false ↦ too_nested m ] ≡ too_nested m
    by true e = absurd (omega (arith, first_least x ws m r h, ltb-true m x.1 e))
    by false e = refl

-- a statement that begins with `Fail` stops where the call stops
call_fails : (p : ℕ) (ws : Words) (e : Stop) → Rising (fail_at p ∷ ws) → whole (whole_tac None) (fail_at p ∷ ws) ≡ Err e → statement (fail_at p ∷ ws) ≡ Err e
unfolding statement
call_fails p ws e r h =
    let far = further_first (fail_at p) ws e r ((rule_stopped (whole_tac None) (fail_at p ∷ ws) r).lies e h) in
    ap (λ c. either c (λ u. either (whole whole_selected (fail_at p ∷ ws)) (λ v. whole (whole_tac None) (fail_at p ∷ ws)))) (no_command p ws)
    ∙ ap (λ c. either (Err (unexpected p)) (λ u. either c (λ v. whole (whole_tac None) (fail_at p ∷ ws)))) (no_selector p ws)
    ∙ ap (λ c. either (Err (unexpected p)) (λ u. either (Err (unexpected p)) (λ v. c))) h
    ∙ ap (λ c. Err (further (unexpected p) c)) far
    ∙ ap (λ c. Err c) far

-- and the call where the statement does
fails_call : (p : ℕ) (ws : Words) (e : Stop) → Rising (fail_at p ∷ ws) → statement (fail_at p ∷ ws) ≡ Err e → whole (whole_tac None) (fail_at p ∷ ws) ≡ Err e
unfolding statement
fails_call p ws e r h =
    let t = either_fails (whole whole_command (fail_at p ∷ ws)) (either (whole whole_selected (fail_at p ∷ ws)) (λ v. whole (whole_tac None) (fail_at p ∷ ws))) e h in
    let s = either_fails (whole whole_selected (fail_at p ∷ ws)) (whole (whole_tac None) (fail_at p ∷ ws)) t.1 t.3 in
    s.3 ∙ sym (call_fails p ws s.1 r s.3) ∙ h

pub statement_again : (p q : ℕ) (ws : Words) (e : Stop) → Rising (fail_at p ∷ fail_at q ∷ ws) → statement (fail_at q ∷ ws) ≡ Err e → statement (fail_at p ∷ fail_at q ∷ ws) ≡ Err e
statement_again p q ws e r h = call_fails p (fail_at q ∷ ws) e r (call_alike p q ws e (fails_call q ws e r.1 h))
