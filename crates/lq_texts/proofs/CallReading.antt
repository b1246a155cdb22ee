-- `Check` and a printed term as an expression: a call.
use Rattle.std.proofs.Common.{◌≡◌, ℕ, suc, ◌+◌, Bool, true, false, List, [], ◌∷◌, ◌++◌, Ok, Err, refl, sym, ap, ◌∙◌, arith}
use Rattle.std.specs.Prelude.{◌||◌, None, codes}
use Rattle.lq_grammar.specs.declared.token.Symbol.TheVariants.{Plus as PlusSign, Bars, Semicolon, Colon, Stop as StopSign}
use Rattle.lq_ast.specs.Syntax.{Surface}
use Rattle.lq_ast.specs.Tactics.{Tac, Arg, args_of, stepped, term_arg}
use Rattle.lq_ast.specs.Tactics as form
use Rattle.lq_ast.specs.Syntax.{Ident}
use Rattle.lq_ast.specs.Commands.{Statement, run}
use Rattle.lq_sentences.specs.Words.{Word, Words, name, number, quoted, symbol, bullet, is_name, is_number, is_sign, same_symbol, reads}
use Rattle.lq_sentences.specs.Rules.{Rule, ◌>>=◌, ◌<$>◌, when, loop, sees, unexpected, too_nested, Read, and_then, read_word, read}
use Rattle.lq_sentences.specs.Parts.{entry, many}
use Rattle.lq_sentences.specs.Terms.{begins_argument, atom_at, term}
use Rattle.lq_sentences.specs.Patterns.{free_spot}
use Rattle.lq_sentences.specs.Levels.{Here}
use Rattle.lq_sentences.specs.Arguments.{behind_ltac, argument_at, begins_arg}
use Rattle.lq_sentences.specs.Primitives.{primitive_words}
use Rattle.lq_sentences.specs.Tactics.{form_words, prefix_words, operated, begins_pre, pre_at, step, tac_in, level}
use Rattle.lq_sentences.specs.Sentences.{whole_tac, stop}
use Rattle.lq_sentences.specs.Reading.{to_the_end, whole}
use Rattle.lq_sentences.proofs.RuleLaws.{done_is, chosen_true, chosen_false}
use Rattle.lq_sentences.proofs.LoopLaws.{many_again, many_done, loop_done}
use Rattle.lq_texts.proofs.AtomReading.{reads_is}
use Rattle.lq_texts.proofs.AtomRows.{an_atom, Row, row_end, row_more, Cut, cut_here, cut_later}

-- ---- the words as an expression: a call of `Check`

module _ (m : ℕ) where
  abbrev pub here : Here
  here = record { n = m; below = level m; ends = [] }

  abbrev pub args : List Arg → Words → Read (List Arg)
  args found ws = read (many (m + 1) (begins_arg []) (argument_at here) found) ws

  pub arg_word : (w : Word × ℕ) (ws : Words) → begins_arg [] w.0 ≡ true → read_word (m + 1) (begins_arg []) (w ∷ ws) ≡ Ok (w, ws)
  unfolding read_word
  arg_word w ws b = let e : m + 1 ≡ suc m = omega arith in rw e (chosen_true (begins_arg [] w.0) _ _ b)

  pub arg_turn : (found : List Arg) (w : Word × ℕ) (ws : Words) → begins_arg [] w.0 ≡ true →
      args found (w ∷ ws) ≡ and_then (read (argument_at here w) ws) (λ a us. args (found ++ a ∷ []) us)
  unfolding sees
  arg_turn found w ws b =
      many_again (m + 1) (begins_arg []) (argument_at here) found (w ∷ ws) b
      ∙ ap (λ (r : Read (Word × ℕ)). and_then r (λ v vs. and_then (read (argument_at here v) vs) (λ a us. args (found ++ a ∷ []) us))) (arg_word w ws b)

pub not_number : (w : Word) → begins_argument [] w ≡ true → is_number w ≡ false
unfolding is_number is_name is_sign reads
not_number (number n) e = absurd cc
not_number (name x) e = refl
not_number (quoted s) e = refl
not_number (symbol s) e = refl
not_number (bullet c n) e = refl

pub not_colon : (w : Word) → begins_argument [] w ≡ true → is_sign Colon w ≡ false
unfolding is_name is_sign same_symbol reads
not_colon (symbol Colon) e = absurd cc
not_colon (symbol _) e = refl
not_colon (number n) e = refl
not_colon (name x) e = refl
not_colon (quoted s) e = refl
not_colon (bullet c n) e = refl

pub or_right : (a b : Bool) → b ≡ true → (a || b) ≡ true
or_right true b e = refl
or_right false b e = e

pub as_arg : (w : Word) → begins_argument [] w ≡ true → begins_arg [] w ≡ true
as_arg w e = or_right (is_number w) _ e

pub when_false : {A : Type 0} (b : Bool) (p q : Rule A) → b ≡ false → when b p q ≡ q
when_false true p q e = absurd cc
when_false false p q e = refl

pub when_true : {A : Type 0} (b : Bool) (p q : Rule A) → b ≡ true → when b p q ≡ p
when_true true p q e = refl
when_true false p q e = absurd cc

-- the word `ltac` before no colon is a name
pub ltac_atom : (m p : ℕ) (ws : Words) → an_atom m (name (codes "ltac"), p) ws ≡ Ok (Ident (codes "ltac"), ws)
unfolding is_sign same_symbol reads
ltac_atom m p ws = refl

module _ (m : ℕ) (v : Word) (p : ℕ) (ws : Words) (b : begins_argument [] v ≡ true) where
  -- an argument is an atom
  pub plain_arg : reads (codes "ltac") v ≡ false → read (argument_at (here m) (v, p)) ws ≡ and_then (an_atom m (v, p) ws) (λ a us. Ok (term_arg a, us))
  plain_arg f =
      ap (λ r. read r ws) (when_false (is_number v) _
      (when (reads (codes "ltac") v) (behind_ltac (here m)) (term_arg <$> atom_at m (term m) free_spot (v, p))) (not_number v b))
      ∙ ap (λ r. read r ws) (when_false (reads (codes "ltac") v) (behind_ltac (here m)) (term_arg <$> atom_at m (term m) free_spot (v, p)) f)

  pub ltac_arg : reads (codes "ltac") v ≡ true → sees (is_sign Colon) ws ≡ false →
      read (argument_at (here m) (v, p)) ws ≡ Ok (term_arg (Ident (codes "ltac")), ws)
  ltac_arg t c =
      ap (λ r. read r ws) (when_false (is_number v) _
      (when (reads (codes "ltac") v) (behind_ltac (here m)) (term_arg <$> atom_at m (term m) free_spot (v, p))) (not_number v b))
      ∙ ap (λ r. read r ws) (when_true (reads (codes "ltac") v) (behind_ltac (here m)) (term_arg <$> atom_at m (term m) free_spot (v, p)) t)
      ∙ chosen_false (sees (is_sign Colon) ws) _ _ c

  pub arg_reads : (a : Surface) (us : Words) → an_atom m (v, p) ws ≡ Ok (a, us) → sees (is_sign Colon) us ≡ false →
      (c : Arg) × (read (argument_at (here m) (v, p)) ws ≡ Ok (c, us))
  arg_reads a us e c = by (reads (codes "ltac") v) refl
    where
      same : (x y : Surface) (xs ys : Words) → (let r : Read Surface = Ok (x, xs) in r) ≡ Ok (y, ys) → xs ≡ ys
      same x y xs ys f = ap (λ (v : Surface × Words). v.1) (done_is (x, xs) (y, ys) f)

      by : (t : Bool) → reads (codes "ltac") v ≡ t → (c : Arg) × (read (argument_at (here m) (v, p)) ws ≡ Ok (c, us))
      by false f = (term_arg a, plain_arg f ∙ ap (λ r. and_then r (λ a us. Ok (term_arg a, us))) e)
      by true f =
          let g = same (Ident (codes "ltac")) a ws us (sym (ltac_atom m p ws) ∙ ap (λ w. an_atom m (w, p) ws) (sym (reads_is (codes "ltac") v f)) ∙ e) in
          (term_arg (Ident (codes "ltac")), ltac_arg f (ap (sees (is_sign Colon)) g ∙ c) ∙ ap (λ us. Ok (term_arg (Ident (codes "ltac")), us)) g)

  pub arg_cut : (q : ℕ) → an_atom m (v, p) ws ≡ Err (too_nested q) → read (argument_at (here m) (v, p)) ws ≡ Err (too_nested q)
  arg_cut q e = by (reads (codes "ltac") v) refl
    where
      apart : (x : Surface) (xs : Words) → (let r : Read Surface = Ok (x, xs) in r) ≡ Err (too_nested q) → ⊥
      apart x xs f = cc

      by : (t : Bool) → reads (codes "ltac") v ≡ t → read (argument_at (here m) (v, p)) ws ≡ Err (too_nested q)
      by false f = plain_arg f ∙ ap (λ r. and_then r (λ a us. Ok (term_arg a, us))) e
      by true f = absurd (apart (Ident (codes "ltac")) ws (sym (ltac_atom m p ws) ∙ ap (λ w. an_atom m (w, p) ws) (sym (reads_is (codes "ltac") v f)) ∙ e))

pub row_colon : (m : ℕ) (us rest : Words) (as_ : List Surface) → Row m us as_ rest → sees (is_sign Colon) rest ≡ false → sees (is_sign Colon) us ≡ false
unfolding sees
row_colon m us rest as_ row_end c = c
row_colon m us rest as_ (row_more {w = w} b e more) c = not_colon w.0 b

-- atoms are arguments
pub args_row : (m : ℕ) (us rest : Words) (as_ : List Surface) → Row m us as_ rest → sees (is_sign Colon) rest ≡ false → sees (begins_arg []) rest ≡ false →
    (found : List Arg) →
    (all : List Arg) × (args m found us ≡ Ok (all, rest))
args_row m us rest as_ row_end c stops found = (found, many_done (m + 1) (begins_arg []) (argument_at (here m)) found us stops)
args_row m us rest as_ (row_more {w = w} {ws = ws} {us = vs} {a = a} {as_ = bs} b e more) c stops found =
    let one = arg_reads m w.0 w.1 ws b a vs e (row_colon m vs rest bs more c) in
    let others = args_row m vs rest bs more c stops (found ++ one.0 ∷ []) in
    (others.0, arg_turn m found w ws (as_arg w.0 b) ∙ ap (λ r. and_then r (λ c us. args m (found ++ c ∷ []) us)) one.1 ∙ others.1)

pub cut_colon : (m : ℕ) (us : Words) (q : ℕ) → Cut m us q → sees (is_sign Colon) us ≡ false
unfolding sees
cut_colon m us q (cut_here {w = w} b e) = not_colon w.0 b
cut_colon m us q (cut_later {w = w} b e more) = not_colon w.0 b

pub args_cut : (m : ℕ) (us : Words) (q : ℕ) → Cut m us q → (found : List Arg) → args m found us ≡ Err (too_nested q)
args_cut m us q (cut_here {w = w} {ws = ws} b e) found =
    arg_turn m found w ws (as_arg w.0 b) ∙ ap (λ r. and_then r (λ c us. args m (found ++ c ∷ []) us)) (arg_cut m w.0 w.1 ws b q e)
args_cut m us q (cut_later {w = w} {ws = ws} {us = vs} {a = a} b e more) found =
    let one = arg_reads m w.0 w.1 ws b a vs e (cut_colon m vs q more) in
    arg_turn m found w ws (as_arg w.0 b) ∙ ap (λ r. and_then r (λ c us. args m (found ++ c ∷ []) us)) one.1 ∙ args_cut m vs q more (found ++ one.0 ∷ [])

-- ---- the expression and its end

-- what comes of the arguments of `Check`
abbrev pub behind_args : (m : ℕ) → Read (List Arg) → Read Statement
behind_args m x =
    and_then (and_then (and_then (and_then x (λ xs vs. Ok (form.call (codes "Check") (args_of xs), vs))) (λ a vs. read (operated (here m) a) vs))
    (λ a vs. read (loop (m + 1) (λ b w. is_sign Semicolon w) (λ b w. stepped b <$> step (here m)) a) vs)) (λ a vs. read (stop (run None a)) vs)

pub call_word : (m p : ℕ) (us : Words) → read_word (m + 1) begins_pre ((name (codes "Check"), p) ∷ us) ≡ Ok ((name (codes "Check"), p), us)
unfolding read_word is_name is_number is_sign reads
call_word m p us = let e : m + 1 ≡ suc m = omega arith in rw e refl

pub call_by : (m p : ℕ) (us : Words) → read (tac_in (here m) >>= (λ a. stop (run None a))) ((name (codes "Check"), p) ∷ us) ≡ behind_args m (args m [] us)
unfolding is_number is_sign entry prefix_words form_words primitive_words
call_by m p us =
    ap (λ (x : Read (Word × ℕ)).
    and_then (and_then (and_then x (λ w vs. read (pre_at (here m) w.0) vs))
    (λ a vs. read (loop (m + 1) (λ b w. is_sign Semicolon w) (λ b w. stepped b <$> step (here m)) a) vs)) (λ a vs. read (stop (run None a)) vs))
    (call_word m p us)

pub tac_is : (m : ℕ) → (level (suc m)).tac [] ≡ tac_in (here m)
unfolding level
tac_is m = refl

pub tac_by : (p : ℕ) (us : Words) → read (whole_tac None) ((name (codes "Check"), p) ∷ us) ≡ behind_args 200 (args 200 [] us)
unfolding whole_tac
tac_by p us = ap (λ c. read (c >>= (λ a. stop (run None a))) ((name (codes "Check"), p) ∷ us)) (tac_is 200) ∙ call_by 200 p us

-- a word with which no expression goes on
pub record Ends (v : Word) : Type 0 where
  pub no_plus : is_sign PlusSign v ≡ false
  pub no_bars : is_sign Bars v ≡ false
  pub no_semicolon : is_sign Semicolon v ≡ false
  pub no_stop : is_sign StopSign v ≡ false

pub call_ends : (m : ℕ) (all : List Arg) (v : Word) (f : ℕ) (vs : Words) → Ends v → behind_args m (Ok (all, (v, f) ∷ vs)) ≡ Err (unexpected f)
unfolding sees read_word
call_ends m all v f vs e =
    let a : Tac = form.call (codes "Check") (args_of all) in
    ap (λ (x : Read Tac). and_then (and_then x (λ a vs. read (loop (m + 1) (λ b w. is_sign Semicolon w) (λ b w. stepped b <$> step (here m)) a) vs))
    (λ a vs. read (stop (run None a)) vs))
    (chosen_false (is_sign PlusSign v) _ _ e.no_plus ∙ chosen_false (is_sign Bars v) _ _ e.no_bars)
    ∙ ap (λ (x : Read Tac). and_then x (λ a vs. read (stop (run None a)) vs))
    (loop_done (m + 1) (λ b w. is_sign Semicolon w) (λ b w. stepped b <$> step (here m)) a ((v, f) ∷ vs) e.no_semicolon)
    ∙ ap (λ (x : Read (Word × ℕ)). and_then x (λ w vs. Ok (run None a, vs))) (chosen_false (is_sign StopSign v) _ _ e.no_stop)

pub tac_ends : (p : ℕ) (us : Words) (all : List Arg) (v : Word) (f : ℕ) (vs : Words) → args 200 [] us ≡ Ok (all, (v, f) ∷ vs) → Ends v →
    whole (whole_tac None) ((name (codes "Check"), p) ∷ us) ≡ Err (unexpected f)
tac_ends p us all v f vs e ends = ap to_the_end (tac_by p us ∙ ap (behind_args 200) e ∙ call_ends 200 all v f vs ends)

pub tac_nested : (p : ℕ) (us : Words) (q : ℕ) → args 200 [] us ≡ Err (too_nested q) →
    whole (whole_tac None) ((name (codes "Check"), p) ∷ us) ≡ Err (too_nested q)
tac_nested p us q e = ap to_the_end (tac_by p us ∙ ap (behind_args 200) e)
