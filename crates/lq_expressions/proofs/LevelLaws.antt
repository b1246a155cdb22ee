-- Expressions level by level, and their trees.
use Rattle.std.specs.Prelude.{◌&&◌, codes}
use Rattle.std.proofs.Common.{◌≡◌, ℕ, zero, suc, ◌<◌, ◌≤◌, ◌-◌, ◌+◌, Bool, true, false, List, [], ◌∷◌, ◌++◌, length, Ok, refl, sym, ap, ◌∙◌, arith}
use Rattle.lq_trees.specs.Tree.{Name}
use Rattle.lq_ast.specs.Tactics as tree
use Rattle.lq_ast.specs.Tactics.{stepped, sequence}
use Rattle.lq_ast.specs.PlainTactics.{plain_tac, plain_binding}
use Rattle.lq_ast.specs.Syntax.{Surface}
use Rattle.lq_ast.specs.declared.tac.Manner.{Manner}
use Rattle.lq_ast.specs.declared.tac.Tac.{Tac}
use Rattle.lq_ast.specs.declared.tac.Binding.{Binding, the_lemmas}
use Rattle.lq_grammar.specs.declared.token.Symbol.TheVariants.{Bar, Dots, Semicolon}
use Rattle.lq_sentences.specs.Words.{Word, Words, is_sign, reads}
use Rattle.lq_sentences.specs.Rules.{Rule, loop, ◌<$>◌, sees, Read, and_then, read_word, read}
use Rattle.lq_sentences.specs.Parts.{many, eat, expect_word}
use Rattle.lq_sentences.specs.Arguments.{Places, is_unfilled, with_place, one_place}
use Rattle.lq_sentences.specs.Levels.{Here}
use Rattle.lq_sentences.specs.Tactics.{no_tac, bind, let_form, step, tac_in, pre_in, level}
use Rattle.lq_sentences.proofs.LoopLaws.{then_same, then_then, loop_again, loop_done, many_again, many_done, read_shorter, word_takes}
use Rattle.lq_sentences.specs.Matches.{Mode, Clauses, right_side, clause, one_more, clauses, match_head, matched_of, match_form}
use Rattle.lq_parts.specs.Heads.{Head, headed, clause_head}
use Rattle.lq_parts.proofs.HeadLaws.{ended_on, clause_goes}
use Rattle.lq_phrases.specs.declared.word.Ends.{Ends}
use Rattle.lq_phrases.specs.declared.refusal.Refusal.{Refusal}
use Rattle.lq_phrases.specs.declared.refusal.Refusal.TheVariants.{NoMemory, Unexpected, TooNested, Ended}
use Rattle.lq_phrases.specs.Views.{ends_of, here, free, Fails}
use Rattle.lq_expressions.specs.Views.{a_tac, a_pre, steps_behind, place, bindings, let_behind, right_of, match_clauses, more_clauses}

-- ---- levels

pub tac_zero : (n : ℕ) (e : Ends) (ws : Words) → n ≡ 0 → read (a_tac n e) ws ≡ read (no_tac (ends_of e)) ws
unfolding level
tac_zero zero e ws i = refl
tac_zero (suc n) e ws i = absurd (omega arith)

pub tac_down : (n : ℕ) (e : Ends) (ws : Words) → 0 < n → read (a_tac n e) ws ≡ read (tac_in (here (n - 1) e)) ws
unfolding level
tac_down zero e ws h = absurd (omega arith)
tac_down (suc n) e ws h = let i : n ≡ suc n - 1 = omega arith in ap (λ m. read (tac_in (here m e)) ws) i

pub pre_zero : (n : ℕ) (e : Ends) (ws : Words) → n ≡ 0 → read (a_pre n e) ws ≡ read (no_tac (ends_of e)) ws
unfolding level
pre_zero zero e ws i = refl
pre_zero (suc n) e ws i = absurd (omega arith)

pub pre_down : (n : ℕ) (e : Ends) (ws : Words) → 0 < n → read (a_pre n e) ws ≡ read (pre_in (here (n - 1) e)) ws
unfolding level
pre_down zero e ws h = absurd (omega arith)
pre_down (suc n) e ws h = let i : n ≡ suc n - 1 = omega arith in ap (λ m. read (pre_in (here m e)) ws) i

-- ---- a rule that goes on behind another

-- what goes on behind an outcome fails as that does
pub fails_on : {A B : Type 0} {s : Read B} (f : A → Words → Read B) (e : Refusal) (r : Read A) → s ≡ and_then r f → Fails e r → Fails e s
fails_on f NoMemory r g h = tt
fails_on f (Unexpected p) r g h = g ∙ ap (λ q. and_then q f) h
fails_on f (TooNested p) r g h = g ∙ ap (λ q. and_then q f) h
fails_on f Ended r g h = g ∙ ap (λ q. and_then q f) h

-- and gives what that gives with what stands behind it
pub gives_on : {A B : Type 0} {s : Read B} (f : A → Words → Read B) (r : Read A) (a : A) (us : Words) → s ≡ and_then r f → r ≡ Ok (a, us) → s ≡ f a us
gives_on f r a us g h = g ∙ ap (λ q. and_then q f) h

-- ---- trees

pub sequence_none : (a : tree.Tac) → sequence a [] ≡ a
unfolding sequence
sequence_none a = refl

pub binding_is : (x : List ℕ) (xs : List (List ℕ)) (a : Tac) → plain_binding (record { name = x; parameters = xs; value = a }) ≡ tree.binds x xs (plain_tac a)
unfolding plain_tac plain_binding
binding_is x xs a = search the_lemmas

-- ---- a tree put together turn by turn

module _ {A B : Type 0} (n : ℕ) (test : Word → Bool) (item : Word × ℕ → Rule A) (put : B → A → B) (full : List A → B)
    (more : (xs : List A) (x : A) → full (xs ++ x ∷ []) ≡ put (full xs) x) where
  abbrev folded : List A → Words → Read B
  folded xs us = Ok (full xs, us)

  abbrev all_of : B → Words → Read B
  all_of b ws = read (loop n (λ c w. test w) (λ c w. put c <$> item w) b) ws

  abbrev put_to : B → A → Words → Read B
  put_to b x us = Ok (put b x, us)

  -- one part, and those behind it
  abbrev turn : List A → Word × ℕ → Words → Read (List A)
  turn found w vs = and_then (read (item w) vs) (λ x us. read (many n test item (found ++ x ∷ [])) us)

  goes : (k : ℕ) (found : List A) (ws : Words) → length ws ≤ k → (b : Bool) → sees test ws ≡ b → all_of (full found) ws ≡ and_then (read (many n test item found) ws) folded
  unfolding sees
  goes k found ws h false e =
      loop_done n (λ c w. test w) (λ c w. put c <$> item w) (full found) ws e ∙ sym (ap (λ r. and_then r folded) (many_done n test item found ws e))
  goes zero found [] h true e = absurd cc
  goes zero found (w ∷ ws) h true e = absurd (omega arith)
  goes (suc k) found ws h true e =
      loop_again n (λ c w. test w) (λ c w. put c <$> item w) (full found) ws e
      ∙ then_same (read_word n test ws) (λ w vs. and_then (and_then (read (item w) vs) (put_to (full found))) all_of) (λ w vs. and_then (turn found w vs) folded) (λ w i.
      then_then (read (item w.0) w.1) (put_to (full found)) all_of
      ∙ then_same (read (item w.0) w.1) (λ x us. all_of (put (full found) x) us) (λ x us. and_then (read (many n test item (found ++ x ∷ [])) us) folded) (λ x j.
      ap (λ b. all_of b x.1) (sym (more found x.0))
      ∙ goes k (found ++ x.0 ∷ []) x.1 (omega (arith, h, word_takes n test ws w.0 w.1 i, read_shorter (item w.0) w.1 x.0 x.1 j)) (sees test x.1) refl)
      ∙ sym (then_then (read (item w.0) w.1) (λ x us. read (many n test item (found ++ x ∷ [])) us) folded))
      ∙ sym (then_then (read_word n test ws) (turn found) folded)
      ∙ sym (ap (λ r. and_then r folded) (many_again n test item found ws e))

  -- a loop that puts each part into a tree gives the tree of all the parts
  pub loop_folds : (found : List A) (ws : Words) → all_of (full found) ws ≡ and_then (read (many n test item found) ws) folded
  loop_folds found ws = goes (length ws) found ws (omega arith) (sees test ws) refl

pub sequence_more : (a : tree.Tac) (ss : List tree.Step) (s : tree.Step) → sequence a (ss ++ s ∷ []) ≡ stepped (sequence a ss) s
unfolding sequence
sequence_more a [] s = refl
sequence_more a (t ∷ ts) s = sequence_more (stepped a t) ts s

-- an expression and what stands behind it are read as the expression and all the parts behind it
abbrev pub steps_on : Here → List tree.Step → Words → Read (List tree.Step)
steps_on h ss ws = read (many (h.n + 1) (is_sign Semicolon) (λ w. step h) ss) ws

steps_are : (h : Here) (a : tree.Tac) (ws : Words) (none : List tree.Step) → none ≡ [] → read (steps_behind h a) ws ≡ and_then (steps_on h none ws) (λ ss us. Ok (sequence a ss, us))
steps_are h a ws none e =
    ap (λ b. read (steps_behind h b) ws) (sym (sequence_none a))
    ∙ loop_folds (h.n + 1) (is_sign Semicolon) (λ w. step h) stepped (sequence a) (sequence_more a) [] ws
    ∙ ap (λ ss. and_then (steps_on h ss ws) (λ rs us. Ok (sequence a rs, us))) (sym e)

pub steps_fail : (h : Here) (a : tree.Tac) (e : Refusal) (ws : Words) (none : List tree.Step) → none ≡ [] → Fails e (steps_on h none ws) → Fails e (read (steps_behind h a) ws)
steps_fail h a e ws none i f = fails_on (λ ss us. Ok (sequence a ss, us)) e (steps_on h none ws) (steps_are h a ws none i) f

pub steps_give : (h : Here) (a t : tree.Tac) (ws : Words) (none ss : List tree.Step) (us : Words) → none ≡ [] → steps_on h none ws ≡ Ok (ss, us) → t ≡ sequence a ss → read (steps_behind h a) ws ≡ Ok (t, us)
steps_give h a t ws none ss us i f e = gives_on (λ ss us. Ok (sequence a ss, us)) (steps_on h none ws) ss us (steps_are h a ws none i) f ∙ ap (λ b. Ok (b, us)) (sym e)

-- ---- places

-- the `..` of a place
abbrev dots_on : ℕ → Bool → Words → Read Bool
dots_on n b ws = read (eat n (λ w. b && is_sign Dots w)) ws

place_goes : (n : ℕ) (p : Places) (a : tree.Tac) (b : Bool) (ws vs : Words) → read (place n) ws ≡ Ok (a, vs) → b ≡ is_unfilled p →
    read (one_place (free n) p) ws ≡ and_then (dots_on n b vs) (λ fills us. Ok (with_place p a fills, us))
place_goes n p a b ws vs e i =
    ap (λ r. and_then r (λ c rs. and_then (dots_on n (is_unfilled p) rs) (λ fills us. Ok (with_place p c fills, us)))) e
    ∙ ap (λ c. and_then (dots_on n c vs) (λ fills us. Ok (with_place p a fills, us))) (sym i)

pub place_fails : (n : ℕ) (p : Places) (a : tree.Tac) (b : Bool) (ws vs : Words) (e : Refusal) → read (place n) ws ≡ Ok (a, vs) → b ≡ is_unfilled p → Fails e (dots_on n b vs) →
    Fails e (read (one_place (free n) p) ws)
place_fails n p a b ws vs e h i f = fails_on (λ fills us. Ok (with_place p a fills, us)) e (dots_on n b vs) (place_goes n p a b ws vs h i) f

pub place_gives : (n : ℕ) (p q : Places) (a : tree.Tac) (b fills : Bool) (ws vs us : Words) → read (place n) ws ≡ Ok (a, vs) → b ≡ is_unfilled p → dots_on n b vs ≡ Ok (fills, us) → q ≡ with_place p a fills →
    read (one_place (free n) p) ws ≡ Ok (q, us)
place_gives n p q a b fills ws vs us h i f e =
    gives_on (λ fills us. Ok (with_place p a fills, us)) (dots_on n b vs) fills us (place_goes n p a b ws vs h i) f ∙ ap (λ r. Ok (r, us)) (sym e)

-- ---- clauses

abbrev put_clause : List tree.Clause → tree.Clause × Mode → Words → Read Clauses
put_clause bs c us = Ok ((bs ++ c.0 ∷ [], c.1), us)

abbrev right_on : Here → List tree.Clause → Head × Mode → Words → Read Clauses
right_on h cs d vs = read (right_of h d cs) vs

-- a clause more is its head, and the clauses so far with that head and the right side behind it
one_goes : (h : Here) (cs : List tree.Clause) (m : Mode) (ws : Words) → read (one_more (cs, m) (clause h m)) ws ≡ and_then (read (clause_head h.n m) ws) (right_on h cs)
one_goes h cs m ws =
    ap (λ r. and_then r (put_clause cs)) (clause_goes h m ws)
    ∙ then_then (read (clause_head h.n m) ws) (ended_on h) (put_clause cs)
    ∙ then_same (read (clause_head h.n m) ws) (λ d vs. and_then (ended_on h d vs) (put_clause cs)) (right_on h cs)
    (λ y e. then_then (read (right_side h) y.1) (λ a us. Ok ((headed y.0.0 a, y.0.1), us)) (put_clause cs))

pub clause_fails : (h : Here) (cs : List tree.Clause) (m : Mode) (e : Refusal) (ws : Words) → Fails e (read (clause_head h.n m) ws) → Fails e (read (one_more (cs, m) (clause h m)) ws)
clause_fails h cs m e ws f = fails_on (right_on h cs) e (read (clause_head h.n m) ws) (one_goes h cs m ws) f

-- behind a head the clause is what its right side makes it
pub clause_is : (h : Here) (cs : List tree.Clause) (m : Mode) (d : Head × Mode) (ws vs : Words) → read (clause_head h.n m) ws ≡ Ok (d, vs) → read (one_more (cs, m) (clause h m)) ws ≡ read (right_of h d cs) vs
clause_is h cs m d ws vs f = gives_on (right_on h cs) (read (clause_head h.n m) ws) d vs (one_goes h cs m ws) f

abbrev right_put : Head × Mode → List tree.Clause → tree.Tac → Words → Read Clauses
right_put d cs a us = Ok ((cs ++ headed d.0 a ∷ [], d.1), us)

pub right_fails : (h : Here) (d : Head × Mode) (cs : List tree.Clause) (e : Refusal) (ws : Words) → Fails e (read (right_side h) ws) → Fails e (read (right_of h d cs) ws)
right_fails h d cs e ws f = fails_on (right_put d cs) e (read (right_side h) ws) refl f

pub right_gives : (h : Here) (d : Head × Mode) (cs ds : List tree.Clause) (a : tree.Tac) (ws us : Words) → read (right_side h) ws ≡ Ok (a, us) → ds ≡ cs ++ headed d.0 a ∷ [] →
    read (right_of h d cs) ws ≡ Ok ((ds, d.1), us)
right_gives h d cs ds a ws us f e = gives_on (right_put d cs) (read (right_side h) ws) a us refl f ∙ ap (λ xs. Ok ((xs, d.1), us)) (sym e)

-- the first clause, and those behind it
pub clauses_are : (n : ℕ) (m : Mode) (ws vs us : Words) (b : Bool) (none : List tree.Clause) (first : Clauses) → read (eat n (is_sign Bar)) ws ≡ Ok (b, vs) → none ≡ [] →
    read (one_more (none, m) (clause (free n) m)) vs ≡ Ok (first, us) → read (clauses (free n) m) ws ≡ read (more_clauses n first) us
clauses_are n m ws vs us b none first e i f =
    gives_on (λ c rs. and_then (read (one_more ([], m) (clause (free n) m)) rs) (λ cs qs. read (more_clauses n cs) qs)) (read (eat n (is_sign Bar)) ws) b vs refl e
    ∙ ap (λ cs. and_then (read (one_more (cs, m) (clause (free n) m)) vs) (λ ds qs. read (more_clauses n ds) qs)) (sym i)
    ∙ ap (λ r. and_then r (λ ds qs. read (more_clauses n ds) qs)) f

-- ---- `let`

abbrev pub bindings_on : Here → Words → Read (List tree.Binding)
bindings_on h ws = read (bindings h) ws

-- behind `rec` a `let` is its bindings and what stands behind them
let_goes : (h : Here) (b : Bool) (ws vs : Words) → read (eat h.n (reads (codes "rec"))) ws ≡ Ok (b, vs) → read (let_form h) ws ≡ and_then (bindings_on h vs) (λ all us. read (let_behind h b all) us)
let_goes h b ws vs e =
    gives_on (λ c rs. and_then (read (bind h) rs) (λ x us. and_then (read (many h.n (reads (codes "with")) (λ w. bind h) (x ∷ [])) us) (λ all qs. read (let_behind h c all) qs))) (read (eat h.n (reads (codes "rec"))) ws) b vs refl e
    ∙ sym (then_then (read (bind h) vs) (λ x us. read (many h.n (reads (codes "with")) (λ w. bind h) (x ∷ [])) us) (λ all us. read (let_behind h b all) us))

pub let_fails : (h : Here) (b : Bool) (ws vs : Words) (e : Refusal) → read (eat h.n (reads (codes "rec"))) ws ≡ Ok (b, vs) → Fails e (bindings_on h vs) → Fails e (read (let_form h) ws)
let_fails h b ws vs e i f = fails_on (λ all us. read (let_behind h b all) us) e (bindings_on h vs) (let_goes h b ws vs i) f

pub let_is : (h : Here) (b : Bool) (ws vs us : Words) (all : List tree.Binding) → read (eat h.n (reads (codes "rec"))) ws ≡ Ok (b, vs) → bindings_on h vs ≡ Ok (all, us) → read (let_form h) ws ≡ read (let_behind h b all) us
let_is h b ws vs us all i f = gives_on (λ all us. read (let_behind h b all) us) (bindings_on h vs) all us (let_goes h b ws vs i) f

-- ---- matches

-- a match with these clauses
abbrev matched : Manner → Bool × Surface × Mode → Clauses → Words → Read tree.Tac
matched manner m cs us = Ok (tree.match manner (matched_of m.0 m.1 cs.1) (tree.clauses_of cs.0), us)

abbrev clauses_on : Here → Mode → Words → Read Clauses
clauses_on h m ws = read (match_clauses h m) ws

abbrev behind_head : Here → Manner → Bool × Surface × Mode → Words → Read tree.Tac
behind_head h manner m vs = and_then (clauses_on h m.2 vs) (matched manner m)

-- a match is what it is on and its clauses
match_goes : (h : Here) (manner : Manner) (ws : Words) → read (match_form h manner) ws ≡ and_then (read (match_head h) ws) (behind_head h manner)
match_goes h manner ws =
    then_same (read (match_head h) ws) _ (behind_head h manner) (λ m e.
    sym (
    then_then (read (expect_word h.n (codes "with")) m.1) (λ u vs. and_then (read (clauses h m.0.2) vs) (λ cs us. and_then (read (expect_word (h.n + 1) (codes "end")) us) (λ v rs. Ok (cs, rs)))) (matched manner m.0)
    ∙ then_same (read (expect_word h.n (codes "with")) m.1) _ _ (λ u f.
    then_then (read (clauses h m.0.2) u.1) (λ cs us. and_then (read (expect_word (h.n + 1) (codes "end")) us) (λ v rs. Ok (cs, rs))) (matched manner m.0)
    ∙ then_same (read (clauses h m.0.2) u.1) _ _ (λ cs g. then_then (read (expect_word (h.n + 1) (codes "end")) cs.1) (λ v rs. Ok (cs.0, rs)) (matched manner m.0)))))

pub match_fails : (h : Here) (manner : Manner) (m : Bool × Surface × Mode) (e : Refusal) (ws vs : Words) → read (match_head h) ws ≡ Ok (m, vs) → Fails e (clauses_on h m.2 vs) → Fails e (read (match_form h manner) ws)
match_fails h manner m e ws vs i f =
    fails_on (matched manner m) e (clauses_on h m.2 vs) (gives_on (behind_head h manner) (read (match_head h) ws) m vs (match_goes h manner ws) i) f

pub match_gives : (h : Here) (manner : Manner) (m : Bool × Surface × Mode) (cs : Clauses) (t : tree.Tac) (ws vs us : Words) → read (match_head h) ws ≡ Ok (m, vs) → clauses_on h m.2 vs ≡ Ok (cs, us) →
    t ≡ tree.match manner (matched_of m.0 m.1 cs.1) (tree.clauses_of cs.0) → read (match_form h manner) ws ≡ Ok (t, us)
match_gives h manner m cs t ws vs us i f e =
    gives_on (matched manner m) (clauses_on h m.2 vs) cs us (gives_on (behind_head h manner) (read (match_head h) ws) m vs (match_goes h manner ws) i) f ∙ ap (λ b. Ok (b, us)) (sym e)
