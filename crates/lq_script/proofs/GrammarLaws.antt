-- Laws of the grammar's readers.
use Rattle.std.proofs.Common.{◌≡◌, ℕ, ◌+◌, List, [], ◌∷◌, ◌++◌, Option, Some, None, refl, sym, ◌∙◌, ap, add-one, append_assoc}
use Rattle.std.proofs.lemmas.List.{append-nil}
use Rattle.lq_output.specs.Tokens.{Token, word, colon, comma, arrow, semicolon, opening, closing}
use Rattle.lq_output.specs.Grammar.{Tactic, term_by, term_within, before_tactics, tactic_of, tactics_of}
use Rattle.lq_script.specs.declared.reader.fault.Unread.{Unread}
use Rattle.lq_script.specs.declared.reader.fault.Unread.TheVariants.{Memory, Grammar}
use Rattle.lq_script.specs.Reading.{Fails}
use Rattle.lq_script.specs.Rows.{first_tactic, row_behind}

-- a term with no level of nesting left, and with one more than below
pub term_within-none : (room : ℕ) (ts : List Token) → room ≡ 0 → term_within room ts ≡ None
unfolding term_within
term_within-none room ts e = ap (λ k. term_within k ts) e

pub term_within-some : (room below : ℕ) (ts : List Token) → room ≡ below + 1 → term_within room ts ≡ term_by (term_within below) ts
unfolding term_within
term_within-some room below ts e = ap (λ k. term_within k ts) (e ∙ add-one below)

-- the tactics of a row, if there is one
abbrev pub tactics_in : Option (List Token) → Option (List Tactic)
tactics_in None = Some []
tactics_in (Some ts) = tactics_of ts

-- a row of tactics, from its first one and the row behind it
abbrev pub then_tactics : Option (Tactic × Option (List Token)) → Option (List Tactic)
then_tactics None = None
then_tactics (Some r) = before_tactics (Some r.0) (tactics_in r.1)

then_by : (o : Option Tactic) (row : Option (Option (List Token))) →
    before_tactics o (elim row [ None ↦ None | Some r ↦ tactics_in r ]) ≡ then_tactics (elim o [ None ↦ None | Some t ↦ elim row [ None ↦ None | Some r ↦ Some (t, r) ] ])
unfolding before_tactics
then_by None row = refl
then_by (Some t) None = refl
then_by (Some t) (Some r) = refl

nothing_behind : (o : Option Tactic) → None ≡ before_tactics o None
unfolding before_tactics
nothing_behind None = refl
nothing_behind (Some t) = refl

two_words : (v x : List ℕ) (ts : List Token) → tactics_of (word v ∷ word x ∷ ts) ≡ before_tactics (tactic_of v x) (elim (row_behind ts) [ None ↦ None | Some r ↦ tactics_in r ])
unfolding tactics_of row_behind
two_words v x [] = refl
two_words v x (semicolon ∷ ts) = refl
two_words v x (word w ∷ ts) = nothing_behind (tactic_of v x)
two_words v x (colon ∷ ts) = nothing_behind (tactic_of v x)
two_words v x (comma ∷ ts) = nothing_behind (tactic_of v x)
two_words v x (arrow ∷ ts) = nothing_behind (tactic_of v x)
two_words v x (opening ∷ ts) = nothing_behind (tactic_of v x)
two_words v x (closing ∷ ts) = nothing_behind (tactic_of v x)

one_word : (v : List ℕ) (ts : List Token) → tactics_of (word v ∷ ts) ≡ then_tactics (first_tactic (word v ∷ ts))
unfolding tactics_of first_tactic
one_word v [] = refl
one_word v (word x ∷ ts) = two_words v x ts ∙ then_by (tactic_of v x) (row_behind ts)
one_word v (colon ∷ ts) = refl
one_word v (comma ∷ ts) = refl
one_word v (arrow ∷ ts) = refl
one_word v (semicolon ∷ ts) = refl
one_word v (opening ∷ ts) = refl
one_word v (closing ∷ ts) = refl

tactics_first : (ts : List Token) → tactics_of ts ≡ then_tactics (first_tactic ts)
unfolding tactics_of first_tactic
tactics_first [] = refl
tactics_first (word v ∷ ts) = one_word v ts
tactics_first (colon ∷ ts) = refl
tactics_first (comma ∷ ts) = refl
tactics_first (arrow ∷ ts) = refl
tactics_first (semicolon ∷ ts) = refl
tactics_first (opening ∷ ts) = refl
tactics_first (closing ∷ ts) = refl

-- tactics behind others
abbrev pub behind_tactics : List Tactic → Option (List Tactic) → Option (List Tactic)
behind_tactics before None = None
behind_tactics before (Some ts) = Some (before ++ ts)

pub behind_none : (o : Option (List Tactic)) → behind_tactics [] o ≡ o
behind_none None = refl
behind_none (Some ts) = refl

behind_before : (before : List Tactic) (t : Tactic) (o : Option (List Tactic)) → behind_tactics before (before_tactics (Some t) o) ≡ behind_tactics (before ++ t ∷ []) o
unfolding before_tactics
behind_before before t None = refl
behind_before before t (Some ts) = ap Some (sym (append_assoc before (t ∷ []) ts))

-- a loop over tactics: those so far, and those of the row that is left
pub tactics_go : (before : List Tactic) (t : Tactic) (rest : List Token) (row : Option (List Token)) (all : Option (List Tactic)) → behind_tactics before (tactics_of rest) ≡ all →
    first_tactic rest ≡ Some (t, row) → behind_tactics (before ++ t ∷ []) (tactics_in row) ≡ all
tactics_go before t rest row all so_far e =
    sym (behind_before before t (tactics_in row)) ∙ ap (behind_tactics before) (sym (tactics_first rest ∙ ap then_tactics e)) ∙ so_far

pub tactics_fail : (fault : Unread) (before : List Tactic) (rest : List Token) (all : Option (List Tactic)) → behind_tactics before (tactics_of rest) ≡ all →
    Fails fault (first_tactic rest) → Fails fault all
tactics_fail Memory before rest all so_far none = tt
tactics_fail Grammar before rest all so_far none = sym so_far ∙ ap (behind_tactics before) (tactics_first rest ∙ ap then_tactics none)

pub tactics_done : (before : List Tactic) (all : Option (List Tactic)) → behind_tactics before (Some []) ≡ all → all ≡ Some before
tactics_done before all so_far = sym so_far ∙ ap Some (append-nil before)
