-- Worked scripts, computed from their bytes.
use Rattle.std.proofs.Common.{refl, ◌≡◌, ℕ, List, [], ◌∷◌, ◌++◌, Some, Ok, Err}
use Rattle.std.proofs.Math.ListN.{replicate}
use Rattle.std.specs.Prelude.{false, codes}
use Rattle.lq_grammar.specs.declared.fault.LexFault.{LexFault}
use Rattle.lq_sessions.specs.declared.Status.{Status}
use Rattle.lq_texts.specs.Views.{line}
use Rattle.lq_sessions.specs.Built.{whole_language}
use Rattle.lq_sessions.specs.Ahead.{reached, ahead}
use Rattle.lq_sessions.specs.Rest.{looked_at}
use Rattle.lq_sessions.specs.Output.{Output, run, script_run, told, blank}
use Rattle.lq_sessions.proofs.Opening.{sessions}

-- a script without the prelude, with a budget of 100 ticks
abbrev script : List ℕ → Output
script bytes = told (run whole_language bytes (blank 100 100))

checks : script (codes "Check Prop.") ≡ record { text = line (codes "Prop : Type 0"); status = Status.Done }
unfolding sessions
checks = refl

-- what a script writes that is accepted, and one whose sentence of that number has a fault of that text
abbrev pub writes : List ℕ → Output
writes t = record { text = t; status = Status.Done }

abbrev pub stops : List ℕ → List ℕ → Output
stops t e = record { text = t ++ line (codes "Error: sentence " ++ e); status = Status.ScriptFault }

abbrev truth : List ℕ
truth = codes "Inductive True : Prop := I : True. Theorem t : True. "

first_path : script (codes "Theorem id : forall A : Prop, A -> A. Proof. intro A; intro x; exact x. Qed.") ≡ writes (line (codes "id is defined"))
unfolding sessions
first_path = refl

true_proved : script (truth ++ codes "exact I. Qed.") ≡ writes (line (codes "True is defined") ++ line (codes "t is defined"))
unfolding sessions
true_proved = refl

-- `first` never goes to its next branch after a later failure
first_stays : script (truth ++ codes "first [idtac + idtac \"b\" | idtac \"c\"]; fail.") ≡ stops (line (codes "True is defined") ++ line (codes "b")) (codes "3: Ltac failure")
unfolding sessions
first_stays = refl

-- a failure of level 1 skips an alternative
level_skips : script (truth ++ codes "(idtac + idtac \"b\"); fail 1.") ≡ stops (line (codes "True is defined")) (codes "3: Ltac failure")
unfolding sessions
level_skips = refl

no_goal_no_failure : script (truth ++ codes "exact I. all: fail. Fail all: gfail. Qed.")
    ≡ writes (line (codes "True is defined") ++ line (codes "Fail: Ltac failure") ++ line (codes "t is defined"))
unfolding sessions
no_goal_no_failure = refl

exactly : script (truth ++ codes "Fail exactly_once (idtac + idtac). exactly_once (idtac + fail). Abort.")
    ≡ writes (line (codes "True is defined") ++ line (codes "Fail: more than one success"))
unfolding sessions
exactly = refl

outcomes_listed : script (truth ++ codes "Outcomes 3 (idtac + idtac \"b\"). Abort.")
    ≡ writes (line (codes "True is defined") ++ line (codes "Outcome 1: 1 goal") ++ line (codes "  True") ++ line (codes "b") ++ line (codes "Outcome 2: 1 goal") ++ line (codes "  True")
    ++ line (codes "End: no more success"))
unfolding sessions
outcomes_listed = refl

-- three ticks, and not two
budget_exact : told (run whole_language (truth ++ codes "idtac; idtac. Abort.") (blank 3 100)) ≡ writes (line (codes "True is defined"))
unfolding sessions
budget_exact = refl

budget_short : told (run whole_language (truth ++ codes "idtac; idtac. Abort.") (blank 2 100)) ≡ stops (line (codes "True is defined")) (codes "3: steps out")
unfolding sessions
budget_short = refl

-- what a sentence that has a character behind it reaches, however the text goes on
stays_ahead : ahead whole_language 12 (codes "Check Prop. ") 0 (blank 100 100) 1 ≡ Some (reached (line (codes "Prop : Type 0")) (blank 100 100) 11 2)
unfolding sessions
stays_ahead = refl

-- ---- a text that goes on behind its end

abbrev longer : List ℕ → Output
longer bytes = told (script_run whole_language false bytes (blank 100 100))

abbrev is_long : List ℕ → Output
is_long t = record { text = t ++ line (codes "Error: script longer than 4194304 bytes"); status = Status.TooLong }

-- a sentence counts that has its end and a byte behind it
counted : longer (codes "Check Prop. ") ≡ is_long (line (codes "Prop : Type 0"))
unfolding sessions
counted = refl

not_counted : longer (codes "Check Prop.") ≡ is_long []
unfolding sessions
not_counted = refl

-- a token that reaches the last byte isn't looked at
last_token : longer (codes "Check )") ≡ is_long []
unfolding sessions
last_token = refl

token_before : longer (codes "Check ) ") ≡ stops [] (codes "1: unexpected token at 6")
unfolding sessions
token_before = refl

-- nor is a comment that goes on
open_comment : longer (codes "Check ) (* ") ≡ stops [] (codes "1: unexpected token at 6")
unfolding sessions
open_comment = refl

comment_alone : longer (codes "Check (* ") ≡ is_long []
unfolding sessions
comment_alone = refl

-- a bad byte that ends no character is a fault, one that a longer text might complete is none
bad_byte : longer (codes "Check x" ++ 255 ∷ 32 ∷ []) ≡ stops [] (codes "1: bad character at 7")
unfolding sessions
bad_byte = refl

cut_character : longer (codes "Check (" ++ 195 ∷ []) ≡ is_long []
unfolding sessions
cut_character = refl

before_cut_character : longer (codes "Check )" ++ 195 ∷ []) ≡ stops [] (codes "1: unexpected token at 6")
unfolding sessions
before_cut_character = refl

-- a number with a letter behind it, the letter being the last byte, and not
last_letter : longer (codes "Check 12a") ≡ is_long []
unfolding sessions
last_letter = refl

letter_before : longer (codes "Check 12a ") ≡ stops [] (codes "1: bad number at 6")
unfolding sessions
letter_before = refl

-- a name of 256 letters up to the last byte, and not
long_name : looked_at (replicate 256 97) 0 ≡ Ok []
unfolding sessions
long_name = refl

long_name_before : looked_at (replicate 256 97 ++ codes " ") 0 ≡ Err (LexFault.BadChar 0)
unfolding sessions
long_name_before = refl
