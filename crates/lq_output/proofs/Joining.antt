-- Two scripts that are accepted one by one and share no name are accepted one after the other.
use Rattle.std.proofs.Common.{◌≡◌, ◌∙◌, sym, ap, subst, ℕ, Bool, true, false, nat_lt, List, [], ◌∷◌, ◌++◌, length, get_or, append-nil, arith, ◌⊎◌, inl, inr}
use Rattle.std.specs.List.{AllByRecursion, All, Contains}
use Rattle.std.proofs.lemmas.Bool.{le-ltb, or_cases, false_from_ne_true}
use Rattle.std.proofs.lemmas.List.Elements.{recursion_from_All, All-from_recursion, All-contains, All-contains_itself, Contains-get_or, Contains-append_right}
use Rattle.lq_trees.specs.Tree.{Name, same_name}
use Rattle.lq_trees.specs.Fresh.{is_listed}
use Rattle.lq_calculus.specs.Declarations.{Env, names_of}
use Rattle.lq_calculus.proofs.ConvSound.{same_name_is}
use Rattle.lq_output.specs.declared.Status.{Status}
use Rattle.lq_output.specs.Script.{cut}
use Rattle.lq_output.specs.Output.{Output, behind, start, most_bytes, too_long, output}
use Rattle.lq_output.specs.Names.{sentence_names, names_by, script_names, theorem_names}
use Rattle.lq_output.specs.Joined.{IsAccepted, SharesNone, NamesNoTheorem, joined, FitsJoined}
use Rattle.lq_output.proofs.RunLaws.{run_of, output_short}
use Rattle.lq_output.proofs.CutJoined.{bytes_before, cut-joined, run_blanks, blanks_more}
use Rattle.lq_output.proofs.Unseen.{AllOpaque, IsNew}
use Rattle.lq_output.proofs.StateNames.{IsMade, names-all}
use Rattle.lq_output.proofs.Behind.{opaque_made}
use Rattle.lq_output.proofs.RunJoined.{between, GoesOn, goes_on, run_behind}

-- a script that is accepted is not too long
accepted_run : (n : ℕ) (bytes text : List ℕ) → IsAccepted n bytes text → run_of n start 1 (cut bytes) ≡ record { text = text; status = Status.Done }
unfolding output too_long
accepted_run n bytes text e = by (nat_lt most_bytes (length bytes)) e
  where
    by :
        (t : Bool) → elim t as (λ _. Output) [ true ↦ too_long | false ↦ run_of n start 1 (cut bytes) ] ≡ record { text = text; status = Status.Done }
        → run_of n start 1 (cut bytes) ≡ record { text = text; status = Status.Done }
    by true e = let no : ◌≡◌ {A = Status} Status.TooLong Status.Done = ap (λ o. o.status) e in absurd cc
    by false e = e

-- a name that is listed is one of the list
listed_contains : (xs : List Name) (x : Name) → is_listed xs x ≡ true → Contains xs x
unfolding is_listed
listed_contains [] x e = absurd cc
listed_contains (y ∷ ys) x e = by (or_cases (same_name y x) (is_listed ys x) e) (λ f. listed_contains ys x f)
  where
    by : (same_name y x ≡ true) ⊎ (is_listed ys x ≡ true) → (is_listed ys x ≡ true → Contains ys x) → Contains (y ∷ ys) x
    by (inl f) go = subst (Contains (y ∷ ys)) (same_name_is y x f) (Contains-get_or (y ∷ ys) 0 y (omega arith))
    by (inr f) go = Contains-append_right (y ∷ []) ys x (go f)

-- what is declared has names that have the property
made_names : (P : Name → Type 0) (env : Env) → AllByRecursion (IsMade P) env → AllByRecursion P (names_of env)
made_names P [] h = tt
made_names P (e ∷ env) h = (h.0.0, made_names P env h.1)

-- declarations of the first script's theorems are new to a script that names none of them
new_names : (a b : List ℕ) (env : Env) → NamesNoTheorem a b → AllByRecursion (IsMade (Contains (theorem_names a))) env → AllByRecursion (IsNew env) (script_names b)
new_names a b env apart made = recursion_from_All (IsNew env) (script_names b) (λ k d l. new (get_or (script_names b) k d) (Contains-get_or (script_names b) k d l))
  where
    stated : All (Contains (theorem_names a)) (names_of env)
    stated = All-from_recursion (Contains (theorem_names a)) (names_of env) (made_names (Contains (theorem_names a)) env made)

    new : (x : Name) → Contains (script_names b) x → IsNew env x
    new x c = false_from_ne_true (is_listed (names_of env) x) (λ e. apart x (All-contains (Contains (theorem_names a)) (names_of env) x stated (listed_contains (names_of env) x e)) c)

-- each name is a name
all_any : (xs : List Name) → AllByRecursion (λ x. Unit {0}) xs
all_any [] = tt
all_any (x ∷ xs) = (tt, all_any xs)

-- the run of the second behind the declarations of the first
run_between :
    (n j : ℕ) (env : Env) (bytes text : List ℕ) → AllOpaque env → AllByRecursion (IsNew env) (script_names bytes) → IsAccepted n bytes text
    → run_of n (between env) j (cut bytes) ≡ record { text = text; status = Status.Done }
unfolding script_names
run_between n j env bytes text h new e =
    let own : run_of n start 1 (cut bytes) ≡ record { text = text; status = Status.Done } = accepted_run n bytes text e in
    ap (λ z. run_of n (between z) j (cut bytes)) (sym (append-nil env))
    ∙ run_behind env h n start 1 j (cut bytes).sentences (cut bytes).rest (tt, tt) new (ap (λ o. o.status) own)
    ∙ own

-- the run of the first goes on, from what its theorems declare
run_first : (n : ℕ) (a text : List ℕ) → IsAccepted n a text → GoesOn (Contains (theorem_names a)) n start 1 (cut a).sentences (cut a).rest
unfolding theorem_names
run_first n a text e =
    goes_on (Contains (theorem_names a)) (λ x. Unit {0}) n start 1 (cut a).sentences (cut a).rest (tt, tt)
    (recursion_from_All (Contains (theorem_names a)) (theorem_names a) (All-contains_itself (theorem_names a))) (all_any (names_by sentence_names (cut a).sentences))
    (ap (λ o. o.status) (accepted_run n a text e))

-- the law for a budget of the kernel
pub accepted_joined : (n : ℕ) (a b s t : List ℕ) → IsAccepted n a s → IsAccepted n b t → NamesNoTheorem a b → FitsJoined a b → IsAccepted n (joined a b) (s ++ t)
unfolding behind
accepted_joined n a b s t ha hb apart fits =
    let g : GoesOn (Contains (theorem_names a)) n start 1 (cut a).sentences (cut a).rest = run_first n a s ha in
    let blanks : List ℕ = (cut a).rest ++ 10 ∷ [] in
    output_short n (joined a b) (le-ltb most_bytes (length (joined a b)) fits)
    ∙ ap (run_of n start 1) (cut-joined a b)
    ∙ g.runs (bytes_before blanks (cut b)).sentences (bytes_before blanks (cut b)).rest
    ∙ ap (behind (run_of n start 1 (cut a)).text)
    (run_blanks n (between g.env) g.next blanks (cut b) (blanks_more (cut a).rest g.blank)
    ∙ run_between n g.next g.env b t (opaque_made (Contains (theorem_names a)) g.env g.made) (new_names a b g.env apart g.made) hb)
    ∙ ap (λ (o : Output). behind o.text (record { text = t; status = Status.Done })) (accepted_run n a s ha)

-- the names of theorems occur in the script
theorems_occur : (a : List ℕ) → All (Contains (script_names a)) (theorem_names a)
unfolding theorem_names script_names
theorems_occur a =
    All-from_recursion (Contains (script_names a)) (theorem_names a) (names-all (Contains (script_names a)) (cut a).sentences
    (recursion_from_All (Contains (script_names a)) (script_names a) (All-contains_itself (script_names a))))

-- where no name is shared, the second names no theorem of the first
pub shares_none : (a b : List ℕ) → SharesNone a b → NamesNoTheorem a b
shares_none a b apart x c = apart x (All-contains (Contains (script_names a)) (theorem_names a) x (theorems_occur a) c)
