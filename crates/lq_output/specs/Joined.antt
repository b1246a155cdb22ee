-- Two scripts, one after the other.
use Rattle.std.specs.Prelude.{◌≡◌, ◌≤◌, ℕ, List, ◌∷◌, ◌++◌, length}
use Rattle.std.specs.List.{Contains}
use Rattle.lq_trees.specs.Tree.{Name}
use Rattle.lq_output.specs.declared.Status.{Status}
use Rattle.lq_output.specs.Names.{script_names, theorem_names}
use Rattle.lq_output.specs.Output.{most_bytes, output}

-- a script is accepted under that budget of the kernel for each sentence, and that is its output's text
abbrev pub IsAccepted : ℕ → (bytes text : List ℕ) → Type 0
IsAccepted budget bytes text = output budget bytes ≡ record { text = text; status = Status.Done }

-- no name occurs in both scripts
abbrev pub SharesNone : (a b : List ℕ) → Type 0
SharesNone a b = (x : Name) → Contains (script_names a) x → Contains (script_names b) x → ⊥

-- no name of the second script is that of a theorem of the first
abbrev pub NamesNoTheorem : (a b : List ℕ) → Type 0
NamesNoTheorem a b = (x : Name) → Contains (theorem_names a) x → Contains (script_names b) x → ⊥

-- a script, a line feed, and a script behind it
abbrev pub joined : (a b : List ℕ) → List ℕ
joined a b = a ++ 10 ∷ b

-- two scripts together are no longer than a script may be
abbrev pub FitsJoined : (a b : List ℕ) → Type 0
FitsJoined a b = length (joined a b) ≤ most_bytes
