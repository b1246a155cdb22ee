-- The names that occur in a script.
use Rattle.std.specs.Prelude.{ℕ, List, [], ◌∷◌, ◌++◌, map, Option, Some, None}
use Rattle.lq_trees.specs.Tree.{Name}
use Rattle.lq_output.specs.Script.{cut}
use Rattle.lq_output.specs.Grammar.{Surface, named, prop, forall_, to, Tactic, intro, exact, Sentence, theorem, proof, tactics, qed, read}

-- the names in a term as it is written, with those of its binders
unfoldable pub term_names : Surface → List Name
term_names (named x) = x ∷ []
term_names prop = []
term_names (forall_ x A B) = x ∷ term_names A ++ term_names B
term_names (to A B) = term_names A ++ term_names B

-- the name behind a tactic's word
unfoldable pub tactic_name : Tactic → Name
tactic_name (intro x) = x
tactic_name (exact x) = x

-- the names in a sentence
unfoldable pub sentence_names : Sentence → List Name
sentence_names (theorem x A) = x ∷ term_names A
sentence_names proof = []
sentence_names (tactics ts) = map tactic_name ts
sentence_names qed = []

-- the name of the theorem that a sentence states, if it states one
unfoldable pub stated_names : Sentence → List Name
stated_names (theorem x A) = x ∷ []
stated_names proof = []
stated_names (tactics ts) = []
stated_names qed = []

-- the names in what was read, by those in a sentence; where no sentence was read, none
unfoldable pub read_by : (Sentence → List Name) → Option Sentence → List Name
read_by names (Some x) = names x
read_by names None = []

-- the names in texts of sentences, by those in a sentence
unfoldable pub names_by : (Sentence → List Name) → List (List ℕ) → List Name
names_by names [] = []
names_by names (p ∷ ps) = read_by names (read p) ++ names_by names ps

-- the names that occur in a script: of theorems, of binders, in statements and behind tactics' words
unfoldable pub script_names : List ℕ → List Name
script_names bytes = names_by sentence_names (cut bytes).sentences

-- the names of the theorems that a script states
unfoldable pub theorem_names : List ℕ → List Name
theorem_names bytes = names_by stated_names (cut bytes).sentences
