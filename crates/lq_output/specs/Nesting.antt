-- How deep a written term is nested.
use Rattle.std.specs.Prelude.{ℕ, suc, ◌≤◌, max}
use Rattle.lq_output.specs.Grammar.{Surface, named, prop, forall_, to, Sentence, theorem, proof, tactics, qed}

-- how many products and arrows stand above the deepest part
abbrev pub nesting : Surface → ℕ
nesting (named x) = 0
nesting prop = 0
nesting (forall_ x A B) = suc (max (nesting A) (nesting B))
nesting (to A B) = suc (max (nesting A) (nesting B))

-- the statement of a sentence, if it has one, is nested at most 200 deep
abbrev pub IsShallow : Sentence → Type 0
IsShallow (theorem x A) = nesting A ≤ 200
IsShallow proof = Unit {0}
IsShallow (tactics ts) = Unit {0}
IsShallow qed = Unit {0}
