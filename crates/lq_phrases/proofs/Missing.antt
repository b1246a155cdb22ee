-- Words that a table does not have.
use Rattle.std.proofs.Common.{◌≡◌, Bool, true, false, List, [], ◌∷◌, None, refl, sym, ◌∙◌}
use Rattle.std.proofs.lemmas.Slice.Eq.{bytes_eq-Decides}
use Rattle.lq_trees.specs.Tree.{Name, same_name}
use Rattle.lq_sentences.specs.Parts.{entry}
use Rattle.lq_sentences.proofs.RuleLaws.{chosen_false}

-- the word is none of the table's
abbrev pub Misses : {A : Type 0} → List (Name × A) → Name → Type 0
Misses [] x = Unit {0}
Misses (e ∷ es) x = (x ≡ e.0 → ⊥) × Misses es x

apart : (k x : Name) → (x ≡ k → ⊥) → same_name k x ≡ false
apart k x refutes = by (same_name k x) refl
  where
    by : (b : Bool) → same_name k x ≡ b → same_name k x ≡ false
    by true e = absurd (refutes (sym ((bytes_eq-Decides k x).0 e)))
    by false e = e

pub missed : {A : Type 0} (es : List (Name × A)) (x : Name) → Misses es x → None ≡ entry es x
unfolding entry
missed [] x h = refl
missed (e ∷ es) x h = missed es x h.1 ∙ sym (chosen_false (same_name e.0 x) _ _ (apart e.0 x h.0))
