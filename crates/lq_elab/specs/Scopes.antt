-- What the map of names tells.
use Rattle.std.specs.Prelude.{◌≡◌, List, [], ◌∷◌, Option, Some, None, if◌then◌else◌, ◌==◌}
use Rattle.lq_trees.specs.Tree.{Name}
use Rattle.lq_terms.specs.declared.nodes.NameId.{NameId}
use Rattle.lq_terms.specs.Terms.{Terms, HasName, HasTerm, Grows, text_of, tree_of}
use Rattle.lq_elab.specs.Naming as tree
use Rattle.lq_elab.specs.declared.scope.Meaning.{Meaning}

-- two names of a bank with one text are one name
abbrev pub NamesApart : Terms → Type 0
NamesApart bank = (x y : NameId) → HasName bank x → HasName bank y → text_of bank x ≡ text_of bank y → x ≡ y

-- what a meaning stands for, if it is more than a global
abbrev pub meaning_of : Terms → Meaning → Option tree.Meaning
meaning_of bank (Meaning.Variable y K) = Some (tree.variable (text_of bank y) (tree_of bank K))
meaning_of bank (Meaning.Value t) = Some (tree.term (tree_of bank t))
meaning_of bank Meaning.Nothing = Some tree.nothing
meaning_of bank Meaning.NoTerm = Some tree.no_term
meaning_of bank Meaning.Global = None

-- the bank has what it names
abbrev pub HasMeaning : Terms → Meaning → Type 0
HasMeaning bank (Meaning.Variable y K) = HasName bank y × HasTerm bank K
HasMeaning bank (Meaning.Value t) = HasTerm bank t
HasMeaning bank Meaning.Nothing = Unit {0}
HasMeaning bank Meaning.NoTerm = Unit {0}
HasMeaning bank Meaning.Global = Unit {0}

-- what stands with a name
abbrev pub set_at : List (NameId × Meaning) → NameId → Meaning
set_at [] x = Meaning.Global
set_at (e ∷ es) x = if x.place == e.0.place then e.1 else set_at es x

-- the map tells what each name stands for, in each bank that grows out of this one
pub record IsScope (bank : Terms) (meanings : Name → Option tree.Meaning) (es : List (NameId × Meaning)) : Type 0 where
  pub has : (x : NameId) → HasMeaning bank (set_at es x)
  pub is : (new : Terms) → Grows bank new → NamesApart new → (x : NameId) → HasName new x → meaning_of new (set_at es x) ≡ meanings (text_of new x)
