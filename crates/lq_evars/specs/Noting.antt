-- What is noted while terms are compared: terms that are equal as they read.
use Rattle.std.specs.Prelude.{◌≡◌, true, List, drop}
use Rattle.std.specs.List.{AllByRecursion}
use Rattle.lq_terms.specs.declared.nodes.TermId.{TermId}
use Rattle.lq_terms.specs.Terms.{Terms, tree_of}
use Rattle.lq_solving.specs.Alike.{same_tree}
use Rattle.lq_solving.specs.Stores.{Store as TreeStore}
use Rattle.lq_evars.specs.declared.scopes.Link.{Link}
use Rattle.lq_evars.specs.declared.comparing.Pair.{Pair}
use Rattle.lq_evars.specs.declared.noting.Mark.{Mark}
use Rattle.lq_evars.specs.Reading.{as_read}
use Rattle.lq_evars.specs.Closures.{same_pairs}

-- two terms are equal as they read
abbrev pub IsSame : Terms → TreeStore → TermId → TermId → Type 0
IsSame bank s t u = same_tree (as_read s (tree_of bank t)) (as_read s (tree_of bank u)) ≡ true

abbrev pub AreSame : Terms → TreeStore → List (TermId × TermId) → Type 0
AreSame bank s es = AllByRecursion (λ e. IsSame bank s e.0 e.1) es

-- the terms of a mark are equal as they read if all pairs from its height on are equal
abbrev pub MarkHolds : Terms → TreeStore → List Link → List Pair → Mark → Type 0
MarkHolds bank s ls work m = same_pairs bank s ls (drop m.height work) ≡ true → IsSame bank s m.left m.right

abbrev pub AreMarks : Terms → TreeStore → List Link → List Pair → List Mark → Type 0
AreMarks bank s ls work ms = AllByRecursion (MarkHolds bank s ls work) ms
