-- What the pieces of a term stand for, by a bank, the texts by number, and the names that occur in the term.
use Rattle.std.specs.Prelude.{◌≡◌, ◌≤◌, ◌<◌, ◌-◌, ℕ, List, ◌++◌, map, length, reverse, take, drop}
use Rattle.std.specs.List.{AllByRecursion}
use Rattle.lq_trees.specs.Tree.{Name}
use Rattle.lq_terms.specs.Terms.{Terms, HasName, text_of}
use Rattle.lq_print.specs.declared.pieces.Binder.{Binder}
use Rattle.lq_print.specs.declared.pieces.Piece.{Piece}
use Rattle.lq_print.specs.declared.spelling.Spelling.{Spelling}
use Rattle.lq_print.specs.Tables.{text_at, Lengthens, AreWithin}
use Rattle.lq_print.specs.Spelling.{Over, Shown, bound, named, sort, applied, product, function, local, unknown, Spelled}

-- the names in the body of a binder
abbrev pub inside_of : List Name → List ℕ → Binder → List Name
inside_of ts ns b = map (text_at ts) (take (b.high - b.low) (drop b.low ns))

abbrev pub over_in : Terms → List Name → List ℕ → Binder → Over
over_in bank ts ns b = record { own = text_of bank b.name; used = b.is_used; inside = inside_of ts ns b }

abbrev pub shown_in : Terms → List Name → List ℕ → Piece → Shown
shown_in bank ts ns (Piece.Bound i) = bound i
shown_in bank ts ns (Piece.Named k) = named (text_at ts k)
shown_in bank ts ns (Piece.Sort s) = sort s
shown_in bank ts ns Piece.Applied = applied
shown_in bank ts ns (Piece.Product b) = product (over_in bank ts ns b)
shown_in bank ts ns (Piece.Function b) = function (over_in bank ts ns b)
shown_in bank ts ns (Piece.Local b) = local (over_in bank ts ns b)
shown_in bank ts ns (Piece.Unknown n) = unknown n

-- the bank has the binder's name, and the body's names are some of the names
pub record HasBinder (bank : Terms) (ns : List ℕ) (b : Binder) : Type 0 where
  pub name : HasName bank b.name
  pub low : b.low ≤ b.high
  pub high : b.high ≤ length ns

abbrev pub HasPiece : Terms → List Name → List ℕ → Piece → Type 0
HasPiece bank ts ns (Piece.Bound i) = Unit {0}
HasPiece bank ts ns (Piece.Named k) = k < length ts
HasPiece bank ts ns (Piece.Sort s) = Unit {0}
HasPiece bank ts ns Piece.Applied = Unit {0}
HasPiece bank ts ns (Piece.Product b) = HasBinder bank ns b
HasPiece bank ts ns (Piece.Function b) = HasBinder bank ns b
HasPiece bank ts ns (Piece.Local b) = HasBinder bank ns b
HasPiece bank ts ns (Piece.Unknown n) = Unit {0}

-- the pieces
abbrev pub shown_all : Terms → List Name → List ℕ → List Piece → List Shown
shown_all bank ts ns ps = map (shown_in bank ts ns) ps

-- what has been spelled
abbrev pub spelled_of : Terms → Spelling → Spelled
spelled_of bank s = record {
  names = map (text_at s.texts) s.names.items;
  flags = reverse s.flags.items;
  pieces = shown_all bank s.texts s.names.items s.pieces.items;
}

-- its numbers are those of texts, and its pieces are sound
pub record IsSpelling (bank : Terms) (s : Spelling) : Type 0 where
  pub names : AreWithin s.texts s.names.items
  pub pieces : AllByRecursion (HasPiece bank s.texts s.names.items) s.pieces.items

-- texts and names were only added
pub record Longer (old new : Spelling) : Type 0 where
  pub texts : Lengthens old.texts new.texts
  pub more : List ℕ
  pub names : new.names.items ≡ old.names.items ++ more

-- what has been spelled was changed so
pub record Spells (bank : Terms) (old new : Spelling) (change : Spelled → Spelled) : Type 0 where
  pub spelling : IsSpelling bank new
  pub longer : Longer old new
  pub same : spelled_of bank new ≡ change (spelled_of bank old)
