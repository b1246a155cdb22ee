-- The printed name of an eliminator is that of its entry, for each sort into which families may be eliminated.
use Rattle.std.proofs.Common.{◌≡◌, refl}
use Rattle.std.specs.Prelude.{map}
use Rattle.lq_trees.specs.Tree.{Name}
use Rattle.lq_calculus.specs.Declarations.{sorts, eliminator_name}
use Rattle.lq_texts.specs.Printing.{eliminator_text}

pub entries_named : (c : Name) → map (eliminator_text c) sorts ≡ map (eliminator_name c) sorts
unfolding eliminator_text eliminator_name Rattle.std.specs.Fmt.digits
entries_named c = refl
