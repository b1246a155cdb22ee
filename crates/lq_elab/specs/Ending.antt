-- Terms with their types, made of their parts.
use Rattle.std.specs.Prelude.{Option, Some, None}
use Rattle.lq_trees.specs.Tree.{Tree}
use Rattle.lq_terms.specs.declared.nodes.TermId.{TermId}
use Rattle.lq_terms.specs.Terms.{Terms, IsTerm}
use Rattle.lq_elab.specs.declared.finding.Found.{Found}

-- a term and its type, of the bank, that stand for these trees
pub record IsMade (bank : Terms) (f : Found) (t k : Tree) : Type 0 where
  pub term : IsTerm bank f.term t
  pub kind : IsTerm bank f.kind k

-- what waits with a function for its rest: nothing where a product was wanted
abbrev pub left_of : Option TermId → Option (TermId × TermId) → Option TermId
left_of w None = w
left_of w (Some p) = None

-- the type that is written, else the one that was found
abbrev pub written_or : Option TermId → TermId → TermId
written_or (Some A) K = A
written_or None K = K
