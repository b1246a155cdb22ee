use Rattle.std.proofs.Common.{◌≡◌}
use Rattle.lq_trees.specs.Fresh.{is_listed}
use Rattle.lq_terms.specs.Terms.{text_of}
use Rattle.lq_terms.specs.Contexts.{context_of}
use Rattle.lq_solving.specs.Stores.{names_in}
use Rattle.lq_prims.proofs.NameLaws.{left_names}
use Rattle.lq_prims.proofs.naming.is_used.Given as goal

-- the name is used exactly where it is one of those that are left
abbrev pub invariant-loop-hypothesis : goal.invariant-loop-hypothesis
invariant-loop-hypothesis l = is_listed (names_in (context_of l.bank l.context)) (text_of l.bank l.name) ≡ is_listed (left_names l.bank l.context l.hypothesis-index) (text_of l.bank l.name)
