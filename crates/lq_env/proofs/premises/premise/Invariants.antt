use Rattle.std.proofs.Common.{◌≡◌, ◌≤◌, [], length}
use Rattle.lq_trees.specs.Tree.{Tree}
use Rattle.lq_trees.specs.Size.{size}
use Rattle.lq_trees.specs.Index.{Within}
use Rattle.lq_terms.specs.Terms.{HasTerm, Grows, tree_of}
use Rattle.lq_calculus.specs.Declarations.{premise}
use Rattle.lq_env.specs.Families.{family_of}
use Rattle.lq_env.specs.Building.{binders_of}
use Rattle.lq_env.specs.Premises.{IsDraft, so_far}
use Rattle.lq_env.proofs.premises.premise.Given as goal

abbrev pub invariant-loop-name : goal.invariant-loop-name
invariant-loop-name l = record {
  grown : Grows l.initial.bank l.bank;
  draft : IsDraft l.bank l.draft;
  rest : HasTerm l.initial.bank l.rest;
  within : Within (length l.draft.places.items) (tree_of l.initial.bank l.rest);
  small : size (tree_of l.initial.bank l.rest) ≤ 1000000;
  same : premise (family_of l.initial.bank l.family) l.number (Tree.Rel l.number) [] (tree_of l.initial.bank l.fn.kind)
      ≡ so_far (family_of l.initial.bank l.family) l.number (binders_of l.bank l.draft.binders.items) l.draft.places.items (tree_of l.initial.bank l.rest);
}

abbrev pub decreases-loop-name : goal.decreases-loop-name
decreases-loop-name l = size (tree_of l.initial.bank l.rest)
