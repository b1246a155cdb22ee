use Rattle.std.proofs.Common.{◌≤◌, length, drop}
use Rattle.lq_terms.specs.Terms.{IsTerm, Grows, tree_of}
use Rattle.lq_env.specs.Telescopes.{telescope}
use Rattle.lq_env.specs.Building.{binders_of}
use Rattle.lq_env.proofs.telescopes.telescope.Given as goal

abbrev pub invariant-loop-left : goal.invariant-loop-left
invariant-loop-left l = record {
  few : l.left ≤ length l.binders;
  grown : Grows l.initial.bank l.bank;
  whole : IsTerm l.bank l.whole (telescope (binders_of l.initial.bank (drop l.left l.binders)) (tree_of l.initial.bank l.fn.end));
}

abbrev pub decreases-loop-left : goal.decreases-loop-left
decreases-loop-left l = l.left
