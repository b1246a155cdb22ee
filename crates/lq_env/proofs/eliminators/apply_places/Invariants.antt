use Rattle.std.proofs.Common.{◌-◌, suc, map, take}
use Rattle.lq_trees.specs.Tree.{Tree}
use Rattle.lq_terms.specs.Terms.{IsTerm, Grows, tree_of}
use Rattle.lq_calculus.specs.Contraction.{apply}
use Rattle.lq_env.proofs.eliminators.apply_places.Given as goal

abbrev pub invariant-loop-place : goal.invariant-loop-place
invariant-loop-place l = record {
  grown : Grows l.initial.bank l.bank;
  whole : IsTerm l.bank l.whole (apply (tree_of l.initial.bank l.fn.function) (map (λ p. Tree.Rel (l.inside - suc p)) (take l.place-index l.places)));
}
