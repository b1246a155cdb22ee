use Rattle.std.proofs.Common.{◌≡◌, map}
use Rattle.std.specs.List.{AllByRecursion}
use Rattle.lq_terms.specs.Terms.{HasTerm, tree_of, text_of}
use Rattle.lq_calculus.specs.Declarations.{holds, any_holds}
use Rattle.lq_env.specs.Spines.{heft}
use Rattle.lq_env.proofs.spines.holds.Given as goal

abbrev pub invariant-loop-part : goal.invariant-loop-part
invariant-loop-part l = record {
  has : AllByRecursion (HasTerm l.bank) l.stack.items;
  same : any_holds (text_of l.bank l.name) (map (tree_of l.bank) l.stack.items) ≡ holds (text_of l.bank l.name) (tree_of l.bank l.fn.term);
}

abbrev pub decreases-loop-part : goal.decreases-loop-part
decreases-loop-part l = heft (map (tree_of l.bank) l.stack.items)
