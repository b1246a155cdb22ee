use Rattle.std.proofs.Common.{◌≡◌, [], ◌∷◌, ◌++◌, take}
use Rattle.lq_unify.proofs.applications.whole.Given as goal

abbrev pub invariant-loop-argument : goal.invariant-loop-argument
invariant-loop-argument l = l.terms.items ≡ (l.fn.head ∷ []) ++ take l.argument-index l.arguments
