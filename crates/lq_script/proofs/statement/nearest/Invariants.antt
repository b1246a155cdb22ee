use Rattle.std.proofs.Common.{◌≡◌, take}
use Rattle.lq_terms.specs.Terms.{text_of}
use Rattle.lq_output.specs.Steps.{binder_of}
use Rattle.lq_script.specs.Scopes.{scope_of}
use Rattle.lq_script.proofs.statement.nearest.Given as goal

abbrev pub invariant-loop-binder : goal.invariant-loop-binder
invariant-loop-binder l = l.found ≡ binder_of (scope_of l.bank (take l.binder-index l.binders)) (text_of l.bank l.name)
