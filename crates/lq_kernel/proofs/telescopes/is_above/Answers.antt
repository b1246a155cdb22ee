use Rattle.std.proofs.Common.{◌≡◌, ◌∙◌, ℕ, refl, sym, ap, ap₂, false}
use Rattle.std.specs.Prelude.{nat_lt}
use Rattle.lq_trees.specs.declared.Sort.{Sort as Universe}
use Rattle.lq_calculus.specs.Typing.{is_above}
use Rattle.lq_kernel.proofs.telescopes.is_above.Goals as goal

above_base : (s : Universe) → is_above Universe.Base s ≡ false
unfolding is_above
above_base Universe.Base = refl
above_base (Universe.Level i) = refl

level_base : (i : ℕ) → is_above (Universe.Level i) Universe.Base ≡ false
unfolding is_above
level_base i = refl

levels : (i j : ℕ) → is_above (Universe.Level i) (Universe.Level j) ≡ nat_lt j i
unfolding is_above
levels i j = refl

pub returns-in-Base : goal.returns-in-Base
returns-in-Base c = sym (ap (λ s. is_above s c.args.other) c.in-Base.is ∙ above_base c.args.other)

pub returns-in-Base-other : goal.returns-in-Base-other
returns-in-Base-other c = sym (ap₂ is_above c.in-Level.is c.in-Base-other.is ∙ level_base c.in-Level.level)

pub returns-in-Level-other : goal.returns-in-Level-other
returns-in-Level-other c = sym (ap₂ is_above c.in-Level.is c.in-Level-other.is ∙ levels c.in-Level.level c.in-Level-other.bound)
