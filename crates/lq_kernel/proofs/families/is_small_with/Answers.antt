use Rattle.std.proofs.Common.{◌≡◌, ◌∙◌, ◌<◌, ℕ, zero, suc, arith, false, eqb}
use Rattle.std.proofs.Math.Dec.{eqb-suc-zero}
use Rattle.lq_kernel.proofs.ConstructorLaws.{small_first, small_later}
use Rattle.lq_kernel.proofs.families.is_small_with.Goals as goal

not_zero : (n : ℕ) → 0 < n → eqb n 0 ≡ false
not_zero zero l = absurd (omega (arith, l))
not_zero (suc n) l = eqb-suc-zero n

pub returns-then-before-eq0 : goal.returns-then-before-eq0
returns-then-before-eq0 c found e = c.all_proofs.ensures ∙ small_first c.args.domains.now found (omega (arith, e, c.if-before-eq0.true))

pub returns-else-before-eq0 : goal.returns-else-before-eq0
returns-else-before-eq0 c found e =
    let some : 0 < c.args.before = omega (arith, c.if-before-eq0.false) in
    not_zero c.args.before some ∙ small_later c.args.domains.now found (omega (arith, e, some))
