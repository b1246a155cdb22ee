-- What stays of an environment.
use Rattle.std.proofs.Common.{◌≡◌, ◌≤◌, arith, length, List, subst, sym}
use Rattle.std.proofs.lemmas.List.{length-append}
use Rattle.lq_terms.specs.declared.nodes.NameId.{NameId}
use Rattle.lq_terms.proofs.Growth.{Grows-trans}
use Rattle.lq_env.specs.declared.environment.Declared.{Declared}
use Rattle.lq_env.specs.declared.environment.EnvMark.{EnvMark}
use Rattle.lq_env.specs.Environments.{Extends, mark_of}
use Rattle.lq_env.proofs.Grown.{IsEnv-grown}

-- a mark lies within what the environment became
pub mark_within : (before now : List (NameId × Declared)) (m : EnvMark) → m ≡ mark_of before → Extends before now → m.entries ≤ length now
mark_within before now m e x =
    subst (λ z. z.entries ≤ length now) (sym e)
    (subst (λ z. length before ≤ length z) (sym x.is) (subst (λ n. length before ≤ n) (sym (length-append before x.more)) (omega arith)))

-- what stands in a bank stands in one that has grown
pub ruleset growing = (Grows-trans, IsEnv-grown)
