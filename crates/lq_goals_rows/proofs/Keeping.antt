-- What stays as a bank grows.
use Rattle.std.proofs.Common.{◌∙◌, sym, subst, arith}
use Rattle.lq_terms.specs.declared.nodes.TermId.{TermId}
use Rattle.lq_terms.specs.Terms.{Terms, Grows}
use Rattle.lq_terms.proofs.Growth.{Grows-trans}
use Rattle.lq_solving.specs.Claims.{IsPlain}
use Rattle.lq_solving.specs.Kept.{IsStore}
use Rattle.lq_evars.proofs.Growing.{store_of-grown, HasStore-grown}
use Rattle.lq_goals.specs.Held.{Held}
use Rattle.lq_goals_rows.specs.Looks.{IsKept, HasPlain, IsSort}

pub IsKept-grown : (old new : Terms) (p : Held) → Grows old new → IsKept old p → IsKept new p
IsKept-grown old new p g k = record { has = HasStore-grown old new g p.store k.has; kept = subst IsStore (sym (store_of-grown old new g p.store k.has)) k.kept }

pub HasPlain-grown : (old new : Terms) (t : TermId) → Grows old new → HasPlain old t → HasPlain new t
HasPlain-grown old new t g h = record { has = omega (arith, h.has, g.nodes); plain = subst (IsPlain 0) (sym (g.tree t h.has)) h.plain }

pub IsSort-grown : (old new : Terms) (t : TermId) → Grows old new → IsSort old t → IsSort new t
IsSort-grown old new t g h = record { has = omega (arith, h.has, g.nodes); is = g.tree t h.has ∙ h.is }

pub ruleset keeping = (Grows-trans, IsKept-grown, HasPlain-grown, IsSort-grown)
