-- What stays as a bank grows.
use Rattle.std.proofs.Common.{◌≡◌, ◌∙◌, ◌<◌, ℕ, sym, subst, arith, [], length}
use Rattle.lq_terms.specs.declared.nodes.TermId.{TermId}
use Rattle.lq_terms.specs.Terms.{Terms, Grows, tree_of}
use Rattle.lq_terms.proofs.Growth.{Grows-trans}
use Rattle.lq_solving.specs.Stores.{names_at}
use Rattle.lq_solving.specs.Kept.{IsStore}
use Rattle.lq_evars.specs.Places.{Places, store_of, HasStore}
use Rattle.lq_evars.proofs.Growing.{store_of-grown, HasStore-grown}
use Rattle.lq_evars_rows.specs.Looks.{IsSimple, HasSimple, IsSort, IsBare, IsKept}

pub IsKept-grown : (old new : Terms) (s : Places) → Grows old new → IsKept old s → IsKept new s
IsKept-grown old new s g k = record { has = HasStore-grown old new g s k.has; kept = subst IsStore (sym (store_of-grown old new g s k.has)) k.kept }

pub HasSimple-grown : (old new : Terms) (n : ℕ) (t : TermId) → Grows old new → HasSimple old n t → HasSimple new n t
HasSimple-grown old new n t g h = record { has = omega (arith, h.has, g.nodes); simple = subst (IsSimple n) (sym (g.tree t h.has)) h.simple }

pub IsSort-grown : (old new : Terms) (t : TermId) → Grows old new → IsSort old t → IsSort new t
IsSort-grown old new t g h = record { has = omega (arith, h.has, g.nodes); is = g.tree t h.has ∙ h.is }

pub IsBare-grown : (old new : Terms) (s : Places) (n : ℕ) → Grows old new → HasStore old s → IsBare old s n → IsBare new s n
IsBare-grown old new s n g h b = record {
  inside = subst (λ z. n < length z.variables) (sym (store_of-grown old new g s h)) b.inside;
  bare = subst (λ z. names_at z.variables n ≡ []) (sym (store_of-grown old new g s h)) b.bare;
}

pub ruleset keeping = (Grows-trans, IsKept-grown, HasSimple-grown, IsSort-grown)
