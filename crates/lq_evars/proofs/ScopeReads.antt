-- A variable that has a value, in a scope, is its value inside the scope of its instance.
use Rattle.std.proofs.Common.{◌≡◌, ◌≤◌, ◌<◌, ◌+◌, ◌∙◌, ℕ, ap, arith, List, ◌∷◌, map, length, Some}
use Rattle.std.specs.Prelude.{zip}
use Rattle.std.proofs.lemmas.List.{length-map}
use Rattle.lq_trees.specs.Tree.{Tree, Trees, none, more}
use Rattle.lq_trees.specs.Tree.Tree.{Evar}
use Rattle.lq_trees.specs.Change.{instance}
use Rattle.lq_trees.specs.Reading.{entries}
use Rattle.lq_solving.specs.Stores.{Variable, Assigned, Store as TreeStore, names_at, find_value, body_at}
use Rattle.lq_solving.specs.Kept.{IsOver, Sound}
use Rattle.lq_solving.proofs.ReadLaws.{filled, filled_each, filled_within, given_over, reads_as_value}
use Rattle.lq_solving.proofs.StoreLaws.{values_hold}
use Rattle.lq_solving.proofs.UnifyRows.{each_filled, none_filled}
use Rattle.lq_evars.specs.Reading.{as_read}
use Rattle.lq_evars.specs.Scopes.{Scope, below, inside, placed}
use Rattle.lq_evars.specs.Costs.{term_steps, value_steps, scope_steps, steps_each}
use Rattle.lq_evars.proofs.CostLaws.{given_steps}
use Rattle.lq_evars.proofs.ScopeLaws.{parted, valued}

pub entries_filled : (vs : List Variable) (as_ : List Assigned) (ts : Trees) → entries (filled_each vs as_ ts) ≡ map (filled vs as_) (entries ts)
unfolding entries
entries_filled vs as_ none = ap entries (none_filled vs as_)
entries_filled vs as_ (more t ts) = ap entries (each_filled vs as_ t ts) ∙ ap (λ us. filled vs as_ t ∷ us) (entries_filled vs as_ ts)

module _ (s : TreeStore) (kept : Sound s.variables s.values) (n : ℕ) (b : Tree) (ts : Trees) (e : find_value s.values n ≡ Some b) where
  many : IsOver s.variables (Evar n ts) → length (names_at s.variables n) ≤ length (map (as_read s) (entries ts))
  many h = omega (arith, h.1, length-map (entries ts) (as_read s))

  pub value_placed : (o : Scope) (d k : ℕ) → IsOver s.variables (Evar n ts) → placed s o d k (as_read s (Evar n ts)) ≡ placed s (inside n ts (below k (d + k) o)) (d + k) 0 (as_read s b)
  unfolding body_at
  value_placed o d k h =
      ap (placed s o d k) (reads_as_value s.variables s.values kept n b ts e h.2 ∙ ap (λ us. instance (zip (names_at s.variables n) us) (as_read s b)) (entries_filled s.variables s.values ts))
      ∙ parted s o d k 0 k (omega arith) (instance (zip (names_at s.variables n) (map (as_read s) (entries ts))) (as_read s b))
      ∙ valued s (below k (d + k) o) n ts (many h) (d + k) 0 (as_read s b) (values_hold s.variables s.values kept n b e)
      (filled_within s.variables s.values kept 0 b (given_over s.variables s.values kept n b e).1)

  -- it takes a step less
  pub value_lighter : (o : Scope) (d k : ℕ) → term_steps s.values (inside n ts (below k (d + k) o)) b < term_steps s.values o (Evar n ts)
  value_lighter o d k = omega (arith, given_steps s.variables s.values kept (λ n v. v) n (steps_each (value_steps s.values) (scope_steps s.values o) ts) b e)
