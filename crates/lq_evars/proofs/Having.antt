-- A store with one variable more, or another type, lies in a bank that has what is new.
use Rattle.std.proofs.Common.{ℕ, zero, suc, List, [], ◌∷◌}
use Rattle.std.specs.List.{AllByRecursion}
use Rattle.lq_terms.specs.declared.nodes.TermId.{TermId}
use Rattle.lq_terms.specs.Terms.{Terms, HasTerm}
use Rattle.lq_terms.proofs.Builds.{all_both}
use Rattle.lq_evars.specs.declared.store.Variable.{Variable}
use Rattle.lq_evars.specs.Places.{Places, HasVariable, HasStore, one_more, kind_put, kind_changed}

pub more_has : (bank : Terms) (s : Places) (v : Variable) → HasStore bank s → HasVariable bank v → HasStore bank (one_more s v)
more_has bank s v h k = record { variables = all_both (HasVariable bank) s.variables (v ∷ []) h.variables (k, tt); values = h.values }

put_has : (bank : Terms) (vs : List Variable) (k : ℕ) (t : TermId) → AllByRecursion (HasVariable bank) vs → HasTerm bank t → AllByRecursion (HasVariable bank) (kind_put vs k t)
put_has bank [] k t h i = tt
put_has bank (v ∷ vs) zero t h i = (record { context = h.0.context; kind = i; name = h.0.name }, h.1)
put_has bank (v ∷ vs) (suc k) t h i = (h.0, put_has bank vs k t h.1 i)

pub kind_has : (bank : Terms) (s : Places) (k : ℕ) (t : TermId) → HasStore bank s → HasTerm bank t → HasStore bank (kind_changed s k t)
kind_has bank s k t h i = record { variables = put_has bank s.variables k t h.variables i; values = h.values }
