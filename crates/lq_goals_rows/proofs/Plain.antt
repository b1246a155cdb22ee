-- Variables and values without variables of their own.
use Rattle.std.proofs.Common.{◌≡◌, ◌<◌, ℕ, true, false, refl, sym, ap, arith, List, [], ◌∷◌, map, length, Option, Some, None}
use Rattle.std.proofs.Common.{subst as along}
use Rattle.std.specs.Prelude.{option_map, is_none, ◌&&◌}
use Rattle.lq_trees.specs.declared.Sort.{Sort as Universe}
use Rattle.lq_trees.specs.Tree.Tree.{Sort}
use Rattle.lq_terms.specs.declared.nodes.TermId.{TermId}
use Rattle.lq_terms.specs.Terms.{Terms, text_of, tree_of}
use Rattle.lq_terms.specs.Contexts.{HasContext}
use Rattle.lq_solving.specs.Occurs.{holds_variable}
use Rattle.lq_solving.specs.Stores.{Assigned, no_variables, find_value, value, names_at, read}
use Rattle.lq_solving.specs.Claims.{IsPlain}
use Rattle.lq_solving.specs.Kept.{IsStore, IsValue, IsVariable, leads}
use Rattle.lq_solving.proofs.FreeLaws.{both_false}
use Rattle.lq_solving.proofs.StandsLaws.{plain_stands}
use Rattle.lq_evars.specs.declared.store.Variable.{Variable}
use Rattle.lq_evars.specs.Places.{Places, store_of, variable_of, HasNameOr, HasStore, one_more}
use Rattle.lq_evars.proofs.Having.{more_has}
use Rattle.lq_goals_rows.specs.Looks.{HasPlain, IsSort}

sort_plain : (u : Universe) → IsPlain 0 (Sort u)
sort_plain u = record { over = tt; within = tt; holds = tt }

-- a sort leads to no variable
sort_leads : (as_ : List Assigned) (k : ℕ) (u : Universe) → leads as_ k (Sort u) ≡ false
unfolding leads holds_variable
sort_leads [] k u = refl
sort_leads (a ∷ older) k u = both_false _ _ (sort_leads older k u) (ap (λ b. b && leads older k a.body) (sort_leads older a.id u))

pub no_value : (bank : Terms) (s : Places) (n : ℕ) (o : Option TermId) → is_none o ≡ true → option_map (tree_of bank) o ≡ value (store_of bank s) n → find_value (store_of bank s).values n ≡ None
unfolding value find_value
no_value bank s n None e f = sym f
no_value bank s n (Some t) e f = absurd (grind arith)

-- the sort may be given to a variable that has no value
pub sort_value : (bank : Terms) (s : Places) (k : ℕ) (t : TermId) → IsStore (store_of bank s) → IsSort bank t → k < length (store_of bank s).variables → find_value (store_of bank s).values k ≡ None →
    IsValue (store_of bank s).variables (store_of bank s).values (record { id = k; body = tree_of bank t })
unfolding read
sort_value bank s k t i h l open_ =
    along (λ b. IsValue (store_of bank s).variables (store_of bank s).values (record { id = k; body = b })) (sym h.is)
    (record {
      inside = l;
      new = open_;
      free = sort_leads (store_of bank s).values k Universe.Base;
      over = tt;
      within = tt;
      holds = (plain_stands (store_of bank s) i (names_at (store_of bank s).variables k) (Sort Universe.Base) (sort_plain Universe.Base)).holds;
    })

-- a variable without hypotheses, of the type of propositions
pub plain_variable : (bank : Terms) (s : Places) (v : Variable) → IsStore (store_of bank s) → v.context ≡ [] → IsSort bank v.kind → IsVariable (store_of bank s) (variable_of bank v)
plain_variable bank s v i e k =
    along (λ hs. IsVariable (store_of bank s) (record { context = map (λ h. record { name = text_of bank h.name; body = option_map (tree_of bank) h.body; kind = tree_of bank h.kind }) hs; kind = tree_of bank v.kind; name = option_map (text_of bank) v.name })) (sym e)
    (along (λ t. IsVariable (store_of bank s) (record { context = []; kind = t; name = option_map (text_of bank) v.name })) (sym k.is)
    (tt, plain_stands (store_of bank s) i [] (Sort Universe.Base) (sort_plain Universe.Base)))

pub plain_has : (bank : Terms) (s : Places) (v : Variable) → HasStore bank s → v.context ≡ [] → IsSort bank v.kind → v.name ≡ None → HasStore bank (one_more s v)
plain_has bank s v i e k n = more_has bank s v i (record { context = along (λ hs. HasContext bank hs) (sym e) tt; kind = k.has; name = along (λ o. HasNameOr bank o) (sym n) tt })

none_store : IsStore no_variables
none_store = record { values = tt; variables = tt; named = λ j k v w x e f g h. absurd (grind (arith, e)) }

-- the variable of a proof that is begun
pub begun : (bank : Terms) (t : TermId) → HasPlain bank t → IsVariable no_variables (record { context = []; kind = tree_of bank t; name = None })
begun bank t h = (tt, plain_stands no_variables none_store [] (tree_of bank t) h.plain)
