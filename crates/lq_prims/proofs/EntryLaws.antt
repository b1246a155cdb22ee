-- Entries of a variable, by places of a bank.
use Rattle.std.proofs.Common.{◌≡◌, ◌∙◌, ℕ, refl, sym, ap, ap₂, List, [], ◌∷◌, ◌++◌, map}
use Rattle.std.specs.List.{AllByRecursion}
use Rattle.std.proofs.lemmas.List.{map-append}
use Rattle.lq_trees.specs.Tree.{Tree}
use Rattle.lq_trees.specs.Tree.Tree.{Evar}
use Rattle.lq_terms.specs.declared.nodes.TermId.{TermId}
use Rattle.lq_terms.specs.Terms.{Terms, HasTerm, Grows, tree_of, trees_by}
use Rattle.lq_solving.specs.Stores.{instance_list}
use Rattle.lq_unify.proofs.PartLaws.{instance_map}

-- a variable with entries
pub variable_is : (bank : Terms) (k : ℕ) (ts : List TermId) (us : List Tree) → map (tree_of bank) ts ≡ us → Evar k (trees_by (tree_of bank) ts) ≡ Evar k (instance_list us)
variable_is bank k ts us e = ap (Evar k) (sym (instance_map bank ts) ∙ ap instance_list e)

-- one entry more
pub entries_more : (old new : Terms) → Grows old new → (ts more : List TermId) (t : TermId) (us : List Tree) (u : Tree) → AllByRecursion (HasTerm old) ts → map (tree_of old) ts ≡ us → tree_of new t ≡ u → more ≡ ts ++ t ∷ [] →
    map (tree_of new) more ≡ us ++ u ∷ []
entries_more old new g ts more t us u has e is m =
    ap (map (tree_of new)) m ∙ map-append (tree_of new) ts (t ∷ []) ∙ ap₂ (λ x y. x ++ y ∷ []) (all_grown ts has ∙ e) is
  where
    all_grown : (vs : List TermId) → AllByRecursion (HasTerm old) vs → map (tree_of new) vs ≡ map (tree_of old) vs
    all_grown [] h = refl
    all_grown (v ∷ vs) h = ap₂ (λ x xs. x ∷ xs) (g.tree v h.0) (all_grown vs h.1)
