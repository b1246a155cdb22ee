-- The parts of a term are put on to be read.
use Rattle.std.proofs.Common.{◌≡◌, ◌∙◌, ℕ, refl, sym, ap, List, [], ◌∷◌, ◌++◌, map, append-nil, append_assoc, Option, Some, None}
use Rattle.std.specs.Prelude.{option_map}
use Rattle.std.specs.List.{AllByRecursion}
use Rattle.lq_trees.specs.Tree.{Tree}
use Rattle.lq_trees.specs.Tree.Tree.{Evar}
use Rattle.lq_trees.specs.Reading.{entries}
use Rattle.lq_terms.specs.declared.nodes.TermId.{TermId}
use Rattle.lq_terms.specs.Terms.{Terms, HasTerm, IsPart, tree_of, trees_by}
use Rattle.lq_solving.specs.Stores.{Assigned, find_value, value}
use Rattle.lq_solving.specs.Kept.{IsStore}
use Rattle.lq_evars.specs.declared.work.Work.{Work}
use Rattle.lq_evars.specs.Places.{Places, store_of, value_at, HasStore}
use Rattle.lq_evars.specs.Turns.{parts_of, with_value}
use Rattle.lq_evars.specs.Reading.{Asks, with_term}
use Rattle.lq_evars.proofs.Lookups.{values_told}
use Rattle.lq_evars.proofs.Rebuilt.{entries_map, are_terms}
use Rattle.lq_evars.proofs.ValueRead.{value_has}

-- a value and the entries are put on one after the other
pub term_ahead : (o : Option TermId) (ts : List TermId) → map Work.Visit (with_term o []) ++ map Work.Visit ts ≡ map Work.Visit (with_term o ts)
term_ahead None ts = refl
term_ahead (Some t) ts = refl

pub variable_longer : (old mid new : List Work) (o : Option TermId) (ts : List TermId) → mid ≡ old ++ map Work.Visit (with_term o []) → new ≡ mid ++ map Work.Visit ts → new ≡ old ++ map Work.Visit (with_term o ts)
variable_longer old mid new o ts e f =
    f ∙ ap (λ ws. ws ++ map Work.Visit ts) e ∙ append_assoc old (map Work.Visit (with_term o [])) (map Work.Visit ts) ∙ ap (λ ws. old ++ ws) (term_ahead o ts)

pub asks_none : (bank : Terms) (as_ : List Assigned) (old : List Work) (T : Tree) → parts_of as_ T ≡ [] → Asks bank as_ old old T
asks_none bank as_ old T e = record { added = []; longer = sym (append-nil old); has = tt; are = sym e }

pub asks_two : (bank : Terms) (as_ : List Assigned) (old new : List Work) (T : Tree) (a b : TermId) → new ≡ old ++ Work.Visit a ∷ Work.Visit b ∷ [] → HasTerm bank a → HasTerm bank b → tree_of bank a ∷ tree_of bank b ∷ [] ≡ parts_of as_ T → Asks bank as_ old new T
asks_two bank as_ old new T a b e h k p = record { added = a ∷ b ∷ []; longer = e; has = (h, (k, tt)); are = p }

pub asks_three : (bank : Terms) (as_ : List Assigned) (old new : List Work) (T : Tree) (a b c : TermId) → new ≡ old ++ Work.Visit a ∷ Work.Visit b ∷ Work.Visit c ∷ [] → HasTerm bank a → HasTerm bank b → HasTerm bank c →
    tree_of bank a ∷ tree_of bank b ∷ tree_of bank c ∷ [] ≡ parts_of as_ T → Asks bank as_ old new T
asks_three bank as_ old new T a b c e h k l p = record { added = a ∷ b ∷ c ∷ []; longer = e; has = (h, (k, (l, tt))); are = p }

with_term_has : (bank : Terms) (o : Option TermId) (ts : List TermId) → ((v : TermId) → o ≡ Some v → HasTerm bank v) → AllByRecursion (HasTerm bank) ts → AllByRecursion (HasTerm bank) (with_term o ts)
with_term_has bank None ts f h = h
with_term_has bank (Some v) ts f h = (f v refl, h)

with_term_trees : (bank : Terms) (o : Option TermId) (ts : List TermId) → map (tree_of bank) (with_term o ts) ≡ with_value (option_map (tree_of bank) o) (entries (trees_by (tree_of bank) ts))
with_term_trees bank None ts = sym (entries_map bank ts)
with_term_trees bank (Some v) ts = ap (λ us. tree_of bank v ∷ us) (sym (entries_map bank ts))

pub asks_variable :
    (bank : Terms) (s : Places) (old new : List Work) (t : TermId) (n : ℕ) (ts : List TermId) → HasStore bank s → IsStore (store_of bank s) → new ≡ old ++ map Work.Visit (with_term (value_at s n) ts)
    → AllByRecursion (IsPart bank t) ts → Evar n (trees_by (tree_of bank) ts) ≡ tree_of bank t → Asks bank (store_of bank s).values old new (tree_of bank t)
unfolding value find_value
asks_variable bank s old new t n ts h i e parts is = record {
  added = with_term (value_at s n) ts;
  longer = e;
  has = with_term_has bank (value_at s n) ts (λ v q. value_has bank s.values n v h.values q) (are_terms bank t ts parts);
  are = with_term_trees bank (value_at s n) ts ∙ ap (λ o. with_value o (entries (trees_by (tree_of bank) ts))) (values_told bank s n i) ∙ ap (parts_of (store_of bank s).values) is;
}
