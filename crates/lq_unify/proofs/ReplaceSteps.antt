-- Parts are replaced one after the other, and then their term.
use Rattle.std.proofs.Common.{◌≡◌, ◌≤◌, ◌<◌, ◌+◌, ◌*◌, ◌∙◌, ℕ, zero, suc, Bool, refl, sym, ap, ap₂, arith, List, [], ◌∷◌, ◌++◌, map, length, get_or, drop, append-nil, Option, Some, None}
use Rattle.std.proofs.Common.{subst as along}
use Rattle.std.specs.Prelude.{option_map}
use Rattle.std.specs.List.{AllByRecursion}
use Rattle.std.proofs.lemmas.List.{length-map, map-append, drop_more}
use Rattle.std.proofs.Math.ListN.{drop_of_length-le}
use Rattle.lq_trees.specs.Tree.{Name, Tree, Trees, none, more}
use Rattle.lq_trees.specs.Tree.Tree.{Rel, Var, Sort, Prod, Lam, Let, App, Const, Ind, Ctor, Elim, Evar}
use Rattle.lq_trees.specs.Reading.{entries}
use Rattle.lq_trees.specs.Size.{size, sizes}
use Rattle.lq_terms.specs.declared.nodes.NameId.{NameId}
use Rattle.lq_terms.specs.declared.nodes.TermId.{TermId}
use Rattle.lq_terms.specs.Terms.{Terms, HasTerm, Grows, IsTerm, tree_of}
use Rattle.lq_unify.specs.Parts.{parts_of, with_parts, heft}
use Rattle.lq_unify.specs.Solutions.{IsByParts, solution, solutions, place_in, HasPlaces}
use Rattle.lq_unify.proofs.SolutionLaws.{by_parts, ahead, ahead_more, ahead_ended, solutions_length}
use Rattle.lq_unify.proofs.PlaceLaws.{solution-grown}

-- ---- how large parts are

heft_entries : (ts : Trees) → heft (entries ts) ≡ sizes ts
unfolding entries
heft_entries none = refl
heft_entries (more t ts) = omega (arith, heft_entries ts)

pub heft_parts : (t : Tree) → heft (parts_of t) < size t
unfolding parts_of
heft_parts (Rel i) = omega arith
heft_parts (Var x) = omega arith
heft_parts (Sort s) = omega arith
heft_parts (Prod x A B) = omega arith
heft_parts (Lam x A t) = omega arith
heft_parts (Let x v A t) = omega arith
heft_parts (App f a) = omega arith
heft_parts (Const c) = omega arith
heft_parts (Ind c) = omega arith
heft_parts (Ctor c k) = omega arith
heft_parts (Elim c s) = omega arith
heft_parts (Evar n ts) = omega (arith, heft_entries ts)

pub heft_at : (tree : TermId → Tree) (ts : List TermId) (i : ℕ) (d : TermId) → i < length ts → size (tree (get_or ts i d)) ≤ heft (map tree ts)
heft_at tree [] i d h = absurd (omega (arith, h))
heft_at tree (t ∷ ts) zero d h = omega arith
heft_at tree (t ∷ ts) (suc i) d h = omega (arith, heft_at tree ts i d (omega (arith, h)))

has_at : (bank : Terms) (ts : List TermId) (i : ℕ) (d : TermId) → AllByRecursion (HasTerm bank) ts → i < length ts → HasTerm bank (get_or ts i d)
has_at bank [] i d h l = absurd (omega (arith, l))
has_at bank (t ∷ ts) zero d h l = h.0
has_at bank (t ∷ ts) (suc i) d h l = has_at bank ts i d h.1 (omega (arith, l))

pub part_has : (old new : Terms) → Grows old new → (ts : List TermId) (i : ℕ) (d : TermId) → AllByRecursion (HasTerm old) ts → i < length ts → HasTerm new (get_or ts i d)
part_has old new g ts i d h l = omega (arith, has_at old ts i d h l, g.nodes)

pub part_tree : (old new : Terms) → Grows old new → (ts : List TermId) (i : ℕ) (d : TermId) → AllByRecursion (HasTerm old) ts → i < length ts → tree_of new (get_or ts i d) ≡ tree_of old (get_or ts i d)
part_tree old new g ts i d h l = g.tree (get_or ts i d) (has_at old ts i d h l)

pub part_smaller : (old new : Terms) → Grows old new → (ts : List TermId) (i : ℕ) (d : TermId) → AllByRecursion (HasTerm old) ts → i < length ts → 2 * size (tree_of new (get_or ts i d)) < 2 * heft (map (tree_of old) ts) + 1
part_smaller old new g ts i d h l = omega (arith, ap size (part_tree old new g ts i d h l), heft_at (tree_of old) ts i d l)

trees-grown : (old new : Terms) → Grows old new → (ts : List TermId) → AllByRecursion (HasTerm old) ts → map (tree_of new) ts ≡ map (tree_of old) ts
trees-grown old new g [] h = refl
trees-grown old new g (t ∷ ts) h = ap₂ (λ u us. u ∷ us) (g.tree t h.0) (trees-grown old new g ts h.1)

pub has_more : (old new : Terms) → Grows old new → (ts more_ : List TermId) (t : TermId) → AllByRecursion (HasTerm old) ts → HasTerm new t → more_ ≡ ts ++ t ∷ [] → AllByRecursion (HasTerm new) more_
has_more old new g ts more_ t h k e = along (AllByRecursion (HasTerm new)) (sym e) (by ts h)
  where
    by : (us : List TermId) → AllByRecursion (HasTerm old) us → AllByRecursion (HasTerm new) (us ++ t ∷ [])
    by [] j = (k, tt)
    by (u ∷ us) j = (omega (arith, j.0, g.nodes), by us j.1)

-- ---- parts one after the other

module _ (k : Option ℕ) (stays : Bool) (es : List (NameId × TermId)) where
  -- what is given for hypotheses, in a bank
  abbrev place : Terms → Name → Option Tree
  place bank = place_in bank stays es

  module _ (b0 b1 : Terms) (g : Grows b0 b1) (places : HasPlaces b0 es) (parts : List TermId) (has : AllByRecursion (HasTerm b0) parts) (i : ℕ) (d : TermId) (inside : i < length parts) where
    rest_is : map (tree_of b0) (drop i parts) ≡ tree_of b0 (get_or parts i d) ∷ map (tree_of b0) (drop (i + 1) parts)
    rest_is = ap (map (tree_of b0)) (drop_more parts i d inside)

    -- the solution of a part, in the bank before
    before : solution k (place b1) (tree_of b1 (get_or parts i d)) ≡ solution k (place b0) (tree_of b0 (get_or parts i d))
    before = solution-grown b0 b1 g k stays es (get_or parts i d) places (has_at b0 parts i d has inside)

    pub part_more : (b2 : Terms) → Grows b1 b2 → (answers more_ : List TermId) (u : TermId) → AllByRecursion (HasTerm b1) answers → Some (tree_of b2 u) ≡ solution k (place b1) (tree_of b1 (get_or parts i d)) → more_ ≡ answers ++ u ∷ [] →
        ahead k (place b0) (map (tree_of b1) answers) (solutions k (place b0) (map (tree_of b0) (drop i parts))) ≡ solutions k (place b0) (map (tree_of b0) parts) →
        ahead k (place b0) (map (tree_of b2) more_) (solutions k (place b0) (map (tree_of b0) (drop (i + 1) parts))) ≡ solutions k (place b0) (map (tree_of b0) parts)
    part_more b2 h answers more_ u there e q same =
        ap (λ us. ahead k (place b0) us (solutions k (place b0) (map (tree_of b0) (drop (i + 1) parts))))
        (ap (map (tree_of b2)) q ∙ map-append (tree_of b2) answers (u ∷ []) ∙ ap (λ us. us ++ tree_of b2 u ∷ []) (trees-grown b1 b2 h answers there))
        ∙ sym (ahead_more k (place b0) (map (tree_of b1) answers) (tree_of b0 (get_or parts i d)) (tree_of b2 u) (map (tree_of b0) (drop (i + 1) parts)) (sym before ∙ sym e))
        ∙ ap (λ us. ahead k (place b0) (map (tree_of b1) answers) (solutions k (place b0) us)) (sym rest_is) ∙ same

    pub part_none : (answers : List TermId) → None ≡ solution k (place b1) (tree_of b1 (get_or parts i d)) →
        ahead k (place b0) (map (tree_of b1) answers) (solutions k (place b0) (map (tree_of b0) (drop i parts))) ≡ solutions k (place b0) (map (tree_of b0) parts) →
        None ≡ solutions k (place b0) (map (tree_of b0) parts)
    part_none answers e same =
        sym (ahead_ended k (place b0) (map (tree_of b1) answers) (tree_of b0 (get_or parts i d)) (map (tree_of b0) (drop (i + 1) parts)) (sym before ∙ sym e))
        ∙ ap (λ us. ahead k (place b0) (map (tree_of b1) answers) (solutions k (place b0) us)) (sym rest_is) ∙ same

  pub parts_end : (b0 b1 : Terms) (parts answers : List TermId) (i : ℕ) → length parts ≤ i →
      ahead k (place b0) (map (tree_of b1) answers) (solutions k (place b0) (map (tree_of b0) (drop i parts))) ≡ solutions k (place b0) (map (tree_of b0) parts) →
      Some (map (tree_of b1) answers) ≡ solutions k (place b0) (map (tree_of b0) parts)
  unfolding solutions
  parts_end b0 b1 parts answers i h same =
      ap Some (sym (append-nil (map (tree_of b1) answers)))
      ∙ ap (λ us. ahead k (place b0) (map (tree_of b1) answers) (solutions k (place b0) (map (tree_of b0) us))) (sym (drop_of_length-le parts h)) ∙ same

  -- ---- the term

  module _ (b0 b1 : Terms) (g : Grows b0 b1) (t : TermId) (has : HasTerm b0 t) (other : IsByParts k (tree_of b0 t)) (parts : List TermId) (are : map (tree_of b0) parts ≡ parts_of (tree_of b0 t)) where
    pub whole_none : None ≡ solutions k (place b0) (map (tree_of b0) parts) → None ≡ solution k (place b0) (tree_of b0 t)
    whole_none e = sym (by_parts k (place b0) (tree_of b0 t) other ∙ ap (λ us. option_map (with_parts (tree_of b0 t)) (solutions k (place b0) us)) (sym are) ∙ ap (option_map (with_parts (tree_of b0 t))) (sym e))

    pub whole_many : (us : List TermId) → Some (map (tree_of b1) us) ≡ solutions k (place b0) (map (tree_of b0) parts) → length us ≡ length (parts_of (tree_of b1 t))
    whole_many us e =
        sym (length-map us (tree_of b1)) ∙ solutions_length k (place b0) (map (tree_of b0) parts) (map (tree_of b1) us) e ∙ ap length are ∙ ap (λ T. length (parts_of T)) (sym (g.tree t has))

    pub whole_some : (b2 : Terms) (us : List TermId) (u : TermId) → Some (map (tree_of b1) us) ≡ solutions k (place b0) (map (tree_of b0) parts) → IsTerm b2 u (with_parts (tree_of b1 t) (map (tree_of b1) us)) →
        Some (tree_of b2 u) ≡ solution k (place b0) (tree_of b0 t)
    whole_some b2 us u e made =
        ap Some (made.is ∙ ap (λ T. with_parts T (map (tree_of b1) us)) (g.tree t has))
        ∙ sym (by_parts k (place b0) (tree_of b0 t) other ∙ ap (λ vs. option_map (with_parts (tree_of b0 t)) (solutions k (place b0) vs)) (sym are) ∙ ap (option_map (with_parts (tree_of b0 t))) (sym e))
