-- Terms pairwise, and what is under a binder.
use Rattle.std.proofs.Common.{◌≡◌, ◌≤◌, ◌<◌, ◌+◌, ◌∙◌, ℕ, suc, refl, sym, ap, ap₂, arith, List, [], ◌∷◌, ◌++◌, map, length, get_or, drop, append-nil, append_assoc, Option, Some, None}
use Rattle.std.proofs.Common.{subst as along}
use Rattle.std.specs.Prelude.{option_map}
use Rattle.std.specs.List.{AllByRecursion}
use Rattle.std.proofs.lemmas.List.{drop_more}
use Rattle.std.proofs.Math.ListN.{drop_of_length-le}
use Rattle.lq_trees.specs.Tree.{Tree, Context}
use Rattle.lq_trees.specs.Fresh.{opened}
use Rattle.lq_terms.specs.declared.nodes.NameId.{NameId}
use Rattle.lq_terms.specs.declared.nodes.TermId.{TermId}
use Rattle.lq_terms.specs.Terms.{Terms, HasTerm, IsName, IsTerm, Grows, text_of, tree_of}
use Rattle.lq_terms.specs.Contexts.{HasBody}
use Rattle.lq_solving.specs.Unification.{Sides, sides, parts_of}
use Rattle.lq_unify.specs.declared.pairs.Pair.{Pair}
use Rattle.lq_unify.specs.Pairs.{pairs_in, HasPair, IsUnder}

-- lists of different length have no pairs
pub no_pairs : (g : Context) (ts us : List Tree) → (length ts ≡ length us → ⊥) → None ≡ parts_of g ts us
unfolding parts_of
no_pairs g [] [] h = absurd (h refl)
no_pairs g [] (u ∷ us) h = refl
no_pairs g (t ∷ ts) [] h = refl
no_pairs g (t ∷ ts) (u ∷ us) h = ap (λ o. elim o [ None ↦ None | Some ps ↦ Some (sides g t u ∷ ps) ]) (no_pairs g ts us (λ e. h (ap suc e)))

module _ (bank : Terms) (g : Context) (ls rs : List TermId) where
  -- the pairs from number i on
  abbrev pub pairs_behind : ℕ → Option (List Sides)
  pairs_behind i = parts_of g (map (tree_of bank) (drop i ls)) (map (tree_of bank) (drop i rs))

  -- pairs that were found ahead of those that are to be found
  abbrev pub found_ahead : List Pair → Option (List Sides) → Option (List Sides)
  found_ahead ps o = option_map (λ qs. pairs_in bank g ps ++ qs) o

  pub pairs_start : (o : Option (List Sides)) → found_ahead [] o ≡ o
  pairs_start None = refl
  pairs_start (Some qs) = refl

  in_push : (ps : List Pair) (p : Pair) → pairs_in bank g (ps ++ p ∷ []) ≡ pairs_in bank g ps ++ sides g (tree_of bank p.left) (tree_of bank p.right) ∷ []
  in_push [] p = refl
  in_push (q ∷ ps) p = ap (λ l. sides g (tree_of bank q.left) (tree_of bank q.right) ∷ l) (in_push ps p)

  pub pairs_more : (ps more : List Pair) (i : ℕ) (d : TermId) → i < length ls → length ls ≡ length rs → more ≡ ps ++ record { left = get_or ls i d; right = get_or rs i d } ∷ [] →
      found_ahead ps (pairs_behind i) ≡ parts_of g (map (tree_of bank) ls) (map (tree_of bank) rs) → found_ahead more (pairs_behind (i + 1)) ≡ parts_of g (map (tree_of bank) ls) (map (tree_of bank) rs)
  unfolding parts_of
  pairs_more ps more i d l many e same =
      ap (λ z. found_ahead z (pairs_behind (i + 1))) e
      ∙ by (pairs_behind (i + 1))
      ∙ ap₂ (λ a b. found_ahead ps (parts_of g (map (tree_of bank) a) (map (tree_of bank) b))) (sym (drop_more ls i d l)) (sym (drop_more rs i d (omega (arith, l, many)))) ∙ same
    where
      by : (o : Option (List Sides)) → found_ahead (ps ++ record { left = get_or ls i d; right = get_or rs i d } ∷ []) o
          ≡ found_ahead ps (elim o as (λ z. Option (List Sides)) [ None ↦ None | Some qs ↦ Some (sides g (tree_of bank (get_or ls i d)) (tree_of bank (get_or rs i d)) ∷ qs) ])
      by None = refl
      by (Some qs) =
          ap (λ z. Some (z ++ qs)) (in_push ps (record { left = get_or ls i d; right = get_or rs i d }))
          ∙ ap Some (append_assoc (pairs_in bank g ps) (sides g (tree_of bank (get_or ls i d)) (tree_of bank (get_or rs i d)) ∷ []) qs)

  pub pairs_end : (ps : List Pair) (i : ℕ) → length ls ≤ i → length ls ≡ length rs → found_ahead ps (pairs_behind i) ≡ parts_of g (map (tree_of bank) ls) (map (tree_of bank) rs) →
      Some (pairs_in bank g ps) ≡ parts_of g (map (tree_of bank) ls) (map (tree_of bank) rs)
  unfolding parts_of
  pairs_end ps i l many same =
      ap Some (sym (append-nil (pairs_in bank g ps)))
      ∙ ap₂ (λ a b. found_ahead ps (parts_of g (map (tree_of bank) a) (map (tree_of bank) b))) (sym (drop_of_length-le ls l)) (sym (drop_of_length-le rs (omega (arith, l, many)))) ∙ same

pub pair_push : (bank : Terms) (ps more : List Pair) (p : Pair) → AllByRecursion (HasPair bank) ps → HasPair bank p → more ≡ ps ++ p ∷ [] → AllByRecursion (HasPair bank) more
pair_push bank ps more p h k e = along (AllByRecursion (HasPair bank)) (sym e) (by ps h)
  where
    by : (qs : List Pair) → AllByRecursion (HasPair bank) qs → AllByRecursion (HasPair bank) (qs ++ p ∷ [])
    by [] j = (k, tt)
    by (q ∷ qs) j = (j.0, by qs j.1)

-- ---- under a binder

body_grown : (old new : Terms) → Grows old new → (o : Option TermId) → HasBody old o → (option_map (tree_of new) o ≡ option_map (tree_of old) o) × HasBody new o
body_grown old new g None h = (refl, tt)
body_grown old new g (Some t) h = (ap Some (g.tree t h), omega (arith, h, g.nodes))

pub under_is : (b0 b1 b2 b3 : Terms) → Grows b0 b1 → Grows b1 b2 → Grows b2 b3 → (x : NameId) (X : List ℕ) (o : Option TermId) (A l r u v : TermId) → IsName b1 x X → HasBody b0 o → HasTerm b0 A → HasTerm b0 l → HasTerm b0 r →
    IsTerm b2 u (opened (text_of b1 x) (tree_of b1 l)) → IsTerm b3 v (opened (text_of b2 x) (tree_of b2 r)) →
    IsUnder b3 (record { variable = record { name = x; body = o; kind = A }; pair = record { left = u; right = v } }) (record { name = X; body = option_map (tree_of b0) o; kind = tree_of b0 A }) (opened X (tree_of b0 l)) (opened X (tree_of b0 r))
under_is b0 b1 b2 b3 g h k x X o A l r u v n bo hA hl hr p q =
    let body1 = body_grown b0 b1 g o bo in
    let body2 = body_grown b1 b2 h o body1.1 in
    let body3 = body_grown b2 b3 k o body2.1 in
    let name2 : text_of b2 x ≡ X = h.text x n.has ∙ n.is in
    let name3 : text_of b3 x ≡ X = k.text x (omega (arith, n.has, h.names)) ∙ name2 in
    let kind3 : tree_of b3 A ≡ tree_of b0 A = k.tree A (omega (arith, hA, g.nodes, h.nodes)) ∙ h.tree A (omega (arith, hA, g.nodes)) ∙ g.tree A hA in record {
      has = record { name = omega (arith, n.has, h.names, k.names); body = body3.1; kind = omega (arith, hA, g.nodes, h.nodes, k.nodes) };
      is = rw (name3, body3.0, body2.0, body1.0, kind3) refl;
      left = record { has = omega (arith, p.has, k.nodes); is = k.tree u p.has ∙ p.is ∙ ap₂ opened n.is (g.tree l hl) };
      right = record { has = q.has; is = q.is ∙ ap₂ opened name2 (h.tree r (omega (arith, hr, g.nodes)) ∙ g.tree r hr) };
    }
