-- The variables that go to the shelf, one by one.
use Rattle.std.proofs.Common.{◌≡◌, ◌<◌, ◌≤◌, ◌-◌, ◌+◌, ◌∙◌, ℕ, zero, suc, refl, sym, ap, arith, Bool, true, false, not, List, [], ◌∷◌, ◌++◌, Option, Some, None}
use Rattle.std.proofs.Common.{subst as along}
use Rattle.std.specs.Prelude.{option_map}
use Rattle.lq_terms.specs.declared.nodes.TermId.{TermId}
use Rattle.lq_terms.specs.Terms.{Terms, tree_of}
use Rattle.lq_solving.specs.Stores.{Store, count, value, has_value, is_open}
use Rattle.lq_solving.specs.Elaboration.{numbers, made_between}
use Rattle.lq_prims.proofs.SceneLaws.{something}
use Rattle.lq_states.specs.Goals.{has, without}
use Rattle.lq_tactics.specs.Rows.{open_of, made_open}
use Rattle.lq_prims.specs.Listing.{is_left}

-- one more where the test says so
abbrev pub one_more : Bool → ℕ → List ℕ → List ℕ
one_more true k ks = k ∷ ks
one_more false k ks = ks

pub one_behind : (found : List ℕ) (k : ℕ) (ks : List ℕ) → (found ++ k ∷ []) ++ ks ≡ found ++ k ∷ ks
one_behind [] k ks = refl
one_behind (j ∷ found) k ks = ap (λ z. j ∷ z) (one_behind found k ks)

module _ (js : List ℕ) (s : Store) where
  -- those that are left from a number on
  abbrev pub rest : ℕ → List ℕ
  rest k = without js (open_of s (numbers k (count s - k)))

  pick_in : (k : ℕ) (ks : List ℕ) (h : Bool) → elim h as (λ z. List ℕ) [ true ↦ ks | false ↦ k ∷ ks ] ≡ one_more (not h) k ks
  pick_in k ks true = refl
  pick_in k ks false = refl

  pick : (k : ℕ) (ks : List ℕ) (o : Bool) →
      without js (elim o as (λ z. List ℕ) [ true ↦ k ∷ ks | false ↦ ks ]) ≡ one_more (elim o as (λ z. Bool) [ true ↦ not (has js k) | false ↦ false ]) k (without js ks)
  unfolding without
  pick k ks false = refl
  pick k ks true = pick_in k (without js ks) (has js k)

  rest_on : (k m : ℕ) → count s - k ≡ suc m → count s - suc k ≡ m → rest k ≡ one_more (is_left js s k) k (rest (suc k))
  unfolding numbers open_of
  rest_on k m e f =
      ap (λ n. without js (open_of s (numbers k n))) e ∙ pick k (open_of s (numbers (suc k) m)) (is_open s k)
      ∙ ap (λ n. one_more (is_left js s k) k (without js (open_of s (numbers (suc k) n)))) (sym f)

  rest_next : (k : ℕ) → k < count s → rest k ≡ one_more (is_left js s k) k (rest (suc k))
  rest_next k l = rest_on k (count s - suc k) (omega (arith, l)) refl

  rest_none : (n k : ℕ) → n ≡ 0 → without js (open_of s (numbers k n)) ≡ []
  unfolding numbers open_of without
  rest_none zero k e = refl
  rest_none (suc n) k e = absurd (omega (arith, e))

  -- what is left to look at, and what was found
  pub shelf_start : (before : Store) (k : ℕ) → count before ≡ k → rest k ≡ without js (made_open before s)
  unfolding made_open made_between
  shelf_start before k e = ap (λ n. without js (open_of s (numbers n (count s - n)))) (sym e)

  pub shelf_more : (k : ℕ) (found more all : List ℕ) → k < count s → true ≡ is_left js s k → more ≡ found ++ k ∷ [] → found ++ rest k ≡ all → more ++ rest (k + 1) ≡ all
  shelf_more k found more all l y e so_far =
      along (λ n. more ++ rest n ≡ all) (omega arith)
      (ap (λ z. z ++ rest (suc k)) e ∙ one_behind found k (rest (suc k)) ∙ ap (λ z. found ++ z) (ap (λ b. one_more b k (rest (suc k))) y ∙ sym (rest_next k l)) ∙ so_far)

  pub shelf_same : (k : ℕ) (found all : List ℕ) → k < count s → false ≡ is_left js s k → found ++ rest k ≡ all → found ++ rest (k + 1) ≡ all
  shelf_same k found all l y so_far =
      along (λ n. found ++ rest n ≡ all) (omega arith) (ap (λ z. found ++ z) (ap (λ b. one_more b k (rest (suc k))) y ∙ sym (rest_next k l)) ∙ so_far)

  pub shelf_end : (k : ℕ) (found all : List ℕ) → count s ≤ k → found ++ rest k ≡ all → found ≡ all
  shelf_end k found all l so_far = sym (nothing_more found) ∙ ap (λ z. found ++ z) (sym (rest_none (count s - k) k (omega (arith, l)))) ∙ so_far
    where
      nothing_more : (ks : List ℕ) → ks ++ [] ≡ ks
      nothing_more [] = refl
      nothing_more (j ∷ ks) = ap (λ z. j ∷ z) (nothing_more ks)

-- the test on a variable
module _ (js : List ℕ) (s : Store) (bank : Terms) (k : ℕ) (l : k < count s) where
  no_value : (o : Option TermId) → option_map (tree_of bank) o ≡ value s k → (b : Bool) → o ≡ None → has_value s k ≡ false
  unfolding has_value
  no_value o e b f = ap (λ w. elim w as (λ z. Bool) [ Some t ↦ true | None ↦ false ]) (sym e ∙ ap (option_map (tree_of bank)) f)

  is_value : (o : Option TermId) (t : TermId) → option_map (tree_of bank) o ≡ value s k → o ≡ Some t → has_value s k ≡ true
  unfolding has_value
  is_value o t e f = ap (λ w. elim w as (λ z. Bool) [ Some t ↦ true | None ↦ false ]) (sym e ∙ ap (option_map (tree_of bank)) f)

  open_by : (b : Bool) → has_value s k ≡ b → is_open s k ≡ not b
  unfolding is_open
  open_by b e = let v = something s.variables k l in ap (λ o. elim o as (λ z. Bool) [ None ↦ false | Some w ↦ not (has_value s k) ]) v.1 ∙ ap not e

  pub left_none : (o : Option TermId) (q : Bool) → option_map (tree_of bank) o ≡ value s k → o ≡ None → q ≡ has js k → not q ≡ is_left js s k
  left_none o q e f h = ap not h ∙ ap (λ b. elim b as (λ z. Bool) [ true ↦ not (has js k) | false ↦ false ]) (sym (open_by false (no_value o e true f)))

  pub left_some : (o : Option TermId) (t : TermId) → option_map (tree_of bank) o ≡ value s k → o ≡ Some t → false ≡ is_left js s k
  left_some o t e f = ap (λ b. elim b as (λ z. Bool) [ true ↦ not (has js k) | false ↦ false ]) (sym (open_by true (is_value o t e f)))
