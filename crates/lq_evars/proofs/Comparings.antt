-- Pairs are compared: those that are put on stand for the one that was taken.
use Rattle.std.proofs.Common.{◌≡◌, ◌≤◌, ◌<◌, ◌+◌, ◌∙◌, ℕ, suc, Bool, true, false, ◌&&◌, refl, sym, ap, ap₂, arith, IsTrue, List, [], ◌∷◌, ◌++◌, length, length-append, append-nil, Option, Some, None, Result, Ok, Err}
use Rattle.std.proofs.Common.{subst as along}
use Rattle.std.specs.Prelude.{◌↔◌, IfOk}
use Rattle.std.specs.List.{AllByRecursion}
use Rattle.lq_trees.specs.Same.{Same}
use Rattle.lq_terms.specs.declared.nodes.TermId.{TermId}
use Rattle.lq_terms.specs.declared.nodes.NoMemory.{NoMemory}
use Rattle.lq_terms.specs.Terms.{Terms, tree_of}
use Rattle.lq_terms.proofs.Builds.{all_front, all_back, all_both}
use Rattle.lq_solving.specs.Stores.{Store as TreeStore, read, reads_same}
use Rattle.lq_solving.specs.Alike.{same_tree}
use Rattle.lq_solving.proofs.AlikeLaws.{alike_same, same_alike, tree_same}
use Rattle.lq_evars.specs.declared.scopes.Link.{Link}
use Rattle.lq_evars.specs.declared.scopes.Closure.{Closure}
use Rattle.lq_evars.specs.declared.comparing.Pair.{Pair}
use Rattle.lq_evars.specs.Reading.{as_read}
use Rattle.lq_evars.specs.Closures.{scope_of, closure_tree, closure_steps, AreLinks, HasPair, IsShallow, AreShallow, same_pair, same_pairs, pairs_steps, IsTurned, TurnsTo, SettledClosure, StandFor, ComparesTo, Comparing, first_pair}
use Rattle.lq_evars.specs.Costs.{value_steps, scope_steps}
use Rattle.lq_evars.proofs.CostLaws.{some_steps}
use Rattle.lq_evars.proofs.Links.{closure_kept, steps_kept, pairs_kept, pairs_steps_kept, closure_more, pairs_more}
use Rattle.lq_evars.proofs.ScopeLaws.{alone}

-- lists of pairs
and_assoc : (a b c : Bool) → (a && (b && c)) ≡ ((a && b) && c)
and_assoc true b c = refl
and_assoc false b c = refl

and_end : (a : Bool) → (a && true) ≡ a
and_end true = refl
and_end false = refl

and_none : (a b : Bool) → b ≡ false → (a && b) ≡ false
and_none true b e = e
and_none false b e = refl

module _ (bank : Terms) (s : TreeStore) (ls : List Link) where
  pub same_append : (ps qs : List Pair) → same_pairs bank s ls (ps ++ qs) ≡ (same_pairs bank s ls ps && same_pairs bank s ls qs)
  same_append [] qs = refl
  same_append (p ∷ ps) qs = ap (λ b. same_pair bank s ls p && b) (same_append ps qs) ∙ and_assoc (same_pair bank s ls p) (same_pairs bank s ls ps) (same_pairs bank s ls qs)

  pub steps_append : (ps qs : List Pair) → pairs_steps bank s ls (ps ++ qs) ≡ pairs_steps bank s ls ps + pairs_steps bank s ls qs
  steps_append [] qs = omega arith
  steps_append (p ∷ ps) qs = omega (arith, steps_append ps qs)

shallow_append : (n m : ℕ) (ps qs : List Pair) → m ≡ n + length ps → AreShallow n ps → AreShallow m qs → AreShallow n (ps ++ qs)
shallow_append n m [] qs e h k = along (λ i. AreShallow i qs) (omega arith) k
shallow_append n m (p ∷ ps) qs e h k = (h.0, shallow_append (suc n) m ps qs (omega arith) h.1 k)

shallow_front : (n : ℕ) (ps qs : List Pair) → AreShallow n (ps ++ qs) → AreShallow n ps
shallow_front n [] qs h = tt
shallow_front n (p ∷ ps) qs h = (h.0, shallow_front (suc n) ps qs h.1)

shallow_back : (n m : ℕ) (ps qs : List Pair) → m ≡ n + length ps → AreShallow n (ps ++ qs) → AreShallow m qs
shallow_back n m [] qs e h = along (λ i. AreShallow i qs) (omega arith) h
shallow_back n m (p ∷ ps) qs e h = shallow_back (suc n) m ps qs (omega arith) h.1

-- the pair that was taken
module _ (bank : Terms) (s : TreeStore) (old : List Link) (rest : List Pair) (p : Pair) (h : Comparing bank s old (rest ++ p ∷ [])) where
  pub pair_has : HasPair bank s.variables (length old) p
  pair_has = let last : AllByRecursion (HasPair bank s.variables (length old)) (p ∷ []) = all_back (HasPair bank s.variables (length old)) rest (p ∷ []) h.has in last.0

  pub pair_shallow : IsShallow (length rest) p
  pair_shallow = let last : AreShallow (length rest) (p ∷ []) = shallow_back 0 (length rest) rest (p ∷ []) (omega arith) h.shallow in last.0

  rest_has : AllByRecursion (HasPair bank s.variables (length old)) rest
  rest_has = all_front (HasPair bank s.variables (length old)) rest (p ∷ []) h.has

  pub pairs_differ : same_pair bank s old p ≡ false → same_pairs bank s old (rest ++ p ∷ []) ≡ false
  pairs_differ e = same_append bank s old rest (p ∷ []) ∙ and_none (same_pairs bank s old rest) (same_pair bank s old p && true) (and_end (same_pair bank s old p) ∙ e)

  -- others stand for it
  module _ (new : List Link) (left : List Pair) (st : StandFor bank s old new p rest left) where
    longer : length old ≤ length new
    longer = omega (arith, ap length st.longer, length-append old st.more)

    pub still_comparing : Comparing bank s new left
    still_comparing = record {
      made = st.made;
      has =
          along (λ ps. AllByRecursion (HasPair bank s.variables (length new)) ps) (sym st.behind)
          (all_both (HasPair bank s.variables (length new)) rest st.added (pairs_more bank s.variables (length old) (length new) rest longer rest_has) st.has);
      shallow = along (λ ps. AreShallow 0 ps) (sym st.behind) (shallow_append 0 (length rest) rest st.added (omega arith) (shallow_front 0 rest (p ∷ []) h.shallow) st.shallow);
    }

    rest_same : same_pairs bank s new rest ≡ same_pairs bank s old rest
    rest_same = ap (λ ls. same_pairs bank s ls rest) st.longer ∙ pairs_kept bank s old st.more rest rest_has

    rest_steps : pairs_steps bank s new rest ≡ pairs_steps bank s old rest
    rest_steps = ap (λ ls. pairs_steps bank s ls rest) st.longer ∙ pairs_steps_kept bank s old st.more rest rest_has

    pub still_same : same_pairs bank s new left ≡ same_pairs bank s old (rest ++ p ∷ [])
    still_same =
        ap (same_pairs bank s new) st.behind ∙ same_append bank s new rest st.added
        ∙ ap₂ (λ a b. a && b) rest_same (st.same ∙ sym (and_end (same_pair bank s old p)))
        ∙ sym (same_append bank s old rest (p ∷ []))

    pub still_falls : pairs_steps bank s new left < pairs_steps bank s old (rest ++ p ∷ [])
    still_falls = omega (arith, ap (pairs_steps bank s new) st.behind, steps_append bank s new rest st.added, rest_steps, st.falls, steps_append bank s old rest (p ∷ []))

-- a pair of equal trees needs nothing in its place
module _ (bank : Terms) (s : TreeStore) (ls : List Link) (made : AreLinks bank s.variables ls) (p : Pair) (work : List Pair) where
  pub equal_done : same_pair bank s ls p ≡ true → StandFor bank s ls ls p work work
  equal_done e = record {
    more = [];
    longer = sym (append-nil ls);
    made = made;
    added = [];
    behind = sym (append-nil work);
    has = tt;
    shallow = tt;
    same = sym e;
    falls = omega (arith, some_steps (value_steps s.values) (scope_steps s.values (scope_of bank ls p.left.around)) (tree_of bank p.left.term));
  }

  pub one_done : p.left ≡ p.right → StandFor bank s ls ls p work work
  one_done e = equal_done (ap (λ c. same_tree (closure_tree bank s ls c) (closure_tree bank s ls p.right)) e ∙ tree_same (closure_tree bank s ls p.right))

  -- terms that stand for themselves
  pub plain_done : (b : Bool) → closure_tree bank s ls p.left ≡ tree_of bank p.left.term → closure_tree bank s ls p.right ≡ tree_of bank p.right.term → IsTrue b ↔ Same (tree_of bank p.left.term) (tree_of bank p.right.term)
      → ComparesTo bank s ls ls p work work b
  plain_done b l r q = by b refl
    where
      is : same_pair bank s ls p ≡ same_tree (tree_of bank p.left.term) (tree_of bank p.right.term)
      is = ap₂ same_tree l r

      differ : (c : Bool) → same_tree (tree_of bank p.left.term) (tree_of bank p.right.term) ≡ c → b ≡ false → c ≡ false
      differ false e f = refl
      differ true e f = let yes : IsTrue b = q.1 (alike_same (tree_of bank p.left.term) (tree_of bank p.right.term) e) in absurd (grind arith)

      by : (c : Bool) → b ≡ c → ComparesTo bank s ls ls p work work c
      by true e = equal_done (is ∙ same_alike (tree_of bank p.left.term) (tree_of bank p.right.term) (q.0 e))
      by false e = is ∙ differ (same_tree (tree_of bank p.left.term) (tree_of bank p.right.term)) refl e

-- a closure of the pair turned
module _ (bank : Terms) (s : TreeStore) (old new : List Link) (p : Pair) (work left : List Pair) (h : HasPair bank s.variables (length old) p) (shallow : IsShallow (length work) p) (d : Closure) where
  pub left_turned : IsTurned bank s old new p.left d → left ≡ work ++ record { left = d; right = p.right } ∷ [] → StandFor bank s old new p work left
  left_turned t e = record {
    more = t.more;
    longer = t.longer;
    made = t.made;
    added = record { left = d; right = p.right } ∷ [];
    behind = e;
    has = (record { left = t.has; right = closure_more bank s.variables (length old) (length new) p.right longer h.right }, tt);
    shallow = (record { left = omega (arith, t.deep, shallow.left); right = shallow.right }, tt);
    same = and_end _ ∙ ap₂ same_tree t.same kept;
    falls = omega (arith, t.falls, steps);
  }
    where
      longer : length old ≤ length new
      longer = omega (arith, ap length t.longer, length-append old t.more)

      kept : closure_tree bank s new p.right ≡ closure_tree bank s old p.right
      kept = ap (λ ls. closure_tree bank s ls p.right) t.longer ∙ closure_kept bank s old t.more p.right h.right.around

      steps : closure_steps bank s new p.right ≡ closure_steps bank s old p.right
      steps = ap (λ ls. closure_steps bank s ls p.right) t.longer ∙ steps_kept bank s old t.more p.right h.right.around

  pub right_turned : IsTurned bank s old new p.right d → left ≡ work ++ record { left = p.left; right = d } ∷ [] → StandFor bank s old new p work left
  right_turned t e = record {
    more = t.more;
    longer = t.longer;
    made = t.made;
    added = record { left = p.left; right = d } ∷ [];
    behind = e;
    has = (record { left = closure_more bank s.variables (length old) (length new) p.left longer h.left; right = t.has }, tt);
    shallow = (record { left = shallow.left; right = omega (arith, t.deep, shallow.right) }, tt);
    same = and_end _ ∙ ap₂ same_tree kept t.same;
    falls = omega (arith, t.falls, steps);
  }
    where
      longer : length old ≤ length new
      longer = omega (arith, ap length t.longer, length-append old t.more)

      kept : closure_tree bank s new p.left ≡ closure_tree bank s old p.left
      kept = ap (λ ls. closure_tree bank s ls p.left) t.longer ∙ closure_kept bank s old t.more p.left h.left.around

      steps : closure_steps bank s new p.left ≡ closure_steps bank s old p.left
      steps = ap (λ ls. closure_steps bank s ls p.left) t.longer ∙ steps_kept bank s old t.more p.left h.left.around

-- no closure was found for another
pub none_turned : (bank : Terms) (s : TreeStore) (old new : List Link) (c : Closure) (o : Option Closure) → TurnsTo bank s old new c o → ((d : Closure) → o ≡ Some d → ⊥) → (new ≡ old) × SettledClosure bank s old c
none_turned bank s old new c None h p = h
none_turned bank s old new c (Some d) h p = absurd (p d refl)

-- with nothing around them, terms are compared as they read
pub first_same : (bank : Terms) (s : TreeStore) (t u : TermId) → same_pair bank s [] (first_pair t u) ≡ reads_same s (tree_of bank t) (tree_of bank u)
unfolding reads_same read
first_same bank s t u = ap₂ same_tree (alone s 0 (as_read s (tree_of bank t))) (alone s 0 (as_read s (tree_of bank u)))

pub compared_reads : (bank : Terms) (s : TreeStore) (t u : TermId) (o : Result Bool NoMemory) → IfOk o (λ b. b ≡ same_pair bank s [] (first_pair t u)) → IfOk o (λ b. b ≡ reads_same s (tree_of bank t) (tree_of bank u))
compared_reads bank s t u (Ok b) h = h ∙ first_same bank s t u
compared_reads bank s t u (Err e) h = tt
