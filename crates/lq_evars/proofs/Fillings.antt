-- A closed body with entries for hypotheses: its numbers fit, and the limits that it passes.
use Rattle.std.proofs.Common.{◌≡◌, ◌≤◌, ◌<◌, ◌∙◌, ℕ, Bool, true, false, refl, sym, ap, ap₂, arith, List, [], ◌∷◌, map, nat_lt, Result, Ok, Err}
use Rattle.std.proofs.Common.{subst as along}
use Rattle.std.specs.Prelude.{zip, if◌then◌else◌, IfOk}
use Rattle.std.specs.List.{AllByRecursion}
use Rattle.lq_trees.specs.Tree.{Tree}
use Rattle.lq_trees.specs.Change.{instance}
use Rattle.lq_trees.specs.Size.{size, depth, fit, fit_of}
use Rattle.lq_trees.specs.Index.{highest, last_index, Within, IndexFits}
use Rattle.lq_trees.specs.Marks.{loose}
use Rattle.lq_trees.specs.Reading.{entries}
use Rattle.lq_trees.specs.declared.Fit.{Fit}
use Rattle.lq_trees.proofs.Indices.{highest-within}
use Rattle.lq_trees.proofs.MarkLaws.{within-loose}
use Rattle.lq_trees.proofs.Reach.{AllWithin, within-instance, within_fits}
use Rattle.lq_terms.specs.declared.nodes.Hypothesis.{Hypothesis}
use Rattle.lq_terms.specs.declared.nodes.TermId.{TermId}
use Rattle.lq_terms.specs.Terms.{Terms, HasTerm, IsTerm, Grows, text_of, tree_of, trees_by}
use Rattle.lq_terms.specs.declared.nodes.NoMemory.{NoMemory}
use Rattle.lq_terms.specs.Changes.{bindings, HasHypothesis}
use Rattle.lq_terms.proofs.Replaced.{depth-size}
use Rattle.lq_terms.proofs.Grown.{bindings-grown}
use Rattle.lq_solving.proofs.OverLaws.{within_more}
use Rattle.lq_evars.specs.Near.{IsNear}
use Rattle.lq_evars.specs.Reading.{IsLow}
use Rattle.lq_evars.proofs.NearLaws.{near_equal, near_same}

fit_large : (s d : ℕ) → fit_of s d ≡ Fit.TooLarge → 1000000 < s
fit_large s d = by (nat_lt 1000000 s) (nat_lt 2000 d) refl
  where
    by : (a b : Bool) → nat_lt 1000000 s ≡ a → (if a then Fit.TooLarge else if b then Fit.TooDeep else Fit.Fits) ≡ Fit.TooLarge → 1000000 < s
    by true b e f = grind arith
    by false true e f = absurd (grind arith)
    by false false e f = absurd (grind arith)

fit_deep : (s d : ℕ) → fit_of s d ≡ Fit.TooDeep → s ≤ 1000000
fit_deep s d = by (nat_lt 1000000 s) (nat_lt 2000 d) refl
  where
    by : (a b : Bool) → nat_lt 1000000 s ≡ a → (if a then Fit.TooLarge else if b then Fit.TooDeep else Fit.Fits) ≡ Fit.TooDeep → s ≤ 1000000
    by true b e f = absurd (grind arith)
    by false b e f = grind arith

pub too_large : (t : Tree) → fit t ≡ Fit.TooLarge → 1000000 < size t
too_large t e = fit_large (size t) (depth t) e

pub too_deep : (t : Tree) → fit t ≡ Fit.TooDeep → size t ≤ 1000000
too_deep t e = fit_deep (size t) (depth t) e

-- a name's first tree is the one by place
pub bindings_zip : (bank : Terms) (hs : List Hypothesis) (ts : List TermId) → bindings bank hs ts ≡ zip (map (λ h. text_of bank h.name) hs) (entries (trees_by (tree_of bank) ts))
unfolding entries
bindings_zip bank [] ts = refl
bindings_zip bank (h ∷ hs) [] = refl
bindings_zip bank (h ∷ hs) (t ∷ ts) = ap (λ ps. (text_of bank h.name, tree_of bank t) ∷ ps) (bindings_zip bank hs ts)

module _ (bank : Terms) (hs : List Hypothesis) (ts : List TermId) (body : Tree) (closed : Within 0 body) (low : AllByRecursion (IsLow bank) ts) where
  all_low : (hs : List Hypothesis) (ts : List TermId) → AllByRecursion (IsLow bank) ts → AllWithin 2000001 (bindings bank hs ts)
  all_low [] ts h = tt
  all_low (x ∷ xs) [] h = tt
  all_low (x ∷ xs) (u ∷ us) h = (within-loose 2000001 (tree_of bank u) h.0, all_low xs us h.1)

  filled_within : Within 2000001 (instance (bindings bank hs ts) body)
  filled_within = within-instance 2000001 (bindings bank hs ts) body (all_low hs ts low) (within_more 0 2000001 (omega arith) body closed)

  -- the numbers of its bound variables fit
  pub filled_fits : IndexFits (instance (bindings bank hs ts) body)
  filled_fits = within_fits 2000001 (instance (bindings bank hs ts) body) filled_within (omega arith)

  pub filled_highest : size (instance (bindings bank hs ts) body) ≤ 1000000 → highest (instance (bindings bank hs ts) body) ≤ last_index
  filled_highest h =
      omega (arith, h, highest-within 2000001 (instance (bindings bank hs ts) body) filled_within, depth-size (instance (bindings bank hs ts) body))

pub names_grown : (old new : Terms) (hs : List Hypothesis) → Grows old new → AllByRecursion (HasHypothesis old) hs → AllByRecursion (HasHypothesis new) hs
names_grown old new [] g h = tt
names_grown old new (x ∷ xs) g h = (omega (arith, h.0, g.names), names_grown old new xs g h.1)

pub low_grown : (old new : Terms) (ts : List TermId) → Grows old new → AllByRecursion (HasTerm old) ts → AllByRecursion (IsLow old) ts → AllByRecursion (IsLow new) ts
low_grown old new [] g h k = tt
low_grown old new (t ∷ ts) g h k = (along (λ u. loose u ≤ 2000001) (sym (g.tree t h.0)) k.0, low_grown old new ts g h.1 k.1)

pub instance_grown : (old new : Terms) (hs : List Hypothesis) (ts : List TermId) (b : TermId) → Grows old new → AllByRecursion (HasHypothesis old) hs → AllByRecursion (HasTerm old) ts → HasTerm old b →
    instance (bindings new hs ts) (tree_of new b) ≡ instance (bindings old hs ts) (tree_of old b)
instance_grown old new hs ts b g h k m = ap₂ (λ ps t. instance ps t) (bindings-grown old new hs ts g h k) (g.tree b m)

pub deep_near : (new : Terms) (r : Result TermId NoMemory) (P : Type 0) (T U : Tree) → IfOk r (λ t. IsTerm new t T) → T ≡ U → IfOk r (λ t. P → IsNear 0 (tree_of new t) U)
deep_near new (Ok t) P T U h e = λ p. near_equal 0 (tree_of new t) U U (h.is ∙ e) (near_same 0 U)
deep_near new (Err f) P T U h e = tt
