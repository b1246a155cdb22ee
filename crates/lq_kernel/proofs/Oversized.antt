-- Types that pass a limit.
use Rattle.std.proofs.Common.{[], ◌≡◌, ◌∙◌, ◌+◌, ◌*◌, ◌^◌, ◌<◌, ◌≤◌, ℕ, zero, suc, refl, sym, ap, ap₂, arith, Result, Ok, Err}
use Rattle.std.proofs.Common.{subst as along}
use Rattle.std.proofs.Math.Nat.{two-pow-succ}
use Rattle.std.specs.Prelude.{IfOk}
use Rattle.lq_trees.specs.declared.Sort.{Sort as Universe}
use Rattle.lq_trees.specs.declared.Fit.{Fit}
use Rattle.lq_trees.specs.Tree.{Name, Tree}
use Rattle.lq_trees.specs.Index.{Within}
use Rattle.lq_trees.specs.Hypotheses.{HoldsOnly}
use Rattle.lq_trees.specs.Size.{size, depth, fit, fit_of}
use Rattle.lq_terms.specs.declared.nodes.NameId.{NameId}
use Rattle.lq_terms.specs.declared.nodes.TermId.{TermId}
use Rattle.lq_terms.specs.Terms.{Terms, IsTerm, text_of, tree_of}
use Rattle.lq_terms.specs.Telling.{IsClosed}
use Rattle.lq_terms.specs.declared.nodes.NoMemory.{NoMemory}
use Rattle.lq_calculus.specs.Declarations.{Family, family_type}
use Rattle.lq_calculus.specs.Checking.{fitting}
use Rattle.lq_env.specs.Families.{IsWritten}
use Rattle.lq_env.proofs.Closed.{family_closed}
use Rattle.lq_kernel.specs.Declaring.{doubled, chained}
use Rattle.lq_kernel.proofs.FormLaws.{fitting_large, fitting_deep}

pub doubled_next : (x : Name) (i : ℕ) → doubled x (i + 1) ≡ Tree.Prod x (doubled x i) (doubled x i)
unfolding doubled
doubled_next x i = let e : suc i ≡ i + 1 = omega arith in along (λ n. doubled x n ≡ Tree.Prod x (doubled x i) (doubled x i)) e refl

pub chained_next : (x : Name) (i : ℕ) → chained x (i + 1) ≡ Tree.Prod x (Tree.Sort Universe.Base) (chained x i)
unfolding chained
chained_next x i = let e : suc i ≡ i + 1 = omega arith in along (λ n. chained x n ≡ Tree.Prod x (Tree.Sort Universe.Base) (chained x i)) e refl

-- by their sizes and depths
size_large : (s d : ℕ) → 1000000 < s → fit_of s d ≡ Fit.TooLarge
size_large s d l = search (arith, l)

size_deep : (s d : ℕ) → s ≤ 1000000 → 2000 < d → fit_of s d ≡ Fit.TooDeep
size_deep s d k l = search (arith, k, l)

double_size : (x : Name) (n : ℕ) → size (doubled x n) + 1 ≡ 2 ^ suc n
unfolding doubled
double_size x zero = refl
double_size x (suc n) = omega (arith, double_size x n, two-pow-succ (suc n))

chain_size : (x : Name) (n : ℕ) → size (chained x n) ≡ 2 * n + 1
unfolding chained
chain_size x zero = refl
chain_size x (suc n) = omega (arith, chain_size x n)

chain_depth : (x : Name) (n : ℕ) → n < depth (chained x n)
unfolding chained
chain_depth x zero = omega arith
chain_depth x (suc n) = omega (arith, chain_depth x n)

pub doubled_large : (x : Name) (n : ℕ) → n ≡ 20 → fit (doubled x n) ≡ Fit.TooLarge
doubled_large x n e = size_large (size (doubled x n)) (depth (doubled x n)) (let k = double_size x n ∙ ap (λ m. 2 ^ suc m) e in omega arith)

pub chained_deep : (x : Name) (n : ℕ) → n ≡ 2000 → fit (chained x n) ≡ Fit.TooDeep
chained_deep x n e = size_deep (size (chained x n)) (depth (chained x n)) (omega (arith, chain_size x n)) (omega (arith, chain_depth x n))

-- they are closed
double_within : (x : Name) (n m : ℕ) → Within m (doubled x n)
unfolding doubled
double_within x zero m = tt
double_within x (suc n) m = (double_within x n m, double_within x n (m + 1))

double_holds : (x : Name) (n : ℕ) → HoldsOnly [] (doubled x n)
unfolding doubled
double_holds x zero = tt
double_holds x (suc n) = (double_holds x n, double_holds x n)

chain_within : (x : Name) (n m : ℕ) → Within m (chained x n)
unfolding chained
chain_within x zero m = tt
chain_within x (suc n) m = (tt, chain_within x n (m + 1))

chain_holds : (x : Name) (n : ℕ) → HoldsOnly [] (chained x n)
unfolding chained
chain_holds x zero = tt
chain_holds x (suc n) = (tt, chain_holds x n)

term_closed : (bank : Terms) (t : TermId) (tree : Tree) → IsTerm bank t tree → Within 0 tree → HoldsOnly [] tree → IsClosed bank 0 t
term_closed bank t tree h w k = record { has = h.has; within = along (Within 0) (sym h.is) w; holds = along (HoldsOnly []) (sym h.is) k }

pub doubled_closed : (bank : Terms) (t : TermId) (x : Name) (n : ℕ) → IsTerm bank t (doubled x n) → IsClosed bank 0 t
doubled_closed bank t x n h = term_closed bank t (doubled x n) h (double_within x n 0) (double_holds x n)

pub chained_closed : (bank : Terms) (t : TermId) (x : Name) (n : ℕ) → IsTerm bank t (chained x n) → IsClosed bank 0 t
chained_closed bank t x n h = term_closed bank t (chained x n) h (chain_within x n 0) (chain_holds x n)

-- and count as each type that passes the same limit
pub large_alike : (bank : Terms) (t : TermId) (x : Name) (n : ℕ) (tree : Tree) → n ≡ 20 → IsTerm bank t (doubled x n) → fit tree ≡ Fit.TooLarge → fitting (tree_of bank t) ≡ fitting tree
large_alike bank t x n tree e h k = ap fitting h.is ∙ fitting_large (doubled x n) (doubled_large x n e) ∙ sym (fitting_large tree k)

pub deep_alike : (bank : Terms) (t : TermId) (x : Name) (n : ℕ) (tree : Tree) → n ≡ 2000 → IsTerm bank t (chained x n) → fit tree ≡ Fit.TooDeep → fitting (tree_of bank t) ≡ fitting tree
deep_alike bank t x n tree e h k = ap fitting h.is ∙ fitting_deep (chained x n) (chained_deep x n e) ∙ sym (fitting_deep tree k)

-- as a bank makes them
pub sort_made : (bank : Terms) (t : TermId) (x : Name) → IsTerm bank t (Tree.Sort Universe.Base) → IsTerm bank t (doubled x 0) × IsTerm bank t (chained x 0)
unfolding doubled chained
sort_made bank t x h = (h, h)

pub doubled_made : (old new : Terms) (binder : NameId) (kind t : TermId) (x : Name) (i : ℕ) → text_of old binder ≡ x → IsTerm old kind (doubled x i) → IsTerm new t (Tree.Prod (text_of old binder) (tree_of old kind) (tree_of old kind)) → IsTerm new t (doubled x (i + 1))
doubled_made old new binder kind t x i e h made = record { has = made.has; is = made.is ∙ ap₂ (λ y u. Tree.Prod y u u) e h.is ∙ sym (doubled_next x i) }

pub chained_made : (old new : Terms) (binder : NameId) (domain kind t : TermId) (x : Name) (i : ℕ) → text_of old binder ≡ x → IsTerm old domain (Tree.Sort Universe.Base) → IsTerm old kind (chained x i)
    → IsTerm new t (Tree.Prod (text_of old binder) (tree_of old domain) (tree_of old kind)) → IsTerm new t (chained x (i + 1))
chained_made old new binder domain kind t x i e d h made = record { has = made.has; is = made.is ∙ ap (λ y. Tree.Prod y (tree_of old domain) (tree_of old kind)) e ∙ ap₂ (λ u v. Tree.Prod x u v) d.is h.is ∙ sym (chained_next x i) }

pub type_closed : (bank : Terms) (t : TermId) (f : Family) → IsWritten f → IsTerm bank t (family_type f) → IsClosed bank 0 t
type_closed bank t f w h = let s = family_closed f w in term_closed bank t (family_type f) h s.within s.holds

-- what is made in the place of a type that passes a limit
module _ (bank : Terms) (x : Name) where
  pub large_closed : (r : Result TermId NoMemory) → IfOk r (λ t. IsTerm bank t (doubled x 20)) → IfOk r (IsClosed bank 0)
  large_closed (Ok t) h = doubled_closed bank t x 20 h
  large_closed (Err e) h = tt

  pub deep_closed : (r : Result TermId NoMemory) → IfOk r (λ t. IsTerm bank t (chained x 2000)) → IfOk r (IsClosed bank 0)
  deep_closed (Ok t) h = chained_closed bank t x 2000 h
  deep_closed (Err e) h = tt

  pub large_counts : (r : Result TermId NoMemory) (tree : Tree) → fit tree ≡ Fit.TooLarge → IfOk r (λ t. IsTerm bank t (doubled x 20)) → IfOk r (λ t. fitting (tree_of bank t) ≡ fitting tree)
  large_counts (Ok t) tree k h = large_alike bank t x 20 tree refl h k
  large_counts (Err e) tree k h = tt

  pub deep_counts : (r : Result TermId NoMemory) (tree : Tree) → fit tree ≡ Fit.TooDeep → IfOk r (λ t. IsTerm bank t (chained x 2000)) → IfOk r (λ t. fitting (tree_of bank t) ≡ fitting tree)
  deep_counts (Ok t) tree k h = deep_alike bank t x 2000 tree refl h k
  deep_counts (Err e) tree k h = tt
