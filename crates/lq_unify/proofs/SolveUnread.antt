-- What solving says of terms as they are kept, whose heads are read.
use Rattle.std.proofs.Common.{◌≡◌, ◌∙◌, ℕ, true, false, refl, sym, ap, ap₂, arith, List, [], ◌∷◌, Option, Some, None}
use Rattle.lq_trees.specs.Tree.{Name, Tree, Trees, same_name, none, more}
use Rattle.lq_trees.specs.Tree.Tree.{Rel, Var, Sort, Prod, Lam, Let, App, Const, Ind, Ctor, Elim, Evar}
use Rattle.lq_solving.specs.Stores.{Variable, Assigned, Store, read}
use Rattle.lq_solving.specs.Unification.{place_of, solve, or_else, by_right, by_solving, is_variable}
use Rattle.lq_solving.proofs.ReadLaws.{filled, filled_each}
use Rattle.lq_solving.proofs.UnifyRows.{each_filled, none_filled}
use Rattle.lq_unify.specs.Heads.{HasOpenHead}
use Rattle.lq_unify.specs.Unread.{formed}
use Rattle.lq_unify.proofs.UnreadLaws.{formed_reads}

-- ---- places of entries

-- each of several heads is read
abbrev pub EachOpen : List Assigned → Trees → Type 0
EachOpen as_ none = Unit {0}
EachOpen as_ (more t ts) = HasOpenHead as_ t × EachOpen as_ ts

-- an entry that is kept, with its head read, has the place that it has as read
pub place_reads : (vs : List Variable) (as_ : List Assigned) (ys : List Name) (es : Trees) (x : Name) → EachOpen as_ es → place_of ys es x ≡ place_of ys (filled_each vs as_ es) x
unfolding place_of formed
place_reads vs as_ [] none x h = refl
place_reads vs as_ [] (more e es) x h = refl
place_reads vs as_ (y ∷ ys) none x h = sym (ap (λ ts. place_of (y ∷ ys) ts x) (none_filled vs as_))
place_reads vs as_ (y ∷ ys) (more e es) x h = at e (formed_reads vs as_ e h.0) (place_reads vs as_ ys es x h.1) ∙ sym (ap (λ ts. place_of (y ∷ ys) ts x) (each_filled vs as_ e es))
  where
    at : (t : Tree) → filled vs as_ t ≡ formed (filled vs as_) (filled_each vs as_) t → place_of ys es x ≡ place_of ys (filled_each vs as_ es) x → place_of (y ∷ ys) (more t es) x ≡ place_of (y ∷ ys) (more (filled vs as_ t) (filled_each vs as_ es)) x
    at (Rel i) e ih = ih ∙ sym (ap (λ t. place_of (y ∷ ys) (more t (filled_each vs as_ es)) x) e)
    at (Var z) e ih =
        ap (λ o. elim (same_name z x) as (λ w. Option Tree) [ true ↦ Some (Var y) | false ↦ o ]) ih
        ∙ sym (ap (λ t. place_of (y ∷ ys) (more t (filled_each vs as_ es)) x) e)
    at (Sort s) e ih = ih ∙ sym (ap (λ t. place_of (y ∷ ys) (more t (filled_each vs as_ es)) x) e)
    at (Prod n A B) e ih = ih ∙ sym (ap (λ t. place_of (y ∷ ys) (more t (filled_each vs as_ es)) x) e)
    at (Lam n A B) e ih = ih ∙ sym (ap (λ t. place_of (y ∷ ys) (more t (filled_each vs as_ es)) x) e)
    at (Let n v A B) e ih = ih ∙ sym (ap (λ t. place_of (y ∷ ys) (more t (filled_each vs as_ es)) x) e)
    at (App f a) e ih = ih ∙ sym (ap (λ t. place_of (y ∷ ys) (more t (filled_each vs as_ es)) x) e)
    at (Const c) e ih = ih ∙ sym (ap (λ t. place_of (y ∷ ys) (more t (filled_each vs as_ es)) x) e)
    at (Ind c) e ih = ih ∙ sym (ap (λ t. place_of (y ∷ ys) (more t (filled_each vs as_ es)) x) e)
    at (Ctor c k) e ih = ih ∙ sym (ap (λ t. place_of (y ∷ ys) (more t (filled_each vs as_ es)) x) e)
    at (Elim c s) e ih = ih ∙ sym (ap (λ t. place_of (y ∷ ys) (more t (filled_each vs as_ es)) x) e)
    at (Evar k ts) e ih = ih ∙ sym (ap (λ t. place_of (y ∷ ys) (more t (filled_each vs as_ es)) x) e)

-- ---- which side is solved

module _ (s : Store) where
  -- a term and entries as read
  abbrev r : Tree → Tree
  r t = filled s.variables s.values t

  abbrev rs : Trees → Trees
  rs ts = filled_each s.variables s.values ts

  right_none : (t u : Tree) → is_variable u ≡ false → by_right s t (formed r rs u) ≡ None
  unfolding by_right formed is_variable
  right_none t (Rel i) e = refl
  right_none t (Var x) e = refl
  right_none t (Sort q) e = refl
  right_none t (Prod x A B) e = refl
  right_none t (Lam x A B) e = refl
  right_none t (Let x v A B) e = refl
  right_none t (App f a) e = refl
  right_none t (Const c) e = refl
  right_none t (Ind c) e = refl
  right_none t (Ctor c k) e = refl
  right_none t (Elim c q) e = refl
  right_none t (Evar k ts) e = absurd (grind arith)

  left_none : (t u : Tree) → is_variable t ≡ false → by_solving s (formed r rs t) u ≡ by_right s (formed r rs t) u
  unfolding by_solving formed is_variable
  left_none (Rel i) u e = refl
  left_none (Var x) u e = refl
  left_none (Sort q) u e = refl
  left_none (Prod x A B) u e = refl
  left_none (Lam x A B) u e = refl
  left_none (Let x v A B) u e = refl
  left_none (App f a) u e = refl
  left_none (Const c) u e = refl
  left_none (Ind c) u e = refl
  left_none (Ctor c k) u e = refl
  left_none (Elim c q) u e = refl
  left_none (Evar k ts) u e = absurd (grind arith)

  module _ (t u : Tree) (a : HasOpenHead s.values t) (b : HasOpenHead s.values u) where
    reads_formed : by_solving s (read s t) (read s u) ≡ by_solving s (formed r rs t) (formed r rs u)
    unfolding read
    reads_formed = ap₂ (by_solving s) (formed_reads s.variables s.values t a) (formed_reads s.variables s.values u b)

    -- neither is a variable
    pub solving_none : is_variable t ≡ false → is_variable u ≡ false → by_solving s (read s t) (read s u) ≡ None
    solving_none e f = reads_formed ∙ left_none t (formed r rs u) e ∙ right_none (formed r rs t) u f

  module _ (k : ℕ) (es : Trees) (u : Tree) (a : HasOpenHead s.values (Evar k es)) (b : HasOpenHead s.values u) where
    -- the left one alone
    pub solving_left : is_variable u ≡ false → by_solving s (read s (Evar k es)) (read s u) ≡ Some (solve s k (rs es) (read s u))
    unfolding by_solving or_else formed read
    solving_left f =
        reads_formed (Evar k es) u a b
        ∙ ap (λ o. Some (or_else (solve s k (rs es) (formed r rs u)) o)) (right_none (Evar k (rs es)) u f)
        ∙ ap (λ z. Some (solve s k (rs es) z)) (sym (formed_reads s.variables s.values u b))

    -- the right one alone
    pub solving_right : is_variable u ≡ false → by_solving s (read s u) (read s (Evar k es)) ≡ Some (solve s k (rs es) (read s u))
    unfolding by_right formed read
    solving_right f =
        reads_formed u (Evar k es) b a ∙ left_none u (formed r rs (Evar k es)) f
        ∙ ap (λ z. Some (solve s k (rs es) z)) (sym (formed_reads s.variables s.values u b))

  -- both: the left one, and the right one where that says No
  pub solving_both : (k l : ℕ) (es fs : Trees) → HasOpenHead s.values (Evar k es) → HasOpenHead s.values (Evar l fs) →
      by_solving s (read s (Evar k es)) (read s (Evar l fs)) ≡ Some (or_else (solve s k (rs es) (read s (Evar l fs))) (Some (solve s l (rs fs) (read s (Evar k es)))))
  unfolding by_solving by_right formed read
  solving_both k l es fs a b =
      reads_formed (Evar k es) (Evar l fs) a b
      ∙ ap₂ (λ x y. Some (or_else (solve s k (rs es) x) (Some (solve s l (rs fs) y)))) (sym (formed_reads s.variables s.values (Evar l fs) b)) (sym (formed_reads s.variables s.values (Evar k es) a))
