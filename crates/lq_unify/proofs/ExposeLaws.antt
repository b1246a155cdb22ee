-- A term taken apart and put together with another head.
use Rattle.std.proofs.Common.{◌≡◌, ◌<◌, ◌∙◌, ℕ, sym, ap, List, [], ◌∷◌, Some}
use Rattle.std.proofs.Common.{subst as along}
use Rattle.lq_trees.specs.Tree.{Name, Tree, Trees}
use Rattle.lq_trees.specs.Tree.Tree.{Rel, Var, Sort, Prod, Lam, Let, App, Const, Ind, Ctor, Elim, Evar}
use Rattle.lq_trees.specs.Index.{Within, EachWithin}
use Rattle.lq_calculus.specs.Contraction.{apply, spine}
use Rattle.lq_calculus.proofs.ConvSound.{spine_apply}
use Rattle.lq_solving.specs.Stores.{Variable, Assigned, Store, body_at, names_at, find_value, read}
use Rattle.lq_solving.specs.Kept.{IsOver, EachIsOver, IsStore}
use Rattle.lq_solving.proofs.OverLaws.{put_over, entries_over, entries_within}
use Rattle.lq_trees.proofs.Reach.{within-instance}
use Rattle.lq_trees.specs.Reading.{entries}
use Rattle.std.specs.Prelude.{zip}
use Rattle.lq_unify.specs.Heads.{HasOpenHead, head_rank}
use Rattle.lq_unify.proofs.HeadLaws.{rank_falls, head_reads}

-- a term over the variables without loose bound variables
abbrev pub IsClosedOver : List Variable → Tree → Type 0
IsClosedOver vs t = IsOver vs t × Within 0 t

abbrev pub EachClosedOver : List Variable → List Tree → Type 0
EachClosedOver vs [] = Unit {0}
EachClosedOver vs (t ∷ ts) = IsClosedOver vs t × EachClosedOver vs ts

module _ (vs : List Variable) where
  pub spine_over : (t : Tree) (args : List Tree) → IsClosedOver vs t → EachClosedOver vs args → IsClosedOver vs (spine t args).0 × EachClosedOver vs (spine t args).1
  unfolding spine
  spine_over (App f a) args h k = spine_over f (a ∷ args) (h.0.0, h.1.0) ((h.0.1, h.1.1), k)
  spine_over (Rel j) args h k = (h, k)
  spine_over (Var x) args h k = (h, k)
  spine_over (Sort u) args h k = (h, k)
  spine_over (Prod x A B) args h k = (h, k)
  spine_over (Lam x A B) args h k = (h, k)
  spine_over (Let x v A B) args h k = (h, k)
  spine_over (Const c) args h k = (h, k)
  spine_over (Ind c) args h k = (h, k)
  spine_over (Ctor c m) args h k = (h, k)
  spine_over (Elim c u) args h k = (h, k)
  spine_over (Evar m ts) args h k = (h, k)

  pub apply_over : (f : Tree) (ts : List Tree) → IsClosedOver vs f → EachClosedOver vs ts → IsClosedOver vs (apply f ts)
  unfolding apply
  apply_over f [] h k = h
  apply_over f (t ∷ ts) h k = apply_over (App f t) ts ((h.0, k.0.0), (h.1, k.0.1)) k.1

-- a head that is open makes the whole open
pub open_spine : (as_ : List Assigned) (t : Tree) (args : List Tree) → HasOpenHead as_ (spine t args).0 → HasOpenHead as_ t
unfolding spine
open_spine as_ (App f a) args h = open_spine as_ f (a ∷ args) h
open_spine as_ (Rel j) args h = h
open_spine as_ (Var x) args h = h
open_spine as_ (Sort u) args h = h
open_spine as_ (Prod x A B) args h = h
open_spine as_ (Lam x A B) args h = h
open_spine as_ (Let x v A B) args h = h
open_spine as_ (Const c) args h = h
open_spine as_ (Ind c) args h = h
open_spine as_ (Ctor c m) args h = h
open_spine as_ (Elim c u) args h = h
open_spine as_ (Evar m ts) args h = h

-- the value of a head variable is put in for it
pub record Unfolds (s : Store) (T U : Tree) : Type 0 where
  pub over : IsClosedOver s.variables U
  pub reads : read s U ≡ read s T
  pub falls : head_rank s.values U < head_rank s.values T

-- a body put in for a hypothesis keeps what is asked
pub body_over : (vs : List Variable) (xs : List Name) (b : Tree) (es : Trees) → IsClosedOver vs b → EachIsOver vs es → EachWithin 0 es → IsClosedOver vs (body_at xs b es)
unfolding body_at
body_over vs xs b es h o w = (put_over vs (zip xs (entries es)) (entries_over vs xs es o) 0 b h.0, within-instance 0 (zip xs (entries es)) b (entries_within 0 xs es w) h.1)

module _ (s : Store) (i : IsStore s) (T : Tree) (over : IsClosedOver s.variables T) (h : Tree) (args : List Tree) (e : spine T [] ≡ (h, args)) (n : ℕ) (es : Trees) (is : h ≡ Evar n es) (b : Tree) (found : find_value s.values n ≡ Some b) where
  whole : apply (Evar n es) args ≡ T
  unfolding apply
  whole = ap (λ z. apply z args) (sym is) ∙ ap (λ p. apply p.0 p.1) (sym e) ∙ spine_apply T []

  parts_over : IsClosedOver s.variables (Evar n es) × EachClosedOver s.variables args
  parts_over = along (λ z. IsClosedOver s.variables z × EachClosedOver s.variables args) is (along (λ p. IsClosedOver s.variables p.0 × EachClosedOver s.variables p.1) e (spine_over s.variables T [] over tt))

  pub unfolds : IsClosedOver s.variables (body_at (names_at s.variables n) b es) → Unfolds s T (apply (body_at (names_at s.variables n) b es) args)
  unfolding read
  unfolds k = record {
    over = apply_over s.variables (body_at (names_at s.variables n) b es) args k parts_over.1;
    reads = head_reads s.variables s.values i.values n b es args found parts_over.0.0.2 ∙ ap (read s) whole;
    falls = along (λ z. head_rank s.values (apply (body_at (names_at s.variables n) b es) args) < head_rank s.values z) whole (rank_falls s.variables s.values i.values n b (names_at s.variables n) es args found);
  }
