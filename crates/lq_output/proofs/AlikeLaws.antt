-- The test whether two trees are the same but for the names of their binders answers just that.
use Rattle.std.proofs.Common.{◌≡◌, ◌↔◌, [], refl, ap, ap₂, Bool, true, false, ◌&&◌, eqb-true, eq-eqb}
use Rattle.std.specs.Prelude.{IsTrue}
use Rattle.std.proofs.lemmas.Slice.Eq.{bytes_eq-Decides}
use Rattle.lq_trees.specs.declared.Sort.{Sort as Universe}
use Rattle.lq_trees.specs.Tree.{Name, Tree, Trees, same_name, none, more}
use Rattle.lq_trees.specs.Tree.Tree.{Rel, Var, Sort, Prod, Lam, Let, App, Const, Ind, Ctor, Elim, Evar}
use Rattle.lq_trees.specs.Same.{each_nameless, Same}
use Rattle.lq_trees.proofs.FillLaws.{let_is}
use Rattle.lq_calculus.specs.Checking.{same_sort}
use Rattle.lq_calculus.proofs.ConvSound.{and_true, same_name_is, same_sort_is}
use Rattle.lq_output.specs.Alike.{alike, each_alike}

both_true : (a b : Bool) → a ≡ true → b ≡ true → (a && b) ≡ true
both_true true b p q = q
both_true false b p q = cc

is_same_name : (x y : Name) → x ≡ y → same_name x y ≡ true
is_same_name x y e = (bytes_eq-Decides x y).1 e

is_same_sort : (s t : Universe) → s ≡ t → same_sort s t ≡ true
unfolding same_sort
is_same_sort Universe.Base Universe.Base e = refl
is_same_sort Universe.Base (Universe.Level j) e = cc
is_same_sort (Universe.Level i) Universe.Base e = cc
is_same_sort (Universe.Level i) (Universe.Level j) e = eq-eqb i j cc

-- a yes is right
mutual
  unfolding alike each_alike

  pub alike_same : (a b : Tree) → alike a b ≡ true → Same a b
  alike_same (Rel i) (Rel j) h = ap Rel (eqb-true i j h)
  alike_same (Var x) (Var y) h = ap Var (same_name_is x y h)
  alike_same (Sort s) (Sort t) h = ap Sort (same_sort_is s t h)
  alike_same (Prod x A B) (Prod y C D) h = let p = and_true _ _ h in ap₂ (Prod []) (alike_same A C p.0) (alike_same B D p.1)
  alike_same (Lam x A B) (Lam y C D) h = let p = and_true _ _ h in ap₂ (Lam []) (alike_same A C p.0) (alike_same B D p.1)
  alike_same (Let x v A B) (Let y w C D) h =
      let p = and_true (alike v w && alike A C) (alike B D) h in
      let q = and_true (alike v w) (alike A C) p.0 in
      let_is [] (alike_same v w q.0) (alike_same A C q.1) (alike_same B D p.1)
  alike_same (App f a) (App g b) h = let p = and_true _ _ h in ap₂ App (alike_same f g p.0) (alike_same a b p.1)
  alike_same (Const c) (Const d) h = ap Const (same_name_is c d h)
  alike_same (Ind c) (Ind d) h = ap Ind (same_name_is c d h)
  alike_same (Ctor c k) (Ctor d l) h = let p = and_true _ _ h in ap₂ Ctor (same_name_is c d p.0) (eqb-true k l p.1)
  alike_same (Elim c s) (Elim d t) h = let p = and_true _ _ h in ap₂ Elim (same_name_is c d p.0) (same_sort_is s t p.1)
  alike_same (Evar n ts) (Evar m us) h = let p = and_true _ _ h in ap₂ Evar (eqb-true n m p.0) (each_alike_same ts us p.1)
  alike_same _ _ h = cc

  pub each_alike_same : (ts us : Trees) → each_alike ts us ≡ true → each_nameless ts ≡ each_nameless us
  each_alike_same none none h = refl
  each_alike_same (more t ts) (more u us) h = let p = and_true _ _ h in ap₂ more (alike_same t u p.0) (each_alike_same ts us p.1)
  each_alike_same _ _ h = cc

-- and where it is right, it comes
mutual
  unfolding alike each_alike

  pub same_alike : (a b : Tree) → Same a b → alike a b ≡ true
  same_alike (Rel i) (Rel j) h = eq-eqb i j cc
  same_alike (Var x) (Var y) h = is_same_name x y cc
  same_alike (Sort s) (Sort t) h = is_same_sort s t cc
  same_alike (Prod x A B) (Prod y C D) h = both_true _ _ (same_alike A C cc) (same_alike B D cc)
  same_alike (Lam x A B) (Lam y C D) h = both_true _ _ (same_alike A C cc) (same_alike B D cc)
  same_alike (Let x v A B) (Let y w C D) h = both_true _ _ (both_true _ _ (same_alike v w cc) (same_alike A C cc)) (same_alike B D cc)
  same_alike (App f a) (App g b) h = both_true _ _ (same_alike f g cc) (same_alike a b cc)
  same_alike (Const c) (Const d) h = is_same_name c d cc
  same_alike (Ind c) (Ind d) h = is_same_name c d cc
  same_alike (Ctor c k) (Ctor d l) h = both_true _ _ (is_same_name c d cc) (eq-eqb k l cc)
  same_alike (Elim c s) (Elim d t) h = both_true _ _ (is_same_name c d cc) (is_same_sort s t cc)
  same_alike (Evar n ts) (Evar m us) h = both_true _ _ (eq-eqb n m cc) (same_each_alike ts us cc)
  same_alike _ _ h = cc

  pub same_each_alike : (ts us : Trees) → each_nameless ts ≡ each_nameless us → each_alike ts us ≡ true
  same_each_alike none none h = refl
  same_each_alike (more t ts) (more u us) h = both_true _ _ (same_alike t u cc) (same_each_alike ts us cc)
  same_each_alike _ _ h = cc

pub alike_iff : (a b : Tree) → IsTrue (alike a b) ↔ Same a b
alike_iff a b = (alike_same a b, same_alike a b)
