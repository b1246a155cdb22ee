-- Whether two trees are the same but for the names of their binders, as a test.
use Rattle.std.specs.Prelude.{◌==◌, ◌&&◌, Bool, true, false}
use Rattle.lq_trees.specs.Tree.{Tree, Trees, same_name, none, more}
use Rattle.lq_trees.specs.Tree.Tree.{Rel, Var, Sort, Prod, Lam, Let, App, Const, Ind, Ctor, Elim, Evar}
use Rattle.lq_calculus.specs.Checking.{same_sort}

unfoldable mutual
  pub alike : Tree → Tree → Bool
  alike (Rel i) (Rel j) = i == j
  alike (Var x) (Var y) = same_name x y
  alike (Sort s) (Sort t) = same_sort s t
  alike (Prod x A B) (Prod y C D) = alike A C && alike B D
  alike (Lam x A t) (Lam y C u) = alike A C && alike t u
  alike (Let x v A t) (Let y w C u) = alike v w && alike A C && alike t u
  alike (App f a) (App g b) = alike f g && alike a b
  alike (Const c) (Const d) = same_name c d
  alike (Ind c) (Ind d) = same_name c d
  alike (Ctor c k) (Ctor d l) = same_name c d && k == l
  alike (Elim c s) (Elim d t) = same_name c d && same_sort s t
  alike (Evar n ts) (Evar m us) = n == m && each_alike ts us
  alike _ _ = false

  pub each_alike : Trees → Trees → Bool
  each_alike none none = true
  each_alike (more t ts) (more u us) = alike t u && each_alike ts us
  each_alike _ _ = false
