-- The test of equal trees is one of heads and of parts.
use Rattle.std.proofs.Common.{◌≡◌, ℕ, suc, refl, sym, ◌∙◌, ap, arith, Bool, true, false, ◌&&◌, eqb}
use Rattle.lq_trees.specs.Tree.{Tree, Trees, none, more}
use Rattle.lq_trees.specs.Tree.Tree.{Rel, Var, Sort, Prod, Lam, Let, App, Const, Ind, Ctor, Elim, Evar}
use Rattle.lq_trees.specs.Reading.{entries}
use Rattle.lq_solving.specs.Alike.{same_tree, same_trees}
use Rattle.lq_evars.specs.Heads.{how_many, head_of, same_head, parts_in, all_equal}

and_one : (a : Bool) → a ≡ (a && true)
and_one true = refl
and_one false = refl

and_two : (a b : Bool) → (a && b) ≡ (true && (a && (b && true)))
and_two true b = and_one b
and_two false b = refl

and_three : (a b c : Bool) → ((a && b) && c) ≡ (true && (a && (b && (c && true))))
and_three true true c = and_one c
and_three true false c = refl
and_three false b c = refl

and_turn : (a b c d : Bool) → c ≡ (b && d) → (a && c) ≡ ((a && b) && d)
and_turn true b c d e = e
and_turn false b c d e = refl

and_deep : (a b c d : Bool) → c ≡ (b && d) → (a && c) ≡ (b && (a && d))
and_deep true true c d e = e
and_deep true false c d e = e
and_deep false true c d e = refl
and_deep false false c d e = refl

none_some : (n : ℕ) → eqb 0 (suc n) ≡ false
none_some n = grind arith

some_none : (n : ℕ) → eqb (suc n) 0 ≡ false
some_none n = grind arith

both_some : (n m : ℕ) → eqb (suc n) (suc m) ≡ eqb n m
both_some n m = by (eqb (suc n) (suc m)) (eqb n m) refl refl
  where
    by : (a b : Bool) → eqb (suc n) (suc m) ≡ a → eqb n m ≡ b → a ≡ b
    by true true e f = refl
    by false false e f = refl
    by true false e f = absurd (grind arith)
    by false true e f = absurd (grind arith)

pub each_alike_is : (ts us : Trees) → same_trees ts us ≡ (eqb (how_many ts) (how_many us) && all_equal (entries ts) (entries us))
unfolding same_tree entries
each_alike_is none none = refl
each_alike_is none (more u us) = ap (λ z. z && true) (sym (none_some (how_many us)))
each_alike_is (more t ts) none = ap (λ z. z && true) (sym (some_none (how_many ts)))
each_alike_is (more t ts) (more u us) =
    and_deep (same_tree t u) (eqb (how_many ts) (how_many us)) (same_trees ts us) (all_equal (entries ts) (entries us)) (each_alike_is ts us)
    ∙ ap (λ z. z && (same_tree t u && all_equal (entries ts) (entries us))) (sym (both_some (how_many ts) (how_many us)))

pub alike_is : (t u : Tree) → same_tree t u ≡ (same_head (head_of t) (head_of u) && all_equal (parts_in t) (parts_in u))
unfolding same_tree
alike_is (Rel i) (Rel j) = and_one _
alike_is (Var x) (Var y) = and_one _
alike_is (Sort s) (Sort t) = and_one _
alike_is (Prod x A B) (Prod y C D) = and_two (same_tree A C) (same_tree B D)
alike_is (Lam x A B) (Lam y C D) = and_two (same_tree A C) (same_tree B D)
alike_is (Let x v A B) (Let y w C D) = and_three (same_tree v w) (same_tree A C) (same_tree B D)
alike_is (App f a) (App h b) = and_two (same_tree f h) (same_tree a b)
alike_is (Const c) (Const d) = and_one _
alike_is (Ind c) (Ind d) = and_one _
alike_is (Ctor c k) (Ctor d l) = and_one _
alike_is (Elim c s) (Elim d t) = and_one _
alike_is (Evar n ts) (Evar m us) = and_turn (eqb n m) (eqb (how_many ts) (how_many us)) (same_trees ts us) (all_equal (entries ts) (entries us)) (each_alike_is ts us)
alike_is _ _ = refl
