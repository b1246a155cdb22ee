-- A solution that has hypotheses for hypotheses is as large and as deep as the term.
use Rattle.std.proofs.Common.{◌≡◌, ◌+◌, ◌∙◌, ℕ, max, refl, sym, ap, ap₂, arith, true, false, Bool, Option, Some, None}
use Rattle.lq_trees.specs.Tree.{Name, Tree, Trees, none, more}
use Rattle.lq_trees.specs.Tree.Tree.{Rel, Var, Sort, Prod, Lam, Let, App, Const, Ind, Ctor, Elim, Evar}
use Rattle.lq_trees.specs.Size.{size, sizes, depth, deepest, fit_of, fit}
use Rattle.lq_solving.proofs.SolveLaws.{two_some, three_some, some_is}
use Rattle.lq_unify.specs.Solutions.{is_barred, solution, solution_each}

-- as many nodes, and as deep
pub record IsAsLarge (t u : Tree) : Type 0 where
  pub size : size u ≡ size t
  pub depth : depth u ≡ depth t

pub record AreAsLarge (ts us : Trees) : Type 0 where
  pub sizes : sizes us ≡ sizes ts
  pub deepest : deepest us ≡ deepest ts

pub fits_alike : (t u : Tree) → IsAsLarge t u → fit u ≡ fit t
fits_alike t u h = ap₂ fit_of h.size h.depth

same_size : (t : Tree) → IsAsLarge t t
same_size t = record { size = refl; depth = refl }

of_equal : (t u v : Tree) → IsAsLarge t u → u ≡ v → IsAsLarge t v
of_equal t u v h e = record { size = ap size (sym e) ∙ h.size; depth = ap depth (sym e) ∙ h.depth }

each_equal : (ts us vs : Trees) → AreAsLarge ts us → us ≡ vs → AreAsLarge ts vs
each_equal ts us vs h e = record { sizes = ap sizes (sym e) ∙ h.sizes; deepest = ap deepest (sym e) ∙ h.deepest }

module _ (k : Option ℕ) (place : Name → Option Tree) (named : (x : Name) (t : Tree) → place x ≡ Some t → (y : Name) × (t ≡ Var y)) where
  at_name : (x y : Name) (b : Tree) → b ≡ Var y → IsAsLarge (Var x) b
  at_name x y b e = record { size = ap size e; depth = ap depth e }

  at_variable : (n : ℕ) (ts : Trees) (b : Tree) (o : Bool) (p : Option Trees) → ((us : Trees) → p ≡ Some us → AreAsLarge ts us) →
      elim o as (λ z. Option Tree) [ true ↦ None | false ↦ elim p [ None ↦ None | Some us ↦ Some (Evar n us) ] ] ≡ Some b → IsAsLarge (Evar n ts) b
  at_variable n ts b true p f e = absurd (grind arith)
  at_variable n ts b false None f e = absurd (grind arith)
  at_variable n ts b false (Some us) f e =
      let h = f us refl in of_equal (Evar n ts) (Evar n us) b (record { size = ap (λ i. 1 + i) h.sizes; depth = ap (λ i. 1 + i) h.deepest }) (some_is e)

  mutual
    unfolding solution

    pub solution_size : (t b : Tree) → solution k place t ≡ Some b → IsAsLarge t b
    solution_size (Rel i) b e = of_equal (Rel i) (Rel i) b (same_size (Rel i)) (some_is e)
    solution_size (Var x) b e = let p = named x b e in at_name x p.0 b p.1
    solution_size (Sort s) b e = of_equal (Sort s) (Sort s) b (same_size (Sort s)) (some_is e)
    solution_size (Prod x A B) b e =
        let p = two_some (solution k place A) (solution k place B) (Prod x) b e in let h = solution_size A p.0 p.2 in let i = solution_size B p.1 p.3 in
        of_equal (Prod x A B) (Prod x p.0 p.1) b (record { size = ap₂ (λ m n. 1 + m + n) h.size i.size; depth = ap₂ (λ m n. 1 + max m n) h.depth i.depth }) p.4
    solution_size (Lam x A B) b e =
        let p = two_some (solution k place A) (solution k place B) (Lam x) b e in let h = solution_size A p.0 p.2 in let i = solution_size B p.1 p.3 in
        of_equal (Lam x A B) (Lam x p.0 p.1) b (record { size = ap₂ (λ m n. 1 + m + n) h.size i.size; depth = ap₂ (λ m n. 1 + max m n) h.depth i.depth }) p.4
    solution_size (Let x v A B) b e =
        let p = three_some (solution k place v) (solution k place A) (solution k place B) (Let x) b e in
        let g = solution_size v p.0 p.3 in let h = solution_size A p.1 p.4 in let i = solution_size B p.2 p.5 in
        of_equal (Let x v A B) (Let x p.0 p.1 p.2) b
        (record {
          size = ap₂ (λ l m. 1 + l + m + size p.2) g.size h.size ∙ ap (λ n. 1 + size v + size A + n) i.size;
          depth = ap₂ (λ l m. 1 + max l (max m (depth p.2))) g.depth h.depth ∙ ap (λ n. 1 + max (depth v) (max (depth A) n)) i.depth;
        }) p.6
    solution_size (App f a) b e =
        let p = two_some (solution k place f) (solution k place a) App b e in let h = solution_size f p.0 p.2 in let i = solution_size a p.1 p.3 in
        of_equal (App f a) (App p.0 p.1) b (record { size = ap₂ (λ m n. 1 + m + n) h.size i.size; depth = ap₂ (λ m n. 1 + max m n) h.depth i.depth }) p.4
    solution_size (Const c) b e = of_equal (Const c) (Const c) b (same_size (Const c)) (some_is e)
    solution_size (Ind c) b e = of_equal (Ind c) (Ind c) b (same_size (Ind c)) (some_is e)
    solution_size (Ctor c i) b e = of_equal (Ctor c i) (Ctor c i) b (same_size (Ctor c i)) (some_is e)
    solution_size (Elim c s) b e = of_equal (Elim c s) (Elim c s) b (same_size (Elim c s)) (some_is e)
    solution_size (Evar n ts) b e = at_variable n ts b (is_barred k n) (solution_each k place ts) (λ us f. each_solution_size ts us f) e

    pub each_solution_size : (ts us : Trees) → solution_each k place ts ≡ Some us → AreAsLarge ts us
    each_solution_size none us e = each_equal none none us (record { sizes = refl; deepest = refl }) (some_is e)
    each_solution_size (more t ts) us e =
        let p = two_some (solution k place t) (solution_each k place ts) more us e in let h = solution_size t p.0 p.2 in let i = each_solution_size ts p.1 p.3 in
        each_equal (more t ts) (more p.0 p.1) us (record { sizes = ap₂ (λ m n. m + n) h.size i.sizes; deepest = ap₂ max h.depth i.deepest }) p.4
