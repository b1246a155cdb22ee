-- The hypotheses of a row's parameters stand over any store.
use Rattle.std.proofs.Common.{◌≡◌, ◌<◌, ◌+◌, ◌^◌, ℕ, zero, suc, refl, sym, ap, arith, List, [], ◌∷◌, ◌++◌, length, None, subst}
use Rattle.std.specs.Prelude.{take}
use Rattle.std.proofs.lemmas.List.{length-append}
use Rattle.lq_trees.specs.Tree.{Name, Tree, Context, Hypothesis}
use Rattle.lq_trees.specs.Tree.Tree.{Rel, Var, Sort, Prod, Lam, Let, App, Const, Ind, Ctor, Elim, Evar}
use Rattle.lq_trees.specs.Fresh.{fresh, opened, under}
use Rattle.lq_trees.specs.Size.{depth}
use Rattle.lq_calculus.proofs.ConvSound.{Gives}
use Rattle.lq_solving.specs.Kept.{IsOver, IsStore, IsContext, Stands, StandBehind}
use Rattle.lq_solving.specs.Stores.{Variable, Assigned, Store, no_variables, names_in, read, fill_values, read_values}
use Rattle.lq_solving.proofs.DoneLaws.{IsDone, done_reads}
use Rattle.lq_solving.proofs.ElabKept.{context_under}
use Rattle.lq_solving.proofs.FreshLaws.{fresh_new}
use Rattle.lq_solving.proofs.StandsLaws.{StandsUnder, open_stands}
use Rattle.lq_solving.proofs.StoreLaws.{Keeps, context_keeps}
use Rattle.lq_sessions.specs.Declaring.{Row, row_of}
use Rattle.lq_declaring.specs.Rows.{row_on, row_end}
use Rattle.lq_declaring.proofs.RowLaws.{row_is}

-- ---- what stands over no variables stands over any store

over_more : (vs : List Variable) (t : Tree) → IsOver [] t → IsOver vs t
over_more vs (Rel i) h = tt
over_more vs (Var x) h = tt
over_more vs (Sort u) h = tt
over_more vs (Prod x A B) h = (over_more vs A h.0, over_more vs B h.1)
over_more vs (Lam x A t) h = (over_more vs A h.0, over_more vs t h.1)
over_more vs (Let x v A t) h = (over_more vs v h.0, over_more vs A h.1, over_more vs t h.2)
over_more vs (App f a) h = (over_more vs f h.0, over_more vs a h.1)
over_more vs (Const c) h = tt
over_more vs (Ind c) h = tt
over_more vs (Ctor c k) h = tt
over_more vs (Elim c u) h = tt
over_more vs (Evar n ts) h = absurd (omega (arith, h.0))

none_done : (as_ : List Assigned) (t : Tree) → IsOver [] t → IsDone as_ t
none_done as_ (Rel i) h = tt
none_done as_ (Var x) h = tt
none_done as_ (Sort u) h = tt
none_done as_ (Prod x A B) h = (none_done as_ A h.0, none_done as_ B h.1)
none_done as_ (Lam x A t) h = (none_done as_ A h.0, none_done as_ t h.1)
none_done as_ (Let x v A t) h = (none_done as_ v h.0, none_done as_ A h.1, none_done as_ t h.2)
none_done as_ (App f a) h = (none_done as_ f h.0, none_done as_ a h.1)
none_done as_ (Const c) h = tt
none_done as_ (Ind c) h = tt
none_done as_ (Ctor c k) h = tt
none_done as_ (Elim c u) h = tt
none_done as_ (Evar n ts) h = absurd (omega (arith, h.0))

pub keeps_none : (s : Store) → Keeps no_variables s
unfolding read fill_values read_values
keeps_none s xs t h = record {
  over = over_more s.variables t h.over;
  within = h.within;
  holds = subst (Rattle.lq_trees.specs.Hypotheses.HoldsOnly xs) (sym (done_reads s.variables s.values t (none_done s.values t h.over))) h.holds;
}

-- ---- the products of a row

none_kept : IsStore no_variables
none_kept = record { values = tt; variables = tt; named = λ j k v w x e f m n. absurd (grind (arith, e)) }

product_parts : (xs : List Name) (x : Name) (A B : Tree) → Stands no_variables xs (Prod x A B) → Stands no_variables xs A × StandsUnder no_variables xs 1 B
unfolding read fill_values read_values
product_parts xs x A B h = (record { over = h.over.0; within = h.within.0; holds = h.holds.0 }, record { over = h.over.1; within = h.within.1; holds = h.holds.1 })

names_last : (g : Context) (h : Hypothesis) → names_in (g ++ h ∷ []) ≡ names_in g ++ h.name ∷ []
names_last [] h = refl
names_last (k ∷ g) h = ap (λ xs. k.name ∷ xs) (names_last g h)

behind_take : (s : Store) (xs : List Name) (k : ℕ) (g : Context) → StandBehind s xs g → StandBehind s xs (take k g)
behind_take s xs zero [] h = tt
behind_take s xs zero (j ∷ g) h = tt
behind_take s xs (suc k) [] h = tt
behind_take s xs (suc k) (j ∷ g) h = (h.0, h.1, h.2, behind_take s (j.name ∷ xs) k g h.3)

end_stands : (k : ℕ) (h : Context) (t : Tree) (r : Row) → IsContext no_variables h → Gives (row_end k h t) r → IsContext no_variables r.parameters
unfolding row_end
end_stands k h (Rel i) r c g = absurd g
end_stands k h (Var x) r c g = absurd g
end_stands k h (Sort u) r c g = subst (λ z. IsContext no_variables z.parameters) g (behind_take no_variables [] k h c)
end_stands k h (Prod x A B) r c g = absurd g
end_stands k h (Lam x A t) r c g = absurd g
end_stands k h (Let x v A t) r c g = absurd g
end_stands k h (App f a) r c g = absurd g
end_stands k h (Const d) r c g = absurd g
end_stands k h (Ind d) r c g = absurd g
end_stands k h (Ctor d j) r c g = absurd g
end_stands k h (Elim d u) r c g = absurd g
end_stands k h (Evar n ts) r c g = absurd g

on_stands : (n k : ℕ) (h : Context) (t : Tree) (r : Row) → length h + n < 10 ^ 64 → IsContext no_variables h → Stands no_variables (names_in h) t → Gives (row_on n k h t) r → IsContext no_variables r.parameters
unfolding row_on under
on_stands zero k h t r few c s g = end_stands k h t r c g
on_stands (suc n) k h (Rel i) r few c s g = end_stands k h (Rel i) r c g
on_stands (suc n) k h (Var x) r few c s g = end_stands k h (Var x) r c g
on_stands (suc n) k h (Sort u) r few c s g = end_stands k h (Sort u) r c g
on_stands (suc n) k h (Prod x A B) r few c s g =
    let p = product_parts (names_in h) x A B s in
    let y = fresh h x in
    let more : Hypothesis = record { name = y; body = None; kind = A } in
    on_stands n k (h ++ more ∷ []) (opened y B) r (omega (arith, few, length-append h (more ∷ []))) (context_under no_variables h more c (fresh_new h x (omega (arith, few))) tt p.0)
    (subst (λ xs. Stands no_variables xs (opened y B)) (sym (names_last h more)) (open_stands no_variables none_kept (names_in h) y B p.1)) g
on_stands (suc n) k h (Lam x A t) r few c s g = end_stands k h (Lam x A t) r c g
on_stands (suc n) k h (Let x v A t) r few c s g = end_stands k h (Let x v A t) r c g
on_stands (suc n) k h (App f a) r few c s g = end_stands k h (App f a) r c g
on_stands (suc n) k h (Const d) r few c s g = end_stands k h (Const d) r c g
on_stands (suc n) k h (Ind d) r few c s g = end_stands k h (Ind d) r c g
on_stands (suc n) k h (Ctor d j) r few c s g = end_stands k h (Ctor d j) r c g
on_stands (suc n) k h (Elim d u) r few c s g = end_stands k h (Elim d u) r c g
on_stands (suc n) k h (Evar m ts) r few c s g = end_stands k h (Evar m ts) r c g

-- a row's parameters, of a term without variables and hypotheses
pub parameters_stand : (s : Store) (k : ℕ) (t : Tree) (r : Row) → depth t < 10 ^ 64 → Stands no_variables [] t → Gives (row_of k t) r → IsContext s r.parameters
parameters_stand s k t r few h g =
    context_keeps no_variables s (keeps_none s) [] r.parameters (on_stands (depth t) k [] t r (omega (arith, few)) tt h (subst (λ w. Gives w r) (row_is k t) g))
