-- A constructor whose premise is a goal has few arguments: goals keep within the limits.
use Rattle.std.proofs.Common.{◌≡◌, ◌≤◌, ◌+◌, ℕ, zero, suc, refl, sym, arith, Bool, true, false, List, [], ◌∷◌, map, length, if◌then◌else◌}
use Rattle.std.proofs.Common.{subst as along, Option, Some, None}
use Rattle.std.proofs.lemmas.Bool.{ltb-false}
use Rattle.std.proofs.Math.Nat.{le-max_right}
use Rattle.std.specs.Prelude.{nat_lt}
use Rattle.std.specs.List.{AllByRecursion}
use Rattle.lq_trees.specs.declared.Fit.{Fit}
use Rattle.lq_trees.specs.Tree.{Name, Tree}
use Rattle.lq_trees.specs.Tree.Tree.{Rel, Var, Sort, Prod, Lam, Let, App, Const, Ind, Ctor, Elim, Evar}
use Rattle.lq_trees.specs.Change.{Leaves, replace, substituting, instantiating, instance, fill, lift}
use Rattle.lq_trees.specs.Size.{size, depth}
use Rattle.lq_trees.specs.Ticks.{gives, fails}
use Rattle.lq_calculus.specs.Contraction.{spine, apply}
use Rattle.lq_calculus.specs.Declarations.{Family, lookup, own, premise}
use Rattle.lq_calculus.proofs.ConvSound.{Gives, gives_bind}
use Rattle.lq_solving.specs.Stores.{Store, Variable, Assigned, StoreFault, read, size_fault}
use Rattle.lq_solving.specs.Elaboration.{Found}
use Rattle.lq_solving.proofs.ReadLaws.{filled}
use Rattle.lq_solving.proofs.Later.{reads_prod}
use Rattle.lq_tactics.specs.Rows.{RowFault, Doing, by_store_call, Scene, needed, head_of, renewed, new_goal, goal_sort}
use Rattle.lq_tactics.specs.Applying.{Inductive, inductive_of, inductive_or, parameter_values}
use Rattle.lq_tactics.specs.Exchanging.{first_or, fresh_names, abstracted}
use Rattle.lq_tactics.specs.Elimination.{indices_of, predicate, typed_predicate, permitted_entry, premise_of, premise_goals, Eliminated, eliminate_at}
use Rattle.lq_tactics.specs.Elimination.{eliminate, arguments_in}

-- a type that begins with so many products
abbrev HasProducts : ℕ → Tree → Type 0
HasProducts zero t = Unit {0}
HasProducts (suc n) (Prod x A B) = HasProducts n B
HasProducts (suc n) (Rel i) = ⊥
HasProducts (suc n) (Var x) = ⊥
HasProducts (suc n) (Sort s) = ⊥
HasProducts (suc n) (Lam x A t) = ⊥
HasProducts (suc n) (Let x v A t) = ⊥
HasProducts (suc n) (App f a) = ⊥
HasProducts (suc n) (Const c) = ⊥
HasProducts (suc n) (Ind c) = ⊥
HasProducts (suc n) (Ctor c k) = ⊥
HasProducts (suc n) (Elim c s) = ⊥
HasProducts (suc n) (Evar k ts) = ⊥

-- the form of a type with one product more
by_product : (n : ℕ) (t : Tree) (P : Tree → Type 0) → HasProducts (suc n) t → ((x : Name) (A B : Tree) → HasProducts n B → P (Prod x A B)) → P t
by_product n (Prod x A B) P h f = f x A B h
by_product n (Rel i) P h f = absurd h
by_product n (Var x) P h f = absurd h
by_product n (Sort s) P h f = absurd h
by_product n (Lam x A t) P h f = absurd h
by_product n (Let x v A t) P h f = absurd h
by_product n (App g a) P h f = absurd h
by_product n (Const c) P h f = absurd h
by_product n (Ind c) P h f = absurd h
by_product n (Ctor c k) P h f = absurd h
by_product n (Elim c s) P h f = absurd h
by_product n (Evar k ts) P h f = absurd h

fewer_products : (n : ℕ) (t : Tree) → HasProducts (suc n) t → HasProducts n t
fewer_products zero t h = tt
fewer_products (suc n) t h = by_product (suc n) t (HasProducts (suc n)) h (λ x A B k. fewer_products n B k)

replaced_products : (n : ℕ) (f : Leaves) (d : ℕ) (t : Tree) → HasProducts n t → HasProducts n (replace f d t)
replaced_products zero f d t h = tt
replaced_products (suc n) f d t h = by_product n t (λ z. HasProducts (suc n) (replace f d z)) h (λ x A B k. replaced_products n f (d + 1) B k)

filled_products : (n : ℕ) (vs : List Variable) (as_ : List Assigned) (t : Tree) → HasProducts n t → HasProducts n (filled vs as_ t)
filled_products zero vs as_ t h = tt
filled_products (suc n) vs as_ t h =
    by_product n t (λ z. HasProducts (suc n) (filled vs as_ z)) h (λ x A B k. along (HasProducts (suc n)) (sym (reads_prod vs as_ x A B)) (filled_products n vs as_ B k))

products_deep : (n : ℕ) (t : Tree) → HasProducts n t → n ≤ depth t
products_deep zero t h = omega arith
products_deep (suc n) t h = by_product n t (λ z. suc n ≤ depth z) h (λ x A B k. omega (arith, products_deep n B k, le-max_right (depth A) (depth B)))

-- the premise has a product for each argument
premise_products : (f : Family) (k : ℕ) (q : Tree) (seen : List Tree) (T : Tree) → HasProducts (length (arguments_in f T)) (premise f k q seen T)
unfolding premise arguments_in
premise_products f k q seen (Prod x A B) = at (own f A) (λ p zs. premise_products f k p zs B)
  where
    at : (o : Option (List Tree)) → ((p : Tree) (zs : List Tree) → HasProducts (length (arguments_in f B)) (premise f k p zs B)) →
        HasProducts (suc (length (arguments_in f B))) (elim o as (λ z. Tree) [
          | None ↦ Prod x (fill seen 0 A) (premise f k (lift 1 0 q) (Rel 0 ∷ map (lift 1 0) seen) B)
          | Some ts ↦
              Prod x (fill seen 0 A)
              (Prod [] (App (apply (lift 1 0 q) (map (λ t. lift 1 0 (fill seen 0 t)) ts)) (Rel 0))
              (premise f k (lift 2 0 q) (Rel 1 ∷ map (lift 2 0) seen) B))
        ])
    at None ih = ih (lift 1 0 q) (Rel 0 ∷ map (lift 1 0) seen)
    at (Some ts) ih = one_more (length (arguments_in f B)) (premise f k (lift 2 0 q) (Rel 1 ∷ map (lift 2 0) seen) B) (ih (lift 2 0 q) (Rel 1 ∷ map (lift 2 0) seen))
      where
        one_more : (n : ℕ) (t : Tree) → HasProducts n t → HasProducts n (Prod [] (App (apply (lift 1 0 q) (map (λ t. lift 1 0 (fill seen 0 t)) ts)) (Rel 0)) t)
        one_more zero t h = tt
        one_more (suc n) t h = fewer_products n t h
premise_products f k q seen (Rel i) = tt
premise_products f k q seen (Var x) = tt
premise_products f k q seen (Sort s) = tt
premise_products f k q seen (Lam x A t) = tt
premise_products f k q seen (Let x v A t) = tt
premise_products f k q seen (App g a) = tt
premise_products f k q seen (Const c) = tt
premise_products f k q seen (Ind c) = tt
premise_products f k q seen (Ctor c j) = tt
premise_products f k q seen (Elim c s) = tt
premise_products f k q seen (Evar j ts) = tt

-- a term that is needed is not too deep
needed_shallow : (t u : Tree) → Gives (needed t) u → depth t ≤ 2000
unfolding needed size_fault
needed_shallow t u y = at (nat_lt 1000000 (size t)) (nat_lt 2000 (depth t)) refl y
  where
    at : (a b : Bool) → nat_lt 2000 (depth t) ≡ b →
        Gives {F = RowFault} (elim (elim (if a then Fit.TooLarge else if b then Fit.TooDeep else Fit.Fits) as (λ z. Option StoreFault) [
          | Fit.Fits ↦ None
          | Fit.TooLarge ↦ Some StoreFault.read_too_large
          | Fit.TooDeep ↦ Some StoreFault.read_too_deep
        ]) as (λ z. Doing Tree) [ None ↦ gives t | Some f ↦ fails (by_store_call f) ]) u → depth t ≤ 2000
    at true b e z = absurd z
    at false true e z = absurd z
    at false false e z = ltb-false 2000 (depth t) e

premise_few : (c : Scene) (i : Inductive) (P : Tree) (k : ℕ) (A : Tree) (s : Store) (r : Store × ℕ) → Gives (new_goal c s c.context (premise_of i P k A)) r →
    length (arguments_in i.family A) ≤ 2000
unfolding new_goal premise_of read
premise_few c i P k A s r y =
    let a = gives_bind _ (λ B. _) r y in
    let b = gives_bind _ (λ B. _) a.0 a.1 in
    let d = gives_bind (needed (read s (premise_of i P k A))) (λ B. _) b.0 b.1 in
    let t = premise i.family k (Rel 0) [] A in
    let h = filled_products (length (arguments_in i.family A)) s.variables s.values (premise_of i P k A)
    (replaced_products (length (arguments_in i.family A)) (substituting P) 0 (instance (parameter_values i) t)
    (replaced_products (length (arguments_in i.family A)) (instantiating (parameter_values i)) 0 t (premise_products i.family k (Rel 0) [] A))) in
    omega (arith, products_deep (length (arguments_in i.family A)) (read s (premise_of i P k A)) h, needed_shallow (read s (premise_of i P k A)) d.0 d.1)

premises_few : (c : Scene) (i : Inductive) (P : Tree) (ds : List (Name × Tree)) (k : ℕ) (s : Store) (r : Store × List ℕ) →
    Gives (premise_goals c i P k ds s) r →
    AllByRecursion (λ d. length (arguments_in i.family d.1) ≤ 2000) ds
unfolding premise_goals
premises_few c i P [] k s r y = tt
premises_few c i P (d ∷ ds) k s r y =
    let a = gives_bind (new_goal c s c.context (premise_of i P k d.1)) _ r y in
    let q = gives_bind (premise_goals c i P (suc k) ds a.0.0) _ r a.2 in
    (premise_few c i P k d.1 s a.0 a.1, premises_few c i P ds (suc k) a.0.0 q.0 q.1)

-- the constructors of a family whose term was eliminated have few arguments
abbrev pub HasFewArguments : Eliminated → Type 0
HasFewArguments e = AllByRecursion (λ d. length (arguments_in e.type.family d.1) ≤ 2000) e.type.family.constructors

eliminated_few : (c : Scene) (f : Found) (i : Inductive) (e : Eliminated) → Gives (eliminate_at c f i) e → HasFewArguments e
unfolding eliminate_at
eliminated_few c f i e y =
    let u = gives_bind (goal_sort c) _ e y in
    let ok = gives_bind (permitted_entry i.name u.0 (lookup c.env i.name)) _ e u.2 in
    let ns = fresh_names _ (suc (length (indices_of i))) in
    let P = predicate i (first_or ns []) _ (abstracted ns (read c.store f.term ∷ indices_of i) c.kind) in
    let ok2 = gives_bind (typed_predicate c c.store P) _ e ok.2 in
    let r = gives_bind (premise_goals c i P 0 i.family.constructors c.store) _ e ok2.2 in
    along HasFewArguments r.2 (premises_few c i P i.family.constructors 0 c.store r.0 r.1)

pub eliminate_few : (c : Scene) (f : Found) (e : Eliminated) → Gives (eliminate c f) e → HasFewArguments e
unfolding eliminate
eliminate_few c f e y =
    let d = gives_bind (renewed c f.store) _ e y in
    let t = gives_bind (head_of d.0 d.0.store f.kind) _ e d.2 in
    let i = gives_bind (inductive_or t.0 (inductive_of d.0.env (spine t.0 []))) (eliminate_at d.0 f) e t.2 in
    eliminated_few d.0 f i.0 e i.2
