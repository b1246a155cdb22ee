-- The steps by which a premise is built, and how many loose bound variables it has.
use Rattle.std.proofs.Common.{◌≡◌, ◌≤◌, ◌+◌, ◌-◌, ◌∙◌, ℕ, suc, refl, sym, ap, ap₂, arith, List, [], ◌∷◌, ◌++◌, length, map, reverse, Option, Some, None, add-zero, Err}
use Rattle.std.proofs.Common.{subst as along}
use Rattle.std.specs.List.{AllByRecursion}
use Rattle.std.proofs.lemmas.List.{length-append, length-map, reverse-reverse, reverse-append, map-append}
use Rattle.lq_trees.specs.Tree.{Name, Tree}
use Rattle.lq_trees.specs.Change.{lift, fill}
use Rattle.lq_trees.specs.Size.{size}
use Rattle.lq_trees.specs.Index.{Within}
use Rattle.lq_trees.proofs.FillLaws.{lifted_above}
use Rattle.lq_trees.proofs.Sizes.{one-le-size}
use Rattle.lq_trees.proofs.Reach.{within-lift_0}
use Rattle.lq_terms.specs.declared.nodes.TermId.{TermId}
use Rattle.lq_terms.specs.declared.nodes.NameId.{NameId}
use Rattle.lq_terms.specs.declared.nodes.Node.{Node}
use Rattle.lq_terms.specs.Terms.{Terms, node_tree, tree_of}
use Rattle.lq_terms.specs.Changes.{variables_at}
use Rattle.lq_calculus.specs.Contraction.{apply}
use Rattle.lq_calculus.specs.Declarations.{Family, own, premise, premise_end, variables}
use Rattle.lq_env.specs.declared.family.EnvFault.{EnvFault}
use Rattle.lq_env.specs.Telescopes.{Binders, telescope, span}
use Rattle.lq_env.specs.Building.{Builds}
use Rattle.lq_env.specs.Premises.{AreBelow, Overflows, Advances, RefusesAt, hypothesis_at, so_far, with_recursive, end_by}
use Rattle.lq_env.proofs.Weights.{size-telescope, span-append, within-more}
use Rattle.lq_env.proofs.TargetLaws.{own-within}
use Rattle.lq_env.proofs.PremiseLaws.{AllWithinTrees, variables_more, lift_spread, within-fill, size-spread}
use Rattle.lq_env.proofs.SpineLaws.{all_reversed}
use Rattle.lq_env.proofs.EliminatorLaws.{apply-within, variables-within}

pub telescope-append : (bs cs : Binders) (t : Tree) → telescope (bs ++ cs) t ≡ telescope bs (telescope cs t)
telescope-append [] cs t = refl
telescope-append (b ∷ bs) cs t = ap (Tree.Prod b.0 b.1) (telescope-append bs cs t)

pub so_far_none : (f : Family) (k : ℕ) (t : Tree) → so_far f k [] [] t ≡ premise f k (Tree.Rel k) [] t
unfolding so_far
so_far_none f k t = ap (λ n. premise f k (Tree.Rel n) [] t) (omega arith)

-- a built binder is part of the whole
pub so_far-size : (f : Family) (k : ℕ) (bs : Binders) (ps : List ℕ) (t : Tree) → span bs + 1 ≤ size (so_far f k bs ps t)
unfolding so_far
so_far-size f k bs ps t = omega (arith, size-telescope bs (premise f k (Tree.Rel (k + length bs)) (variables_at (length bs) ps) t), one-le (premise f k (Tree.Rel (k + length bs)) (variables_at (length bs) ps) t))
  where
    one-le : (t : Tree) → 1 ≤ size t
    one-le t = one-le-size t

module _ (f : Family) (k : ℕ) (bs : Binders) (ps : List ℕ) (x : Name) (A B : Tree) (below : AreBelow (length bs) ps) where
  raised : (by : ℕ) → lift by 0 (Tree.Rel (k + length bs)) ≡ Tree.Rel (k + (length bs + by))
  raised by = lifted_above by 0 (k + length bs) (omega arith) ∙ ap Tree.Rel (omega arith)

  -- an argument that is not recursive
  pub step_plain : own f A ≡ None → (cs : Binders) (qs : List ℕ) → cs ≡ bs ++ (x, fill (variables_at (length bs) ps) 0 A) ∷ [] → qs ≡ ps ++ length bs ∷ [] → so_far f k bs ps (Tree.Prod x A B) ≡ so_far f k cs qs B
  unfolding so_far premise
  step_plain e cs qs e1 e2 =
      let longer : length bs + 1 ≡ length cs = sym (ap length e1 ∙ length-append bs ((x, fill (variables_at (length bs) ps) 0 A) ∷ [])) in
      ap (λ (o : Option (List Tree)). telescope bs (elim o [
        | None ↦ Tree.Prod x (fill (variables_at (length bs) ps) 0 A) (premise f k (lift 1 0 (Tree.Rel (k + length bs))) (Tree.Rel 0 ∷ map (lift 1 0) (variables_at (length bs) ps)) B)
        | Some ts ↦
            Tree.Prod x (fill (variables_at (length bs) ps) 0 A)
            (Tree.Prod [] (Tree.App (apply (lift 1 0 (Tree.Rel (k + length bs))) (map (λ t. lift 1 0 (fill (variables_at (length bs) ps) 0 t)) ts)) (Tree.Rel 0))
            (premise f k (lift 2 0 (Tree.Rel (k + length bs))) (Tree.Rel 1 ∷ map (lift 2 0) (variables_at (length bs) ps)) B))
      ])) e
      ∙ sym (telescope-append bs ((x, fill (variables_at (length bs) ps) 0 A) ∷ []) (premise f k (lift 1 0 (Tree.Rel (k + length bs))) (Tree.Rel 0 ∷ map (lift 1 0) (variables_at (length bs) ps)) B))
      ∙ ap₂ (λ c s. telescope c (premise f k (lift 1 0 (Tree.Rel (k + length bs))) s B)) (sym e1) (sym (variables_more 0 (length bs) ps below) ∙ ap₂ variables_at (omega (arith, longer)) (sym e2))
      ∙ ap (λ q. telescope cs (premise f k q (variables_at (length cs) qs) B)) (raised 1 ∙ ap (λ n. Tree.Rel (k + n)) longer)

  -- a recursive one
  pub step_own : (ts : List Tree) → own f A ≡ Some ts → Within (length ps) A → (cs : Binders) (qs : List ℕ)
      → cs ≡ bs ++ (x, fill (variables_at (length bs) ps) 0 A) ∷ ([], hypothesis_at k (length bs + 1) ps ts) ∷ [] → qs ≡ ps ++ length bs ∷ [] → so_far f k bs ps (Tree.Prod x A B) ≡ so_far f k cs qs B
  unfolding so_far premise hypothesis_at
  step_own ts e w cs qs e1 e2 =
      let seen = variables_at (length bs) ps in
      let rest = premise f k (lift 2 0 (Tree.Rel (k + length bs))) (Tree.Rel 1 ∷ map (lift 2 0) (variables_at (length bs) ps)) B in
      let longer : length bs + 2 ≡ length cs = sym (ap length e1 ∙ length-append bs ((x, fill (variables_at (length bs) ps) 0 A) ∷ ([], hypothesis_at k (length bs + 1) ps ts) ∷ [])) in
      ap (λ (o : Option (List Tree)). telescope bs (elim o [
        | None ↦ Tree.Prod x (fill (variables_at (length bs) ps) 0 A) (premise f k (lift 1 0 (Tree.Rel (k + length bs))) (Tree.Rel 0 ∷ map (lift 1 0) (variables_at (length bs) ps)) B)
        | Some us ↦
            Tree.Prod x (fill (variables_at (length bs) ps) 0 A)
            (Tree.Prod [] (Tree.App (apply (lift 1 0 (Tree.Rel (k + length bs))) (map (λ t. lift 1 0 (fill (variables_at (length bs) ps) 0 t)) us)) (Tree.Rel 0))
            (premise f k (lift 2 0 (Tree.Rel (k + length bs))) (Tree.Rel 1 ∷ map (lift 2 0) (variables_at (length bs) ps)) B))
      ])) e
      ∙ ap₂ (λ q us. telescope bs (Tree.Prod x (fill (variables_at (length bs) ps) 0 A) (Tree.Prod [] (Tree.App (apply q us) (Tree.Rel 0)) rest))) (raised 1) (moved ts (own-within f (length ps) A ts w e))
      ∙ sym (telescope-append bs ((x, fill (variables_at (length bs) ps) 0 A) ∷ ([], hypothesis_at k (length bs + 1) ps ts) ∷ []) rest)
      ∙ ap₂ (λ c s. telescope c (premise f k (lift 2 0 (Tree.Rel (k + length bs))) s B)) (sym e1) (sym (variables_more 1 (length bs) ps below) ∙ ap₂ variables_at (omega (arith, longer)) (sym e2))
      ∙ ap (λ q. telescope cs (premise f k q (variables_at (length cs) qs) B)) (raised 2 ∙ ap (λ n. Tree.Rel (k + n)) longer)
    where
      moved : (us : List Tree) → AllByRecursion (Within (length ps)) us → map (λ t. lift 1 0 (fill (variables_at (length bs) ps) 0 t)) us ≡ map (fill (variables_at (length bs + 1) ps) 0) us
      moved [] h = refl
      moved (u ∷ us) h = ap₂ (λ y ys. y ∷ ys) (lift_spread (length bs) ps below 0 u (along (λ n. Within n u) (sym (add-zero (length ps))) h.0)) (moved us h.1)

-- a fault of a part of the whole
pub overflow_more : (e : EnvFault) (m n : ℕ) → m ≤ n → Overflows e m → Overflows e n
overflow_more (EnvFault.NameTaken x) m n l h = absurd h
overflow_more (EnvFault.NotPositive c j) m n l h = absurd h
overflow_more (EnvFault.NestedUse c j) m n l h = absurd h
overflow_more (EnvFault.BadResult c) m n l h = absurd h
overflow_more (EnvFault.ElimForbidden c s) m n l h = absurd h
overflow_more EnvFault.TooLarge m n l h = omega arith
overflow_more EnvFault.TooDeep m n l h = absurd h
overflow_more EnvFault.NoMemory m n l h = tt

pub overflow_builds : (bank : Terms) (e : EnvFault) (n : ℕ) (t : Tree) → n ≤ size t → Overflows e n → Builds bank (Err e) t
overflow_builds bank (EnvFault.NameTaken x) n t l h = absurd h
overflow_builds bank (EnvFault.NotPositive c j) n t l h = absurd h
overflow_builds bank (EnvFault.NestedUse c j) n t l h = absurd h
overflow_builds bank (EnvFault.BadResult c) n t l h = absurd h
overflow_builds bank (EnvFault.ElimForbidden c s) n t l h = absurd h
overflow_builds bank EnvFault.TooLarge n t l h = omega arith
overflow_builds bank EnvFault.TooDeep n t l h = absurd h
overflow_builds bank EnvFault.NoMemory n t l h = tt

-- an argument that is not recursive: what is built, and a refusal
module _ (f : Family) (k : ℕ) (bs : Binders) (ps : List ℕ) (x : Name) (A : Tree) (below : AreBelow (length bs) ps) where
  pub plain_advances : (n : ℕ) (cs : Binders) (qs : List ℕ) → own f A ≡ None → n ≡ length bs → cs ≡ bs ++ (x, fill (variables_at n ps) 0 A) ∷ [] → qs ≡ ps ++ n ∷ [] → Advances f k bs ps x A cs qs
  plain_advances n cs qs e l p q rest =
      step_plain f k bs ps x A rest below e cs qs (p ∙ ap (λ n. bs ++ (x, fill (variables_at n ps) 0 A) ∷ []) l) (q ∙ ap (λ n. ps ++ n ∷ []) l)

  pub plain_refuses : (e : EnvFault) → own f A ≡ None → Overflows e (span bs + 1 + size A) → RefusesAt f k bs ps x A e
  plain_refuses e o h rest =
      let cs : Binders = bs ++ (x, fill (variables_at (length bs) ps) 0 A) ∷ [] in
      let larger : span bs + 1 + size A ≤ size (so_far f k cs (ps ++ length bs ∷ []) rest) =
      omega (arith, so_far-size f k cs (ps ++ length bs ∷ []) rest, span-append bs ((x, fill (variables_at (length bs) ps) 0 A) ∷ []), size-spread (length bs) ps 0 A) in
      along (λ t. Overflows e (size t)) (sym (step_plain f k bs ps x A rest below o cs (ps ++ length bs ∷ []) refl refl)) (overflow_more e (span bs + 1 + size A) _ larger h)

  -- a recursive one
  pub own_advances : (n : ℕ) (ts : List Tree) (cs : Binders) (qs : List ℕ) → own f A ≡ Some ts → Within (length ps) A → n ≡ length bs → cs ≡ with_recursive k bs ps x A ts → qs ≡ ps ++ n ∷ [] → Advances f k bs ps x A cs qs
  own_advances n ts cs qs e w l p q rest = step_own f k bs ps x A rest below ts e w cs qs p (q ∙ ap (λ n. ps ++ n ∷ []) l)

  pub own_refuses : (e : EnvFault) (ts : List Tree) → own f A ≡ Some ts → Within (length ps) A → Overflows e (span (with_recursive k bs ps x A ts)) → RefusesAt f k bs ps x A e
  own_refuses e ts o w h rest =
      let larger : span (with_recursive k bs ps x A ts) ≤ size (so_far f k (with_recursive k bs ps x A ts) (ps ++ length bs ∷ []) rest) = omega (arith, so_far-size f k (with_recursive k bs ps x A ts) (ps ++ length bs ∷ []) rest) in
      along (λ t. Overflows e (size t)) (sym (step_own f k bs ps x A rest below ts o w (with_recursive k bs ps x A ts) (ps ++ length bs ∷ []) refl refl)) (overflow_more e (span (with_recursive k bs ps x A ts)) _ larger h)

-- the end of a premise
pub map_reverse : {X Y : Type 0} (g : X → Y) (xs : List X) → map g (reverse xs) ≡ reverse (map g xs)
map_reverse g [] = refl
map_reverse g (x ∷ xs) =
    ap (map g) (reverse-append (x ∷ []) xs) ∙ map-append g (reverse xs) (x ∷ []) ∙ ap (λ z. z ++ g x ∷ []) (map_reverse g xs) ∙ sym (reverse-append (g x ∷ []) (map g xs))

pub reversed_variables : (n : ℕ) (ps : List ℕ) → reverse (variables_at n ps) ≡ map (λ p. Tree.Rel (n - suc p)) ps
reversed_variables n ps = sym (map_reverse (λ p. Tree.Rel (n - suc p)) (reverse ps)) ∙ ap (map (λ p. Tree.Rel (n - suc p))) (reverse-reverse ps)

-- where the rest of a type is no product
pub end_is : (f : Family) (k : ℕ) (q : Tree) (seen : List Tree) (t : Tree) (o : Option (List Tree)) →
    elim o [ None ↦ t | Some ts ↦ premise_end f k q (reverse seen) (map (fill seen 0) ts) ] ≡ end_by f k q seen t o
end_is f k q seen t None = refl
end_is f k q seen t (Some ts) = refl

pub premise_stop :
    (bank : Terms) (f : Family) (k : ℕ) (q : Tree) (seen : List Tree) (node : Node) (t : TermId) → node_tree bank node ≡ tree_of bank t → ((x : NameId) (a b : TermId) → node ≡ Node.Prod x a b → ⊥)
    → premise f k q seen (tree_of bank t) ≡ end_by f k q seen (tree_of bank t) (own f (tree_of bank t))
unfolding premise
premise_stop bank f k q seen (Node.Rel i) t e h =
    ap (premise f k q seen) (sym e) ∙ end_is f k q seen (node_tree bank (Node.Rel i)) (own f (node_tree bank (Node.Rel i))) ∙ ap (λ u. end_by f k q seen u (own f u)) e
premise_stop bank f k q seen (Node.Var x) t e h =
    ap (premise f k q seen) (sym e) ∙ end_is f k q seen (node_tree bank (Node.Var x)) (own f (node_tree bank (Node.Var x))) ∙ ap (λ u. end_by f k q seen u (own f u)) e
premise_stop bank f k q seen (Node.Sort s) t e h =
    ap (premise f k q seen) (sym e) ∙ end_is f k q seen (node_tree bank (Node.Sort s)) (own f (node_tree bank (Node.Sort s))) ∙ ap (λ u. end_by f k q seen u (own f u)) e
premise_stop bank f k q seen (Node.Prod x a b) t e h = absurd (h x a b refl)
premise_stop bank f k q seen (Node.Lam x a b) t e h =
    ap (premise f k q seen) (sym e) ∙ end_is f k q seen (node_tree bank (Node.Lam x a b)) (own f (node_tree bank (Node.Lam x a b))) ∙ ap (λ u. end_by f k q seen u (own f u)) e
premise_stop bank f k q seen (Node.Let x v a b) t e h =
    ap (premise f k q seen) (sym e) ∙ end_is f k q seen (node_tree bank (Node.Let x v a b)) (own f (node_tree bank (Node.Let x v a b))) ∙ ap (λ u. end_by f k q seen u (own f u)) e
premise_stop bank f k q seen (Node.App g a) t e h =
    ap (premise f k q seen) (sym e) ∙ end_is f k q seen (node_tree bank (Node.App g a)) (own f (node_tree bank (Node.App g a))) ∙ ap (λ u. end_by f k q seen u (own f u)) e
premise_stop bank f k q seen (Node.Const x) t e h =
    ap (premise f k q seen) (sym e) ∙ end_is f k q seen (node_tree bank (Node.Const x)) (own f (node_tree bank (Node.Const x))) ∙ ap (λ u. end_by f k q seen u (own f u)) e
premise_stop bank f k q seen (Node.Ind x) t e h =
    ap (premise f k q seen) (sym e) ∙ end_is f k q seen (node_tree bank (Node.Ind x)) (own f (node_tree bank (Node.Ind x))) ∙ ap (λ u. end_by f k q seen u (own f u)) e
premise_stop bank f k q seen (Node.Ctor x j) t e h =
    ap (premise f k q seen) (sym e) ∙ end_is f k q seen (node_tree bank (Node.Ctor x j)) (own f (node_tree bank (Node.Ctor x j))) ∙ ap (λ u. end_by f k q seen u (own f u)) e
premise_stop bank f k q seen (Node.Elim x s) t e h =
    ap (premise f k q seen) (sym e) ∙ end_is f k q seen (node_tree bank (Node.Elim x s)) (own f (node_tree bank (Node.Elim x s))) ∙ ap (λ u. end_by f k q seen u (own f u)) e
premise_stop bank f k q seen (Node.Evar n ts) t e h =
    ap (premise f k q seen) (sym e) ∙ end_is f k q seen (node_tree bank (Node.Evar n ts)) (own f (node_tree bank (Node.Evar n ts))) ∙ ap (λ u. end_by f k q seen u (own f u)) e

-- a premise's part for one argument, and its end
pub moved-within : (m n : ℕ) (seen : List Tree) (us : List Tree) → n ≡ length seen → AllWithinTrees m seen → AllWithinTrees n us → AllWithinTrees m (map (fill seen 0) us)
moved-within m n seen [] e vs h = tt
moved-within m n seen (u ∷ us) e vs h = (within-fill m seen u vs (along (λ z. Within z u) e h.0), moved-within m n seen us e vs h.1)

pub at_argument :
    (f : Family) (k m : ℕ) (q : Tree) (seen : List Tree) (x : Name) (A B : Tree) → AllWithinTrees m seen → Within (length seen) A → Within m q → (o : Option (List Tree)) → own f A ≡ o
    → Within (m + 1) (premise f k (lift 1 0 q) (Tree.Rel 0 ∷ map (lift 1 0) seen) B) → Within (m + 2) (premise f k (lift 2 0 q) (Tree.Rel 1 ∷ map (lift 2 0) seen) B)
    → Within m (elim o [
      | None ↦ Tree.Prod x (fill seen 0 A) (premise f k (lift 1 0 q) (Tree.Rel 0 ∷ map (lift 1 0) seen) B)
      | Some ts ↦
          Tree.Prod x (fill seen 0 A)
          (Tree.Prod [] (Tree.App (apply (lift 1 0 q) (map (λ t. lift 1 0 (fill seen 0 t)) ts)) (Tree.Rel 0)) (premise f k (lift 2 0 q) (Tree.Rel 1 ∷ map (lift 2 0) seen) B))
    ])
at_argument f k m q seen x A B vs w wq None e h1 h2 = (within-fill m seen A vs w, h1)
at_argument f k m q seen x A B vs w wq (Some ts) e h1 h2 = (
  within-fill m seen A vs w,
  (
    (apply-within (m + 1) (lift 1 0 q) (map (λ t. lift 1 0 (fill seen 0 t)) ts) (within-lift_0 m 1 q wq) (each ts (own-within f (length seen) A ts w e)), omega arith),
    along (λ n. Within n (premise f k (lift 2 0 q) (Tree.Rel 1 ∷ map (lift 2 0) seen) B)) (omega arith) h2,
  ),
)
  where
    each : (us : List Tree) → AllWithinTrees (length seen) us → AllWithinTrees (m + 1) (map (λ t. lift 1 0 (fill seen 0 t)) us)
    each [] h = tt
    each (u ∷ us) h = (within-lift_0 m 1 (fill seen 0 u) (within-fill m seen u vs h.0), each us h.1)

pub at_end :
    (f : Family) (k m : ℕ) (q : Tree) (seen : List Tree) (t : Tree) → length seen ≤ m → Within (length seen) t → AllWithinTrees m seen → Within m q → (o : Option (List Tree)) → own f t ≡ o
    → Within m (elim o [ None ↦ t | Some ts ↦ premise_end f k q (reverse seen) (map (fill seen 0) ts) ])
unfolding premise_end
at_end f k m q seen t l w vs wq None e = within-more (length seen) m t l w
at_end f k m q seen t l w vs wq (Some ts) e = (
  apply-within m q (map (fill seen 0) ts) wq (moved-within m (length seen) seen ts refl vs (own-within f (length seen) t ts w e)),
  apply-within m (apply (Tree.Ctor f.name k) (variables f.parameters)) (reverse seen) (apply-within m (Tree.Ctor f.name k) (variables f.parameters) tt (variables-within m f.parameters)) (all_reversed (Within m) seen vs),
)

-- loose bound variables of a premise
pub premise-within : (f : Family) (k m : ℕ) (q : Tree) (seen : List Tree) (t : Tree) → length seen ≤ m → Within (length seen) t → AllWithinTrees m seen → Within m q → Within m (premise f k q seen t)
unfolding premise
premise-within f k m q seen (Tree.Prod x A B) l w vs wq =
    at_argument f k m q seen x A B vs w.0 wq (own f A) refl
    (premise-within f k (m + 1) (lift 1 0 q) (Tree.Rel 0 ∷ map (lift 1 0) seen) B (omega (arith, longer 1)) (along (λ n. Within n B) (omega (arith, longer 1)) w.1) (omega arith, raised-within 1 seen vs) (within-lift_0 m 1 q wq))
    (premise-within f k (m + 2) (lift 2 0 q) (Tree.Rel 1 ∷ map (lift 2 0) seen) B (omega (arith, longer 2)) (along (λ n. Within n B) (omega (arith, longer 2)) w.1) (omega arith, raised-within 2 seen vs) (within-lift_0 m 2 q wq))
  where
    longer : (by : ℕ) → length (map (lift by 0) seen) ≡ length seen
    longer by = length-map seen (lift by 0)

    raised-within : (by : ℕ) (us : List Tree) → AllWithinTrees m us → AllWithinTrees (m + by) (map (lift by 0) us)
    raised-within by [] h = tt
    raised-within by (u ∷ us) h = (within-lift_0 m by u h.0, raised-within by us h.1)
premise-within f k m q seen (Tree.Rel i) l w vs wq = at_end f k m q seen (Tree.Rel i) l w vs wq (own f (Tree.Rel i)) refl
premise-within f k m q seen (Tree.Var x) l w vs wq = at_end f k m q seen (Tree.Var x) l w vs wq (own f (Tree.Var x)) refl
premise-within f k m q seen (Tree.Sort s) l w vs wq = at_end f k m q seen (Tree.Sort s) l w vs wq (own f (Tree.Sort s)) refl
premise-within f k m q seen (Tree.Lam x a b) l w vs wq = at_end f k m q seen (Tree.Lam x a b) l w vs wq (own f (Tree.Lam x a b)) refl
premise-within f k m q seen (Tree.Let x v a b) l w vs wq = at_end f k m q seen (Tree.Let x v a b) l w vs wq (own f (Tree.Let x v a b)) refl
premise-within f k m q seen (Tree.App g a) l w vs wq = at_end f k m q seen (Tree.App g a) l w vs wq (own f (Tree.App g a)) refl
premise-within f k m q seen (Tree.Const x) l w vs wq = at_end f k m q seen (Tree.Const x) l w vs wq (own f (Tree.Const x)) refl
premise-within f k m q seen (Tree.Ind x) l w vs wq = at_end f k m q seen (Tree.Ind x) l w vs wq (own f (Tree.Ind x)) refl
premise-within f k m q seen (Tree.Ctor x j) l w vs wq = at_end f k m q seen (Tree.Ctor x j) l w vs wq (own f (Tree.Ctor x j)) refl
premise-within f k m q seen (Tree.Elim x s) l w vs wq = at_end f k m q seen (Tree.Elim x s) l w vs wq (own f (Tree.Elim x s)) refl
premise-within f k m q seen (Tree.Evar n ts) l w vs wq = at_end f k m q seen (Tree.Evar n ts) l w vs wq (own f (Tree.Evar n ts)) refl

-- the end that is built
pub end_made :
    (f g : Family) (k n inside : ℕ) (ps qs rs : List ℕ) (t : Tree) (us : List Tree) → inside ≡ n → qs ≡ ps → rs ≡ ps → g ≡ f → own f t ≡ Some us
    → Tree.App (apply (Tree.Rel (k + inside)) (map (fill (variables_at inside qs) 0) us)) (apply (apply (Tree.Ctor g.name k) (variables g.parameters)) (map (λ p. Tree.Rel (inside - suc p)) rs))
    ≡ end_by f k (Tree.Rel (k + n)) (variables_at n ps) t (own f t)
unfolding premise_end
end_made f g k n inside ps qs rs t us l q r e o =
    ap₂ (λ i ws. Tree.App (apply (Tree.Rel (k + i)) (map (fill (variables_at i ws) 0) us)) (apply (apply (Tree.Ctor g.name k) (variables g.parameters)) (map (λ p. Tree.Rel (i - suc p)) rs))) l q
    ∙ ap₂ (λ h ws. Tree.App (apply (Tree.Rel (k + n)) (map (fill (variables_at n ps) 0) us)) (apply (apply (Tree.Ctor h.name k) (variables h.parameters)) (map (λ p. Tree.Rel (n - suc p)) ws))) e r
    ∙ ap (λ args. Tree.App (apply (Tree.Rel (k + n)) (map (fill (variables_at n ps) 0) us)) (apply (apply (Tree.Ctor f.name k) (variables f.parameters)) args)) (sym (reversed_variables n ps))
    ∙ ap (end_by f k (Tree.Rel (k + n)) (variables_at n ps) t) (sym o)

-- nothing is built yet, and all is built but the end
pub so_far_new : (f : Family) (k : ℕ) (bs : Binders) (ps : List ℕ) (t : Tree) → bs ≡ [] → ps ≡ [] → premise f k (Tree.Rel k) [] t ≡ so_far f k bs ps t
so_far_new f k bs ps t p q = sym (ap₂ (λ b s. so_far f k b s t) p q ∙ so_far_none f k t)

pub so_far_end :
    (bank : Terms) (f : Family) (k n : ℕ) (bs : Binders) (ps : List ℕ) (node : Node) (t : TermId) → n ≡ length bs → node_tree bank node ≡ tree_of bank t → ((x : NameId) (a b : TermId) → node ≡ Node.Prod x a b → ⊥)
    → so_far f k bs ps (tree_of bank t) ≡ telescope bs (end_by f k (Tree.Rel (k + n)) (variables_at n ps) (tree_of bank t) (own f (tree_of bank t)))
unfolding so_far
so_far_end bank f k n bs ps node t l e h =
    ap (telescope bs) (ap (λ m. premise f k (Tree.Rel (k + m)) (variables_at m ps) (tree_of bank t)) (sym l) ∙ premise_stop bank f k (Tree.Rel (k + n)) (variables_at n ps) node t e h)
