-- The types that a family declares have no loose bound variables.
use Rattle.std.proofs.Common.{◌≡◌, ◌≤◌, ◌<◌, ◌+◌, ◌-◌, ℕ, zero, suc, refl, sym, arith, inl, inr, add-zero, length, List, [], ◌∷◌, ◌++◌, map, reverse, take, drop, Option, Some, None, Bool, true, false}
use Rattle.std.proofs.Common.{subst as along}
use Rattle.std.specs.Prelude.{slice_get, codes, eqb, not, ◌&&◌}
use Rattle.std.specs.List.{AllByRecursion}
use Rattle.std.proofs.lemmas.Bool.{cases_lt}
use Rattle.std.proofs.lemmas.List.{length-map}
use Rattle.std.proofs.lemmas.Grind.{reverse_onto}
use Rattle.lq_trees.specs.declared.Sort.{Sort as Universe}
use Rattle.lq_trees.specs.Tree.{Name, Tree, Trees, Context, same_name}
use Rattle.lq_trees.specs.Tree.Tree.{Rel, Var, Sort, Prod, Lam, Let, App, Const, Ind, Ctor, Elim, Evar}
use Rattle.lq_trees.specs.Change.{filled, filling, fill, lift}
use Rattle.lq_trees.specs.Index.{Within, EachWithin}
use Rattle.lq_trees.proofs.Reach.{within-replace, within-lift_0, within-close}
use Rattle.lq_trees.proofs.FillLaws.{filled_below, filled_some}
use Rattle.lq_calculus.specs.Contraction.{spine, apply}
use Rattle.lq_calculus.specs.Declarations.{Family, product, products, variables, own_of, own, any_holds, are_variables, instance_of, family_type, constructor_type, premise_end, premise, premises, predicate_type, conclusion, elim_type}
use Rattle.lq_env.specs.Families.{StandsUnder, IsBehind, IsWritten}

-- more loose bound variables may stand in a tree
mutual
  pub within_more : (m n : ℕ) (t : Tree) → m ≤ n → Within m t → Within n t
  within_more m n (Rel i) l w = omega arith
  within_more m n (Var x) l w = tt
  within_more m n (Sort s) l w = tt
  within_more m n (Prod x a b) l w = (within_more m n a l w.0, within_more (m + 1) (n + 1) b (omega arith) w.1)
  within_more m n (Lam x a b) l w = (within_more m n a l w.0, within_more (m + 1) (n + 1) b (omega arith) w.1)
  within_more m n (Let x v a b) l w = (within_more m n v l w.0, within_more m n a l w.1, within_more (m + 1) (n + 1) b (omega arith) w.2)
  within_more m n (App f a) l w = (within_more m n f l w.0, within_more m n a l w.1)
  within_more m n (Const x) l w = tt
  within_more m n (Ind x) l w = tt
  within_more m n (Ctor x k) l w = tt
  within_more m n (Elim x s) l w = tt
  within_more m n (Evar k ts) l w = each_within_more m n ts l w

  each_within_more : (m n : ℕ) (ts : Trees) → m ≤ n → EachWithin m ts → EachWithin n ts
  each_within_more m n Trees.none l w = tt
  each_within_more m n (Trees.more t ts) l w = (within_more m n t l w.0, each_within_more m n ts l w.1)

-- each tree of a list
abbrev pub AllIn : ℕ → List Tree → Type 0
AllIn m ts = AllByRecursion (Within m) ts

pub all_more : (m n : ℕ) (ts : List Tree) → m ≤ n → AllIn m ts → AllIn n ts
all_more m n [] l w = tt
all_more m n (t ∷ ts) l w = (within_more m n t l w.0, all_more m n ts l w.1)

pub all_map : (m n : ℕ) (f : Tree → Tree) → ((t : Tree) → Within m t → Within n (f t)) → (ts : List Tree) → AllIn m ts → AllIn n (map f ts)
all_map m n f h [] w = tt
all_map m n f h (t ∷ ts) w = (h t w.0, all_map m n f h ts w.1)

pub all_append : (m : ℕ) (ts us : List Tree) → AllIn m ts → AllIn m us → AllIn m (ts ++ us)
all_append m [] us w v = v
all_append m (t ∷ ts) us w v = (w.0, all_append m ts us w.1 v)

pub all_reverse : (m : ℕ) (ts : List Tree) → AllIn m ts → AllIn m (reverse ts)
all_reverse m [] w = tt
all_reverse m (t ∷ ts) w = along (AllIn m) (sym (reverse_onto ts t [])) (all_append m (reverse ts) (t ∷ []) (all_reverse m ts w.1) (w.0, tt))

pub all_drop : (m n : ℕ) (ts : List Tree) → AllIn m ts → AllIn m (drop n ts)
all_drop m zero ts w = w
all_drop m (suc n) [] w = tt
all_drop m (suc n) (t ∷ ts) w = all_drop m n ts w.1

pub all_take : (m n : ℕ) (ts : List Tree) → AllIn m ts → AllIn m (take n ts)
all_take m zero ts w = tt
all_take m (suc n) [] w = tt
all_take m (suc n) (t ∷ ts) w = (w.0, all_take m n ts w.1)

-- a list's element
pub all_at : (m : ℕ) (ts : List Tree) (i : ℕ) → AllIn m ts → i < length ts → (t : Tree) × (slice_get ts i ≡ Some t) × Within m t
all_at m [] i w l = absurd (omega arith)
all_at m (t ∷ ts) zero w l = (t, refl, w.0)
all_at m (t ∷ ts) (suc i) w l = all_at m ts i w.1 (omega arith)

-- values for all loose bound variables
pub within-fill : (m : ℕ) (vs : List Tree) (t : Tree) → AllIn m vs → Within (length vs) t → Within m (fill vs 0 t)
within-fill m vs t all h =
    along (λ z. Within z (fill vs 0 t)) (add-zero m) (within-replace (filling vs) (length vs) m bound (λ d x. tt) 0 t (along (λ z. Within z t) (sym (add-zero (length vs))) h))
  where
    beyond : (d i : ℕ) → d ≤ i → (v : Tree) × (slice_get vs (i - d) ≡ Some v) × Within m v → Within (m + d) (filled vs d i)
    beyond d i l p = along (λ u. Within (m + d) u) (sym (filled_some vs d i p.0 l p.1)) (within-lift_0 m d p.0 p.2)

    bound : (d i : ℕ) → suc i ≤ length vs + d → Within (m + d) (filled vs d i)
    bound d i b = elim (cases_lt i d) [
      | inl l ↦ along (λ u. Within (m + d) u) (sym (filled_below vs d i l)) (omega arith)
      | inr l ↦ beyond d i l (all_at m vs (i - d) all (omega arith))
    ]

-- applications
pub within-apply : (m : ℕ) (f : Tree) (ts : List Tree) → Within m f → AllIn m ts → Within m (apply f ts)
unfolding apply
within-apply m f [] w v = w
within-apply m f (t ∷ ts) w v = within-apply m (App f t) ts (w, v.0) v.1

pub within-spine : (m : ℕ) (t : Tree) (us : List Tree) → Within m t → AllIn m us → Within m (spine t us).0 × AllIn m (spine t us).1
unfolding spine
within-spine m (App f a) us w v = within-spine m f (a ∷ us) w.0 (w.1, v)
within-spine m (Rel i) us w v = (w, v)
within-spine m (Var x) us w v = (w, v)
within-spine m (Sort s) us w v = (w, v)
within-spine m (Prod x a b) us w v = (w, v)
within-spine m (Lam x a b) us w v = (w, v)
within-spine m (Let x u a b) us w v = (w, v)
within-spine m (Const x) us w v = (w, v)
within-spine m (Ind x) us w v = (w, v)
within-spine m (Ctor x k) us w v = (w, v)
within-spine m (Elim x s) us w v = (w, v)
within-spine m (Evar k ts) us w v = (w, v)

pub all_variables : (m : ℕ) (g : Context) → AllIn m (variables g)
unfolding variables
all_variables m [] = tt
all_variables m (h ∷ g) = (tt, all_variables m g)

-- the indices of a recursive argument
own_of_in : (m : ℕ) (f : Family) (h : Tree) (args ts : List Tree) → AllIn m args → own_of f h args ≡ Some ts → AllIn m ts
unfolding own_of
own_of_in m f (Ind c) args ts w e = either (same_name f.name c && are_variables f.parameters (take (length f.parameters) args) && eqb (length (drop (length f.parameters) args)) (length f.indices) && not (any_holds c (drop (length f.parameters) args))) e
  where
    either : (b : Bool) → ◌≡◌ {A = Option (List Tree)} (elim b [ true ↦ Some (drop (length f.parameters) args) | false ↦ None ]) (Some ts) → AllIn m ts
    either true k = let same : drop (length f.parameters) args ≡ ts = cc in along (AllIn m) same (all_drop m (length f.parameters) args w)
    either false k = absurd cc
own_of_in m f (Rel i) args ts w e = absurd cc
own_of_in m f (Var x) args ts w e = absurd cc
own_of_in m f (Sort s) args ts w e = absurd cc
own_of_in m f (Prod x a b) args ts w e = absurd cc
own_of_in m f (Lam x a b) args ts w e = absurd cc
own_of_in m f (Let x u a b) args ts w e = absurd cc
own_of_in m f (App g a) args ts w e = absurd cc
own_of_in m f (Const x) args ts w e = absurd cc
own_of_in m f (Ctor x k) args ts w e = absurd cc
own_of_in m f (Elim x s) args ts w e = absurd cc
own_of_in m f (Evar k us) args ts w e = absurd cc

pub own_in : (m : ℕ) (f : Family) (t : Tree) (ts : List Tree) → Within m t → own f t ≡ Some ts → AllIn m ts
unfolding own
own_in m f t ts w e = own_of_in m f (spine t []).0 (spine t []).1 ts (within-spine m t [] w tt).1 e

-- the types of a context
abbrev pub KindsIn : ℕ → Context → Type 0
KindsIn m [] = Unit {0}
KindsIn m (h ∷ g) = Within m h.kind × KindsIn m g

pub kinds_in : (m : ℕ) (names : List Name) (g : Context) → IsBehind names g → KindsIn m g
kinds_in m names [] p = tt
kinds_in m names (h ∷ g) p = (within_more 0 m h.kind (omega arith) p.0.kind.within, kinds_in m (h.name ∷ names) g p.1)

pub within-products : (m : ℕ) (g : Context) (t : Tree) → KindsIn m g → Within m t → Within m (products g t)
unfolding products product
within-products m [] t k w = w
within-products m (h ∷ g) t k w = (k.0, within-close m h.name (products g t) (within-products m g t k.1 w))

module _ (f : Family) (written : IsWritten f) where
  pub within-family_type : Within 0 (family_type f)
  unfolding family_type
  within-family_type =
      within-products 0 f.parameters (products f.indices (Sort f.sort)) (kinds_in 0 [] f.parameters written.parameters)
      (within-products 0 f.indices (Sort f.sort) (kinds_in 0 _ f.indices written.indices) tt)

  pub within-constructor_type : (t : Tree) → Within 0 t → Within 0 (constructor_type f t)
  unfolding constructor_type
  within-constructor_type t w = within-products 0 f.parameters t (kinds_in 0 [] f.parameters written.parameters) w

  within-instance_of : (m : ℕ) (ts : List Tree) → AllIn m ts → Within m (instance_of f ts)
  unfolding instance_of
  within-instance_of m ts w = within-apply m (apply (Ind f.name) (variables f.parameters)) ts (within-apply m (Ind f.name) (variables f.parameters) tt (all_variables m f.parameters)) w

  within-premise_end : (m k : ℕ) (q : Tree) (args ts : List Tree) → Within m q → AllIn m args → AllIn m ts → Within m (premise_end f k q args ts)
  unfolding premise_end
  within-premise_end m k q args ts w a v =
      (within-apply m q ts w v, within-apply m (apply (Ctor f.name k) (variables f.parameters)) args (within-apply m (Ctor f.name k) (variables f.parameters) tt (all_variables m f.parameters)) a)

  -- the end of a premise, and of a type that is none
  ended : (m k : ℕ) (q : Tree) (seen : List Tree) (t : Tree) (o : Option (List Tree)) → own f t ≡ o → length seen ≤ m → Within m q → AllIn m seen → Within (length seen) t
      → Within m (elim o [ None ↦ t | Some ts ↦ premise_end f k q (reverse seen) (map (fill seen 0) ts) ])
  ended m k q seen t None e l w a v = within_more (length seen) m t l v
  ended m k q seen t (Some ts) e l w a v =
      within-premise_end m k q (reverse seen) (map (fill seen 0) ts) w (all_reverse m seen a) (all_map (length seen) m (fill seen 0) (λ u h. within-fill m seen u a h) ts (own_in (length seen) f t ts v e))

  lifted_list : (m by : ℕ) (ts : List Tree) → AllIn m ts → AllIn (m + by) (map (lift by 0) ts)
  lifted_list m by ts a = all_map m (m + by) (lift by 0) (λ t h. within-lift_0 m by t h) ts a

  longer : (by : ℕ) (seen : List Tree) (u B : Tree) → Within (length seen + 1) B → Within (length (u ∷ map (lift by 0) seen)) B
  longer by seen u B v = along (λ z. Within z B) (let e = length-map seen (lift by 0) in omega arith) v

  -- an argument in front of the rest of a premise
  argument : (m k : ℕ) (q : Tree) (seen : List Tree) (x : Name) (A B : Tree) (o : Option (List Tree)) → own f A ≡ o → Within m q → AllIn m seen → Within (length seen) A
      → Within (m + 1) (premise f k (lift 1 0 q) (Rel 0 ∷ map (lift 1 0) seen) B) → Within (m + 2) (premise f k (lift 2 0 q) (Rel 1 ∷ map (lift 2 0) seen) B)
      → Within m (elim o [
        | None ↦ Prod x (fill seen 0 A) (premise f k (lift 1 0 q) (Rel 0 ∷ map (lift 1 0) seen) B)
        | Some ts ↦
            Prod x (fill seen 0 A)
            (Prod [] (App (apply (lift 1 0 q) (map (λ t. lift 1 0 (fill seen 0 t)) ts)) (Rel 0))
            (premise f k (lift 2 0 q) (Rel 1 ∷ map (lift 2 0) seen) B))
      ])
  argument m k q seen x A B None e w a v one two = (within-fill m seen A a v, one)
  argument m k q seen x A B (Some ts) e w a v one two = (
    within-fill m seen A a v,
    (
      (
        within-apply (m + 1) (lift 1 0 q) (map (λ t. lift 1 0 (fill seen 0 t)) ts) (within-lift_0 m 1 q w)
            (all_map (length seen) (m + 1) (λ t. lift 1 0 (fill seen 0 t)) (λ u h. within-lift_0 m 1 (fill seen 0 u) (within-fill m seen u a h)) ts (own_in (length seen) f A ts v e)),
        omega arith,
      ),
      along (λ z. Within z (premise f k (lift 2 0 q) (Rel 1 ∷ map (lift 2 0) seen) B)) (omega arith) two,
    ),
  )

  within-premise : (m k : ℕ) (q : Tree) (seen : List Tree) (t : Tree) → length seen ≤ m → Within m q → AllIn m seen → Within (length seen) t → Within m (premise f k q seen t)
  unfolding premise
  within-premise m k q seen (Prod x A B) l w a v =
      argument m k q seen x A B (own f A) refl w a v.0
      (within-premise (m + 1) k (lift 1 0 q) (Rel 0 ∷ map (lift 1 0) seen) B (let e = length-map seen (lift 1 0) in omega arith) (within-lift_0 m 1 q w) (omega arith, lifted_list m 1 seen a) (longer 1 seen (Rel 0) B v.1))
      (within-premise (m + 2) k (lift 2 0 q) (Rel 1 ∷ map (lift 2 0) seen) B (let e = length-map seen (lift 2 0) in omega arith) (within-lift_0 m 2 q w) (omega arith, lifted_list m 2 seen a) (longer 2 seen (Rel 1) B v.1))
  within-premise m k q seen (Rel i) l w a v = ended m k q seen (Rel i) (own f (Rel i)) refl l w a v
  within-premise m k q seen (Var x) l w a v = ended m k q seen (Var x) (own f (Var x)) refl l w a v
  within-premise m k q seen (Sort s) l w a v = ended m k q seen (Sort s) (own f (Sort s)) refl l w a v
  within-premise m k q seen (Lam x A B) l w a v = ended m k q seen (Lam x A B) (own f (Lam x A B)) refl l w a v
  within-premise m k q seen (Let x u A B) l w a v = ended m k q seen (Let x u A B) (own f (Let x u A B)) refl l w a v
  within-premise m k q seen (App g u) l w a v = ended m k q seen (App g u) (own f (App g u)) refl l w a v
  within-premise m k q seen (Const x) l w a v = ended m k q seen (Const x) (own f (Const x)) refl l w a v
  within-premise m k q seen (Ind x) l w a v = ended m k q seen (Ind x) (own f (Ind x)) refl l w a v
  within-premise m k q seen (Ctor x j) l w a v = ended m k q seen (Ctor x j) (own f (Ctor x j)) refl l w a v
  within-premise m k q seen (Elim x s) l w a v = ended m k q seen (Elim x s) (own f (Elim x s)) refl l w a v
  within-premise m k q seen (Evar j ts) l w a v = ended m k q seen (Evar j ts) (own f (Evar j ts)) refl l w a v

  within-premises : (m k : ℕ) (q : Tree) (cs : List (Name × Tree)) (end : Tree) → Within m q → AllByRecursion (λ c. Within 0 c.1) cs → Within (m + length cs) end → Within m (premises f k q cs end)
  unfolding premises
  within-premises m k q [] end w a v = along (λ z. Within z end) (add-zero m) v
  within-premises m k q (c ∷ cs) end w a v = (
    within-premise m k q [] c.1 (omega arith) w tt a.0,
    within-premises (m + 1) (suc k) (lift 1 0 q) cs end (within-lift_0 m 1 q w) a.1 (along (λ z. Within z end) (omega arith) v),
  )

  within-conclusion : (m : ℕ) (q : Tree) → Within m q → Within m (conclusion f q)
  unfolding conclusion
  within-conclusion m q w =
      within-products m f.indices (Prod (codes "z") (instance_of f (variables f.indices)) (App (apply (lift 1 0 q) (variables f.indices)) (Rel 0))) (kinds_in m _ f.indices written.indices)
      (within-instance_of m (variables f.indices) (all_variables m f.indices), (within-apply (m + 1) (lift 1 0 q) (variables f.indices) (within-lift_0 m 1 q w) (all_variables (m + 1) f.indices), omega arith))

  closed_types : (cs : List (Name × Tree)) (names : List Name) → AllByRecursion (λ c. StandsUnder names c.1) cs → AllByRecursion (λ (c : Name × Tree). Within 0 c.1) cs
  closed_types [] names p = tt
  closed_types (c ∷ cs) names p = (p.0.within, closed_types cs names p.1)

  pub within-elim_type : (s : Universe) → Within 0 (elim_type f s)
  unfolding elim_type predicate_type
  within-elim_type s =
      within-products 0 f.parameters _ (kinds_in 0 [] f.parameters written.parameters) (
        within-products 0 f.indices (Prod [] (instance_of f (variables f.indices)) (Sort s)) (kinds_in 0 _ f.indices written.indices) (within-instance_of 0 (variables f.indices) (all_variables 0 f.indices), tt),
        within-premises 1 0 (Rel 0) f.constructors (conclusion f (Rel (length f.constructors))) (omega arith) (closed_types f.constructors _ written.constructors)
            (within-conclusion (1 + length f.constructors) (Rel (length f.constructors)) (omega arith)),
      )
