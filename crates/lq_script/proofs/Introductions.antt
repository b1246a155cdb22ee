-- The proof of a statement that a goal reached by introductions gives.
use Rattle.std.proofs.Common.{◌≡◌, ℕ, zero, suc, ◌+◌, ◌-◌, ◌<◌, refl, sym, ◌∙◌, ap, ap₂, List, [], ◌∷◌, ◌++◌, length, Option, Some, None, Bool, true, false, arith, add-zero, length-append}
use Rattle.std.proofs.Common.{subst as along}
use Rattle.std.proofs.lemmas.List.{map-append, length-map}
use Rattle.lq_trees.specs.Tree.{Name, Tree, Hypothesis, Context, same_name}
use Rattle.lq_trees.specs.Change.{close, close_at}
use Rattle.lq_trees.specs.Size.{depth}
use Rattle.lq_trees.specs.Index.{Within}
use Rattle.lq_trees.specs.Fresh.{is_listed, opened, under}
use Rattle.lq_trees.proofs.FillLaws.{lifted_below}
use Rattle.lq_output.specs.Steps.{binder_of, abstracted}
use Rattle.lq_script.specs.Simple.{IsSimple}
use Rattle.lq_script.specs.Introduced.{Introduced, from_statement, one_more, names_of, abstraction}
use Rattle.lq_calculus.proofs.ConvSound.{same_name_is}
use Rattle.lq_script.proofs.Places.{no_place, place_last, place_before, place_within, closes_self, closes_other}
use Rattle.lq_script.proofs.Simples.{closed_again, opened_simple}

-- hypotheses turned into bound variables below so many binders, the newest the nearest
abbrev pub closes_at : ℕ → List Name → Tree → Tree
closes_at d [] t = t
closes_at d (x ∷ xs) t = close_at x (d + length xs) (closes_at d xs t)

pub closes_more : (d : ℕ) (xs : List Name) (x : Name) (t : Tree) → closes_at d (xs ++ (x ∷ [])) t ≡ closes_at (d + 1) xs (close_at x d t)
closes_more d [] x t = ap (λ k. close_at x k t) (add-zero d)
closes_more d (y ∷ ys) x t = ap₂ (λ k u. close_at y k u) (omega (arith, length-append ys (x ∷ []))) (closes_more d ys x t)

pub closes_prod : (d : ℕ) (xs : List Name) (y : Name) (kind rest : Tree) → closes_at d xs (Tree.Prod y kind rest) ≡ Tree.Prod y (closes_at d xs kind) (closes_at (d + 1) xs rest)
closes_prod d [] y kind rest = refl
closes_prod d (x ∷ xs) y kind rest =
    ap (close_at x (d + length xs)) (closes_prod d xs y kind rest)
    ∙ ap (λ k. Tree.Prod y (close_at x (d + length xs) (closes_at d xs kind)) (close_at x k (closes_at (d + 1) xs rest))) (omega arith)

pub closes_lam : (d : ℕ) (xs : List Name) (y : Name) (kind rest : Tree) → closes_at d xs (Tree.Lam y kind rest) ≡ Tree.Lam y (closes_at d xs kind) (closes_at (d + 1) xs rest)
closes_lam d [] y kind rest = refl
closes_lam d (x ∷ xs) y kind rest =
    ap (close_at x (d + length xs)) (closes_lam d xs y kind rest)
    ∙ ap (λ k. Tree.Lam y (close_at x (d + length xs) (closes_at d xs kind)) (close_at x k (closes_at (d + 1) xs rest))) (omega arith)

pub closes_const : (d : ℕ) (xs : List Name) (c : Name) → closes_at d xs (Tree.Const c) ≡ Tree.Const c
closes_const d [] c = refl
closes_const d (x ∷ xs) c = ap (close_at x (d + length xs)) (closes_const d xs c)

-- a bound variable nearer than all of them stays
pub closes_near : (d : ℕ) (xs : List Name) (i : ℕ) → i < d → closes_at d xs (Tree.Rel i) ≡ Tree.Rel i
closes_near d [] i l = refl
closes_near d (x ∷ xs) i l = ap (close_at x (d + length xs)) (closes_near d xs i l) ∙ lifted_below 1 (d + length xs) i (omega arith)

-- what stands under so many leading products
abbrev pub rest_of : ℕ → Tree → Option Tree
rest_of zero A = Some A
rest_of (suc n) (Tree.Prod y kind rest) = rest_of n rest
rest_of (suc n) _ = None

pub rest_more : (n : ℕ) (A : Tree) (y : Name) (kind rest : Tree) → rest_of n A ≡ Some (Tree.Prod y kind rest) → rest_of (suc n) A ≡ Some rest
rest_more zero (Tree.Prod w a b) y kind rest e = ap Some cc
rest_more zero _ y kind rest e = cc
rest_more (suc n) (Tree.Prod w a b) y kind rest e = rest_more n b y kind rest e
rest_more (suc n) _ y kind rest e = cc

pub rest_depth : (n : ℕ) (A R : Tree) → rest_of n A ≡ Some R → n < depth A
rest_depth zero A R e = depth_pos A
  where
    depth_pos : (A : Tree) → 0 < depth A
    depth_pos (Tree.Rel i) = omega arith
    depth_pos (Tree.Var x) = omega arith
    depth_pos (Tree.Sort s) = omega arith
    depth_pos (Tree.Prod x a b) = omega arith
    depth_pos (Tree.Lam x a b) = omega arith
    depth_pos (Tree.Let x v a b) = omega arith
    depth_pos (Tree.App f a) = omega arith
    depth_pos (Tree.Const c) = omega arith
    depth_pos (Tree.Ind c) = omega arith
    depth_pos (Tree.Ctor c k) = omega arith
    depth_pos (Tree.Elim c s) = omega arith
    depth_pos (Tree.Evar n ts) = omega arith
rest_depth (suc n) (Tree.Prod w a b) R e = omega (arith, rest_depth n b R e)
rest_depth (suc n) _ R e = absurd cc

pub abstracted_more : (g : Context) (h : Hypothesis) (t : Tree) → abstracted (g ++ (h ∷ [])) t ≡ abstracted g (Tree.Lam h.name h.kind (close h.name t))
unfolding abstracted
abstracted_more [] h t = refl
abstracted_more (k ∷ ks) h t = ap (λ u. Tree.Lam k.name k.kind (close k.name u)) (abstracted_more ks h t)

pub abstraction_more : (xs : List Name) (x : Name) (A t : Tree) (y : Name) (kind rest : Tree) → rest_of (length xs) A ≡ Some (Tree.Prod y kind rest) → abstraction (xs ++ (x ∷ [])) A t ≡ abstraction xs A (Tree.Lam x kind t)
abstraction_more [] x (Tree.Prod w a b) t y kind rest e = ap (λ k. Tree.Lam x k t) cc
abstraction_more [] x _ t y kind rest e = cc
abstraction_more (z ∷ zs) x (Tree.Prod w a b) t y kind rest e = ap (Tree.Lam z a) (abstraction_more zs x b t y kind rest e)
abstraction_more (z ∷ zs) x _ t y kind rest e = cc

pub names_more : (g : Context) (x : Name) (kind : Tree) → names_of (under g x kind) ≡ names_of g ++ (x ∷ [])
unfolding under
names_more g x kind = map-append (λ h. h.name) g (record { name = x; body = None; kind = kind } ∷ [])

-- the goal is simple over the names that were introduced
pub introduced_simple : {A : Tree} {g : Context} {T : Tree} → Introduced A g T → IsSimple [] A → IsSimple (names_of g) T
introduced_simple from_statement s = s
introduced_simple (one_more g x y kind rest i e) s =
    along (λ xs. IsSimple xs (opened x rest)) (sym (names_more g x kind)) (opened_simple (names_of g) x rest (introduced_simple i s).1)

pub one_longer : (xs : List Name) (x : Name) → length (xs ++ (x ∷ [])) ≡ suc (length xs)
one_longer xs x = omega (arith, length-append xs (x ∷ []))

-- one name more is introduced
module _ (A : Tree) (xs : List Name) (x y : Name) (kind rest : Tree) (left : rest_of (length xs) A ≡ Some (closes_at 0 xs (Tree.Prod y kind rest))) where
  is_product : rest_of (length xs) A ≡ Some (Tree.Prod y (closes_at 0 xs kind) (closes_at 1 xs rest))
  is_product = left ∙ ap Some (closes_prod 0 xs y kind rest)

  rest_step : is_listed xs x ≡ false → IsSimple xs rest → rest_of (length (xs ++ (x ∷ []))) A ≡ Some (closes_at 0 (xs ++ (x ∷ [])) (opened x rest))
  rest_step new s =
      ap (λ n. rest_of n A) (one_longer xs x)
      ∙ rest_more (length xs) A y (closes_at 0 xs kind) (closes_at 1 xs rest) is_product
      ∙ ap Some (sym (closes_more 0 xs x (opened x rest) ∙ ap (closes_at 1 xs) (closed_again xs x new rest s)))

  abstraction_step : (t : Tree) → abstraction xs A (closes_at 0 xs (Tree.Lam x kind (close x t))) ≡ abstraction (xs ++ (x ∷ [])) A (closes_at 0 (xs ++ (x ∷ [])) t)
  abstraction_step t =
      ap (abstraction xs A) (closes_lam 0 xs x kind (close x t))
      ∙ sym (abstraction_more xs x A (closes_at 1 xs (close x t)) y (closes_at 0 xs kind) (closes_at 1 xs rest) is_product)
      ∙ ap (abstraction (xs ++ (x ∷ [])) A) (sym (closes_more 0 xs x t))

-- what is left of the statement is the goal with those names closed
pub introduced_rest : {A : Tree} {g : Context} {T : Tree} → Introduced A g T → IsSimple [] A → rest_of (length (names_of g)) A ≡ Some (closes_at 0 (names_of g) T)
introduced_rest from_statement s = refl
introduced_rest {A} (one_more g x y kind rest i e) s =
    along (λ xs. rest_of (length xs) A ≡ Some (closes_at 0 xs (opened x rest))) (sym (names_more g x kind))
    (rest_step A (names_of g) x y kind rest (introduced_rest i s) e (introduced_simple i s).1)

-- a proof of the goal, with the hypotheses abstracted, is that many abstractions over the statement's own domains
pub introduced_abstracted : {A : Tree} {g : Context} {T : Tree} → Introduced A g T → IsSimple [] A → (t : Tree) → abstracted g t ≡ abstraction (names_of g) A (closes_at 0 (names_of g) t)
unfolding abstracted under
introduced_abstracted from_statement s t = refl
introduced_abstracted {A} (one_more g x y kind rest i e) s t =
    abstracted_more g (record { name = x; body = None; kind = kind }) t
    ∙ introduced_abstracted i s (Tree.Lam x kind (close x t))
    ∙ abstraction_step A (names_of g) x y kind rest (introduced_rest i s) t
    ∙ ap (λ xs. abstraction xs A (closes_at 0 xs t)) (sym (names_more g x kind))

-- there are fewer hypotheses than the statement is deep
pub introduced_fewer : {A : Tree} {g : Context} {T : Tree} → Introduced A g T → IsSimple [] A → length g < depth A
introduced_fewer {A} {g} {T} i s = omega (arith, rest_depth (length (names_of g)) A (closes_at 0 (names_of g) T) (introduced_rest i s), length-map g (λ h. h.name))

-- the number of a hypothesis from the newest on is that of its bound variable
var_step :
    (xs : List Name) (x z : Name) → is_listed xs x ≡ false
    → ((d i : ℕ) → binder_of xs z ≡ Some i → closes_at d xs (Tree.Var z) ≡ Tree.Rel (d + (length xs - 1 - i)))
    → (d i : ℕ) → binder_of (xs ++ (x ∷ [])) z ≡ Some i → closes_at d (xs ++ (x ∷ [])) (Tree.Var z) ≡ Tree.Rel (d + (length (xs ++ (x ∷ [])) - 1 - i))
var_step xs x z new ih d i at = closes_more d xs x (Tree.Var z) ∙ go (same_name x z) refl
  where
    here : same_name x z ≡ true → closes_at (d + 1) xs (close_at x d (Tree.Var z)) ≡ Tree.Rel (d + (length (xs ++ (x ∷ [])) - 1 - i))
    here e =
        let same : x ≡ z = same_name_is x z e in
        let last : i ≡ length xs = place_last xs x z i same new at in
        ap (closes_at (d + 1) xs) (closes_self x z d same) ∙ closes_near (d + 1) xs d (omega arith) ∙ ap Tree.Rel (omega (arith, one_longer xs x))

    before : same_name x z ≡ false → closes_at (d + 1) xs (close_at x d (Tree.Var z)) ≡ Tree.Rel (d + (length (xs ++ (x ∷ [])) - 1 - i))
    before e =
        let was : binder_of xs z ≡ Some i = place_before xs x z i e at in
        ap (closes_at (d + 1) xs) (closes_other x z d e) ∙ ih (d + 1) i was ∙ ap Tree.Rel (omega (arith, one_longer xs x, place_within xs z i was))

    go : (b : Bool) → same_name x z ≡ b → closes_at (d + 1) xs (close_at x d (Tree.Var z)) ≡ Tree.Rel (d + (length (xs ++ (x ∷ [])) - 1 - i))
    go true e = here e
    go false e = before e

pub introduced_var :
    {A : Tree} {g : Context} {T : Tree} → Introduced A g T → (z : Name) (d i : ℕ) → binder_of (names_of g) z ≡ Some i
    → closes_at d (names_of g) (Tree.Var z) ≡ Tree.Rel (d + (length (names_of g) - 1 - i))
introduced_var from_statement z d i at = absurd (no_place z i at)
introduced_var {A} (one_more g x y kind rest j e) z d i at =
    along (λ xs. binder_of xs z ≡ Some i → closes_at d xs (Tree.Var z) ≡ Tree.Rel (d + (length xs - 1 - i))) (sym (names_more g x kind))
    (var_step (names_of g) x z e (λ d i at. introduced_var j z d i at) d i) at

-- the abstractions round the hypothesis of a name, and round a constant
pub var_abstracted :
    {A : Tree} {g : Context} {T : Tree} → Introduced A g T → IsSimple [] A → (z : Name) (i : ℕ) → binder_of (names_of g) z ≡ Some i
    → abstracted g (Tree.Var z) ≡ abstraction (names_of g) A (Tree.Rel (length g - 1 - i))
var_abstracted {A} {g} {T} j s z i at =
    introduced_abstracted j s (Tree.Var z)
    ∙ ap (abstraction (names_of g) A) (introduced_var j z 0 i at ∙ ap Tree.Rel (omega (arith, length-map g (λ h. h.name))))

pub const_abstracted : {A : Tree} {g : Context} {T : Tree} → Introduced A g T → IsSimple [] A → (c : Name) → abstracted g (Tree.Const c) ≡ abstraction (names_of g) A (Tree.Const c)
const_abstracted {A} {g} {T} j s c = introduced_abstracted j s (Tree.Const c) ∙ ap (abstraction (names_of g) A) (closes_const 0 (names_of g) c)

-- the abstractions leave no loose variable
pub abstraction_within : (m : ℕ) (xs : List Name) (A R t : Tree) → rest_of (length xs) A ≡ Some R → Within m A → Within (m + length xs) t → Within m (abstraction xs A t)
abstraction_within m [] A R t e w h = along (λ n. Within n t) (add-zero m) h
abstraction_within m (x ∷ xs) (Tree.Prod y kind rest) R t e w h =
    (w.0, abstraction_within (m + 1) xs rest R t e w.1 (along (λ n. Within n t) (omega arith) h))
abstraction_within m (x ∷ xs) _ R t e w h = absurd cc
