-- The printed name of a binder, by the names in its body in any order.
use Rattle.std.proofs.Common.{◌≡◌, ℕ, zero, suc, Bool, true, false, List, [], ◌∷◌, ◌++◌, length, refl, sym, ap, ◌∙◌, arith, length-append}
use Rattle.std.specs.Prelude.{◌||◌, decimal}
use Rattle.lq_trees.specs.Tree.{Name, Tree, Trees, none, more, same_name}
use Rattle.lq_trees.specs.Tree.Tree.{Rel, Var, Sort, Prod, Lam, Let, App, Const, Ind, Ctor, Elim, Evar}
use Rattle.lq_trees.specs.Fresh.{is_listed, fresh_from, fresh_of}
use Rattle.lq_calculus.specs.Declarations.{Env}
use Rattle.lq_texts.specs.Printing.{uses, names_in, names_in_all, own_name, printed_name}
use Rattle.lq_print.specs.Flat.{names_back, names_back_each, over_of, name_for}

or_turned : (a b : Bool) → (a || b) ≡ (b || a)
or_turned true true = refl
or_turned true false = refl
or_turned false true = refl
or_turned false false = refl

or_grouped : (a b c : Bool) → ((a || b) || c) ≡ (a || (b || c))
or_grouped true b c = refl
or_grouped false b c = refl

pub listed_append : (xs ys : List Name) (x : Name) → is_listed (xs ++ ys) x ≡ (is_listed xs x || is_listed ys x)
unfolding is_listed
listed_append [] ys x = refl
listed_append (y ∷ xs) ys x =
    ap (λ b. same_name y x || b) (listed_append xs ys x) ∙ sym (or_grouped (same_name y x) (is_listed xs x) (is_listed ys x))

-- the same names, and as many
pub record AreAlike (xs ys : List Name) : Type 0 where
  pub listed : (x : Name) → is_listed xs x ≡ is_listed ys x
  pub count : length xs ≡ length ys

alike_self : (xs : List Name) → AreAlike xs xs
alike_self xs = record { listed = λ x. refl; count = refl }

pub alike_append : (xs ys us vs : List Name) → AreAlike xs us → AreAlike ys vs → AreAlike (xs ++ ys) (us ++ vs)
alike_append xs ys us vs a b = record {
  listed = λ x. listed_append xs ys x ∙ ap (λ c. c || is_listed ys x) (a.listed x) ∙ ap (λ c. is_listed us x || c) (b.listed x) ∙ sym (listed_append us vs x);
  count = omega (arith, length-append xs ys, length-append us vs, a.count, b.count);
}

-- two parts in the other order
alike_turned : (xs ys us vs : List Name) → AreAlike xs us → AreAlike ys vs → AreAlike (ys ++ xs) (us ++ vs)
alike_turned xs ys us vs a b = record {
  listed = λ x.
      listed_append ys xs x ∙ or_turned (is_listed ys x) (is_listed xs x) ∙ ap (λ c. c || is_listed ys x) (a.listed x)
      ∙ ap (λ c. is_listed us x || c) (b.listed x) ∙ sym (listed_append us vs x);
  count = omega (arith, length-append ys xs, length-append us vs, a.count, b.count);
}

mutual
  unfolding names_in names_in_all

  pub names_alike : (env : Env) (t : Tree) → AreAlike (names_back env t) (names_in env t)
  names_alike env (Rel i) = alike_self []
  names_alike env (Var x) = alike_self _
  names_alike env (Sort s) = alike_self []
  names_alike env (Prod x A B) = alike_turned _ _ _ _ (names_alike env A) (names_alike env B)
  names_alike env (Lam x A B) = alike_turned _ _ _ _ (names_alike env A) (names_alike env B)
  names_alike env (Let x v A B) = alike_turned _ _ _ _ (alike_append _ _ _ _ (names_alike env v) (names_alike env A)) (names_alike env B)
  names_alike env (App f a) = alike_turned _ _ _ _ (names_alike env f) (names_alike env a)
  names_alike env (Const c) = alike_self _
  names_alike env (Ind c) = alike_self _
  names_alike env (Ctor c k) = alike_self _
  names_alike env (Elim c s) = alike_self _
  names_alike env (Evar n ts) = names_alike_each env ts

  names_alike_each : (env : Env) (ts : Trees) → AreAlike (names_back_each env ts) (names_in_all env ts)
  names_alike_each env none = alike_self []
  names_alike_each env (more t ts) = alike_turned _ _ _ _ (names_alike env t) (names_alike_each env ts)

fresh_from_alike : (xs ys : List Name) (x : Name) (k tries : ℕ) → ((y : Name) → is_listed xs y ≡ is_listed ys y) → fresh_from xs x k tries ≡ fresh_from ys x k tries
unfolding fresh_from
fresh_from_alike xs ys x k zero h = refl
fresh_from_alike xs ys x k (suc n) h =
    ap (λ b. elim b as (λ _. Name) [ true ↦ fresh_from xs x (suc k) n | false ↦ x ++ decimal k ]) (h (x ++ decimal k))
    ∙ ap (λ (z : Name). elim (is_listed ys (x ++ decimal k)) as (λ _. Name) [ true ↦ z | false ↦ x ++ decimal k ]) (fresh_from_alike xs ys x (suc k) n h)

-- the fresh name among the same names
pub fresh_alike : (xs ys : List Name) (x : Name) → AreAlike xs ys → fresh_of xs x ≡ fresh_of ys x
unfolding fresh_of
fresh_alike xs ys x a =
    ap (λ b. elim b as (λ _. Name) [ true ↦ fresh_from xs x 0 (length xs) | false ↦ x ]) (a.listed x)
    ∙ ap (λ (z : Name). elim (is_listed ys x) as (λ _. Name) [ true ↦ z | false ↦ x ])
    (fresh_from_alike xs ys x 0 (length xs) a.listed ∙ ap (fresh_from ys x 0) a.count)

-- the name that is chosen is the printed one
pub name_is : (env : Env) (bs : List Name) (x : Name) (body : Tree) → name_for (over_of env x body) bs ≡ printed_name env bs x body
unfolding printed_name
name_is env bs x body =
    ap (λ (z : Name). elim (uses 0 body) as (λ _. Name) [ true ↦ z | false ↦ [] ])
    (fresh_alike _ _ (own_name x) (alike_append (names_back env body) bs (names_in env body) bs (names_alike env body) (alike_self bs)))
