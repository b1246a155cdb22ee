-- The laws of an eliminator's predicate and conclusion.
use Rattle.std.proofs.Common.{◌≡◌, ◌≤◌, ◌+◌, ◌∙◌, ℕ, refl, sym, ap, ap₂, arith, List, [], ◌∷◌}
use Rattle.std.specs.Prelude.{codes}
use Rattle.std.specs.List.{AllByRecursion}
use Rattle.lq_trees.specs.declared.Sort.{Sort as Universe}
use Rattle.lq_trees.specs.Tree.{Name, Tree, Context}
use Rattle.lq_trees.specs.Change.{lift, lifted}
use Rattle.lq_trees.specs.Index.{Within}
use Rattle.lq_trees.proofs.FillLaws.{lifted_below, lifted_above}
use Rattle.lq_calculus.specs.Contraction.{apply}
use Rattle.lq_calculus.specs.Declarations.{Family, variables, instance_of, predicate_type, conclusion, products}
use Rattle.lq_env.proofs.Closing.{lift-within}

pub apply-within : (n : ℕ) (f : Tree) (args : List Tree) → Within n f → AllByRecursion (Within n) args → Within n (apply f args)
unfolding apply
apply-within n f [] h k = h
apply-within n f (a ∷ args) h k = apply-within n (Tree.App f a) args (h, k.0) k.1

pub variables-within : (n : ℕ) (g : Context) → AllByRecursion (Within n) (variables g)
unfolding variables
variables-within n [] = tt
variables-within n (h ∷ g) = (tt, variables-within n g)

pub instance-within : (n : ℕ) (f : Family) (g : Context) → Within n (instance_of f (variables g))
unfolding instance_of
instance-within n f g = apply-within n (apply (Tree.Ind f.name) (variables f.parameters)) (variables g) (apply-within n (Tree.Ind f.name) (variables f.parameters) tt (variables-within n f.parameters)) (variables-within n g)

pub apply-lift : (by d : ℕ) (f : Tree) (g : Context) → lift by d (apply f (variables g)) ≡ apply (lift by d f) (variables g)
unfolding apply variables
apply-lift by d f [] = refl
apply-lift by d f (h ∷ g) = apply-lift by d (Tree.App f (Tree.Var h.name)) g

pub end-lift : (f : Family) (n m q : ℕ) → q ≡ n + 1 + m →
    Tree.Prod (codes "z") (instance_of f (variables f.indices)) (Tree.App (apply (Tree.Rel q) (variables f.indices)) (Tree.Rel 0))
    ≡ lift m 0 (Tree.Prod (codes "z") (instance_of f (variables f.indices)) (Tree.App (apply (lift 1 0 (Tree.Rel n)) (variables f.indices)) (Tree.Rel 0)))
end-lift f n m q e =
    ap₂ (λ a b. Tree.Prod (codes "z") a (Tree.App b (Tree.Rel 0)))
    (sym (lift-within m 0 (instance_of f (variables f.indices)) (instance-within 0 f f.indices)))
    (ap (λ t. apply t (variables f.indices)) (ap Tree.Rel e ∙ sym (lifted_above m 1 (n + 1) (omega arith)) ∙ ap (lift m 1) (sym (lifted_above 1 0 n (omega arith))))
    ∙ sym (apply-lift m 1 (lift 1 0 (Tree.Rel n)) f.indices))
    ∙ ap₂ (λ d z. Tree.Prod (codes "z") (lift m 0 (instance_of f (variables f.indices))) (Tree.App (lift m d (apply (lift 1 0 (Tree.Rel n)) (variables f.indices))) z)) one (sym (lifted_below m 1 0 (omega arith)) ∙ ap (λ d. lifted m d 0) one)
  where
    one : 1 ≡ 0 + 1
    one = omega arith

pub end-within : (f : Family) (q n : ℕ) → q ≤ n → Within n (Tree.Prod (codes "z") (instance_of f (variables f.indices)) (Tree.App (apply (Tree.Rel q) (variables f.indices)) (Tree.Rel 0)))
end-within f q n l = (instance-within n f f.indices, (apply-within (n + 1) (Tree.Rel q) (variables f.indices) (omega arith) (variables-within (n + 1) f.indices), omega arith))

pub prod_is : {x y : Name} {a b c e : Tree} → x ≡ y → a ≡ b → c ≡ e → Tree.Prod x a c ≡ Tree.Prod y b e
prod_is p q r = λ i. Tree.Prod (p i) (q i) (r i)

-- a predicate's type, and a conclusion, over a family's indices
module _ (f : Family) where
  pub predicate_is : (s : Universe) → products f.indices (Tree.Prod [] (instance_of f (variables f.indices)) (Tree.Sort s)) ≡ predicate_type f s
  unfolding predicate_type
  predicate_is s = refl

  pub conclusion_is : (n : ℕ) → products f.indices (Tree.Prod (codes "z") (instance_of f (variables f.indices)) (Tree.App (apply (lift 1 0 (Tree.Rel n)) (variables f.indices)) (Tree.Rel 0))) ≡ conclusion f (Tree.Rel n)
  unfolding conclusion
  conclusion_is n = refl
