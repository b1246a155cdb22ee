-- What a written term stands for.
use Rattle.std.proofs.Common.{◌≡◌, ℕ, suc, ◌+◌, ◌≤◌, ◌<◌, max, refl, List, [], ◌∷◌, length, Option, Some, None, arith}
use Rattle.std.proofs.Common.{subst as along}
use Rattle.lq_trees.specs.Tree.{Name, Tree}
use Rattle.lq_trees.specs.Size.{depth}
use Rattle.lq_trees.specs.Index.{Within}
use Rattle.lq_calculus.specs.Declarations.{Env, Entry, lookup, constant, family, arity, constructor, eliminator}
use Rattle.lq_output.specs.Grammar.{Surface, named, prop, forall_, to}
use Rattle.lq_output.specs.Nesting.{nesting}
use Rattle.lq_output.specs.Steps.{binder_of, constant_in, global, meant, product_of, resolved}
use Rattle.lq_script.specs.Simple.{IsSimple}
use Rattle.lq_script.proofs.Places.{place_within}

-- a closed type of so many bound variables and of that depth, if there is one
pub record IsWritten (n d : ℕ) (A : Tree) : Type 0 where
  pub simple : IsSimple [] A
  pub below : Within n A
  pub low : depth A ≤ d

abbrev pub LeavesWritten : (n d : ℕ) → Option Tree → Type 0
LeavesWritten n d None = Unit {0}
LeavesWritten n d (Some A) = IsWritten n d A

meant_written : (env : Env) (bs : List Name) (x : Name) → LeavesWritten (length bs) 1 (meant env bs x)
unfolding meant global constant_in
meant_written env bs x = go (binder_of bs x) (λ i e. place_within bs x i e) (lookup env x)
  where
    go : (o : Option ℕ) → ((i : ℕ) → o ≡ Some i → i < length bs) → (e : Option Entry) →
        LeavesWritten (length bs) 1 (elim o [ Some i ↦ Some (Tree.Rel i) | None ↦ elim (constant_in e x) [ Some c ↦ Some c.0 | None ↦ None ] ])
    go (Some i) h e = record { simple = tt; below = h i refl; low = omega arith }
    go None h (Some (constant A t o)) = record { simple = tt; below = tt; low = omega arith }
    go None h (Some (family f ss)) = tt
    go None h (Some (arity A)) = tt
    go None h (Some (constructor c k)) = tt
    go None h (Some (eliminator c s)) = tt
    go None h None = tt

product_written : (n k l : ℕ) (x : Name) (a b : Option Tree) → LeavesWritten n (suc k) a → LeavesWritten (n + 1) (suc l) b → LeavesWritten n (suc (suc (max k l))) (product_of x a b)
unfolding product_of
product_written n k l x (Some A) (Some B) h i = record { simple = (h.simple, i.simple); below = (h.below, i.below); low = omega (arith, h.low, i.low) }
product_written n k l x (Some A) None h i = tt
product_written n k l x None b h i = tt

pub resolved_written : (env : Env) (bs : List Name) (S : Surface) → LeavesWritten (length bs) (suc (nesting S)) (resolved env bs S)
unfolding resolved
resolved_written env bs (named x) = meant_written env bs x
resolved_written env bs prop = record { simple = tt; below = tt; low = omega arith }
resolved_written env bs (forall_ x A B) = product_written (length bs) (nesting A) (nesting B) x _ _ (resolved_written env bs A) (along (λ n. LeavesWritten n (suc (nesting B)) (resolved env (x ∷ bs) B)) (omega arith) (resolved_written env (x ∷ bs) B))
resolved_written env bs (to A B) = product_written (length bs) (nesting A) (nesting B) [] _ _ (resolved_written env bs A) (along (λ n. LeavesWritten n (suc (nesting B)) (resolved env ([] ∷ bs) B)) (omega arith) (resolved_written env ([] ∷ bs) B))

-- a statement
pub statement_written : (env : Env) (S : Surface) (A : Tree) → resolved env [] S ≡ Some A → IsWritten 0 (suc (nesting S)) A
statement_written env S A e = along (LeavesWritten 0 (suc (nesting S))) e (resolved_written env [] S)
