-- The laws of an eliminator's whole type.
use Rattle.std.proofs.Common.{◌≡◌, ◌≤◌, ◌<◌, ◌+◌, ◌∙◌, ℕ, suc, refl, sym, ap, ap₂, arith, add-zero, List, [], ◌∷◌, ◌++◌, length, get_or, take, drop}
use Rattle.std.proofs.Common.{subst as along}
use Rattle.std.specs.Prelude.{codes}
use Rattle.std.specs.List.{AllByRecursion}
use Rattle.std.proofs.lemmas.List.{take_more, map-append, length-map, length-take-le, take-append-drop}
use Rattle.lq_trees.specs.declared.Sort.{Sort as Universe}
use Rattle.lq_trees.specs.Tree.{Name, Tree}
use Rattle.lq_trees.specs.Change.{lift}
use Rattle.lq_trees.specs.Size.{size}
use Rattle.lq_trees.specs.Index.{Within}
use Rattle.lq_trees.proofs.FillLaws.{lifted_above}
use Rattle.lq_terms.specs.declared.nodes.NameId.{NameId}
use Rattle.lq_terms.specs.declared.nodes.TermId.{TermId}
use Rattle.lq_terms.specs.Terms.{Terms, tree_of}
use Rattle.lq_calculus.specs.Contraction.{apply}
use Rattle.lq_calculus.specs.Declarations.{Family, premise, premises, conclusion, predicate_type, instance_of, variables, products, elim_type}
use Rattle.lq_env.specs.Families.{StandsUnder, constructor_of, constructors_of}
use Rattle.lq_env.specs.Telescopes.{Binders, telescope, span, AreApart}
use Rattle.lq_env.specs.Premises.{premise_binders, eliminator_body}
use Rattle.lq_env.proofs.Weights.{span-append, size-telescope, size-products, length-weight}
use Rattle.lq_env.proofs.StoredLaws.{within-products}
use Rattle.lq_env.proofs.EliminatorLaws.{apply-within, variables-within, instance-within}
use Rattle.lq_env.proofs.PremiseSteps.{premise-within}
use Rattle.lq_env.proofs.FaultLaws.{no_constructor}

pub premises_telescope : (f : Family) (k : ℕ) (cs : List (Name × Tree)) (end : Tree) → premises f k (Tree.Rel k) cs end ≡ telescope (premise_binders f k cs) end
unfolding premises
premises_telescope f k [] end = refl
premises_telescope f k (c ∷ cs) end =
    ap (Tree.Prod [] (premise f k (Tree.Rel k) [] c.1))
    (ap₂ (λ j q. premises f j q cs end) one (lifted_above 1 0 k (omega arith)) ∙ premises_telescope f (k + 1) cs end)
  where
    one : suc k ≡ k + 1
    one = omega arith

pub premise_binders-append : (f : Family) (k : ℕ) (cs ds : List (Name × Tree)) → premise_binders f k (cs ++ ds) ≡ premise_binders f k cs ++ premise_binders f (k + length cs) ds
premise_binders-append f k [] ds = ap (λ j. premise_binders f j ds) (omega arith)
premise_binders-append f k (c ∷ cs) ds =
    ap (λ z. ([], premise f k (Tree.Rel k) [] c.1) ∷ z) (premise_binders-append f (k + 1) cs ds ∙ ap (λ j. premise_binders f (k + 1) cs ++ premise_binders f j ds) (omega arith))

-- one premise more
module _ (bank : Terms) (f : Family) (cs : List (NameId × TermId)) (i : ℕ) (l : i < length cs) where
  pub premise_more :
      premise_binders f 0 (constructors_of bank (take (i + 1) cs))
      ≡ premise_binders f 0 (constructors_of bank (take i cs)) ++ ([], premise f i (Tree.Rel i) [] (tree_of bank (get_or cs i no_constructor).1)) ∷ []
  premise_more =
      ap (λ z. premise_binders f 0 (constructors_of bank z)) (take_more cs i no_constructor l)
      ∙ ap (premise_binders f 0) (map-append (constructor_of bank) (take i cs) (get_or cs i no_constructor ∷ []))
      ∙ premise_binders-append f 0 (constructors_of bank (take i cs)) (constructor_of bank (get_or cs i no_constructor) ∷ [])
      ∙ ap (λ j. premise_binders f 0 (constructors_of bank (take i cs)) ++ ([], premise f j (Tree.Rel j) [] (tree_of bank (get_or cs i no_constructor).1)) ∷ [])
      (omega (arith, length-map (take i cs) (constructor_of bank), length-take-le i cs (omega arith)))

  pub premise_span :
      (bs : Binders) → span (bs ++ premise_binders f 0 (constructors_of bank (take i cs))) + 1 + size (premise f i (Tree.Rel i) [] (tree_of bank (get_or cs i no_constructor).1))
      ≤ span (bs ++ premise_binders f 0 (constructors_of bank cs))
  premise_span bs =
      let all : premise_binders f 0 (constructors_of bank cs) ≡ premise_binders f 0 (constructors_of bank (take (i + 1) cs)) ++ premise_binders f (0 + length (constructors_of bank (take (i + 1) cs))) (constructors_of bank (drop (i + 1) cs)) =
      ap (λ z. premise_binders f 0 (constructors_of bank z)) (sym (take-append-drop (i + 1) cs)) ∙ ap (premise_binders f 0) (map-append (constructor_of bank) (take (i + 1) cs) (drop (i + 1) cs))
      ∙ premise_binders-append f 0 (constructors_of bank (take (i + 1) cs)) (constructors_of bank (drop (i + 1) cs)) in
      let here = premise_binders f 0 (constructors_of bank (take i cs)) in
      let next = premise f i (Tree.Rel i) [] (tree_of bank (get_or cs i no_constructor).1) in
      omega (
        arith,
        span-append bs here,
        span-append bs (premise_binders f 0 (constructors_of bank cs)),
        ap span all,
        span-append (premise_binders f 0 (constructors_of bank (take (i + 1) cs))) (premise_binders f (0 + length (constructors_of bank (take (i + 1) cs))) (constructors_of bank (drop (i + 1) cs))),
        ap span premise_more,
        span-append here (([], next) ∷ []),
      )

-- loose bound variables
pub premises-within : (f : Family) (k : ℕ) (cs : List (Name × Tree)) (end : Tree) → AllByRecursion (λ c. Within 0 c.1) cs → Within (k + 1 + length cs) end → Within (k + 1) (telescope (premise_binders f k cs) end)
premises-within f k [] end h w = along (λ n. Within n end) (add-zero (k + 1)) w
premises-within f k (c ∷ cs) end h w =
    (premise-within f k (k + 1) (Tree.Rel k) [] c.1 (omega arith) h.0 tt (omega arith), premises-within f (k + 1) cs end h.1 (along (λ n. Within n end) (omega arith) w))

pub conclusion-within : (f : Family) (n : ℕ) → AreApart f.indices → Within (n + 1) (conclusion f (Tree.Rel n))
unfolding conclusion
conclusion-within f n a =
    within-products (n + 1) f.indices (Tree.Prod (codes "z") (instance_of f (variables f.indices)) (Tree.App (apply (lift 1 0 (Tree.Rel n)) (variables f.indices)) (Tree.Rel 0))) a (
      instance-within (n + 1) f f.indices,
      (apply-within (n + 1 + 1) (lift 1 0 (Tree.Rel n)) (variables f.indices) (along (Within (n + 1 + 1)) (sym (lifted_above 1 0 n (omega arith))) (omega arith)) (variables-within (n + 1 + 1) f.indices), omega arith),
    )

pub predicate-within : (f : Family) (s : Universe) → AreApart f.indices → Within 0 (predicate_type f s)
unfolding predicate_type
predicate-within f s a = within-products 0 f.indices (Tree.Prod [] (instance_of f (variables f.indices)) (Tree.Sort s)) a (instance-within 0 f f.indices, tt)

pub body-within : (f : Family) (P : Tree) → Within 0 P → AreApart f.indices → AllByRecursion (λ c. Within 0 c.1) f.constructors → Within 0 (eliminator_body f P)
body-within f P h a cs = (
  h,
  premises-within f 0 f.constructors (conclusion f (Tree.Rel (length f.constructors))) cs
      (along (λ n. Within n (conclusion f (Tree.Rel (length f.constructors)))) (omega arith) (conclusion-within f (length f.constructors) a)),
)

-- the whole
pub elim_is : (f : Family) (s : Universe) → products f.parameters (eliminator_body f (predicate_type f s)) ≡ elim_type f s
unfolding elim_type
elim_is f s = ap (λ t. products f.parameters (Tree.Prod (codes "Q") (predicate_type f s) t)) (sym (premises_telescope f 0 f.constructors (conclusion f (Tree.Rel (length f.constructors)))))

pub length-premises : (f : Family) (k : ℕ) (cs : List (Name × Tree)) → length (premise_binders f k cs) ≡ length cs
length-premises f k [] = refl
length-premises f k (c ∷ cs) = ap suc (length-premises f (k + 1) cs)

pub body-larger : (f : Family) (P : Tree) → span ((codes "Q", P) ∷ premise_binders f 0 f.constructors) ≤ size (eliminator_body f P)
body-larger f P = omega (arith, size-telescope ((codes "Q", P) ∷ premise_binders f 0 f.constructors) (conclusion f (Tree.Rel (length f.constructors))))

pub predicate-larger : (f : Family) (P : Tree) → size P ≤ size (eliminator_body f P)
predicate-larger f P = omega arith

pub few_indices : (f : Family) (s : Universe) → size (predicate_type f s) ≤ 1000000 → length f.indices ≤ 1000000
unfolding predicate_type
few_indices f s l =
    omega (arith, l, size-products f.indices (Tree.Prod [] (instance_of f (variables f.indices)) (Tree.Sort s)), length-weight f.indices)

pub closed_constructors : (names : List Name) (cs : List (Name × Tree)) → AllByRecursion (λ c. StandsUnder names c.1) cs → AllByRecursion (λ c. Within 0 c.1) cs
closed_constructors names [] h = tt
closed_constructors names (c ∷ cs) h = (h.0.within, closed_constructors names cs h.1)
