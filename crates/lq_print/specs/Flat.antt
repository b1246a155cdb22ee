-- The pieces of a term, from right to left, each node behind its parts; the instances of variables are left out.
use Rattle.std.specs.Prelude.{ℕ, suc, Bool, true, false, ◌||◌, List, [], ◌∷◌, ◌++◌}
use Rattle.lq_trees.specs.Tree.{Name, Tree, Trees, none, more}
use Rattle.lq_trees.specs.Tree.Tree.{Rel, Var, Sort, Prod, Lam, Let, App, Const, Ind, Ctor, Elim, Evar}
use Rattle.lq_trees.specs.Fresh.{fresh_of}
use Rattle.lq_calculus.specs.Declarations.{Env}
use Rattle.lq_texts.specs.Printing.{uses, constructor_name, own_name, eliminator_text}
use Rattle.lq_print.specs.Spelling.{Over, Shown, bound, named, sort, applied, product, function, local, unknown}

-- the names that occur in a term, from right to left
abbrev mutual
  pub names_back : Env → Tree → List Name
  names_back env (Rel i) = []
  names_back env (Var x) = x ∷ []
  names_back env (Sort s) = []
  names_back env (Prod x A B) = names_back env B ++ names_back env A
  names_back env (Lam x A t) = names_back env t ++ names_back env A
  names_back env (Let x v A t) = names_back env t ++ (names_back env v ++ names_back env A)
  names_back env (App f a) = names_back env a ++ names_back env f
  names_back env (Const c) = c ∷ []
  names_back env (Ind c) = c ∷ []
  names_back env (Ctor c k) = constructor_name env c k ∷ []
  names_back env (Elim c s) = eliminator_text c s ∷ []
  names_back env (Evar n ts) = names_back_each env ts

  pub names_back_each : Env → Trees → List Name
  names_back_each env none = []
  names_back_each env (more t ts) = names_back_each env ts ++ names_back env t

-- the binder over a body
abbrev pub over_of : Env → Name → Tree → Over
over_of env x body = record { own = x; used = uses 0 body; inside = names_back env body }

-- the piece of a term's node
abbrev pub node_of : Env → Tree → Shown
node_of env (Rel i) = bound i
node_of env (Var x) = named x
node_of env (Sort s) = sort s
node_of env (Prod x A B) = product (over_of env x B)
node_of env (Lam x A t) = function (over_of env x t)
node_of env (Let x v A t) = local (over_of env x t)
node_of env (App f a) = applied
node_of env (Const c) = named c
node_of env (Ind c) = named c
node_of env (Ctor c k) = named (constructor_name env c k)
node_of env (Elim c s) = named (eliminator_text c s)
node_of env (Evar n ts) = unknown n

-- the parts that are printed, in the order in which they are
abbrev pub parts_of : Tree → List Tree
parts_of (Rel i) = []
parts_of (Var x) = []
parts_of (Sort s) = []
parts_of (Prod x A B) = A ∷ B ∷ []
parts_of (Lam x A t) = A ∷ t ∷ []
parts_of (Let x v A t) = A ∷ v ∷ t ∷ []
parts_of (App f a) = f ∷ a ∷ []
parts_of (Const c) = []
parts_of (Ind c) = []
parts_of (Ctor c k) = []
parts_of (Elim c s) = []
parts_of (Evar n ts) = []

-- the pieces of a term
abbrev pub flat : Env → Tree → List Shown
flat env (Rel i) = bound i ∷ []
flat env (Var x) = named x ∷ []
flat env (Sort s) = sort s ∷ []
flat env (Prod x A B) = (flat env B ++ flat env A) ++ product (over_of env x B) ∷ []
flat env (Lam x A t) = (flat env t ++ flat env A) ++ function (over_of env x t) ∷ []
flat env (Let x v A t) = (flat env t ++ flat env v ++ flat env A) ++ local (over_of env x t) ∷ []
flat env (App f a) = (flat env a ++ flat env f) ++ applied ∷ []
flat env (Const c) = named c ∷ []
flat env (Ind c) = named c ∷ []
flat env (Ctor c k) = named (constructor_name env c k) ∷ []
flat env (Elim c s) = named (eliminator_text c s) ∷ []
flat env (Evar n ts) = unknown n ∷ []

-- the pieces of terms, those of the first behind those of the others
abbrev pub flats : Env → List Tree → List Shown
flats env [] = []
flats env (t ∷ ts) = flats env ts ++ flat env t

-- the printed name of a binder under printed binders, the nearest first
abbrev pub name_for : Over → List Name → Name
name_for o bs = elim o.used [ true ↦ fresh_of (o.inside ++ bs) (own_name o.own) | false ↦ [] ]

-- whether each binder is used that was, or is by a term: `f` says of the binders round the term whether it uses them, from number d on
abbrev pub or_each : (ℕ → Bool) → ℕ → List Bool → List Bool
or_each f d [] = []
or_each f d (b ∷ bs) = (b || f d) ∷ or_each f (suc d) bs

abbrev pub used_by : Tree → List Bool → List Bool
used_by t bs = or_each (λ d. uses d t) 0 bs
