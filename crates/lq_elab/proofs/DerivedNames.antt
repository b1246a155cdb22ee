-- The typing rules alone do not make declarations plain: what stands under a binder may hold the hypothesis that the rule puts in its place.
use Rattle.std.proofs.Common.{◌≡◌, refl, arith, true, false, [], ◌∷◌}
use Rattle.std.specs.Prelude.{codes}
use Rattle.lq_trees.specs.declared.Sort.{Sort as Universe}
use Rattle.lq_trees.specs.Tree.{Tree}
use Rattle.lq_trees.specs.Tree.Tree.{Var, Sort, Prod, Lam}
use Rattle.lq_trees.specs.Fresh.{is_listed, fresh, fresh_of, opened, under}
use Rattle.lq_calculus.specs.Contraction.{hypothesis}
use Rattle.lq_calculus.specs.Declarations.{Env, constant, first_taken, delta_in, rules_of}
use Rattle.lq_calculus.specs.Typing.{Derives, prop_has, hypothesis_has, product_has, function_has, product_sort, DerivedEnv, no_entry, with_constant}
use Rattle.lq_solving.specs.Claims.{ArePlainDeclarations}

-- the sort of propositions
abbrev prop : Tree
prop = Sort Universe.Base

-- it holds the hypothesis `x`, which no binder of it binds
abbrev pub open_body : Tree
open_body = Lam (codes "x") prop (Var (codes "x"))

-- the type that the rules give it
abbrev pub open_kind : Tree
open_kind = Prod (codes "x") prop prop

-- an environment with it
abbrev pub open_env : Env
open_env = (codes "c", constant open_kind open_body false) ∷ []

kind_derived : Derives [] [] open_kind (Sort (product_sort (Universe.Level 0) (Universe.Level 0)))
unfolding opened
kind_derived = product_has prop_has prop_has

body_derived : Derives [] [] open_body open_kind
unfolding opened fresh fresh_of is_listed under hypothesis
body_derived = function_has prop_has (hypothesis_has refl)

pub open_derived : DerivedEnv open_env
unfolding first_taken is_listed
open_derived = with_constant [] (codes "c") open_kind open_body false no_entry refl kind_derived body_derived

-- so the laws go by the calls that declare, which look for strange names first
pub open_not_plain : ArePlainDeclarations open_env → ⊥
unfolding rules_of delta_in is_listed
open_not_plain p = not_listed (p.rules.delta (codes "c") open_body refl).holds.1
  where
    not_listed : false ≡ true → ⊥
    not_listed e = grind arith
