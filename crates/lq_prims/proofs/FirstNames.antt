-- The names that a primitive has, as it takes the first or all of them.
use Rattle.std.proofs.Common.{◌≡◌, ◌<◌, ◌==◌, refl, ap, arith, true, List, [], ◌∷◌, length, map, Option, Some, None}
use Rattle.std.specs.Prelude.{slice_get, option_map}
use Rattle.std.specs.List.{AllByRecursion}
use Rattle.lq_trees.specs.Tree.{Name}
use Rattle.lq_terms.specs.declared.nodes.NameId.{NameId}
use Rattle.lq_terms.specs.Terms.{Terms, HasName, text_of}
use Rattle.lq_ast.specs.Syntax.{intro}
use Rattle.lq_evars.specs.Places.{HasNameOr}
use Rattle.lq_prims.specs.Leaving.{names_of}

-- the name that is written, if one is
pub first_name : (bank : Terms) (xs : List NameId) (o : Option Name) → map (text_of bank) xs ≡ names_of (intro o) → option_map (text_of bank) (slice_get xs 0) ≡ o
first_name bank [] None e = refl
first_name bank [] (Some x) e = absurd (grind (arith, e))
first_name bank (y ∷ ys) None e = absurd (grind (arith, e))
first_name bank (y ∷ ys) (Some x) e = ap (λ z. slice_get z 0) e

pub first_there : (bank : Terms) (xs : List NameId) → AllByRecursion (HasName bank) xs → HasNameOr bank (slice_get xs 0)
first_there bank [] h = tt
first_there bank (y ∷ ys) h = h.0

-- a list of one name has it
pub has_one : (bank : Terms) (xs : List NameId) (x : Name) → map (text_of bank) xs ≡ x ∷ [] → 0 < length xs
has_one bank [] x e = absurd (grind (arith, e))
has_one bank (y ∷ ys) x e = omega arith

pub no_names : (bank : Terms) (xs : List NameId) → (length xs == 0) ≡ true → map (text_of bank) xs ≡ []
no_names bank [] e = refl
no_names bank (y ∷ ys) e = absurd (grind (arith, e))
