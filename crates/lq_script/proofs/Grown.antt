-- What is said of a bank's names, declarations and terms holds when the bank has grown.
use Rattle.std.proofs.Common.{◌≡◌, refl, sym, ◌∙◌, ap, List, [], ◌∷◌, Option, Some, None, arith}
use Rattle.std.specs.List.{AllByRecursion}
use Rattle.lq_trees.specs.Tree.{Tree}
use Rattle.lq_terms.specs.declared.nodes.NameId.{NameId}
use Rattle.lq_terms.specs.declared.nodes.TermId.{TermId}
use Rattle.lq_terms.specs.Terms.{Terms, HasName, Grows}
use Rattle.lq_terms.proofs.Growth.{Grows-trans}
use Rattle.lq_env.specs.declared.environment.Declared.{Declared}
use Rattle.lq_env.specs.Environments.{IsEnv, env_of}
use Rattle.lq_env.proofs.Grown as environments
use Rattle.lq_script.specs.Scopes.{scope_of, IsMeant}

pub IsEnv-grown : (old new : Terms) (ds : List (NameId × Declared)) → Grows old new → IsEnv old ds → IsEnv new ds
IsEnv-grown old new ds g h = environments.IsEnv-grown old new g ds h

pub env_of-grown : (old new : Terms) (ds : List (NameId × Declared)) → Grows old new → IsEnv old ds → env_of new ds ≡ env_of old ds
env_of-grown old new ds g h = environments.env_of-grown old new g ds h

pub HasNames-grown : (old new : Terms) (xs : List NameId) → Grows old new → AllByRecursion (HasName old) xs → AllByRecursion (HasName new) xs
HasNames-grown old new [] g h = tt
HasNames-grown old new (x ∷ xs) g h = (omega (arith, h.0), HasNames-grown old new xs g h.1)

pub scope_of-grown : (old new : Terms) (xs : List NameId) → Grows old new → AllByRecursion (HasName old) xs → scope_of new xs ≡ scope_of old xs
scope_of-grown old new [] g h = refl
scope_of-grown old new (x ∷ xs) g h = rw (g.text x h.0, scope_of-grown old new xs g h.1)

pub IsMeant-grown : (old new : Terms) (t : Option TermId) (o : Option Tree) → Grows old new → IsMeant old t o → IsMeant new t o
IsMeant-grown old new None o g h = h
IsMeant-grown old new (Some t) o g h = (omega (arith, h.0), h.1 ∙ ap Some (sym (g.tree t h.0)))

pub ruleset grown = (Grows-trans, IsEnv-grown, env_of-grown, HasNames-grown, scope_of-grown, IsMeant-grown)
