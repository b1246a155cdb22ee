-- Types that are built in a bank for a family.
use Rattle.std.specs.Prelude.{◌<◌, ◌≤◌, ℕ, List, map, Result, Ok, Err}
use Rattle.lq_trees.specs.Tree.{Tree}
use Rattle.lq_trees.specs.Size.{size}
use Rattle.lq_terms.specs.declared.nodes.TermId.{TermId}
use Rattle.lq_terms.specs.Terms.{Terms, HasName, HasTerm, IsTerm, text_of, tree_of}
use Rattle.lq_env.specs.declared.family.EnvFault.{EnvFault}
use Rattle.lq_env.specs.declared.telescopes.Binder.{Binder}
use Rattle.lq_env.specs.Telescopes.{Binders}

-- 4,000,000,000, more loose bound variables than any type has that is built
abbrev pub many : ℕ
many = 4000000000

abbrev pub HasBinder : Terms → Binder → Type 0
HasBinder bank b = HasName bank b.name × HasTerm bank b.kind

abbrev pub binders_of : Terms → List Binder → Binders
binders_of bank bs = map (λ b. (text_of bank b.name, tree_of bank b.kind)) bs

-- A tree that is built while it has at most 1,000,000 nodes, however deep it is. Memory may end at any time.
abbrev pub Builds : Terms → Result TermId EnvFault → Tree → Type 0
Builds bank (Ok t) tree = IsTerm bank t tree × (size tree ≤ 1000000)
Builds bank (Err (EnvFault.NameTaken x)) tree = ⊥
Builds bank (Err (EnvFault.NotPositive c k)) tree = ⊥
Builds bank (Err (EnvFault.NestedUse c k)) tree = ⊥
Builds bank (Err (EnvFault.BadResult c)) tree = ⊥
Builds bank (Err (EnvFault.ElimForbidden c s)) tree = ⊥
Builds bank (Err EnvFault.TooLarge) tree = 1000000 < size tree
Builds bank (Err EnvFault.TooDeep) tree = ⊥
Builds bank (Err EnvFault.NoMemory) tree = Unit {0}
