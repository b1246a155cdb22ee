-- What the callers promise of a family, as the products over its contexts need it; and the answers that pass a fault on.
use Rattle.std.proofs.Common.{◌≡◌, ◌≤◌, ◌∙◌, ℕ, Bool, true, false, refl, sym, ap, arith, List, [], ◌∷◌, Result, Err}
use Rattle.std.proofs.Common.{subst as along}
use Rattle.std.specs.Prelude.{◌||◌}
use Rattle.std.proofs.lemmas.Slice.Eq.{bytes_eq-Decides}
use Rattle.lq_trees.specs.Tree.{Name, Tree, Context, same_name}
use Rattle.lq_trees.specs.Change.{lift}
use Rattle.lq_trees.specs.Fresh.{is_listed}
use Rattle.lq_trees.specs.Size.{size}
use Rattle.lq_trees.specs.Index.{Within}
use Rattle.lq_trees.proofs.Reach.{within-close}
use Rattle.lq_terms.specs.declared.nodes.TermId.{TermId}
use Rattle.lq_terms.specs.Terms.{Terms, IsTerm, tree_of}
use Rattle.lq_terms.proofs.Replaced.{fit_large}
use Rattle.lq_calculus.specs.Declarations.{product, products}
use Rattle.lq_env.specs.declared.family.EnvFault.{EnvFault}
use Rattle.lq_env.specs.Families.{IsBehind, Stores}
use Rattle.lq_env.specs.Telescopes.{Apart, AreApart}
use Rattle.lq_env.specs.Building.{Builds, many}
use Rattle.lq_env.proofs.Closing.{lift-within}
use Rattle.lq_env.proofs.Weights.{size-products, within-more}

-- a name that is listed is apart from each name behind the list
pub or_true : (a : Bool) → (a || true) ≡ true
or_true true = refl
or_true false = refl

pub false_true : false ≡ true → ⊥
false_true e = grind arith

pub apart_behind : (x : Name) (names : List Name) (g : Context) → is_listed names x ≡ true → IsBehind names g → Apart x g
unfolding is_listed
apart_behind x names [] l b = tt
apart_behind x names (h ∷ g) l b =
    (differs (same_name x h.name) refl, apart_behind x (h.name ∷ names) g (ap (λ z. same_name h.name x || z) l ∙ or_true (same_name h.name x)) b.1)
  where
    differs : (r : Bool) → same_name x h.name ≡ r → same_name x h.name ≡ false
    differs false e = e
    differs true e = absurd (false_true (sym b.0.new ∙ ap (is_listed names) (sym ((bytes_eq-Decides x h.name).0 e)) ∙ l))

pub self_listed : (x : Name) (names : List Name) → is_listed (x ∷ names) x ≡ true
unfolding is_listed
self_listed x names = ap (λ z. z || is_listed names x) ((bytes_eq-Decides x x).1 refl)

pub are_apart : (names : List Name) (g : Context) → IsBehind names g → AreApart g
are_apart names [] b = tt
are_apart names (h ∷ g) b = (b.0.kind.within, apart_behind h.name (h.name ∷ names) g (self_listed h.name names) b.1, are_apart (h.name ∷ names) g b.1)

-- products keep loose bound variables below a number
pub within-products : (n : ℕ) (g : Context) (t : Tree) → AreApart g → Within n t → Within n (products g t)
unfolding products product
within-products n [] t a h = h
within-products n (x ∷ g) t a h = (within-more 0 n x.kind (omega arith) a.0, within-close n x.name (products g t) (within-products n g t a.2 h))

-- a tree without loose bound variables, under binders
pub closed_under : (bank : Terms) (t : TermId) (n : ℕ) (tree : Tree) → IsTerm bank t tree → Within 0 tree → tree_of bank t ≡ lift n 0 tree
closed_under bank t n tree h w = h.is ∙ sym (lift-within n 0 tree w)

pub within-term : (bank : Terms) (t : TermId) (tree : Tree) → IsTerm bank t tree → Within 0 tree → Within many (tree_of bank t)
within-term bank t tree h w = along (λ z. Within many z) (sym (h.is)) (within-more 0 many tree (omega arith) w)

-- a fault of a part is one of the whole
pub passed_on : (old new : Terms) (e : EnvFault) (part whole : Tree) → size part ≤ size whole → Builds old (Err e) part → Builds new (Err e) whole
passed_on old new (EnvFault.NameTaken x) part whole l h = absurd h
passed_on old new (EnvFault.NotPositive x k) part whole l h = absurd h
passed_on old new (EnvFault.NestedUse x k) part whole l h = absurd h
passed_on old new (EnvFault.BadResult x) part whole l h = absurd h
passed_on old new (EnvFault.ElimForbidden x s) part whole l h = absurd h
passed_on old new EnvFault.TooLarge part whole l h = omega arith
passed_on old new EnvFault.TooDeep part whole l h = absurd h
passed_on old new EnvFault.NoMemory part whole l h = tt

pub refused_by : (old new : Terms) (e : EnvFault) (part whole : Tree) → size part ≤ size whole → Builds old (Err e) part → Stores new (Err e) whole
refused_by old new (EnvFault.NameTaken x) part whole l h = absurd h
refused_by old new (EnvFault.NotPositive x k) part whole l h = absurd h
refused_by old new (EnvFault.NestedUse x k) part whole l h = absurd h
refused_by old new (EnvFault.BadResult x) part whole l h = absurd h
refused_by old new (EnvFault.ElimForbidden x s) part whole l h = absurd h
refused_by old new EnvFault.TooLarge part whole l h = fit_large whole (omega arith)
refused_by old new EnvFault.TooDeep part whole l h = absurd h
refused_by old new EnvFault.NoMemory part whole l h = tt

-- an answer about a tree is one about an equal tree
pub stores_same : (bank : Terms) (r : Result TermId EnvFault) (a b : Tree) → a ≡ b → Stores bank r a → Stores bank r b
stores_same bank r a b e h = along (λ z. Stores bank r z) e h

pub products_larger : (g : Context) (t : Tree) → size t ≤ size (products g t)
products_larger g t = omega (arith, size-products g t)
