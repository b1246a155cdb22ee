-- The types that an environment tells have no loose bound variables and no hypotheses.
use Rattle.std.proofs.Common.{◌≡◌, ◌∙◌, ◌+◌, ℕ, zero, suc, refl, sym, ap, subst, Bool, true, false, ◌||◌, List, [], ◌∷◌, Option, Some, None}
use Rattle.std.specs.Prelude.{if◌then◌else◌, nat_lt, slice_get, IfSome}
use Rattle.std.specs.List.{AllByRecursion}
use Rattle.lq_trees.specs.Tree.{Name, Tree, Trees, Context, same_name}
use Rattle.lq_trees.specs.Change.{closing, close_at, replace_each, closed}
use Rattle.lq_trees.specs.Fresh.{is_listed}
use Rattle.lq_trees.specs.Index.{Within}
use Rattle.lq_trees.specs.Hypotheses.{HoldsOnly, EachHoldsOnly}
use Rattle.lq_trees.proofs.Reach.{within-close}
use Rattle.lq_trees.specs.declared.Sort.{Sort as Universe}
use Rattle.lq_terms.specs.declared.nodes.NameId.{NameId}
use Rattle.lq_terms.specs.declared.nodes.TermId.{TermId}
use Rattle.lq_terms.specs.Terms.{Terms, text_of}
use Rattle.lq_terms.specs.Telling.{IsClosed}
use Rattle.lq_calculus.specs.Declarations.{Family as TreeFamily, Env as Environment, family, lookup, product, products, family_type, constructor_type, constructor_kind}
use Rattle.lq_env.specs.declared.environment.Entry.{Entry}
use Rattle.lq_env.specs.declared.environment.Declared.{Declared}
use Rattle.lq_env.specs.Families.{family_of, StandsUnder, IsBehind, IsWritten, names_behind}
use Rattle.lq_env.specs.Environments.{declared_of, kind_kept, entry_of, env_of, IsEntry, IsEnv, IsStored, KeepsKind, AreDeclared}
use Rattle.lq_env.proofs.Lookups.{same_swap, declared_is}

-- a hypothesis that is closed is one of the names before
module _ (x : Name) (xs : List Name) where
  index_holds : (b : Bool) (i : ℕ) → HoldsOnly xs (if b then Tree.Rel i else Tree.Rel (i + 1))
  index_holds true i = tt
  index_holds false i = tt

  name_holds : (y : Name) (d : ℕ) → is_listed (x ∷ xs) y ≡ true → HoldsOnly xs (closed x d y)
  unfolding is_listed
  name_holds y d h = by (same_name y x) (same_swap x y) h
    where
      by : (b : Bool) → same_name x y ≡ b → (same_name x y || is_listed xs y) ≡ true → HoldsOnly xs (if b then Tree.Rel d else Tree.Var y)
      by true e k = tt
      by false e k = sym (ap (λ b. b || is_listed xs y) e) ∙ k

  mutual
    pub holds-close : (d : ℕ) (t : Tree) → HoldsOnly (x ∷ xs) t → HoldsOnly xs (close_at x d t)
    holds-close d (Tree.Rel i) h = index_holds (nat_lt i d) i
    holds-close d (Tree.Var y) h = name_holds y d h
    holds-close d (Tree.Sort s) h = tt
    holds-close d (Tree.Prod y A B) h = (holds-close d A h.0, holds-close (d + 1) B h.1)
    holds-close d (Tree.Lam y A B) h = (holds-close d A h.0, holds-close (d + 1) B h.1)
    holds-close d (Tree.Let y v A B) h = (holds-close d v h.0, holds-close d A h.1, holds-close (d + 1) B h.2)
    holds-close d (Tree.App f a) h = (holds-close d f h.0, holds-close d a h.1)
    holds-close d (Tree.Const y) h = tt
    holds-close d (Tree.Ind y) h = tt
    holds-close d (Tree.Ctor y k) h = tt
    holds-close d (Tree.Elim y s) h = tt
    holds-close d (Tree.Evar n ts) h = each-close d ts h

    pub each-close : (d : ℕ) (ts : Trees) → EachHoldsOnly (x ∷ xs) ts → EachHoldsOnly xs (replace_each (closing x) d ts)
    each-close d Trees.none h = tt
    each-close d (Trees.more t ts) h = (holds-close d t h.0, each-close d ts h.1)

-- products over a context
pub closed_products : (names : List Name) (g : Context) (t : Tree) → IsBehind names g → StandsUnder (names_behind names g) t → StandsUnder names (products g t)
unfolding products product
closed_products names [] t p h = h
closed_products names (x ∷ g) t p h =
    let inner = closed_products (x.name ∷ names) g t p.1 h in
    record { within = (p.0.kind.within, within-close 0 x.name (products g t) inner.within); holds = (p.0.kind.holds, holds-close x.name names 0 (products g t) inner.holds) }

pub family_closed : (f : TreeFamily) → IsWritten f → StandsUnder [] (family_type f)
unfolding family_type
family_closed f p =
    closed_products [] f.parameters (products f.indices (Tree.Sort f.sort)) p.parameters
    (closed_products (names_behind [] f.parameters) f.indices (Tree.Sort f.sort) p.indices (record { within = tt; holds = tt }))

pub constructor_closed : (f : TreeFamily) (t : Tree) → IsWritten f → StandsUnder (names_behind [] f.parameters) t → StandsUnder [] (constructor_type f t)
unfolding constructor_type
constructor_closed f t p h = closed_products [] f.parameters t p.parameters h

all_get : {A : Type 0} (P : A → Type 0) (xs : List A) (k : ℕ) (x : A) → AllByRecursion P xs → slice_get xs k ≡ Some x → P x
all_get P [] k x h e = absurd cc
all_get P (y ∷ ys) zero x h e = let same : y ≡ x = cc in subst P same h.0
all_get P (y ∷ ys) (suc k) x h e = all_get P ys k x h.1 e

pub kind_closed : (f : TreeFamily) (k : ℕ) (tree : Tree) → IsWritten f → constructor_kind f k ≡ Some tree → StandsUnder [] tree
unfolding constructor_kind
kind_closed f k tree p e = by (slice_get f.constructors k) refl e
  where
    by : (o : Option (Name × Tree)) → slice_get f.constructors k ≡ o → ◌≡◌ {A = Option Tree} (elim o [ None ↦ None | Some c ↦ Some (constructor_type f c.1) ]) (Some tree) → StandsUnder [] tree
    by None g e = absurd cc
    by (Some c) g e = let same : constructor_type f c.1 ≡ tree = cc in subst (StandsUnder []) same (constructor_closed f c.1 p (all_get (λ c. StandsUnder (names_behind [] f.parameters) c.1) f.constructors k c p.constructors g))

-- a declared family is as its callers promised
pub family_written : (bank : Terms) (env : Environment) (ds : List (NameId × Declared)) (c : Name) (f : TreeFamily) (ss : List Universe) → AreDeclared bank env ds → lookup (env_of bank ds) c ≡ Some (family f ss) → IsWritten f
family_written bank env [] c f ss p e = absurd cc
family_written bank env (d ∷ ds) c f ss p e = by (same_name c (text_of bank d.0)) e (λ k. family_written bank env ds c f ss p.1 k)
  where
    own : (g : Entry) → IsEntry bank g → entry_of bank g ≡ family f ss → IsWritten f
    own (Entry.Constant A t opaque) h e = absurd cc
    own (Entry.Family g rs) h e = let same : family_of bank g ≡ f = cc in subst IsWritten same h.0.written
    own (Entry.Arity A) h e = absurd cc
    own (Entry.Constructor g n) h e = absurd cc
    own (Entry.Eliminator g s) h e = absurd cc

    by : (b : Bool) → (if b then Some (entry_of bank d.1.entry) else lookup (env_of bank ds) c) ≡ Some (family f ss) → (lookup (env_of bank ds) c ≡ Some (family f ss) → IsWritten f) → IsWritten f
    by true e k = let same : entry_of bank d.1.entry ≡ family f ss = cc in own d.1.entry p.0.entry same
    by false e k = k e

stored_closed : (bank : Terms) (t : TermId) (tree : Tree) → IsStored bank t tree → StandsUnder [] tree → IsClosed bank 0 t
stored_closed bank t tree s h = record { has = s.term.has; within = subst (Within 0) (sym s.term.is) h.within; holds = subst (HoldsOnly []) (sym s.term.is) h.holds }

some_same : {A : Type 0} {a b : A} → Some a ≡ Some b → a ≡ b
some_same e = cc

-- what is told of a name's type is closed
pub told_closed : (bank : Terms) (ds : List (NameId × Declared)) (x : NameId) (o : Option Declared) → o ≡ declared_of ds x → IsEnv bank ds → (t : TermId) → kind_kept o ≡ Some t → IsClosed bank 0 t
told_closed bank ds x None found p t e = absurd cc
told_closed bank ds x (Some d) found p t e = let i = declared_is bank x (env_of bank ds) ds d p.declared (sym found) in by d.entry d.kind i.1.entry i.1.kind e
  where
    by : (g : Entry) (kind : Option TermId) → IsEntry bank g → KeepsKind bank (env_of bank ds) g kind → kind ≡ Some t → IsClosed bank 0 t
    by (Entry.Constant A u opaque) kind h k e = let same : A ≡ t = cc in subst (IsClosed bank 0) same h.0
    by (Entry.Family g rs) kind h k e = let same : k.term ≡ t = some_same (sym k.kept ∙ e) in subst (IsClosed bank 0) same (stored_closed bank k.term _ k.stored (family_closed (family_of bank g) h.0.written))
    by (Entry.Arity A) kind h k e = let same : A ≡ t = cc in subst (IsClosed bank 0) same h
    by (Entry.Constructor g n) kind h k e =
        let same : k.term ≡ t = some_same (sym k.kept ∙ e) in
        subst (IsClosed bank 0) same (stored_closed bank k.term k.tree k.stored (kind_closed k.owner n k.tree (family_written bank (env_of bank ds) ds (text_of bank g) k.owner k.permitted p.declared k.declared) k.is))
    by (Entry.Eliminator g s) kind h k e = absurd cc

pub kept_closed : (ds : List (NameId × Declared)) (x : NameId) (o : Option Declared) → o ≡ declared_of ds x → (kind : Option TermId) → kind_kept o ≡ kind → IfSome kind (λ t. (bank : Terms) → IsEnv bank ds → IsClosed bank 0 t)
kept_closed ds x o found None e = tt
kept_closed ds x o found (Some t) e = λ bank p. told_closed bank ds x o found p t e
