-- How the declaration of a constant goes on, part by part.
use Rattle.std.proofs.Common.{◌≡◌, ◌∙◌, ℕ, refl, sym, ap, subst, List, [], ◌∷◌, ◌++◌, Option, Some, None, Result, Ok, Err, Bool, true, false, ◌||◌}
use Rattle.std.specs.Prelude.{is_some, OnOk, if◌then◌else◌}
use Rattle.std.specs.Option.{option_copied}
use Rattle.std.specs.Borrow.{Bor}
use Rattle.lq_trees.specs.declared.Sort.{Sort as Universe}
use Rattle.lq_trees.specs.Tree.{Name, Tree, Trees, same_name}
use Rattle.lq_trees.specs.Tree.Tree.{Rel, Var, Sort, Prod, Lam, Let, App, Const, Ind, Ctor, Elim, Evar}
use Rattle.lq_trees.specs.Fresh.{is_listed}
use Rattle.lq_trees.specs.Hypotheses.{HoldsOnly, EachHoldsOnly}
use Rattle.lq_trees.specs.Ticks.{gives, fails, ◌>>=◌, done, ComesTo}
use Rattle.lq_trees.proofs.Outcomes.{comes_gives, comes_fails}
use Rattle.lq_terms.specs.declared.nodes.NameId.{NameId}
use Rattle.lq_terms.specs.declared.nodes.TermId.{TermId}
use Rattle.lq_terms.specs.Terms.{Terms, HasName, HasTerm, Grows, text_of, tree_of}
use Rattle.lq_terms.specs.Telling.{IsClosed}
use Rattle.lq_calculus.specs.Declarations.{Env as Environment, EnvFault as Fault, constant, lookup, name_taken, first_taken, names_of, add_constant}
use Rattle.lq_calculus.specs.Checking.{Kernel, unbound, env_fault, sort_of, check, strange, strange_in, known, no_env_fault, declare_constant}
use Rattle.lq_env.specs.declared.family.EnvFault.{EnvFault}
use Rattle.lq_env.specs.declared.environment.Entry.{Entry}
use Rattle.lq_env.specs.declared.environment.Declared.{Declared}
use Rattle.lq_env.specs.Environments.{Looks, Adds, IsEnv, env_of}
use Rattle.lq_env.proofs.Lookups.{same_swap}
use Rattle.lq_kernel.specs.declared.faults.KernelFault.{KernelFault}
use Rattle.lq_kernel.specs.Answers.{Refuses, Checks, Accepts}
use Rattle.lq_kernel.specs.Closed.{IsScoped}
use Rattle.lq_kernel.specs.Steps.{KnowsAll}
use Rattle.lq_kernel.proofs.Goes.{Goes, goes_then, goes_on, goes_same, refuses_goes, refuses_first}
use Rattle.lq_kernel.proofs.Grown.{env_at}
use Rattle.lq_kernel.proofs.CallLaws.{known_gives, knows_all_stop}

-- a tree without strange hypotheses holds only those of the names
none_first : (a b : Option Name) → ◌≡◌ {A = Option Name} (elim a [ Some y ↦ Some y | None ↦ b ]) None → (a ≡ None) × (b ≡ None)
none_first None b e = (refl, e)
none_first (Some x) b e = absurd cc

listed_none : (b : Bool) (x : Name) → ◌≡◌ {A = Option Name} (elim b [ true ↦ None | false ↦ Some x ]) None → b ≡ true
listed_none true x e = refl
listed_none false x e = absurd cc

mutual
  unfolding strange strange_in

  pub holds_known : (xs : List Name) (t : Tree) → strange xs t ≡ None → HoldsOnly xs t
  holds_known xs (Rel i) e = tt
  holds_known xs (Var x) e = listed_none (is_listed xs x) x e
  holds_known xs (Sort s) e = tt
  holds_known xs (Prod x A B) e = let p = none_first (strange xs A) (strange xs B) e in (holds_known xs A p.0, holds_known xs B p.1)
  holds_known xs (Lam x A B) e = let p = none_first (strange xs A) (strange xs B) e in (holds_known xs A p.0, holds_known xs B p.1)
  holds_known xs (Let x v A B) e =
      let p = none_first (strange xs v) _ e in
      let q = none_first (strange xs A) (strange xs B) p.1 in
      (holds_known xs v p.0, holds_known xs A q.0, holds_known xs B q.1)
  holds_known xs (App f a) e = let p = none_first (strange xs f) (strange xs a) e in (holds_known xs f p.0, holds_known xs a p.1)
  holds_known xs (Const c) e = tt
  holds_known xs (Ind c) e = tt
  holds_known xs (Ctor c k) e = tt
  holds_known xs (Elim c s) e = tt
  holds_known xs (Evar n ts) e = each_holds_known xs ts e

  pub each_holds_known : (xs : List Name) (ts : Trees) → strange_in xs ts ≡ None → EachHoldsOnly xs ts
  each_holds_known xs Trees.none e = tt
  each_holds_known xs (Trees.more t ts) e = let p = none_first (strange xs t) (strange_in xs ts) e in (holds_known xs t p.0, each_holds_known xs ts p.1)

-- a name is declared exactly where it is found
pub listed_lookup : (env : Environment) (x : Name) → is_some (lookup env x) ≡ is_listed (names_of env) x
unfolding is_listed
listed_lookup [] x = refl
listed_lookup (e ∷ env) x = ap (λ b. is_some (if b then Some e.1 else lookup env x)) (same_swap x e.0) ∙ by (same_name e.0 x) (listed_lookup env x)
  where
    by : (b : Bool) → is_some (lookup env x) ≡ is_listed (names_of env) x → is_some (if b then Some e.1 else lookup env x) ≡ (b || is_listed (names_of env) x)
    by true h = refl
    by false h = h

pub looks_listed : (bank : Terms) (o : Option Entry) (env : Environment) (x : Name) → Looks bank o (lookup env x) → is_some o ≡ is_listed (names_of env) x
looks_listed bank None env x h = sym (ap is_some h) ∙ listed_lookup env x
looks_listed bank (Some e) env x h = sym (ap is_some h.1) ∙ listed_lookup env x

pub copied_some : {A : Type 0} (r : Option (Bor A)) → is_some (option_copied r) ≡ is_some r
copied_some None = refl
copied_some (Some x) = refl

-- a name that is not listed is not refused
pub new_first : (names : List Name) (x : Name) → is_listed names x ≡ false → first_taken names (x ∷ []) ≡ None
unfolding first_taken
new_first names x e = ap (λ b. elim b as (λ z. Option Fault) [ true ↦ Some (name_taken x) | false ↦ None ]) e

module _ (E : Environment) (x : Name) (A t : Tree) (opaque : Bool) where
  abbrev last : ℕ → Kernel Environment
  last n = gives (E ++ ((x, constant A t opaque) ∷ []))

  abbrev body : ℕ → Kernel Environment
  body n = check E n [] t A >>= λ ok. last n

  abbrev kind : ℕ → Kernel Environment
  kind n = sort_of E n [] A >>= λ s. body n

  taken_at : is_listed (names_of E) x ≡ true → (n : ℕ) → declare_constant E n x A t opaque ≡ fails (env_fault (name_taken x))
  unfolding declare_constant first_taken no_env_fault ◌>>=◌
  taken_at e n = ap (λ b. no_env_fault (elim b [ true ↦ Some (name_taken x) | false ↦ None ]) >>= λ new. known [] (A ∷ t ∷ []) >>= λ ok. kind n) e

  new_at : is_listed (names_of E) x ≡ false → (n : ℕ) → declare_constant E n x A t opaque ≡ (known [] (A ∷ t ∷ []) >>= λ ok. kind n)
  unfolding declare_constant first_taken no_env_fault ◌>>=◌
  new_at e n = ap (λ b. no_env_fault (elim b [ true ↦ Some (name_taken x) | false ↦ None ]) >>= λ new. known [] (A ∷ t ∷ []) >>= λ ok. kind n) e

  known_at : is_listed (names_of E) x ≡ false → known [] (A ∷ t ∷ []) ≡ gives (tt {0}) → (n : ℕ) → declare_constant E n x A t opaque ≡ kind n
  unfolding ◌>>=◌
  known_at e f n = new_at e n ∙ ap (λ w. w >>= λ ok. kind n) f

  pub constant_taken : (bank : Terms) (y : NameId) (b : ℕ) → HasName bank y → text_of bank y ≡ x → is_listed (names_of E) x ≡ true → Refuses bank (KernelFault.Env (EnvFault.NameTaken y)) (λ n. declare_constant E n x A t opaque) b b
  constant_taken bank y b has i e = record {
    refusal = name_taken x;
    tells = (has, ap (λ z. Some (name_taken z)) (sym i));
    comes = comes_fails (λ n. declare_constant E n x A t opaque) (env_fault (name_taken x)) b (taken_at e);
  }

  strange_at : is_listed (names_of E) x ≡ false → (y : Name) → known [] (A ∷ t ∷ []) ≡ fails (unbound y) → (n : ℕ) → declare_constant E n x A t opaque ≡ fails (unbound y)
  unfolding ◌>>=◌
  strange_at e y f n = new_at e n ∙ ap (λ w. w >>= λ ok. kind n) f

  pub constant_strange : (bank : Terms) (k : KernelFault) (b : ℕ) → is_listed (names_of E) x ≡ false → KnowsAll bank (Err k) (known [] (A ∷ t ∷ [])) → Refuses bank k (λ n. declare_constant E n x A t opaque) b b
  constant_strange bank k b e h = knows_all_stop bank k (known [] (A ∷ t ∷ [])) (λ n. declare_constant E n x A t opaque) b h (λ y f. comes_fails (λ n. declare_constant E n x A t opaque) (unbound y) b (strange_at e y f))

  module _ (e : is_listed (names_of E) x ≡ false) (f : known [] (A ∷ t ∷ []) ≡ gives (tt {0})) (bank : Terms) (b left : ℕ) where
    start : Goes Environment (λ n. declare_constant E n x A t opaque) b kind b
    start = goes_same (λ n. declare_constant E n x A t opaque) kind b (known_at e f)

    pub kind_stops : (k : KernelFault) → Refuses bank k (λ n. sort_of E n [] A) b left → Refuses bank k (λ n. declare_constant E n x A t opaque) b left
    kind_stops k r = refuses_goes bank k (λ n. declare_constant E n x A t opaque) b kind b left start (refuses_first bank k (λ n. sort_of E n [] A) (λ s n. body n) b left r)

    sorted : (s : Universe) (c : ℕ) → ComesTo (λ n. sort_of E n [] A) b (done s c) → Goes Environment (λ n. declare_constant E n x A t opaque) b body c
    sorted s c i = goes_on (λ n. declare_constant E n x A t opaque) kind body b b c start (goes_then (λ n. sort_of E n [] A) (λ s n. body n) b s c i)

    -- the check of the body, and the new environment
    pub constant_ends : (s : Universe) (c : ℕ) (r : Result (Unit {0}) KernelFault) → ComesTo (λ n. sort_of E n [] A) b (done s c) → Checks bank r (λ n. check E n [] t A) c left
        → Accepts bank r (E ++ ((x, constant A t opaque) ∷ [])) (λ n. declare_constant E n x A t opaque) b left
    constant_ends s c (Ok ok) i j =
        sorted s c i (done (E ++ ((x, constant A t opaque) ∷ [])) left)
        (goes_then (λ n. check E n [] t A) (λ ok n. last n) c (tt {0}) left j _ (comes_gives (λ n. last n) (E ++ ((x, constant A t opaque) ∷ [])) left (λ n. refl)))
    constant_ends s c (Err k) i j = refuses_goes bank k (λ n. declare_constant E n x A t opaque) b body c left (sorted s c i) (refuses_first bank k (λ n. check E n [] t A) (λ ok n. last n) c left j)

-- what the environment answers to a new constant
pub constant_added : (bank : Terms) (new : List (NameId × Declared)) (env : Environment) (x : Name) (A t : Tree) (opaque : Bool) → is_listed (names_of env) x ≡ false → Adds bank (Ok tt) new (add_constant env x A t opaque)
    → env_of bank new ≡ env ++ ((x, constant A t opaque) ∷ [])
unfolding add_constant
constant_added bank new env x A t opaque e h =
    let same : ◌≡◌ {A = Result Environment Fault} (Ok (env_of bank new)) (Ok (env ++ ((x, constant A t opaque) ∷ []))) = sym h.1 ∙ ap (λ b. elim b as (λ z. Result Environment Fault) [ true ↦ Err (name_taken x) | false ↦ Ok (env ++ ((x, constant A t opaque) ∷ [])) ]) e in
    cc

-- a closed type and body
pub closed_term : (bank : Terms) (t : TermId) → IsScoped bank 0 t → strange [] (tree_of bank t) ≡ None → IsClosed bank 0 t
closed_term bank t h e = record { has = h.has; within = h.within; holds = holds_known [] (tree_of bank t) e }

pub closed_both : (bank : Terms) (A t : TermId) → IsScoped bank 0 A → IsScoped bank 0 t → known [] (tree_of bank A ∷ tree_of bank t ∷ []) ≡ gives (tt {0}) → IsClosed bank 0 A × IsClosed bank 0 t
closed_both bank A t h k e =
    let p = known_gives [] (tree_of bank A) (tree_of bank t ∷ []) e in
    let q = known_gives [] (tree_of bank t) [] p.1 in
    (closed_term bank A h p.0, closed_term bank t k q.0)

-- what holds whatever the answer holds where it is good
pub on_ok : {A B : Type 0} (r : Result A B) (P : Type 0) → P → OnOk r P
on_ok (Ok a) P p = p
on_ok (Err e) P p = tt

-- what the environment answers to it where the bank has grown
pub added_later :
    (old bank : Terms) (g : Grows old bank) (ds new : List (NameId × Declared)) (x : NameId) (A t : TermId) (opaque : Bool) → IsEnv old ds → HasName old x → HasTerm old A → HasTerm old t → is_listed (names_of (env_of old ds)) (text_of old x) ≡ false
    → Adds bank (Ok tt) new (add_constant (env_of bank ds) (text_of bank x) (tree_of bank A) (tree_of bank t) opaque) → env_of bank new ≡ env_of old ds ++ ((text_of old x, constant (tree_of old A) (tree_of old t) opaque) ∷ [])
added_later old bank g ds new x A t opaque p hx hA ht e h =
    constant_added bank new (env_of old ds) (text_of old x) (tree_of old A) (tree_of old t) opaque e
    (subst (Adds bank (Ok tt) new)
    (ap (λ E. add_constant E (text_of bank x) (tree_of bank A) (tree_of bank t) opaque) (env_at old bank g ds (env_of old ds) p refl)
    ∙ ap (λ y. add_constant (env_of old ds) y (tree_of bank A) (tree_of bank t) opaque) (g.text x hx)
    ∙ ap (λ B. add_constant (env_of old ds) (text_of old x) B (tree_of bank t) opaque) (g.tree A hA)
    ∙ ap (λ u. add_constant (env_of old ds) (text_of old x) (tree_of old A) u opaque) (g.tree t ht)) h)
