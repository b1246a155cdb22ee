-- Declaring keeps declarations plain.
use Rattle.std.proofs.Common.{◌≡◌, ℕ, suc, refl, ◌∙◌, ap, arith, Bool, true, false, if◌then◌else◌, List, [], ◌∷◌, ◌++◌, map, length, Option, Some}
use Rattle.std.proofs.Common.{None, ◌⊎◌, inl, inr}
use Rattle.std.proofs.Common.{subst as along}
use Rattle.std.specs.List.{AllByRecursion}
use Rattle.lq_trees.specs.declared.Sort.{Sort as Universe}
use Rattle.lq_trees.specs.Tree.{Name, Tree, Trees, Context, same_name, none, more}
use Rattle.lq_trees.specs.Tree.Tree.{Rel, Var, Sort, Prod, Lam, Let, App, Const, Ind, Ctor, Elim, Evar}
use Rattle.lq_trees.specs.Fresh.{is_listed}
use Rattle.lq_trees.specs.Hypotheses.{HoldsOnly, EachHoldsOnly}
use Rattle.lq_trees.specs.Rules.{Counts, Arguments}
use Rattle.lq_trees.specs.Ticks.{done, fails, under_budget}
use Rattle.lq_calculus.specs.Declarations.{Env, Entry, Family, lookup, constant, family, arity, constructor, eliminator, eliminator_name, sorts, family_type}
use Rattle.lq_calculus.specs.Declarations.{constructor_kind, permits, elim_type, rules_of, rule_arguments, counts_of, delta_in, family_in, constructor_entries}
use Rattle.lq_calculus.specs.Declarations.{family_entries, permitted, first_taken, names_of, declared_names, constructors_fault, first_stored, stored_types}
use Rattle.lq_calculus.specs.Declarations.{first_fault}
use Rattle.lq_calculus.specs.Typing.{Derives, ContextHas, one_more, ConstructorsHave, one_constructor, DerivedEnv, no_entry, with_constant, with_family}
use Rattle.lq_calculus.specs.Checking.{KernelFault, unbound, strange, strange_in, known, known_context, no_env_fault, sort_of, check, declare_constant}
use Rattle.lq_calculus.specs.Checking.{sorts_of, check_constructors, declare_family}
use Rattle.lq_calculus.proofs.ConvSound.{Gives, gives_bind, done_gives}
use Rattle.lq_calculus.proofs.InferSound.{check_derives}
use Rattle.lq_calculus.proofs.DeclareSound.{sort_of_derives, context_has, constructors_have}
use Rattle.lq_solving.specs.Stores.{names_in}
use Rattle.lq_solving.specs.Claims.{IsPlain, ArePlain, ArePlainRules, ArePlainDeclarations}
use Rattle.lq_elab.proofs.PlainTerms.{IsBare, bare, bare_plain}
use Rattle.lq_elab.proofs.PlainFamilies.{BareBehind, behind_left, behind_right, AreConstructors, IsBareFamily, plain_family_type, plain_constructor}
use Rattle.lq_elab.proofs.PlainFamilies.{plain_elim_type, plain_rule}
use Rattle.lq_elab.proofs.PlainSubjects.{derived_whole}

-- a term whose look for strange names finds none
none_then : (a b : Option Name) → ◌≡◌ {A = Option Name} (elim a [ Some y ↦ Some y | None ↦ b ]) None → (a ≡ None) × (b ≡ None)
none_then None b e = (refl, e)
none_then (Some y) b e = absurd (grind arith)

known_name : (b : Bool) (x : Name) → ◌≡◌ {A = Option Name} (elim b [ true ↦ None | false ↦ Some x ]) None → b ≡ true
known_name true x e = refl
known_name false x e = absurd (grind arith)

mutual
  unfolding strange strange_in

  pub strange_none : (xs : List Name) (t : Tree) → strange xs t ≡ None → HoldsOnly xs t
  strange_none xs (Rel i) e = tt
  strange_none xs (Var x) e = known_name (is_listed xs x) x e
  strange_none xs (Sort s) e = tt
  strange_none xs (Prod x A B) e = let q = none_then (strange xs A) (strange xs B) e in (strange_none xs A q.0, strange_none xs B q.1)
  strange_none xs (Lam x A B) e = let q = none_then (strange xs A) (strange xs B) e in (strange_none xs A q.0, strange_none xs B q.1)
  strange_none xs (Let x v A B) e =
      let q = none_then (strange xs v) _ e in let r = none_then (strange xs A) (strange xs B) q.1 in
      (strange_none xs v q.0, strange_none xs A r.0, strange_none xs B r.1)
  strange_none xs (App f a) e = let q = none_then (strange xs f) (strange xs a) e in (strange_none xs f q.0, strange_none xs a q.1)
  strange_none xs (Const c) e = tt
  strange_none xs (Ind c) e = tt
  strange_none xs (Ctor c k) e = tt
  strange_none xs (Elim c s) e = tt
  strange_none xs (Evar n ts) e = each_strange_none xs ts e

  pub each_strange_none : (xs : List Name) (ts : Trees) → strange_in xs ts ≡ None → EachHoldsOnly xs ts
  each_strange_none xs none e = tt
  each_strange_none xs (more t ts) e = let q = none_then (strange xs t) (strange_in xs ts) e in (strange_none xs t q.0, each_strange_none xs ts q.1)

pub known_holds : (g : Context) (t : Tree) (ts : List Tree) (ok : Unit {0}) → Gives (known g (t ∷ ts)) ok → HoldsOnly (names_in g) t × Gives (known g ts) ok
unfolding known
known_holds g t ts ok h = at (strange (names_in g) t) refl h
  where
    at : (o : Option Name) → strange (names_in g) t ≡ o → Gives {F = KernelFault} (elim o [ Some x ↦ fails (unbound x) | None ↦ known g ts ]) ok →
        HoldsOnly (names_in g) t × Gives (known g ts) ok
    at None e k = (strange_none (names_in g) t e, k)
    at (Some x) e k = absurd k

-- what has a type and holds known names
pub bare_derived : {env : Env} {g : Context} {t A : Tree} → Derives env g t A → (xs : List Name) → HoldsOnly xs t → IsBare xs 0 t
bare_derived {t = t} d xs h = let w = derived_whole d in bare xs 0 t w.0 w.1 h

pub bare_context : (env : Env) (g hs : Context) (ok : Unit {0}) → Gives (known_context g hs) ok → ContextHas env g hs → BareBehind g hs
unfolding known_context
bare_context env g [] ok h c = tt
bare_context env g (k ∷ ks) ok h (one_more d r) =
    let a = gives_bind (known g (k.kind ∷ [])) _ ok h in
    (bare_derived d (names_in g) (known_holds g k.kind [] a.0 a.1).0, bare_context env (g ++ k ∷ []) ks ok a.2 r)

pub bare_constructors : (env : Env) (g : Context) (s : Universe) (cs : List (Name × Tree)) (found : List (List Universe)) (ok : Unit {0}) →
    Gives (known g (map (λ c. c.1) cs)) ok → ConstructorsHave env g s cs found → AreConstructors (names_in g) cs
bare_constructors env g s [] found ok h c = tt
bare_constructors env g s (c ∷ cs) [] ok h b = elim b [ ]
bare_constructors env g s (c ∷ cs) (ss ∷ found) ok h (one_constructor d r b k) =
    let a = known_holds g c.1 (map (λ c. c.1) cs) ok h in
    (bare_derived d (names_in g) a.0, bare_constructors env g s cs found ok a.1 k)

-- what a family declares
pub record IsPlainFamily (f : Family) (ss : List Universe) : Type 0 where
  pub kind : IsPlain 0 (family_type f)
  pub constructors : (k : ℕ) (A : Tree) → constructor_kind f k ≡ Some A → IsPlain 0 A
  pub eliminators : (u : Universe) → permits ss u ≡ true → IsPlain 0 (elim_type f u)
  pub arguments : (k : ℕ) (rs : Arguments) → rule_arguments f k ≡ Some rs → ArePlain (length f.parameters) rs

-- an entry whose types name no variable and no hypothesis, and whose body, where it is transparent
abbrev pub IsPlainEntry : Entry → Type 0
IsPlainEntry (constant A t opaque) = IsPlain 0 A × (opaque ≡ false → IsPlain 0 t)
IsPlainEntry (family f ss) = IsPlainFamily f ss
IsPlainEntry (arity A) = IsPlain 0 A
IsPlainEntry (constructor c k) = Unit {0}
IsPlainEntry (eliminator c s) = Unit {0}

-- each entry of a list
abbrev pub AllPlain : Env → Type 0
AllPlain es = AllByRecursion {X = Name × Entry} (λ p. IsPlainEntry p.1) es

-- each entry that a name has
abbrev pub ArePlainEntries : Env → Type 0
ArePlainEntries env = (x : Name) (e : Entry) → lookup env x ≡ Some e → IsPlainEntry e

-- the rules of computation of plain entries
delta_plain : (o : Option Entry) → ((e : Entry) → o ≡ Some e → IsPlainEntry e) → (t : Tree) → delta_in o ≡ Some t → IsPlain 0 t
unfolding delta_in
delta_plain None f t e = absurd (grind arith)
delta_plain (Some (constant A u false)) f t e = along (IsPlain 0) (ap (λ o. elim o [ Some z ↦ z | None ↦ u ]) e) ((f (constant A u false) refl).1 refl)
delta_plain (Some (constant A u true)) f t e = absurd (grind arith)
delta_plain (Some (family d ss)) f t e = absurd (grind arith)
delta_plain (Some (arity A)) f t e = absurd (grind arith)
delta_plain (Some (constructor c k)) f t e = absurd (grind arith)
delta_plain (Some (eliminator c s)) f t e = absurd (grind arith)

abbrev counts_at : Option Family → Option Counts
counts_at o = elim o [ None ↦ None | Some f ↦ Some (counts_of f) ]

abbrev arguments_at : ℕ → Option Family → Option Arguments
arguments_at k o = elim o [ None ↦ None | Some f ↦ rule_arguments f k ]

counted_at : (o : Option Family) (k : ℕ) (rs : Arguments) → arguments_at k o ≡ Some rs → (n : Counts) × (counts_at o ≡ Some n)
counted_at None k rs e = absurd (grind arith)
counted_at (Some f) k rs e = (counts_of f, refl)

family_arguments : (o : Option Entry) → ((e : Entry) → o ≡ Some e → IsPlainEntry e) → (k : ℕ) (n : Counts) (rs : Arguments) →
    counts_at (family_in o) ≡ Some n → arguments_at k (family_in o) ≡ Some rs → ArePlain n.parameters rs
unfolding family_in counts_of
family_arguments (Some (family d ss)) f k n rs c e =
    along (λ z. ArePlain z rs) (ap (λ o. elim o [ Some z ↦ z.parameters | None ↦ 0 ]) c) ((f (family d ss) refl).arguments k rs e)
family_arguments None f k n rs c e = absurd (grind arith)
family_arguments (Some (constant A u o)) f k n rs c e = absurd (grind arith)
family_arguments (Some (arity A)) f k n rs c e = absurd (grind arith)
family_arguments (Some (constructor d j)) f k n rs c e = absurd (grind arith)
family_arguments (Some (eliminator d s)) f k n rs c e = absurd (grind arith)

pub plain_rules : (env : Env) → ArePlainEntries env → ArePlainRules (rules_of env)
unfolding rules_of
plain_rules env p = record {
  delta = λ c t e. delta_plain (lookup env c) (p c) t e;
  counted = λ c k rs e. counted_at (family_in (lookup env c)) k rs e;
  arguments = λ c k n rs e f. family_arguments (lookup env c) (p c) k n rs e f;
}

-- plain declarations are plain entries, and plain entries plain declarations
pub plain_declarations : (env : Env) → ArePlainEntries env → ArePlainDeclarations env
plain_declarations env p = record {
  rules = plain_rules env p;
  constants = λ x A t opaque e. (p x (constant A t opaque) e).0;
  families = λ x f ss e. (p x (family f ss) e).kind;
  arities = λ x A e. p x (arity A) e;
  constructors = λ x f ss k A e c. (p x (family f ss) e).constructors k A c;
  eliminators = λ x f ss u e q. (p x (family f ss) e).eliminators u q;
}

pub plain_entries : (env : Env) → ArePlainDeclarations env → ArePlainEntries env
unfolding rules_of family_in delta_in counts_of
plain_entries env p x (constant A t opaque) e = (p.constants x A t opaque e, λ o. p.rules.delta x t (ap delta_in (e ∙ ap (λ z. Some (constant A t z)) o)))
plain_entries env p x (family f ss) e = record {
  kind = p.families x f ss e;
  constructors = λ k A c. p.constructors x f ss k A e c;
  eliminators = λ u q. p.eliminators x f ss u e q;
  arguments = λ k rs q. p.rules.arguments x k (counts_of f) rs (ap (λ o. counts_at (family_in o)) e) (ap (λ o. arguments_at k (family_in o)) e ∙ q);
}
plain_entries env p x (arity A) e = p.arities x A e
plain_entries env p x (constructor c k) e = tt
plain_entries env p x (eliminator c s) e = tt

-- more entries
pub lookup_joined : (env es : Env) (x : Name) (e : Entry) → lookup (env ++ es) x ≡ Some e → (lookup env x ≡ Some e) ⊎ (lookup es x ≡ Some e)
lookup_joined [] es x e h = inr h
lookup_joined (p ∷ env) es x e h = at (same_name x p.0) h (λ f. lookup_joined env es x e f)
  where
    at : (b : Bool) → (if b then Some p.1 else lookup (env ++ es) x) ≡ Some e →
        (lookup (env ++ es) x ≡ Some e → (lookup env x ≡ Some e) ⊎ (lookup es x ≡ Some e)) →
        ((if b then Some p.1 else lookup env x) ≡ Some e) ⊎ (lookup es x ≡ Some e)
    at true f ih = inl f
    at false f ih = ih f

pub entries_joined : (env es : Env) → ArePlainEntries env → ArePlainEntries es → ArePlainEntries (env ++ es)
entries_joined env es p q x e h = elim (lookup_joined env es x e h) [ inl f ↦ p x e f | inr f ↦ q x e f ]

pub entries_of : (es : Env) → AllPlain es → ArePlainEntries es
entries_of [] all x e h = absurd (grind arith)
entries_of (p ∷ es) all x e h = at (same_name x p.0) h (λ f. entries_of es all.1 x e f)
  where
    at : (b : Bool) → (if b then Some p.1 else lookup es x) ≡ Some e → (lookup es x ≡ Some e → IsPlainEntry e) → IsPlainEntry e
    at true f ih = along IsPlainEntry (ap (λ o. elim o [ Some z ↦ z | None ↦ e ]) f) all.0
    at false f ih = ih f

pub declarations_joined : (env es : Env) → ArePlainDeclarations env → AllPlain es →
    ArePlainDeclarations (env ++ es)
declarations_joined env es p all = plain_declarations (env ++ es) (entries_joined env es (plain_entries env p) (entries_of es all))

-- no declaration
pub nothing_plain : ArePlainDeclarations []
nothing_plain = plain_declarations [] (λ x e h. absurd (grind arith))

-- the entries of a family
pub bare_family : (f : Family) (ss : List Universe) → IsBareFamily f → IsPlainFamily f ss
bare_family f ss b = record {
  kind = plain_family_type f b;
  constructors = λ k A e. plain_constructor f b k A e;
  eliminators = λ u e. plain_elim_type f b u;
  arguments = λ k rs e. plain_rule f b k rs e;
}

family_entries_plain : (f : Family) (ss : List Universe) → IsBareFamily f → AllPlain (family_entries f ss)
unfolding family_entries constructor_entries
family_entries_plain f ss b = (bare_family f ss b, behind f.constructors 0)
  where
    last : (us : List Universe) → AllPlain (map (λ s. (eliminator_name f.name s, eliminator f.name s)) us)
    last [] = tt
    last (u ∷ us) = (tt, last us)

    behind : (cs : List (Name × Tree)) (k : ℕ) →
        AllPlain (constructor_entries f.name k cs ++ map (λ s. (eliminator_name f.name s, eliminator f.name s)) sorts)
    behind [] k = last sorts
    behind (c ∷ cs) k = (tt, behind cs (suc k))

-- one constant more, whose type and body have types and hold no hypothesis
pub constant_more : (env : Env) (x : Name) (A t : Tree) (opaque : Bool) (s : Universe) (ok : Unit {0}) → ArePlainDeclarations env →
    Gives (known [] (A ∷ t ∷ [])) ok → Derives env [] A (Sort s) → Derives env [] t A → ArePlainDeclarations (env ++ (x, constant A t opaque) ∷ [])
constant_more env x A t opaque s ok p h a b =
    let k = known_holds [] A (t ∷ []) ok h in
    let l = known_holds [] t [] ok k.1 in
    declarations_joined env ((x, constant A t opaque) ∷ []) p
    ((bare_plain 0 A (bare_derived a [] k.0), λ o. bare_plain 0 t (bare_derived b [] l.0)), tt)

-- one family more, whose telescope and constructors have sorts and hold known names
pub family_more : (env around : Env) (f : Family) (ss : List Universe) (found : List (List Universe)) (ok ok2 : Unit {0}) → ArePlainDeclarations env →
    Gives (known_context [] (f.parameters ++ f.indices)) ok → Gives (known f.parameters (map (λ c. c.1) f.constructors)) ok2 →
    ContextHas env [] (f.parameters ++ f.indices) → ConstructorsHave around f.parameters f.sort f.constructors found →
    ArePlainDeclarations (env ++ family_entries f ss)
family_more env around f ss found ok ok2 p h k c d =
    let whole = bare_context env [] (f.parameters ++ f.indices) ok h c in
    declarations_joined env (family_entries f ss) p
    (family_entries_plain f ss
    (record {
      parameters = behind_left [] f.parameters f.indices whole;
      indices = behind_right [] f.parameters f.indices whole;
      constructors = bare_constructors around f.parameters f.sort f.constructors found ok2 k d;
    }))

-- a constant that is accepted
pub constant_plain : (env : Env) (n : ℕ) (x : Name) (A t : Tree) (opaque : Bool) (new : Env) → ArePlainDeclarations env →
    Gives (declare_constant env n x A t opaque) new → ArePlainDeclarations new
unfolding declare_constant
constant_plain env n x A t opaque new p h =
    let a = gives_bind (no_env_fault (first_taken (names_of env) (x ∷ []))) _ new h in
    let b = gives_bind (known [] (A ∷ t ∷ [])) _ new a.2 in
    let s = gives_bind (sort_of env n [] A) _ new b.2 in
    let c = gives_bind (check env n [] t A) _ new s.2 in
    along ArePlainDeclarations c.2
    (constant_more env x A t opaque s.0 b.0 p b.1 (sort_of_derives env n [] A s.0 s.1) (check_derives env n [] t A c.0 c.1))

-- a family that is accepted
pub family_plain : (env : Env) (n : ℕ) (f : Family) (new : Env) → ArePlainDeclarations env → Gives (declare_family env n f) new → ArePlainDeclarations new
unfolding declare_family
family_plain env n f new p h =
    let a = gives_bind (no_env_fault (first_taken (names_of env) (declared_names f))) _ new h in
    let b = gives_bind (known_context [] (f.parameters ++ f.indices)) _ new a.2 in
    let c = gives_bind (known f.parameters (map (λ c. c.1) f.constructors)) _ new b.2 in
    let s = gives_bind (sorts_of env n [] (f.parameters ++ f.indices)) _ new c.2 in
    let around = env ++ ((f.name, arity (family_type f)) ∷ []) in
    let k = gives_bind (check_constructors around n f f.constructors) _ new s.2 in
    let l = gives_bind (no_env_fault (first_fault (constructors_fault f f.constructors) (first_stored (stored_types f (permitted f.sort k.0))))) _ new k.2 in
    along ArePlainDeclarations l.2
    (family_more env around f (permitted f.sort k.0) k.0 b.0 c.0 p b.1 c.1
    (context_has env n [] (f.parameters ++ f.indices) s.0 s.1) (constructors_have around n f f.constructors k.0 k.1))

-- the same within a budget
pub constant_kept : (env new : Env) (x : Name) (A t : Tree) (opaque : Bool) (b left : ℕ) → ArePlainDeclarations env →
    under_budget (λ n. declare_constant env n x A t opaque) b ≡ done new left → ArePlainDeclarations new
unfolding under_budget
constant_kept env new x A t opaque b left p e =
    constant_plain env (suc b) x A t opaque new p (done_gives b (declare_constant env (suc b) x A t opaque) new left e)

pub family_kept : (env new : Env) (f : Family) (b left : ℕ) → ArePlainDeclarations env →
    under_budget (λ n. declare_family env n f) b ≡ done new left → ArePlainDeclarations new
unfolding under_budget
family_kept env new f b left p e = family_plain env (suc b) f new p (done_gives b (declare_family env (suc b) f) new left e)

-- each declaration of a derived environment went through the look for strange names
abbrev pub AreLookedThrough : {env : Env} → DerivedEnv env → Type 0
AreLookedThrough no_entry = Unit {0}
AreLookedThrough (with_constant env x A t opaque d new a b) = AreLookedThrough d × Gives (known [] (A ∷ t ∷ [])) tt
AreLookedThrough (with_family env f found d e c k) =
    AreLookedThrough d × Gives (known_context [] (f.parameters ++ f.indices)) tt × Gives (known f.parameters (map (λ c. c.1) f.constructors)) tt

pub derived_plain : {env : Env} (d : DerivedEnv env) → AreLookedThrough d → ArePlainDeclarations env
derived_plain no_entry l = nothing_plain
derived_plain (with_constant env x A t opaque d new a b) l = constant_more env x A t opaque _ tt (derived_plain d l.0) l.1 a b
derived_plain (with_family env f found d e c k) l = family_more env _ f (permitted f.sort found) found tt tt (derived_plain d l.0) l.1 l.2 c k
