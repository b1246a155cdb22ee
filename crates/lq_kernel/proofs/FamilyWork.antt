-- How the declaration of a family goes on, part by part.
use Rattle.std.proofs.Common.{◌≡◌, ◌∙◌, ℕ, refl, sym, ap, subst, List, [], ◌∷◌, ◌++◌, map, Option, Some, None, Result, Ok, Err, Bool, true, false}
use Rattle.std.proofs.Math.Path.{fun_ext}
use Rattle.std.specs.Prelude.{OnOk, OnErr}
use Rattle.lq_trees.specs.declared.Sort.{Sort as Universe}
use Rattle.lq_trees.specs.Tree.{Name, Tree, Context}
use Rattle.lq_trees.specs.Fresh.{is_listed}
use Rattle.lq_trees.specs.Ticks.{gives, ◌>>=◌, done, failed, ComesTo}
use Rattle.lq_trees.proofs.TickLaws.{bind_bind}
use Rattle.lq_trees.proofs.Outcomes.{comes_gives, comes_fails, comes_is}
use Rattle.lq_terms.specs.declared.nodes.NameId.{NameId}
use Rattle.lq_terms.specs.Terms.{Terms, Grows, text_of}
use Rattle.lq_calculus.specs.Declarations.{Env as Environment, Family as TreeFamily, EnvFault as Fault, arity, family_type, family_entries, names_of, declared_names, first_taken, first_fault, constructors_fault, first_stored, stored_types, family_fault, add_inductive, name_taken, not_positive, nested_use, bad_result, elim_forbidden, env_too_large, env_too_deep, permitted}
use Rattle.lq_calculus.specs.Checking.{Kernel, unbound, env_fault, fitting, known, known_context, no_env_fault, sorts_of, check_constructors, declare_constant, declare_family}
use Rattle.lq_calculus.specs.Typing.{DerivedEnv}
use Rattle.lq_calculus.proofs.Claims.{constant_sound, family_sound}
use Rattle.lq_env.specs.declared.family.EnvFault.{EnvFault}
use Rattle.lq_env.specs.declared.environment.Declared.{Declared}
use Rattle.lq_env.specs.Families.{Refuses as EnvRefuses}
use Rattle.lq_env.specs.Environments.{Adds, IsEnv, env_of, with_arity, fault_in}
use Rattle.lq_env.proofs.Entries.{not_taken}
use Rattle.lq_kernel.specs.declared.faults.KernelFault.{KernelFault}
use Rattle.lq_kernel.specs.Answers.{Refuses, Checks, Declares}
use Rattle.lq_kernel.specs.Steps.{KnowsAll, refusal}
use Rattle.lq_kernel.specs.Declaring.{constructors_work, from_sorts, from_tests, LooksOver, FindsSmall, ChecksFamily, AddsFamily}
use Rattle.lq_kernel.proofs.Goes.{Goes, goes_then, goes_on, goes_same, refuses_goes, refuses_first}
use Rattle.lq_kernel.proofs.Grown.{IsEnv-grown}
use Rattle.lq_kernel.proofs.CallLaws.{knows_all_stop}
use Rattle.lq_kernel.proofs.ArityLaws.{arity_alike}

-- a refusal of the environment as one of the kernel's work
pub env_refused : {A : Type 0} (bank : Terms) (x : EnvFault) (o : Option Fault) (f : ℕ → Kernel A) (b left : ℕ) → EnvRefuses bank x o → ((e : Fault) → o ≡ Some e → ComesTo f b (failed (env_fault e) left)) → Refuses bank (refusal x) f b left
env_refused bank (EnvFault.NameTaken y) o f b left h m = record { refusal = name_taken (text_of bank y); tells = (h.0, refl); comes = m _ h.1 }
env_refused bank (EnvFault.NotPositive y k) o f b left h m = record { refusal = not_positive (text_of bank y) k; tells = (h.0, refl); comes = m _ h.1 }
env_refused bank (EnvFault.NestedUse y k) o f b left h m = record { refusal = nested_use (text_of bank y) k; tells = (h.0, refl); comes = m _ h.1 }
env_refused bank (EnvFault.BadResult y) o f b left h m = record { refusal = bad_result (text_of bank y); tells = (h.0, refl); comes = m _ h.1 }
env_refused bank (EnvFault.ElimForbidden y s) o f b left h m = record { refusal = elim_forbidden (text_of bank y) s; tells = (h.0, refl); comes = m _ h.1 }
env_refused bank EnvFault.TooLarge o f b left h m = record { refusal = env_too_large; tells = refl; comes = m _ h }
env_refused bank EnvFault.TooDeep o f b left h m = record { refusal = env_too_deep; tells = refl; comes = m _ h }
env_refused bank EnvFault.NoMemory o f b left h m = tt

module _ (E : Environment) (f : TreeFamily) where
  abbrev kinds : List Tree
  kinds = map (λ c. c.1) f.constructors

  abbrev chain : ℕ → Kernel Environment
  chain n = sorts_of E n [] (f.parameters ++ f.indices) >>= λ ok. constructors_work E f n >>= λ found. from_tests E f found

  abbrev whole : ℕ → Kernel Environment
  whole n = from_sorts E f n >>= λ found. from_tests E f found

  chain_is : (n : ℕ) → chain n ≡ whole n
  unfolding from_sorts
  chain_is n = sym (bind_bind (sorts_of E n [] (f.parameters ++ f.indices)) (λ ok. constructors_work E f n) (λ found. from_tests E f found))

  taken_at : (o : Option Fault) → first_taken (names_of E) (declared_names f) ≡ o → (n : ℕ) → declare_family E n f ≡ (no_env_fault o >>= λ new. known_context [] (f.parameters ++ f.indices) >>= λ ok. known f.parameters kinds >>= λ ok2. chain n)
  unfolding declare_family constructors_work from_tests
  taken_at o e n = ap (λ p. no_env_fault p >>= λ new. known_context [] (f.parameters ++ f.indices) >>= λ ok. known f.parameters kinds >>= λ ok2. chain n) e

  new_at : first_taken (names_of E) (declared_names f) ≡ None → (n : ℕ) → declare_family E n f ≡ (known_context [] (f.parameters ++ f.indices) >>= λ ok. known f.parameters kinds >>= λ ok2. chain n)
  unfolding no_env_fault ◌>>=◌
  new_at e n = taken_at None e n

  known_at : first_taken (names_of E) (declared_names f) ≡ None → known_context [] (f.parameters ++ f.indices) ≡ gives (tt {0}) → (n : ℕ) → declare_family E n f ≡ (known f.parameters kinds >>= λ ok2. chain n)
  unfolding ◌>>=◌
  known_at e k n = new_at e n ∙ ap (λ w. w >>= λ ok. known f.parameters kinds >>= λ ok2. chain n) k

  all_at : first_taken (names_of E) (declared_names f) ≡ None → known_context [] (f.parameters ++ f.indices) ≡ gives (tt {0}) → known f.parameters kinds ≡ gives (tt {0}) → (n : ℕ) → declare_family E n f ≡ whole n
  unfolding ◌>>=◌
  all_at e k m n = known_at e k n ∙ ap (λ w. w >>= λ ok2. chain n) m ∙ chain_is n

  pub names_refused : (bank : Terms) (x : EnvFault) (b : ℕ) → EnvRefuses bank x (first_taken (names_of E) (declared_names f)) → Refuses bank (refusal x) (λ n. declare_family E n f) b b
  unfolding no_env_fault ◌>>=◌
  names_refused bank x b h = env_refused bank x (first_taken (names_of E) (declared_names f)) (λ n. declare_family E n f) b b h (λ e i. comes_fails (λ n. declare_family E n f) (env_fault e) b (λ n. taken_at (Some e) i n))

  pub context_refused : (bank : Terms) (e : KernelFault) (b : ℕ) → first_taken (names_of E) (declared_names f) ≡ None → KnowsAll bank (Err e) (known_context [] (f.parameters ++ f.indices)) → Refuses bank e (λ n. declare_family E n f) b b
  unfolding ◌>>=◌
  context_refused bank e b i h =
      knows_all_stop bank e (known_context [] (f.parameters ++ f.indices)) (λ n. declare_family E n f) b h
      (λ x k. comes_fails (λ n. declare_family E n f) (unbound x) b (λ n. new_at i n ∙ ap (λ w. w >>= λ ok. known f.parameters kinds >>= λ ok2. chain n) k))

  kinds_refused : (bank : Terms) (e : KernelFault) (b : ℕ) → first_taken (names_of E) (declared_names f) ≡ None → known_context [] (f.parameters ++ f.indices) ≡ gives (tt {0}) → KnowsAll bank (Err e) (known f.parameters kinds) → Refuses bank e (λ n. declare_family E n f) b b
  unfolding ◌>>=◌
  kinds_refused bank e b i k h =
      knows_all_stop bank e (known f.parameters kinds) (λ n. declare_family E n f) b h
      (λ x m. comes_fails (λ n. declare_family E n f) (unbound x) b (λ n. known_at i k n ∙ ap (λ w. w >>= λ ok2. chain n) m))

  pub looks_over : (bank : Terms) (r : Result (Unit {0}) KernelFault) → first_taken (names_of E) (declared_names f) ≡ None → known_context [] (f.parameters ++ f.indices) ≡ gives (tt {0}) → KnowsAll bank r (known f.parameters kinds) → LooksOver bank r E f
  looks_over bank (Ok ok) i k h = λ n. all_at i k h n
  looks_over bank (Err e) i k h = λ b. kinds_refused bank e b i k h

  -- the sorts and the constructors
  module _ (is : (n : ℕ) → declare_family E n f ≡ whole n) (bank : Terms) (b left : ℕ) where
    whole_start : Goes Environment (λ n. declare_family E n f) b chain b
    whole_start = goes_same (λ n. declare_family E n f) chain b (λ n. is n ∙ sym (chain_is n))

    pub sorts_refused : (e : KernelFault) → Refuses bank e (λ n. sorts_of E n [] (f.parameters ++ f.indices)) b left → Refuses bank e (λ n. declare_family E n f) b left
    sorts_refused e r =
        refuses_goes bank e (λ n. declare_family E n f) b chain b left whole_start (refuses_first bank e (λ n. sorts_of E n [] (f.parameters ++ f.indices)) (λ ok n. constructors_work E f n >>= λ found. from_tests E f found) b left r)

    pub checks_family : (r : Result Bool KernelFault) (c : ℕ) → ComesTo (λ n. sorts_of E n [] (f.parameters ++ f.indices)) b (done (tt {0}) c) → FindsSmall bank r (constructors_work E f) c left → ChecksFamily bank r E f b left
    unfolding from_sorts
    checks_family (Ok small) c h k = (
      record {
        found = k.found;
        comes = goes_then (λ n. sorts_of E n [] (f.parameters ++ f.indices)) (λ ok n. constructors_work E f n) b (tt {0}) c h (done k.found left) k.comes;
        is = k.is;
      },
      is,
    )
    checks_family (Err e) c h k =
        refuses_goes bank e (λ n. declare_family E n f) b chain b left whole_start
        (refuses_goes bank e chain b (λ n. constructors_work E f n >>= λ found. from_tests E f found) c left
        (goes_then (λ n. sorts_of E n [] (f.parameters ++ f.indices)) (λ ok n. constructors_work E f n >>= λ found. from_tests E f found) b (tt {0}) c h)
        (refuses_first bank e (constructors_work E f) (λ found n. from_tests E f found) c left k))

  -- the last tests
  abbrev tests : List (List Universe) → Option Fault
  tests found = first_fault (constructors_fault f f.constructors) (first_stored (stored_types f (permitted f.sort found)))

  fault_is : (found : List (List Universe)) → first_taken (names_of E) (declared_names f) ≡ None → family_fault E f (permitted f.sort found) ≡ tests found
  unfolding family_fault
  fault_is found e = ap (λ o. first_fault o (tests found)) e

  tests_at : (found : List (List Universe)) (o : Option Fault) → tests found ≡ o → from_tests E f found ≡ (no_env_fault o >>= λ ok. gives (E ++ family_entries f (permitted f.sort found)))
  unfolding from_tests
  tests_at found o e = ap (λ p. no_env_fault p >>= λ ok. gives (E ++ family_entries f (permitted f.sort found))) e

  added_fault : (ss : List Universe) → fault_in (add_inductive E f ss) ≡ family_fault E f ss
  unfolding add_inductive
  added_fault ss = by (family_fault E f ss)
    where
      by : (o : Option Fault) → fault_in (elim o as (λ z. Result Environment Fault) [ Some e ↦ Err e | None ↦ Ok (E ++ family_entries f ss) ]) ≡ o
      by None = refl
      by (Some e) = refl

  added_env : (ss : List Universe) (new : Environment) → add_inductive E f ss ≡ Ok new → (family_fault E f ss ≡ None) × (E ++ family_entries f ss ≡ new)
  unfolding add_inductive
  added_env ss new h = by (family_fault E f ss) h
    where
      by : (o : Option Fault) → ◌≡◌ {A = Result Environment Fault} (elim o as (λ z. Result Environment Fault) [ Some e ↦ Err e | None ↦ Ok (E ++ family_entries f ss) ]) (Ok new) → (o ≡ None) × (E ++ family_entries f ss ≡ new)
      by None k = (refl, cc)
      by (Some e) k = absurd cc

  module _ (bank : Terms) (ds : List (NameId × Declared)) (b c : ℕ) (new : first_taken (names_of E) (declared_names f) ≡ None) (is : (n : ℕ) → declare_family E n f ≡ whole n) (found : List (List Universe)) (comes : ComesTo (from_sorts E f) b (done found c)) where
    tests_start : Goes Environment (λ n. declare_family E n f) b (λ n. from_tests E f found) c
    tests_start = goes_on (λ n. declare_family E n f) whole (λ n. from_tests E f found) b b c (goes_same (λ n. declare_family E n f) whole b is) (goes_then (from_sorts E f) (λ fd n. from_tests E f fd) b found c comes)

    -- the environment takes the family, or refuses it
    pub declares : (r : Result (Unit {0}) KernelFault) → AddsFamily bank r ds (add_inductive E f (permitted f.sort found)) → Declares bank r ds (λ n. declare_family E n f) b c
    unfolding no_env_fault ◌>>=◌
    declares (Ok ok) h =
        let at = added_env (permitted f.sort found) (env_of bank ds) h.1 in
        subst (λ z. ComesTo (λ n. declare_family E n f) b (done z c)) at.1
        (tests_start (done (E ++ family_entries f (permitted f.sort found)) c)
        (comes_gives (λ n. from_tests E f found) (E ++ family_entries f (permitted f.sort found)) c (λ n. tests_at found None (sym (fault_is found new) ∙ at.0))))
    declares (Err e) h =
        subst (λ z. Refuses bank z (λ n. declare_family E n f) b c) (sym h.is)
        (env_refused bank h.fault (tests found) (λ n. declare_family E n f) b c
        (subst (EnvRefuses bank h.fault) (added_fault (permitted f.sort found) ∙ fault_is found new) h.adds)
        (λ x i. tests_start (failed (env_fault x) c) (comes_fails (λ n. from_tests E f found) (env_fault x) c (λ n. tests_at found (Some x) i))))

  -- the constructors, with a type that counts as the family's
  pub inside_finds : (bank : Terms) (r : Result Bool KernelFault) (env : Environment) (F : TreeFamily) (A : Tree) (b left : ℕ) → env ≡ E ++ ((f.name, arity A) ∷ []) → F ≡ f → fitting A ≡ fitting (family_type f)
      → FindsSmall bank r (λ n. check_constructors env n F F.constructors) b left → FindsSmall bank r (constructors_work E f) b left
  unfolding constructors_work
  inside_finds bank r env F A b left e i k h =
      finds_same r (λ n. ap (λ D. check_constructors D n F F.constructors) e ∙ ap (λ D. check_constructors (E ++ ((f.name, arity A) ∷ [])) n D D.constructors) i ∙ arity_alike f.name A (family_type f) k E n f f.constructors) h
    where
      finds_same : (r : Result Bool KernelFault) → {v w : ℕ → Kernel (List (List Universe))} → ((n : ℕ) → v n ≡ w n) → FindsSmall bank r v b left → FindsSmall bank r w b left
      finds_same r {v} {w} same h = subst (λ z. FindsSmall bank r z b left) (fun_ext same) h

-- the environment with a family that is being declared
pub opened_env : (bank : Terms) (ds : List (NameId × Declared)) (env : Environment) (x : Name) (A : Tree) → is_listed (names_of env) x ≡ false → Adds bank (Ok tt) ds (with_arity env x A) → env_of bank ds ≡ env ++ ((x, arity A) ∷ [])
opened_env bank ds env x A e h =
    let same : ◌≡◌ {A = Result Environment Fault} (Ok (env_of bank ds)) (Ok (env ++ ((x, arity A) ∷ []))) = sym h.1 ∙ ap (λ b. elim b as (λ z. Result Environment Fault) [ true ↦ Err (name_taken x) | false ↦ Ok (env ++ ((x, arity A) ∷ [])) ]) e in
    cc

pub family_new : (taken : List Name) (f : TreeFamily) → first_taken taken (declared_names f) ≡ None → is_listed taken f.name ≡ false
unfolding declared_names
family_new taken f e = not_taken taken _ f.name e

-- what is asked and told of the same environment and family
pub sorts_at : (bank : Terms) (r : Result (Unit {0}) KernelFault) (D E : Environment) (G H : Context) (b left : ℕ) → D ≡ E → G ≡ H → Checks bank r (λ n. sorts_of D n [] G) b left → Checks bank r (λ n. sorts_of E n [] H) b left
sorts_at bank r D E G H b left e i h = subst (λ z. Checks bank r (λ n. sorts_of z n [] H) b left) e (subst (λ z. Checks bank r (λ n. sorts_of D n [] z) b left) i h)

pub work_at : (bank : Terms) (r : Result Bool KernelFault) (D E : Environment) (F G : TreeFamily) (b left : ℕ) → D ≡ E → F ≡ G → FindsSmall bank r (constructors_work D F) b left → FindsSmall bank r (constructors_work E G) b left
work_at bank r D E F G b left e i h = subst (λ z. FindsSmall bank r (constructors_work z G) b left) e (subst (λ z. FindsSmall bank r (constructors_work D z) b left) i h)

pub adds_at : (bank : Terms) (r : Result (Unit {0}) KernelFault) (ds : List (NameId × Declared)) (D E : Environment) (F G : TreeFamily) (ss : List Universe) → D ≡ E → F ≡ G → AddsFamily bank r ds (add_inductive D F ss) → AddsFamily bank r ds (add_inductive E G ss)
adds_at bank r ds D E F G ss e i h = subst (λ z. AddsFamily bank r ds (add_inductive z G ss)) e (subst (λ z. AddsFamily bank r ds (add_inductive D z ss)) i h)

-- the environment after a family was added or refused
pub env_after : (old new : Terms) (r : Result (Unit {0}) KernelFault) (ds es : List (NameId × Declared)) (t : Result Environment Fault) → Grows old new → IsEnv old ds → AddsFamily new r es t → OnErr r (es ≡ ds) → IsEnv new es
env_after old new (Ok ok) ds es t g p h k = h.0
env_after old new (Err e) ds es t g p h k = subst (IsEnv new) (sym k) (IsEnv-grown old new g ds p)

-- what is declared keeps an environment derived
pub constant_derives : (bank : Terms) (r : Result (Unit {0}) KernelFault) (ds : List (NameId × Declared)) (E : Environment) (x : Name) (A t : Tree) (opaque : Bool) (b left : ℕ) → Declares bank r ds (λ n. declare_constant E n x A t opaque) b left
    → OnOk r (DerivedEnv E → DerivedEnv (env_of bank ds))
constant_derives bank (Ok ok) ds E x A t opaque b left h = λ d. constant_sound E (env_of bank ds) x A t opaque b left d (comes_is (λ n. declare_constant E n x A t opaque) b (done (env_of bank ds) left) h)
constant_derives bank (Err e) ds E x A t opaque b left h = tt

pub family_derives : (bank : Terms) (r : Result (Unit {0}) KernelFault) (ds : List (NameId × Declared)) (E : Environment) (f : TreeFamily) (b left : ℕ) → Declares bank r ds (λ n. declare_family E n f) b left → OnOk r (DerivedEnv E → DerivedEnv (env_of bank ds))
family_derives bank (Ok ok) ds E f b left h = λ d. family_sound E (env_of bank ds) f b left d (comes_is (λ n. declare_family E n f) b (done (env_of bank ds) left) h)
family_derives bank (Err e) ds E f b left h = tt
