-- What a definition asks of the kernel, step by step.
use Rattle.std.proofs.Common.{◌≡◌, ◌∙◌, refl, sym, ap, ap₂, subst, arith, ℕ, zero, suc, ◌-◌, false, List, [], ◌∷◌, length, Option, Some, None, Result, Ok, Err}
use Rattle.std.proofs.lemmas.List.{length-map}
use Rattle.lq_trees.specs.Tree.{Name, Tree}
use Rattle.lq_trees.specs.Index.{Within}
use Rattle.lq_trees.specs.Ticks.{gives, fails, ◌>>=◌, within, failed}
use Rattle.lq_terms.specs.declared.nodes.TermId.{TermId}
use Rattle.lq_terms.specs.Terms.{Terms, HasName, IsTerm, Grows, text_of, tree_of}
use Rattle.lq_calculus.specs.Declarations.{Env as Environment}
use Rattle.lq_calculus.specs.Checking.{declare_constant}
use Rattle.lq_solving.specs.Stores.{Store, StoreFault as Lack, read, read_too_large, read_too_deep, size_fault, read_fitting}
use Rattle.lq_solving.specs.Elaboration.{numbers, made_between}
use Rattle.lq_solving.specs.Kept.{IsStore}
use Rattle.lq_solving.proofs.ReadLaws.{filled_within}
use Rattle.lq_evars.specs.declared.store.StoreFault.{StoreFault}
use Rattle.lq_evars.specs.Places.{Places, store_of, variable_of, HasStore}
use Rattle.lq_evars.proofs.Growing.{store_of-grown}
use Rattle.lq_goals.specs.Seen.{IsReadable}
use Rattle.lq_env.specs.Environments.{IsEnv, env_of}
use Rattle.lq_env.proofs.Grown.{env_of-grown}
use Rattle.lq_evars.specs.Reading.{Answers}
use Rattle.lq_kernel.specs.Closed.{IsScoped}
use Rattle.lq_env.specs.declared.environment.Declared.{Declared}
use Rattle.lq_terms.specs.declared.nodes.NameId.{NameId}
use Rattle.lq_texts.specs.Causes.{Cause as ScriptCause, too_large, too_deep, unresolved}
use Rattle.lq_print.specs.declared.causes.SentenceCause.{SentenceCause}
use Rattle.lq_print.specs.declared.causes.Cause.{Cause}
use Rattle.lq_sessions.specs.Told.{of_store}
use Rattle.lq_sessions.specs.Sessions.{Work, open_among}
use Rattle.lq_sessions.specs.Declaring.{solved_work, fitting_work, kernel_work, constant_work}
use Rattle.lq_causes.specs.declared.stops.Stop.{Stop}
use Rattle.lq_causes.specs.Stops.{store_stop}
use Rattle.lq_causes.specs.Stopping.{Stops}
use Rattle.lq_declaring.specs.Constants.{Declares, IsSolved, Passes, ReadsBoth, checked_first}

-- ---- variables without a value

-- by how many of a store's variables have none
abbrev solved_by : ℕ → Work (Unit {0})
solved_by n = elim n [ zero ↦ gives tt | suc k ↦ fails (unresolved (suc k)) ]

solved_is : (bank : Terms) (s : Places) (n : ℕ) → n ≡ open_among (store_of bank s) (numbers 0 (length s.variables - 0)) → solved_work (store_of bank s) ≡ solved_by n
unfolding solved_work made_between
solved_is bank s n e =
    ap solved_by (ap (λ k. open_among (store_of bank s) (numbers 0 k)) (omega (arith, length-map s.variables (variable_of bank))) ∙ sym e)

pub all_solved : (bank : Terms) (s : Places) → 0 ≡ open_among (store_of bank s) (numbers 0 (length s.variables - 0)) → IsSolved (store_of bank s) (Ok tt)
all_solved bank s e = solved_is bank s 0 e

pub some_unsolved : (bank : Terms) (s : Places) (n : ℕ) → ¬ (n ≡ 0) → n ≡ open_among (store_of bank s) (numbers 0 (length s.variables - 0)) →
    IsSolved (store_of bank s) (Err (Stop.Refused (Cause.Sentence (SentenceCause.Unresolved n))))
some_unsolved bank s zero h e = absurd (h refl)
some_unsolved bank s (suc n) h e = record { count = suc n; told = refl; work = solved_is bank s (suc n) e }

-- ---- terms read in order

-- by how a term as it reads passes the limits
abbrev fitting_by : Store → List Tree → Option Lack → Work (Unit {0})
fitting_by s ts o = elim o [ Some f ↦ fails (of_store f) | None ↦ fitting_work s ts ]

abbrev read_by : Store → Tree → Option Lack → Result Tree Lack
read_by s t o = elim o [ None ↦ Ok (read s t) | Some f ↦ Err f ]

-- one that fits: the others are read
pub fits_first : (bank : Terms) (s : Store) (r : TermId) (t : Tree) (ts : List Tree) → Answers bank (Ok r) (read_fitting s t) →
    IsTerm bank r (read s t) × (fitting_work s (t ∷ ts) ≡ fitting_work s ts)
unfolding read_fitting fitting_work
fits_first bank s r t ts a = at (size_fault (read s t)) a where
  at : (o : Option Lack) → Answers bank (Ok r) (read_by s t o) → IsTerm bank r (read s t) × (fitting_by s ts o ≡ fitting_work s ts)
  at None a = (record { has = a.0; is = ok_same a.1 }, refl)
    where
      ok_same : ◌≡◌ {A = Result Tree Lack} (Ok (read s t)) (Ok (tree_of bank r)) → tree_of bank r ≡ read s t
      ok_same e = sym (ap (λ o. elim o [ Ok u ↦ u | Err f ↦ read s t ]) e)
  at (Some f) a = absurd (err_ok a.1)
    where
      err_ok : ¬ (◌≡◌ {A = Result Tree Lack} (Err f) (Ok (tree_of bank r)))
      err_ok e = grind arith

-- one that does not
pub passes_first : (bank : Terms) (s : Store) (e : StoreFault) (t : Tree) (ts : List Tree) → Answers bank (Err e) (read_fitting s t) → Passes e s (t ∷ ts)
unfolding read_fitting fitting_work of_store
passes_first bank s StoreFault.TooLarge t ts a = at (size_fault (read s t)) a where
  at : (o : Option Lack) → read_by s t o ≡ Err read_too_large → fitting_by s ts o ≡ fails too_large
  at None a = grind arith
  at (Some f) a = ap (λ o. elim o [ Ok u ↦ fails too_large | Err z ↦ fails (of_store z) ]) a
passes_first bank s StoreFault.TooDeep t ts a = at (size_fault (read s t)) a where
  at : (o : Option Lack) → read_by s t o ≡ Err read_too_deep → fitting_by s ts o ≡ fails too_deep
  at None a = grind arith
  at (Some f) a = ap (λ o. elim o [ Ok u ↦ fails too_deep | Err z ↦ fails (of_store z) ]) a
passes_first bank s StoreFault.Full t ts a = absurd a
passes_first bank s StoreFault.NoMemory t ts a = tt

nothing_left : (s : Store) → fitting_work s [] ≡ gives tt
unfolding fitting_work
nothing_left s = refl

-- the same work passes the same limit
pub passes_as : (s : Store) (e : StoreFault) (ts us : List Tree) → fitting_work s ts ≡ fitting_work s us → Passes e s us → Passes e s ts
passes_as s StoreFault.TooLarge ts us f p = f ∙ p
passes_as s StoreFault.TooDeep ts us f p = f ∙ p
passes_as s StoreFault.Full ts us f p = p
passes_as s StoreFault.NoMemory ts us f p = tt

-- a closed term reads as a closed one
pub reads_scoped : (bank : Terms) (s : Store) (r : TermId) (t : Tree) → IsStore s → Within 0 t → IsTerm bank r (read s t) → IsScoped bank 0 r
unfolding read
reads_scoped bank s r t k w i =
    record { has = i.has; within = subst (Within 0) (sym i.is) (filled_within s.variables s.values k.values 0 t w) }

-- ---- what stops a declaration

module _ (bank : Terms) (s : Store) (ts : List Tree) (k : ℕ → Work Environment) (b : ℕ) where
  pub stops_unsolved : (stop : Stop) → IsSolved s (Err stop) → Stops bank stop (checked_first s ts k) b b
  unfolding within ◌>>=◌
  stops_unsolved stop u =
      subst (λ z. Stops bank z (checked_first s ts k) b b) (sym u.told) (tt, λ n l. ap (λ w. within b (w >>= λ ok. fitting_work s ts >>= λ ok2. k n)) u.work)

  passed_by : IsSolved s (Ok tt) → (c : ScriptCause) → fitting_work s ts ≡ fails c → (n : ℕ) → within b (checked_first s ts k n) ≡ failed c b
  unfolding within ◌>>=◌
  passed_by u c p n = ap (λ w. within b (w >>= λ ok. fitting_work s ts >>= λ ok2. k n)) u ∙ ap (λ w. within b (w >>= λ ok2. k n)) p

  pub stops_passed : IsSolved s (Ok tt) → (e : StoreFault) → Passes e s ts → Stops bank (store_stop e) (checked_first s ts k) b b
  stops_passed u StoreFault.TooLarge p = (tt, λ n l. passed_by u too_large p n)
  stops_passed u StoreFault.TooDeep p = (tt, λ n l. passed_by u too_deep p n)
  stops_passed u StoreFault.Full p = absurd p
  stops_passed u StoreFault.NoMemory p = tt

  -- what is left once all terms fit
  pub checked_left : IsSolved s (Ok tt) → fitting_work s ts ≡ gives tt → (n : ℕ) → checked_first s ts k n ≡ k n
  unfolding ◌>>=◌
  checked_left u p n = ap (λ w. w >>= λ ok. fitting_work s ts >>= λ ok2. k n) u ∙ ap (λ w. w >>= λ ok2. k n) p

-- a definition's constant
pub constant_is : (env : Environment) (n : ℕ) (x : Name) (s : Store) (A t : Tree) (ts : List Tree) →
    constant_work env n x s A t ts ≡ checked_first s ts (λ m. kernel_work (declare_constant env m x (read s A) (read s t) false)) n
unfolding constant_work
constant_is env n x s A t ts = refl

-- what is equal at each bound comes to the same
pub declares_as : (bank : Terms) (r : Result (Unit {0}) Stop) (new : List (NameId × Declared)) (f g : ℕ → Work Environment) (b left : ℕ) → ((n : ℕ) → f n ≡ g n) →
    Declares bank r new g b left → Declares bank r new f b left
declares_as bank (Ok ok) new f g b left e d = λ n l. ap (within b) (e n) ∙ d n l
declares_as bank (Err (Stop.Refused c)) new f g b left e d = (d.0, λ n l. ap (within b) (e n) ∙ d.1 n l)
declares_as bank (Err Stop.NoMemory) new f g b left e d = tt

pub stops_as : {A : Type 0} (bank : Terms) (stop : Stop) (f g : ℕ → Work A) (b left : ℕ) → ((n : ℕ) → f n ≡ g n) → Stops bank stop g b left → Stops bank stop f b left
stops_as bank (Stop.Refused c) f g b left e d = (d.0, λ n l. ap (within b) (e n) ∙ d.1 n l)
stops_as bank Stop.NoMemory f g b left e d = tt

-- ---- two terms that are read, and the constant of them

pub both_read : (b0 b1 b2 : Terms) (g : Grows b0 b1) (h : Grows b1 b2) (s : Places) → HasStore b0 s → IsStore (store_of b0 s) → (first second one two : TermId) → IsReadable b0 s first → IsReadable b0 s second →
    Answers b1 (Ok one) (read_fitting (store_of b0 s) (tree_of b0 first)) → Answers b2 (Ok two) (read_fitting (store_of b1 s) (tree_of b1 second)) →
    ReadsBoth b2 (Ok (one, two)) (store_of b0 s) (tree_of b0 first) (tree_of b0 second) × IsScoped b2 0 one × IsScoped b2 0 two
both_read b0 b1 b2 g h s has k first second one two r q a c =
    let st = store_of b0 s in
    let f = fits_first b1 st one (tree_of b0 first) (tree_of b0 second ∷ []) a in
    let e = fits_first b2 st two (tree_of b0 second) [] (subst (Answers b2 (Ok two)) (ap₂ read_fitting (store_of-grown b0 b1 g s has) (g.tree second q.has)) c) in
    let one_is : IsTerm b2 one (read st (tree_of b0 first)) = record { has = omega (arith, f.0.has, h.nodes); is = h.tree one f.0.has ∙ f.0.is } in (
      (one_is, e.0, f.1 ∙ e.1 ∙ nothing_left st),
      reads_scoped b2 st one (tree_of b0 first) k r.within one_is,
      reads_scoped b2 st two (tree_of b0 second) k q.within e.0,
    )

pub second_passes : (b0 b1 b2 : Terms) (g : Grows b0 b1) (s : Places) → HasStore b0 s → (first second one : TermId) (e : StoreFault) → IsReadable b0 s second →
    Answers b1 (Ok one) (read_fitting (store_of b0 s) (tree_of b0 first)) → Answers b2 (Err e) (read_fitting (store_of b1 s) (tree_of b1 second)) →
    Passes e (store_of b0 s) (tree_of b0 first ∷ tree_of b0 second ∷ [])
second_passes b0 b1 b2 g s has first second one e q a c =
    let st = store_of b0 s in
    passes_as st e (tree_of b0 first ∷ tree_of b0 second ∷ []) (tree_of b0 second ∷ []) (fits_first b1 st one (tree_of b0 first) (tree_of b0 second ∷ []) a).1
    (passes_first b2 st e (tree_of b0 second) [] (subst (Answers b2 (Err e)) (ap₂ read_fitting (store_of-grown b0 b1 g s has) (g.tree second q.has)) c))

pub constant_declared : (b0 b1 b2 : Terms) → Grows b0 b1 → (ds new : List (NameId × Declared)) → IsEnv b0 ds → (x : NameId) → HasName b0 x → (s : Store) (A t : Tree) (ts : List Tree) (kind body : TermId)
    (r : Result (Unit {0}) Stop) (b left : ℕ) → IsSolved s (Ok tt) → fitting_work s ts ≡ gives tt → tree_of b1 kind ≡ read s A → tree_of b1 body ≡ read s t →
    Declares b2 r new (λ n. kernel_work (declare_constant (env_of b1 ds) n (text_of b1 x) (tree_of b1 kind) (tree_of b1 body) false)) b left →
    Declares b2 r new (λ n. constant_work (env_of b0 ds) n (text_of b0 x) s A t ts) b left
constant_declared b0 b1 b2 g ds new i x named s A t ts kind body r b left u fit k e d =
    declares_as b2 r new (λ n. constant_work (env_of b0 ds) n (text_of b0 x) s A t ts) (λ n. kernel_work (declare_constant (env_of b1 ds) n (text_of b1 x) (tree_of b1 kind) (tree_of b1 body) false)) b left
    (λ n. constant_is (env_of b0 ds) n (text_of b0 x) s A t ts ∙ checked_left b2 s ts (λ m. kernel_work (declare_constant (env_of b0 ds) m (text_of b0 x) (read s A) (read s t) false)) b u fit n ∙ sym (same n)) d
  where
    same : (n : ℕ) → kernel_work (declare_constant (env_of b1 ds) n (text_of b1 x) (tree_of b1 kind) (tree_of b1 body) false) ≡ kernel_work (declare_constant (env_of b0 ds) n (text_of b0 x) (read s A) (read s t) false)
    same n = rw (env_of-grown b0 b1 g ds i, g.text x named, k, e) refl

pub constant_stops : (bank : Terms) (env : Environment) (x : Name) (s : Store) (A t : Tree) (ts : List Tree) (b : ℕ) (stop : Stop) →
    Stops bank stop (checked_first s ts (λ m. kernel_work (declare_constant env m x (read s A) (read s t) false))) b b → Stops bank stop (λ n. constant_work env n x s A t ts) b b
constant_stops bank env x s A t ts b stop d =
    stops_as bank stop (λ n. constant_work env n x s A t ts) (checked_first s ts (λ m. kernel_work (declare_constant env m x (read s A) (read s t) false))) b b (λ n. constant_is env n x s A t ts) d
