-- The end of a proof, step by step, and as a sentence.
use Rattle.std.proofs.Common.{◌≡◌, ◌∙◌, refl, sym, ap, subst, arith, ℕ, zero, suc, ◌+◌, ◌≤◌, Bool, true, false, List, [], ◌∷◌, ◌++◌, length, Option, Some, None, Result, Ok, Err}
use Rattle.std.specs.Prelude.{not, slice_get}
use Rattle.lq_trees.specs.Tree.{Name, Tree, Context}
use Rattle.lq_trees.specs.Tree.Tree.{Evar}
use Rattle.lq_trees.specs.Index.{Within, EachWithin}
use Rattle.lq_trees.specs.Ticks.{gives, fails, ◌>>=◌, within, failed}
use Rattle.lq_calculus.specs.Declarations.{Env as Environment, variables}
use Rattle.lq_calculus.specs.Checking.{declare_constant}
use Rattle.lq_terms.specs.declared.nodes.TermId.{TermId}
use Rattle.lq_terms.specs.declared.nodes.NameId.{NameId}
use Rattle.lq_terms.specs.Terms.{Terms, HasName, HasTerm, Grows, text_of, tree_of}
use Rattle.lq_env.specs.declared.environment.Declared.{Declared}
use Rattle.lq_env.specs.Environments.{IsEnv, env_of}
use Rattle.lq_env.proofs.Grown.{env_of-grown}
use Rattle.lq_kernel.specs.Closed.{IsScoped}
use Rattle.lq_solving.specs.Stores.{Store, Variable, StoreFault as Lack, read, size_fault, is_open, has_value, own_instance, instance_list}
use Rattle.lq_solving.specs.Kept.{IsStore}
use Rattle.lq_solving.proofs.ReadLaws.{filled_within}
use Rattle.lq_solving.proofs.DoneLaws.{filled_done, done_reads}
use Rattle.lq_evars.specs.declared.store.StoreFault.{StoreFault}
use Rattle.lq_states.specs.Goals.{Proof, open_count, still_open}
use Rattle.lq_states.specs.Kept.{IsProof, listed_goals, behind_all, times}
use Rattle.lq_states.proofs.ListLaws.{times_append}
use Rattle.lq_states.proofs.SweepLaws.{all_open}
use Rattle.lq_states.specs.Views.{root, root_of, fitting_root, unless_fault}
use Rattle.lq_goals.specs.Seen.{Shows, IsTree}
use Rattle.lq_texts.specs.Causes.{open_goals, unresolved}
use Rattle.lq_print.specs.declared.causes.SentenceCause.{SentenceCause}
use Rattle.lq_print.specs.declared.causes.Cause.{Cause}
use Rattle.lq_sessions.specs.Told.{of_store}
use Rattle.lq_sessions.specs.Sessions.{Session, Opened, Done, Work, with_env, refused, came_to, worked, all_fit}
use Rattle.lq_sessions.specs.Declaring.{fitting_work, kernel_work, closed, is_defined}
use Rattle.lq_causes.specs.declared.stops.Stop.{Stop}
use Rattle.lq_causes.specs.Stops.{store_stop}
use Rattle.lq_causes.specs.Stopping.{Stops}
use Rattle.lq_declaring.specs.Constants.{Declares, Passes}
use Rattle.lq_declaring.proofs.ConstantLaws.{declares_as}
use Rattle.lq_declaring.specs.Closing.{closing_work}

-- ---- by what is left

abbrev by_shelf : List ℕ → Work Environment → Work Environment
by_shelf ks w = elim ks [ k ∷ js ↦ fails (unresolved (length (k ∷ js))) | [] ↦ w ]

abbrev by_goals : ℕ → Work Environment → Work Environment
by_goals n w = elim n [ suc k ↦ fails (open_goals (suc k)) | zero ↦ w ]

module _ (bank : Terms) (env : Environment) (x : Name) (A : Tree) (p : Proof) (opaque : Bool) (b : ℕ) where
  -- what comes of it where nothing is left
  abbrev finished : ℕ → Work Environment
  finished n = fitting_work p.store (root p ∷ []) >>= λ ok. kernel_work (declare_constant env n x A (root p) opaque)

  pub stops_open : (k : ℕ) → k ≡ open_count p → ¬ (k ≡ 0) → Stops bank (Stop.Refused (Cause.Sentence (SentenceCause.OpenGoals k))) (closing_work env x A p opaque) b b
  unfolding closing_work within
  stops_open zero e h = absurd (h refl)
  stops_open (suc k) e h = (tt, λ n l. ap (λ m. within b (by_goals m (by_shelf (still_open p.store p.shelf) (finished n)))) (sym e))

  pub stops_shelved : open_count p ≡ 0 → (k : ℕ) → k ≡ length (still_open p.store p.shelf) → ¬ (k ≡ 0) →
      Stops bank (Stop.Refused (Cause.Sentence (SentenceCause.Unresolved k))) (closing_work env x A p opaque) b b
  unfolding closing_work within
  stops_shelved none k e h = (tt, λ n l. ap (λ m. within b (by_goals m (by_shelf (still_open p.store p.shelf) (finished n)))) none ∙ at (still_open p.store p.shelf) k e h n)
    where
      at : (ks : List ℕ) (k : ℕ) → k ≡ length ks → ¬ (k ≡ 0) → (n : ℕ) → within b (by_shelf ks (finished n)) ≡ failed (unresolved k) b
      at [] k e h n = absurd (h e)
      at (j ∷ js) k e h n = ap (λ m. failed (unresolved m) b) (sym e)

  finished_is : open_count p ≡ 0 → length (still_open p.store p.shelf) ≡ 0 → (n : ℕ) → closing_work env x A p opaque n ≡ finished n
  unfolding closing_work
  finished_is none shelf n = ap (λ m. by_goals m (by_shelf (still_open p.store p.shelf) (finished n))) none ∙ at (still_open p.store p.shelf) shelf
    where
      at : (ks : List ℕ) → length ks ≡ 0 → by_shelf ks (finished n) ≡ finished n
      at [] e = refl
      at (j ∷ js) e = absurd (omega (arith, e))

  pub stops_root : open_count p ≡ 0 → length (still_open p.store p.shelf) ≡ 0 → (e : StoreFault) → Passes e p.store (root p ∷ []) → Stops bank (store_stop e) (closing_work env x A p opaque) b b
  unfolding within ◌>>=◌
  stops_root none shelf StoreFault.TooLarge q = (tt, λ n l. ap (within b) (finished_is none shelf n) ∙ ap (λ w. within b (w >>= λ ok. kernel_work (declare_constant env n x A (root p) opaque))) q)
  stops_root none shelf StoreFault.TooDeep q = (tt, λ n l. ap (within b) (finished_is none shelf n) ∙ ap (λ w. within b (w >>= λ ok. kernel_work (declare_constant env n x A (root p) opaque))) q)
  stops_root none shelf StoreFault.Full q = absurd q
  stops_root none shelf StoreFault.NoMemory q = tt

  pub closing_left : open_count p ≡ 0 → length (still_open p.store p.shelf) ≡ 0 → fitting_work p.store (root p ∷ []) ≡ gives tt → (t : Tree) → t ≡ root p →
      (n : ℕ) → closing_work env x A p opaque n ≡ kernel_work (declare_constant env n x A t opaque)
  unfolding ◌>>=◌
  closing_left none shelf fit t e n =
      finished_is none shelf n ∙ ap (λ w. w >>= λ ok. kernel_work (declare_constant env n x A (root p) opaque)) fit ∙ ap (λ u. kernel_work (declare_constant env n x A u opaque)) (sym e)

-- ---- the shelf, and the term as it reads

open_valueless : (st : Store) (k : ℕ) → is_open st k ≡ true → has_value st k ≡ false
unfolding is_open
open_valueless st k e = at (slice_get st.variables k) e
  where
    flipped : (b : Bool) → not b ≡ true → b ≡ false
    flipped true e = grind arith
    flipped false e = refl

    at : (o : Option Variable) → elim o [ None ↦ false | Some v ↦ not (has_value st k) ] ≡ true → has_value st k ≡ false
    at None e = grind arith
    at (Some v) e = flipped (has_value st k) e

listed_shelf : (p : Proof) (j : ℕ) → 1 ≤ times p.shelf j → 1 ≤ times (listed_goals p) j
unfolding listed_goals
listed_shelf p j l = subst (λ n. 1 ≤ n) (sym (times_append (p.focus ++ behind_all p.frames) p.shelf j)) (omega (arith, l))

-- none of a proof's shelved variables has a value
pub shelf_open : (p : Proof) → IsProof p → still_open p.store p.shelf ≡ p.shelf
shelf_open p k = all_open p.store p.shelf (λ j l. open_valueless p.store j (k.valueless j (listed_shelf p j l)))

-- a term as it reads reads as it stands
root_reads : (p : Proof) → IsStore p.store → 1 ≤ length p.store.variables → read p.store (root p) ≡ root p
unfolding root root_of read
root_reads p k h = at p.store.variables h
  where
    at : (vs : List Variable) → 1 ≤ length vs → read p.store (root_of p.store vs) ≡ root_of p.store vs
    at [] h = absurd (omega (arith, h))
    at (v ∷ vs) h = done_reads p.store.variables p.store.values (read p.store (Evar 0 (own_instance v.context))) (filled_done p.store.variables p.store.values k.values (Evar 0 (own_instance v.context)))

own_within : (g : Context) → EachWithin 0 (own_instance g)
unfolding own_instance instance_list variables
own_within [] = tt
own_within (h ∷ g) = (tt, own_within g)

root_within : (p : Proof) → IsStore p.store → 1 ≤ length p.store.variables → Within 0 (root p)
unfolding root root_of read
root_within p k h = at p.store.variables h
  where
    at : (vs : List Variable) → 1 ≤ length vs → Within 0 (root_of p.store vs)
    at [] h = absurd (omega (arith, h))
    at (v ∷ vs) h = filled_within p.store.variables p.store.values k.values 0 (Evar 0 (own_instance v.context)) (own_within v.context)

-- what reading the root tells of the limits
by_limits : Option Lack → Work (Unit {0})
unfolding of_store
by_limits o = elim o [ Some f ↦ fails (of_store f) | None ↦ gives tt ]

root_fits : (p : Proof) → IsStore p.store → 1 ≤ length p.store.variables → fitting_work p.store (root p ∷ []) ≡ by_limits (size_fault (root p))
unfolding fitting_work size_fault by_limits
root_fits p k h = ap (λ t. by_limits (size_fault t)) (root_reads p k h)

pub root_given : (bank : Terms) (p : Proof) (t : TermId) → IsStore p.store → 1 ≤ length p.store.variables → Shows (IsTree bank) (Ok t) (fitting_root p) →
    (fitting_work p.store (root p ∷ []) ≡ gives tt) × (tree_of bank t ≡ root p) × IsScoped bank 0 t
unfolding fitting_root unless_fault by_limits
root_given bank p t k h s = at (size_fault (root p)) refl s
  where
    at : (o : Option Lack) → size_fault (root p) ≡ o → Shows (IsTree bank) (Ok t) (unless_fault o (root p)) →
        (fitting_work p.store (root p ∷ []) ≡ gives tt) × (tree_of bank t ≡ root p) × IsScoped bank 0 t
    at None e s = (root_fits p k h ∙ ap by_limits e, s.1, record { has = s.0; within = subst (Within 0) (sym s.1) (root_within p k h) })
    at (Some f) e s = absurd s

pub root_passes : (bank : Terms) (p : Proof) (e : StoreFault) → IsStore p.store → 1 ≤ length p.store.variables → Shows (IsTree bank) (Err e) (fitting_root p) → Passes e p.store (root p ∷ [])
unfolding fitting_root unless_fault by_limits of_store
root_passes bank p e k h s = at (size_fault (root p)) refl e s
  where
    at : (o : Option Lack) → size_fault (root p) ≡ o → (e : StoreFault) → Shows (IsTree bank) (Err e) (unless_fault o (root p)) → Passes e p.store (root p ∷ [])
    at None q StoreFault.TooLarge s = grind arith
    at None q StoreFault.TooDeep s = grind arith
    at None q StoreFault.Full s = s
    at None q StoreFault.NoMemory s = tt
    at (Some f) q StoreFault.TooLarge s = root_fits p k h ∙ ap by_limits (q ∙ s)
    at (Some f) q StoreFault.TooDeep s = root_fits p k h ∙ ap by_limits (q ∙ s)
    at (Some f) q StoreFault.Full s = s
    at (Some f) q StoreFault.NoMemory s = tt

-- ---- the constant, in a bank that has grown

pub closing_declared : (b0 b1 b2 : Terms) → Grows b0 b1 → (ds new : List (NameId × Declared)) → IsEnv b0 ds → (x : NameId) → HasName b0 x → (A : TermId) → HasTerm b0 A → (p : Proof) (opaque : Bool) (body : TermId)
    (r : Result (Unit {0}) Stop) (b left : ℕ) → open_count p ≡ 0 → length (still_open p.store p.shelf) ≡ 0 → fitting_work p.store (root p ∷ []) ≡ gives tt → tree_of b1 body ≡ root p →
    Declares b2 r new (λ n. kernel_work (declare_constant (env_of b1 ds) n (text_of b1 x) (tree_of b1 A) (tree_of b1 body) opaque)) b left →
    Declares b2 r new (closing_work (env_of b0 ds) (text_of b0 x) (tree_of b0 A) p opaque) b left
closing_declared b0 b1 b2 g ds new i x named A has p opaque body r b left none shelf fit e d =
    declares_as b2 r new (closing_work (env_of b0 ds) (text_of b0 x) (tree_of b0 A) p opaque) (λ n. kernel_work (declare_constant (env_of b1 ds) n (text_of b1 x) (tree_of b1 A) (tree_of b1 body) opaque)) b left
    (λ n. closing_left b2 (env_of b0 ds) (text_of b0 x) (tree_of b0 A) p opaque b none shelf fit (tree_of b1 body) e n ∙ sym (same n)) d
  where
    same : (n : ℕ) → kernel_work (declare_constant (env_of b1 ds) n (text_of b1 x) (tree_of b1 A) (tree_of b1 body) opaque) ≡ kernel_work (declare_constant (env_of b0 ds) n (text_of b0 x) (tree_of b0 A) (tree_of b1 body) opaque)
    same n = rw (env_of-grown b0 b1 g ds i, g.text x named, g.tree A has) refl

-- ---- as a sentence

pub closed_is : (s : Session) (o : Opened) (opaque : Bool) →
    closed s o opaque ≡ worked s s.env (closing_work s.env o.name o.statement o.state opaque) (λ env. (is_defined o.name, Ok (with_env s env)))
unfolding closed worked came_to within ◌>>=◌ closing_work all_fit fitting_work
closed_is s o opaque = goals (open_count o.state)
  where
    end : Environment → Done
    end env = (is_defined o.name, Ok (with_env s env))

    kernel_asked : ℕ → Work Environment
    kernel_asked n = kernel_work (declare_constant s.env n o.name o.statement (root o.state) opaque)

    fits : (f : Option Lack) → elim f [ Some e ↦ refused s (of_store e) | None ↦ worked s s.env kernel_asked end ]
        ≡ came_to s s.env end (within s.kernel (elim f as (λ z. Work (Unit {0})) [ Some e ↦ fails (of_store e) | None ↦ gives tt ] >>= λ ok. kernel_asked (suc s.kernel)))
    fits None = refl
    fits (Some e) = refl

    shelved : (ks : List ℕ) → elim ks [ k ∷ js ↦ refused s (unresolved (length (k ∷ js))) | [] ↦ all_fit s o.state.store (root o.state ∷ []) (worked s s.env kernel_asked end) ]
        ≡ came_to s s.env end (within s.kernel (by_shelf ks (fitting_work o.state.store (root o.state ∷ []) >>= λ ok. kernel_asked (suc s.kernel))))
    shelved [] = fits (size_fault (read o.state.store (root o.state)))
    shelved (k ∷ js) = refl

    goals : (n : ℕ) →
        elim n [
          | suc m ↦ refused s (open_goals (suc m))
          | zero ↦ elim (still_open o.state.store o.state.shelf) [ k ∷ js ↦ refused s (unresolved (length (k ∷ js))) | [] ↦ all_fit s o.state.store (root o.state ∷ []) (worked s s.env kernel_asked end) ]
        ]
        ≡ came_to s s.env end (within s.kernel (by_goals n (by_shelf (still_open o.state.store o.state.shelf) (fitting_work o.state.store (root o.state ∷ []) >>= λ ok. kernel_asked (suc s.kernel)))))
    goals zero = shelved (still_open o.state.store o.state.shelf)
    goals (suc m) = refl
