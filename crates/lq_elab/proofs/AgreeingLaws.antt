-- What was found against what is wanted, by the calls of reading and of unification.
use Rattle.std.proofs.Common.{◌≡◌, ◌<◌, ◌^◌, ◌∙◌, ℕ, refl, sym, ap, arith, List, [], ◌∷◌, length, Option, None, Some, Result, Ok}
use Rattle.std.proofs.Common.{Err}
use Rattle.std.proofs.Common.{subst as along}
use Rattle.lq_trees.specs.declared.Fit.{Fit}
use Rattle.lq_trees.specs.Tree.{Tree, Context}
use Rattle.lq_trees.specs.Size.{fit}
use Rattle.lq_trees.specs.Ticks.{gives, fails, ◌>>=◌, done, failed, steps_out, within, ComesTo}
use Rattle.lq_trees.proofs.Outcomes.{comes_then, comes_gives, comes_fails}
use Rattle.lq_calculus.specs.Declarations.{Env as Environment, rules_of}
use Rattle.lq_terms.specs.declared.nodes.NameId.{NameId}
use Rattle.lq_terms.specs.declared.nodes.TermId.{TermId}
use Rattle.lq_terms.specs.Terms.{Terms, HasName, tree_of}
use Rattle.lq_terms.specs.Telling.{Tells}
use Rattle.lq_env.specs.declared.environment.Declared.{Declared}
use Rattle.lq_env.specs.Environments.{IsEnv, IsOwn, env_of, telling}
use Rattle.lq_env.proofs.Grown.{env_of-grown, IsEnv-grown}
use Rattle.lq_kernel.proofs.Told.{own}
use Rattle.lq_solving.specs.Stores.{Store, StoreFault as TreeFault, read_too_large, read_too_deep, read, read_fitting, size_fault}
use Rattle.lq_solving.specs.Kept.{IsContext, IsStore, StandsIn}
use Rattle.lq_solving.specs.Claims.{ArePlainDeclarations}
use Rattle.lq_solving.proofs.ElabKept.{Grown}
use Rattle.lq_solving.specs.ElabFaults.{ElabFault as Fault, Elab, elab_fitting, elab_too_large, elab_too_deep, carrying, found_wanted, by_unify}
use Rattle.lq_solving.specs.ElabFaults as e
use Rattle.lq_solving.specs.Unification.{UnifyFault as TreeUnifyFault, Unify, Answer, unify, unify_too_large, unify_too_deep}
use Rattle.lq_solving.specs.Elaboration.{Site, found, unified, against}
use Rattle.lq_solving.proofs.ElabSettled.{at}
use Rattle.lq_evars.specs.declared.store.StoreFault.{StoreFault}
use Rattle.lq_evars.specs.Reading.{Answers}
use Rattle.lq_unify.specs.declared.faults.UnifyFault.{UnifyFault}
use Rattle.lq_unify.specs.Telling.{TellsOn}
use Rattle.lq_unify.specs.Turns.{Stops}
use Rattle.lq_unify.proofs.ReduceSteps.{outcome_as, within_faults}
use Rattle.lq_typing.specs.declared.faults.ElabFault.{ElabFault}
use Rattle.lq_typing.specs.Refusals.{Refuses}
use Rattle.lq_elab.specs.Answers.{Comes}
use Rattle.lq_elab.specs.Agreeing.{read_fault, unify_fault}
use Rattle.lq_elab.proofs.AnswerLaws.{refuses_first, refuses_rest, refuses_same}
use Rattle.lq_elab.proofs.CallLaws.{unified_comes}
use Rattle.lq_elab.proofs.HeadForms.{fitted, fits_is}

-- ---- a term as it reads, within the limits

-- the limits on what is read
reading : Fit → Tree → Result Tree TreeFault
reading q t = elim q [ Fit.Fits ↦ Ok t | Fit.TooLarge ↦ Err read_too_large | Fit.TooDeep ↦ Err read_too_deep ]

reading_is : (s : Store) (t : Tree) (q : Fit) → fit (read s t) ≡ q → read_fitting s t ≡ reading q (read s t)
unfolding read_fitting size_fault reading
reading_is s t Fit.Fits x = ap (λ z. elim (elim z as (λ _. Option TreeFault) [ Fit.Fits ↦ None | Fit.TooLarge ↦ Some read_too_large | Fit.TooDeep ↦ Some read_too_deep ]) as (λ _. Result Tree TreeFault) [ None ↦ Ok (read s t) | Some f ↦ Err f ]) x
reading_is s t Fit.TooLarge x = ap (λ z. elim (elim z as (λ _. Option TreeFault) [ Fit.Fits ↦ None | Fit.TooLarge ↦ Some read_too_large | Fit.TooDeep ↦ Some read_too_deep ]) as (λ _. Result Tree TreeFault) [ None ↦ Ok (read s t) | Some f ↦ Err f ]) x
reading_is s t Fit.TooDeep x = ap (λ z. elim (elim z as (λ _. Option TreeFault) [ Fit.Fits ↦ None | Fit.TooLarge ↦ Some read_too_large | Fit.TooDeep ↦ Some read_too_deep ]) as (λ _. Result Tree TreeFault) [ None ↦ Ok (read s t) | Some f ↦ Err f ]) x

answer_is : (a b : Tree) → ◌≡◌ {A = Result Tree TreeFault} (Ok a) (Ok b) → a ≡ b
answer_is a b q = grind (arith, q)

module _ (bank : Terms) (s : Store) (t : Tree) where
  abbrev pub ReadBy : Result TermId StoreFault → Type 0
  ReadBy (Ok u) = (left : ℕ) → ComesTo (λ n. elab_fitting (read s t)) left (done (tree_of bank u) left)
  ReadBy (Err f) = (left : ℕ) → Comes {A = Tree} bank (tree_of bank) (Err (read_fault f)) (λ n. elab_fitting (read s t)) left left

  by_fit : (o : Fit) → fit (read s t) ≡ o → (q : Result TermId StoreFault) → Answers bank q (reading o (read s t)) → ReadBy q
  unfolding reading fitted
  by_fit Fit.Fits x (Ok u) h = λ left. comes_gives (λ n. elab_fitting (read s t)) (tree_of bank u) left (λ n. fits_is (read s t) Fit.Fits x ∙ ap (λ z. gives z) (answer_is (read s t) (tree_of bank u) h.1))
  by_fit Fit.Fits x (Err StoreFault.TooLarge) h = absurd (grind (arith, h))
  by_fit Fit.Fits x (Err StoreFault.TooDeep) h = absurd (grind (arith, h))
  by_fit Fit.Fits x (Err StoreFault.Full) h = absurd h
  by_fit Fit.Fits x (Err StoreFault.NoMemory) h = λ left. tt
  by_fit Fit.TooLarge x (Ok u) h = absurd (grind (arith, h.1))
  by_fit Fit.TooLarge x (Err StoreFault.TooLarge) h = λ left. comes_fails (λ n. elab_fitting (read s t)) elab_too_large left (λ n. fits_is (read s t) Fit.TooLarge x)
  by_fit Fit.TooLarge x (Err StoreFault.TooDeep) h = absurd (grind (arith, h))
  by_fit Fit.TooLarge x (Err StoreFault.Full) h = absurd h
  by_fit Fit.TooLarge x (Err StoreFault.NoMemory) h = λ left. tt
  by_fit Fit.TooDeep x (Ok u) h = absurd (grind (arith, h.1))
  by_fit Fit.TooDeep x (Err StoreFault.TooLarge) h = absurd (grind (arith, h))
  by_fit Fit.TooDeep x (Err StoreFault.TooDeep) h = λ left. comes_fails (λ n. elab_fitting (read s t)) elab_too_deep left (λ n. fits_is (read s t) Fit.TooDeep x)
  by_fit Fit.TooDeep x (Err StoreFault.Full) h = absurd h
  by_fit Fit.TooDeep x (Err StoreFault.NoMemory) h = λ left. tt

  pub read_by : (q : Result TermId StoreFault) → Answers bank q (read_fitting s t) → ReadBy q
  read_by q h = by_fit (fit (read s t)) refl q (along (Answers bank q) (reading_is s t (fit (read s t)) refl) h)

  pub read_tree : (u : TermId) → read_fitting s t ≡ Ok (tree_of bank u) → tree_of bank u ≡ read s t
  unfolding reading
  read_tree u h = at (fit (read s t)) refl (sym (reading_is s t (fit (read s t)) refl) ∙ h)
    where
      at : (o : Fit) → fit (read s t) ≡ o → reading o (read s t) ≡ Ok (tree_of bank u) → tree_of bank u ≡ read s t
      at Fit.Fits x k = grind (arith, k)
      at Fit.TooLarge x k = absurd (grind (arith, k))
      at Fit.TooDeep x k = absurd (grind (arith, k))

-- ---- the fault of types that do not unify

module _ (bank : Terms) (T U : Tree) where
  both : ℕ → Elab Store
  both n = carrying (T ∷ U ∷ []) (found_wanted T U)

  -- both as read are within the limits
  pub carries_both : (left : ℕ) → ComesTo (λ n. elab_fitting T) left (done T left) → ComesTo (λ n. elab_fitting U) left (done U left) →
      ComesTo {F = Fault} {A = Store} (λ n. carrying (T ∷ U ∷ []) (found_wanted T U)) left (failed (found_wanted T U) left)
  unfolding carrying
  carries_both left h k =
      comes_then (λ n. elab_fitting T) (λ ok n. elab_fitting U >>= λ ok2. fails (found_wanted T U)) left T left (failed (found_wanted T U) left) h
      (comes_then (λ n. elab_fitting U) (λ ok n. fails (found_wanted T U)) left U left (failed (found_wanted T U) left) k
      (comes_fails (λ n. fails (found_wanted T U)) (found_wanted T U) left (λ n. refl)))

  -- the first, or the second, is not
  pub first_passes : (left : ℕ) (f : ElabFault) → Refuses bank f (λ n. elab_fitting T) left left → Refuses {A = Store} bank f (λ n. carrying (T ∷ U ∷ []) (found_wanted T U)) left left
  unfolding carrying
  first_passes left f h = refuses_first bank (λ n. elab_fitting T) (λ ok n. elab_fitting U >>= λ ok2. fails (found_wanted T U)) left left f h

  pub second_passes : (left : ℕ) (f : ElabFault) → ComesTo (λ n. elab_fitting T) left (done T left) → Refuses bank f (λ n. elab_fitting U) left left →
      Refuses {A = Store} bank f (λ n. carrying (T ∷ U ∷ []) (found_wanted T U)) left left
  unfolding carrying
  second_passes left f h k =
      refuses_rest bank (λ n. elab_fitting T) (λ ok n. elab_fitting U >>= λ ok2. fails (found_wanted T U)) left T left left f h
      (refuses_first bank (λ n. elab_fitting U) (λ ok n. fails (found_wanted T U)) left left f k)

-- ---- unification

-- an environment's rules, in this bank and later
pub env_rules : (bank : Terms) (ds : List (NameId × Declared)) → IsEnv bank ds →
    ((new : Terms) → IsEnv new ds → ((x : NameId) → HasName new x → IsOwn new x) → Tells new (telling ds) (rules_of (env_of new ds))) → TellsOn bank (telling ds) (rules_of (env_of bank ds))
env_rules bank ds h told new grows apart =
    along (λ E. Tells new (telling ds) (rules_of E)) (env_of-grown bank new grows ds h)
    (told new (IsEnv-grown bank new grows ds h) (λ x has. own new x apart has))

-- what unification comes to, as work of elaboration
by_done : (f : ℕ → Unify Answer) (b left : ℕ) (a : Answer) → ComesTo f b (done a left) → ComesTo (λ n. by_unify (f n)) b (done a left)
unfolding outcome_as
by_done f b left a h = λ n i. within_faults e.unify_fault b (f n) ∙ ap (outcome_as e.unify_fault) (h n i)

by_failed : (f : ℕ → Unify Answer) (b left : ℕ) (y : TreeUnifyFault) → ComesTo f b (failed y left) → ComesTo (λ n. by_unify (f n)) b (failed (e.unify_fault y) left)
unfolding outcome_as
by_failed f b left y h = λ n i. within_faults e.unify_fault b (f n) ∙ ap (outcome_as e.unify_fault) (h n i)

by_spent : (f : ℕ → Unify Answer) (b : ℕ) → ComesTo f b steps_out → ComesTo (λ n. by_unify (f n)) b steps_out
unfolding outcome_as
by_spent f b h = λ n i. within_faults e.unify_fault b (f n) ∙ ap (outcome_as e.unify_fault) (h n i)

-- a refusal of unification, told as one of elaboration
by_stops : (bank : Terms) (f : ℕ → Unify Answer) (b left : ℕ) (y : UnifyFault) → Stops f b left y → Refuses bank (unify_fault y) (λ n. by_unify (f n)) b left
unfolding e.unify_fault
by_stops bank f b left UnifyFault.StepsOut h = (by_spent f b h.0, h.1)
by_stops bank f b left UnifyFault.TooLarge h = by_failed f b left unify_too_large h
by_stops bank f b left UnifyFault.TooDeep h = by_failed f b left unify_too_deep h
by_stops bank f b left UnifyFault.NoMemory h = tt

module _ (E : Environment) (g : Context) (s : Store) (A B : Tree) (b left : ℕ) where
  -- what is made of the answer
  choice : Answer → Elab Store
  choice a = elim a [ Some s1 ↦ gives s1 | None ↦ carrying (read s A ∷ read s B ∷ []) (found_wanted (read s A) (read s B)) ]

  whole : ℕ → Elab Store
  whole n = by_unify (unify (rules_of E) n g s A B) >>= choice

  at_site : (x : Site) → E ≡ x.env → (n : ℕ) → unified (at n x) g s A B ≡ whole n
  unfolding unified whole choice
  at_site x q n = ap (λ y. by_unify (unify (rules_of y) n g s A B) >>= choice) (sym q)

  pub yes_unified : (s1 : Store) → ComesTo (λ n. unify (rules_of E) n g s A B) b (done (Some s1) left) → (x : Site) → E ≡ x.env → ComesTo (λ n. unified (at n x) g s A B) b (done s1 left)
  unfolding whole choice
  yes_unified s1 h x q = λ n i. ap (within b) (at_site x q n)
      ∙ comes_then (λ n. by_unify (unify (rules_of E) n g s A B)) (λ a n. choice a) b (Some s1) left (done s1 left) (by_done (λ n. unify (rules_of E) n g s A B) b left (Some s1) h)
      (comes_gives (λ n. choice (Some s1)) s1 left (λ n. refl)) n i

  pub no_unified : (bank : Terms) (f : ElabFault) → ComesTo (λ n. unify (rules_of E) n g s A B) b (done None left) →
      Refuses {A = Store} bank f (λ n. carrying (read s A ∷ read s B ∷ []) (found_wanted (read s A) (read s B))) left left → (x : Site) → E ≡ x.env → Refuses bank f (λ n. unified (at n x) g s A B) b left
  unfolding whole choice
  no_unified bank f h k x q =
      refuses_same bank whole (λ n. unified (at n x) g s A B) b left (at_site x q) f
      (refuses_rest bank (λ n. by_unify (unify (rules_of E) n g s A B)) (λ a n. choice a) b None left left f (by_done (λ n. unify (rules_of E) n g s A B) b left None h) k)

  pub stops_unified : (bank : Terms) (y : UnifyFault) → Stops (λ n. unify (rules_of E) n g s A B) b left y → (x : Site) → E ≡ x.env → Refuses bank (unify_fault y) (λ n. unified (at n x) g s A B) b left
  unfolding whole choice
  stops_unified bank y h x q =
      refuses_same bank whole (λ n. unified (at n x) g s A B) b left (at_site x q) (unify_fault y)
      (refuses_first bank (λ n. by_unify (unify (rules_of E) n g s A B)) (λ a n. choice a) b left (unify_fault y) (by_stops bank (λ n. unify (rules_of E) n g s A B) b left y h))

-- ---- what was found, against the wanted type if there is one

module _ (x : Site) (g : Context) (s : Store) (t K : Tree) (b : ℕ) (fits : ComesTo (λ n. elab_fitting (read s K)) b (done (read s K) b)) where
  pub none_agrees : ComesTo (λ n. against (at n x) g None (found s t K)) b (done (found s t K) b)
  unfolding against
  none_agrees = comes_then (λ n. elab_fitting (read s K)) (λ ok n. gives (found s t K)) b (read s K) b (done (found s t K) b) fits (comes_gives (λ n. gives (found s t K)) (found s t K) b (λ n. refl))

  pub some_agrees : (A : Tree) (s1 : Store) (left : ℕ) → ComesTo (λ n. unified (at n x) g s K A) b (done s1 left) → ComesTo (λ n. against (at n x) g (Some A) (found s t K)) b (done (found s1 t K) left)
  unfolding against
  some_agrees A s1 left h =
      comes_then (λ n. elab_fitting (read s K)) (λ ok n. unified (at n x) g s K A >>= λ z. gives (found z t K)) b (read s K) b (done (found s1 t K) left) fits
      (comes_then (λ n. unified (at n x) g s K A) (λ z n. gives (found z t K)) b s1 left (done (found s1 t K) left) h (comes_gives (λ n. gives (found s1 t K)) (found s1 t K) left (λ n. refl)))

  pub some_refuses : (bank : Terms) (A : Tree) (left : ℕ) (f : ElabFault) → Refuses bank f (λ n. unified (at n x) g s K A) b left → Refuses bank f (λ n. against (at n x) g (Some A) (found s t K)) b left
  unfolding against
  some_refuses bank A left f h =
      refuses_rest bank (λ n. elab_fitting (read s K)) (λ ok n. unified (at n x) g s K A >>= λ z. gives (found z t K)) b (read s K) b left f fits
      (refuses_first bank (λ n. unified (at n x) g s K A) (λ z n. gives (found z t K)) b left f h)

-- the type passes the limits
pub large_refuses : (x : Site) (g : Context) (w : Option Tree) (s : Store) (t K : Tree) (bank : Terms) (b left : ℕ) (f : ElabFault) → Refuses bank f (λ n. elab_fitting (read s K)) b left → Refuses bank f (λ n. against (at n x) g w (found s t K)) b left
unfolding against
large_refuses x g None s t K bank b left f h = refuses_first bank (λ n. elab_fitting (read s K)) (λ ok n. gives (found s t K)) b left f h
large_refuses x g (Some A) s t K bank b left f h = refuses_first bank (λ n. elab_fitting (read s K)) (λ ok n. unified (at n x) g s K A >>= λ z. gives (found z t K)) b left f h

-- the store that unification leaves has grown
pub yes_grown : (E : Environment) → ArePlainDeclarations E → (g : Context) (s s1 : Store) (A B : Tree) (b left : ℕ) → length g < 2 ^ 64 → b < 2 ^ 64 → IsStore s → IsContext s g → StandsIn s g A → StandsIn s g B →
    ComesTo (λ n. unify (rules_of E) n g s A B) b (done (Some s1) left) → Grown s s1
yes_grown E plain g s s1 A B b left few less i c k l h =
    unified_comes b left (record { env = E; bound = 0; values = []; outer = [] }) plain g s s1 A B (omega (arith, few, less)) i c k l
    (yes_unified E g s A B b left s1 h (record { env = E; bound = 0; values = []; outer = [] }) refl)
