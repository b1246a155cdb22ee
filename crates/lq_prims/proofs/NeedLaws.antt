-- Terms that a row needs, by the calls of lower layers.
use Rattle.std.proofs.Common.{◌≡◌, ◌∙◌, ℕ, refl, sym, ap, Option, Some, None, Result, Ok, Err}
use Rattle.std.proofs.Common.{subst as along}
use Rattle.lq_trees.specs.declared.Fit.{Fit}
use Rattle.lq_trees.specs.Tree.{Tree, Context}
use Rattle.lq_trees.specs.Size.{fit}
use Rattle.lq_trees.specs.Rules.{Rules}
use Rattle.lq_trees.specs.Ticks.{gives, fails, cut, tick, ◌>>=◌, done, failed, ComesTo}
use Rattle.lq_trees.proofs.Outcomes.{comes_then, comes_spent, comes_gives, comes_fails}
use Rattle.lq_calculus.specs.Contraction.{whnf, contract, beta_normal}
use Rattle.lq_calculus.specs.Checking.{KernelFault}
use Rattle.lq_terms.specs.declared.nodes.TermId.{TermId}
use Rattle.lq_terms.specs.Terms.{Terms, tree_of}
use Rattle.lq_reduce.specs.declared.faults.ReduceFault.{ReduceFault}
use Rattle.lq_reduce.specs.Answers.{Reduces}
use Rattle.lq_beta.specs.declared.faults.BetaFault.{BetaFault}
use Rattle.lq_beta.specs.Tasks.{Normalizes}
use Rattle.lq_solving.specs.Stores.{Store, Variable, StoreFault as TreeFault, read, size_fault, read_fitting, new_variable, store_full, read_too_large, read_too_deep}
use Rattle.lq_solving.specs.ElabFaults.{elab_too_large, elab_too_deep}
use Rattle.lq_evars.specs.declared.store.StoreFault.{StoreFault}
use Rattle.lq_evars.specs.Places.{Places, store_of, Makes}
use Rattle.lq_evars.specs.Reading.{Answers}
use Rattle.lq_unify.proofs.ReduceSteps.{form_done, form_out}
use Rattle.lq_tactics.specs.Rows.{RowFault, Doing, Scene, by_elab, by_store_call, needed, needed_form, store_work, new_goal, goals_exceeded}
use Rattle.lq_typing.specs.declared.faults.ElabFault.{ElabFault}
use Rattle.lq_prims.specs.declared.faults.PrimFault.{PrimFault}
use Rattle.lq_prims.specs.Refusals.{store_refusal, reduce_refusal, beta_refusal, ticks_spent}
use Rattle.lq_prims.specs.Working.{Refuses, Does, Tells}
use Rattle.lq_prims.proofs.WorkLaws.{refuses_at, refuses_at_once, no_memory, does_then, does_same, does_at_once, refuses_first, refuses_same}
use Rattle.lq_prims.proofs.GiveLaws.{reads_is, reads_not}
use Rattle.lq_prims.proofs.BinderLaws.{form_fits, form_large, form_deep}

-- ---- a term as it reads

needed_at : (t : Tree) (o : Option TreeFault) → size_fault t ≡ o → needed t ≡ elim o as (λ z. Doing Tree) [ None ↦ gives t | Some f ↦ fails (by_store_call f) ]
unfolding needed
needed_at t o e = ap (λ w. elim w as (λ z. Doing Tree) [ None ↦ gives t | Some f ↦ fails (by_store_call f) ]) e

pub needed_ok : (bank : Terms) (s : Store) (t : Tree) (u : TermId) → Answers bank (Ok u) (read_fitting s t) → needed (read s t) ≡ gives (tree_of bank u)
needed_ok bank s t u h = let q = reads_is s t (tree_of bank u) h.1 in needed_at (read s t) None q.0 ∙ ap gives q.1

pub needed_err : (bank : Terms) (s : Store) (t : Tree) (f : StoreFault) (e : PrimFault) → e ≡ store_refusal f → Answers bank (Err f) (read_fitting s t) → (b : ℕ) → Refuses bank e (λ n. needed (read s t)) b b
needed_err bank s t f e q h b = along (λ z. Refuses bank z (λ n. needed (read s t)) b b) (sym q) (at f h)
  where
    at : (w : StoreFault) → Answers bank (Err w) (read_fitting s t) → Refuses bank (store_refusal w) (λ n. needed (read s t)) b b
    at StoreFault.TooLarge k = refuses_at_once bank (store_refusal StoreFault.TooLarge) (by_store_call read_too_large) (needed (read s t)) refl (needed_at (read s t) (Some read_too_large) (reads_not s t read_too_large k)) b
    at StoreFault.TooDeep k = refuses_at_once bank (store_refusal StoreFault.TooDeep) (by_store_call read_too_deep) (needed (read s t)) refl (needed_at (read s t) (Some read_too_deep) (reads_not s t read_too_deep k)) b
    at StoreFault.Full k = absurd k
    at StoreFault.NoMemory k = no_memory bank (λ n. needed (read s t)) b b

-- ---- a form within the limits

pub form_too_large : (bank : Terms) (t : Tree) → fit t ≡ Fit.TooLarge → (b : ℕ) → Refuses bank (PrimFault.Elab ElabFault.TooLarge) (λ n. needed_form t) b b
form_too_large bank t e b = refuses_at_once bank (PrimFault.Elab ElabFault.TooLarge) (by_elab elab_too_large) (needed_form t) (elab_too_large, refl, refl) (form_large t e) b

pub form_too_deep : (bank : Terms) (t : Tree) → fit t ≡ Fit.TooDeep → (b : ℕ) → Refuses bank (PrimFault.Elab ElabFault.TooDeep) (λ n. needed_form t) b b
form_too_deep bank t e b = refuses_at_once bank (PrimFault.Elab ElabFault.TooDeep) (by_elab elab_too_deep) (needed_form t) (elab_too_deep, refl, refl) (form_deep t e) b

-- ---- a weak head form

module _ (bank : Terms) (r : Rules) (g : Context) (t : Tree) (b left : ℕ) where
  -- the form, and whether it is within the limits
  abbrev pub formed : ℕ → Doing Tree
  formed n = whnf r g n t >>= needed_form

  as_row : (u : Tree) → ComesTo {F = KernelFault} (λ n. whnf r g n t) b (done u left) → ComesTo {F = RowFault} (λ n. whnf r g n t) b (done u left)
  as_row u h = form_done {F = KernelFault} {G = RowFault} (λ z. goals_exceeded) (contract r g) t u b left h

  pub head_ok : (u : TermId) → Reduces {F = KernelFault} bank (Ok u) (λ n. whnf r g n t) b left → ComesTo formed b (done (tree_of bank u) left)
  head_ok u h =
      comes_then (λ n. whnf {F = RowFault} r g n t) (λ u n. needed_form u) b (tree_of bank u) left (done (tree_of bank u) left) (as_row (tree_of bank u) h.2)
      (comes_gives (λ n. needed_form (tree_of bank u)) (tree_of bank u) left (λ n. form_fits (tree_of bank u) h.1))

  pub head_err : (f : ReduceFault) (e : PrimFault) → e ≡ reduce_refusal f → Reduces {F = KernelFault} bank (Err f) (λ n. whnf r g n t) b left → Refuses bank e formed b left
  head_err f e q h = along (λ z. Refuses bank z formed b left) (sym q) (at f h)
    where
      at : (w : ReduceFault) → Reduces {F = KernelFault} bank (Err w) (λ n. whnf r g n t) b left → Refuses bank (reduce_refusal w) formed b left
      at ReduceFault.StepsOut k = record {
        stop = ticks_spent;
        tells = refl;
        stops = (comes_spent (λ n. whnf {F = RowFault} r g n t) (λ u n. needed_form u) b (form_out {F = KernelFault} {G = RowFault} (λ z. goals_exceeded) (contract r g) t b k.0), k.1);
      }
      at ReduceFault.TooLarge k = refuses_at bank (PrimFault.Elab ElabFault.TooLarge) (by_elab elab_too_large) formed b left (elab_too_large, refl, refl)
          (comes_then (λ n. whnf {F = RowFault} r g n t) (λ u n. needed_form u) b k.tree left (failed (by_elab elab_too_large) left) (as_row k.tree k.comes)
          (comes_fails (λ n. needed_form k.tree) (by_elab elab_too_large) left (λ n. form_large k.tree k.passes)))
      at ReduceFault.TooDeep k = refuses_at bank (PrimFault.Elab ElabFault.TooDeep) (by_elab elab_too_deep) formed b left (elab_too_deep, refl, refl)
          (comes_then (λ n. whnf {F = RowFault} r g n t) (λ u n. needed_form u) b k.tree left (failed (by_elab elab_too_deep) left) (as_row k.tree k.comes)
          (comes_fails (λ n. needed_form k.tree) (by_elab elab_too_deep) left (λ n. form_deep k.tree k.passes)))
      at ReduceFault.NoMemory k = no_memory bank formed b left

-- ---- a beta normal form

pub normal_then : (bank : Terms) (t : Tree) (b left : ℕ) (u : TermId) (q : Result TermId PrimFault) (tell : TermId → Tree) → ComesTo {F = RowFault} (λ n. beta_normal n t) b (done (tree_of bank u) left) →
    Tells bank tell q (needed_form (tree_of bank u)) → Does bank tell q (λ n. beta_normal n t >>= needed_form) b left
normal_then bank t b left u q tell h k =
    does_then bank tell q (λ n. beta_normal n t) (λ u n. needed_form u) b left left (tree_of bank u) h (does_at_once bank tell q (needed_form (tree_of bank u)) k left)

pub normal_err : (bank : Terms) (t : Tree) (b left : ℕ) (f : BetaFault) (e : PrimFault) → e ≡ beta_refusal f → Normalizes bank (Err f) (λ n. beta_normal n t) b left → Refuses bank e (λ n. beta_normal n t >>= needed_form) b left
normal_err bank t b left f e q h = along (λ z. Refuses bank z (λ n. beta_normal n t >>= needed_form) b left) (sym q) (at f h)
  where
    at : (w : BetaFault) → Normalizes bank (Err w) (λ n. beta_normal n t) b left → Refuses bank (beta_refusal w) (λ n. beta_normal n t >>= needed_form) b left
    at BetaFault.StepsOut k = record { stop = ticks_spent; tells = refl; stops = (comes_spent (λ n. beta_normal n t) (λ u n. needed_form u) b k.0, k.1) }
    at BetaFault.NoMemory k = no_memory bank (λ n. beta_normal n t >>= needed_form) b left

-- ---- a new goal

pub grouped : {A B C D : Type 0} (w : Doing A) (k : A → Doing B) (h : B → Doing C) (f : C → Doing D) → (w >>= λ a. (k a >>= h) >>= f) ≡ (((w >>= k) >>= h) >>= f)
unfolding ◌>>=◌
grouped (gives a) k h f = refl
grouped (fails x) k h f = refl
grouped cut k h f = refl
grouped (tick w) k h f = ap tick (grouped w k h f)

-- the variable of a new goal
abbrev pub variable : Context → Tree → Variable
variable g B = record { context = g; kind = B; name = None }

module _ (c : ℕ → Scene) (bound : (n : ℕ) → (c n).bound ≡ n) (s : Store) (g : Context) (A : Tree) where
  -- what is left of a new goal's work, once its type is read
  abbrev pub from_read : Tree → ℕ → Doing (Store × ℕ)
  from_read T n = beta_normal n T >>= needed_form >>= λ B. store_work (new_variable s (variable g B))

  abbrev pub goal_work : ℕ → Doing (Store × ℕ)
  goal_work n = new_goal (c n) s g A

  from_start : (T : Tree) → needed (read s A) ≡ gives T → (n : ℕ) → from_read T n ≡ goal_work n
  unfolding new_goal ◌>>=◌
  from_start T e n =
      ap (λ m. (gives T >>= beta_normal m >>= needed_form) >>= λ B. store_work (new_variable s (variable g B))) (sym (bound n))
      ∙ ap (λ w. (w >>= beta_normal (c n).bound >>= needed_form) >>= λ B. store_work (new_variable s (variable g B))) (sym e)

  regroup : (n : ℕ) → (needed (read s A) >>= λ T. from_read T n) ≡ goal_work n
  unfolding new_goal
  regroup n = ap (λ m. needed (read s A) >>= λ T. (beta_normal m T >>= needed_form) >>= λ B. store_work (new_variable s (variable g B))) (sym (bound n)) ∙ grouped (needed (read s A)) (beta_normal (c n).bound) needed_form (λ B. store_work (new_variable s (variable g B)))

  pub goal_read_err : (bank : Terms) (e : PrimFault) (b left : ℕ) → Refuses bank e (λ n. needed (read s A)) b left → Refuses bank e goal_work b left
  goal_read_err bank e b left h = refuses_same bank e (λ n. needed (read s A) >>= λ T. from_read T n) goal_work b left regroup (refuses_first bank e (λ n. needed (read s A)) from_read b left h)

  pub goal_form_err : (bank : Terms) (T : Tree) (e : PrimFault) (b left : ℕ) → needed (read s A) ≡ gives T → Refuses bank e (λ n. beta_normal n T >>= needed_form) b left → Refuses bank e goal_work b left
  goal_form_err bank T e b left q h =
      refuses_same bank e (from_read T) goal_work b left (from_start T q) (refuses_first bank e (λ n. beta_normal n T >>= needed_form) (λ B n. store_work (new_variable s (variable g B))) b left h)

  module _ (bank : Terms) (T B : Tree) (b left : ℕ) (q : needed (read s A) ≡ gives T) (h : ComesTo (λ n. beta_normal n T >>= needed_form) b (done B left)) where
    pub goal_does : {X : Type 0} (tell : X → Store × ℕ) (r : Result X PrimFault) → Tells bank tell r (store_work (new_variable s (variable g B))) → Does bank tell r goal_work b left
    goal_does tell r k =
        does_same bank tell r (from_read T) goal_work b left (from_start T q)
        (does_then bank tell r (λ n. beta_normal n T >>= needed_form) (λ B n. store_work (new_variable s (variable g B))) b left left B h (does_at_once bank tell r (store_work (new_variable s (variable g B))) k left))

-- the variable is made
pub make_ok : (bank : Terms) (p : Places) (k : ℕ) (s : Store) (v : Variable) → Makes bank (Ok k) p (new_variable s v) → store_work (new_variable s v) ≡ gives (store_of bank p, k)
unfolding store_work
make_ok bank p k s v h = ap store_work h

full_fails : {A : Type 0} (r : Result A TreeFault) → r ≡ Err store_full → store_work r ≡ fails (by_store_call store_full)
unfolding store_work
full_fails r k = ap store_work k

pub make_err : (bank : Terms) (p : Places) (f : StoreFault) (e : PrimFault) (s : Store) (v : Variable) → e ≡ store_refusal f → Makes bank (Err f) p (new_variable s v) → (b : ℕ) → Refuses bank e (λ n. store_work (new_variable s v)) b b
make_err bank p f e s v q h b = along (λ z. Refuses bank z (λ n. store_work (new_variable s v)) b b) (sym q) (at f h)
  where
    at : (w : StoreFault) → Makes bank (Err w) p (new_variable s v) → Refuses bank (store_refusal w) (λ n. store_work (new_variable s v)) b b
    at StoreFault.TooLarge k = absurd k
    at StoreFault.TooDeep k = absurd k
    at StoreFault.Full k = refuses_at_once bank (store_refusal StoreFault.Full) (by_store_call store_full) (store_work (new_variable s v)) refl (full_fails (new_variable s v) k) b
    at StoreFault.NoMemory k = no_memory bank (λ n. store_work (new_variable s v)) b b
