-- Refusals of a part are those of the whole.
use Rattle.std.proofs.Common.{◌≡◌, ℕ, Result, Ok, Err}
use Rattle.lq_trees.specs.Ticks.{◌>>=◌, done, failed, steps_out, ComesTo}
use Rattle.lq_trees.proofs.Outcomes.{comes_then, comes_failed, comes_spent}
use Rattle.lq_terms.specs.Terms.{Terms}
use Rattle.lq_solving.specs.ElabFaults.{ElabFault as TreeFault, Elab}
use Rattle.lq_solving.specs.Elaboration.{Found}
use Rattle.lq_typing.specs.declared.faults.ElabFault.{ElabFault}
use Rattle.lq_typing.specs.Refusals.{Refuses}
use Rattle.lq_elab.specs.Answers.{Comes}
use Rattle.lq_elab.specs.Waiting.{Leads}
use Rattle.lq_elab.proofs.GoingLaws.{comes_same}

-- work whose refusals are those of other work
module _ {A B : Type 0} (bank : Terms) (x : ℕ → Elab A) (y : ℕ → Elab B) (b c l : ℕ) (failed_too : (F : TreeFault) → ComesTo x b (failed F l) → ComesTo y c (failed F l)) (spent_too : ComesTo x b steps_out → ComesTo y c steps_out) where
  pub refuses_by : (e : ElabFault) → Refuses bank e x b l → Refuses bank e y c l
  refuses_by (ElabFault.Unknown n) h = (h.0, failed_too _ h.1)
  refuses_by (ElabFault.Mismatch t u) h = (h.0, h.1, failed_too _ h.2)
  refuses_by (ElabFault.NotAProduct t) h = (h.0, failed_too _ h.1)
  refuses_by ElabFault.NoSortAbove h = failed_too _ h
  refuses_by (ElabFault.CannotInfer p) h = failed_too _ h
  refuses_by (ElabFault.NotASort t) h = (h.0, failed_too _ h.1)
  refuses_by (ElabFault.ElimForbidden n s) h = (h.0, failed_too _ h.1)
  refuses_by (ElabFault.NameInUse n) h = (h.0, failed_too _ h.1)
  refuses_by ElabFault.StepsOut h = (spent_too h.0, h.1)
  refuses_by ElabFault.TooLarge h = failed_too _ h
  refuses_by ElabFault.TooDeep h = failed_too _ h
  refuses_by ElabFault.Full h = failed_too _ h
  refuses_by (ElabFault.NotATerm n) h = (h.0, failed_too _ h.1)
  refuses_by ElabFault.NoMemory h = tt

module _ {A B : Type 0} (bank : Terms) (x : ℕ → Elab A) (k : A → ℕ → Elab B) (b : ℕ) where
  -- the first part refuses, or the rest does
  pub refuses_first : (l : ℕ) (e : ElabFault) → Refuses bank e x b l → Refuses bank e (λ n. x n >>= (λ a. k a n)) b l
  refuses_first l e h = refuses_by bank x (λ n. x n >>= (λ a. k a n)) b b l (λ F c. comes_failed x k b F l c) (λ c. comes_spent x k b c) e h

  pub refuses_rest : (a : A) (l m : ℕ) (e : ElabFault) → ComesTo x b (done a l) → Refuses bank e (k a) l m → Refuses bank e (λ n. x n >>= (λ z. k z n)) b m
  refuses_rest a l m e d h = refuses_by bank (k a) (λ n. x n >>= (λ z. k z n)) l b m (λ F c. comes_then x k b a l (failed F m) d c) (λ c. comes_then x k b a l steps_out d c) e h

-- equal work
pub refuses_same : {A : Type 0} (bank : Terms) (x y : ℕ → Elab A) (b l : ℕ) → ((n : ℕ) → y n ≡ x n) → (e : ElabFault) → Refuses bank e x b l → Refuses bank e y b l
refuses_same bank x y b l q e h = refuses_by bank x y b b l (λ F c. comes_same y x b (failed F l) q c) (λ c. comes_same y x b steps_out q c) e h

-- work that leads to the whole's
pub refuses_whole : (bank : Terms) (f g : ℕ → Elab Found) (b l m : ℕ) → Leads f g b l → (e : ElabFault) → Refuses bank e g l m → Refuses bank e f b m
refuses_whole bank f g b l m k e h = refuses_by bank g f l b m (λ F c. k (failed F m) c) (λ c. k steps_out c) e h

-- an answer of equal work
pub comes_as : {C A : Type 0} (bank : Terms) (value : C → A) (q : Result C ElabFault) (f g : ℕ → Elab A) (b l : ℕ) → ((n : ℕ) → f n ≡ g n) → Comes bank value q g b l → Comes bank value q f b l
comes_as bank value (Ok c) f g b l e h = comes_same f g b (done (value c) l) e h
comes_as bank value (Err y) f g b l e h = refuses_same bank g f b l e y h
