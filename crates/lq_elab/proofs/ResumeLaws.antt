-- A part was elaborated: the work that is left of what waits for it.
use Rattle.std.proofs.Common.{ℕ, List, ◌∷◌, Option, Some}
use Rattle.lq_trees.specs.declared.Sort.{Sort as Universe}
use Rattle.lq_trees.specs.Tree.{Name, Tree}
use Rattle.lq_trees.specs.Ticks.{◌>>=◌, done, ComesTo}
use Rattle.lq_ast.specs.Syntax.{Surface}
use Rattle.lq_terms.specs.Terms.{Terms}
use Rattle.lq_solving.specs.ElabFaults.{Elab}
use Rattle.lq_solving.specs.Elaboration.{Site, Found, found_sort, form_of, product_form}
use Rattle.lq_solving.proofs.ElabSettled.{at}
use Rattle.lq_typing.specs.declared.faults.ElabFault.{ElabFault}
use Rattle.lq_typing.specs.Refusals.{Refuses}
use Rattle.lq_elab.specs.Waiting.{Spot, Waiting, waiting, cast_kind, cast_term, definition_kind, definition_value, applied_function, applied_argument}
use Rattle.lq_elab.specs.Waiting.{found_work, asked_work, Leads}
use Rattle.lq_elab.proofs.GoingLaws.{leads_same, leads_done, cast_kind_work, definition_kind_work, function_work}
use Rattle.lq_elab.proofs.AnswerLaws.{refuses_first, refuses_whole}

module _ (e : Site) (vs : List Waiting) (l : Spot) (w : Option Tree) (f : ℕ → Elab Found) (b i j : ℕ) (x : Found) where
  -- a cast
  pub cast_goes : (t : Surface) (u : Universe) → Leads f (found_work e (waiting l w (cast_kind t) ∷ vs) x) b i → ComesTo (λ n. found_sort (at n e) l.context x) i (done u j) →
      Leads f (asked_work e (waiting l w (cast_term x.term) ∷ vs) l x.store t (Some x.term)) b j
  cast_goes t u h k =
      leads_done f (λ n. found_sort (at n e) l.context x) (λ s n. asked_work e (waiting l w (cast_term x.term) ∷ vs) l x.store t (Some x.term) n) b i j u
      (leads_same f (found_work e (waiting l w (cast_kind t) ∷ vs) x) (λ n. found_sort (at n e) l.context x >>= (λ s. asked_work e (waiting l w (cast_term x.term) ∷ vs) l x.store t (Some x.term) n)) b i (cast_kind_work e vs l w t x) h) k

  pub cast_refuses : (bank : Terms) (t : Surface) (y : ElabFault) → Leads f (found_work e (waiting l w (cast_kind t) ∷ vs) x) b i → Refuses bank y (λ n. found_sort (at n e) l.context x) i j → Refuses bank y f b j
  cast_refuses bank t y h k =
      refuses_whole bank f (λ n. found_sort (at n e) l.context x >>= (λ s. asked_work e (waiting l w (cast_term x.term) ∷ vs) l x.store t (Some x.term) n)) b i j
      (leads_same f (found_work e (waiting l w (cast_kind t) ∷ vs) x) (λ n. found_sort (at n e) l.context x >>= (λ s. asked_work e (waiting l w (cast_term x.term) ∷ vs) l x.store t (Some x.term) n)) b i (cast_kind_work e vs l w t x) h) y
      (refuses_first bank (λ n. found_sort (at n e) l.context x) (λ s n. asked_work e (waiting l w (cast_term x.term) ∷ vs) l x.store t (Some x.term) n) i j y k)

  -- a local definition
  pub definition_goes : (y : Name) (v t : Surface) (u : Universe) → Leads f (found_work e (waiting l w (definition_kind y v t) ∷ vs) x) b i → ComesTo (λ n. found_sort (at n e) l.context x) i (done u j) →
      Leads f (asked_work e (waiting l w (definition_value y (Some x.term) t) ∷ vs) l x.store v (Some x.term)) b j
  definition_goes y v t u h k =
      leads_done f (λ n. found_sort (at n e) l.context x) (λ s n. asked_work e (waiting l w (definition_value y (Some x.term) t) ∷ vs) l x.store v (Some x.term) n) b i j u
      (leads_same f (found_work e (waiting l w (definition_kind y v t) ∷ vs) x) (λ n. found_sort (at n e) l.context x >>= (λ s. asked_work e (waiting l w (definition_value y (Some x.term) t) ∷ vs) l x.store v (Some x.term) n)) b i
      (definition_kind_work e vs l w y v t x) h) k

  pub definition_refuses : (bank : Terms) (y : Name) (v t : Surface) (z : ElabFault) → Leads f (found_work e (waiting l w (definition_kind y v t) ∷ vs) x) b i → Refuses bank z (λ n. found_sort (at n e) l.context x) i j → Refuses bank z f b j
  definition_refuses bank y v t z h k =
      refuses_whole bank f (λ n. found_sort (at n e) l.context x >>= (λ s. asked_work e (waiting l w (definition_value y (Some x.term) t) ∷ vs) l x.store v (Some x.term) n)) b i j
      (leads_same f (found_work e (waiting l w (definition_kind y v t) ∷ vs) x) (λ n. found_sort (at n e) l.context x >>= (λ s. asked_work e (waiting l w (definition_value y (Some x.term) t) ∷ vs) l x.store v (Some x.term) n)) b i
      (definition_kind_work e vs l w y v t x) h) z
      (refuses_first bank (λ n. found_sort (at n e) l.context x) (λ s n. asked_work e (waiting l w (definition_value y (Some x.term) t) ∷ vs) l x.store v (Some x.term) n) i j z k)

  -- an application
  pub function_goes : (a : Surface) (as_ : List Surface) (p : Tree × Tree) → Leads f (found_work e (waiting l w (applied_function a as_) ∷ vs) x) b i → ComesTo (λ n. form_of (at n e) l.context x.store x.kind >>= product_form) i (done p j) →
      Leads f (asked_work e (waiting l w (applied_argument x.term p.1 as_) ∷ vs) l x.store a (Some p.0)) b j
  function_goes a as_ p h k =
      leads_done f (λ n. form_of (at n e) l.context x.store x.kind >>= product_form) (λ q n. asked_work e (waiting l w (applied_argument x.term q.1 as_) ∷ vs) l x.store a (Some q.0) n) b i j p
      (leads_same f (found_work e (waiting l w (applied_function a as_) ∷ vs) x) (λ n. form_of (at n e) l.context x.store x.kind >>= product_form >>= (λ q. asked_work e (waiting l w (applied_argument x.term q.1 as_) ∷ vs) l x.store a (Some q.0) n)) b i
      (function_work e vs l w a as_ x) h) k

  pub function_refuses : (bank : Terms) (a : Surface) (as_ : List Surface) (z : ElabFault) → Leads f (found_work e (waiting l w (applied_function a as_) ∷ vs) x) b i → Refuses bank z (λ n. form_of (at n e) l.context x.store x.kind >>= product_form) i j → Refuses bank z f b j
  function_refuses bank a as_ z h k =
      refuses_whole bank f (λ n. form_of (at n e) l.context x.store x.kind >>= product_form >>= (λ q. asked_work e (waiting l w (applied_argument x.term q.1 as_) ∷ vs) l x.store a (Some q.0) n)) b i j
      (leads_same f (found_work e (waiting l w (applied_function a as_) ∷ vs) x) (λ n. form_of (at n e) l.context x.store x.kind >>= product_form >>= (λ q. asked_work e (waiting l w (applied_argument x.term q.1 as_) ∷ vs) l x.store a (Some q.0) n)) b i
      (function_work e vs l w a as_ x) h) z
      (refuses_first bank (λ n. form_of (at n e) l.context x.store x.kind >>= product_form) (λ q n. asked_work e (waiting l w (applied_argument x.term q.1 as_) ∷ vs) l x.store a (Some q.0) n) i j z k)
