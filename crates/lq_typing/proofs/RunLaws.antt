-- Turn by turn to the type of the term.
use Rattle.std.proofs.Common.{◌≡◌, ℕ, sym, List, [], Option, Result, Ok, Err}
use Rattle.std.proofs.Common.{subst as along}
use Rattle.std.specs.Result.{IsErrAnd}
use Rattle.lq_trees.specs.Tree.{Tree}
use Rattle.lq_trees.specs.Ticks.{done, failed, steps_out}
use Rattle.lq_terms.specs.declared.nodes.Hypothesis.{Hypothesis}
use Rattle.lq_terms.specs.declared.nodes.TermId.{TermId}
use Rattle.lq_terms.specs.Terms.{Terms, HasTerm, tree_of}
use Rattle.lq_terms.specs.Contexts.{HasContext, context_of}
use Rattle.lq_calculus.specs.Declarations.{Env as Environment}
use Rattle.lq_calculus.specs.Checking.{Kernel}
use Rattle.lq_solving.specs.Claims.{ArePlainDeclarations}
use Rattle.lq_solving.specs.Stores.{read, read_context}
use Rattle.lq_solving.specs.Inference.{by_store_types, infer_open}
use Rattle.lq_solving.specs.Kept.{IsContext, IsStore, StandsIn}
use Rattle.lq_evars.specs.Places.{Places, store_of}
use Rattle.lq_kernel.specs.declared.faults.KernelFault.{KernelFault}
use Rattle.lq_kernel.specs.Answers.{Refuses}
use Rattle.lq_kernel.proofs.Goes.{refuses_by}
use Rattle.lq_typing.specs.declared.waiting.Frame.{Frame}
use Rattle.lq_typing.specs.declared.waiting.Turn.{Turn}
use Rattle.lq_typing.specs.Typing.{Leads}
use Rattle.lq_typing.specs.Frames.{turn_work, IsTurn, IsFound, term_of}
use Rattle.lq_typing.specs.Going.{GoesOn}
use Rattle.lq_typing.specs.Kinds.{IsKind, Comes}
use Rattle.lq_typing.proofs.TypingLaws.{begun, ended}
use Rattle.lq_typing.proofs.EndLaws.{found_typed}

-- ---- the first turn

pub first_turn : (bank : Terms) (p : Places) (hs ks : List Hypothesis) (fs : List Frame) (t : TermId) → ks ≡ hs → fs ≡ [] → IsTurn bank p hs [] (Turn.Ask t) → IsTurn bank p ks fs (Turn.Ask t)
first_turn bank p hs ks fs t e f h = along (λ z. IsTurn bank p z fs (Turn.Ask t)) (sym e) (along (λ z. IsTurn bank p hs z (Turn.Ask t)) (sym f) h)

pub begin_turn : (bank : Terms) (p : Places) (hs ks : List Hypothesis) (t : TermId) → ks ≡ hs → HasContext bank hs → IsContext (store_of bank p) (context_of bank hs) → HasTerm bank t → StandsIn (store_of bank p) (context_of bank hs) (tree_of bank t) →
    IsTurn bank p ks [] (Turn.Ask t)
begin_turn bank p hs ks t e c i h k = along (λ z. IsTurn bank p z [] (Turn.Ask t)) (sym e) (record { context = c; frames = tt; stands = (h, record { context = i; term = k; parts = tt }) })

-- what is returned where a call was refused
pub comes_out : (bank : Terms) (r : Result TermId KernelFault) (e : KernelFault) (f : ℕ → Kernel Tree) (b l : ℕ) → IsErrAnd r (λ y. y ≡ e) → Refuses bank e f b l → Comes bank r f b l
comes_out bank (Ok t) e f b l h q = absurd h
comes_out bank (Err y) e f b l h q = along (λ z. Refuses bank z f b l) (sym h) q

-- ---- further turns

module _ (f : ℕ → Kernel Tree) (b c : ℕ) where
  pub goes_further : (bank : Terms) (p : Places) (E : Environment) (hs : List Hypothesis) (fs : List Frame) (last : Turn) (r : Result (Option Turn) KernelFault) (g : ℕ → Kernel Tree) (left : ℕ) → Leads f g b c → GoesOn bank p E hs fs last r g c left →
      GoesOn bank p E hs fs last r f b left
  goes_further bank p E hs fs last (Ok o) g left l h = (h.0, λ x k. l x (h.1 x k))
  goes_further bank p E hs fs last (Err e) g left l h = refuses_by bank e g c f b left (λ x. l (failed x left)) (l steps_out) h

  pub further : (now new : Terms) (p : Places) (D E : Environment) (hs : List Hypothesis) (fs : List Frame) (turn : Turn) (ks : List Hypothesis) (ps : List Frame) (r : Result (Option Turn) KernelFault) (left : ℕ) → D ≡ E →
      Leads f (turn_work now p E hs fs turn) b c → GoesOn new p D ks ps turn r (turn_work now p D hs fs turn) c left → GoesOn new p E ks ps turn r f b left
  further now new p D E hs fs turn ks ps r left e l h =
      goes_further new p E ks ps turn r (turn_work now p E hs fs turn) left l (along (λ z. GoesOn new p z ks ps turn r (turn_work now p z hs fs turn) c left) e h)

  -- ---- the last

  pub last_comes : (bank : Terms) (p : Places) (E : Environment) (hs : List Hypothesis) (fs : List Frame) (turn : Turn) → fs ≡ [] → IsFound turn → IsTurn bank p hs fs turn → Leads f (turn_work bank p E hs fs turn) b c → Comes bank (Ok (term_of turn)) f b c
  last_comes bank p E hs fs (Turn.Ask t) e a h l = absurd a
  last_comes bank p E hs fs (Turn.Found t) e a h l = (
    h.stands.0,
    h.stands.1.fits,
    along (λ z. Leads f (turn_work bank p E hs z (Turn.Found t)) b c) e l (done (tree_of bank t) c) (ended (by_store_types (store_of bank p)) E (read_context (store_of bank p) (context_of bank hs)) (tree_of bank t) c),
  )

-- ---- the call

module _ (bank : Terms) (p : Places) (E : Environment) (hs : List Hypothesis) (t : TermId) where
  -- what the definition does
  abbrev whole : ℕ → Kernel Tree
  whole n = infer_open E n (store_of bank p) (context_of bank hs) (tree_of bank t)

  pub call_comes : (new : Terms) (r : Result TermId KernelFault) (fs : List Frame) (ks : List Hypothesis) (b left : ℕ) → fs ≡ [] → ks ≡ hs → Comes new r (turn_work bank p E ks fs (Turn.Ask t)) b left → Comes new r whole b left
  unfolding infer_open
  call_comes new r fs ks b left e k h =
      leads_to new r (turn_work bank p E hs [] (Turn.Ask t)) whole b left (begun (by_store_types (store_of bank p)) E (read_context (store_of bank p) (context_of bank hs)) (read (store_of bank p) (tree_of bank t)) b)
      (along (λ z. Comes new r (turn_work bank p E z [] (Turn.Ask t)) b left) k (along (λ z. Comes new r (turn_work bank p E ks z (Turn.Ask t)) b left) e h))
    where
      leads_to : (new : Terms) (r : Result TermId KernelFault) (g f : ℕ → Kernel Tree) (b left : ℕ) → Leads f g b b → Comes new r g b left → Comes new r f b left
      leads_to new (Ok u) g f b left l h = (h.0, h.1, l (done (tree_of new u) left) h.2)
      leads_to new (Err e) g f b left l h = refuses_by new e g b f b left (λ x. l (failed x left)) (l steps_out) h

  pub call_stands : IsStore (store_of bank p) → ArePlainDeclarations E → IsContext (store_of bank p) (context_of bank hs) → StandsIn (store_of bank p) (context_of bank hs) (tree_of bank t) → (new : Terms) (u : TermId) (b left : ℕ) → Comes new (Ok u) whole b left →
      IsKind new (store_of bank p) (context_of bank hs) u
  unfolding infer_open
  call_stands i plain c k new u b left h =
      let typed = found_typed (store_of bank p) i E plain [] (context_of bank hs) (tree_of bank t) (tree_of new u) b left h.2 (record { context = c; term = k; parts = tt }) h.1 in
      record { has = h.0; stands = typed.kind; reads = typed.reads }
