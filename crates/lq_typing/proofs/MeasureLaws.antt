-- Each turn makes a number fall: four for each tick that is left, one for each frame that waits, and one where a type was found.
use Rattle.std.proofs.Common.{◌≡◌, ◌≤◌, ◌<◌, ◌+◌, ◌*◌, ℕ, sym, arith, List, ◌∷◌, length, Result, Ok, Err}
use Rattle.std.proofs.Common.{subst as along}
use Rattle.std.specs.Prelude.{IfOk, OnOk}
use Rattle.lq_trees.specs.declared.Sort.{Sort as Universe}
use Rattle.lq_trees.specs.Tree.{Tree}
use Rattle.lq_terms.specs.declared.nodes.Hypothesis.{Hypothesis}
use Rattle.lq_terms.specs.declared.nodes.NameId.{NameId}
use Rattle.lq_terms.specs.declared.nodes.TermId.{TermId}
use Rattle.lq_terms.specs.Terms.{Terms}
use Rattle.lq_calculus.specs.Checking.{Kernel}
use Rattle.lq_kernel.specs.declared.faults.KernelFault.{KernelFault}
use Rattle.lq_kernel.specs.Answers.{Checks}
use Rattle.lq_kernel.specs.Steps.{Sorts}
use Rattle.lq_kernel.proofs.DomainLaws.{falls}
use Rattle.lq_solving.specs.Stores.{Store}
use Rattle.lq_trees.specs.Tree.{Context}
use Rattle.lq_typing.specs.declared.waiting.Frame.{Frame}
use Rattle.lq_typing.specs.declared.waiting.Turn.{Turn}
use Rattle.lq_typing.specs.declared.waiting.Under.{Under}
use Rattle.lq_typing.specs.Frames.{due}
use Rattle.lq_typing.specs.Going.{Pays, turn_found}
use Rattle.lq_typing.specs.Kinds.{Splits}
use Rattle.lq_typing.specs.Entering.{IsEntered, frame_under}

-- ---- ticks

pub checks_fewer : (bank : Terms) (r : Result (Unit {0}) KernelFault) (f : ℕ → Kernel (Unit {0})) (b left : ℕ) → Checks bank r f b left → OnOk r (left ≤ b)
checks_fewer bank (Ok u) f b left h = falls f b tt left h
checks_fewer bank (Err e) f b left h = tt

pub sorts_fewer : (bank : Terms) (r : Result Universe KernelFault) (f : ℕ → Kernel Universe) (b left : ℕ) → Sorts bank r f b left → OnOk r (left ≤ b)
sorts_fewer bank (Ok u) f b left h = falls f b u left h
sorts_fewer bank (Err e) f b left h = tt

-- ---- turns

pub entered_falls : (old new : Terms) (hs ks : List Hypothesis) (fs ps : List Frame) (u : Under) (x : NameId) (A B : TermId) (t : Turn) → IsEntered old new hs ks fs ps u x A B t → length ps + due t < 2 + length fs
entered_falls old new hs ks fs ps u x A B t e =
    along (λ z. length z + due t < 2 + length fs) (sym e.frames) (along (λ z. length (frame_under u x e.name A ∷ fs) + due z < 2 + length fs) (sym e.asks) (omega arith))

pub found_falls : (r : Result TermId KernelFault) (q : Result Turn KernelFault) (fs : List Frame) → q ≡ turn_found r → IfOk q (λ t. length fs + due t < 2 + length fs)
found_falls r q fs e = along (λ z. IfOk z (λ t. length fs + due t < 2 + length fs)) (sym e) (by r)
  where
    by : (r : Result TermId KernelFault) → IfOk (turn_found r) (λ t. length fs + due t < 2 + length fs)
    by (Ok t) = omega arith
    by (Err e) = tt

pub paid_falls : (r : Result Turn KernelFault) (f : Frame) (a : TermId) (fs ps : List Frame) (b l : ℕ) → Pays r f a fs ps b l → IfOk r (λ t. 4 * l + length ps + due t < 4 * b + length fs)
paid_falls (Ok t) f a fs ps b l h =
    along (λ z. 4 * l + length z + due t < 4 * b + length fs) (sym h.1) (along (λ z. 4 * l + length (f ∷ fs) + due z < 4 * b + length fs) (sym h.0) (let e = h.2 in omega (arith, e)))
paid_falls (Err e) f a fs ps b l h = tt

pub single_falls : (r : Result TermId KernelFault) (q : Result Turn KernelFault) (fs : List Frame) (b l : ℕ) → q ≡ turn_found r → IfOk r (λ u. l < b) → IfOk q (λ t. 4 * l + length fs + due t < 4 * b + length fs)
single_falls r q fs b l e h = along (λ z. IfOk z (λ t. 4 * l + length fs + due t < 4 * b + length fs)) (sym e) (by r h)
  where
    by : (r : Result TermId KernelFault) → IfOk r (λ u. l < b) → IfOk (turn_found r) (λ t. 4 * l + length fs + due t < 4 * b + length fs)
    by (Ok t) h = omega (arith, h)
    by (Err e) h = tt

pub splits_fewer : (bank : Terms) (r : Result (TermId × TermId) KernelFault) (s : Store) (g : Context) (f : ℕ → Kernel (Tree × Tree)) (b left : ℕ) → Splits bank r s g f b left → OnOk r (left ≤ b)
splits_fewer bank (Ok u) s g f b left h = falls f b _ left h.2
splits_fewer bank (Err e) s g f b left h = tt
