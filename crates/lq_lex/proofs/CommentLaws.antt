-- A comment, character by character.
use Rattle.std.proofs.Common.{◌≡◌, ℕ, zero, suc, ◌+◌, ◌-◌, ◌<◌, ◌≤◌, Bool, true, false, refl, ap, arith, if◌then◌else◌}
use Rattle.lq_grammar.specs.declared.fault.LexFault.TheVariants.{BadChar, OpenComment}
use Rattle.lq_grammar.specs.Cells.{Cells}
use Rattle.lq_grammar.specs.Tokens.{bound, space, flaw, opens_comment, closes_comment, open_behind, half_behind, comment_from, comment_at}
use Rattle.lq_lex.specs.declared.view.View.{View}
use Rattle.lq_lex.specs.declared.view.Front.{Front}
use Rattle.lq_lex.specs.declared.view.Front.TheVariants.{Over, Broken, Beyond, Letter}
use Rattle.lq_lex.specs.Views.{from, Shows}

pub comment_begins : (v : View) (start at c next : ℕ) → Shows v at (Letter c next) → comment_at start (from v at) ≡ comment_from start 1 0 (from v next)
unfolding comment_at
comment_begins v start at c next shown = ap (comment_at start) shown.0

pub comment_cut : (v : View) (start at : ℕ) (f : Front) → Shows v at f → ((c next : ℕ) → f ≡ Letter c next → ⊥) → comment_at start (from v at) ≡ bound
unfolding comment_at
comment_cut v start at Over shown never = ap (comment_at start) shown
comment_cut v start at Broken shown never = ap (comment_at start) shown
comment_cut v start at (Beyond c) shown never = ap (comment_at start) shown
comment_cut v start at (Letter c next) shown never = absurd (never c next refl)

pub comment_goes : (v : View) (start depth half at c next : ℕ) → 0 < depth → Shows v at (Letter c next) →
    comment_from start depth half (from v at) ≡ comment_from start (open_behind depth half c) (half_behind half c) (from v next)
unfolding comment_from
comment_goes v start zero half at c next some shown = absurd (omega arith)
comment_goes v start (suc n) half at c next some shown = ap (comment_from start (suc n) half) shown.0

pub comment_over : (v : View) (start depth half at : ℕ) → 0 < depth → Shows v at Over → comment_from start depth half (from v at) ≡ flaw (OpenComment start)
unfolding comment_from
comment_over v start zero half at some shown = absurd (omega arith)
comment_over v start (suc n) half at some shown = ap (comment_from start (suc n) half) shown

pub comment_broken : (v : View) (start depth half at : ℕ) → 0 < depth → Shows v at Broken → comment_from start depth half (from v at) ≡ flaw (BadChar at)
unfolding comment_from
comment_broken v start zero half at some shown = absurd (omega arith)
comment_broken v start (suc n) half at some shown = ap (comment_from start (suc n) half) shown

pub comment_beyond : (v : View) (start depth half at c : ℕ) → 0 < depth → Shows v at (Beyond c) → comment_from start depth half (from v at) ≡ bound
unfolding comment_from
comment_beyond v start zero half at c some shown = absurd (omega arith)
comment_beyond v start (suc n) half at c some shown = ap (comment_from start (suc n) half) shown

pub comment_closed : (start depth half : ℕ) (cs : Cells) → depth ≡ 0 → comment_from start depth half cs ≡ space cs
unfolding comment_from
comment_closed start depth half cs e = rw e refl

pub depth_bounded : (depth c d : ℕ) → open_behind depth c d ≤ depth + 1
depth_bounded depth c d = step (opens_comment c d) (closes_comment c d) where
  step : (a b : Bool) → (if a then depth + 1 else if b then depth - 1 else depth) ≤ depth + 1
  step true b = omega arith
  step false true = omega arith
  step false false = omega arith
