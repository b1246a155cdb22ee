-- The step of a node, under a budget of which a tick was taken.
use Rattle.std.proofs.Common.{◌≡◌, ◌+◌, ℕ, suc, List, [], ◌∷◌, refl, ◌∙◌, ap, arith}
use Rattle.lq_runs.specs.Runs.{yield, none}
use Rattle.lq_runs.specs.Machines.{gives, out, hearing, first}
use Rattle.lq_stream_rows.specs.declared.program.Node.{Node}
use Rattle.lq_stream_rows.specs.declared.program.Code.{Code}
use Rattle.lq_stream_rows.specs.Acting.{called, said, set_by, saying, step_of}

said_first : {C S V : Type 0} (b : ℕ) (ms : List ℕ) (s : S) (v : V) → first {C = C} b (saying ms (yield s v none)) ≡ gives b ms s v none
unfolding first hearing
said_first b [] s v = refl
said_first b (m ∷ ms) s v = ap (hearing m) (said_first b ms s v)

pub stepped : (x : Node) (c : Code) (s left left2 : ℕ) → left ≡ left2 + 1 → first left (step_of x c s) ≡ gives left2 (said x) (set_by x s) (called x c s) none
unfolding first
stepped x c s left left2 e =
    let i : left ≡ suc left2 = omega arith in
    ap (λ z. first z (step_of x c s)) i ∙ said_first left2 (said x) (set_by x s) (called x c s)

-- no tick is left
pub stopped : (x : Node) (c : Code) (s left : ℕ) → left ≡ 0 → first left (step_of x c s) ≡ out []
unfolding first
stopped x c s left e = ap (λ z. first z (step_of x c s)) e
