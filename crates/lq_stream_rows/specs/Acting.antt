-- What the machine over numbers does.
use Rattle.std.specs.Prelude.{◌≡◌, ◌<◌, ◌+◌, ℕ, cond, nat_eq, nat_lt, List, [], ◌∷◌, Option, Some, None, slice_get, refl}
use Rattle.std.proofs.Common.{le_refl, ◌∙◌, ap}
use Rattle.lq_runs.specs.Runs.{Run, tick, say, yield, none}
use Rattle.lq_runs.specs.Machines as Machines
use Rattle.lq_stream.specs.Stepping.{Telling, Knowing, StaysKnown, ToldAlike}
use Rattle.lq_stream_rows.specs.declared.program.Node.{Node}
use Rattle.lq_stream_rows.specs.declared.program.Node.TheVariants.{Give, Fail, Unless, Say, Set, State, Plus, Bind, Branch, Once, Sole, Lower, Times, Nest}
use Rattle.lq_stream_rows.specs.declared.program.Code.{Code}

abbrev Called : Type 0
Called = Machines.Move Code Code ℕ ℕ

-- a node from the start
abbrev pub start : ℕ → Code
start a = record { node = a; done = 0; value = 0 }

-- a node once more
abbrev pub again : Code → Code
again c = record { node = c.node; done = c.done + 1; value = 0 }

-- what a node calls for, in a state
abbrev pub called : Node → Code → ℕ → Called
called (Give n) c s = Machines.Give n
called (Fail k n) c s = Machines.Fail k n
called (Unless n k) c s = cond (nat_eq c.value n) (Machines.Fail k 7) (Machines.Give c.value)
called (Say n) c s = Machines.Give n
called (Set n) c s = Machines.Give n
called State c s = Machines.Give s
called (Plus x y) c s = Machines.Plus (start x) (start y)
called (Bind x y) c s = Machines.Bind (start x) (start y)
called (Branch x y z) c s = Machines.Branch (start x) (start y) (start z)
called (Once x) c s = Machines.Once (start x)
called (Sole x) c s = Machines.Sole (start x) 8
called (Lower x) c s = Machines.Lower (start x)
called (Times n x) c s = cond (nat_lt c.done n) (Machines.Bind (start x) (again c)) (Machines.Give c.done)
called (Nest n x) c s = cond (nat_lt c.done n) (Machines.Branch (again c) (start x) (start x)) (Machines.Once (start x))

-- the messages of a node
abbrev pub said : Node → List ℕ
said (Say n) = n ∷ []
said _ = []

-- the state behind a node
abbrev pub set_by : Node → ℕ → ℕ
set_by (Set n) s = n
set_by _ s = s

-- messages before a run
abbrev pub saying : {C S V : Type 0} → List ℕ → Run ℕ C S V → Run ℕ C S V
saying [] r = r
saying (m ∷ ms) r = say m (saying ms r)

-- the node at a place; there is none behind the last one
abbrev pub node_at : List Node → ℕ → Node
node_at nodes place = node_or (slice_get nodes place)
  where
    node_or : Option Node → Node
    node_or None = Give 0
    node_or (Some x) = x

-- the step of a node
abbrev pub step_of : Node → Code → ℕ → Run ℕ ℕ ℕ Called
step_of x c s = tick (saying (said x) (yield (set_by x s) (called x c s) none))

-- what a program's machine does: each step pays a tick, and a rest goes on with its value
abbrev pub acts : List Node → Machines.Does ℕ ℕ ℕ ℕ Code Code
acts nodes = record { steps = λ n c s. step_of (node_at nodes c.node) c s; enters = λ r v. record { node = r.node; done = r.done; value = v } }

-- codes, rests, values, causes and marks stand for themselves
abbrev pub themselves : Telling Code Code ℕ ℕ ℕ Code Code ℕ ℕ ℕ
themselves = record { code = λ c. c; rest = λ r. r; value = λ v. v; cause = λ c. c; marked = λ k. k }

-- and each is known
abbrev pub everything : Knowing Code Code ℕ ℕ ℕ
everything = record { code = λ c. Unit {0}; rest = λ r. Unit {0}; value = λ v. Unit {0}; cause = λ c. Unit {0}; mark = λ k. Unit {0} }

abbrev pub code_rank : Code → ℕ
code_rank c = 0

abbrev pub rest_rank : Code → ℕ
rest_rank r = 1

plain : (C : Type 0) {S V : Type 0} (ms : List ℕ) (s : S) (v : V) → Machines.IsPlain (saying {C = C} ms (yield s v none))
plain C [] s v = tt
plain C (m ∷ ms) s v = plain C ms s v

pub lawful : (nodes : List Node) → Machines.IsLawful (acts nodes) code_rank rest_rank
lawful nodes = record {
  steady = λ b n m h i c s. refl;
  plain = λ n c s. plain ℕ (said (node_at nodes c.node)) (set_by (node_at nodes c.node) s) (called (node_at nodes c.node) c s);
  falls = λ n c s. tt;
  enters_falls = λ r v. below;
}
  where
    below : 0 < 1
    below = le_refl 1

pub later_on : (a b c : List Node) → b ≡ a → c ≡ b → c ≡ a
later_on a b c h i = i ∙ h

pub same_acts : (a b : List Node) → b ≡ a → acts b ≡ acts a
same_acts a b h = ap acts h

pub all_known : StaysKnown everything everything
all_known = record { code = λ x p. tt; rest = λ x p. tt; value = λ x p. tt; cause = λ x p. tt; mark = λ x p. tt }

pub all_alike : ToldAlike everything themselves themselves
all_alike = record { code = λ x p. refl; rest = λ x p. refl; value = λ x p. refl; cause = λ x p. refl; marked = λ x p. refl }
