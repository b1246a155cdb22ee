-- Runs: what comes of an Ltac expression (Rocq reference manual, chapter "Ltac"), as finite trees.
use Rattle.std.specs.Prelude.{ℕ, zero, suc, pred}

-- a run: ticks and messages, and then a failure with a level and a cause, a cut, or a success with a state, a value and
-- the alternatives that are pending; M, C, S and V are the messages, causes, states and values
mutual
  pub data Run (M C S V : Type 0) : Type 0 where
    tick : Run M C S V → Run M C S V
    say : M → Run M C S V → Run M C S V
    fail : ℕ → C → Run M C S V
    cut : Run M C S V
    yield : S → V → Runs M C S V → Run M C S V

  -- a list of alternatives
  pub data Runs (M C S V : Type 0) : Type 0 where
    none : Runs M C S V
    more : Run M C S V → Runs M C S V → Runs M C S V

-- one list of alternatives behind another
unfoldable pub join : {M C S V : Type 0} → Runs M C S V → Runs M C S V → Runs M C S V
join none bs = bs
join (more a as1) bs = more a (join as1 bs)

-- the events of a run, and then what its ending calls for; a cut stays
unfoldable pub ended : {M C S V W : Type 0} → (ℕ → C → Run M C S W) → (S → V → Runs M C S V → Run M C S W) → Run M C S V → Run M C S W
ended f y (tick r) = tick (ended f y r)
ended f y (say m r) = say m (ended f y r)
ended f y (fail k c) = f k c
ended f y cut = cut
ended f y (yield s v as1) = y s v as1

-- what a later failure of level k does: k alternatives are skipped, and the next one is taken over those behind it;
-- where fewer are left, the failure loses one level for each
unfoldable pub resume : {M C S V : Type 0} → Runs M C S V → ℕ → C → Run M C S V
resume none k c = fail k c
resume (more a as1) (suc k) c = resume as1 k c
resume (more a as1) zero c = ended (resume as1) (λ s v bs. yield s v (join bs as1)) a

-- a run over alternatives that stand behind it: a success keeps them behind its own, a failure goes on with them
unfoldable pub over : {M C S V : Type 0} → Run M C S V → Runs M C S V → Run M C S V
over r as1 = ended (resume as1) (λ s v bs. yield s v (join bs as1)) r

-- two runs, the second as one alternative behind those of the first
abbrev pub plus : {M C S V : Type 0} → Run M C S V → Run M C S V → Run M C S V
plus r s = over r (more s none)

unfoldable mutual
  -- each success of a run, followed by what its state and value call for
  pub bind : {M C S V W : Type 0} → Run M C S V → (S → V → Run M C S W) → Run M C S W
  bind (tick r) f = tick (bind r f)
  bind (say m r) f = say m (bind r f)
  bind (fail k c) f = fail k c
  bind cut f = cut
  bind (yield s v as1) f = over (f s v) (bind_all as1 f)

  -- the same of each of the alternatives
  pub bind_all : {M C S V W : Type 0} → Runs M C S V → (S → V → Run M C S W) → Runs M C S W
  bind_all none f = none
  bind_all (more a as1) f = more (bind a f) (bind_all as1 f)

-- the first success alone
unfoldable pub once : {M C S V : Type 0} → Run M C S V → Run M C S V
once r = ended fail (λ s v as1. yield s v none) r

-- a failure with one level less
abbrev pub lowered : {M C S V : Type 0} → ℕ → C → Run M C S V
lowered k c = fail (pred k) c

-- a failure that a construct with an `otherwise` meets before its first success: at level 0 the other branch
unfoldable pub caught : {M C S V : Type 0} → Run M C S V → ℕ → C → Run M C S V
caught o zero c = o
caught o (suc k) c = fail k c

-- where the test has a success, each success followed by what it calls for, and never the other branch
unfoldable pub branch : {M C S V W : Type 0} → Run M C S V → (S → V → Run M C S W) → Run M C S W → Run M C S W
branch r f o = ended (caught o) (λ s v as1. over (f s v) (bind_all as1 f)) r

-- a failure of level above 0 before the first success loses one level
unfoldable pub lower : {M C S V : Type 0} → Run M C S V → Run M C S V
lower r = ended lowered yield r

-- a success is kept where looking for a second one fails; `c` is the cause where a second one is found
unfoldable pub sole : {M C S V : Type 0} → C → Run M C S V → Run M C S V
sole c r = ended fail (λ s v as1. ended (λ k d. yield s v none) (λ s2 v2 as2. fail zero c) (resume as1 zero c)) r

unfoldable mutual
  -- a run before tick number b + 1; where there is such a tick it is cut there
  pub part : {M C S V : Type 0} → ℕ → Run M C S V → Run M C S V
  part zero (tick r) = cut
  part (suc b) (tick r) = tick (part b r)
  part b (say m r) = say m (part b r)
  part b (fail k c) = fail k c
  part b cut = cut
  part b (yield s v as1) = yield s v (part_all b as1)

  -- each of the alternatives before tick number b + 1
  pub part_all : {M C S V : Type 0} → ℕ → Runs M C S V → Runs M C S V
  part_all b none = none
  part_all b (more a as1) = more (part b a) (part_all b as1)

-- the successes of a run, each resumed at level 0, within a budget of ticks in all, with the messages where they come
pub data Outcomes (M C S V : Type 0) : Type 0 where
  said : M → Outcomes M C S V → Outcomes M C S V
  success : S → V → Outcomes M C S V → Outcomes M C S V
  end : ℕ → C → Outcomes M C S V
  steps_out : Outcomes M C S V
  enough : Outcomes M C S V

-- what comes of a run under a budget: `then` says what follows a success, by its alternatives and the ticks that are left
unfoldable pub reached : {M C S V : Type 0} → (Runs M C S V → ℕ → Outcomes M C S V) → ℕ → Run M C S V → Outcomes M C S V
reached next zero (tick r) = steps_out
reached next (suc b) (tick r) = reached next b r
reached next b (say m r) = said m (reached next b r)
reached next b (fail k c) = end k c
reached next b cut = steps_out
reached next b (yield s v as1) = success s v (next as1 b)

-- the first n outcomes of a run under a budget; `c` is the cause with which the next success is asked for
unfoldable pub outcomes : {M C S V : Type 0} → C → ℕ → ℕ → Run M C S V → Outcomes M C S V
outcomes c zero b r = enough
outcomes c (suc n) b r = reached (λ as1 left. outcomes c n left (resume as1 zero c)) b r
