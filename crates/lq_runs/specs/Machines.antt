-- Abstract machines, and the runs that they stand for.
use Rattle.std.specs.Prelude.{◌≡◌, ◌≤◌, ◌<◌, ℕ, zero, suc, List, [], ◌∷◌}
use Rattle.lq_runs.specs.Runs.{Run, Runs, tick, say, fail, cut, yield, none, more, plus, bind, once, branch, lower, sole, part, part_all}

-- what a step of a machine calls for: A, R, V and C are its codes, rests, values and causes
pub data Move (A R V C : Type 0) : Type 0 where
  Give : V → Move A R V C
  Fail : ℕ → C → Move A R V C
  Plus : A → A → Move A R V C
  Bind : A → R → Move A R V C
  Branch : A → R → A → Move A R V C
  Once : A → Move A R V C
  Sole : A → C → Move A R V C
  Lower : A → Move A R V C

-- what a machine does: the step of a code in a state, as ticks and messages before a move and a new state, where a number
-- bounds the work and cuts it; and the code with which a rest goes on with a value
pub record Does (M C S V A R : Type 0) : Type 0 where
  pub steps : ℕ → A → S → Run M C S (Move A R V C)
  pub enters : R → V → A

-- the run of a move, by the run of a code in a state
unfoldable pub row : {M C S V A R : Type 0} → (R → V → A) → (A → S → Run M C S V) → S → Move A R V C → Run M C S V
row enters go s (Give v) = yield s v none
row enters go s (Fail k c) = fail k c
row enters go s (Plus a b) = plus (go a s) (go b s)
row enters go s (Bind a r) = bind (go a s) (λ t v. go (enters r v) t)
row enters go s (Branch a r b) = branch (go a s) (λ t v. go (enters r v) t) (go b s)
row enters go s (Once a) = once (go a s)
row enters go s (Sole a c) = sole c (go a s)
row enters go s (Lower a) = lower (go a s)

-- the run of a code in a state, cut after n steps one inside the other
unfoldable pub tree : {M C S V A R : Type 0} → Does M C S V A R → ℕ → A → S → Run M C S V
tree d zero a s = cut
tree d (suc n) a s = bind (d.steps n a s) (row d.enters (tree d n))

-- the step's run has one success at most, no failure, and nothing pending
abbrev pub IsPlain : {M C S V : Type 0} → Run M C S V → Type 0
IsPlain (tick r) = IsPlain r
IsPlain (say m r) = IsPlain r
IsPlain (fail k c) = ⊥
IsPlain cut = Unit {0}
IsPlain (yield s v none) = Unit {0}
IsPlain (yield s v (more a as1)) = ⊥

-- what a step without a tick may call for: parts of smaller rank, and no Plus
abbrev pub Falls : {A R V C : Type 0} → (A → ℕ) → (R → ℕ) → ℕ → Move A R V C → Type 0
Falls rank rest_rank n (Give v) = Unit {0}
Falls rank rest_rank n (Fail k c) = Unit {0}
Falls rank rest_rank n (Plus a b) = ⊥
Falls rank rest_rank n (Bind a r) = (rank a < n) × (rest_rank r < n)
Falls rank rest_rank n (Branch a r b) = (rank a < n) × (rest_rank r < n) × (rank b < n)
Falls rank rest_rank n (Once a) = rank a < n
Falls rank rest_rank n (Sole a c) = rank a < n
Falls rank rest_rank n (Lower a) = rank a < n

-- a run that comes to a success without a tick has there a value with that property; one that pays a tick first is free
abbrev pub BeforeTick : {M C S V : Type 0} → (V → Type 0) → Run M C S V → Type 0
BeforeTick P (tick r) = Unit {0}
BeforeTick P (say m r) = BeforeTick P r
BeforeTick P (fail k c) = Unit {0}
BeforeTick P cut = Unit {0}
BeforeTick P (yield s v as1) = P v

-- the laws of what a machine does
pub record IsLawful {M C S V A R : Type 0} (d : Does M C S V A R) (rank : A → ℕ) (rest_rank : R → ℕ) : Type 0 where
  -- the bound on the work of a step does not matter before its tick
  pub steady : (b n m : ℕ) → b ≤ n → b ≤ m → (a : A) (s : S) → part b (d.steps n a s) ≡ part b (d.steps m a s)
  pub plain : (n : ℕ) (a : A) (s : S) → IsPlain (d.steps n a s)
  -- a step without a tick comes down
  pub falls : (n : ℕ) (a : A) (s : S) → BeforeTick (Falls rank rest_rank (rank a)) (d.steps n a s)
  pub enters_falls : (r : R) (v : V) → rank (d.enters r v) < rest_rank r

-- what stands before the ending of a run under a budget: the messages, and a success with the ticks that are left, a
-- failure with the ticks that are left, or a spent budget
pub data First (M C S V : Type 0) : Type 0 where
  gives : ℕ → List M → S → V → Runs M C S V → First M C S V
  ends : ℕ → List M → ℕ → C → First M C S V
  out : List M → First M C S V

-- a message in front
unfoldable pub hearing : {M C S V : Type 0} → M → First M C S V → First M C S V
hearing m (gives left ms s v as1) = gives left (m ∷ ms) s v as1
hearing m (ends left ms k c) = ends left (m ∷ ms) k c
hearing m (out ms) = out (m ∷ ms)

-- the first ending of a run under a budget, with what stands before it
unfoldable pub first : {M C S V : Type 0} → ℕ → Run M C S V → First M C S V
first zero (tick r) = out []
first (suc b) (tick r) = first b r
first b (say m r) = hearing m (first b r)
first b (fail k c) = ends b [] k c
first b cut = out []
first b (yield s v as1) = gives b [] s v as1

-- messages in front
unfoldable pub heard : {M C S V : Type 0} → List M → First M C S V → First M C S V
heard [] f = f
heard (m ∷ ms) f = hearing m (heard ms f)

-- what is known of it under the budget: the alternatives are cut at the ticks that are left
abbrev pub parted : {M C S V : Type 0} → First M C S V → First M C S V
parted (gives left ms s v as1) = gives left ms s v (part_all left as1)
parted (ends left ms k c) = ends left ms k c
parted (out ms) = out ms

-- what is seen of a run under a budget
abbrev pub seen : {M C S V : Type 0} → ℕ → Run M C S V → First M C S V
seen b r = parted (first b r)

-- from some bound on
abbrev pub Lastly : (ℕ → Type 0) → Type 0
Lastly P = (least : ℕ) × ((n : ℕ) → least ≤ n → P n)
