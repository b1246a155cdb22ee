-- Worked rows of runs: each is computed, and stands here as it was worked out by hand.
use Rattle.std.specs.Prelude.{◌≡◌, ℕ, true, false, eqb, refl}
use Rattle.lq_runs.specs.Runs.{Run, Runs, tick, say, fail, cut, yield, none, more, resume, plus, bind, once, branch, lower, sole, part, said, success, end, steps_out, enough, outcomes}
use Rattle.lq_runs.proofs.Opening.{runs}

-- messages, causes, states and values are numbers
abbrev Numbered : Type 0
Numbered = Run ℕ ℕ ℕ ℕ

-- a success with a value, in state 0
abbrev ok : ℕ → Numbered
ok v = yield 0 v none

-- two alternatives
abbrev two : Runs ℕ ℕ ℕ ℕ
two = more (ok 2) (more (ok 3) none)

-- five successes
abbrev five : Numbered
five = yield 0 1 (more (ok 2) (more (ok 3) (more (ok 4) (more (ok 5) none))))

-- fails at that level, with cause 7, with the value 1, and gives every other one
abbrev but_one : ℕ → ℕ → ℕ → Numbered
but_one k s v = elim (eqb v 1) [ true ↦ fail k 7 | false ↦ ok v ]

-- a demand of level k skips k alternatives and takes the next one
skips_0 : resume two 0 9 ≡ yield 0 2 (more (ok 3) none)
unfolding runs
skips_0 = refl

skips_1 : resume two 1 9 ≡ ok 3
unfolding runs
skips_1 = refl

-- where fewer are left, the failure loses one level for each
skips_2 : resume two 2 9 ≡ fail 0 9
unfolding runs
skips_2 = refl

skips_3 : resume two 3 9 ≡ fail 1 9
unfolding runs
skips_3 = refl

-- an alternative that fails itself skips on among those behind it
skips_on : resume (more (fail 1 7) (more (ok 2) (more (ok 3) none))) 0 9 ≡ ok 3
unfolding runs
skips_on = refl

-- (1 + 2) + 3 has two alternatives behind 1: a failure of level 1 takes the second of them
left_0 : bind (plus (plus (ok 1) (ok 2)) (ok 3)) (but_one 0) ≡ yield 0 2 (more (ok 3) none)
unfolding runs
left_0 = refl

left_1 : bind (plus (plus (ok 1) (ok 2)) (ok 3)) (but_one 1) ≡ ok 3
unfolding runs
left_1 = refl

left_2 : bind (plus (plus (ok 1) (ok 2)) (ok 3)) (but_one 2) ≡ fail 0 7
unfolding runs
left_2 = refl

-- 1 + (2 + 3) has one: a failure of level 1 skips it
right_1 : bind (plus (ok 1) (plus (ok 2) (ok 3))) (but_one 1) ≡ fail 0 7
unfolding runs
right_1 = refl

-- before its first success a test that fails at level 0 calls for the other side, and at a higher one it fails with a level less
branch_0 : branch (fail 0 7) (λ s v. ok v) (ok 5) ≡ ok 5
unfolding runs
branch_0 = refl

branch_1 : branch (fail 1 7) (λ s v. ok v) (ok 5) ≡ fail 0 7
unfolding runs
branch_1 = refl

branch_2 : branch (fail 2 7) (λ s v. ok v) (ok 5) ≡ fail 1 7
unfolding runs
branch_2 = refl

-- after it a failure goes to the test's next success, and never to the other side
branch_after : branch (ok 1) (but_one 0) (ok 5) ≡ fail 0 7
unfolding runs
branch_after = refl

branch_next : branch (plus (ok 1) (ok 2)) (but_one 0) (ok 5) ≡ ok 2
unfolding runs
branch_next = refl

branch_past : branch (plus (ok 1) (ok 2)) (but_one 1) (ok 5) ≡ fail 0 7
unfolding runs
branch_past = refl

-- the first success alone, and a failure as it is
once_first : outcomes 9 5 10 (once five) ≡ success 0 1 (end 0 9)
unfolding runs
once_first = refl

once_fails : once {M = ℕ} {C = ℕ} {S = ℕ} {V = ℕ} (fail 2 7) ≡ fail 2 7
unfolding runs
once_fails = refl

-- before the first success a failure loses a level, and after it none
lower_0 : lower {M = ℕ} {C = ℕ} {S = ℕ} {V = ℕ} (fail 0 7) ≡ fail 0 7
unfolding runs
lower_0 = refl

lower_1 : lower {M = ℕ} {C = ℕ} {S = ℕ} {V = ℕ} (fail 1 7) ≡ fail 0 7
unfolding runs
lower_1 = refl

lower_2 : lower {M = ℕ} {C = ℕ} {S = ℕ} {V = ℕ} (fail 2 7) ≡ fail 1 7
unfolding runs
lower_2 = refl

lower_after : outcomes 9 2 0 (lower (plus (ok 1) (fail 2 7))) ≡ success 0 1 (end 2 7)
unfolding runs
lower_after = refl

-- a success is kept where the look for a second one fails, at whatever level; what the look pays and says stays
sole_one : sole 8 (ok 1) ≡ ok 1
unfolding runs
sole_one = refl

sole_two : sole 8 (plus (ok 1) (ok 2)) ≡ fail 0 8
unfolding runs
sole_two = refl

sole_looked : sole 8 (plus (ok 1) (tick (say 4 (fail 2 7)))) ≡ tick (say 4 (ok 1))
unfolding runs
sole_looked = refl

sole_fails : sole {M = ℕ} {C = ℕ} {S = ℕ} {V = ℕ} 8 (fail 1 7) ≡ fail 1 7
unfolding runs
sole_fails = refl

-- messages stand in their order, and a budget of one tick less ends before the tick that it lacks
paid : outcomes 9 1 2 (say 3 (tick (say 4 (tick (ok 1))))) ≡ said 3 (said 4 (success 0 1 enough))
unfolding runs
paid = refl

unpaid : outcomes 9 1 1 (say 3 (tick (say 4 (tick (ok 1))))) ≡ said 3 (said 4 steps_out)
unfolding runs
unpaid = refl

-- what a later alternative pays and says comes when it is asked for, and no earlier
unasked : outcomes 9 1 0 (plus (ok 1) (say 4 (tick (ok 2)))) ≡ success 0 1 enough
unfolding runs
unasked = refl

asked_unpaid : outcomes 9 2 0 (plus (ok 1) (say 4 (tick (ok 2)))) ≡ success 0 1 (said 4 steps_out)
unfolding runs
asked_unpaid = refl

asked_paid : outcomes 9 2 1 (plus (ok 1) (say 4 (tick (ok 2)))) ≡ success 0 1 (said 4 (success 0 2 enough))
unfolding runs
asked_paid = refl

-- three successes of five, and more than there are
three : outcomes 9 3 0 five ≡ success 0 1 (success 0 2 (success 0 3 enough))
unfolding runs
three = refl

six : outcomes 9 6 0 five ≡ success 0 1 (success 0 2 (success 0 3 (success 0 4 (success 0 5 (end 0 9)))))
unfolding runs
six = refl

-- a part is cut before the tick that its budget lacks, its alternatives at what is left
cut_before : part 1 (tick (yield 0 1 (more (tick (ok 2)) none))) ≡ tick (yield 0 1 (more cut none))
unfolding runs
cut_before = refl
