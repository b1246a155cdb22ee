-- What comes next, and that it leads to the outcome of the call.
use Rattle.std.specs.Prelude.{◌≡◌, ℕ, Bool, true, false, List, ◌∷◌, Option, Some, None, Result, Ok, Err}
use Rattle.lq_trees.specs.Ticks.{done, steps_out, failed, ComesTo}
use Rattle.lq_trees.specs.Rules.{Rules}
use Rattle.lq_terms.specs.declared.nodes.Hypothesis.{Hypothesis}
use Rattle.lq_terms.specs.Terms.{Terms}
use Rattle.lq_trees.specs.Tree.{Tree, Context}
use Rattle.lq_solving.specs.Stores.{Store}
use Rattle.lq_solving.specs.Unification.{Unify, Answer, unify_too_large, unify_too_deep}
use Rattle.lq_solving.specs.Waiting.{Waiting, reducing}
use Rattle.lq_evars.specs.Places.{Places, store_of}
use Rattle.lq_unify.specs.declared.pairs.Pair.{Pair}
use Rattle.lq_unify.specs.declared.faults.UnifyFault.{UnifyFault}
use Rattle.lq_unify.specs.declared.frames.Frame.{Frame}
use Rattle.lq_unify.specs.declared.resuming.Next.{Next}
use Rattle.lq_unify.specs.Pairs.{HasPair}
use Rattle.lq_unify.specs.Standing.{SidesStand}
use Rattle.lq_unify.specs.Working.{IsAnswered, IsAsked, IsReducing}
use Rattle.lq_unify.specs.Frames.{sides_in, waits, IsWork, answer_of}

-- a pair lies in the bank, and stands in its context
pub record PairStands (bank : Terms) (s : Places) (hs : List Hypothesis) (p : Pair) : Type 0 where
  pub has : HasPair bank p
  pub stands : SidesStand (store_of bank s) (sides_in bank hs p)

-- what comes next does
abbrev pub NextStands : Terms → Places → List Hypothesis → Next → Type 0
NextStands bank s hs (Next.Ask p) = PairStands bank s hs p
NextStands bank s hs (Next.Reduce p) = PairStands bank s hs p
NextStands bank s hs (Next.Answer said) = Unit {0}

-- what is true before it
pub record IsNext (bank : Terms) (s : Places) (hs : List Hypothesis) (fs : List Frame) (n : Next) : Type 0 where
  pub work : IsWork bank s hs fs
  pub stands : NextStands bank s hs n

-- there is an answer
abbrev pub HasAnswer : Rules → (ℕ → Unify Answer) → (budget left : ℕ) → Terms → Places → List Hypothesis → List Frame → Bool → Type 0
HasAnswer r f budget left bank s hs fs said = IsAnswered r f budget left (store_of bank s) (waits bank s hs fs) (answer_of bank s said)

-- what comes next leads to the outcome
abbrev pub Goes : Rules → (ℕ → Unify Answer) → (budget left : ℕ) → Terms → Places → List Hypothesis → List Frame → Next → Type 0
Goes r f budget left bank s hs fs (Next.Ask p) = IsAsked r f budget left (store_of bank s) (waits bank s hs fs) (sides_in bank hs p)
Goes r f budget left bank s hs fs (Next.Reduce p) = IsReducing r f budget left (store_of bank s) (waits bank s hs fs) (sides_in bank hs p)
Goes r f budget left bank s hs fs (Next.Answer said) = HasAnswer r f budget left bank s hs fs said

-- how much of the turns it takes
abbrev pub due : Next → ℕ
due (Next.Ask p) = 0
due (Next.Reduce p) = 3
due (Next.Answer said) = 1

-- why there is no answer, as it is told where so many ticks are left. Memory may end at any time.
abbrev pub Stops : (ℕ → Unify Answer) → (budget left : ℕ) → UnifyFault → Type 0
Stops f budget left UnifyFault.StepsOut = ComesTo f budget steps_out × (left ≡ 0)
Stops f budget left UnifyFault.TooLarge = ComesTo f budget (failed unify_too_large left)
Stops f budget left UnifyFault.TooDeep = ComesTo f budget (failed unify_too_deep left)
Stops f budget left UnifyFault.NoMemory = Unit {0}

-- what came next was done, or there is no answer
abbrev pub Turned : Rules → (ℕ → Unify Answer) → (budget left : ℕ) → Terms → Places → List Hypothesis → List Frame → Result Next UnifyFault → Type 0
Turned r f budget left bank s hs fs (Ok n) = Goes r f budget left bank s hs fs n
Turned r f budget left bank s hs fs (Err fault) = Stops f budget left fault

-- a first look at two terms may go to weak head forms later
abbrev pub looked : Bool → Context → Store → Tree → Tree → List Waiting → List Waiting
looked true g s t u ws = reducing g s t u ∷ ws
looked false g s t u ws = ws

-- no row applies to two terms: they go to weak head form, or the answer is No
abbrev pub NoRow : Bool → Rules → (ℕ → Unify Answer) → (budget left : ℕ) → Terms → Places → List Hypothesis → List Frame → Pair → Type 0
NoRow true r f budget left bank s hs fs p = IsReducing r f budget left (store_of bank s) (waits bank s hs fs) (sides_in bank hs p)
NoRow false r f budget left bank s hs fs p = HasAnswer r f budget left bank s hs fs false

-- how much of the turns a look at two terms takes at most
abbrev pub most_turns : Bool → ℕ
most_turns true = 6
most_turns false = 2

-- what comes next, or what came last where nothing does
abbrev pub next_of : Option Next → Next → Next
next_of None n = n
next_of (Some m) n = m

-- one turn was done, or there is no answer
abbrev pub TurnedOn : Rules → (ℕ → Unify Answer) → (budget left : ℕ) → Terms → Places → List Hypothesis → List Frame → Next → Result (Option Next) UnifyFault → Type 0
TurnedOn r f budget left bank s hs fs n (Ok o) = Goes r f budget left bank s hs fs (next_of o n)
TurnedOn r f budget left bank s hs fs n (Err fault) = Stops f budget left fault

-- it is an answer
abbrev pub IsAnswer : Next → Type 0
IsAnswer (Next.Ask p) = ⊥
IsAnswer (Next.Reduce p) = ⊥
IsAnswer (Next.Answer said) = Unit {0}

-- which one
abbrev pub said_by : Next → Bool
said_by (Next.Ask p) = false
said_by (Next.Reduce p) = false
said_by (Next.Answer said) = said

-- The answer of a call: the store, or No, as the definition has it, or why there is none. Memory may end at any time.
abbrev pub Unifies : Terms → Places → Result Bool UnifyFault → (ℕ → Unify Answer) → (budget left : ℕ) → Type 0
Unifies bank new (Ok said) f budget left = ComesTo f budget (done (answer_of bank new said) left)
Unifies bank new (Err fault) f budget left = Stops f budget left fault
