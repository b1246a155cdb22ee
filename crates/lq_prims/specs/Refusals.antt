-- What a primitive is refused for, over trees.
use Rattle.std.specs.Prelude.{◌≡◌}
use Rattle.lq_terms.specs.Terms.{Terms, HasName, HasTerm, text_of, tree_of}
use Rattle.lq_solving.specs.Stores.{read_too_large, read_too_deep, store_full}
use Rattle.lq_solving.specs.ElabFaults.{ElabFault as TreeFault}
use Rattle.lq_reduce.specs.declared.faults.ReduceFault.{ReduceFault}
use Rattle.lq_unify.specs.declared.faults.UnifyFault.{UnifyFault}
use Rattle.lq_beta.specs.declared.faults.BetaFault.{BetaFault}
use Rattle.lq_evars.specs.declared.store.StoreFault.{StoreFault}
use Rattle.lq_typing.specs.declared.faults.ElabFault.{ElabFault}
use Rattle.lq_typing.specs.Refusals.{IsElabFault}
use Rattle.lq_goals.specs.declared.proof.GoalFault.{GoalFault}
use Rattle.lq_tactics.specs.Rows.{RowFault, nothing_to_introduce, used_name, variables_left, cannot_apply, not_determined, no_assumption, not_inductive, no_constructor, wrong_number, no_argument, not_an_equality, do_not_unify, by_elab, by_store_call, goals_exceeded}
use Rattle.lq_prims.specs.declared.faults.PrimFault.{PrimFault}

-- a fault of the store as one of a primitive
abbrev pub store_refusal : StoreFault → PrimFault
store_refusal StoreFault.TooLarge = PrimFault.Store StoreFault.TooLarge
store_refusal StoreFault.TooDeep = PrimFault.Store StoreFault.TooDeep
store_refusal StoreFault.Full = PrimFault.Store StoreFault.Full
store_refusal StoreFault.NoMemory = PrimFault.NoMemory

-- a fault of reduction as one of a primitive
abbrev pub reduce_refusal : ReduceFault → PrimFault
reduce_refusal ReduceFault.StepsOut = PrimFault.Elab ElabFault.StepsOut
reduce_refusal ReduceFault.TooLarge = PrimFault.Elab ElabFault.TooLarge
reduce_refusal ReduceFault.TooDeep = PrimFault.Elab ElabFault.TooDeep
reduce_refusal ReduceFault.NoMemory = PrimFault.NoMemory

-- a fault of unification as one of a primitive
abbrev pub unify_refusal : UnifyFault → PrimFault
unify_refusal UnifyFault.StepsOut = PrimFault.Elab ElabFault.StepsOut
unify_refusal UnifyFault.TooLarge = PrimFault.Elab ElabFault.TooLarge
unify_refusal UnifyFault.TooDeep = PrimFault.Elab ElabFault.TooDeep
unify_refusal UnifyFault.NoMemory = PrimFault.NoMemory

-- a fault of beta normal forms as one of a primitive
abbrev pub beta_refusal : BetaFault → PrimFault
beta_refusal BetaFault.StepsOut = PrimFault.Elab ElabFault.StepsOut
beta_refusal BetaFault.NoMemory = PrimFault.NoMemory

-- a fault of the lists of goals as one of a primitive
abbrev pub list_refusal : GoalFault → PrimFault
list_refusal GoalFault.NothingFocused = PrimFault.TooManyGoals
list_refusal GoalFault.TooManyGoals = PrimFault.TooManyGoals
list_refusal GoalFault.NoMemory = PrimFault.NoMemory

-- how a row's work stops: at a fault, for want of a tick, for want of memory
pub data Stop : Type 0 where
  at_fault : RowFault → Stop
  ticks_spent : Stop
  memory_ended : Stop

-- a fault of the store tells the stop
abbrev pub TellsStore : StoreFault → Stop → Type 0
TellsStore StoreFault.TooLarge st = st ≡ at_fault (by_store_call read_too_large)
TellsStore StoreFault.TooDeep st = st ≡ at_fault (by_store_call read_too_deep)
TellsStore StoreFault.Full st = st ≡ at_fault (by_store_call store_full)
TellsStore StoreFault.NoMemory st = st ≡ memory_ended

-- the stop is at a fault of elaboration that the refusal tells
abbrev pub IsElabStop : Terms → ElabFault → Stop → Type 0
IsElabStop bank e st = (x : TreeFault) × IsElabFault bank e x × (st ≡ at_fault (by_elab x))

-- a fault of elaboration tells the stop
abbrev pub TellsElab : Terms → ElabFault → Stop → Type 0
TellsElab bank (ElabFault.Unknown x) st = IsElabStop bank (ElabFault.Unknown x) st
TellsElab bank (ElabFault.Mismatch t u) st = IsElabStop bank (ElabFault.Mismatch t u) st
TellsElab bank (ElabFault.NotAProduct t) st = IsElabStop bank (ElabFault.NotAProduct t) st
TellsElab bank ElabFault.NoSortAbove st = IsElabStop bank ElabFault.NoSortAbove st
TellsElab bank (ElabFault.CannotInfer p) st = IsElabStop bank (ElabFault.CannotInfer p) st
TellsElab bank (ElabFault.NotASort t) st = IsElabStop bank (ElabFault.NotASort t) st
TellsElab bank (ElabFault.ElimForbidden x s) st = IsElabStop bank (ElabFault.ElimForbidden x s) st
TellsElab bank (ElabFault.NameInUse x) st = IsElabStop bank (ElabFault.NameInUse x) st
TellsElab bank ElabFault.StepsOut st = st ≡ ticks_spent
TellsElab bank ElabFault.TooLarge st = IsElabStop bank ElabFault.TooLarge st
TellsElab bank ElabFault.TooDeep st = IsElabStop bank ElabFault.TooDeep st
TellsElab bank ElabFault.Full st = IsElabStop bank ElabFault.Full st
TellsElab bank (ElabFault.NotATerm x) st = IsElabStop bank (ElabFault.NotATerm x) st
TellsElab bank ElabFault.NoMemory st = st ≡ memory_ended

-- A fault of a primitive tells the stop: at the definition's fault, whose trees and texts lie in the bank, or for want of a tick or of memory.
abbrev pub TellsStop : Terms → PrimFault → Stop → Type 0
TellsStop bank PrimFault.NothingToIntroduce st = st ≡ at_fault nothing_to_introduce
TellsStop bank (PrimFault.NameInUse x) st = HasName bank x × (st ≡ at_fault (used_name (text_of bank x)))
TellsStop bank (PrimFault.VariablesLeft n) st = st ≡ at_fault (variables_left n)
TellsStop bank (PrimFault.CannotApply t u) st = HasTerm bank t × HasTerm bank u × (st ≡ at_fault (cannot_apply (tree_of bank t) (tree_of bank u)))
TellsStop bank (PrimFault.NotDetermined x) st = HasName bank x × (st ≡ at_fault (not_determined (text_of bank x)))
TellsStop bank PrimFault.NoAssumption st = st ≡ at_fault no_assumption
TellsStop bank (PrimFault.NotInductive t) st = HasTerm bank t × (st ≡ at_fault (not_inductive (tree_of bank t)))
TellsStop bank (PrimFault.NoConstructor n) st = st ≡ at_fault (no_constructor n)
TellsStop bank (PrimFault.WrongNumber n m) st = st ≡ at_fault (wrong_number n m)
TellsStop bank PrimFault.NoArgument st = st ≡ at_fault no_argument
TellsStop bank (PrimFault.NotAnEquality t) st = HasTerm bank t × (st ≡ at_fault (not_an_equality (tree_of bank t)))
TellsStop bank (PrimFault.DoNotUnify t u) st = HasTerm bank t × HasTerm bank u × (st ≡ at_fault (do_not_unify (tree_of bank t) (tree_of bank u)))
TellsStop bank (PrimFault.Elab e) st = TellsElab bank e st
TellsStop bank (PrimFault.Store e) st = TellsStore e st
TellsStop bank PrimFault.TooManyGoals st = st ≡ at_fault goals_exceeded
TellsStop bank PrimFault.NoMemory st = st ≡ memory_ended
