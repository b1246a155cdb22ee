use Rattle.std.proofs.Common.{sym, map}
use Rattle.std.proofs.Common.{subst as along}
use Rattle.std.specs.List.{AllByRecursion}
use Rattle.lq_calculus.specs.Contraction.{apply}
use Rattle.lq_terms.specs.Terms.{HasTerm, IsTerm, tree_of}
use Rattle.lq_terms.proofs.Growth.{has-grown}
use Rattle.lq_evars.specs.Places.{store_of}
use Rattle.lq_unify.proofs.ExposeSteps.{head_of_store, unfolded_is, whole_open}
use Rattle.lq_unify.proofs.exposing.unfolded.Goals as goal

pub head_value-requires-clause-head : goal.head_value-requires-clause-head
head_value-requires-clause-head c =
    head_of_store c.args.bank.now (store_of c.args.bank.now c.args.store.now) c.args.term c.in_ok-application.application.head _ c.requires.term c.in_ok-application.ensures.is c.in_ok-application.ensures.head

pub applied-requires-clause-arguments : goal.applied-requires-clause-arguments
applied-requires-clause-arguments c =
    along (AllByRecursion (HasTerm c.head_value.new.bank)) (sym c.as_slice.ensures.value)
    (has-grown c.args.bank.now c.head_value.new.bank c.in_ok-application.application.arguments.items c.in_ok-head.ensures.grows c.in_ok-application.ensures.arguments)

pub returns-in-Some-clause-unfolded : goal.returns-in-Some-clause-unfolded
returns-in-Some-clause-unfolded c =
    unfolded_is (store_of c.args.bank.now c.args.store.now) c.requires.kept c.args.bank.now c.head_value.new.bank c.applied.new.bank c.in_ok-head.ensures.grows c.args.term c.in_ok-application.application.head c.in-Some.head c.in_ok-term-in-Some.term
    c.in_ok-application.application.arguments.items c.requires.term c.in_ok-application.ensures.is c.in_ok-application.ensures.arguments (rw c.in-Some.is at c.in_ok-head.ensures.value)
    (along (λ ts. IsTerm c.applied.new.bank c.in_ok-term-in-Some.term (apply (tree_of c.head_value.new.bank c.in-Some.head) (map (tree_of c.head_value.new.bank) ts))) c.as_slice.ensures.value c.in_ok-term-in-Some.ensures.made)

pub returns-clause-open : goal.returns-clause-open
returns-clause-open c =
    whole_open c.args.bank.now (store_of c.args.bank.now c.args.store.now).values c.args.term c.in_ok-application.application.head _ c.in_ok-application.ensures.is (rw c.in-None.is at c.in_ok-head.ensures.open)
