use Rattle.std.proofs.Common.{◌∙◌, sym, ap, length}
use Rattle.std.proofs.Common.{subst as along}
use Rattle.std.specs.List.{AllByRecursion}
use Rattle.lq_terms.specs.Terms.{HasTerm, tree_of, trees_by}
use Rattle.lq_terms.proofs.Growth.{Grows-trans}
use Rattle.lq_solving.proofs.ReadLaws.{filled_each}
use Rattle.lq_evars.specs.Places.{store_of}
use Rattle.lq_unify.specs.Solving.{IsMeant}
use Rattle.lq_unify.proofs.UnsolvableLaws.{store_has, store_kept, of_store_grown, exposed_has}
use Rattle.lq_unify.proofs.GivingLaws.{variable_there, entries_many, entries_meant, at_solves, gives_if}
use Rattle.lq_unify.proofs.solving.solve_at.Goals as goal

pub exposed_each-requires-clause-entries : goal.exposed_each-requires-clause-entries
exposed_each-requires-clause-entries c = c.requires.at.entries

pub solve_exposed-requires-clause-store : goal.solve_exposed-requires-clause-store
solve_exposed-requires-clause-store c = store_has c.args.bank.now c.exposed_each.new.bank c.in_ok-exposed.ensures.grows c.args.store.now c.requires.store

pub solve_exposed-requires-clause-kept : goal.solve_exposed-requires-clause-kept
solve_exposed-requires-clause-kept c = store_kept c.args.bank.now c.exposed_each.new.bank c.in_ok-exposed.ensures.grows c.args.store.now c.requires.store c.requires.kept

pub solve_exposed-requires-clause-variable : goal.solve_exposed-requires-clause-variable
solve_exposed-requires-clause-variable c = variable_there c.args.bank.now c.exposed_each.new.bank c.in_ok-exposed.ensures.grows c.args.store.now c.requires.store c.requires.kept c.args.variable c.args.entries.now c.in_ok-exposed.exposed.items c.requires.at c.in_ok-exposed.ensures.exposed c.args.term c.requires.term

pub solve_exposed-requires-clause-entries : goal.solve_exposed-requires-clause-entries
solve_exposed-requires-clause-entries c =
    along (AllByRecursion (HasTerm c.exposed_each.new.bank)) (sym c.as_slice.ensures.value)
    (exposed_has (store_of c.args.bank.now c.args.store.now) c.args.bank.now c.exposed_each.new.bank c.args.entries.now c.in_ok-exposed.exposed.items c.in_ok-exposed.ensures.exposed)

pub solve_exposed-requires-clause-as_many : goal.solve_exposed-requires-clause-as_many
solve_exposed-requires-clause-as_many c = entries_many c.args.bank.now c.exposed_each.new.bank c.in_ok-exposed.ensures.grows c.args.store.now c.requires.store c.requires.kept c.args.variable c.args.entries.now c.in_ok-exposed.exposed.items c.requires.at c.in_ok-exposed.ensures.exposed c.args.term c.requires.term ∙ sym (ap length c.as_slice.ensures.value)

pub solve_exposed-requires-clause-meant : goal.solve_exposed-requires-clause-meant
solve_exposed-requires-clause-meant c =
    ((filled_each (store_of c.args.bank.now c.args.store.now).variables (store_of c.args.bank.now c.args.store.now).values (trees_by (tree_of c.args.bank.now) c.args.entries.now)), along (λ us. IsMeant c.exposed_each.new.bank (store_of c.exposed_each.new.bank c.args.store.now) c.args.variable us (filled_each (store_of c.args.bank.now c.args.store.now).variables (store_of c.args.bank.now c.args.store.now).values (trees_by (tree_of c.args.bank.now) c.args.entries.now))) (sym c.as_slice.ensures.value) (entries_meant c.args.bank.now c.exposed_each.new.bank c.in_ok-exposed.ensures.grows c.args.store.now c.requires.store c.requires.kept c.args.variable c.args.entries.now c.in_ok-exposed.exposed.items c.requires.at c.in_ok-exposed.ensures.exposed c.args.term c.requires.term))

pub solve_exposed-requires-clause-term : goal.solve_exposed-requires-clause-term
solve_exposed-requires-clause-term c = of_store_grown c.args.bank.now c.exposed_each.new.bank c.in_ok-exposed.ensures.grows c.args.store.now c.requires.store c.args.term c.requires.term

pub returns-clause-answer : goal.returns-clause-answer
returns-clause-answer c =
    at_solves c.args.bank.now c.exposed_each.new.bank c.in_ok-exposed.ensures.grows c.args.store.now c.requires.store c.requires.kept c.args.variable c.args.entries.now c.in_ok-exposed.exposed.items c.requires.at c.in_ok-exposed.ensures.exposed c.args.term c.requires.term c.solve_exposed.new.bank c.solve_exposed.new.store c.solve_exposed.result
    (c.solve_exposed.ensures.answer (filled_each (store_of c.args.bank.now c.args.store.now).variables (store_of c.args.bank.now c.args.store.now).values (trees_by (tree_of c.args.bank.now) c.args.entries.now)) (along (λ us. IsMeant c.exposed_each.new.bank (store_of c.exposed_each.new.bank c.args.store.now) c.args.variable us (filled_each (store_of c.args.bank.now c.args.store.now).variables (store_of c.args.bank.now c.args.store.now).values (trees_by (tree_of c.args.bank.now) c.args.entries.now))) (sym c.as_slice.ensures.value) (entries_meant c.args.bank.now c.exposed_each.new.bank c.in_ok-exposed.ensures.grows c.args.store.now c.requires.store c.requires.kept c.args.variable c.args.entries.now c.in_ok-exposed.exposed.items c.requires.at c.in_ok-exposed.ensures.exposed c.args.term c.requires.term)))

pub returns-clause-gives : goal.returns-clause-gives
returns-clause-gives c = gives_if c.args.bank.now c.exposed_each.new.bank c.solve_exposed.new.bank c.in_ok-exposed.ensures.grows c.args.store.now c.solve_exposed.new.store c.requires.store c.solve_exposed.result c.solve_exposed.ensures.gives

pub returns-clause-grows : goal.returns-clause-grows
returns-clause-grows c = Grows-trans c.args.bank.now c.exposed_each.new.bank c.solve_exposed.new.bank c.in_ok-exposed.ensures.grows c.solve_exposed.ensures.grows
