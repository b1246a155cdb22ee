use Rattle.std.proofs.Common.{sym, Err}
use Rattle.std.proofs.Common.{subst as along}
use Rattle.std.specs.Prelude.{option_map}
use Rattle.lq_trees.specs.Tree.Tree.{Evar}
use Rattle.lq_terms.specs.Terms.{IsTerm, text_of, tree_of, trees_by}
use Rattle.lq_terms.specs.Contexts.{context_of}
use Rattle.lq_solving.specs.Stores.{new_variable}
use Rattle.lq_solving.specs.Elaboration.{made}
use Rattle.lq_evars.specs.Places.{Makes, store_of, variable_of}
use Rattle.lq_evars.proofs.Growing.{HasStore-grown}
use Rattle.lq_elab.specs.Answers.{Comes, found_of}
use Rattle.lq_elab.proofs.MakingLaws.{added_has, added_comes, made_refused}
use Rattle.lq_elab.proofs.making.added.Goals as goal

pub returns-in_ok-term-in-Ok-clause-answer : goal.returns-in_ok-term-in-Ok-clause-answer
returns-in_ok-term-in-Ok-clause-answer c =
    added_comes c.args.bank.now c.args.store.now c.new_var.new.self c.args.context.now c.in_ok-own.own c.in_ok-own.ensures c.args.kind c.args.name c.requires.store c.requires.context c.requires.kind c.requires.own c.in-Ok.ensures.added c.make.new.self c.in_ok-term-in-Ok.ensures.grows c.in-Ok.id c.args.entries.items c.in_ok-term-in-Ok.term (c.in-Ok.ensures.told c.args.bank.now) c.requires.entries
    (along (λ z. IsTerm c.make.new.self c.in_ok-term-in-Ok.term (Evar c.in-Ok.id (trees_by (tree_of c.args.bank.now) z))) c.from_terms.ensures c.in_ok-term-in-Ok.ensures.made)

pub returns-in_ok-term-in-Ok-clause-has : goal.returns-in_ok-term-in-Ok-clause-has
returns-in_ok-term-in-Ok-clause-has c = HasStore-grown c.args.bank.now c.make.new.self c.in_ok-term-in-Ok.ensures.grows c.new_var.new.self (added_has c.args.bank.now c.args.store.now c.new_var.new.self c.args.context.now c.in_ok-own.own c.in_ok-own.ensures c.args.kind c.args.name c.requires.store c.requires.context c.requires.kind c.requires.own c.in-Ok.ensures.added)

pub returns-in-Err-clause-answer : goal.returns-in-Err-clause-answer
returns-in-Err-clause-answer c = λ left.
    along (λ y. Comes c.args.bank.now (found_of c.args.bank.now c.new_var.new.self) (Err y) (λ n. made (context_of c.args.bank.now c.args.context.now) (store_of c.args.bank.now c.args.store.now) (tree_of c.args.bank.now c.args.kind) (option_map (text_of c.args.bank.now) c.args.name)) left left) (sym c.fault_of.ensures)
    (made_refused c.args.bank.now c.args.store.now c.new_var.new.self c.args.context.now c.args.kind c.args.name c.in-Err.fault
    (along (λ z. Makes c.args.bank.now (Err c.in-Err.fault) c.new_var.new.self (new_variable (store_of c.args.bank.now c.args.store.now) (variable_of c.args.bank.now (record { context = z; kind = c.args.kind; name = c.args.name })))) c.in_ok-own.ensures (c.in-Err.ensures.told c.args.bank.now)) c.args.bank.now (found_of c.args.bank.now c.new_var.new.self) left)
