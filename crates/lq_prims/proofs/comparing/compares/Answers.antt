use Rattle.std.proofs.Common.{sym, Ok, Err}
use Rattle.std.proofs.Common.{subst as along}
use Rattle.lq_calculus.specs.Checking.{conv}
use Rattle.lq_calculus.specs.Declarations.{rules_of}
use Rattle.lq_terms.specs.Contexts.{context_of}
use Rattle.lq_terms.specs.Terms.{tree_of}
use Rattle.lq_env.specs.Environments.{env_of}
use Rattle.lq_kernel.proofs.Told.{own}
use Rattle.lq_solving.specs.Stores.{read, read_context}
use Rattle.lq_evars.specs.Places.{store_of}
use Rattle.lq_unify.proofs.OneForm.{have_bodies, context_read, term_read, rules_read}
use Rattle.lq_prims.specs.Working.{Does}
use Rattle.lq_prims.proofs.CompareLaws.{does_compare}
use Rattle.lq_prims.proofs.comparing.compares.Goals as goal

pub conv-requires-clause-within_left : goal.conv-requires-clause-within_left
conv-requires-clause-within_left g c = c.requires.kind_stands.within

pub conv-requires-clause-within_right : goal.conv-requires-clause-within_right
conv-requires-clause-within_right g c = c.requires.wanted_stands.within

pub conv-requires-clause-context : goal.conv-requires-clause-context
conv-requires-clause-context g c = have_bodies c.args.work.now.bank.now (store_of c.args.work.now.bank.now c.args.store.now) c.args.context.now c.requires.context c.requires.hypotheses

pub conv-requires-clause-told : goal.conv-requires-clause-told
conv-requires-clause-told g c = c.computes.ensures.has c.args.work.now.bank.now c.requires.env

pub conv-requires-clause-values : goal.conv-requires-clause-values
conv-requires-clause-values g c = c.values_stand.ensures.stand c.args.work.now.bank.now c.requires.store c.requires.kept

pub returns-in-Ok-clause-answer : goal.returns-in-Ok-clause-answer
returns-in-Ok-clause-answer g c =
    let bank = c.args.work.now.bank.now in
    let s = c.args.store.now in
    let hs = c.args.context.now in
    let r = rules_of (env_of bank c.args.env.now) in
    let told = c.values_stand.ensures.told bank c.requires.kept in
    does_compare c.conv.new.work.bank.now r (read_context (store_of bank s) (context_of bank hs)) (read (store_of bank s) (tree_of bank c.args.kind)) (read (store_of bank s) (tree_of bank c.args.wanted))
    c.args.work.now.ticks.now.left c.conv.new.work.ticks.now.left (Ok c.in-Ok.same)
    (c.in-Ok.ensures.answer r r (read_context (store_of bank s) (context_of bank hs)) (read (store_of bank s) (tree_of bank c.args.kind)) (read (store_of bank s) (tree_of bank c.args.wanted))
    (c.computes.ensures.told bank c.requires.env (λ x has. own bank x c.names_apart.ensures has))
    (rules_read bank s hs c.args.kind c.requires.kept c.requires.hypotheses c.requires.kind_stands told r c.requires.plain.rules)
    (context_read bank s hs c.args.kind c.requires.kept c.requires.hypotheses c.requires.kind_stands told)
    (term_read bank s hs c.args.kind c.requires.kept c.requires.hypotheses c.requires.kind_stands told)
    (term_read bank s hs c.args.wanted c.requires.kept c.requires.hypotheses c.requires.wanted_stands told))

pub returns-in-Err-clause-answer : goal.returns-in-Err-clause-answer
returns-in-Err-clause-answer g c =
    let bank = c.args.work.now.bank.now in
    let s = c.args.store.now in
    let hs = c.args.context.now in
    let r = rules_of (env_of bank c.args.env.now) in
    let told = c.values_stand.ensures.told bank c.requires.kept in
    along (λ z. Does c.conv.new.work.bank.now (λ b. b) (Err z) (λ n. conv r (read_context (store_of bank s) (context_of bank hs)) n (read (store_of bank s) (tree_of bank c.args.kind)) (read (store_of bank s) (tree_of bank c.args.wanted)))
    c.args.work.now.ticks.now.left c.conv.new.work.ticks.now.left) (sym c.from.ensures)
    (does_compare c.conv.new.work.bank.now r (read_context (store_of bank s) (context_of bank hs)) (read (store_of bank s) (tree_of bank c.args.kind)) (read (store_of bank s) (tree_of bank c.args.wanted))
    c.args.work.now.ticks.now.left c.conv.new.work.ticks.now.left (Err c.in-Err.fault)
    (c.in-Err.ensures.answer r r (read_context (store_of bank s) (context_of bank hs)) (read (store_of bank s) (tree_of bank c.args.kind)) (read (store_of bank s) (tree_of bank c.args.wanted))
    (c.computes.ensures.told bank c.requires.env (λ x has. own bank x c.names_apart.ensures has))
    (rules_read bank s hs c.args.kind c.requires.kept c.requires.hypotheses c.requires.kind_stands told r c.requires.plain.rules)
    (context_read bank s hs c.args.kind c.requires.kept c.requires.hypotheses c.requires.kind_stands told)
    (term_read bank s hs c.args.kind c.requires.kept c.requires.hypotheses c.requires.kind_stands told)
    (term_read bank s hs c.args.wanted c.requires.kept c.requires.hypotheses c.requires.wanted_stands told)))
