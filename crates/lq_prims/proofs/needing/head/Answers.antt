use Rattle.lq_calculus.specs.Declarations.{rules_of}
use Rattle.lq_terms.specs.Contexts.{context_of}
use Rattle.lq_terms.specs.Terms.{tree_of}
use Rattle.lq_env.specs.Environments.{env_of}
use Rattle.lq_kernel.proofs.Told.{own}
use Rattle.lq_solving.specs.Stores.{read, read_context}
use Rattle.lq_evars.specs.Places.{store_of}
use Rattle.lq_unify.proofs.OneForm.{have_bodies, context_read, term_read, rules_read}
use Rattle.lq_prims.proofs.NeedLaws.{head_ok, head_err}
use Rattle.lq_prims.proofs.needing.head.Goals as goal

pub whnf-requires-clause-within : goal.whnf-requires-clause-within
whnf-requires-clause-within g c = c.requires.term.within

pub whnf-requires-clause-context : goal.whnf-requires-clause-context
whnf-requires-clause-context g c = have_bodies c.args.work.now.bank.now (store_of c.args.work.now.bank.now c.args.store.now) c.args.context.now c.requires.site.has c.requires.site.context

pub whnf-requires-clause-told : goal.whnf-requires-clause-told
whnf-requires-clause-told g c = c.computes.ensures.has c.args.work.now.bank.now c.requires.site.lent.env

pub whnf-requires-clause-values : goal.whnf-requires-clause-values
whnf-requires-clause-values g c = c.values_stand.ensures.stand c.args.work.now.bank.now c.requires.site.lent.store c.requires.site.lent.kept

pub returns-in-Ok-clause-answer : goal.returns-in-Ok-clause-answer
returns-in-Ok-clause-answer g c =
    let bank = c.args.work.now.bank.now in
    let s = c.args.store.now in
    let hs = c.args.context.now in
    let r = rules_of (env_of bank c.args.env.now) in
    let told = c.values_stand.ensures.told bank c.requires.site.lent.kept in
    head_ok c.whnf.new.work.bank.now r (read_context (store_of bank s) (context_of bank hs)) (read (store_of bank s) (tree_of bank c.args.term))
    c.args.work.now.ticks.now.left c.whnf.new.work.ticks.now.left c.in-Ok.form
    (c.in-Ok.ensures.answer r r (read_context (store_of bank s) (context_of bank hs)) (read (store_of bank s) (tree_of bank c.args.term))
    (c.computes.ensures.told bank c.requires.site.lent.env (λ x has. own bank x c.names_apart.ensures has))
    (rules_read bank s hs c.args.term c.requires.site.lent.kept c.requires.site.context c.requires.term told r c.requires.site.lent.plain.rules)
    (context_read bank s hs c.args.term c.requires.site.lent.kept c.requires.site.context c.requires.term told)
    (term_read bank s hs c.args.term c.requires.site.lent.kept c.requires.site.context c.requires.term told))

pub returns-in-Err-clause-answer : goal.returns-in-Err-clause-answer
returns-in-Err-clause-answer g c =
    let bank = c.args.work.now.bank.now in
    let s = c.args.store.now in
    let hs = c.args.context.now in
    let r = rules_of (env_of bank c.args.env.now) in
    let told = c.values_stand.ensures.told bank c.requires.site.lent.kept in
    head_err c.whnf.new.work.bank.now r (read_context (store_of bank s) (context_of bank hs)) (read (store_of bank s) (tree_of bank c.args.term))
    c.args.work.now.ticks.now.left c.whnf.new.work.ticks.now.left c.in-Err.fault c.from.result c.from.ensures
    (c.in-Err.ensures.answer r r (read_context (store_of bank s) (context_of bank hs)) (read (store_of bank s) (tree_of bank c.args.term))
    (c.computes.ensures.told bank c.requires.site.lent.env (λ x has. own bank x c.names_apart.ensures has))
    (rules_read bank s hs c.args.term c.requires.site.lent.kept c.requires.site.context c.requires.term told r c.requires.site.lent.plain.rules)
    (context_read bank s hs c.args.term c.requires.site.lent.kept c.requires.site.context c.requires.term told)
    (term_read bank s hs c.args.term c.requires.site.lent.kept c.requires.site.context c.requires.term told))
