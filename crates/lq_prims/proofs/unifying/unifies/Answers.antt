use Rattle.std.proofs.Common.{sym, Ok, Err}
use Rattle.std.proofs.Common.{subst as along}
use Rattle.lq_calculus.specs.Declarations.{rules_of}
use Rattle.lq_terms.specs.Contexts.{context_of}
use Rattle.lq_terms.specs.Terms.{tree_of}
use Rattle.lq_env.specs.Environments.{env_of}
use Rattle.lq_solving.specs.ElabFaults.{by_unify}
use Rattle.lq_solving.specs.Unification.{unify}
use Rattle.lq_evars.specs.Places.{store_of}
use Rattle.lq_unify.specs.Frames.{answer_of}
use Rattle.lq_tactics.specs.Rows.{elab_work}
use Rattle.lq_prims.specs.Working.{Does}
use Rattle.lq_prims.proofs.UnifyLaws.{does_unify, env_rules}
use Rattle.lq_prims.proofs.unifying.unifies.Goals as goal

pub unify-requires-clause-rules : goal.unify-requires-clause-rules
unify-requires-clause-rules g c = record {
  has = c.computes.ensures.has c.args.work.now.bank.now c.requires.site.lent.env;
  rules = rules_of (env_of c.args.work.now.bank.now c.args.env.now);
  tells = env_rules c.args.work.now.bank.now c.args.env.now c.requires.site.lent.env c.computes.ensures.told;
  plain = c.requires.site.lent.plain.rules;
}

pub returns-in-Ok-clause-answer : goal.returns-in-Ok-clause-answer
returns-in-Ok-clause-answer g c =
    let bank = c.args.work.now.bank.now in
    let r = rules_of (env_of bank c.args.env.now) in
    does_unify c.unify.new.work.bank.now c.unify.new.store
    (λ n. unify r n (context_of bank c.args.context.now) (store_of bank c.args.store.now) (tree_of bank c.args.left) (tree_of bank c.args.right)) c.args.work.now.ticks.now.left c.unify.new.work.ticks.now.left (Ok c.in-Ok.said)
    (c.in-Ok.ensures.answer r (env_rules bank c.args.env.now c.requires.site.lent.env c.computes.ensures.told) c.requires.site.lent.plain.rules)

pub returns-in-Err-clause-answer : goal.returns-in-Err-clause-answer
returns-in-Err-clause-answer g c =
    let bank = c.args.work.now.bank.now in
    let r = rules_of (env_of bank c.args.env.now) in
    along (λ z. Does c.unify.new.work.bank.now (answer_of c.unify.new.work.bank.now c.unify.new.store) (Err z)
    (λ n. elab_work (by_unify (unify r n (context_of bank c.args.context.now) (store_of bank c.args.store.now) (tree_of bank c.args.left) (tree_of bank c.args.right)))) c.args.work.now.ticks.now.left c.unify.new.work.ticks.now.left) (sym c.from.ensures)
    (does_unify c.unify.new.work.bank.now c.unify.new.store
    (λ n. unify r n (context_of bank c.args.context.now) (store_of bank c.args.store.now) (tree_of bank c.args.left) (tree_of bank c.args.right)) c.args.work.now.ticks.now.left c.unify.new.work.ticks.now.left (Err c.in-Err.fault)
    (c.in-Err.ensures.answer r (env_rules bank c.args.env.now c.requires.site.lent.env c.computes.ensures.told) c.requires.site.lent.plain.rules))
