use Rattle.std.proofs.Common.{arith, subst}
use Rattle.lq_trees.specs.Fresh.{fresh}
use Rattle.lq_terms.specs.Terms.{IsName, text_of}
use Rattle.lq_terms.specs.Contexts.{context_of}
use Rattle.lq_declaring.proofs.BinderLaws.{enters}
use Rattle.lq_declaring.proofs.rows.entered.Goals as goal

pub returns-clause-entered : goal.returns-clause-entered
returns-clause-entered c =
    enters c.args.bank.now c.name_under.new.bank c.open.new.bank c.in_ok-name.ensures.grows c.in_ok-inner.ensures.grows c.args.binders.now c.push.new.self c.args.binder c.in_ok-name.name
    c.args.kind c.args.rest c.in_ok-inner.inner c.requires.binders c.requires.offered (omega (arith, c.requires.count, c.ranges.count.fits)) c.requires.binder c.requires.kind c.requires.rest
    (subst (λ hs. IsName c.name_under.new.bank c.in_ok-name.name (fresh (context_of c.args.bank.now hs) (text_of c.args.bank.now c.args.binder))) c.hypotheses.ensures c.in_ok-name.ensures.name)
    c.in_ok-inner.ensures.opened c.in_ok-push.ensures.ok
