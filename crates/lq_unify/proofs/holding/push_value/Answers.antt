use Rattle.std.proofs.Common.{◌∙◌, sym}
use Rattle.lq_terms.specs.declared.nodes.Node.{Node}
use Rattle.lq_terms.specs.Terms.{tree_of, trees_by}
use Rattle.lq_evars.specs.Places.{store_of}
use Rattle.lq_unify.proofs.PartLaws.{tree_is}
use Rattle.lq_unify.proofs.LookLaws.{puts_some, puts_none, puts_other}
use Rattle.lq_unify.proofs.holding.push_value.Goals as goal

pub returns-in_ok-push-in-Some : goal.returns-in_ok-push-in-Some
returns-in_ok-push-in-Some c =
    puts_some c.args.bank.now c.args.store.now c.requires.store c.requires.kept c.args.work.now.items c.push.new.self.items (tree_of c.args.bank.now c.args.term) c.in-Evar.variable (trees_by (tree_of c.args.bank.now) c.in-Evar.field-1)
    (tree_is c.args.bank.now c.node.result.now (Node.Evar c.in-Evar.variable c.in-Evar.field-1) c.args.term c.node.ensures.tree c.in-Evar.is) c.in-Some.value (sym c.value.ensures.place ∙ c.in-Some.is) c.in_ok-push-in-Some.ensures.items

pub returns-in-None : goal.returns-in-None
returns-in-None c =
    puts_none c.args.bank.now c.args.store.now c.requires.kept c.args.work.now.items (tree_of c.args.bank.now c.args.term) c.in-Evar.variable (trees_by (tree_of c.args.bank.now) c.in-Evar.field-1)
    (tree_is c.args.bank.now c.node.result.now (Node.Evar c.in-Evar.variable c.in-Evar.field-1) c.args.term c.node.ensures.tree c.in-Evar.is) (sym c.value.ensures.place ∙ c.in-None.is)

pub returns-in_default : goal.returns-in_default
returns-in_default c = puts_other c.args.bank.now (store_of c.args.bank.now c.args.store.now).values c.args.work.now.items c.node.result.now c.args.term c.node.ensures.tree (λ n ts e. c.in_default.not-Evar n ts e)
