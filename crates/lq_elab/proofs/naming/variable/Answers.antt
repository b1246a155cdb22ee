use Rattle.std.proofs.Common.{sym, ap₂, refl}
use Rattle.std.proofs.Common.{subst as along}
use Rattle.lq_trees.specs.Tree.Tree.{Var}
use Rattle.lq_trees.specs.Ticks.{gives, done, ComesTo}
use Rattle.lq_trees.proofs.Outcomes.{comes_gives}
use Rattle.lq_terms.specs.Terms.{text_of, tree_of}
use Rattle.lq_solving.specs.ElabFaults.{ElabFault as TreeFault}
use Rattle.lq_solving.specs.Elaboration.{found}
use Rattle.lq_elab.proofs.naming.variable.Goals as goal

pub returns-clause-answer : goal.returns-clause-answer
returns-clause-answer c = λ s left.
    along (λ z. ComesTo {F = TreeFault} (λ n. gives (found s (Var (text_of c.args.bank.now c.args.name)) (tree_of c.args.bank.now c.args.kind))) left (done z left))
    (ap₂ (λ a b. found s a b) (sym c.in_ok-term.ensures.made.is) (sym (c.in_ok-term.ensures.grows.tree c.args.kind c.requires.kind)))
    (comes_gives (λ n. gives (found s (Var (text_of c.args.bank.now c.args.name)) (tree_of c.args.bank.now c.args.kind))) (found s (Var (text_of c.args.bank.now c.args.name)) (tree_of c.args.bank.now c.args.kind)) left (λ n. refl))
