use Rattle.std.proofs.Common.{refl}
use Rattle.lq_trees.specs.Tree.{value_of}
use Rattle.lq_terms.specs.declared.nodes.Node.{Node}
use Rattle.lq_terms.specs.Terms.{text_of}
use Rattle.lq_terms.proofs.Growth.{Grows-refl}
use Rattle.lq_unify.specs.Solutions.{places_of}
use Rattle.lq_unify.proofs.PartLaws.{tree_is}
use Rattle.lq_unify.proofs.InvertLaws.{other_entry, placed, placed_has}
use Rattle.lq_unify.proofs.inverting.place.Goals as goal

pub returns-in_default : goal.returns-in_default
returns-in_default c = record {
  placed = λ x. other_entry c.args.bank.now c.node.result.now c.args.entry (text_of c.args.bank.now c.args.name) (value_of (places_of c.args.bank.now c.args.places.now.entries)) x c.node.ensures.tree (λ z e. c.in_default.not-Var z e);
  has = c.requires.has;
  grows = Grows-refl c.args.bank.now;
}

pub returns-in-Ok-clause-placed : goal.returns-in-Ok-clause-placed
returns-in-Ok-clause-placed c = λ x. placed c.args.bank.now c.make.new.self c.in_ok-term.ensures.grows (λ x y h k e. c.names_apart.ensures x y h k e) _ (λ x y. refl) c.args.places.now.entries c.insert.new.self.entries c.in-Var.found c.in_ok-term.term c.args.name c.args.entry c.requires.has (rw c.in-Var.is at c.node.ensures.parts) c.requires.name (tree_is c.args.bank.now c.node.result.now (Node.Var c.in-Var.found) c.args.entry c.node.ensures.tree c.in-Var.is) c.in_ok-term.ensures.made c.in-Ok.ensures.entries x

pub returns-in-Ok-clause-has : goal.returns-in-Ok-clause-has
returns-in-Ok-clause-has c = placed_has c.args.bank.now c.make.new.self c.in_ok-term.ensures.grows (λ x y h k e. c.names_apart.ensures x y h k e) _ (λ x y. refl) c.args.places.now.entries c.insert.new.self.entries c.in-Var.found c.in_ok-term.term c.args.name c.args.entry c.requires.has (rw c.in-Var.is at c.node.ensures.parts) c.requires.name (tree_is c.args.bank.now c.node.result.now (Node.Var c.in-Var.found) c.args.entry c.node.ensures.tree c.in-Var.is) c.in_ok-term.ensures.made c.in-Ok.ensures.entries
