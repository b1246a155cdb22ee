use Rattle.std.proofs.Common.{◌∙◌, sym, ap}
use Rattle.std.specs.Prelude.{option_map}
use Rattle.lq_terms.specs.Terms.{tree_of}
use Rattle.lq_unify.proofs.GivenLaws.{filled_is, is_some_not, term_is}
use Rattle.lq_unify.proofs.givens.filled.Goals as goal

pub unreachable-requires : goal.unreachable-requires
unreachable-requires c =
    is_some_not _ _ (ap (option_map (tree_of c.replaced.new.bank)) (sym c.in-None.is) ∙ c.in_ok-term.ensures.is)
    (filled_is c.args.bank.now c.args.context.now c.args.terms.now c.in_ok-given.given.entries (tree_of c.args.bank.now c.args.body) c.requires.closed (λ x. c.in_ok-given.ensures.are x))

pub returns-clause-made : goal.returns-clause-made
returns-clause-made c = record {
  has = rw c.in-Some.is at c.in_ok-term.ensures.has;
  is = term_is _ _ _ (ap (option_map (tree_of c.replaced.new.bank)) (sym c.in-Some.is) ∙ c.in_ok-term.ensures.is)
      (filled_is c.args.bank.now c.args.context.now c.args.terms.now c.in_ok-given.given.entries (tree_of c.args.bank.now c.args.body) c.requires.closed (λ x. c.in_ok-given.ensures.are x));
}
