use Rattle.std.proofs.Common.{◌∙◌, sym, ap}
use Rattle.std.specs.Prelude.{option_map}
use Rattle.lq_terms.specs.Terms.{tree_of}
use Rattle.lq_declaring.proofs.UnsolvedLaws.{counts_one, counts_none}
use Rattle.lq_declaring.proofs.unsolved.with_one.Goals as goal

pub returns-in-Some-clause-told : goal.returns-in-Some-clause-told
returns-in-Some-clause-told c bank kept e =
    counts_none bank c.args.store.now c.args.at c.args.behind c.in-Some.field-0 c.requires.at (ap (option_map (tree_of bank)) (sym c.in-Some.is) ∙ c.value.ensures.told bank kept) e

pub returns-in-None-clause-told : goal.returns-in-None-clause-told
returns-in-None-clause-told c bank kept e =
    counts_one bank c.args.store.now c.args.at c.args.behind c.requires.at (ap (option_map (tree_of bank)) (sym c.in-None.is) ∙ c.value.ensures.told bank kept) e
