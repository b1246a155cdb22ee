use Rattle.std.proofs.Common.{sym, subst}
use Rattle.lq_terms.specs.Terms.{tree_of}
use Rattle.lq_solving.specs.Kept.{IsStore}
use Rattle.lq_solving.proofs.KindLaws.{kind_store}
use Rattle.lq_evars.specs.Places.{store_of}
use Rattle.lq_evars.proofs.store.Store.set_kind.Goals as goal

pub returns-clause-stands : goal.returns-clause-stands
returns-clause-stands c bank i f =
    subst IsStore (sym (c.put_kind.ensures.told bank)) (kind_store (store_of bank c.args.self.now) c.args.id (tree_of bank c.args.kind) i (λ v e w. f v e))
