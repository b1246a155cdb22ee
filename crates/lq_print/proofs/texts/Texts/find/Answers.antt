use Rattle.std.proofs.Common.{List, ℕ, sym, subst}
use Rattle.lq_print.specs.Tables.{IsText}
use Rattle.lq_print.proofs.TableLaws.{only_number}
use Rattle.lq_print.proofs.texts.Texts.find.Goals as goal

pub returns-clause-only : goal.returns-clause-only
returns-clause-only c k t =
    only_number _ c.args.text.now c.place_of.result c.self.invariant c.place_of.ensures.found c.place_of.ensures.absent k
    (subst (λ (ts : List (List ℕ)). IsText ts k c.args.text.now) (sym c.self.view_is) t)
