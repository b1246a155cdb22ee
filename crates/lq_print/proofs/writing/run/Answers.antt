use Rattle.std.proofs.Common.{List, [], ◌∷◌, length, ap, subst, arith, length-append}
use Rattle.std.specs.String.{string_bytes}
use Rattle.lq_print.specs.declared.steps.Item.{Item}
use Rattle.lq_print.specs.Pages.{HasPage, Writes}
use Rattle.lq_print.proofs.PageLaws.{all_written}
use Rattle.lq_print.proofs.writing.run.Goals as goal

pub loop-item-init : goal.loop-item-init
loop-item-init c = record { page = c.requires; writes = λ env text w. w }

pub step-requires : goal.step-requires
step-requires c = subst (λ (ws : List Item). HasPage c.args.bank.now c.loop-item.binders.items ws c.loop-item.spelling) c.in-Some.ensures.items c.loop-item.invariant.page

pub loop-item-smaller : goal.loop-item-smaller
loop-item-smaller c = omega (arith, c.in_ok-step.ensures.lighter, ap length c.in-Some.ensures.items, length-append c.pop.new.self.items (c.in-Some.item ∷ []))

pub loop-item-preserved : goal.loop-item-preserved
loop-item-preserved c = record {
  page = c.in_ok-step.ensures.page;
  writes = λ env text w.
      c.in_ok-step.ensures.writes env text
      (subst (λ (ws : List Item). Writes c.args.bank.now env text (string_bytes c.loop-item.out) c.loop-item.binders.items ws c.loop-item.spelling) c.in-Some.ensures.items
      (c.loop-item.invariant.writes env text w));
}

pub returns : goal.returns
returns c env text w =
    all_written c.args.bank.now env text (string_bytes c.loop-item.out) c.loop-item.binders.items c.loop-item.work.items c.loop-item.spelling
    (omega (arith, c.in_default.ensures.cases.0, c.loop-item.work.ok)) (c.loop-item.invariant.writes env text w)
