use Rattle.std.proofs.Common.{◌≡◌, ◌∙◌, ◌+◌, sym, ◌<◌, length, subst, map, take}
use Rattle.lq_terms.specs.Terms.{text_of}
use Rattle.lq_terms.proofs.Growth.{Grows-trans}
use Rattle.lq_env.specs.Inductive.{HasNames, firsts, eliminator_named, eliminator_for}
use Rattle.lq_env.proofs.Naming.{step_has, step_named}
use Rattle.lq_env.proofs.inductive.eliminator_names.Goals as goal

pub loop-sort-preserved : goal.loop-sort-preserved
loop-sort-preserved c =
    let i = c.loop-sort.invariant in
    let within : c.loop-sort.sort-index < length c.every_sort-sort-items.result = subst (λ ss. c.loop-sort.sort-index < length ss) (sym i.3) c.loop-sort-test.true in
    let items = c.in_ok-push.ensures.items in (
      Grows-trans c.args.bank.now c.loop-sort.bank c.eliminator_name.new.bank i.0 c.eliminator_name.ensures.grows,
      subst (λ es. HasNames c.eliminator_name.new.bank (firsts es)) (sym items)
          (step_has c.args.bank.now c.loop-sort.bank c.eliminator_name.new.bank c.args.family c.in_ok-name.name c.loop-sort.names.items c.every_sort-sort-items.result c.loop-sort.sort-index _ i.0 c.eliminator_name.ensures.grows i.1 c.requires
          within c.in_ok-name.ensures.named),
      subst (λ es. map (eliminator_named c.eliminator_name.new.bank) es ≡ map (eliminator_for (text_of c.args.bank.now c.args.family)) (take (c.loop-sort.sort-index + 1) c.every_sort-sort-items.result)) (sym items)
          (step_named c.args.bank.now c.loop-sort.bank c.eliminator_name.new.bank c.args.family c.in_ok-name.name c.loop-sort.names.items c.every_sort-sort-items.result c.loop-sort.sort-index _ i.0 c.eliminator_name.ensures.grows i.1 c.requires
          within c.in_ok-name.ensures.named i.2),
      i.3,
      c.eliminator_name.ensures.nodes ∙ i.4,
    )
