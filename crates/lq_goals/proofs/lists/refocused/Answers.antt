use Rattle.std.proofs.Common.{◌≡◌, subst}
use Rattle.std.specs.Prelude.{IfOk}
use Rattle.lq_goals.proofs.ListLoops.{refocused_empty, refocused_first}
use Rattle.lq_goals.proofs.lists.refocused.Goals as goal

pub returns-in-empty : goal.returns-in-empty
returns-in-empty c = subst (λ z. IfOk c.behind.result (λ v. v.items ≡ z)) (refocused_empty c.args.taken.now c.args.left.now c.args.focus.now c.in-empty.len_below) c.behind.ensures

pub returns-in-len1-up : goal.returns-in-len1-up
returns-in-len1-up c =
    subst (λ z. IfOk c.gives_way.result (λ v. v.items ≡ z)) (refocused_first c.args.taken.now c.args.left.now c.args.focus.now _ c.in-len1-up.len_at_least) c.gives_way.ensures
