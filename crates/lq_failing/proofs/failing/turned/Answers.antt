use Rattle.std.proofs.Common.{◌∙◌, string_bytes, Some, None}
use Rattle.lq_failing.proofs.FailLaws.{came_as, spent_refused, accepted_kept, refused_kept}
use Rattle.lq_failing.proofs.failing.turned.Goals as goal

pub returns-then-is_spent-clause-turned : goal.returns-then-is_spent-clause-turned
returns-then-is_spent-clause-turned c =
    λ s d same came. spent_refused c.args.bank.now s (string_bytes c.args.out.now) c.in-Some.fault d (c.is_spent.ensures c.args.bank.now ∙ c.if-is_spent.true)
    (came_as c.args.bank.now s (string_bytes c.args.out.now) c.args.cause (Some c.in-Some.fault) d c.in-Some.is came)

pub returns-in-None-clause-turned : goal.returns-in-None-clause-turned
returns-in-None-clause-turned c =
    λ s d same came. accepted_kept c.args.bank.now s (string_bytes c.args.out.now) d (came_as c.args.bank.now s (string_bytes c.args.out.now) c.args.cause None d c.in-None.is came)

pub returns-in_ok-write_fault-in-Some-clause-turned : goal.returns-in_ok-write_fault-in-Some-clause-turned
returns-in_ok-write_fault-in-Some-clause-turned c =
    λ s d same came. refused_kept c.args.bank.now s (string_bytes c.args.out.now) (string_bytes c.write_fault.new.out) c.in-Some.fault _ d same
    (c.is_spent.ensures c.args.bank.now ∙ c.if-is_spent.false) c.in_ok-write_fault-in-Some.ensures
    (came_as c.args.bank.now s (string_bytes c.args.out.now) c.args.cause (Some c.in-Some.fault) d c.in-Some.is came)
