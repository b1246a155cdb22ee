use Rattle.std.proofs.Common.{string_bytes}
use Rattle.lq_failing.proofs.FailLaws.{none_fails, next_fails}
use Rattle.lq_failing.proofs.failing.failed.Goals as goal

pub each-init : goal.each-init
each-init c = record { cause = c.requires.cause; failed = λ s d same came. none_fails c.args.bank.now s (string_bytes c.args.out.now) c.args.cause d came }

pub each-preserved : goal.each-preserved
each-preserved c =
    record {
      cause = c.in_ok-now.ensures.cause;
      failed = λ s d same came.
          next_fails c.args.bank.now s (string_bytes c.each.out) (string_bytes c.turned.new.out) c.each.now c.in_ok-now.now d c.each.turn
          (c.each.invariant.failed s d same came) (λ e before. c.in_ok-now.ensures.turned s e same before);
    }
