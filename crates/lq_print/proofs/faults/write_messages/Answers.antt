use Rattle.std.proofs.Common.{◌∙◌, ◌++◌, ap}
use Rattle.std.specs.String.{string_bytes}
use Rattle.lq_print.proofs.FaultLaws.{no_messages, one_more_message}
use Rattle.lq_print.proofs.faults.write_messages.Goals as goal

pub loop-place-init : goal.loop-place-init
loop-place-init c = no_messages (string_bytes c.args.out.now)

pub loop-place-preserved : goal.loop-place-preserved
loop-place-preserved c =
    one_more_message (string_bytes c.args.out.now) (string_bytes c.loop-place.out) (string_bytes c.write.new.out) (string_bytes c.write-in-loop-place.new.out)
    c.args.messages.now c.loop-place.place c.index-messages-place.result c.loop-place-test.true c.index-messages-place.is c.loop-place.invariant
    (c.in_ok-write.ensures ∙ ap (λ z. string_bytes c.loop-place.out ++ z) c.message_sign.ensures)
    (c.in_ok-write-2.ensures ∙ ap (λ z. string_bytes c.write.new.out ++ z) c.as_str.ensures)
