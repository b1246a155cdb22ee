use Rattle.std.proofs.Common.{◌≡◌, ◌≤◌, ◌++◌, length, take, drop, arith, ap, ◌∙◌}
use Rattle.lq_ports.proofs.Fronts.{front_moved}
use Rattle.lq_ports.proofs.still.StillSourceSource.read.Goals as goal

pub returns-clause-bytes : goal.returns-clause-bytes
returns-clause-bytes c =
    let n = c.copy_front-count.result in
    let same : c.left.result.now ≡ c.args.self.now = c.left.ensures in
    let copied : c.copy_front-count.new.buf ≡ take n c.args.self.now ++ drop n c.args.buf.now =
    c.copy_front-count.ensures.copied ∙ ap (λ left. take n left ++ drop n c.args.buf.now) same in
    let within : n ≤ length c.args.self.now = omega (arith, ap length same) in
    front_moved c.self.inside.bytes.items c.args.self.now (drop n c.args.buf.now) c.copy_front-count.new.buf c.self.inside.place n c.self.view_is within copied
