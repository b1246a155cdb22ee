use Rattle.std.proofs.Common.{◌≡◌, [], ◌++◌, sym, ◌∙◌, ap, arith, append-nil}
use Rattle.lq_runs.specs.Runs.{none}
use Rattle.lq_runs.specs.Machines.{gives}
use Rattle.lq_stream_rows.specs.Acting.{called, said, set_by, node_at}
use Rattle.lq_stream_rows.proofs.Paying.{stepped, stopped}
use Rattle.lq_stream_rows.proofs.numbers.NumbersMachine.step.Goals as goal

pub returns-then-not-take-clause-spent : goal.returns-then-not-take-clause-spent
returns-then-not-take-clause-spent g c =
    let e : c.args.ticks.now.left ≡ 0 = c.if-not-take.ensures.taken in
    let i : c.take.new.self.spent ≡ c.args.ticks.now.spent = c.if-not-take.ensures.none in
    λ q. (
      [],
      stopped (node_at c.args.self.now.nodes.items c.args.code.node) c.args.code c.args.self.now.state c.args.ticks.now.left e,
      sym (append-nil c.args.self.now.written.items),
      omega arith,
    )

pub returns-clause-moved : goal.returns-clause-moved
returns-clause-moved g c =
    let n : c.node-node.result ≡ node_at c.args.self.now.nodes.items c.args.code.node = c.node-node.ensures in (
      said (node_at c.args.self.now.nodes.items c.args.code.node),
      stepped (node_at c.args.self.now.nodes.items c.args.code.node) c.args.code c.args.self.now.state c.args.ticks.now.left c.take.new.self.left c.if-not-take.ensures.taken
          ∙ ap (λ z. gives c.take.new.self.left (said (node_at c.args.self.now.nodes.items c.args.code.node)) z (called (node_at c.args.self.now.nodes.items c.args.code.node) c.args.code c.args.self.now.state) none)
          (sym (c.in_ok-act.ensures.state ∙ ap (λ z. set_by z c.args.self.now.state) n))
          ∙ ap (λ z. gives c.take.new.self.left (said (node_at c.args.self.now.nodes.items c.args.code.node)) c.act.new.self.state z none)
          (sym (c.called_by-next.ensures ∙ ap (λ z. called z c.args.code c.args.self.now.state) n)),
      c.in_ok-act.ensures.written ∙ ap (λ z. c.args.self.now.written.items ++ said z) n,
    )
