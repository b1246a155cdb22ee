use Rattle.std.proofs.Common.{◌+◌, sym, subst, arith, drop, take}
use Rattle.lq_env.specs.Inductive.{AreFree, constructors_declared, firsts}
use Rattle.lq_env.proofs.Declaring.{constructors_more, free_next, behind}
use Rattle.lq_env.proofs.environment.Env.insert_constructors.Goals as goal

pub loop-index-preserved : goal.loop-index-preserved
loop-index-preserved c =
    let next = free_next c.loop-index.self c.args.constructors.now c.loop-index.index _ c.loop-index-test.true c.loop-index.invariant.1 in (
      behind c.args.self.now c.loop-index.self c.insert.new.self _ (constructors_declared c.args.family 0 (take c.loop-index.index c.args.constructors.now)) _ c.loop-index.invariant.0 c.in_ok-insert.ensures.ok
          (constructors_more c.args.family 0 c.args.constructors.now c.loop-index.index c.loop-index.index _ c.loop-index-test.true (omega arith)),
      subst (λ z. AreFree z (firsts (drop (c.loop-index.index + 1) c.args.constructors.now))) (sym c.in_ok-insert.ensures.ok) (next.1 _),
    )
