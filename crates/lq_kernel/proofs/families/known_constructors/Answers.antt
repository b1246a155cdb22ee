use Rattle.std.proofs.Common.{subst, get_or, Ok, Err}
use Rattle.lq_terms.specs.Terms.{tree_of}
use Rattle.lq_terms.specs.Contexts.{context_of}
use Rattle.lq_env.proofs.FaultLaws.{no_constructor}
use Rattle.lq_kernel.specs.Steps.{Knows}
use Rattle.lq_kernel.proofs.LookLaws.{names_in}
use Rattle.lq_kernel.proofs.TelescopeLaws.{kinds_later, kinds_refused, kinds_end}
use Rattle.lq_kernel.proofs.families.known_constructors.Goals as goal

pub returns-in_err-known : goal.returns-in_err-known
returns-in_err-known c =
    let i = c.loop-constructor.invariant in
    kinds_refused c.args.bank.now (context_of c.args.bank.now c.args.family.now.parameters) c.constructors-constructor-items.result.now c.loop-constructor.constructor-index no_constructor c.loop-constructor-test.true c.args.family.now.constructors c.from_residual.result c.in_err-known.field-0.0 i.items c.from_residual.ensures.1
    (subst (λ hs. Knows c.args.bank.now (Err c.in_err-known.field-0.0) (names_in (context_of c.args.bank.now hs)) (tree_of c.args.bank.now (get_or c.constructors-constructor-items.result.now c.loop-constructor.constructor-index no_constructor).1)) c.hypotheses.ensures c.in_err-known.ensures) i.so_far

pub loop-constructor-preserved : goal.loop-constructor-preserved
loop-constructor-preserved c =
    let i = c.loop-constructor.invariant in record {
      items = i.items;
      so_far = kinds_later c.args.bank.now (context_of c.args.bank.now c.args.family.now.parameters) c.constructors-constructor-items.result.now c.loop-constructor.constructor-index no_constructor c.loop-constructor-test.true c.in_ok-known.field-0
          (subst (λ hs. Knows c.args.bank.now (Ok c.in_ok-known.field-0) (names_in (context_of c.args.bank.now hs)) (tree_of c.args.bank.now (get_or c.constructors-constructor-items.result.now c.loop-constructor.constructor-index no_constructor).1)) c.hypotheses.ensures c.in_ok-known.ensures) i.so_far;
    }

pub returns : goal.returns
returns c =
    let i = c.loop-constructor.invariant in
    kinds_end c.args.bank.now (context_of c.args.bank.now c.args.family.now.parameters) c.constructors-constructor-items.result.now c.args.family.now.constructors c.loop-constructor.constructor-index c.loop-constructor-test.false i.items i.so_far
