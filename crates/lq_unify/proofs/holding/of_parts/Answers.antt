use Rattle.std.proofs.Common.{rules, sym, ap, ◌||◌, arith, [], ◌≡◌}
use Rattle.std.proofs.Common.{subst as along}
use Rattle.std.specs.List.{AllByRecursion}
use Rattle.lq_terms.specs.Terms.{HasName, tree_of}
use Rattle.lq_evars.specs.Places.{store_of}
use Rattle.lq_evars.specs.Reading.{as_read}
use Rattle.lq_unify.specs.Holding.{one_marked, tells}
use Rattle.lq_unify.specs.Held.{one_holds}
use Rattle.lq_unify.proofs.HoldLaws.{in_parts, part_at, parts_step, parts_end}
use Rattle.lq_unify.proofs.holding.of_parts.Goals as goal

pub loop-part-init : goal.loop-part-init
unfolding one_holds
loop-part-init c =
    let e : c.new.result.keys ≡ [] = search rules in record {
      names = along (AllByRecursion (HasName c.args.bank.now)) (sym e) tt;
      told = λ m. ap (λ xs. c.args.variable || one_marked c.args.bank.now m xs) e;
    }

pub add_part-requires-clause-has : goal.add_part-requires-clause-has
add_part-requires-clause-has c = part_at c.args.bank.now c.args.parts.now c.loop-part.part-index _ c.requires.has c.loop-part-test.true

pub add_part-requires-clause-known : goal.add_part-requires-clause-known
add_part-requires-clause-known c = in_parts c.args.bank.now c.args.parts.now _ c.loop-part.part-index _ c.requires.known c.loop-part-test.true

pub loop-part-preserved : goal.loop-part-preserved
loop-part-preserved c = record {
  names = c.in_ok-add_part.ensures.names;
  told = λ m. parts_step c.args.barred m (λ t. as_read (store_of c.args.bank.now c.args.store.now) (tree_of c.args.bank.now t)) c.args.parts.now c.loop-part.part-index _ c.args.variable (tells c.args.bank.now m c.loop-part.all) (tells c.args.bank.now m c.add_part.new.all) c.loop-part-test.true (c.loop-part.invariant.told m) (c.in_ok-add_part.ensures.told m);
}

pub returns-clause-told : goal.returns-clause-told
returns-clause-told c = λ m. parts_end c.args.barred m (λ t. as_read (store_of c.args.bank.now c.args.store.now) (tree_of c.args.bank.now t)) c.args.parts.now c.loop-part.part-index c.args.variable (tells c.args.bank.now m c.loop-part.all) (omega (arith, c.loop-part-test.false)) (c.loop-part.invariant.told m)
