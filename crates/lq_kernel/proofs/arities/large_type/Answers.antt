use Rattle.std.proofs.Common.{arith}
use Rattle.lq_terms.specs.Terms.{text_of}
use Rattle.lq_terms.proofs.Growth.{Grows-refl, Grows-trans}
use Rattle.lq_kernel.proofs.Oversized.{sort_made, doubled_made}
use Rattle.lq_kernel.proofs.arities.large_type.Goals as goal

pub loop-i-init : goal.loop-i-init
loop-i-init c = record {
  grows = Grows-refl c.make.new.self;
  made = (sort_made c.make.new.self c.in_ok-kind.kind (text_of c.make.new.self c.args.binder) c.in_ok-kind.ensures.made).0;
}

pub loop-i-preserved : goal.loop-i-preserved
loop-i-preserved c =
    let i = c.loop-i.invariant in record {
      grows = Grows-trans c.make.new.self c.loop-i.bank c.make-in-loop-i.new.self i.grows c.in_ok-kind-2.ensures.grows;
      made = doubled_made c.loop-i.bank c.make-in-loop-i.new.self c.args.binder c.loop-i.kind c.in_ok-kind-2.kind (text_of c.make.new.self c.args.binder) c.loop-i.i (i.grows.text c.args.binder (omega (arith, c.requires, c.in_ok-kind.ensures.grows.names))) i.made c.in_ok-kind-2.ensures.made;
    }
