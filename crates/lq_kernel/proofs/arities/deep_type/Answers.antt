use Rattle.std.proofs.Common.{arith}
use Rattle.lq_terms.specs.Terms.{text_of}
use Rattle.lq_terms.proofs.Growth.{Grows-refl, Grows-trans, IsTerm-grown}
use Rattle.lq_kernel.proofs.Oversized.{sort_made, chained_made}
use Rattle.lq_kernel.proofs.arities.deep_type.Goals as goal

pub loop-i-init : goal.loop-i-init
loop-i-init c = record {
  grows = Grows-refl c.make.new.self;
  domain = c.in_ok-domain.ensures.made;
  made = (sort_made c.make.new.self c.in_ok-domain.domain (text_of c.make.new.self c.args.binder) c.in_ok-domain.ensures.made).1;
}

pub loop-i-preserved : goal.loop-i-preserved
loop-i-preserved c =
    let i = c.loop-i.invariant in record {
      grows = Grows-trans c.make.new.self c.loop-i.bank c.make-in-loop-i.new.self i.grows c.in_ok-kind.ensures.grows;
      domain = IsTerm-grown c.loop-i.bank c.make-in-loop-i.new.self c.in_ok-domain.domain _ c.in_ok-kind.ensures.grows i.domain;
      made = chained_made c.loop-i.bank c.make-in-loop-i.new.self c.args.binder c.in_ok-domain.domain c.loop-i.kind c.in_ok-kind.kind (text_of c.make.new.self c.args.binder) c.loop-i.i (i.grows.text c.args.binder (omega (arith, c.requires, c.in_ok-domain.ensures.grows.names))) i.domain i.made c.in_ok-kind.ensures.made;
    }
