use Rattle.std.proofs.Common.{arith}
use Rattle.std.proofs.Common.{subst as along}
use Rattle.lq_terms.specs.Terms.{tree_of}
use Rattle.lq_terms.proofs.Tellings.{context_of-grown}
use Rattle.lq_evars.specs.Places.{store_of}
use Rattle.lq_solving.specs.Kept.{StandsIn}
use Rattle.lq_elab.proofs.elaborating.with_numbers.Goals as goal
use Rattle.lq_elab.proofs.RunLaws.{numbers_are}

pub returns-in-Ok-numbered-clause-answer : goal.returns-in-Ok-numbered-clause-answer
returns-in-Ok-numbered-clause-answer g c = c.in-Ok.ensures.ends.comes

pub returns-in-Ok-numbered-clause-stands : goal.returns-in-Ok-numbered-clause-stands
returns-in-Ok-numbered-clause-stands g c = record {
  store = c.in-Ok.ensures.ends.has;
  grown = c.in-Ok.ensures.ends.grown;
  term = c.in-Ok.ensures.ends.term;
  kind = c.in-Ok.ensures.ends.kind;
  term_stands = along (λ z. StandsIn (store_of c.called.new.work.bank.now c.called.new.store) z (tree_of c.called.new.work.bank.now c.in-Ok.found.term)) (context_of-grown c.args.work.now.bank.now c.called.new.work.bank.now c.in-Ok.ensures.grows c.args.site.now.outer.now c.requires.site.outer) c.in-Ok.ensures.ends.term_stands;
  kind_stands = along (λ z. StandsIn (store_of c.called.new.work.bank.now c.called.new.store) z (tree_of c.called.new.work.bank.now c.in-Ok.found.kind)) (context_of-grown c.args.work.now.bank.now c.called.new.work.bank.now c.in-Ok.ensures.grows c.args.site.now.outer.now c.requires.site.outer) c.in-Ok.ensures.ends.kind_stands;
  term_fits = c.in-Ok.ensures.term_fits;
  kind_fits = c.in-Ok.ensures.kind_fits;
}

pub returns-in-Ok-numbered-clause-made : goal.returns-in-Ok-numbered-clause-made
returns-in-Ok-numbered-clause-made g c = numbers_are c.in-Ok-numbered.made.items c.count-first.result c.count.result (store_of c.args.work.now.bank.now c.args.store.now) (store_of c.called.new.work.bank.now c.called.new.store) c.in-Ok-numbered.ensures (c.count-first.ensures.told c.args.work.now.bank.now) (c.count.ensures.told c.called.new.work.bank.now)

pub numbered-requires : goal.numbered-requires
numbered-requires g c = omega (arith, c.count-first.ensures.told c.args.work.now.bank.now, c.count.ensures.told c.called.new.work.bank.now, c.in-Ok.ensures.ends.grown.more)
