use Rattle.lq_terms.specs.Contexts.{context_of}
use Rattle.lq_unify.proofs.FormLaws.{pairs_there, under_has, definition_are}
use Rattle.lq_unify.proofs.forms.definition_form.Goals as goal

pub returns-clause-form : goal.returns-clause-form
returns-clause-form c = record {
  pairs = pairs_there c.args.bank.now c.opened_under.new.bank c.in_ok-under.ensures.grows c.in_ok-pairs.pairs.items _ c.in_ok-pairs.ensures (c.requires.values, (c.requires.kinds, tt));
  under = under_has c.opened_under.new.bank c.in_ok-under.under _ _ _ c.in_ok-under.ensures.under;
  are = definition_are c.args.bank.now c.opened_under.new.bank c.in_ok-under.ensures.grows (context_of c.args.bank.now c.args.context.now) c.in_ok-pairs.pairs.items c.args.values c.args.kinds c.in_ok-under.under _ _ _ _ _ c.in_ok-pairs.ensures
      c.requires.values c.requires.kinds c.in_ok-under.ensures.under;
}
