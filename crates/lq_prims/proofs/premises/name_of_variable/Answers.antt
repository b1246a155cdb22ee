use Rattle.std.proofs.Common.{sym, ap, ◌∙◌, IfOk}
use Rattle.std.proofs.Common.{subst as along}
use Rattle.std.specs.Prelude.{option_map}
use Rattle.lq_trees.specs.Tree.{Name}
use Rattle.lq_terms.specs.Terms.{IsName, text_of}
use Rattle.lq_prims.proofs.PremiseLaws.{name_or_blank, variable_name, variable_has}
use Rattle.lq_prims.proofs.premises.name_of_variable.Goals as goal

pub returns-in-Some-clause-is : goal.returns-in-Some-clause-is
returns-in-Some-clause-is c = record {
  has = variable_has c.args.bank.now c.args.store.now c.args.variable c.requires.variable c.name.result (λ v e. c.name.ensures.place v e) c.requires.store c.in-Some.name c.in-Some.is;
  is =
      sym (ap (λ w. name_or_blank (option_map (text_of c.args.bank.now) w)) c.in-Some.is)
      ∙ variable_name c.args.bank.now c.args.store.now c.args.variable c.requires.variable c.name.result (λ v e. c.name.ensures.place v e);
}

pub returns-in-None-clause-is : goal.returns-in-None-clause-is
returns-in-None-clause-is c =
    along (λ (z : Name). IfOk c.name-in-None.result (λ x. IsName c.name-in-None.new.self x z))
    (sym (ap (λ w. name_or_blank (option_map (text_of c.args.bank.now) w)) c.in-None.is)
    ∙ variable_name c.args.bank.now c.args.store.now c.args.variable c.requires.variable c.name.result (λ v e. c.name.ensures.place v e)) c.name-in-None.ensures.named
