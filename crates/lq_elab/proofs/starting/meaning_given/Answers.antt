use Rattle.std.proofs.Common.{◌∙◌, ap}
use Rattle.lq_calculus.specs.Contraction.{hypothesis}
use Rattle.lq_terms.specs.Terms.{text_of}
use Rattle.lq_terms.specs.Contexts.{context_of}
use Rattle.lq_elab.specs.Scopes.{meaning_of}
use Rattle.lq_elab.specs.Starting.{named_hypothesis}
use Rattle.lq_elab.proofs.StartLaws.{hypothesis_or_nothing, given_term_is, given_name_is, given_other_is}
use Rattle.lq_elab.proofs.starting.meaning_given.Goals as goal

pub returns-in-Term-clause-is : goal.returns-in-Term-clause-is
returns-in-Term-clause-is c = given_term_is c.args.bank.now (context_of c.args.bank.now c.args.context.now) c.args.value.1 c.in-Term.term c.in-Term.is

pub returns-in-Name-clause-is : goal.returns-in-Name-clause-is
returns-in-Name-clause-is c =
    given_name_is c.args.bank.now (context_of c.args.bank.now c.args.context.now) c.args.value.1 c.in-Name.name c.or_nothing.result c.in-Name.is
    (ap (meaning_of c.args.bank.now) c.or_nothing.ensures
    ∙ hypothesis_or_nothing c.args.bank.now c.get.result (hypothesis (context_of c.args.bank.now c.args.context.now) (text_of c.args.bank.now c.in-Name.name)) (c.get.ensures.is (named_hypothesis (context_of c.args.bank.now c.args.context.now)) c.requires.hypotheses))

pub returns-in-Other-clause-is : goal.returns-in-Other-clause-is
returns-in-Other-clause-is c = given_other_is c.args.bank.now (context_of c.args.bank.now c.args.context.now) c.args.value.1 c.in-Other.is
