use Rattle.std.proofs.Common.{◌∙◌, ◌++◌, sym, ap, subst, arith}
use Rattle.lq_trees.specs.Ticks.{failed, ComesTo}
use Rattle.lq_calculus.specs.Typing.{first_big}
use Rattle.lq_calculus.specs.Checking.{too_big, domain_sorts}
use Rattle.lq_terms.specs.Contexts.{context_of}
use Rattle.lq_kernel.specs.Answers.{Refuses}
use Rattle.lq_kernel.specs.Declaring.{constructor_work}
use Rattle.lq_kernel.proofs.ConstructorLaws.{constructor_stops, constructor_big, constructor_ends, refused_by}
use Rattle.lq_kernel.proofs.families.check_constructor.Goals as goal

pub returns-in_err-telescope_sort-clause-refused : goal.returns-in_err-telescope_sort-clause-refused
returns-in_err-telescope_sort-clause-refused g c E G x T e k j i =
    refused_by (λ z. Refuses c.telescope_sort.new.work.bank.now z (λ n. constructor_work E n G c.args.family.now.sort x T) c.args.work.now.ticks.now.left c.telescope_sort.new.work.ticks.now.left) c.from_residual-in_err-telescope_sort.result c.in_err-telescope_sort.field-0.0 c.from_residual-in_err-telescope_sort.ensures.1
    (constructor_stops E G c.args.family.now.sort x T c.args.work.now.ticks.now.left c.telescope_sort.new.work.ticks.now.left c.telescope_sort.new.work.bank.now c.in_err-telescope_sort.field-0.0 (c.in_err-telescope_sort.ensures.answer E G T e (ap (context_of c.args.work.now.bank.now) c.in_ok-parameters.ensures ∙ k) i))

pub returns-in-Some-clause-refused : goal.returns-in-Some-clause-refused
returns-in-Some-clause-refused g c E G x T e k j i =
    let gr = c.in_ok-telescope_sort.ensures.grows in (
      omega (arith, c.requires.name, gr.names),
      subst (λ z. ComesTo (λ n. constructor_work E n G c.args.family.now.sort x T) c.args.work.now.ticks.now.left (failed (too_big z c.in-Some.argument) c.telescope_sort.new.work.ticks.now.left)) (sym (gr.text c.args.name c.requires.name ∙ j))
          (constructor_big E G c.args.family.now.sort x T c.args.work.now.ticks.now.left c.telescope_sort.new.work.ticks.now.left c.telescope_sort.new.sorts.items (λ n l. c.in_ok-telescope_sort.ensures.domains E G T e (ap (context_of c.args.work.now.bank.now) c.in_ok-parameters.ensures ∙ k) i n l ∙ ap (λ z. z ++ domain_sorts E n G T) c.new-domains.ensures.items) c.in_ok-telescope_sort.field-0 (c.in_ok-telescope_sort.ensures.answer E G T e (ap (context_of c.args.work.now.bank.now) c.in_ok-parameters.ensures ∙ k) i) c.in-Some.argument (c.in-Some.ensures ∙ ap (first_big c.args.family.now.sort 1) c.deref.ensures.value)),
    )

pub returns-clause-answer : goal.returns-clause-answer
returns-clause-answer g c E G x T e k j i =
    constructor_ends E G c.args.family.now.sort x T c.args.work.now.ticks.now.left c.telescope_sort.new.work.ticks.now.left c.telescope_sort.new.sorts.items (λ n l. c.in_ok-telescope_sort.ensures.domains E G T e (ap (context_of c.args.work.now.bank.now) c.in_ok-parameters.ensures ∙ k) i n l ∙ ap (λ z. z ++ domain_sorts E n G T) c.new-domains.ensures.items) c.in_ok-telescope_sort.field-0 (c.in_ok-telescope_sort.ensures.answer E G T e (ap (context_of c.args.work.now.bank.now) c.in_ok-parameters.ensures ∙ k) i) (c.in-None.ensures ∙ ap (first_big c.args.family.now.sort 1) c.deref.ensures.value)
