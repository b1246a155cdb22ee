use Rattle.std.proofs.Common.{◌∙◌, [], map, sym, ap, subst, Err}
use Rattle.lq_calculus.specs.Checking.{known, known_context}
use Rattle.lq_env.specs.Environments.{env_of}
use Rattle.lq_env.specs.Families.{family_of}
use Rattle.lq_env.proofs.Families.{family_of-grown, HasFamily-grown}
use Rattle.lq_kernel.specs.Steps.{KnowsAll, refusal}
use Rattle.lq_kernel.specs.Declaring.{LooksOver}
use Rattle.lq_kernel.proofs.Goes.{err_out}
use Rattle.lq_kernel.proofs.OfferedLaws.{IsOffered-grown, offered_parameters, offered_telescope, telescope_at, looked_family}
use Rattle.lq_kernel.proofs.FamilyWork.{names_refused, context_refused, looks_over}
use Rattle.lq_kernel.proofs.declaring.look_over.Goals as goal

pub returns-in_err-refuse_taken_names-clause-answer : goal.returns-in_err-refuse_taken_names-clause-answer
returns-in_err-refuse_taken_names-clause-answer c =
    err_out (λ z. LooksOver c.refuse_taken_names.new.bank z (env_of c.args.bank.now c.args.env.now) (family_of c.args.bank.now c.args.family.now)) c.from_residual.result (refusal c.in_err-refuse_taken_names.field-0.0) c.from_residual.ensures.1
    (λ b. names_refused (env_of c.args.bank.now c.args.env.now) (family_of c.args.bank.now c.args.family.now) c.refuse_taken_names.new.bank c.in_err-refuse_taken_names.field-0.0 b c.in_err-refuse_taken_names.ensures.answer)

pub known_context-requires : goal.known_context-requires
known_context-requires c = offered_telescope c.refuse_taken_names.new.bank c.args.family.now (IsOffered-grown c.args.bank.now c.refuse_taken_names.new.bank c.in_ok-refuse_taken_names.ensures.grows c.args.family.now c.requires.family) c.args.telescope.now c.requires.telescope

pub returns-in_err-known_context-clause-answer : goal.returns-in_err-known_context-clause-answer
returns-in_err-known_context-clause-answer c =
    err_out (λ z. LooksOver c.refuse_taken_names.new.bank z (env_of c.args.bank.now c.args.env.now) (family_of c.args.bank.now c.args.family.now)) c.from_residual-in_err-known_context.result c.in_err-known_context.field-0.0 c.from_residual-in_err-known_context.ensures.1
    (λ b. context_refused (env_of c.args.bank.now c.args.env.now) (family_of c.args.bank.now c.args.family.now) c.refuse_taken_names.new.bank c.in_err-known_context.field-0.0 b c.in_ok-refuse_taken_names.ensures.answer (subst (λ H. KnowsAll c.refuse_taken_names.new.bank (Err c.in_err-known_context.field-0.0) (known_context [] H)) (telescope_at c.args.bank.now c.refuse_taken_names.new.bank c.in_ok-refuse_taken_names.ensures.grows c.args.family.now c.requires.family.has c.args.telescope.now c.requires.telescope) c.in_err-known_context.ensures))

pub known_constructors-requires-clause-parameters : goal.known_constructors-requires-clause-parameters
known_constructors-requires-clause-parameters c = offered_parameters c.refuse_taken_names.new.bank c.args.family.now (IsOffered-grown c.args.bank.now c.refuse_taken_names.new.bank c.in_ok-refuse_taken_names.ensures.grows c.args.family.now c.requires.family)

pub known_constructors-requires-clause-constructors : goal.known_constructors-requires-clause-constructors
known_constructors-requires-clause-constructors c = (HasFamily-grown c.args.bank.now c.refuse_taken_names.new.bank c.in_ok-refuse_taken_names.ensures.grows c.args.family.now c.requires.family.has).constructors

pub returns-clause-answer : goal.returns-clause-answer
returns-clause-answer c = looks_over (env_of c.args.bank.now c.args.env.now) (family_of c.args.bank.now c.args.family.now) c.refuse_taken_names.new.bank c.known_constructors.result c.in_ok-refuse_taken_names.ensures.answer (sym (ap (known_context []) (telescope_at c.args.bank.now c.refuse_taken_names.new.bank c.in_ok-refuse_taken_names.ensures.grows c.args.family.now c.requires.family.has c.args.telescope.now c.requires.telescope)) ∙ c.in_ok-known_context.ensures) (subst (λ D. KnowsAll c.refuse_taken_names.new.bank c.known_constructors.result (known D.parameters (map (λ d. d.1) D.constructors))) (family_of-grown c.args.bank.now c.refuse_taken_names.new.bank c.in_ok-refuse_taken_names.ensures.grows c.args.family.now c.requires.family.has) c.known_constructors.ensures)

pub returns-clause-family : goal.returns-clause-family
returns-clause-family c = looked_family c.args.bank.now c.refuse_taken_names.new.bank c.args.family.now c.known_constructors.result c.requires.family (sym (ap (known_context []) (telescope_at c.args.bank.now c.refuse_taken_names.new.bank c.in_ok-refuse_taken_names.ensures.grows c.args.family.now c.requires.family.has c.args.telescope.now c.requires.telescope)) ∙ c.in_ok-known_context.ensures) (subst (λ D. KnowsAll c.refuse_taken_names.new.bank c.known_constructors.result (known D.parameters (map (λ d. d.1) D.constructors))) (family_of-grown c.args.bank.now c.refuse_taken_names.new.bank c.in_ok-refuse_taken_names.ensures.grows c.args.family.now c.requires.family.has) c.known_constructors.ensures)
