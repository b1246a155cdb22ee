use Rattle.std.proofs.Common.{◌∙◌, sym, subst, Err}
use Rattle.std.specs.Prelude.{map}
use Rattle.lq_ast.specs.PlainCommands.{plain_constructor}
use Rattle.lq_calculus.specs.Declarations.{declared_names}
use Rattle.lq_env.specs.Families.{Refuses, family_of}
use Rattle.lq_env.proofs.Grown.{IsEnv-grown}
use Rattle.lq_terms.specs.Terms.{text_of}
use Rattle.lq_sessions.specs.Declaring.{family_names}
use Rattle.lq_elaborated.specs.Naming.{NewOr}
use Rattle.lq_calculus.specs.Declarations.{first_taken, names_of}
use Rattle.lq_env.specs.Environments.{env_of}
use Rattle.lq_elaborated.proofs.NamingLaws.{taken_is, taken_stops}
use Rattle.lq_elaborated.proofs.naming.refuse_taken.Goals as goal

pub refuse_taken_names-requires-clause-env : goal.refuse_taken_names-requires-clause-env
refuse_taken_names-requires-clause-env c = IsEnv-grown c.args.bank.now c.family_named.new.bank c.in_ok-family.ensures.grows c.args.env.now c.requires.env

pub returns-in-Ok-clause-answer : goal.returns-in-Ok-clause-answer
returns-in-Ok-clause-answer c = sym (taken_is c.args.bank.now c.family_named.new.bank c.in_ok-family.ensures.grows c.args.env.now c.requires.env (declared_names (family_of c.family_named.new.bank c.in_ok-family.family)) (family_names (text_of c.args.bank.now c.args.name) (map plain_constructor c.args.constructors.now)) c.in_ok-family.ensures.names) ∙ c.in-Ok.ensures.answer

pub returns-clause-answer : goal.returns-clause-answer
returns-clause-answer c =
    subst (λ z. NewOr c.refuse_taken_names.new.bank (Err z) (first_taken (names_of (env_of c.args.bank.now c.args.env.now)) (family_names (text_of c.args.bank.now c.args.name) (map plain_constructor c.args.constructors.now)))) (sym c.from.ensures)
    (taken_stops c.refuse_taken_names.new.bank c.in-Err.fault (first_taken (names_of (env_of c.args.bank.now c.args.env.now)) (family_names (text_of c.args.bank.now c.args.name) (map plain_constructor c.args.constructors.now))) (subst (Refuses c.refuse_taken_names.new.bank c.in-Err.fault) (taken_is c.args.bank.now c.family_named.new.bank c.in_ok-family.ensures.grows c.args.env.now c.requires.env (declared_names (family_of c.family_named.new.bank c.in_ok-family.family)) (family_names (text_of c.args.bank.now c.args.name) (map plain_constructor c.args.constructors.now)) c.in_ok-family.ensures.names) c.in-Err.ensures.answer))
