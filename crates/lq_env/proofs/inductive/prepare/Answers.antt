use Rattle.std.proofs.Common.{◌≡◌, ◌∙◌, ◌∷◌, ◌++◌, None, sym, ap, subst}
use Rattle.lq_terms.specs.Terms.{text_of}
use Rattle.lq_calculus.specs.Declarations.{family_fault, constructors_fault}
use Rattle.lq_env.specs.Families.{family_of, Refuses}
use Rattle.lq_env.specs.Environments.{env_of}
use Rattle.lq_env.specs.Inductive.{HasNames, firsts, AreTypes}
use Rattle.lq_env.proofs.Families.{family_of-grown, IsFamily-grown}
use Rattle.lq_env.proofs.Grown.{IsEnv-grown}
use Rattle.lq_env.proofs.StoredTypes.{err_by}
use Rattle.lq_env.proofs.Declaring.{ready_has, ready_at, fault_names, fault_tests, fault_types, names_grown}
use Rattle.lq_env.proofs.inductive.prepare.Goals as goal

pub refuse_taken-requires-clause-env : goal.refuse_taken-requires-clause-env
refuse_taken-requires-clause-env c = IsEnv-grown c.args.bank.now c.eliminator_names.new.bank c.eliminator_names.ensures.grows c.args.env.now c.requires.env

pub refuse_taken-requires-clause-names : goal.refuse_taken-requires-clause-names
refuse_taken-requires-clause-names c =
    subst (HasNames c.eliminator_names.new.bank) (sym (c.deref-2.ensures.value ∙ c.in_ok-names.ensures ∙ ap (λ es. c.args.family.now.name ∷ firsts c.args.family.now.constructors ++ firsts es) c.deref.ensures.value))
    (ready_has c.args.bank.now c.eliminator_names.new.bank c.eliminator_names.ensures.grows c.args.env.now c.requires.env c.args.family.now c.requires.family.has c.in_ok-eliminators.eliminators.items c.in_ok-eliminators.ensures.named)

pub returns-in_err-refuse_taken-clause-refused : goal.returns-in_err-refuse_taken-clause-refused
returns-in_err-refuse_taken-clause-refused c =
    err_by c.from_residual-in_err-refuse_taken.result c.in_err-refuse_taken.field-0.0 (λ e. Refuses c.eliminator_names.new.bank e (family_fault (env_of c.args.bank.now c.args.env.now) (family_of c.args.bank.now c.args.family.now) c.args.sorts.now)) c.from_residual-in_err-refuse_taken.ensures.1
    (fault_names c.eliminator_names.new.bank c.in_err-refuse_taken.field-0.0 (env_of c.args.bank.now c.args.env.now) (family_of c.args.bank.now c.args.family.now) (family_of c.eliminator_names.new.bank c.args.family.now) c.args.sorts.now
    (subst (Refuses c.eliminator_names.new.bank c.in_err-refuse_taken.field-0.0) (ready_at c.args.bank.now c.eliminator_names.new.bank c.eliminator_names.ensures.grows c.args.env.now c.requires.env c.args.family.now c.requires.family.has c.in_ok-eliminators.eliminators.items c.in_ok-eliminators.ensures.named c.deref-2.result.now (c.deref-2.ensures.value ∙ c.in_ok-names.ensures ∙ ap (λ es. c.args.family.now.name ∷ firsts c.args.family.now.constructors ++ firsts es) c.deref.ensures.value)) c.in_err-refuse_taken.ensures))

pub refuse_constructors-requires : goal.refuse_constructors-requires
refuse_constructors-requires c = IsFamily-grown c.args.bank.now c.eliminator_names.new.bank c.eliminator_names.ensures.grows c.args.family.now c.requires.family

pub returns-in_err-refuse_constructors-clause-refused : goal.returns-in_err-refuse_constructors-clause-refused
returns-in_err-refuse_constructors-clause-refused c =
    err_by c.from_residual-in_err-refuse_constructors.result c.in_err-refuse_constructors.field-0.0 (λ e. Refuses c.eliminator_names.new.bank e (family_fault (env_of c.args.bank.now c.args.env.now) (family_of c.args.bank.now c.args.family.now) c.args.sorts.now)) c.from_residual-in_err-refuse_constructors.ensures.1
    (fault_tests c.eliminator_names.new.bank c.in_err-refuse_constructors.field-0.0 (env_of c.args.bank.now c.args.env.now) (family_of c.args.bank.now c.args.family.now) (family_of c.eliminator_names.new.bank c.args.family.now) c.args.sorts.now (family_of-grown c.args.bank.now c.eliminator_names.new.bank c.eliminator_names.ensures.grows c.args.family.now c.requires.family.has)
    (sym (ready_at c.args.bank.now c.eliminator_names.new.bank c.eliminator_names.ensures.grows c.args.env.now c.requires.env c.args.family.now c.requires.family.has c.in_ok-eliminators.eliminators.items c.in_ok-eliminators.ensures.named c.deref-2.result.now (c.deref-2.ensures.value ∙ c.in_ok-names.ensures ∙ ap (λ es. c.args.family.now.name ∷ firsts c.args.family.now.constructors ++ firsts es) c.deref.ensures.value)) ∙ c.in_ok-refuse_taken.ensures) c.in_err-refuse_constructors.ensures)

pub make_types-requires-clause-family : goal.make_types-requires-clause-family
make_types-requires-clause-family c = IsFamily-grown c.args.bank.now c.eliminator_names.new.bank c.eliminator_names.ensures.grows c.args.family.now c.requires.family

pub returns-in_err-types-clause-refused : goal.returns-in_err-types-clause-refused
returns-in_err-types-clause-refused c =
    err_by c.from_residual-in_err-types.result c.in_err-types.field-0.0 (λ e. Refuses c.make_types.new.bank e (family_fault (env_of c.args.bank.now c.args.env.now) (family_of c.args.bank.now c.args.family.now) c.args.sorts.now)) c.from_residual-in_err-types.ensures.1
    (fault_types c.make_types.new.bank c.in_err-types.field-0.0 (env_of c.args.bank.now c.args.env.now) (family_of c.args.bank.now c.args.family.now) (family_of c.eliminator_names.new.bank c.args.family.now) c.args.sorts.now (family_of-grown c.args.bank.now c.eliminator_names.new.bank c.eliminator_names.ensures.grows c.args.family.now c.requires.family.has)
    (sym (ready_at c.args.bank.now c.eliminator_names.new.bank c.eliminator_names.ensures.grows c.args.env.now c.requires.env c.args.family.now c.requires.family.has c.in_ok-eliminators.eliminators.items c.in_ok-eliminators.ensures.named c.deref-2.result.now (c.deref-2.ensures.value ∙ c.in_ok-names.ensures ∙ ap (λ es. c.args.family.now.name ∷ firsts c.args.family.now.constructors ++ firsts es) c.deref.ensures.value)) ∙ c.in_ok-refuse_taken.ensures) (subst (λ f. constructors_fault f f.constructors ≡ None) (family_of-grown c.args.bank.now c.eliminator_names.new.bank c.eliminator_names.ensures.grows c.args.family.now c.requires.family.has) c.in_ok-refuse_constructors.ensures) c.in_err-types.ensures.refused)

pub returns-clause-ready : goal.returns-clause-ready
returns-clause-ready c = record {
  new = sym (ready_at c.args.bank.now c.eliminator_names.new.bank c.eliminator_names.ensures.grows c.args.env.now c.requires.env c.args.family.now c.requires.family.has c.in_ok-eliminators.eliminators.items c.in_ok-eliminators.ensures.named c.deref-2.result.now (c.deref-2.ensures.value ∙ c.in_ok-names.ensures ∙ ap (λ es. c.args.family.now.name ∷ firsts c.args.family.now.constructors ++ firsts es) c.deref.ensures.value)) ∙ c.in_ok-refuse_taken.ensures;
  sound = subst (λ f. constructors_fault f f.constructors ≡ None) (family_of-grown c.args.bank.now c.eliminator_names.new.bank c.eliminator_names.ensures.grows c.args.family.now c.requires.family.has) c.in_ok-refuse_constructors.ensures;
  names = names_grown c.eliminator_names.new.bank c.make_types.new.bank c.make_types.ensures.grows (text_of c.args.bank.now c.args.family.now.name) c.in_ok-eliminators.eliminators.items c.in_ok-eliminators.ensures.named;
  types = subst (λ f. AreTypes c.make_types.new.bank f c.args.sorts.now c.in_ok-types.types) (family_of-grown c.args.bank.now c.eliminator_names.new.bank c.eliminator_names.ensures.grows c.args.family.now c.requires.family.has) c.in_ok-types.ensures.made;
}
