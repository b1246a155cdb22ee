use Rattle.std.proofs.Common.{◌∙◌, ◌∷◌, ◌++◌, sym, ap, subst}
use Rattle.lq_env.specs.Inductive.{Passes, HasNames, firsts}
use Rattle.lq_env.proofs.Grown.{IsEnv-grown}
use Rattle.lq_env.proofs.Declaring.{ready_has, ready_at}
use Rattle.lq_env.proofs.inductive.refuse_taken_names.Goals as goal

pub refuse_taken-requires-clause-env : goal.refuse_taken-requires-clause-env
refuse_taken-requires-clause-env c = IsEnv-grown c.args.bank.now c.eliminator_names.new.bank c.eliminator_names.ensures.grows c.args.env.now c.requires.env

pub refuse_taken-requires-clause-names : goal.refuse_taken-requires-clause-names
refuse_taken-requires-clause-names c =
    subst (HasNames c.eliminator_names.new.bank) (sym (c.deref-2.ensures.value ∙ c.in_ok-names.ensures ∙ ap (λ es. c.args.family.now.name ∷ firsts c.args.family.now.constructors ++ firsts es) c.deref.ensures.value))
    (ready_has c.args.bank.now c.eliminator_names.new.bank c.eliminator_names.ensures.grows c.args.env.now c.requires.env c.args.family.now c.requires.family c.in_ok-eliminators.eliminators.items c.in_ok-eliminators.ensures.named)

pub returns-clause-answer : goal.returns-clause-answer
returns-clause-answer c =
    subst (Passes c.eliminator_names.new.bank c.refuse_taken.result)
    (ready_at c.args.bank.now c.eliminator_names.new.bank c.eliminator_names.ensures.grows c.args.env.now c.requires.env c.args.family.now c.requires.family c.in_ok-eliminators.eliminators.items c.in_ok-eliminators.ensures.named c.deref-2.result.now (c.deref-2.ensures.value ∙ c.in_ok-names.ensures ∙ ap (λ es. c.args.family.now.name ∷ firsts c.args.family.now.constructors ++ firsts es) c.deref.ensures.value))
    c.refuse_taken.ensures
