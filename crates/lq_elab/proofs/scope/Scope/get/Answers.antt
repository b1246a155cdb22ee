use Rattle.std.proofs.Common.{◌∙◌, refl, sym, ap}
use Rattle.std.proofs.Common.{subst as along}
use Rattle.lq_terms.proofs.Growth.{Grows-refl}
use Rattle.lq_elab.specs.Scopes.{meaning_of, HasMeaning, set_at}
use Rattle.lq_elab.proofs.ScopeLaws.{or_global, set_by}
use Rattle.lq_elab.proofs.scope.Scope.get.Goals as goal

pub returns-in-Some-clause-is : goal.returns-in-Some-clause-is
returns-in-Some-clause-is c M h =
    ap (λ z. meaning_of c.args.bank.now (or_global z)) (sym c.in-Some.is ∙ c.copied.ensures ∙ c.get.ensures.value)
    ∙ ap (meaning_of c.args.bank.now) (set_by c.args.name _ (λ y. refl) c.self.inside.meanings.entries ∙ ap (λ es. set_at es c.args.name) c.self.view_is)
    ∙ h.is c.args.bank.now (Grows-refl c.args.bank.now) c.names_apart.ensures c.args.name c.requires.name

pub returns-in-Some-clause-has : goal.returns-in-Some-clause-has
returns-in-Some-clause-has c M h =
    along (λ z. HasMeaning c.args.bank.now (or_global z)) (sym (c.copied.ensures ∙ c.get.ensures.value) ∙ c.in-Some.is)
    (along (HasMeaning c.args.bank.now) (sym (set_by c.args.name _ (λ y. refl) c.self.inside.meanings.entries ∙ ap (λ es. set_at es c.args.name) c.self.view_is)) (h.has c.args.name))

pub returns-in-None-clause-is : goal.returns-in-None-clause-is
returns-in-None-clause-is c M h =
    ap (λ z. meaning_of c.args.bank.now (or_global z)) (sym c.in-None.is ∙ c.copied.ensures ∙ c.get.ensures.value)
    ∙ ap (meaning_of c.args.bank.now) (set_by c.args.name _ (λ y. refl) c.self.inside.meanings.entries ∙ ap (λ es. set_at es c.args.name) c.self.view_is)
    ∙ h.is c.args.bank.now (Grows-refl c.args.bank.now) c.names_apart.ensures c.args.name c.requires.name
