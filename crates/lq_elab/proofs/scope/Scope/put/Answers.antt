use Rattle.std.proofs.Common.{◌∙◌, refl, sym, ap}
use Rattle.std.proofs.Common.{subst as along}
use Rattle.lq_terms.specs.Terms.{text_of}
use Rattle.lq_elab.specs.Naming.{with_meaning}
use Rattle.lq_elab.specs.Scopes.{IsScope, set_at}
use Rattle.lq_elab.proofs.ScopeLaws.{or_global, set_by, scope_same, set_none, is_set, is_restored, not_absent, none_of, some_of}
use Rattle.lq_elab.proofs.scope.Scope.put.Goals as goal

pub returns-then-is_empty-clause-set : goal.returns-then-is_empty-clause-set
returns-then-is_empty-clause-set c old m h e =
    scope_same c.args.bank.now old (with_meaning (text_of c.args.bank.now c.args.name) m old) c.args.self.now (λ z. sym (set_none (text_of c.args.bank.now c.args.name) m old (sym c.text.ensures.text ∙ none_of c.text.result.now (sym c.if-is_empty.ensures)) z)) h

pub returns-then-is_empty-clause-restored : goal.returns-then-is_empty-clause-restored
returns-then-is_empty-clause-restored c new m h e =
    scope_same c.args.bank.now (with_meaning (text_of c.args.bank.now c.args.name) m new) new c.args.self.now (set_none (text_of c.args.bank.now c.args.name) m new (sym c.text.ensures.text ∙ none_of c.text.result.now (sym c.if-is_empty.ensures))) h

pub returns-in_default-clause-restored : goal.returns-in_default-clause-restored
returns-in_default-clause-restored c new m h e =
    absurd (not_absent c.args.bank.now c.names_apart.ensures c.args.self.now c.args.name c.requires.name (λ q. some_of c.text.result.now (sym c.if-is_empty.ensures) (c.text.ensures.text ∙ q)) new m h
    (sym (ap (λ es. set_at es c.args.name) c.self.view_is) ∙ sym (set_by c.args.name _ (λ y. refl) c.self.inside.meanings.entries) ∙ ap or_global c.in_default.ensures.absent))

pub returns-clause-set : goal.returns-clause-set
returns-clause-set c old m h e =
    along (IsScope c.args.bank.now (with_meaning (text_of c.args.bank.now c.args.name) m old)) (sym c.in-Ok.ensures.entries)
    (is_set _ (λ x y. refl) c.args.bank.now c.self.inside.meanings.entries c.args.name c.requires.name c.args.meaning c.requires.meaning (λ q. some_of c.text.result.now (sym c.if-is_empty.ensures) (c.text.ensures.text ∙ q)) old m (along (IsScope c.args.bank.now old) (sym c.self.view_is) h) e)

pub returns-clause-restored : goal.returns-clause-restored
returns-clause-restored c new m h e =
    along (IsScope c.args.bank.now new) (sym c.in-Ok.ensures.entries)
    (is_restored _ (λ x y. refl) c.args.bank.now c.self.inside.meanings.entries c.args.name c.requires.name c.args.meaning c.requires.meaning new m (along (IsScope c.args.bank.now (with_meaning (text_of c.args.bank.now c.args.name) m new)) (sym c.self.view_is) h) e)
