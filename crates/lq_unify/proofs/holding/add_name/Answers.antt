use Rattle.std.proofs.Common.{◌∙◌, refl, sym, ap, ◌||◌}
use Rattle.lq_terms.specs.Terms.{text_of}
use Rattle.lq_unify.specs.Holding.{one_marked}
use Rattle.lq_unify.proofs.HeldLaws.{or_third}
use Rattle.lq_unify.proofs.HoldLaws.{marked_insert, names_insert}
use Rattle.std.proofs.Common.{subst as along}
use Rattle.std.specs.List.{AllByRecursion}
use Rattle.lq_terms.specs.Terms.{HasName}
use Rattle.lq_unify.proofs.holding.add_name.Goals as goal

pub returns-in-Ok-clause-told : goal.returns-in-Ok-clause-told
returns-in-Ok-clause-told c = λ m.
    ap (λ xs. c.args.all.now.variable || one_marked c.args.bank.now m xs) c.in-Ok.ensures.keys
    ∙ ap (λ b. c.args.all.now.variable || b) (marked_insert c.args.bank.now _ (λ x y. refl) m c.args.all.now.names.keys c.args.name)
    ∙ sym (or_third c.args.all.now.variable (one_marked c.args.bank.now m c.args.all.now.names.keys) (m (text_of c.args.bank.now c.args.name)))

pub returns-in-Ok-clause-names : goal.returns-in-Ok-clause-names
returns-in-Ok-clause-names c =
    along (AllByRecursion (HasName c.args.bank.now)) (sym c.in-Ok.ensures.keys)
    (names_insert c.args.bank.now _ (λ x y. refl) c.args.all.now.names.keys c.args.name c.requires.names c.requires.name)
