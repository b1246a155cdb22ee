use Rattle.std.proofs.Common.{sym, ap, ap₂, ◌∙◌, ◌≡◌, ◌++◌, ◌∷◌, []}
use Rattle.std.proofs.Common.{subst as along}
use Rattle.std.specs.Prelude.{codes}
use Rattle.lq_terms.specs.Terms.{Grows, tree_of, text_of}
use Rattle.lq_terms.proofs.Growth.{Grows-trans}
use Rattle.lq_env.specs.Telescopes.{span}
use Rattle.lq_env.specs.Building.{binders_of}
use Rattle.lq_env.specs.Computing.{AreWithinLimits}
use Rattle.lq_env.specs.Premises.{Overflows, premise_binders}
use Rattle.lq_env.proofs.Families.{family_of-grown, IsFamily-grown}
use Rattle.lq_env.proofs.DraftLaws.{binders_push}
use Rattle.lq_env.proofs.generated.with_premises.Goals as goal

pub add_premises-requires-clause-family : goal.add_premises-requires-clause-family
add_premises-requires-clause-family c =
    IsFamily-grown c.args.bank.now c.name-2.new.self (Grows-trans c.args.bank.now c.name.new.self c.name-2.new.self c.name.ensures.grows c.name-2.ensures.grows) c.args.family.now c.requires.family

pub add_premises-requires-clause-stored : goal.add_premises-requires-clause-stored
add_premises-requires-clause-stored c =
    along AreWithinLimits
    (sym (family_of-grown c.args.bank.now c.name-2.new.self (Grows-trans c.args.bank.now c.name.new.self c.name-2.new.self c.name.ensures.grows c.name-2.ensures.grows) c.args.family.now c.requires.family.has)) c.requires.stored

pub returns-in-Err-add_premises-clause-refused : goal.returns-in-Err-add_premises-clause-refused
returns-in-Err-add_premises-clause-refused c =
    let g : Grows c.args.bank.now c.name-2.new.self = Grows-trans c.args.bank.now c.name.new.self c.name-2.new.self c.name.ensures.grows c.name-2.ensures.grows in
    let first : binders_of c.name-2.new.self c.push_binder.new.draft.binders.items ≡ (codes "Q", tree_of c.args.bank.now c.args.predicate) ∷ [] =
    binders_push c.name-2.new.self c.new.result.items c.push_binder.new.draft.binders.items (record { name = c.in_ok-name.name; kind = c.args.predicate }) c.in_default.ensures.binders
    ∙ ap (λ z. binders_of c.name-2.new.self z ++ (text_of c.name-2.new.self c.in_ok-name.name, tree_of c.name-2.new.self c.args.predicate) ∷ []) c.new.ensures.items
    ∙ ap (λ b. b ∷ []) (ap₂ (λ x t. (x, t)) (c.name-2.ensures.grows.text c.in_ok-name.name c.in_ok-name.ensures.named.has ∙ c.in_ok-name.ensures.named.is) (g.tree c.args.predicate c.requires.predicate)) in
    along (Overflows c.in-Err-add_premises.fault)
    (ap₂ (λ bs f. span (bs ++ premise_binders f 0 f.constructors)) first (family_of-grown c.args.bank.now c.name-2.new.self g c.args.family.now c.requires.family.has)) c.in-Err-add_premises.ensures.refused

pub returns-clause-binders : goal.returns-clause-binders
returns-clause-binders c =
    let g : Grows c.args.bank.now c.name-2.new.self = Grows-trans c.args.bank.now c.name.new.self c.name-2.new.self c.name.ensures.grows c.name-2.ensures.grows in
    let first : binders_of c.name-2.new.self c.push_binder.new.draft.binders.items ≡ (codes "Q", tree_of c.args.bank.now c.args.predicate) ∷ [] =
    binders_push c.name-2.new.self c.new.result.items c.push_binder.new.draft.binders.items (record { name = c.in_ok-name.name; kind = c.args.predicate }) c.in_default.ensures.binders
    ∙ ap (λ z. binders_of c.name-2.new.self z ++ (text_of c.name-2.new.self c.in_ok-name.name, tree_of c.name-2.new.self c.args.predicate) ∷ []) c.new.ensures.items
    ∙ ap (λ b. b ∷ []) (ap₂ (λ x t. (x, t)) (c.name-2.ensures.grows.text c.in_ok-name.name c.in_ok-name.ensures.named.has ∙ c.in_ok-name.ensures.named.is) (g.tree c.args.predicate c.requires.predicate)) in
    c.in_default-add_premises.ensures.binders ∙ ap₂ (λ bs f. bs ++ premise_binders f 0 f.constructors) first (family_of-grown c.args.bank.now c.name-2.new.self g c.args.family.now c.requires.family.has)
