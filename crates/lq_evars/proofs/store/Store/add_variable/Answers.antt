use Rattle.std.proofs.Common.{◌≡◌, ◌<◌, ◌≤◌, ◌∙◌, sym, refl, ap, subst, rules, [], ◌∷◌, ◌++◌, length}
use Rattle.lq_evars.specs.Places.{IsNewName, numbers_from, number_in, number_of}
use Rattle.lq_evars.proofs.Variables.{number_last, numbers_unnamed, numbers_named, room_left}
use Rattle.lq_evars.proofs.store.Store.add_variable.Goals as goal

pub invariant_of-self-in_default : goal.invariant_of-self-in_default
invariant_of-self-in_default c =
    subst (λ vs. (c.self.inside.numbers.entries ≡ numbers_from 0 vs) × (length vs ≤ 16777216)) (sym c.in_ok-push.ensures.items) (
      numbers_unnamed c.self.inside.numbers.entries c.self.inside.variables.items c.args.variable c.self.invariant.0 c.in_default.is,
      room_left c.self.inside.variables.items c.args.variable (subst (λ s. length s.variables < 16777216) (sym c.self.view_is) c.requires.room),
    )

pub invariant_of-self-in-Ok : goal.invariant_of-self-in-Ok
invariant_of-self-in-Ok c =
    let e : c.len-place.result ≡ length c.self.inside.variables.items = search rules in
    subst (λ vs. (c.insert.new.self.entries ≡ numbers_from 0 vs) × (length vs ≤ 16777216)) (sym c.in_ok-push.ensures.items) (
      c.in-Ok.ensures.entries
          ∙ number_last c.in-Some.name _ _ (λ y. refl) c.self.inside.numbers.entries
          (ap (λ es. number_in es c.in-Some.name) c.self.invariant.0 ∙ ap (λ s. number_of s c.in-Some.name) c.self.view_is ∙ subst (IsNewName c.args.self.now) c.in-Some.is c.requires.new)
          ∙ ap (λ n. c.self.inside.numbers.entries ++ (c.in-Some.name, n) ∷ []) e
          ∙ numbers_named c.self.inside.numbers.entries c.self.inside.variables.items c.args.variable c.in-Some.name c.self.invariant.0 c.in-Some.is,
      room_left c.self.inside.variables.items c.args.variable (subst (λ s. length s.variables < 16777216) (sym c.self.view_is) c.requires.room),
    )
