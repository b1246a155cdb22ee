use Rattle.std.proofs.Common.{◌≡◌, ◌∙◌, Bool, true, false, refl, sym, ap, not, ◌||◌}
use Rattle.lq_env.specs.Inductive.{among}
use Rattle.lq_env.proofs.Naming.{among_any, not_declared}
use Rattle.lq_env.proofs.inductive.note.Goals as goal

twice : (b : Bool) → not (not b) ≡ b
twice true = refl
twice false = refl

pub returns-clause-taken : goal.returns-clause-taken
returns-clause-taken c =
    ap not c.in_ok-is_new.ensures.added ∙ twice _ ∙ among_any c.args.name _ (λ y. refl) c.args.seen.now.keys
    ∙ ap (λ b. b || among c.args.seen.now.keys c.args.name) (sym (not_declared c.find.result _ c.find.ensures (sym c.is_some.ensures ∙ c.if-is_some.false)))
