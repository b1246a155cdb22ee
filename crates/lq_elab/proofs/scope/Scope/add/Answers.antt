use Rattle.std.proofs.Common.{refl, sym}
use Rattle.std.proofs.Common.{subst as along}
use Rattle.lq_elab.specs.Scopes.{IsScope}
use Rattle.lq_elab.proofs.ScopeLaws.{scope_inserted}
use Rattle.lq_elab.proofs.scope.Scope.add.Goals as goal

pub returns : goal.returns
returns c old new h e others =
    along (IsScope c.args.bank.now new) (sym c.in-Ok.ensures.entries)
    (scope_inserted _ (λ x y. refl) c.args.bank.now old new c.self.inside.meanings.entries (along (IsScope c.args.bank.now old) (sym c.self.view_is) h) c.args.name c.requires.name c.args.meaning c.requires.meaning e others)
