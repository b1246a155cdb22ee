use Rattle.std.proofs.Common.{◌∙◌, ◌++◌, sym, ap₂}
use Rattle.lq_env.specs.Environments.{env_of}
use Rattle.lq_env.specs.Families.{family_of}
use Rattle.lq_env.specs.Inductive.{family_declared}
use Rattle.lq_env.proofs.Entries.{declares, ready_free, refused, on_ok}
use Rattle.lq_env.proofs.environment.Env.add_inductive.Goals as goal

pub returns-in_err-eliminators-clause-answer : goal.returns-in_err-eliminators-clause-answer
returns-in_err-eliminators-clause-answer c =
    refused c.prepare.new.bank c.from_residual.result c.in_err-eliminators.field-0.0 c.args.self.now (env_of c.args.bank.now c.args.self.now) (family_of c.args.bank.now c.args.family) c.args.sorts.now c.from_residual.ensures.1
    c.in_err-eliminators.ensures.refused

pub insert_family-requires-clause-free : goal.insert_family-requires-clause-free
insert_family-requires-clause-free c =
    ready_free c.args.bank.now c.prepare.new.bank c.prepare.ensures.grows c.args.self.now c.requires.env c.args.family c.requires.family c.args.sorts.now c.requires.sorts c.in_ok-eliminators.eliminators.items c.in_ok-eliminators.types
    c.in_ok-eliminators.ensures.ready c.in_ok-eliminators.types.constructors.items c.in_ok-eliminators.ensures.same c.deref.result.now c.deref.ensures.value

pub returns-clause-answer : goal.returns-clause-answer
returns-clause-answer c =
    declares c.args.bank.now c.prepare.new.bank c.prepare.ensures.grows c.args.self.now c.requires.env c.args.family c.requires.family c.args.sorts.now c.requires.sorts c.in_ok-eliminators.eliminators.items c.in_ok-eliminators.types
    c.in_ok-eliminators.ensures.ready c.insert_family.new.self
    (on_ok c.insert_family.result _ c.insert_family.ensures.ok (sym c.is_err.ensures.value ∙ c.if-is_err.false)
    ∙ ap₂ (λ ss es. c.args.self.now ++ family_declared c.args.family ss c.in_ok-eliminators.types es) c.in_ok-sorts.ensures c.deref.ensures.value)
