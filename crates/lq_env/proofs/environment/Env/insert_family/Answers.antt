use Rattle.std.proofs.Common.{◌∙◌, ◌++◌, sym, ap, subst}
use Rattle.lq_env.specs.Inductive.{AreFree, constructors_declared, firsts}
use Rattle.lq_env.proofs.Declaring.{free_part, free_behind, free_after, firsts_constructors}
use Rattle.lq_env.proofs.environment.Env.insert_family.Goals as goal

pub insert_constructors-requires-clause-free : goal.insert_constructors-requires-clause-free
insert_constructors-requires-clause-free c =
    subst (λ cs. AreFree c.insert.new.self (firsts cs)) (sym c.deref.ensures.value)
    (free_part c.insert.new.self (firsts c.args.types.constructors.items) (firsts c.args.eliminators.now)
    (free_after c.args.self.now c.insert.new.self c.args.family.name _ (firsts c.args.types.constructors.items ++ firsts c.args.eliminators.now) c.in_ok-insert.ensures.ok c.requires.free))

pub insert_eliminators-requires : goal.insert_eliminators-requires
insert_eliminators-requires c =
    subst (λ ds. AreFree ds (firsts c.args.eliminators.now)) (sym c.in_ok-insert_constructors.ensures.ok)
    (free_behind c.insert.new.self (constructors_declared c.args.family.name 0 c.deref.result.now) (firsts c.args.types.constructors.items) (firsts c.args.eliminators.now)
    (firsts_constructors c.args.family.name 0 c.deref.result.now ∙ ap firsts c.deref.ensures.value)
    (free_after c.args.self.now c.insert.new.self c.args.family.name _ (firsts c.args.types.constructors.items ++ firsts c.args.eliminators.now) c.in_ok-insert.ensures.ok c.requires.free))
