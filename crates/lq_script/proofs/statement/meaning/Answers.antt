use Rattle.std.proofs.Common.{sym, ◌∙◌}
use Rattle.lq_terms.specs.Terms.{text_of}
use Rattle.lq_env.specs.Environments.{env_of}
use Rattle.lq_script.specs.Scopes.{scope_of}
use Rattle.lq_script.proofs.Meanings.{made_bound, made_constant, meant_nothing}
use Rattle.lq_script.proofs.statement.meaning.Goals as goal
use Rattle.lq_script.proofs.statement.meaning.Goals.{in-Some, in-None+in-Some-constant_type}

pub returns-in-None-constant_type-clause-answer : goal.returns-in-None-constant_type-clause-answer
returns-in-None-constant_type-clause-answer c =
    meant_nothing (env_of c.args.bank.now c.args.env.now) (scope_of c.args.bank.now c.args.binders.now) (text_of c.args.bank.now c.args.name) (sym c.nearest.ensures ∙ c.in-None.is) c.in-None-constant_type.ensures

pub returns-clause-answer : goal.returns-clause-answer
returns-clause-answer c =
    elim c.match-nearest.branch [
      | in-Some w ↦
          made_bound c.args.bank.now c.make.new.self c.in_ok-make.field-0 c.match-nearest.node (env_of c.args.bank.now c.args.env.now) (scope_of c.args.bank.now c.args.binders.now) (text_of c.args.bank.now c.args.name)
          _ c.in_ok-make.ensures.made w.node-is (sym c.nearest.ensures ∙ w.in-Some.is)
      | in-None+in-Some-constant_type w ↦
          made_constant c.args.bank.now c.make.new.self c.in_ok-make.field-0 c.match-nearest.node (env_of c.args.bank.now c.args.env.now) (scope_of c.args.bank.now c.args.binders.now) c.args.name
          _ c.in_ok-make.ensures.made w.node-is (sym c.nearest.ensures ∙ w.in-None.is) w.in-Some-constant_type.ensures.1
    ]
