use Rattle.std.proofs.Common.{ap}
use Rattle.std.specs.Prelude.{map, option_map}
use Rattle.lq_ast.specs.Plain.{plain, plain_binders, joined}
use Rattle.lq_terms.specs.Terms.{text_of}
use Rattle.lq_env.specs.Environments.{env_of}
use Rattle.lq_evars.specs.Places.{store_of}
use Rattle.lq_elaborated.proofs.DefineLaws.{as_written, as_found, definition_leaves}
use Rattle.lq_elaborated.proofs.defining.define.Goals as goal

pub returns-in-Some-clause-answer : goal.returns-in-Some-clause-answer
returns-in-Some-clause-answer g c =
    (as_written c.define_written.new.work.bank.now c.define_written.result c.define_written.new.env (env_of c.args.work.now.bank.now c.args.env.now) (text_of c.args.work.now.bank.now c.args.name) (joined (map plain_binders c.args.groups.now)) (option_map (λ A. plain A.now) c.args.kind) (plain c.args.body.now) (store_of c.args.work.now.bank.now c.in-Ok.store) c.args.work.now.ticks.now.left c.define_written.new.work.ticks.now.left (c.in-Ok.ensures.told c.args.work.now.bank.now)
    (plain c.in-Some.kind.now) (ap (λ z. option_map (λ A. plain A.now) z) c.in-Some.is) c.define_written.ensures.answer)

pub returns-in-Some-clause-plain : goal.returns-in-Some-clause-plain
returns-in-Some-clause-plain g c =
    definition_leaves c.define_written.new.work.bank.now c.define_written.result c.define_written.new.env (env_of c.args.work.now.bank.now c.args.env.now) (text_of c.args.work.now.bank.now c.args.name) (joined (map plain_binders c.args.groups.now)) (option_map (λ A. plain A.now) c.args.kind) (plain c.args.body.now) c.args.work.now.ticks.now.left c.define_written.new.work.ticks.now.left c.requires.plain (as_written c.define_written.new.work.bank.now c.define_written.result c.define_written.new.env (env_of c.args.work.now.bank.now c.args.env.now) (text_of c.args.work.now.bank.now c.args.name) (joined (map plain_binders c.args.groups.now)) (option_map (λ A. plain A.now) c.args.kind) (plain c.args.body.now) (store_of c.args.work.now.bank.now c.in-Ok.store) c.args.work.now.ticks.now.left c.define_written.new.work.ticks.now.left (c.in-Ok.ensures.told c.args.work.now.bank.now)
    (plain c.in-Some.kind.now) (ap (λ z. option_map (λ A. plain A.now) z) c.in-Some.is) c.define_written.ensures.answer)

pub returns-clause-answer : goal.returns-clause-answer
returns-clause-answer g c =
    (as_found c.define_found.new.work.bank.now c.define_found.result c.define_found.new.env (env_of c.args.work.now.bank.now c.args.env.now) (text_of c.args.work.now.bank.now c.args.name) (joined (map plain_binders c.args.groups.now)) (option_map (λ A. plain A.now) c.args.kind) (plain c.args.body.now) (store_of c.args.work.now.bank.now c.in-Ok.store) c.args.work.now.ticks.now.left c.define_found.new.work.ticks.now.left (c.in-Ok.ensures.told c.args.work.now.bank.now)
    (ap (λ z. option_map (λ A. plain A.now) z) c.in-None.is) c.define_found.ensures.answer)

pub returns-clause-plain : goal.returns-clause-plain
returns-clause-plain g c =
    definition_leaves c.define_found.new.work.bank.now c.define_found.result c.define_found.new.env (env_of c.args.work.now.bank.now c.args.env.now) (text_of c.args.work.now.bank.now c.args.name) (joined (map plain_binders c.args.groups.now)) (option_map (λ A. plain A.now) c.args.kind) (plain c.args.body.now) c.args.work.now.ticks.now.left c.define_found.new.work.ticks.now.left c.requires.plain (as_found c.define_found.new.work.bank.now c.define_found.result c.define_found.new.env (env_of c.args.work.now.bank.now c.args.env.now) (text_of c.args.work.now.bank.now c.args.name) (joined (map plain_binders c.args.groups.now)) (option_map (λ A. plain A.now) c.args.kind) (plain c.args.body.now) (store_of c.args.work.now.bank.now c.in-Ok.store) c.args.work.now.ticks.now.left c.define_found.new.work.ticks.now.left (c.in-Ok.ensures.told c.args.work.now.bank.now)
    (ap (λ z. option_map (λ A. plain A.now) z) c.in-None.is) c.define_found.ensures.answer)
