use Rattle.std.proofs.Common.{sym, subst}
use Rattle.std.specs.Prelude.{map}
use Rattle.lq_ast.specs.Plain.{plain, plain_binders, joined}
use Rattle.lq_ast.specs.PlainCommands.{plain_constructor}
use Rattle.lq_terms.specs.Contexts.{context_of}
use Rattle.lq_terms.specs.Terms.{text_of, tree_of}
use Rattle.lq_terms.proofs.Growth.{Grows-trans}
use Rattle.lq_env.specs.Environments.{env_of}
use Rattle.lq_env.proofs.Grown.{env_of-grown, IsEnv-grown}
use Rattle.lq_evars.specs.Places.{store_of}
use Rattle.lq_solving.specs.Claims.{ArePlainDeclarations}
use Rattle.lq_solving.specs.Kept.{StandsIn}
use Rattle.lq_elaborated.specs.Finding.{found_in}
use Rattle.lq_elaborated.proofs.DefineLaws.{derived_as, readable}
use Rattle.lq_elaborated.proofs.InductiveLaws.{still_new}
use Rattle.lq_elaborated.proofs.WholeFamily.{arity_as, whole_declares, whole_stops, family_leaves}
use Rattle.lq_elaborated.proofs.families.define_family.Goals as goal

pub declare_behind-requires-clause-env : goal.declare_behind-requires-clause-env
declare_behind-requires-clause-env g c =
    IsEnv-grown c.args.work.now.bank.now c.term_in.new.work.bank.now c.in-Ok-term_in.ensures.grows c.args.env.now c.requires.env

pub declare_behind-requires-clause-plain : goal.declare_behind-requires-clause-plain
declare_behind-requires-clause-plain g c =
    subst ArePlainDeclarations (sym (env_of-grown c.args.work.now.bank.now c.term_in.new.work.bank.now c.in-Ok-term_in.ensures.grows c.args.env.now c.requires.env)) c.requires.plain

pub declare_behind-requires-clause-new : goal.declare_behind-requires-clause-new
declare_behind-requires-clause-new g c =
    still_new c.args.work.now.bank.now c.term_in.new.work.bank.now c.in-Ok-term_in.ensures.grows c.args.env.now c.requires.env c.args.name c.requires.name c.requires.new

pub declare_behind-requires-clause-arity : goal.declare_behind-requires-clause-arity
declare_behind-requires-clause-arity g c =
    (readable c.term_in.new.work.bank.now (store_of c.args.work.now.bank.now c.in-Ok.store) c.term_in.new.store (context_of c.args.work.now.bank.now c.new-context.result) c.in-Ok-term_in.found c.in-Ok-term_in.ensures.stands).0

pub declare_behind-requires-clause-stands : goal.declare_behind-requires-clause-stands
declare_behind-requires-clause-stands g c =
    subst (λ h. StandsIn (store_of c.term_in.new.work.bank.now c.term_in.new.store) (context_of c.args.work.now.bank.now h) (tree_of c.term_in.new.work.bank.now c.in-Ok-term_in.found.term)) c.new-context.ensures c.in-Ok-term_in.ensures.stands.term_stands

pub returns-in-Ok-term_in-clause-answer : goal.returns-in-Ok-term_in-clause-answer
returns-in-Ok-term_in-clause-answer g c =
    whole_declares c.declare_behind.new.work.bank.now c.args.work.now.bank.now (env_of c.args.work.now.bank.now c.args.env.now) (text_of c.args.work.now.bank.now c.args.name) (joined (map plain_binders c.args.groups.now)) (plain c.args.kind.now) (map plain_constructor c.args.constructors.now) c.new-context.result (store_of c.args.work.now.bank.now c.in-Ok.store) c.args.parameters c.args.work.now.ticks.now.left c.new-context.ensures (c.in-Ok.ensures.told c.args.work.now.bank.now) c.requires.count c.declare_behind.result c.declare_behind.new.env (found_in c.term_in.new.work.bank.now c.term_in.new.store c.in-Ok-term_in.found) c.term_in.new.work.ticks.now.left c.declare_behind.new.work.ticks.now.left c.in-Ok-term_in.ensures.answer
    (arity_as c.args.work.now.bank.now c.term_in.new.work.bank.now c.declare_behind.new.work.bank.now c.in-Ok-term_in.ensures.grows c.args.env.now c.declare_behind.new.env c.requires.env c.args.name c.requires.name c.args.parameters (store_of c.term_in.new.work.bank.now c.term_in.new.store) (tree_of c.term_in.new.work.bank.now c.in-Ok-term_in.found.term) (map plain_constructor c.args.constructors.now) c.declare_behind.result c.term_in.new.work.ticks.now.left c.declare_behind.new.work.ticks.now.left c.declare_behind.ensures.answer)

pub returns-in-Ok-term_in-clause-plain : goal.returns-in-Ok-term_in-clause-plain
returns-in-Ok-term_in-clause-plain g c =
    family_leaves c.declare_behind.new.work.bank.now c.declare_behind.result c.declare_behind.new.env (env_of c.args.work.now.bank.now c.args.env.now) (text_of c.args.work.now.bank.now c.args.name) (joined (map plain_binders c.args.groups.now)) (plain c.args.kind.now) (map plain_constructor c.args.constructors.now) c.args.work.now.ticks.now.left c.declare_behind.new.work.ticks.now.left c.requires.plain
    (whole_declares c.declare_behind.new.work.bank.now c.args.work.now.bank.now (env_of c.args.work.now.bank.now c.args.env.now) (text_of c.args.work.now.bank.now c.args.name) (joined (map plain_binders c.args.groups.now)) (plain c.args.kind.now) (map plain_constructor c.args.constructors.now) c.new-context.result (store_of c.args.work.now.bank.now c.in-Ok.store) c.args.parameters c.args.work.now.ticks.now.left c.new-context.ensures (c.in-Ok.ensures.told c.args.work.now.bank.now) c.requires.count c.declare_behind.result c.declare_behind.new.env (found_in c.term_in.new.work.bank.now c.term_in.new.store c.in-Ok-term_in.found) c.term_in.new.work.ticks.now.left c.declare_behind.new.work.ticks.now.left c.in-Ok-term_in.ensures.answer
    (arity_as c.args.work.now.bank.now c.term_in.new.work.bank.now c.declare_behind.new.work.bank.now c.in-Ok-term_in.ensures.grows c.args.env.now c.declare_behind.new.env c.requires.env c.args.name c.requires.name c.args.parameters (store_of c.term_in.new.work.bank.now c.term_in.new.store) (tree_of c.term_in.new.work.bank.now c.in-Ok-term_in.found.term) (map plain_constructor c.args.constructors.now) c.declare_behind.result c.term_in.new.work.ticks.now.left c.declare_behind.new.work.ticks.now.left c.declare_behind.ensures.answer))

pub returns-in-Ok-term_in-clause-derived : goal.returns-in-Ok-term_in-clause-derived
returns-in-Ok-term_in-clause-derived g c =
    derived_as c.args.work.now.bank.now c.term_in.new.work.bank.now c.in-Ok-term_in.ensures.grows c.args.env.now c.requires.env (env_of c.declare_behind.new.work.bank.now c.declare_behind.new.env) c.declare_behind.result c.declare_behind.ensures.derived

pub returns-clause-answer : goal.returns-clause-answer
returns-clause-answer g c =
    whole_stops c.term_in.new.work.bank.now c.args.work.now.bank.now (env_of c.args.work.now.bank.now c.args.env.now) (text_of c.args.work.now.bank.now c.args.name) (joined (map plain_binders c.args.groups.now)) (plain c.args.kind.now) (map plain_constructor c.args.constructors.now) c.new-context.result (store_of c.args.work.now.bank.now c.in-Ok.store) c.args.parameters c.args.work.now.ticks.now.left c.new-context.ensures (c.in-Ok.ensures.told c.args.work.now.bank.now) c.requires.count c.in-Err-term_in.stop c.term_in.new.work.ticks.now.left c.in-Err-term_in.ensures.answer

pub returns-in-Ok-term_in-clause-grows : goal.returns-in-Ok-term_in-clause-grows
returns-in-Ok-term_in-clause-grows g c = Grows-trans c.args.work.now.bank.now c.term_in.new.work.bank.now c.declare_behind.new.work.bank.now c.in-Ok-term_in.ensures.grows c.declare_behind.ensures.grows

pub returns-clause-env : goal.returns-clause-env
returns-clause-env g c = IsEnv-grown c.args.work.now.bank.now c.term_in.new.work.bank.now c.in-Err-term_in.ensures.grows c.args.env.now c.requires.env
