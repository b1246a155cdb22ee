use Rattle.lq_terms.specs.Terms.{text_of, tree_of}
use Rattle.lq_env.specs.Environments.{env_of}
use Rattle.lq_env.specs.Families.{family_of}
use Rattle.lq_kernel.proofs.FamilyWork.{constant_derives, family_derives}
use Rattle.lq_kernel.proofs.kernel.declare.Goals as goal

pub returns-in-Constant-clause-derived : goal.returns-in-Constant-clause-derived
returns-in-Constant-clause-derived g c =
    constant_derives c.declare_constant.new.work.bank.now c.declare_constant.result c.declare_constant.new.env (env_of c.args.work.now.bank.now c.args.env.now) (text_of c.args.work.now.bank.now c.in-Constant.name) (tree_of c.args.work.now.bank.now c.in-Constant.kind)
    (tree_of c.args.work.now.bank.now c.in-Constant.body) c.in-Constant.opaque c.args.work.now.ticks.now.left c.declare_constant.new.work.ticks.now.left c.declare_constant.ensures.answer

pub returns-in-Inductive-clause-derived : goal.returns-in-Inductive-clause-derived
returns-in-Inductive-clause-derived g c =
    family_derives c.declare_family.new.work.bank.now c.declare_family.result c.declare_family.new.env (env_of c.args.work.now.bank.now c.args.env.now) (family_of c.args.work.now.bank.now c.in-Inductive.family) c.args.work.now.ticks.now.left c.declare_family.new.work.ticks.now.left
    c.declare_family.ensures.answer
