use Rattle.lq_terms.specs.Terms.{text_of}
use Rattle.lq_env.specs.Environments.{env_of}
use Rattle.lq_kernel.proofs.Leaves.{FamilyThere, family_there, elim_permitted, elim_out}
use Rattle.lq_kernel.proofs.Told.{own}
use Rattle.lq_calculus.specs.Declarations.{lookup}
use Rattle.lq_kernel.proofs.lookups.permitted_type.Goals as goal

pub within_limits-requires : goal.within_limits-requires
within_limits-requires c =
    let there : FamilyThere (lookup (env_of c.args.bank.now c.args.env.now) (text_of c.args.bank.now c.args.name)) = (family_there c.args.bank.now c.args.env.now c.args.name c.requires.env (own c.args.bank.now c.args.name c.names_apart.ensures c.requires.name) c.requires.family) in
    (c.in-Ok.ensures.told c.args.bank.now there.owner there.into c.requires.env (own c.args.bank.now c.args.name c.names_apart.ensures c.requires.name) c.requires.sort there.is).1.term.has

pub returns-in-Ok : goal.returns-in-Ok
returns-in-Ok c b =
    let there : FamilyThere (lookup (env_of c.args.bank.now c.args.env.now) (text_of c.args.bank.now c.args.name)) = (family_there c.args.bank.now c.args.env.now c.args.name c.requires.env (own c.args.bank.now c.args.name c.names_apart.ensures c.requires.name) c.requires.family) in
    elim_permitted c.args.bank.now c.args.name c.args.sort (lookup (env_of c.args.bank.now c.args.env.now) (text_of c.args.bank.now c.args.name)) there b c.in-Ok.kind c.within_limits.result (c.in-Ok.ensures.told c.args.bank.now there.owner there.into c.requires.env (own c.args.bank.now c.args.name c.names_apart.ensures c.requires.name) c.requires.sort there.is) c.within_limits.ensures

pub returns-in-Err : goal.returns-in-Err
returns-in-Err c b =
    let there : FamilyThere (lookup (env_of c.args.bank.now c.args.env.now) (text_of c.args.bank.now c.args.name)) = (family_there c.args.bank.now c.args.env.now c.args.name c.requires.env (own c.args.bank.now c.args.name c.names_apart.ensures c.requires.name) c.requires.family) in
    elim_out c.args.bank.now c.args.name c.args.sort (lookup (env_of c.args.bank.now c.args.env.now) (text_of c.args.bank.now c.args.name)) there b c.in-Err.fault c.requires.name (c.in-Err.ensures.told c.args.bank.now there.owner there.into c.requires.env (own c.args.bank.now c.args.name c.names_apart.ensures c.requires.name) c.requires.sort there.is)
