use Rattle.lq_calculus.specs.Declarations.{lookup}
use Rattle.lq_terms.specs.Terms.{text_of}
use Rattle.lq_env.specs.Environments.{env_of}
use Rattle.lq_prims.proofs.FamilyLaws.{no_entry, family_entry, constant_entry, arity_entry, constructor_entry, eliminator_entry}
use Rattle.lq_prims.proofs.inductives.family_at.Goals as goal

pub returns-in-Family : goal.returns-in-Family
returns-in-Family c bank e own = family_entry bank (lookup (env_of bank c.args.env.now) (text_of bank c.args.name)) _ _ _ c.in-Family.is (c.in-Some.ensures.told bank e own)

pub returns-in-Constant : goal.returns-in-Constant
returns-in-Constant c bank e own = constant_entry bank (lookup (env_of bank c.args.env.now) (text_of bank c.args.name)) _ _ _ _ c.in-Constant.is (c.in-Some.ensures.told bank e own)

pub returns-in-Arity : goal.returns-in-Arity
returns-in-Arity c bank e own = arity_entry bank (lookup (env_of bank c.args.env.now) (text_of bank c.args.name)) _ _ c.in-Arity.is (c.in-Some.ensures.told bank e own)

pub returns-in-Constructor : goal.returns-in-Constructor
returns-in-Constructor c bank e own = constructor_entry bank (lookup (env_of bank c.args.env.now) (text_of bank c.args.name)) _ _ _ c.in-Constructor.is (c.in-Some.ensures.told bank e own)

pub returns-in-Eliminator : goal.returns-in-Eliminator
returns-in-Eliminator c bank e own = eliminator_entry bank (lookup (env_of bank c.args.env.now) (text_of bank c.args.name)) _ _ _ c.in-Eliminator.is (c.in-Some.ensures.told bank e own)

pub returns-in-None : goal.returns-in-None
returns-in-None c bank e own = no_entry bank (lookup (env_of bank c.args.env.now) (text_of bank c.args.name)) (c.in-None.ensures.told bank e own)
