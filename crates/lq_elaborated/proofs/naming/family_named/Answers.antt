use Rattle.std.proofs.Common.{refl}
use Rattle.lq_env.specs.Families.{family_of}
use Rattle.lq_terms.specs.Terms.{text_of}
use Rattle.lq_terms.proofs.Growth.{Grows-trans}
use Rattle.lq_elaborated.proofs.NamingLaws.{names_are}
use Rattle.lq_elaborated.proofs.naming.family_named.Goals as goal

pub returns-clause-names : goal.returns-clause-names
returns-clause-names c =
    names_are c.named.new.bank (family_of c.named.new.bank (record { name = c.args.name; parameters = c.new.result; indices = c.new-2.result; sort = Rattle.lq_trees.specs.declared.Sort.Sort.Base; constructors = c.in_ok-constructors.constructors }))
    (text_of c.args.bank.now c.args.name) c.in_ok-constructors.constructors c.args.constructors.now
    ((Grows-trans c.args.bank.now c.make.new.self c.named.new.bank c.in_ok-kind.ensures.grows c.in_ok-constructors.ensures.grows).text c.args.name c.requires.name) refl c.in_ok-constructors.ensures.named
