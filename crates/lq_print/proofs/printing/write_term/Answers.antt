use Rattle.std.proofs.Common.{◌^◌, arith}
use Rattle.lq_terms.specs.Terms.{tree_of}
use Rattle.lq_env.specs.Environments.{env_of}
use Rattle.lq_print.proofs.VisitLaws.{on_ok, ok_always}
use Rattle.lq_print.proofs.BackLaws.{spelled_flat, few_pieces}
use Rattle.lq_print.proofs.printing.write_term.Goals as goal

pub returns-clause-text : goal.returns-clause-text
returns-clause-text c =
    on_ok c.write_spelled.result c.write_spelled.ensures
    (λ h. h (env_of c.args.bank.now c.args.env.now) (tree_of c.args.bank.now c.args.term)
    (spelled_flat c.args.bank.now (env_of c.args.bank.now c.args.env.now) (tree_of c.args.bank.now c.args.term) c.args.spelling.now c.spell.new.spelling c.requires.pieces c.in_ok-spell.ensures))

pub returns-clause-few : goal.returns-clause-few
returns-clause-few c =
    ok_always c.write_spelled.result
    (few_pieces c.args.bank.now (env_of c.args.bank.now c.args.env.now) (tree_of c.args.bank.now c.args.term) c.spell.new.spelling (2 ^ 63)
    (spelled_flat c.args.bank.now (env_of c.args.bank.now c.args.env.now) (tree_of c.args.bank.now c.args.term) c.args.spelling.now c.spell.new.spelling c.requires.pieces c.in_ok-spell.ensures)
    (omega (arith, c.spell.new.spelling.pieces.ok, c.spell.new.spelling.pieces.small)))
