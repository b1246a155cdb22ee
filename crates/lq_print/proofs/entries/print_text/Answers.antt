use Rattle.lq_calculus.specs.Declarations.{lookup}
use Rattle.lq_terms.specs.Terms.{text_of}
use Rattle.lq_env.specs.Environments.{env_of}
use Rattle.lq_texts.specs.Views.{known, print_text}
use Rattle.lq_print.proofs.EntryLaws.{line_of_found, fault_of_found}
use Rattle.lq_print.proofs.entries.print_text.Goals as goal

pub returns-in-Ok-line_text : goal.returns-in-Ok-line_text
unfolding print_text
returns-in-Ok-line_text c =
    line_of_found c.args.bank.now (env_of c.args.bank.now c.args.env.now) (text_of c.args.bank.now c.args.name) c.in-Ok.found
    (known (env_of c.args.bank.now c.args.env.now) (text_of c.args.bank.now c.args.name) (lookup (env_of c.args.bank.now c.args.env.now) (text_of c.args.bank.now c.args.name)))
    c.in-Ok-line_text.text c.in-Ok.ensures.known c.in-Ok-line_text.ensures

pub returns-in-Err : goal.returns-in-Err
unfolding print_text
returns-in-Err c =
    fault_of_found c.args.bank.now (env_of c.args.bank.now c.args.env.now) (text_of c.args.bank.now c.args.name) c.in-Err.fault
    (known (env_of c.args.bank.now c.args.env.now) (text_of c.args.bank.now c.args.name) (lookup (env_of c.args.bank.now c.args.env.now) (text_of c.args.bank.now c.args.name)))
    c.in-Err.ensures.known
