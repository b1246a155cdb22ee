use Rattle.std.proofs.Common.{arith}
use Rattle.std.proofs.lemmas.List.{length-map}
use Rattle.lq_terms.specs.Terms.{tree_of}
use Rattle.lq_terms.specs.Contexts.{context_of, hypothesis_of}
use Rattle.lq_env.specs.Environments.{env_of}
use Rattle.lq_print.proofs.BackLaws.{read_again, elaborated_again}
use Rattle.lq_print.proofs.printing.written_text.Goals as goal

pub returns-clause-reads_back : goal.returns-clause-reads_back
returns-clause-reads_back c p closed = read_again (env_of c.args.bank.now c.args.env.now) (tree_of c.args.bank.now c.args.term) c.in_ok-append_term.ensures.few p closed

pub returns-clause-elaborates_back : goal.returns-clause-elaborates_back
returns-clause-elaborates_back c u p closed declared known apart given =
    elaborated_again (env_of c.args.bank.now c.args.env.now) (context_of c.args.bank.now c.args.context.now) (tree_of c.args.bank.now c.args.term) u
    c.in_ok-append_term.ensures.few
    (omega (arith, c.in_ok-count.ensures, length-map c.args.context.now (hypothesis_of c.args.bank.now))) p closed declared known apart given
