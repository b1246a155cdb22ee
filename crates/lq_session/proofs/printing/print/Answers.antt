use Rattle.std.proofs.Common.{Err, sym, subst}
use Rattle.lq_terms.specs.Terms.{text_of}
use Rattle.lq_sessions.specs.Sentences.{printed}
use Rattle.lq_session.specs.Sessions.{session_of, Does}
use Rattle.lq_session.proofs.SessionLaws.{prints_does, print_stops}
use Rattle.lq_session.proofs.printing.print.Goals as goal

pub returns-in-Ok : goal.returns-in-Ok
returns-in-Ok c = record { answer = prints_does c.args.bank.now c.args.session.now c.args.name c.in-Ok.text c.in-Ok.ensures }

pub returns-in-Err : goal.returns-in-Err
returns-in-Err c = record {
  answer =
      subst (λ z. Does c.args.bank.now c.args.bank.now (Err z) c.args.session.now c.args.session.now (printed (session_of c.args.bank.now c.args.session.now) (text_of c.args.bank.now c.args.name))) (sym c.stop_of.ensures)
      (print_stops c.args.bank.now c.args.session.now c.args.name c.in-Err.fault c.in-Err.ensures);
}
