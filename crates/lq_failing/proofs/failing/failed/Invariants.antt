use Rattle.std.proofs.Common.{◌≡◌, IfSome, string_bytes}
use Rattle.lq_env.specs.Environments.{env_of}
use Rattle.lq_sessions.specs.Sessions.{Session, Done}
use Rattle.lq_failing.specs.Fails.{HasFault, Came, Fails}
use Rattle.lq_failing.proofs.failing.failed.Given as goal

abbrev pub invariant-each : goal.invariant-each
invariant-each l = record {
  cause : IfSome l.now (HasFault l.bank);
  failed : (s : Session) (d : Done) → env_of l.bank l.env ≡ s.env → Came l.bank s (string_bytes l.fn.out) l.fn.cause d → Fails l.bank s (string_bytes l.out) l.now d l.turn;
}
