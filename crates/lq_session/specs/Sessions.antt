-- Sessions by places of a bank, and what a sentence does.
use Rattle.std.specs.Prelude.{◌≡◌, Bool, true, false, List, ℕ, [], option_map, IfSome, None, Result, Ok, Err}
use Rattle.lq_ast.specs.declared.sentence.Vernac.{Vernac}
use Rattle.lq_trees.specs.Tree.{Name, Tree}
use Rattle.lq_calculus.specs.Declarations.{lookup}
use Rattle.lq_states.specs.Goals.{started}
use Rattle.lq_terms.specs.declared.nodes.NameId.{NameId}
use Rattle.lq_terms.specs.Terms.{Terms, HasName, text_of, tree_of}
use Rattle.lq_env.specs.Environments.{IsEnv, env_of}
use Rattle.lq_solving.specs.Kept.{IsStore}
use Rattle.lq_solving.specs.Claims.{ArePlainDeclarations}
use Rattle.lq_evars.specs.Places.{store_of, HasStore}
use Rattle.lq_states.specs.Kept.{IsProof, IsSwept}
use Rattle.lq_goals.specs.Held.{proof_of}
use Rattle.lq_kernel.specs.Closed.{IsScoped}
use Rattle.lq_print.specs.declared.entries.PrintFault.{PrintFault}
use Rattle.lq_print.specs.declared.causes.TermCause.{TermCause}
use Rattle.lq_print.specs.declared.causes.DeclarationCause.{DeclarationCause}
use Rattle.lq_print.specs.declared.causes.Cause.{Cause}
use Rattle.lq_print.specs.Causes.{cause_of, HasCause}
use Rattle.lq_causes.specs.declared.stops.Stop.{Stop}
use Rattle.lq_sessions.specs.Sessions as trees
use Rattle.lq_sessions.specs.Sessions.{Done, refused, needs_none, needs_new}
use Rattle.lq_session.specs.declared.opened.Opened.{Opened}
use Rattle.lq_session.specs.declared.opened.Session.{Session}

-- the open proof over trees
abbrev pub opened_of : Terms → Opened → trees.Opened
opened_of bank o = record { name = text_of bank o.name; statement = tree_of bank o.statement; state = proof_of bank o.proof }

-- a session over trees; there are no Ltac definitions yet
abbrev pub session_of : Terms → Session → trees.Session
session_of bank s =
    record { env = env_of bank s.env; definitions = []; steps = s.steps; kernel = s.kernel; opened = option_map (opened_of bank) s.opened }

-- the bank has an open proof, and it is one
pub record IsOpened (bank : Terms) (o : Opened) : Type 0 where
  pub name : HasName bank o.name
  pub statement : IsScoped bank 0 o.statement
  pub store : HasStore bank o.proof.store
  pub stored : IsStore (store_of bank o.proof.store)
  pub proof : IsProof (proof_of bank o.proof)
  pub swept : IsSwept (proof_of bank o.proof) o.proof.given o.proof.seen

-- the bank has a session, and it is one
pub record IsSession (bank : Terms) (s : Session) : Type 0 where
  pub env : IsEnv bank s.env
  pub plain : ArePlainDeclarations (env_of bank s.env)
  pub opened : IfSome s.opened (IsOpened bank)

-- A sentence writes a text and goes on in the session, or it is refused as the stop tells. Memory may end at any time.
abbrev pub Does : (old new : Terms) → Result (List ℕ) Stop → (before after : Session) → Done → Type 0
Does old new (Ok t) s s1 d = d ≡ (t, Ok (session_of new s1))
Does old new (Err (Stop.Refused c)) s s1 d = HasCause new c × (d ≡ refused (session_of old s) (cause_of new c))
Does old new (Err Stop.NoMemory) s s1 d = Unit {0}

-- why a name has no line, as what stops a sentence
abbrev pub print_stop : PrintFault → Stop
print_stop (PrintFault.Unknown x) = Stop.Refused (Cause.Term (TermCause.Unknown x))
print_stop (PrintFault.ElimForbidden x u) = Stop.Refused (Cause.Declaration (DeclarationCause.ElimForbidden x u))
print_stop PrintFault.NoMemory = Stop.NoMemory

-- a proof of a statement, with nothing done yet
abbrev pub opened_by : Name → Tree → trees.Opened
opened_by x A = record { name = x; statement = A; state = started A }

-- no proof is open, so that what needs none is done; or it is refused
abbrev pub MayStand : Terms → Session → Result (Unit {0}) Stop → Type 0
MayStand bank s (Ok ok) = s.opened ≡ None
MayStand bank s (Err stop) = (d : Done) → Does bank bank (Err stop) s s (needs_none (session_of bank s) d)

-- no proof is open and the name is new, so that what needs both is done; or it is refused
abbrev pub MayDeclare : Terms → Session → NameId → Result (Unit {0}) Stop → Type 0
MayDeclare bank s x (Ok ok) = (s.opened ≡ None) × (lookup (env_of bank s.env) (text_of bank x) ≡ None)
MayDeclare bank s x (Err stop) = (d : Done) → Does bank bank (Err stop) s s (needs_none (session_of bank s) (needs_new (session_of bank s) (text_of bank x) d))

-- whether a command declares, or opens or ends a proof of what is declared
unfoldable pub is_declaring : Vernac → Bool
is_declaring (Vernac.Inductive x gs A cs) = true
is_declaring (Vernac.Definition x gs A t) = true
is_declaring (Vernac.Theorem x gs A) = true
is_declaring (Vernac.Lemma x gs A) = true
is_declaring Vernac.Qed = true
is_declaring Vernac.Defined = true
is_declaring c = false
