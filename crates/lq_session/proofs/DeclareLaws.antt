-- Sentences that declare, and those that open a proof.
use Rattle.std.proofs.Common.{◌≡◌, ◌∙◌, refl, sym, ap, ap₂, subst, arith, ℕ, true, false, List, [], Option, Some, None, Ok, Err}
use Rattle.std.specs.Prelude.{IfSome, is_some, option_map}
use Rattle.lq_trees.specs.Tree.{Name, Tree}
use Rattle.lq_trees.specs.Ticks.{done, ComesTo}
use Rattle.lq_calculus.specs.Declarations.{Env as Environment, Entry, lookup}
use Rattle.lq_ast.specs.Syntax.{Surface, Bound, bound, Forall}
use Rattle.lq_terms.specs.declared.nodes.NameId.{NameId}
use Rattle.lq_terms.specs.declared.nodes.TermId.{TermId}
use Rattle.lq_terms.specs.Terms.{Terms, HasName, Grows, text_of, tree_of}
use Rattle.lq_env.specs.declared.environment.Declared.{Declared}
use Rattle.lq_env.specs.Environments.{IsEnv, env_of}
use Rattle.lq_env.proofs.Grown.{env_of-grown}
use Rattle.lq_goals.specs.declared.proof.Proof.{Proof as Held}
use Rattle.lq_goals.specs.Held.{proof_of}
use Rattle.lq_solving.specs.Claims.{ArePlainDeclarations}
use Rattle.lq_states.specs.Goals.{started}
use Rattle.lq_states.specs.Kept.{IsProof}
use Rattle.lq_states.proofs.FrameLaws.{alone_kept}
use Rattle.lq_texts.specs.Causes.{nested_proof, name_taken}
use Rattle.lq_print.specs.declared.causes.SentenceCause.{SentenceCause}
use Rattle.lq_print.specs.declared.causes.Cause.{Cause}
use Rattle.lq_sessions.specs.Sessions as trees
use Rattle.lq_sessions.specs.Sessions.{Work, Done, refused, accepted, needs_none, needs_new, came_to, worked, with_env}
use Rattle.lq_sessions.specs.Declaring.{defined, definition_work, is_defined, opened_on, stated}
use Rattle.lq_causes.specs.declared.stops.Stop.{Stop}
use Rattle.lq_causes.specs.Stopping.{Stops}
use Rattle.lq_elaborated.specs.Stating.{statement_work}
use Rattle.lq_elaborated.proofs.SentenceLaws.{stated_is}
use Rattle.lq_session.specs.declared.opened.Opened.{Opened}
use Rattle.lq_session.specs.declared.opened.Session.{Session}
use Rattle.lq_session.specs.Sessions.{opened_of, session_of, opened_by, IsOpened, IsSession, Does, MayStand, MayDeclare}
use Rattle.lq_session.proofs.SessionLaws.{came_by, stops_does}
use Rattle.lq_session.proofs.ShowLaws.{is_session_grown}

-- ---- what needs that no proof is open, and a new name

abbrev by_none : trees.Session → Done → Option trees.Opened → Done
by_none s d o = elim o [ None ↦ d | Some p ↦ refused s (nested_proof p.name) ]

pub nested_does : (bank : Terms) (s : Session) (o : Opened) → s.opened ≡ Some o → IsSession bank s → MayStand bank s (Err (Stop.Refused (Cause.Sentence (SentenceCause.NestedProof o.name))))
unfolding needs_none
nested_does bank s o e i d =
    ((subst (λ z. IfSome z (IsOpened bank)) e i.opened).name, ap (λ z. by_none (session_of bank s) d (elim z [ None ↦ None | Some p ↦ Some (opened_of bank p) ])) e)

pub with_none : (bank : Terms) (s : Session) → s.opened ≡ None → (d : Done) → needs_none (session_of bank s) d ≡ d
unfolding needs_none
with_none bank s e d = ap (λ z. by_none (session_of bank s) d (elim z [ None ↦ None | Some p ↦ Some (opened_of bank p) ])) e

abbrev by_name : trees.Session → Name → Done → Option Entry → Done
by_name s x d o = elim o [ None ↦ d | Some e ↦ refused s (name_taken x) ]

new_name : (s : trees.Session) (x : Name) (d : Done) → lookup s.env x ≡ None → needs_new s x d ≡ d
unfolding needs_new
new_name s x d e = ap (by_name s x d) e

taken_name : (s : trees.Session) (x : Name) (d : Done) → is_some (lookup s.env x) ≡ true → needs_new s x d ≡ refused s (name_taken x)
unfolding needs_new
taken_name s x d e = at (lookup s.env x) e
  where
    at : (o : Option Entry) → is_some o ≡ true → elim o as (λ z. Done) [ None ↦ d | Some e ↦ refused s (name_taken x) ] ≡ refused s (name_taken x)
    at None f = absurd (grind (arith, f))
    at (Some y) f = refl

pub taken_does : (bank : Terms) (s : Session) (x : NameId) → HasName bank x → s.opened ≡ None → is_some (lookup (env_of bank s.env) (text_of bank x)) ≡ true →
    MayDeclare bank s x (Err (Stop.Refused (Cause.Sentence (SentenceCause.NameTaken x))))
taken_does bank s x named none e d = (named, with_none bank s none (needs_new (session_of bank s) (text_of bank x) d) ∙ taken_name (session_of bank s) (text_of bank x) d e)

pub unfound : {A : Type 0} (o : Option A) → is_some o ≡ false → o ≡ None
unfound None e = refl
unfound (Some x) e = absurd (grind (arith, e))

pub may_is : (bank : Terms) (s : Session) (x : NameId) → MayDeclare bank s x (Ok tt) → (d : Done) → needs_none (session_of bank s) (needs_new (session_of bank s) (text_of bank x) d) ≡ d
may_is bank s x m d = with_none bank s m.0 (needs_new (session_of bank s) (text_of bank x) d) ∙ new_name (session_of bank s) (text_of bank x) d m.1

-- ---- what a sentence with work comes to

pub done_does : {A : Type 0} (old new : Terms) (s s1 : Session) (line : List ℕ) (f : ℕ → Work A) (k : A → Done) (d : Done) (a : A) (b left : ℕ) → b ≡ s.kernel → d ≡ worked (session_of old s) (env_of old s.env) f k →
    ComesTo f b (done a left) → k a ≡ (line, Ok (session_of new s1)) → Does old new (Ok line) s s1 d
unfolding came_to
done_does old new s s1 line f k d a b left e is c q = is ∙ came_by (session_of old s) f k (done a left) (subst (λ m. ComesTo f m (done a left)) e c) ∙ q

-- ---- a definition

module _ (old new : Terms) (s : Session) (x : NameId) (xs : List Bound) (A : Option Surface) (t : Surface) (b left : ℕ) (budget : b ≡ s.kernel) (may : MayDeclare old s x (Ok tt)) where
  abbrev defines : Done
  defines = needs_none (session_of old s) (needs_new (session_of old s) (text_of old x) (defined (session_of old s) (text_of old x) xs A t))

  abbrev define_work : ℕ → Work Environment
  define_work n = definition_work (env_of old s.env) n (text_of old x) xs A t

  abbrev declared_then : Environment → Done
  declared_then env = (is_defined (text_of old x), Ok (with_env (session_of old s) env))

  defines_is : defines ≡ worked (session_of old s) (env_of old s.env) define_work declared_then
  unfolding defined
  defines_is = may_is old s x may (defined (session_of old s) (text_of old x) xs A t)

  pub define_does : (ds : List (NameId × Declared)) (line : List ℕ) → line ≡ is_defined (text_of old x) → ComesTo define_work b (done (env_of new ds) left) →
      Does old new (Ok line) s (record { env = ds; steps = s.steps; kernel = s.kernel; opened = s.opened }) defines
  define_does ds line told c =
      done_does old new s (record { env = ds; steps = s.steps; kernel = s.kernel; opened = s.opened }) line define_work declared_then defines (env_of new ds) b left budget defines_is c
      (ap₂ (λ y o. (y, Ok (record { env = env_of new ds; definitions = []; steps = s.steps; kernel = s.kernel; opened = option_map (opened_of new) o }))) (sym told) (sym may.0))

  pub define_stops : (s1 : Session) (stop : Stop) → Stops new stop define_work b left → Does old new (Err stop) s s1 defines
  define_stops s1 stop h = stops_does old new s s1 stop define_work declared_then defines b left budget defines_is h

-- a session without an open proof and with other declarations
pub is_session_with : (bank : Terms) (s : Session) (ds : List (NameId × Declared)) → s.opened ≡ None → IsEnv bank ds → ArePlainDeclarations (env_of bank ds) → IsSession bank (record { env = ds; steps = s.steps; kernel = s.kernel; opened = s.opened })
is_session_with bank s ds e i p = record { env = i; plain = p; opened = subst (λ z. IfSome z (IsOpened bank)) (sym e) tt }

-- ---- a statement

pub started_kept : (bank : Terms) (p : Held) (A : Tree) → proof_of bank p ≡ started A → IsProof (proof_of bank p)
unfolding started
started_kept bank p A e = subst IsProof (sym e) (alone_kept [] A)

module _ (old new : Terms) (g : Grows old new) (s : Session) (i : IsSession old s) (x : NameId) (named : HasName old x) (xs : List Bound) (t : Surface) (b left : ℕ) (budget : b ≡ s.kernel) (may : MayDeclare old s x (Ok tt)) where
  abbrev states : Done
  states = needs_none (session_of old s) (needs_new (session_of old s) (text_of old x) (stated (session_of old s) (text_of old x) xs t))

  abbrev state_work : ℕ → Work Tree
  state_work = statement_work (env_of old s.env) (bound Forall xs t)

  abbrev opened_then : Tree → Done
  opened_then A = accepted (opened_on (session_of old s) (text_of old x) A)

  states_is : states ≡ worked (session_of old s) (env_of old s.env) state_work opened_then
  states_is = may_is old s x may (stated (session_of old s) (text_of old x) xs t) ∙ stated_is (session_of old s) (text_of old x) xs t

  pub state_does : (o : Opened) (A : TermId) (line : List ℕ) → opened_of new o ≡ opened_by (text_of new x) (tree_of new A) → line ≡ [] → ComesTo state_work b (done (tree_of new A) left) →
      Does old new (Ok line) s (record { env = s.env; steps = s.steps; kernel = s.kernel; opened = Some o }) states
  state_does o A line told none c =
      done_does old new s (record { env = s.env; steps = s.steps; kernel = s.kernel; opened = Some o }) line state_work opened_then states (tree_of new A) b left budget states_is c
      (rw (none, told, env_of-grown old new g s.env i.env, g.text x named) refl)

  pub state_stops : (s1 : Session) (stop : Stop) → Stops new stop state_work b left → Does old new (Err stop) s s1 states
  state_stops s1 stop h = stops_does old new s s1 stop state_work opened_then states b left budget states_is h

  pub is_session_open : (o : Opened) → IsOpened new o → IsSession new (record { env = s.env; steps = s.steps; kernel = s.kernel; opened = Some o })
  is_session_open o k = let n = is_session_grown old new g s i in record { env = n.env; plain = n.plain; opened = k }
