-- What a sentence does to a session, by what its work comes to.
use Rattle.std.proofs.Common.{◌≡◌, ◌∙◌, refl, sym, ap, subst, arith, ℕ, suc, Bool, true, false, List, [], Option, Some, None, Result, Ok, Err}
use Rattle.std.specs.Prelude.{is_some, not}
use Rattle.lq_trees.specs.Ticks.{Outcome, done, ComesTo}
use Rattle.lq_calculus.specs.Declarations.{Env as Environment}
use Rattle.lq_terms.specs.Terms.{Terms, text_of, tree_of}
use Rattle.lq_env.specs.declared.environment.Declared.{Declared}
use Rattle.lq_terms.specs.declared.nodes.NameId.{NameId}
use Rattle.lq_env.specs.Environments.{env_of}
use Rattle.lq_goals.specs.Held.{proof_of}
use Rattle.lq_texts.specs.Causes.{Cause as ScriptCause, no_proof}
use Rattle.lq_print.specs.declared.causes.TermCause.{TermCause}
use Rattle.lq_print.specs.declared.causes.SentenceCause.{SentenceCause}
use Rattle.lq_print.specs.declared.causes.Cause.{Cause}
use Rattle.lq_print.specs.Causes.{cause_of}
use Rattle.lq_sessions.specs.Sessions as trees
use Rattle.lq_sessions.specs.Sessions.{Work, Done, refused, accepted, needs_proof, came_to, worked, with_env, with_opened}
use Rattle.lq_sessions.specs.Declaring.{closed, is_defined}
use Rattle.lq_sessions.specs.Sentences.{printed}
use Rattle.lq_texts.specs.Views.{print_text}
use Rattle.lq_print.specs.declared.entries.PrintFault.{PrintFault}
use Rattle.lq_print.specs.Entries.{Prints}
use Rattle.lq_causes.specs.declared.stops.Stop.{Stop}
use Rattle.lq_causes.specs.Stopping.{term_outcome, outcome_of, Stops}
use Rattle.lq_declaring.specs.Closing.{closing_work}
use Rattle.lq_declaring.proofs.ClosingLaws.{closed_is}
use Rattle.lq_session.specs.declared.opened.Opened.{Opened}
use Rattle.lq_session.specs.declared.opened.Session.{Session}
use Rattle.lq_session.specs.Sessions.{opened_of, session_of, Does, print_stop}

-- ---- whether a proof is open

abbrev by_proof : trees.Session → (trees.Opened → Done) → Option trees.Opened → Done
by_proof s f o = elim o [ None ↦ refused s no_proof | Some p ↦ f p ]

pub without_proof : (old new : Terms) (s : Session) (f : trees.Opened → Done) → s.opened ≡ None → Does old new (Err (Stop.Refused (Cause.Sentence SentenceCause.NoProof))) s s (needs_proof (session_of old s) f)
unfolding needs_proof
without_proof old new s f e = (tt, ap (λ o. by_proof (session_of old s) f (elim o [ None ↦ None | Some p ↦ Some (opened_of old p) ])) e)

pub with_proof : (bank : Terms) (s : Session) (f : trees.Opened → Done) (o : Opened) → s.opened ≡ Some o → needs_proof (session_of bank s) f ≡ f (opened_of bank o)
unfolding needs_proof
with_proof bank s f o e = ap (λ z. by_proof (session_of bank s) f (elim z [ None ↦ None | Some p ↦ Some (opened_of bank p) ])) e

-- ---- what work comes to

pub came_by : {A : Type 0} (s : trees.Session) (f : ℕ → Work A) (k : A → Done) (o : Outcome ScriptCause A) → ComesTo f s.kernel o → worked s s.env f k ≡ came_to s s.env k o
unfolding worked
came_by s f k o c = ap (came_to s s.env k) (c (suc s.kernel) (omega arith))

term_came : {A : Type 0} (bank : Terms) (s : trees.Session) (k : A → Done) (c : TermCause) (left : ℕ) → came_to s s.env k (term_outcome bank c left) ≡ refused s (cause_of bank (Cause.Term c))
unfolding came_to
term_came bank s k (TermCause.Unknown x) left = refl
term_came bank s k (TermCause.NotAProduct t) left = refl
term_came bank s k (TermCause.NotASort t) left = refl
term_came bank s k (TermCause.Mismatch t u) left = refl
term_came bank s k TermCause.NoSortAbove left = refl
term_came bank s k (TermCause.CannotInfer p) left = refl
term_came bank s k (TermCause.HasVariable n) left = refl
term_came bank s k TermCause.StepsOut left = refl
term_came bank s k TermCause.TooLarge left = refl
term_came bank s k TermCause.TooDeep left = refl
term_came bank s k TermCause.Full left = refl

cause_came : {A : Type 0} (bank : Terms) (s : trees.Session) (k : A → Done) (c : Cause) (left : ℕ) → came_to s s.env k (outcome_of bank c left) ≡ refused s (cause_of bank c)
unfolding came_to
cause_came bank s k (Cause.Text c) left = refl
cause_came bank s k (Cause.Sentence c) left = refl
cause_came bank s k (Cause.Declaration c) left = refl
cause_came bank s k (Cause.Term c) left = term_came bank s k c left
cause_came bank s k (Cause.Goal c) left = refl
cause_came bank s k (Cause.Primitive c) left = refl
cause_came bank s k (Cause.Rule c) left = refl
cause_came bank s k (Cause.Ltac c) left = refl

-- work that stops refuses its sentence
pub stops_does : {A : Type 0} (old new : Terms) (s s1 : Session) (stop : Stop) (f : ℕ → Work A) (k : A → Done) (d : Done) (b left : ℕ) → b ≡ s.kernel →
    d ≡ worked (session_of old s) (env_of old s.env) f k → Stops new stop f b left → Does old new (Err stop) s s1 d
stops_does old new s s1 (Stop.Refused c) f k d b left e is h =
    (h.0, is ∙ came_by (session_of old s) f k (outcome_of new c left) (subst (λ m. ComesTo f m (outcome_of new c left)) e h.1) ∙ cause_came new (session_of old s) k c left)
stops_does old new s s1 Stop.NoMemory f k d b left e is h = tt

-- ---- the end of a proof

module _ (old new : Terms) (s s1 : Session) (o : Opened) (is : s.opened ≡ Some o) (opaque : Bool) (b left : ℕ) (budget : b ≡ s.kernel) where
  abbrev ends : Done
  ends = needs_proof (session_of old s) (λ p. closed (session_of old s) p opaque)

  abbrev end_work : ℕ → Work Environment
  end_work = closing_work (env_of old s.env) (text_of old o.name) (tree_of old o.statement) (proof_of old o.proof) opaque

  abbrev declared_then : Environment → Done
  declared_then env = (is_defined (text_of old o.name), Ok (with_env (session_of old s) env))

  ends_is : ends ≡ worked (session_of old s) (env_of old s.env) end_work declared_then
  ends_is = with_proof old s (λ p. closed (session_of old s) p opaque) o is ∙ closed_is (session_of old s) (opened_of old o) opaque

  pub end_does : (ds : List (NameId × Declared)) (line : List ℕ) → s1 ≡ record { env = ds; steps = s.steps; kernel = s.kernel; opened = None } → line ≡ is_defined (text_of old o.name) →
      ComesTo end_work b (done (env_of new ds) left) → Does old new (Ok line) s s1 ends
  unfolding came_to
  end_does ds line made told c =
      ends_is ∙ came_by (session_of old s) end_work declared_then (done (env_of new ds) left) (subst (λ m. ComesTo end_work m (done (env_of new ds) left)) budget c)
      ∙ ap (λ t. (t, Ok (with_env (session_of old s) (env_of new ds)))) (sym told) ∙ ap (λ z. (line, Ok (session_of new z))) (sym made)

  pub end_stops : (stop : Stop) → Stops new stop end_work b left → Does old new (Err stop) s s1 ends
  end_stops stop h = stops_does old new s s1 stop end_work declared_then ends b left budget ends_is h

-- what is not there
pub none_of : {A : Type 0} (o : Option A) → ((x : A) → ¬ (o ≡ Some x)) → o ≡ None
none_of None h = refl
none_of (Some x) h = absurd (h x refl)

-- ---- what is written without work

-- by the line of a name, or why it has none
abbrev printed_by : trees.Session → Result (List ℕ) ScriptCause → Done
printed_by s r = elim r [ Err c ↦ refused s c | Ok t ↦ (t, Ok s) ]

pub prints_does : (bank : Terms) (s : Session) (x : NameId) (t : List ℕ) → print_text (env_of bank s.env) (text_of bank x) ≡ Ok t → Does bank bank (Ok t) s s (printed (session_of bank s) (text_of bank x))
unfolding printed
prints_does bank s x t e = ap (printed_by (session_of bank s)) e

pub print_stops : (bank : Terms) (s : Session) (x : NameId) (f : PrintFault) → Prints bank (Err f) (print_text (env_of bank s.env) (text_of bank x)) →
    Does bank bank (Err (print_stop f)) s s (printed (session_of bank s) (text_of bank x))
unfolding printed
print_stops bank s x (PrintFault.Unknown y) p = (p.0, ap (printed_by (session_of bank s)) p.1)
print_stops bank s x (PrintFault.ElimForbidden y u) p = (p.0, ap (printed_by (session_of bank s)) p.1)
print_stops bank s x PrintFault.NoMemory p = tt

-- ---- a proof that is open is let go

some_of : {A : Type 0} (o : Option A) (b : Bool) → is_some o ≡ not b → b ≡ false → (x : A) × (o ≡ Some x)
some_of None true e f = grind arith
some_of None false e f = grind arith
some_of (Some x) b e f = (x, refl)

pub missing : {A : Type 0} (o : Option A) (b : Bool) → is_some o ≡ not b → b ≡ true → o ≡ None
missing None b e f = refl
missing (Some x) true e f = grind arith
missing (Some x) false e f = grind arith

pub begins_does : (bank : Terms) (s : Session) (t : List ℕ) (b : Bool) → is_some s.opened ≡ not b → b ≡ false → t ≡ [] → Does bank bank (Ok t) s s (needs_proof (session_of bank s) (λ o. accepted (session_of bank s)))
begins_does bank s t b i h e =
    let p = some_of s.opened b i h in with_proof bank s (λ o. accepted (session_of bank s)) p.0 p.1 ∙ ap (λ z. (z, Ok (session_of bank s))) (sym e)

pub aborts_does : (bank : Terms) (s s1 : Session) (t : List ℕ) (b : Bool) → is_some s.opened ≡ not b → b ≡ false → t ≡ [] → s1 ≡ record { env = s.env; steps = s.steps; kernel = s.kernel; opened = None } →
    Does bank bank (Ok t) s s1 (needs_proof (session_of bank s) (λ o. accepted (with_opened (session_of bank s) None)))
aborts_does bank s s1 t b i h e made =
    let p = some_of s.opened b i h in
    with_proof bank s (λ o. accepted (with_opened (session_of bank s) None)) p.0 p.1 ∙ ap (λ z. (z, Ok (with_opened (session_of bank s) None))) (sym e) ∙ ap (λ z. (t, Ok (session_of bank z))) (sym made)
