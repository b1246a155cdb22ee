-- A sentence that declares a family.
use Rattle.std.proofs.Common.{◌≡◌, ◌∙◌, sym, ap, ap₂, subst, ℕ, List, [], Option, Some, None, Ok, Err, false}
use Rattle.std.specs.Prelude.{option_map}
use Rattle.lq_trees.specs.Tree.{Name}
use Rattle.lq_trees.specs.Fresh.{is_listed}
use Rattle.lq_trees.specs.Ticks.{done, ComesTo}
use Rattle.lq_ast.specs.Syntax.{Surface, Bound}
use Rattle.lq_calculus.specs.Declarations.{Env as Environment, EnvFault as Fault, first_taken, names_of}
use Rattle.lq_kernel.proofs.FamilyWork.{family_new}
use Rattle.lq_terms.specs.declared.nodes.NameId.{NameId}
use Rattle.lq_terms.specs.Terms.{Terms, HasName, Grows, text_of}
use Rattle.lq_env.specs.declared.environment.Declared.{Declared}
use Rattle.lq_env.specs.Environments.{IsEnv, env_of}
use Rattle.lq_env.proofs.Grown.{env_of-grown}
use Rattle.lq_sessions.specs.Sessions.{Work, Done, refused, needs_none, worked, with_env}
use Rattle.lq_sessions.specs.Told.{of_env}
use Rattle.lq_sessions.specs.Declaring.{inductive, family_work, family_names, is_defined}
use Rattle.lq_causes.specs.declared.stops.Stop.{Stop}
use Rattle.lq_causes.specs.Stopping.{Stops}
use Rattle.lq_elaborated.specs.Naming.{NewOr}
use Rattle.lq_session.specs.declared.opened.Session.{Session}
use Rattle.lq_session.specs.Sessions.{session_of, Does}
use Rattle.lq_session.proofs.DeclareLaws.{with_none, done_does}
use Rattle.lq_session.proofs.SessionLaws.{stops_does}

pub names_new : (taken : List Name) (x : Name) (cs : List (Name × Surface)) → first_taken taken (family_names x cs) ≡ None → is_listed taken x ≡ false
unfolding family_names
names_new taken x cs e = family_new taken _ e

module _ (old : Terms) (s : Session) (x : NameId) (xs : List Bound) (A : Surface) (cs : List (Name × Surface)) (none : s.opened ≡ None) where
  abbrev declares : Done
  declares = needs_none (session_of old s) (inductive (session_of old s) (text_of old x) xs A cs)

  abbrev taken : Option Fault
  taken = first_taken (names_of (env_of old s.env)) (family_names (text_of old x) cs)

  abbrev whole_work : ℕ → Work Environment
  whole_work n = family_work (env_of old s.env) n (text_of old x) xs A cs

  abbrev declared_then : Environment → Done
  declared_then env = (is_defined (text_of old x), Ok (with_env (session_of old s) env))

  abbrev by_taken : Option Fault → Done
  by_taken o = elim o [ Some f ↦ refused (session_of old s) (of_env f) | None ↦ worked (session_of old s) (env_of old s.env) whole_work declared_then ]

  declares_is : declares ≡ by_taken taken
  unfolding inductive
  declares_is = with_none old s none (inductive (session_of old s) (text_of old x) xs A cs)

  -- a name is taken
  pub taken_does : (new : Terms) (s1 : Session) (stop : Stop) → NewOr new (Err stop) taken → Does old new (Err stop) s s1 declares
  taken_does new s1 (Stop.Refused c) h = (h.0, declares_is ∙ ap by_taken h.2 ∙ ap (refused (session_of old s)) h.3)
  taken_does new s1 Stop.NoMemory h = tt

  module _ (new_names : taken ≡ None) (mid new : Terms) (g : Grows old mid) (i : IsEnv old s.env) (named : HasName old x) (b left : ℕ) (budget : b ≡ s.kernel) where
    abbrev mid_work : ℕ → Work Environment
    mid_work n = family_work (env_of mid s.env) n (text_of mid x) xs A cs

    work_is : mid_work ≡ whole_work
    work_is = ap₂ (λ E y n. family_work E n y xs A cs) (env_of-grown old mid g s.env i) (g.text x named)

    worked_is : declares ≡ worked (session_of old s) (env_of old s.env) whole_work declared_then
    worked_is = declares_is ∙ ap by_taken new_names

    pub family_does : (ds : List (NameId × Declared)) (line : List ℕ) → line ≡ is_defined (text_of mid x) → ComesTo mid_work b (done (env_of new ds) left) →
        Does old new (Ok line) s (record { env = ds; steps = s.steps; kernel = s.kernel; opened = s.opened }) declares
    family_does ds line told c =
        done_does old new s (record { env = ds; steps = s.steps; kernel = s.kernel; opened = s.opened }) line whole_work declared_then declares (env_of new ds) b left budget worked_is
        (subst (λ f. ComesTo f b (done (env_of new ds) left)) work_is c)
        (ap₂ (λ y o. (y, Ok (record { env = env_of new ds; definitions = []; steps = s.steps; kernel = s.kernel; opened = option_map (Rattle.lq_session.specs.Sessions.opened_of new) o }))) (sym (told ∙ ap is_defined (g.text x named))) (sym none))

    pub family_stops : (s1 : Session) (stop : Stop) → Stops new stop mid_work b left → Does old new (Err stop) s s1 declares
    family_stops s1 stop h = stops_does old new s s1 stop whole_work declared_then declares b left budget worked_is (subst (λ f. Stops new stop f b left) work_is h)
