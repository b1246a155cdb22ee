-- An accepted sentence keeps the declarations, or adds those of a name and writes its line alone; one that is refused keeps them.
use Rattle.std.proofs.Common.{◌≡◌, refl, sym, map, ℕ, zero, suc, Bool, true, false, ◌&&◌, List, [], ◌∷◌, ◌++◌, Option, Some, None, Result, Ok, Err}
use Rattle.std.specs.Prelude.{leb}
use Rattle.lq_trees.specs.Tree.{Name, Tree}
use Rattle.lq_trees.specs.Ticks.{Outcome, done, failed, steps_out, within}
use Rattle.lq_calculus.specs.Declarations.{Env, EnvFault, Entry, Family, arity, lookup, first_taken, names_of, declared_names, permitted, family_type, constructors_fault, first_stored, stored_types, first_fault}
use Rattle.lq_calculus.specs.Checking.{declare_constant, declare_family, no_env_fault, known, sort_of, check as check_term, known_context, sorts_of, check_constructors}
use Rattle.lq_calculus.proofs.ConvSound.{Gives, gives_bind, done_gives}
use Rattle.lq_ast.specs.Syntax.{Surface, Bound, bound, Forall, Fun}
use Rattle.lq_ast.specs.Tactics.{Tac}
use Rattle.lq_ast.specs.Commands.{Vernac, inductive_family, definition, theorem, lemma, proof, qed, defined, abort, unshelve, show, print, check, ltac, outcomes, Statement, command, run, Sentence, stated, open_brace, close_brace, bullet}
use Rattle.lq_ast.specs.declared.sentence.Selector.{Selector}
use Rattle.lq_ast.specs.declared.sentence.Selector.TheVariants as written
use Rattle.lq_solving.specs.Stores.{Store, StoreFault, no_variables, read, size_fault}
use Rattle.lq_solving.specs.Elaboration.{Found, made_between}
use Rattle.lq_solving.proofs.ElabKept.{by_gives}
use Rattle.lq_states.specs.Goals.{Proof, GoalFault, Selector as Taking, one, resolve, unshelve as unshelved, still_open, open_count}
use Rattle.lq_states.specs.Frames.{brace, unbrace, bullet as bulleted}
use Rattle.lq_states.specs.Hands.{State, take_goals}
use Rattle.lq_states.specs.Views.{ProofView, proof_view, root}
use Rattle.lq_runs.specs.Runs.{resume}
use Rattle.lq_runs.specs.Machines as machine
use Rattle.lq_runs.specs.Machines.{First, first}
use Rattle.lq_meaning.specs.Values.{Text, Value, Cause, Definition, definition as ltac_definition, no_more}
use Rattle.lq_texts.specs.Causes.{Cause as ScriptCause}
use Rattle.lq_sessions.specs.Told.{of_kernel}
use Rattle.lq_sessions.specs.Sessions.{Session, Fault, Opened, Done, Work, with_opened, goes_on, fault_in, refused, accepted, needs_proof, needs_none, needs_new, on_proof, came_to, worked, all_fit, open_among, world_of, lines}
use Rattle.lq_sessions.specs.Declaring as declaring
use Rattle.lq_sessions.specs.Declaring.{type_work, term_work, solved_work, fitting_work, constant_work, definition_work, family_work, row_of, constructors_work, family_by, read_each, terms_of, Row, all_solved, stated as statement, defined as definition_done, inductive, closed, family_names}
use Rattle.lq_sessions.specs.Expressions.{taking, answer, committed, in_hands, selected, conclusions, listed, outcomes_of, after_text}
use Rattle.lq_sessions.specs.Parallel.{results, gathered, gathered_done, in_place, in_parallel}
use Rattle.lq_sessions.specs.Sentences.{built_in, add_ltac, shown, printed, checked, command_done, expression_done, statement_done, is_spent, failing, stated_done, braced, sentence}
use Rattle.lq_sessions.specs.Sentences as sentences
use Rattle.lq_derived.specs.Reported.{Adds, one_constant, one_family, keeps, declares, AreReported}

-- the declarations stay
abbrev Keeps : Env → Done → Type 0
Keeps env (t, Ok s) = s.env ≡ env
Keeps env (t, Err f) = f.env ≡ env

kept_told : (env : Env) (r : Done) → Keeps env r → AreReported env r
kept_told env (t, Ok s) e = keeps e
kept_told env (t, Err f) e = e

-- what the kernel adds
constant_adds : (env : Env) (n : ℕ) (x : Name) (A t : Tree) (opaque : Bool) (new : Env) → Gives (declare_constant env n x A t opaque) new → Adds env x new
unfolding declare_constant
constant_adds env n x A t opaque new h =
    let a = gives_bind (no_env_fault (first_taken (names_of env) (x ∷ []))) _ new h in
    let b = gives_bind (known [] (A ∷ t ∷ [])) _ new a.2 in
    let s = gives_bind (sort_of env n [] A) _ new b.2 in
    let c = gives_bind (check_term env n [] t A) _ new s.2 in
    one_constant A t opaque (sym c.2)

family_adds : (env : Env) (n : ℕ) (f : Family) (new : Env) → Gives (declare_family env n f) new → Adds env f.name new
unfolding declare_family
family_adds env n f new h =
    let a = gives_bind (no_env_fault (first_taken (names_of env) (declared_names f))) _ new h in
    let b = gives_bind (known_context [] (f.parameters ++ f.indices)) _ new a.2 in
    let c = gives_bind (known f.parameters (map (λ c. c.1) f.constructors)) _ new b.2 in
    let s = gives_bind (sorts_of env n [] (f.parameters ++ f.indices)) _ new c.2 in
    let k = gives_bind (check_constructors (env ++ ((f.name, arity (family_type f)) ∷ [])) n f f.constructors) _ new s.2 in
    let l = gives_bind (no_env_fault (first_fault (constructors_fault f f.constructors) (first_stored (stored_types f (permitted f.sort k.0))))) _ new k.2 in
    one_family f (permitted f.sort k.0) refl (sym l.2)

module _ (s : Session) where
  abbrev Told : Done → Type 0
  Told r = AreReported s.env r

  needs_proof_told : (f : Opened → Done) → ((o : Opened) → Told (f o)) → Told (needs_proof s f)
  unfolding needs_proof
  needs_proof_told f h = by s.opened
    where
      by : (o : Option Opened) → Told (elim o as (λ _. Done) [ None ↦ refused s Rattle.lq_texts.specs.Causes.no_proof | Some p ↦ f p ])
      by None = refl
      by (Some o) = h o

  needs_none_told : (r : Done) → Told r → Told (needs_none s r)
  unfolding needs_none
  needs_none_told r h = by s.opened
    where
      by : (o : Option Opened) → Told (elim o as (λ _. Done) [ None ↦ r | Some p ↦ refused s (Rattle.lq_texts.specs.Causes.nested_proof p.name) ])
      by None = h
      by (Some o) = refl

  needs_new_told : (x : Name) (r : Done) → Told r → Told (needs_new s x r)
  unfolding needs_new
  needs_new_told x r h = by (lookup s.env x)
    where
      by : (o : Option Entry) → Told (elim o as (λ _. Done) [ None ↦ r | Some e ↦ refused s (Rattle.lq_texts.specs.Causes.name_taken x) ])
      by None = h
      by (Some e) = refl

  on_proof_told : (o : Opened) (r : Result Proof GoalFault) → Told (on_proof s o r)
  unfolding on_proof
  on_proof_told o (Ok p) = keeps refl
  on_proof_told o (Err f) = refl

  worked_told : {A : Type 0} (f : ℕ → Work A) (k : A → Done) → ((a : A) → Gives (f (suc s.kernel)) a → Told (k a)) → Told (worked s s.env f k)
  unfolding worked came_to
  worked_told f k h = by (within s.kernel (f (suc s.kernel))) refl
    where
      by : (o : Outcome ScriptCause _) → within s.kernel (f (suc s.kernel)) ≡ o → Told (came_to s s.env k o)
      by (done a left) e = h a (done_gives s.kernel (f (suc s.kernel)) a left e)
      by (failed c left) e = refl
      by steps_out e = refl

  all_fit_told : (st : Store) (ts : List Tree) (r : Done) → Told r → Told (all_fit s st ts r)
  unfolding all_fit
  all_fit_told st [] r h = h
  all_fit_told st (t ∷ ts) r h = by (size_fault (read st t)) (all_fit_told st ts r h)
    where
      by : (o : Option StoreFault) → Told (all_fit s st ts r) → Told (elim o as (λ _. Done) [ Some f ↦ refused s (Rattle.lq_sessions.specs.Told.of_store f) | None ↦ all_fit s st ts r ])
      by None k = k
      by (Some f) k = refl

  all_solved_told : (st : Store) (r : Done) → Told r → Told (all_solved s st r)
  unfolding all_solved
  all_solved_told st r h = by (open_among st (made_between no_variables st))
    where
      by : (n : ℕ) → Told (elim n as (λ _. Done) [ zero ↦ r | suc m ↦ refused s (Rattle.lq_texts.specs.Causes.unresolved (suc m)) ])
      by zero = h
      by (suc m) = refl

  -- ---- declarations

  kernel_constant : (n : ℕ) (x : Name) (A t : Tree) (opaque : Bool) (new : Env) → Gives (declaring.kernel_work (declare_constant s.env n x A t opaque)) new → Adds s.env x new
  kernel_constant n x A t opaque new h = constant_adds s.env n x A t opaque new (by_gives of_kernel (declare_constant s.env n x A t opaque) new h)

  constant_work_told : (n : ℕ) (x : Name) (st : Store) (A t : Tree) (ts : List Tree) (new : Env) → Gives (constant_work s.env n x st A t ts) new → Adds s.env x new
  unfolding constant_work
  constant_work_told n x st A t ts new h =
      let a = gives_bind (solved_work st) _ new h in
      let b = gives_bind (fitting_work st ts) _ new a.2 in
      kernel_constant n x (read st A) (read st t) false new b.2

  definition_work_told : (n : ℕ) (x : Name) (xs : List Bound) (A : Option Surface) (t : Surface) (new : Env) → Gives (definition_work s.env n x xs A t) new → Adds s.env x new
  unfolding definition_work
  definition_work_told n x xs (Some A) t new h =
      let f = gives_bind (type_work s.env n [] no_variables (bound Forall xs A)) _ new h in
      let b = gives_bind (term_work s.env n [] f.0.store (bound Fun xs t) (Some f.0.term)) _ new f.2 in
      constant_work_told n x b.0.store f.0.term b.0.term (f.0.term ∷ b.0.term ∷ []) new b.2
  definition_work_told n x xs None t new h =
      let b = gives_bind (term_work s.env n [] no_variables (bound Fun xs t) None) _ new h in
      constant_work_told n x b.0.store b.0.kind b.0.term (b.0.term ∷ b.0.kind ∷ []) new b.2

  family_work_told : (n : ℕ) (x : Name) (xs : List Bound) (A : Surface) (cs : List (Name × Surface)) (new : Env) → Gives (family_work s.env n x xs A cs) new → Adds s.env x new
  unfolding family_work
  family_work_told n x xs A cs new h =
      let f = gives_bind (term_work s.env n [] no_variables (bound Forall xs A) None) _ new h in
      let r = gives_bind (row_of (Rattle.std.specs.Prelude.length xs) (read f.0.store f.0.term)) _ new f.2 in
      let a = gives_bind (solved_work f.0.store) _ new r.2 in
      let c = gives_bind (constructors_work (s.env ++ (x, arity (read f.0.store f.0.term)) ∷ []) n r.0.parameters f.0.store cs) _ new a.2 in
      let b = gives_bind (solved_work c.0.0) _ new c.2 in
      let e = gives_bind (fitting_work c.0.0 (f.0.term ∷ terms_of c.0.1)) _ new b.2 in
      let q = gives_bind (row_of (Rattle.std.specs.Prelude.length xs) (read c.0.0 f.0.term)) _ new e.2 in
      family_adds s.env n (family_by x q.0 (read_each c.0.0 c.0.1)) new (by_gives of_kernel (declare_family s.env n (family_by x q.0 (read_each c.0.0 c.0.1))) new q.2)

  stated_told : (x : Name) (xs : List Bound) (t : Surface) → Told (statement s x xs t)
  unfolding statement
  stated_told x xs t =
      worked_told (λ n. type_work s.env n [] no_variables (bound Forall xs t)) _
      (λ f h. all_solved_told f.store _ (all_fit_told f.store (f.term ∷ []) _ (keeps refl)))

  defined_told : (x : Name) (xs : List Bound) (A : Option Surface) (t : Surface) → Told (definition_done s x xs A t)
  unfolding definition_done
  defined_told x xs A t = worked_told (λ n. definition_work s.env n x xs A t) _ (λ env h. declares x (definition_work_told (suc s.kernel) x xs A t env h) refl)

  inductive_told : (x : Name) (xs : List Bound) (A : Surface) (cs : List (Name × Surface)) → Told (inductive s x xs A cs)
  unfolding inductive
  inductive_told x xs A cs = by (first_taken (names_of s.env) (family_names x cs))
    where
      declared : Told (worked s s.env (λ n. family_work s.env n x xs A cs) (λ env. (declaring.is_defined x, Ok (Rattle.lq_sessions.specs.Sessions.with_env s env))))
      declared = worked_told (λ n. family_work s.env n x xs A cs) _ (λ env h. declares x (family_work_told (suc s.kernel) x xs A cs env h) refl)

      by : (o : Option EnvFault) → Told (elim o as (λ _. Done) [
        | Some f ↦ refused s (Rattle.lq_sessions.specs.Told.of_env f)
        | None ↦ worked s s.env (λ n. family_work s.env n x xs A cs) (λ env. (declaring.is_defined x, Ok (Rattle.lq_sessions.specs.Sessions.with_env s env)))
      ])
      by (Some f) = refl
      by None = declared

  closed_told : (o : Opened) (opaque : Bool) → Told (closed s o opaque)
  unfolding closed
  closed_told o opaque = count (open_count o.state)
    where
      Last : Done
      Last = worked s s.env (λ n. declaring.kernel_work (declare_constant s.env n o.name o.statement (root o.state) opaque)) (λ env. (declaring.is_defined o.name, Ok (Rattle.lq_sessions.specs.Sessions.with_env s env)))

      last : Told Last
      last = worked_told (λ n. declaring.kernel_work (declare_constant s.env n o.name o.statement (root o.state) opaque)) _ (λ env h. declares o.name (kernel_constant (suc s.kernel) o.name o.statement (root o.state) opaque env h) refl)

      Rest : List ℕ → Done
      Rest ks = elim ks as (λ _. Done) [
        | k ∷ js ↦ refused s (Rattle.lq_texts.specs.Causes.unresolved (Rattle.std.specs.Prelude.length (k ∷ js)))
        | [] ↦ all_fit s o.state.store (root o.state ∷ []) Last
      ]

      rest : (ks : List ℕ) → Told (Rest ks)
      rest [] = all_fit_told o.state.store (root o.state ∷ []) Last last
      rest (k ∷ ks) = refl

      count : (n : ℕ) → Told (elim n as (λ _. Done) [ suc m ↦ refused s (Rattle.lq_texts.specs.Causes.open_goals (suc m)) | zero ↦ Rest (still_open o.state.store o.state.shelf) ])
      count zero = rest (still_open o.state.store o.state.shelf)
      count (suc m) = refl

  -- ---- Ltac sentences

  committed_told : (o : Opened) (f : First Text Cause State Value) → Told (committed s o f)
  unfolding committed
  committed_told o (machine.gives left ms st v as_) = keeps refl
  committed_told o (machine.ends left ms k c) = refl
  committed_told o (machine.out ms) = refl

  in_hands_told : (o : Opened) (t : Taking) (k : State → Done) → ((st : State) → Told (k st)) → Told (in_hands s o t k)
  unfolding in_hands
  in_hands_told o t k h = by (resolve o.state t)
    where
      taken : (r : Result State GoalFault) → Told (elim r as (λ _. Done) [ Err f ↦ refused s (Rattle.lq_sessions.specs.Told.of_goals f) | Ok st ↦ k st ])
      taken (Ok st) = h st
      taken (Err f) = refl

      by : (r : Result (List ℕ) GoalFault) → Told (elim r as (λ _. Done) [
        | Err f ↦ refused s (Rattle.lq_sessions.specs.Told.of_goals f)
        | Ok ks ↦ elim (take_goals o.state ks) as (λ _. Done) [ Err f ↦ refused s (Rattle.lq_sessions.specs.Told.of_goals f) | Ok st ↦ k st ]
      ])
      by (Ok ks) = taken (take_goals o.state ks)
      by (Err f) = refl

  selected_told : (o : Opened) (t : Taking) (e : Tac) → Told (selected s o t e)
  unfolding selected
  selected_told o t e = in_hands_told o t _ (λ st. committed_told o (answer (world_of s) s.steps e st))

  after_keeps : (t : Text) (r : Done) → Keeps s.env r → Keeps s.env (after_text t r)
  after_keeps t (u, Ok s1) h = h
  after_keeps t (u, Err f) h = h

  listed_keeps : (n i : ℕ) (f : First Text Cause State Value) → Keeps s.env (listed s n i f)
  unfolding listed
  listed_keeps zero i f = refl
  listed_keeps (suc n) i (machine.out ms) = refl
  listed_keeps (suc n) i (machine.ends left ms k c) = refl
  listed_keeps (suc n) i (machine.gives left ms st v as_) = by (conclusions s st st.hand) (listed_keeps n (suc i) (first left (resume as_ zero no_more)))
    where
      more : (m : ℕ) (t : Text) → Keeps s.env (listed s n (suc i) (first left (resume as_ zero no_more))) → Keeps s.env (elim m as (λ _. Done) [
        | zero ↦ (lines ms ++ Rattle.lq_sessions.specs.Expressions.outcome_line i st ++ t, Ok s)
        | suc k ↦ after_text (lines ms ++ Rattle.lq_sessions.specs.Expressions.outcome_line i st ++ t) (listed s n (suc i) (first left (resume as_ zero no_more)))
      ])
      more zero t h = refl
      more (suc k) t h = after_keeps (lines ms ++ Rattle.lq_sessions.specs.Expressions.outcome_line i st ++ t) (listed s n (suc i) (first left (resume as_ zero no_more))) h

      by : (r : Result Text StoreFault) → Keeps s.env (listed s n (suc i) (first left (resume as_ zero no_more))) → Keeps s.env (elim r as (λ _. Done) [
        | Err f ↦ (lines ms, Err (fault_in s (Rattle.lq_sessions.specs.Told.of_store f)))
        | Ok t ↦ elim n as (λ _. Done) [
          | zero ↦ (lines ms ++ Rattle.lq_sessions.specs.Expressions.outcome_line i st ++ t, Ok s)
          | suc k ↦ after_text (lines ms ++ Rattle.lq_sessions.specs.Expressions.outcome_line i st ++ t) (listed s n (suc i) (first left (resume as_ zero no_more)))
        ]
      ])
      by (Err f) h = refl
      by (Ok t) h = more n t h

  outcomes_told : (o : Opened) (n : ℕ) (e : Tac) → Told (outcomes_of s o n e)
  unfolding outcomes_of
  outcomes_told o n e = by (leb 1 n && leb n 1000)
    where
      listing : Told (in_hands s o (one 1) (λ st. listed s n 1 (answer (world_of s) s.steps e st)))
      listing = in_hands_told o (one 1) _ (λ st. kept_told s.env (listed s n 1 (answer (world_of s) s.steps e st)) (listed_keeps n 1 (answer (world_of s) s.steps e st)))

      by : (b : Bool) → Told (elim b as (λ _. Done) [
        | false ↦ refused s (Rattle.lq_texts.specs.Causes.bad_count n)
        | true ↦ in_hands s o (one 1) (λ st. listed s n 1 (answer (world_of s) s.steps e st))
      ])
      by false = refl
      by true = listing

  in_place_told : (o : Opened) (t : Text) (r : Result Proof GoalFault) → Told (in_place s o t r)
  unfolding in_place
  in_place_told o t (Ok p) = keeps refl
  in_place_told o t (Err f) = refl

  parallel_told : (o : Opened) (e : Tac) → Told (in_parallel s o e)
  unfolding in_parallel gathered_done
  parallel_told o e = by (gathered 1 (results (world_of s) s.steps e o.state.store o.state.focus))
    where
      by : (g : List Text × Option ScriptCause) → Told (gathered_done s o (results (world_of s) s.steps e o.state.store o.state.focus) g)
      by (ms, Some c) = refl
      by (ms, None) = in_place_told o (lines ms) _

  expression_told : (sel : Option Selector) (e : Tac) (o : Opened) → Told (expression_done s sel e o)
  unfolding expression_done
  expression_told None e o = selected_told o (taking None) e
  expression_told (Some (written.Ranges rs)) e o = selected_told o (taking (Some (written.Ranges rs))) e
  expression_told (Some (written.Named x)) e o = selected_told o (taking (Some (written.Named x))) e
  expression_told (Some written.All) e o = selected_told o (taking (Some written.All)) e
  expression_told (Some written.Sole) e o = selected_told o (taking (Some written.Sole)) e
  expression_told (Some written.Par) e o = parallel_told o e

  -- ---- commands

  ltac_told : (x : Name) (ps : List Name) (e : Tac) → Told (add_ltac s x ps e)
  unfolding add_ltac
  ltac_told x ps e = by (Rattle.lq_trees.specs.Fresh.is_listed built_in x)
    where
      New : Done
      New = elim (ltac_definition s.definitions x) as (λ _. Done) [ Some c ↦ refused s (Rattle.lq_texts.specs.Causes.ltac_taken x) | None ↦ accepted (sentences.with_definition s x ps e) ]

      new : Told New
      new = at (ltac_definition s.definitions x)
        where
          at : (o : Option Definition) → Told (elim o as (λ _. Done) [ Some c ↦ refused s (Rattle.lq_texts.specs.Causes.ltac_taken x) | None ↦ accepted (sentences.with_definition s x ps e) ])
          at None = keeps refl
          at (Some c) = refl

      by : (b : Bool) → Told (elim b as (λ _. Done) [ true ↦ refused s (Rattle.lq_texts.specs.Causes.ltac_taken x) | false ↦ New ])
      by true = refl
      by false = new

  shown_told : (o : Opened) → Told (shown s o)
  unfolding shown
  shown_told o = by (proof_view o.state)
    where
      by : (r : Result ProofView StoreFault) → Told (elim r as (λ _. Done) [ Err f ↦ refused s (Rattle.lq_sessions.specs.Told.of_store f) | Ok v ↦ (Rattle.lq_texts.specs.Views.proof_text s.env (sentences.view_of v), Ok s) ])
      by (Ok v) = keeps refl
      by (Err f) = refl

  printed_told : (x : Name) → Told (printed s x)
  unfolding printed
  printed_told x = by (Rattle.lq_texts.specs.Views.print_text s.env x)
    where
      by : (r : Result Text ScriptCause) → Told (elim r as (λ _. Done) [ Err c ↦ refused s c | Ok t ↦ (t, Ok s) ])
      by (Ok t) = keeps refl
      by (Err c) = refl

  checked_told : (t : Surface) → Told (checked s t)
  unfolding checked
  checked_told t = worked_told (λ n. term_work s.env n (sentences.context_of s.opened) (sentences.store_of s.opened) t None) _ (λ f h. by f (open_among f.store (made_between (sentences.store_of s.opened) f.store)))
    where
      by : (f : Found) (n : ℕ) → Told (elim n as (λ _. Done) [ suc k ↦ refused s (Rattle.lq_texts.specs.Causes.unresolved (suc k)) | zero ↦ all_fit s f.store (f.term ∷ f.kind ∷ []) (sentences.typed_text s f, Ok s) ])
      by f zero = all_fit_told f.store (f.term ∷ f.kind ∷ []) _ (keeps refl)
      by f (suc k) = refl

  command_told : (c : Vernac) → Told (command_done s c)
  unfolding command_done
  command_told (inductive_family x xs A cs) = needs_none_told _ (inductive_told x xs A cs)
  command_told (definition x xs A t) = needs_none_told _ (needs_new_told x _ (defined_told x xs A t))
  command_told (theorem x xs A) = needs_none_told _ (needs_new_told x _ (stated_told x xs A))
  command_told (lemma x xs A) = needs_none_told _ (needs_new_told x _ (stated_told x xs A))
  command_told proof = needs_proof_told _ (λ o. keeps refl)
  command_told qed = needs_proof_told _ (λ o. closed_told o true)
  command_told defined = needs_proof_told _ (λ o. closed_told o false)
  command_told abort = needs_proof_told _ (λ o. keeps refl)
  command_told unshelve = needs_proof_told _ (λ o. on_proof_told o (unshelved o.state))
  command_told show = needs_proof_told _ shown_told
  command_told (print x) = printed_told x
  command_told (check t) = checked_told t
  command_told (ltac x ps e) = ltac_told x ps e
  command_told (outcomes n e) = needs_proof_told _ (λ o. outcomes_told o n e)

  statement_told : (x : Statement) → Told (statement_done s x)
  unfolding statement_done
  statement_told (command c) = command_told c
  statement_told (run sel e) = needs_proof_told _ (expression_told sel e)

  failing_told : (r : Done) → Told r → Told (failing s r)
  unfolding failing
  failing_told (t, Ok s1) h = refl
  failing_told (t, Err f) h = by (is_spent f.cause)
    where
      by : (b : Bool) → Told (elim b as (λ _. Done) [ true ↦ (t, Err f) | false ↦ (t ++ Rattle.lq_texts.specs.Views.fail_text f.env f.cause f.level, Ok s) ])
      by true = h
      by false = keeps refl

  stated_done_told : (k : ℕ) (x : Statement) → Told (stated_done s k x)
  unfolding stated_done
  stated_done_told zero x = statement_told x
  stated_done_told (suc k) x = failing_told (stated_done s k x) (stated_done_told k x)

  braced_told : (o : Opened) (r : Result (List ℕ) GoalFault) → Told (braced s o r)
  unfolding braced
  braced_told o (Err f) = refl
  braced_told o (Ok []) = refl
  braced_told o (Ok (k ∷ [])) = on_proof_told o (brace o.state k)
  braced_told o (Ok (k ∷ j ∷ ks)) = refl

  pub sentence_told : (x : Sentence) → Told (sentence s x)
  unfolding sentence
  sentence_told (stated k x) = stated_done_told k x
  sentence_told (open_brace sel) = needs_proof_told _ (λ o. braced_told o (resolve o.state (taking sel)))
  sentence_told close_brace = needs_proof_told _ (λ o. on_proof_told o (unbrace o.state))
  sentence_told (bullet c k) = needs_proof_told _ (λ o. on_proof_told o (bulleted o.state (c, k)))
