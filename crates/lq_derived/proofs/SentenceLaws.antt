-- The declarations of a session stay derived, whatever sentence is run, and those in which a fault's text is made are derived.
use Rattle.std.proofs.Common.{◌≡◌, refl, ℕ, zero, suc, Bool, true, false, ◌&&◌, List, [], ◌∷◌, ◌++◌, Option, Some, None, Result, Ok, Err}
use Rattle.std.specs.Prelude.{leb}
use Rattle.lq_trees.specs.Tree.{Name, Tree}
use Rattle.lq_trees.specs.Ticks.{Outcome, done, failed, steps_out, within}
use Rattle.lq_calculus.specs.Declarations.{Env, EnvFault, Entry, arity, lookup, first_taken, names_of}
use Rattle.lq_calculus.specs.Checking.{declare_constant, declare_family}
use Rattle.lq_calculus.specs.Typing.{DerivedEnv}
use Rattle.lq_calculus.proofs.ConvSound.{Gives, gives_bind, done_gives}
use Rattle.lq_calculus.proofs.DeclareSound.{constant_derived, family_derived}
use Rattle.lq_ast.specs.Syntax.{Surface, Bound, bound, Forall, Fun}
use Rattle.lq_ast.specs.Tactics.{Tac}
use Rattle.lq_ast.specs.Commands.{Vernac, inductive_family, definition, theorem, lemma, proof, qed, defined, abort, unshelve, show, print, check, ltac, outcomes, Statement, command, run, Sentence, stated, open_brace, close_brace, bullet}
use Rattle.lq_ast.specs.declared.sentence.Selector.{Selector}
use Rattle.lq_ast.specs.declared.sentence.Selector.TheVariants as written
use Rattle.lq_solving.specs.Stores.{Store, StoreFault, no_variables, read, size_fault}
use Rattle.lq_solving.specs.Elaboration.{Found, made_between}
use Rattle.lq_solving.proofs.ElabKept.{by_gives}
use Rattle.lq_states.specs.Goals.{Proof, GoalFault, Selector as Taking, one, resolve, unshelve as unshelved, still_open, open_count}
use Rattle.lq_states.specs.Frames.{brace, unbrace, bullet as bulleted}
use Rattle.lq_states.specs.Hands.{State, take_goals}
use Rattle.lq_states.specs.Views.{ProofView, proof_view, root}
use Rattle.lq_runs.specs.Runs.{resume}
use Rattle.lq_runs.specs.Machines as machine
use Rattle.lq_runs.specs.Machines.{First, first}
use Rattle.lq_meaning.specs.Values.{Text, Value, Cause, Definition, definition as ltac_definition, no_more}
use Rattle.lq_texts.specs.Causes.{Cause as ScriptCause}
use Rattle.lq_sessions.specs.Told.{of_kernel}
use Rattle.lq_sessions.specs.Sessions.{Session, Fault, Opened, Done, Work, with_opened, goes_on, fault_in, refused, accepted, needs_proof, needs_none, needs_new, on_proof, came_to, worked, all_fit, open_among, world_of, lines}
use Rattle.lq_sessions.specs.Declaring as declaring
use Rattle.lq_sessions.specs.Declaring.{type_work, term_work, solved_work, fitting_work, constant_work, definition_work, family_work, row_of, constructors_work, family_by, read_each, terms_of, Row, all_solved, stated as statement, defined as definition_done, inductive, closed, family_names}
use Rattle.lq_sessions.specs.Expressions.{taking, answer, committed, in_hands, selected, conclusions, listed, outcomes_of, after_text}
use Rattle.lq_sessions.specs.Parallel.{results, gathered, gathered_done, in_place, in_parallel}
use Rattle.lq_sessions.specs.Sentences.{built_in, add_ltac, shown, printed, checked, command_done, expression_done, statement_done, is_spent, failing, stated_done, braced, sentence}
use Rattle.lq_sessions.specs.Sentences as sentences

-- the declarations after it, or those in which its fault's text is made, are derived
abbrev pub Derives : Done → Type 0
Derives (t, Ok s) = DerivedEnv s.env
Derives (t, Err f) = DerivedEnv f.env

module _ (s : Session) (d : DerivedEnv s.env) where
  needs_proof_derives : (f : Opened → Done) → ((o : Opened) → Derives (f o)) → Derives (needs_proof s f)
  unfolding needs_proof
  needs_proof_derives f h = by s.opened
    where
      by : (o : Option Opened) → Derives (elim o as (λ _. Done) [ None ↦ refused s Rattle.lq_texts.specs.Causes.no_proof | Some p ↦ f p ])
      by None = d
      by (Some o) = h o

  needs_none_derives : (r : Done) → Derives r → Derives (needs_none s r)
  unfolding needs_none
  needs_none_derives r h = by s.opened
    where
      by : (o : Option Opened) → Derives (elim o as (λ _. Done) [ None ↦ r | Some p ↦ refused s (Rattle.lq_texts.specs.Causes.nested_proof p.name) ])
      by None = h
      by (Some o) = d

  needs_new_derives : (x : Name) (r : Done) → Derives r → Derives (needs_new s x r)
  unfolding needs_new
  needs_new_derives x r h = by (lookup s.env x)
    where
      by : (o : Option Entry) → Derives (elim o as (λ _. Done) [ None ↦ r | Some e ↦ refused s (Rattle.lq_texts.specs.Causes.name_taken x) ])
      by None = h
      by (Some e) = d

  on_proof_derives : (o : Opened) (r : Result Proof GoalFault) → Derives (on_proof s o r)
  unfolding on_proof
  on_proof_derives o (Ok p) = d
  on_proof_derives o (Err f) = d

  worked_derives : {A : Type 0} (f : ℕ → Work A) (k : A → Done) → ((a : A) → Gives (f (suc s.kernel)) a → Derives (k a)) → Derives (worked s s.env f k)
  unfolding worked came_to
  worked_derives f k h = by (within s.kernel (f (suc s.kernel))) refl
    where
      by : (o : Outcome ScriptCause _) → within s.kernel (f (suc s.kernel)) ≡ o → Derives (came_to s s.env k o)
      by (done a left) e = h a (done_gives s.kernel (f (suc s.kernel)) a left e)
      by (failed c left) e = d
      by steps_out e = d

  all_fit_derives : (st : Store) (ts : List Tree) (r : Done) → Derives r → Derives (all_fit s st ts r)
  unfolding all_fit
  all_fit_derives st [] r h = h
  all_fit_derives st (t ∷ ts) r h = by (size_fault (read st t)) (all_fit_derives st ts r h)
    where
      by : (o : Option StoreFault) → Derives (all_fit s st ts r) → Derives (elim o as (λ _. Done) [ Some f ↦ refused s (Rattle.lq_sessions.specs.Told.of_store f) | None ↦ all_fit s st ts r ])
      by None k = k
      by (Some f) k = d

  all_solved_derives : (st : Store) (r : Done) → Derives r → Derives (all_solved s st r)
  unfolding all_solved
  all_solved_derives st r h = by (open_among st (made_between no_variables st))
    where
      by : (n : ℕ) → Derives (elim n as (λ _. Done) [ zero ↦ r | suc m ↦ refused s (Rattle.lq_texts.specs.Causes.unresolved (suc m)) ])
      by zero = h
      by (suc m) = d

  -- ---- declarations

  kernel_constant : (n : ℕ) (x : Name) (A t : Tree) (opaque : Bool) (new : Env) → Gives (declaring.kernel_work (declare_constant s.env n x A t opaque)) new → DerivedEnv new
  kernel_constant n x A t opaque new h = constant_derived s.env n x A t opaque new d (by_gives of_kernel (declare_constant s.env n x A t opaque) new h)

  constant_work_derives : (n : ℕ) (x : Name) (st : Store) (A t : Tree) (ts : List Tree) (new : Env) → Gives (constant_work s.env n x st A t ts) new → DerivedEnv new
  unfolding constant_work
  constant_work_derives n x st A t ts new h =
      let a = gives_bind (solved_work st) _ new h in
      let b = gives_bind (fitting_work st ts) _ new a.2 in
      kernel_constant n x (read st A) (read st t) false new b.2

  definition_work_derives : (n : ℕ) (x : Name) (xs : List Bound) (A : Option Surface) (t : Surface) (new : Env) → Gives (definition_work s.env n x xs A t) new → DerivedEnv new
  unfolding definition_work
  definition_work_derives n x xs (Some A) t new h =
      let f = gives_bind (type_work s.env n [] no_variables (bound Forall xs A)) _ new h in
      let b = gives_bind (term_work s.env n [] f.0.store (bound Fun xs t) (Some f.0.term)) _ new f.2 in
      constant_work_derives n x b.0.store f.0.term b.0.term (f.0.term ∷ b.0.term ∷ []) new b.2
  definition_work_derives n x xs None t new h =
      let b = gives_bind (term_work s.env n [] no_variables (bound Fun xs t) None) _ new h in
      constant_work_derives n x b.0.store b.0.kind b.0.term (b.0.term ∷ b.0.kind ∷ []) new b.2

  family_work_derives : (n : ℕ) (x : Name) (xs : List Bound) (A : Surface) (cs : List (Name × Surface)) (new : Env) → Gives (family_work s.env n x xs A cs) new → DerivedEnv new
  unfolding family_work
  family_work_derives n x xs A cs new h =
      let f = gives_bind (term_work s.env n [] no_variables (bound Forall xs A) None) _ new h in
      let r = gives_bind (row_of (Rattle.std.specs.Prelude.length xs) (read f.0.store f.0.term)) _ new f.2 in
      let a = gives_bind (solved_work f.0.store) _ new r.2 in
      let c = gives_bind (constructors_work (s.env ++ (x, arity (read f.0.store f.0.term)) ∷ []) n r.0.parameters f.0.store cs) _ new a.2 in
      let b = gives_bind (solved_work c.0.0) _ new c.2 in
      let e = gives_bind (fitting_work c.0.0 (f.0.term ∷ terms_of c.0.1)) _ new b.2 in
      let q = gives_bind (row_of (Rattle.std.specs.Prelude.length xs) (read c.0.0 f.0.term)) _ new e.2 in
      family_derived s.env n (family_by x q.0 (read_each c.0.0 c.0.1)) new d (by_gives of_kernel (declare_family s.env n (family_by x q.0 (read_each c.0.0 c.0.1))) new q.2)

  stated_derives : (x : Name) (xs : List Bound) (t : Surface) → Derives (statement s x xs t)
  unfolding statement
  stated_derives x xs t =
      worked_derives (λ n. type_work s.env n [] no_variables (bound Forall xs t)) _
      (λ f h. all_solved_derives f.store _ (all_fit_derives f.store (f.term ∷ []) _ d))

  defined_derives : (x : Name) (xs : List Bound) (A : Option Surface) (t : Surface) → Derives (definition_done s x xs A t)
  unfolding definition_done
  defined_derives x xs A t = worked_derives (λ n. definition_work s.env n x xs A t) _ (λ env h. definition_work_derives (suc s.kernel) x xs A t env h)

  inductive_derives : (x : Name) (xs : List Bound) (A : Surface) (cs : List (Name × Surface)) → Derives (inductive s x xs A cs)
  unfolding inductive
  inductive_derives x xs A cs = by (first_taken (names_of s.env) (family_names x cs))
    where
      declared : Derives (worked s s.env (λ n. family_work s.env n x xs A cs) (λ env. (declaring.is_defined x, Ok (Rattle.lq_sessions.specs.Sessions.with_env s env))))
      declared = worked_derives (λ n. family_work s.env n x xs A cs) _ (λ env h. family_work_derives (suc s.kernel) x xs A cs env h)

      by : (o : Option EnvFault) → Derives (elim o as (λ _. Done) [
        | Some f ↦ refused s (Rattle.lq_sessions.specs.Told.of_env f)
        | None ↦ worked s s.env (λ n. family_work s.env n x xs A cs) (λ env. (declaring.is_defined x, Ok (Rattle.lq_sessions.specs.Sessions.with_env s env)))
      ])
      by (Some f) = d
      by None = declared

  closed_derives : (o : Opened) (opaque : Bool) → Derives (closed s o opaque)
  unfolding closed
  closed_derives o opaque = count (open_count o.state)
    where
      Last : Done
      Last = worked s s.env (λ n. declaring.kernel_work (declare_constant s.env n o.name o.statement (root o.state) opaque)) (λ env. (declaring.is_defined o.name, Ok (Rattle.lq_sessions.specs.Sessions.with_env s env)))

      last : Derives Last
      last = worked_derives (λ n. declaring.kernel_work (declare_constant s.env n o.name o.statement (root o.state) opaque)) _ (λ env h. kernel_constant (suc s.kernel) o.name o.statement (root o.state) opaque env h)

      Rest : List ℕ → Done
      Rest ks = elim ks as (λ _. Done) [
        | k ∷ js ↦ refused s (Rattle.lq_texts.specs.Causes.unresolved (Rattle.std.specs.Prelude.length (k ∷ js)))
        | [] ↦ all_fit s o.state.store (root o.state ∷ []) Last
      ]

      rest : (ks : List ℕ) → Derives (Rest ks)
      rest [] = all_fit_derives o.state.store (root o.state ∷ []) Last last
      rest (k ∷ ks) = d

      count : (n : ℕ) → Derives (elim n as (λ _. Done) [ suc m ↦ refused s (Rattle.lq_texts.specs.Causes.open_goals (suc m)) | zero ↦ Rest (still_open o.state.store o.state.shelf) ])
      count zero = rest (still_open o.state.store o.state.shelf)
      count (suc m) = d

  -- ---- Ltac sentences

  committed_derives : (o : Opened) (f : First Text Cause State Value) → Derives (committed s o f)
  unfolding committed
  committed_derives o (machine.gives left ms st v as_) = d
  committed_derives o (machine.ends left ms k c) = d
  committed_derives o (machine.out ms) = d

  in_hands_derives : (o : Opened) (t : Taking) (k : State → Done) → ((st : State) → Derives (k st)) → Derives (in_hands s o t k)
  unfolding in_hands
  in_hands_derives o t k h = by (resolve o.state t)
    where
      taken : (r : Result State GoalFault) → Derives (elim r as (λ _. Done) [ Err f ↦ refused s (Rattle.lq_sessions.specs.Told.of_goals f) | Ok st ↦ k st ])
      taken (Ok st) = h st
      taken (Err f) = d

      by : (r : Result (List ℕ) GoalFault) → Derives (elim r as (λ _. Done) [
        | Err f ↦ refused s (Rattle.lq_sessions.specs.Told.of_goals f)
        | Ok ks ↦ elim (take_goals o.state ks) as (λ _. Done) [ Err f ↦ refused s (Rattle.lq_sessions.specs.Told.of_goals f) | Ok st ↦ k st ]
      ])
      by (Ok ks) = taken (take_goals o.state ks)
      by (Err f) = d

  selected_derives : (o : Opened) (t : Taking) (e : Tac) → Derives (selected s o t e)
  unfolding selected
  selected_derives o t e = in_hands_derives o t _ (λ st. committed_derives o (answer (world_of s) s.steps e st))

  after_derives : (t : Text) (r : Done) → Derives r → Derives (after_text t r)
  after_derives t (u, Ok s1) h = h
  after_derives t (u, Err f) h = h

  listed_derives : (n i : ℕ) (f : First Text Cause State Value) → Derives (listed s n i f)
  unfolding listed
  listed_derives zero i f = d
  listed_derives (suc n) i (machine.out ms) = d
  listed_derives (suc n) i (machine.ends left ms k c) = d
  listed_derives (suc n) i (machine.gives left ms st v as_) = by (conclusions s st st.hand) (listed_derives n (suc i) (first left (resume as_ zero no_more)))
    where
      more : (m : ℕ) (t : Text) → Derives (listed s n (suc i) (first left (resume as_ zero no_more))) → Derives (elim m as (λ _. Done) [
        | zero ↦ (lines ms ++ Rattle.lq_sessions.specs.Expressions.outcome_line i st ++ t, Ok s)
        | suc k ↦ after_text (lines ms ++ Rattle.lq_sessions.specs.Expressions.outcome_line i st ++ t) (listed s n (suc i) (first left (resume as_ zero no_more)))
      ])
      more zero t h = d
      more (suc k) t h = after_derives (lines ms ++ Rattle.lq_sessions.specs.Expressions.outcome_line i st ++ t) (listed s n (suc i) (first left (resume as_ zero no_more))) h

      by : (r : Result Text StoreFault) → Derives (listed s n (suc i) (first left (resume as_ zero no_more))) → Derives (elim r as (λ _. Done) [
        | Err f ↦ (lines ms, Err (fault_in s (Rattle.lq_sessions.specs.Told.of_store f)))
        | Ok t ↦ elim n as (λ _. Done) [
          | zero ↦ (lines ms ++ Rattle.lq_sessions.specs.Expressions.outcome_line i st ++ t, Ok s)
          | suc k ↦ after_text (lines ms ++ Rattle.lq_sessions.specs.Expressions.outcome_line i st ++ t) (listed s n (suc i) (first left (resume as_ zero no_more)))
        ]
      ])
      by (Err f) h = d
      by (Ok t) h = more n t h

  outcomes_derives : (o : Opened) (n : ℕ) (e : Tac) → Derives (outcomes_of s o n e)
  unfolding outcomes_of
  outcomes_derives o n e = by (leb 1 n && leb n 1000)
    where
      listing : Derives (in_hands s o (one 1) (λ st. listed s n 1 (answer (world_of s) s.steps e st)))
      listing = in_hands_derives o (one 1) _ (λ st. listed_derives n 1 (answer (world_of s) s.steps e st))

      by : (b : Bool) → Derives (elim b as (λ _. Done) [
        | false ↦ refused s (Rattle.lq_texts.specs.Causes.bad_count n)
        | true ↦ in_hands s o (one 1) (λ st. listed s n 1 (answer (world_of s) s.steps e st))
      ])
      by false = d
      by true = listing

  in_place_derives : (o : Opened) (t : Text) (r : Result Proof GoalFault) → Derives (in_place s o t r)
  unfolding in_place
  in_place_derives o t (Ok p) = d
  in_place_derives o t (Err f) = d

  parallel_derives : (o : Opened) (e : Tac) → Derives (in_parallel s o e)
  unfolding in_parallel gathered_done
  parallel_derives o e = by (gathered 1 (results (world_of s) s.steps e o.state.store o.state.focus))
    where
      by : (g : List Text × Option ScriptCause) → Derives (gathered_done s o (results (world_of s) s.steps e o.state.store o.state.focus) g)
      by (ms, Some c) = d
      by (ms, None) = in_place_derives o (lines ms) _

  expression_derives : (sel : Option Selector) (e : Tac) (o : Opened) → Derives (expression_done s sel e o)
  unfolding expression_done
  expression_derives None e o = selected_derives o (taking None) e
  expression_derives (Some (written.Ranges rs)) e o = selected_derives o (taking (Some (written.Ranges rs))) e
  expression_derives (Some (written.Named x)) e o = selected_derives o (taking (Some (written.Named x))) e
  expression_derives (Some written.All) e o = selected_derives o (taking (Some written.All)) e
  expression_derives (Some written.Sole) e o = selected_derives o (taking (Some written.Sole)) e
  expression_derives (Some written.Par) e o = parallel_derives o e

  -- ---- commands

  ltac_derives : (x : Name) (ps : List Name) (e : Tac) → Derives (add_ltac s x ps e)
  unfolding add_ltac
  ltac_derives x ps e = by (Rattle.lq_trees.specs.Fresh.is_listed built_in x)
    where
      New : Done
      New = elim (ltac_definition s.definitions x) as (λ _. Done) [ Some c ↦ refused s (Rattle.lq_texts.specs.Causes.ltac_taken x) | None ↦ accepted (sentences.with_definition s x ps e) ]

      new : Derives New
      new = at (ltac_definition s.definitions x)
        where
          at : (o : Option Definition) → Derives (elim o as (λ _. Done) [ Some c ↦ refused s (Rattle.lq_texts.specs.Causes.ltac_taken x) | None ↦ accepted (sentences.with_definition s x ps e) ])
          at None = d
          at (Some c) = d

      by : (b : Bool) → Derives (elim b as (λ _. Done) [ true ↦ refused s (Rattle.lq_texts.specs.Causes.ltac_taken x) | false ↦ New ])
      by true = d
      by false = new

  shown_derives : (o : Opened) → Derives (shown s o)
  unfolding shown
  shown_derives o = by (proof_view o.state)
    where
      by : (r : Result ProofView StoreFault) → Derives (elim r as (λ _. Done) [ Err f ↦ refused s (Rattle.lq_sessions.specs.Told.of_store f) | Ok v ↦ (Rattle.lq_texts.specs.Views.proof_text s.env (sentences.view_of v), Ok s) ])
      by (Ok v) = d
      by (Err f) = d

  printed_derives : (x : Name) → Derives (printed s x)
  unfolding printed
  printed_derives x = by (Rattle.lq_texts.specs.Views.print_text s.env x)
    where
      by : (r : Result Text ScriptCause) → Derives (elim r as (λ _. Done) [ Err c ↦ refused s c | Ok t ↦ (t, Ok s) ])
      by (Ok t) = d
      by (Err c) = d

  checked_derives : (t : Surface) → Derives (checked s t)
  unfolding checked
  checked_derives t = worked_derives (λ n. term_work s.env n (sentences.context_of s.opened) (sentences.store_of s.opened) t None) _ (λ f h. by f (open_among f.store (made_between (sentences.store_of s.opened) f.store)))
    where
      by : (f : Found) (n : ℕ) → Derives (elim n as (λ _. Done) [ suc k ↦ refused s (Rattle.lq_texts.specs.Causes.unresolved (suc k)) | zero ↦ all_fit s f.store (f.term ∷ f.kind ∷ []) (sentences.typed_text s f, Ok s) ])
      by f zero = all_fit_derives f.store (f.term ∷ f.kind ∷ []) _ d
      by f (suc k) = d

  command_derives : (c : Vernac) → Derives (command_done s c)
  unfolding command_done
  command_derives (inductive_family x xs A cs) = needs_none_derives _ (inductive_derives x xs A cs)
  command_derives (definition x xs A t) = needs_none_derives _ (needs_new_derives x _ (defined_derives x xs A t))
  command_derives (theorem x xs A) = needs_none_derives _ (needs_new_derives x _ (stated_derives x xs A))
  command_derives (lemma x xs A) = needs_none_derives _ (needs_new_derives x _ (stated_derives x xs A))
  command_derives proof = needs_proof_derives _ (λ o. d)
  command_derives qed = needs_proof_derives _ (λ o. closed_derives o true)
  command_derives defined = needs_proof_derives _ (λ o. closed_derives o false)
  command_derives abort = needs_proof_derives _ (λ o. d)
  command_derives unshelve = needs_proof_derives _ (λ o. on_proof_derives o (unshelved o.state))
  command_derives show = needs_proof_derives _ shown_derives
  command_derives (print x) = printed_derives x
  command_derives (check t) = checked_derives t
  command_derives (ltac x ps e) = ltac_derives x ps e
  command_derives (outcomes n e) = needs_proof_derives _ (λ o. outcomes_derives o n e)

  statement_derives : (x : Statement) → Derives (statement_done s x)
  unfolding statement_done
  statement_derives (command c) = command_derives c
  statement_derives (run sel e) = needs_proof_derives _ (expression_derives sel e)

  failing_derives : (r : Done) → Derives r → Derives (failing s r)
  unfolding failing
  failing_derives (t, Ok s1) h = d
  failing_derives (t, Err f) h = by (is_spent f.cause)
    where
      by : (b : Bool) → Derives (elim b as (λ _. Done) [ true ↦ (t, Err f) | false ↦ (t ++ Rattle.lq_texts.specs.Views.fail_text f.env f.cause f.level, Ok s) ])
      by true = h
      by false = d

  stated_done_derives : (k : ℕ) (x : Statement) → Derives (stated_done s k x)
  unfolding stated_done
  stated_done_derives zero x = statement_derives x
  stated_done_derives (suc k) x = failing_derives (stated_done s k x) (stated_done_derives k x)

  braced_derives : (o : Opened) (r : Result (List ℕ) GoalFault) → Derives (braced s o r)
  unfolding braced
  braced_derives o (Err f) = d
  braced_derives o (Ok []) = d
  braced_derives o (Ok (k ∷ [])) = on_proof_derives o (brace o.state k)
  braced_derives o (Ok (k ∷ j ∷ ks)) = d

  pub sentence_derives : (x : Sentence) → Derives (sentence s x)
  unfolding sentence
  sentence_derives (stated k x) = stated_done_derives k x
  sentence_derives (open_brace sel) = needs_proof_derives _ (λ o. braced_derives o (resolve o.state (taking sel)))
  sentence_derives close_brace = needs_proof_derives _ (λ o. on_proof_derives o (unbrace o.state))
  sentence_derives (bullet c k) = needs_proof_derives _ (λ o. on_proof_derives o (bulleted o.state (c, k)))
