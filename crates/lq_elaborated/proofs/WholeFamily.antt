-- A family, from its terms as they are written.
use Rattle.std.proofs.Common.{◌≡◌, refl, sym, subst, arith, ℕ, suc, List, [], ◌∷◌, ◌++◌, length, None, Result, Ok, Err}
use Rattle.std.specs.Prelude.{OnOk}
use Rattle.lq_trees.specs.Tree.{Name, Tree}
use Rattle.lq_trees.specs.Ticks.{done, ComesTo}
use Rattle.lq_ast.specs.Syntax.{Surface, Bound, bound, Forall}
use Rattle.lq_calculus.specs.Checking.{declare_family}
use Rattle.lq_calculus.specs.Declarations.{Env as Environment, arity}
use Rattle.lq_calculus.proofs.ConvSound.{Gives, done_gives, gives_bind}
use Rattle.lq_terms.specs.declared.nodes.Hypothesis.{Hypothesis}
use Rattle.lq_terms.specs.declared.nodes.NameId.{NameId}
use Rattle.lq_terms.specs.Contexts.{context_of}
use Rattle.lq_terms.specs.Terms.{Terms, HasName, Grows, text_of}
use Rattle.lq_env.specs.declared.environment.Declared.{Declared}
use Rattle.lq_env.specs.Environments.{IsEnv, env_of}
use Rattle.lq_env.proofs.Grown.{env_of-grown}
use Rattle.lq_elab.proofs.PlainDeclarations.{family_plain}
use Rattle.lq_solving.specs.Claims.{ArePlainDeclarations}
use Rattle.lq_solving.specs.Elaboration.{Found}
use Rattle.lq_solving.specs.Stores.{Store, no_variables, read}
use Rattle.lq_solving.proofs.ElabKept.{by_gives}
use Rattle.lq_sessions.specs.Sessions.{Work}
use Rattle.lq_sessions.specs.Told.{of_kernel}
use Rattle.lq_sessions.specs.Declaring.{term_work, family_work, constructors_work, solved_work, fitting_work, row_of, family_by, read_each, terms_of}
use Rattle.lq_causes.specs.declared.stops.Stop.{Stop}
use Rattle.lq_causes.specs.Stopping.{Stops}
use Rattle.lq_declaring.specs.Constants.{Declares}
use Rattle.lq_elaborated.specs.Families.{arity_work}
use Rattle.lq_elaborated.proofs.FindLaws.{stops_first}
use Rattle.lq_elaborated.proofs.DefineLaws.{declares_rest}

-- in a bank that has grown
pub arity_as : (b0 b1 b2 : Terms) → Grows b0 b1 → (ds new : List (NameId × Declared)) → IsEnv b0 ds → (x : NameId) → HasName b0 x → (k : ℕ) (s : Store) (t : Tree) (cs : List (Name × Surface)) (r : Result (Unit {0}) Stop) (b left : ℕ) →
    Declares b2 r new (arity_work (env_of b1 ds) (text_of b1 x) k s t cs) b left → Declares b2 r new (arity_work (env_of b0 ds) (text_of b0 x) k s t cs) b left
arity_as b0 b1 b2 g ds new i x named k s t cs r b left h = rw (sym (env_of-grown b0 b1 g ds i), sym (g.text x named)) h

-- an arity that is elaborated over no variables and no hypotheses, and the rest
module _ (bank b0 : Terms) (E : Environment) (x : Name) (xs : List Bound) (A : Surface) (cs : List (Name × Surface)) (hs : List Hypothesis) (s : Store) (k b : ℕ) (empty : hs ≡ []) (none : s ≡ no_variables) (count : k ≡ length xs) where
  abbrev arity_found : ℕ → Work Found
  arity_found n = term_work E n (context_of b0 hs) s (bound Forall xs A) None

  abbrev found_then : ℕ → Found → ℕ → Work Environment
  found_then j f = arity_work E x j f.store f.term cs

  abbrev bare_found : ℕ → Work Found
  bare_found n = term_work E n [] no_variables (bound Forall xs A) None

  found_is : arity_found ≡ bare_found
  found_is = subst (λ z. (λ n. term_work E n (context_of b0 z) s (bound Forall xs A) None) ≡ bare_found) (sym empty) (subst (λ z. (λ n. term_work E n [] z (bound Forall xs A) None) ≡ bare_found) (sym none) refl)

  pub whole_declares : (r : Result (Unit {0}) Stop) (new : List (NameId × Declared)) (F : Found) (l left : ℕ) → ComesTo arity_found b (done F l) → Declares bank r new (found_then k F) l left → Declares bank r new (λ n. family_work E n x xs A cs) b left
  unfolding family_work
  whole_declares r new F l left h d =
      declares_rest bank bare_found (found_then (length xs)) b F l left r new (subst (λ f. ComesTo f b (done F l)) found_is h) (subst (λ j. Declares bank r new (found_then j F) l left) count d)

  pub whole_stops : (stop : Stop) (l : ℕ) → Stops bank stop arity_found b l → Stops bank stop (λ n. family_work E n x xs A cs) b l
  unfolding family_work
  whole_stops stop l h = stops_first bank bare_found (found_then (length xs)) b l stop (subst (λ f. Stops bank stop f b l) found_is h)

-- ---- a family that is declared leaves plain declarations

family_work_plain : (env new : Environment) (n : ℕ) (x : Name) (xs : List Bound) (A : Surface) (cs : List (Name × Surface)) → ArePlainDeclarations env → Gives (family_work env n x xs A cs) new → ArePlainDeclarations new
unfolding family_work
family_work_plain env new n x xs A cs p h =
    let f = gives_bind (term_work env n [] no_variables (bound Forall xs A) None) _ new h in
    let r = gives_bind (row_of (length xs) (read f.0.store f.0.term)) _ new f.2 in
    let o = gives_bind (solved_work f.0.store) _ new r.2 in
    let c = gives_bind (constructors_work (env ++ (x, arity (read f.0.store f.0.term)) ∷ []) n r.0.parameters f.0.store cs) _ new o.2 in
    let u = gives_bind (solved_work c.0.0) _ new c.2 in
    let v = gives_bind (fitting_work c.0.0 (f.0.term ∷ terms_of c.0.1)) _ new u.2 in
    let q = gives_bind (row_of (length xs) (read c.0.0 f.0.term)) _ new v.2 in
    let family = family_by x q.0 (read_each c.0.0 c.0.1) in
    family_plain env n family new p (by_gives of_kernel (declare_family env n family) new q.2)

pub family_leaves : (bank : Terms) (r : Result (Unit {0}) Stop) (new : List (NameId × Declared)) (env : Environment) (x : Name) (xs : List Bound) (A : Surface) (cs : List (Name × Surface)) (b left : ℕ) → ArePlainDeclarations env →
    Declares bank r new (λ n. family_work env n x xs A cs) b left → OnOk r (ArePlainDeclarations (env_of bank new))
family_leaves bank (Ok ok) new env x xs A cs b left p h =
    family_work_plain env (env_of bank new) (suc b) x xs A cs p (done_gives b (family_work env (suc b) x xs A cs) (env_of bank new) left (h (suc b) (omega arith)))
family_leaves bank (Err stop) new env x xs A cs b left p h = tt
