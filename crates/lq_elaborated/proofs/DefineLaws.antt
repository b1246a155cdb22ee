-- A definition, part by part.
use Rattle.std.proofs.Common.{◌≡◌, sym, arith, ℕ, suc, [], List, Option, Some, None, Result, Ok, Err, subst, false}
use Rattle.lq_trees.specs.Tree.{Name, Tree, Context}
use Rattle.lq_trees.specs.Ticks.{◌>>=◌, done, ComesTo}
use Rattle.lq_trees.proofs.Outcomes.{comes_then}
use Rattle.lq_calculus.specs.Checking.{declare_constant}
use Rattle.lq_calculus.specs.Declarations.{Env as Environment}
use Rattle.lq_calculus.proofs.ConvSound.{Gives, done_gives, gives_bind}
use Rattle.lq_ast.specs.Syntax.{Surface, Bound, bound, Forall, Fun}
use Rattle.lq_terms.specs.declared.nodes.NameId.{NameId}
use Rattle.lq_terms.specs.declared.nodes.TermId.{TermId}
use Rattle.lq_terms.specs.Terms.{Terms, HasName, HasTerm, Grows, text_of, tree_of}
use Rattle.lq_env.specs.declared.environment.Declared.{Declared}
use Rattle.lq_env.specs.Environments.{IsEnv, env_of}
use Rattle.lq_env.proofs.Grown.{env_of-grown}
use Rattle.lq_calculus.specs.Typing.{DerivedEnv}
use Rattle.std.specs.Prelude.{OnOk}
use Rattle.lq_solving.specs.Claims.{ArePlainDeclarations}
use Rattle.lq_solving.specs.Kept.{Stands}
use Rattle.lq_solving.specs.Stores.{Store, no_variables, read}
use Rattle.lq_solving.proofs.ElabKept.{Grown, by_gives}
use Rattle.lq_evars.specs.Places.{Places, store_of}
use Rattle.lq_elab.proofs.PlainDeclarations.{constant_plain}
use Rattle.lq_goals.specs.Seen.{IsReadable}
use Rattle.lq_sessions.specs.Sessions.{Work}
use Rattle.lq_sessions.specs.Told.{of_kernel}
use Rattle.lq_sessions.specs.Declaring.{term_work, type_work, constant_work, definition_work, solved_work, fitting_work}
use Rattle.lq_causes.specs.declared.stops.Stop.{Stop}
use Rattle.lq_declaring.specs.Constants.{Declares}
use Rattle.lq_elaborated.specs.declared.terms.Typed.{Typed}
use Rattle.lq_elaborated.specs.Finding.{IsTyped}
use Rattle.lq_elaborated.specs.Defining.{body_work, written_work, found_work}
use Rattle.lq_elaborated.proofs.FindLaws.{stops_rest}

-- a part, and then what declares
pub declares_rest : {A : Type 0} (bank : Terms) (x : ℕ → Work A) (k : A → ℕ → Work Environment) (b : ℕ) (a : A) (l m : ℕ) (r : Result (Unit {0}) Stop) (new : List (NameId × Declared)) → ComesTo x b (done a l) →
    Declares bank r new (k a) l m → Declares bank r new (λ n. x n >>= (λ z. k z n)) b m
declares_rest bank x k b a l m (Ok ok) new h d = comes_then x k b a l (done (env_of bank new) m) h d
declares_rest bank x k b a l m (Err stop) new h d = stops_rest bank x k b a l m stop h d

-- what was elaborated can be read
pub readable : (bank : Terms) (S : Store) (s : Places) (c : Context) (e : Typed) → IsTyped bank S s c e → IsReadable bank s e.term × IsReadable bank s e.kind
readable bank S s c e h = (
  record { has = h.term; over = h.term_stands.over; within = h.term_stands.within },
  record { has = h.kind; over = h.kind_stands.over; within = h.kind_stands.within },
)

-- what stood before can be read where the store has grown
pub readable_later : (old new : Terms) → (g : Grows old new) → (s s1 : Places) (xs : List Name) (t : TermId) → HasTerm old t → Stands (store_of old s) xs (tree_of old t) → Grown (store_of old s) (store_of new s1) → IsReadable new s1 t
readable_later old new g s s1 xs t has k h =
    let k1 = subst (Stands (store_of new s1) xs) (sym (g.tree t has)) (h.keeps xs (tree_of old t) k) in record { has = omega (arith, has, g.nodes); over = k1.over; within = k1.within }

-- a constant in a bank that has grown
pub constant_as : (b0 b1 b2 : Terms) → Grows b0 b1 → (ds new : List (NameId × Declared)) → IsEnv b0 ds → (x : NameId) → HasName b0 x → (s : Store) (A t : Tree) (ts : List Tree) (r : Result (Unit {0}) Stop) (b left : ℕ) →
    Declares b2 r new (λ n. constant_work (env_of b1 ds) n (text_of b1 x) s A t ts) b left → Declares b2 r new (λ n. constant_work (env_of b0 ds) n (text_of b0 x) s A t ts) b left
constant_as b0 b1 b2 g ds new i x named s A t ts r b left h = rw (sym (env_of-grown b0 b1 g ds i), sym (g.text x named)) h

pub body_as : (b0 b1 b2 : Terms) → Grows b0 b1 → (ds new : List (NameId × Declared)) → IsEnv b0 ds → (x : NameId) → HasName b0 x → (s : Store) (A : Tree) (t : Surface) (r : Result (Unit {0}) Stop) (b left : ℕ) →
    Declares b2 r new (body_work (env_of b1 ds) (text_of b1 x) s A t) b left → Declares b2 r new (body_work (env_of b0 ds) (text_of b0 x) s A t) b left
body_as b0 b1 b2 g ds new i x named s A t r b left h = rw (sym (env_of-grown b0 b1 g ds i), sym (g.text x named)) h

-- an environment that is derived in a bank that has grown
pub derived_as : (b0 b1 : Terms) → Grows b0 b1 → (ds : List (NameId × Declared)) → IsEnv b0 ds → (new : Environment) (r : Result (Unit {0}) Stop) → OnOk r (DerivedEnv (env_of b1 ds) → DerivedEnv new) → OnOk r (DerivedEnv (env_of b0 ds) → DerivedEnv new)
derived_as b0 b1 g ds i new r h = subst (λ E. OnOk r (DerivedEnv E → DerivedEnv new)) (env_of-grown b0 b1 g ds i) h

-- ---- a constant that is declared leaves plain declarations

constant_work_plain : (env new : Environment) (n : ℕ) (x : Name) (s : Store) (A t : Tree) (ts : List Tree) → ArePlainDeclarations env → Gives (constant_work env n x s A t ts) new → ArePlainDeclarations new
unfolding constant_work
constant_work_plain env new n x s A t ts p h =
    let a = gives_bind (solved_work s) _ new h in
    let b = gives_bind (fitting_work s ts) _ new a.2 in
    constant_plain env n x (read s A) (read s t) false new p (by_gives of_kernel (declare_constant env n x (read s A) (read s t) false) new b.2)

definition_plain : (env new : Environment) (n : ℕ) (x : Name) (xs : List Bound) (A : Option Surface) (t : Surface) → ArePlainDeclarations env → Gives (definition_work env n x xs A t) new → ArePlainDeclarations new
unfolding definition_work
definition_plain env new n x xs (Some A) t p h =
    let a = gives_bind (type_work env n [] no_variables (bound Forall xs A)) _ new h in
    let b = gives_bind (term_work env n [] a.0.store (bound Fun xs t) (Some a.0.term)) _ new a.2 in
    constant_work_plain env new n x b.0.store a.0.term b.0.term _ p b.2
definition_plain env new n x xs None t p h =
    let b = gives_bind (term_work env n [] no_variables (bound Fun xs t) None) _ new h in
    constant_work_plain env new n x b.0.store b.0.kind b.0.term _ p b.2

pub definition_kept : (env new : Environment) (x : Name) (xs : List Bound) (A : Option Surface) (t : Surface) (b left : ℕ) → ArePlainDeclarations env → ComesTo (λ n. definition_work env n x xs A t) b (done new left) → ArePlainDeclarations new
definition_kept env new x xs A t b left p h =
    definition_plain env new (suc b) x xs A t p (done_gives b (definition_work env (suc b) x xs A t) new left (h (suc b) (omega arith)))

pub definition_leaves : (bank : Terms) (r : Result (Unit {0}) Stop) (new : List (NameId × Declared)) (env : Environment) (x : Name) (xs : List Bound) (A : Option Surface) (t : Surface) (b left : ℕ) → ArePlainDeclarations env →
    Declares bank r new (λ n. definition_work env n x xs A t) b left → OnOk r (ArePlainDeclarations (env_of bank new))
definition_leaves bank (Ok ok) new env x xs A t b left p h = definition_kept env (env_of bank new) x xs A t b left p h
definition_leaves bank (Err stop) new env x xs A t b left p h = tt

-- ---- the whole

module _ (bank : Terms) (r : Result (Unit {0}) Stop) (new : List (NameId × Declared)) (env : Environment) (x : Name) (xs : List Bound) (o : Option Surface) (t : Surface) (s : Store) (b left : ℕ) (none : s ≡ no_variables) where
  pub as_written : (A : Surface) → o ≡ Some A → Declares bank r new (written_work env x s (bound Forall xs A) (bound Fun xs t)) b left → Declares bank r new (λ n. definition_work env n x xs o t) b left
  unfolding definition_work
  as_written A e h = subst (λ z. Declares bank r new (λ n. definition_work env n x xs z t) b left) (sym e) (subst (λ z. Declares bank r new (written_work env x z (bound Forall xs A) (bound Fun xs t)) b left) none h)

  pub as_found : o ≡ None → Declares bank r new (found_work env x s (bound Fun xs t)) b left → Declares bank r new (λ n. definition_work env n x xs o t) b left
  unfolding definition_work
  as_found e h = subst (λ z. Declares bank r new (λ n. definition_work env n x xs z t) b left) (sym e) (subst (λ z. Declares bank r new (found_work env x z (bound Fun xs t)) b left) none h)
