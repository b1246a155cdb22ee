-- A family, part by part.
use Rattle.std.proofs.Common.{◌≡◌, ◌∙◌, refl, sym, ap, subst, arith, ℕ, List, [], Result, false}
use Rattle.std.specs.Prelude.{OnOk, OnErr}
use Rattle.lq_trees.specs.Tree.{Name, Tree}
use Rattle.lq_trees.specs.Ticks.{Paid, gives, fails, cut, tick, ◌>>=◌}
use Rattle.lq_trees.specs.Fresh.{is_listed}
use Rattle.lq_trees.specs.declared.Fit.{Fit}
use Rattle.lq_trees.specs.Size.{size, depth, fit}
use Rattle.lq_trees.proofs.Reach.{fits_depth}
use Rattle.lq_ast.specs.Syntax.{Surface}
use Rattle.lq_calculus.proofs.ConvSound.{Gives}
use Rattle.lq_evars.specs.Places.{Places, store_of, HasStore}
use Rattle.lq_evars.proofs.Growing.{store_of-grown}
use Rattle.lq_solving.specs.Claims.{IsPlain}
use Rattle.lq_solving.specs.Kept.{IsStore, IsContext, Stands}
use Rattle.lq_sessions.specs.Sessions.{Work}
use Rattle.lq_sessions.specs.Declaring.{Row, row_of, solved_work}
use Rattle.lq_declaring.specs.declared.rows.Row.{Row as FoundRow}
use Rattle.lq_declaring.specs.Rows.{row_in}
use Rattle.lq_terms.specs.Contexts.{context_of}
use Rattle.lq_causes.specs.Stopping.{Stops}
use Rattle.lq_declaring.proofs.ConstantLaws.{declares_as, stops_as}
use Rattle.lq_elaborated.specs.Families.{row_work, arity_work, constructed_work, IsArity}
use Rattle.lq_elaborated.proofs.FindLaws.{stops_first}
use Rattle.lq_elaborated.proofs.FamilyLaws.{read_plain}
use Rattle.lq_elaborated.proofs.RowContexts.{parameters_stand}
use Rattle.lq_elaborated.proofs.SolvedLaws.{read_stands}
use Rattle.lq_calculus.specs.Declarations.{names_of}
use Rattle.lq_calculus.specs.Declarations.{Env as Environment}
use Rattle.lq_calculus.specs.Typing.{DerivedEnv}
use Rattle.lq_terms.specs.declared.nodes.NameId.{NameId}
use Rattle.lq_terms.specs.declared.nodes.TermId.{TermId}
use Rattle.lq_terms.specs.Terms.{Terms, HasName, HasTerm, Grows, text_of, tree_of}
use Rattle.lq_env.specs.declared.environment.Declared.{Declared}
use Rattle.lq_env.specs.Environments.{IsEnv, env_of, Extends}
use Rattle.lq_env.proofs.Grown.{env_of-grown}
use Rattle.lq_solving.specs.Stores.{Store, read}
use Rattle.lq_causes.specs.declared.stops.Stop.{Stop}
use Rattle.lq_declaring.specs.Constants.{Declares}
use Rattle.lq_declaring.specs.Families.{family_rest}

-- what was done in a bank that has grown, from the same environment
module _ (b0 b1 b2 : Terms) (g : Grows b0 b1) (ds0 ds1 new : List (NameId × Declared)) (same : ds1 ≡ ds0) (i : IsEnv b0 ds0) (r : Result (Unit {0}) Stop) where
  env_same : env_of b1 ds1 ≡ env_of b0 ds0
  env_same = subst (λ z. env_of b1 z ≡ env_of b0 ds0) (sym same) (env_of-grown b0 b1 g ds0 i)

  pub rest_as : (x : NameId) → HasName b0 x → (k : ℕ) (s : Store) (t : TermId) → HasTerm b0 t → (cs : List (Name × Tree)) (b left : ℕ) →
      Declares b2 r new (family_rest (env_of b1 ds1) (text_of b1 x) k s (tree_of b1 t) cs) b left → Declares b2 r new (family_rest (env_of b0 ds0) (text_of b0 x) k s (tree_of b0 t) cs) b left
  rest_as x named k s t has cs b left h = rw (sym env_same, sym (g.text x named), sym (g.tree t has)) h

  pub rest_derived : OnOk r (DerivedEnv (env_of b1 ds1) → DerivedEnv (env_of b2 new)) → OnOk r (DerivedEnv (env_of b0 ds0) → DerivedEnv (env_of b2 new))
  rest_derived h = subst (λ E. OnOk r (DerivedEnv E → DerivedEnv (env_of b2 new))) env_same h

  pub rest_extends : OnOk r (Extends ds1 new) → OnOk r (Extends ds0 new)
  rest_extends h = subst (λ z. OnOk r (Extends z new)) same h

  pub rest_kept : OnErr r (new ≡ ds1) → OnErr r (new ≡ ds0)
  rest_kept h = subst (λ z. OnErr r (new ≡ z)) same h

-- ---- behind an arity

behind_look : {F A B : Type 0} (v : Paid F (Unit {0})) (a : A) (k : A → Paid F B) → (v >>= λ ok. gives a) >>= k ≡ v >>= λ ok. k a
unfolding ◌>>=◌
behind_look (gives ok) a k = refl
behind_look (fails f) a k = refl
behind_look cut a k = refl
behind_look (tick r) a k = ap tick (behind_look r a k)

behind_row : {F A B : Type 0} (w : Paid F A) (v : Paid F (Unit {0})) (k : A → Paid F B) → (w >>= λ a. v >>= λ ok. gives a) >>= k ≡ w >>= λ a. v >>= λ ok. k a
unfolding ◌>>=◌
behind_row (gives a) v k = behind_look v a k
behind_row (fails f) v k = refl
behind_row cut v k = refl
behind_row (tick r) v k = ap tick (behind_row r v k)

module _ (E : Environment) (x : Name) (k : ℕ) (s : Store) (t : Tree) (cs : List (Name × Surface)) where
  abbrev by_row : Row → ℕ → Work Environment
  by_row r = constructed_work E x k s t (read s t) r.parameters cs

  pub behind_stops : (bank : Terms) (stop : Stop) (b l : ℕ) → Stops bank stop (row_work s t k) b l → Stops bank stop (arity_work E x k s t cs) b l
  behind_stops bank stop b l h =
      stops_as bank stop (arity_work E x k s t cs) (λ n. row_work s t k n >>= (λ r. by_row r n)) b l (λ n. sym (behind_row (row_of k (read s t)) (solved_work s) (λ r. by_row r n)))
      (stops_first bank (row_work s t k) by_row b l stop h)

  pub behind_declares : (bank : Terms) (r : Result (Unit {0}) Stop) (new : List (NameId × Declared)) (q : Row) (b l : ℕ) → row_of k (read s t) ≡ gives q → solved_work s ≡ gives tt →
      Declares bank r new (by_row q) b l → Declares bank r new (arity_work E x k s t cs) b l
  unfolding ◌>>=◌
  behind_declares bank r new q b l e u h =
      declares_as bank r new (arity_work E x k s t cs) (by_row q) b l
      (λ n. ap (λ w. w >>= λ r. solved_work s >>= λ ok. by_row r n) e ∙ ap (λ w. w >>= λ ok. by_row q n) u) h

-- an arity's parameters and its type stand, in a bank that has grown
module _ (b1 : Terms) (S : Store) (i : IsStore S) (t : Tree) (h : Stands S [] t) (f : fit (read S t) ≡ Fit.Fits) (k : ℕ) (p : TermId × FoundRow) (a : IsArity b1 S t k p) where
  pub arity_bare : IsPlain 0 (tree_of b1 p.0)
  arity_bare = subst (IsPlain 0) (sym a.read_is.is) (read_plain S i a.solved t h)

  pub arity_parameters : IsContext S (context_of b1 p.1.parameters)
  arity_parameters =
      parameters_stand S k (read S t) (row_in b1 p.1) (omega (arith, fits_depth (size (read S t)) (depth (read S t)) f)) (read_stands S i a.solved [] t h)
      (subst (λ w. Gives w (row_in b1 p.1)) (sym a.row_is) refl)

-- the rest in a bank that has grown
module _ (b0 b1 : Terms) (g : Grows b0 b1) (ds : List (NameId × Declared)) (i : IsEnv b0 ds) (x : NameId) (named : HasName b0 x) where
  pub still_new : is_listed (names_of (env_of b0 ds)) (text_of b0 x) ≡ false → is_listed (names_of (env_of b1 ds)) (text_of b1 x) ≡ false
  still_new e = rw (env_of-grown b0 b1 g ds i, g.text x named) e

  pub behind_as : (bank : Terms) (r : Result (Unit {0}) Stop) (new : List (NameId × Declared)) (k : ℕ) (s : Places) → HasStore b0 s → (t : TermId) → HasTerm b0 t → (p : TermId × FoundRow) → (cs : List (Name × Surface)) (b l : ℕ) →
      IsArity b1 (store_of b0 s) (tree_of b0 t) k p →
      Declares bank r new (constructed_work (env_of b1 ds) (text_of b1 x) k (store_of b1 s) (tree_of b1 t) (tree_of b1 p.0) (context_of b1 p.1.parameters) cs) b l →
      Declares bank r new (arity_work (env_of b0 ds) (text_of b0 x) k (store_of b0 s) (tree_of b0 t) cs) b l
  behind_as bank r new k s has t term p cs b l a h =
      behind_declares (env_of b0 ds) (text_of b0 x) k (store_of b0 s) (tree_of b0 t) cs bank r new (row_in b1 p.1) b l a.row_is a.solved
      (rw (sym (env_of-grown b0 b1 g ds i), sym (g.text x named), sym (store_of-grown b0 b1 g s has), sym (g.tree t term)) (again h))
    where
      again : Declares bank r new (constructed_work (env_of b1 ds) (text_of b1 x) k (store_of b1 s) (tree_of b1 t) (tree_of b1 p.0) (context_of b1 p.1.parameters) cs) b l →
          Declares bank r new (constructed_work (env_of b1 ds) (text_of b1 x) k (store_of b1 s) (tree_of b1 t) (read (store_of b1 s) (tree_of b1 t)) (context_of b1 p.1.parameters) cs) b l
      again =
          subst (λ z. Declares bank r new (constructed_work (env_of b1 ds) (text_of b1 x) k (store_of b1 s) (tree_of b1 t) z (context_of b1 p.1.parameters) cs) b l)
          (a.read_is.is ∙ sym (ap (λ z. read z (tree_of b0 t)) (store_of-grown b0 b1 g s has)) ∙ sym (ap (read (store_of b1 s)) (g.tree t term)))
