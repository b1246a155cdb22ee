-- Names and their meanings, by the places of a bank.
use Rattle.std.proofs.Common.{◌≡◌, ℕ, ◌+◌, ◌≤◌, ◌<◌, refl, sym, ◌∙◌, ap, List, [], ◌∷◌, ◌++◌, length, get_or, take, Option, Some, None, Bool, arith, length-append}
use Rattle.std.proofs.Common.{subst as along}
use Rattle.std.specs.Prelude.{is_some, IfSome}
use Rattle.std.proofs.lemmas.List.{take_more, length-take}
use Rattle.lq_trees.specs.Tree.{Name, Tree, same_name}
use Rattle.lq_terms.specs.declared.nodes.NameId.{NameId}
use Rattle.lq_terms.specs.declared.nodes.TermId.{TermId}
use Rattle.lq_terms.specs.declared.nodes.Node.{Node}
use Rattle.lq_terms.specs.Terms.{Terms, HasName, HasTerm, IsTerm, text_of, tree_of, node_tree}
use Rattle.lq_calculus.specs.Declarations.{Env, Entry as Declaration, lookup}
use Rattle.lq_output.specs.Steps.{binder_of, constant_in, global, meant, product_of}
use Rattle.lq_env.specs.declared.environment.Entry.{Entry}
use Rattle.lq_env.specs.Environments.{IsOwn, Looks}
use Rattle.lq_script.specs.Places.{next_place}
use Rattle.lq_script.specs.Scopes.{scope_of, IsGlobal}
use Rattle.lq_script.proofs.Places.{place_next, place_within}

-- one binder more
pub scope_push : (bank : Terms) (xs : List NameId) (x : NameId) → scope_of bank (xs ++ (x ∷ [])) ≡ text_of bank x ∷ scope_of bank xs
scope_push bank [] x = refl
scope_push bank (y ∷ ys) x = ap (λ zs. zs ++ text_of bank y ∷ []) (scope_push bank ys x)

pub scope_length : (bank : Terms) (xs : List NameId) → length (scope_of bank xs) ≡ length xs
scope_length bank [] = refl
scope_length bank (x ∷ xs) = omega (arith, length-append (scope_of bank xs) (text_of bank x ∷ []), scope_length bank xs)

-- the look for the nearest binder
module _ (bank : Terms) (xs : List NameId) (i : ℕ) (x : Name) where
  pub nearest_more : (d : NameId) → i < length xs → binder_of (scope_of bank (take (i + 1) xs)) x ≡ next_place (same_name (text_of bank (get_or xs i d)) x) (binder_of (scope_of bank (take i xs)) x)
  nearest_more d l =
      ap (λ ys. binder_of (scope_of bank ys) x) (take_more xs i d l)
      ∙ ap (λ zs. binder_of zs x) (scope_push bank (take i xs) (get_or xs i d))
      ∙ place_next (text_of bank (get_or xs i d)) (scope_of bank (take i xs)) x

  pub nearest_within : (k : ℕ) → binder_of (scope_of bank (take i xs)) x ≡ Some k → k < length xs
  nearest_within k e = omega (arith, place_within (scope_of bank (take i xs)) x k e, scope_length bank (take i xs), length-take i xs)

-- a name is the only one of its text
abbrev pub IsApart : Terms → NameId → Type 0
IsApart bank x = (y : NameId) → HasName bank y → text_of bank y ≡ text_of bank x → y ≡ x

-- what an environment tells of a name
pub is_own : (bank : Terms) (x : NameId) → HasName bank x → IsApart bank x → IsOwn bank x
is_own bank x h apart = record { has = h; apart = apart }

pub looks_some : (bank : Terms) (o : Option Entry) (e : Option Declaration) → Looks bank o e → is_some o ≡ is_some e
looks_some bank None e h = ap is_some (sym h)
looks_some bank (Some c) e h = ap is_some (sym h.1)

module _ (bank : Terms) (env : Env) (x : Name) where
  pub global_missing : Looks bank None (lookup env x) → IsGlobal bank x None (global env x)
  unfolding global constant_in
  global_missing h = rw (h, constant_in) refl

  pub global_known : (e : Entry) (kind body : TermId) (opaque : Bool) → e ≡ Entry.Constant kind body opaque → Looks bank (Some e) (lookup env x) → IsGlobal bank x (Some kind) (global env x)
  unfolding global constant_in
  global_known e kind body opaque is h =
      let k : Looks bank (Some (Entry.Constant kind body opaque)) (lookup env x) = along (λ z. Looks bank (Some z) (lookup env x)) is h in
      (k.0.0.has, rw (k.1, constant_in) refl)

  pub global_other : (e : Entry) → ((kind body : TermId) (opaque : Bool) → e ≡ Entry.Constant kind body opaque → ⊥) → Looks bank (Some e) (lookup env x) → IsGlobal bank x None (global env x)
  unfolding global constant_in
  global_other (Entry.Constant kind body opaque) other h = absurd (other kind body opaque refl)
  global_other (Entry.Family f ss) other h = rw (h.1, constant_in) refl
  global_other (Entry.Arity kind) other h = rw (h.1, constant_in) refl
  global_other (Entry.Constructor f k) other h = rw (h.1, constant_in) refl
  global_other (Entry.Eliminator f u) other h = rw (h.1, constant_in) refl

pub nearest_none : (x : Name) → None ≡ binder_of [] x
unfolding binder_of
nearest_none x = refl

-- its number is small
pub nearest_few : (bank : Terms) (xs : List NameId) (i : ℕ) (x : Name) (o : Option ℕ) → o ≡ binder_of (scope_of bank (take i xs)) x → length xs ≤ 200 → IfSome o (λ n. n < 4294967295)
nearest_few bank xs i x None e l = tt
nearest_few bank xs i x (Some n) e l = omega (arith, nearest_within bank xs i x n (sym e))

-- the nearest binder is meant, else the constant
module _ (env : Env) (scope : List Name) (x : Name) where
  pub meant_bound : (k : ℕ) → binder_of scope x ≡ Some k → meant env scope x ≡ Some (Tree.Rel k)
  unfolding meant
  meant_bound k e = rw (e, meant)

  pub meant_constant : (A : Tree) → binder_of scope x ≡ None → global env x ≡ Some (Tree.Const x, A) → meant env scope x ≡ Some (Tree.Const x)
  unfolding meant
  meant_constant A e h = rw (e, h, meant)

  pub meant_nothing : binder_of scope x ≡ None → global env x ≡ None → meant env scope x ≡ None
  unfolding meant
  meant_nothing e h = rw (e, h, meant)

-- the node that is made for a name
module _ (bank new : Terms) (t : TermId) (node : Node) (env : Env) (scope : List Name) where
  pub made_bound : (x : Name) (k : ℕ) → IsTerm new t (node_tree bank node) → node ≡ Node.Rel k → binder_of scope x ≡ Some k → HasTerm new t × (meant env scope x ≡ Some (tree_of new t))
  made_bound x k made e at = (made.has, meant_bound env scope x k at ∙ ap Some (sym (made.is ∙ ap (node_tree bank) e)))

  pub made_constant : (x : NameId) (A : Tree) → IsTerm new t (node_tree bank node) → node ≡ Node.Const x → binder_of scope (text_of bank x) ≡ None → global env (text_of bank x) ≡ Some (Tree.Const (text_of bank x), A)
      → HasTerm new t × (meant env scope (text_of bank x) ≡ Some (tree_of new t))
  made_constant x A made e at known = (made.has, meant_constant env scope (text_of bank x) A at known ∙ ap Some (sym (made.is ∙ ap (node_tree bank) e)))

-- a product of what two parts stand for
module _ (y : Name) (a b : Option Tree) where
  pub no_kind : a ≡ None → product_of y a b ≡ None
  unfolding product_of
  no_kind e = rw (e, product_of)

  pub no_rest : b ≡ None → product_of y a b ≡ None
  unfolding product_of
  no_rest e = ap (product_of y a) e ∙ go a
    where
      go : (o : Option Tree) → product_of y o None ≡ None
      go None = refl
      go (Some A) = refl

  pub is_product : (A B : Tree) → a ≡ Some A → b ≡ Some B → product_of y a b ≡ Some (Tree.Prod y A B)
  unfolding product_of
  is_product A B e f = rw (e, f, product_of)
