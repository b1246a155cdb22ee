-- What the parts of a written product stand for, as the bank grows.
use Rattle.std.proofs.Common.{◌≡◌, sym, ◌∙◌, ap, ap₂, List, ◌∷◌, Option, Some, None}
use Rattle.std.proofs.Common.{subst as along}
use Rattle.std.specs.List.{AllByRecursion}
use Rattle.lq_trees.specs.Tree.{Name, Tree}
use Rattle.lq_terms.specs.declared.nodes.NameId.{NameId}
use Rattle.lq_terms.specs.declared.nodes.TermId.{TermId}
use Rattle.lq_terms.specs.declared.nodes.Node.{Node}
use Rattle.lq_terms.specs.Terms.{Terms, HasName, HasTerm, IsTerm, IsName, Grows, text_of, tree_of, node_tree}
use Rattle.lq_terms.proofs.Growth.{Grows-trans, IsName-grown}
use Rattle.lq_output.specs.Grammar.{Surface}
use Rattle.lq_output.specs.Steps.{product_of, resolved}
use Rattle.lq_env.specs.declared.environment.Declared.{Declared}
use Rattle.lq_env.specs.Environments.{IsEnv, env_of}
use Rattle.lq_script.specs.Scopes.{scope_of, IsMeant}
use Rattle.lq_script.proofs.Grown.{env_of-grown, scope_of-grown}
use Rattle.lq_script.proofs.Meanings.{no_kind, no_rest, is_product}

meant_none : (bank : Terms) (o : Option TermId) (r : Option Tree) → o ≡ None → IsMeant bank o r → r ≡ None
meant_none bank o r e h = along (λ z. IsMeant bank z r) e h

meant_some : (bank : Terms) (o : Option TermId) (r : Option Tree) (t : TermId) → o ≡ Some t → IsMeant bank o r → HasTerm bank t × (r ≡ Some (tree_of bank t))
meant_some bank o r t e h = along (λ z. IsMeant bank z r) e h

module _ (old m1 m2 : Terms) (ps : List (NameId × Declared)) (xs ys : List NameId) (x : NameId) (text : Name) (g1 : Grows old m1) (g2 : Grows m1 m2) (env : IsEnv old ps) (names : AllByRecursion (HasName old) xs) where
  kind_same : (S : Surface) → resolved (env_of m1 ps) (scope_of m1 xs) S ≡ resolved (env_of old ps) (scope_of old xs) S
  kind_same S = ap₂ (λ e b. resolved e b S) (env_of-grown old m1 ps g1 env) (scope_of-grown old m1 xs g1 names)

  rest_same : (S : Surface) → IsName m1 x text → ys ≡ xs → resolved (env_of m2 ps) (text_of m2 x ∷ scope_of m2 ys) S ≡ resolved (env_of old ps) (text ∷ scope_of old xs) S
  rest_same S n k =
      let g : Grows old m2 = Grows-trans old m1 m2 g1 g2 in
      ap (λ zs. resolved (env_of m2 ps) (text_of m2 x ∷ scope_of m2 zs) S) k
      ∙ ap₂ (λ e b. resolved e b S) (env_of-grown old m2 ps g env) (ap₂ (λ z zs. z ∷ zs) (IsName-grown m1 m2 x text g2 n).is (scope_of-grown old m2 xs g names))

  pub kind_missing : (o : Option TermId) (S : Surface) (b : Option Tree) → o ≡ None → IsMeant m2 o (resolved (env_of m1 ps) (scope_of m1 xs) S) → product_of text (resolved (env_of old ps) (scope_of old xs) S) b ≡ None
  kind_missing o S b e h = no_kind text _ b (sym (kind_same S) ∙ meant_none m2 o _ e h)

  module _ (m3 : Terms) (n : IsName m1 x text) (k : ys ≡ xs) where
    pub rest_missing :
        (o : Option TermId) (S : Surface) (a : Option Tree) → o ≡ None → IsMeant m3 o (resolved (env_of m2 ps) (text_of m2 x ∷ scope_of m2 ys) S)
        → product_of text a (resolved (env_of old ps) (text ∷ scope_of old xs) S) ≡ None
    rest_missing o S a e h = no_rest text a _ (sym (rest_same S n k) ∙ meant_none m3 o _ e h)

    pub both_there :
        (new : Terms) (o p : Option TermId) (A B : Surface) (kind rest t : TermId) → Grows m2 m3
        → o ≡ Some kind → IsMeant m2 o (resolved (env_of m1 ps) (scope_of m1 xs) A)
        → p ≡ Some rest → IsMeant m3 p (resolved (env_of m2 ps) (text_of m2 x ∷ scope_of m2 ys) B)
        → IsTerm new t (node_tree m3 (Node.Prod x kind rest))
        → HasTerm new t × (product_of text (resolved (env_of old ps) (scope_of old xs) A) (resolved (env_of old ps) (text ∷ scope_of old xs) B) ≡ Some (tree_of new t))
    both_there new o p A B kind rest t g3 e h f i made =
        let first = meant_some m2 o _ kind e h in
        let second = meant_some m3 p _ rest f i in
        let named : text_of m3 x ≡ text = (IsName-grown m2 m3 x text g3 (IsName-grown m1 m2 x text g2 n)).is in (
          made.has,
          is_product text _ _ (tree_of m3 kind) (tree_of m3 rest) (sym (kind_same A) ∙ first.1 ∙ ap Some (sym (g3.tree kind first.0))) (sym (rest_same B n k) ∙ second.1)
              ∙ ap Some (ap (λ z. Tree.Prod z (tree_of m3 kind) (tree_of m3 rest)) (sym named) ∙ sym made.is),
        )
