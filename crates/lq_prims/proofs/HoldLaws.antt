-- What the look for a variable in a term comes to.
use Rattle.std.proofs.Common.{◌≡◌, ◌≤◌, ◌<◌, ◌+◌, ◌∙◌, ℕ, refl, sym, ap, ap₂, arith, eqb, eq-eqb, eqb-true, Bool, true, false, ◌||◌, List, [], ◌∷◌, length, get_or, drop, ◌⊎◌, inl, inr}
use Rattle.std.proofs.lemmas.List.{drop_more, drop_all}
use Rattle.lq_trees.specs.Tree.{Tree}
use Rattle.lq_trees.specs.Tree.Tree.{Rel, Var, Sort, Prod, Lam, Let, App, Const, Ind, Ctor, Elim, Evar}
use Rattle.lq_trees.specs.Marks.{holds_unknown}
use Rattle.lq_terms.specs.declared.nodes.NameId.{NameId}
use Rattle.lq_terms.specs.declared.nodes.Node.{Node}
use Rattle.lq_terms.specs.declared.nodes.TermId.{TermId}
use Rattle.lq_terms.specs.Terms.{Terms, tree_of, trees_by, node_tree}
use Rattle.lq_solving.specs.Occurs.{holds_variable, holds_variable_in}

both_false : (a b : Bool) → (a || b) ≡ false → (a ≡ false) × (b ≡ false)
both_false false b e = (refl, e)
both_false true b e = absurd (grind (arith, e))

-- where no unknown stands, no variable does
plain_free : (k : ℕ) (t : Tree) → holds_unknown t ≡ false → holds_variable k t ≡ false
unfolding holds_variable
plain_free k (Rel i) e = refl
plain_free k (Var x) e = refl
plain_free k (Sort s) e = refl
plain_free k (Prod x A B) e = let q = both_false (holds_unknown A) (holds_unknown B) e in ap₂ (λ a b. a || b) (plain_free k A q.0) (plain_free k B q.1)
plain_free k (Lam x A t) e = let q = both_false (holds_unknown A) (holds_unknown t) e in ap₂ (λ a b. a || b) (plain_free k A q.0) (plain_free k t q.1)
plain_free k (Let x v A t) e =
    let r = both_false (holds_unknown v || holds_unknown A) (holds_unknown t) e in
    let q = both_false (holds_unknown v) (holds_unknown A) r.0 in
    ap₂ (λ a b. a || b) (ap₂ (λ a b. a || b) (plain_free k v q.0) (plain_free k A q.1)) (plain_free k t r.1)
plain_free k (App f a) e = let q = both_false (holds_unknown f) (holds_unknown a) e in ap₂ (λ b c. b || c) (plain_free k f q.0) (plain_free k a q.1)
plain_free k (Const c) e = refl
plain_free k (Ind c) e = refl
plain_free k (Ctor c i) e = refl
plain_free k (Elim c s) e = refl
plain_free k (Evar n ts) e = absurd (grind (arith, e))

pub unknown_free : (k : ℕ) (t : Tree) (b : Bool) → b ≡ holds_unknown t → b ≡ false → false ≡ holds_variable k t
unknown_free k t b e f = sym (plain_free k t (sym e ∙ f))

-- whether some term of the list holds the variable
abbrev pub some_held : Terms → ℕ → List TermId → Bool
some_held bank k [] = false
some_held bank k (t ∷ ts) = holds_variable k (tree_of bank t) || some_held bank k ts

pub entries_held : (bank : Terms) (k : ℕ) (ts : List TermId) → holds_variable_in k (trees_by (tree_of bank) ts) ≡ some_held bank k ts
unfolding holds_variable_in
entries_held bank k [] = refl
entries_held bank k (t ∷ ts) = ap (λ b. holds_variable k (tree_of bank t) || b) (entries_held bank k ts)

-- ---- one of two

or_assoc : (a b c : Bool) → ((a || b) || c) ≡ (a || (b || c))
or_assoc true b c = refl
or_assoc false b c = refl

true_left : (a b r h : Bool) → r ≡ true → r ≡ a → h ≡ (a || b) → r ≡ h
true_left a b r h y e g = y ∙ sym (g ∙ ap (λ z. z || b) (sym e ∙ y))

false_left : (a b r q h : Bool) → r ≡ false → r ≡ a → q ≡ b → h ≡ (a || b) → q ≡ h
false_left a b r q h y e f g = f ∙ sym (g ∙ ap (λ z. z || b) (sym e ∙ y))

-- ---- the terms by their nodes

module _ (k : ℕ) (bank : Terms) (node : Node) (term : TermId) (e : node_tree bank node ≡ tree_of bank term) where
  app_held : (f a : TermId) → node ≡ Node.App f a → holds_variable k (tree_of bank term) ≡ (holds_variable k (tree_of bank f) || holds_variable k (tree_of bank a))
  unfolding holds_variable
  app_held f a i = ap (holds_variable k) (sym e ∙ ap (node_tree bank) i)

  two_held : (a b : TermId) → ((x : NameId) × (node ≡ Node.Prod x a b)) ⊎ ((x : NameId) × (node ≡ Node.Lam x a b)) → holds_variable k (tree_of bank term) ≡ (holds_variable k (tree_of bank a) || holds_variable k (tree_of bank b))
  unfolding holds_variable
  two_held a b (inl p) = ap (holds_variable k) (sym e ∙ ap (node_tree bank) p.1)
  two_held a b (inr p) = ap (holds_variable k) (sym e ∙ ap (node_tree bank) p.1)

  let_held : (x : NameId) (v a b : TermId) → node ≡ Node.Let x v a b →
      holds_variable k (tree_of bank term) ≡ (holds_variable k (tree_of bank v) || (holds_variable k (tree_of bank a) || holds_variable k (tree_of bank b)))
  unfolding holds_variable
  let_held x v a b i = ap (holds_variable k) (sym e ∙ ap (node_tree bank) i) ∙ or_assoc (holds_variable k (tree_of bank v)) (holds_variable k (tree_of bank a)) (holds_variable k (tree_of bank b))

  evar_held : (n : ℕ) (ts : List TermId) → node ≡ Node.Evar n ts → holds_variable k (tree_of bank term) ≡ (eqb k n || some_held bank k ts)
  unfolding holds_variable
  evar_held n ts i = ap (holds_variable k) (sym e ∙ ap (node_tree bank) i) ∙ ap (λ b. eqb k n || b) (entries_held bank k ts)

  -- ---- what the look answers

  pub app_first : (f a : TermId) (r : Bool) → node ≡ Node.App f a → r ≡ true → r ≡ holds_variable k (tree_of bank f) → r ≡ holds_variable k (tree_of bank term)
  app_first f a r i y h = true_left (holds_variable k (tree_of bank f)) (holds_variable k (tree_of bank a)) r (holds_variable k (tree_of bank term)) y h (app_held f a i)

  pub app_second : (f a : TermId) (r q : Bool) → node ≡ Node.App f a → r ≡ false → r ≡ holds_variable k (tree_of bank f) → q ≡ holds_variable k (tree_of bank a) → q ≡ holds_variable k (tree_of bank term)
  app_second f a r q i y h g = false_left (holds_variable k (tree_of bank f)) (holds_variable k (tree_of bank a)) r q (holds_variable k (tree_of bank term)) y h g (app_held f a i)

  pub two_first : (a b : TermId) (r : Bool) → ((x : NameId) × (node ≡ Node.Prod x a b)) ⊎ ((x : NameId) × (node ≡ Node.Lam x a b)) → r ≡ true → r ≡ holds_variable k (tree_of bank a) → r ≡ holds_variable k (tree_of bank term)
  two_first a b r i y h = true_left (holds_variable k (tree_of bank a)) (holds_variable k (tree_of bank b)) r (holds_variable k (tree_of bank term)) y h (two_held a b i)

  pub two_second : (a b : TermId) (r q : Bool) → ((x : NameId) × (node ≡ Node.Prod x a b)) ⊎ ((x : NameId) × (node ≡ Node.Lam x a b)) → r ≡ false → r ≡ holds_variable k (tree_of bank a) → q ≡ holds_variable k (tree_of bank b) →
      q ≡ holds_variable k (tree_of bank term)
  two_second a b r q i y h g = false_left (holds_variable k (tree_of bank a)) (holds_variable k (tree_of bank b)) r q (holds_variable k (tree_of bank term)) y h g (two_held a b i)

  pub let_first : (x : NameId) (v a b : TermId) (r : Bool) → node ≡ Node.Let x v a b → r ≡ true → r ≡ holds_variable k (tree_of bank v) → r ≡ holds_variable k (tree_of bank term)
  let_first x v a b r i y h =
      true_left (holds_variable k (tree_of bank v)) (holds_variable k (tree_of bank a) || holds_variable k (tree_of bank b)) r (holds_variable k (tree_of bank term)) y h (let_held x v a b i)

  pub let_second : (x : NameId) (v a b : TermId) (r q : Bool) → node ≡ Node.Let x v a b → r ≡ false → r ≡ holds_variable k (tree_of bank v) → q ≡ true → q ≡ holds_variable k (tree_of bank a) → q ≡ holds_variable k (tree_of bank term)
  let_second x v a b r q i y h z g =
      false_left (holds_variable k (tree_of bank v)) (holds_variable k (tree_of bank a) || holds_variable k (tree_of bank b)) r q (holds_variable k (tree_of bank term)) y h
      (true_left (holds_variable k (tree_of bank a)) (holds_variable k (tree_of bank b)) q (holds_variable k (tree_of bank a) || holds_variable k (tree_of bank b)) z g refl) (let_held x v a b i)

  pub let_third : (x : NameId) (v a b : TermId) (r q p : Bool) → node ≡ Node.Let x v a b → r ≡ false → r ≡ holds_variable k (tree_of bank v) → q ≡ false → q ≡ holds_variable k (tree_of bank a) →
      p ≡ holds_variable k (tree_of bank b) → p ≡ holds_variable k (tree_of bank term)
  let_third x v a b r q p i y h z g w =
      false_left (holds_variable k (tree_of bank v)) (holds_variable k (tree_of bank a) || holds_variable k (tree_of bank b)) r p (holds_variable k (tree_of bank term)) y h
      (false_left (holds_variable k (tree_of bank a)) (holds_variable k (tree_of bank b)) q p (holds_variable k (tree_of bank a) || holds_variable k (tree_of bank b)) z g w refl) (let_held x v a b i)

  pub evar_here : (n : ℕ) (ts : List TermId) → node ≡ Node.Evar n ts → n ≡ k → true ≡ holds_variable k (tree_of bank term)
  evar_here n ts i q = sym (evar_held n ts i ∙ ap (λ b. b || some_held bank k ts) (eq-eqb k n (sym q)))

  other : (n : ℕ) → (n ≡ k → ⊥) → eqb k n ≡ false
  other n f = at (eqb k n) refl
    where
      at : (b : Bool) → eqb k n ≡ b → b ≡ false
      at true q = absurd (f (sym (eqb-true k n q)))
      at false q = refl

  evar_rest : (n : ℕ) (ts : List TermId) → node ≡ Node.Evar n ts → (n ≡ k → ⊥) → holds_variable k (tree_of bank term) ≡ some_held bank k ts
  evar_rest n ts i f = evar_held n ts i ∙ ap (λ b. b || some_held bank k ts) (other n f)

  pub evar_found : (n : ℕ) (ts us : List TermId) (j : ℕ) (r : Bool) → node ≡ Node.Evar n ts → (n ≡ k → ⊥) → us ≡ ts → j < length us → some_held bank k us ≡ some_held bank k (drop j us) →
      r ≡ true → r ≡ holds_variable k (tree_of bank (get_or us j (record { place = 0 }))) → true ≡ holds_variable k (tree_of bank term)
  evar_found n ts us j r i f e l so_far y h =
      sym (evar_rest n ts i f ∙ ap (some_held bank k) (sym e) ∙ so_far ∙ ap (some_held bank k) (drop_more us j (record { place = 0 }) l)
      ∙ ap (λ b. b || some_held bank k (drop (j + 1) us)) (sym h ∙ y))

  pub evar_none : (n : ℕ) (ts us : List TermId) (j : ℕ) → node ≡ Node.Evar n ts → (n ≡ k → ⊥) → us ≡ ts → length us ≤ j → some_held bank k us ≡ some_held bank k (drop j us) → false ≡ holds_variable k (tree_of bank term)
  evar_none n ts us j i f e l so_far = sym (evar_rest n ts i f ∙ ap (some_held bank k) (sym e) ∙ so_far ∙ ap (some_held bank k) (drop_all j us l))

-- the next entry does not hold it
pub next_on : (k : ℕ) (bank : Terms) (us : List TermId) (j : ℕ) (r : Bool) → j < length us → r ≡ false → r ≡ holds_variable k (tree_of bank (get_or us j (record { place = 0 }))) →
    some_held bank k us ≡ some_held bank k (drop j us) → some_held bank k us ≡ some_held bank k (drop (j + 1) us)
next_on k bank us j r l y h so_far = so_far ∙ ap (some_held bank k) (drop_more us j (record { place = 0 }) l) ∙ ap (λ b. b || some_held bank k (drop (j + 1) us)) (sym h ∙ y)
