-- Tactics on proofs, by the places of a bank.
use Rattle.std.proofs.Common.{◌≡◌, ℕ, zero, suc, ◌+◌, ◌-◌, ◌≤◌, ◌<◌, refl, sym, ◌∙◌, ap, ap₂, List, [], ◌∷◌, ◌++◌, length, get_or, drop, Option, Some, None, Ok, Err, true, false, arith, zero-add}
use Rattle.std.proofs.Common.{subst as along}
use Rattle.std.specs.Prelude.{slice_get, option_map}
use Rattle.std.proofs.lemmas.List.{drop_more, drop_all, length-map, map-append}
use Rattle.std.proofs.lemmas.Option.{slice_get-map, slice_get-get_or}
use Rattle.lq_trees.specs.Tree.{Name, Tree, Context, same_name}
use Rattle.lq_trees.specs.Fresh.{is_listed, opened, under}
use Rattle.lq_terms.specs.declared.nodes.NameId.{NameId}
use Rattle.lq_terms.specs.declared.nodes.TermId.{TermId}
use Rattle.lq_terms.specs.declared.nodes.Node.{Node}
use Rattle.lq_terms.specs.declared.nodes.Hypothesis.{Hypothesis}
use Rattle.lq_terms.specs.Terms.{Terms, HasName, HasTerm, IsTerm, Grows, text_of, tree_of, node_tree}
use Rattle.lq_terms.specs.Contexts.{context_of, hypothesis_of, HasContext, HasAllOf, HasBody}
use Rattle.lq_calculus.specs.Declarations.{Env}
use Rattle.lq_output.specs.Faults.{not_built}
use Rattle.lq_output.specs.Steps as steps
use Rattle.lq_output.specs.Steps.{binder_of, global, introduced, known_as, exactly, abstracted}
use Rattle.lq_script.specs.Introduced.{names_of, abstraction}
use Rattle.lq_script.specs.Places.{next_place}
use Rattle.lq_script.specs.Proofs.{IsKnown}
use Rattle.lq_script.proofs.Introductions.{var_abstracted, const_abstracted}
use Rattle.lq_script.proofs.Places.{place_next, place_within, place_hypothesis, no_hypothesis}

-- a context of a bank that has grown
HasBody-grown : (old new : Terms) (o : Option TermId) → Grows old new → HasBody old o → HasBody new o
HasBody-grown old new None g h = tt
HasBody-grown old new (Some t) g h = omega arith

body-grown : (old new : Terms) (o : Option TermId) → Grows old new → HasBody old o → option_map (tree_of new) o ≡ option_map (tree_of old) o
body-grown old new None g h = refl
body-grown old new (Some t) g h = ap Some (g.tree t h)

pub HasContext-grown : (old new : Terms) (hs : List Hypothesis) → Grows old new → HasContext old hs → HasContext new hs
HasContext-grown old new [] g h = tt
HasContext-grown old new (x ∷ xs) g h =
    (record { name = omega (arith, h.0.name); body = HasBody-grown old new x.body g h.0.body; kind = omega (arith, h.0.kind) }, HasContext-grown old new xs g h.1)

pub context_of-grown : (old new : Terms) (hs : List Hypothesis) → Grows old new → HasContext old hs → context_of new hs ≡ context_of old hs
context_of-grown old new [] g h = refl
context_of-grown old new (x ∷ xs) g h = rw (g.text x.name h.0.name, body-grown old new x.body g h.0.body, g.tree x.kind h.0.kind, context_of-grown old new xs g h.1)

pub HasContext-push : (bank : Terms) (hs : List Hypothesis) (h : Hypothesis) → HasContext bank hs → HasAllOf bank h → HasContext bank (hs ++ (h ∷ []))
HasContext-push bank [] h c k = (k, tt)
HasContext-push bank (x ∷ xs) h c k = (c.0, HasContext-push bank xs h c.1 k)

-- a number of steps further
abbrev pub shifted : ℕ → Option ℕ → Option ℕ
shifted i None = None
shifted i (Some k) = Some (i + k)

-- the look for a hypothesis
module _ (bank : Terms) (hs : List Hypothesis) (x : Name) where
  abbrev pub place_from : ℕ → Option ℕ
  place_from i = binder_of (names_of (context_of bank (drop i hs))) x

  pub place_starts : binder_of (names_of (context_of bank hs)) x ≡ shifted 0 (binder_of (names_of (context_of bank hs)) x)
  place_starts = go (binder_of (names_of (context_of bank hs)) x)
    where
      go : (o : Option ℕ) → o ≡ shifted 0 o
      go None = refl
      go (Some k) = ap Some (sym (zero-add k))

  at_place : (i : ℕ) (d : Hypothesis) → i < length hs → place_from i ≡ next_place (same_name (text_of bank (get_or hs i d).name) x) (place_from (i + 1))
  at_place i d l =
      ap (λ ys. binder_of (names_of (context_of bank ys)) x) (drop_more hs i d l)
      ∙ place_next (text_of bank (get_or hs i d).name) (names_of (context_of bank (drop (i + 1) hs))) x

  pub place_found : (i : ℕ) (d : Hypothesis) → i < length hs → same_name (text_of bank (get_or hs i d).name) x ≡ true → binder_of (names_of (context_of bank hs)) x ≡ shifted i (place_from i)
      → Some i ≡ binder_of (names_of (context_of bank hs)) x
  place_found i d l e inv =
      sym (inv ∙ ap (shifted i) (at_place i d l ∙ ap (λ b. next_place b (place_from (i + 1))) e) ∙ ap Some (omega arith))

  pub place_passed : (i : ℕ) (d : Hypothesis) → i < length hs → same_name (text_of bank (get_or hs i d).name) x ≡ false → binder_of (names_of (context_of bank hs)) x ≡ shifted i (place_from i)
      → binder_of (names_of (context_of bank hs)) x ≡ shifted (i + 1) (place_from (i + 1))
  place_passed i d l e inv = inv ∙ ap (shifted i) (at_place i d l ∙ ap (λ b. next_place b (place_from (i + 1))) e) ∙ go (place_from (i + 1))
    where
      go : (o : Option ℕ) → shifted i (next_place false o) ≡ shifted (i + 1) o
      go None = refl
      go (Some k) = ap Some (omega arith)

  pub place_nowhere : (i : ℕ) → length hs ≤ i → binder_of (names_of (context_of bank hs)) x ≡ shifted i (place_from i) → None ≡ binder_of (names_of (context_of bank hs)) x
  unfolding binder_of
  place_nowhere i l inv =
      let nothing : drop i hs ≡ [] = drop_all i hs l in
      sym (inv ∙ ap (λ ys. shifted i (binder_of (names_of (context_of bank ys)) x)) nothing)

-- `intro` on a product
module _ (old new : Terms) (hs longer : List Hypothesis) (x : NameId) (kind rest conclusion : TermId) where
  pub introduced_ok :
      (y : Name) → HasContext old hs → HasName old x → HasTerm old kind → is_listed (names_of (context_of old hs)) (text_of old x) ≡ false → Grows old new
      → IsTerm new conclusion (opened (text_of old x) (tree_of old rest)) → longer ≡ hs ++ (record { name = x; body = None; kind = kind } ∷ [])
      → (HasContext new longer × HasTerm new conclusion) × (introduced (text_of old x) (context_of old hs) (Tree.Prod y (tree_of old kind) (tree_of old rest)) ≡ Ok (steps.goal (context_of new longer) (tree_of new conclusion)))
  unfolding introduced under
  introduced_ok y c n k free g made e = (
    (along (HasContext new) (sym e) (HasContext-push new hs (record { name = x; body = None; kind = kind }) (HasContext-grown old new hs g c) (record { name = omega (arith, g.names); body = tt; kind = omega (arith, g.nodes) })), made.has),
    rw (free, introduced)
        (ap₂ (λ h t. Ok (steps.goal h t)) (sym (ap (context_of new) e ∙ map-append (hypothesis_of new) hs (record { name = x; body = None; kind = kind } ∷ [])
        ∙ ap₂ (λ h k. h ++ k ∷ []) (context_of-grown old new hs g c) (ap₂ (λ z t. record { name = z; body = None; kind = t }) (g.text x n) (g.tree kind k))))
        (sym made.is)),
  )

pub introduced_taken : (x : Name) (g : Context) (y : Name) (A B : Tree) → is_listed (names_of g) x ≡ true → introduced x g (Tree.Prod y A B) ≡ Err not_built
unfolding introduced
introduced_taken x g y A B e = rw (e, introduced)

pub introduced_binder : (x : Name) (g : Context) (y z : Name) (A B : Tree) → introduced x g (Tree.Prod y A B) ≡ introduced x g (Tree.Prod z A B)
unfolding introduced
introduced_binder x g y z A B = refl

-- what is known of a name
module _ (bank : Terms) (env : Env) (hs : List Hypothesis) (x : Name) where
  pub known_hypothesis :
      (i number : ℕ) (h : Hypothesis) → HasContext bank hs → binder_of (names_of (context_of bank hs)) x ≡ Some i → slice_get hs i ≡ Some h → number ≡ length hs - 1 - i → HasTerm bank h.kind
      → IsKnown bank (context_of bank hs) (known_as env (context_of bank hs) x) (Node.Rel number) h.kind
  unfolding known_as
  known_hypothesis i number h c at here e k = record {
    parts = tt;
    has = k;
    term = Tree.Var x;
    is = rw (place_hypothesis (context_of bank hs) x i at ∙ slice_get-map (hypothesis_of bank) hs i ∙ ap (option_map (hypothesis_of bank)) here, known_as);
    leaf = λ A T j s.
        var_abstracted j s x i at ∙ ap (λ n. abstraction (names_of (context_of bank hs)) A (Tree.Rel n)) (omega (arith, e, length-map hs (hypothesis_of bank)));
  }

  pub known_constant :
      (c : NameId) (kind : TermId) → HasName bank c → text_of bank c ≡ x → binder_of (names_of (context_of bank hs)) x ≡ None → HasTerm bank kind × (global env x ≡ Some (Tree.Const x, tree_of bank kind))
      → IsKnown bank (context_of bank hs) (known_as env (context_of bank hs) x) (Node.Const c) kind
  unfolding known_as
  known_constant c kind n t at h = record {
    parts = n;
    has = h.0;
    term = Tree.Const x;
    is = rw (no_hypothesis (context_of bank hs) x at, known_as) h.1;
    leaf = λ A T j s. const_abstracted j s x ∙ ap (λ z. abstraction (names_of (context_of bank hs)) A (Tree.Const z)) (sym t);
  }

  pub known_nothing : binder_of (names_of (context_of bank hs)) x ≡ None → global env x ≡ None → known_as env (context_of bank hs) x ≡ None
  unfolding known_as
  known_nothing at h = rw (no_hypothesis (context_of bank hs) x at, known_as) h

-- a place that was found
module _ (bank : Terms) (hs : List Hypothesis) where
  pub place_inside : (x : Name) (i : ℕ) → binder_of (names_of (context_of bank hs)) x ≡ Some i → i < length hs
  place_inside x i at = omega (arith, place_within (names_of (context_of bank hs)) x i at, length-map (context_of bank hs) (λ h. h.name), length-map hs (hypothesis_of bank))

  pub hypothesis_read : (x : Name) (i : ℕ) (d : Hypothesis) → binder_of (names_of (context_of bank hs)) x ≡ Some i → slice_get hs i ≡ Some (get_or hs i d)
  hypothesis_read x i d at = slice_get-get_or hs i d (place_inside x i at)

pub has_hypothesis : (bank : Terms) (hs : List Hypothesis) (i : ℕ) (h : Hypothesis) → HasContext bank hs → slice_get hs i ≡ Some h → HasAllOf bank h
has_hypothesis bank [] i h c e = absurd cc
has_hypothesis bank (x ∷ xs) zero h c e = let same : x ≡ h = cc in along (λ (z : Hypothesis). HasAllOf bank z) same c.0
has_hypothesis bank (x ∷ xs) (suc i) h c e = has_hypothesis bank xs i h c.1 e

-- the abstractions round a leaf
pub finished_is :
    (old m1 new : Terms) (statement leaf t : TermId) (hs : List Hypothesis) (node : Node) → Grows old m1 → HasTerm old statement → HasContext old hs → IsTerm m1 leaf (node_tree old node)
    → IsTerm new t (abstraction (names_of (context_of m1 hs)) (tree_of m1 statement) (tree_of m1 leaf)) → IsTerm new t (abstraction (names_of (context_of old hs)) (tree_of old statement) (node_tree old node))
finished_is old m1 new statement leaf t hs node g s c l made = record {
  has = made.has;
  is =
      made.is ∙ ap (λ z. abstraction (names_of z) (tree_of m1 statement) (tree_of m1 leaf)) (context_of-grown old m1 hs g c)
      ∙ ap₂ (abstraction (names_of (context_of old hs))) (g.tree statement s) l.is;
}
