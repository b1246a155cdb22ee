-- The parts of a variable with arguments and an application.
use Rattle.std.proofs.Common.{◌≡◌, ◌∙◌, refl, sym, ap, ap₂, arith, true, false, List, [], ◌∷◌, map, Option, Some, None}
use Rattle.std.proofs.Common.{subst as along}
use Rattle.std.specs.Prelude.{option_map, IfSome}
use Rattle.std.specs.List.{AllByRecursion}
use Rattle.lq_trees.specs.Tree.{Tree, Context}
use Rattle.lq_terms.specs.declared.nodes.TermId.{TermId}
use Rattle.lq_terms.specs.Terms.{Terms, Grows, tree_of}
use Rattle.lq_terms.proofs.Growth.{has-grown}
use Rattle.lq_solving.specs.Unification.{Sides, parts_of, split_left, split_right, first_some, same_form, parts_by_form}
use Rattle.lq_calculus.specs.Contraction.{spine}
use Rattle.lq_unify.specs.declared.pairs.Pair.{Pair}
use Rattle.lq_unify.specs.declared.forms.Form.{Form}
use Rattle.lq_unify.specs.declared.spines.Application.{Application}
use Rattle.lq_unify.specs.declared.applications.Split.{Split}
use Rattle.lq_unify.specs.Pairs.{pairs_in, HasPair}
use Rattle.lq_unify.specs.Applications.{HasApplication, application_of, splits, other_of, IsSplit}
use Rattle.lq_unify.specs.Forms.{FormIs, PairsAre}
use Rattle.lq_unify.proofs.ApplicationLaws.{variable_list}

module _ (g : Context) (p q : Tree × List Tree) where
  pub no_left : splits p q ≡ false → None ≡ split_left g p q
  unfolding split_left
  no_left e = sym (ap (λ z. elim z as (λ w. Option (List Sides)) [ false ↦ None | true ↦ parts_of g (p.0 ∷ p.1) (other_of p q) ]) e)

  pub is_left : splits p q ≡ true → parts_of g (p.0 ∷ p.1) (other_of p q) ≡ split_left g p q
  unfolding split_left
  is_left e = sym (ap (λ z. elim z as (λ w. Option (List Sides)) [ false ↦ None | true ↦ parts_of g (p.0 ∷ p.1) (other_of p q) ]) e)

  pub no_right : splits q p ≡ false → None ≡ split_right g p q
  unfolding split_right
  no_right e = sym (ap (λ z. elim z as (λ w. Option (List Sides)) [ false ↦ None | true ↦ parts_of g (other_of q p) (q.0 ∷ q.1) ]) e)

  pub is_right : splits q p ≡ true → parts_of g (other_of q p) (q.0 ∷ q.1) ≡ split_right g p q
  unfolding split_right
  is_right e = sym (ap (λ z. elim z as (λ w. Option (List Sides)) [ false ↦ None | true ↦ parts_of g (other_of q p) (q.0 ∷ q.1) ]) e)

-- the pairs that a call answers
pub pairs_are : {V : Type 0} (bank : Terms) (g : Context) (items : V → List Pair) (r : Option V) (o p : Option (List Sides)) → IfSome r (λ v. AllByRecursion (HasPair bank) (items v)) →
    option_map (λ v. pairs_in bank g (items v)) r ≡ o → o ≡ p → PairsAre bank g (option_map items r) p
pairs_are bank g items None o p h e f = record { has = tt; are = e ∙ f }
pairs_are bank g items (Some v) o p h e f = record { has = h; are = e ∙ f }

-- an application means the same in a bank that has grown
module _ (old new : Terms) (g : Grows old new) (a : Application) (h : HasApplication old a) where
  pub application_grown : application_of new a ≡ application_of old a
  application_grown = ap₂ (λ t ts. (t, ts)) (g.tree a.head h.0) (variable_list old new g a.arguments.items h.1)

  pub application_there : HasApplication new a
  application_there = (omega (arith, h.0, g.nodes), has-grown old new a.arguments.items g h.1)

module _ (bank : Terms) (g : Context) (p q : Tree × List Tree) (s : Split) (ls rs : List TermId) (e : ls ≡ s.variable.items) (f : rs ≡ s.other.items) where
  lists_are : {P Q : List Tree} → map (tree_of bank) s.variable.items ≡ P → map (tree_of bank) s.other.items ≡ Q → (map (tree_of bank) ls ≡ P) × (map (tree_of bank) rs ≡ Q)
  lists_are h k = (ap (map (tree_of bank)) e ∙ h, ap (map (tree_of bank)) f ∙ k)

  -- a variable on the left
  pub left_are : IsSplit bank p q s → parts_of g (map (tree_of bank) ls) (map (tree_of bank) rs) ≡ split_left g p q
  left_are h = ap₂ (parts_of g) (lists_are h.variable h.other).0 (lists_are h.variable h.other).1 ∙ is_left g p q h.fits

  -- and on the right
  pub right_are : IsSplit bank q p s → parts_of g (map (tree_of bank) rs) (map (tree_of bank) ls) ≡ split_right g p q
  right_are h = ap₂ (parts_of g) (lists_are h.variable h.other).1 (lists_are h.variable h.other).0 ∙ is_right g p q h.fits

-- the first parts that there are
some_first : (bank : Terms) (g : Context) (f : Form) (o p : Option (List Sides)) → FormIs bank g (Some f) o → FormIs bank g (Some f) (first_some o p)
unfolding first_some
some_first bank g f (Some ps) p h = h
some_first bank g f None p h = absurd (grind (arith, h.1))

none_first : (o p : Option (List Sides)) → o ≡ None → p ≡ first_some o p
unfolding first_some
none_first None p e = refl
none_first (Some ps) p e = absurd (grind (arith, e))

pub left_first : (bank : Terms) (g : Context) (f : Form) (P Q P1 Q1 : Tree × List Tree) → P ≡ P1 → Q ≡ Q1 → FormIs bank g (Some f) (split_left g P1 Q1) → FormIs bank g (Some f) (first_some (split_left g P Q) (split_right g P Q))
left_first bank g f P Q P1 Q1 e d h = some_first bank g f (split_left g P Q) (split_right g P Q) (along (FormIs bank g (Some f)) (sym (ap₂ (split_left g) e d)) h)

pub right_next : (g : Context) (P Q P1 Q1 P2 Q2 : Tree × List Tree) → P ≡ P1 → Q ≡ Q1 → P2 ≡ P1 → Q2 ≡ Q1 → split_left g P1 Q1 ≡ None → split_right g P2 Q2 ≡ first_some (split_left g P Q) (split_right g P Q)
right_next g P Q P1 Q1 P2 Q2 e d a b h = ap₂ (split_right g) (a ∙ sym e) (b ∙ sym d) ∙ none_first (split_left g P Q) (split_right g P Q) (ap₂ (split_left g) e d ∙ h)

pub form_first : (bank : Terms) (g : Context) (f : Form) (t u : Tree) → FormIs bank g (Some f) (same_form g t u) → FormIs bank g (Some f) (parts_by_form g t u)
unfolding parts_by_form
form_first bank g f t u h = some_first bank g f (same_form g t u) _ h

pub split_next : (g : Context) (t u t1 u1 : Tree) → t1 ≡ t → u1 ≡ u → same_form g t u ≡ None → first_some (split_left g (spine t1 []) (spine u1 [])) (split_right g (spine t1 []) (spine u1 [])) ≡ parts_by_form g t u
unfolding parts_by_form
split_next g t u t1 u1 e d h =
    ap₂ (λ x y. first_some (split_left g (spine x []) (spine y [])) (split_right g (spine x []) (spine y []))) e d
    ∙ none_first (same_form g t u) (first_some (split_left g (spine t []) (spine u [])) (split_right g (spine t []) (spine u []))) h
