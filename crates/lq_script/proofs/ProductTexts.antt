-- The text of a product, and what the code writes of it.
use Rattle.std.proofs.Common.{◌≡◌, refl, true, false, List, ◌∷◌, ◌++◌, append_assoc, ℕ}
use Rattle.std.specs.Prelude.{codes}
use Rattle.std.specs.List.{AllByRecursion}
use Rattle.lq_trees.specs.Tree.{Name, Tree}
use Rattle.lq_terms.specs.declared.nodes.NameId.{NameId}
use Rattle.lq_terms.specs.declared.nodes.TermId.{TermId}
use Rattle.lq_terms.specs.Terms.{Terms, HasName, HasTerm, IsName, text_of, tree_of, Grows}
use Rattle.lq_terms.proofs.Growth.{Grows-trans}
use Rattle.lq_output.specs.Printing.{uses, left_side, text_under, arrow_text, forall_text}
use Rattle.lq_script.specs.Binders.{binders_of, is_product}
use Rattle.lq_script.specs.Printed.{used_text, unused_text}
use Rattle.lq_script.proofs.BinderLaws.{binders-grown}

pub text_used : (binders : List Name) (x : Name) (A B : Tree) → uses 0 B ≡ true → text_under binders (Tree.Prod x A B) ≡ used_text binders x A B
unfolding text_under
text_used binders x A B e = rw (e, text_under)

pub text_unused : (binders : List Name) (x : Name) (A B : Tree) → uses 0 B ≡ false → text_under binders (Tree.Prod x A B) ≡ unused_text binders A B
unfolding text_under
text_unused binders x A B e = rw (e, text_under)

pub left_bracketed : (A : Tree) (text : List ℕ) → is_product A ≡ true → left_side A text ≡ codes "(" ++ text ++ codes ")"
unfolding left_side
left_bracketed (Tree.Prod x A B) text e = refl
left_bracketed (Tree.Rel n) text e = cc
left_bracketed (Tree.Var x) text e = cc
left_bracketed (Tree.Sort s) text e = cc
left_bracketed (Tree.Lam x A B) text e = cc
left_bracketed (Tree.Let x v A B) text e = cc
left_bracketed (Tree.App f a) text e = cc
left_bracketed (Tree.Const x) text e = cc
left_bracketed (Tree.Ind x) text e = cc
left_bracketed (Tree.Ctor x n) text e = cc
left_bracketed (Tree.Elim x s) text e = cc
left_bracketed (Tree.Evar n ts) text e = cc

pub left_plain : (A : Tree) (text : List ℕ) → is_product A ≡ false → left_side A text ≡ text
unfolding left_side
left_plain (Tree.Prod x A B) text e = cc
left_plain _ text e = refl

-- the pieces of a product whose variable is used, one after the other
pub forall_pieces :
    (out a b c d e x A B : List ℕ) → a ≡ out ++ codes "forall " → b ≡ a ++ x → c ≡ b ++ codes " : " → d ≡ c ++ A → e ≡ d ++ codes ", "
    → e ++ B ≡ out ++ forall_text x A B
unfolding forall_text
forall_pieces out a b c d e x A B p q r s t = simp (t, s, r, q, p, append_assoc)

pub arrow_pieces : (out a b A B : List ℕ) → a ≡ out ++ A → b ≡ a ++ codes " -> " → b ++ B ≡ out ++ arrow_text A B
unfolding arrow_text
arrow_pieces out a b A B p q = simp (q, p, append_assoc)

pub bracket_pieces : (out a b A : List ℕ) → a ≡ out ++ codes "(" → b ≡ a ++ A → b ++ codes ")" ≡ out ++ (codes "(" ++ A ++ codes ")")
bracket_pieces out a b A p q = simp (q, p, append_assoc)

-- a left side's text in a bank that has grown
pub left-grown :
    (old new : Terms) (xs : List NameId) (t : TermId) → Grows old new → AllByRecursion (HasName old) xs → HasTerm old t
    → left_side (tree_of new t) (text_under (binders_of new xs) (tree_of new t)) ≡ left_side (tree_of old t) (text_under (binders_of old xs) (tree_of old t))
left-grown old new xs t g h k = rw (binders-grown old new xs g h, g.tree t k)

module _ (old mid new : Terms) (xs ys : List NameId) (y : NameId) (rest : TermId) (x : Name) where
  -- the text under one more binder, in banks that have grown
  pub below-grown :
      AllByRecursion (HasName old) xs → HasTerm old rest → Grows old mid → Grows mid new → IsName mid y x → ys ≡ xs
      → text_under (text_of new y ∷ binders_of new ys) (tree_of new rest) ≡ text_under (x ∷ binders_of old xs) (tree_of old rest)
  below-grown h k g f named same =
      let grown : Grows old new = Grows-trans old mid new g f in
      rw (same, f.text y named.has, named.is, binders-grown old new xs grown h, grown.tree rest k)
