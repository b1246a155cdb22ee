-- The left side is solved, and the right one where that says No or is none.
use Rattle.std.proofs.Common.{◌≡◌, ◌∙◌, ℕ, Bool, true, false, refl, sym, ap, ap₂, arith, List, Result, Ok, Err, Option, Some, None}
use Rattle.std.proofs.Common.{subst as along}
use Rattle.std.specs.Prelude.{OnOk, OnErr, IfOk}
use Rattle.lq_trees.specs.Tree.{Tree, Trees}
use Rattle.lq_trees.specs.Tree.Tree.{Rel, Var, Sort, Prod, Lam, Let, App, Const, Ind, Ctor, Elim, Evar}
use Rattle.lq_trees.specs.Ticks.{gives, fails, ◌>>=◌}
use Rattle.lq_terms.specs.declared.nodes.Node.{Node}
use Rattle.lq_terms.specs.declared.nodes.TermId.{TermId}
use Rattle.lq_terms.specs.Terms.{Terms, Grows, node_tree, tree_of}
use Rattle.lq_solving.specs.Stores.{Store, read}
use Rattle.lq_solving.specs.Unification.{UnifyFault as TreeFault, Unify, Answer, or_else, by_right, by_solving, is_variable}
use Rattle.lq_evars.specs.Places.{Places, store_of, HasStore}
use Rattle.lq_evars.proofs.Growing.{store_of-grown}
use Rattle.lq_unify.specs.declared.faults.UnifyFault.{UnifyFault}
use Rattle.lq_unify.specs.Heads.{HasOpenHead}
use Rattle.lq_unify.specs.Exposing.{IsOfStore}
use Rattle.lq_unify.specs.Solving.{Solves, SolvesOr, GivesOn, solved}
use Rattle.lq_unify.proofs.UnreadLaws.{variable_reads}
use Rattle.lq_unify.proofs.UnsolvableLaws.{of_store_grown}
use Rattle.lq_unify.proofs.GivingLaws.{gives_if}

-- ---- by the form of the sides as they read

pub right_solved : (s : Store) (t V : Tree) → is_variable V ≡ true → by_right s t V ≡ Some (solved s V t)
unfolding by_right is_variable solved
right_solved s t (Rel i) e = absurd (grind arith)
right_solved s t (Var x) e = absurd (grind arith)
right_solved s t (Sort q) e = absurd (grind arith)
right_solved s t (Prod x A B) e = absurd (grind arith)
right_solved s t (Lam x A B) e = absurd (grind arith)
right_solved s t (Let x v A B) e = absurd (grind arith)
right_solved s t (App f a) e = absurd (grind arith)
right_solved s t (Const c) e = absurd (grind arith)
right_solved s t (Ind c) e = absurd (grind arith)
right_solved s t (Ctor c k) e = absurd (grind arith)
right_solved s t (Elim c q) e = absurd (grind arith)
right_solved s t (Evar k ts) e = refl

pub right_none : (s : Store) (t V : Tree) → is_variable V ≡ false → by_right s t V ≡ None
unfolding by_right is_variable
right_none s t (Rel i) e = refl
right_none s t (Var x) e = refl
right_none s t (Sort q) e = refl
right_none s t (Prod x A B) e = refl
right_none s t (Lam x A B) e = refl
right_none s t (Let x v A B) e = refl
right_none s t (App f a) e = refl
right_none s t (Const c) e = refl
right_none s t (Ind c) e = refl
right_none s t (Ctor c k) e = refl
right_none s t (Elim c q) e = refl
right_none s t (Evar k ts) e = absurd (grind arith)

pub left_solved : (s : Store) (V u : Tree) → is_variable V ≡ true → by_solving s V u ≡ Some (or_else (solved s V u) (by_right s V u))
unfolding by_solving is_variable solved
left_solved s (Rel i) u e = absurd (grind arith)
left_solved s (Var x) u e = absurd (grind arith)
left_solved s (Sort q) u e = absurd (grind arith)
left_solved s (Prod x A B) u e = absurd (grind arith)
left_solved s (Lam x A B) u e = absurd (grind arith)
left_solved s (Let x v A B) u e = absurd (grind arith)
left_solved s (App f a) u e = absurd (grind arith)
left_solved s (Const c) u e = absurd (grind arith)
left_solved s (Ind c) u e = absurd (grind arith)
left_solved s (Ctor c k) u e = absurd (grind arith)
left_solved s (Elim c q) u e = absurd (grind arith)
left_solved s (Evar k ts) u e = refl

pub left_none : (s : Store) (V u : Tree) → is_variable V ≡ false → by_solving s V u ≡ by_right s V u
unfolding by_solving is_variable
left_none s (Rel i) u e = refl
left_none s (Var x) u e = refl
left_none s (Sort q) u e = refl
left_none s (Prod x A B) u e = refl
left_none s (Lam x A B) u e = refl
left_none s (Let x v A B) u e = refl
left_none s (App f a) u e = refl
left_none s (Const c) u e = refl
left_none s (Ind c) u e = refl
left_none s (Ctor c k) u e = refl
left_none s (Elim c q) u e = refl
left_none s (Evar k ts) u e = absurd (grind arith)

yes_stays : (w : Unify Answer) (s1 : Store) (o : Option (Unify Answer)) → w ≡ gives (Some s1) → or_else w o ≡ gives (Some s1)
unfolding or_else ◌>>=◌
yes_stays w s1 None e = e
yes_stays w s1 (Some q) e = ap (λ z. z >>= (λ a. elim a as (λ x. Unify Answer) [ Some s ↦ gives (Some s) | None ↦ q ])) e

fault_stays : (w : Unify Answer) (y : TreeFault) (o : Option (Unify Answer)) → w ≡ fails y → or_else w o ≡ fails y
unfolding or_else ◌>>=◌
fault_stays w y None e = e
fault_stays w y (Some q) e = ap (λ z. z >>= (λ a. elim a as (λ x. Unify Answer) [ Some s ↦ gives (Some s) | None ↦ q ])) e

no_then : (w q : Unify Answer) → w ≡ gives None → or_else w (Some q) ≡ q
unfolding or_else ◌>>=◌
no_then w q e = ap (λ z. z >>= (λ a. elim a as (λ x. Unify Answer) [ Some s ↦ gives (Some s) | None ↦ q ])) e

-- ---- answers

module _ (last : Terms) (s1 : Places) where
  pub some_ok : (b : Bool) (w : Unify Answer) (o : Option (Unify Answer)) → Solves last (Ok b) s1 w → o ≡ Some w → SolvesOr last (Ok (Some b)) s1 o
  some_ok true w o h e = e ∙ ap Some h
  some_ok false w o h e = e ∙ ap Some h

  pub some_err : (y : UnifyFault) (w : Unify Answer) (o : Option (Unify Answer)) → Solves last (Err y) s1 w → o ≡ Some w → SolvesOr last (Err y) s1 o
  some_err UnifyFault.TooLarge w o h e = e ∙ ap Some h
  some_err UnifyFault.TooDeep w o h e = e ∙ ap Some h
  some_err UnifyFault.StepsOut w o h e = h
  some_err UnifyFault.NoMemory w o h e = tt

  module _ (w : Unify Answer) (p : Option (Unify Answer)) where
    -- the left side answers
    pub left_yes : Solves last (Ok true) s1 w → Solves last (Ok true) s1 (or_else w p)
    left_yes h = yes_stays w (store_of last s1) p h

    pub left_fails : (y : UnifyFault) → Solves last (Err y) s1 w → Solves last (Err y) s1 (or_else w p)
    left_fails UnifyFault.TooLarge h = fault_stays w _ p h
    left_fails UnifyFault.TooDeep h = fault_stays w _ p h
    left_fails UnifyFault.StepsOut h = h
    left_fails UnifyFault.NoMemory h = tt

    -- it says No, and the right side answers
    module _ (no : w ≡ gives None) where
      pub then_none : SolvesOr last (Ok None) s1 p → Solves last (Ok false) s1 (or_else w p)
      unfolding or_else
      then_none h = ap (or_else w) h ∙ no

      pub then_some : (b : Bool) → SolvesOr last (Ok (Some b)) s1 p → Solves last (Ok b) s1 (or_else w p)
      then_some true h = ap (or_else w) h ∙ no_then w _ no
      then_some false h = ap (or_else w) h ∙ no_then w _ no

      pub then_fails : (y : UnifyFault) → SolvesOr last (Err y) s1 p → Solves last (Err y) s1 (or_else w p)
      then_fails UnifyFault.TooLarge h = ap (or_else w) h ∙ no_then w _ no
      then_fails UnifyFault.TooDeep h = ap (or_else w) h ∙ no_then w _ no
      then_fails UnifyFault.StepsOut h = h
      then_fails UnifyFault.NoMemory h = tt

-- ---- sides as they are kept

pub side_variable : (s : Store) (t : Tree) (b : Bool) → HasOpenHead s.values t → is_variable t ≡ b → is_variable (read s t) ≡ b
unfolding read
side_variable s t b o e = variable_reads s.variables s.values t o ∙ e

-- a side in a bank that has grown, with the same store
module _ (old mid : Terms) (g : Grows old mid) (s s1 : Places) (h : HasStore old s) (same : s1 ≡ s) where
  pub store_stays : store_of mid s1 ≡ store_of old s
  store_stays = ap (store_of mid) same ∙ store_of-grown old mid g s h

  pub side_of : (t : TermId) → IsOfStore old (store_of old s) t → IsOfStore mid (store_of mid s1) t
  side_of t o = along (λ z. IsOfStore mid (store_of mid z) t) (sym same) (of_store_grown old mid g s h t o)

  pub side_open : (t : TermId) → IsOfStore old (store_of old s) t → HasOpenHead (store_of old s).values (tree_of old t) → HasOpenHead (store_of mid s1).values (tree_of mid t)
  side_open t o p = along (λ z. HasOpenHead z.values (tree_of mid t)) (sym store_stays) (along (HasOpenHead (store_of old s).values) (sym (g.tree t o.has)) p)

  pub right_stays : (t u : TermId) → IsOfStore old (store_of old s) t → IsOfStore old (store_of old s) u →
      by_right (store_of mid s1) (read (store_of mid s1) (tree_of mid t)) (read (store_of mid s1) (tree_of mid u)) ≡ by_right (store_of old s) (read (store_of old s) (tree_of old t)) (read (store_of old s) (tree_of old u))
  right_stays t u o p = ap₂ (λ z T. by_right z (read z T) (read z (tree_of mid u))) store_stays (g.tree t o.has) ∙ ap (λ T. by_right (store_of old s) (read (store_of old s) (tree_of old t)) (read (store_of old s) T)) (g.tree u p.has)

-- whether a node is a variable
pub node_variable : (bank : Terms) (node : Node) (t : TermId) → node_tree bank node ≡ tree_of bank t → ((n : ℕ) (ts : List TermId) → node ≡ Node.Evar n ts → ⊥) → false ≡ is_variable (tree_of bank t)
unfolding is_variable
node_variable bank node t e h = by node h ∙ ap is_variable e
  where
    by : (d : Node) → ((n : ℕ) (ts : List TermId) → d ≡ Node.Evar n ts → ⊥) → false ≡ is_variable (node_tree bank d)
    by (Node.Rel i) k = refl
    by (Node.Var x) k = refl
    by (Node.Sort q) k = refl
    by (Node.Prod x a b) k = refl
    by (Node.Lam x a b) k = refl
    by (Node.Let x v a b) k = refl
    by (Node.App f a) k = refl
    by (Node.Const x) k = refl
    by (Node.Ind x) k = refl
    by (Node.Ctor x i) k = refl
    by (Node.Elim x q) k = refl
    by (Node.Evar n ts) k = absurd (k n ts refl)

pub tree_variable : (T : Tree) (k : ℕ) (ts : Trees) → T ≡ Evar k ts → true ≡ is_variable T
unfolding is_variable
tree_variable T k ts e = ap is_variable (sym e)

-- ---- the store after a No

pub yes_or_no : (s s1 : Places) (b : Bool) → (b ≡ false → s1 ≡ s) → (Some b ≡ Some true → ⊥) → s1 ≡ s
yes_or_no s s1 true h k = absurd (k refl)
yes_or_no s s1 false h k = h refl

pub not_yes : (b : Bool) → b ≡ false → Some b ≡ Some true → ⊥
not_yes true e f = grind arith
not_yes false e f = grind arith

pub none_not_yes : ◌≡◌ {A = Option Bool} None (Some true) → ⊥
none_not_yes e = grind arith

-- an answer that is known
pub answer_at : (last : Terms) (s1 : Places) (w : Unify Answer) (b d : Bool) → b ≡ d → Solves last (Ok b) s1 w → Solves last (Ok d) s1 w
answer_at last s1 w b d e h = along (λ z. Solves last (Ok z) s1 w) e h

module _ (old mid : Terms) (g : Grows old mid) (s s1 : Places) (h : HasStore old s) (same : s1 ≡ s) where
  pub gives_after : (last : Terms) (s2 : Places) (r : Result Bool UnifyFault) → OnOk r (GivesOn mid last s1 s2) → OnOk r (GivesOn old last s s2)
  gives_after last s2 r d = gives_if old mid last g s s2 h r (along (λ z. OnOk r (GivesOn mid last z s2)) same d)

pub refused_after : (s s1 s2 : Places) → s1 ≡ s → (r : Result Bool UnifyFault) → OnErr r (s2 ≡ s1) → OnErr r (s2 ≡ s)
refused_after s s1 s2 e (Ok b) d = tt
refused_after s s1 s2 e (Err y) d = d ∙ e

pub no_after : (s s1 s2 : Places) → s1 ≡ s → (r : Result Bool UnifyFault) → IfOk r (λ b. b ≡ false → s2 ≡ s1) → IfOk r (λ b. b ≡ false → s2 ≡ s)
no_after s s1 s2 e (Ok b) d = λ q. d q ∙ e
no_after s s1 s2 e (Err y) d = tt
