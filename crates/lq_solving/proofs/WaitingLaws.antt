-- Each step of unification leads to the work that is left, so that a loop over what waits ends in the answer of the recursion.
use Rattle.std.proofs.Common.{◌≡◌, ◌<◌, ℕ, zero, suc, refl, ◌∙◌, ap, arith, le_refl, true, false, ◌&&◌, List, [], ◌∷◌, Option, Some, None}
use Rattle.std.proofs.Math.Path.{fun_ext}
use Rattle.lq_trees.specs.Tree.{Tree, Context}
use Rattle.lq_trees.specs.Ticks.{gives, ◌>>=◌, Outcome, steps_out, within, Agree, Settled, ComesTo}
use Rattle.lq_trees.specs.Rules.{Rules}
use Rattle.lq_trees.proofs.TickLaws.{agree_refl, agree_bind, agree_within, bind_bind}
use Rattle.lq_calculus.specs.Contraction.{whnf}
use Rattle.lq_solving.specs.Stores.{Store, read, read_context}
use Rattle.lq_solving.specs.Unification.{UnifyFault, Unify, Answer, Way, Sides, all_unify, one_variable, by_solving, parts_by_form, Row, answered, form_row, row, row_or, is_reduced, reduced_row, unify_read, unify, unify_fitting}
use Rattle.lq_solving.specs.Waiting.{Waiting, parts, reducing, go_on, answered_work, asked_work}
use Rattle.lq_solving.proofs.UnifySettled.{Ways, all_agree, reduced_agree, unify_agree}

-- ---- every bound above the budget gives one outcome

go_on_agree : (r : Rules) (n m b : ℕ) → b < n → b < m → (v w : Way) → Ways b v w → (ws : List Waiting) (a : Answer) → Agree b (go_on v r n ws a) (go_on w r m ws a)
unfolding go_on
go_on_agree r n m b i j v w e [] a = agree_refl b _
go_on_agree r n m b i j v w e (parts ps ∷ ws) None = go_on_agree r n m b i j v w e ws None
go_on_agree r n m b i j v w e (parts ps ∷ ws) (Some s) = agree_bind b _ _ _ _ (all_agree b v w e s ps) (λ a. go_on_agree r n m b i j v w e ws a)
go_on_agree r n m b i j v w e (reducing g s t u ∷ ws) None = agree_bind b _ _ _ _ (reduced_agree r n m b i j v w e g s t u) (λ a. go_on_agree r n m b i j v w e ws a)
go_on_agree r n m b i j v w e (reducing g s t u ∷ ws) (Some s1) = go_on_agree r n m b i j v w e ws (Some s1)

pub left_settled : (r : Rules) (ws : List Waiting) (a : Answer) → Settled (answered_work r ws a)
left_settled r ws a = λ b n m i j. go_on_agree r n m b i j (unify r n) (unify r m) (unify_agree r n m b i j) ws a

-- ---- a call pays its tick

-- the rows of a call on the terms as read, with what waits
abbrev pub rows_work : Rules → List Waiting → Context → Store → Tree → Tree → ℕ → Unify Answer
rows_work r ws g s t u n = unify_read (unify r n) r n g s t u >>= go_on (unify r n) r n ws

pub ticked : (r : Rules) (ws : List Waiting) (g : Context) (s : Store) (t u : Tree) (b : ℕ) (o : Outcome UnifyFault Answer) →
    ComesTo (rows_work r ws g s (read s t) (read s u)) b o → ComesTo (asked_work r ws g s t u) (suc b) o
unfolding unify ◌>>=◌ within
ticked r ws g s t u b o h = λ n i. at n i
  where
    at : (n : ℕ) → suc b < n → within (suc b) (asked_work r ws g s t u n) ≡ o
    at zero i = absurd (omega arith)
    at (suc n) i =
        agree_within b _ _
        (agree_bind b (unify_read (unify r n) r n g s (read s t) (read s u)) _ _ _ (agree_refl b _) (λ a. left_settled r ws a b (suc n) n (omega arith) (omega arith))) b (le_refl b)
        ∙ h n (omega arith)

pub unpaid : (r : Rules) (ws : List Waiting) (g : Context) (s : Store) (t u : Tree) → ComesTo (asked_work r ws g s t u) 0 steps_out
unfolding unify ◌>>=◌ within
unpaid r ws g s t u = λ n i. at n i
  where
    at : (n : ℕ) → 0 < n → within 0 (asked_work r ws g s t u n) ≡ steps_out
    at zero i = absurd (omega arith)
    at (suc n) i = refl

-- one work, and then what is the same for each answer
bind_same : {A B : Type 0} (x : Unify A) (k l : A → Unify B) → ((a : A) → k a ≡ l a) → (x >>= k) ≡ (x >>= l)
bind_same x k l e = ap (λ f. x >>= f) (fun_ext e)

module _ (way : Way) (r : Rules) (n : ℕ) (ws : List Waiting) where
  -- what waits goes on
  abbrev next : Answer → Unify Answer
  next a = go_on way r n ws a

  -- ---- parts

  pub no_part : (s : Store) → go_on way r n (parts [] ∷ ws) (Some s) ≡ next (Some s)
  unfolding go_on all_unify ◌>>=◌
  no_part s = refl

  pub next_part : (s : Store) (p : Sides) (ps : List Sides) → go_on way r n (parts (p ∷ ps) ∷ ws) (Some s) ≡ (way p.context s p.left p.right >>= go_on way r n (parts ps ∷ ws))
  unfolding go_on all_unify ◌>>=◌
  next_part s p ps = bind_bind (way p.context s p.left p.right) _ _ ∙ bind_same (way p.context s p.left p.right) _ _ each
    where
      each : (a : Answer) → ((elim a as (λ z. Unify Answer) [ None ↦ gives None | Some s1 ↦ all_unify way s1 ps ]) >>= next) ≡ go_on way r n (parts ps ∷ ws) a
      each None = refl
      each (Some s1) = refl

  -- ---- the rows on terms as read

  module _ (g : Context) (s : Store) (t u : Tree) where
    -- the first row that applies, by what the rows say
    abbrev row_by : Option (List Sides) → Option (Unify Answer) → Option (List Sides) → Row
    row_by o a p = elim o [ Some ps ↦ answered (all_unify way s ps) | None ↦ elim a [ Some x ↦ answered x | None ↦ form_row p ] ]

    module _ (otherwise : Unify Answer) where
      -- a row's answer, and what waits
      abbrev rowed : Option (List Sides) → Option (Unify Answer) → Option (List Sides) → Unify Answer
      rowed o a p = row_or way s (row_by o a p) otherwise >>= next

      one_is : (ps : List Sides) → one_variable g t u ≡ Some ps → (row_or way s (row way g s t u) otherwise >>= next) ≡ go_on way r n (parts ps ∷ ws) (Some s)
      unfolding row row_or go_on
      one_is ps e = ap (λ o. rowed o (by_solving s t u) (parts_by_form g t u)) e

      solved_is : (x : Unify Answer) → one_variable g t u ≡ None → by_solving s t u ≡ Some x → (row_or way s (row way g s t u) otherwise >>= next) ≡ (x >>= next)
      unfolding row row_or
      solved_is x e f = ap (λ o. rowed o (by_solving s t u) (parts_by_form g t u)) e ∙ ap (λ a. rowed None a (parts_by_form g t u)) f

      formed_is : (ps : List Sides) → one_variable g t u ≡ None → by_solving s t u ≡ None → parts_by_form g t u ≡ Some ps →
          (row_or way s (row way g s t u) otherwise >>= next) ≡ (all_unify way s ps >>= (λ a. elim a [ Some s1 ↦ next (Some s1) | None ↦ otherwise >>= next ]))
      unfolding row row_or form_row ◌>>=◌
      formed_is ps e f h =
          ap (λ o. rowed o (by_solving s t u) (parts_by_form g t u)) e ∙ ap (λ a. rowed None a (parts_by_form g t u)) f ∙ ap (rowed None None) h
          ∙ bind_bind (all_unify way s ps) _ _ ∙ bind_same (all_unify way s ps) _ _ each
        where
          each : (a : Answer) → ((elim a as (λ z. Unify Answer) [ Some s1 ↦ gives (Some s1) | None ↦ otherwise ]) >>= next) ≡ elim a as (λ z. Unify Answer) [ Some s1 ↦ next (Some s1) | None ↦ otherwise >>= next ]
          each None = refl
          each (Some s1) = refl

      none_is : one_variable g t u ≡ None → by_solving s t u ≡ None → parts_by_form g t u ≡ None → (row_or way s (row way g s t u) otherwise >>= next) ≡ (otherwise >>= next)
      unfolding row row_or form_row
      none_is e f h = ap (λ o. rowed o (by_solving s t u) (parts_by_form g t u)) e ∙ ap (λ a. rowed None a (parts_by_form g t u)) f ∙ ap (rowed None None) h

    -- ---- the rows at first: the No of parts, and no row at all, lead to weak head forms

    pub first_one : (ps : List Sides) → one_variable g t u ≡ Some ps → (unify_read way r n g s t u >>= next) ≡ go_on way r n (parts ps ∷ ws) (Some s)
    unfolding unify_read
    first_one ps e = one_is (reduced_row way r n g s t u) ps e

    pub first_solved : (x : Unify Answer) → one_variable g t u ≡ None → by_solving s t u ≡ Some x → (unify_read way r n g s t u >>= next) ≡ (x >>= next)
    unfolding unify_read
    first_solved x e f = solved_is (reduced_row way r n g s t u) x e f

    pub first_formed : (ps : List Sides) → one_variable g t u ≡ None → by_solving s t u ≡ None → parts_by_form g t u ≡ Some ps →
        (unify_read way r n g s t u >>= next) ≡ go_on way r n (parts ps ∷ reducing g s t u ∷ ws) (Some s)
    unfolding unify_read go_on
    first_formed ps e f h = formed_is (reduced_row way r n g s t u) ps e f h ∙ bind_same (all_unify way s ps) _ _ each
      where
        each : (a : Answer) → elim a as (λ z. Unify Answer) [ Some s1 ↦ next (Some s1) | None ↦ reduced_row way r n g s t u >>= next ] ≡ go_on way r n (reducing g s t u ∷ ws) a
        each None = refl
        each (Some s1) = refl

    pub first_none : one_variable g t u ≡ None → by_solving s t u ≡ None → parts_by_form g t u ≡ None → (unify_read way r n g s t u >>= next) ≡ go_on way r n (reducing g s t u ∷ ws) None
    unfolding unify_read go_on
    first_none e f h = none_is (reduced_row way r n g s t u) e f h

    -- ---- the rows on weak head forms: their No is final

    pub again_one : (ps : List Sides) → one_variable g t u ≡ Some ps → (row_or way s (row way g s t u) (gives None) >>= next) ≡ go_on way r n (parts ps ∷ ws) (Some s)
    again_one ps e = one_is (gives None) ps e

    pub again_solved : (x : Unify Answer) → one_variable g t u ≡ None → by_solving s t u ≡ Some x → (row_or way s (row way g s t u) (gives None) >>= next) ≡ (x >>= next)
    again_solved x e f = solved_is (gives None) x e f

    pub again_formed : (ps : List Sides) → one_variable g t u ≡ None → by_solving s t u ≡ None → parts_by_form g t u ≡ Some ps →
        (row_or way s (row way g s t u) (gives None) >>= next) ≡ go_on way r n (parts ps ∷ ws) (Some s)
    unfolding go_on ◌>>=◌
    again_formed ps e f h = formed_is (gives None) ps e f h ∙ bind_same (all_unify way s ps) _ _ each
      where
        each : (a : Answer) → elim a as (λ z. Unify Answer) [ Some s1 ↦ next (Some s1) | None ↦ next None ] ≡ next a
        each None = refl
        each (Some s1) = refl

    pub again_none : one_variable g t u ≡ None → by_solving s t u ≡ None → parts_by_form g t u ≡ None → (row_or way s (row way g s t u) (gives None) >>= next) ≡ next None
    unfolding ◌>>=◌
    again_none e f h = none_is (gives None) e f h

  -- what follows the weak head forms
  abbrev pub both_reduced : Context → Store → Tree → Tree → Tree → Tree → Unify Answer
  both_reduced g s t u t1 u1 =
      (elim (is_reduced r (read_context s g) t && is_reduced r (read_context s g) u) [ true ↦ gives None | false ↦ row_or way s (row way g s t1 u1) (gives None) ]) >>= next

  -- both sides go to weak head form, the left one first
  pub reduced_is : (g : Context) (s : Store) (t u : Tree) → go_on way r n (reducing g s t u ∷ ws) None
      ≡ (whnf r (read_context s g) n t >>= unify_fitting >>= (λ t1. whnf r (read_context s g) n u >>= unify_fitting >>= both_reduced g s t u t1))
  unfolding go_on reduced_row
  reduced_is g s t u = bind_bind (whnf r (read_context s g) n t >>= unify_fitting) _ _ ∙ bind_same (whnf r (read_context s g) n t >>= unify_fitting) _ _ (λ t1. bind_bind (whnf r (read_context s g) n u >>= unify_fitting) _ _)
