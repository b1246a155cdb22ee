-- What solving says where there is no solution, where the solution passes the limits, and where it may be given.
use Rattle.std.proofs.Common.{◌≡◌, ◌∙◌, ℕ, Bool, true, false, refl, sym, ap, arith, Result, Ok, Err, Option, Some, None}
use Rattle.std.proofs.Common.{subst as along}
use Rattle.lq_trees.specs.declared.Fit.{Fit}
use Rattle.lq_trees.specs.Tree.{Name, Tree, Trees}
use Rattle.lq_trees.specs.Tree.Tree.{Var, Evar}
use Rattle.lq_trees.specs.Index.{Within}
use Rattle.lq_trees.specs.Hypotheses.{HoldsOnly}
use Rattle.lq_trees.specs.Size.{fit}
use Rattle.lq_trees.specs.Ticks.{gives, fails, ◌>>=◌}
use Rattle.lq_solving.specs.Occurs.{holds_variable}
use Rattle.lq_solving.specs.Stores.{Store, StoreFault, names_at, find_value, read, size_fault, assigned, with_value, read_too_large, read_too_deep}
use Rattle.lq_solving.specs.Kept.{IsOver, IsValue, IsStore}
use Rattle.lq_solving.specs.Unification.{Unify, Answer, place_of, inverted, solve, given_body, unify_fitting, unify_too_large, unify_too_deep}
use Rattle.lq_solving.proofs.ReadLaws.{filled_each, filled_over, filled_within, open_stays}
use Rattle.lq_solving.proofs.DoneLaws.{IsDone, IsInverted, filled_done, done_reads, done_leads, place_is_name, inverted_is}
use Rattle.lq_solving.proofs.UnifyRows.{variable_names}
use Rattle.lq_unify.specs.Solutions.{solution}
use Rattle.lq_unify.specs.Solving.{solved}
use Rattle.lq_unify.proofs.FitLaws.{fits_alike, solution_size}
use Rattle.lq_unify.proofs.SolutionLaws.{solution_is, solve_is}

-- what a body comes to, by its fit
abbrev pub given_by : Store → ℕ → Tree → Fit → Unify Answer
given_by s k b Fit.Fits = gives (Some (with_value s k b))
given_by s k b Fit.TooLarge = fails unify_too_large
given_by s k b Fit.TooDeep = fails unify_too_deep

pub body_given : (s : Store) (k : ℕ) (b : Tree) (f : Fit) → fit b ≡ f → given_body s k (Some b) ≡ given_by s k b f
unfolding given_body unify_fitting ◌>>=◌
body_given s k b f e =
    ap (λ z. (elim z as (λ w. Unify Tree) [ Fit.Fits ↦ gives b | Fit.TooLarge ↦ fails unify_too_large | Fit.TooDeep ↦ fails unify_too_deep ]) >>= (λ ok. gives (Some (with_value s k b)))) e
    ∙ by f
  where
    by : (g : Fit) → ((elim g as (λ w. Unify Tree) [ Fit.Fits ↦ gives b | Fit.TooLarge ↦ fails unify_too_large | Fit.TooDeep ↦ fails unify_too_deep ]) >>= (λ ok. gives (Some (with_value s k b)))) ≡ given_by s k b g
    by Fit.Fits = refl
    by Fit.TooLarge = refl
    by Fit.TooDeep = refl

some_of : {A : Type 0} {a b : A} → Some a ≡ Some b → a ≡ b
some_of e = grind arith

-- solving variable k at entries E by a term U, both as they read
module _ (s : Store) (i : IsStore s) (k : ℕ) (E : Trees) (U : Tree) where
  abbrev pub answer_of : Option Tree
  answer_of = solution (Some k) (place_of (names_at s.variables k) E) U

  pub solves_none : answer_of ≡ None → solve s k E U ≡ gives None
  unfolding given_body
  solves_none e = solve_is s k E U ∙ ap (given_body s k) e

  places_named : (x : Name) (t : Tree) → place_of (names_at s.variables k) E x ≡ Some t → (y : Name) × (t ≡ Var y)
  places_named x t e = let p = place_is_name (names_at s.variables k) E x t (variable_names s i k) e in (p.0, p.1)

  module _ (b : Tree) (e : answer_of ≡ Some b) where
    -- a body fits as the term does
    pub solves_by : (f : Fit) → fit U ≡ f → solve s k E U ≡ given_by s k b f
    solves_by f h = solve_is s k E U ∙ ap (given_body s k) e ∙ body_given s k b f (fits_alike U b (solution_size (Some k) (place_of (names_at s.variables k) E) places_named U b e) ∙ h)

    split : (o : Bool) → holds_variable k U ≡ o → (p : Option Tree) → inverted (names_at s.variables k) E U ≡ p → elim o as (λ z. Option Tree) [ true ↦ None | false ↦ p ] ≡ Some b →
        (holds_variable k U ≡ false) × (inverted (names_at s.variables k) E U ≡ Some b)
    split true h p g f = absurd (grind arith)
    split false h p g f = (h, g ∙ f)

    both : (holds_variable k U ≡ false) × (inverted (names_at s.variables k) E U ≡ Some b)
    both = split (holds_variable k U) refl (inverted (names_at s.variables k) E U) refl (sym (solution_is k (names_at s.variables k) E U) ∙ e)

    module _ (over : IsOver s.variables (Evar k E)) (done : IsDone s.values (Evar k E)) (uo : IsOver s.variables U) (ud : IsDone s.values U) (uw : Within 0 U) where
      inv : IsInverted s.variables s.values (names_at s.variables k) k 0 U b
      inv = inverted_is s.variables s.values (names_at s.variables k) E (variable_names s i k) k 0 U b uo ud uw both.0 both.1

      pub body_reads : read s b ≡ b
      unfolding read
      body_reads = done_reads s.variables s.values b inv.done

      -- it may be given
      pub body_stands : IsValue s.variables s.values (record { id = k; body = b })
      body_stands = record {
        inside = over.0;
        new = done.0;
        free = done_leads s.values k b inv.done inv.free;
        over = inv.over;
        within = inv.within;
        holds = along (HoldsOnly (names_at s.variables k)) (sym (done_reads s.variables s.values b inv.done)) inv.holds;
      }

      -- what the store says when it is given
      fault_by : (f : Fit) → fit b ≡ f → size_fault (read s b) ≡ elim f as (λ z. Option StoreFault) [ Fit.Fits ↦ None | Fit.TooLarge ↦ Some read_too_large | Fit.TooDeep ↦ Some read_too_deep ]
      unfolding size_fault
      fault_by f h = ap (λ z. elim z as (λ w. Option StoreFault) [ Fit.Fits ↦ None | Fit.TooLarge ↦ Some read_too_large | Fit.TooDeep ↦ Some read_too_deep ]) (ap fit body_reads ∙ h)

      given_is : (f : Fit) → fit b ≡ f → (r : Result Store StoreFault) → assigned s k b ≡ r → r ≡ elim (elim f as (λ z. Option StoreFault) [ Fit.Fits ↦ None | Fit.TooLarge ↦ Some read_too_large | Fit.TooDeep ↦ Some read_too_deep ]) as (λ z. Result Store StoreFault) [ None ↦ Ok (with_value s k b) | Some y ↦ Err y ]
      unfolding assigned
      given_is f h r q = sym q ∙ ap (λ z. elim z as (λ w. Result Store StoreFault) [ None ↦ Ok (with_value s k b) | Some y ↦ Err y ]) (fault_by f h)

      whole : (f : Fit) → fit b ≡ f → solve s k E U ≡ given_by s k b f
      whole f h = solve_is s k E U ∙ ap (given_body s k) e ∙ body_given s k b f h

      pub given_solves : (s1 : Store) → assigned s k b ≡ Ok s1 → solve s k E U ≡ gives (Some s1)
      given_solves s1 q = by (fit b) refl
        where
          by : (f : Fit) → fit b ≡ f → solve s k E U ≡ gives (Some s1)
          by Fit.Fits h = whole Fit.Fits h ∙ ap (λ z. gives (Some z)) (ok_of (sym (given_is Fit.Fits h (Ok s1) q)))
            where
              ok_of : {a c : Store} → ◌≡◌ {A = Result Store StoreFault} (Ok a) (Ok c) → a ≡ c
              ok_of p = grind arith
          by Fit.TooLarge h = absurd (no (given_is Fit.TooLarge h (Ok s1) q))
            where
              no : ◌≡◌ {A = Result Store StoreFault} (Ok s1) (Err read_too_large) → ⊥
              no p = grind arith
          by Fit.TooDeep h = absurd (no (given_is Fit.TooDeep h (Ok s1) q))
            where
              no : ◌≡◌ {A = Result Store StoreFault} (Ok s1) (Err read_too_deep) → ⊥
              no p = grind arith

      pub large_solves : assigned s k b ≡ Err read_too_large → solve s k E U ≡ fails unify_too_large
      large_solves q = by (fit b) refl
        where
          by : (f : Fit) → fit b ≡ f → solve s k E U ≡ fails unify_too_large
          by Fit.TooLarge h = whole Fit.TooLarge h
          by Fit.Fits h = absurd (no (given_is Fit.Fits h (Err read_too_large) q))
            where
              no : ◌≡◌ {A = Result Store StoreFault} (Err read_too_large) (Ok (with_value s k b)) → ⊥
              no p = grind arith
          by Fit.TooDeep h = absurd (no (given_is Fit.TooDeep h (Err read_too_large) q))
            where
              no : ◌≡◌ {A = Result Store StoreFault} (Err read_too_large) (Err read_too_deep) → ⊥
              no p = grind arith

      pub deep_solves : assigned s k b ≡ Err read_too_deep → solve s k E U ≡ fails unify_too_deep
      deep_solves q = by (fit b) refl
        where
          by : (f : Fit) → fit b ≡ f → solve s k E U ≡ fails unify_too_deep
          by Fit.TooDeep h = whole Fit.TooDeep h
          by Fit.Fits h = absurd (no (given_is Fit.Fits h (Err read_too_deep) q))
            where
              no : ◌≡◌ {A = Result Store StoreFault} (Err read_too_deep) (Ok (with_value s k b)) → ⊥
              no p = grind arith
          by Fit.TooLarge h = absurd (no (given_is Fit.TooLarge h (Err read_too_deep) q))
            where
              no : ◌≡◌ {A = Result Store StoreFault} (Err read_too_deep) (Err read_too_large) → ⊥
              no p = grind arith

-- a variable and a term as they are kept
module _ (s : Store) (i : IsStore s) (k : ℕ) (es : Trees) (u : Tree) (bare : find_value s.values k ≡ None) (over : IsOver s.variables (Evar k es)) (uo : IsOver s.variables u) (uw : Within 0 u) where
  pub variable_reads_as : read s (Evar k es) ≡ Evar k (filled_each s.variables s.values es)
  unfolding read
  variable_reads_as = open_stays s.variables s.values k es bare

  pub entries_over : IsOver s.variables (Evar k (filled_each s.variables s.values es))
  entries_over = along (IsOver s.variables) (open_stays s.variables s.values k es bare) (filled_over s.variables s.values i.values (Evar k es) over)

  pub entries_done : IsDone s.values (Evar k (filled_each s.variables s.values es))
  entries_done = along (IsDone s.values) (open_stays s.variables s.values k es bare) (filled_done s.variables s.values i.values (Evar k es))

  pub term_over : IsOver s.variables (read s u)
  unfolding read
  term_over = filled_over s.variables s.values i.values u uo

  pub term_done : IsDone s.values (read s u)
  unfolding read
  term_done = filled_done s.variables s.values i.values u

  pub term_within : Within 0 (read s u)
  unfolding read
  term_within = filled_within s.variables s.values i.values 0 u uw

  pub solved_is : solved s (read s (Evar k es)) (read s u) ≡ solve s k (filled_each s.variables s.values es) (read s u)
  unfolding solved
  solved_is = ap (λ z. solved s z (read s u)) variable_reads_as
