-- The inductive type that the weak head form of a goal's type is.
use Rattle.std.proofs.Common.{◌≡◌, ◌∙◌, ℕ, suc, refl, sym, ap, ◌≤◌, arith, [], length, Option, Some, None, Ok}
use Rattle.lq_trees.specs.declared.Fit.{Fit}
use Rattle.lq_trees.specs.Size.{fit, size, depth}
use Rattle.lq_trees.specs.Tree.{Tree, Context}
use Rattle.lq_trees.specs.Ticks.{gives, fails, ◌>>=◌, done, ComesTo}
use Rattle.lq_trees.proofs.Outcomes.{comes_fails, comes_gives}
use Rattle.lq_trees.proofs.Reach.{fits_depth}
use Rattle.lq_calculus.specs.Contraction.{spine, whnf}
use Rattle.lq_calculus.specs.Declarations.{Env as Environment, rules_of}
use Rattle.lq_calculus.proofs.ConvSound.{Gives, gives_bind}
use Rattle.lq_terms.specs.declared.nodes.TermId.{TermId}
use Rattle.lq_terms.specs.Terms.{Terms, HasTerm, tree_of}
use Rattle.lq_solving.specs.Stores.{Store, StoreFault, names_in, read, read_context, size_fault, read_too_large, read_too_deep}
use Rattle.lq_solving.specs.Elaboration.{Givens}
use Rattle.lq_solving.proofs.Good.{good_within}
use Rattle.lq_tactics.specs.Rows.{Doing, Scene, head_of, needed_form, not_inductive}
use Rattle.lq_tactics.specs.Applying.{Inductive as TreeInductive, inductive_of, inductive_or, goal_inductive, constructor_count}
use Rattle.lq_tactics.proofs.RowsKept.{IsScene, head_good}
use Rattle.lq_prims.specs.declared.faults.PrimFault.{PrimFault}
use Rattle.lq_prims.specs.Inductives.{IsShallow}
use Rattle.lq_prims.specs.Working.{Refuses}
use Rattle.lq_prims.specs.Scenes.{scene_by, form_work}
use Rattle.lq_prims.proofs.ToldLaws.{told_rest, told_none}
use Rattle.lq_prims.proofs.ReflexRows.{form_limits, needed_now}
use Rattle.lq_prims.proofs.WorkLaws.{comes_is_given, refuses_at, refuses_first, refuses_then, refuses_same, does_then, does_same}

-- a bank without terms
none_of : Terms
none_of = record { names = []; nodes = [] }

-- a term without a fault of size keeps within the limits
none_fits : (t : Tree) → size_fault t ≡ None → depth t ≤ 2000
unfolding size_fault
none_fits t e = fits_depth (size t) (depth t) (at (fit t) e)
  where
    at : (o : Fit) → elim o as (λ z. Option StoreFault) [ Fit.Fits ↦ None | Fit.TooLarge ↦ Some read_too_large | Fit.TooDeep ↦ Some read_too_deep ] ≡ None → o ≡ Fit.Fits
    at Fit.Fits h = refl
    at Fit.TooLarge h = absurd (grind (arith, h))
    at Fit.TooDeep h = absurd (grind (arith, h))

module _ (E : Environment) (s : Store) (k : ℕ) (g : Context) (T : Tree) (vs : Givens) where
  abbrev c : ℕ → Scene
  c n = scene_by E s k g T vs n

  abbrev after : Tree → ℕ → Doing TreeInductive
  after t n = inductive_or t (inductive_of E (spine t []))

  row_is : (n : ℕ) → (form_work E s g T n >>= λ t. after t n) ≡ goal_inductive (c n)
  unfolding goal_inductive head_of
  row_is n = refl

  -- the weak head form is refused
  pub form_refused : (bank : Terms) (e : PrimFault) (b left : ℕ) → Refuses bank e (form_work E s g T) b left → Refuses bank e (λ n. goal_inductive (c n)) b left
  form_refused bank e b left h =
      refuses_same bank e (λ n. form_work E s g T n >>= λ t. after t n) (λ n. goal_inductive (c n)) b left row_is (refuses_first bank e (form_work E s g T) after b left h)

  module _ (b l : ℕ) (t : Tree) (h : ComesTo (form_work E s g T) b (done t l)) where
    form_given : Gives (form_work E s g T (suc b)) t
    form_given = comes_is_given (form_work E s g T) b l t h

    head_given : Gives (head_of (c (suc b)) s T) t
    unfolding head_of
    head_given = form_given

    form_needed : size_fault t ≡ None
    form_needed =
        let a = gives_bind (whnf (rules_of E) (read_context s g) (suc b) (read s T)) needed_form t form_given in
        form_limits a.0 t a.2

    -- the form is shallow
    pub form_shallow : IsScene (c (suc b)) → IsShallow t
    form_shallow i = record {
      within = good_within s.variables s.values (names_in g) 0 t (head_good (c (suc b)) i.plain s i.store i.context T t i.kind head_given);
      deep = none_fits t form_needed;
    }

    -- it is an inductive type
    pub inductive_done : (i : TreeInductive) → inductive_of E (spine t []) ≡ Some i → ComesTo (λ n. goal_inductive (c n)) b (done i l)
    unfolding inductive_or
    inductive_done i e =
        does_same none_of (λ z. z) (Ok i) (λ n. form_work E s g T n >>= λ t. after t n) (λ n. goal_inductive (c n)) b l row_is
        (does_then none_of (λ z. z) (Ok i) (form_work E s g T) after b l l t h (comes_gives (after t) i l (λ n. ap (inductive_or t) e)))

    none_there : inductive_of E (spine t []) ≡ None → (n : ℕ) → after t n ≡ fails (not_inductive t)
    unfolding inductive_or
    none_there e n = ap (inductive_or t) e ∙ told_rest t t [] (not_inductive t) (needed_now t form_needed) ∙ told_none (not_inductive t)

    -- it is none
    pub none_refused : (bank : Terms) (f : TermId) → HasTerm bank f → tree_of bank f ≡ t → inductive_of E (spine t []) ≡ None → Refuses bank (PrimFault.NotInductive f) (λ n. goal_inductive (c n)) b l
    none_refused bank f has is e =
        refuses_same bank (PrimFault.NotInductive f) (λ n. form_work E s g T n >>= λ t. after t n) (λ n. goal_inductive (c n)) b l row_is
        (refuses_then bank (PrimFault.NotInductive f) (form_work E s g T) after b l l t h
        (refuses_at bank (PrimFault.NotInductive f) (not_inductive (tree_of bank f)) (after t) l l (has, refl)
        (comes_fails (after t) (not_inductive (tree_of bank f)) l (λ n. none_there e n ∙ ap (λ z. fails (not_inductive z)) (sym is)))))

-- ---- how many constructors it has

module _ (c : ℕ → Scene) where
  counts_is : (n : ℕ) → (goal_inductive (c n) >>= λ i. gives (length i.family.constructors)) ≡ constructor_count (c n)
  unfolding constructor_count
  counts_is n = refl

  pub count_refused : (bank : Terms) (e : PrimFault) (b left : ℕ) → Refuses bank e (λ n. goal_inductive (c n)) b left → Refuses bank e (λ n. constructor_count (c n)) b left
  count_refused bank e b left h =
      refuses_same bank e (λ n. goal_inductive (c n) >>= λ i. gives (length i.family.constructors)) (λ n. constructor_count (c n)) b left counts_is
      (refuses_first bank e (λ n. goal_inductive (c n)) (λ i n. gives (length i.family.constructors)) b left h)

  pub count_done : (b l m : ℕ) (i : TreeInductive) → ComesTo (λ n. goal_inductive (c n)) b (done i l) → length i.family.constructors ≡ m → ComesTo (λ n. constructor_count (c n)) b (done m l)
  count_done b l m i h e =
      does_same none_of (λ z. z) (Ok m) (λ n. goal_inductive (c n) >>= λ i. gives (length i.family.constructors)) (λ n. constructor_count (c n)) b l counts_is
      (does_then none_of (λ z. z) (Ok m) (λ n. goal_inductive (c n)) (λ i n. gives (length i.family.constructors)) b l l i h (comes_gives (λ n. gives (length i.family.constructors)) m l (λ n. ap gives e)))
