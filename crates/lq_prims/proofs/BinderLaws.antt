-- What stands under a binder, once a goal stands there.
use Rattle.std.proofs.Common.{◌≡◌, ℕ, refl, ap, ap₂, arith, Bool, true, false, ◌||◌, if◌then◌else◌, [], ◌∷◌, ◌++◌}
use Rattle.lq_trees.specs.declared.Fit.{Fit}
use Rattle.lq_trees.specs.Tree.{Tree, Trees, Hypothesis, Context, same_name}
use Rattle.lq_trees.specs.Tree.Tree.{Rel, Var, Evar}
use Rattle.lq_trees.specs.Change.{closing, close, replace_each}
use Rattle.lq_trees.specs.Size.{fit}
use Rattle.lq_trees.specs.Ticks.{gives, fails, faults_as}
use Rattle.lq_trees.specs.Fresh.{is_listed}
use Rattle.lq_calculus.specs.Declarations.{variables}
use Rattle.lq_solving.specs.Stores.{names_in, instance_list, own_instance}
use Rattle.lq_solving.specs.ElabFaults.{Elab, elab_fitting, elab_too_large, elab_too_deep}
use Rattle.lq_tactics.specs.Rows.{by_elab, elab_work, needed_form, goal_term}

or_false : (a b : Bool) → (a || b) ≡ false → (a ≡ false) × (b ≡ false)
or_false false b e = (refl, e)
or_false true b e = absurd (grind (arith, e))

-- the hypotheses, each for itself, closed over the last one, which is a new one
each_closed : (g : Context) (h : Hypothesis) → is_listed (names_in g) h.name ≡ false → same_name h.name h.name ≡ true →
    replace_each (closing h.name) 0 (instance_list (variables (g ++ h ∷ []))) ≡ instance_list (variables g ++ Rel 0 ∷ [])
unfolding instance_list variables is_listed
each_closed [] h new same = ap (λ b. Trees.more (if b then Rel 0 else Var h.name) Trees.none) same
each_closed (k ∷ g) h new same =
    let p = or_false (same_name k.name h.name) (is_listed (names_in g) h.name) new in
    ap₂ (λ b ts. Trees.more (if b then Rel 0 else Var k.name) ts) p.0 (each_closed g h p.1 same)

pub goal_closed : (k : ℕ) (g : Context) (h : Hypothesis) → is_listed (names_in g) h.name ≡ false → same_name h.name h.name ≡ true →
    close h.name (goal_term k (g ++ h ∷ [])) ≡ Evar k (instance_list (variables g ++ Rel 0 ∷ []))
unfolding own_instance
goal_closed k g h new same = ap (Evar k) (each_closed g h new same)

-- ---- a form that is needed

form_at : (t : Tree) (o : Fit) → fit t ≡ o →
    needed_form t ≡ elab_work (elim o as (λ z. Elab Tree) [ Fit.Fits ↦ gives t | Fit.TooLarge ↦ fails elab_too_large | Fit.TooDeep ↦ fails elab_too_deep ])
unfolding elab_fitting
form_at t o e = ap (λ w. elab_work (elim w as (λ z. Elab Tree) [ Fit.Fits ↦ gives t | Fit.TooLarge ↦ fails elab_too_large | Fit.TooDeep ↦ fails elab_too_deep ])) e

pub form_fits : (t : Tree) → fit t ≡ Fit.Fits → needed_form t ≡ gives t
unfolding faults_as
form_fits t e = form_at t Fit.Fits e

pub form_large : (t : Tree) → fit t ≡ Fit.TooLarge → needed_form t ≡ fails (by_elab elab_too_large)
unfolding faults_as
form_large t e = form_at t Fit.TooLarge e

pub form_deep : (t : Tree) → fit t ≡ Fit.TooDeep → needed_form t ≡ fails (by_elab elab_too_deep)
unfolding faults_as
form_deep t e = form_at t Fit.TooDeep e
