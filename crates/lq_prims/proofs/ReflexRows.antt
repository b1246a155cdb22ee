-- `reflexivity` on a goal: the weak head form of its type, and the equality that it is.
use Rattle.std.proofs.Common.{◌≡◌, ◌<◌, ◌^◌, ◌∙◌, ℕ, suc, refl, sym, ap, arith, [], length, Option, Some, None, Result}
use Rattle.std.proofs.Common.{subst as along}
use Rattle.lq_trees.specs.declared.Fit.{Fit}
use Rattle.lq_trees.specs.Size.{fit}
use Rattle.lq_trees.specs.Tree.{Tree, Context}
use Rattle.lq_trees.specs.Ticks.{gives, fails, ◌>>=◌, done, ComesTo}
use Rattle.lq_trees.proofs.Outcomes.{comes_fails}
use Rattle.lq_calculus.specs.Contraction.{spine, whnf}
use Rattle.lq_calculus.specs.Declarations.{Env as Environment, rules_of}
use Rattle.lq_calculus.proofs.ConvSound.{Gives, gives_bind}
use Rattle.lq_terms.specs.declared.nodes.TermId.{TermId}
use Rattle.lq_terms.specs.Terms.{Terms, HasTerm, tree_of}
use Rattle.lq_solving.specs.Stores.{Store, StoreFault, names_in, read, read_context, size_fault, read_too_large, read_too_deep}
use Rattle.lq_solving.specs.Kept.{StandsIn}
use Rattle.lq_solving.specs.ElabFaults.{ElabFault, elab_fitting, elab_too_large, elab_too_deep}
use Rattle.lq_solving.specs.Elaboration.{Givens}
use Rattle.lq_solving.proofs.Good.{spine_good}
use Rattle.lq_solving.proofs.ElabKept.{by_gives}
use Rattle.lq_tactics.specs.Rows.{Doing, Scene, Done, by_elab, by_store_call, head_of, needed, needed_form, not_an_equality}
use Rattle.lq_tactics.specs.Primitives.{equality_of, reflexive, do_reflexivity}
use Rattle.lq_tactics.proofs.RowsKept.{IsScene, IsReached, head_good}
use Rattle.lq_tactics.proofs.ApplyKept.{sides_stand}
use Rattle.lq_tactics.proofs.PrimsKept.{reflexivity_reached}
use Rattle.lq_prims.specs.declared.faults.PrimFault.{PrimFault}
use Rattle.lq_prims.specs.Working.{Refuses, Does}
use Rattle.lq_prims.specs.Scenes.{scene_by, form_work}
use Rattle.lq_prims.proofs.ToldLaws.{told_rest, told_none}
use Rattle.lq_prims.proofs.WorkLaws.{comes_is_given, refuses_at, refuses_first, refuses_then, refuses_same, does_then, does_same}

-- a form that is needed keeps within the limits
elab_limits : (t u : Tree) → Gives (elab_fitting t) u → size_fault u ≡ None
unfolding elab_fitting size_fault
elab_limits t u y = at (fit t) refl y
  where
    at : (o : Fit) → fit t ≡ o → Gives {F = ElabFault} (elim o [ Fit.Fits ↦ gives t | Fit.TooLarge ↦ fails elab_too_large | Fit.TooDeep ↦ fails elab_too_deep ]) u → size_fault u ≡ None
    at Fit.Fits e z = along (λ w. size_fault w ≡ None) z (ap (λ o. elim o as (λ z. Option StoreFault) [ Fit.Fits ↦ None | Fit.TooLarge ↦ Some read_too_large | Fit.TooDeep ↦ Some read_too_deep ]) e)
    at Fit.TooLarge e z = absurd z
    at Fit.TooDeep e z = absurd z

pub form_limits : (t u : Tree) → Gives (needed_form t) u → size_fault u ≡ None
form_limits t u y = elab_limits t u (by_gives by_elab (elab_fitting t) u y)

-- a term within the limits is needed as it is
pub needed_now : (t : Tree) → size_fault t ≡ None → needed t ≡ gives t
unfolding needed
needed_now t e = ap (λ o. elim o as (λ z. Doing Tree) [ None ↦ gives t | Some f ↦ fails (by_store_call f) ]) e

module _ (E : Environment) (s : Store) (k : ℕ) (g : Context) (T : Tree) (vs : Givens) where
  abbrev c : ℕ → Scene
  c n = scene_by E s k g T vs n

  abbrev after : Tree → ℕ → Doing Done
  after t n = reflexive (c n) t (equality_of (spine t []))

  row_is : (n : ℕ) → (form_work E s g T n >>= λ t. after t n) ≡ do_reflexivity (c n)
  unfolding do_reflexivity head_of
  row_is n = refl

  -- the weak head form is refused
  pub form_refused : (bank : Terms) (e : PrimFault) (b left : ℕ) → Refuses bank e (form_work E s g T) b left → Refuses bank e (λ n. do_reflexivity (c n)) b left
  form_refused bank e b left h =
      refuses_same bank e (λ n. form_work E s g T n >>= λ t. after t n) (λ n. do_reflexivity (c n)) b left row_is (refuses_first bank e (form_work E s g T) after b left h)

  module _ (b l : ℕ) (t : Tree) (h : ComesTo (form_work E s g T) b (done t l)) where
    form_given : Gives (form_work E s g T (suc b)) t
    form_given = comes_is_given (form_work E s g T) b l t h

    head_given : Gives (head_of (c (suc b)) s T) t
    unfolding head_of
    head_given = form_given

    -- the sides of the equality that it is
    pub form_sides : IsScene (c (suc b)) → (e : Tree × Tree × Tree) → equality_of (spine t []) ≡ Some e → StandsIn s g e.0 × StandsIn s g e.1 × StandsIn s g e.2
    form_sides i e q =
        let good = head_good (c (suc b)) i.plain s i.store i.context T t i.kind head_given in
        sides_stand s i.store (names_in g) (spine t []).0 (spine t []).1 e (spine_good s.variables s.values (names_in g) t [] good tt).1 q

    pub equality_does : {X : Type 0} (bank : Terms) (tell : X → Done) (q : Result X PrimFault) (left : ℕ) (e : Tree × Tree × Tree) → equality_of (spine t []) ≡ Some e →
        Does bank tell q (λ n. reflexive (c n) t (Some e)) l left → Does bank tell q (λ n. do_reflexivity (c n)) b left
    equality_does bank tell q left e y k =
        does_same bank tell q (λ n. form_work E s g T n >>= λ t. after t n) (λ n. do_reflexivity (c n)) b left row_is
        (does_then bank tell q (form_work E s g T) after b l left t h (along (λ o. Does bank tell q (λ n. reflexive (c n) t o) l left) (sym y) k))

    form_needed : needed t ≡ gives t
    form_needed =
        let a = gives_bind (whnf (rules_of E) (read_context s g) (suc b) (read s T)) needed_form t form_given in
        needed_now t (form_limits a.0 t a.2)

    not_equal : (n : ℕ) → equality_of (spine t []) ≡ None → after t n ≡ fails (not_an_equality t)
    unfolding reflexive
    not_equal n e = ap (reflexive (c n) t) e ∙ told_rest t t [] (not_an_equality t) form_needed ∙ told_none (not_an_equality t)

    pub no_equality : (bank : Terms) (f : TermId) → HasTerm bank f → tree_of bank f ≡ t → equality_of (spine t []) ≡ None → Refuses bank (PrimFault.NotAnEquality f) (λ n. do_reflexivity (c n)) b l
    no_equality bank f has is e =
        refuses_same bank (PrimFault.NotAnEquality f) (λ n. form_work E s g T n >>= λ t. after t n) (λ n. do_reflexivity (c n)) b l row_is
        (refuses_then bank (PrimFault.NotAnEquality f) (form_work E s g T) after b l l t h
        (refuses_at bank (PrimFault.NotAnEquality f) (not_an_equality (tree_of bank f)) (after t) l l (has, refl)
        (comes_fails (after t) (not_an_equality (tree_of bank f)) l (λ n. not_equal n e ∙ ap (λ z. fails (not_an_equality z)) (sym is)))))

-- what `reflexivity` reaches
pub reflexivity_gives : (c : Scene) (d : Done) → IsScene c → length c.context < 2 ^ 64 → c.bound < 2 ^ 65 → Gives (do_reflexivity c) d → IsReached c d
reflexivity_gives c d s l m y = reflexivity_reached c s d (omega (arith, l, m)) y
