-- `reflexivity` on an equality.
use Rattle.std.proofs.Common.{◌≡◌, ◌∙◌, ℕ, refl, sym, ap, ap₂, [], ◌∷◌, Option, Some, None}
use Rattle.std.specs.Prelude.{codes}
use Rattle.lq_trees.specs.Tree.{Tree, Context}
use Rattle.lq_trees.specs.Tree.Tree.{App, Ctor}
use Rattle.lq_trees.specs.Ticks.{gives, ◌>>=◌, done, within, ComesTo}
use Rattle.lq_trees.proofs.Outcomes.{comes_then, comes_gives}
use Rattle.lq_calculus.proofs.Comparison.{bind_same}
use Rattle.lq_calculus.specs.Declarations.{Env as Environment, rules_of}
use Rattle.lq_terms.specs.Terms.{Terms}
use Rattle.lq_solving.specs.Stores.{Store, read}
use Rattle.lq_solving.specs.ElabFaults.{by_unify}
use Rattle.lq_solving.specs.Elaboration.{Givens}
use Rattle.lq_solving.specs.Unification.{unify}
use Rattle.lq_tactics.specs.Rows.{Doing, Done, done_by, elab_work, told, do_not_unify}
use Rattle.lq_tactics.specs.Primitives.{reflexive}
use Rattle.lq_prims.specs.declared.faults.PrimFault.{PrimFault}
use Rattle.lq_prims.specs.Working.{Refuses}
use Rattle.lq_prims.specs.Scenes.{scene_by}
use Rattle.lq_prims.proofs.WorkLaws.{refuses_first, refuses_then, refuses_same}

module _ (E : Environment) (s : Store) (k : ℕ) (g : Context) (T : Tree) (vs : Givens) (t A a b : Tree) where
  abbrev pub sides : ℕ → Doing (Option Store)
  sides n = elab_work (by_unify (unify (rules_of E) n g s a b))

  abbrev pub row : ℕ → Doing Done
  row n = reflexive (scene_by E s k g T vs n) t (Some (A, a, b))

  then_sides : Option Store → Doing Done
  then_sides (Some s1) = gives (done_by s1 (App (App (Ctor (codes "eq") 0) A) a) [])
  then_sides None = told (read s a ∷ read s b ∷ []) (do_not_unify (read s a) (read s b))

  row_is : (n : ℕ) → (sides n >>= then_sides) ≡ row n
  unfolding reflexive then_sides
  row_is n = bind_same (sides n) _ _ at
    where
      at : (o : Option Store) → then_sides o ≡ elim o as (λ z. Doing Done) [
        | Some s1 ↦ gives (done_by s1 (App (App (Ctor (codes "eq") 0) A) a) [])
        | None ↦ told (read s a ∷ read s b ∷ []) (do_not_unify (read s a) (read s b))
      ]
      at (Some s1) = refl
      at None = refl

  -- the sides unify
  pub sides_yes : (bank : Terms) (budget left : ℕ) (s1 s2 : Store) (u : Tree) → ComesTo sides budget (done (Some s1) left) → s1 ≡ s2 → App (App (Ctor (codes "eq") 0) A) a ≡ u → ComesTo row budget (done (done_by s2 u []) left)
  unfolding then_sides
  sides_yes bank budget left s1 s2 u h e i =
      λ n l. ap (within budget) (sym (row_is n))
      ∙ comes_then sides (λ o n. then_sides o) budget (Some s1) left (done (done_by s2 u []) left) h
      (comes_gives (λ n. then_sides (Some s1)) (done_by s2 u []) left (λ n. ap₂ (λ q v. gives (done_by q v [])) e i)) n l

  -- they do not
  pub sides_no : (bank : Terms) (e : PrimFault) (budget left : ℕ) → ComesTo sides budget (done None left) →
      Refuses {A = Done} bank e (λ n. told (read s a ∷ read s b ∷ []) (do_not_unify (read s a) (read s b))) left left → Refuses bank e row budget left
  unfolding then_sides
  sides_no bank e budget left h k = refuses_same bank e (λ n. sides n >>= then_sides) row budget left row_is (refuses_then bank e sides (λ o n. then_sides o) budget left left None h k)

  -- unification is refused
  pub sides_refused : (bank : Terms) (e : PrimFault) (budget left : ℕ) → Refuses bank e sides budget left → Refuses bank e row budget left
  sides_refused bank e budget left h = refuses_same bank e (λ n. sides n >>= then_sides) row budget left row_is (refuses_first bank e sides (λ o n. then_sides o) budget left h)
