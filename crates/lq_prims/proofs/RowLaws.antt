-- The end of a row: what it reached may be given to the goal.
use Rattle.std.proofs.Common.{◌≡◌, ◌<◌, ◌^◌, ◌∙◌, ℕ, sym, arith, length, Option}
use Rattle.std.proofs.Common.{subst as along}
use Rattle.lq_trees.specs.Tree.{Name}
use Rattle.lq_calculus.proofs.ConvSound.{Gives}
use Rattle.lq_solving.specs.Stores.{names_at, count}
use Rattle.lq_solving.specs.Kept.{IsStore, Stands}
use Rattle.lq_solving.proofs.InstanceLaws.{length_map}
use Rattle.lq_terms.specs.Terms.{Terms}
use Rattle.lq_evars.specs.Places.{Places, store_of, variable_of}
use Rattle.lq_tactics.specs.Rows.{Scene, Done}
use Rattle.lq_tactics.specs.Primitives.{do_intro}
use Rattle.lq_tactics.proofs.RowsKept.{IsScene, IsReached}
use Rattle.lq_tactics.proofs.IntroKept.{intro_reached}

-- a store in which a goal may get a body
pub record MayGive (mid : Terms) (p : Places) (k : ℕ) (d : Done) : Type 0 where
  pub kept : IsStore (store_of mid p)
  pub goal : k < length p.variables
  pub stands : Stands (store_of mid p) (names_at (store_of mid p).variables k) d.body

pub may_give : (mid : Terms) (p : Places) (c : Scene) (d : Done) → IsScene c → IsReached c d → d.store ≡ store_of mid p → MayGive mid p c.goal d
may_give mid p c d s r e = record {
  kept = along IsStore e r.grown.store;
  goal = inside (along (λ z. c.goal < count z) e (omega (arith, s.inside, r.grown.more)));
  stands = along (λ z. Stands z (names_at z.variables c.goal) d.body) e (along (λ xs. Stands d.store xs d.body) (sym (r.grown.names c.goal s.inside ∙ s.names)) r.body);
}
  where
    inside : c.goal < count (store_of mid p) → c.goal < length p.variables
    inside l = omega (arith, l, length_map (variable_of mid) p.variables)

-- what `intro` reaches
pub intro_gives : (c : Scene) (w : Option Name) (d : Done) → IsScene c → length c.context < 2 ^ 64 → Gives (do_intro c w) d → IsReached c d
intro_gives c w d s l y = (intro_reached c s w d (λ e. omega (arith, l)) y).0
