-- How many constructors the type of a goal of a proof has.
use Rattle.std.proofs.Common.{◌≡◌, ◌∙◌, ℕ, sym, ap, ap₂, List, Result}
use Rattle.lq_trees.specs.Ticks.{gives, ◌>>=◌}
use Rattle.lq_terms.specs.declared.nodes.NameId.{NameId}
use Rattle.lq_terms.specs.declared.nodes.TermId.{TermId}
use Rattle.lq_terms.specs.Terms.{Terms, Grows}
use Rattle.lq_calculus.specs.Declarations.{Env as Environment}
use Rattle.lq_env.specs.declared.environment.Declared.{Declared}
use Rattle.lq_env.specs.Environments.{IsEnv, env_of}
use Rattle.lq_env.proofs.Grown.{env_of-grown}
use Rattle.lq_solving.specs.Stores.{Store}
use Rattle.lq_solving.specs.Elaboration.{Givens}
use Rattle.lq_evars.specs.Places.{HasStore, Places, store_of}
use Rattle.lq_evars.proofs.Growing.{store_of-grown}
use Rattle.lq_tactics.specs.Rows.{scene}
use Rattle.lq_tactics.specs.Applying.{constructor_count}
use Rattle.lq_prims.specs.declared.faults.PrimFault.{PrimFault}
use Rattle.lq_prims.specs.Advancing.{count_work}
use Rattle.lq_prims.specs.Scenes.{scene_in}
use Rattle.lq_prims.specs.Working.{Does, Refuses}
use Rattle.lq_prims.proofs.WorkLaws.{does_same, refuses_first}

pub no_count : (E : Environment) (s : Store) (k : ℕ) (vs : Givens) (bank : Terms) (e : PrimFault) (b l : ℕ) → Refuses bank e (λ n. scene E n vs s k) b l → Refuses bank e (λ n. count_work E n s k vs) b l
unfolding count_work
no_count E s k vs bank e b l h = refuses_first bank e (λ n. scene E n vs s k) (λ c n. constructor_count c) b l h

module _ (old mid : Terms) (grows : Grows old mid) (ds : List (NameId × Declared)) (env : IsEnv old ds) (s : Places) (has : HasStore old s) where
  pub count_before : (k : ℕ) (T : TermId) (vs : Givens) → ((n : ℕ) → scene (env_of mid ds) n vs (store_of mid s) k ≡ gives (scene_in mid ds s k T vs n)) →
      {X : Type 0} (bank : Terms) (tell : X → ℕ) (r : Result X PrimFault) (b l : ℕ) → Does bank tell r (λ n. constructor_count (scene_in mid ds s k T vs n)) b l → Does bank tell r (λ n. count_work (env_of old ds) n (store_of old s) k vs) b l
  unfolding count_work ◌>>=◌
  count_before k T vs sets bank tell r b l w =
      does_same bank tell r (λ n. constructor_count (scene_in mid ds s k T vs n)) (λ n. count_work (env_of old ds) n (store_of old s) k vs) b l
      (λ n. sym (ap (λ z. z >>= constructor_count) (sets n)) ∙ ap₂ (λ E z. scene E n vs z k >>= constructor_count) (env_of-grown old mid grows ds env) (store_of-grown old mid grows s has)) w
