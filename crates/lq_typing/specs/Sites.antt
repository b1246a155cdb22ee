-- What inference over a store is lent: declarations, a store and a context.
use Rattle.std.specs.Prelude.{List}
use Rattle.lq_terms.specs.declared.nodes.Hypothesis.{Hypothesis}
use Rattle.lq_terms.specs.declared.nodes.NameId.{NameId}
use Rattle.lq_terms.specs.Terms.{Terms}
use Rattle.lq_terms.specs.Contexts.{HasContext, context_of}
use Rattle.lq_env.specs.declared.environment.Declared.{Declared}
use Rattle.lq_env.specs.Environments.{IsEnv, env_of}
use Rattle.lq_solving.specs.Claims.{ArePlainDeclarations}
use Rattle.lq_solving.specs.Kept.{IsContext, IsStore}
use Rattle.lq_evars.specs.Places.{Places, store_of, HasStore}

-- declarations and a store that lie in the bank; the declarations name neither variables nor hypotheses, and the store is one as the
-- calls keep it
pub record IsLent (bank : Terms) (ds : List (NameId × Declared)) (p : Places) : Type 0 where
  pub env : IsEnv bank ds
  pub plain : ArePlainDeclarations (env_of bank ds)
  pub store : HasStore bank p
  pub kept : IsStore (store_of bank p)

-- and a context that stands in the store
pub record IsSite (bank : Terms) (ds : List (NameId × Declared)) (p : Places) (hs : List Hypothesis) : Type 0 where
  pub lent : IsLent bank ds p
  pub has : HasContext bank hs
  pub context : IsContext (store_of bank p) (context_of bank hs)
