-- What reduction asks of a context and of an environment.
use Rattle.std.proofs.Common.{◌≡◌, refl, sym, List, [], ◌∷◌, Option, Some, None}
use Rattle.std.specs.List.{AllByRecursion}
use Rattle.lq_terms.specs.declared.nodes.TermId.{TermId}
use Rattle.lq_terms.specs.declared.nodes.Hypothesis.{Hypothesis}
use Rattle.std.specs.Prelude.{IfSome}
use Rattle.lq_terms.specs.declared.nodes.NameId.{NameId}
use Rattle.lq_terms.specs.Terms.{Terms, HasTerm}
use Rattle.lq_env.specs.declared.environment.Declared.{Declared}
use Rattle.lq_env.specs.Environments.{IsEnv, body_at}
use Rattle.lq_env.proofs.Telling.{has_telling}
use Rattle.lq_kernel.specs.Closed.{IsBody, IsContext}
use Rattle.lq_kernel.proofs.Grown.{has_context}
use Rattle.lq_reduce.specs.Views.{HasBodies, HasClosedBody}

closed_body : (bank : Terms) (o : Option TermId) → IsBody bank o → HasClosedBody bank o
closed_body bank None h = tt
closed_body bank (Some t) h = (h.has, h.within)

each_body : (bank : Terms) (hs : List Hypothesis) → IsContext bank hs → AllByRecursion (λ h. HasClosedBody bank h.body) hs
each_body bank [] h = tt
each_body bank (k ∷ ks) h = (closed_body bank k.body h.0.body, each_body bank ks h.1)

pub bodies : (bank : Terms) (hs : List Hypothesis) → IsContext bank hs → HasBodies bank hs
bodies bank hs h = record { context = has_context bank hs h; bodies = each_body bank hs h }

-- the body of a constant lies in the bank
pub has_body : (bank : Terms) (ds : List (NameId × Declared)) (x : NameId) (o : Option TermId) → o ≡ body_at ds x → IsEnv bank ds → IfSome o (HasTerm bank)
has_body bank ds x None e p = tt
has_body bank ds x (Some t) e p = ((has_telling bank ds p).delta x t (sym e)).has

pub ruleset scenes = (bodies, has_telling)
