-- What stays as a bank grows, and as a context does.
use Rattle.std.proofs.Common.{◌≡◌, List, [], ◌∷◌, ◌++◌, subst, sym}
use Rattle.lq_terms.specs.declared.nodes.Hypothesis.{Hypothesis}
use Rattle.lq_terms.specs.Terms.{Terms}
use Rattle.lq_terms.proofs.Growth.{Grows-trans}
use Rattle.lq_env.proofs.Families.{IsFamily-grown}
use Rattle.lq_env.proofs.Grown.{IsEnv-grown}
use Rattle.lq_kernel.specs.Closed.{IsHypothesis, IsContext}
use Rattle.lq_kernel.proofs.Grown.{IsScoped-grown, IsBody-grown, IsContext-grown, IsContext-push}

pub pushed : (bank : Terms) (hs ks : List Hypothesis) (h : Hypothesis) → ks ≡ hs ++ h ∷ [] → IsContext bank hs → IsHypothesis bank h → IsContext bank ks
pushed bank hs ks h e p q = subst (IsContext bank) (sym e) (IsContext-push bank hs h p q)

pub ruleset families = (Grows-trans, IsScoped-grown, IsFamily-grown)

pub ruleset growing = (Grows-trans, IsEnv-grown, IsScoped-grown, IsBody-grown, IsContext-grown)
