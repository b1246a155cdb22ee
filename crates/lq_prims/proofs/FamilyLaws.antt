-- Which names are those of families.
use Rattle.std.proofs.Common.{◌≡◌, ap, Bool, List, Option, Some, None}
use Rattle.std.proofs.Common.{subst as along}
use Rattle.lq_trees.specs.declared.Sort.{Sort as Universe}
use Rattle.lq_calculus.specs.Declarations.{Entry as TreeEntry, family_in}
use Rattle.lq_terms.specs.declared.nodes.NameId.{NameId}
use Rattle.lq_terms.specs.declared.nodes.TermId.{TermId}
use Rattle.lq_terms.specs.Terms.{Terms}
use Rattle.lq_env.specs.declared.environment.Entry.{Entry}
use Rattle.lq_env.specs.declared.family.Family.{Family}
use Rattle.lq_env.specs.Environments.{Looks}
use Rattle.lq_prims.specs.Inductives.{IsFamilyOr}

module _ (bank : Terms) (o : Option TreeEntry) where
  pub no_entry : Looks bank None o → IsFamilyOr bank None (family_in o)
  unfolding family_in
  no_entry l = ap family_in l

  pub family_entry : (f : Family) (ss : List Universe) (e : Entry) → e ≡ Entry.Family f ss → Looks bank (Some e) o → IsFamilyOr bank (Some f) (family_in o)
  unfolding family_in
  family_entry f ss e is l = let k = along (λ z. Looks bank (Some z) o) is l in (k.0.0, ap family_in k.1)

  pub constant_entry : (A t : TermId) (b : Bool) (e : Entry) → e ≡ Entry.Constant A t b → Looks bank (Some e) o → IsFamilyOr bank None (family_in o)
  unfolding family_in
  constant_entry A t b e is l = ap family_in (along (λ z. Looks bank (Some z) o) is l).1

  pub arity_entry : (A : TermId) (e : Entry) → e ≡ Entry.Arity A → Looks bank (Some e) o → IsFamilyOr bank None (family_in o)
  unfolding family_in
  arity_entry A e is l = ap family_in (along (λ z. Looks bank (Some z) o) is l).1

  pub constructor_entry : (x : NameId) (k : _) (e : Entry) → e ≡ Entry.Constructor x k → Looks bank (Some e) o → IsFamilyOr bank None (family_in o)
  unfolding family_in
  constructor_entry x k e is l = ap family_in (along (λ z. Looks bank (Some z) o) is l).1

  pub eliminator_entry : (x : NameId) (u : Universe) (e : Entry) → e ≡ Entry.Eliminator x u → Looks bank (Some e) o → IsFamilyOr bank None (family_in o)
  unfolding family_in
  eliminator_entry x u e is l = ap family_in (along (λ z. Looks bank (Some z) o) is l).1
