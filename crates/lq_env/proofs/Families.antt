-- A family means the same in a bank that has grown.
use Rattle.std.proofs.Common.{◌≡◌, refl, sym, ap, ap₂, subst, arith, List, [], ◌∷◌, Option, Some, None}
use Rattle.std.specs.Prelude.{option_map}
use Rattle.std.specs.List.{AllByRecursion}
use Rattle.lq_terms.specs.declared.nodes.NameId.{NameId}
use Rattle.lq_terms.specs.declared.nodes.TermId.{TermId}
use Rattle.lq_terms.specs.declared.nodes.Hypothesis.{Hypothesis}
use Rattle.lq_terms.specs.Terms.{Terms, Grows, tree_of}
use Rattle.lq_terms.specs.Contexts.{hypothesis_of, context_of, HasAllOf, HasBody, HasContext}
use Rattle.lq_env.specs.declared.family.Family.{Family}
use Rattle.lq_env.specs.Families.{constructors_of, family_of, HasConstructor, HasFamily, IsWritten, IsFamily}

module _ (old new : Terms) (g : Grows old new) where
  pub HasBody-grown : (b : Option TermId) → HasBody old b → HasBody new b
  HasBody-grown None h = tt
  HasBody-grown (Some t) h = omega (arith, h, g.nodes)

  pub HasAllOf-grown : (h : Hypothesis) → HasAllOf old h → HasAllOf new h
  HasAllOf-grown h p = record { name = omega (arith, p.name, g.names); body = HasBody-grown h.body p.body; kind = omega (arith, p.kind, g.nodes) }

  pub HasContext-grown : (hs : List Hypothesis) → HasContext old hs → HasContext new hs
  HasContext-grown [] p = tt
  HasContext-grown (h ∷ hs) p = (HasAllOf-grown h p.0, HasContext-grown hs p.1)

  pub body_of-grown : (b : Option TermId) → HasBody old b → option_map (tree_of new) b ≡ option_map (tree_of old) b
  body_of-grown None h = refl
  body_of-grown (Some t) h = ap Some (g.tree t h)

  pub hypothesis_of-grown : (h : Hypothesis) → HasAllOf old h → hypothesis_of new h ≡ hypothesis_of old h
  hypothesis_of-grown h p = rw (g.text h.name p.name, g.tree h.kind p.kind, body_of-grown h.body p.body)

  pub context_of-grown : (hs : List Hypothesis) → HasContext old hs → context_of new hs ≡ context_of old hs
  context_of-grown [] p = refl
  context_of-grown (h ∷ hs) p = ap₂ (λ x xs. x ∷ xs) (hypothesis_of-grown h p.0) (context_of-grown hs p.1)

  pub HasConstructors-grown : (cs : List (NameId × TermId)) → AllByRecursion (HasConstructor old) cs → AllByRecursion (HasConstructor new) cs
  HasConstructors-grown [] p = tt
  HasConstructors-grown (c ∷ cs) p = ((omega (arith, p.0.0, g.names), omega (arith, p.0.1, g.nodes)), HasConstructors-grown cs p.1)

  pub constructors_of-grown : (cs : List (NameId × TermId)) → AllByRecursion (HasConstructor old) cs → constructors_of new cs ≡ constructors_of old cs
  constructors_of-grown [] p = refl
  constructors_of-grown (c ∷ cs) p =
      ap₂ (λ x xs. x ∷ xs) (ap₂ (λ x t. (x, t)) (g.text c.0 p.0.0) (g.tree c.1 p.0.1)) (constructors_of-grown cs p.1)

  pub HasFamily-grown : (f : Family) → HasFamily old f → HasFamily new f
  HasFamily-grown f p = record {
    name = omega (arith, p.name, g.names);
    parameters = HasContext-grown f.parameters p.parameters;
    indices = HasContext-grown f.indices p.indices;
    constructors = HasConstructors-grown f.constructors p.constructors;
  }

  pub family_of-grown : (f : Family) → HasFamily old f → family_of new f ≡ family_of old f
  family_of-grown f p =
      rw (g.text f.name p.name, context_of-grown f.parameters p.parameters, context_of-grown f.indices p.indices, constructors_of-grown f.constructors p.constructors)

  pub IsFamily-grown : (f : Family) → IsFamily old f → IsFamily new f
  IsFamily-grown f p = record { has = HasFamily-grown f p.has; written = subst IsWritten (sym (family_of-grown f p.has)) p.written }
