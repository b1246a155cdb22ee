-- A store means the same in a bank that has grown.
use Rattle.std.proofs.Common.{◌≡◌, ◌∙◌, ℕ, refl, ap, ap₂, arith, List, [], ◌∷◌, map, Option, Some, None}
use Rattle.std.specs.Prelude.{option_map}
use Rattle.std.specs.List.{AllByRecursion}
use Rattle.lq_terms.specs.declared.nodes.Hypothesis.{Hypothesis}
use Rattle.lq_terms.specs.declared.nodes.NameId.{NameId}
use Rattle.lq_terms.specs.declared.nodes.TermId.{TermId}
use Rattle.lq_terms.specs.Terms.{Terms, HasTerm, Grows, text_of, tree_of}
use Rattle.lq_terms.specs.Contexts.{HasBody, HasAllOf, HasContext, hypothesis_of, context_of}
use Rattle.lq_solving.specs.Stores.{Assigned}
use Rattle.lq_evars.specs.declared.store.Variable.{Variable}
use Rattle.lq_evars.specs.Places.{Places, store_of, variable_of, assigned_of, values_from, HasNameOr, HasVariable, HasStore}

module _ (old new : Terms) (g : Grows old new) where
  body_grown : (o : Option TermId) → HasBody old o → (option_map (tree_of new) o ≡ option_map (tree_of old) o) × HasBody new o
  body_grown None h = (refl, tt)
  body_grown (Some t) h = (ap Some (g.tree t h), omega (arith, h, g.nodes))

  name_grown : (o : Option NameId) → HasNameOr old o → (option_map (text_of new) o ≡ option_map (text_of old) o) × HasNameOr new o
  name_grown None h = (refl, tt)
  name_grown (Some x) h = (ap Some (g.text x h), omega (arith, h, g.names))

  hypothesis_grown : (h : Hypothesis) → HasAllOf old h → (hypothesis_of new h ≡ hypothesis_of old h) × HasAllOf new h
  hypothesis_grown h k =
      let b = body_grown h.body k.body in
      (rw (g.text h.name k.name, b.0, g.tree h.kind k.kind) refl, record { name = omega (arith, k.name, g.names); body = b.1; kind = omega (arith, k.kind, g.nodes) })

  pub context_grown : (hs : List Hypothesis) → HasContext old hs → (context_of new hs ≡ context_of old hs) × HasContext new hs
  context_grown [] k = (refl, tt)
  context_grown (h ∷ hs) k =
      let a = hypothesis_grown h k.0 in
      let b = context_grown hs k.1 in
      (ap₂ (λ x xs. x ∷ xs) a.0 b.0, (a.1, b.1))

  pub variable_grown : (v : Variable) → HasVariable old v → (variable_of new v ≡ variable_of old v) × HasVariable new v
  variable_grown v h =
      let c = context_grown v.context h.context in
      let n = name_grown v.name h.name in
      (rw (c.0, g.tree v.kind h.kind, n.0) refl, record { context = c.1; kind = omega (arith, h.kind, g.nodes); name = n.1 })

  variables_grown : (vs : List Variable) → AllByRecursion (HasVariable old) vs → (map (variable_of new) vs ≡ map (variable_of old) vs) × AllByRecursion (HasVariable new) vs
  variables_grown [] h = (refl, tt)
  variables_grown (v ∷ vs) h =
      let a = variable_grown v h.0 in
      let b = variables_grown vs h.1 in
      (ap₂ (λ x xs. x ∷ xs) a.0 b.0, (a.1, b.1))

  values_grown : (older : List Assigned) (as_ : List (ℕ × TermId)) → AllByRecursion (λ a. HasTerm old a.1) as_ → values_from new older as_ ≡ values_from old older as_
  values_grown older [] h = refl
  values_grown older (a ∷ as_) h =
      values_grown (assigned_of new a ∷ older) as_ h.1 ∙ ap (λ t. values_from old (record { id = a.0; body = t } ∷ older) as_) (g.tree a.1 h.0)

  values_there : (as_ : List (ℕ × TermId)) → AllByRecursion (λ a. HasTerm old a.1) as_ → AllByRecursion (λ a. HasTerm new a.1) as_
  values_there [] h = tt
  values_there (a ∷ as_) h = (omega (arith, h.0, g.nodes), values_there as_ h.1)

  pub store_of-grown : (s : Places) → HasStore old s → store_of new s ≡ store_of old s
  store_of-grown s h = ap₂ (λ vs as_. record { variables = vs; values = as_ }) (variables_grown s.variables h.variables).0 (values_grown [] s.values h.values)

  pub HasStore-grown : (s : Places) → HasStore old s → HasStore new s
  HasStore-grown s h = record { variables = (variables_grown s.variables h.variables).1; values = values_there s.values h.values }
