-- What stays as a bank grows, and as hypotheses, variables and values are added.
use Rattle.std.proofs.Common.{◌≡◌, ◌∙◌, ℕ, refl, sym, ap, arith, List, [], ◌∷◌, ◌++◌, Option, Some, None, Result, Ok, Err, OnOk, OnErr}
use Rattle.std.proofs.Common.{subst as along}
use Rattle.std.specs.Prelude.{slice_get}
use Rattle.std.specs.List.{AllByRecursion}
use Rattle.lq_terms.specs.declared.nodes.Hypothesis.{Hypothesis}
use Rattle.lq_terms.specs.declared.nodes.NameId.{NameId}
use Rattle.lq_terms.specs.declared.nodes.TermId.{TermId}
use Rattle.lq_terms.specs.Terms.{Terms, HasTerm, Grows, tree_of}
use Rattle.lq_terms.specs.Contexts.{HasBody, context_of}
use Rattle.lq_terms.proofs.Growth.{Grows-trans}
use Rattle.lq_solving.specs.Claims.{IsPlain}
use Rattle.lq_solving.specs.Stores.{Variable as TreeVariable, Assigned, with_variable, with_value}
use Rattle.lq_solving.specs.Kept.{IsContext, IsStore, IsValue}
use Rattle.lq_solving.proofs.StoreLaws.{context_keeps, more_keeps, given_keeps}
use Rattle.lq_evars.specs.declared.store.Variable.{Variable}
use Rattle.lq_evars.specs.Places.{Places, store_of, variable_of, assigned_of, values_from, HasStore, one_more, one_given}
use Rattle.lq_evars.proofs.Growing.{context_grown, store_of-grown, HasStore-grown}
use Rattle.lq_evars.proofs.Variables.{more_told}
use Rattle.lq_unify_rows.specs.Declaring.{Declarations, IsBody, IsDeclared}
use Rattle.lq_unify_rows.specs.Scenes.{IsScene, HasWanted}

body-grown : (old new : Terms) → Grows old new → (b : NameId × TermId) → IsBody old b → IsBody new b
body-grown old new g b h = record { name = omega (arith, h.name, g.names); has = omega (arith, h.has, g.nodes); plain = along (IsPlain 0) (sym (g.tree b.1 h.has)) h.plain }

bodies-grown : (old new : Terms) → Grows old new → (bs : List (NameId × TermId)) → AllByRecursion (IsBody old) bs → AllByRecursion (IsBody new) bs
bodies-grown old new g [] h = tt
bodies-grown old new g (b ∷ bs) h = (body-grown old new g b h.0, bodies-grown old new g bs h.1)

pub declared-grown : (old new : Terms) (d : Declarations) → Grows old new → IsDeclared old d → IsDeclared new d
declared-grown old new d g h = record { bodies = bodies-grown old new g d.bodies h.bodies; nat = omega (arith, h.nat, g.names) }

pub scene-grown : (old new : Terms) (s : Places) (hs : List Hypothesis) (d : Declarations) → Grows old new → IsScene old s hs d → IsScene new s hs d
scene-grown old new s hs d g h =
    let e = store_of-grown old new g s h.store in
    let c = context_grown old new g hs h.hypotheses in
    record {
      store = HasStore-grown old new g s h.store;
      kept = along IsStore (sym e) h.kept;
      hypotheses = c.1;
      context = along (λ z. IsContext z (context_of new hs)) (sym e) (along (IsContext (store_of old s)) (sym c.0) h.context);
      rules = declared-grown old new d g h.rules;
    }

pub body_has-grown : (old new : Terms) (o : Option TermId) → Grows old new → HasBody old o → HasBody new o
body_has-grown old new None g h = tt
body_has-grown old new (Some t) g h = omega (arith, h, g.nodes)

pub term-grown : (old new : Terms) (t : TermId) → Grows old new → HasTerm old t → HasTerm new t
term-grown old new t g h = omega (arith, h, g.nodes)

pub wanted-grown : (old new : Terms) (ws : List (ℕ × TermId)) → Grows old new → HasWanted old ws → HasWanted new ws
wanted-grown old new [] g h = tt
wanted-grown old new (w ∷ ws) g h = (omega (arith, h.0, g.nodes), wanted-grown old new ws g h.1)

pub wanted_more : (bank : Terms) (ws us : List (ℕ × TermId)) (w : ℕ × TermId) → us ≡ ws ++ w ∷ [] → HasWanted bank ws → HasTerm bank w.1 → HasWanted bank us
wanted_more bank ws us w e h k = along (HasWanted bank) (sym e) (push ws h)
  where
    push : (ws : List (ℕ × TermId)) → HasWanted bank ws → HasWanted bank (ws ++ w ∷ [])
    push [] h = (k, tt)
    push (v ∷ vs) h = (h.0, push vs h.1)

pub ruleset keeping = (Grows-trans, scene-grown, declared-grown, body_has-grown, term-grown, wanted-grown)

-- the same store after what was given is taken back
pub scene_same : (bank : Terms) (s s1 : Places) (hs : List Hypothesis) (d : Declarations) → s1 ≡ s → IsScene bank s hs d → IsScene bank s1 hs d
scene_same bank s s1 hs d e h = along (λ z. IsScene bank z hs d) (sym e) h

-- the same in a bank that has grown
pub scene_after : (old new : Terms) (s s1 : Places) (hs : List Hypothesis) (d : Declarations) → Grows old new → s1 ≡ s → IsScene old s hs d → IsScene new s1 hs d
scene_after old new s s1 hs d g e h = scene_same new s s1 hs d e (scene-grown old new s hs d g h)

-- other declarations in a bank that has grown
pub scene_declared : (old new : Terms) (s : Places) (hs : List Hypothesis) (d e : Declarations) → Grows old new → IsScene old s hs d → IsDeclared new e → IsScene new s hs e
scene_declared old new s hs d e g h i =
    let j = scene-grown old new s hs d g h in
    record { store = j.store; kept = j.kept; hypotheses = j.hypotheses; context = j.context; rules = i }

-- no hypotheses
pub scene_empty : (bank : Terms) (s : Places) (hs ks : List Hypothesis) (d : Declarations) → ks ≡ [] → IsScene bank s hs d → IsScene bank s ks d
scene_empty bank s hs ks d e h = along (λ z. IsScene bank s z d) (sym e) (record { store = h.store; kept = h.kept; hypotheses = tt; context = tt; rules = h.rules })

-- no variables
pub scene_new : (bank : Terms) (s : Places) (d : Declarations) → s.variables ≡ [] → s.values ≡ [] → IsDeclared bank d → IsScene bank s [] d
scene_new bank s d e f h = along (λ z. IsScene bank z [] d) (sym both) (record {
  store = record { variables = tt; values = tt };
  kept = record { values = tt; variables = tt; named = λ j k v w x a b p q. absurd (nothing j v [] refl a) };
  hypotheses = tt;
  context = tt;
  rules = h;
})
  where
    both : s ≡ record { variables = []; values = [] }
    both = ap (λ vs. record { variables = vs; values = s.values }) e ∙ ap (λ as_. record { variables = []; values = as_ }) f

    nothing : (j : ℕ) (v : TreeVariable) (vs : List TreeVariable) → vs ≡ [] → slice_get vs j ≡ Some v → ⊥
    nothing j v [] e a = grind arith
    nothing j v (w ∷ ws) e a = absurd cc

-- one variable more
pub scene_more : (bank : Terms) (s s1 : Places) (v : Variable) (hs : List Hypothesis) (d : Declarations) → IsScene bank s hs d → s1 ≡ one_more s v → HasStore bank s1 → IsStore (store_of bank s1) → IsScene bank s1 hs d
scene_more bank s s1 v hs d h e has kept = record {
  store = has;
  kept = kept;
  hypotheses = h.hypotheses;
  context = along (λ z. IsContext (store_of bank z) (context_of bank hs)) (sym e)
      (along (λ z. IsContext z (context_of bank hs)) (more_told bank s v)
      (context_keeps (store_of bank s) (with_variable (store_of bank s) (variable_of bank v)) (more_keeps (store_of bank s) (variable_of bank v) h.kept.values) [] (context_of bank hs) h.context));
  rules = h.rules;
}

values_more : (bank : Terms) (older : List Assigned) (as_ : List (ℕ × TermId)) (a : ℕ × TermId) → values_from bank older (as_ ++ a ∷ []) ≡ assigned_of bank a ∷ values_from bank older as_
values_more bank older [] a = refl
values_more bank older (b ∷ bs) a = values_more bank (assigned_of bank b ∷ older) bs a

value_told : (bank : Terms) (s : Places) (k : ℕ) (t : TermId) → with_value (store_of bank s) k (tree_of bank t) ≡ store_of bank (one_given s k t)
unfolding with_value
value_told bank s k t = ap (λ as_. record { variables = (store_of bank s).variables; values = as_ }) (sym (values_more bank [] s.values (k, t)))

-- one value more
pub scene_given : (old new : Terms) (s s1 : Places) (k : ℕ) (t : TermId) (hs : List Hypothesis) (d : Declarations) → Grows old new → IsScene old s hs d → HasTerm old t
    → IsValue (store_of old s).variables (store_of old s).values (record { id = k; body = tree_of old t })
    → s1 ≡ one_given s k t → HasStore new s1 → IsStore (store_of new s1) → IsScene new s1 hs d
scene_given old new s s1 k t hs d g h has_term value e has kept =
    let same = store_of-grown old new g s h.store in
    let c = context_grown old new g hs h.hypotheses in
    record {
      store = has;
      kept = kept;
      hypotheses = c.1;
      context = along (λ z. IsContext (store_of new z) (context_of new hs)) (sym e)
          (along (IsContext (store_of new (one_given s k t))) (sym c.0)
          (along (λ z. IsContext z (context_of old hs)) (ap (λ z. with_value z k (tree_of old t)) (sym same) ∙ ap (with_value (store_of new s) k) (sym (g.tree t has_term)) ∙ value_told new s k t)
          (context_keeps (store_of old s) (with_value (store_of old s) k (tree_of old t)) (given_keeps (store_of old s) k (tree_of old t) h.kept.values value) [] (context_of old hs) h.context)));
      rules = declared-grown old new d g h.rules;
    }

-- the store after an answer: it has values more, or is as before
pub has_after : {T E : Type 0} (old new : Terms) (s s1 : Places) (r : Result T E) → OnOk r (HasStore new s1) → OnErr r (s1 ≡ s) → Grows old new → HasStore old s → HasStore new s1
has_after old new s s1 (Ok v) h e g k = h
has_after old new s s1 (Err y) h e g k = along (HasStore new) (sym e) (HasStore-grown old new g s k)
