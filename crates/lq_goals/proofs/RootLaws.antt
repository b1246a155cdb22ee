-- The proof's term as it reads.
use Rattle.std.proofs.Common.{◌≡◌, ◌≤◌, ◌<◌, ◌+◌, ◌∙◌, ℕ, zero, suc, refl, sym, ap, ap₂, subst, arith, Bool, true, false, List, [], ◌∷◌, ◌++◌, map, length, get_or, take, drop, Option, Some, None, Result, Ok, Err}
use Rattle.std.proofs.lemmas.List.{length-map, map-append, take_more}
use Rattle.std.specs.Prelude.{slice_get, IfOk}
use Rattle.std.specs.List.{AllByRecursion}
use Rattle.lq_trees.specs.Tree.{Tree, Trees, Hypothesis as TreeHypothesis, none, more}
use Rattle.lq_trees.specs.Tree.Tree.{Var, Evar}
use Rattle.lq_trees.specs.Index.{Within, EachWithin}
use Rattle.lq_trees.specs.Reading.{entries}
use Rattle.lq_calculus.specs.Declarations.{variables}
use Rattle.lq_terms.specs.declared.nodes.Hypothesis.{Hypothesis}
use Rattle.lq_terms.specs.declared.nodes.TermId.{TermId}
use Rattle.lq_terms.specs.declared.nodes.NoMemory.{NoMemory}
use Rattle.lq_terms.specs.Terms.{Terms, HasTerm, IsTerm, Grows, text_of, tree_of, trees_by}
use Rattle.lq_terms.specs.Contexts.{HasAllOf, HasContext, hypothesis_of, context_of}
use Rattle.lq_solving.specs.Stores.{Store as TreeStore, StoreFault as TreeFault, Variable as TreeVariable, names_in, names_at, own_instance, instance_list, read, read_fitting, size_fault}
use Rattle.lq_solving.specs.Kept.{IsOver, EachIsOver, IsStore}
use Rattle.lq_evars.specs.declared.store.StoreFault.{StoreFault}
use Rattle.lq_evars.specs.declared.store.Variable.{Variable}
use Rattle.lq_evars.specs.Reading.{Answers}
use Rattle.lq_evars.specs.Places.{Places, store_of, variable_of, HasStore}
use Rattle.lq_evars.proofs.Lookups.{variable_told}
use Rattle.lq_evars.proofs.Growing.{store_of-grown, context_grown}
use Rattle.lq_states.specs.Views.{root, root_of, fitting_root, unless_fault}
use Rattle.lq_goals.specs.Held.{Held, proof_of}
use Rattle.lq_goals.specs.Seen.{IsReadable, ReadsAs, Shows, IsTree, IsRoot}
use Rattle.lq_goals.proofs.Seeing.{all_append, answer_reads}
use Rattle.lq_goals.proofs.ViewingGoals.{variable_at, has_variable, reads_shows}

-- ---- each hypothesis for itself

pub own_append : (g : List TreeHypothesis) (h : TreeHypothesis) → variables (g ++ h ∷ []) ≡ variables g ++ Var h.name ∷ []
unfolding variables
own_append [] h = refl
own_append (k ∷ g) h = ap (λ z. Var k.name ∷ z) (own_append g h)

pub own_none : variables [] ≡ []
unfolding variables
own_none = refl

pub terms_there : (old now : Terms) → Grows old now → (ts : List TermId) → AllByRecursion (HasTerm old) ts → (map (tree_of now) ts ≡ map (tree_of old) ts) × AllByRecursion (HasTerm now) ts
terms_there old now g [] h = (refl, tt)
terms_there old now g (t ∷ ts) h = let r = terms_there old now g ts h.1 in (ap₂ (λ x xs. x ∷ xs) (g.tree t h.0) r.0, (omega (arith, h.0, g.nodes), r.1))

-- one entry more
pub own_has : (old now : Terms) → Grows old now → (ts new : List TermId) (t : TermId) → AllByRecursion (HasTerm old) ts → HasTerm now t → new ≡ ts ++ t ∷ [] → AllByRecursion (HasTerm now) new
own_has old now g ts new t h k e = subst (AllByRecursion (HasTerm now)) (sym e) (all_append (HasTerm now) ts (t ∷ []) (terms_there old now g ts h).1 (k, tt))

pub own_on : (first old now : Terms) → Grows first old → Grows old now → (hs : List Hypothesis) (i : ℕ) (d : Hypothesis) → i < length hs → HasAllOf first (get_or hs i d) → (ts new : List TermId) (t : TermId) →
    AllByRecursion (HasTerm old) ts → map (tree_of old) ts ≡ variables (context_of first (take i hs)) → tree_of now t ≡ Var (text_of old (get_or hs i d).name) → new ≡ ts ++ t ∷ [] →
    map (tree_of now) new ≡ variables (context_of first (take (i + 1) hs))
own_on first old now g0 g hs i d l all ts new t h so_far is e =
    ap (map (tree_of now)) e ∙ map-append (tree_of now) ts (t ∷ [])
    ∙ ap₂ (λ x y. x ++ y ∷ []) ((terms_there old now g ts h).0 ∙ so_far) (is ∙ ap Var (g0.text (get_or hs i d).name all.name))
    ∙ sym (own_append (context_of first (take i hs)) (hypothesis_of first (get_or hs i d)))
    ∙ sym (ap (λ z. variables (context_of first z)) (take_more hs i d l) ∙ ap variables (map-append (hypothesis_of first) (take i hs) (get_or hs i d ∷ [])))

trees_listed : (f : TermId → Tree) (ts : List TermId) → trees_by f ts ≡ instance_list (map f ts)
unfolding instance_list
trees_listed f [] = refl
trees_listed f (t ∷ ts) = ap (more (f t)) (trees_listed f ts)

own_many : (g : List TreeHypothesis) → length (entries (own_instance g)) ≡ length (names_in g)
unfolding own_instance instance_list variables entries
own_many [] = refl
own_many (h ∷ g) = ap suc (own_many g)

own_over : (vs : List TreeVariable) (g : List TreeHypothesis) → EachIsOver vs (own_instance g)
unfolding own_instance instance_list variables
own_over vs [] = tt
own_over vs (h ∷ g) = (tt, own_over vs g)

own_within : (g : List TreeHypothesis) → EachWithin 0 (own_instance g)
unfolding own_instance instance_list variables
own_within [] = tt
own_within (h ∷ g) = (tt, own_within g)

-- ---- variable 0

-- the term that is made is variable 0 with its own instance
pub root_made : (old now later : Terms) → Grows old now → Grows now later → (s : Places) → HasStore old s → (v : Variable) → slice_get s.variables 0 ≡ Some v → HasContext old v.context → (hs : List Hypothesis) → hs ≡ v.context →
    (ts : List TermId) → map (tree_of now) ts ≡ variables (context_of old hs) → (r : Result TermId NoMemory) → IfOk r (λ t. IsTerm later t (Evar 0 (trees_by (tree_of now) ts))) → IfOk r (IsRoot later s)
unfolding own_instance
root_made old now later g1 g2 s h v e has hs q ts is (Err x) k = tt
root_made old now later g1 g2 s h v e has hs q ts is (Ok t) k = λ w f.
    let same : w ≡ v = ap (λ o. elim o as (λ z. Variable) [ Some x ↦ x | None ↦ w ]) (sym f ∙ e) in
    let c1 = context_grown old now g1 v.context has in
    let c2 = context_grown now later g2 v.context c1.1 in
    (k.has, k.is ∙ ap (Evar 0) (trees_listed (tree_of now) ts ∙ ap instance_list (is ∙ ap (λ z. variables (context_of old z)) q ∙ ap variables (sym (c2.0 ∙ c1.0)) ∙ ap (λ z. variables (context_of later z.context)) (sym same))))

module _ (bank : Terms) (s : Places) (rooted : 0 < length s.variables) (t : TermId) (is : IsRoot bank s t) where
  root_names : (v : Variable) → slice_get s.variables 0 ≡ Some v → names_at (store_of bank s).variables 0 ≡ names_in (context_of bank v.context)
  unfolding names_at
  root_names v e = ap (λ o. elim o as (λ z. List (List ℕ)) [ Some w ↦ names_in w.context | None ↦ [] ]) (variable_told bank s 0 v e)

  -- it can be read
  pub root_readable : IsReadable bank s t
  root_readable =
      let v = variable_at s 0 rooted in
      let k = is v.0 v.1 in
      record {
        has = k.0;
        over =
            subst (IsOver (store_of bank s).variables) (sym k.1)
            (omega (arith, rooted, length-map s.variables (variable_of bank)), own_many (context_of bank v.0.context) ∙ sym (ap length (root_names v.0 v.1)), own_over (store_of bank s).variables (context_of bank v.0.context));
        within = subst (Within 0) (sym k.1) (own_within (context_of bank v.0.context));
      }

-- ---- the proof's term

root_is : (bank : Terms) (p : Held) (v : Variable) → slice_get p.store.variables 0 ≡ Some v → root (proof_of bank p) ≡ read (store_of bank p.store) (Evar 0 (own_instance (context_of bank v.context)))
unfolding root root_of
root_is bank p v e = by p.store.variables e
  where
    by : (vs : List Variable) → slice_get vs 0 ≡ Some v → root_of (store_of bank p.store) (map (variable_of bank) vs) ≡ read (store_of bank p.store) (Evar 0 (own_instance (context_of bank v.context)))
    by [] f = absurd (grind (arith, f))
    by (w ∷ vs) f = ap (λ z. read (store_of bank p.store) (Evar 0 (own_instance (context_of bank z.context)))) (ap (λ o. elim o as (λ z. Variable) [ Some x ↦ x | None ↦ w ]) f)

pub root_shows : (old now later : Terms) → Grows old now → (p : Held) → HasStore old p.store → IsStore (store_of old p.store) → 0 < length p.store.variables → (s : Places) → s ≡ p.store → (t : TermId) → IsRoot now p.store t →
    (r : Result TermId StoreFault) → Answers later r (read_fitting (store_of now s) (tree_of now t)) → Shows (IsTree later) r (fitting_root (proof_of old p))
unfolding fitting_root
root_shows old now later g p h i rooted s q t is r a =
    let v = variable_at p.store 0 rooted in
    let same : read (store_of now s) (tree_of now t) ≡ root (proof_of old p) =
    ap (λ z. read (store_of now z) (tree_of now t)) q ∙ ap₂ read (store_of-grown old now g p.store h) ((is v.0 v.1).1 ∙ ap (λ z. Evar 0 (own_instance z)) (context_grown old now g v.0.context (has_variable old p.store h i 0 v.0 v.1).context).0)
    ∙ sym (root_is old p v.0 v.1) in
    reads_shows (IsTree later) (root (proof_of old p)) r (size_fault (root (proof_of old p)))
    (subst (λ z. ReadsAs (IsTree later z) r (size_fault z)) same (answer_reads later (store_of now s) (tree_of now t) r a))
