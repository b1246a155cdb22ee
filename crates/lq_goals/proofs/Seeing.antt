-- What is read one after the other, and the first limit that is passed.
use Rattle.std.proofs.Common.{◌≡◌, ◌≤◌, ◌<◌, ◌+◌, ◌∙◌, ℕ, zero, suc, refl, sym, ap, ap₂, subst, arith, Bool, true, false, List, [], ◌∷◌, ◌++◌, map, length, get_or, take, drop, append-nil, append_assoc, Option, Some, None, Result, Ok, Err}
use Rattle.std.proofs.lemmas.List.{map-append}
use Rattle.std.specs.Prelude.{option_map, slice_get}
use Rattle.std.specs.List.{AllByRecursion}
use Rattle.lq_trees.specs.Tree.{Tree, Hypothesis as TreeHypothesis}
use Rattle.lq_terms.specs.declared.nodes.Hypothesis.{Hypothesis}
use Rattle.lq_terms.specs.declared.nodes.TermId.{TermId}
use Rattle.lq_terms.specs.Terms.{Terms, HasTerm, HasName, Grows, text_of, tree_of}
use Rattle.lq_terms.specs.Contexts.{HasBody, HasAllOf, HasContext, hypothesis_of, context_of}
use Rattle.lq_solving.specs.Stores.{Store as TreeStore, StoreFault as TreeFault, Variable as TreeVariable, read, read_hypothesis, read_context, read_fitting, size_fault, read_too_large, read_too_deep}
use Rattle.lq_evars.specs.declared.store.StoreFault.{StoreFault}
use Rattle.lq_trees.specs.Index.{Within}
use Rattle.lq_solving.specs.Kept.{IsOver}
use Rattle.lq_evars.specs.Reading.{Answers}
use Rattle.lq_evars.specs.Places.{Places, store_of, HasStore}
use Rattle.lq_evars.proofs.Growing.{store_of-grown}
use Rattle.lq_states.specs.Views.{context_terms, first_unfit}
use Rattle.lq_goals.specs.Seen.{IsReadable, IsReadableOr, CanRead, Tells, ReadsAs, IsTree, IsBody, IsHypothesis, AreHypotheses, body_terms, hypothesis_terms}

-- the first fault of two
abbrev pub or_fault : Option TreeFault → Option TreeFault → Option TreeFault
or_fault None f = f
or_fault (Some e) f = Some e

pub unfit_append : (ts us : List Tree) → first_unfit (ts ++ us) ≡ or_fault (first_unfit ts) (first_unfit us)
unfolding first_unfit
unfit_append [] us = refl
unfit_append (t ∷ ts) us = by (size_fault t) (unfit_append ts us)
  where
    by : (o : Option TreeFault) → first_unfit (ts ++ us) ≡ or_fault (first_unfit ts) (first_unfit us) →
        elim o as (λ z. Option TreeFault) [ Some f ↦ Some f | None ↦ first_unfit (ts ++ us) ]
        ≡ or_fault (elim o as (λ z. Option TreeFault) [ Some f ↦ Some f | None ↦ first_unfit ts ]) (first_unfit us)
    by (Some f) e = refl
    by None e = e

pub unfit_one : (t : Tree) → first_unfit (t ∷ []) ≡ size_fault t
unfolding first_unfit
unfit_one t = by (size_fault t)
  where
    by : (o : Option TreeFault) → elim o as (λ z. Option TreeFault) [ Some f ↦ Some f | None ↦ None ] ≡ o
    by (Some f) = refl
    by None = refl

pub unfit_none : first_unfit [] ≡ None
unfolding first_unfit
unfit_none = refl

-- a fault that is told stays told behind terms that fit, and whatever comes behind it
pub told_first : (e : StoreFault) (f g : Option TreeFault) → Tells e f → Tells e (or_fault f g)
told_first StoreFault.TooLarge f g t = ap (λ o. or_fault o g) t
told_first StoreFault.TooDeep f g t = ap (λ o. or_fault o g) t
told_first StoreFault.Full f g t = absurd t
told_first StoreFault.NoMemory f g t = tt

pub told_behind : (e : StoreFault) (f g : Option TreeFault) → f ≡ None → Tells e g → Tells e (or_fault f g)
told_behind e f g n t = subst (λ o. Tells e (or_fault o g)) (sym n) t

-- a term that is read
abbrev fit_or : Tree → Option TreeFault → Result Tree TreeFault
fit_or t None = Ok t
fit_or t (Some f) = Err f

fitting_is : (s : TreeStore) (t : Tree) → read_fitting s t ≡ fit_or (read s t) (size_fault (read s t))
unfolding read_fitting
fitting_is s t = by (size_fault (read s t))
  where
    by : (o : Option TreeFault) → elim o as (λ z. Result Tree TreeFault) [ None ↦ Ok (read s t) | Some f ↦ Err f ] ≡ fit_or (read s t) o
    by None = refl
    by (Some f) = refl

abbrev tree_or : Tree → Result Tree TreeFault → Tree
tree_or t (Ok u) = u
tree_or t (Err f) = t

abbrev fault_or : TreeFault → Result Tree TreeFault → Option TreeFault
fault_or f (Ok u) = Some f
fault_or f (Err g) = Some g

pub answer_reads : (bank : Terms) (s : TreeStore) (t : Tree) (r : Result TermId StoreFault) → Answers bank r (read_fitting s t) →
    ReadsAs (IsTree bank (read s t)) r (size_fault (read s t))
answer_reads bank s t r a = by r (size_fault (read s t)) (subst (Answers bank r) (fitting_is s t) a)
  where
    by : (x : Result TermId StoreFault) (o : Option TreeFault) → Answers bank x (fit_or (read s t) o) → ReadsAs (IsTree bank (read s t)) x o
    by (Ok u) None a = (refl, (a.0, ap (λ x. tree_or (read s t) x) (sym a.1)))
    by (Ok u) (Some f) a = absurd (grind (arith, a))
    by (Err StoreFault.TooLarge) None a = absurd (grind (arith, a))
    by (Err StoreFault.TooLarge) (Some f) a = ap (fault_or f) a
    by (Err StoreFault.TooDeep) None a = absurd (grind (arith, a))
    by (Err StoreFault.TooDeep) (Some f) a = ap (fault_or f) a
    by (Err StoreFault.Full) o a = absurd a
    by (Err StoreFault.NoMemory) o a = tt

-- the terms of hypotheses, one hypothesis after the other
pub context_more : (h : TreeHypothesis) (g : List TreeHypothesis) → context_terms (h ∷ g) ≡ hypothesis_terms h ++ context_terms g
unfolding context_terms
context_more h g = by h.body
  where
    by : (o : Option Tree) → elim o as (λ z. List Tree) [ None ↦ h.kind ∷ context_terms g | Some b ↦ b ∷ h.kind ∷ context_terms g ] ≡ (body_terms o ++ h.kind ∷ []) ++ context_terms g
    by None = refl
    by (Some b) = refl

pub context_append : (g d : List TreeHypothesis) → context_terms (g ++ d) ≡ context_terms g ++ context_terms d
unfolding context_terms
context_append [] d = refl
context_append (h ∷ g) d =
    context_more h (g ++ d) ∙ ap (λ z. hypothesis_terms h ++ z) (context_append g d)
    ∙ sym (append_assoc (hypothesis_terms h) (context_terms g) (context_terms d)) ∙ ap (λ z. z ++ context_terms d) (sym (context_more h g))

-- the same of a predicate
pub all_append : {X : Type 0} (P : X → Type 0) (xs ys : List X) → AllByRecursion P xs → AllByRecursion P ys → AllByRecursion P (xs ++ ys)
all_append P [] ys a b = b
all_append P (x ∷ xs) ys a b = (a.0, all_append P xs ys a.1 b)

pub all_at : {X : Type 0} (P : X → Type 0) (xs : List X) (i : ℕ) (d : X) → i < length xs → AllByRecursion P xs → P (get_or xs i d)
all_at P [] i d l a = absurd (omega (arith, l))
all_at P (x ∷ xs) zero d l a = a.0
all_at P (x ∷ xs) (suc i) d l a = all_at P xs i d (omega (arith, l)) a.1

-- what can be read stays so while the bank grows
module _ (old now : Terms) (g : Grows old now) (s : Places) (h : HasStore old s) where
  pub readable_grown : (t : TermId) → IsReadable old s t → IsReadable now s t
  readable_grown t r = record {
    has = omega (arith, r.has, g.nodes);
    over = subst (λ z. IsOver z (tree_of now t)) (sym (ap (λ z. z.variables) (store_of-grown old now g s h))) (subst (IsOver (store_of old s).variables) (sym (g.tree t r.has)) r.over);
    within = subst (Within 0) (sym (g.tree t r.has)) r.within;
  }

  pub body_readable : (o : Option TermId) → IsReadableOr old s o → IsReadableOr now s o
  body_readable None r = tt
  body_readable (Some t) r = readable_grown t r

  pub can_read_grown : (x : Hypothesis) → CanRead old s x → CanRead now s x
  can_read_grown x r = record { name = omega (arith, r.name, g.names); body = body_readable x.body r.body; kind = readable_grown x.kind r.kind }

-- hypotheses that are read one after the other
module _ (s : TreeStore) (g : List TreeHypothesis) (k : TreeHypothesis) where
  pub context_reads_more : read_context s (g ++ k ∷ []) ≡ read_context s g ++ read_hypothesis s k ∷ []
  unfolding read_context
  context_reads_more = map-append (read_hypothesis s) g (k ∷ [])

  pub context_unfit_more : (d : List TreeHypothesis) → first_unfit (context_terms (read_context s (g ++ k ∷ d)))
      ≡ or_fault (first_unfit (context_terms (read_context s g))) (or_fault (first_unfit (hypothesis_terms (read_hypothesis s k))) (first_unfit (context_terms (read_context s d))))
  unfolding read_context
  context_unfit_more d =
      ap (λ z. first_unfit (context_terms z)) (map-append (read_hypothesis s) g (k ∷ d))
      ∙ ap first_unfit (context_append (map (read_hypothesis s) g) (map (read_hypothesis s) (k ∷ d)))
      ∙ unfit_append (context_terms (map (read_hypothesis s) g)) (context_terms (map (read_hypothesis s) (k ∷ d)))
      ∙ ap (or_fault (first_unfit (context_terms (map (read_hypothesis s) g))))
      (ap first_unfit (context_more (read_hypothesis s k) (map (read_hypothesis s) d))
      ∙ unfit_append (hypothesis_terms (read_hypothesis s k)) (context_terms (map (read_hypothesis s) d)))

-- a body and a type that are read make a hypothesis that is read
pub body_reads : (s : TreeStore) (h : TreeHypothesis) → (read_hypothesis s h).body ≡ option_map (read s) h.body
unfolding read_hypothesis
body_reads s h = by h.body
  where
    by : (o : Option Tree) → elim o as (λ z. Option Tree) [ None ↦ None | Some b ↦ Some (read s b) ] ≡ option_map (read s) o
    by None = refl
    by (Some b) = refl

pub kind_reads : (s : TreeStore) (h : TreeHypothesis) → (read_hypothesis s h).kind ≡ read s h.kind
unfolding read_hypothesis
kind_reads s h = refl

pub name_reads : (s : TreeStore) (h : TreeHypothesis) → (read_hypothesis s h).name ≡ h.name
unfolding read_hypothesis
name_reads s h = refl

pub hypothesis_unfit : (s : TreeStore) (h : TreeHypothesis) → first_unfit (hypothesis_terms (read_hypothesis s h))
    ≡ or_fault (first_unfit (body_terms (option_map (read s) h.body))) (size_fault (read s h.kind))
hypothesis_unfit s h =
    unfit_append (body_terms (read_hypothesis s h).body) ((read_hypothesis s h).kind ∷ [])
    ∙ ap₂ (λ o t. or_fault (first_unfit (body_terms o)) (first_unfit (t ∷ []))) (body_reads s h) (kind_reads s h)
    ∙ ap (or_fault (first_unfit (body_terms (option_map (read s) h.body)))) (unfit_one (read s h.kind))
