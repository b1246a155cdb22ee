-- Bodies, hypotheses and contexts as they read, in banks that grow on the way.
use Rattle.std.proofs.Common.{◌≡◌, ◌≤◌, ◌<◌, ◌+◌, ◌∙◌, ℕ, zero, suc, refl, sym, ap, ap₂, subst, arith, Bool, true, false, List, [], ◌∷◌, ◌++◌, map, length, get_or, take, drop, Option, Some, None, Result, Ok, Err}
use Rattle.std.proofs.lemmas.List.{map-append, take-append-drop, drop_more, take_more}
use Rattle.std.specs.Prelude.{option_map, IsErrAnd}
use Rattle.std.specs.List.{AllByRecursion}
use Rattle.lq_trees.specs.Tree.{Tree, Hypothesis as TreeHypothesis}
use Rattle.lq_terms.specs.declared.nodes.Hypothesis.{Hypothesis}
use Rattle.lq_terms.specs.declared.nodes.TermId.{TermId}
use Rattle.lq_terms.specs.Terms.{Terms, HasTerm, HasName, Grows, text_of, tree_of}
use Rattle.lq_terms.specs.Contexts.{HasBody, HasAllOf, HasContext, hypothesis_of, context_of}
use Rattle.lq_terms.proofs.Growth.{Grows-trans}
use Rattle.lq_solving.specs.Stores.{Store as TreeStore, StoreFault as TreeFault, read, read_hypothesis, read_context, size_fault}
use Rattle.lq_solving.specs.Kept.{IsStore}
use Rattle.lq_evars.specs.declared.store.StoreFault.{StoreFault}
use Rattle.lq_evars.specs.Places.{Places, store_of, HasStore}
use Rattle.lq_evars.proofs.Growing.{store_of-grown, HasStore-grown, context_grown}
use Rattle.lq_states.specs.Views.{context_terms, first_unfit}
use Rattle.lq_goals.specs.Seen.{IsReadable, IsReadableOr, CanRead, Tells, ReadsAs, IsTree, IsBody, IsHypothesis, AreHypotheses, body_terms, hypothesis_terms}
use Rattle.lq_goals.proofs.Seeing.{or_fault, unfit_one, unfit_none, told_first, told_behind, all_append, body_reads, kind_reads, name_reads, hypothesis_unfit, context_reads_more, context_unfit_more}

-- a fault that is handed on
pub err_reads : {A : Type 0} (Is : A → Type 0) (r : Result A StoreFault) (e : StoreFault) (f : Option TreeFault) → IsErrAnd r (λ y. y ≡ e) → Tells e f → ReadsAs Is r f
err_reads Is (Ok a) e f i t = absurd i
err_reads Is (Err y) e f i t = subst (λ z. Tells z f) (sym i) t

-- ---- a body

pub none_body : (s : TreeStore) (bank : Terms) (b : Option TermId) → ((x : TermId) → b ≡ Some x → ⊥) →
    (first_unfit (body_terms (option_map (read s) (option_map (tree_of bank) b))) ≡ None) × (Unit {0} × (None ≡ option_map (read s) (option_map (tree_of bank) b)))
none_body s bank None n = (unfit_none, (tt, refl))
none_body s bank (Some x) n = absurd (n x refl)

pub some_body_unfit : (s : TreeStore) (bank : Terms) (b : Option TermId) (t : TermId) → b ≡ Some t →
    first_unfit (body_terms (option_map (read s) (option_map (tree_of bank) b))) ≡ size_fault (read s (tree_of bank t))
some_body_unfit s bank b t e = ap (λ o. first_unfit (body_terms (option_map (read s) (option_map (tree_of bank) o)))) e ∙ unfit_one (read s (tree_of bank t))

pub some_body : (s : TreeStore) (bank now : Terms) (b : Option TermId) (t u : TermId) → b ≡ Some t → (size_fault (read s (tree_of bank t)) ≡ None) × IsTree now (read s (tree_of bank t)) u →
    (first_unfit (body_terms (option_map (read s) (option_map (tree_of bank) b))) ≡ None) × (HasTerm now u × (Some (tree_of now u) ≡ option_map (read s) (option_map (tree_of bank) b)))
some_body s bank now b t u e h =
    (some_body_unfit s bank b t e ∙ h.0, (h.1.0, ap Some h.1.1 ∙ sym (ap (λ o. option_map (read s) (option_map (tree_of bank) o)) e)))

-- ---- a hypothesis

module _ (old now : Terms) (g : Grows old now) (s : Places) (h : HasStore old s) where
  pub kept_grown : IsStore (store_of old s) → IsStore (store_of now s)
  kept_grown k = subst IsStore (sym (store_of-grown old now g s h)) k

  -- a term reads as before
  pub reads_grown : (t : TermId) → HasTerm old t → read (store_of now s) (tree_of now t) ≡ read (store_of old s) (tree_of old t)
  reads_grown t k = ap₂ read (store_of-grown old now g s h) (g.tree t k)

  body_same : (o : Option TermId) → HasBody old o → (option_map (tree_of now) o ≡ option_map (tree_of old) o) × HasBody now o
  body_same None k = (refl, tt)
  body_same (Some t) k = (ap Some (g.tree t k), omega (arith, k, g.nodes))

  pub hypothesis_same : (x : Hypothesis) → HasAllOf old x → hypothesis_of now x ≡ hypothesis_of old x
  hypothesis_same x k = rw (g.text x.name k.name, (body_same x.body k.body).0, g.tree x.kind k.kind) refl

  pub hypothesis_reads_grown : (x : Hypothesis) → HasAllOf old x → read_hypothesis (store_of now s) (hypothesis_of now x) ≡ read_hypothesis (store_of old s) (hypothesis_of old x)
  hypothesis_reads_grown x k = ap₂ read_hypothesis (store_of-grown old now g s h) (hypothesis_same x k)

same_hypothesis : (x y : TreeHypothesis) → x.name ≡ y.name → x.body ≡ y.body → x.kind ≡ y.kind → x ≡ y
same_hypothesis x y e f g =
    ap (λ z. record { name = z; body = x.body; kind = x.kind }) e ∙ ap₂ (λ b k. record { name = y.name; body = b; kind = k }) f g

readable_has : (bank : Terms) (s : Places) (o : Option TermId) → IsReadableOr bank s o → HasBody bank o
readable_has bank s None r = tt
readable_has bank s (Some t) r = r.has

pub can_has : (bank : Terms) (s : Places) (x : Hypothesis) → CanRead bank s x → HasAllOf bank x
can_has bank s x r = record { name = r.name; body = readable_has bank s x.body r.body; kind = r.kind.has }

module _ (b0 b1 b2 : Terms) (g1 : Grows b0 b1) (g2 : Grows b1 b2) (s : Places) (h : HasStore b0 s) (x : Hypothesis) (can : CanRead b0 s x) where
  abbrev body_tree : Option Tree
  body_tree = option_map (read (store_of b0 s)) (option_map (tree_of b0) x.body)

  abbrev kind_tree : Tree
  kind_tree = read (store_of b0 s) (tree_of b0 x.kind)

  pub hypothesis_told : (body : Option TermId) (kind : TermId) → (first_unfit (body_terms body_tree) ≡ None) × IsBody b1 body_tree body → (size_fault kind_tree ≡ None) × IsTree b2 kind_tree kind →
      (first_unfit (hypothesis_terms (read_hypothesis (store_of b0 s) (hypothesis_of b0 x))) ≡ None)
      × IsHypothesis b2 (read_hypothesis (store_of b0 s) (hypothesis_of b0 x)) (record { name = x.name; body = body; kind = kind })
  hypothesis_told body kind p q =
      let t = hypothesis_of b0 x in
      let more = body_same b1 b2 g2 s (HasStore-grown b0 b1 g1 s h) body p.1.0 in (
        hypothesis_unfit (store_of b0 s) t ∙ ap₂ or_fault p.0 q.0,
        (
          record { name = omega (arith, can.name, g1.names, g2.names); body = more.1; kind = q.1.0 },
          same_hypothesis (hypothesis_of b2 (record { name = x.name; body = body; kind = kind })) (read_hypothesis (store_of b0 s) t)
              (g2.text x.name (omega (arith, can.name, g1.names)) ∙ g1.text x.name can.name ∙ sym (name_reads (store_of b0 s) t))
              (more.0 ∙ p.1.1 ∙ sym (body_reads (store_of b0 s) t))
              (q.1.1 ∙ sym (kind_reads (store_of b0 s) t)),
        ),
      )

-- ---- hypotheses one after the other

pub context_none : (bank : Terms) (s : TreeStore) (rs : List Hypothesis) → rs ≡ [] → AreHypotheses bank (read_context s []) rs
unfolding read_context
context_none bank s rs e = subst (AreHypotheses bank []) (sym e) (tt, refl)

pub context_none_unfit : (s : TreeStore) → first_unfit (context_terms (read_context s [])) ≡ None
unfolding read_context context_terms first_unfit
context_none_unfit s = refl

-- the context about one of its hypotheses
module _ (bank : Terms) (hs : List Hypothesis) (i : ℕ) (d : Hypothesis) (l : i < length hs) where
  pub context_parts : context_of bank hs ≡ context_of bank (take i hs) ++ hypothesis_of bank (get_or hs i d) ∷ context_of bank (drop (i + 1) hs)
  context_parts =
      ap (context_of bank) (sym (take-append-drop i hs) ∙ ap (λ z. take i hs ++ z) (drop_more hs i d l))
      ∙ map-append (hypothesis_of bank) (take i hs) (get_or hs i d ∷ drop (i + 1) hs)

  pub context_taken : context_of bank (take (i + 1) hs) ≡ context_of bank (take i hs) ++ hypothesis_of bank (get_or hs i d) ∷ []
  context_taken = ap (context_of bank) (take_more hs i d l) ∙ map-append (hypothesis_of bank) (take i hs) (get_or hs i d ∷ [])

  -- the first limit that is passed is that of the hypothesis
  pub context_err : (s : TreeStore) (e : StoreFault) → first_unfit (context_terms (read_context s (context_of bank (take i hs)))) ≡ None →
      Tells e (first_unfit (hypothesis_terms (read_hypothesis s (hypothesis_of bank (get_or hs i d))))) → Tells e (first_unfit (context_terms (read_context s (context_of bank hs))))
  context_err s e fit t =
      subst (Tells e) (sym (ap (λ z. first_unfit (context_terms (read_context s z))) context_parts ∙ context_unfit_more s (context_of bank (take i hs)) (hypothesis_of bank (get_or hs i d)) (context_of bank (drop (i + 1) hs))))
      (told_behind e _ _ fit (told_first e _ _ t))

  pub context_fit : (s : TreeStore) → first_unfit (context_terms (read_context s (context_of bank (take i hs)))) ≡ None →
      first_unfit (hypothesis_terms (read_hypothesis s (hypothesis_of bank (get_or hs i d)))) ≡ None → first_unfit (context_terms (read_context s (context_of bank (take (i + 1) hs)))) ≡ None
  context_fit s fit f =
      ap (λ z. first_unfit (context_terms (read_context s z))) context_taken
      ∙ context_unfit_more s (context_of bank (take i hs)) (hypothesis_of bank (get_or hs i d)) []
      ∙ ap₂ or_fault fit (ap₂ or_fault f (context_none_unfit s))

  pub context_more_read : (now later : Terms) (g : Grows now later) (s : TreeStore) (rs new : List Hypothesis) (x : Hypothesis) → AreHypotheses now (read_context s (context_of bank (take i hs))) rs →
      IsHypothesis later (read_hypothesis s (hypothesis_of bank (get_or hs i d))) x → new ≡ rs ++ x ∷ [] → AreHypotheses later (read_context s (context_of bank (take (i + 1) hs))) new
  context_more_read now later g s rs new x a k e =
      let more = context_grown now later g rs a.0 in
      subst (AreHypotheses later (read_context s (context_of bank (take (i + 1) hs)))) (sym e) (
        all_append (HasAllOf later) rs (x ∷ []) more.1 (k.0, tt),
        (map-append (hypothesis_of later) rs (x ∷ []) ∙ ap₂ (λ y z. y ++ z ∷ []) (more.0 ∙ a.1) k.1
            ∙ sym (ap (read_context s) context_taken ∙ context_reads_more s (context_of bank (take i hs)) (hypothesis_of bank (get_or hs i d)))),
      )
