-- The laws of a draft of a premise.
use Rattle.std.proofs.Common.{◌≡◌, ◌≤◌, ◌<◌, ◌+◌, ◌∙◌, ℕ, sym, ap, ap₂, arith, min, List, [], ◌∷◌, ◌++◌, length, append_assoc, Result, Ok, Err}
use Rattle.std.specs.Prelude.{OnOk, IfErr}
use Rattle.std.proofs.Common.{subst as along}
use Rattle.std.specs.List.{AllByRecursion}
use Rattle.std.proofs.lemmas.List.{length-append, length-map, map-append}
use Rattle.lq_trees.specs.Tree.{Name, Tree}
use Rattle.lq_trees.specs.Change.{fill}
use Rattle.lq_trees.specs.Size.{size, counted}
use Rattle.lq_terms.specs.declared.nodes.TermId.{TermId}
use Rattle.lq_terms.specs.declared.nodes.NameId.{NameId}
use Rattle.lq_terms.specs.Terms.{Terms, HasName, HasTerm, Grows, text_of, tree_of}
use Rattle.lq_env.specs.declared.telescopes.Binder.{Binder}
use Rattle.lq_env.specs.declared.premises.Draft.{Draft}
use Rattle.lq_env.specs.Telescopes.{Binders, span}
use Rattle.lq_env.specs.Building.{HasBinder, binders_of}
use Rattle.lq_env.specs.Premises.{AreBelow, IsDraft, hypothesis_at, with_recursive}
use Rattle.lq_terms.specs.Changes.{variables_at}
use Rattle.lq_env.proofs.Weights.{span-append}
use Rattle.lq_env.proofs.Loops.{all_push, HasBinders-grown, binders_of-grown}
use Rattle.lq_env.proofs.PremiseLaws.{below_more, size-spread}

pub length-span : (bs : Binders) → length bs ≤ span bs
length-span [] = omega arith
length-span (b ∷ bs) = omega (arith, length-span bs)

pub length-binders : (bank : Terms) (bs : List Binder) → length (binders_of bank bs) ≡ length bs
length-binders bank bs = length-map bs (λ b. (text_of bank b.name, tree_of bank b.kind))

pub few_binders : (bank : Terms) (d : Draft) → IsDraft bank d → length d.binders.items ≤ 1000000
few_binders bank d h = omega (arith, h.nodes, h.few, length-span (binders_of bank d.binders.items), length-binders bank d.binders.items)

pub draft-grown : (old new : Terms) (d : Draft) → Grows old new → IsDraft old d → IsDraft new d
draft-grown old new d g h = record {
  binders = HasBinders-grown old new g d.binders.items h.binders;
  places = h.places;
  nodes = h.nodes ∙ ap span (sym (binders_of-grown old new g d.binders.items h.binders));
  few = h.few;
}

pub binders_push : (bank : Terms) (bs cs : List Binder) (b : Binder) → cs ≡ bs ++ b ∷ [] → binders_of bank cs ≡ binders_of bank bs ++ (text_of bank b.name, tree_of bank b.kind) ∷ []
binders_push bank bs cs b e = ap (binders_of bank) e ∙ map-append (λ b. (text_of bank b.name, tree_of bank b.kind)) bs (b ∷ [])

pub draft_push :
    (bank : Terms) (d e : Draft) (b : Binder) (n : ℕ) → IsDraft bank d → HasBinder bank b → e.binders.items ≡ d.binders.items ++ b ∷ [] → e.places.items ≡ d.places.items → e.nodes ≡ d.nodes + 1 + n
    → n ≡ min (size (tree_of bank b.kind)) counted → d.nodes + 1 + n ≤ 1000000 → IsDraft bank e
draft_push bank d e b n h has p q r m l = record {
  binders = along (λ z. AllByRecursion (HasBinder bank) z) (sym p) (all_push (HasBinder bank) d.binders.items b h.binders has);
  places = along (λ z. AreBelow (length e.binders.items) z) (sym q) (below_more (length d.binders.items) (length e.binders.items) d.places.items (omega (arith, ap length p, length-append d.binders.items (b ∷ []))) h.places);
  nodes = omega (arith, r, h.nodes, m, l, ap span (binders_push bank d.binders.items e.binders.items b p), span-append (binders_of bank d.binders.items) ((text_of bank b.name, tree_of bank b.kind) ∷ []));
  few = omega (arith, r, l);
}

pub draft_place : (bank : Terms) (d e : Draft) (n : ℕ) → IsDraft bank d → e.binders ≡ d.binders → e.nodes ≡ d.nodes → e.places.items ≡ d.places.items ++ n ∷ [] → n < length d.binders.items → IsDraft bank e
draft_place bank d e n h p q r l = record {
  binders = along (λ z. AllByRecursion (HasBinder bank) z.items) (sym p) h.binders;
  places = along (λ z. AreBelow (length e.binders.items) z) (sym r) (along (λ z. AreBelow (length z.items) (d.places.items ++ n ∷ [])) (sym p) (all_push (λ k. k < length d.binders.items) d.places.items n h.places l));
  nodes = q ∙ h.nodes ∙ ap (λ z. span (binders_of bank z.items)) (sym p);
  few = omega (arith, q, h.few);
}

-- what is true where a call succeeds, and of its fault
pub ok_map : {A E : Type 0} (r : Result A E) (P Q : Type 0) → OnOk r P → (P → Q) → OnOk r Q
ok_map (Ok x) P Q h f = f h
ok_map (Err e) P Q h f = h

pub err_map : {A E : Type 0} (r : Result A E) (P Q : E → Type 0) → IfErr r P → ((e : E) → P e → Q e) → IfErr r Q
err_map (Ok x) P Q h f = h
err_map (Err e) P Q h f = f e h

-- a recursive argument and its hypothesis
module _
    (old mid new : Terms) (g : Grows old mid) (d0 d1 : Draft) (ds : IsDraft old d0) (k inside : ℕ) (name : NameId) (kind : TermId) (has_name : HasName old name) (has_kind : HasTerm old kind)
    (unnamed : NameId) (hyp : TermId) (ps : List ℕ) (us : List Tree) (places : ps ≡ d0.places.items) (count : inside ≡ length d0.binders.items + 1)
    (e1 : binders_of new d1.binders.items ≡ binders_of mid d0.binders.items ++ (text_of mid name, fill (variables_at (length d0.binders.items) d0.places.items) 0 (tree_of mid kind)) ∷ [])
    (eh : tree_of new hyp ≡ hypothesis_at k inside ps us) (eu : text_of new unnamed ≡ []) where
  first : binders_of new d1.binders.items ≡ binders_of old d0.binders.items ++ (text_of old name, fill (variables_at (length (binders_of old d0.binders.items)) d0.places.items) 0 (tree_of old kind)) ∷ []
  first =
      e1 ∙ ap₂ (λ bs b. bs ++ b ∷ []) (binders_of-grown old mid g d0.binders.items ds.binders)
      (ap₂ (λ x t. (x, t)) (g.text name has_name)
      (ap₂ (λ n t. fill (variables_at n d0.places.items) 0 t) (sym (length-binders old d0.binders.items)) (g.tree kind has_kind)))

  second : ◌≡◌ {A = Name × Tree} (text_of new unnamed, tree_of new hyp) ([], hypothesis_at k (length (binders_of old d0.binders.items) + 1) d0.places.items us)
  second = ap₂ (λ x t. (x, t)) eu (eh ∙ ap₂ (λ n qs. hypothesis_at k n qs us) (count ∙ ap (λ n. n + 1) (sym (length-binders old d0.binders.items))) places)

  both : binders_of new d1.binders.items ++ (text_of new unnamed, tree_of new hyp) ∷ [] ≡ with_recursive k (binders_of old d0.binders.items) d0.places.items (text_of old name) (tree_of old kind) us
  both =
      ap₂ (λ bs b. bs ++ b ∷ []) first second
      ∙ append_assoc (binders_of old d0.binders.items) ((text_of old name, fill (variables_at (length (binders_of old d0.binders.items)) d0.places.items) 0 (tree_of old kind)) ∷ [])
      (([], hypothesis_at k (length (binders_of old d0.binders.items) + 1) d0.places.items us) ∷ [])

  pub recursive_binders : (cs : List Binder) → cs ≡ d1.binders.items ++ record { name = unnamed; kind = hyp } ∷ []
      → binders_of new cs ≡ with_recursive k (binders_of old d0.binders.items) d0.places.items (text_of old name) (tree_of old kind) us
  recursive_binders cs e = binders_push new d1.binders.items cs (record { name = unnamed; kind = hyp }) e ∙ both

  pub recursive_span : span (binders_of new d1.binders.items) + 1 + size (tree_of new hyp) ≡ span (with_recursive k (binders_of old d0.binders.items) d0.places.items (text_of old name) (tree_of old kind) us)
  recursive_span = omega (arith, span-append (binders_of new d1.binders.items) ((text_of new unnamed, tree_of new hyp) ∷ []), ap span both)

-- the argument alone is no larger
pub argument_span : (k n : ℕ) (bs : Binders) (ps : List ℕ) (x : Name) (A : Tree) (us : List Tree) → n ≡ span bs + 1 + size A → n ≤ span (with_recursive k bs ps x A us)
argument_span k n bs ps x A us e =
    omega (arith, e, span-append bs ((x, fill (variables_at (length bs) ps) 0 A) ∷ ([], hypothesis_at k (length bs + 1) ps us) ∷ []), size-spread (length bs) ps 0 A)

pub ok_both : {A E : Type 0} (r : Result A E) (P Q R : Type 0) → OnOk r P → OnOk r Q → (P → Q → R) → OnOk r R
ok_both (Ok x) P Q R h k f = f h k
ok_both (Err e) P Q R h k f = h

pub below_binders : (bank : Terms) (d : Draft) → IsDraft bank d → AreBelow (length (binders_of bank d.binders.items)) d.places.items
below_binders bank d h = along (λ n. AreBelow n d.places.items) (sym (length-binders bank d.binders.items)) h.places

pub draft_new : (bank : Terms) (d : Draft) → d.binders.items ≡ [] → d.places.items ≡ [] → d.nodes ≡ 0 → IsDraft bank d
draft_new bank d p q r = record {
  binders = along (λ z. AllByRecursion (HasBinder bank) z) (sym p) tt;
  places = along (λ z. AreBelow (length d.binders.items) z) (sym q) tt;
  nodes = r ∙ ap (λ z. span (binders_of bank z)) (sym p);
  few = omega (arith, r);
}
