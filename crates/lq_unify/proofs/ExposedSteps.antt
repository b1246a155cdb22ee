-- Two terms whose heads are read: they stand, and lead on, as the terms that they come from.
use Rattle.std.proofs.Common.{◌≡◌, ◌∙◌, ℕ, sym, ap, arith, Bool, List}
use Rattle.std.proofs.Common.{subst as along}
use Rattle.lq_trees.specs.Tree.{Tree}
use Rattle.lq_trees.specs.Index.{Within}
use Rattle.lq_trees.specs.Rules.{Rules}
use Rattle.lq_terms.specs.declared.nodes.Hypothesis.{Hypothesis}
use Rattle.lq_terms.specs.declared.nodes.TermId.{TermId}
use Rattle.lq_terms.specs.Terms.{Terms, HasTerm, Grows, tree_of}
use Rattle.lq_terms.specs.Contexts.{context_of}
use Rattle.lq_terms.proofs.Tellings.{context_of-grown}
use Rattle.lq_solving.specs.Stores.{Store, names_in, read}
use Rattle.lq_solving.specs.Kept.{IsOver, IsStore}
use Rattle.lq_solving.specs.Unification.{Unify, Answer, sides}
use Rattle.lq_evars.specs.Places.{Places, store_of, HasStore}
use Rattle.lq_evars.proofs.Growing.{store_of-grown}
use Rattle.lq_unify.specs.declared.pairs.Pair.{Pair}
use Rattle.lq_unify.specs.declared.frames.Frame.{Frame}
use Rattle.lq_unify.specs.Heads.{HasOpenHead}
use Rattle.lq_unify.specs.Exposing.{IsOfStore}
use Rattle.lq_unify.specs.Standing.{SidesStand}
use Rattle.lq_unify.specs.Working.{IsRowed}
use Rattle.lq_unify.specs.Frames.{sides_in, waits, IsWork}
use Rattle.lq_unify.specs.Turns.{PairStands}
use Rattle.lq_unify.proofs.FrameLaws.{waits_grown}
use Rattle.lq_unify.proofs.RowSteps.{stands_as, rowed_as}

-- the head of a term is read, and it reads as the tree
pub record Exposed (s : Store) (bank : Terms) (t : Tree) (i : TermId) : Type 0 where
  pub term : IsOfStore bank s i
  pub reads : read s (tree_of bank i) ≡ read s t
  pub open_head : HasOpenHead s.values (tree_of bank i)

pub exposed_grown : (s : Store) (old new : Terms) → Grows old new → (t : Tree) (i : TermId) → Exposed s old t i → Exposed s new t i
exposed_grown s old new g t i e = let q = g.tree i e.term.has in record {
  term = record { has = omega (arith, e.term.has, g.nodes); over = along (IsOver s.variables) (sym q) e.term.over; within = along (Within 0) (sym q) e.term.within };
  reads = ap (read s) q ∙ e.reads;
  open_head = along (HasOpenHead s.values) (sym q) e.open_head;
}

pub exposed_same : (s s1 : Store) (bank : Terms) (t t1 : Tree) (i : TermId) → s1 ≡ s → t1 ≡ t → Exposed s1 bank t1 i → Exposed s bank t i
exposed_same s s1 bank t t1 i e d h = along (λ z. Exposed z bank t i) e (along (λ z. Exposed s1 bank z i) d h)

-- a side that stands is a term of the store
pub left_of_store : (bank : Terms) (s : Places) (hs : List Hypothesis) (p : Pair) → PairStands bank s hs p → IsOfStore bank (store_of bank s) p.left
left_of_store bank s hs p k = record { has = k.has.0; over = k.stands.left.over; within = k.stands.left.within }

pub right_of_store : (bank : Terms) (s : Places) (hs : List Hypothesis) (p : Pair) → PairStands bank s hs p → IsOfStore bank (store_of bank s) p.right
right_of_store bank s hs p k = record { has = k.has.1; over = k.stands.right.over; within = k.stands.right.within }

-- a store, and a term of it, in a bank that has grown
module _ (old new : Terms) (g : Grows old new) (s : Places) (h : HasStore old s) where
  pub kept_grown : IsStore (store_of old s) → IsStore (store_of new s)
  kept_grown k = along IsStore (sym (store_of-grown old new g s h)) k

  pub of_store_grown : (i : TermId) → IsOfStore old (store_of old s) i → IsOfStore new (store_of new s) i
  of_store_grown i k = let q = g.tree i k.has in record {
    has = omega (arith, k.has, g.nodes);
    over = along (λ z. IsOver z.variables (tree_of new i)) (sym (store_of-grown old new g s h)) (along (IsOver (store_of old s).variables) (sym q) k.over);
    within = along (Within 0) (sym q) k.within;
  }

module _ (old new : Terms) (g : Grows old new) (s : Places) (hs : List Hypothesis) (fs : List Frame) (w : IsWork old s hs fs) (p : Pair) (k : PairStands old s hs p) (i j : TermId)
    (a : Exposed (store_of old s) new (tree_of old p.left) i) (c : Exposed (store_of old s) new (tree_of old p.right) j) where
  -- both terms
  abbrev both : Pair
  both = record { left = i; right = j }

  store_same : store_of new s ≡ store_of old s
  store_same = store_of-grown old new g s w.store

  context_same : context_of new hs ≡ context_of old hs
  context_same = context_of-grown old new g hs w.context

  pub exposed_stands : PairStands new s hs both
  exposed_stands = record {
    has = (a.term.has, c.term.has);
    stands = along (λ z. SidesStand z (sides_in new hs both)) (sym store_same)
        (along (λ z. SidesStand (store_of old s) (sides z (tree_of new i) (tree_of new j))) (sym context_same) (record {
          context = k.stands.context;
          left = stands_as (store_of old s) (names_in (context_of old hs)) (tree_of old p.left) (tree_of new i) a.term.over a.term.within a.reads k.stands.left;
          right = stands_as (store_of old s) (names_in (context_of old hs)) (tree_of old p.right) (tree_of new j) c.term.over c.term.within c.reads k.stands.right;
        }));
  }

  pub exposed_left : HasOpenHead (store_of new s).values (tree_of new i)
  exposed_left = along (λ z. HasOpenHead z.values (tree_of new i)) (sym store_same) a.open_head

  pub exposed_right : HasOpenHead (store_of new s).values (tree_of new j)
  exposed_right = along (λ z. HasOpenHead z.values (tree_of new j)) (sym store_same) c.open_head

  pub exposed_rowed : (first : Bool) (r : Rules) (f : ℕ → Unify Answer) (b l : ℕ) → IsRowed first r f b l (store_of old s) (waits old s hs fs) (sides_in old hs p) → IsRowed first r f b l (store_of new s) (waits new s hs fs) (sides_in new hs both)
  exposed_rowed first r f b l h =
      along (λ z. IsRowed first r f b l z (waits new s hs fs) (sides_in new hs both)) (sym store_same)
      (along (λ z. IsRowed first r f b l (store_of old s) z (sides_in new hs both)) (sym (waits_grown old new g s hs fs w.store w.context w.frames))
      (along (λ z. IsRowed first r f b l (store_of old s) (waits old s hs fs) (sides z (tree_of new i) (tree_of new j))) (sym context_same)
      (rowed_as first r f b l (store_of old s) (waits old s hs fs) (context_of old hs) (tree_of old p.left) (tree_of old p.right) (tree_of new i) (tree_of new j) a.reads c.reads h)))

-- both heads were read, one after the other
pub exposed_two : (b0 b1 b2 : Terms) → Grows b0 b1 → Grows b1 b2 → (s : Places) → HasStore b0 s → (p : Pair) → HasTerm b0 p.right → (i j : TermId) →
    IsOfStore b1 (store_of b0 s) i → read (store_of b0 s) (tree_of b1 i) ≡ read (store_of b0 s) (tree_of b0 p.left) → HasOpenHead (store_of b0 s).values (tree_of b1 i) →
    IsOfStore b2 (store_of b1 s) j → read (store_of b1 s) (tree_of b2 j) ≡ read (store_of b1 s) (tree_of b1 p.right) → HasOpenHead (store_of b1 s).values (tree_of b2 j) →
    Exposed (store_of b0 s) b2 (tree_of b0 p.left) i × Exposed (store_of b0 s) b2 (tree_of b0 p.right) j
exposed_two b0 b1 b2 g h s k p m i j t r o t1 r1 o1 = (
  exposed_grown (store_of b0 s) b1 b2 h (tree_of b0 p.left) i (record { term = t; reads = r; open_head = o }),
  exposed_same (store_of b0 s) (store_of b1 s) b2 (tree_of b0 p.right) (tree_of b1 p.right) j (store_of-grown b0 b1 g s k) (g.tree p.right m) (record { term = t1; reads = r1; open_head = o1 }),
)
