-- What an item of work finds, and what it leaves.
use Rattle.std.proofs.Common.{◌≡◌, ◌<◌, ◌∙◌, inl, inr, Bool, false, sym, arith, List, [], ◌∷◌, ◌++◌, Result, Ok, Err}
use Rattle.std.proofs.Common.{subst as along}
use Rattle.std.specs.Prelude.{OnOk}
use Rattle.std.specs.List.{AllByRecursion}
use Rattle.lq_trees.specs.Tree.{Tree}
use Rattle.lq_trees.specs.Marks.{holds_unknown}
use Rattle.lq_terms.specs.declared.nodes.NoMemory.{NoMemory}
use Rattle.lq_terms.specs.declared.nodes.TermId.{TermId}
use Rattle.lq_terms.specs.Terms.{Terms, Grows, tree_of}
use Rattle.lq_terms.proofs.Builds.{all_back}
use Rattle.lq_terms.proofs.Growth.{Grows-refl}
use Rattle.lq_solving.specs.Kept.{IsStore}
use Rattle.lq_evars.specs.declared.work.Work.{Work}
use Rattle.lq_evars.specs.Near.{IsNear}
use Rattle.lq_evars.specs.Places.{Places, store_of, HasStore}
use Rattle.lq_evars.specs.Reading.{as_read, builds, item_of, items_of, term_in, IsIn, AreReady, weight, weights, trees_known, finish, IsOfStore, HasWork, AreRead, Reading, Covers, Finds, Stepped, Asks}
use Rattle.lq_evars.proofs.Given.{plain_read}
use Rattle.lq_evars.proofs.Growing.{store_of-grown}
use Rattle.lq_evars.proofs.NearLaws.{near_same, near_to}
use Rattle.lq_evars.proofs.Steps.{items-append, ready-back, step_done, step_open}
use Rattle.lq_evars.proofs.TurnLaws.{parts_fewer}

pub item_has : (bank : Terms) (s : Places) (ws : List Work) (w : Work) (known : List (TermId × TermId)) → Reading bank s (ws ++ w ∷ []) known → IsOfStore bank (store_of bank s).variables (term_in w)
item_has bank s ws w known r = let last : AllByRecursion (HasWork bank (store_of bank s).variables) (w ∷ []) = all_back (HasWork bank (store_of bank s).variables) ws (w ∷ []) r.placed in last.0

-- a term that holds no variable reads as itself
pub plain_near : (bank : Terms) (s : Places) (t : TermId) (b : Bool) → b ≡ holds_unknown (tree_of bank t) → b ≡ false → IsNear 0 (tree_of bank t) (as_read (store_of bank s) (tree_of bank t))
plain_near bank s t b e f =
    near_to 0 (tree_of bank t) _ _ (near_same 0 (tree_of bank t)) (sym (plain_read (store_of bank s).variables (store_of bank s).values (tree_of bank t) (sym e ∙ f)))

positive : (bank : Terms) (s : Places) → IsStore (store_of bank s) → (w : Work) → 0 < weight (store_of bank s).values (item_of bank w)
positive bank s i (Work.Visit t) = omega (arith, parts_fewer (store_of bank s).variables (store_of bank s).values i.values (tree_of bank t))
positive bank s i (Work.Build t) = omega arith

-- an item was done, by what is known then
pub item_done :
    (old new : Terms) (s : Places) (ws : List Work) (w : Work) (known later : List (TermId × TermId)) → Reading old s (ws ++ w ∷ []) known → Grows old new
    → AreRead new s later → Covers (tree_of old (term_in w) ∷ trees_known old known) (trees_known new later) → Stepped old new s (ws ++ w ∷ []) ws known later
item_done old new s ws w known later r g are c = step_done old new s ws w known later r g (positive old s r.kept w) are c

-- a term that is known already
pub known_done : (bank : Terms) (s : Places) (ws : List Work) (t : TermId) (known : List (TermId × TermId)) → Reading bank s (ws ++ Work.Visit t ∷ []) known → IsIn (tree_of bank t) (trees_known bank known)
    → Stepped bank bank s (ws ++ Work.Visit t ∷ []) ws known known
known_done bank s ws t known r i = item_done bank bank s ws (Work.Visit t) known known r (Grows-refl bank) r.read (λ u h. by u h)
  where
    by : (u : Tree) → IsIn u (tree_of bank t ∷ trees_known bank known) → IsIn u (trees_known bank known)
    by u (inl e) = along (λ z. IsIn z (trees_known bank known)) (sym e) i
    by u (inr h) = h

-- the same, as the answer of a call
pub done_if :
    (old new : Terms) (s : Places) (ws : List Work) (w : Work) (known later : List (TermId × TermId)) (o : Result (Unit {0}) NoMemory) → Reading old s (ws ++ w ∷ []) known → Grows old new
    → OnOk o (AreRead new s later) → OnOk o (Covers (tree_of old (term_in w) ∷ trees_known old known) (trees_known new later)) → OnOk o (Stepped old new s (ws ++ w ∷ []) ws known later)
done_if old new s ws w known later (Ok v) r g are c = item_done old new s ws w known later r g are c
done_if old new s ws w known later (Err e) r g are c = tt

pub open_if :
    (bank : Terms) (s : Places) (ws left : List Work) (t : TermId) (known : List (TermId × TermId)) (o : Result (Unit {0}) NoMemory) → Reading bank s (ws ++ Work.Visit t ∷ []) known
    → OnOk o (Asks bank (store_of bank s).values (ws ++ Work.Build t ∷ []) left (tree_of bank t)) → OnOk o (Stepped bank bank s (ws ++ Work.Visit t ∷ []) left known known)
open_if bank s ws left t known (Ok v) r a = step_open bank s ws left t known r a
open_if bank s ws left t known (Err e) r a = tt

-- a term whose parts were read finds them
pub build_finds : (bank : Terms) (s : Places) (ws : List Work) (w : Work) (t : TermId) (known : List (TermId × TermId)) → w ≡ Work.Build t → Reading bank s (ws ++ w ∷ []) known → Finds bank s known t
build_finds bank s ws w t known e r = by (along (λ z. Reading bank s (ws ++ z ∷ []) known) e r)
  where
    by : Reading bank s (ws ++ Work.Build t ∷ []) known → Finds bank s known t
    by q =
        let split : items_of bank (ws ++ Work.Build t ∷ []) ≡ items_of bank ws ++ builds (tree_of bank t) ∷ [] = items-append bank ws (Work.Build t ∷ []) in
        let last : AreReady (store_of bank s).values (builds (tree_of bank t) ∷ []) (trees_known bank known) =
        ready-back (store_of bank s).values (items_of bank ws) (builds (tree_of bank t) ∷ []) (trees_known bank known) (along (λ z. AreReady (store_of bank s).values z (trees_known bank known)) split q.ready) in
        record { store = q.store; kept = q.kept; part = item_has bank s ws (Work.Build t) known q; read = q.read; parts = last.1 }

pub built_if :
    (old new : Terms) (s : Places) (ws : List Work) (w : Work) (t : TermId) (known later : List (TermId × TermId)) (o : Result (Unit {0}) NoMemory) → w ≡ Work.Build t → Reading old s (ws ++ w ∷ []) known → Grows old new
    → OnOk o (AreRead new s later) → OnOk o (Covers (tree_of old t ∷ trees_known old known) (trees_known new later)) → OnOk o (Stepped old new s (ws ++ w ∷ []) ws known later)
built_if old new s ws w t known later o e r g are c =
    along (λ z. OnOk o (Stepped old new s (ws ++ z ∷ []) ws known later)) (sym e)
    (done_if old new s ws (Work.Build t) known later o (along (λ z. Reading old s (ws ++ z ∷ []) known) e r) g are c)

-- a turn of the loop: the items that are left weigh less, and what was asked stays asked
module _ (first old new : Terms) (s : Places) (ws rest left : List Work) (w : Work) (known more : List (TermId × TermId)) (g : Grows first old) (h : HasStore first s) (e : ws ≡ rest ++ w ∷ [])
    (st : Stepped old new s (rest ++ w ∷ []) left known more) where
  pub turn_lighter : weights (store_of first s).values (items_of new left) < weights (store_of first s).values (items_of old ws)
  turn_lighter =
      along (λ z. weights z.values (items_of new left) < weights z.values (items_of old ws)) (store_of-grown first old g s h)
      (along (λ z. weights (store_of old s).values (items_of new left) < weights (store_of old s).values (items_of old z)) (sym e) st.falls)

  pub turn_covers : (t : Tree) → IsIn t (finish (items_of old ws) (trees_known old known)) → IsIn t (finish (items_of new left) (trees_known new more))
  turn_covers t i = st.covers t (along (λ z. IsIn t (finish (items_of old z) (trees_known old known))) e i)
