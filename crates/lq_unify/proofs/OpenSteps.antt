-- No variable was solved: all is as before, in a bank that has grown.
use Rattle.std.proofs.Common.{◌≡◌, ◌∙◌, ℕ, refl, sym, ap, ap₂, arith, Bool, true, false, List, [], ◌++◌, append-nil, append_assoc, Some, None}
use Rattle.std.proofs.Common.{subst as along}
use Rattle.lq_trees.specs.Rules.{Rules}
use Rattle.lq_terms.specs.declared.nodes.Hypothesis.{Hypothesis}
use Rattle.lq_terms.specs.Terms.{Terms, Grows, tree_of}
use Rattle.lq_terms.specs.Contexts.{context_of}
use Rattle.lq_terms.proofs.Tellings.{context_of-grown}
use Rattle.lq_solving.specs.Stores.{read}
use Rattle.lq_solving.specs.Unification.{Unify, Answer, one_variable, by_solving}
use Rattle.lq_evars.specs.Places.{Places, store_of, GivesMore}
use Rattle.lq_evars.proofs.Growing.{store_of-grown}
use Rattle.lq_unify.specs.declared.pairs.Pair.{Pair}
use Rattle.lq_unify.specs.declared.frames.Frame.{Frame}
use Rattle.lq_unify.specs.Heads.{HasOpenHead}
use Rattle.lq_unify.specs.Working.{IsRowed}
use Rattle.lq_unify.specs.Frames.{sides_in, waits, IsWork, IsSince}
use Rattle.lq_unify.specs.Turns.{PairStands}
use Rattle.lq_unify.proofs.FrameLaws.{work_grown}
use Rattle.lq_unify.proofs.RowSteps.{pair_grown, rowed_grown}

module _ (old new : Terms) (g : Grows old new) (s t : Places) (e : t ≡ s) (hs : List Hypothesis) (fs : List Frame) (w : IsWork old s hs fs) (p : Pair) (k : PairStands old s hs p) where
  same : store_of new t ≡ store_of old s
  same = ap (store_of new) e ∙ store_of-grown old new g s w.store

  pub still_work : IsWork new t hs fs
  still_work = along (λ z. IsWork new z hs fs) (sym e) (work_grown old new g s hs fs w)

  pub still_pair : PairStands new t hs p
  still_pair = along (λ z. PairStands new z hs p) (sym e) (pair_grown old new g s hs w.store w.context p k)

  pub still_left : HasOpenHead (store_of old s).values (tree_of old p.left) → HasOpenHead (store_of new t).values (tree_of new p.left)
  still_left h = along (λ z. HasOpenHead z.values (tree_of new p.left)) (sym same) (along (HasOpenHead (store_of old s).values) (sym (g.tree p.left k.has.0)) h)

  pub still_right : HasOpenHead (store_of old s).values (tree_of old p.right) → HasOpenHead (store_of new t).values (tree_of new p.right)
  still_right h = along (λ z. HasOpenHead z.values (tree_of new p.right)) (sym same) (along (HasOpenHead (store_of old s).values) (sym (g.tree p.right k.has.1)) h)

  pub still_rowed : (first : Bool) (r : Rules) (f : ℕ → Unify Answer) (b l : ℕ) → IsRowed first r f b l (store_of old s) (waits old s hs fs) (sides_in old hs p) → IsRowed first r f b l (store_of new t) (waits new t hs fs) (sides_in new hs p)
  still_rowed first r f b l h = along (λ z. IsRowed first r f b l (store_of new z) (waits new z hs fs) (sides_in new hs p)) (sym e) (rowed_grown old new g s hs w.store w.context first r f b l fs p w.frames k.has h)

  pub still_one : one_variable (context_of old hs) (tree_of old p.left) (tree_of old p.right) ≡ None → one_variable (context_of new hs) (tree_of new p.left) (tree_of new p.right) ≡ None
  still_one h = ap₂ (λ a b. one_variable a b (tree_of new p.right)) (context_of-grown old new g hs w.context) (g.tree p.left k.has.0) ∙ ap (one_variable (context_of old hs) (tree_of old p.left)) (g.tree p.right k.has.1) ∙ h

  pub still_unsolved : by_solving (store_of old s) (read (store_of old s) (tree_of old p.left)) (read (store_of old s) (tree_of old p.right)) ≡ None → by_solving (store_of new t) (read (store_of new t) (tree_of new p.left)) (read (store_of new t) (tree_of new p.right)) ≡ None
  still_unsolved h =
      ap (λ z. by_solving z (read z (tree_of new p.left)) (read z (tree_of new p.right))) same
      ∙ ap₂ (λ a b. by_solving (store_of old s) (read (store_of old s) a) (read (store_of old s) b)) (g.tree p.left k.has.0) (g.tree p.right k.has.1) ∙ h

-- ---- older stores

pub same_more : (s t : Places) → t ≡ s → GivesMore s t
same_more s t e = along (GivesMore s) (sym e) (record { variables = refl; more = []; values = sym (append-nil s.values) })

-- where nothing waits
pub since_itself : (s : Places) (fs : List Frame) → fs ≡ [] → IsSince s s fs
since_itself s fs e = along (IsSince s s) (sym e) (record { more = same_more s s refl; keep = tt })

pub more_since : (before s t : Places) (fs : List Frame) → GivesMore s t → IsSince before s fs → IsSince before t fs
more_since before s t fs m h = record {
  more = record {
    variables = m.variables ∙ h.more.variables;
    more = h.more.more ++ m.more;
    values = m.values ∙ ap (λ z. z ++ m.more) h.more.values ∙ append_assoc before.values h.more.more m.more;
  };
  keep = h.keep;
}

pub still_since : (before s t : Places) (fs : List Frame) → t ≡ s → IsSince before s fs → IsSince before t fs
still_since before s t fs e h = along (λ z. IsSince before z fs) (sym e) h

-- a No is no Yes
pub not_yes : (b : Bool) → b ≡ false → Some b ≡ Some true → ⊥
not_yes true e d = absurd (grind (arith, e))
not_yes false e d = absurd (grind (arith, d))
