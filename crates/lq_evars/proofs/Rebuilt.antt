-- What stands for the parts of a term, put together, stands for the term.
use Rattle.std.proofs.Common.{◌≡◌, ◌∙◌, ℕ, suc, false, refl, sym, ap, arith, List, [], ◌∷◌, map, length, Result, Ok, Err, Option, Some, None}
use Rattle.std.proofs.Common.{subst as along}
use Rattle.std.specs.Prelude.{IfOk}
use Rattle.std.specs.List.{AllByRecursion}
use Rattle.lq_trees.specs.Tree.{Name, Tree, none}
use Rattle.lq_trees.specs.Tree.Tree.{Prod, Lam, Let, App, Evar}
use Rattle.lq_trees.specs.Marks.{holds_unknown}
use Rattle.lq_trees.specs.Reading.{entries}
use Rattle.lq_terms.specs.declared.nodes.NoMemory.{NoMemory}
use Rattle.lq_terms.specs.declared.nodes.TermId.{TermId}
use Rattle.lq_terms.specs.Terms.{Terms, HasTerm, IsTerm, IsPart, tree_of, trees_by}
use Rattle.lq_solving.specs.Stores.{find_value}
use Rattle.lq_solving.proofs.Later.{reads_prod, reads_lam, reads_let, reads_app}
use Rattle.lq_solving.proofs.ReadLaws.{filled_each, open_stays}
use Rattle.lq_solving.proofs.UnifyRows.{each_filled, none_filled}
use Rattle.lq_evars.specs.Places.{Places, store_of}
use Rattle.lq_evars.specs.Near.{IsNear}
use Rattle.lq_evars.specs.Turns.{parts_of, with_value}
use Rattle.lq_evars.specs.Reading.{as_read, AllIn, trees_known, Finds, Reads, EachReads, IsLow}
use Rattle.lq_evars.proofs.Given.{plain_read}
use Rattle.lq_evars.proofs.NearLaws.{AreNear, near_equal, near_same, near_to, near_prod, near_lam, near_let, near_app, near_evar, near_trees}

-- a term that was made for a tree that is near
pub made_near : (new : Terms) (r : Result TermId NoMemory) (T V : Tree) → IfOk r (λ u. IsTerm new u T) → IsNear 0 T V → IfOk r (λ u. IsNear 0 (tree_of new u) V)
made_near new (Ok u) T V m n = near_equal 0 (tree_of new u) T V m.is n
made_near new (Err f) T V m n = tt

pub made_has : (new : Terms) (r : Result TermId NoMemory) (T : Tree) → IfOk r (λ u. IsTerm new u T) → IfOk r (HasTerm new)
made_has new (Ok u) T m = m.has
made_has new (Err f) T m = tt

module _ (bank : Terms) (s : Places) (known : List (TermId × TermId)) (t : TermId) (f : Finds bank s known t) where
  pub parts_at : (T : Tree) → T ≡ tree_of bank t → AllIn (parts_of (store_of bank s).values T) (trees_known bank known)
  parts_at T e = along (λ z. AllIn (parts_of (store_of bank s).values z) (trees_known bank known)) (sym e) f.parts

-- the nodes
module _ (bank : Terms) (s : Places) (T : Tree) where
  pub prod_near : (x : Name) (a b c d : TermId) → Prod x (tree_of bank a) (tree_of bank b) ≡ T → Reads bank s a c → Reads bank s b d → IsNear 0 (Prod x (tree_of bank c) (tree_of bank d)) (as_read (store_of bank s) T)
  prod_near x a b c d e p q =
      near_to 0 (Prod x (tree_of bank c) (tree_of bank d)) _ _ (near_prod 0 0 x (omega arith) p.near q.near)
      (sym (reads_prod (store_of bank s).variables (store_of bank s).values x (tree_of bank a) (tree_of bank b)) ∙ ap (as_read (store_of bank s)) e)

  pub lam_near : (x : Name) (a b c d : TermId) → Lam x (tree_of bank a) (tree_of bank b) ≡ T → Reads bank s a c → Reads bank s b d → IsNear 0 (Lam x (tree_of bank c) (tree_of bank d)) (as_read (store_of bank s) T)
  lam_near x a b c d e p q =
      near_to 0 (Lam x (tree_of bank c) (tree_of bank d)) _ _ (near_lam 0 0 x (omega arith) p.near q.near)
      (sym (reads_lam (store_of bank s).variables (store_of bank s).values x (tree_of bank a) (tree_of bank b)) ∙ ap (as_read (store_of bank s)) e)

  pub let_near : (x : Name) (v a b w c d : TermId) → Let x (tree_of bank v) (tree_of bank a) (tree_of bank b) ≡ T → Reads bank s v w → Reads bank s a c → Reads bank s b d →
      IsNear 0 (Let x (tree_of bank w) (tree_of bank c) (tree_of bank d)) (as_read (store_of bank s) T)
  let_near x v a b w c d e o p q =
      near_to 0 (Let x (tree_of bank w) (tree_of bank c) (tree_of bank d)) _ _ (near_let 0 0 x (omega arith) o.near p.near q.near)
      (sym (reads_let (store_of bank s).variables (store_of bank s).values x (tree_of bank v) (tree_of bank a) (tree_of bank b)) ∙ ap (as_read (store_of bank s)) e)

  pub app_near : (a b c d : TermId) → App (tree_of bank a) (tree_of bank b) ≡ T → Reads bank s a c → Reads bank s b d → IsNear 0 (App (tree_of bank c) (tree_of bank d)) (as_read (store_of bank s) T)
  app_near a b c d e p q =
      near_to 0 (App (tree_of bank c) (tree_of bank d)) _ _ (near_app 0 p.near q.near)
      (sym (reads_app (store_of bank s).variables (store_of bank s).values (tree_of bank a) (tree_of bank b)) ∙ ap (as_read (store_of bank s)) e)

-- the entries of an instance
module _ (bank : Terms) (s : Places) where
  pub each_near : (ts us : List TermId) → EachReads bank s ts us → AreNear (trees_by (tree_of bank) us) (filled_each (store_of bank s).variables (store_of bank s).values (trees_by (tree_of bank) ts))
  each_near [] [] h = along (λ z. AreNear none z) (sym (none_filled (store_of bank s).variables (store_of bank s).values)) tt
  each_near (t ∷ ts) (u ∷ us) h =
      along (λ z. AreNear (trees_by (tree_of bank) (u ∷ us)) z) (sym (each_filled (store_of bank s).variables (store_of bank s).values (tree_of bank t) (trees_by (tree_of bank) ts)))
      (h.0.near, each_near ts us h.1)
  each_near [] (u ∷ us) h = absurd h
  each_near (t ∷ ts) [] h = absurd h

  pub each_has : (ts us : List TermId) → EachReads bank s ts us → AllByRecursion (HasTerm bank) us
  each_has [] [] h = tt
  each_has (t ∷ ts) (u ∷ us) h = (h.0.has, each_has ts us h.1)
  each_has [] (u ∷ us) h = absurd h
  each_has (t ∷ ts) [] h = absurd h

  pub each_low : (ts us : List TermId) → EachReads bank s ts us → AllByRecursion (IsLow bank) us
  each_low [] [] h = tt
  each_low (t ∷ ts) (u ∷ us) h = (h.0.low, each_low ts us h.1)
  each_low [] (u ∷ us) h = absurd h
  each_low (t ∷ ts) [] h = absurd h

  pub each_many : (ts us : List TermId) → EachReads bank s ts us → length us ≡ length ts
  each_many [] [] h = refl
  each_many (t ∷ ts) (u ∷ us) h = ap suc (each_many ts us h.1)
  each_many [] (u ∷ us) h = absurd h
  each_many (t ∷ ts) [] h = absurd h

  -- a variable without a value
  pub open_near : (T : Tree) (n : ℕ) (ts us : List TermId) → Evar n (trees_by (tree_of bank) ts) ≡ T → find_value (store_of bank s).values n ≡ None → EachReads bank s ts us →
      IsNear 0 (Evar n (trees_by (tree_of bank) us)) (as_read (store_of bank s) T)
  open_near T n ts us e o h =
      near_to 0 (Evar n (trees_by (tree_of bank) us)) _ _ (near_evar 0 n (near_trees _ _ (each_near ts us h)))
      (sym (open_stays (store_of bank s).variables (store_of bank s).values n (trees_by (tree_of bank) ts) o) ∙ ap (as_read (store_of bank s)) e)

pub entries_map : (bank : Terms) (ts : List TermId) → entries (trees_by (tree_of bank) ts) ≡ map (tree_of bank) ts
unfolding entries
entries_map bank [] = refl
entries_map bank (t ∷ ts) = ap (λ us. tree_of bank t ∷ us) (entries_map bank ts)

pub behind_value : (o : Option Tree) (ts us : List Tree) → AllIn (with_value o ts) us → AllIn ts us
behind_value None ts us h = h
behind_value (Some b) ts us h = h.1

pub are_terms : (bank : Terms) (whole : TermId) (ts : List TermId) → AllByRecursion (IsPart bank whole) ts → AllByRecursion (HasTerm bank) ts
are_terms bank whole [] h = tt
are_terms bank whole (t ∷ ts) h = (h.0.has, are_terms bank whole ts h.1)

-- the entries of a variable are known
pub entries_known : (bank : Terms) (s : Places) (known : List (TermId × TermId)) (t : TermId) → Finds bank s known t → (n : ℕ) (ts : List TermId) → Evar n (trees_by (tree_of bank) ts) ≡ tree_of bank t →
    AllIn (map (tree_of bank) ts) (trees_known bank known)
entries_known bank s known t f n ts e =
    along (λ us. AllIn us (trees_known bank known)) (entries_map bank ts)
    (behind_value (find_value (store_of bank s).values n) (entries (trees_by (tree_of bank) ts)) (trees_known bank known) (parts_at bank s known t f (Evar n (trees_by (tree_of bank) ts)) e))

-- a leaf reads as itself
pub leaf_near : (bank : Terms) (s : Places) (t : TermId) (T : Tree) → T ≡ tree_of bank t → holds_unknown T ≡ false → IsNear 0 (tree_of bank t) (as_read (store_of bank s) (tree_of bank t))
leaf_near bank s t T e h =
    near_to 0 (tree_of bank t) _ _ (near_same 0 (tree_of bank t)) (sym (plain_read (store_of bank s).variables (store_of bank s).values (tree_of bank t) (ap holds_unknown (sym e) ∙ h)))
