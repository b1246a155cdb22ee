-- There is no body for a variable, however large the term is as it reads; and entries whose heads are read.
use Rattle.std.proofs.Common.{◌≡◌, ◌<◌, ◌+◌, ◌∙◌, ℕ, zero, suc, Bool, refl, sym, ap, ap₂, arith, List, [], ◌∷◌, ◌++◌, length, take, slice_index_or, Result, Ok, Err, Option, Some}
use Rattle.std.proofs.Common.{subst as along}
use Rattle.std.proofs.Math.Path.{fun_ext}
use Rattle.std.proofs.lemmas.List.{take_more}
use Rattle.std.specs.Prelude.{IfOk}
use Rattle.std.specs.List.{AllByRecursion}
use Rattle.lq_trees.specs.Tree.{Name, Tree, more, value_of}
use Rattle.lq_trees.specs.Index.{Within}
use Rattle.lq_terms.specs.declared.nodes.NameId.{NameId}
use Rattle.lq_terms.specs.declared.nodes.NoMemory.{NoMemory}
use Rattle.lq_terms.specs.declared.nodes.TermId.{TermId}
use Rattle.lq_terms.specs.Terms.{Terms, HasTerm, Grows, tree_of, trees_by}
use Rattle.lq_solving.specs.Stores.{Store, read}
use Rattle.lq_solving.specs.Kept.{IsOver, IsStore}
use Rattle.lq_solving.specs.Unification.{place_of}
use Rattle.lq_solving.proofs.ReadLaws.{filled_each}
use Rattle.lq_solving.proofs.UnifyRows.{each_filled}
use Rattle.lq_evars.specs.Places.{Places, store_of, HasStore}
use Rattle.lq_evars.specs.Reading.{as_read}
use Rattle.lq_evars.proofs.Growing.{store_of-grown, HasStore-grown}
use Rattle.lq_unify.specs.Heads.{HasOpenHead}
use Rattle.lq_unify.specs.Exposing.{IsOfStore}
use Rattle.lq_unify.specs.Solutions.{solution, places_of}
use Rattle.lq_unify.specs.Solving.{AreExposed}
use Rattle.lq_unify.specs.Held.{holds_any, is_absent}
use Rattle.lq_unify.specs.Holding.{has_no_place}
use Rattle.lq_unify.proofs.HeldLaws.{solution_none}
use Rattle.lq_unify.proofs.SolveUnread.{EachOpen, place_reads}

module _ (old new : Terms) (g : Grows old new) (s : Places) (h : HasStore old s) where
  pub store_has : HasStore new s
  store_has = HasStore-grown old new g s h

  pub store_kept : IsStore (store_of old s) → IsStore (store_of new s)
  store_kept i = along IsStore (sym (store_of-grown old new g s h)) i

  module _ (t : TermId) (has : HasTerm old t) where
    pub term_has : HasTerm new t
    term_has = omega (arith, has, g.nodes)

    pub term_over : IsOver (store_of old s).variables (tree_of old t) → IsOver (store_of new s).variables (tree_of new t)
    term_over o = along (λ z. IsOver z.variables (tree_of new t)) (sym (store_of-grown old new g s h)) (along (IsOver (store_of old s).variables) (sym (g.tree t has)) o)

    pub unsolvable : (es : List (NameId × TermId)) (place : Name → Option Tree) → ((x : Name) → value_of (places_of new es) x ≡ place x) → (k : ℕ) →
        holds_any k (has_no_place (places_of new es)) (as_read (store_of new s) (tree_of new t)) ≡ is_absent (solution (Some k) place (as_read (store_of old s) (tree_of old t)))
    unsolvable es place are k =
        ap₂ (λ f T. holds_any k f T) (fun_ext (λ x. ap is_absent (are x))) (ap₂ as_read (store_of-grown old new g s h) (g.tree t has))
        ∙ sym (solution_none k place (as_read (store_of old s) (tree_of old t)))

    pub unsolvable_if : (es : List (NameId × TermId)) (place : Name → Option Tree) → ((x : Name) → value_of (places_of new es) x ≡ place x) → (k : ℕ) (o : Result Bool NoMemory) →
        IfOk o (λ b. b ≡ holds_any k (has_no_place (places_of new es)) (as_read (store_of new s) (tree_of new t))) → IfOk o (λ b. b ≡ is_absent (solution (Some k) place (as_read (store_of old s) (tree_of old t))))
    unsolvable_if es place are k (Ok b) e = e ∙ unsolvable es place are k
    unsolvable_if es place are k (Err x) e = tt

-- ---- entries whose heads are read

module _ (s : Store) (old : Terms) where
  pub exposed-grown : (mid new : Terms) → Grows mid new → (ts us : List TermId) → AreExposed s old mid ts us → AreExposed s old new ts us
  exposed-grown mid new g [] [] e = tt
  exposed-grown mid new g (t ∷ ts) (u ∷ us) e =
      ((omega (arith, e.0.0, g.nodes), along (HasOpenHead s.values) (sym (g.tree u e.0.0)) e.0.1, ap (read s) (g.tree u e.0.0) ∙ e.0.2), exposed-grown mid new g ts us e.1)
  exposed-grown mid new g [] (u ∷ us) e = absurd e
  exposed-grown mid new g (t ∷ ts) [] e = absurd e

  pub exposed-push : (new : Terms) (ts us : List TermId) (t u : TermId) → AreExposed s old new ts us → HasTerm new u → HasOpenHead s.values (tree_of new u) → read s (tree_of new u) ≡ read s (tree_of old t) → AreExposed s old new (ts ++ t ∷ []) (us ++ u ∷ [])
  exposed-push new [] [] t u e h o r = ((h, o, r), tt)
  exposed-push new (x ∷ xs) (y ∷ ys) t u e h o r = (e.0, exposed-push new xs ys t u e.1 h o r)
  exposed-push new [] (y ∷ ys) t u e h o r = absurd e
  exposed-push new (x ∷ xs) [] t u e h o r = absurd e

  pub exposed_more : (mid new : Terms) → Grows mid new → (ts us vs : List TermId) (i : ℕ) (d : TermId) (u : TermId) → i < length ts → AreExposed s old mid (take i ts) us → HasTerm new u → HasOpenHead s.values (tree_of new u) →
      read s (tree_of new u) ≡ read s (tree_of old (slice_index_or ts i d)) → vs ≡ us ++ u ∷ [] → AreExposed s old new (take (i + 1) ts) vs
  exposed_more mid new g ts us vs i d u l e h o r f =
      along (λ z. AreExposed s old new z vs) (sym (take_more ts i d l))
      (along (AreExposed s old new (take i ts ++ slice_index_or ts i d ∷ [])) (sym f) (exposed-push new (take i ts) us (slice_index_or ts i d) u (exposed-grown mid new g (take i ts) us e) h o r))

  module _ (new : Terms) where
    pub exposed_has : (ts us : List TermId) → AreExposed s old new ts us → AllByRecursion (HasTerm new) us
    exposed_has [] [] e = tt
    exposed_has (t ∷ ts) (u ∷ us) e = (e.0.0, exposed_has ts us e.1)
    exposed_has [] (u ∷ us) e = absurd e
    exposed_has (t ∷ ts) [] e = absurd e

    pub exposed_many : (ts us : List TermId) → AreExposed s old new ts us → length us ≡ length ts
    exposed_many [] [] e = refl
    exposed_many (t ∷ ts) (u ∷ us) e = ap suc (exposed_many ts us e.1)
    exposed_many [] (u ∷ us) e = absurd e
    exposed_many (t ∷ ts) [] e = absurd e

    exposed_open : (ts us : List TermId) → AreExposed s old new ts us → EachOpen s.values (trees_by (tree_of new) us)
    exposed_open [] [] e = tt
    exposed_open (t ∷ ts) (u ∷ us) e = (e.0.1, exposed_open ts us e.1)
    exposed_open [] (u ∷ us) e = absurd e
    exposed_open (t ∷ ts) [] e = absurd e

    exposed_reads : (ts us : List TermId) → AreExposed s old new ts us → filled_each s.variables s.values (trees_by (tree_of new) us) ≡ filled_each s.variables s.values (trees_by (tree_of old) ts)
    unfolding read
    exposed_reads [] [] e = refl
    exposed_reads (t ∷ ts) (u ∷ us) e =
        each_filled s.variables s.values (tree_of new u) (trees_by (tree_of new) us) ∙ ap₂ more e.0.2 (exposed_reads ts us e.1)
        ∙ sym (each_filled s.variables s.values (tree_of old t) (trees_by (tree_of old) ts))
    exposed_reads [] (u ∷ us) e = absurd e
    exposed_reads (t ∷ ts) [] e = absurd e

    -- each hypothesis has the place that it has among the entries as they read
    pub exposed_place : (ys : List Name) (ts us : List TermId) (x : Name) → AreExposed s old new ts us → place_of ys (trees_by (tree_of new) us) x ≡ place_of ys (filled_each s.variables s.values (trees_by (tree_of old) ts)) x
    exposed_place ys ts us x e =
        place_reads s.variables s.values ys (trees_by (tree_of new) us) x (exposed_open ts us e) ∙ ap (λ z. place_of ys z x) (exposed_reads ts us e)

-- an entry in a bank that has grown
module _ (old new : Terms) (g : Grows old new) (s : Places) (h : HasStore old s) where
  entry_at : (ts : List TermId) (i : ℕ) (d : TermId) → AllByRecursion (IsOfStore old (store_of old s)) ts → i < length ts → IsOfStore old (store_of old s) (slice_index_or ts i d)
  entry_at [] i d a l = absurd (omega (arith, l))
  entry_at (t ∷ ts) zero d a l = a.0
  entry_at (t ∷ ts) (suc i) d a l = entry_at ts i d a.1 (omega (arith, l))

  pub of_store_grown : (t : TermId) → IsOfStore old (store_of old s) t → IsOfStore new (store_of new s) t
  of_store_grown t o = record {
    has = omega (arith, o.has, g.nodes);
    over = term_over old new g s h t o.has o.over;
    within = along (Within 0) (sym (g.tree t o.has)) o.within;
  }

  pub entry_of : (ts : List TermId) (i : ℕ) (d : TermId) → AllByRecursion (IsOfStore old (store_of old s)) ts → i < length ts → IsOfStore new (store_of new s) (slice_index_or ts i d)
  entry_of ts i d a l = of_store_grown (slice_index_or ts i d) (entry_at ts i d a l)

  pub entry_open : (T : Tree) → HasOpenHead (store_of new s).values T → HasOpenHead (store_of old s).values T
  entry_open T o = along (λ z. HasOpenHead z.values T) (store_of-grown old new g s h) o

  pub entry_reads : (ts : List TermId) (i : ℕ) (d : TermId) → AllByRecursion (IsOfStore old (store_of old s)) ts → i < length ts → (T : Tree) → read (store_of new s) T ≡ read (store_of new s) (tree_of new (slice_index_or ts i d)) →
      read (store_of old s) T ≡ read (store_of old s) (tree_of old (slice_index_or ts i d))
  entry_reads ts i d a l T e =
      ap (λ z. read z T) (sym (store_of-grown old new g s h)) ∙ e
      ∙ ap₂ read (store_of-grown old new g s h) (g.tree (slice_index_or ts i d) (entry_at ts i d a l).has)
