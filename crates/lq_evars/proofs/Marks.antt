-- What is noted of pairs: marks hold while pairs are compared, and what is noted is found.
use Rattle.std.proofs.Common.{◌≡◌, ◌≤◌, ◌<◌, ◌∙◌, inl, inr, ℕ, zero, suc, Bool, true, false, ◌&&◌, eqb-true, refl, sym, ap, ap₂, arith, List, [], ◌∷◌, ◌++◌, drop, length, length-append, Some, None}
use Rattle.std.proofs.Common.{subst as along}
use Rattle.std.specs.Prelude.{◌==◌, cond, if◌then◌else◌}
use Rattle.std.specs.Map.{lookup}
use Rattle.std.specs.List.{AllByRecursion}
use Rattle.std.proofs.lemmas.Bool.{cases_lt}
use Rattle.indexmap.specs.IndexMap.{insert_entry}
use Rattle.lq_terms.specs.declared.nodes.TermId.{TermId}
use Rattle.lq_terms.specs.Terms.{Terms, tree_of}
use Rattle.lq_terms.proofs.Builds.{all_front, all_back, all_both}
use Rattle.lq_solving.specs.Alike.{same_tree}
use Rattle.lq_solving.specs.Stores.{Store as TreeStore}
use Rattle.lq_evars.specs.declared.scopes.Around.{Around}
use Rattle.lq_evars.specs.declared.scopes.Link.{Link}
use Rattle.lq_evars.specs.declared.scopes.Closure.{Closure}
use Rattle.lq_evars.specs.declared.comparing.Pair.{Pair}
use Rattle.lq_evars.specs.declared.noting.Mark.{Mark}
use Rattle.lq_evars.specs.Reading.{as_read}
use Rattle.lq_evars.specs.Scopes.{placed}
use Rattle.lq_evars.specs.Closures.{scope_of, closure_tree, HasPair, same_pair, same_pairs, StandFor, Comparing}
use Rattle.lq_evars.specs.Noting.{IsSame, AreSame, MarkHolds, AreMarks}
use Rattle.lq_evars.proofs.Comparings.{same_append}
use Rattle.lq_evars.proofs.Links.{pairs_kept}
use Rattle.lq_evars.proofs.ScopeLaws.{alone}
use Rattle.lq_evars.proofs.Walks.{drop_past}

-- a term with nothing around it stands for what it reads as
pub alone_tree : (bank : Terms) (s : TreeStore) (ls : List Link) (c : Closure) → c.around ≡ Around.Nothing → c.base ≡ 0 → closure_tree bank s ls c ≡ as_read s (tree_of bank c.term)
alone_tree bank s ls c a d =
    ap₂ (λ z i. placed s (scope_of bank ls z) i c.under (as_read s (tree_of bank c.term))) a d ∙ alone s c.under (as_read s (tree_of bank c.term))

pub alone_pair : (bank : Terms) (s : TreeStore) (ls : List Link) (p : Pair) → p.left.around ≡ Around.Nothing → p.left.base ≡ 0 → p.right.around ≡ Around.Nothing → p.right.base ≡ 0
    → same_pair bank s ls p ≡ same_tree (as_read s (tree_of bank p.left.term)) (as_read s (tree_of bank p.right.term))
alone_pair bank s ls p a b c d = ap₂ same_tree (alone_tree bank s ls p.left a b) (alone_tree bank s ls p.right c d)

-- what is noted
place_is : (t u : TermId) → (t.place == u.place) ≡ true → t ≡ u
place_is t u e = ap (λ n. record { place = n }) (eqb-true t.place u.place e)

pub found_same : (t : TermId) (test : TermId → Bool) → ((u : TermId) → test u ≡ (t.place == u.place)) → (bank : Terms) (s : TreeStore) (es : List (TermId × TermId)) (u : TermId) → AreSame bank s es → lookup test es ≡ Some u → IsSame bank s t u
found_same t test is_place bank s [] u r e = absurd (grind arith)
found_same t test is_place bank s (d ∷ es) u r e = by (test d.0) (is_place d.0) e (λ f. found_same t test is_place bank s es u r.1 f)
  where
    by : (b : Bool) → b ≡ (t.place == d.0.place) → cond b (Some d.1) (lookup test es) ≡ Some u → (lookup test es ≡ Some u → IsSame bank s t u) → IsSame bank s t u
    by true p f ih =
        along (λ z. IsSame bank s t z) (ap (λ o. elim o [ Some x ↦ x | None ↦ u ]) f)
        (along (λ z. IsSame bank s z d.1) (sym (place_is t d.0 (sym p))) r.0)
    by false p f ih = ih f

pub noted_same : (eq : TermId → TermId → Bool) → ((x y : TermId) → eq x y ≡ (x.place == y.place)) → (bank : Terms) (s : TreeStore) (es : List (TermId × TermId)) (t u : TermId) → AreSame bank s es → IsSame bank s t u → AreSame bank s (insert_entry eq es t u)
noted_same eq is_place bank s [] t u r n = (n, tt)
noted_same eq is_place bank s (d ∷ es) t u r n = by (eq t d.0) (is_place t d.0) (noted_same eq is_place bank s es t u r.1 n)
  where
    by : (b : Bool) → b ≡ (t.place == d.0.place) → AreSame bank s (insert_entry eq es t u) → AreSame bank s (if b then (d.0, u) ∷ es else d ∷ insert_entry eq es t u)
    by true p ih = (along (λ z. IsSame bank s z u) (place_is t d.0 (sym p)) n, r.1)
    by false p ih = (r.0, ih)

pub noted_pair : (bank : Terms) (s : TreeStore) (ls : List Link) (p : Pair) → p.left.around ≡ Around.Nothing → p.left.base ≡ 0 → p.right.around ≡ Around.Nothing → p.right.base ≡ 0
    → (u : TermId) → IsSame bank s p.left.term u → u ≡ p.right.term → same_pair bank s ls p ≡ true
noted_pair bank s ls p a b c d u h e = alone_pair bank s ls p a b c d ∙ along (IsSame bank s p.left.term) e h

-- a mark whose pairs were all compared
pub mark_done : (bank : Terms) (s : TreeStore) (ls : List Link) (rest : List Pair) (p : Pair) (m : Mark) → MarkHolds bank s ls (rest ++ p ∷ []) m → length rest < m.height → IsSame bank s m.left m.right
mark_done bank s ls rest p m h l = h (ap (same_pairs bank s ls) (drop_past m.height (rest ++ p ∷ []) (omega (arith, length-append rest (p ∷ [])))))

-- a mark for the pair that was taken
pub mark_new : (bank : Terms) (s : TreeStore) (ls : List Link) (rest : List Pair) (p : Pair) (n : ℕ) → n ≡ length rest → p.left.around ≡ Around.Nothing → p.left.base ≡ 0 → p.right.around ≡ Around.Nothing → p.right.base ≡ 0
    → MarkHolds bank s ls (rest ++ p ∷ []) (record { height = n; left = p.left.term; right = p.right.term })
mark_new bank s ls rest p n e a b c d h =
    sym (alone_pair bank s ls p a b c d) ∙ first (same_pair bank s ls p) (sym (ap (same_pairs bank s ls) (ap (λ i. drop i (rest ++ p ∷ [])) e ∙ dropped rest)) ∙ h)
  where
    first : (x : Bool) → (x && true) ≡ true → x ≡ true
    first true q = refl
    first false q = absurd (grind arith)

    dropped : (ps : List Pair) → drop (length ps) (ps ++ p ∷ []) ≡ p ∷ []
    dropped [] = refl
    dropped (q ∷ ps) = dropped ps

-- pairs from a height on
drop_both : (n : ℕ) (ps qs : List Pair) → n ≤ length ps → drop n (ps ++ qs) ≡ drop n ps ++ qs
drop_both zero [] qs h = refl
drop_both zero (p ∷ ps) qs h = refl
drop_both (suc n) [] qs h = absurd (omega arith)
drop_both (suc n) (p ∷ ps) qs h = drop_both n ps qs (omega arith)

drop_all : (P : Pair → Type 0) (n : ℕ) (ps : List Pair) → AllByRecursion P ps → AllByRecursion P (drop n ps)
drop_all P zero [] h = h
drop_all P zero (p ∷ ps) h = h
drop_all P (suc n) [] h = tt
drop_all P (suc n) (p ∷ ps) h = drop_all P n ps h.1

-- marks hold when other pairs stand for the one that was taken
module _ (bank : Terms) (s : TreeStore) (old new : List Link) (rest left : List Pair) (p : Pair) (c : Comparing bank s old (rest ++ p ∷ [])) (st : StandFor bank s old new p rest left) where
  rest_same : (n : ℕ) → same_pairs bank s new (drop n rest) ≡ same_pairs bank s old (drop n rest)
  rest_same n =
      ap (λ ls. same_pairs bank s ls (drop n rest)) st.longer
      ∙ pairs_kept bank s old st.more (drop n rest) (drop_all (HasPair bank s.variables (length old)) n rest (all_front (HasPair bank s.variables (length old)) rest (p ∷ []) c.has))

  alone_and : (x : Bool) → x ≡ (x && true)
  alone_and true = refl
  alone_and false = refl

  from_height : (n : ℕ) → n ≤ length rest → same_pairs bank s new (drop n left) ≡ same_pairs bank s old (drop n (rest ++ p ∷ []))
  from_height n h =
      ap (λ z. same_pairs bank s new (drop n z)) st.behind ∙ ap (same_pairs bank s new) (drop_both n rest st.added h) ∙ same_append bank s new (drop n rest) st.added
      ∙ ap₂ (λ a b. a && b) (rest_same n) (st.same ∙ alone_and (same_pair bank s old p))
      ∙ sym (ap (same_pairs bank s old) (drop_both n rest (p ∷ []) h) ∙ same_append bank s old (drop n rest) (p ∷ []))

  mark_stays : (m : Mark) → MarkHolds bank s old (rest ++ p ∷ []) m → MarkHolds bank s new left m
  mark_stays m h e = elim (cases_lt (length rest) m.height) [
    | inl l ↦ mark_done bank s old rest p m h l
    | inr l ↦ h (sym (from_height m.height l) ∙ e)
  ]

  pub marks_stay : (ms : List Mark) → AreMarks bank s old (rest ++ p ∷ []) ms → AreMarks bank s new left ms
  marks_stay [] h = tt
  marks_stay (m ∷ ms) h = (mark_stays m h.0, marks_stay ms h.1)

-- the last mark is taken, and others stay
pub last_mark : (bank : Terms) (s : TreeStore) (ls : List Link) (work : List Pair) (all rest : List Mark) (m : Mark) → all ≡ rest ++ m ∷ [] → AreMarks bank s ls work all → AreMarks bank s ls work rest × MarkHolds bank s ls work m
last_mark bank s ls work all rest m e h =
    let is : AreMarks bank s ls work (rest ++ m ∷ []) = along (AreMarks bank s ls work) e h in
    let last : AreMarks bank s ls work (m ∷ []) = all_back (MarkHolds bank s ls work) rest (m ∷ []) is in
    (all_front (MarkHolds bank s ls work) rest (m ∷ []) is, last.0)

pub more_marks : (bank : Terms) (s : TreeStore) (ls : List Link) (work : List Pair) (all rest : List Mark) (m : Mark) → all ≡ rest ++ m ∷ [] → AreMarks bank s ls work rest → MarkHolds bank s ls work m → AreMarks bank s ls work all
more_marks bank s ls work all rest m e h k = along (AreMarks bank s ls work) (sym e) (all_both (MarkHolds bank s ls work) rest (m ∷ []) h (k, tt))
