-- What links stand for: a link by those before it, and it stays as more are made.
use Rattle.std.proofs.Common.{◌≡◌, ◌≤◌, ◌<◌, ◌+◌, ℕ, zero, suc, refl, sym, ◌∙◌, ap, arith, List, [], ◌∷◌, ◌++◌, length, length-append, get_or, Some, inl, inr}
use Rattle.std.proofs.Common.{subst as along}
use Rattle.std.specs.Prelude.{slice_get}
use Rattle.std.specs.List.{AllByRecursion}
use Rattle.std.proofs.lemmas.List.{get_or_append_left, get_or_push}
use Rattle.std.proofs.lemmas.Option.{slice_get-get_or}
use Rattle.lq_terms.specs.Terms.{Terms, tree_of}
use Rattle.lq_terms.proofs.Trees.{slice_get-push}
use Rattle.lq_solving.specs.Stores.{Variable as TreeVariable, Store as TreeStore}
use Rattle.lq_evars.specs.declared.scopes.Around.{Around}
use Rattle.lq_evars.specs.declared.scopes.Link.{Link}
use Rattle.lq_evars.specs.declared.scopes.Closure.{Closure}
use Rattle.lq_evars.specs.declared.comparing.Pair.{Pair}
use Rattle.lq_evars.specs.Reading.{as_read}
use Rattle.lq_evars.specs.Scopes.{Scope, top, below, placed}
use Rattle.lq_evars.specs.Costs.{term_steps}
use Rattle.lq_evars.specs.Closures.{scope_in, inside_of, link_in, scopes_from, scopes, scope_of, closure_tree, closure_steps, AroundIn, HasLink, AreLinks, HasClosure, HasPair, same_pairs, pairs_steps}

module _ (bank : Terms) where
  scopes_append : (os : List Scope) (ls ms : List Link) → scopes_from bank os (ls ++ ms) ≡ scopes_from bank (scopes_from bank os ls) ms
  scopes_append os [] ms = refl
  scopes_append os (l ∷ ls) ms = scopes_append (os ++ link_in bank os l ∷ []) ls ms

  length_scopes : (os : List Scope) (ls : List Link) → length (scopes_from bank os ls) ≡ length os + length ls
  length_scopes os [] = omega arith
  length_scopes os (l ∷ ls) = omega (arith, length_scopes (os ++ link_in bank os l ∷ []) ls, length-append os (link_in bank os l ∷ []))

  scopes_stay : (os : List Scope) (ls : List Link) (i : ℕ) → i < length os → get_or (scopes_from bank os ls) i top ≡ get_or os i top
  scopes_stay os [] i h = refl
  scopes_stay os (l ∷ ls) i h =
      let longer : i < length (os ++ link_in bank os l ∷ []) = omega (arith, length-append os (link_in bank os l ∷ [])) in
      scopes_stay (os ++ link_in bank os l ∷ []) ls i longer ∙ get_or_append_left os (link_in bank os l ∷ []) top i h

  scopes_longer : (ls ms : List Link) (i : ℕ) → i < length ls → get_or (scopes_from bank [] (ls ++ ms)) i top ≡ get_or (scopes_from bank [] ls) i top
  scopes_longer ls ms i h =
      ap (λ z. get_or z i top) (scopes_append [] ls ms) ∙ scopes_stay (scopes_from bank [] ls) ms i (omega (arith, h, length_scopes [] ls))

  -- the last link
  scopes_last : (ls : List Link) (l : Link) → get_or (scopes_from bank [] (ls ++ l ∷ [])) (length ls) top ≡ link_in bank (scopes_from bank [] ls) l
  scopes_last ls l =
      let at_end : length (scopes_from bank [] ls) ≡ length ls = omega (arith, length_scopes [] ls) in
      ap (λ z. get_or z (length ls) top) (scopes_append [] ls (l ∷ [])) ∙ get_or_push (scopes_from bank [] ls) (link_in bank (scopes_from bank [] ls) l) top (length ls) at_end

  scope_same : (n : ℕ) (a : Around) (os ps : List Scope) → AroundIn n a → ((i : ℕ) → i < n → get_or os i top ≡ get_or ps i top) → scope_in os a ≡ scope_in ps a
  scope_same n Around.Nothing os ps h same = refl
  scope_same n (Around.At p) os ps h same = same p h

  link_same : (vs : List TreeVariable) (n : ℕ) (l : Link) (os ps : List Scope) → HasLink bank vs n l → ((i : ℕ) → i < n → get_or os i top ≡ get_or ps i top) → link_in bank os l ≡ link_in bank ps l
  link_same vs n (Link.Binders c e a) os ps h same = ap (below c e) (scope_same n a os ps h same)
  link_same vs n (Link.Inside t a) os ps h same = ap (inside_of (tree_of bank t)) (scope_same n a os ps h.0 same)

  -- each link, by the scopes of all
  scopes_behind : (vs : List TreeVariable) (os : List Scope) (ls : List Link) (k p : ℕ) (l : Link) → p ≡ length os + k → slice_get ls k ≡ Some l → HasLink bank vs p l
      → get_or (scopes_from bank os ls) p top ≡ link_in bank (scopes_from bank os ls) l
  scopes_behind vs os [] k p l e s h = cc
  scopes_behind vs os (m ∷ ls) zero p l e s h =
      let is : m ≡ l = cc in
      let at_end : length os ≡ p = omega arith in
      let shorter : p < length (os ++ link_in bank os m ∷ []) = omega (arith, length-append os (link_in bank os m ∷ [])) in
      scopes_stay (os ++ link_in bank os m ∷ []) ls p shorter ∙ get_or_push os (link_in bank os m) top p at_end ∙ ap (link_in bank os) is
      ∙ link_same vs p l os (scopes_from bank os (m ∷ ls)) h (λ i b. sym (scopes_stay os (m ∷ ls) i (omega arith)))
  scopes_behind vs os (m ∷ ls) (suc k) p l e s h = scopes_behind vs (os ++ link_in bank os m ∷ []) ls k p l (omega (arith, length-append os (link_in bank os m ∷ []))) s h

  pub scope_is : (vs : List TreeVariable) (ls : List Link) (p : ℕ) (l : Link) → AreLinks bank vs ls → slice_get ls p ≡ Some l → scope_of bank ls (Around.At p) ≡ link_in bank (scopes bank ls) l
  unfolding scopes
  scope_is vs ls p l made s = scopes_behind vs [] ls p p l (omega arith) s (made.at p l s)

  pub scope_new : (ls : List Link) (l : Link) → scope_of bank (ls ++ l ∷ []) (Around.At (length ls)) ≡ link_in bank (scopes bank ls) l
  unfolding scopes
  scope_new ls l = scopes_last ls l

  pub scope_kept : (ls more : List Link) (a : Around) → AroundIn (length ls) a → scope_of bank (ls ++ more) a ≡ scope_of bank ls a
  unfolding scopes
  scope_kept ls more a h = scope_same (length ls) a (scopes bank (ls ++ more)) (scopes bank ls) h (λ i l. scopes_longer ls more i l)

  -- closures and pairs stand for the same when more links are made
  module _ (s : TreeStore) (ls more : List Link) where
    pub closure_kept : (c : Closure) → AroundIn (length ls) c.around → closure_tree bank s (ls ++ more) c ≡ closure_tree bank s ls c
    closure_kept c h = ap (λ o. placed s o c.base c.under (as_read s (tree_of bank c.term))) (scope_kept ls more c.around h)

    pub steps_kept : (c : Closure) → AroundIn (length ls) c.around → closure_steps bank s (ls ++ more) c ≡ closure_steps bank s ls c
    steps_kept c h = ap (λ o. term_steps s.values o (tree_of bank c.term)) (scope_kept ls more c.around h)

    pub pairs_kept : (ps : List Pair) → AllByRecursion (HasPair bank s.variables (length ls)) ps → same_pairs bank s (ls ++ more) ps ≡ same_pairs bank s ls ps
    pairs_kept [] h = refl
    pairs_kept (p ∷ ps) h = rw (closure_kept p.left h.0.left.around, closure_kept p.right h.0.right.around, pairs_kept ps h.1) refl

    pub pairs_steps_kept : (ps : List Pair) → AllByRecursion (HasPair bank s.variables (length ls)) ps → pairs_steps bank s (ls ++ more) ps ≡ pairs_steps bank s ls ps
    pairs_steps_kept [] h = refl
    pairs_steps_kept (p ∷ ps) h = omega (arith, steps_kept p.left h.0.left.around, steps_kept p.right h.0.right.around, pairs_steps_kept ps h.1)

-- what names places that are there does so when more links are made
pub around_more : (m n : ℕ) (a : Around) → m ≤ n → AroundIn m a → AroundIn n a
around_more m n Around.Nothing l h = tt
around_more m n (Around.At p) l h = omega arith

pub closure_more : (bank : Terms) (vs : List TreeVariable) (m n : ℕ) (c : Closure) → m ≤ n → HasClosure bank vs m c → HasClosure bank vs n c
closure_more bank vs m n c l h = record { term = h.term; around = around_more m n c.around l h.around }

pub pairs_more : (bank : Terms) (vs : List TreeVariable) (m n : ℕ) (ps : List Pair) → m ≤ n → AllByRecursion (HasPair bank vs m) ps → AllByRecursion (HasPair bank vs n) ps
pairs_more bank vs m n [] l h = tt
pairs_more bank vs m n (p ∷ ps) l h = (record { left = closure_more bank vs m n p.left l h.0.left; right = closure_more bank vs m n p.right l h.0.right }, pairs_more bank vs m n ps l h.1)

-- one more link
pub links_push : (bank : Terms) (vs : List TreeVariable) (ls : List Link) (l : Link) → AreLinks bank vs ls → HasLink bank vs (length ls) l → AreLinks bank vs (ls ++ l ∷ [])
links_push bank vs ls l made h = record {
  at = λ p m s. elim (slice_get-push ls l m p s) [
    | inl e ↦ made.at p m e
    | inr e ↦ along (λ z. HasLink bank vs p z) e.1 (along (λ z. HasLink bank vs z l) (sym e.0) h)
  ];
}

-- a link that was read
pub link_read : (ls : List Link) (p : ℕ) (d l : Link) → p < length ls → get_or ls p d ≡ l → slice_get ls p ≡ Some l
link_read ls p d l b e = slice_get-get_or ls p d b ∙ ap Some e
