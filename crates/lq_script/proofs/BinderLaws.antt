-- The names of printed binders, and what keeps them.
use Rattle.std.proofs.Common.{◌≡◌, ◌∙◌, refl, sym, ap, ℕ, zero, suc, ◌+◌, ◌-◌, ◌<◌, ◌≤◌, List, [], ◌∷◌, ◌++◌, map, length, get_or, Some, None, arith}
use Rattle.std.specs.Prelude.{reverse, option_map}
use Rattle.std.specs.List.{slice_get, AllByRecursion}
use Rattle.std.proofs.lemmas.List.{reverse-append, length-reverse, length-map, get_or-reverse, map-append}
use Rattle.std.proofs.lemmas.Grind.{reverse_onto}
use Rattle.std.proofs.lemmas.Option.{slice_get-map, slice_get-get_or, slice_get_past}
use Rattle.lq_trees.specs.Fresh.{fresh_of}
use Rattle.lq_terms.specs.declared.nodes.NameId.{NameId}
use Rattle.lq_terms.specs.declared.nodes.TermId.{TermId}
use Rattle.lq_terms.specs.Terms.{Terms, HasName, HasTerm, IsName, text_of, tree_of, Grows}
use Rattle.lq_terms.proofs.FreshNames.{names-grown}
use Rattle.lq_output.specs.Printing.{names_in, own_name, printed_name, text_under}
use Rattle.lq_script.specs.Binders.{binders_of}

map-reverse : {A B : Type 0} (f : A → B) (xs : List A) → map f (reverse xs) ≡ reverse (map f xs)
map-reverse f [] = refl
map-reverse f (x ∷ xs) = rw (reverse_onto xs x [], map-append f (reverse xs) (x ∷ []), map-reverse f xs) (sym (reverse_onto (map f xs) (f x) []))

module _ (N : NameId → Type 0) where
  pub all-append : (xs ys : List NameId) → AllByRecursion N xs → AllByRecursion N ys → AllByRecursion N (xs ++ ys)
  all-append [] ys h k = k
  all-append (x ∷ xs) ys h k = (h.0, all-append xs ys h.1 k)

  pub all-push : (xs : List NameId) (x : NameId) → AllByRecursion N xs → N x → AllByRecursion N (xs ++ x ∷ [])
  all-push xs x h k = all-append xs (x ∷ []) h (k, tt)

  pub all-reverse : (xs : List NameId) → AllByRecursion N xs → AllByRecursion N (reverse xs)
  all-reverse [] h = tt
  all-reverse (x ∷ xs) h = rw (reverse_onto xs x []) (all-push (reverse xs) x (all-reverse xs h.1) h.0)

  pub all-at : (xs : List NameId) (i : ℕ) (d : NameId) → AllByRecursion N xs → i < length xs → N (get_or xs i d)
  all-at [] i d h l = absurd (omega arith)
  all-at (x ∷ xs) zero d h l = h.0
  all-at (x ∷ xs) (suc i) d h l = all-at xs i d h.1 (omega arith)

-- they mean the same in a bank that has grown
pub binders-grown : (old new : Terms) (xs : List NameId) → Grows old new → AllByRecursion (HasName old) xs → binders_of new xs ≡ binders_of old xs
binders-grown old new xs g h = map-reverse (text_of new) xs ∙ ap reverse (names-grown old new xs g h) ∙ sym (map-reverse (text_of old) xs)

-- one more binder is the nearest
pub binders-push : (bank : Terms) (xs : List NameId) (x : NameId) → binders_of bank (xs ++ x ∷ []) ≡ text_of bank x ∷ binders_of bank xs
binders-push bank xs x = ap (map (text_of bank)) (reverse-append xs (x ∷ []))

-- the binder of a number, counted from the end, and none
pub binder_at : (bank : Terms) (xs : List NameId) (i place : ℕ) (d : NameId) → place + (i + 1) ≡ length xs → slice_get (binders_of bank xs) i ≡ Some (text_of bank (get_or xs place d))
binder_at bank xs i place d e =
    let within : i < length xs = omega arith in
    let reversed : i < length (reverse xs) = omega (arith, length-reverse xs) in
    let there : length xs - 1 - i ≡ place = omega arith in
    slice_get-map (text_of bank) (reverse xs) i
    ∙ ap (option_map (text_of bank)) (slice_get-get_or (reverse xs) i d reversed ∙ ap Some (get_or-reverse xs i d within ∙ ap (λ k. get_or xs k d) there))

pub binder_past : (bank : Terms) (xs : List NameId) (i : ℕ) → length xs ≤ i → slice_get (binders_of bank xs) i ≡ None
binder_past bank xs i l = slice_get_past (binders_of bank xs) i (omega (arith, length-map (reverse xs) (text_of bank), length-reverse xs))

-- a term's text in a bank that has grown
pub text-grown :
    (old new : Terms) (xs : List NameId) (t : TermId) → Grows old new → AllByRecursion (HasName old) xs → HasTerm old t
    → text_under (binders_of new xs) (tree_of new t) ≡ text_under (binders_of old xs) (tree_of old t)
text-grown old new xs t g h k = rw (binders-grown old new xs g h, g.tree t k)

-- the printed name, by the names that are taken
pub name_printed :
    (old mid new : Terms) (xs taken : List NameId) (binder own y : NameId) (rest : TermId)
    → AllByRecursion (HasName old) xs → HasTerm old rest → Grows old mid
    → IsName mid own (own_name (text_of old binder))
    → map (text_of mid) taken ≡ names_in (tree_of mid rest) ++ binders_of mid xs
    → IsName new y (fresh_of (map (text_of mid) taken) (text_of mid own))
    → IsName new y (printed_name (binders_of old xs) (text_of old binder) (tree_of old rest))
unfolding printed_name
name_printed old mid new xs taken binder own y rest h k g base texts named = record {
  has = named.has;
  is =
      named.is
      ∙ ap (λ ts. fresh_of ts (text_of mid own)) (texts ∙ ap (λ t. names_in t ++ binders_of mid xs) (g.tree rest k) ∙ ap (λ bs. names_in (tree_of old rest) ++ bs) (binders-grown old mid xs g h))
      ∙ ap (fresh_of (names_in (tree_of old rest) ++ binders_of old xs)) base.is;
}
