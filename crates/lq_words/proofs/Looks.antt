-- What the looks at a family's terms find.
use Rattle.std.proofs.Common.{◌≡◌, ◌+◌, ◌<◌, ◌≤◌, ℕ, zero, suc, refl, sym, ap, subst, arith, false, List, [], ◌∷◌, map, length, get_or, drop, Option, Some, None}
use Rattle.std.proofs.lemmas.List.{drop_more, drop_all}
use Rattle.std.specs.Prelude.{option_map, is_some, insert}
use Rattle.std.specs.List.{AllByRecursion}
use Rattle.lq_trees.specs.Tree.{Name}
use Rattle.lq_trees.specs.Fresh.{is_listed}
use Rattle.lq_terms.specs.declared.nodes.NameId.{NameId}
use Rattle.lq_terms.specs.declared.nodes.TermId.{TermId}
use Rattle.lq_terms.specs.declared.nodes.Hypothesis.{Hypothesis}
use Rattle.lq_terms.specs.Terms.{Terms, HasName, text_of, tree_of}
use Rattle.lq_terms.specs.Contexts.{context_of, HasAllOf, HasContext}
use Rattle.lq_words.specs.Looks.{Stands, Reads}

-- one hypothesis more
pub reads_next :
    (bank : Terms) (names : List Name) (hs : List Hypothesis) (i : ℕ) (d : Hypothesis) (after : List Name) → i < length hs → (get_or hs i d).body ≡ None → is_listed names (text_of bank (get_or hs i d).name) ≡ false
    → Stands names 0 0 (tree_of bank (get_or hs i d).kind) → Reads (text_of bank (get_or hs i d).name ∷ names) (context_of bank (drop (i + 1) hs)) after → Reads names (context_of bank (drop i hs)) after
reads_next bank names hs i d after l b new s r =
    subst (λ ks. Reads names (context_of bank ks) after) (sym (drop_more hs i d l))
    ((record { new = new; bodiless = ap (option_map (tree_of bank)) b; kind = record { within = s.0; holds = s.1 } }, r.0), r.1)

pub reads_end : (bank : Terms) (names : List Name) (hs : List Hypothesis) (i : ℕ) → length hs ≤ i → Reads names (context_of bank (drop i hs)) names
reads_end bank names hs i l = subst (λ ks. Reads names (context_of bank ks) names) (sym (drop_all i hs l)) (tt, refl)

pub no_body : (o : Option TermId) → is_some o ≡ false → o ≡ None
no_body None e = refl
no_body (Some t) e = absurd cc

pub names_in_front : (bank : Terms) (xs ys : List NameId) (x : NameId) → ys ≡ x ∷ xs → AllByRecursion (HasName bank) xs → HasName bank x → AllByRecursion (HasName bank) ys
names_in_front bank xs ys x e h k = subst (AllByRecursion (HasName bank)) (sym e) (k, h)

pub in_front : (xs : List NameId) (x : NameId) → insert xs 0 x ≡ x ∷ xs
in_front xs x = refl

pub context_at : (bank : Terms) (hs : List Hypothesis) (i : ℕ) (d : Hypothesis) → HasContext bank hs → i < length hs → HasAllOf bank (get_or hs i d)
context_at bank [] i d h l = absurd (omega arith)
context_at bank (x ∷ xs) zero d h l = h.0
context_at bank (x ∷ xs) (suc i) d h l = context_at bank xs i d h.1 (omega arith)

pub reads_step :
    (bank : Terms) (ns ds es new : List NameId) (hs : List Hypothesis) (i : ℕ) (d : Hypothesis) (after : List Name) → ds ≡ ns → es ≡ ns → new ≡ (get_or hs i d).name ∷ ns → i < length hs → (get_or hs i d).body ≡ None
    → is_listed (map (text_of bank) ds) (text_of bank (get_or hs i d).name) ≡ false → Stands (map (text_of bank) es) 0 0 (tree_of bank (get_or hs i d).kind) → Reads (map (text_of bank) new) (context_of bank (drop (i + 1) hs)) after
    → Reads (map (text_of bank) ns) (context_of bank (drop i hs)) after
reads_step bank ns ds es new hs i d after e f g l b u s r =
    reads_next bank (map (text_of bank) ns) hs i d after l b (subst (λ z. is_listed (map (text_of bank) z) (text_of bank (get_or hs i d).name) ≡ false) e u)
    (subst (λ z. Stands (map (text_of bank) z) 0 0 (tree_of bank (get_or hs i d).kind)) f s) (subst (λ z. Reads (map (text_of bank) z) (context_of bank (drop (i + 1) hs)) after) g r)
