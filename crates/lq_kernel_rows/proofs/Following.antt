-- What the looks at an offered family find.
use Rattle.std.proofs.Common.{◌≡◌, ◌+◌, ◌<◌, ◌≤◌, ℕ, refl, sym, ap, subst, false, List, ◌∷◌, map, length, get_or, drop, None}
use Rattle.std.proofs.lemmas.List.{drop_more, drop_all}
use Rattle.std.specs.Prelude.{option_map}
use Rattle.lq_trees.specs.Tree.{Name}
use Rattle.lq_trees.specs.Index.{Within}
use Rattle.lq_trees.specs.Fresh.{is_listed}
use Rattle.lq_terms.specs.declared.nodes.NameId.{NameId}
use Rattle.lq_terms.specs.declared.nodes.Hypothesis.{Hypothesis}
use Rattle.lq_terms.specs.Terms.{Terms, text_of, tree_of}
use Rattle.lq_terms.specs.Contexts.{context_of}
use Rattle.lq_kernel_rows.specs.Following.{Follows}

-- one hypothesis more
pub follows_step :
    (bank : Terms) (ns ds new : List NameId) (hs : List Hypothesis) (i : ℕ) (d : Hypothesis) (after : List Name) → ds ≡ ns → new ≡ (get_or hs i d).name ∷ ns → i < length hs → (get_or hs i d).body ≡ None
    → is_listed (map (text_of bank) ds) (text_of bank (get_or hs i d).name) ≡ false → Within 0 (tree_of bank (get_or hs i d).kind) → Follows (map (text_of bank) new) (context_of bank (drop (i + 1) hs)) after
    → Follows (map (text_of bank) ns) (context_of bank (drop i hs)) after
follows_step bank ns ds new hs i d after e g l b u w r =
    let u2 = subst (λ z. is_listed (map (text_of bank) z) (text_of bank (get_or hs i d).name) ≡ false) e u in
    let r2 = subst (λ z. Follows (map (text_of bank) z) (context_of bank (drop (i + 1) hs)) after) g r in
    subst (λ ks. Follows (map (text_of bank) ns) (context_of bank ks) after) (sym (drop_more hs i d l))
    ((record { new = u2; bodiless = ap (option_map (tree_of bank)) b; within = w }, r2.0), r2.1)

pub follows_end : (bank : Terms) (names : List Name) (hs : List Hypothesis) (i : ℕ) → length hs ≤ i → Follows names (context_of bank (drop i hs)) names
follows_end bank names hs i l = subst (λ ks. Follows names (context_of bank ks) names) (sym (drop_all i hs l)) (tt, refl)
