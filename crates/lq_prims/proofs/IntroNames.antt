-- The name that `intro` gives.
use Rattle.std.proofs.Common.{◌≡◌, ◌<◌, ◌^◌, ◌∙◌, ℕ, refl, sym, ap, arith, Bool, true, false, List, length, Option, Some, None}
use Rattle.std.proofs.lemmas.List.{length-map}
use Rattle.lq_trees.specs.Tree.{Name, Context}
use Rattle.lq_trees.specs.Fresh.{is_listed, fresh_of}
use Rattle.lq_trees.specs.Ticks.{gives, fails}
use Rattle.lq_terms.specs.declared.nodes.Hypothesis.{Hypothesis}
use Rattle.lq_terms.specs.declared.nodes.NameId.{NameId}
use Rattle.lq_terms.specs.Terms.{Terms, HasName, text_of}
use Rattle.lq_terms.specs.Contexts.{context_of, hypothesis_of}
use Rattle.lq_solving.specs.Stores.{names_in}
use Rattle.lq_tactics.specs.Rows.{Doing, Scene, unused, used_name}
use Rattle.lq_tactics.specs.Primitives.{intro_name, or_h}
use Rattle.lq_prims.specs.declared.faults.PrimFault.{PrimFault}
use Rattle.lq_prims.specs.Working.{Refuses}
use Rattle.lq_prims.proofs.NameLaws.{fresh_unlisted}
use Rattle.lq_prims.proofs.WorkLaws.{refuses_at_once}

pub fresh_named : (c : Scene) (g : Context) (w : Option Name) (b x : Name) → c.context ≡ g → w ≡ None → x ≡ fresh_of (names_in g) (or_h b) → intro_name c w b ≡ gives x
unfolding intro_name
fresh_named c g w b x e n is = ap (λ z. intro_name c z b) n ∙ ap (λ z. gives (fresh_of (names_in z) (or_h b))) e ∙ ap gives (sym is)

pub unused_at : (c : Scene) (x : Name) (o : Bool) → is_listed (names_in c.context) x ≡ o → unused c x ≡ elim o as (λ z. Doing Name) [ true ↦ fails (used_name x) | false ↦ gives x ]
unfolding unused
unused_at c x o e = ap (λ b. elim b as (λ z. Doing Name) [ true ↦ fails (used_name x) | false ↦ gives x ]) e

pub written_free : (c : Scene) (g : Context) (w : Option Name) (b x : Name) → c.context ≡ g → w ≡ Some x → is_listed (names_in g) x ≡ false → intro_name c w b ≡ gives x
unfolding intro_name
written_free c g w b x e n f = ap (λ z. intro_name c z b) n ∙ unused_at c x false (ap (λ z. is_listed (names_in z) x) e ∙ f)

written_taken : (c : Scene) (g : Context) (w : Option Name) (b x : Name) → c.context ≡ g → w ≡ Some x → is_listed (names_in g) x ≡ true → intro_name c w b ≡ fails (used_name x)
unfolding intro_name
written_taken c g w b x e n f = ap (λ z. intro_name c z b) n ∙ unused_at c x true (ap (λ z. is_listed (names_in z) x) e ∙ f)

pub written_used : (bank : Terms) (c : Scene) (g : Context) (w : Option Name) (b : Name) (x : NameId) → c.context ≡ g → w ≡ Some (text_of bank x) → HasName bank x → is_listed (names_in g) (text_of bank x) ≡ true → (m : ℕ) →
    Refuses bank (PrimFault.NameInUse x) (λ n. intro_name c w b) m m
written_used bank c g w b x e n has f m = refuses_at_once bank (PrimFault.NameInUse x) (used_name (text_of bank x)) (intro_name c w b) (has, refl) (written_taken c g w b (text_of bank x) e n f) m

pub count_fresh : (bank : Terms) (hs : List Hypothesis) (count : ℕ) (b x : Name) → count ≡ length hs → count < 2 ^ 64 → x ≡ fresh_of (names_in (context_of bank hs)) (or_h b) → is_listed (names_in (context_of bank hs)) x ≡ false
count_fresh bank hs count b x e l is =
    ap (is_listed (names_in (context_of bank hs))) is ∙ fresh_unlisted (context_of bank hs) (or_h b) (few (length (context_of bank hs)) (sym (length-map hs (hypothesis_of bank))))
  where
    few : (m : ℕ) → length hs ≡ m → m < 10 ^ 64
    few m q = omega (arith, e, l, q)

-- a written name alone
pub name_free : (c : Scene) (g : Context) (x : Name) → c.context ≡ g → is_listed (names_in g) x ≡ false → unused c x ≡ gives x
name_free c g x e f = unused_at c x false (ap (λ z. is_listed (names_in z) x) e ∙ f)

pub name_used : (bank : Terms) (c : Scene) (g : Context) (x : NameId) → c.context ≡ g → HasName bank x → is_listed (names_in g) (text_of bank x) ≡ true → (m : ℕ) →
    Refuses bank (PrimFault.NameInUse x) (λ n. unused c (text_of bank x)) m m
name_used bank c g x e has f m =
    refuses_at_once bank (PrimFault.NameInUse x) (used_name (text_of bank x)) (unused c (text_of bank x)) (has, refl) (unused_at c (text_of bank x) true (ap (λ z. is_listed (names_in z) (text_of bank x)) e ∙ f)) m
