-- What names stand for outermost, entry by entry from the last to the first.
use Rattle.std.proofs.Common.{◌≡◌, ◌≤◌, ◌<◌, ◌-◌, ◌∙◌, ℕ, zero, suc, true, false, refl, sym, ap, arith, List, [], ◌∷◌, length, get_or, drop, Option, Some, None, if◌then◌else◌}
use Rattle.std.proofs.Common.{subst as along}
use Rattle.std.specs.List.{AllByRecursion}
use Rattle.std.proofs.lemmas.List.{drop_more}
use Rattle.lq_trees.specs.Tree.{Name, Context, Hypothesis as TreeHypothesis, same_name, value_of}
use Rattle.lq_calculus.specs.Contraction.{hypothesis}
use Rattle.lq_terms.specs.declared.nodes.NameId.{NameId}
use Rattle.lq_terms.specs.declared.nodes.Hypothesis.{Hypothesis}
use Rattle.lq_terms.specs.declared.nodes.TermId.{TermId}
use Rattle.lq_terms.specs.Terms.{Terms, HasName, text_of}
use Rattle.lq_terms.specs.Contexts.{HasAllOf, HasContext, hypothesis_of, context_of}
use Rattle.lq_solving.specs.Elaboration.{Given as TreeGiven, Givens}
use Rattle.lq_solving.proofs.InstanceLaws.{is_same, same_flip}
use Rattle.lq_elab.specs.declared.scope.Meaning.{Meaning}
use Rattle.lq_elab.specs.declared.sites.Given.{Given}
use Rattle.lq_elab.specs.declared.sites.Site.{Site}
use Rattle.lq_elab.specs.Naming as tree
use Rattle.lq_elab.specs.Frames.{spot_of}
use Rattle.lq_elab.specs.Naming.{meaning, bound_or, outer_meaning, meaning_if, meaning_of_name, meaning_of_value, value_or}
use Rattle.lq_elab.specs.Scopes.{IsScope, HasMeaning, meaning_of}
use Rattle.lq_elab.specs.Starting.{named_hypothesis, named_value, not_global}
use Rattle.lq_elab.specs.States.{HasGiven, given_of, givens_of, site_of}
use Rattle.lq_elab.proofs.ScopeLaws.{scope_same}

pub all_at : {A : Type 0} (P : A → Type 0) (xs : List A) (k : ℕ) (d : A) → AllByRecursion P xs → k < length xs → P (get_or xs k d)
all_at P [] k d h i = absurd (omega (arith, i))
all_at P (x ∷ xs) zero d h i = h.0
all_at P (x ∷ xs) (suc k) d h i = all_at P xs k d h.1 (omega (arith, i))

-- the rest of a list from one place before
module _ {A : Type 0} (xs : List A) (i : ℕ) (d : A) (some : 0 < i) (within : i ≤ length xs) where
  pub one_before : drop (i - 1) xs ≡ get_or xs (i - 1) d ∷ drop i xs
  one_before = drop_more xs (i - 1) d (omega (arith, some, within)) ∙ ap (λ k. get_or xs (i - 1) d ∷ drop k xs) (omega (arith, some))

-- one hypothesis ahead of others
hypothesis_here : (h : TreeHypothesis) (g : Context) → named_hypothesis (h ∷ g) h.name ≡ Some (tree.variable h.name h.kind)
unfolding hypothesis meaning_if
hypothesis_here h g = ap (λ b. meaning_if (elim b as (λ z. Option TreeHypothesis) [ true ↦ Some h | false ↦ hypothesis g h.name ])) (is_same h.name)

hypothesis_others : (h : TreeHypothesis) (g : Context) (z : Name) → same_name h.name z ≡ false → named_hypothesis (h ∷ g) z ≡ named_hypothesis g z
unfolding hypothesis meaning_if
hypothesis_others h g z e = ap (λ b. meaning_if (elim b as (λ z. Option TreeHypothesis) [ true ↦ Some h | false ↦ hypothesis g z ])) e

module _ (bank : Terms) (hs : List Hypothesis) (i : ℕ) (d : Hypothesis) (some : 0 < i) (within : i ≤ length hs) where
  pub hypothesis_added : meaning_of bank (Meaning.Variable (get_or hs (i - 1) d).name (get_or hs (i - 1) d).kind) ≡ named_hypothesis (context_of bank (drop (i - 1) hs)) (text_of bank (get_or hs (i - 1) d).name)
  hypothesis_added =
      sym (hypothesis_here (hypothesis_of bank (get_or hs (i - 1) d)) (context_of bank (drop i hs)))
      ∙ sym (ap (λ z. named_hypothesis (context_of bank z) (text_of bank (get_or hs (i - 1) d).name)) (one_before hs i d some within))

  pub hypothesis_stays : (z : Name) → same_name (text_of bank (get_or hs (i - 1) d).name) z ≡ false → named_hypothesis (context_of bank (drop (i - 1) hs)) z ≡ named_hypothesis (context_of bank (drop i hs)) z
  hypothesis_stays z e = ap (λ l. named_hypothesis (context_of bank l) z) (one_before hs i d some within) ∙ hypothesis_others (hypothesis_of bank (get_or hs (i - 1) d)) (context_of bank (drop i hs)) z e

  pub hypothesis_at : HasContext bank hs → HasAllOf bank (get_or hs (i - 1) d)
  hypothesis_at h = all_at (HasAllOf bank) hs (i - 1) d h (omega (arith, some, within))

-- none is there at first, all are there at last
pub none_named : (bank : Terms) (hs : List Hypothesis) (n : ℕ) (es : List (NameId × Meaning)) → n ≡ length hs → IsScope bank (λ x. None) es → IsScope bank (named_hypothesis (context_of bank (drop n hs))) es
unfolding hypothesis meaning_if
none_named bank hs n es e h = along (λ l. IsScope bank (named_hypothesis (context_of bank l)) es) (sym (dropped hs n e)) (scope_same bank (λ x. None) (named_hypothesis []) es (λ z. refl) h)
  where
    dropped : (xs : List Hypothesis) (k : ℕ) → k ≡ length xs → drop k xs ≡ []
    dropped [] k q = along (λ z. drop {A = Hypothesis} z [] ≡ []) (sym q) refl
    dropped (x ∷ xs) zero q = absurd (omega (arith, q))
    dropped (x ∷ xs) (suc k) q = dropped xs k (omega (arith, q))

-- ---- values

value_here : (g : Context) (x : Name) (v : TreeGiven) (vs : Givens) → named_value g ((x, v) ∷ vs) x ≡ Some (meaning_of_value g v)
unfolding value_or
value_here g x v vs = ap (λ b. value_or g (if b then Some v else value_of vs x) (hypothesis g x)) (is_same x)

value_others : (g : Context) (x : Name) (v : TreeGiven) (vs : Givens) (z : Name) → same_name x z ≡ false → named_value g ((x, v) ∷ vs) z ≡ named_value g vs z
unfolding value_or
value_others g x v vs z e = ap (λ b. value_or g (if b then Some v else value_of vs z) (hypothesis g z)) (same_flip z x ∙ e)

module _ (bank : Terms) (g : Context) (vs : List (NameId × Given)) (i : ℕ) (d : NameId × Given) (some : 0 < i) (within : i ≤ length vs) where
  pub value_added : (m : Meaning) → meaning_of bank m ≡ Some (meaning_of_value g (given_of bank (get_or vs (i - 1) d).1)) → meaning_of bank m ≡ named_value g (givens_of bank (drop (i - 1) vs)) (text_of bank (get_or vs (i - 1) d).0)
  value_added m e =
      e ∙ sym (value_here g (text_of bank (get_or vs (i - 1) d).0) (given_of bank (get_or vs (i - 1) d).1) (givens_of bank (drop i vs)))
      ∙ sym (ap (λ l. named_value g (givens_of bank l) (text_of bank (get_or vs (i - 1) d).0)) (one_before vs i d some within))

  pub value_stays : (z : Name) → same_name (text_of bank (get_or vs (i - 1) d).0) z ≡ false → named_value g (givens_of bank (drop (i - 1) vs)) z ≡ named_value g (givens_of bank (drop i vs)) z
  value_stays z e =
      ap (λ l. named_value g (givens_of bank l) z) (one_before vs i d some within)
      ∙ value_others g (text_of bank (get_or vs (i - 1) d).0) (given_of bank (get_or vs (i - 1) d).1) (givens_of bank (drop i vs)) z e

  pub value_at : AllByRecursion (HasGiven bank) vs → HasGiven bank (get_or vs (i - 1) d)
  value_at h = all_at (HasGiven bank) vs (i - 1) d h (omega (arith, some, within))

-- the name of a value that the bank has
pub given_name_at : (bank : Terms) (v : NameId × Given) → HasGiven bank v → HasName bank v.0
given_name_at bank (x, Given.Term t) h = h.0
given_name_at bank (x, Given.Name y) h = h.0
given_name_at bank (x, Given.Other) h = h

pub no_values : (bank : Terms) (g : Context) (vs : List (NameId × Given)) (n : ℕ) (es : List (NameId × Meaning)) → n ≡ length vs → IsScope bank (named_hypothesis g) es → IsScope bank (named_value g (givens_of bank (drop n vs))) es
unfolding value_or
no_values bank g vs n es e h = along (λ l. IsScope bank (named_value g (givens_of bank l)) es) (sym (dropped vs n e)) (scope_same bank (named_hypothesis g) (named_value g []) es (λ z. refl) h)
  where
    dropped : (xs : List (NameId × Given)) (k : ℕ) → k ≡ length xs → drop k xs ≡ []
    dropped [] k q = along (λ z. drop {A = NameId × Given} z [] ≡ []) (sym q) refl
    dropped (x ∷ xs) zero q = absurd (omega (arith, q))
    dropped (x ∷ xs) (suc k) q = dropped xs k (omega (arith, q))

-- a name that is a value: the hypothesis, or nothing
pub hypothesis_or_nothing : (bank : Terms) (m : Meaning) (o : Option TreeHypothesis) → meaning_of bank m ≡ meaning_if o → meaning_of bank (not_global m) ≡ Some (meaning_of_name o)
unfolding meaning_if meaning_of_name
hypothesis_or_nothing bank (Meaning.Variable y K) (Some h) e = e
hypothesis_or_nothing bank (Meaning.Variable y K) None e = absurd (grind (arith, e))
hypothesis_or_nothing bank (Meaning.Value t) (Some h) e = absurd (grind (arith, e))
hypothesis_or_nothing bank (Meaning.Value t) None e = absurd (grind (arith, e))
hypothesis_or_nothing bank Meaning.Nothing (Some h) e = absurd (grind (arith, e))
hypothesis_or_nothing bank Meaning.Nothing None e = refl
hypothesis_or_nothing bank Meaning.NoTerm (Some h) e = absurd (grind (arith, e))
hypothesis_or_nothing bank Meaning.NoTerm None e = absurd (grind (arith, e))
hypothesis_or_nothing bank Meaning.Global (Some h) e = absurd (grind (arith, e))
hypothesis_or_nothing bank Meaning.Global None e = refl

pub has_not_global : (bank : Terms) (m : Meaning) → HasMeaning bank m → HasMeaning bank (not_global m)
has_not_global bank (Meaning.Variable y K) h = h
has_not_global bank (Meaning.Value t) h = h
has_not_global bank Meaning.Nothing h = tt
has_not_global bank Meaning.NoTerm h = tt
has_not_global bank Meaning.Global h = tt

-- what a value stands for
pub given_term_is : (bank : Terms) (g : Context) (v : Given) (t : TermId) → v ≡ Given.Term t → meaning_of bank (Meaning.Value t) ≡ Some (meaning_of_value g (given_of bank v))
unfolding meaning_of_value
given_term_is bank g v t e = ap (λ z. Some (meaning_of_value g (given_of bank z))) (sym e)

pub given_name_is : (bank : Terms) (g : Context) (v : Given) (y : NameId) (m : Meaning) → v ≡ Given.Name y → meaning_of bank m ≡ Some (meaning_of_name (hypothesis g (text_of bank y))) → meaning_of bank m ≡ Some (meaning_of_value g (given_of bank v))
unfolding meaning_of_value
given_name_is bank g v y m e h = h ∙ ap (λ z. Some (meaning_of_value g (given_of bank z))) (sym e)

pub given_other_is : (bank : Terms) (g : Context) (v : Given) → v ≡ Given.Other → meaning_of bank Meaning.NoTerm ≡ Some (meaning_of_value g (given_of bank v))
unfolding meaning_of_value
given_other_is bank g v e = ap (λ z. Some (meaning_of_value g (given_of bank z))) (sym e)

-- that is the scope outermost
pub outermost_is : (bank : Terms) (c : Site) (hs : List Hypothesis) (es : List (NameId × Meaning)) → hs ≡ c.outer.now → IsScope bank (named_value (context_of bank hs) (givens_of bank c.values.now)) es → IsScope bank (meaning (site_of bank c) (spot_of bank c.outer.now [])) es
unfolding meaning bound_or outer_meaning
outermost_is bank c hs es e h =
    scope_same bank (named_value (context_of bank c.outer.now) (givens_of bank c.values.now)) (meaning (site_of bank c) (spot_of bank c.outer.now [])) es (λ z. refl)
    (along (λ z. IsScope bank (named_value (context_of bank z) (givens_of bank c.values.now)) es) e h)
