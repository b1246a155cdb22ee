-- Names of new hypotheses.
use Rattle.std.proofs.Common.{◌≡◌, ◌<◌, ◌≤◌, ◌+◌, ◌^◌, ◌∙◌, ℕ, refl, sym, ap, ap₂, arith, true, false, ◌||◌, List, [], ◌∷◌, length, drop, get_or, Result}
use Rattle.std.proofs.Common.{subst as along}
use Rattle.std.proofs.lemmas.List.{drop_more, drop_all, length-map}
use Rattle.std.specs.Prelude.{IfOk, codes}
use Rattle.lq_trees.specs.Tree.{Name, Context, same_name}
use Rattle.lq_trees.specs.Fresh.{is_listed, fresh, fresh_of}
use Rattle.lq_terms.specs.declared.nodes.Hypothesis.{Hypothesis}
use Rattle.lq_terms.specs.declared.nodes.NameId.{NameId}
use Rattle.lq_terms.specs.declared.nodes.NoMemory.{NoMemory}
use Rattle.lq_terms.specs.Terms.{Terms, IsName, Grows, text_of}
use Rattle.lq_terms.specs.Contexts.{HasContext, context_of}
use Rattle.lq_evars.proofs.Growing.{context_grown}
use Rattle.lq_solving.specs.Stores.{names_in}
use Rattle.lq_solving.proofs.FreshLaws.{fresh_of_new}
use Rattle.lq_tactics.specs.Primitives.{or_h}

-- ---- whether a name is used, as far as was looked

-- the names that are left
abbrev pub left_names : Terms → List Hypothesis → ℕ → List Name
left_names bank hs i = names_in (context_of bank (drop i hs))

next_name : (bank : Terms) (hs : List Hypothesis) (i : ℕ) (d : Hypothesis) → i < length hs → left_names bank hs i ≡ text_of bank (get_or hs i d).name ∷ left_names bank hs (i + 1)
next_name bank hs i d l = ap (λ z. names_in (context_of bank z)) (drop_more hs i d l)

next_listed : (y : Name) (ys : List Name) (x : Name) → is_listed (y ∷ ys) x ≡ (same_name y x || is_listed ys x)
unfolding is_listed
next_listed y ys x = refl

none_listed : (x : Name) → is_listed [] x ≡ false
unfolding is_listed
none_listed x = refl

module _ (bank : Terms) (hs : List Hypothesis) (i : ℕ) (d : Hypothesis) (x : Name) where
  step : i < length hs → is_listed (left_names bank hs i) x ≡ (same_name (text_of bank (get_or hs i d).name) x || is_listed (left_names bank hs (i + 1)) x)
  step l = ap (λ z. is_listed z x) (next_name bank hs i d l) ∙ next_listed (text_of bank (get_or hs i d).name) (left_names bank hs (i + 1)) x

  pub used_here : i < length hs → same_name (text_of bank (get_or hs i d).name) x ≡ true → is_listed (names_in (context_of bank hs)) x ≡ is_listed (left_names bank hs i) x → true ≡ is_listed (names_in (context_of bank hs)) x
  used_here l e so_far = sym (so_far ∙ step l ∙ ap (λ b. b || is_listed (left_names bank hs (i + 1)) x) e)

  pub used_later : i < length hs → same_name (text_of bank (get_or hs i d).name) x ≡ false → is_listed (names_in (context_of bank hs)) x ≡ is_listed (left_names bank hs i) x →
      is_listed (names_in (context_of bank hs)) x ≡ is_listed (left_names bank hs (i + 1)) x
  used_later l e so_far = so_far ∙ step l ∙ ap (λ b. b || is_listed (left_names bank hs (i + 1)) x) e

  pub used_nowhere : length hs ≤ i → is_listed (names_in (context_of bank hs)) x ≡ is_listed (left_names bank hs i) x → false ≡ is_listed (names_in (context_of bank hs)) x
  used_nowhere l so_far =
      let nothing : drop i hs ≡ [] = drop_all i hs l in
      sym (so_far ∙ ap (λ z. is_listed (names_in (context_of bank z)) x) nothing ∙ none_listed x)

-- ---- the base

pub base_empty : (t : Name) → length t ≡ 0 → codes "H" ≡ or_h t
unfolding or_h
base_empty [] e = refl
base_empty (b ∷ bs) e = absurd (omega (arith, e))

pub base_named : (t : Name) → (length t ≡ 0 → ⊥) → t ≡ or_h t
unfolding or_h
base_named [] f = absurd (f refl)
base_named (b ∷ bs) f = refl

fresh_based : (g : Context) (t : Name) → fresh g (or_h t) ≡ fresh_of (names_in g) (or_h t)
unfolding or_h fresh
fresh_based g [] = refl
fresh_based g (b ∷ bs) = refl

pub fresh_is : (old mid new : Terms) → Grows old mid → (hs : List Hypothesis) → HasContext old hs → (base : NameId) (t : Name) → text_of mid base ≡ or_h t → (r : Result NameId NoMemory) →
    IfOk r (λ x. IsName new x (fresh (context_of mid hs) (text_of mid base))) → IfOk r (λ x. IsName new x (fresh_of (names_in (context_of old hs)) (or_h t)))
fresh_is old mid new g hs h base t e r k =
    along (λ (z : Name). IfOk r (λ x. IsName new x z)) (ap₂ (λ a b. fresh a b) (context_grown old mid g hs h).0 e ∙ fresh_based (context_of old hs) t) k

-- so the name is a new one
pub fresh_unlisted : (g : Context) (t : Name) → length g < 10 ^ 64 → is_listed (names_in g) (fresh_of (names_in g) t) ≡ false
fresh_unlisted g t l = fresh_of_new (names_in g) t (along (λ n. n < 10 ^ 64) (sym (length-map g (λ h. h.name))) l)
